use Rattle.std.proofs.Common.{◌∙◌, Some, refl, sym, ap}
use Rattle.std.proofs.lemmas.Result.{on_ok_weaker}
use Rattle.pth_drawing.specs.Drawing.{moved_after}
use Rattle.pth_drawing.specs.States.{dispatched}
use Rattle.pth_drawing.specs.Tracks.{thread_event_of, track_in}
use Rattle.pth_drawing.proofs.Standing.{heard_by}
use Rattle.pth_drawing.proofs.Followed.{over_more, heard_more}
use Rattle.pth_drawing.proofs.drawing.Drawing.add.Goals as goal

pub returns-then-self : goal.returns-then-self
returns-then-self c = λ from turns marks f. over_more c.args.self.now from turns marks c.args.mark.now f c.if-self.true

pub returns-in-Dispatch : goal.returns-in-Dispatch
returns-in-Dispatch c =
    on_ok_weaker c.begin.result (λ begun. begun c.args.mark.now (ap dispatched c.in-Dispatch.is ∙ ap Some (sym c.from.ensures))) c.begin.ensures

pub returns-in-Moved : goal.returns-in-Moved
returns-in-Moved c = λ from turns marks f.
    let d = c.args.self.now in
    heard_more d from turns marks c.args.mark.now f (ap dispatched c.in-Moved.is) c.if-self.false d.sheet (Some c.in-Moved.at)
    (record { count = refl; moments = refl; tracks = λ t. ap (λ o. heard_by t d.sheet.count o (track_in d.sheet.tracks.by_thread t)) (sym (ap thread_event_of c.in-Moved.is)) })
    (sym (ap (moved_after d.moved) c.in-Moved.is))
