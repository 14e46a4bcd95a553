use Rattle.std.proofs.Common.{◌∙◌, refl, sym, ap}
use Rattle.std.proofs.lemmas.Result.{on_ok_weaker}
use Rattle.pth_drawing.specs.Tracks.{track_in}
use Rattle.pth_drawing.proofs.Followed.{heard_more}
use Rattle.pth_drawing.proofs.Standing.{heard_by}
use Rattle.pth_drawing.proofs.drawing.Drawing.hear.Goals as goal

pub returns-in-Some : goal.returns-in-Some
returns-in-Some c =
    let d = c.args.self.now in
    let m = c.args.mark.now in
    on_ok_weaker c.hear.result (λ tracks from turns marks f.
    heard_more d from turns marks m f c.requires.other.begins_none c.requires.going c.hear.new.self d.moved
    (record {
      count = c.hear.ensures.count;
      moments = ap (λ v. v.items) c.hear.ensures.moments;
      tracks = λ t. tracks t ∙ ap (λ o. heard_by t d.sheet.count o (track_in d.sheet.tracks.by_thread t)) (sym c.in-Some.is ∙ c.thread_event_of.ensures);
    })
    (sym (c.requires.other.moves_none d.moved))) c.hear.ensures.tracks

pub returns-in-None : goal.returns-in-None
returns-in-None c = λ from turns marks f.
    let d = c.args.self.now in
    let m = c.args.mark.now in
    heard_more d from turns marks m f c.requires.other.begins_none c.requires.going d.sheet d.moved
    (record { count = refl; moments = refl; tracks = λ t. ap (λ o. heard_by t d.sheet.count o (track_in d.sheet.tracks.by_thread t)) (sym c.in-None.is ∙ c.thread_event_of.ensures) })
    (sym (c.requires.other.moves_none d.moved))
