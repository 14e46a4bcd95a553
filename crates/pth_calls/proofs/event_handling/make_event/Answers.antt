use Rattle.std.proofs.Common.{◌∙◌, arith, refl, sym, rules, SFits, w64, to_z-of_z}
use Rattle.std.proofs.lemmas.Result.{IfOk-weaker}
use Rattle.pth_ring.specs.Rings.{alone, make_answer}
use Rattle.pth_model.specs.EventHandling.{spec_of}
use Rattle.pth_world.proofs.Frames.{still_frame}
use Rattle.pth_end.proofs.Handled.{if_answered}
use Rattle.pth_calls.proofs.Framing.{rings_frame}
use Rattle.pth_calls.proofs.Making.{event_made, event_refused}
use Rattle.pth_world.specs.Numbering.{Event, one_of}
use Rattle.pth_calls.proofs.event_handling.make_event.Goals as goal

pub make-requires : goal.make-requires
make-requires g c = rw c.rings_mut.ensures.value (let few = c.requires.few Event in omega arith)

pub returns-in_default-clause-frame : goal.returns-in_default-clause-frame
returns-in_default-clause-frame g c = still_frame (one_of Event) c.args.w.now _ refl c.requires.whole

pub returns-in-Ok-clause-frame : goal.returns-in-Ok-clause-frame
returns-in-Ok-clause-frame g c =
    let changes = rw c.rings_mut.ensures.value at c.make.ensures.changes in
    let refused = rw c.rings_mut.ensures.value at c.make.ensures.refused in
    rings_frame c.args.w.now c.requires.whole (one_of Event) c.make.new.self _ c.make.result changes refused (omega arith)

pub returns-in-Err-clause-frame : goal.returns-in-Err-clause-frame
returns-in-Err-clause-frame g c =
    let changes = rw c.rings_mut.ensures.value at c.make.ensures.changes in
    let refused = rw c.rings_mut.ensures.value at c.make.ensures.refused in
    if_answered c.refused.result (rings_frame c.args.w.now c.requires.whole (one_of Event) c.make.new.self _ c.make.result changes refused (omega arith))

pub returns-in-Ok-clause-answered : goal.returns-in-Ok-clause-answered
returns-in-Ok-clause-answered g c =
    let n : SFits w64 c.from.result = search rules in
    let answer = rw c.rings_mut.ensures.value at c.in-Ok.ensures.answer in
    let changes = rw c.rings_mut.ensures.value at c.in-Ok.ensures.changes in
    rw (to_z-of_z, c.from.ensures) (event_made c.args.w.now c.make.new.self c.in-Some.spec (λ x. make_answer x) (λ spec. alone spec) (spec_of c.args.line.now) c.in-Ok.event (sym c.spec_of.ensures ∙ c.in-Some.is) answer changes)

pub returns-in-Err-clause-answered : goal.returns-in-Err-clause-answered
returns-in-Err-clause-answered g c =
    let answer = rw c.rings_mut.ensures.value at c.in-Err.ensures.answer in
    let refused = rw c.rings_mut.ensures.value at c.in-Err.ensures.refused in
    IfOk-weaker c.refused.result _ _ (λ a. event_refused c.args.w.now c.make.new.self c.in-Some.spec (λ x. make_answer x) (λ spec. alone spec) (spec_of c.args.line.now) c.in-Err.refusal a (sym c.spec_of.ensures ∙ c.in-Some.is) answer refused) c.refused.ensures
