use Rattle.std.proofs.Common.{◌≡◌, ◌∙◌, true, false, pos, List, ◌++◌, refl, sym, ap, append-nil, rules, SFits, w64, to_z-of_z}
use Rattle.std.proofs.lemmas.Result.{err_from_is_err_and}
use Rattle.pth_base.proofs.Cuts.{cut_none}
use Rattle.pth_base.specs.declared.answer.Answer.TheVariants.{Int, Fail}
use Rattle.pth_base.specs.declared.errno.Errno.TheVariants.{EINVAL}
use Rattle.pth_base.specs.declared.mark.Mark.{Mark}
use Rattle.pth_base.specs.declared.mark.Mark.TheVariants.{Answered}
use Rattle.pth_model.specs.Row.{effect_of}
use Rattle.pth_model.specs.ThreadControl.{yield}
use Rattle.pth_world.proofs.Telling.{quiet-refused}
use Rattle.pth_end.proofs.Answers.{changed_leads}
use Rattle.pth_end.proofs.Framing.{done_frame, quiet_goes}
use Rattle.pth_calls.proofs.Yielding.{yield_begun, yield_refused, quiet-yield}
use Rattle.pth_calls.proofs.thread_control.yield_to.Goals as goal

pub returns-then-not-name_next-clause-goes : goal.returns-then-not-name_next-clause-goes
returns-then-not-name_next-clause-goes g c =
    let f : SFits w64 c.args.to = search rules in
    let isnt : c.name_next.result ≡ false = search rules in
    let verdict = simp (to_z-of_z, isnt) at c.name_next.ensures.verdict in
    let effect = simp to_z-of_z at c.name_next.ensures.effect in
    quiet_goes _ c.args.w.now c.name_next.new.w (λ s. effect_of (yield s c.args.t.0 c.args.to).begin s) (Answered c.args.t c.args.call.now (Fail EINVAL)) (Fail EINVAL) _ _ _ c.done.result
    (λ s st. rw c.requires.call (yield_refused g.P.Program.functions s c.args.t.0 c.args.to (Fail EINVAL) (verdict s st)))
    (λ s st. (let led = effect s st in record { stands = record { control = led.shows; store = led.store }; tells = sym (ap (λ (ms : List Mark). c.args.marks.now ++ ms) led.silent ∙ append-nil _) }))
    (quiet-refused c.args.t c.args.call.now EINVAL (rw c.requires.call refl))
    c.done.ensures.next c.done.ensures.ok c.done.ensures.err

pub returns-clause-goes : goal.returns-clause-goes
returns-clause-goes g c =
    let f : SFits w64 c.args.to = search rules in
    let is : c.name_next.result ≡ true = search rules in
    let verdict = simp (to_z-of_z, is) at c.name_next.ensures.verdict in
    let effect = simp to_z-of_z at c.name_next.ensures.effect in
    record {
      next = λ s st. rw (c.requires.call, yield_begun g.P.Program.functions s c.args.t.0 c.args.to (Int (pos 1)) (verdict s st)) refl;
      leads = λ s st. rw (c.requires.call, yield_begun g.P.Program.functions s c.args.t.0 c.args.to (Int (pos 1)) (verdict s st))
          (changed_leads _ s (effect_of (yield s c.args.t.0 c.args.to).begin) _ _ _ (quiet-yield c.args.t.0 c.args.to) (effect s st) (rw to_z-of_z at c.in_ok-push.ensures.ok));
      cut = tt;
    }

pub returns-then-not-name_next-clause-frame : goal.returns-then-not-name_next-clause-frame
returns-then-not-name_next-clause-frame g c =
    let isnt : c.name_next.result ≡ false = search rules in
    done_frame c.args.w.now c.name_next.new.w c.args.t.0 c.done.result _ c.done.ensures.next (rw isnt at c.name_next.ensures.frame)

pub returns-clause-frame : goal.returns-clause-frame
returns-clause-frame g c =
    let is : c.name_next.result ≡ true = search rules in
    rw is at c.name_next.ensures.frame

pub returns-in_err-push-clause-goes : goal.returns-in_err-push-clause-goes
returns-in_err-push-clause-goes g c =
    let p = err_from_is_err_and c.from_residual.result c.from_residual.ensures.1 in
    rw p.1 (record { next = tt; leads = tt; cut = λ s st. cut_none _ _ _ c.in_err-push.ensures.err })
