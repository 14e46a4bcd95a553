use Rattle.std.proofs.Common.{◌≡◌, ◌∙◌, Ok, Err, Some, ap, sym, refl, rules, SFits, w64, to_z-of_z, false}
use Rattle.pth_base.specs.declared.call.Call.TheVariants.{Wait}
use Rattle.pth_model.specs.EventHandling.{wait}
use Rattle.pth_model.specs.declared.awaits.Awaits.TheVariants.{Ring}
use Rattle.pth_numbered.specs.Operands.{number}
use Rattle.pth_ring.specs.Rings.{claim_answer}
use Rattle.pth_end.proofs.Acting.{done_answered, error_answered}
use Rattle.pth_world.proofs.Telling.{has_still}
use Rattle.pth_world.specs.World.{WorldOf}
use Rattle.pth_waits.proofs.Attempting.{claimed_ready, quiet_attempts, refused_ready}
use Rattle.pth_waits.proofs.ring_waits.wait.Goals as goal

pub returns-in-Err-Fail-clause-attempts : goal.returns-in-Err-Fail-clause-attempts
returns-in-Err-Fail-clause-attempts g c =
    let f : SFits w64 c.args.e = search rules in
    let w = c.args.w.now in
    let v = c.claim.new.self in
    let t = c.args.t.0 in
    let errno = c.in-Err-Fail.errno in
    let is = c.in-Err-Fail.is ∙ ap Err c.in-Err-Fail.field-0-is in
    let answer = error_answered _ errno (rw (to_z-of_z, is) at c.claim.ensures.answer) in
    let same = c.claim.ensures.refused errno is in
    quiet_attempts false w v t (Wait c.args.e) (Some c.args.e) (λ s. (wait s c.args.e).begin) _ (λ s. refl)
    (λ s st. (let refused : claim_answer s.control.events (number c.args.e) ≡ Err errno = rw st.control.events (sym answer) in rw refused refl))
    (λ s st. refused_ready v t (Wait c.args.e) (Some c.args.e) errno s refl (rw same st))
    tt

pub returns-in-Ok-clause-attempts : goal.returns-in-Ok-clause-attempts
returns-in-Ok-clause-attempts g c =
    let f : SFits w64 c.args.e = search rules in
    let w = c.args.w.now in
    let v = c.claim.new.self in
    let t = c.args.t.0 in
    let answer = done_answered _ tt (rw (to_z-of_z, c.in-Ok.is) at c.claim.ensures.answer) in
    quiet_attempts false w v t (Wait c.args.e) (Some c.args.e) (λ s. (wait s c.args.e).begin) _ (λ s. refl)
    (λ s st. (let is : claim_answer s.control.events (number c.args.e) ≡ Ok tt = rw st.control.events (sym answer) in rw (is, to_z-of_z) refl))
    (λ s st. claimed_ready v t (Wait c.args.e) (Some c.args.e) (Ring c.args.e) s refl ((rw to_z-of_z at c.in-Ok.ensures.shows) s.control st.control) (has_still w v s (ap (λ (z : WorldOf _ _ _). z.store) c.claim.ensures.same) st.store))
    (simp to_z-of_z)
