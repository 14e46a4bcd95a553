use Rattle.std.proofs.Common.{◌≡◌, nat_lt, pos, true, false, refl, sym, rules, SFits, w64, to_z-of_z, arith}
use Rattle.std.proofs.lemmas.Bool.Decides.{nat_tests}
use Rattle.pth_base.specs.declared.call.Call.TheVariants.{Wait}
use Rattle.pth_model.specs.EventHandling.{wait}
use Rattle.pth_model.specs.Resources.{told, answer_told}
use Rattle.pth_model.specs.declared.awaits.Awaits.TheVariants.{Ring}
use Rattle.pth_numbered.specs.Operands.{number}
use Rattle.pth_ring.specs.Rings.{settled_in}
use Rattle.pth_waits.proofs.Attempting.{none_ready, quiet_tries}
use Rattle.pth_waits.proofs.Blocking.{quiet_once}
use Rattle.pth_waits.proofs.ring_waits.wait_again.Goals as goal

pub returns-then-settled-gt0 : goal.returns-then-settled-gt0
unfolding told answer_told
returns-then-settled-gt0 g c =
    let f : SFits w64 c.args.e = search rules in
    let n : SFits w64 (pos c.settled-settled.result) = search rules in
    let w = c.args.w.now in
    let t = c.args.t.0 in
    let settled = rw to_z-of_z at c.settled-settled.ensures in
    let some : nat_lt 0 c.settled-settled.result ≡ true = grind (arith, nat_tests) in
    record {
      tries = λ a. quiet_tries w w t (record { call = Wait c.args.e; awaits = a }) (λ s. (wait s c.args.e).again a) _ (λ s. refl)
          (λ s st. (let is : settled_in s.control.events (number c.args.e) ≡ c.settled-settled.result = sym (rw (st.control.events, ← c.rings.ensures) settled) in rw (is, some, c.from.ensures, to_z-of_z) refl))
          (λ s st. quiet_once w s _ (λ x. refl) st)
          tt
          refl;
    }

pub returns-else-settled-gt0 : goal.returns-else-settled-gt0
returns-else-settled-gt0 g c =
    let f : SFits w64 c.args.e = search rules in
    let w = c.args.w.now in
    let t = c.args.t.0 in
    let settled = rw to_z-of_z at c.settled-settled.ensures in
    let none : nat_lt 0 c.settled-settled.result ≡ false = grind (arith, nat_tests) in
    record {
      tries = λ a. quiet_tries w w t (record { call = Wait c.args.e; awaits = a }) (λ s. (wait s c.args.e).again a) _ (λ s. refl)
          (λ s st. (let is : settled_in s.control.events (number c.args.e) ≡ c.settled-settled.result = sym (rw (st.control.events, ← c.rings.ensures) settled) in rw (is, none, to_z-of_z) refl))
          (λ s st. none_ready w t (Wait c.args.e) (Ring c.args.e) s refl st)
          (simp to_z-of_z)
          refl;
    }
