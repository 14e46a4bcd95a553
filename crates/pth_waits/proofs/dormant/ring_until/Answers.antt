use Rattle.std.proofs.Common.{◌≡◌, ◌∙◌, ℕ, ap, sym, subst, arith, rules, SFits, w64, to_z-of_z}
use Rattle.pth_numbered.specs.Operands.{number}
use Rattle.pth_ring.specs.Rings.{Events, settled_in}
use Rattle.pth_waits.specs.Dormant.{AreFoundPending, after_now}
use Rattle.pth_waits.proofs.Rounding.{all_found, none_settled, ring_stays}
use Rattle.pth_waits.proofs.dormant.ring_until.Goals as goal

pub returns-in-Some-clause-pending : goal.returns-in-Some-clause-pending
returns-in-Some-clause-pending g c = λ s st some.
    let fits : SFits w64 c.args.e = search rules in
    let n = number c.args.e in
    let none : settled_in s.control.events n ≡ 0 = ap (λ (y : Events). settled_in y n) st.control.events ∙ sym (rw (c.rings.ensures, to_z-of_z) at c.settled.ensures) ∙ omega (arith, c.if-settled-gt0.false) in
    let finds = c.round_until.ensures.pending s st in
    ring_stays s c.round_until.result n none (subst (λ (m : ℕ). AreFoundPending s c.round_until.result (s.control.events.rings m)) (rw (c.rings-2.ensures, c.in-Some.is, to_z-of_z) at c.find.ensures.named) finds)

pub returns-in-Some-clause-later : goal.returns-in-Some-clause-later
returns-in-Some-clause-later g c = λ s st pending.
    let fits : SFits w64 c.args.e = search rules in
    let named = rw (c.rings-2.ensures, c.in-Some.is, to_z-of_z) at c.find.ensures.named in
    c.round_until.ensures.later s st (subst (λ (m : ℕ). AreFoundPending s (after_now s.control) (s.control.events.rings m)) (sym named) (all_found s (after_now s.control) _ pending))

pub returns-then-settled-gt0-clause-later : goal.returns-then-settled-gt0-clause-later
returns-then-settled-gt0-clause-later g c = λ s st pending.
    let fits : SFits w64 c.args.e = search rules in
    let n = number c.args.e in
    let none : settled_in s.control.events n ≡ 0 = none_settled s (after_now s.control) n pending in
    let is = rw (c.rings.ensures, to_z-of_z) at c.settled.ensures ∙ ap (λ (y : Events). settled_in y n) (sym st.control.events) ∙ none in
    absurd (omega (arith, c.if-settled-gt0.true, is))
