use Rattle.std.proofs.Common.{◌≡◌, ◌∙◌, ap, to_z-of_z, ℕ, sym, refl, true, false, None, rules}
use Rattle.pth_base.specs.Table.{table}
use Rattle.pth_lock.specs.Objects.{object_named}
use Rattle.pth_lock.specs.Sets.{is_in_set}
use Rattle.pth_lock.specs.RwLocks.{lock_release_answer, lock_released, left_lock, is_open}
use Rattle.pth_lock.proofs.Holdings.{release_answered, kept_released, shown_released, old}
use Rattle.pth_lock.proofs.rwlocks.RwLocks.release.Goals as goal

pub returns-then-is_open-clause-answer : goal.returns-then-is_open-clause-answer
returns-then-is_open-clause-answer c =
    let nobody : is_open c.in_ok-place.holders true ≡ true = search rules in
    rw (← c.self.view_is)
    (release_answered _ c.in_ok-place.holders _ c.in_ok-place.ensures.known (c.self.invariant.held _) c.args.s.0 true _ nobody refl
    ∙ ap (lock_release_answer (old c.self.inside.locks c.self.inside.sets c.self.invariant) c.args.s.0) (to_z-of_z c.ranges.l))

pub returns-then-not-contains-clause-answer : goal.returns-then-not-contains-clause-answer
returns-then-not-contains-clause-answer c =
    let somebody : is_open c.in_ok-place.holders true ≡ false = search rules in
    let out : is_in_set c.self.inside.sets c.args.s.0 c.in_ok-place.place ≡ false = search rules in
    rw (← c.self.view_is)
    (release_answered _ c.in_ok-place.holders _ c.in_ok-place.ensures.known (c.self.invariant.held _) c.args.s.0 false false somebody (ap (is_in_set c.self.inside.sets c.args.s.0) (sym c.in_ok-place.ensures.named) ∙ out)
    ∙ ap (lock_release_answer (old c.self.inside.locks c.self.inside.sets c.self.invariant) c.args.s.0) (to_z-of_z c.ranges.l))

pub invariant_of-self : goal.invariant_of-self
invariant_of-self c =
    let member : is_in_set c.self.inside.sets c.args.s.0 c.in_ok-place.place ≡ true = search rules in
    let was = ap (table None c.self.inside.locks) c.in_ok-place.ensures.named ∙ c.in_ok-place.ensures.known in
    kept_released c.self.inside.locks c.self.inside.sets c.self.invariant c.in_ok-place.place c.in_ok-place.ensures.low c.args.s.0 c.requires member
    c.left.result (c.left.ensures ∙ ap left_lock (sym was)) c.remove.new.self c.remove.ensures.long c.remove.ensures.objects

pub returns-clause-answer : goal.returns-clause-answer
returns-clause-answer c =
    let somebody : is_open c.in_ok-place.holders true ≡ false = search rules in
    let member : is_in_set c.self.inside.sets c.args.s.0 c.in_ok-place.place ≡ true = search rules in
    rw (← c.self.view_is)
    (release_answered _ c.in_ok-place.holders _ c.in_ok-place.ensures.known (c.self.invariant.held _) c.args.s.0 false true somebody (ap (is_in_set c.self.inside.sets c.args.s.0) (sym c.in_ok-place.ensures.named) ∙ member)
    ∙ ap (lock_release_answer (old c.self.inside.locks c.self.inside.sets c.self.invariant) c.args.s.0) (to_z-of_z c.ranges.l))

pub returns-clause-changes : goal.returns-clause-changes
returns-clause-changes c =
    let member : is_in_set c.self.inside.sets c.args.s.0 c.in_ok-place.place ≡ true = search rules in
    let was = ap (table None c.self.inside.locks) c.in_ok-place.ensures.named ∙ c.in_ok-place.ensures.known in
    let named = c.in_ok-place.ensures.named ∙ ap object_named (to_z-of_z c.ranges.l) in
    rw (← c.self.view_is)
    (shown_released c.self.inside.locks c.self.inside.sets c.self.invariant c.in_ok-place.place c.in_ok-place.ensures.low c.args.s.0 c.requires member
    c.left.result (c.left.ensures ∙ ap left_lock (sym was)) c.remove.new.self c.remove.ensures.long c.remove.ensures.objects
    ∙ ap (λ (k : ℕ). lock_released c.args.s.0 k (old c.self.inside.locks c.self.inside.sets c.self.invariant)) named)
