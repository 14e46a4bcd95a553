use Rattle.std.proofs.Common.{◌≡◌, ◌∙◌, ◌-◌, Some, None, ap, to_z-of_z, ℤ, rules}
use Rattle.pth_base.specs.Table.{table}
use Rattle.pth_lock.specs.Objects.{object_named}
use Rattle.pth_lock.specs.Mutexes.{Mutex, mutexes_of, mutex_of, mutex_with, levels_of, mutex_released}
use Rattle.pth_lock.proofs.Ownerships.{within, released_alone, kept_free, mutexes_changed}
use Rattle.pth_lock.proofs.mutexes.Mutexes.release.Goals as goal

pub invariant_of-self : goal.invariant_of-self
invariant_of-self c =
    let none : c.in_ok-owner.owner ≡ None = search rules in
    kept_free c.self.inside.mutexes c.self.inside.sets c.self.invariant c.in_ok-place.place c.in_ok-place.ensures.low
    (Some c.in_ok-place.owner) (ap (table None c.self.inside.mutexes) c.in_ok-place.ensures.named ∙ c.in_ok-place.ensures.known)
    c.args.s.0 (released_alone c.args.s.0 (mutex_of (Some c.in_ok-place.owner)) c.in_ok-owner.ensures.answered)
    c.in_ok-owner.owner c.remove.new.self none c.remove.ensures.long c.remove.ensures.objects

pub returns-then-is_none-clause-changes : goal.returns-then-is_none-clause-changes
returns-then-is_none-clause-changes c =
    let low = within c.self.inside.mutexes _ c.self.invariant c.in_ok-place.place c.in_ok-place.ensures.low in
    rw (← c.self.view_is)
    (mutexes_changed c.self.inside.mutexes c.in_ok-place.place _ (Some c.in_ok-owner.owner) (Some c.in_ok-place.owner) (λ (mutex : Mutex). mutex_with c.args.s.0 (levels_of c.args.s.0 mutex - 1)) low c.in_ok-place.ensures.named c.in_ok-place.ensures.known c.in_ok-owner.ensures.less
    ∙ ap (λ (m : ℤ). mutex_released c.args.s.0 (object_named m) (mutexes_of c.self.inside.mutexes)) (to_z-of_z c.ranges.m))

pub returns-else-is_none-clause-changes : goal.returns-else-is_none-clause-changes
returns-else-is_none-clause-changes c =
    let low = within c.self.inside.mutexes _ c.self.invariant c.in_ok-place.place c.in_ok-place.ensures.low in
    rw (← c.self.view_is)
    (mutexes_changed c.self.inside.mutexes c.in_ok-place.place _ (Some c.in_ok-owner.owner) (Some c.in_ok-place.owner) (λ (mutex : Mutex). mutex_with c.args.s.0 (levels_of c.args.s.0 mutex - 1)) low c.in_ok-place.ensures.named c.in_ok-place.ensures.known c.in_ok-owner.ensures.less
    ∙ ap (λ (m : ℤ). mutex_released c.args.s.0 (object_named m) (mutexes_of c.self.inside.mutexes)) (to_z-of_z c.ranges.m))
