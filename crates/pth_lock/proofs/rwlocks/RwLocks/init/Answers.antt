use Rattle.std.proofs.Common.{◌≡◌, ◌∙◌, ℕ, None, ap, to_z-of_z, rules}
use Rattle.pth_base.specs.Table.{table}
use Rattle.pth_lock.specs.Objects.{object_named}
use Rattle.pth_lock.specs.RwLocks.{lock_initialised}
use Rattle.pth_lock.proofs.Holdings.{kept_init, shown_init, old}
use Rattle.pth_lock.proofs.rwlocks.RwLocks.init.Goals as goal

pub invariant_of-self : goal.invariant_of-self
invariant_of-self c =
    let none : table None c.self.inside.locks c.in-Some.place ≡ None = search rules in
    kept_init c.self.inside.locks c.self.inside.sets c.self.invariant c.in-Some.place c.in-Some.ensures.low none

pub returns-clause-changes : goal.returns-clause-changes
returns-clause-changes c =
    let none : table None c.self.inside.locks c.in-Some.place ≡ None = search rules in
    let named = c.in-Some.ensures.named ∙ ap object_named (to_z-of_z c.ranges.l) in
    rw (← c.self.view_is) (shown_init c.self.inside.locks c.self.inside.sets c.self.invariant c.in-Some.place c.in-Some.ensures.low none ∙ ap (λ (k : ℕ). lock_initialised k (old c.self.inside.locks c.self.inside.sets c.self.invariant)) named)
