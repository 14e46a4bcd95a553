use Rattle.std.proofs.Common.{◌∙◌, Some, None, ap, to_z-of_z}
use Rattle.pth_lock.specs.Objects.{object_named}
use Rattle.pth_lock.specs.Mutexes.{mutexes_of, mutex_initialised}
use Rattle.pth_lock.proofs.Ownerships.{mutexes_set, within}
use Rattle.pth_lock.proofs.mutexes.Mutexes.init.Goals as goal

pub returns-clause-changes : goal.returns-clause-changes
returns-clause-changes c =
    let named = c.in-Some.ensures.named ∙ ap object_named (to_z-of_z c.ranges.m) in
    let low = within c.self.inside.mutexes _ c.self.invariant c.in-Some.place c.in-Some.ensures.low in
    rw (← c.self.view_is) (mutexes_set c.self.inside.mutexes c.in-Some.place (Some None) low ∙ ap (λ k. mutex_initialised k (mutexes_of c.self.inside.mutexes)) named)
