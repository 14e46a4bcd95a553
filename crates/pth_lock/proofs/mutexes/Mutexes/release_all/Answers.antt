use Rattle.std.proofs.Common.{ℕ, Bool, ◌∙◌, ap}
use Rattle.pth_lock.proofs.Ownerships.{kept_left, left_is}
use Rattle.pth_lock.proofs.mutexes.Mutexes.release_all.Goals as goal

pub invariant_of-self : goal.invariant_of-self
invariant_of-self c = kept_left c.self.inside.mutexes c.self.inside.sets c.self.invariant _ c.args.s.0 c.take-set.result c.take-set.ensures.set c.free_each.ensures.free c.take-set.new.self c.free_each.ensures.long c.take-set.ensures.long c.take-set.ensures.objects

pub returns-clause-had : goal.returns-clause-had
returns-clause-had c m = rw (← c.self.view_is) (ap (λ (f : ℕ → Bool). f m) c.take-set.ensures.set ∙ c.self.invariant.had c.args.s.0 m)

pub returns-clause-changes : goal.returns-clause-changes
returns-clause-changes c = rw (← c.self.view_is) (left_is c.self.inside.mutexes c.self.inside.sets c.self.invariant _ c.args.s.0 c.take-set.result c.take-set.ensures.set c.free_each.ensures.free)
