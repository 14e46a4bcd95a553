use Rattle.std.proofs.Common.{ℕ, Bool, ◌∙◌, ap, sym}
use Rattle.pth_lock.proofs.Holdings.{holds_is, kept_left, shown_left}
use Rattle.pth_lock.proofs.rwlocks.RwLocks.release_all.Goals as goal

pub invariant_of-self : goal.invariant_of-self
invariant_of-self c = kept_left c.self.inside.locks c.self.inside.sets c.self.invariant _ c.args.s.0 c.take-set.result c.requires c.take-set.ensures.set c.leave_each.ensures.left c.take-set.new.self c.take-set.ensures.objects c.leave_each.ensures.long c.take-set.ensures.long

pub returns-clause-held : goal.returns-clause-held
returns-clause-held c l = rw (← c.self.view_is) (ap (λ (f : ℕ → Bool). f l) c.take-set.ensures.set ∙ sym (holds_is _ _ c.args.s.0 (c.self.invariant.held l)))

pub returns-clause-changes : goal.returns-clause-changes
returns-clause-changes c = rw (← c.self.view_is) (shown_left c.self.inside.locks c.self.inside.sets c.self.invariant _ c.args.s.0 c.take-set.result c.requires c.take-set.ensures.set c.leave_each.ensures.left c.take-set.new.self c.take-set.ensures.objects)
