use Rattle.pth_store.proofs.Within.{within_is, within_popped}
use Rattle.pth_store.proofs.cleanups.Cleanups.pop.Goals as goal

pub invariant_of-self : goal.invariant_of-self
invariant_of-self c = within_is c.pop_at.ensures.changes (within_popped _ c.args.s.0 c.self.invariant)
