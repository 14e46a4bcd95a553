use Rattle.pth_store.proofs.Within.{within_is, within_emptied}
use Rattle.pth_store.proofs.cleanups.Cleanups.forget.Goals as goal

pub invariant_of-self : goal.invariant_of-self
invariant_of-self c = within_is c.clear_at.ensures (within_emptied _ c.args.s.0 c.self.invariant)
