use Rattle.pth_cond.proofs.BarrierTables.{kept_emptied}
use Rattle.pth_cond.proofs.barriers.Barriers.withdraw_all.Goals as goal

pub invariant_of-self : goal.invariant_of-self
invariant_of-self c = kept_emptied c.self.inside.barriers c.clear_each.new.barriers c.self.invariant c.clear_each.ensures.long c.clear_each.ensures.changes
