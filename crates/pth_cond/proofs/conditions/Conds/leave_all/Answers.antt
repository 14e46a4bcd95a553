use Rattle.pth_cond.proofs.SeatingTables.{kept_left}
use Rattle.pth_cond.proofs.conditions.Conds.leave_all.Goals as goal

pub invariant_of-self : goal.invariant_of-self
invariant_of-self c = kept_left c.self.inside.conditions c.clear_each.new.conditions c.self.invariant c.clear_each.ensures.long c.clear_each.ensures.left c.clear_each.ensures.counted
