use Rattle.pth_cond.proofs.EventSeats.{total_end}
use Rattle.pth_cond.proofs.SeatingTables.{left_more, left_end}
use Rattle.pth_cond.proofs.conditions.clear_each.Goals as goal

pub loop-i-preserved : goal.loop-i-preserved
loop-i-preserved c = left_more c.args.conditions.now c.loop-i.conditions c.loop-i.i c.index-conditions-i.result c.clear_at.new.condition c.loop-i-test.true c.loop-i.auto.conditions c.loop-i.invariant c.clear_at.ensures

pub returns-clause-left : goal.returns-clause-left
returns-clause-left c = left_end c.args.conditions.now c.loop-i.conditions c.loop-i.i c.loop-i-test.false c.loop-i.invariant

pub returns-clause-counted : goal.returns-clause-counted
returns-clause-counted c = total_end c.args.conditions.now c.loop-i.conditions c.loop-i.i c.loop-i-test.false c.loop-i.invariant
