use Rattle.pth_cond.proofs.Seating.{one_set}
use Rattle.pth_cond.proofs.seats.mark_first.Goals as goal

pub returns : goal.returns
returns c = one_set c.args.taken.now c.args.marked _ c.requires.kept.count c.requires.kept.order c.requires.some
