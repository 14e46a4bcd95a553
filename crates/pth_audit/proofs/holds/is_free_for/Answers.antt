use Rattle.pth_audit.proofs.HoldsMaps.{free_of_other}
use Rattle.pth_audit.proofs.holds.is_free_for.Goals as goal

pub returns-else-o-t : goal.returns-else-o-t
returns-else-o-t c = free_of_other c.args.t c.args.owner c.in-Some.o c.in-Some.is c.if-o-t.false
