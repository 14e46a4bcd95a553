use Rattle.pth_audit.proofs.HoldsMaps.{somebody_writes}
use Rattle.pth_audit.proofs.holds.is_unwritten.Goals as goal

pub returns-in-Some : goal.returns-in-Some
returns-in-Some c = somebody_writes c.args.writer c.in-Some.field-0 c.in-Some.is
