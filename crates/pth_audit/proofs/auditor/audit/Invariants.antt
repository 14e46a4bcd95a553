use Rattle.std.proofs.Common.{take}
use Rattle.pth_audit.specs.Auditing.{Follows}
use Rattle.pth_audit.proofs.auditor.audit.Given as goal

abbrev pub invariant-loop-i : goal.invariant-loop-i
invariant-loop-i l = Follows l.auditor (take l.i l.marks)
