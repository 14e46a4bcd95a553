use Rattle.pth_snapshot.proofs.Differences.{Leaves}
use Rattle.pth_snapshot.proofs.difference.same_lines.Given as goal

abbrev pub invariant-loop-i : goal.invariant-loop-i
invariant-loop-i l = Leaves l.a l.b l.i l.lines
