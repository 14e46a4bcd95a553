use Rattle.std.proofs.Common.{take}
use Rattle.pth_turns.specs.Judging.{Follows}
use Rattle.pth_turns.proofs.judge.are_in_turns.Given as goal

abbrev pub invariant-loop-mark : goal.invariant-loop-mark
invariant-loop-mark l = Follows l.judge (take l.mark-index l.marks)
