use Rattle.std.proofs.Common.{◌≡◌, drop, fold}
use Rattle.pth_explaining.specs.Clocks.{clock_after, clock_of}
use Rattle.pth_explaining.proofs.clock.clock_of.Given as goal

abbrev pub invariant-loop-mark : goal.invariant-loop-mark
invariant-loop-mark l = fold clock_after l.clock (drop l.mark-index l.marks) ≡ clock_of l.marks
