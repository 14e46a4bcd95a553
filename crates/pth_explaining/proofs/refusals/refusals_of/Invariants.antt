use Rattle.std.proofs.Common.{◌≡◌, ◌+◌, ◌++◌, drop}
use Rattle.pth_explaining.specs.Refusals.{refusals_from, refusals_of}
use Rattle.pth_explaining.proofs.refusals.refusals_of.Given as goal

abbrev pub invariant-loop-i : goal.invariant-loop-i
invariant-loop-i l = l.found.items ++ refusals_from (l.i + 1) (drop l.i l.marks) ≡ refusals_of l.marks
