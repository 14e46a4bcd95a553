use Rattle.std.proofs.Common.{◌≡◌, ◌++◌, [], drop, take}
use Rattle.pth_explaining.specs.Refusals.{refusal_lines}
use Rattle.pth_explaining.proofs.refusals.add_refusals.Given as goal

abbrev pub invariant-loop-i : goal.invariant-loop-i
invariant-loop-i l =
    l.out ++ refusal_lines (take l.i l.refusals) (drop l.i l.refusals) ≡ l.initial.out ++ refusal_lines [] l.refusals
