use Rattle.std.proofs.Common.{◌≡◌, ◌++◌, map, take, drop}
use Rattle.pth_cond.specs.Conditions.{all_left}
use Rattle.pth_cond.proofs.conditions.clear_each.Given as goal

abbrev pub invariant-loop-i : goal.invariant-loop-i
invariant-loop-i l = l.conditions ≡ map all_left (take l.i l.initial.conditions) ++ drop l.i l.initial.conditions
