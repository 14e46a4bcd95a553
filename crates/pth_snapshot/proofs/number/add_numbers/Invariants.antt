use Rattle.std.proofs.Common.{◌≡◌, ◌++◌, map, take}
use Rattle.pth_snapshot.specs.Dump.{numbers}
use Rattle.pth_snapshot.specs.Numbers.{number_of}
use Rattle.pth_snapshot.proofs.number.add_numbers.Given as goal

abbrev pub invariant-loop-n : goal.invariant-loop-n
invariant-loop-n l = l.out ≡ l.initial.out ++ numbers (map number_of (take l.n-index l.list))
