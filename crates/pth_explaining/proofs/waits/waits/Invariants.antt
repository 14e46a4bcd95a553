use Rattle.std.proofs.Common.{◌≡◌, ◌++◌}
use Rattle.pth_explaining.specs.Waits.{waits_in}
use Rattle.pth_explaining.proofs.waits.waits.Given as goal

abbrev pub invariant-loop-t : goal.invariant-loop-t
invariant-loop-t l = l.waits.items ++ waits_in l.marks l.t-iterator ≡ waits_in l.marks l.fn.places.entries
