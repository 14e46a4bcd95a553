use Rattle.std.proofs.Common.{◌≡◌, ◌++◌}
use Rattle.pth_explaining.specs.Threads.{living_in}
use Rattle.pth_explaining.proofs.threads.living.Given as goal

abbrev pub invariant-loop-t : goal.invariant-loop-t
invariant-loop-t l = l.threads.items ++ living_in l.marks l.t-iterator ≡ living_in l.marks l.fn.places.entries
