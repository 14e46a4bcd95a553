use Rattle.std.proofs.Common.{◌≡◌, ◌++◌, drop}
use Rattle.pth_explaining.specs.Whom.{waiters}
use Rattle.pth_explaining.proofs.whom.waiters.Given as goal

abbrev pub invariant-loop-wait : goal.invariant-loop-wait
invariant-loop-wait l = l.found.items ++ waiters l.cause (drop l.wait-index l.waits) ≡ waiters l.cause l.waits
