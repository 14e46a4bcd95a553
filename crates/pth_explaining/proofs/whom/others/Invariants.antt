use Rattle.std.proofs.Common.{◌≡◌, ◌++◌, drop}
use Rattle.pth_explaining.specs.Whom.{others}
use Rattle.pth_explaining.proofs.whom.others.Given as goal

abbrev pub invariant-loop-u : goal.invariant-loop-u
invariant-loop-u l = l.found.items ++ others l.t (drop l.u-index l.threads) ≡ others l.t l.threads
