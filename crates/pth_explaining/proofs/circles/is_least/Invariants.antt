use Rattle.std.proofs.Common.{◌≡◌, drop}
use Rattle.pth_explaining.specs.Circles.{is_least}
use Rattle.pth_explaining.proofs.circles.is_least.Given as goal

abbrev pub invariant-loop-u : goal.invariant-loop-u
invariant-loop-u l = is_least l.t (drop l.u-index l.threads) ≡ is_least l.t l.threads
