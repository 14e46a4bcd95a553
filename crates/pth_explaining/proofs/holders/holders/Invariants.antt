use Rattle.std.proofs.Common.{◌≡◌, ◌++◌, drop}
use Rattle.pth_explaining.specs.Holders.{holders}
use Rattle.pth_explaining.proofs.holders.holders.Given as goal

abbrev pub invariant-loop-t : goal.invariant-loop-t
invariant-loop-t l = l.found.items ++ holders l.marks (drop l.t-index l.threads) l.hold ≡ holders l.marks l.threads l.hold
