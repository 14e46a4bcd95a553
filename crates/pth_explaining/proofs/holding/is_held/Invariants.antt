use Rattle.std.proofs.Common.{◌≡◌, drop, false, fold}
use Rattle.pth_laws.specs.Exclusive.{held_after}
use Rattle.pth_explaining.proofs.holding.is_held.Given as goal

abbrev pub invariant-loop-mark : goal.invariant-loop-mark
invariant-loop-mark l =
    fold (held_after l.t l.l l.write) l.held (drop l.mark-index l.marks) ≡ fold (held_after l.t l.l l.write) false l.marks
