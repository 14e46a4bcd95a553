use Rattle.std.proofs.Common.{◌≡◌, ◌≤◌, drop, fold}
use Rattle.pth_laws.specs.Exclusive.{share, share_after}
use Rattle.pth_explaining.proofs.holding.levels.Given as goal

abbrev pub invariant-loop-mark : goal.invariant-loop-mark
invariant-loop-mark l = record {
  share : fold (share_after l.t l.i) (record { had = l.had; awaiting = l.awaiting }) (drop l.mark-index l.marks)
      ≡ share l.t l.i l.marks;
  few : l.had ≤ l.mark-index;
}
