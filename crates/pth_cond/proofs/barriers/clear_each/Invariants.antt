use Rattle.pth_cond.proofs.BarrierTables.{IsEmptiedBelow}
use Rattle.pth_cond.proofs.barriers.clear_each.Given as goal

abbrev pub invariant-loop-place : goal.invariant-loop-place
invariant-loop-place l = IsEmptiedBelow l.initial.barriers l.barriers l.place
