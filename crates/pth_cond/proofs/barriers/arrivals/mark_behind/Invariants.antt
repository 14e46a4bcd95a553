use Rattle.std.proofs.Common.{◌≡◌}
use Rattle.pth_cond.specs.Barriers.{late_behind}
use Rattle.pth_cond.specs.Kept.{arrivals_of}
use Rattle.pth_cond.proofs.Arrivals.{up_to, marked_from}
use Rattle.pth_cond.proofs.barriers.arrivals.mark_behind.Given as goal

abbrev pub invariant-loop-i : goal.invariant-loop-i
invariant-loop-i l = up_to l.entries l.i (marked_from l.behind l.t.0 l.round) ≡ late_behind l.t.0 l.round (arrivals_of l.initial.entries)
