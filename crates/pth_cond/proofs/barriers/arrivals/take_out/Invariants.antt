use Rattle.std.proofs.Common.{◌≡◌, ◌-◌, ◌≤◌, length, vec_capacity}
use Rattle.pth_cond.specs.Barriers.{without_thread}
use Rattle.pth_cond.specs.Kept.{arrivals_of}
use Rattle.pth_cond.proofs.Arrivals.{up_to}
use Rattle.pth_cond.proofs.barriers.arrivals.take_out.Given as goal

abbrev pub invariant-loop-i : goal.invariant-loop-i
invariant-loop-i l = record {
  within : l.i ≤ length l.entries.items;
  others : up_to l.entries.items l.i (without_thread l.t.0) ≡ without_thread l.t.0 (arrivals_of l.initial.entries.items);
  room : vec_capacity l.entries ≡ vec_capacity l.initial.entries;
}

abbrev pub decreases-loop-i : goal.decreases-loop-i
decreases-loop-i l = length l.entries.items - l.i
