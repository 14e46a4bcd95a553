use Rattle.std.proofs.Common.{◌≤◌, length, map, drop, vec_capacity}
use Rattle.pth_base.specs.declared.ids.Slot.{Slot}
use Rattle.pth_threads.specs.Threads.{number_of, tid_at}
use Rattle.pth_sched.proofs.Listing.{GoneOver}
use Rattle.pth_sched.proofs.pass_room.go_over_all.Given as goal

abbrev pub invariant-loop-slot : goal.invariant-loop-slot
invariant-loop-slot g l = record {
  over : GoneOver g.P.Program.functions l.fn.w l.w (map (λ (s : Slot). tid_at l.fn.w.threads.records s.0) l.slots) (map (λ (s : Slot). tid_at l.fn.w.threads.records s.0) (drop l.slot-index l.slots)) (map number_of l.waking.items);
  few : length l.waking.items ≤ l.slot-index;
  room : vec_capacity l.fn.waking ≤ vec_capacity l.waking;
}
