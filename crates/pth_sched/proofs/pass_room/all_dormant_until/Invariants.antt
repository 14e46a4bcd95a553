use Rattle.std.proofs.Common.{◌<◌, All, take}
use Rattle.pth_base.specs.declared.ids.Slot.{Slot}
use Rattle.pth_threads.specs.Threads.{tid_at}
use Rattle.pth_model.specs.State.{State, now_of}
use Rattle.pth_world.specs.Shows.{StandsFor}
use Rattle.pth_waits.specs.Dormant.{IsDormant, after_now}
use Rattle.pth_sched.specs.Quiescence.{AreDormant}
use Rattle.pth_sched.proofs.pass_room.all_dormant_until.Given as goal

abbrev pub invariant-loop-slot : goal.invariant-loop-slot
invariant-loop-slot g l = record {
  dormant : (s : State g.row.P.Denot g.row.P-State.Denot g.row.P-Shared.Denot) → StandsFor l.fn.w s → 0 < l.until → All (λ (x : Slot). IsDormant s l.until (tid_at l.fn.w.threads.records x.0)) (take l.slot-index l.slots);
  later : (s : State g.row.P.Denot g.row.P-State.Denot g.row.P-Shared.Denot) → StandsFor l.fn.w s → AreDormant s (after_now s.control) → now_of s.control < l.until;
}
