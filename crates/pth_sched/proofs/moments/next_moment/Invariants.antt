use Rattle.std.proofs.Common.{◌++◌, map, flat_map, drop}
use Rattle.pth_base.specs.declared.ids.Slot.{Slot}
use Rattle.pth_kernel.specs.Kernel.{kernel_of, arrival_times}
use Rattle.pth_model.specs.Pass.{moments_of}
use Rattle.pth_model.specs.State.{State}
use Rattle.pth_threads.specs.Threads.{tid_at}
use Rattle.pth_world.specs.Shows.{StandsFor}
use Rattle.pth_sched.proofs.Counting.{Counted}
use Rattle.pth_sched.proofs.moments.next_moment.Given as goal

abbrev pub invariant-loop-slot : goal.invariant-loop-slot
invariant-loop-slot g l =
    (s : State g.row.P.Denot g.row.P-State.Denot g.row.P-Shared.Denot) → StandsFor l.fn.w s
    → Counted l.fn.w.kernel.now (arrival_times (kernel_of l.fn.w.kernel) ++ flat_map (moments_of g.P.Program.functions s) (map (λ (x : Slot). tid_at l.fn.w.threads.records x.0) l.slots)) (flat_map (moments_of g.P.Program.functions s) (map (λ (x : Slot). tid_at l.fn.w.threads.records x.0) (drop l.slot-index l.slots))) l.best
