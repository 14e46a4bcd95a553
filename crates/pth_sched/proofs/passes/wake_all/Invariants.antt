use Rattle.std.proofs.Common.{map, drop}
use Rattle.pth_threads.specs.Threads.{number_of}
use Rattle.pth_model.specs.State.{State}
use Rattle.pth_model.specs.Pass.{all_woken}
use Rattle.pth_world.specs.Shows.{StandsFor}
use Rattle.pth_sched.specs.Passing.{OnlyWakes, WaitOnce}
use Rattle.pth_sched.proofs.Waking.{Wakes}
use Rattle.pth_sched.proofs.passes.wake_all.Given as goal

abbrev pub invariant-loop-t : goal.invariant-loop-t
invariant-loop-t g l = record {
  wakes : (s : State g.row.P.Denot g.row.P-State.Denot g.row.P-Shared.Denot) → StandsFor l.fn.w s → Wakes l.w (map number_of (drop l.t-index l.list)) l.fn.marks l.marks (all_woken (map number_of l.list) s);
  once : WaitOnce l.w (map number_of (drop l.t-index l.list));
  only_wakes : OnlyWakes l.fn.w l.w;
}
