use Rattle.std.proofs.Common.{◌≡◌, ◌≤◌, ◌+◌, ◌*◌, ◌++◌, length, map}
use Rattle.pth_threads.specs.Threads.{number_of}
use Rattle.pth_model.specs.State.{State}
use Rattle.pth_world.specs.Shows.{StandsFor}
use Rattle.pth_sched.proofs.Known.{before}
use Rattle.pth_snapshot.proofs.Threads.{rows_to}
use Rattle.pth_snapshot.proofs.thread_row.add_threads.Given as goal

abbrev pub invariant-loop-t : goal.invariant-loop-t
invariant-loop-t g l = record {
  rows : (s : State _ _ _) → StandsFor l.fn.w s → l.out ≡ l.initial.out ++ rows_to s.control (before (map number_of l.t-items) l.t-index);
  few : length l.out ≤ length l.initial.out + 800 * l.t-index;
}
