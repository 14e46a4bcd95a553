use Rattle.std.proofs.Common.{◌≡◌, map}
use Rattle.pth_threads.specs.Threads.{number_of}
use Rattle.pth_model.specs.State.{State}
use Rattle.pth_model.specs.Living.{live_of}
use Rattle.pth_world.specs.Shows.{StandsFor}
use Rattle.pth_sched.proofs.Known.{before}
use Rattle.pth_sched.proofs.live.live.Given as goal

abbrev pub invariant-loop-t : goal.invariant-loop-t
invariant-loop-t g l = (s : State _ _ _) → StandsFor l.fn.w s → map number_of l.live.items ≡ live_of s.control.threads.known (before (map number_of l.t-items) l.t-index)
