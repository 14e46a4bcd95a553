use Rattle.std.proofs.Common.{◌≢◌, ◌<◌, ◌≤◌, ℕ, Some, length, map, get_or}
use Rattle.pth_model.specs.State.{State}
use Rattle.pth_threads.specs.Threads.{number_of}
use Rattle.pth_world.specs.Shows.{StandsFor}
use Rattle.pth_audit.specs.Blocking.{blocks_on, along}
use Rattle.pth_audit.proofs.cycle.cycle.Given as goal

abbrev pub invariant-loop-t : goal.invariant-loop-t
invariant-loop-t g l = (s : State _ _ _) → StandsFor l.fn.w s → (j : ℕ) → j < l.t-index → (k : ℕ) → 1 ≤ k → k ≤ length (map number_of l.t-items)
    → along (blocks_on s) k (get_or (map number_of l.t-items) j 0) ≢ Some (get_or (map number_of l.t-items) j 0)
