use Rattle.std.proofs.Common.{◌≡◌, ◌≢◌, ◌≤◌, ℕ, Some}
use Rattle.pth_model.specs.State.{State}
use Rattle.pth_world.specs.Shows.{StandsFor}
use Rattle.pth_audit.specs.Blocking.{blocks_on, along}
use Rattle.pth_audit.proofs.cycle.steps_back.Given as goal

abbrev pub invariant-loop-n : goal.invariant-loop-n
invariant-loop-n g l = (s : State _ _ _) → StandsFor l.w s
    → (along (blocks_on s) l.n l.t.0 ≡ Some l.at.0) × ((k : ℕ) → 1 ≤ k → k ≤ l.n → along (blocks_on s) k l.t.0 ≢ Some l.t.0)
