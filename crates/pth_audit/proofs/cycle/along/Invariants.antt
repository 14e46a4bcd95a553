use Rattle.std.proofs.Common.{◌≡◌, Some, map}
use Rattle.pth_model.specs.State.{State}
use Rattle.pth_threads.specs.Threads.{number_of}
use Rattle.pth_world.specs.Shows.{StandsFor}
use Rattle.pth_audit.specs.Blocking.{blocks_on, along}
use Rattle.pth_audit.proofs.Circles.{IsGoneAlong}
use Rattle.pth_audit.proofs.cycle.along.Given as goal

abbrev pub invariant-loop : goal.invariant-loop
invariant-loop g l = (s : State _ _ _) → StandsFor l.w s → along (blocks_on s) l.steps l.fn.t.0 ≡ Some l.fn.t.0
    → IsGoneAlong (blocks_on s) l.steps l.fn.t.0 l.counter (map number_of l.tids) (Some l.at.0)
