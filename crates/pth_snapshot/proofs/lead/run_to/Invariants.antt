use Rattle.std.proofs.Common.{◌≡◌, ◌+◌, ℕ}
use Rattle.pth_model.specs.State.{Given}
use Rattle.pth_sched.specs.Running.{StandsAt}
use Rattle.pth_snapshot.proofs.Leading.{IsOnWay}
use Rattle.pth_snapshot.proofs.lead.run_to.Given as goal

abbrev pub invariant-pieces : goal.invariant-pieces
invariant-pieces g l = record {
  made : l.machine.turn.steps + l.left ≡ l.to;
  way : (given : Given _) (i : ℕ) → StandsAt g.P.Program.functions given i l.fn.machine → IsOnWay g.P.Program.functions given l.to i l.machine;
}

abbrev pub decreases-pieces : goal.decreases-pieces
decreases-pieces g l = l.left
