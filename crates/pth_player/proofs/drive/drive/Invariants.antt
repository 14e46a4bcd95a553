use Rattle.std.proofs.Common.{◌≡◌, ◌+◌, ℕ, []}
use Rattle.pth_model.specs.State.{Given}
use Rattle.pth_sched.specs.Running.{StandsAt}
use Rattle.pth_command.specs.CommandLine.{asked_of}
use Rattle.pth_player.proofs.Driving.{Underway}
use Rattle.pth_player.proofs.drive.drive.Given as goal

abbrev pub invariant-pieces : goal.invariant-pieces
invariant-pieces g l = record {
  way : (given : Given _) (i : ℕ) → StandsAt g.P.Program.functions given i l.initial.machine
      → Underway g.P.Program.functions given (asked_of l.choice) i l.machine (g.O.Sink.written l.initial.out) (g.O.Sink.written l.out) [];
  stood : g.O.Sink.faults l.out ≡ g.O.Sink.faults l.initial.out;
  made : l.machine.turn.steps + l.left ≡ l.initial.machine.turn.steps + l.choice.steps;
}

abbrev pub decreases-pieces : goal.decreases-pieces
decreases-pieces g l = l.left
