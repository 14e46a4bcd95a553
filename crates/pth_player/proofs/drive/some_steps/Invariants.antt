use Rattle.std.proofs.Common.{◌≡◌, ◌≢◌, ◌+◌, ◌-◌, ◌<◌, ◌≤◌, ℕ}
use Rattle.pth_base.specs.declared.outcome.Outcome.TheVariants as outcomes
use Rattle.pth_model.specs.State.{Given}
use Rattle.pth_sched.specs.Running.{StandsAt, GoesOn}
use Rattle.pth_player.specs.Drive.{TellsFewer}
use Rattle.pth_player.proofs.drive.some_steps.Given as goal

abbrev pub invariant-strides : goal.invariant-strides
invariant-strides g l = record {
  within : l.asked ≤ l.n;
  some : 1 ≤ l.n → 1 ≤ l.asked;
  goes_on : l.outcome ≢ outcomes.OutOfMemory → (given : Given _) (i : ℕ) → StandsAt g.P.Program.functions given i l.fn.machine
      → GoesOn g.P.Program.functions given (l.fn.machine.turn.steps + l.asked) i l.machine l.fn.marks l.marks;
  few_marks : 4 < l.asked → (given : Given _) (i : ℕ) → StandsAt g.P.Program.functions given i l.fn.machine
      → TellsFewer g.P.Program.functions given (l.fn.machine.turn.steps + (l.asked - 4)) i l.fn.marks 4096;
  running : l.outcome ≡ outcomes.Running → l.machine.turn.steps ≡ l.fn.machine.turn.steps + l.asked;
  outcome : l.outcome ≡ l.machine.turn.outcome;
}

abbrev pub decreases-strides : goal.decreases-strides
decreases-strides g l = l.n - l.asked
