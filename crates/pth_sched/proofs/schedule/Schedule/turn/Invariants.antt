use Rattle.std.proofs.Common.{◌≤◌, ℕ}
use Rattle.pth_model.specs.State.{Given}
use Rattle.pth_sched.proofs.Left.{left}
use Rattle.pth_sched.specs.Running.{Keeps, StandsAt}
use Rattle.pth_sched.proofs.Turning.{Turns}
use Rattle.pth_sched.proofs.schedule.Schedule.turn.Given as goal

abbrev pub invariant-loop-self : goal.invariant-loop-self
invariant-loop-self g l = record {
  turns : (x : Given g.row.P.Denot) (i : ℕ) → StandsAt g.P.Program.functions x i l.fn.self → Turns g.P.Program.functions x l.to i l.self l.fn.marks l.marks;
  keeps : Keeps l.self;
  within : l.self.turn.steps ≤ l.to;
}

abbrev pub decreases-loop-self : goal.decreases-loop-self
decreases-loop-self g l = left l.to l.self
