use Rattle.std.proofs.Common.{◌-◌, ℕ}
use Rattle.pth_model.specs.State.{Given}
use Rattle.pth_sched.specs.Running.{StandsAt, IsBetweenTurns}
use Rattle.pth_snapshot.proofs.Leading.{IsWaiting}
use Rattle.pth_snapshot.proofs.lead.wait_until.Given as goal

abbrev pub invariant-moves : goal.invariant-moves
invariant-moves g l = record {
  between : IsBetweenTurns l.machine;
  waits : (given : Given _) (i : ℕ) → StandsAt g.P.Program.functions given i l.fn.machine → IsWaiting g.P.Program.functions given l.moment i l.machine;
}

abbrev pub decreases-moves : goal.decreases-moves
decreases-moves g l = l.moment - l.machine.world.kernel.now
