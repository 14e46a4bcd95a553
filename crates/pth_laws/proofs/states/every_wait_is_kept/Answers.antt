use Rattle.pth_laws.proofs.Claimed.{run_held}
use Rattle.pth_laws.proofs.HaveArrived.{run_arrives}
use Rattle.pth_laws.proofs.HaveSeats.{run_has_seats}
use Rattle.pth_laws.proofs.PendingRings.{run_pending}
use Rattle.pth_laws.proofs.states.every_wait_is_kept.Goals as goal

pub returns : goal.returns
returns p c = λ g i. let f = p.P.Program.functions in record {
  claim = (run_held f g i).held;
  pending = run_pending f g i;
  arrival = run_arrives f g i;
  seat = run_has_seats f g i;
}
