use Rattle.pth_laws.proofs.HaveSeats.{run_has_seats, run_once_seated}
use Rattle.pth_laws.proofs.states.every_run_keeps_seats.Goals as goal

pub returns-clause-kept : goal.returns-clause-kept
returns-clause-kept p c = λ g i. run_has_seats p.P.Program.functions g i

pub returns-clause-once : goal.returns-clause-once
returns-clause-once p c = λ g i. run_once_seated p.P.Program.functions g i
