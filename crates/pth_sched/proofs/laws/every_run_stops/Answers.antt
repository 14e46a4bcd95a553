use Rattle.pth_sched.proofs.Stopping.{run_stops}
use Rattle.pth_sched.proofs.Turning.{turn_stops}
use Rattle.pth_sched.proofs.laws.every_run_stops.Goals as goal

pub returns-clause-stops : goal.returns-clause-stops
returns-clause-stops p c = λ g to i. run_stops p.P.Program.functions g to i

pub returns-clause-turns : goal.returns-clause-turns
returns-clause-turns p c = λ g to i. turn_stops p.P.Program.functions g to i
