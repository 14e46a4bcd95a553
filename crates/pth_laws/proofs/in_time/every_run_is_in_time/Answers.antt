use Rattle.pth_laws.proofs.History.{run_history}
use Rattle.pth_laws.proofs.InTime.{run_in_time, run_ready_in_time}
use Rattle.pth_laws.proofs.in_time.every_run_is_in_time.Goals as goal

pub returns-clause-marks : goal.returns-clause-marks
returns-clause-marks p c = λ g i. run_in_time p.P.Program.functions g i

pub returns-clause-ready : goal.returns-clause-ready
returns-clause-ready p c = λ g i s here. run_ready_in_time p.P.Program.functions g i s here

pub returns-clause-history : goal.returns-clause-history
returns-clause-history p c = λ g i. run_history p.P.Program.functions g i
