use Rattle.pth_laws.proofs.EveryRun.{run_initialised}
use Rattle.pth_laws.proofs.runs.every_run_initialises.Goals as goal

pub returns : goal.returns
returns p c = λ g i. run_initialised p.P.Program.functions g i
