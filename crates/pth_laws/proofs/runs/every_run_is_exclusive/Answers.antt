use Rattle.pth_laws.proofs.EveryRun.{run_exclusive}
use Rattle.pth_laws.proofs.runs.every_run_is_exclusive.Goals as goal

pub returns : goal.returns
returns p c = λ g i. run_exclusive p.P.Program.functions g i
