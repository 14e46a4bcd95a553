use Rattle.pth_laws.proofs.EveryRun.{run_orderly}
use Rattle.pth_laws.proofs.runs.every_run_is_orderly.Goals as goal

pub returns : goal.returns
returns p c = λ g i. run_orderly p.P.Program.functions g i
