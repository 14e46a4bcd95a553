use Rattle.pth_laws.proofs.EveryRun.{run_in_order}
use Rattle.pth_laws.proofs.runs.every_run_is_in_order.Goals as goal

pub returns : goal.returns
returns p c = λ g i. run_in_order p.P.Program.functions g i
