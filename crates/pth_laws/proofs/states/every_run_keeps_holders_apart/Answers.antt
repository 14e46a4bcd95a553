use Rattle.pth_laws.proofs.Alone.{run_apart}
use Rattle.pth_laws.proofs.states.every_run_keeps_holders_apart.Goals as goal

pub returns : goal.returns
returns p c = λ g i. run_apart p.P.Program.functions g i
