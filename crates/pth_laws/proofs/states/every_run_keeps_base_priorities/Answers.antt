use Rattle.pth_laws.proofs.Ranged.{run_ranged}
use Rattle.pth_laws.proofs.states.every_run_keeps_base_priorities.Goals as goal

pub returns : goal.returns
returns p c = λ g i. run_ranged p.P.Program.functions g i
