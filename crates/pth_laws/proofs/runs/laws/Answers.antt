use Rattle.pth_laws.proofs.RunLaws.{run_meets_laws}
use Rattle.pth_laws.proofs.runs.laws.Goals as goal

pub returns : goal.returns
returns p c = λ g i. run_meets_laws p.P.Program.functions g i
