use Rattle.pth_model.proofs.Told.{run_told}
use Rattle.pth_model.proofs.resources.resources_are_told.Goals as goal

pub returns : goal.returns
returns p c = λ g i. run_told p.P.Program.functions g i
