use Rattle.pth_agreement.proofs.Opened.{opened_agree}
use Rattle.pth_agreement.proofs.descriptors.opened_descriptors_agree.Goals as goal

pub returns : goal.returns
returns p c = record { agrees = λ g d i never. opened_agree p.P.Program.functions g d i never }
