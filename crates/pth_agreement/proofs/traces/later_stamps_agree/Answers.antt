use Rattle.pth_agreement.proofs.OtherTraces.{traces_agree}
use Rattle.pth_agreement.proofs.traces.later_stamps_agree.Goals as goal

pub returns : goal.returns
returns p c = record { agrees = λ g trace i differs. traces_agree p.P.Program.functions g trace i differs }
