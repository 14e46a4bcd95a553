use Rattle.pth_agreement.proofs.WholeRuns.{programs_agree}
use Rattle.pth_agreement.proofs.runs.runs_agree.Goals as goal

pub returns : goal.returns
returns p c = record { agrees = λ g q i alike. programs_agree p.P.Program.functions g q i alike }
