use Rattle.pth_agreement.proofs.WholeRuns.{program_kept}
use Rattle.pth_agreement.proofs.runs.every_run_keeps_its_program.Goals as goal

pub returns : goal.returns
returns p c = record { keeps = λ g i. program_kept p.P.Program.functions g i }
