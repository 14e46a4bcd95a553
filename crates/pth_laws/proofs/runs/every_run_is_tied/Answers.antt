use Rattle.pth_laws.proofs.EveryRun.{run_tied, run_valid}
use Rattle.pth_laws.proofs.runs.every_run_is_tied.Goals as goal

pub returns-clause-tied : goal.returns-clause-tied
returns-clause-tied p c = λ g i on. run_tied p.P.Program.functions g i on

pub returns-clause-valid : goal.returns-clause-valid
returns-clause-valid p c = λ g i on. run_valid p.P.Program.functions g i on
