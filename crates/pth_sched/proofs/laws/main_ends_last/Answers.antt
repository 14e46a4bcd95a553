use Rattle.pth_sched.proofs.Endings.{ends_step, ends_alone, ends_told}
use Rattle.pth_sched.proofs.laws.main_ends_last.Goals as goal

pub returns-clause-step : goal.returns-clause-step
returns-clause-step p c = λ g i v on e. ends_step p.P.Program.functions g i v on e

pub returns-clause-alone : goal.returns-clause-alone
returns-clause-alone p c = λ g i v on e. ends_alone p.P.Program.functions g i v on e

pub returns-clause-value : goal.returns-clause-value
returns-clause-value p c = λ g i v on e. ends_told p.P.Program.functions g i v on e
