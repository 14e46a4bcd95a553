use Rattle.pth_laws.proofs.Waiting.{run_asks, run_rightly}
use Rattle.pth_laws.proofs.states.every_run_waits_rightly.Goals as goal

pub returns-clause-rightly : goal.returns-clause-rightly
returns-clause-rightly p c = λ g i. run_rightly p.P.Program.functions g i

pub returns-clause-rows : goal.returns-clause-rows
returns-clause-rows p c = λ g i. run_asks p.P.Program.functions g i
