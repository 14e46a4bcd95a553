use Rattle.pth_laws.proofs.Claimed.{run_held}
use Rattle.pth_laws.proofs.RingEvents.{run_circles}
use Rattle.pth_laws.proofs.states.every_run_holds_rings.Goals as goal

pub returns-clause-held : goal.returns-clause-held
returns-clause-held p c = λ g i. run_held p.P.Program.functions g i

pub returns-clause-circles : goal.returns-clause-circles
returns-clause-circles p c = λ g i. run_circles p.P.Program.functions g i
