use Rattle.pth_turns.proofs.EveryRun.{every_run_in_turns}
use Rattle.pth_turns.proofs.turns.every_run_is_in_turns.Goals as goal

pub returns : goal.returns
returns p c = λ g i early. every_run_in_turns p.P.Program.functions g early i
