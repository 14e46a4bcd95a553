use Rattle.pth_model.specs.Run.{run}
use Rattle.pth_laws.proofs.Consistent.{consistent_run}
use Rattle.pth_end.proofs.Wholes.{waits_shown}
use Rattle.pth_sched.proofs.laws.machines_on_runs_are_whole.Goals as goal

pub returns : goal.returns
returns p c = λ g i m formed at. let f = p.P.Program.functions in record { formed = formed; waits = waits_shown m.world (run f g i).state at.world (consistent_run f g i) }
