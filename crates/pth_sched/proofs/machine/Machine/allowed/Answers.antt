use Rattle.std.proofs.Common.{rules}
use Rattle.pth_model.specs.Run.{run}
use Rattle.pth_laws.proofs.History.{run_history}
use Rattle.pth_sched.proofs.Waits.{asked_in_time}
use Rattle.pth_sched.proofs.machine.Machine.allowed.Goals as goal

pub returns-clause-value : goal.returns-clause-value
returns-clause-value g c = search rules

pub returns-clause-in_time : goal.returns-clause-in_time
returns-clause-in_time g c = λ x i st. asked_in_time g.P.Program.functions x i c.args.t.0 _ (returns-clause-value g c (run g.P.Program.functions x i) st (run_history g.P.Program.functions x i))
