use Rattle.pth_laws.proofs.HaveArrived.{run_arrives, run_at_one, run_once}
use Rattle.pth_laws.proofs.states.every_run_keeps_arrivals.Goals as goal

pub returns-clause-kept : goal.returns-clause-kept
returns-clause-kept p c = λ g i. run_arrives p.P.Program.functions g i

pub returns-clause-once : goal.returns-clause-once
returns-clause-once p c = λ g i. run_once p.P.Program.functions g i

pub returns-clause-one_barrier : goal.returns-clause-one_barrier
returns-clause-one_barrier p c = λ g i. run_at_one p.P.Program.functions g i
