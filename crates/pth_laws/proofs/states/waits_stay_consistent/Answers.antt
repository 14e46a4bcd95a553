use Rattle.pth_laws.proofs.Consistent.{consistent_begun, consistent_ended, consistent_gone_on, consistent_handled, consistent_moved, consistent_passed, consistent_run, consistent_start}
use Rattle.pth_laws.proofs.states.waits_stay_consistent.Goals as goal

pub returns-clause-started : goal.returns-clause-started
returns-clause-started p c = λ g. consistent_start p.P.Program.functions g

pub returns-clause-begun : goal.returns-clause-begun
returns-clause-begun p c = λ t c s. consistent_begun p.P.Program.functions t c s

pub returns-clause-gone_on : goal.returns-clause-gone_on
returns-clause-gone_on p c = λ t s. consistent_gone_on p.P.Program.functions t s

pub returns-clause-ended : goal.returns-clause-ended
returns-clause-ended p c = λ t v s. consistent_ended p.P.Program.functions t v s

pub returns-clause-handled : goal.returns-clause-handled
returns-clause-handled p c = λ t h v s. consistent_handled p.P.Program.functions t h v s

pub returns-clause-passed : goal.returns-clause-passed
returns-clause-passed p c = λ s. consistent_passed p.P.Program.functions s

pub returns-clause-moved : goal.returns-clause-moved
returns-clause-moved p c = λ x s. consistent_moved p.P.Program.functions x s

pub returns-clause-runs : goal.returns-clause-runs
returns-clause-runs p c = λ g i. consistent_run p.P.Program.functions g i
