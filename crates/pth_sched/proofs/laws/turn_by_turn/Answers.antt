use Rattle.pth_model.specs.Run.{stops_or_closed}
use Rattle.pth_sched.proofs.Cutting.{same_marks, same_outcome}
use Rattle.pth_sched.proofs.Turning.{turn_joined}
use Rattle.pth_sched.proofs.laws.turn_by_turn.Goals as goal

pub returns-clause-joined : goal.returns-clause-joined
returns-clause-joined p c = λ g to far i t u a b d first le second. turn_joined p.P.Program.functions g to far i t u a b d first le second

pub returns-clause-same_marks : goal.returns-clause-same_marks
returns-clause-same_marks p c = λ g to i t u a b d one two. same_marks p.P.Program.functions g (stops_or_closed p.P.Program.functions g to i) i t u a b d one two

pub returns-clause-same_outcome : goal.returns-clause-same_outcome
returns-clause-same_outcome p c = λ g to i t u a b d one two. same_outcome p.P.Program.functions g (stops_or_closed p.P.Program.functions g to i) i t u a b d one two
