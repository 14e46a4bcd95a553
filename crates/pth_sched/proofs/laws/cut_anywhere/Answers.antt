use Rattle.pth_model.specs.Run.{stops_at}
use Rattle.pth_sched.proofs.Cutting.{goes_joined, same_marks, same_outcome}
use Rattle.pth_sched.proofs.laws.cut_anywhere.Goals as goal

pub returns-clause-joined : goal.returns-clause-joined
returns-clause-joined p c = λ g i n k m t u a b d first runs second. goes_joined p.P.Program.functions g i n k m t u a b d first runs second

pub returns-clause-same_marks : goal.returns-clause-same_marks
returns-clause-same_marks p c = λ g to i t u a b d one two. same_marks p.P.Program.functions g (stops_at p.P.Program.functions g to) i t u a b d one two

pub returns-clause-same_outcome : goal.returns-clause-same_outcome
returns-clause-same_outcome p c = λ g to i t u a b d one two. same_outcome p.P.Program.functions g (stops_at p.P.Program.functions g to) i t u a b d one two
