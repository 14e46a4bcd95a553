use Rattle.pth_model.proofs.Numbered.{queue_in_order, entries_numbered, entries_apart, top_ahead, top_meant}
use Rattle.pth_model.proofs.Placed.{none_twice}
use Rattle.pth_model.proofs.standings.queues_are_in_order.Goals as goal

pub returns-clause-order : goal.returns-clause-order
returns-clause-order p c = λ g i q. queue_in_order p.P.Program.functions g i q

pub returns-clause-once : goal.returns-clause-once
returns-clause-once p c = λ g i. none_twice p.P.Program.functions g i

pub returns-clause-entries : goal.returns-clause-entries
returns-clause-entries p c = λ g i q. entries_numbered p.P.Program.functions g i q

pub returns-clause-apart : goal.returns-clause-apart
returns-clause-apart p c = λ g i q r. entries_apart p.P.Program.functions g i q r

pub returns-clause-top : goal.returns-clause-top
returns-clause-top p c = λ g i q. top_ahead p.P.Program.functions g i q

pub returns-clause-favoured : goal.returns-clause-favoured
returns-clause-favoured p c = λ g i q. top_meant p.P.Program.functions g i q
