use Rattle.std.proofs.Common.{◌∙◌, ap, is_some}
use Rattle.pth_port.proofs.Naming.{live_is, zero_not_live, past_not_live}
use Rattle.pth_port.proofs.ports.Ports.has.Goals as goal

pub returns-clause-live : goal.returns-clause-live
returns-clause-live c = c.is_some.ensures ∙ ap is_some c.queue_of.ensures ∙ rw (← c.self.view_is) (live_is _ c.args.p.0)

pub returns-clause-past : goal.returns-clause-past
returns-clause-past c = λ n past. rw (← c.self.view_is) (past_not_live _ c.self.invariant n past)

pub returns-clause-zero : goal.returns-clause-zero
returns-clause-zero c = rw (← c.self.view_is) (zero_not_live _ c.self.invariant)
