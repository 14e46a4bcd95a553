use Rattle.std.proofs.Common.{refl}
use Rattle.pth_port.specs.Ports.{without_reply}
use Rattle.pth_port.proofs.Changes.{names_same}
use Rattle.pth_port.proofs.HeldMessages.{changed_kept, cleared_mail}
use Rattle.pth_port.proofs.ports.Ports.clear_held.Goals as goal

pub invariant_of-self : goal.invariant_of-self
invariant_of-self c = changed_kept _ _ c.self.invariant c.args.n (rw (← c.self.view_is) at c.requires) refl refl refl without_reply (λ l. refl) (λ l. refl) c.clear_reply.ensures.stored_messages c.clear_reply.ensures.count

pub returns-clause-mail : goal.returns-clause-mail
returns-clause-mail c = rw (← c.self.view_is) (cleared_mail _ _ c.self.invariant c.args.n (rw (← c.self.view_is) at c.requires) refl refl refl c.clear_reply.ensures.stored_messages c.clear_reply.ensures.count)

pub returns-clause-names : goal.returns-clause-names
returns-clause-names c = rw (← c.self.view_is) (names_same _ _ c.self.invariant c.args.n _ refl refl c.clear_reply.ensures.stored_messages)
