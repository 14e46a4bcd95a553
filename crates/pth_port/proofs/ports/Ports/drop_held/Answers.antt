use Rattle.std.proofs.Common.{refl}
use Rattle.pth_port.proofs.Changes.{names_same}
use Rattle.pth_port.proofs.HeldMessages.{dropped_mail, dropped_kept}
use Rattle.pth_port.proofs.Naming.{zero_not_live}
use Rattle.pth_port.proofs.ports.Ports.drop_held.Goals as goal

pub invariant_of-self : goal.invariant_of-self
invariant_of-self c = dropped_kept _ _ c.self.invariant c.args.n (rw (← c.self.view_is) at c.requires) refl refl refl c.remove_stored.ensures.stored_messages c.remove_stored.ensures.count

pub returns-clause-mail : goal.returns-clause-mail
returns-clause-mail c = rw (← c.self.view_is) (dropped_mail _ _ c.self.invariant c.args.n (rw (← c.self.view_is) at c.requires) refl refl refl c.remove_stored.ensures.stored_messages c.remove_stored.ensures.count)

pub returns-clause-names : goal.returns-clause-names
returns-clause-names c = rw (← c.self.view_is) (names_same _ _ c.self.invariant c.args.n _ refl refl c.remove_stored.ensures.stored_messages)

pub returns-clause-zero : goal.returns-clause-zero
returns-clause-zero c = rw (← c.self.view_is) (zero_not_live _ c.self.invariant)
