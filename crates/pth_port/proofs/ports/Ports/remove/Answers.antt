use Rattle.std.proofs.Common.{refl}
use Rattle.pth_port.proofs.Naming.{gone_mail, gone_names, gone_kept}
use Rattle.pth_port.proofs.ports.Ports.remove.Goals as goal

pub invariant_of-self : goal.invariant_of-self
invariant_of-self c = gone_kept _ c.self.invariant _ c.args.p.0 (rw (← c.self.view_is) at c.requires.live) (rw (← c.self.view_is) at c.requires.none) c.remove_port.ensures.ports c.remove_port.ensures.count refl refl refl

pub returns-clause-mail : goal.returns-clause-mail
returns-clause-mail c = rw (← c.self.view_is) (gone_mail _ c.self.invariant _ c.args.p.0 (rw (← c.self.view_is) at c.requires.live) (rw (← c.self.view_is) at c.requires.none) c.remove_port.ensures.ports c.remove_port.ensures.count refl refl refl)

pub returns-clause-names : goal.returns-clause-names
returns-clause-names c = rw (← c.self.view_is) (gone_names _ c.self.invariant _ c.args.p.0 (rw (← c.self.view_is) at c.requires.live) (rw (← c.self.view_is) at c.requires.none) c.remove_port.ensures.ports c.remove_port.ensures.count refl refl refl)
