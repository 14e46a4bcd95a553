use Rattle.std.proofs.Common.{refl, sym, ap}
use Rattle.pth_port.specs.Mail.{port_or_error}
use Rattle.pth_port.proofs.Naming.{found_some, found_none}
use Rattle.pth_port.proofs.ports.Ports.find.Goals as goal

pub returns-in-Some : goal.returns-in-Some
returns-in-Some c = rw (← c.self.view_is) (sym (ap port_or_error (found_some _ c.self.invariant c.self.inside.ports c.in-Some.ensures.ordered refl c.args.name.now c.in-Some.p c.in-Some.ensures.named)))

pub returns-in-None : goal.returns-in-None
returns-in-None c = rw (← c.self.view_is) (sym (ap port_or_error (found_none _ c.self.invariant c.self.inside.ports c.in-None.ensures.ordered refl c.args.name.now c.in-None.ensures.named)))
