use Rattle.std.proofs.Common.{sym}
use Rattle.pth_port.proofs.Changes.{mail_made}
use Rattle.pth_port.proofs.ports.Ports.sent.Goals as goal

pub returns : goal.returns
returns c = rw (← c.self.view_is) (sym (mail_made _))
