use Rattle.std.proofs.Common.{◌≡◌, length}
use Rattle.pth_port.specs.Mail.{messages_of, is_live, closed_port}
use Rattle.pth_port.specs.Ports.{mail_of, names_of}
use Rattle.pth_port.proofs.ports.Ports.send_all_back.Given as goal

-- closing the port now does what closing it at first did
abbrev pub invariant-loop-n : goal.invariant-loop-n
invariant-loop-n l = record {
  mail : closed_port l.port.0 (mail_of l.self) ≡ closed_port l.port.0 (mail_of l.fn.self);
  live : is_live (mail_of l.self) l.port.0 ≡ is_live (mail_of l.fn.self) l.port.0;
  names : names_of l.self ≡ names_of l.fn.self;
}

-- its messages become fewer
abbrev pub decreases-loop-n : goal.decreases-loop-n
decreases-loop-n l = length (messages_of ((mail_of l.self).at l.port.0))
