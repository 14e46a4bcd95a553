use Rattle.std.proofs.Common.{sym, ◌∙◌, ap, SFits, w64, to_z-of_z}
use Rattle.pth_port.proofs.Naming.{at_number}
use Rattle.pth_port.proofs.Taking.{no_port}
use Rattle.pth_port.proofs.MailSteps.{pending_of, pending_some}
use Rattle.pth_port.proofs.ports.Ports.pending.Goals as goal

pub returns-in-Some : goal.returns-in-Some
returns-in-Some c =
    let fits : SFits w64 c.args.p = c.ranges.p in
    let is = rw (c.port_number.ensures, to_z-of_z) at c.in-Some.ensures in
    rw (← c.self.view_is) (sym (ap pending_of (sym (at_number _ c.self.invariant c.args.p)) ∙ pending_some _ _ c.in-Some.queue is))

pub returns-in-None : goal.returns-in-None
returns-in-None c =
    let fits : SFits w64 c.args.p = c.ranges.p in
    let is = rw (c.port_number.ensures, to_z-of_z) at c.in-None.ensures in
    rw (← c.self.view_is) (sym (ap pending_of (sym (at_number _ c.self.invariant c.args.p) ∙ no_port _ _ is)))
