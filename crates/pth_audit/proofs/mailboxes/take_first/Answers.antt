use Rattle.std.proofs.Common.{Some, None, ◌∙◌, ap}
use Rattle.pth_audit.specs.Mailboxes.{first}
use Rattle.pth_audit.proofs.MailTables.{messages_at, first_taken, first_written, first_nowhere}
use Rattle.pth_audit.proofs.mailboxes.take_first.Goals as goal

pub returns-in-Some-clause-ports : goal.returns-in-Some-clause-ports
returns-in-Some-clause-ports c =
    let written = c.pop_front.new.self in
    first_written c.args.ports.now (c.get_mut.follows.lender written) c.args.i c.in-Some.queue.now written (c.get_mut.follows.holds written) c.in-Some.ensures.value c.pop_front.ensures.rest

pub returns-in-Some-clause-stored : goal.returns-in-Some-clause-stored
returns-in-Some-clause-stored c =
    first_taken c.in-Some.queue.now.items c.pop_front.new.self.items c.pop_front.result c.pop_front.ensures.items c.pop_front.ensures.rest
    ∙ ap first (messages_at c.args.ports.now c.args.i (Some c.in-Some.queue.now) c.in-Some.ensures.value)

pub returns-in-None-clause-ports : goal.returns-in-None-clause-ports
returns-in-None-clause-ports c = first_nowhere c.args.ports.now c.get_mut.follows.lender-at-none c.args.i c.get_mut.follows.holds-at-none c.in-None.ensures.value

pub returns-in-None-clause-stored : goal.returns-in-None-clause-stored
returns-in-None-clause-stored c = ap first (messages_at c.args.ports.now c.args.i None c.in-None.ensures.value)
