use Rattle.std.proofs.Common.{Some}
use Rattle.pth_audit.proofs.MailTables.{queues_put}
use Rattle.pth_audit.proofs.mailboxes.set_queue.Goals as goal

pub returns : goal.returns
returns c = queues_put c.args.ports.now c.insert.new.self c.args.i (Some c.args.queue) c.in_ok-_before.ensures.updates
