use Rattle.std.proofs.Common.{None}
use Rattle.pth_audit.proofs.MailTables.{queues_put, queue_at}
use Rattle.pth_audit.proofs.mailboxes.take_queue.Goals as goal

pub returns-clause-ports : goal.returns-clause-ports
returns-clause-ports c = queues_put c.args.ports.now c.remove.new.self c.args.i None c.remove.ensures.updates

pub returns-clause-queue : goal.returns-clause-queue
returns-clause-queue c = queue_at c.args.ports.now c.args.i c.remove.result c.remove.ensures.value
