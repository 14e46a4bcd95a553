use Rattle.std.proofs.Common.{refl}
use Rattle.pth_audit.proofs.MailTables.{no_queues, none_kept}
use Rattle.pth_audit.proofs.mailboxes.Mailboxes.new.Goals as goal

pub returns : goal.returns
returns c = record { at = no_queues c.new.result c.new.ensures.empty; kept = none_kept c.new-2.result c.new-2.ensures.empty; made = refl }
