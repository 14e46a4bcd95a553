use Rattle.std.proofs.Common.{None}
use Rattle.pth_audit.proofs.MailTables.{kept_put}
use Rattle.pth_audit.proofs.mailboxes.forget.Goals as goal

pub returns : goal.returns
returns c = kept_put c.args.kept.now c.remove-stored.new.self c.args.n None c.remove-stored.ensures.updates
