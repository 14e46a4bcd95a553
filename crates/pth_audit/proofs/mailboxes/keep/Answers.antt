use Rattle.std.proofs.Common.{Some}
use Rattle.pth_base.proofs.Tables.{not_same}
use Rattle.pth_audit.proofs.MailTables.{kept_put}
use Rattle.pth_audit.proofs.mailboxes.keep.Goals as goal

pub returns : goal.returns
returns c =
    rw (not_same c.args.stored.reply 0 c.if-stored-eq0.false)
    (kept_put c.args.kept.now c.insert.new.self c.args.stored.number (Some c.args.stored) c.in_ok-_before.ensures.updates)
