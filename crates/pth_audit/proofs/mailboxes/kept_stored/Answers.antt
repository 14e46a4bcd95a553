use Rattle.std.proofs.Common.{◌∙◌}
use Rattle.pth_audit.proofs.MailTables.{kept_at}
use Rattle.pth_audit.proofs.mailboxes.kept_stored.Goals as goal

pub returns : goal.returns
returns c = kept_at c.args.kept.now c.args.n c.copied.result (c.copied.ensures ∙ c.get.ensures.value)
