use Rattle.pth_audit.proofs.MailTests.{judged}
use Rattle.pth_audit.proofs.mailboxes.Mailboxes.is_lawful.Goals as goal

pub returns : goal.returns
returns c = judged c.args.self.now c.args.mark.now c.is_in_order.result c.is_in_order.ensures
