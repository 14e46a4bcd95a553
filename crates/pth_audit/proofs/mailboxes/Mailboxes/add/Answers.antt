use Rattle.pth_audit.proofs.Counted.{no_overflow, puts_overflow}
use Rattle.pth_audit.proofs.MailFollowing.{mail_more}
use Rattle.pth_audit.proofs.mailboxes.Mailboxes.add.Goals as goal

pub returns-then-self-clause-overflow : goal.returns-then-self-clause-overflow
returns-then-self-clause-overflow c = λ over marks f. puts_overflow c.args.self.now marks f c.if-self.true

pub returns-in_err-follow-clause-overflow : goal.returns-in_err-follow-clause-overflow
returns-in_err-follow-clause-overflow c = no_overflow c.from_residual.result c.from_residual.ensures.1

pub returns-clause-follows : goal.returns-clause-follows
returns-clause-follows c = mail_more c.args.self.now c.follow.new.self c.args.mark.now c.in_ok-follow.ensures
