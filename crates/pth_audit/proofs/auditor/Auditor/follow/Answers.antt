use Rattle.std.proofs.lemmas.Result.{IfOk-weaker}
use Rattle.pth_laws.specs.Exclusive.{IsExclusiveAt}
use Rattle.pth_audit.proofs.Auditing.{everywhere_last}
use Rattle.pth_audit.proofs.Counted.{no_overflow}
use Rattle.pth_audit.proofs.auditor.Auditor.follow.Goals as goal

pub returns-in_err-add-clause-overflow : goal.returns-in_err-add-clause-overflow
returns-in_err-add-clause-overflow c = no_overflow c.from_residual.result c.from_residual.ensures.1

pub returns-clause-follows : goal.returns-clause-follows
returns-clause-follows c = IfOk-weaker c.add-3.result _ _ (λ x mail marks f lawful. record {
  lawful = lawful;
  endings = c.in_ok-add.ensures marks f.endings;
  holds = c.in_ok-add-2.ensures.follows marks f.holds (everywhere_last IsExclusiveAt marks c.args.mark.now lawful.exclusive);
  mail = mail marks f.mail;
}) c.add-3.ensures.follows

pub returns-clause-overflow : goal.returns-clause-overflow
returns-clause-overflow c = λ over marks f. c.add-3.ensures.overflow over marks f.mail
