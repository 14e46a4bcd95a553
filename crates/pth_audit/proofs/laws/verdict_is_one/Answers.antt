use Rattle.pth_audit.proofs.Verdicts.{one_verdict}
use Rattle.pth_audit.proofs.laws.verdict_is_one.Goals as goal

pub returns-clause-one : goal.returns-clause-one
returns-clause-one c = λ marks v w a b. one_verdict marks v w a b

pub returns-clause-yes : goal.returns-clause-yes
returns-clause-yes c = λ marks. (λ l. l, λ l. l)
