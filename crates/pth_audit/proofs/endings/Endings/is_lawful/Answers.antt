use Rattle.pth_audit.proofs.Following.{said, asked}
use Rattle.pth_audit.proofs.endings.Endings.is_lawful.Goals as goal

pub returns-clause-yes : goal.returns-clause-yes
returns-clause-yes c = λ yes marks f. said c.args.self.now marks f c.args.mark.now (c.asks_all.ensures.yes yes)

pub returns-clause-no : goal.returns-clause-no
returns-clause-no c = λ no marks f orderly. c.asks_all.ensures.no no (asked c.args.self.now marks f c.args.mark.now orderly)
