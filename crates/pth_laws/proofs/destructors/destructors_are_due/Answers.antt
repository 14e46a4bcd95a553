use Rattle.pth_laws.proofs.NextDue.{next_is, none_is}
use Rattle.pth_laws.proofs.destructors.destructors_are_due.Goals as goal

pub returns-clause-next : goal.returns-clause-next
returns-clause-next c = next_is

pub returns-clause-none : goal.returns-clause-none
returns-clause-none c = none_is
