use Rattle.pth_laws.proofs.Refused.{a_level_to_await, takes_back_alone, answered_alone, takes_back_once}
use Rattle.pth_laws.proofs.exclusive.exclusive_refuses_awaits.Goals as goal

pub returns-clause-level : goal.returns-clause-level
returns-clause-level c = a_level_to_await

pub returns-clause-took : goal.returns-clause-took
returns-clause-took c = takes_back_alone

pub returns-clause-answered : goal.returns-clause-answered
returns-clause-answered c = answered_alone

pub returns-clause-once : goal.returns-clause-once
returns-clause-once c = takes_back_once
