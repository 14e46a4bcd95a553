use Rattle.pth_turns.proofs.Refused.{no_a_dispatch_of_nobody, no_a_wake_of_who_did_not_wait, no_a_wake_comes_twice, no_a_dispatch_of_who_waits}
use Rattle.pth_turns.proofs.turns.in_turns_refuses_who_does_not_wait.Goals as goal

pub returns-clause-nobody : goal.returns-clause-nobody
returns-clause-nobody c = no_a_dispatch_of_nobody

pub returns-clause-wake : goal.returns-clause-wake
returns-clause-wake c = no_a_wake_of_who_did_not_wait

pub returns-clause-twice : goal.returns-clause-twice
returns-clause-twice c = no_a_wake_comes_twice

pub returns-clause-waits : goal.returns-clause-waits
returns-clause-waits c = no_a_dispatch_of_who_waits
