use Rattle.pth_turns.proofs.Refused.{no_an_answer_after_the_end, no_a_dispatch_after_the_end, no_a_wake_after_the_end, no_an_end_in_anothers_turn, no_a_line_while_another_ends, no_a_cancellation_of_its_own_from_outside, no_a_dispatch_after_a_kill}
use Rattle.pth_turns.proofs.turns.in_turns_refuses_ends.Goals as goal

pub returns-clause-answer : goal.returns-clause-answer
returns-clause-answer c = no_an_answer_after_the_end

pub returns-clause-dispatch : goal.returns-clause-dispatch
returns-clause-dispatch c = no_a_dispatch_after_the_end

pub returns-clause-wake : goal.returns-clause-wake
returns-clause-wake c = no_a_wake_after_the_end

pub returns-clause-another : goal.returns-clause-another
returns-clause-another c = no_an_end_in_anothers_turn

pub returns-clause-line : goal.returns-clause-line
returns-clause-line c = no_a_line_while_another_ends

pub returns-clause-own : goal.returns-clause-own
returns-clause-own c = no_a_cancellation_of_its_own_from_outside

pub returns-clause-killed : goal.returns-clause-killed
returns-clause-killed c = no_a_dispatch_after_a_kill
