use Rattle.pth_turns.proofs.Refused.{no_a_line_in_anothers_turn, no_a_line_after_a_yield, no_a_line_after_a_wait, no_a_dispatch_within_a_turn, no_a_wake_within_a_turn, no_time_moves_within_a_turn}
use Rattle.pth_turns.proofs.turns.in_turns_refuses_lines.Goals as goal

pub returns-clause-another : goal.returns-clause-another
returns-clause-another c = no_a_line_in_anothers_turn

pub returns-clause-yielded : goal.returns-clause-yielded
returns-clause-yielded c = no_a_line_after_a_yield

pub returns-clause-waits : goal.returns-clause-waits
returns-clause-waits c = no_a_line_after_a_wait

pub returns-clause-dispatch : goal.returns-clause-dispatch
returns-clause-dispatch c = no_a_dispatch_within_a_turn

pub returns-clause-wake : goal.returns-clause-wake
returns-clause-wake c = no_a_wake_within_a_turn

pub returns-clause-moved : goal.returns-clause-moved
returns-clause-moved c = no_time_moves_within_a_turn
