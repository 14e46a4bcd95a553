use Rattle.pth_laws.proofs.Refused.{not_first_out, none_missing, none_missing_after_a_kill, none_left, none_left_out_of_range, no_answer, nothing_later, handlers_first, least_first, same_value, set_again, pop_runs, ends_with_minus_one}
use Rattle.pth_laws.proofs.orderly.orderly_refuses.Goals as goal

pub returns-clause-order : goal.returns-clause-order
returns-clause-order c = not_first_out

pub returns-clause-handler : goal.returns-clause-handler
returns-clause-handler c = none_missing

pub returns-clause-killed : goal.returns-clause-killed
returns-clause-killed c = none_missing_after_a_kill

pub returns-clause-destructor : goal.returns-clause-destructor
returns-clause-destructor c = none_left

pub returns-clause-key : goal.returns-clause-key
returns-clause-key c = none_left_out_of_range

pub returns-clause-canceled : goal.returns-clause-canceled
returns-clause-canceled c = no_answer

pub returns-clause-ended : goal.returns-clause-ended
returns-clause-ended c = nothing_later

pub returns-clause-first : goal.returns-clause-first
returns-clause-first c = handlers_first

pub returns-clause-least : goal.returns-clause-least
returns-clause-least c = least_first

pub returns-clause-value : goal.returns-clause-value
returns-clause-value c = same_value

pub returns-clause-again : goal.returns-clause-again
returns-clause-again c = set_again

pub returns-clause-pop : goal.returns-clause-pop
returns-clause-pop c = pop_runs

pub returns-clause-minus_one : goal.returns-clause-minus_one
returns-clause-minus_one c = ends_with_minus_one
