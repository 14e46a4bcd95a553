use Rattle.pth_laws.proofs.Refused.{one_owner, a_level_to_give, all_given_up, no_reader_beside, no_writer_beside, no_other_leaves, no_mutex_left, no_lock_left, none_left_after_a_kill, seven_gives_nothing}
use Rattle.pth_laws.proofs.exclusive.exclusive_refuses.Goals as goal

pub returns-clause-owners : goal.returns-clause-owners
returns-clause-owners c = one_owner

pub returns-clause-release : goal.returns-clause-release
returns-clause-release c = a_level_to_give

pub returns-clause-writer : goal.returns-clause-writer
returns-clause-writer c = no_reader_beside

pub returns-clause-given_up : goal.returns-clause-given_up
returns-clause-given_up c = all_given_up

pub returns-clause-reader : goal.returns-clause-reader
returns-clause-reader c = no_writer_beside

pub returns-clause-another : goal.returns-clause-another
returns-clause-another c = no_other_leaves

pub returns-clause-mutex : goal.returns-clause-mutex
returns-clause-mutex c = no_mutex_left

pub returns-clause-lock : goal.returns-clause-lock
returns-clause-lock c = no_lock_left

pub returns-clause-killed : goal.returns-clause-killed
returns-clause-killed c = none_left_after_a_kill

pub returns-clause-seven : goal.returns-clause-seven
returns-clause-seven c = seven_gives_nothing
