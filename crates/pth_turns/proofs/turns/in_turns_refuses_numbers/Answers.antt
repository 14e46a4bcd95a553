use Rattle.pth_turns.proofs.Refused.{no_a_turn_is_skipped, no_a_turn_comes_again, no_a_moment_falls, no_time_moves_back, no_a_spawn_skips_a_number}
use Rattle.pth_turns.proofs.turns.in_turns_refuses_numbers.Goals as goal

pub returns-clause-skipped : goal.returns-clause-skipped
returns-clause-skipped c = no_a_turn_is_skipped

pub returns-clause-again : goal.returns-clause-again
returns-clause-again c = no_a_turn_comes_again

pub returns-clause-falls : goal.returns-clause-falls
returns-clause-falls c = no_a_moment_falls

pub returns-clause-back : goal.returns-clause-back
returns-clause-back c = no_time_moves_back

pub returns-clause-spawn : goal.returns-clause-spawn
returns-clause-spawn c = no_a_spawn_skips_a_number
