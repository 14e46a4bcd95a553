-- Lists that the law of turns refuses: the mark that is not allowed, in each of them. And a list that it takes.
use Rattle.std.proofs.Common.{refl, sym}
use Rattle.std.proofs.lemmas.Bool.{true≢false}
use Rattle.pth_base.specs.Table.{put}
use Rattle.pth_turns.specs.Examples
use Rattle.pth_turns.specs.Turns.{InTurns}

pub no_a_line_in_anothers_turn : InTurns Examples.a_line_in_anothers_turn → ⊥
no_a_line_in_anothers_turn h = true≢false (sym h.1.1.0)

pub no_a_line_after_a_yield : InTurns Examples.a_line_after_a_yield → ⊥
no_a_line_after_a_yield h = true≢false (sym h.1.1.1.0)

pub no_a_line_after_a_wait : InTurns Examples.a_line_after_a_wait → ⊥
no_a_line_after_a_wait h = true≢false (sym h.1.1.1.1.1.0)

pub no_a_dispatch_within_a_turn : InTurns Examples.a_dispatch_within_a_turn → ⊥
no_a_dispatch_within_a_turn h = true≢false (sym h.1.1.0)

pub no_a_wake_within_a_turn : InTurns Examples.a_wake_within_a_turn → ⊥
no_a_wake_within_a_turn h = true≢false (sym h.1.1.1.1.1.1.0)

pub no_time_moves_within_a_turn : InTurns Examples.time_moves_within_a_turn → ⊥
no_time_moves_within_a_turn h = true≢false (sym h.1.1.0)

pub no_a_turn_is_skipped : InTurns Examples.a_turn_is_skipped → ⊥
no_a_turn_is_skipped h = true≢false (sym h.1.1.1.0)

pub no_a_turn_comes_again : InTurns Examples.a_turn_comes_again → ⊥
no_a_turn_comes_again h = true≢false (sym h.1.1.1.0)

pub no_a_moment_falls : InTurns Examples.a_moment_falls → ⊥
no_a_moment_falls h = true≢false (sym h.1.1.1.0)

pub no_time_moves_back : InTurns Examples.time_moves_back → ⊥
no_time_moves_back h = true≢false (sym h.1.1.1.1.1.0)

pub no_a_spawn_skips_a_number : InTurns Examples.a_spawn_skips_a_number → ⊥
no_a_spawn_skips_a_number h = true≢false (sym h.1.0)

pub no_a_dispatch_of_nobody : InTurns Examples.a_dispatch_of_nobody → ⊥
no_a_dispatch_of_nobody h = true≢false (sym h.0)

pub no_a_wake_of_who_did_not_wait : InTurns Examples.a_wake_of_who_did_not_wait → ⊥
no_a_wake_of_who_did_not_wait h = true≢false (sym h.1.1.1.0)

pub no_a_wake_comes_twice : InTurns Examples.a_wake_comes_twice → ⊥
unfolding put
no_a_wake_comes_twice h = true≢false (sym h.1.1.1.1.1.1.0)

pub no_a_dispatch_of_who_waits : InTurns Examples.a_dispatch_of_who_waits → ⊥
unfolding put
no_a_dispatch_of_who_waits h = true≢false (sym h.1.1.1.1.1.0)

pub no_an_answer_after_the_end : InTurns Examples.an_answer_after_the_end → ⊥
no_an_answer_after_the_end h = true≢false (sym h.1.1.1.1.1.0)

pub no_a_dispatch_after_the_end : InTurns Examples.a_dispatch_after_the_end → ⊥
unfolding put
no_a_dispatch_after_the_end h = true≢false (sym h.1.1.1.1.1.0)

pub no_a_wake_after_the_end : InTurns Examples.a_wake_after_the_end → ⊥
unfolding put
no_a_wake_after_the_end h = true≢false (sym h.1.1.1.1.1.1.1.1.1.0)

pub no_an_end_in_anothers_turn : InTurns Examples.an_end_in_anothers_turn → ⊥
no_an_end_in_anothers_turn h = true≢false (sym h.1.1.0)

pub no_a_line_while_another_ends : InTurns Examples.a_line_while_another_ends → ⊥
no_a_line_while_another_ends h = true≢false (sym h.1.1.1.0)

pub no_a_cancellation_of_its_own_from_outside : InTurns Examples.a_cancellation_of_its_own_from_outside → ⊥
no_a_cancellation_of_its_own_from_outside h = true≢false (sym h.1.1.0)

pub no_a_dispatch_after_a_kill : InTurns Examples.a_dispatch_after_a_kill → ⊥
no_a_dispatch_after_a_kill h = true≢false (sym h.1.1.1.0)

-- ---- taken

pub all_allowed : InTurns Examples.a_nap_and_a_cancellation
unfolding put
all_allowed = (refl, (refl, (refl, (refl, (refl, (refl, (refl, (refl, (refl, (refl, (refl, (refl, (refl, (refl, (refl, tt)))))))))))))))
