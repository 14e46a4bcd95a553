-- Marks that the law of turns refuses, each for one reason, and marks that it takes.
use Rattle.std.specs.Prelude.{ℕ, pos, negsuc, List, [], ◌∷◌, None}
use Rattle.pth_base.specs.declared.answer.Answer.TheVariants.{Int}
use Rattle.pth_base.specs.declared.call.Call.TheVariants as call
use Rattle.pth_base.specs.declared.ids.Tid.{Tid}
use Rattle.pth_base.specs.declared.mark.Mark.{Mark}
use Rattle.pth_base.specs.declared.mark.Mark.TheVariants as mark
use Rattle.pth_laws.specs.Examples.{one, two}

-- the next turn, at a moment
abbrev pub dispatched : (turn at : ℕ) → Tid → Mark
dispatched turn at t = mark.Dispatch turn at t (pos 0) 0 0

abbrev pub yields : Tid → Mark
yields t = mark.Answered t (call.Yield (pos 0)) (Int (pos 1))

abbrev pub asks_who : Tid → Mark
asks_who t = mark.Answered t call.SelfTid (Int (pos t.0))

-- a spawn is answered this number
abbrev pub spawns : Tid → ℕ → Mark
spawns t n = mark.Answered t (call.Spawn (pos 0) (pos 0) (pos 0)) (Int (pos n))

abbrev pub naps : Tid → Mark
naps t = mark.Waits t (call.Nap (pos 5))

abbrev pub woken : Tid → Mark
woken t = mark.Woke t (pos 1)

abbrev pub ended : Tid → Mark
ended t = mark.Ended t (pos 0)

-- in the turn of thread 1, at moment 5, thread 2 is made
abbrev pub in_first_turn : List Mark → List Mark
in_first_turn rest = dispatched 1 5 one ∷ spawns one 2 ∷ rest

-- thread 1 yields, and it is the turn of thread 2
abbrev pub in_second_turn : List Mark → List Mark
in_second_turn rest = in_first_turn (yields one ∷ dispatched 2 5 two ∷ rest)

-- thread 2 waits, and it is nobody's turn
abbrev pub while_two_naps : List Mark → List Mark
while_two_naps rest = in_second_turn (naps two ∷ rest)

-- ---- refused

abbrev pub a_line_in_anothers_turn : List Mark
a_line_in_anothers_turn = in_first_turn (yields two ∷ [])

abbrev pub a_line_after_a_yield : List Mark
a_line_after_a_yield = in_first_turn (yields one ∷ asks_who one ∷ [])

abbrev pub a_line_after_a_wait : List Mark
a_line_after_a_wait = while_two_naps (asks_who two ∷ [])

abbrev pub a_dispatch_within_a_turn : List Mark
a_dispatch_within_a_turn = in_first_turn (dispatched 2 5 two ∷ [])

abbrev pub a_wake_within_a_turn : List Mark
a_wake_within_a_turn = while_two_naps (dispatched 3 5 one ∷ woken two ∷ [])

abbrev pub time_moves_within_a_turn : List Mark
time_moves_within_a_turn = in_first_turn (mark.Moved 6 ∷ [])

abbrev pub a_turn_is_skipped : List Mark
a_turn_is_skipped = in_first_turn (yields one ∷ dispatched 3 5 two ∷ [])

abbrev pub a_turn_comes_again : List Mark
a_turn_comes_again = in_first_turn (yields one ∷ dispatched 1 5 two ∷ [])

abbrev pub a_moment_falls : List Mark
a_moment_falls = in_first_turn (yields one ∷ dispatched 2 4 two ∷ [])

abbrev pub time_moves_back : List Mark
time_moves_back = while_two_naps (mark.Moved 4 ∷ [])

abbrev pub a_dispatch_of_nobody : List Mark
a_dispatch_of_nobody = dispatched 1 5 two ∷ []

abbrev pub a_spawn_skips_a_number : List Mark
a_spawn_skips_a_number = dispatched 1 5 one ∷ spawns one 3 ∷ []

abbrev pub a_wake_of_who_did_not_wait : List Mark
a_wake_of_who_did_not_wait = in_first_turn (yields one ∷ woken two ∷ [])

abbrev pub a_wake_comes_twice : List Mark
a_wake_comes_twice = while_two_naps (woken two ∷ woken two ∷ [])

abbrev pub a_dispatch_of_who_waits : List Mark
a_dispatch_of_who_waits = while_two_naps (dispatched 3 5 two ∷ [])

abbrev pub an_answer_after_the_end : List Mark
an_answer_after_the_end = in_second_turn (ended two ∷ asks_who two ∷ [])

abbrev pub a_dispatch_after_the_end : List Mark
a_dispatch_after_the_end = in_second_turn (ended two ∷ dispatched 3 5 two ∷ [])

-- thread 1 cancels thread 2, which waits and ends, and is woken
abbrev pub a_wake_after_the_end : List Mark
a_wake_after_the_end = while_two_naps (dispatched 3 5 one ∷ mark.Canceled two None ∷ ended two ∷ yields one ∷ woken two ∷ [])

-- thread 1 has a line before thread 2, which it cancels, has ended
abbrev pub a_line_while_another_ends : List Mark
a_line_while_another_ends = in_first_turn (mark.Canceled two None ∷ asks_who one ∷ [])

-- thread 2 ends in the turn of thread 1, which did not cancel it
abbrev pub an_end_in_anothers_turn : List Mark
an_end_in_anothers_turn = in_first_turn (ended two ∷ [])

-- thread 1 cancels itself as another's
abbrev pub a_cancellation_of_its_own_from_outside : List Mark
a_cancellation_of_its_own_from_outside = in_first_turn (mark.Canceled one None ∷ [])

abbrev pub a_dispatch_after_a_kill : List Mark
a_dispatch_after_a_kill = in_first_turn (mark.Answered one call.Kill (Int (pos 1)) ∷ dispatched 2 5 two ∷ [])

-- ---- taken

-- thread 2 naps, time moves, it is woken and answered, and thread 1 cancels it in its own turn
abbrev pub a_nap_and_a_cancellation : List Mark
a_nap_and_a_cancellation =
    while_two_naps
    (mark.Moved 10 ∷ woken two ∷ dispatched 3 10 two ∷ mark.Answered two (call.Nap (pos 5)) (Int (pos 1)) ∷ yields two ∷ dispatched 4 10 one ∷ mark.Canceled two None ∷ mark.Ended two (negsuc 0) ∷ mark.Answered one (call.Cancel (pos 2)) (Int (pos 1)) ∷ ended one ∷ [])
