-- Lists that laws refuse, and lists that they take.
use Rattle.std.proofs.Common.{◌≡◌, ◌≢◌, ◌<◌, ◌≤◌, ◌⊎◌, ℕ, ◌==◌, pos, negsuc, Bool, true, false, List, [], ◌∷◌, length, nat_le, ℤ, int_le, refl, ap, sym, ◌∙◌, subst, if◌then◌else◌, inl, inr, Some, None, arith}
use Rattle.std.specs.List.{list_any}
use Rattle.std.proofs.lemmas.Bool.{and_parts, true≢false}
use Rattle.pth_base.specs.declared.act.Act.TheVariants as act
use Rattle.pth_base.specs.declared.answer.Answer.TheVariants.{Int}
use Rattle.pth_base.specs.declared.call.Call.TheVariants as call
use Rattle.pth_base.specs.declared.ids.HandlerId.{HandlerId}
use Rattle.pth_base.specs.declared.ids.Tid.{Tid}
use Rattle.pth_base.specs.declared.mark.Mark.{Mark}
use Rattle.pth_base.specs.declared.mark.Mark.TheVariants as mark
use Rattle.pth_base.proofs.Tables.{same_means}
use Rattle.pth_numbered.specs.Operands.{is_zero}
use Rattle.pth_store.specs.Cleanups.{PushedHandler}
use Rattle.pth_model.specs.Resources.{handler}
use Rattle.pth_laws.specs.Marks.{is_same, is_end_of, is_cancellation_of, before_block, block_at_end}
use Rattle.pth_laws.specs.Orderly.{Orderly, IsOrderlyAt, pending_handlers, handlers_in, AreHandlersFirst, value_of, key_at, first_stage, Owes, NoneOwes, IsLeast, IsNext, IsNoneNext, IsSequence}
use Rattle.pth_laws.specs.Exclusive.{Exclusive, is_of, awaits, takes_level, gives, gives_up, levels, enters, leaves, reads, writes, IsExclusiveAt}
use Rattle.pth_laws.specs.Initialised.{Initialised, initialises_mutex, IsInitialisedAt}
use Rattle.pth_laws.specs.Examples
use Rattle.pth_laws.specs.Examples.{one, two, handler_of_number, done_by, takes_mutex, enters_it, awaits_it, with_value}
use Rattle.pth_laws.proofs.Numbers.{same_number}
use Rattle.pth_laws.proofs.Prefixes.{said_each}

one_is_zero : ◌≡◌ {A = ℕ} 1 0 → ⊥
one_is_zero h = omega (arith, h)

abbrev pushed : ℤ → Mark
pushed v = done_by one (call.CleanupPush (pos 0) v)

abbrev end_of_one : Mark
end_of_one = mark.Ended one (pos 0)

-- ---- orderly

pub no_answer : Orderly Examples.an_answer_after_a_cancellation → ⊥
no_answer h = true≢false ((h (mark.Canceled one None ∷ []) [] (mark.Answered one call.SelfTid (Int (pos 1))) refl).no_call_after_cancellation 1 refl)

pub nothing_later : Orderly Examples.a_mark_after_the_end → ⊥
nothing_later h = true≢false ((h (end_of_one ∷ []) [] (mark.Noted one (pos 3)) refl).no_mark_after_end 1 refl)

pub none_left : Orderly Examples.a_destructor_is_left → ⊥
unfolding before_block block_at_end IsSequence
none_left h =
    let before = mark.Answered one (call.KeyCreate (Some (pos 0))) (Int (pos 0)) ∷ done_by one (call.KeySet (pos 0) (pos 7)) ∷ [] in
    ((h before [] end_of_one refl).end_runs_all_destructors one (pos 0) refl).0 (pos 0) (handler (pos 0)) (pos 7) refl (record { live = refl; value = refl; set = refl })

pub none_left_out_of_range : Orderly Examples.a_key_out_of_range_is_left → ⊥
unfolding before_block block_at_end IsSequence
none_left_out_of_range h =
    let before = mark.Answered one (call.KeyCreate (Some (pos 0))) (Int (pos 300)) ∷ done_by one (call.KeySet (pos 300) (pos 7)) ∷ [] in
    ((h before [] end_of_one refl).end_runs_all_destructors one (pos 0) refl).0 (pos 300) (handler (pos 0)) (pos 7) refl (record { live = refl; value = refl; set = refl })

pub none_missing : Orderly Examples.a_handler_is_missing → ⊥
unfolding block_at_end handlers_in
none_missing h =
    let before = pushed (pos 5) ∷ pushed (pos 6) ∷ mark.Handler one (handler_of_number 0) (pos 6) ∷ [] in
    true≢false (ap (λ (cs : List PushedHandler). nat_le 2 (length cs)) (sym ((h before [] end_of_one refl).end_runs_all_pending one (pos 0) refl)))

pub none_missing_after_a_kill : Orderly Examples.an_end_after_a_kill → ⊥
unfolding block_at_end handlers_in
none_missing_after_a_kill h =
    let before = pushed (pos 5) ∷ done_by two call.Kill ∷ [] in
    true≢false (ap (λ (cs : List PushedHandler). nat_le 1 (length cs)) (sym ((h before [] end_of_one refl).end_runs_all_pending one (pos 0) refl)))

-- the argument of the first
first_argument : List PushedHandler → ℤ
first_argument [] = pos 0
first_argument (c ∷ cs) = c.1

pub not_first_out : Orderly Examples.first_in_first_out → ⊥
unfolding block_at_end handlers_in first_argument
not_first_out h =
    let before = pushed (pos 5) ∷ pushed (pos 6) ∷ mark.Handler one (handler_of_number 0) (pos 5) ∷ mark.Handler one (handler_of_number 0) (pos 6) ∷ [] in
    true≢false (ap (λ (cs : List PushedHandler). int_le (first_argument cs) (pos 5)) ((h before [] end_of_one refl).end_runs_all_pending one (pos 0) refl))

pub ends_with_minus_one : Orderly Examples.a_canceled_thread_ends_with_0 → ⊥
ends_with_minus_one h = let value : pos 0 ≡ negsuc 0 = (h (mark.Canceled one None ∷ []) [] end_of_one refl).canceled_ends_with_minus_one one (pos 0) refl refl in cc

pub pop_runs : Orderly Examples.a_pop_runs_nothing → ⊥
unfolding block_at_end handlers_in
pop_runs h = true≢false (ap (λ (cs : List PushedHandler). nat_le 1 (length cs)) (sym ((h (pushed (pos 5) ∷ []) [] (done_by one (call.CleanupPop (pos 1))) refl).pop_runs_last_pending one (pos 1) refl refl)))

pub handlers_first : Orderly Examples.a_handler_after_a_destructor → ⊥
unfolding block_at_end handlers_in AreHandlersFirst
handlers_first h =
    let before = pushed (pos 5) ∷ with_value 0 7 (mark.Destructor one 0 (pos 7) ∷ mark.Handler one (handler_of_number 0) (pos 5) ∷ []) in
    true≢false (ap (λ (cs : List PushedHandler). nat_le 1 (length cs)) ((h before [] end_of_one refl).end_runs_handlers_first one (pos 0) refl))

-- if thread 1 has values under keys 0 and 1, key 1 is not the least
abbrev two_valued : List Mark
two_valued = with_value 0 7 (with_value 1 8 [])

not_least : IsLeast 1 two_valued None (pos 1) (pos 8) → ⊥
not_least x = true≢false (sym (x.least (pos 0) (handler (pos 0)) (pos 7) refl (record { live = refl; value = refl; set = refl })))

pub least_first : Orderly Examples.a_later_destructor_first → ⊥
unfolding before_block block_at_end IsSequence
least_first h =
    let all = (h (with_value 0 7 (with_value 1 8 (mark.Destructor one 1 (pos 8) ∷ mark.Destructor one 0 (pos 7) ∷ []))) [] end_of_one refl).end_runs_all_destructors one (pos 0) refl in
    by_next all.0 all.1
  where
    by_next : (rounds : ℕ) → IsNext 1 two_valued first_stage (pos 1) (pos 8) rounds → ⊥
    by_next rounds (inl due) = not_least due.0
    by_next rounds (inr due) = not_least due.first

-- thread 1 has the value 7 under key 0, and no other
other_value : IsLeast 1 (with_value 0 7 []) None (pos 0) (pos 8) → ⊥
other_value x = true≢false (ap (λ (v : ℤ). int_le v (pos 7)) x.owes.value)

pub same_value : Orderly Examples.a_destructor_of_another_value → ⊥
unfolding before_block block_at_end IsSequence
same_value h =
    let all = (h (with_value 0 7 (mark.Destructor one 0 (pos 8) ∷ [])) [] end_of_one refl).end_runs_all_destructors one (pos 0) refl in
    by_next all.0 all.1
  where
    by_next : (rounds : ℕ) → IsNext 1 (with_value 0 7 []) first_stage (pos 0) (pos 8) rounds → ⊥
    by_next rounds (inl due) = other_value due.0
    by_next rounds (inr due) = other_value due.first

abbrev set_more : Mark
set_more = mark.Acted one (act.SetKey (pos 0) (pos 9)) (Int (pos 1))

abbrev valued_again : List Mark
valued_again = with_value 0 7 (mark.Destructor one 0 (pos 7) ∷ set_more ∷ [])

-- after the first destructor of the first round another round may begin
one_more : (rounds : ℕ) → IsNext 1 (with_value 0 7 []) first_stage (pos 0) (pos 7) rounds → IsNoneNext 1 valued_again (record { rounds = rounds; last = Some (pos 0) }) → ⊥
one_more rounds next none = by_end none.1
  where
    few : IsNext 1 (with_value 0 7 []) first_stage (pos 0) (pos 7) rounds → rounds ≤ 2
    few (inl due) = let same = due.1 in omega (arith, same)
    few (inr due) = let more = due.more in omega (arith, more)

    by_end : (4 ≤ rounds) ⊎ NoneOwes 1 valued_again None → ⊥
    by_end (inl many) = let below = few next in omega (arith, many, below)
    by_end (inr nothing) = nothing (pos 0) (handler (pos 0)) (pos 9) refl (record { live = refl; value = refl; set = refl })

pub set_again : Orderly Examples.a_value_is_set_again → ⊥
unfolding before_block block_at_end IsSequence
set_again h = let all = (h valued_again [] end_of_one refl).end_runs_all_destructors one (pos 0) refl in one_more all.0 all.1 all.2

-- ---- orderly, though no run tells it

abbrev key_made : Mark
key_made = mark.Answered one (call.KeyCreate (Some (pos 0))) (Int (pos 300))

abbrev key_valued : Mark
key_valued = done_by one (call.KeySet (pos 300) (pos 7))

abbrev key_destroyed : Mark
key_destroyed = mark.Destructor one 300 (pos 7)

abbrev valued : List Mark
valued = key_made ∷ key_valued ∷ []

abbrev destroyed : List Mark
destroyed = key_made ∷ key_valued ∷ key_destroyed ∷ []

-- a mark that neither ends a thread nor pops a handler, if no thread has ended or was canceled
plain_orderly : (before : List Mark) (m : Mark) → ((t : ℕ) → list_any (is_end_of t) before ≡ false) → ((t : ℕ) → list_any (is_cancellation_of t) before ≡ false)
    → ((t : Tid) (v : ℤ) → m ≡ mark.Ended t v → ⊥) → ((t : Tid) (v : ℤ) → m ≡ mark.Answered t (call.CleanupPop v) (Int (pos 1)) → ⊥) → IsOrderlyAt before m
plain_orderly before m ended canceled not_end not_pop = record {
  no_mark_after_end = λ t is. ended t;
  no_call_after_cancellation = λ t is. canceled t;
  canceled_ends_with_minus_one = λ t v is _. absurd (not_end t v is);
  pop_runs_last_pending = λ t v is _. absurd (not_pop t v is);
  end_runs_all_pending = λ t v is. absurd (not_end t v is);
  end_runs_handlers_first = λ t v is. absurd (not_end t v is);
  end_runs_all_destructors = λ t v is. absurd (not_end t v is);
}

-- the key 300 alone is live
live_is : (key : ℤ) (h : HandlerId) → key_at key valued ≡ Some (Some h) → key ≡ pos 300
live_is key h live = by_test (is_same key (pos 300)) refl live
  where
    by_test : (b : Bool) → is_same key (pos 300) ≡ b → (if b then Some (Some (handler (pos 0))) else None) ≡ Some (Some h) → key ≡ pos 300
    by_test true same found = same_number key (pos 300) same
    by_test false other found = absurd (cc found)

least_is : IsLeast 1 valued None (pos 300) (pos 7)
least_is = record {
  later = refl;
  destructor = handler (pos 0);
  owes = record { live = refl; value = refl; set = refl };
  least = λ k h x later owes. subst (λ (z : ℤ). int_le (pos 300) z ≡ true) (sym (live_is k h owes.live)) refl;
}

-- once its destructor ran, thread 1 owes none
none_owed : (key : ℤ) (h : HandlerId) (v : ℤ) → Owes 1 destroyed key h v → ⊥
none_owed key h v owes =
    let zero : value_of 1 key destroyed ≡ pos 0 = subst (λ (z : ℤ). value_of 1 z destroyed ≡ pos 0) (sym (live_is key h owes.live)) refl in
    true≢false (ap is_zero (sym zero ∙ owes.value) ∙ owes.set)

end_at : (t : Tid) (v : ℤ) → end_of_one ≡ mark.Ended t v → one ≡ t
end_at t v is = cc

end_orderly : IsOrderlyAt destroyed end_of_one
unfolding before_block block_at_end handlers_in AreHandlersFirst IsSequence
end_orderly = record {
  no_mark_after_end = λ t is. refl;
  no_call_after_cancellation = λ t is. refl;
  canceled_ends_with_minus_one = λ t v is canceled. absurd (true≢false (sym canceled));
  pop_runs_last_pending = λ t v is some. absurd (cc is);
  end_runs_all_pending = λ t v is. subst (λ (u : Tid). handlers_in (block_at_end u.0 destroyed) ≡ pending_handlers u.0 destroyed) (end_at t v is) refl;
  end_runs_handlers_first = λ t v is. subst (λ (u : Tid). AreHandlersFirst (block_at_end u.0 destroyed)) (end_at t v is) refl;
  end_runs_all_destructors = λ t v is.
      subst (λ (u : Tid). IsSequence u.0 (before_block u.0 destroyed) first_stage (block_at_end u.0 destroyed)) (end_at t v is)
      (1, inl (least_is, refl), (λ key h x later owes. none_owed key h x owes, inr (λ key h x later owes. none_owed key h x owes)));
}

pub destroyed_taken : Orderly Examples.a_key_out_of_range_is_destroyed
destroyed_taken = said_each IsOrderlyAt Examples.a_key_out_of_range_is_destroyed (
  plain_orderly [] key_made (λ t. refl) (λ t. refl) (λ t v is. cc) (λ t v is. cc),
  (
    plain_orderly (key_made ∷ []) key_valued (λ t. refl) (λ t. refl) (λ t v is. cc) (λ t v is. cc),
    (plain_orderly valued key_destroyed (λ t. refl) (λ t. refl) (λ t v is. cc) (λ t v is. cc), (end_orderly, tt)),
  ),
)

-- ---- exclusive

abbrev begun : Mark
begun = done_by one (call.MutexInit (pos 0))

abbrev lock_begun : Mark
lock_begun = done_by one (call.RwInit (pos 0))

pub one_owner : Exclusive Examples.two_owners → ⊥
one_owner h = one_is_zero ((h (begun ∷ takes_mutex one (pos 0) ∷ []) [] (takes_mutex two (pos 0)) refl).taker_is_alone 2 1 (pos 0) refl (λ same. omega (arith, same)))

pub a_level_to_give : Exclusive Examples.a_release_without_a_level → ⊥
a_level_to_give h = let some = (h (begun ∷ []) [] (done_by one (call.MutexRelease (pos 0))) refl).giver_has_level 1 (pos 0) refl in omega (arith, some)

pub no_reader_beside : Exclusive Examples.a_writer_beside_a_reader → ⊥
no_reader_beside h = true≢false ((h (lock_begun ∷ enters_it one false ∷ []) [] (enters_it two true) refl).writer_meets_no_reader 2 1 (pos 0) refl)

pub no_writer_beside : Exclusive Examples.a_reader_beside_a_writer → ⊥
no_writer_beside h = true≢false ((h (lock_begun ∷ enters_it one true ∷ []) [] (enters_it two false) refl).meets_no_writer 2 1 (pos 0) false refl)

pub no_other_leaves : Exclusive Examples.a_lock_left_by_another → ⊥
no_other_leaves h = true≢false (sym ((h (lock_begun ∷ enters_it one false ∷ []) [] (done_by two (call.RwRelease (pos 0))) refl).leaver_holds 2 (pos 0) refl))

pub all_given_up : Exclusive Examples.a_release_after_all_was_given_up → ⊥
all_given_up h = let some = (h (begun ∷ takes_mutex one (pos 0) ∷ takes_mutex one (pos 0) ∷ mark.GaveMutex one 0 ∷ []) [] (done_by one (call.MutexRelease (pos 0))) refl).giver_has_level 1 (pos 0) refl in omega (arith, some)

-- a thread that awaits

pub a_level_to_await : Exclusive Examples.an_await_without_a_level → ⊥
a_level_to_await h = let some = (h (begun ∷ []) [] (mark.Waits one awaits_it) refl).giver_has_level 1 (pos 0) refl in omega (arith, some)

pub takes_back_alone : Exclusive Examples.a_mutex_taken_back_beside_an_owner → ⊥
takes_back_alone h = one_is_zero ((h (begun ∷ takes_mutex two (pos 0) ∷ []) [] (mark.Took one 0) refl).taker_is_alone 1 2 (pos 0) refl (λ same. omega (arith, same)))

pub answered_alone : Exclusive Examples.an_await_answered_beside_an_owner → ⊥
answered_alone h = one_is_zero ((h (begun ∷ takes_mutex one (pos 0) ∷ mark.Waits one awaits_it ∷ takes_mutex two (pos 0) ∷ []) [] (done_by one awaits_it) refl).taker_is_alone 1 2 (pos 0) refl (λ same. omega (arith, same)))

pub takes_back_once : Exclusive Examples.a_mutex_taken_back_once → ⊥
takes_back_once h =
    let before = begun ∷ takes_mutex one (pos 0) ∷ mark.Waits one awaits_it ∷ mark.Took one 0 ∷ done_by one awaits_it ∷ done_by one (call.MutexRelease (pos 0)) ∷ [] in
    let some = (h before [] (done_by one (call.MutexRelease (pos 0))) refl).giver_has_level 1 (pos 0) refl in
    omega (arith, some)

pub no_mutex_left : Exclusive Examples.a_mutex_at_an_end → ⊥
no_mutex_left h = one_is_zero ((h (begun ∷ takes_mutex one (pos 0) ∷ []) [] end_of_one refl).end_has_no_level 1 (pos 0) refl)

pub no_lock_left : Exclusive Examples.a_lock_at_an_end → ⊥
no_lock_left h = true≢false ((h (lock_begun ∷ enters_it one false ∷ []) [] end_of_one refl).end_holds_no_lock 1 (pos 0) refl)

pub none_left_after_a_kill : Exclusive Examples.a_kill_keeps_levels → ⊥
none_left_after_a_kill h = one_is_zero ((h (begun ∷ takes_mutex two (pos 0) ∷ done_by one call.Kill ∷ []) [] (mark.Ended two (pos 0)) refl).end_has_no_level 2 (pos 0) refl)

pub seven_gives_nothing : Exclusive Examples.a_release_answered_seven → ⊥
seven_gives_nothing h = one_is_zero ((h (begun ∷ takes_mutex one (pos 0) ∷ mark.Answered one (call.MutexRelease (pos 0)) (Int (pos 7)) ∷ []) [] end_of_one refl).end_has_no_level 1 (pos 0) refl)

-- ---- exclusive, though no run tells it

-- a mark that takes, gives and enters as is said, and does nothing else
record DoesOnly (before : List Mark) (m : Mark) : Type 0 where
  alone : (t u : ℕ) (i : ℤ) → takes_level t i (awaits t before) m ≡ true → u ≢ t → levels u i before ≡ 0
  has : (t : ℕ) (i : ℤ) → gives t i (awaits t before) m ≡ true → 0 < levels t i before
  no_writer : (t u : ℕ) (l : ℤ) (write : Bool) → enters t l write m ≡ true → writes u l before ≡ false
  no_reader : (t u : ℕ) (l : ℤ) → enters t l true m ≡ true → reads u l before ≡ false
  gives_nothing_up : (t : ℕ) (i : ℤ) → gives_up t i m ≡ false
  leaves_nothing : (t : ℕ) (l : ℤ) → leaves t l m ≡ false
  ends_nobody : (t : ℕ) → is_end_of t m ≡ false

exclusive_by : (before : List Mark) (m : Mark) → DoesOnly before m → IsExclusiveAt before m
exclusive_by before m d = record {
  taker_is_alone = d.alone;
  giver_has_level = d.has;
  given_up_was_had = λ t i h. absurd (true≢false (sym h ∙ d.gives_nothing_up t i));
  meets_no_writer = d.no_writer;
  writer_meets_no_reader = d.no_reader;
  leaver_holds = λ t l h. absurd (true≢false (sym h ∙ d.leaves_nothing t l));
  end_has_no_level = λ t i h. absurd (true≢false (sym h ∙ d.ends_nobody t));
  end_holds_no_lock = λ t l h. absurd (true≢false (sym h ∙ d.ends_nobody t));
}

nothing_done : (before : List Mark) (m : Mark) → ((t : ℕ) (i : ℤ) (x : Bool) → takes_level t i x m ≡ false) → ((t : ℕ) (i : ℤ) (x : Bool) → gives t i x m ≡ false) → ((t : ℕ) (l : ℤ) (write : Bool) → enters t l write m ≡ false) → ((t : ℕ) (i : ℤ) → gives_up t i m ≡ false) → ((t : ℕ) (l : ℤ) → leaves t l m ≡ false) → ((t : ℕ) → is_end_of t m ≡ false) → IsExclusiveAt before m
nothing_done before m takes_level gives enters up leaves ends = exclusive_by before m (record {
  alone = λ t u i h. absurd (true≢false (sym h ∙ takes_level t i (awaits t before)));
  has = λ t i h. absurd (true≢false (sym h ∙ gives t i (awaits t before)));
  no_writer = λ t u l write h. absurd (true≢false (sym h ∙ enters t l write));
  no_reader = λ t u l h. absurd (true≢false (sym h ∙ enters t l true));
  gives_nothing_up = up;
  leaves_nothing = leaves;
  ends_nobody = ends;
})

begun_exclusive : (m : ℤ) (before : List Mark) → IsExclusiveAt before (done_by one (call.MutexInit m))
begun_exclusive m before = nothing_done before (done_by one (call.MutexInit m)) (λ t i x. refl) (λ t i x. refl) (λ t l write. refl) (λ t i. refl) (λ t l. refl) (λ t. refl)

-- who takes a mutex of which no other thread has a level
takes_exclusive : (t : ℕ) (m : ℤ) (before : List Mark) → ((u : ℕ) (i : ℤ) → is_of t i t m ≡ true → u ≢ t → levels u i before ≡ 0) → IsExclusiveAt before (takes_mutex (record { 0 = t }) m)
takes_exclusive t m before none = exclusive_by before (takes_mutex (record { 0 = t }) m) (record {
  alone = λ v u i h apart. let own : t ≡ v = same_means t v (and_parts (is_same i m) (t == v) h).1 in none u i (subst (λ (w : ℕ). is_of w i t m ≡ true) (sym own) h) (λ same. apart (same ∙ own));
  has = λ v i h. absurd (true≢false (sym h));
  no_writer = λ v u l write h. absurd (true≢false (sym h));
  no_reader = λ v u l h. absurd (true≢false (sym h));
  gives_nothing_up = λ v i. refl;
  leaves_nothing = λ v l. refl;
  ends_nobody = λ v. refl;
})

pub uninitialised_taken : Exclusive Examples.a_mutex_that_was_not_initialised
uninitialised_taken = said_each IsExclusiveAt Examples.a_mutex_that_was_not_initialised (takes_exclusive 1 (pos 0) [] (λ u i h apart. refl), tt)

pub twice_taken : Exclusive Examples.a_mutex_is_initialised_twice
twice_taken = said_each IsExclusiveAt Examples.a_mutex_is_initialised_twice (begun_exclusive (pos 0) [], (begun_exclusive (pos 0) (begun ∷ []), tt))

pub beyond_taken : Exclusive Examples.a_mutex_out_of_range
beyond_taken = said_each IsExclusiveAt Examples.a_mutex_out_of_range (begun_exclusive (pos 70) [], (takes_exclusive 1 (pos 70) (done_by one (call.MutexInit (pos 70)) ∷ []) (λ u i h apart. refl), tt))

pub two_taken : Exclusive Examples.an_acquire_answered_two
two_taken = said_each IsExclusiveAt Examples.an_acquire_answered_two (
  begun_exclusive (pos 0) [],
  (
    takes_exclusive 1 (pos 0) (begun ∷ []) (λ u i h apart. refl),
    (nothing_done (begun ∷ takes_mutex one (pos 0) ∷ []) (mark.Answered two (call.MutexAcquire (pos 0) (pos 0) (pos 0)) (Int (pos 2))) (λ t i x. refl) (λ t i x. refl) (λ t l write. refl) (λ t i. refl) (λ t l. refl) (λ t. refl), tt),
  ),
)

-- a reader, if nobody writes
reads_exclusive : (before : List Mark) → ((u : ℕ) (l : ℤ) → writes u l before ≡ false) → IsExclusiveAt before (enters_it one false)
reads_exclusive before none = exclusive_by before (enters_it one false) (record {
  alone = λ t u i h. absurd (true≢false (sym h));
  has = λ t i h. absurd (true≢false (sym h));
  no_writer = λ t u l write h. none u l;
  no_reader = λ t u l h. absurd (true≢false (sym h));
  gives_nothing_up = λ t i. refl;
  leaves_nothing = λ t l. refl;
  ends_nobody = λ t. refl;
})

pub reader_taken : Exclusive Examples.a_reader_reads_again
reader_taken = said_each IsExclusiveAt Examples.a_reader_reads_again (
  nothing_done [] lock_begun (λ t i x. refl) (λ t i x. refl) (λ t l write. refl) (λ t i. refl) (λ t l. refl) (λ t. refl),
  (
    reads_exclusive (lock_begun ∷ []) (λ u l. refl),
    (reads_exclusive (lock_begun ∷ enters_it one false ∷ []) (λ u l. refl), tt),
  ),
)

pub below_taken : Exclusive Examples.two_numbers_below_zero
below_taken = said_each IsExclusiveAt Examples.two_numbers_below_zero (
  takes_exclusive 1 (negsuc 0) [] (λ u i h apart. refl),
  (
    takes_exclusive 2 (negsuc 1) (takes_mutex one (negsuc 0) ∷ []) (λ u i h apart. subst (λ (z : ℤ). levels u z (takes_mutex one (negsuc 0) ∷ []) ≡ 0) (sym (same_number i (negsuc 1) (and_parts (is_same i (negsuc 1)) (2 == 2) h).0)) refl),
    tt,
  ),
)

-- thread 1 has a level of mutex -1, and a cond_await of it begins to await
abbrev one_below : List Mark
one_below = takes_mutex one (negsuc 0) ∷ []

abbrev awaits_below : Mark
awaits_below = mark.Waits one (call.CondAwait (pos 0) (negsuc 0) (pos 0))

awaits_exclusive : IsExclusiveAt one_below awaits_below
awaits_exclusive = exclusive_by one_below awaits_below (record {
  alone = λ t u i h. absurd (true≢false (sym h));
  has = λ t i h.
      let h2 = and_parts (is_same i (negsuc 0)) (1 == t) h in
      subst (λ (u : ℕ). 0 < levels u i one_below) (same_means 1 t h2.1) (subst (λ (z : ℤ). 0 < levels 1 z one_below) (sym (same_number i (negsuc 0) h2.0)) (omega arith));
  no_writer = λ t u l write h. absurd (true≢false (sym h));
  no_reader = λ t u l h. absurd (true≢false (sym h));
  gives_nothing_up = λ t i. refl;
  leaves_nothing = λ t l. refl;
  ends_nobody = λ t. refl;
})

pub awaits_taken : Exclusive Examples.an_await_of_a_number_below_zero
awaits_taken = said_each IsExclusiveAt Examples.an_await_of_a_number_below_zero (takes_exclusive 1 (negsuc 0) [] (λ u i h apart. refl), (awaits_exclusive, tt))

-- ---- initialised

pub initialised_first : Initialised Examples.a_mutex_that_was_not_initialised → ⊥
initialised_first h = true≢false (sym ((h [] [] (takes_mutex one (pos 0)) refl).taken_was_initialised 1 (pos 0) refl))

pub initialised_below : Initialised Examples.two_numbers_below_zero → ⊥
initialised_below h = true≢false (sym ((h [] (takes_mutex two (negsuc 1) ∷ []) (takes_mutex one (negsuc 0)) refl).taken_was_initialised 1 (negsuc 0) refl))

pub initialised_once : Initialised Examples.a_mutex_is_initialised_twice → ⊥
initialised_once h = true≢false (((h (begun ∷ []) [] begun refl).mutex_is_new (pos 0) refl).1)

pub initialised_in_range : Initialised Examples.a_mutex_out_of_range → ⊥
initialised_in_range h =
    let object = ((h [] (takes_mutex one (pos 70) ∷ []) (done_by one (call.MutexInit (pos 70))) refl).mutex_is_new (pos 70) refl).0 in
    let same : 70 ≡ object.0 = let e = object.1 in cc in
    let below = object.2 in
    omega (arith, same, below)

pub enters_once : Initialised Examples.a_reader_reads_again → ⊥
enters_once h = true≢false ((h (lock_begun ∷ enters_it one false ∷ []) [] (enters_it one false) refl).enters_once 1 (pos 0) false refl)

taken_initialised : (t : ℕ) (before : List Mark) → list_any (initialises_mutex (pos 0)) before ≡ true → IsInitialisedAt before (takes_mutex (record { 0 = t }) (pos 0))
taken_initialised t before known = record {
  mutex_is_new = λ i h. absurd (true≢false (sym h));
  lock_is_new = λ l h. absurd (true≢false (sym h));
  taken_was_initialised = λ v i h. subst (λ (z : ℤ). list_any (initialises_mutex z) before ≡ true) (sym (same_number i (pos 0) (and_parts (is_same i (pos 0)) (t == v) h).0)) known;
  entered_was_initialised = λ v l write h. absurd (true≢false (sym h));
  enters_once = λ v l write h. absurd (true≢false (sym h));
}

pub owners_taken : Initialised Examples.two_owners
owners_taken = said_each IsInitialisedAt Examples.two_owners (
  record {
    mutex_is_new = λ i h. ((0, same_number i (pos 0) h, omega arith), refl);
    lock_is_new = λ l h. absurd (true≢false (sym h));
    taken_was_initialised = λ v i h. absurd (true≢false (sym h));
    entered_was_initialised = λ v l write h. absurd (true≢false (sym h));
    enters_once = λ v l write h. absurd (true≢false (sym h));
  },
  (taken_initialised 1 (begun ∷ []) refl, (taken_initialised 2 (begun ∷ takes_mutex one (pos 0) ∷ []) refl, tt)),
)
