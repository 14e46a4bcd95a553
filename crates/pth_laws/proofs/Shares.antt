-- What one exclusive mark does to mutexes and locks is what its sentence says of each thread: its levels, and what it holds.
use Rattle.std.proofs.Common.{◌≡◌, ◌≢◌, ◌<◌, ℕ, zero, suc, ◌+◌, ◌-◌, ◌==◌, ◌&&◌, ◌||◌, not, Bool, true, false, if◌then◌else◌, ℤ, pos, negsuc, Option, Some, None, is_some, refl, sym, ◌∙◌, ap, subst, arith}
use Rattle.std.proofs.Math.Bool.{or-false}
use Rattle.std.proofs.lemmas.Bool.{not-false, and_left, true≢false, not-true, or_parts}
use Rattle.pth_base.specs.Table.{put}
use Rattle.pth_base.specs.declared.act.Act.TheVariants as act
use Rattle.pth_base.specs.declared.answer.Answer.{Answer}
use Rattle.pth_base.specs.declared.answer.Answer.TheVariants.{Int, Msg}
use Rattle.pth_base.specs.declared.call.Call.{Call}
use Rattle.pth_base.specs.declared.call.Call.TheVariants as call
use Rattle.pth_base.specs.declared.ids.Tid.{Tid}
use Rattle.pth_base.specs.declared.mark.Mark.{Mark}
use Rattle.pth_base.specs.declared.mark.Mark.TheVariants as mark
use Rattle.pth_base.proofs.Tables.{same_means, same_fails, not_same, put_by}
use Rattle.pth_lock.specs.Objects.{object_named}
use Rattle.pth_lock.specs.Mutexes.{Mutex, MutexTable, free_mutex, has, is_anothers, levels_of, mutex_with, mutexes_left}
use Rattle.pth_lock.specs.RwLocks.{LockTables, holds, is_one, is_written, is_read, may_enter, lock_initialised, lock_released, lock_taken, locks_left, without_slot, readers_without}
use Rattle.pth_model.specs.Resources.{on_one, on_int, on_msg, told, act_told, answer_told, retaken, let_go}
use Rattle.pth_model.specs.Store.{Resources}
use Rattle.pth_laws.proofs.Book.{Book, is_kill}
use Rattle.pth_laws.proofs.Laws.{IsAnswerExclusive, IsExclusiveMark, MayTake, MayEnter, HasMutex}
use Rattle.pth_laws.specs.Marks.{is_same}
use Rattle.pth_laws.specs.Exclusive.{Share, levels_after, awaits_after, held_after}
use Rattle.pth_laws.specs.Initialised.{initialises_mutex, initialises_lock}
use Rattle.pth_laws.proofs.Counted.{IsCounted, counted_more, counted_less, none_passes}
use Rattle.pth_laws.proofs.Locked.{Locked, has_some}
use Rattle.pth_laws.proofs.OrderlyMarks.{same_either_way, or_true}

-- ---- one mutex

no_levels : (t : ℕ) (z : Mutex) → is_some z ≡ false → levels_of t z ≡ 0
no_levels t None h = refl
no_levels t (Some o) h = absurd (true≢false h)

-- who has none has no level
pub not_had : (t : ℕ) (z : Mutex) → has t z ≡ false → levels_of t z ≡ 0
not_had t None h = refl
not_had t (Some None) h = refl
not_had t (Some (Some o)) h = rw h refl

-- where no other thread than u has it, the others have no level
pub others_have_none : (u t : ℕ) (z : Mutex) → is_anothers u z ≡ false → t ≢ u → levels_of t z ≡ 0
others_have_none u t None h apart = refl
others_have_none u t (Some None) h apart = refl
others_have_none u t (Some (Some o)) h apart = let own : o.owner ≡ u = same_means o.owner u (not-false _ h) in not_had t (Some (Some o)) (not_same o.owner t (λ same. apart (sym same ∙ own)))

pub own_is_no_others : (u : ℕ) (z : Mutex) → has u z ≡ true → is_anothers u z ≡ false
own_is_no_others u None h = refl
own_is_no_others u (Some None) h = refl
own_is_no_others u (Some (Some o)) h = ap not h

with_levels : (t u n : ℕ) → levels_of t (mutex_with u n) ≡ (if u == t then n else 0)
with_levels t u n = by_test (n == 0) refl
  where
    none : (b : Bool) → n ≡ 0 → 0 ≡ (if b then n else 0)
    none true none_left = sym none_left
    none false none_left = refl

    by_test : (b : Bool) → (n == 0) ≡ b → levels_of t (if b then free_mutex else Some (Some (record { owner = u; levels = n }))) ≡ (if u == t then n else 0)
    by_test true h = none (u == t) (same_means n 0 h)
    by_test false h = refl

with_some : (u n : ℕ) → is_some (mutex_with u n) ≡ true
with_some u n = by_test (n == 0)
  where
    by_test : (b : Bool) → is_some (if b then free_mutex else Some (Some (record { owner = u; levels = n }))) ≡ true
    by_test true = refl
    by_test false = refl

-- who has a mutex has a level of it
abbrev pub HasLevel : ℕ → Mutex → Type 0
HasLevel t z = has t z ≡ true → 0 < levels_of t z

with_positive : (t u n : ℕ) → HasLevel t (mutex_with u n)
with_positive t u n = by_test (n == 0) refl
  where
    by_test : (b : Bool) → (n == 0) ≡ b → HasLevel t (if b then free_mutex else Some (Some (record { owner = u; levels = n })))
    by_test true h had = absurd (true≢false (sym had))
    by_test false h had = let some : n ≢ 0 = same_fails n 0 h in rw had (omega arith)

-- ---- places of a table

-- what holds of a place, by the test whether it is the one that is changed
put_test : {A : Type 0} (P : Bool → A → Type 0) (f : ℕ → A) (k : ℕ) (v : A) (i : ℕ) → (i ≡ k → P true v) → (i ≢ k → P false (f i)) → P (i == k) (put f k v i)
unfolding put
put_test P f k v i here other = by_test (i == k) refl
  where
    by_test : (b : Bool) → (i == k) ≡ b → P b (if b then v else f i)
    by_test true e = here (same_means i k e)
    by_test false e = other (same_fails i k e)

-- of two tables that are changed at one place
put_both : {A B : Type 0} (P : A → B → Type 0) (f : ℕ → A) (g : ℕ → B) (k : ℕ) (v : A) (w : B) (i : ℕ) → (i ≡ k → P v w) → (i ≢ k → P (f i) (g i)) → P (put f k v i) (put g k w i)
unfolding put
put_both P f g k v w i here other = by_test (i == k) refl
  where
    by_test : (b : Bool) → (i == k) ≡ b → P (if b then v else f i) (if b then w else g i)
    by_test true e = here (same_means i k e)
    by_test false e = other (same_fails i k e)

-- a flag of u is set
flag_set : (f : ℕ → Bool) (u t : ℕ) (v : Bool) → (if u == t then v else f t) ≡ put f u v t
unfolding put
flag_set f u t v = rw (same_either_way u t) refl

-- u's own flag stands for each thread's, where a mark is u's
flag_of : (f : ℕ → Bool) (u t i o : ℕ) (b : Bool) → f u ≡ b → (f t && ((i == o) && (u == t))) ≡ (b && ((i == o) && (u == t)))
flag_of f u t i o b is = by_test (u == t) refl
  where
    no_mark : (p q r : Bool) → (p && (q && false)) ≡ (r && (q && false))
    no_mark true true true = refl
    no_mark true true false = refl
    no_mark true false true = refl
    no_mark true false false = refl
    no_mark false true true = refl
    no_mark false true false = refl
    no_mark false false true = refl
    no_mark false false false = refl

    by_test : (c : Bool) → (u == t) ≡ c → (f t && ((i == o) && c)) ≡ (b && ((i == o) && c))
    by_test true same = ap (λ v. v && ((i == o) && true)) (ap f (sym (same_means u t same)) ∙ is)
    by_test false other = no_mark (f t) (i == o) b

-- where u's flag is not set, a mark of u is of no thread whose flag is
no_flag : (f : ℕ → Bool) (u t : ℕ) (q : Bool) → f u ≡ false → (f t && (q && (u == t))) ≡ false
no_flag f u t q is = by_test (u == t) refl
  where
    apart : (p q : Bool) → (p && (q && false)) ≡ false
    apart true true = refl
    apart true false = refl
    apart false q = refl

    by_test : (c : Bool) → (u == t) ≡ c → (f t && (q && c)) ≡ false
    by_test true same = and_left (f t) (q && true) (ap f (sym (same_means u t same)) ∙ is)
    by_test false other = apart (f t) q

-- ---- the writer of a lock

pub one_other : (u t : ℕ) (w : Option ℕ) → is_one u w ≡ true → t ≢ u → is_one t w ≡ false
one_other u t None h apart = refl
one_other u t (Some v) h apart = let own : v ≡ u = same_means v u h in not_same v t (λ same. apart (sym same ∙ own))

-- u writes no more
writer_left : (u t : ℕ) (w : Option ℕ) → (if u == t then false else is_one t w) ≡ is_one t (without_slot u w)
writer_left u t w = by_test (u == t) (is_one u w) refl refl
  where
    by_test : (b c : Bool) → (u == t) ≡ b → is_one u w ≡ c → (if b then false else is_one t w) ≡ is_one t (if c then None else w)
    by_test true true same is = refl
    by_test true false same is = sym (ap (λ v. is_one v w) (sym (same_means u t same)) ∙ is)
    by_test false true other is = one_other u t w is (λ same. same_fails u t other (sym same))
    by_test false false other is = refl

pub no_writer : (w : Option ℕ) (t : ℕ) → is_some w ≡ false → is_one t w ≡ false
no_writer None t h = refl
no_writer (Some v) t h = absurd (true≢false h)

-- ---- steps

-- where a thread writes none reads
abbrev pub IsAlone : Option ℕ → (ℕ → Bool) → Type 0
IsAlone writer reads = is_some writer ≡ true → (u : ℕ) → reads u ≡ false

-- who has a mutex has a level of it, who reads under a lock is counted, and where somebody writes none reads
pub record IsSound (x : MutexTable) (y : LockTables) : Type 0 where
  pub positive : (t i : ℕ) → HasLevel t (x i)
  pub counted : (l : ℕ) → IsCounted (y.reads l) (y.readers l)
  pub alone : (l : ℕ) → IsAlone (y.writer l) (y.reads l)

-- a lock that lets in who writes, or who reads
module _ (y : LockTables) (l : ℕ) (counted : IsCounted (y.reads l) (y.readers l)) where
  pub entry_free : (write : Bool) → may_enter y write l ≡ true → is_written y l ≡ false
  entry_free true h = (or_parts (is_written y l) (is_read y l) (not-true _ h)).0
  entry_free false h = not-true _ h

  pub entry_alone : may_enter y true l ≡ true → (u : ℕ) → y.reads l u ≡ false
  entry_alone h = none_passes (y.reads l) (y.readers l) counted (same_means (y.readers l) 0 (not-false (y.readers l == 0) (or_parts (is_written y l) (is_read y l) (not-true _ h)).1))

-- u leaves a lock
left_alone : (u : ℕ) (w : Option ℕ) (r : ℕ → Bool) → IsAlone w r → IsAlone (without_slot u w) (put r u false)
left_alone u None r alone h v = absurd (true≢false (sym h))
left_alone u (Some o) r alone h v = put_by (λ (b : Bool). b ≡ false) r u false v (λ same. refl) (λ apart. alone refl v)

module _ (k : Resources) where
  abbrev mutexes : MutexTable
  mutexes = k.store.mutexes

  abbrev locks : LockTables
  locks = k.store.rw_locks

  abbrev pub share_in : (t i : ℕ) → Share
  share_in t i = record { had = levels_of t (k.store.mutexes i); awaiting = k.awaits t }

  -- after m the mutexes are these, and who awaits
  pub record MutexStep (x : MutexTable) (w : ℕ → Bool) (m : Mark) : Type 0 where
    pub levels : (t i : ℕ) → levels_after t (pos i) (share_in t i) m ≡ levels_of t (x i)
    pub awaits : (t : ℕ) → awaits_after t (k.awaits t) m ≡ w t
    pub known : (i : ℕ) → (is_some (k.store.mutexes i) || initialises_mutex (pos i) m) ≡ is_some (x i)
    pub positive : (t i : ℕ) → HasLevel t (x i)

  -- and the locks
  pub record LockStep (y : LockTables) (m : Mark) : Type 0 where
    pub known : (l : ℕ) → (k.store.rw_locks.initialised l || initialises_lock (pos l) m) ≡ y.initialised l
    pub reads : (t l : ℕ) → held_after t (pos l) false (k.store.rw_locks.reads l t) m ≡ y.reads l t
    pub writes : (t l : ℕ) → held_after t (pos l) true (is_one t (k.store.rw_locks.writer l)) m ≡ is_one t (y.writer l)
    pub counted : (l : ℕ) → IsCounted (y.reads l) (y.readers l)
    pub alone : (l : ℕ) → IsAlone (y.writer l) (y.reads l)

  abbrev pub Step : Resources → Mark → Type 0
  Step r m = MutexStep r.store.mutexes r.awaits m × LockStep r.store.rw_locks m

  module _ (sound : IsSound k.store.mutexes k.store.rw_locks) (locked : Locked k) where
    -- nothing of mutexes, or of locks, changes
    mutexes_still : (m : Mark) → ((t i : ℕ) (x : Share) → levels_after t (pos i) x m ≡ x.had) → ((t : ℕ) (b : Bool) → awaits_after t b m ≡ b) → ((i : ℕ) → initialises_mutex (pos i) m ≡ false) → MutexStep mutexes k.awaits m
    mutexes_still m same awaits new = record {
      levels = λ t i. same t i (share_in t i);
      awaits = λ t. awaits t (k.awaits t);
      known = λ i. ap (λ b. is_some (mutexes i) || b) (new i) ∙ or-false (is_some (mutexes i));
      positive = sound.positive;
    }

    locks_still : (m : Mark) → ((t l : ℕ) (w b : Bool) → held_after t (pos l) w b m ≡ b) → ((l : ℕ) → initialises_lock (pos l) m ≡ false) → LockStep locks m
    locks_still m same new = record {
      known = λ l. ap (λ b. locks.initialised l || b) (new l) ∙ or-false (locks.initialised l);
      reads = λ t l. same t l false (locks.reads l t);
      writes = λ t l. same t l true (is_one t (locks.writer l));
      counted = sound.counted;
      alone = sound.alone;
    }

    quiet : (m : Mark) → ((t i : ℕ) (x : Share) → levels_after t (pos i) x m ≡ x.had) → ((t : ℕ) (b : Bool) → awaits_after t b m ≡ b) → ((i : ℕ) → initialises_mutex (pos i) m ≡ false) → ((t l : ℕ) (w b : Bool) → held_after t (pos l) w b m ≡ b) → ((l : ℕ) → initialises_lock (pos l) m ≡ false) → Step k m
    quiet m same awaits new held begun = (mutexes_still m same awaits new, locks_still m held begun)

    step_one : (a : Answer) (g : Resources) (m : Mark) → Step k m → Step g m → Step (on_one a k g) m
    step_one (Int (pos (suc zero))) g m none some = some
    step_one a g m none some = none

    step_int : (a : Answer) (g : ℤ → Resources) (m : Mark) → Step k m → ((n : ℤ) → Step (g n) m) → Step (on_int a k g) m
    step_int (Int n) g m none some = some n
    step_int a g m none some = none

    step_msg : (a : Answer) (g : Resources) (m : Mark) → Step k m → Step g m → Step (on_msg a k g) m
    step_msg (Msg id v) g m none some = some
    step_msg a g m none some = none

    -- u's levels of mutex o become others, where no other thread has it
    changed : (u o : ℕ) (n : ℕ → ℕ → ℕ) (w : ℕ → Bool) (m : Mark) → is_anothers u (mutexes o) ≡ false → is_some (mutexes o) ≡ true → ((t i : ℕ) → levels_after t (pos i) (share_in t i) m ≡ (if (i == o) && (u == t) then n t i else levels_of t (mutexes i))) → ((t : ℕ) → awaits_after t (k.awaits t) m ≡ w t) → ((i : ℕ) → initialises_mutex (pos i) m ≡ false) → MutexStep (put mutexes o (mutex_with u (n u o))) w m
    changed u o n w m free some levels awaits new = record {
      levels = λ t i. levels t i ∙ put_test (λ (b : Bool) (z : Mutex). (if b && (u == t) then n t i else levels_of t (mutexes i)) ≡ levels_of t z) mutexes o (mutex_with u (n u o)) i (λ here. at t i here (u == t) refl ∙ sym (with_levels t u (n u o))) (λ other. refl);
      awaits = awaits;
      known = λ i. ap (λ b. is_some (mutexes i) || b) (new i) ∙ or-false (is_some (mutexes i)) ∙ put_by (λ (z : Mutex). is_some (mutexes i) ≡ is_some z) mutexes o (mutex_with u (n u o)) i (λ here. ap (λ j. is_some (mutexes j)) here ∙ some ∙ sym (with_some u (n u o))) (λ other. refl);
      positive = λ t i. put_by (HasLevel t) mutexes o (mutex_with u (n u o)) i (λ here. with_positive t u (n u o)) (λ other. sound.positive t i);
    }
      where
        at : (t i : ℕ) → i ≡ o → (b : Bool) → (u == t) ≡ b → (if b then n t i else levels_of t (mutexes i)) ≡ (if u == t then n u o else 0)
        at t i here true same = let own = same_means u t same in ap (n t) here ∙ ap (λ v. n v o) (sym own) ∙ sym (rw same refl)
        at t i here false other = ap (λ j. levels_of t (mutexes j)) here ∙ others_have_none u t (mutexes o) free (λ same. same_fails u t other (sym same)) ∙ sym (rw other refl)

    taken_so : (u o : ℕ) (w : ℕ → Bool) (m : Mark) → MayTake k u o → ((t i : ℕ) → levels_after t (pos i) (share_in t i) m ≡ (if (i == o) && (u == t) then levels_of t (mutexes i) + 1 else levels_of t (mutexes i))) → ((t : ℕ) → awaits_after t (k.awaits t) m ≡ w t) → ((i : ℕ) → initialises_mutex (pos i) m ≡ false) → MutexStep (put mutexes o (mutex_with u (levels_of u (mutexes o) + 1))) w m
    taken_so u o w m law levels awaits new = changed u o (λ t i. levels_of t (mutexes i) + 1) w m law.free law.initialised levels awaits new

    released_so : (u o : ℕ) (w : ℕ → Bool) (m : Mark) → HasMutex k u o → ((t i : ℕ) → levels_after t (pos i) (share_in t i) m ≡ (if (i == o) && (u == t) then levels_of t (mutexes i) - 1 else levels_of t (mutexes i))) → ((t : ℕ) → awaits_after t (k.awaits t) m ≡ w t) → ((i : ℕ) → initialises_mutex (pos i) m ≡ false) → MutexStep (put mutexes o (mutex_with u (levels_of u (mutexes o) - 1))) w m
    released_so u o w m law levels awaits new = changed u o (λ t i. levels_of t (mutexes i) - 1) w m (own_is_no_others u (mutexes o) law) (has_some u (mutexes o) law) levels awaits new

    -- a mutex is initialised
    begun : (u : Tid) (o : ℕ) → is_some (mutexes o) ≡ false → MutexStep (put mutexes o free_mutex) k.awaits (mark.Answered u (call.MutexInit (pos o)) (Int (pos 1)))
    begun u o new = record {
      levels = λ t i. put_by (λ (z : Mutex). levels_of t (mutexes i) ≡ levels_of t z) mutexes o free_mutex i (λ here. no_levels t (mutexes i) (ap (λ j. is_some (mutexes j)) here ∙ new)) (λ other. refl);
      awaits = λ t. refl;
      known = λ i. put_test (λ (b : Bool) (z : Mutex). (is_some (mutexes i) || b) ≡ is_some z) mutexes o free_mutex i (λ here. or_true (is_some (mutexes i))) (λ other. or-false (is_some (mutexes i)));
      positive = λ t i. put_by (HasLevel t) mutexes o free_mutex i (λ here had. absurd (true≢false (sym had))) (λ other. sound.positive t i);
    }

    -- u awaits as it did
    awaits_as_before : (u t : ℕ) (b : Bool) → k.awaits u ≡ b → (if u == t then b else k.awaits t) ≡ k.awaits t
    awaits_as_before u t b is = by_test (u == t) refl
      where
        by_test : (c : Bool) → (u == t) ≡ c → (if c then b else k.awaits t) ≡ k.awaits t
        by_test true same = sym is ∙ ap k.awaits (same_means u t same)
        by_test false other = refl

    -- an operand that names nothing would be initialised
    no_mutex : (o : ℕ) → is_some (mutexes (object_named (negsuc o))) ≡ true → ⊥
    no_mutex o some = let below = locked.mutexes (object_named (negsuc o)) some in absurd (omega (arith, below))

    answers_await : (u : Tid) (c m e : ℤ) (a : Answer) (b : Bool) → k.awaits u.0 ≡ b → (k.awaits u.0 ≡ true → MayTake k u.0 (object_named m)) → Step (if b then retaken k u.0 (object_named m) else k) (mark.Answered u (call.CondAwait c m e) a)
    answers_await u c (pos o) e a true is law = (
      taken_so u.0 o (put k.awaits u.0 false) (mark.Answered u (call.CondAwait c (pos o) e) a) (law is)
          (λ t i. ap (λ (b : Bool). if b then levels_of t (mutexes i) + 1 else levels_of t (mutexes i)) (flag_of k.awaits u.0 t i o true is)) (λ t. flag_set k.awaits u.0 t false) (λ i. refl),
      locks_still (mark.Answered u (call.CondAwait c (pos o) e) a) (λ t l w b. refl) (λ l. refl),
    )
    answers_await u c (negsuc o) e a true is law = absurd (no_mutex o (law is).initialised)
    answers_await u c m e a false is law = (
      record {
        levels = λ t i. ap (λ (b : Bool). if b then levels_of t (mutexes i) + 1 else levels_of t (mutexes i)) (no_flag k.awaits u.0 t (is_same (pos i) m) is);
        awaits = λ t. awaits_as_before u.0 t false is;
        known = λ i. or-false (is_some (mutexes i));
        positive = sound.positive;
      },
      locks_still (mark.Answered u (call.CondAwait c m e) a) (λ t l w b. refl) (λ l. refl),
    )

    waits_await : (u : Tid) (c m e : ℤ) (b : Bool) → k.awaits u.0 ≡ b → (k.awaits u.0 ≡ false → HasMutex k u.0 (object_named m)) → Step (if b then k else let_go k u.0 (object_named m)) (mark.Waits u (call.CondAwait c m e))
    waits_await u c m e true is law = (
      record {
        levels = λ t i. ap (λ (b : Bool). if b then levels_of t (mutexes i) - 1 else levels_of t (mutexes i)) (no_flag (λ v. not (k.awaits v)) u.0 t (is_same (pos i) m) (ap not is));
        awaits = λ t. awaits_as_before u.0 t true is;
        known = λ i. or-false (is_some (mutexes i));
        positive = sound.positive;
      },
      locks_still (mark.Waits u (call.CondAwait c m e)) (λ t l w b. refl) (λ l. refl),
    )
    waits_await u c (pos o) e false is law = (
      released_so u.0 o (put k.awaits u.0 true) (mark.Waits u (call.CondAwait c (pos o) e)) (law is)
          (λ t i. ap (λ (b : Bool). if b then levels_of t (mutexes i) - 1 else levels_of t (mutexes i)) (flag_of (λ v. not (k.awaits v)) u.0 t i o true (ap not is))) (λ t. flag_set k.awaits u.0 t true) (λ i. refl),
      locks_still (mark.Waits u (call.CondAwait c (pos o) e)) (λ t l w b. refl) (λ l. refl),
    )
    waits_await u c (negsuc o) e false is law = absurd (no_mutex o (has_some u.0 (mutexes (object_named (negsuc o))) (law is)))

    -- u ends, and has nothing
    ends_mutexes : (u : Tid) (v : ℤ) → ((i : ℕ) → has u.0 (mutexes i) ≡ false) → MutexStep (mutexes_left u.0 mutexes) (put k.awaits u.0 false) (mark.Ended u v)
    ends_mutexes u v none = record {
      levels = λ t i. ap (levels_of t) (same i);
      awaits = λ t. flag_set k.awaits u.0 t false;
      known = λ i. or-false (is_some (mutexes i)) ∙ ap is_some (same i);
      positive = λ t i. subst (HasLevel t) (same i) (sound.positive t i);
    }
      where
        same : (i : ℕ) → mutexes i ≡ mutexes_left u.0 mutexes i
        same i = rw (none i) refl

    ends_locks : (u : Tid) (v : ℤ) → ((l : ℕ) → holds locks u.0 l ≡ false) → LockStep (locks_left u.0 locks) (mark.Ended u v)
    ends_locks u v none = record {
      known = λ l. or-false (locks.initialised l);
      reads = λ t l. put_by (λ (b : Bool). locks.reads l t ≡ b) (locks.reads l) u.0 false t (λ here. ap (locks.reads l) here ∙ (or_parts _ _ (none l)).1) (λ other. refl);
      writes = λ t l. ap (is_one t) (sym (ap (λ (b : Bool). if b then None else locks.writer l) (or_parts _ _ (none l)).0));
      counted = λ l. counted_less (locks.reads l) (locks.readers l) u.0 (sound.counted l);
      alone = λ l. left_alone u.0 (locks.writer l) (locks.reads l) (sound.alone l);
    }

    -- a lock is initialised, entered and left
    lock_begun : (u : Tid) (o : ℕ) → LockStep (lock_initialised o locks) (mark.Answered u (call.RwInit (pos o)) (Int (pos 1)))
    lock_begun u o = record {
      known = λ i. put_test (λ (b z : Bool). (locks.initialised i || b) ≡ z) locks.initialised o true i (λ here. or_true (locks.initialised i)) (λ other. or-false (locks.initialised i));
      reads = λ t i. refl;
      writes = λ t i. refl;
      counted = sound.counted;
      alone = sound.alone;
    }

    written_so : (u : Tid) (o : ℕ) (v e : ℤ) → is_written locks o ≡ false → ((t : ℕ) → locks.reads o t ≡ false) → LockStep (lock_taken u.0 true o locks) (mark.Answered u (call.RwAcquire (pos o) true v e) (Int (pos 1)))
    written_so u o v e free unread = record {
      known = λ i. or-false (locks.initialised i);
      reads = λ t i. refl;
      writes = λ t i. put_test (λ (b : Bool) (w : Option ℕ). (if b && (u.0 == t) then true else is_one t (locks.writer i)) ≡ is_one t w) locks.writer o (Some u.0) i (λ here. at t i here (u.0 == t)) (λ other. refl);
      counted = sound.counted;
      alone = λ i. put_by (λ (w : Option ℕ). IsAlone w (locks.reads i)) locks.writer o (Some u.0) i (λ here h t. ap (λ j. locks.reads j t) here ∙ unread t) (λ other. sound.alone i);
    }
      where
        at : (t i : ℕ) → i ≡ o → (b : Bool) → (if b then true else is_one t (locks.writer i)) ≡ b
        at t i here true = refl
        at t i here false = ap (λ j. is_one t (locks.writer j)) here ∙ no_writer (locks.writer o) t free

    read_so : (u : Tid) (o : ℕ) (v e : ℤ) → is_written locks o ≡ false → locks.reads o u.0 ≡ false → LockStep (lock_taken u.0 false o locks) (mark.Answered u (call.RwAcquire (pos o) false v e) (Int (pos 1)))
    read_so u o v e free out = record {
      known = λ i. or-false (locks.initialised i);
      reads = λ t i. put_test (λ (b : Bool) (r : ℕ → Bool). (if b && (u.0 == t) then true else locks.reads i t) ≡ r t) locks.reads o (put (locks.reads o) u.0 true) i (λ here. ap (λ j. if u.0 == t then true else locks.reads j t) here ∙ flag_set (locks.reads o) u.0 t true) (λ other. refl);
      writes = λ t i. refl;
      counted = λ i. put_both IsCounted locks.reads locks.readers o (put (locks.reads o) u.0 true) (locks.readers o + 1) i (λ here. counted_more (locks.reads o) (locks.readers o) u.0 out (sound.counted o)) (λ other. sound.counted i);
      alone = λ i. put_by (λ (r : ℕ → Bool). IsAlone (locks.writer i) r) locks.reads o (put (locks.reads o) u.0 true) i (λ here h t. absurd (true≢false (sym h ∙ ap (is_written locks) here ∙ free))) (λ other. sound.alone i);
    }

    left_so : (u o : ℕ) (m : Mark) → ((t i : ℕ) (w b : Bool) → held_after t (pos i) w b m ≡ (if (i == o) && (u == t) then false else b)) → ((i : ℕ) → initialises_lock (pos i) m ≡ false) → LockStep (lock_released u o locks) m
    left_so u o m held new = record {
      known = λ i. ap (λ b. locks.initialised i || b) (new i) ∙ or-false (locks.initialised i);
      reads = λ t i. held t i false (locks.reads i t) ∙ put_test (λ (b : Bool) (r : ℕ → Bool). (if b && (u == t) then false else locks.reads i t) ≡ r t) locks.reads o (put (locks.reads o) u false) i (λ here. ap (λ j. if u == t then false else locks.reads j t) here ∙ flag_set (locks.reads o) u t false) (λ other. refl);
      writes = λ t i. held t i true (is_one t (locks.writer i)) ∙ put_test (λ (b : Bool) (w : Option ℕ). (if b && (u == t) then false else is_one t (locks.writer i)) ≡ is_one t w) locks.writer o (without_slot u (locks.writer o)) i (λ here. ap (λ j. if u == t then false else is_one t (locks.writer j)) here ∙ writer_left u t (locks.writer o)) (λ other. refl);
      counted = λ i. put_both IsCounted locks.reads locks.readers o (put (locks.reads o) u false) (readers_without (locks.reads o u) (locks.readers o)) i (λ here. counted_less (locks.reads o) (locks.readers o) u (sound.counted o)) (λ other. sound.counted i);
      alone = λ i. put_both IsAlone locks.writer locks.reads o (without_slot u (locks.writer o)) (put (locks.reads o) u false) i (λ here. left_alone u (locks.writer o) (locks.reads o) (sound.alone o)) (λ other. sound.alone i);
    }

    -- who enters finds no writer
    unwritten : (u l : ℕ) (write : Bool) → MayEnter k u l write → is_written locks l ≡ false
    unwritten u l write law = entry_free locks l (sound.counted l) write law.enters

    -- ---- any mark

    -- an operand that names nothing would be initialised
    no_lock : (o : ℕ) → locks.initialised (object_named (negsuc o)) ≡ true → ⊥
    no_lock o some = let below = locked.locks (object_named (negsuc o)) some in absurd (omega (arith, below))

    -- an answer to a call on mutexes and locks is 1
    by_one : (u : Tid) (c : Call) (n : ℤ) → n ≡ pos 1 → Step (answer_told k u.0 c (Int (pos 1))) (mark.Answered u c (Int (pos 1))) → Step (answer_told k u.0 c (Int n)) (mark.Answered u c (Int n))
    by_one u c n one h = subst (λ (z : ℤ). Step (answer_told k u.0 c (Int z)) (mark.Answered u c (Int z))) (sym one) h

    answered : (u : Tid) (c : Call) (a : Answer) → is_kill (mark.Answered u c a) ≡ false → IsAnswerExclusive k u.0 c a → Step (answer_told k u.0 c a) (mark.Answered u c a)
    unfolding answer_told
    answered u (call.MutexInit (pos o)) (Int n) on law = let m = mark.Answered u (call.MutexInit (pos o)) (Int (pos 1)) in by_one u (call.MutexInit (pos o)) n law.0 (begun u o law.1.new, locks_still m (λ t l w b. refl) (λ l. refl))
    answered u (call.MutexInit (negsuc o)) (Int n) on law = let below = law.1.known in absurd (omega (arith, below))
    answered u (call.MutexAcquire (pos o) v e) (Int n) on law = let m = mark.Answered u (call.MutexAcquire (pos o) v e) (Int (pos 1)) in by_one u (call.MutexAcquire (pos o) v e) n law.0 (taken_so u.0 o k.awaits m law.1 (λ t i. refl) (λ t. refl) (λ i. refl), locks_still m (λ t l w b. refl) (λ l. refl))
    answered u (call.MutexAcquire (negsuc o) v e) (Int n) on law = absurd (no_mutex o law.1.initialised)
    answered u (call.MutexRelease (pos o)) (Int n) on law = let m = mark.Answered u (call.MutexRelease (pos o)) (Int (pos 1)) in by_one u (call.MutexRelease (pos o)) n law.0 (released_so u.0 o k.awaits m law.1 (λ t i. refl) (λ t. refl) (λ i. refl), locks_still m (λ t l w b. refl) (λ l. refl))
    answered u (call.MutexRelease (negsuc o)) (Int n) on law = absurd (no_mutex o (has_some u.0 (mutexes (object_named (negsuc o))) law.1))
    answered u (call.RwInit (pos o)) (Int n) on law = let m = mark.Answered u (call.RwInit (pos o)) (Int (pos 1)) in by_one u (call.RwInit (pos o)) n law.0 (mutexes_still m (λ t i x. refl) (λ t b. refl) (λ i. refl), lock_begun u o)
    answered u (call.RwInit (negsuc o)) (Int n) on law = let below = law.1.known in absurd (omega (arith, below))
    answered u (call.RwAcquire (pos o) true v e) (Int n) on law = let m = mark.Answered u (call.RwAcquire (pos o) true v e) (Int (pos 1)) in by_one u (call.RwAcquire (pos o) true v e) n law.0 (mutexes_still m (λ t i x. refl) (λ t b. refl) (λ i. refl), written_so u o v e (unwritten u.0 o true law.1) (entry_alone locks o (sound.counted o) law.1.enters))
    answered u (call.RwAcquire (pos o) false v e) (Int n) on law = let m = mark.Answered u (call.RwAcquire (pos o) false v e) (Int (pos 1)) in by_one u (call.RwAcquire (pos o) false v e) n law.0 (mutexes_still m (λ t i x. refl) (λ t b. refl) (λ i. refl), read_so u o v e (unwritten u.0 o false law.1) (or_parts _ _ law.1.out).1)
    answered u (call.RwAcquire (negsuc o) true v e) (Int n) on law = absurd (no_lock o law.1.initialised)
    answered u (call.RwAcquire (negsuc o) false v e) (Int n) on law = absurd (no_lock o law.1.initialised)
    answered u (call.RwRelease (pos o)) (Int n) on law = let m = mark.Answered u (call.RwRelease (pos o)) (Int (pos 1)) in by_one u (call.RwRelease (pos o)) n law.0 (mutexes_still m (λ t i x. refl) (λ t b. refl) (λ i. refl), left_so u.0 o m (λ t i w b. refl) (λ i. refl))
    answered u (call.RwRelease (negsuc o)) (Int n) on law = absurd (no_lock o (locked.held (object_named (negsuc o)) u.0 law.1))
    answered u (call.CondAwait c m e) a on law = answers_await u c m e a (k.awaits u.0) refl law
    answered u call.Kill (Int n) on law = absurd (true≢false on)
    answered u (call.CleanupPush h v) a on law = let m = mark.Answered u (call.CleanupPush h v) a in let q : Step k m = quiet m (λ t i x. refl) (λ t b. refl) (λ i. refl) (λ t l w b. refl) (λ l. refl) in step_one a _ m q q
    answered u (call.CleanupPop v) a on law = let m = mark.Answered u (call.CleanupPop v) a in let q : Step k m = quiet m (λ t i x. refl) (λ t b. refl) (λ i. refl) (λ t l w b. refl) (λ l. refl) in step_one a _ m q q
    answered u (call.KeyCreate h) a on law = let m = mark.Answered u (call.KeyCreate h) a in let q : Step k m = quiet m (λ t i x. refl) (λ t b. refl) (λ i. refl) (λ t l w b. refl) (λ l. refl) in step_int a _ m q (λ n. q)
    answered u (call.KeyDelete key) a on law = let m = mark.Answered u (call.KeyDelete key) a in let q : Step k m = quiet m (λ t i x. refl) (λ t b. refl) (λ i. refl) (λ t l w b. refl) (λ l. refl) in step_one a _ m q q
    answered u (call.KeySet key v) a on law = let m = mark.Answered u (call.KeySet key v) a in let q : Step k m = quiet m (λ t i x. refl) (λ t b. refl) (λ i. refl) (λ t l w b. refl) (λ l. refl) in step_one a _ m q q
    answered u (call.PortCreate name) a on law = let m = mark.Answered u (call.PortCreate name) a in let q : Step k m = quiet m (λ t i x. refl) (λ t b. refl) (λ i. refl) (λ t l w b. refl) (λ l. refl) in step_int a _ m q (λ n. q)
    answered u (call.PortPut p v r) a on law = let m = mark.Answered u (call.PortPut p v r) a in let q : Step k m = quiet m (λ t i x. refl) (λ t b. refl) (λ i. refl) (λ t l w b. refl) (λ l. refl) in step_int a _ m q (λ n. q)
    answered u (call.PortGet p) a on law = let m = mark.Answered u (call.PortGet p) a in let q : Step k m = quiet m (λ t i x. refl) (λ t b. refl) (λ i. refl) (λ t l w b. refl) (λ l. refl) in step_msg a _ m q q
    answered u (call.Reply i v) a on law = let m = mark.Answered u (call.Reply i v) a in let q : Step k m = quiet m (λ t i x. refl) (λ t b. refl) (λ i. refl) (λ t l w b. refl) (λ l. refl) in step_int a _ m q (λ n. q)
    answered u (call.PortDestroy p) a on law = let m = mark.Answered u (call.PortDestroy p) a in let q : Step k m = quiet m (λ t i x. refl) (λ t b. refl) (λ i. refl) (λ t l w b. refl) (λ l. refl) in step_int a _ m q (λ n. q)
    answered u c a on law = quiet (mark.Answered u c a) (λ t i x. refl) (λ t b. refl) (λ i. refl) (λ t l w b. refl) (λ l. refl)

pub told_step : (b : Book) → IsSound b.resources.store.mutexes b.resources.store.rw_locks → Locked b.resources → (m : Mark) → is_kill m ≡ false → IsExclusiveMark b m → Step b.resources (told b.resources m) m
unfolding told act_told answer_told
told_step b sound locked (mark.Answered u c a) on law = answered b.resources sound locked u c a on law
told_step b sound locked (mark.Acted u (act.Release (pos o)) (Int n)) on law =
    let k = b.resources in
    let m = mark.Acted u (act.Release (pos o)) (Int (pos 1)) in
    let h : Step k (told k m) m = (released_so k sound locked u.0 o k.awaits m law.1 (λ t i. refl) (λ t. refl) (λ i. refl), locks_still k sound locked m (λ t l w b. refl) (λ l. refl)) in
    subst (λ (z : ℤ). Step k (told k (mark.Acted u (act.Release (pos o)) (Int z))) (mark.Acted u (act.Release (pos o)) (Int z))) (sym law.0) h
told_step b sound locked (mark.Acted u (act.Release (negsuc o)) (Int n)) on law = absurd (no_mutex b.resources sound locked o (has_some u.0 (b.resources.store.mutexes (object_named (negsuc o))) law.1))
told_step b sound locked (mark.Acted u (act.Put p v) a) on law = let k = b.resources in let m = mark.Acted u (act.Put p v) a in let q : Step k k m = quiet k sound locked m (λ t i x. refl) (λ t b. refl) (λ i. refl) (λ t l w b. refl) (λ l. refl) in step_int k sound locked a _ m q (λ n. q)
told_step b sound locked (mark.Acted u (act.SetKey key v) a) on law = let k = b.resources in let m = mark.Acted u (act.SetKey key v) a in let q : Step k k m = quiet k sound locked m (λ t i x. refl) (λ t b. refl) (λ i. refl) (λ t l w b. refl) (λ l. refl) in step_one k sound locked a _ m q q
told_step b sound locked (mark.Waits u (call.CondAwait c m e)) on law = waits_await b.resources sound locked u c m e (b.resources.awaits u.0) refl law
told_step b sound locked (mark.Took u i) on law = let k = b.resources in let m = mark.Took u i in (taken_so k sound locked u.0 i (put k.awaits u.0 false) m law (λ t i. refl) (λ t. flag_set k.awaits u.0 t false) (λ i. refl), locks_still k sound locked m (λ t l w b. refl) (λ l. refl))
told_step b sound locked (mark.GaveMutex u i) on law = let k = b.resources in let m = mark.GaveMutex u i in (changed k sound locked u.0 i (λ t j. 0) k.awaits m (own_is_no_others u.0 (k.store.mutexes i) law) (has_some u.0 (k.store.mutexes i) law) (λ t i. refl) (λ t. refl) (λ i. refl), locks_still k sound locked m (λ t l w b. refl) (λ l. refl))
told_step b sound locked (mark.GaveLock u l) on law = let k = b.resources in let m = mark.GaveLock u l in (mutexes_still k sound locked m (λ t i x. refl) (λ t b. refl) (λ i. refl), left_so k sound locked u.0 l m (λ t i w b. refl) (λ i. refl))
told_step b sound locked (mark.Ended u v) on law = (ends_mutexes b.resources sound locked u v law.mutexes, ends_locks b.resources sound locked u v law.locks)
told_step b sound locked m on law = quiet b.resources sound locked m (λ t i x. refl) (λ t b. refl) (λ i. refl) (λ t l w b. refl) (λ l. refl)
