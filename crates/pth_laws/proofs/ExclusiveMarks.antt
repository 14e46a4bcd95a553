-- Marks that keep the laws of the walk are exclusive, and of what was initialised: the levels and the holders that a sentence reads in
-- the marks before a mark are those that the book has.
use Rattle.std.proofs.Common.{◌≡◌, ◌<◌, ℕ, zero, suc, ◌+◌, ◌-◌, ◌==◌, ◌||◌, not, ℤ, pos, negsuc, Bool, true, false, if◌then◌else◌, List, [], ◌∷◌, ◌++◌, Option, Some, None, is_some, refl, sym, ◌∙◌, ap, ap₂, subst, append_assoc, append-nil, arith}
use Rattle.std.specs.List.{list_any}
use Rattle.std.proofs.Math.Bool.{or-false}
use Rattle.std.proofs.lemmas.List.Folds.{list_any-append}
use Rattle.std.proofs.lemmas.List.Sums.{fold-append}
use Rattle.std.proofs.lemmas.Bool.{true≢false, and_parts, not-true, or_parts, false_from_ne_true}
use Rattle.pth_base.specs.declared.act.Act.TheVariants as act
use Rattle.pth_base.specs.declared.answer.Answer.TheVariants.{Int}
use Rattle.pth_base.specs.declared.call.Call.TheVariants as call
use Rattle.pth_base.specs.declared.mark.Mark.{Mark}
use Rattle.pth_base.specs.declared.mark.Mark.TheVariants as mark
use Rattle.pth_base.proofs.Tables.{same_means}
use Rattle.pth_lock.specs.Objects.{object_named}
use Rattle.pth_lock.specs.Mutexes.{levels_of}
use Rattle.pth_lock.specs.RwLocks.{is_one}
use Rattle.pth_model.specs.Resources.{told}
use Rattle.pth_model.specs.Store.{Resources}
use Rattle.pth_laws.specs.Marks.{is_same, at_number, thread_of, is_end_of}
use Rattle.pth_laws.specs.Exclusive.{is_of, awaits_after, awaits, takes_level, gives, gives_up, Share, share_after, share, levels, enters, leaves, held_after, reads, writes, is_holder, IsExclusiveAt, Exclusive}
use Rattle.pth_laws.specs.Initialised.{initialises_mutex, initialises_lock, IsInitialisedAt, Initialised}
use Rattle.pth_laws.proofs.Book.{Book, empty_book, book_of, after, is_kill}
use Rattle.pth_laws.proofs.Counted.{counted_none}
use Rattle.pth_laws.proofs.Laws.{EachMark, HasNotEnded, IsNewMutex, IsNewLock, MayTake, MayEnter, HasMutex, HoldsLock, HoldsNothing, IsExclusiveMark, IsLawful}
use Rattle.pth_laws.proofs.Locked.{Locked, has_some, locked_none, locked_after}
use Rattle.pth_laws.proofs.Numbers.{same_number, named_object}
use Rattle.pth_laws.proofs.OrderlyMarks.{unkilled}
use Rattle.pth_laws.proofs.Prefixes.{each_at}
use Rattle.pth_laws.proofs.Shares.{IsSound, share_in, told_step, not_had, others_have_none, no_writer, entry_free, entry_alone}

-- ---- who does something at a mark, with a mutex or a lock of 0 to 63

-- P holds of t and an object, which is i
record IsAt (P : ℕ → ℕ → Type 0) (t : ℕ) (i : ℤ) : Type 0 where
  object : ℕ
  is : i ≡ pos object
  holds : P t object

-- what holds of a mark's thread and object holds of these
at_mark : (P : ℕ → ℕ → Type 0) (t : ℕ) (i : ℤ) (u o : ℕ) (m : ℤ) → m ≡ pos o → is_of t i u m ≡ true → P u o → IsAt P t i
at_mark P t i u o m same h p =
    let h2 = and_parts (is_same i m) (u == t) h in
    record { object = o; is = same_number i m h2.0 ∙ same; holds = subst (λ (v : ℕ). P v o) (same_means u t h2.1) p }

module _ (b : Book) (locked : Locked b.resources) where
  abbrev k : Resources
  k = b.resources

  -- the operand of a call names a mutex that is initialised, or a lock
  is_mutex : (m : ℤ) → is_some (k.store.mutexes (object_named m)) ≡ true → m ≡ pos (object_named m)
  is_mutex m some = named_object m (locked.mutexes (object_named m) some)

  is_lock : (l : ℤ) → k.store.rw_locks.initialised (object_named l) ≡ true → l ≡ pos (object_named l)
  is_lock l some = named_object l (locked.locks (object_named l) some)

  begins_new : (i : ℤ) (m : Mark) → initialises_mutex i m ≡ true → IsExclusiveMark b m → IsAt (λ t o. IsNewMutex k o) 0 i
  begins_new i (mark.Answered u (call.MutexInit m) (Int (pos (suc zero)))) h law = record { object = object_named m; is = same_number i m h ∙ named_object m law.1.known; holds = law.1 }
  begins_new i m h law = absurd (true≢false (sym h))

  begins_lock : (l : ℤ) (m : Mark) → initialises_lock l m ≡ true → IsExclusiveMark b m → IsAt (λ t o. IsNewLock k o) 0 l
  begins_lock l (mark.Answered u (call.RwInit o) (Int (pos (suc zero)))) h law = record { object = object_named o; is = same_number l o h ∙ named_object o law.1.known; holds = law.1 }
  begins_lock l m h law = absurd (true≢false (sym h))

  taker : (t : ℕ) (i : ℤ) (m : Mark) → takes_level t i (k.awaits t) m ≡ true → IsExclusiveMark b m → IsAt (MayTake k) t i
  taker t i (mark.Answered u (call.MutexAcquire m v e) (Int (pos (suc zero)))) h law = at_mark (MayTake k) t i u.0 (object_named m) m (is_mutex m law.1.initialised) h law.1
  taker t i (mark.Answered u (call.CondAwait c m e) a) h law =
      let h2 = and_parts (k.awaits t) (is_of t i u.0 m) h in
      let own : u.0 ≡ t = same_means u.0 t (and_parts (is_same i m) (u.0 == t) h2.1).1 in
      let may = law (ap k.awaits own ∙ h2.0) in
      at_mark (MayTake k) t i u.0 (object_named m) m (is_mutex m may.initialised) h2.1 may
  taker t i (mark.Took u m) h law = at_mark (MayTake k) t i u.0 m (pos m) refl h law
  taker t i m h law = absurd (true≢false (sym h))

  giver : (t : ℕ) (i : ℤ) (m : Mark) → gives t i (k.awaits t) m ≡ true → IsExclusiveMark b m → IsAt (HasMutex k) t i
  giver t i (mark.Answered u (call.MutexRelease m) (Int (pos (suc zero)))) h law = at_mark (HasMutex k) t i u.0 (object_named m) m (is_mutex m (has_some u.0 (k.store.mutexes (object_named m)) law.1)) h law.1
  giver t i (mark.Acted u (act.Release m) (Int (pos (suc zero)))) h law = at_mark (HasMutex k) t i u.0 (object_named m) m (is_mutex m (has_some u.0 (k.store.mutexes (object_named m)) law.1)) h law.1
  giver t i (mark.Waits u (call.CondAwait c m e)) h law =
      let h2 = and_parts (not (k.awaits t)) (is_of t i u.0 m) h in
      let own : u.0 ≡ t = same_means u.0 t (and_parts (is_same i m) (u.0 == t) h2.1).1 in
      let has = law (ap k.awaits own ∙ not-true _ h2.0) in
      at_mark (HasMutex k) t i u.0 (object_named m) m (is_mutex m (has_some u.0 (k.store.mutexes (object_named m)) has)) h2.1 has
  giver t i m h law = absurd (true≢false (sym h))

  giver_up : (t : ℕ) (i : ℤ) (m : Mark) → gives_up t i m ≡ true → IsExclusiveMark b m → IsAt (HasMutex k) t i
  giver_up t i (mark.GaveMutex u m) h law = at_mark (HasMutex k) t i u.0 m (pos m) refl h law
  giver_up t i m h law = absurd (true≢false (sym h))

  enterer : (t : ℕ) (l : ℤ) (write : Bool) (m : Mark) → enters t l write m ≡ true → IsExclusiveMark b m → IsAt (λ v o. MayEnter k v o write) t l
  enterer t l true (mark.Answered u (call.RwAcquire o true v e) (Int (pos (suc zero)))) h law = at_mark (λ v j. MayEnter k v j true) t l u.0 (object_named o) o (is_lock o law.1.initialised) h law.1
  enterer t l false (mark.Answered u (call.RwAcquire o true v e) (Int (pos (suc zero)))) h law = absurd (true≢false (sym h))
  enterer t l true (mark.Answered u (call.RwAcquire o false v e) (Int (pos (suc zero)))) h law = absurd (true≢false (sym h))
  enterer t l false (mark.Answered u (call.RwAcquire o false v e) (Int (pos (suc zero)))) h law = at_mark (λ v j. MayEnter k v j false) t l u.0 (object_named o) o (is_lock o law.1.initialised) h law.1
  enterer t l write m h law = absurd (true≢false (sym h))

  leaver : (t : ℕ) (l : ℤ) (m : Mark) → leaves t l m ≡ true → IsExclusiveMark b m → IsAt (HoldsLock k) t l
  leaver t l (mark.Answered u (call.RwRelease o) (Int (pos (suc zero)))) h law = at_mark (HoldsLock k) t l u.0 (object_named o) o (is_lock o (locked.held (object_named o) u.0 law.1)) h law.1
  leaver t l (mark.GaveLock u o) h law = at_mark (HoldsLock k) t l u.0 o (pos o) refl h law
  leaver t l m h law = absurd (true≢false (sym h))

  ender : (t : ℕ) (m : Mark) → is_end_of t m ≡ true → IsExclusiveMark b m → HoldsNothing k t
  ender t (mark.Ended u v) h law = subst (HoldsNothing k) (same_means u.0 t h) law
  ender t m h law = absurd (true≢false (sym h))

-- ---- nothing is ever taken below 0

negative : (P : ℕ → ℕ → Type 0) (t j : ℕ) → IsAt P t (negsuc j) → ⊥
negative P t j at = let is : negsuc j ≡ pos at.object = at.is in cc

-- ---- the marks before a mark fit what the book has of them

abbrev share_of : ℕ → Bool → Share
share_of n b = record { had = n; awaiting = b }

pub record Fits (k : Resources) (before : List Mark) : Type 0 where
  pub shares : (t i : ℕ) → share t (pos i) before ≡ share_in k t i
  pub low_shares : (t i : ℕ) → share t (negsuc i) before ≡ share_of 0 (k.awaits t)
  pub awaiting : (t : ℕ) → awaits t before ≡ k.awaits t
  pub mutexes : (i : ℕ) → list_any (initialises_mutex (pos i)) before ≡ is_some (k.store.mutexes i)
  pub locks : (l : ℕ) → list_any (initialises_lock (pos l)) before ≡ k.store.rw_locks.initialised l
  pub readers : (t l : ℕ) → reads t (pos l) before ≡ k.store.rw_locks.reads l t
  pub low_readers : (t l : ℕ) → reads t (negsuc l) before ≡ false
  pub writers : (t l : ℕ) → writes t (pos l) before ≡ is_one t (k.store.rw_locks.writer l)
  pub low_writers : (t l : ℕ) → writes t (negsuc l) before ≡ false
  pub sound : IsSound k.store.mutexes k.store.rw_locks
  pub locked : Locked k

pub fits_none : Fits empty_book.resources []
fits_none = record {
  shares = λ t i. refl;
  low_shares = λ t i. refl;
  awaiting = λ t. refl;
  mutexes = λ i. refl;
  locks = λ l. refl;
  readers = λ t l. refl;
  low_readers = λ t l. refl;
  writers = λ t l. refl;
  low_writers = λ t l. refl;
  sound = record { positive = λ t i had. absurd (true≢false (sym had)); counted = λ l. counted_none; alone = λ l h. absurd (true≢false (sym h)) };
  locked = locked_none;
}

-- one mark more in a list
any_last : (test : Mark → Bool) (before : List Mark) (m : Mark) → list_any test (before ++ m ∷ []) ≡ (list_any test before || test m)
any_last test before m = list_any-append test before (m ∷ []) ∙ ap (λ b. list_any test before || b) (or-false (test m))

-- nobody takes, or enters, what is below 0
low_levels : (t i : ℕ) (awaiting : Bool) (m : Mark) → takes_level t (negsuc i) awaiting m ≡ false → (share_after t (negsuc i) (share_of 0 awaiting) m).had ≡ 0
low_levels t i awaiting m none = by_test (gives_up t (negsuc i) m) (takes_level t (negsuc i) awaiting m) (gives t (negsuc i) awaiting m) none
  where
    by_test : (a b c : Bool) → b ≡ false → (if a then 0 else (if b then 0 + 1 else (if c then 0 - 1 else 0))) ≡ 0
    by_test true b c none = refl
    by_test false true c none = absurd (true≢false none)
    by_test false false true none = refl
    by_test false false false none = refl

low_held : (t l : ℕ) (write : Bool) (m : Mark) → enters t (negsuc l) write m ≡ false → held_after t (negsuc l) write false m ≡ false
low_held t l write m none = by_test (enters t (negsuc l) write m) (leaves t (negsuc l) m) none
  where
    by_test : (a b : Bool) → a ≡ false → (if a then true else (if b then false else false)) ≡ false
    by_test true b none = absurd (true≢false none)
    by_test false true none = refl
    by_test false false none = refl

fits_after : (b : Book) (before : List Mark) (m : Mark) → is_kill m ≡ false → IsExclusiveMark b m → Fits b.resources before → Fits (told b.resources m) (before ++ m ∷ [])
fits_after b before m on law f =
    let step = told_step b f.sound f.locked m on law in
    record {
      shares = λ t i. fold-append (share_after t (pos i)) (share_of 0 false) before (m ∷ []) ∙ (ap (λ (x : Share). share_after t (pos i) x m) (f.shares t i) ∙ ap₂ share_of (step.0.levels t i) (step.0.awaits t));
      low_shares = λ t i. fold-append (share_after t (negsuc i)) (share_of 0 false) before (m ∷ []) ∙ (ap (λ (x : Share). share_after t (negsuc i) x m) (f.low_shares t i) ∙ ap₂ share_of (low_levels t i (b.resources.awaits t) m (none_takes t i)) (step.0.awaits t));
      awaiting = λ t. fold-append (awaits_after t) false before (m ∷ []) ∙ (ap (λ (x : Bool). awaits_after t x m) (f.awaiting t) ∙ step.0.awaits t);
      mutexes = λ i. any_last (initialises_mutex (pos i)) before m ∙ (ap (λ (x : Bool). x || initialises_mutex (pos i) m) (f.mutexes i) ∙ step.0.known i);
      locks = λ l. any_last (initialises_lock (pos l)) before m ∙ (ap (λ (x : Bool). x || initialises_lock (pos l) m) (f.locks l) ∙ step.1.known l);
      readers = λ t l. fold-append (held_after t (pos l) false) false before (m ∷ []) ∙ (ap (λ (x : Bool). held_after t (pos l) false x m) (f.readers t l) ∙ step.1.reads t l);
      low_readers = λ t l. fold-append (held_after t (negsuc l) false) false before (m ∷ []) ∙ (ap (λ (x : Bool). held_after t (negsuc l) false x m) (f.low_readers t l) ∙ low_held t l false m (none_enters t l false));
      writers = λ t l. fold-append (held_after t (pos l) true) false before (m ∷ []) ∙ (ap (λ (x : Bool). held_after t (pos l) true x m) (f.writers t l) ∙ step.1.writes t l);
      low_writers = λ t l. fold-append (held_after t (negsuc l) true) false before (m ∷ []) ∙ (ap (λ (x : Bool). held_after t (negsuc l) true x m) (f.low_writers t l) ∙ low_held t l true m (none_enters t l true));
      sound = record { positive = step.0.positive; counted = step.1.counted; alone = step.1.alone };
      locked = locked_after b m law f.locked;
    }
  where
    none_takes : (t i : ℕ) → takes_level t (negsuc i) (b.resources.awaits t) m ≡ false
    none_takes t i = false_from_ne_true (takes_level t (negsuc i) (b.resources.awaits t) m) (λ h. negative (MayTake b.resources) t i (taker b f.locked t (negsuc i) m h law))

    none_enters : (t l : ℕ) (write : Bool) → enters t (negsuc l) write m ≡ false
    none_enters t l write = false_from_ne_true (enters t (negsuc l) write m) (λ h. negative (λ v o. MayEnter b.resources v o write) t l (enterer b f.locked t (negsuc l) write m h law))

pub fits_along : (b : Book) (before ms : List Mark) → list_any is_kill ms ≡ false → EachMark IsLawful b ms → Fits b.resources before → Fits (book_of b ms).resources (before ++ ms)
fits_along b before [] on law f = subst (Fits b.resources) (sym (append-nil before)) f
fits_along b before (m ∷ ms) on law f =
    let (first, rest) = or_parts (is_kill m) (list_any is_kill ms) on in
    subst (Fits (book_of b (m ∷ ms)).resources) (append_assoc before (m ∷ []) ms) (fits_along (after b m) (before ++ m ∷ []) ms rest law.1 (fits_after b before m first law.0.1 f))

-- ---- levels and holders by any number

module _ (k : Resources) (before : List Mark) (f : Fits k before) where
  pub levels_are : (t : ℕ) (i : ℤ) → levels t i before ≡ levels_of t (at_number None k.store.mutexes i)
  levels_are t (pos i) = ap (λ (x : Share). x.had) (f.shares t i)
  levels_are t (negsuc i) = ap (λ (x : Share). x.had) (f.low_shares t i)

  pub reads_are : (t : ℕ) (l : ℤ) → reads t l before ≡ at_number false (λ i. k.store.rw_locks.reads i t) l
  reads_are t (pos l) = f.readers t l
  reads_are t (negsuc l) = f.low_readers t l

  pub writes_are : (t : ℕ) (l : ℤ) → writes t l before ≡ is_one t (at_number None k.store.rw_locks.writer l)
  writes_are t (pos l) = f.writers t l
  writes_are t (negsuc l) = f.low_writers t l

-- ---- one mark, by the marks before it

module _ (b : Book) (before : List Mark) (f : Fits b.resources before) where
  abbrev r : Resources
  r = b.resources

  has_level : (t : ℕ) (i : ℤ) → IsAt (HasMutex r) t i → 0 < levels t i before
  has_level t i at =
      let some = f.sound.positive t at.object at.holds in
      let same = levels_are r before f t (pos at.object) in
      subst (λ (z : ℤ). 0 < levels t z before) (sym at.is) (omega (arith, some, same))

  no_level : (t : ℕ) → HoldsNothing r t → (i : ℤ) → levels t i before ≡ 0
  no_level t none (pos i) = levels_are r before f t (pos i) ∙ not_had t (r.store.mutexes i) (none.mutexes i)
  no_level t none (negsuc i) = levels_are r before f t (negsuc i)

  held_by : (t : ℕ) (l : ℕ) (x : Bool) → (is_one t (r.store.rw_locks.writer l) || r.store.rw_locks.reads l t) ≡ x → is_holder t (pos l) before ≡ x
  held_by t l x held = ap₂ (λ (y z : Bool). y || z) (f.writers t l) (f.readers t l) ∙ held

  no_hold : (t : ℕ) → HoldsNothing r t → (l : ℤ) → is_holder t l before ≡ false
  no_hold t none (pos l) = held_by t l false (none.locks l)
  no_hold t none (negsuc l) = ap₂ (λ (y z : Bool). y || z) (f.low_writers t l) (f.low_readers t l)

  module _ (m : Mark) (law : IsExclusiveMark b m) where
    take : (t : ℕ) (i : ℤ) → takes_level t i (awaits t before) m ≡ true → IsAt (MayTake r) t i
    take t i h = taker b f.locked t i m (ap (λ x. takes_level t i x m) (sym (f.awaiting t)) ∙ h) law

    give : (t : ℕ) (i : ℤ) → gives t i (awaits t before) m ≡ true → IsAt (HasMutex r) t i
    give t i h = giver b f.locked t i m (ap (λ x. gives t i x m) (sym (f.awaiting t)) ∙ h) law

    enter : (t : ℕ) (l : ℤ) (write : Bool) → enters t l write m ≡ true → IsAt (λ v o. MayEnter r v o write) t l
    enter t l write h = enterer b f.locked t l write m h law

    to_exclusive : IsExclusiveAt before m
    to_exclusive = record {
      taker_is_alone = λ t u i h apart. let at = take t i h in subst (λ (z : ℤ). levels u z before ≡ 0) (sym at.is) (levels_are r before f u (pos at.object) ∙ others_have_none t u (r.store.mutexes at.object) at.holds.free apart);
      giver_has_level = λ t i h. has_level t i (give t i h);
      given_up_was_had = λ t i h. has_level t i (giver_up b f.locked t i m h law);
      meets_no_writer = λ t u l write h.
          let at = enter t l write h in
          subst (λ (z : ℤ). writes u z before ≡ false) (sym at.is)
          (f.writers u at.object ∙ no_writer (r.store.rw_locks.writer at.object) u (entry_free r.store.rw_locks at.object (f.sound.counted at.object) write at.holds.enters));
      writer_meets_no_reader = λ t u l h.
          let at = enter t l true h in
          subst (λ (z : ℤ). reads u z before ≡ false) (sym at.is) (f.readers u at.object ∙ entry_alone r.store.rw_locks at.object (f.sound.counted at.object) at.holds.enters u);
      leaver_holds = λ t l h. let at = leaver b f.locked t l m h law in subst (λ (z : ℤ). is_holder t z before ≡ true) (sym at.is) (held_by t at.object true at.holds);
      end_has_no_level = λ t i h. no_level t (ender b f.locked t m h law) i;
      end_holds_no_lock = λ t l h. no_hold t (ender b f.locked t m h law) l;
    }

    to_initialised : IsInitialisedAt before m
    to_initialised = record {
      mutex_is_new = λ i h. let at = begins_new b f.locked i m h law in ((at.object, at.is, at.holds.known), subst (λ (z : ℤ). list_any (initialises_mutex z) before ≡ false) (sym at.is) (f.mutexes at.object ∙ at.holds.new));
      lock_is_new = λ l h. let at = begins_lock b f.locked l m h law in ((at.object, at.is, at.holds.known), subst (λ (z : ℤ). list_any (initialises_lock z) before ≡ false) (sym at.is) (f.locks at.object ∙ at.holds.new));
      taken_was_initialised = λ t i h. let at = take t i h in subst (λ (z : ℤ). list_any (initialises_mutex z) before ≡ true) (sym at.is) (f.mutexes at.object ∙ at.holds.initialised);
      entered_was_initialised = λ t l write h. let at = enter t l write h in subst (λ (z : ℤ). list_any (initialises_lock z) before ≡ true) (sym at.is) (f.locks at.object ∙ at.holds.initialised);
      enters_once = λ t l write h. let at = enter t l write h in subst (λ (z : ℤ). is_holder t z before ≡ false) (sym at.is) (held_by t at.object false at.holds.out);
    }

-- ---- each mark of a list

-- a mark of no thread says nothing of mutexes and locks
moved_exclusive : (before : List Mark) (m : Mark) → thread_of m ≡ None → IsExclusiveAt before m × IsInitialisedAt before m
moved_exclusive before (mark.Moved at) none = (
  record {
    taker_is_alone = λ t u i h. absurd (true≢false (sym h));
    giver_has_level = λ t i h. absurd (true≢false (sym h));
    given_up_was_had = λ t i h. absurd (true≢false (sym h));
    meets_no_writer = λ t u l write h. absurd (true≢false (sym h));
    writer_meets_no_reader = λ t u l h. absurd (true≢false (sym h));
    leaver_holds = λ t l h. absurd (true≢false (sym h));
    end_has_no_level = λ t i h. absurd (true≢false (sym h));
    end_holds_no_lock = λ t l h. absurd (true≢false (sym h));
  },
  record {
    mutex_is_new = λ i h. absurd (true≢false (sym h));
    lock_is_new = λ l h. absurd (true≢false (sym h));
    taken_was_initialised = λ t i h. absurd (true≢false (sym h));
    entered_was_initialised = λ t l write h. absurd (true≢false (sym h));
    enters_once = λ t l write h. absurd (true≢false (sym h));
  },
)
moved_exclusive before m none = absurd cc

lawful_at : (marks before later : List Mark) (m : Mark) → marks ≡ before ++ m ∷ later → EachMark IsLawful empty_book marks → IsExclusiveAt before m × IsInitialisedAt before m
lawful_at marks before later m e h = by_thread (thread_of m) refl
  where
    by_thread : (o : Option ℕ) → thread_of m ≡ o → IsExclusiveAt before m × IsInitialisedAt before m
    by_thread None none = moved_exclusive before m none
    by_thread (Some t) is =
        let at = each_at IsLawful empty_book marks before later m e h in
        let b = book_of empty_book before in
        let f = fits_along empty_book [] before (unkilled before t (up t is at.1.0.0)) at.0 fits_none in
        (to_exclusive b before f m at.1.1, to_initialised b before f m at.1.1)
      where
        up : (t : ℕ) → thread_of m ≡ Some t → HasNotEnded (book_of empty_book before) (thread_of m) → (book_of empty_book before).ended t ≡ false
        up t is h = subst (HasNotEnded (book_of empty_book before)) is h

pub lawful_exclusive : (marks : List Mark) → EachMark IsLawful empty_book marks → Exclusive marks
lawful_exclusive marks h before later m e = (lawful_at marks before later m e h).0

pub lawful_initialised : (marks : List Mark) → EachMark IsLawful empty_book marks → Initialised marks
lawful_initialised marks h before later m e = (lawful_at marks before later m e h).1
