-- What exclusive marks come to, and what marks of what was initialised do.
use Rattle.std.proofs.Common.{◌≡◌, ◌≢◌, ◌<◌, ◌≤◌, ℕ, zero, suc, ◌+◌, ◌-◌, ◌==◌, ◌||◌, ℤ, pos, Bool, true, false, if◌then◌else◌, List, [], ◌∷◌, ◌++◌, fold, Option, Some, refl, sym, ◌∙◌, ap, subst, append_assoc, append-nil, arith}
use Rattle.std.specs.List.{list_any}
use Rattle.std.proofs.Math.Bool.{or-false}
use Rattle.std.proofs.lemmas.List.Folds.{list_any-append}
use Rattle.std.proofs.lemmas.List.Sums.{fold-append}
use Rattle.std.proofs.lemmas.Bool.{or_left, false_from_ne_true, true≢false, and_parts, or_parts, or_from}
use Rattle.pth_base.specs.declared.answer.Answer.TheVariants.{Int}
use Rattle.pth_base.specs.declared.call.Call.TheVariants as call
use Rattle.pth_base.specs.declared.mark.Mark.{Mark}
use Rattle.pth_base.specs.declared.mark.Mark.TheVariants as mark
use Rattle.pth_base.proofs.Tables.{same_means}
use Rattle.pth_laws.specs.Marks.{is_same, thread_of}
use Rattle.pth_laws.specs.Exclusive.{is_of, awaits_after, awaits, takes_level, gives, gives_up, Share, share_after, levels, enters, leaves, held_after, reads, writes, is_holder, IsExclusiveAt, Exclusive, IsExclusiveAfter}
use Rattle.pth_laws.specs.Initialised.{initialises_mutex, initialises_lock, IsObject, IsInitialisedAt, Initialised, HaveObjects}

-- ---- one thread alone takes, or enters, at a mark

taker_of : (t : ℕ) (i : ℤ) (x : Bool) (m : Mark) → takes_level t i x m ≡ true → thread_of m ≡ Some t
taker_of t i x (mark.Answered u (call.MutexAcquire m v e) (Int (pos (suc zero)))) h = ap Some (same_means u.0 t (and_parts (is_same i m) (u.0 == t) h).1)
taker_of t i x (mark.Answered u (call.CondAwait c m e) a) h = ap Some (same_means u.0 t (and_parts (is_same i m) (u.0 == t) (and_parts x (is_of t i u.0 m) h).1).1)
taker_of t i x (mark.Took u m) h = ap Some (same_means u.0 t (and_parts (is_same i (pos m)) (u.0 == t) h).1)
taker_of t i x m h = absurd (true≢false (sym h))

enterer_of : (t : ℕ) (l : ℤ) (write : Bool) (m : Mark) → enters t l write m ≡ true → thread_of m ≡ Some t
enterer_of t l true (mark.Answered u (call.RwAcquire k true v e) (Int (pos (suc zero)))) h = ap Some (same_means u.0 t (and_parts (is_same l k) (u.0 == t) h).1)
enterer_of t l false (mark.Answered u (call.RwAcquire k true v e) (Int (pos (suc zero)))) h = absurd (true≢false (sym h))
enterer_of t l true (mark.Answered u (call.RwAcquire k false v e) (Int (pos (suc zero)))) h = absurd (true≢false (sym h))
enterer_of t l false (mark.Answered u (call.RwAcquire k false v e) (Int (pos (suc zero)))) h = ap Some (same_means u.0 t (and_parts (is_same l k) (u.0 == t) h).1)
enterer_of t l write m h = absurd (true≢false (sym h))

one_thread : (t u : ℕ) (o : Option ℕ) → o ≡ Some t → o ≡ Some u → u ≡ t
one_thread t u o first second = cc

-- by a test, with what it says
by_bool : {A : Type 0} (b : Bool) → (b ≡ true → A) → (b ≡ false → A) → A
by_bool true if_so if_not = if_so refl
by_bool false if_so if_not = if_not refl

-- ---- one mark more

awaiting_from : (t : ℕ) (i : ℤ) (x : Share) (ms : List Mark) → (fold (share_after t i) x ms).awaiting ≡ fold (awaits_after t) x.awaiting ms
awaiting_from t i x [] = refl
awaiting_from t i x (m ∷ ms) = awaiting_from t i (share_after t i x m) ms

module _ (before : List Mark) (m : Mark) where
  abbrev more : List Mark
  more = before ++ m ∷ []

  -- levels after the mark
  levels_more : (t : ℕ) (i : ℤ) → levels t i more ≡ (if gives_up t i m then 0 else (if takes_level t i (awaits t before) m then levels t i before + 1 else (if gives t i (awaits t before) m then levels t i before - 1 else levels t i before)))
  levels_more t i =
      ap (λ (x : Share). x.had) (fold-append (share_after t i) (record { had = 0; awaiting = false }) before (m ∷ []))
      ∙ ap (λ (x : Bool). if gives_up t i m then 0 else (if takes_level t i x m then levels t i before + 1 else (if gives t i x m then levels t i before - 1 else levels t i before))) (awaiting_from t i (record { had = 0; awaiting = false }) before)

  -- who takes none has no more afterwards
  no_more : (t : ℕ) (i : ℤ) → takes_level t i (awaits t before) m ≡ false → levels t i more ≤ levels t i before
  no_more t i none = subst (λ (n : ℕ). n ≤ levels t i before) (sym (levels_more t i)) (by_tests (gives_up t i m) (takes_level t i (awaits t before) m) (gives t i (awaits t before) m) (levels t i before) none)
    where
      by_tests : (a b c : Bool) (n : ℕ) → b ≡ false → (if a then 0 else (if b then n + 1 else (if c then n - 1 else n))) ≤ n
      by_tests true b c n none = omega arith
      by_tests false true c n none = absurd (true≢false none)
      by_tests false false true n none = omega arith
      by_tests false false false n none = omega arith

  held_more : (t : ℕ) (l : ℤ) (write : Bool) → fold (held_after t l write) false more ≡ held_after t l write (fold (held_after t l write) false before) m
  held_more t l write = fold-append (held_after t l write) false before (m ∷ [])

  -- who does not enter, and did not hold it, does not
  still_out : (t : ℕ) (l : ℤ) (write : Bool) → enters t l write m ≡ false → fold (held_after t l write) false before ≡ false → fold (held_after t l write) false more ≡ false
  still_out t l write none out = held_more t l write ∙ by_tests (enters t l write m) (leaves t l m) (fold (held_after t l write) false before) none out
    where
      by_tests : (a b c : Bool) → a ≡ false → c ≡ false → (if a then true else (if b then false else c)) ≡ false
      by_tests true b c none out = absurd (true≢false none)
      by_tests false true c none out = refl
      by_tests false false c none out = out

  -- who holds it and did not enter held it before
  held_before : (t : ℕ) (l : ℤ) (write : Bool) → enters t l write m ≡ false → fold (held_after t l write) false more ≡ true → fold (held_after t l write) false before ≡ true
  held_before t l write none held = by_tests (enters t l write m) (leaves t l m) (fold (held_after t l write) false before) none (sym (held_more t l write) ∙ held)
    where
      by_tests : (a b c : Bool) → a ≡ false → (if a then true else (if b then false else c)) ≡ true → c ≡ true
      by_tests true b c none h = absurd (true≢false none)
      by_tests false true c none h = absurd (true≢false (sym h))
      by_tests false false c none h = h

  module _ (said : IsExclusiveAt before m) (x : IsExclusiveAfter before) where
    -- who took no level has none, if another one has one
    others_none : (t u : ℕ) (i : ℤ) → 0 < levels t i more → u ≢ t → takes_level u i (awaits u before) m ≡ false → levels u i before ≡ 0
    others_none t u i some apart none = by_bool (takes_level t i (awaits t before) m)
        (λ taking. said.taker_is_alone t u i taking apart)
        (λ off. let less = no_more t i off in x.one_owner t u i (omega (arith, less, some)) apart)

    one_owner : (t u : ℕ) (i : ℤ) → 0 < levels t i more → u ≢ t → levels u i more ≡ 0
    one_owner t u i some apart = by_bool (takes_level u i (awaits u before) m)
        (λ taking.
        let alone = said.taker_is_alone u t i taking (λ same. apart (sym same)) in
        by_bool (takes_level t i (awaits t before) m)
        (λ also. absurd (apart (one_thread t u (thread_of m) (taker_of t i (awaits t before) m also) (taker_of u i (awaits u before) m taking))))
        (λ off. let less = no_more t i off in absurd (omega (arith, less, some, alone))))
        (λ off. let less = no_more u i off in let none = others_none t u i some apart off in omega (arith, less, none))

    -- u neither entered nor held it
    out_after : (u : ℕ) (l : ℤ) → ((write : Bool) → enters u l write m ≡ true → ⊥) → writes u l before ≡ false → reads u l before ≡ false → is_holder u l more ≡ false
    out_after u l none no_write no_read = or_from _ _ (still_out u l true (false_from_ne_true (enters u l true m) (none true)) no_write) (still_out u l false (false_from_ne_true (enters u l false m) (none false)) no_read)

    writer_is_alone : (t u : ℕ) (l : ℤ) → writes t l more ≡ true → u ≢ t → is_holder u l more ≡ false
    writer_is_alone t u l held apart = by_bool (enters t l true m)
        (λ entering.
        out_after u l
        (λ write also. apart (one_thread t u (thread_of m) (enterer_of t l true m entering) (enterer_of u l write m also)))
        (said.meets_no_writer t u l true entering) (said.writer_meets_no_reader t u l entering))
        (λ off.
        let before_that = held_before t l true off held in
        let (no_write, no_read) = or_parts _ _ (x.writer_is_alone t u l before_that apart) in
        out_after u l (λ write also. true≢false (sym before_that ∙ said.meets_no_writer u t l write also)) no_write no_read)

    excludes_more : IsExclusiveAfter more
    excludes_more = record { one_owner = one_owner; writer_is_alone = writer_is_alone }

-- ---- what was initialised

any_last : (test : Mark → Bool) (before : List Mark) (m : Mark) → list_any test (before ++ m ∷ []) ≡ (list_any test before || test m)
any_last test before m = list_any-append test before (m ∷ []) ∙ ap (λ b. list_any test before || b) (or-false (test m))

-- what was initialised is in range, and what threads have was initialised
record AreInRange (before : List Mark) : Type 0 where
  mutexes : (i : ℤ) → list_any (initialises_mutex i) before ≡ true → IsObject i
  locks : (l : ℤ) → list_any (initialises_lock l) before ≡ true → IsObject l
  had : (t : ℕ) (i : ℤ) → 0 < levels t i before → list_any (initialises_mutex i) before ≡ true
  held : (t : ℕ) (l : ℤ) (write : Bool) → fold (held_after t l write) false before ≡ true → list_any (initialises_lock l) before ≡ true

in_range_more : (before : List Mark) (m : Mark) → IsInitialisedAt before m → AreInRange before → AreInRange (before ++ m ∷ [])
in_range_more before m said x = record {
  mutexes = λ i some. by_last (list_any (initialises_mutex i) before) (initialises_mutex i m) (sym (any_last (initialises_mutex i) before m) ∙ some) (x.mutexes i) (λ new. (said.mutex_is_new i new).0);
  locks = λ l some. by_last (list_any (initialises_lock l) before) (initialises_lock l m) (sym (any_last (initialises_lock l) before m) ∙ some) (x.locks l) (λ new. (said.lock_is_new l new).0);
  had = λ t i some. still (initialises_mutex i) (by_bool (takes_level t i (awaits t before) m) (λ taking. said.taken_was_initialised t i taking) (λ off. let less = no_more before m t i off in x.had t i (omega (arith, less, some))));
  held = λ t l write some. still (initialises_lock l) (by_bool (enters t l write m) (λ entering. said.entered_was_initialised t l write entering) (λ off. x.held t l write (held_before before m t l write off some)));
}
  where
    by_last : {A : Type 0} (a b : Bool) → (a || b) ≡ true → (a ≡ true → A) → (b ≡ true → A) → A
    by_last true b h first last = first refl
    by_last false b h first last = last h

    still : (test : Mark → Bool) → list_any test before ≡ true → list_any test (before ++ m ∷ []) ≡ true
    still test h = any_last test before m ∙ or_left (list_any test before) (test m) h

-- ---- all marks

-- what one mark keeps, a list keeps
module _ (A : List Mark → Mark → Type 0) (K : List Mark → Type 0) (step : (before : List Mark) (m : Mark) → A before m → K before → K (before ++ m ∷ [])) where
  kept_along : (done ms : List Mark) → ((next later : List Mark) (m : Mark) → ms ≡ next ++ m ∷ later → A (done ++ next) m) → K done → K (done ++ ms)
  kept_along done [] said h = subst K (sym (append-nil done)) h
  kept_along done (m ∷ ms) said h =
      let here : A done m = subst (λ (xs : List Mark). A xs m) (append-nil done) (said [] ms m refl) in
      subst K (append_assoc done (m ∷ []) ms)
      (kept_along (done ++ m ∷ []) ms (λ next later n e. subst (λ (xs : List Mark). A xs n) (sym (append_assoc done (m ∷ []) next)) (said (m ∷ next) later n (ap (λ (xs : List Mark). m ∷ xs) e))) (step done m here h))

  pub kept : (before later : List Mark) → ((next rest : List Mark) (m : Mark) → before ++ later ≡ next ++ m ∷ rest → A next m) → K [] → K before
  kept before later said start = kept_along [] before (λ next rest m e. said next (rest ++ later) m (ap (λ (xs : List Mark). xs ++ later) e ∙ append_assoc next (m ∷ rest) later)) start

pub exclusive_after : (before later : List Mark) → Exclusive (before ++ later) → IsExclusiveAfter before
exclusive_after before later law = kept IsExclusiveAt IsExclusiveAfter excludes_more before later law (record { one_owner = λ t u i some apart. refl; writer_is_alone = λ t u l held apart. absurd (true≢false (sym held)) })

pub have_objects : (before later : List Mark) → Initialised (before ++ later) → HaveObjects before
have_objects before later law =
    let x = kept IsInitialisedAt AreInRange in_range_more before later law
    (record { mutexes = λ i h. absurd (true≢false (sym h)); locks = λ l h. absurd (true≢false (sym h)); had = λ t i some. absurd (omega (arith, some)); held = λ t l write h. absurd (true≢false (sym h)) }) in
    record {
      had = λ t i some. x.mutexes i (x.had t i some);
      held = λ t l held. by_holder t l (writes t l before) (reads t l before) refl refl held x;
    }
  where
    by_holder : (t : ℕ) (l : ℤ) (a b : Bool) → writes t l before ≡ a → reads t l before ≡ b → (a || b) ≡ true → AreInRange before → IsObject l
    by_holder t l true b writing reading held x = x.locks l (x.held t l true writing)
    by_holder t l false b writing reading held x = x.locks l (x.held t l false (reading ∙ held))
