-- The mutexes before and after a call.
use Rattle.std.proofs.Common.{◌≡◌, ◌≢◌, ℕ, ◌<◌, ◌==◌, Bool, true, false, if◌then◌else◌, List, length, set, replicate, Option, Some, None, Ok, refl, sym, ◌∙◌, ap, subst, arith, inl, inr, length-set, get_or-set_other, get_or-set_same}
use Rattle.std.proofs.lemmas.List.{length-replicate, get_or_past}
use Rattle.std.proofs.lemmas.Bool.{cases_lt}
use mathlib.Core.Path.{fun_ext}
use Rattle.pth_base.specs.Limits.{thread_limit}
use Rattle.pth_base.specs.Table.{put, table}
use Rattle.pth_base.proofs.Tables.{same_self, not_same, same_means, put_here, put_other}
use Rattle.pth_base.proofs.Lists.{table_set, ap_put}
use Rattle.pth_lock.specs.Objects.{object_limit}
use Rattle.pth_lock.specs.Sets.{contains, is_in_set, changed_in}
use Rattle.pth_lock.specs.Mutexes.{Mutex, mutex_of, mutexes_of, has, take_answer, release_answer, free_mutex, no_mutexes, mutexes_left, HasLevels, MutexesAreSound, MutexesAreKept}
use Rattle.pth_lock.specs.declared.mutexes.Owner.{Owner}
use Rattle.pth_lock.proofs.Sweeps.{by_place, table_replicate, flipped_here, flipped_other, sets_past}

-- a mutex as it is kept, and the list of them
abbrev Kept : Type 0
Kept = Option (Option Owner)

abbrev KeptList : Type 0
KeptList = List Kept

-- ---- one mutex

-- who has it has it alone
pub has_apart : (s u : ℕ) (mutex : Mutex) → u ≢ s → has s mutex ≡ true → has u mutex ≡ false
has_apart s u (Some (Some o)) apart had = let same : o.owner ≡ s = same_means o.owner s had in not_same o.owner u (λ e. apart (sym e ∙ same))
has_apart s u (Some None) apart had = refl
has_apart s u None apart had = refl

-- nobody has it, or this slot alone
abbrev IsHadBy : ℕ → Mutex → Type 0
IsHadBy s mutex = (u : ℕ) → u ≢ s → has u mutex ≡ false

had_by : (s : ℕ) (mutex : Mutex) → has s mutex ≡ true → IsHadBy s mutex
had_by s mutex had u apart = has_apart s u mutex apart had

-- whoever takes it, no other has it
pub taken_alone : (s : ℕ) (mutex : Mutex) → take_answer s mutex ≡ Ok tt → IsHadBy s mutex
taken_alone s (Some (Some o)) ok = by_owner (o.owner == s) refl
  where
    by_owner : (b : Bool) → (o.owner == s) ≡ b → IsHadBy s (Some (Some o))
    by_owner true e = had_by s (Some (Some o)) e
    by_owner false e = let refused = rw e at ok in cc
taken_alone s (Some None) ok = λ u apart. refl
taken_alone s None ok = λ u apart. refl

-- whoever gives it back has it
pub released_had : (s : ℕ) (mutex : Mutex) → release_answer s mutex ≡ Ok tt → has s mutex ≡ true
released_had s (Some (Some o)) ok = by_owner (o.owner == s) refl
  where
    by_owner : (b : Bool) → (o.owner == s) ≡ b → has s (Some (Some o)) ≡ true
    by_owner true e = e
    by_owner false e = let refused = rw e at ok in cc
released_had s (Some None) ok = cc
released_had s None ok = cc

pub released_alone : (s : ℕ) (mutex : Mutex) → release_answer s mutex ≡ Ok tt → IsHadBy s mutex
released_alone s mutex ok = had_by s mutex (released_had s mutex ok)

pub true_false : true ≡ false → ⊥
true_false h = cc

-- ---- one mutex of the list

-- another one stands there
pub mutexes_set : (ms : KeptList) (k : ℕ) (x : Kept) → k < length ms → mutexes_of (set ms k x) ≡ put (mutexes_of ms) k (mutex_of x)
mutexes_set ms k x low = ap {B = ℕ → Mutex} (λ (f : ℕ → Kept) (m : ℕ). mutex_of (f m)) (table_set ms k x None low) ∙ ap_put mutex_of (table None ms) k x

-- it is made of the one that stood there
pub mutexes_changed : (ms : KeptList) (k name : ℕ) (x y : Kept) (change : Mutex → Mutex) → k < length ms → k ≡ name → table None ms name ≡ y → mutex_of x ≡ change (mutex_of y) → mutexes_of (set ms k x) ≡ put (mutexes_of ms) name (change (mutexes_of ms name))
mutexes_changed ms k name x y change low named was is = mutexes_set ms k x low ∙ ap (λ (i : ℕ). put (mutexes_of ms) i (mutex_of x)) named ∙ ap (put (mutexes_of ms) name) (is ∙ ap (λ (z : Kept). change (mutex_of z)) (sym was))

module _ (ms : KeptList) (ss : List ℕ) (kept : MutexesAreKept ms ss) where
  pub sound : MutexesAreSound (mutexes_of ms)
  sound = record {
    past = λ m high. let many = kept.many in ap mutex_of (get_or_past ms m None (omega arith));
    levels = kept.levels;
    slots = λ s m had. elim (cases_lt s thread_limit) [
      | inl low ↦ low
      | inr high ↦ let slots = kept.slots in absurd (true_false (sym had ∙ sym (kept.had s m) ∙ sets_past ss s m (omega arith)))
    ];
  }

  -- who has a mutex
  module _ (k : ℕ) (low : k < object_limit) where
    pub within : k < length ms
    within = let many = kept.many in omega arith

    module _ (x : Kept) where
      at_place : mutexes_of (set ms k x) k ≡ mutex_of x
      at_place = ap mutex_of (get_or-set_same ms k x None within)

      elsewhere : (m : ℕ) → m ≢ k → mutexes_of (set ms k x) m ≡ mutexes_of ms m
      elsewhere m apart = ap mutex_of (get_or-set_other ms k m x None apart)

      kept_change : (ts : List ℕ) → length ts ≡ thread_limit → HasLevels (mutex_of x) → ((s m : ℕ) → m ≢ k → is_in_set ts s m ≡ is_in_set ss s m) → ((s : ℕ) → is_in_set ts s k ≡ has s (mutex_of x)) → MutexesAreKept (set ms k x) ts
      kept_change ts slots levels others here = record {
        many = length-set ms k x ∙ kept.many;
        slots = slots;
        had = λ s. by_place (λ (m : ℕ). is_in_set ts s m ≡ has s (mutexes_of (set ms k x) m)) k
            (here s ∙ ap (has s) (sym at_place))
            (λ m apart. others s m apart ∙ kept.had s m ∙ ap (has s) (sym (elsewhere m apart)));
        levels = by_place (λ (m : ℕ). HasLevels (mutexes_of (set ms k x) m)) k
            (subst HasLevels (sym at_place) levels)
            (λ m apart. subst HasLevels (sym (elsewhere m apart)) (kept.levels m));
      }

    -- it was free, or the slot had it, and no other
    module _ (y : Kept) (was : table None ms k ≡ y) (s : ℕ) (alone : IsHadBy s (mutex_of y)) where
      had_before : (u : ℕ) → is_in_set ss u k ≡ has u (mutex_of y)
      had_before u = kept.had u k ∙ ap (λ (z : Kept). has u (mutex_of z)) was

      -- the slot has it afterwards
      pub kept_taken : (o : Owner) (ts : List ℕ) → o.slot.0 ≡ s → HasLevels (mutex_of (Some (Some o))) → length ts ≡ thread_limit → is_in_set ts ≡ put (is_in_set ss) s (put (is_in_set ss s) k true) → MutexesAreKept (set ms k (Some (Some o))) ts
      kept_taken o ts owner levels long is =
          kept_change (Some (Some o)) ts long levels
          (λ u m apart. ap (λ (f : ℕ → ℕ → Bool). f u m) is ∙ flipped_other (is_in_set ss) s k true u m apart)
          (λ u. ap (λ (f : ℕ → ℕ → Bool). f u k) is ∙ flipped_here (is_in_set ss) s k true u ∙ by_place (λ (u : ℕ). put (λ v. is_in_set ss v k) s true u ≡ (o.slot.0 == u)) s
          (put_here (λ v. is_in_set ss v k) s true ∙ sym (ap (λ (n : ℕ). n == s) owner ∙ same_self s))
          (λ u apart. put_other (λ v. is_in_set ss v k) s true u apart ∙ had_before u ∙ alone u apart ∙ sym (not_same o.slot.0 u (λ e. apart (sym e ∙ owner)))) u)

      -- nobody has it afterwards
      pub kept_free : (left : Option Owner) (ts : List ℕ) → left ≡ None → length ts ≡ thread_limit → is_in_set ts ≡ put (is_in_set ss) s (put (is_in_set ss s) k false) → MutexesAreKept (set ms k (Some left)) ts
      kept_free left ts none long is = rw none
          (kept_change (Some None) ts long tt
          (λ u m apart. ap (λ (f : ℕ → ℕ → Bool). f u m) is ∙ flipped_other (is_in_set ss) s k false u m apart)
          (λ u. ap (λ (f : ℕ → ℕ → Bool). f u k) is ∙ flipped_here (is_in_set ss) s k false u ∙ by_place (λ (u : ℕ). put (λ v. is_in_set ss v k) s false u ≡ false) s
          (put_here (λ v. is_in_set ss v k) s false)
          (λ u apart. put_other (λ v. is_in_set ss v k) s false u apart ∙ had_before u ∙ alone u apart) u))

  -- ---- all that a slot has

  module _ (ns : KeptList) (s w : ℕ) (set_is : contains w ≡ is_in_set ss s) (freed : table None ns ≡ changed_in (λ _. Some None) (contains w) (table None ms)) where
    -- a mutex afterwards
    abbrev left : ℕ → Mutex
    left m = if has s (mutexes_of ms m) then free_mutex else mutexes_of ms m

    choice : (b : Bool) (x : Kept) → mutex_of (if b then Some None else x) ≡ (if b then free_mutex else mutex_of x)
    choice true x = refl
    choice false x = refl

    left_at : (m : ℕ) → mutexes_of ns m ≡ left m
    left_at m =
        ap (λ (f : ℕ → Kept). mutex_of (f m)) freed ∙ choice (contains w m) (table None ms m)
        ∙ ap (λ (b : Bool). if b then free_mutex else mutexes_of ms m) (ap (λ (f : ℕ → Bool). f m) set_is ∙ kept.had s m)

    pub left_is : mutexes_of ns ≡ mutexes_left s (mutexes_of ms)
    left_is = fun_ext left_at

    -- nobody had it, or another
    none_left : (b : Bool) (mutex : Mutex) → has s mutex ≡ b → has s (if b then free_mutex else mutex) ≡ false
    none_left true mutex had = refl
    none_left false mutex had = had

    others_left : (b : Bool) (mutex : Mutex) (u : ℕ) → u ≢ s → has s mutex ≡ b → has u mutex ≡ has u (if b then free_mutex else mutex)
    others_left true mutex u apart had = has_apart s u mutex apart had
    others_left false mutex u apart had = refl

    levels_left : (b : Bool) (mutex : Mutex) → HasLevels mutex → HasLevels (if b then free_mutex else mutex)
    levels_left true mutex levels = tt
    levels_left false mutex levels = levels

    pub kept_left : (ts : List ℕ) → length ns ≡ object_limit → length ts ≡ thread_limit → is_in_set ts ≡ put (is_in_set ss) s (λ _. false) → MutexesAreKept ns ts
    kept_left ts many long is = record {
      many = many;
      slots = long;
      had = λ u m. (ap (λ (f : ℕ → ℕ → Bool). f u m) is ∙ by_place (λ (u : ℕ). put (is_in_set ss) s (λ _. false) u m ≡ has u (left m)) s
          (ap (λ (f : ℕ → Bool). f m) (put_here (is_in_set ss) s (λ _. false)) ∙ sym (none_left (has s (mutexes_of ms m)) (mutexes_of ms m) refl))
          (λ u apart. ap (λ (f : ℕ → Bool). f m) (put_other (is_in_set ss) s (λ _. false) u apart) ∙ kept.had u m ∙ others_left (has s (mutexes_of ms m)) (mutexes_of ms m) u apart refl) u
          ∙ ap (has u) (sym (left_at m)));
      levels = λ m. subst HasLevels (sym (left_at m)) (levels_left (has s (mutexes_of ms m)) (mutexes_of ms m) (kept.levels m));
    }

-- ---- before any call

abbrev none_kept : KeptList
none_kept = replicate object_limit None

none_at : (m : ℕ) → mutexes_of none_kept m ≡ None
none_at m = ap (λ (f : ℕ → Kept). mutex_of (f m)) (table_replicate object_limit None)

pub mutexes_none : mutexes_of none_kept ≡ no_mutexes
mutexes_none = fun_ext none_at

pub kept_none : (ss : List ℕ) → length ss ≡ thread_limit → is_in_set ss ≡ (λ _ _. false) → MutexesAreKept none_kept ss
kept_none ss slots empty = record {
  many = length-replicate {A = Kept} object_limit None;
  slots = slots;
  had = λ s m. ap (λ (f : ℕ → ℕ → Bool). f s m) empty ∙ ap (has s) (sym (none_at m));
  levels = λ m. subst HasLevels (sym (none_at m)) tt;
}
