-- The list of holds of mutexes, when one changes.
use Rattle.std.proofs.Common.{◌≡◌, ◌≢◌, ℕ, zero, suc, ◌+◌, ◌-◌, ◌<◌, ◌==◌, Bool, true, false, not, if◌then◌else◌, List, [], ◌∷◌, replicate, filter, Some, None, Ok, refl, sym, ◌∙◌, ap, arith, add-one}
use Rattle.std.proofs.lemmas.Bool.Decides.{nat_tests}
use Rattle.pth_base.specs.Table.{put}
use Rattle.pth_base.proofs.Tables.{put_here, put_other, same_means, same_self, not_same}
use Rattle.pth_lock.specs.Objects.{object_limit}
use Rattle.pth_lock.specs.Mutexes.{Mutex, MutexTable, has, levels_of, mutex_with, free_mutex, take_answer, release_answer, mutexes_left, HasLevels}
use Rattle.pth_lock.specs.Holds.{Hold, holds_at, holds_on, holds_without, StartWithoutHolds, TakesAddHold, ReleasesDropHold, EndsDropHolds, HoldsTellOwners}
use Rattle.pth_lock.proofs.Ownerships.{released_had}
use Rattle.pth_lock.proofs.Sweeps.{by_place}
use Rattle.pth_lock.proofs.Joins.{same_elements, joined_same, joined_none, joined_one, joined_filter, joined_more}

abbrev hold : ℕ → ℕ → Hold
hold s m = record { owner = s; mutex = m }

-- the holds by mutex
abbrev listed : MutexTable → ℕ → List Hold
listed x m = holds_at m (x m)

-- ---- one mutex

some_levels : (n : ℕ) → ((n + 1) == 0) ≡ false
some_levels n = grind (arith, nat_tests)

not_zero : (n : ℕ) → (suc n == 0) ≡ false
not_zero n = grind (arith, nat_tests)

-- with one level more
level_more : (s m n : ℕ) → holds_at m (mutex_with s (n + 1)) ≡ hold s m ∷ replicate n (hold s m)
level_more s m n = rw (some_levels n, add-one) refl

taken_at : (s m : ℕ) (mutex : Mutex) → take_answer s mutex ≡ Ok tt → holds_at m (mutex_with s (levels_of s mutex + 1)) ≡ hold s m ∷ holds_at m mutex
taken_at s m (Some (Some o)) ok = by_owner (o.owner == s) refl
  where
    by_owner : (b : Bool) → (o.owner == s) ≡ b → holds_at m (mutex_with s (levels_of s (Some (Some o)) + 1)) ≡ hold s m ∷ holds_at m (Some (Some o))
    by_owner true e =
        level_more s m (levels_of s (Some (Some o)))
        ∙ ap (λ (b : Bool). hold s m ∷ replicate (if b then o.levels else 0) (hold s m)) e
        ∙ ap (λ (u : ℕ). hold s m ∷ replicate o.levels (hold u m)) (sym (same_means o.owner s e))
    by_owner false e = let refused = rw e at ok in cc
taken_at s m (Some None) ok = level_more s m 0
taken_at s m None ok = cc

-- with so many levels
levels_at : (s m n : ℕ) → replicate n (hold s m) ≡ holds_at m (mutex_with s n)
levels_at s m zero = refl
levels_at s m (suc n) = rw (not_zero n) refl

from_levels : (s m n : ℕ) → 0 < n → replicate n (hold s m) ≡ hold s m ∷ holds_at m (mutex_with s (n - 1))
from_levels s m zero some = absurd (omega arith)
from_levels s m (suc n) some =
    let less : suc n - 1 ≡ n = omega arith in
    ap (λ (hs : List Hold). hold s m ∷ hs) (levels_at s m n) ∙ ap (λ (k : ℕ). hold s m ∷ holds_at m (mutex_with s k)) (sym less)

-- with one level less
released_at : (s m : ℕ) (mutex : Mutex) → HasLevels mutex → release_answer s mutex ≡ Ok tt → holds_at m mutex ≡ hold s m ∷ holds_at m (mutex_with s (levels_of s mutex - 1))
released_at s m (Some (Some o)) levels ok =
    let had : (o.owner == s) ≡ true = released_had s (Some (Some o)) ok in
    ap (λ (u : ℕ). replicate o.levels (hold u m)) (same_means o.owner s had)
    ∙ from_levels s m o.levels levels.0
    ∙ ap (λ (b : Bool). hold s m ∷ holds_at m (mutex_with s ((if b then o.levels else 0) - 1))) (sym had)
released_at s m (Some None) levels ok = cc
released_at s m None levels ok = cc

-- a test that all of these pass, or none
filter_same : {A : Type 0} (test : A → Bool) (n : ℕ) (h : A) (b : Bool) → test h ≡ b → filter test (replicate n h) ≡ (if b then replicate n h else [])
filter_same test zero h true e = refl
filter_same test zero h false e = refl
filter_same test (suc n) h true e = rw e (ap (λ hs. h ∷ hs) (filter_same test n h true e))
filter_same test (suc n) h false e = rw e (filter_same test n h false e)

-- after its owner left it
left_at : (s m : ℕ) (mutex : Mutex) → holds_at m (if has s mutex then free_mutex else mutex) ≡ holds_without s (holds_at m mutex)
left_at s m (Some (Some o)) = by_owner (o.owner == s) refl
  where
    by_owner : (b : Bool) → (o.owner == s) ≡ b → holds_at m (if (o.owner == s) then free_mutex else Some (Some o)) ≡ holds_without s (holds_at m (Some (Some o)))
    by_owner true e = ap (λ (b : Bool). holds_at m (if b then free_mutex else Some (Some o))) e ∙ sym (filter_same (λ (h : Hold). not (h.owner == s)) o.levels (hold o.owner m) false (ap not e))
    by_owner false e = ap (λ (b : Bool). holds_at m (if b then free_mutex else Some (Some o))) e ∙ sym (filter_same (λ (h : Hold). not (h.owner == s)) o.levels (hold o.owner m) true (ap not e))
left_at s m (Some None) = refl
left_at s m None = refl

-- its holds are its own
on_at : (m n : ℕ) (mutex : Mutex) (b : Bool) → (n == m) ≡ b → holds_on m (holds_at n mutex) ≡ (if b then holds_at n mutex else [])
on_at m n (Some (Some o)) b e = filter_same (λ (h : Hold). h.mutex == m) o.levels (hold o.owner n) b e
on_at m n (Some None) true e = refl
on_at m n (Some None) false e = refl
on_at m n None true e = refl
on_at m n None false e = refl

-- ---- the laws

module _ (x : MutexTable) (m : ℕ) (y : Mutex) where
  elsewhere : (i : ℕ) → i ≢ m → listed (put x m y) i ≡ listed x i
  elsewhere i apart = ap (holds_at i) (put_other x m y i apart)

  there : listed (put x m y) m ≡ holds_at m y
  there = ap (holds_at m) (put_here x m y)

pub start : StartWithoutHolds
start = record {
  none = joined_none (λ _. []) object_limit (λ i low. refl);
  initialised = λ x m none. joined_same (listed (put x m free_mutex)) (listed x) object_limit
      (by_place (λ (i : ℕ). listed (put x m free_mutex) i ≡ listed x i) m (there x m free_mutex ∙ ap (holds_at m) (sym none)) (elsewhere x m free_mutex));
}

pub taken : TakesAddHold
taken x s m low ok =
    let y : Mutex = mutex_with s (levels_of s (x m) + 1) in
    joined_more (listed x) (listed (put x m y)) m (hold s m ∷ []) (elsewhere x m y) (same_elements _ _ (there x m y ∙ taken_at s m (x m) ok)) object_limit low

pub released : ReleasesDropHold
released x s m low levels ok =
    let y : Mutex = mutex_with s (levels_of s (x m) - 1) in
    joined_more (listed (put x m y)) (listed x) m (hold s m ∷ []) (λ i apart. sym (elsewhere x m y i apart))
    (same_elements _ _ (released_at s m (x m) levels ok ∙ ap (λ (hs : List Hold). hold s m ∷ hs) (sym (there x m y)))) object_limit low

pub left : EndsDropHolds
left x s =
    joined_same (listed (mutexes_left s x)) (λ m. holds_without s (listed x m)) object_limit (λ m. left_at s m (x m))
    ∙ sym (joined_filter (λ (h : Hold). not (h.owner == s)) (listed x) object_limit)

pub owners : HoldsTellOwners
owners x m low =
    joined_filter (λ (h : Hold). h.mutex == m) (listed x) object_limit
    ∙ joined_one (λ i. holds_on m (listed x i)) m object_limit (λ i apart. on_at m i (x i) false (not_same i m apart)) low
    ∙ on_at m m (x m) true (same_self m)
