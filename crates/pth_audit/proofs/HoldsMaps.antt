-- Who has a mutex or holds a lock, by what the maps have.
use Rattle.std.proofs.Common.{◌≡◌, ◌≢◌, ℕ, ◌==◌, ◌-◌, ◌<◌, ◌&&◌, ◌||◌, Bool, true, false, cond, if◌then◌else◌, ℤ, Option, Some, None, refl, sym, ◌∙◌, ap, subst, arith, int_cmp}
use Rattle.std.specs.Bool.{Decides}
use Rattle.std.specs.BTreeMap.{BTreeMap, get}
use Rattle.std.specs.Ordering.{is_eq}
use lib.Dec.{ltb}
use Rattle.std.proofs.lemmas.Bool.Decides.{Decides-ltb}
use Rattle.std.proofs.lemmas.Bool.{true≢false}
use Rattle.pth_base.proofs.Tables.{same_self, not_same, same_means, same_fails}
use Rattle.pth_laws.specs.Marks.{is_same}
use Rattle.pth_laws.proofs.Numbers.{same_number}
use Rattle.pth_audit.specs.declared.holds.Effect.TheVariants as effect
use Rattle.pth_audit.specs.declared.holds.Holds.{Holds}
use Rattle.pth_audit.specs.declared.holds.Owner.{Owner}
use Rattle.pth_audit.specs.Holds.{levels_of, is_writer, has_levels, IsDone}
use Rattle.pth_audit.proofs.HoldsReaders.{eq_int}

is_zero : (n : ℕ) → n ≡ 0 → (n == 0) ≡ true
is_zero n h = rw h refl

own_levels : (o : Owner) → levels_of o.tid (Some o) ≡ o.levels
own_levels o = rw (same_self o.tid) refl

none_of : (b : Bool) (n : ℕ) → n ≡ 0 → (if b then n else 0) ≡ 0
none_of true n h = h
none_of false n h = refl

-- ---- no other thread has a level

abbrev pub IsFree : ℕ → Option Owner → Type 0
IsFree t w = (u : ℕ) → u ≢ t → levels_of u w ≡ 0

free_of_other_owner : (t : ℕ) (o : Owner) → o.tid ≢ t → Decides (o.levels == 0) (IsFree t (Some o))
free_of_other_owner t o apart = (λ h u other. none_of (o.tid == u) o.levels (same_means o.levels 0 h), λ free. is_zero o.levels (sym (own_levels o) ∙ free o.tid apart))

pub free_of_other : (t : ℕ) (w : Option Owner) (o : Owner) → w ≡ Some o → o.tid ≢ t → Decides (o.levels == 0) (IsFree t w)
free_of_other t w o is apart = subst (λ (x : Option Owner). Decides (o.levels == 0) (IsFree t x)) (sym is) (free_of_other_owner t o apart)

-- ---- nobody writes

abbrev pub IsUnwritten : Option ℕ → Type 0
IsUnwritten w = (u : ℕ) → is_writer u w ≡ false

pub somebody_writes : (w : Option ℕ) (v : ℕ) → w ≡ Some v → Decides false (IsUnwritten w)
somebody_writes w v is = (λ h. absurd (true≢false (sym h)), λ free. absurd (true≢false (sym (same_self v) ∙ sym (ap (is_writer v) is) ∙ free v)))

-- ---- tests of equal values

decides_by : (r b : Bool) → r ≡ b → Decides r (b ≡ true)
decides_by r b is = (λ h. sym is ∙ h, λ h. is ∙ h)

-- one of two tests that are made one after the other
pub first_passes : (x a b : Bool) → x ≡ a → x ≡ true → Decides x ((a || b) ≡ true)
first_passes x true b is passes = decides_by x true passes
first_passes x false b is passes = absurd (true≢false (sym passes ∙ is))

pub first_fails : (x y a b : Bool) → x ≡ a → x ≡ false → y ≡ b → Decides y ((a || b) ≡ true)
first_fails x y true b is fails second = absurd (true≢false (sym is ∙ fails))
first_fails x y false b is fails second = decides_by y b second

pub decides_some : (n m : ℕ) → n ≡ m → Decides (ltb 0 n) (0 < m)
decides_some n m is = subst (λ (k : ℕ). Decides (ltb 0 n) (0 < k)) is (Decides-ltb 0 n)

-- ---- a mutex that nobody has

pub levels_removed : (old new : BTreeMap ℤ Owner) (t : ℕ) (i : ℤ) (n : ℕ) → n ≡ 0 → ((k : ℤ) → get int_cmp new k ≡ cond (is_eq (int_cmp i k)) None (get int_cmp old k))
    → (u : ℕ) (k : ℤ) → levels_of u (get int_cmp new k) ≡ (if is_same k i then (if t == u then n else 0) else levels_of u (get int_cmp old k))
levels_removed old new t i n zero_left gone u k = ap (levels_of u) (gone k) ∙ by_test (is_eq (int_cmp i k)) (is_same k i) (eq_int i k)
  where
    by_test : (a b : Bool) → a ≡ b → levels_of u (cond a None (get int_cmp old k)) ≡ (if b then (if t == u then n else 0) else levels_of u (get int_cmp old k))
    by_test true true e = sym (none_of (t == u) n zero_left)
    by_test true false e = absurd (true≢false e)
    by_test false true e = absurd (true≢false (sym e))
    by_test false false e = refl

-- ---- a level is given back

-- who has a level is the only owner
only_owner : (o : Option Owner) (t u : ℕ) → 0 < levels_of t o → u ≢ t → levels_of u o ≡ 0
only_owner None t u some apart = refl
only_owner (Some o) t u some apart = by_test (o.tid == t) refl some
  where
    by_test : (b : Bool) → (o.tid == t) ≡ b → 0 < (if b then o.levels else 0) → levels_of u (Some o) ≡ 0
    by_test true is some = let own = same_means o.tid t is in rw (not_same o.tid u (λ e. apart (sym e ∙ own))) refl
    by_test false is some = absurd (omega (arith, some))

module _ (h : Holds) (x : BTreeMap ℤ Owner) (t : ℕ) (i : ℤ) (n : ℕ) where
  level_given : n ≡ has_levels h t i - 1 → 0 < has_levels h t i → (u : ℕ) (k : ℤ) (a b : Bool) → is_same k i ≡ a → (t == u) ≡ b
      → (if a then (if b then n else 0) else has_levels h u k) ≡ (if a && b then has_levels h u k - 1 else has_levels h u k)
  level_given less some u k true true same own =
      less ∙ ap (λ (v : ℕ). has_levels h v i - 1) (same_means t u own) ∙ ap (λ (j : ℤ). has_levels h u j - 1) (sym (same_number k i same))
  level_given less some u k true false same other =
      sym (only_owner (get int_cmp h.owners k) t u (subst (λ (j : ℤ). 0 < has_levels h t j) (sym (same_number k i same)) some) (λ e. same_fails t u other (sym e)))
  level_given less some u k false b same own = refl

  pub given_back : n ≡ has_levels h t i - 1 → ((u : ℕ) (k : ℤ) → levels_of u (get int_cmp x k) ≡ (if is_same k i then (if t == u then n else 0) else has_levels h u k))
      → 0 < has_levels h t i → IsDone h (record { awaiting = h.awaiting; owners = x; writers = h.writers; readers = h.readers }) (effect.Gives t i)
  given_back less set some = record {
    awaits = λ u. refl;
    levels = λ u k. set u k ∙ level_given less some u k (is_same k i) (t == u) refl refl;
    writes = λ u l. refl;
    reads = λ u l. refl;
  }
