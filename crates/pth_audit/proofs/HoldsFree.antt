-- What no entry of a map, or no key of a set, is.
use Rattle.std.proofs.Common.{◌≡◌, ℕ, ◌==◌, ◌&&◌, Bool, true, false, not, if◌then◌else◌, ℤ, Option, Some, None, List, get_or, All, IfSome, refl, sym, ◌∙◌, ap, nat_cmp, int_cmp}
use Rattle.std.specs.Bool.{Decides}
use Rattle.std.specs.BTreeMap.{BTreeMap, get, values, IsOrdered}
use Rattle.std.specs.BTreeSet.{BTreeSet}
use Rattle.std.specs.Cmp.{IsTotalOrder, nat_cmp_total, int_cmp_total, eq_by_cmp_equiv}
use Rattle.std.specs.List.{list_any}
use Rattle.std.specs.Ordering.{eq_by_cmp, int_eq}
use Rattle.std.proofs.lemmas.Bool.Decides.{Decides-int_eq, Decides-like}
use Rattle.std.proofs.lemmas.Cmp.{then_total, on_total}
use Rattle.std.proofs.lemmas.List.Folds.{list_any_none, list_any_at}
use Rattle.std.proofs.lemmas.List.Elements.{All-contains}
use Rattle.std.proofs.lemmas.Map.Keys.{IsDistinct-from_sorted}
use Rattle.std.proofs.lemmas.Map.Lookups.{exact_signed, exact_unsigned, exact_pairs}
use Rattle.std.proofs.lemmas.Map.Views.{IfSome-lookup_from_All, All-values_from_lookup, All-from_any, Contains-from_any, tells_apart}
use Rattle.std.proofs.lemmas.Bool.{true≢false, not-true, not_from_false}
use Rattle.pth_base.proofs.Tables.{same_self, same_means}
use Rattle.pth_audit.specs.declared.holds.Owner.{Owner}
use Rattle.pth_audit.specs.Holds.{levels_of, has_level, is_writer, by_lock, reads_under}

by_bool : {A : Type 0} (b : Bool) → (b ≡ true → A) → (b ≡ false → A) → A
by_bool true if_so if_not = if_so refl
by_bool false if_so if_not = if_not refl

all_fail : {X : Type 0} (p : X → Bool) (xs : List X) → list_any p xs ≡ false → All (λ x. p x ≡ false) xs
all_fail p xs h k d low = by_bool (p (get_or xs k d)) (λ passes. absurd (true≢false (sym (list_any_at p xs k d low passes) ∙ h))) (λ fails. fails)

-- ---- maps

pub none_in_map : {X : Type 0} (m : BTreeMap ℤ X) → IsOrdered int_cmp m → (p : X → Bool) (b : Bool) → b ≡ list_any p (values m) → Decides (not b) ((i : ℤ) → IfSome (get int_cmp m i) (λ v. p v ≡ false))
none_in_map {X} m ordered p b is = (
  λ h i. IfSome-lookup_from_All (λ (v : X). p v ≡ false) (eq_by_cmp int_cmp i) m.entries (all_fail p (values m) (sym is ∙ not-true b h)),
  λ none. not_from_false b (is ∙ list_any_none p (values m) (All-values_from_lookup (eq_by_cmp_equiv int_cmp_total) (λ (v : X). p v ≡ false) m.entries (IsDistinct-from_sorted int_cmp _ ordered) none)),
)

-- ---- the set of readers

by_lock_total : IsTotalOrder by_lock
by_lock_total = then_total (on_total (λ (x : ℤ × ℕ). x.0) int_cmp_total) (on_total (λ (x : ℤ × ℕ). x.1) nat_cmp_total)

pub none_in_set : (s : BTreeSet (ℤ × ℕ)) (p : ℤ × ℕ → Bool) (b : Bool) → b ≡ list_any p s.keys → Decides (not b) ((t : ℕ) (l : ℤ) → reads_under s t l ≡ true → p (l, t) ≡ false)
none_in_set s p b is = (
  λ h t l held. All-contains (λ (x : ℤ × ℕ). p x ≡ false) s.keys (l, t) (all_fail p s.keys (sym is ∙ not-true b h)) (Contains-from_any (tells_apart (exact_pairs int_cmp nat_cmp exact_signed exact_unsigned)) (l, t) s.keys held),
  λ none. not_from_false b (is ∙ list_any_none p s.keys (All-from_any (eq_by_cmp_equiv by_lock_total) (λ (x : ℤ × ℕ). p x ≡ false) s.keys (λ q held. none q.1 q.0 held))),
)

-- ---- a thread has no level, or writes nowhere

level_none : (t : ℕ) (o : Option Owner) → IfSome o (λ v. has_level t v ≡ false) → levels_of t o ≡ 0
level_none t None h = refl
level_none t (Some v) h = by_tests (v.tid == t) v.levels h
  where
    by_tests : (b : Bool) (n : ℕ) → (b && not (n == 0)) ≡ false → (if b then n else 0) ≡ 0
    by_tests true n h = by_bool (n == 0) (λ zero_left. same_means n 0 zero_left) (λ some. absurd (true≢false (sym (ap not some) ∙ h)))
    by_tests false n h = refl

none_level : (t : ℕ) (o : Option Owner) → levels_of t o ≡ 0 → IfSome o (λ v. has_level t v ≡ false)
none_level t None h = tt
none_level t (Some v) h = by_tests (v.tid == t) v.levels h
  where
    by_tests : (b : Bool) (n : ℕ) → (if b then n else 0) ≡ 0 → (b && not (n == 0)) ≡ false
    by_tests true n h = rw h refl
    by_tests false n h = refl

pub no_level_in : (t : ℕ) (m : BTreeMap ℤ Owner) → IsOrdered int_cmp m → (b : Bool) → b ≡ list_any (has_level t) (values m) → Decides (not b) ((i : ℤ) → levels_of t (get int_cmp m i) ≡ 0)
no_level_in t m ordered b is = Decides-like (not b) (λ f i. level_none t (get int_cmp m i) (f i)) (λ f i. none_level t (get int_cmp m i) (f i)) (none_in_map m ordered (has_level t) b is)

writer_none : (t : ℕ) (o : Option ℕ) → IfSome o (λ v. (v == t) ≡ false) → is_writer t o ≡ false
writer_none t None h = refl
writer_none t (Some v) h = h

none_writer : (t : ℕ) (o : Option ℕ) → is_writer t o ≡ false → IfSome o (λ v. (v == t) ≡ false)
none_writer t None h = tt
none_writer t (Some v) h = h

pub writes_none : (t : ℕ) (m : BTreeMap ℤ ℕ) → IsOrdered int_cmp m → (b : Bool) → b ≡ list_any (λ u. u == t) (values m) → Decides (not b) ((l : ℤ) → is_writer t (get int_cmp m l) ≡ false)
writes_none t m ordered b is = Decides-like (not b) (λ f l. writer_none t (get int_cmp m l) (f l)) (λ f l. none_writer t (get int_cmp m l) (f l)) (none_in_map m ordered (λ u. u == t) b is)

-- ---- a thread reads nowhere, or nobody reads

pub reads_none : (t : ℕ) (s : BTreeSet (ℤ × ℕ)) (b : Bool) → b ≡ list_any (λ x. x.1 == t) s.keys → Decides (not b) ((l : ℤ) → reads_under s t l ≡ false)
reads_none t s b is = Decides-like (not b)
    (λ f l. by_bool (reads_under s t l) (λ held. absurd (true≢false (sym (same_self t) ∙ f t l held))) (λ off. off))
    (λ f u l held. by_bool (u == t) (λ same. absurd (true≢false (sym held ∙ ap (λ (v : ℕ). reads_under s v l) (same_means u t same) ∙ f l))) (λ off. off))
    (none_in_set s (λ x. x.1 == t) b is)

pub no_reader_of : (l : ℤ) (s : BTreeSet (ℤ × ℕ)) (b : Bool) → b ≡ list_any (λ x. int_eq x.0 l) s.keys → Decides (not b) ((u : ℕ) → reads_under s u l ≡ false)
no_reader_of l s b is = Decides-like (not b)
    (λ f u. by_bool (reads_under s u l) (λ held. absurd (true≢false (sym ((Decides-int_eq l l).1 refl) ∙ f u l held))) (λ off. off))
    (λ f u k held. by_bool (int_eq k l) (λ same. absurd (true≢false (sym held ∙ ap (λ (i : ℤ). reads_under s u i) ((Decides-int_eq k l).0 same) ∙ f u))) (λ off. off))
    (none_in_set s (λ x. int_eq x.0 l) b is)
