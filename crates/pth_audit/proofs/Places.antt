-- Numbers of keys and of threads, as maps compare them.
use Rattle.std.proofs.Common.{◌≡◌, ◌==◌, ◌&&◌, ◌∙◌, not, ℕ, ℤ, pos, negsuc, Bool, true, false, if◌then◌else◌, Option, None, refl, sym, ap, ap₂, arith, cond, unwrap_or, int_eq}
use Rattle.std.proofs.lemmas.Bool.{and_parts}
use Rattle.std.proofs.lemmas.Bool.Decides.{nat_tests}
use Rattle.pth_base.proofs.Tables.{same_means as same_numbers}
use Rattle.std.specs.Ordering.{nat_cmp, int_cmp, ordering_then, is_eq}
use Rattle.std.specs.declared.cmp.Ordering.{Ordering}
use Rattle.std.specs.declared.cmp.Ordering.TheVariants.{Less, Equal, Greater}
use Rattle.std.specs.Map.{lookup}
use Rattle.std.specs.BTreeMap.{BTreeMap, is_at, get, UpdatesBy}
use Rattle.std.specs.List.{filter}
use Rattle.std.proofs.lemmas.Map.Entries.{lookup-filter-keys}
use Rattle.pth_laws.specs.Marks.{is_same}
use Rattle.pth_audit.specs.Endings.{pair_cmp, value_in}

pub number_at : (k key : ℤ) → is_at (int_cmp k) key ≡ is_same key k
number_at (pos m) (pos n) = grind (arith, nat_tests)
number_at (pos m) (negsuc n) = refl
number_at (negsuc m) (pos n) = refl
number_at (negsuc m) (negsuc n) = grind (arith, nat_tests)

pub thread_at : (t u : ℕ) → is_at (nat_cmp t) u ≡ (t == u)
thread_at t u = grind (arith, nat_tests)

pub pair_at : (k key : ℤ) (t u : ℕ) → is_at (pair_cmp (k, t)) (key, u) ≡ (is_same key k && (t == u))
pair_at k key t u = by_order (int_cmp k key) ∙ ap₂ (λ (x y : Bool). x && y) (number_at k key) (thread_at t u)
  where
    by_order : (o : Ordering) → is_eq (ordering_then o (nat_cmp t u)) ≡ (is_eq o && is_eq (nat_cmp t u))
    by_order Less = refl
    by_order Equal = refl
    by_order Greater = refl

pub same_means : (k key : ℤ) → is_same k key ≡ true → k ≡ key
same_means (pos m) (pos n) h = ap pos (grind (arith, nat_tests))
same_means (pos m) (negsuc n) h = absurd (cc h)
same_means (negsuc m) (pos n) h = absurd (cc h)
same_means (negsuc m) (negsuc n) h = ap negsuc (grind (arith, nat_tests))

pub equal_number : (k key : ℤ) → int_eq k key ≡ is_same k key
equal_number (pos m) (pos n) = grind (arith, nat_tests)
equal_number (pos m) (negsuc n) = grind (arith, nat_tests)
equal_number (negsuc m) (pos n) = grind (arith, nat_tests)
equal_number (negsuc m) (negsuc n) = grind (arith, nat_tests)

either_way : (m n : ℕ) → (m == n) ≡ (n == m)
either_way m n = grind (arith, nat_tests)

-- a place that is found is that of the key and the thread
same_place : (key : ℤ) (u : ℕ) (x : ℤ × ℕ) → is_at (pair_cmp (key, u)) x ≡ true → (x.0 ≡ key) × (x.1 ≡ u)
same_place key u x at =
    let (one, two) = and_parts (is_same x.0 key) (u == x.1) (sym (pair_at key x.0 u x.1) ∙ at) in
    (same_means x.0 key one, sym (same_numbers u x.1 two))

-- a value after a change of the map at one place
pub value_after_change : (m n : BTreeMap (ℤ × ℕ) ℤ) (k : ℤ) (t : ℕ) (w : Option ℤ) → UpdatesBy pair_cmp (pair_cmp (k, t)) m n w
    → (u : ℕ) (key : ℤ) → value_in n u key ≡ (if is_same key k && (t == u) then unwrap_or w (pos 0) else value_in m u key)
value_after_change m n k t w up u key = ap (λ (o : Option ℤ). unwrap_or o (pos 0)) (up.0 (key, u)) ∙ by_test (is_at (pair_cmp (k, t)) (key, u)) (is_same key k && (t == u)) (pair_at k key t u)
  where
    by_test : (a b : Bool) → a ≡ b → unwrap_or (cond a w (get pair_cmp m (key, u))) (pos 0) ≡ (if b then unwrap_or w (pos 0) else value_in m u key)
    by_test true true e = refl
    by_test false false e = refl
    by_test true false e = absurd (cc e)
    by_test false true e = absurd (cc e)

module _ (m n : BTreeMap (ℤ × ℕ) ℤ) where
  -- a value after all entries of some places are gone
  kept_or_gone : (p : ℤ × ℕ → Bool) (u : ℕ) (key : ℤ) (b : Bool) → n.entries ≡ filter (λ e. p e.0) m.entries → ((x : ℤ × ℕ) → is_at (pair_cmp (key, u)) x ≡ true → p x ≡ not b)
      → value_in n u key ≡ (if b then pos 0 else value_in m u key)
  kept_or_gone p u key b kept same =
      ap (λ (o : Option ℤ). unwrap_or o (pos 0)) (ap (lookup (is_at (pair_cmp (key, u)))) kept ∙ lookup-filter-keys (is_at (pair_cmp (key, u))) p (not b) same m.entries)
      ∙ by_test b
    where
      by_test : (b : Bool) → unwrap_or (cond (not b) (lookup (is_at (pair_cmp (key, u))) m.entries) None) (pos 0) ≡ (if b then pos 0 else value_in m u key)
      by_test true = refl
      by_test false = refl

  pub key_forgotten : (k : ℤ) → n.entries ≡ filter (λ e. not (int_eq e.0.0 k)) m.entries → (u : ℕ) (key : ℤ) → value_in n u key ≡ (if is_same key k then pos 0 else value_in m u key)
  key_forgotten k kept u key = kept_or_gone (λ x. not (int_eq x.0 k)) u key (is_same key k) kept (λ x at. ap not (ap (λ z. int_eq z k) (same_place key u x at).0 ∙ equal_number key k))

  pub thread_forgotten : (t : ℕ) → n.entries ≡ filter (λ e. not (e.0.1 == t)) m.entries → (u : ℕ) (key : ℤ) → value_in n u key ≡ (if t == u then pos 0 else value_in m u key)
  thread_forgotten t kept u key = kept_or_gone (λ x. not (x.1 == t)) u key (t == u) kept (λ x at. ap not (ap (λ i. i == t) (same_place key u x at).1 ∙ either_way u t))
