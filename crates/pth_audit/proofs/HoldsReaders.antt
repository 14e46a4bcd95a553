-- The set of readers, with one more or one fewer.
use Rattle.std.proofs.Common.{◌≡◌, ℕ, ◌==◌, ◌&&◌, ◌||◌, Bool, true, false, not, cond, ℤ, pos, negsuc, refl, ◌∙◌, ap, arith, nat_cmp, int_cmp}
use Rattle.std.specs.BTreeSet.{BTreeSet}
use Rattle.std.specs.Ordering.{ordering_then, is_eq}
use Rattle.std.specs.declared.cmp.Ordering.{Ordering}
use Rattle.std.specs.declared.cmp.Ordering.TheVariants.{Less, Equal, Greater}
use Rattle.std.proofs.lemmas.Bool.Decides.{nat_tests}
use Rattle.pth_laws.specs.Exclusive.{is_of}
use Rattle.pth_laws.specs.Marks.{is_same}
use Rattle.pth_audit.specs.Holds.{by_lock, reads_under}

eq_nat : (x y : ℕ) → is_eq (nat_cmp x y) ≡ (x == y)
eq_nat x y = grind (arith, nat_tests)

eq_pos : (m n : ℕ) → is_eq (int_cmp (pos m) (pos n)) ≡ (n == m)
eq_pos m n = grind (arith, nat_tests)

eq_negsuc : (m n : ℕ) → is_eq (int_cmp (negsuc m) (negsuc n)) ≡ (n == m)
eq_negsuc m n = grind (arith, nat_tests)

pub eq_int : (x y : ℤ) → is_eq (int_cmp x y) ≡ is_same y x
eq_int (pos m) (pos n) = eq_pos m n
eq_int (pos m) (negsuc n) = refl
eq_int (negsuc m) (pos n) = refl
eq_int (negsuc m) (negsuc n) = eq_negsuc m n

then_eq : (a b : Ordering) → is_eq (ordering_then a b) ≡ (is_eq a && is_eq b)
then_eq Less b = refl
then_eq Equal b = refl
then_eq Greater b = refl

-- a reader stands in the order where another one does, if it is that one
pub at_reader : (t u : ℕ) (l k : ℤ) → is_eq (by_lock (l, t) (k, u)) ≡ is_of u k t l
at_reader t u l k = then_eq (int_cmp l k) (nat_cmp t u) ∙ ap (λ (b : Bool). b && is_eq (nat_cmp t u)) (eq_int l k) ∙ ap (λ (b : Bool). is_same k l && b) (eq_nat t u)

added : (a b : Bool) → (cond a true b) ≡ (a || b)
added true b = refl
added false b = refl

removed : (a b : Bool) → (cond a false b) ≡ (not a && b)
removed true b = refl
removed false b = refl

module _ (old new : BTreeSet (ℤ × ℕ)) (t : ℕ) (l : ℤ) where
  pub reader_added : ((q : ℤ × ℕ) → reads_under new q.1 q.0 ≡ cond (is_eq (by_lock (l, t) q)) true (reads_under old q.1 q.0)) → (u : ℕ) (k : ℤ) → reads_under new u k ≡ (is_of u k t l || reads_under old u k)
  reader_added h u k = h (k, u) ∙ added (is_eq (by_lock (l, t) (k, u))) (reads_under old u k) ∙ ap (λ (b : Bool). b || reads_under old u k) (at_reader t u l k)

  pub reader_removed : ((q : ℤ × ℕ) → reads_under new q.1 q.0 ≡ cond (is_eq (by_lock (l, t) q)) false (reads_under old q.1 q.0)) → (u : ℕ) (k : ℤ) → reads_under new u k ≡ (not (is_of u k t l) && reads_under old u k)
  reader_removed h u k = h (k, u) ∙ removed (is_eq (by_lock (l, t) (k, u))) (reads_under old u k) ∙ ap (λ (b : Bool). not b && reads_under old u k) (at_reader t u l k)
