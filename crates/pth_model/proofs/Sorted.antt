-- The order that insertion makes is the one by ranks and entries.
use Rattle.std.proofs.Common.{◌≡◌, ℕ, suc, ◌<◌, Bool, true, false, if◌then◌else◌, int_lt, List, [], ◌∷◌, All, AllPairs, refl, arith, inl, inr}
use Rattle.std.proofs.lemmas.Int.{ints}
use Rattle.std.proofs.lemmas.Bool.{cases_Bool}
use Rattle.std.proofs.lemmas.List.Elements.{All-nil, All-cons, All-head, All-tail, All-weaker}
use Rattle.std.proofs.lemmas.List.Kept.{AllPairs-cons}
use Rattle.std.proofs.lemmas.List.Sorted.{IsPermutation-refl, IsPermutation-sym, IsPermutation-trans, IsPermutation-cons, IsPermutation-middle, All-permutation}
use Rattle.std.specs.List.Sorted.{IsPermutation}
use Rattle.pth_model.specs.Standing.{Standing, height, put_behind, order, shown}
use Rattle.pth_model.specs.Order.{StandsBefore, IsOrderOf, IsNumbered}

module _ {X : Type 0} (R : X → X → Type 0) where
  pub pairs-head : (x : X) (xs : List X) → AllPairs R (x ∷ xs) → All (R x) xs
  pairs-head x xs p = λ k d low. p 0 (suc k) d (omega arith) (omega arith)

  pub pairs-tail : (x : X) (xs : List X) → AllPairs R (x ∷ xs) → AllPairs R xs
  pairs-tail x xs p = λ i j d less low. p (suc i) (suc j) d (omega arith) (omega arith)

  pub pairs-nil : AllPairs R []
  pairs-nil = λ i j d less low. absurd (omega (arith, low))

-- ---- each standing once

put_by : (s x : Standing) (xs : List Standing) (b : Bool) → IsPermutation (s ∷ xs) (put_behind s xs) → IsPermutation (s ∷ x ∷ xs) (if b then s ∷ x ∷ xs else x ∷ put_behind s xs)
put_by s x xs true more = IsPermutation-refl (s ∷ x ∷ xs)
put_by s x xs false more =
    IsPermutation-trans _ _ _ (IsPermutation-sym _ _ (IsPermutation-middle (x ∷ []) s xs)) (IsPermutation-cons x _ _ more)

same-put_behind : (s : Standing) (xs : List Standing) → IsPermutation (s ∷ xs) (put_behind s xs)
unfolding put_behind
same-put_behind s [] = IsPermutation-refl (s ∷ [])
same-put_behind s (x ∷ xs) = put_by s x xs (int_lt (height x) (height s)) (same-put_behind s xs)

pub same-order : (all : List Standing) → IsPermutation all (order all)
unfolding order
same-order [] = IsPermutation-refl []
same-order (s ∷ all) = IsPermutation-trans _ _ _ (IsPermutation-cons s _ _ (same-order all)) (same-put_behind s (order all))

-- ---- each before those that it stands before

module _ (raises : ℕ) where
  higher_before : (x s : Standing) → int_lt (height x) (height s) ≡ true → StandsBefore raises s x
  higher_before x s higher = inl (grind (arith, ints))

  before_higher : (s x y : Standing) → int_lt (height x) (height s) ≡ true → StandsBefore raises x y → StandsBefore raises s y
  before_higher s x y higher (inl above) = inl (grind (arith, ints))
  before_higher s x y higher (inr same) = inl (let e = same.0 in grind (arith, ints))

  earlier_before : (x s : Standing) → int_lt (height x) (height s) ≡ false → x.entry < s.entry → StandsBefore raises x s
  earlier_before x s low earlier = elim (cases_Bool (int_lt (height s) (height x))) [
    | inl above ↦ inl (grind (arith, ints))
    | inr same ↦ inr (grind (arith, ints), earlier)
  ]

  sorted_by : (s x : Standing) (xs : List Standing) (b : Bool) → int_lt (height x) (height s) ≡ b → x.entry < s.entry → AllPairs (StandsBefore raises) (x ∷ xs) → AllPairs (StandsBefore raises) (put_behind s xs) → AllPairs (StandsBefore raises) (if b then s ∷ x ∷ xs else x ∷ put_behind s xs)
  sorted_by s x xs true test earlier p more =
      let later = All-weaker (StandsBefore raises x) (StandsBefore raises s) (λ y. before_higher s x y test) xs (pairs-head (StandsBefore raises) x xs p) in
      AllPairs-cons (StandsBefore raises) s (x ∷ xs) (All-cons (StandsBefore raises s) x xs (higher_before x s test) later) p
  sorted_by s x xs false test earlier p more =
      let first : All (StandsBefore raises x) (s ∷ xs) = All-cons (StandsBefore raises x) s xs (earlier_before x s test earlier) (pairs-head (StandsBefore raises) x xs p) in
      AllPairs-cons (StandsBefore raises) x (put_behind s xs) (All-permutation (StandsBefore raises x) _ _ (same-put_behind s xs) first) more

  sorted-put_behind : (s : Standing) (xs : List Standing) → All (λ x. x.entry < s.entry) xs → AllPairs (StandsBefore raises) xs → AllPairs (StandsBefore raises) (put_behind s xs)
  unfolding put_behind
  sorted-put_behind s [] earlier p = AllPairs-cons (StandsBefore raises) s [] (All-nil (StandsBefore raises s)) p
  sorted-put_behind s (x ∷ xs) earlier p = sorted_by s x xs (int_lt (height x) (height s)) refl (All-head (λ x. x.entry < s.entry) x xs earlier) p (sorted-put_behind s xs (All-tail (λ x. x.entry < s.entry) x xs earlier) (pairs-tail (StandsBefore raises) x xs p))

  pub sorted-order : (all : List Standing) → AllPairs (λ x y. y.entry < x.entry) all → AllPairs (StandsBefore raises) (order all)
  unfolding order
  sorted-order [] p = pairs-nil (StandsBefore raises)
  sorted-order (s ∷ all) p =
      let Later : Standing → Standing → Type 0 = λ x y. y.entry < x.entry in
      sorted-put_behind s (order all) (All-permutation (Later s) _ _ (same-order all) (pairs-head Later s all p)) (sorted-order all (pairs-tail Later s all p))

  -- where entries are numbered as they came, a queue shows in order
  pub shown_in_order : (entries : ℕ) (all : List Standing) → IsNumbered entries all → IsOrderOf raises all (shown raises all)
  unfolding shown
  shown_in_order entries all n = record { places = order all; shows = refl; each_once = same-order all; in_order = sorted-order all n.falling }
