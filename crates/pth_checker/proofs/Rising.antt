-- Two rising lists with the same members are one list.
use Rattle.std.proofs.Common.{◌≡◌, ◌⊎◌, ◌<◌, ℕ, List, [], ◌∷◌, Contains, sym, ap₂, refl, subst, arith, inl, inr}
use Rattle.std.specs.List.{AllByRecursion}
use Rattle.std.specs.List.Sorted.{IsStrictlySortedBy}
use Rattle.std.specs.Ordering.{nat_cmp}
use Rattle.std.specs.declared.cmp.Ordering.TheVariants.{Less}
use Rattle.std.proofs.lemmas.Cmp.{ranked}
use Rattle.std.proofs.lemmas.List.Elements.{Contains-append_cases, Contains-append_left, Contains-append_right, Contains-push, Contains-push_cases}
use Rattle.std.proofs.lemmas.Map.Keys.{sorted_head, sorted_tail}

none_in : (t : ℕ) → Contains [] t → ⊥
none_in t h = let low = h.1 in omega (arith, low)

-- a member of a list is its first or one of the others
head_or_in : (x : ℕ) (xs : List ℕ) (t : ℕ) → Contains (x ∷ xs) t → (x ≡ t) ⊎ Contains xs t
head_or_in x xs t h = elim (Contains-append_cases (x ∷ []) xs t h) [
  | inl one ↦ elim (Contains-push_cases [] x t one) [ inl none ↦ absurd (none_in t none) | inr same ↦ inl same ]
  | inr more ↦ inr more
]

head_in : (x : ℕ) (xs : List ℕ) → Contains (x ∷ xs) x
head_in x xs = Contains-append_left (x ∷ []) xs x (Contains-push [] x)

tail_in : (x : ℕ) (xs : List ℕ) (t : ℕ) → Contains xs t → Contains (x ∷ xs) t
tail_in x xs t h = Contains-append_right (x ∷ []) xs t h

abbrev Above : ℕ → List ℕ → Type 0
Above x xs = AllByRecursion (λ y. nat_cmp x y ≡ Less) xs

above : (x : ℕ) (xs : List ℕ) → Above x xs → (t : ℕ) → Contains xs t → x < t
above x [] all t h = absurd (none_in t h)
above x (y ∷ ys) all t h = elim (head_or_in y ys t h) [
  | inl same ↦ subst (λ (n : ℕ). x < n) same (ranked x y Less (sym all.0))
  | inr more ↦ above x ys all.1 t more
]

abbrev Rising : List ℕ → Type 0
Rising xs = IsStrictlySortedBy nat_cmp xs

abbrev Within : List ℕ → List ℕ → Type 0
Within xs ys = (t : ℕ) → Contains xs t → Contains ys t

-- of two rising lists of which each has the first of the other, the first are the same
same_head : (x y : ℕ) (xs ys : List ℕ) → Above x xs → Above y ys → Within (x ∷ xs) (y ∷ ys) → Within (y ∷ ys) (x ∷ xs) → x ≡ y
same_head x y xs ys over under into back = elim (head_or_in y ys x (into x (head_in x xs))) [
  | inl same ↦ sym same
  | inr later ↦ elim (head_or_in x xs y (back y (head_in y ys))) [
    | inl same ↦ same
    | inr after ↦ (let low = above y ys under x later in let high = above x xs over y after in absurd (omega (arith, low, high)))
  ]
]

same_tail : (x y : ℕ) (xs ys : List ℕ) → x ≡ y → Above x xs → Within (x ∷ xs) (y ∷ ys) → Within xs ys
same_tail x y xs ys same over into t h = elim (head_or_in y ys t (into t (tail_in x xs t h))) [
  | inl here ↦ (let low = above x xs over t h in absurd (omega (arith, low, same, here)))
  | inr later ↦ later
]

pub same_members : (xs ys : List ℕ) → Rising xs → Rising ys → Within xs ys → Within ys xs → xs ≡ ys
same_members [] [] p q into back = refl
same_members [] (y ∷ ys) p q into back = absurd (none_in y (back y (head_in y ys)))
same_members (x ∷ xs) [] p q into back = absurd (none_in x (into x (head_in x xs)))
same_members (x ∷ xs) (y ∷ ys) p q into back =
    let over = sorted_head nat_cmp x xs p in
    let under = sorted_head nat_cmp y ys q in
    let same = same_head x y xs ys over under into back in
    ap₂ (λ (z : ℕ) (zs : List ℕ). z ∷ zs) same (same_members xs ys (sorted_tail nat_cmp x xs p) (sorted_tail nat_cmp y ys q)
    (same_tail x y xs ys same over into) (same_tail y x ys xs (sym same) under back))
