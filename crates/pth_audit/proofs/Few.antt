-- A list without a number twice is no longer than one that has all its numbers.
use Rattle.std.proofs.Common.{◌≡◌, ◌≢◌, ◌⊎◌, ℕ, zero, suc, ◌+◌, ◌<◌, ◌≤◌, ◌==◌, Bool, true, false, List, [], ◌∷◌, length, get_or, refl, sym, ◌∙◌, arith, inl, inr, if◌then◌else◌}
use Rattle.std.proofs.lemmas.Bool.Decides.{eqb_tells}

-- x is one of them
abbrev pub IsIn : ℕ → List ℕ → Type 0
IsIn x [] = ⊥
IsIn x (y ∷ ys) = (x ≡ y) ⊎ IsIn x ys

-- none of them is x, and none comes twice
abbrev pub AreApart : List ℕ → Type 0
AreApart [] = Unit {0}
AreApart (x ∷ xs) = ((y : ℕ) → IsIn y xs → y ≢ x) × AreApart xs

abbrev drop_first : ℕ → List ℕ → List ℕ
drop_first x [] = []
drop_first x (y ∷ ys) = if y == x then ys else y ∷ drop_first x ys

shorter_by : (x y : ℕ) (ys : List ℕ) (t : Bool) → (t ≡ false → length ys ≡ length (drop_first x ys) + 1) → length (y ∷ ys) ≡ length (if t then ys else y ∷ drop_first x ys) + 1
shorter_by x y ys true rest = let e : suc (length ys) ≡ length ys + 1 = omega arith in e
shorter_by x y ys false rest = let e : suc (length ys) ≡ suc (length (drop_first x ys)) + 1 = (let r = rest refl in omega arith) in e

other_by : (x y : ℕ) (t : Bool) → ((y == x) ≡ t) → t ≡ false → x ≢ y
other_by x y t is differs same = (let e : (y == x) ≡ true = elim (eqb_tells y x) [
  | inl h ↦ h.0
  | inr h ↦ absurd (h.1 (sym same))
] in let f = sym e ∙ is ∙ differs in cc f)

shorter : (x : ℕ) (ys : List ℕ) → IsIn x ys → length ys ≡ length (drop_first x ys) + 1
shorter x [] is = absurd is
shorter x (y ∷ ys) (inl same) = shorter_by x y ys (y == x) (λ differs. absurd (other_by x y (y == x) refl differs same))
shorter x (y ∷ ys) (inr later) = shorter_by x y ys (y == x) (λ differs. shorter x ys later)

left_by : (x y z : ℕ) (ys : List ℕ) (t : Bool) → (t ≡ true → y ≡ x) → z ≢ x → (z ≡ y) ⊎ IsIn z ys → (IsIn z ys → IsIn z (drop_first x ys)) → IsIn z (if t then ys else y ∷ drop_first x ys)
left_by x y z ys true same other (inl here) rest = absurd (other (here ∙ same refl))
left_by x y z ys true same other (inr later) rest = later
left_by x y z ys false same other (inl here) rest = inl here
left_by x y z ys false same other (inr later) rest = inr (rest later)

same_by : (x y : ℕ) (t : Bool) → ((y == x) ≡ t) → t ≡ true → y ≡ x
same_by x y t is holds = elim (eqb_tells y x) [
  | inl h ↦ h.1
  | inr h ↦ (let e = sym h.0 ∙ is ∙ holds in absurd (cc e))
]

left : (x z : ℕ) (ys : List ℕ) → z ≢ x → IsIn z ys → IsIn z (drop_first x ys)
left x z [] other is = absurd is
left x z (y ∷ ys) other is = left_by x y z ys (y == x) (same_by x y (y == x) refl) other is (λ later. left x z ys other later)

pub few : (xs ys : List ℕ) → AreApart xs → ((x : ℕ) → IsIn x xs → IsIn x ys) → length xs ≤ length ys
few [] ys apart all = omega arith
few (x ∷ xs) ys apart all =
    let one = shorter x ys (all x (inl refl)) in
    let rest = few xs (drop_first x ys) apart.1 (λ z is. left x z ys (apart.0 z is) (all z (inr is))) in
    omega arith

-- ---- by places

pub is_in_at : (xs : List ℕ) (i : ℕ) → i < length xs → IsIn (get_or xs i 0) xs
is_in_at [] i low = absurd (omega (arith, low))
is_in_at (x ∷ xs) zero low = inl refl
is_in_at (x ∷ xs) (suc i) low = inr (is_in_at xs i (omega (arith, low)))

pub place_of : (x : ℕ) (xs : List ℕ) → IsIn x xs → (i : ℕ) × (i < length xs) × (get_or xs i 0 ≡ x)
place_of x [] is = absurd is
place_of x (y ∷ xs) (inl same) = (0, omega arith, sym same)
place_of x (y ∷ xs) (inr later) = (let p = place_of x xs later in (suc p.0, omega (arith, p.1), p.2))

pub apart_from_places : (xs : List ℕ) → ((i j : ℕ) → i < j → j < length xs → get_or xs i 0 ≢ get_or xs j 0) → AreApart xs
apart_from_places [] h = tt
apart_from_places (x ∷ xs) h = (
  (λ y is same. (let p = place_of y xs is in h 0 (suc p.0) (omega arith) (omega (arith, p.1)) (sym (p.2 ∙ same)))),
  apart_from_places xs (λ i j low within. h (suc i) (suc j) (omega (arith, low)) (omega (arith, within))),
)
