-- What one turn more, or one mark more in the last turn, does to the columns.
use Rattle.std.proofs.Common.{◌≡◌, ◌∙◌, ℕ, suc, ◌+◌, ◌-◌, ◌<◌, ◌≤◌, List, [], ◌∷◌, ◌++◌, length, take, drop, refl, sym, ap, arith, ◌⊎◌, inl, inr}
use Rattle.std.proofs.lemmas.Bool.{cases_lt}
use Rattle.std.proofs.lemmas.List.{take_all, drop_all, take-append-le, drop-append-le, length-drop, length_push}
use Rattle.pth_base.specs.declared.mark.Mark.{Mark}
use Rattle.pth_drawing.specs.States.{Turn}
use Rattle.pth_drawing.proofs.Turns.{with_mark, heard, heard_push}

-- ---- lists that end with an element

pub data Split {A : Type 0} (xs : List A) : Type 0 where
  empty : xs ≡ [] → Split xs
  last : (ys : List A) (y : A) → xs ≡ ys ++ y ∷ [] → Split xs

split_more : {A : Type 0} (x : A) (xs : List A) → Split xs → Split (x ∷ xs)
split_more x xs (empty is) = last [] x (ap (λ l. x ∷ l) is)
split_more x xs (last ys y is) = last (x ∷ ys) y (ap (λ l. x ∷ l) is)

pub split : {A : Type 0} (xs : List A) → Split xs
split [] = empty refl
split (x ∷ xs) = split_more x xs (split xs)

-- ---- so many elements from one on

abbrev pub part : {A : Type 0} (skip most : ℕ) → List A → List A
part skip most xs = take most (drop skip xs)

pub part_before : {A : Type 0} (skip most : ℕ) (xs : List A) → length xs ≤ skip → part skip most xs ≡ []
part_before skip most xs few = ap (take most) (drop_all skip xs few) ∙ take_all most [] (omega arith)

pub part_within : {A : Type 0} (skip most : ℕ) (xs : List A) → length xs ≤ skip + most → part skip most xs ≡ drop skip xs
part_within skip most xs few = take_all most (drop skip xs) (omega (arith, length-drop skip xs))

pub length_part : {A : Type 0} (skip most : ℕ) (xs : List A) → length xs ≤ skip + most → length (part skip most xs) ≡ length xs - skip
length_part skip most xs few = ap length (part_within skip most xs few) ∙ length-drop skip xs

-- one element more that is within the part
pub part_more : {A : Type 0} (skip most : ℕ) (xs : List A) (x : A) → skip ≤ length xs → length xs < skip + most
    → part skip most (xs ++ x ∷ []) ≡ part skip most xs ++ x ∷ []
part_more skip most xs x begun few =
    part_within skip most (xs ++ x ∷ []) (omega (arith, length_push xs x))
    ∙ drop-append-le skip xs (x ∷ []) begun
    ∙ ap (λ l. l ++ x ∷ []) (sym (part_within skip most xs (omega arith)))

-- one that comes after it
pub part_after : {A : Type 0} (skip most : ℕ) (xs : List A) (x : A) → skip + most ≤ length xs → part skip most (xs ++ x ∷ []) ≡ part skip most xs
part_after skip most xs x over =
    ap (take most) (drop-append-le skip xs (x ∷ []) (omega arith))
    ∙ take-append-le most (drop skip xs) (x ∷ []) (omega (arith, length-drop skip xs))

-- ---- a mark more in the last turn

pub length_heard : (m : Mark) (xs : List Turn) → length (heard m xs) ≡ length xs
length_heard m [] = refl
length_heard m (x ∷ []) = refl
length_heard m (x ∷ y ∷ ys) = ap suc (length_heard m (y ∷ ys))

-- the last turn is drawn, or none is yet
pub part_heard : (skip most : ℕ) (m : Mark) (xs : List Turn) → length xs ≤ skip + most → part skip most (heard m xs) ≡ heard m (part skip most xs)
part_heard skip most m xs few = at (split xs) (cases_lt skip (length xs))
  where
    ahead : length xs ≤ skip → part skip most (heard m xs) ≡ heard m (part skip most xs)
    ahead h = part_before skip most (heard m xs) (omega (arith, length_heard m xs)) ∙ ap (heard m) (sym (part_before skip most xs h))

    at : Split xs → (skip < length xs) ⊎ (length xs ≤ skip) → part skip most (heard m xs) ≡ heard m (part skip most xs)
    at s (inr h) = ahead h
    at (empty is) (inl h) = absurd (omega (arith, ap length is))
    at (last ys y is) (inl h) =
        let n : length xs ≡ length ys + 1 = ap length is ∙ length_push ys y in
        ap (λ (l : List Turn). part skip most (heard m l)) is
        ∙ ap (part skip most) (heard_push m ys y)
        ∙ part_more skip most ys (with_mark m y) (omega arith) (omega arith)
        ∙ sym (heard_push m (part skip most ys) y)
        ∙ ap (heard m) (sym (part_more skip most ys y (omega arith) (omega arith)))
        ∙ ap (λ (l : List Turn). heard m (part skip most l)) (sym is)

-- the last turn comes after the part
pub part_heard_after : (skip most : ℕ) (m : Mark) (xs : List Turn) → skip + most < length xs → part skip most (heard m xs) ≡ part skip most xs
part_heard_after skip most m xs over = at (split xs)
  where
    at : Split xs → part skip most (heard m xs) ≡ part skip most xs
    at (empty is) = absurd (omega (arith, ap length is))
    at (last ys y is) =
        let n : length xs ≡ length ys + 1 = ap length is ∙ length_push ys y in
        ap (λ (l : List Turn). part skip most (heard m l)) is
        ∙ ap (part skip most) (heard_push m ys y)
        ∙ part_after skip most ys (with_mark m y) (omega arith)
        ∙ sym (part_after skip most ys y (omega arith))
        ∙ ap (part skip most) (sym is)
