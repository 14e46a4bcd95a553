-- The lines of a text, taken one by one.
use Rattle.std.proofs.Common.{◌≡◌, ℕ, suc, ◌+◌, ◌-◌, ◌<◌, ◌≤◌, ◌==◌, Bool, true, false, cond, not, List, [], ◌∷◌, ◌++◌, length, take, drop, Option, Some, None, refl, ap, sym, ◌∙◌, arith, ⊎_elim, length-append, add-one}
use Rattle.std.specs.Prelude.{slice_get, reverse, option_map}
use Rattle.std.specs.List.{position_or_len, position}
use Rattle.std.proofs.Math.Seq.{take-length}
use Rattle.std.proofs.lemmas.List.{reverse-reverse, length-reverse, take_at, get_or_at}
use Rattle.std.proofs.lemmas.Option.{slice_get-get_or, slice_get_past}
use Rattle.std.proofs.lemmas.Bool.{cases_Bool}
use Rattle.std.proofs.lemmas.Bool.Decides.{nat_tests}
use Rattle.pth_text.specs.Bytes.{code}
use Rattle.pth_script.specs.TextRows.{TextRow, text_rows, onto_first}
use Rattle.pth_script.specs.Broken.{broken, place_breaks, row_breaks, end_breaks}
use Rattle.pth_script.specs.RuleOrder.{first_broken}

abbrev lf : ℕ → Bool
lf b = b == code "\n"

ends_here : (b : ℕ) (bs : List ℕ) → lf b ≡ true → text_rows (b ∷ bs) ≡ record { bytes = []; ended = true } ∷ text_rows bs
unfolding text_rows
ends_here b bs e = ap (λ t. cond t (record { bytes = []; ended = true } ∷ text_rows bs) (onto_first b (text_rows bs))) e

goes_on : (b : ℕ) (bs : List ℕ) → lf b ≡ false → text_rows (b ∷ bs) ≡ onto_first b (text_rows bs)
unfolding text_rows
goes_on b bs e = ap (λ t. cond t (record { bytes = []; ended = true } ∷ text_rows bs) (onto_first b (text_rows bs))) e

place_here : (b : ℕ) (bs : List ℕ) → lf b ≡ true → position_or_len lf (b ∷ bs) ≡ 0
place_here b bs e = ap (λ t. cond (not t) (1 + position_or_len lf bs) 0) e

place_later : (b : ℕ) (bs : List ℕ) → lf b ≡ false → position_or_len lf (b ∷ bs) ≡ suc (position_or_len lf bs)
place_later b bs e = ap (λ t. cond (not t) (1 + position_or_len lf bs) 0) e ∙ omega arith

pub rows_at : (bs : List ℕ) → position_or_len lf bs < length bs → text_rows bs ≡ record { bytes = take (position_or_len lf bs) bs; ended = true } ∷ text_rows (drop (suc (position_or_len lf bs)) bs)
rows_at [] h = absurd (omega arith)
rows_at (b ∷ bs) h =
    ⊎_elim (λ (e : lf b ≡ true). rw (place_here b bs e) (ends_here b bs e))
    (λ (e : lf b ≡ false). rw (place_later b bs e) (goes_on b bs e ∙ ap (onto_first b) (rows_at bs (omega (arith, place_later b bs e)))))
    (cases_Bool (lf b))

pub no_rows : text_rows [] ≡ []
unfolding text_rows
no_rows = refl

pub rows_none : (bs : List ℕ) → length bs ≤ position_or_len lf bs → 0 < length bs → text_rows bs ≡ record { bytes = bs; ended = false } ∷ text_rows []
rows_none [] h n = absurd (omega arith)
rows_none (b ∷ []) h n =
    ⊎_elim (λ (e : lf b ≡ true). absurd (omega (arith, place_here b [] e)))
    (λ (e : lf b ≡ false). goes_on b [] e ∙ rw no_rows refl)
    (cases_Bool (lf b))
rows_none (b ∷ c ∷ cs) h n =
    ⊎_elim (λ (e : lf b ≡ true). absurd (omega (arith, place_here b (c ∷ cs) e)))
    (λ (e : lf b ≡ false). goes_on b (c ∷ cs) e ∙ ap (onto_first b) (rows_none (c ∷ cs) (omega (arith, place_later b (c ∷ cs) e)) (omega arith)))
    (cases_Bool (lf b))

row_at : (before rest : List TextRow) (row : TextRow) → slice_get (reverse before ++ row ∷ rest) (length before) ≡ Some row
row_at before rest row = slice_get-get_or (reverse before ++ row ∷ rest) (length before) row (omega (arith, length-append (reverse before) (row ∷ rest), length-reverse before)) ∙ ap (λ x. Some x) (get_or_at (reverse before) row rest row (length before) (length-reverse before))

lines_above : (before rest : List TextRow) → reverse (take (length before) (reverse before ++ rest)) ≡ before
lines_above before rest = ap reverse (take_at (reverse before) rest (length before) (length-reverse before)) ∙ reverse-reverse before

-- what the line below those that were read breaks
pub at_row : (text : List ℕ) (before rest : List TextRow) (row : TextRow) → reverse before ++ row ∷ rest ≡ text_rows text → first_broken (broken text (length before + 1)) ≡ first_broken (λ r. row_breaks r before row)
unfolding broken
at_row text before rest row e =
    let n : length before + 1 - 1 ≡ length before = omega arith in
    let a : reverse (take (length before + 1 - 1) (text_rows text)) ≡ before = rw (n, ← e) (lines_above before (row ∷ rest)) in
    let b : slice_get (text_rows text) (length before + 1 - 1) ≡ Some row = rw (n, ← e) (row_at before rest row) in
    λ i. first_broken (λ r. place_breaks r (a i) (b i))

pub at_end : (text : List ℕ) (before : List TextRow) → reverse before ≡ text_rows text → first_broken (broken text (length before + 1)) ≡ first_broken (λ r. end_breaks r before)
unfolding broken
at_end text before e =
    let n : length before + 1 - 1 ≡ length before = omega arith in
    let a : reverse (take (length before + 1 - 1) (text_rows text)) ≡ before = rw (n, ← e) (ap reverse (ap (λ k. take k (reverse before)) (sym (length-reverse before)) ∙ take-length (reverse before)) ∙ reverse-reverse before) in
    let b : slice_get (text_rows text) (length before + 1 - 1) ≡ None = rw n (slice_get_past (text_rows text) (length before) (omega (arith, length-reverse before, ap length e))) in
    λ i. first_broken (λ r. place_breaks r (a i) (b i))

-- what the place of an LF says
pub place_found : (bs : List ℕ) (r : Option ℕ) (end : ℕ) → r ≡ option_map (λ i. 0 + i) (position lf bs) → r ≡ Some end → (end ≡ position_or_len lf bs) × (end < length bs)
place_found bs r end e f = (grind (arith, nat_tests), grind (arith, nat_tests))

pub place_missing : (bs : List ℕ) (r : Option ℕ) → r ≡ option_map (λ i. 0 + i) (position lf bs) → r ≡ None → length bs ≤ position_or_len lf bs
place_missing bs r e f = grind (arith, nat_tests)

pub row_found : (bs : List ℕ) (r : Option ℕ) (end : ℕ) → r ≡ option_map (λ i. 0 + i) (position lf bs) → r ≡ Some end → text_rows bs ≡ record { bytes = take end bs; ended = true } ∷ text_rows (drop (end + 1) bs)
row_found bs r end e f =
    let p = place_found bs r end e f in
    rw (p.0, add-one) (rows_at bs (omega arith))
