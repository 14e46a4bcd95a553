-- Looking up words in tables.
use Rattle.std.proofs.Common.{◌≡◌, ◌∙◌, ◌<◌, ◌≤◌, ◌+◌, ℕ, zero, suc, true, false, List, [], ◌∷◌, Some, None, ap, sym, refl, drop, length, arith}
use Rattle.std.proofs.Math.ListN.{drop_of_length-le}
use Rattle.std.specs.List.{slice_index_or}
use Rattle.std.specs.Borrow.{Bor}
use Rattle.std.specs.Str.{bytes_eq}
use Rattle.pth_spelling.specs.Named.{named_in, table_of}

passed_by : {X : Type 0} (rows : List (Bor (List ℕ) × X)) (word : List ℕ) (i : ℕ) (row : Bor (List ℕ) × X) → i < length rows → slice_index_or rows i row ≡ row → bytes_eq word row.0.now ≡ false
    → named_in (table_of (drop i rows)) word ≡ named_in (table_of (drop (suc i) rows)) word
unfolding named_in
passed_by [] word i row lt at other = absurd (omega arith)
passed_by (r ∷ rows) word zero row lt at other = rw (at, other) refl
passed_by (r ∷ rows) word (suc i) row lt at other = passed_by rows word i row (omega arith) at other

-- a row of another word is passed over
pub passed : {X : Type 0} (rows : List (Bor (List ℕ) × X)) (word : List ℕ) (i : ℕ) (row : Bor (List ℕ) × X) → i < length rows → row ≡ slice_index_or rows i row → false ≡ bytes_eq word row.0.now
    → named_in (table_of (drop i rows)) word ≡ named_in (table_of (drop (i + 1) rows)) word
passed rows word i row lt at other =
    let next : suc i ≡ i + 1 = omega arith in
    passed_by rows word i row lt (sym at) (sym other) ∙ ap (λ (n : ℕ). named_in (table_of (drop n rows)) word) next

found_by : {X : Type 0} (rows : List (Bor (List ℕ) × X)) (word : List ℕ) (i : ℕ) (row : Bor (List ℕ) × X) → i < length rows → slice_index_or rows i row ≡ row → bytes_eq word row.0.now ≡ true
    → named_in (table_of (drop i rows)) word ≡ Some row.1
unfolding named_in
found_by [] word i row lt at same = absurd (omega arith)
found_by (r ∷ rows) word zero row lt at same = rw (at, same) refl
found_by (r ∷ rows) word (suc i) row lt at same = found_by rows word i row (omega arith) at same

-- the row of a word is found
pub found : {X : Type 0} (rows : List (Bor (List ℕ) × X)) (word : List ℕ) (i : ℕ) (row : Bor (List ℕ) × X) → i < length rows → row ≡ slice_index_or rows i row → true ≡ bytes_eq word row.0.now
    → named_in (table_of (drop i rows)) word ≡ Some row.1
found rows word i row lt at same = found_by rows word i row lt (sym at) (sym same)

-- no row is left
pub missing : {X : Type 0} (rows : List (Bor (List ℕ) × X)) (word : List ℕ) (i : ℕ) → length rows ≤ i → named_in (table_of (drop i rows)) word ≡ None
unfolding named_in
missing rows word i le = ap (λ l. named_in (table_of l) word) (drop_of_length-le rows le)
