-- Words and what they name, in tables.
use Rattle.std.specs.Prelude.{ℕ, List, [], ◌∷◌, Option, Some, None, map, if◌then◌else◌}
use Rattle.std.specs.Borrow.{Bor}
use Rattle.std.specs.Str.{bytes_eq}

-- what a word names by a table of words: what stands in the first row of the word
unfoldable pub named_in : {X : Type 0} → List (List ℕ × X) → List ℕ → Option X
named_in [] word = None
named_in (row ∷ rows) word = if bytes_eq word row.0 then Some row.1 else named_in rows word

-- a table of the code
abbrev pub table_of : {X : Type 0} → List (Bor (List ℕ) × X) → List (List ℕ × X)
table_of rows = map (λ row. (row.0.now, row.1)) rows
