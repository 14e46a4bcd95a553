-- The words of a line.
use Rattle.std.specs.Prelude.{ℕ, ◌==◌, List}
use Rattle.std.specs.List.{slice_split}
use Rattle.pth_text.specs.Bytes.{code}

-- what stands between the spaces: two spaces side by side have an empty word between them
abbrev pub words_of : List ℕ → List (List ℕ)
words_of line = slice_split (λ b. b == code " ") line
