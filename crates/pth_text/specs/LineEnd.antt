-- Lines end with LF.
use Rattle.std.specs.Prelude.{ℕ, ◌+◌, ◌==◌, List, drop, Option, option_map}
use Rattle.std.specs.List.{position}
use Rattle.pth_text.specs.Bytes.{code}

-- the place of the first LF at a place or later
abbrev pub line_end_of : List ℕ → ℕ → Option ℕ
line_end_of bytes from = option_map (λ i. from + i) (position (λ b. b == code "\n") (drop from bytes))
