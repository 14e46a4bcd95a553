-- A body that is being read.
use Rattle.std.specs.Prelude.{◌≡◌, ℕ, ℤ, List, Some, MatchOption}
use Rattle.std.specs.BTreeMap.{BTreeMap, get, Updates, IsUnchanged}
use Rattle.std.specs.Ordering.{int_cmp}
use Rattle.pth_line.specs.declared.line.Line.{Line}
use Rattle.pth_script.specs.Labels.{somes, label_in, place_after}

-- the map finds the place of the line after each label
abbrev pub IsIndexed : List Line → BTreeMap ℤ ℕ → Type 0
IsIndexed lines places = (k : ℤ) → get int_cmp places k ≡ place_after (somes lines) k

-- a line before the place `after` changes the map m into n
abbrev pub Marks : Line → ℕ → BTreeMap ℤ ℕ → BTreeMap ℤ ℕ → Type 0
Marks l after m n = MatchOption (label_in l) (IsUnchanged m n) (λ k. Updates int_cmp m n k (Some after))
