-- Words before and behind `=`.
use Rattle.std.specs.Prelude.{ℕ, List, [], ◌∷◌, Bool, Option, Some, None, codes, option_map, if◌then◌else◌}
use Rattle.std.specs.Str.{bytes_eq}

-- a word is `=`
abbrev pub is_equals : List ℕ → Bool
is_equals w = bytes_eq w (codes "=")

-- the words before the first `=`, and those behind it
unfoldable pub parted : List (List ℕ) → Option (List (List ℕ) × List (List ℕ))
parted [] = None
parted (w ∷ ws) = if is_equals w then Some ([], ws) else option_map (λ p. (w ∷ p.0, p.1)) (parted ws)
