-- Sets of descriptors as words.
use Rattle.std.specs.Prelude.{ℕ, List, [], ◌∷◌, ◌++◌, codes, decimal, flat_map}
use Rattle.pth_base.specs.Descriptors.{members}

-- a comma between each member and the next, or `-` where there is none
abbrev pub members_word : List ℕ → List ℕ
members_word [] = codes "-"
members_word (f ∷ fs) = decimal f ++ flat_map (λ g. codes "," ++ decimal g) fs

-- a set of descriptors
abbrev pub set_word : ℕ → List ℕ
set_word set = members_word (members set)
