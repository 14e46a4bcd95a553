-- Circular lists: each place names the next and the one before.
use Rattle.std.specs.Prelude.{◌≡◌, ◌≢◌, ◌⊎◌, ℕ, List, [], ◌∷◌}

-- a stands in the list
abbrev pub StandsIn : ℕ → List ℕ → Type 0
StandsIn a [] = ⊥
StandsIn a (x ∷ xs) = (a ≡ x) ⊎ StandsIn a xs

-- nothing stands twice
abbrev pub Distinct : List ℕ → Type 0
Distinct [] = Unit {0}
Distinct (x ∷ xs) = ((y : ℕ) → StandsIn y xs → y ≢ x) × Distinct xs

-- the last of these, or a
abbrev pub last_or : ℕ → List ℕ → ℕ
last_or a [] = a
last_or a (x ∷ xs) = last_or x xs

-- from a over these to b, each names the next, and each next the one before
abbrev pub Chain : (ℕ → ℕ) → (ℕ → ℕ) → ℕ → List ℕ → ℕ → Type 0
Chain next prev a [] b = (next a ≡ b) × (prev b ≡ a)
Chain next prev a (x ∷ xs) b = (next a ≡ x) × (prev x ≡ a) × Chain next prev x xs b

-- a circle: from the first over the others back to it
abbrev pub ClosedChain : (ℕ → ℕ) → (ℕ → ℕ) → List ℕ → Type 0
ClosedChain next prev [] = Unit {0}
ClosedChain next prev (x ∷ xs) = Chain next prev x xs x
