-- What the input and the files tell.
use Rattle.std.specs.Prelude.{◌≡◌, ℕ, List, Option, IfSome}

-- what the input and the files tell at a moment
pub record Inputs : Type 0 where
  pub left : Option (List ℕ)
  pub faults : ℕ
  pub file_left : Option (List ℕ)
  pub held : List ℕ → Option (List ℕ)
  pub file_faults : ℕ

abbrev pub inputs : Option (List ℕ) → ℕ → Option (List ℕ) → (List ℕ → Option (List ℕ)) → ℕ → Inputs
inputs left faults file_left held file_faults = record {
  left = left;
  faults = faults;
  file_left = file_left;
  held = held;
  file_faults = file_faults;
}

-- these are the bytes that the object read holds, if that is told, and some bytes if it is not
abbrev pub AreHeld : Option (List ℕ) → List ℕ → Type 0
AreHeld held bytes = IfSome held (λ xs. bytes ≡ xs)
