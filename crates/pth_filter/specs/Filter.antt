-- Programs that read one object and write one text.
use Rattle.std.specs.Prelude.{ℕ, List, Option}
use Rattle.pth_filter.specs.Objects.{Object}
use Rattle.pth_filter.specs.Output.{Output}

-- A program: its name, what its words ask for (nothing if they are refused), the object that it reads for this, and its output for the
-- bytes that the object holds.
pub record Filter (A : Type 0) : Type 1 where
  pub name : List ℕ
  pub asked : List (List ℕ) → Option A
  pub object : A → Object
  pub IsOutput : Option A → List ℕ → Output → Type 0
