-- What a call that adds to a text leaves.
use Rattle.std.specs.Prelude.{◌≡◌, ℕ, List, ◌++◌, Result, OnOk, OnErr}
use Rattle.pth_base.specs.Cut.{IsCut}

-- the text was added, or an error came and a beginning of it was added
pub record AddsText {T E : Type 0} (old new : List ℕ) (result : Result T E) (text : List ℕ) : Type 0 where
  pub ok : OnOk result (new ≡ old ++ text)
  pub err : OnErr result (IsCut old new text)
