-- The members of three sets that are ready.
use Rattle.std.specs.Prelude.{ℕ, List}
use Rattle.pth_io.specs.declared.select.Ready.{Ready}
use Rattle.pth_io.specs.Readiness.{IsFound}

-- they are those of three lists
pub record AreFound (ready : Ready) (rs ws xs : List ℕ) : Type 0 where
  pub r : IsFound ready.r rs
  pub w : IsFound ready.w ws
  pub x : IsFound ready.x xs
