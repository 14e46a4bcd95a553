-- What contracts see of std's streams and files.
use Rattle.std.specs.Prelude.{ℕ}

-- what is inside, and its faults so far
pub record Counted (T : Type 0) : Type 0 where
  pub inner : T
  pub faults : ℕ
