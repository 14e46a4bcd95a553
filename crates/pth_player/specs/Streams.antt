-- What reading to the end does, if the bytes are told.
use Rattle.std.specs.Prelude.{◌≤◌, ◌<◌, ℕ, List, length, Option}
use Rattle.std.specs.Io.KnownBytes.{Consumes, IsAtEnd}

-- `bytes` was taken from the front, as many as `cap` or all there was
pub record TakesUpTo (cap : ℕ) (old new : Option (List ℕ)) (bytes : List ℕ) : Type 0 where
  pub taken : Consumes old new bytes
  pub bound : length bytes ≤ cap
  pub whole : length bytes < cap → IsAtEnd new
