-- What holds of every world between two calls.
use Rattle.std.specs.Prelude.{◌≡◌, ℕ, None}
use Rattle.pth_model.specs.Changes.{blocked_of}
use Rattle.pth_model.specs.State.{Control}
use Rattle.pth_laws.specs.Consistent.{AreWaitsConsistent}
use Rattle.pth_world.specs.Shows.{Shows}
use Rattle.pth_world.specs.StateOf.{state_of}
use Rattle.pth_world.specs.WellFormed.{WellFormed}
use Rattle.pth_world.specs.World.{WorldOf}

-- The threads of a world, where they stand, and what they have stored fit each other. In the state that the world shows so do the calls
-- that block threads and what these calls made: claims on rings, seats at conditions, and arrivals at barriers. The same holds in every
-- state for which the world stands (`whole_worlds_wait_consistently`).
pub record Whole {P S H : Type 0} (w : WorldOf P S H) : Type 0 where
  pub formed : WellFormed w
  pub waits : AreWaitsConsistent (state_of w)

-- no call blocks thread t: it may begin one
abbrev pub IsUnblocked : {P S H : Type 0} → WorldOf P S H → ℕ → Type 0
IsUnblocked w t = (k : Control _ _ _) → Shows w k → blocked_of k t ≡ None
