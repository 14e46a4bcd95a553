-- What the acts of handlers leave of a world, and what an ending thread gives up.
use Rattle.std.specs.Prelude.{◌≡◌}
use Rattle.pth_world.specs.Store.{store_of}
use Rattle.pth_world.specs.WellFormed.{WellFormed}
use Rattle.pth_world.specs.World.{WorldOf}

-- from w to v: the shared value, values under keys, mutexes, locks, messages and conditions changed, and nothing else
pub record IsHandled {P S H : Type 0} (w v : WorldOf P S H) : Type 0 where
  pub whole : WellFormed v
  pub same : v ≡ record w { shared = v.shared; store = v.store; conditions = v.conditions }
  pub ports : v.store.ports.made ≡ w.store.ports.made
  pub cleanups : (store_of v.store).cleanups ≡ (store_of w.store).cleanups
