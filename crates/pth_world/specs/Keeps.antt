-- What a change of what threads have stored leaves of a world, and what a move of threads leaves of it.
use Rattle.std.specs.Prelude.{◌≡◌, ℕ, Option}
use Rattle.pth_model.specs.State.{Control}
use Rattle.pth_world.specs.Ranks.{KeepsRanks}
use Rattle.pth_world.specs.Shows.{Shows}
use Rattle.pth_world.specs.WellFormed.{WellFormed}
use Rattle.pth_world.specs.World.{WorldOf}

-- from w to v, at most what threads have stored has changed
pub record KeepsAllButStore {P S H : Type 0} (w v : WorldOf P S H) : Type 0 where
  -- each control that was shown still is
  pub shows : (k : Control P S H) → Shows w k → Shows v k
  -- a whole world still is whole: who is not alive has come to nothing
  pub whole : WellFormed w → WellFormed v
  -- no port was made
  pub made : v.store.ports.made ≡ w.store.ports.made
  -- the rest is as it was
  pub same : v ≡ record w { store = v.store }

-- from w to v, threads have moved or are gone, at most so many more are new, and this one runs, if any
pub record MovesThreads {P S H : Type 0} (w v : WorldOf P S H) (more : ℕ) (running : Option ℕ) : Type 0 where
  pub whole : WellFormed v
  -- no thread was made
  pub made : v.threads.records.made ≡ w.threads.records.made
  -- no ready thread is lifted above the others
  pub ranks : KeepsRanks more w.threads v.threads
  -- the rest is as it was
  pub same : v ≡ record w { threads = v.threads; scheduler = record w.scheduler { running = running } }
