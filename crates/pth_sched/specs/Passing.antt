-- What the parts of a turn need of a world.
use Rattle.std.specs.Prelude.{◌≡◌, ◌≢◌, ℕ, ◌+◌, ◌^◌, ◌≤◌, List, [], ◌∷◌, length}
use Rattle.pth_queue.specs.Queues.{QueuesOf}
use Rattle.pth_queue.specs.declared.queue.Queue.TheVariants.{Ready, Waiting}
use Rattle.pth_world.specs.Sound.{IsKnown}
use Rattle.pth_world.specs.Touches.{KeepsRest}
use Rattle.pth_world.specs.WellFormed.{IsIn, WellFormed, WaitsToRun}
use Rattle.pth_world.specs.World.{WorldOf}
use Rattle.pth_world.specs.Ranks.{IsUnder, KeepsRanks, greatest_return}

-- the thread is in the system, and stands in the waiting queue
abbrev pub IsWaiting : {P S H : Type 0} → WorldOf P S H → ℕ → Type 0
IsWaiting w t = IsKnown w.threads t × IsIn Waiting w.threads t

-- the thread is in the system, and stands in the ready queue
abbrev pub IsReady : {P S H : Type 0} → WorldOf P S H → ℕ → Type 0
IsReady w t = IsKnown w.threads t × IsIn Ready w.threads t

abbrev pub IsNotIn : ℕ → List ℕ → Type 0
IsNotIn t [] = Unit {0}
IsNotIn t (u ∷ us) = (u ≢ t) × IsNotIn t us

-- these threads wait, and none is listed twice
abbrev pub WaitOnce : {P S H : Type 0} → WorldOf P S H → List ℕ → Type 0
WaitOnce w [] = Unit {0}
WaitOnce w (t ∷ ts) = IsWaiting w t × IsNotIn t ts × WaitOnce w ts

-- Some threads that waited may be ready now, and nothing else happened: no thread was made or lifted above the others, and whoever waits to
-- run does so still.
pub record OnlyWakes {P S H : Type 0} (old new : WorldOf P S H) : Type 0 where
  pub whole : WellFormed new
  pub rest : KeepsRest old new
  pub made : new.threads.records.made ≡ old.threads.records.made
  pub ranks : KeepsRanks 0 old.threads new.threads
  pub stays : (u : ℕ) → WaitsToRun old.threads u → WaitsToRun new.threads u

-- the new threads can become ready one by one, each one rank above all others
pub record HasRoom (qs : QueuesOf) : Type 0 where
  pub bound : ℕ
  pub low : greatest_return ≤ bound
  pub under : IsUnder bound qs.ready
  pub few : bound + length qs.new ≤ 2 ^ 40
