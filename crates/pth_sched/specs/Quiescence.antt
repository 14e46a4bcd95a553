-- Until when no thread that waits is to wake, if nothing changes but time.
use Rattle.std.specs.Prelude.{◌≡◌, ◌≢◌, ℕ, ◌<◌, ◌&&◌, not, Bool, true, false, Option, Some, None}
use Rattle.pth_base.specs.declared.thread.ThreadState.{ThreadState}
use Rattle.pth_base.specs.declared.thread.ThreadState.TheVariants as state
use Rattle.pth_threads.specs.declared.entry.Entry.{Entry}
use Rattle.pth_model.specs.State.{State}
use Rattle.pth_world.specs.Shows.{StandsFor}
use Rattle.pth_world.specs.World.{WorldOf}
use Rattle.pth_model.specs.Changes.{entry_of}
use Rattle.pth_waits.specs.Dormant.{IsDormant}

abbrev pub waits_in : ThreadState → Bool
waits_in state.Waiting = true
waits_in s = false

-- a thread that waits, and is not suspended
abbrev pub is_among_waiting : Option Entry → Bool
is_among_waiting None = false
is_among_waiting (Some e) = waits_in e.state && not e.suspended

-- all threads that wait are dormant, but the one that runs
abbrev pub IsQuiescent : {P S H : Type 0} → State P S H → ℕ → Type 0
IsQuiescent s until = (u : ℕ) → s.control.scheduler.running ≢ Some u → is_among_waiting (entry_of s.control u) ≡ true → IsDormant s until u

-- and all but thread t
abbrev pub IsQuiescentBut : {P S H : Type 0} → ℕ → State P S H → ℕ → Type 0
IsQuiescentBut t s until = (u : ℕ) → u ≢ t → is_among_waiting (entry_of s.control u) ≡ true → IsDormant s until u

-- The threads of a world that wait are dormant until a moment, but the one that runs; where the moment is 0, nothing is said.
pub record IsQuiescentUntil {P S H : Type 0} (w : WorldOf P S H) (until : ℕ) : Type 0 where
  pub state : State P S H
  pub stands : StandsFor w state
  pub quiescence : IsQuiescent state until

abbrev pub IsKnownQuiescent : {P S H : Type 0} → WorldOf P S H → ℕ → Type 0
IsKnownQuiescent w until = 0 < until → IsQuiescentUntil w until

-- the same of all but thread t
pub record IsQuiescentButUntil {P S H : Type 0} (t : ℕ) (w : WorldOf P S H) (until : ℕ) : Type 0 where
  pub state : State P S H
  pub stands : StandsFor w state
  pub quiescence : IsQuiescentBut t state until

abbrev pub IsKnownQuiescentBut : {P S H : Type 0} → ℕ → WorldOf P S H → ℕ → Type 0
IsKnownQuiescentBut t w until = 0 < until → IsQuiescentButUntil t w until

-- every thread that waits is dormant
abbrev pub AreDormant : {P S H : Type 0} → State P S H → ℕ → Type 0
AreDormant s until = (u : ℕ) → is_among_waiting (entry_of s.control u) ≡ true → IsDormant s until u
