-- The threads in the system that are not dead.
use Rattle.std.specs.Prelude.{ℕ, zero, suc, ◌++◌, not, nat_lt, Bool, true, false, List, [], ◌∷◌, Option, Some, None, if◌then◌else◌}
use Rattle.pth_base.specs.declared.thread.ThreadState.{ThreadState}
use Rattle.pth_base.specs.declared.thread.ThreadState.TheVariants as state
use Rattle.pth_threads.specs.declared.entry.Entry.{Entry}
use Rattle.pth_model.specs.State.{State}

abbrev pub is_dead : ThreadState → Bool
is_dead state.Dead = true
is_dead s = false

-- a thread is in the system, and not dead
abbrev pub lives : Option Entry → Bool
lives None = false
lives (Some e) = not (is_dead e.state)

-- of so many threads that were made, one has this number
abbrev pub is_made : (made : ℕ) → ℕ → Bool
is_made made zero = false
is_made made (suc t) = nat_lt t made

-- a thread's number, where it is in the system and not dead
abbrev pub if_live : ℕ → Option Entry → List ℕ
if_live t None = []
if_live t (Some e) = if is_dead e.state then [] else t ∷ []

-- those of the first n numbers, rising
unfoldable pub live_of : (ℕ → Option Entry) → ℕ → List ℕ
live_of known zero = []
live_of known (suc n) = live_of known n ++ if_live (suc n) (known (suc n))

-- the numbers of the threads that are not dead, rising
abbrev pub live : {P S H : Type 0} → State P S H → List ℕ
live s = live_of s.control.threads.known s.control.threads.made
