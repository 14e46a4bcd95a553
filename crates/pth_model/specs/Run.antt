-- Runs.
use Rattle.std.specs.Prelude.{◌≡◌, ◌<◌, ◌≤◌, ◌++◌, ◌&&◌, ◌||◌, ℕ, zero, suc, Bool, true, false, nat_le, nat_lt, List, []}
use Rattle.pth_base.specs.Program.{Functions}
use Rattle.pth_base.specs.declared.mark.Mark.{Mark}
use Rattle.pth_model.specs.State.{State, Given, start, no_turn}
use Rattle.pth_model.specs.Course.{Course, followed}
use Rattle.pth_model.specs.Part.{Part, Step, Close, Halt, next_part, part}

-- a run to this number of steps goes no further: a next step would begin, or an outcome ended it
abbrev pub stops_by : ℕ → ℕ → Part → Bool
stops_by to steps (Step t) = nat_le to steps
stops_by to steps Halt = true
stops_by to steps p = false

abbrev pub is_close : Part → Bool
is_close (Close t) = true
is_close p = false

-- from part i on, part j is the first that halts
pub record GoesUntil (halts : ℕ → Bool) (i j : ℕ) : Type 0 where
  pub later : i ≤ j
  pub here : halts j ≡ true
  pub first : (k : ℕ) → i ≤ k → k < j → halts k ≡ false

module _ {P S H : Type 0} where
  -- the state, its turn and the marks after so many parts
  unfoldable pub parts : (P → Functions S H) → State P S H → ℕ → Course P S H
  parts f s zero = record { state = s; turn = no_turn; marks = [] }
  parts f s (suc i) = followed (parts f s i) (part f (parts f s i).turn (parts f s i).state)

  -- the run of what is given, after so many parts
  abbrev pub run : (P → Functions S H) → Given P → ℕ → Course P S H
  run f g i = parts f (start f g) i

  unfoldable pub stops : ℕ → Course P S H → Bool
  stops to c = stops_by to c.turn.steps (next_part c.state c.turn)

  -- a run to this number of steps stops at part k
  abbrev pub stops_at : (P → Functions S H) → Given P → (to k : ℕ) → Bool
  stops_at f g to k = stops to (run f g k)

  -- from part i a run to this number of steps goes on to part j: there it stops, and nowhere between
  abbrev pub GoesTo : (P → Functions S H) → Given P → (to i j : ℕ) → Type 0
  GoesTo f g to i j = GoesUntil (stops_at f g to) i j

  -- a Close led to part k: a turn is over there
  abbrev pub closed : (P → Functions S H) → Given P → (k : ℕ) → Bool
  closed f g zero = false
  closed f g (suc k) = is_close (next_part (run f g k).state (run f g k).turn)

  -- at part k a run to this number of steps stops, or a Close led there that was made from part i on
  abbrev pub stops_or_closed : (P → Functions S H) → Given P → (to i k : ℕ) → Bool
  stops_or_closed f g to i k = stops_at f g to k || (nat_lt i k && closed f g k)

  -- from part i a run to this number of steps goes on to part j, and no further than to the end of a turn
  abbrev pub TurnsTo : (P → Functions S H) → Given P → (to i j : ℕ) → Type 0
  TurnsTo f g to i j = GoesUntil (stops_or_closed f g to i) i j

  -- these marks are what a run tells from part i to part j
  abbrev pub IsBetween : (P → Functions S H) → Given P → (i j : ℕ) → List Mark → Type 0
  IsBetween f g i j marks = (run f g j).marks ≡ (run f g i).marks ++ marks
