-- How a machine goes to the place that a snapshot names.
use Rattle.std.specs.Prelude.{◌≡◌, ◌⊎◌, ℕ, Bool, List, Option, Some, None, Ok}
use Rattle.pth_base.specs.Program.{Functions}
use Rattle.pth_base.specs.declared.outcome.Outcome.{Outcome}
use Rattle.pth_base.specs.declared.outcome.Outcome.TheVariants.{Running, OutOfMemory}
use Rattle.pth_model.specs.Run.{run, GoesUntil}
use Rattle.pth_model.specs.State.{Given}
use Rattle.pth_sched.specs.MachineOf.{MachineOf}
use Rattle.pth_sched.specs.Running.{StandsAt}
use Rattle.pth_snapshot.specs.Place.{OpensAt, LeadsTo, IsPlace, EndsBefore, IsNotClosed, named_place}
use Rattle.pth_snapshot.specs.declared.place.Place.{Place}

module _ {P S H : Type 0} (f : P → Functions S H) (g : Given P) where
  -- from part i the machine went to the first part that halts
  abbrev pub ComesTo : (halts : ℕ → Bool) (i : ℕ) → MachineOf P S H → Type 0
  ComesTo halts i m = (j : ℕ) × GoesUntil halts i j × StandsAt f g j m

  -- the machine went to where a turn is closed behind so many steps
  abbrev pub IsOpened : (steps : ℕ) → MachineOf P S H → Type 0
  IsOpened steps m = (k : ℕ) × OpensAt f g steps k × StandsAt f g k m

  -- part j has this outcome, and if the run goes on there the machine stands there
  pub record Arrives (j : ℕ) (o : Outcome) (m : MachineOf P S H) : Type 0 where
    pub outcome : (run f g j).turn.outcome ≡ o
    pub stands : o ≡ Running → StandsAt f g j m

  -- the machine arrived where the way to a place leads
  abbrev pub IsLed : Place → Outcome → MachineOf P S H → Type 0
  IsLed p o m = (i : ℕ) × LeadsTo f g p i × Arrives i o m

  -- The machine stands at the place, without a line to refuse; or the run ends before it, or no Close follows its step at once, with the
  -- line that says so.
  abbrev pub IsPlaced : Place → Option ℕ → MachineOf P S H → Type 0
  IsPlaced p None m = (i : ℕ) × IsPlace f g p i × StandsAt f g i m
  IsPlaced p (Some line) m = ((line ≡ 2) × EndsBefore f g p) ⊎ ((line ≡ 3) × IsNotClosed f g p)

  -- memory ended on the way to the place that a text names, or as the machine stood there
  pub record IsBrokenOff (snap : List ℕ) (m : MachineOf P S H) : Type 0 where
    pub place : Place
    pub named : named_place snap ≡ Ok place
    pub there : (m.turn.outcome ≡ OutOfMemory) ⊎ IsPlaced place None m
