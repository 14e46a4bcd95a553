-- How a machine follows a run.
use Rattle.std.specs.Prelude.{◌≡◌, ◌≢◌, ◌+◌, ◌≤◌, ◌++◌, ℕ, Bool, false, List, None, IsSome}
use Rattle.pth_base.specs.Limits.{most_steps}
use Rattle.pth_base.specs.Program.{Functions}
use Rattle.pth_base.specs.declared.mark.Mark.{Mark}
use Rattle.pth_base.specs.declared.outcome.Outcome.TheVariants.{Running, OutOfMemory}
use Rattle.pth_model.specs.State.{Given}
use Rattle.pth_model.specs.Course.{Course}
use Rattle.pth_model.specs.Run.{run, GoesUntil, stops_at, stops_or_closed, IsBetween}
use Rattle.pth_laws.specs.RunLaws.{MeetsMarkLaws, MeetsRunLaws}
use Rattle.pth_world.specs.Shows.{StandsFor}
use Rattle.pth_base.specs.Cut.{IsCut}
use Rattle.pth_sched.specs.MachineOf.{MachineOf, IsGoing, HasUpperBound}

-- The machine stands where a course is: its world stands for the state, it is in the same turn, and memory has not ended.
-- So its ready queue is the order of the state's standings, with their ranks.
pub record Stands {P S H : Type 0} (m : MachineOf P S H) (c : Course P S H) : Type 0 where
  pub world : StandsFor m.world c.state
  pub turn : c.turn ≡ m.turn
  pub memory : m.turn.outcome ≢ OutOfMemory

-- What a piece of a run did: the machine stands where the piece leads, and what is told was appended.
pub record Makes {P S H : Type 0} (m : MachineOf P S H) (old new : List Mark) (c : Course P S H) : Type 0 where
  pub stands : Stands m c
  pub tells : new ≡ old ++ c.marks

-- the machine stands on the run of what is given, at part i
abbrev pub StandsAt : {P S H : Type 0} → (P → Functions S H) → Given P → ℕ → MachineOf P S H → Type 0
StandsAt f g i m = Stands m (run f g i)

-- the machine made part i of the run: it stands at the next one, and what the run tells between was appended
pub record MakesPart {P S H : Type 0} (f : P → Functions S H) (g : Given P) (i : ℕ) (m : MachineOf P S H) (old new : List Mark) : Type 0 where
  pub stands : StandsAt f g (i + 1) m
  pub told : List Mark
  pub between : IsBetween f g i (i + 1) told
  pub appended : new ≡ old ++ told

-- From part i on the machine followed the run to the first part that halts: it stands there, and what the run tells between
-- was appended.
pub record FollowsUntil {P S H : Type 0} (f : P → Functions S H) (g : Given P) (halts : ℕ → Bool) (i : ℕ) (m : MachineOf P S H) (old new : List Mark) : Type 0 where
  pub part : ℕ
  pub goes : GoesUntil halts i part
  pub stands : StandsAt f g part m
  pub told : List Mark
  pub between : IsBetween f g i part told
  pub appended : new ≡ old ++ told

-- Memory ended in a part from part i on: neither that part nor one before it halts. What the run tells up to it was appended,
-- and a beginning of what the part tells.
pub record BreaksOffBefore {P S H : Type 0} (f : P → Functions S H) (g : Given P) (halts : ℕ → Bool) (i : ℕ) (old new : List Mark) : Type 0 where
  pub part : ℕ
  pub later : i ≤ part
  pub going : (k : ℕ) → i ≤ k → k ≤ part → halts k ≡ false
  pub told : List Mark
  pub between : IsBetween f g i part told
  pub rest : List Mark
  pub within : IsBetween f g part (part + 1) rest
  pub cut : IsCut (old ++ told) new rest

module _ {P S H : Type 0} (f : P → Functions S H) (g : Given P) (to i : ℕ) where
  -- the run to a number of steps goes on to where it stops, or breaks off before
  abbrev pub GoesOn : MachineOf P S H → (old new : List Mark) → Type 0
  GoesOn m old new = FollowsUntil f g (stops_at f g to) i m old new

  abbrev pub BreaksOff : (old new : List Mark) → Type 0
  BreaksOff old new = BreaksOffBefore f g (stops_at f g to) i old new

  -- and so does one turn of it: no further than to the first Close that is made
  abbrev pub TurnGoesOn : MachineOf P S H → (old new : List Mark) → Type 0
  TurnGoesOn m old new = FollowsUntil f g (stops_or_closed f g to i) i m old new

  abbrev pub TurnBreaksOff : (old new : List Mark) → Type 0
  TurnBreaksOff old new = BreaksOffBefore f g (stops_or_closed f g to i) i old new

-- ---- the laws of runs

-- The machine stands on the run of what is given, these are all the marks that the run has told so far, and the run meets its laws
-- there: the marks are in time, orderly, exclusive, initialised and in order, and the state fits them, is clean, and has what its
-- waits have. A run that a pth_kill ended meets the laws of marks, and its waits have what they have.
pub record StandsLawfully {P S H : Type 0} (f : P → Functions S H) (g : Given P) (m : MachineOf P S H) (marks : List Mark) : Type 0 where
  pub part : ℕ
  pub stands : StandsAt f g part m
  pub told : marks ≡ (run f g part).marks
  pub laws : MeetsRunLaws (run f g part)

-- what holds after a call that drove the machine on the run, of all the marks that were told of the run so far
pub record HasKeptLaws {P S H : Type 0} (f : P → Functions S H) (g : Given P) (m : MachineOf P S H) (marks : List Mark) : Type 0 where
  -- they meet the laws of marks, also if memory ended
  pub laws : MeetsMarkLaws marks
  -- and are a beginning of what the run tells up to some part
  pub part : ℕ
  pub rest : List Mark
  pub beginning : marks ++ rest ≡ (run f g part).marks
  -- as long as memory lasts the machine stands on the run, and the run meets its laws there
  pub stands : m.turn.outcome ≢ OutOfMemory → StandsLawfully f g m marks

-- A call that drives a machine from m to v keeps the laws: if the machine stood on a run of which these marks were told before and
-- then those of `old`, it has kept them after the call. The marks before are those that the caller took out of the list meanwhile.
abbrev pub KeepsLaws : {P S H : Type 0} → (P → Functions S H) → (m v : MachineOf P S H) → (old new : List Mark) → Type 0
KeepsLaws {P = P} f m v old new =
    (g : Given P) (i : ℕ) (before : List Mark) → StandsAt f g i m → before ++ old ≡ (run f g i).marks → HasKeptLaws f g v (before ++ new)

-- the part that comes next is a step
pub record IsAtStep {P S H : Type 0} (m : MachineOf P S H) : Type 0 where
  pub goes : m.turn.outcome ≡ Running
  pub gave : m.turn.gave ≡ None
  pub runs : IsSome m.world.scheduler.running

-- the run goes on, and no turn is open: no thread runs, and none gave up control
pub record IsBetweenTurns {P S H : Type 0} (m : MachineOf P S H) : Type 0 where
  pub goes : m.turn.outcome ≡ Running
  pub gave : m.turn.gave ≡ None
  pub nobody : m.world.scheduler.running ≡ None

-- what holds of a machine between two parts
pub record Keeps {P S H : Type 0} (m : MachineOf P S H) : Type 0 where
  pub going : IsGoing m
  pub ranks : HasUpperBound m

-- what holds of it between two calls: no more steps were made than a machine makes, and as long as the run goes on, nobody has
-- given up control where nobody runs
pub record Rests {P S H : Type 0} (m : MachineOf P S H) : Type 0 where
  pub keeps : Keeps m
  pub few : m.turn.steps ≤ most_steps
  pub closed : m.turn.outcome ≡ Running → m.world.scheduler.running ≡ None → m.turn.gave ≡ None
