-- What contracts see of a machine, and what holds of it between two parts of a run.
use Rattle.std.specs.Prelude.{◌≡◌, ◌≤◌, ◌+◌, nat_le, ℕ, Bool, true, false, Option, Some, None, IsSome, IfSome, length}
use Rattle.pth_base.specs.declared.outcome.Outcome.{Outcome}
use Rattle.pth_base.specs.declared.outcome.Outcome.TheVariants as outcome
use Rattle.pth_model.specs.State.{Turn}
use Rattle.pth_world.specs.World.{WorldOf}
use Rattle.pth_world.specs.Numbering.{HasGiven}
use Rattle.pth_world.specs.WellFormed.{WellFormed, WaitsToRun}
use Rattle.pth_world.specs.Ranks.{IsUnder, greatest_return}

-- a world with the turn that it is in
pub record MachineOf (P S H : Type 0) : Type 0 where
  pub world : WorldOf P S H
  pub turn : Turn

-- each step gives at most one number of each kind, and each turn but the last has at least one step
pub record IsGoing {P S H : Type 0} (m : MachineOf P S H) : Type 0 where
  pub whole : WellFormed m.world
  -- who was named by a yield waits to run
  pub preferred : IfSome m.world.scheduler.preferred (λ u. WaitsToRun m.world.threads u)
  -- while a thread runs and has not given up control, nobody is named
  pub unnamed : m.turn.gave ≡ None → IsSome m.world.scheduler.running → m.world.scheduler.preferred ≡ None
  pub made : HasGiven (m.turn.steps + 1) m.world
  pub turns : m.turn.turns ≤ m.turn.steps + 1
  pub over : IfSome m.turn.gave (λ t. m.turn.turns ≤ m.turn.steps)
  -- nobody runs but the thread that gave up control
  pub own : IfSome m.turn.gave (λ t. IfSome m.world.scheduler.running (λ r. r ≡ t))
  pub between : m.world.scheduler.running ≡ None → m.turn.turns ≤ m.turn.steps

-- whether a turn has begun and is not over
abbrev pub open_by : Option ℕ → Option ℕ → ℕ
open_by None None = 0
open_by g r = 1

-- No rank of the ready queue is above a bound. A turn that is over lifts it by one, and so does each new thread that becomes
-- ready: so it is bounded by the turns that began and the steps that were made.
pub record HasUpperBound {P S H : Type 0} (m : MachineOf P S H) : Type 0 where
  pub bound : ℕ
  pub low : greatest_return ≤ bound
  pub under : IsUnder bound m.world.threads.queues.ready
  pub few : bound + length m.world.threads.queues.new + open_by m.turn.gave m.world.scheduler.running ≤ greatest_return + m.turn.steps + m.turn.turns

-- whether a run to this number of steps goes no further: a next step would begin, or an outcome ended it
abbrev pub machine_stops_by : ℕ → ℕ → Option ℕ → Option ℕ → Outcome → Bool
machine_stops_by to steps None (Some r) outcome.Running = nat_le to steps
machine_stops_by to steps g r outcome.Running = false
machine_stops_by to steps g r o = true

abbrev pub machine_stops : {P S H : Type 0} → ℕ → MachineOf P S H → Bool
machine_stops to m = machine_stops_by to m.turn.steps m.turn.gave m.world.scheduler.running m.turn.outcome
