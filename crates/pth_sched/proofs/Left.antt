-- How far a run to a number of steps is from its end: each part but the last comes nearer.
use Rattle.std.specs.Prelude.{ℕ, ◌+◌, ◌*◌, ◌-◌, Option, Some, None}
use Rattle.pth_base.specs.declared.outcome.Outcome.{Outcome}
use Rattle.pth_base.specs.declared.outcome.Outcome.TheVariants as outcome
use Rattle.pth_base.specs.Limits.{last_moment}
use Rattle.pth_model.specs.State.{Turn}
use Rattle.pth_sched.specs.MachineOf.{MachineOf}

abbrev pub part_left : Option ℕ → Option ℕ → ℕ
part_left (Some t) r = 2
part_left None None = 1
part_left None (Some r) = 0

-- how far time is from the last moment: each move of idle time comes nearer
unfoldable pub time_left : ℕ → ℕ
time_left now = last_moment - now

abbrev pub left_while : (to steps part now : ℕ) → Outcome → ℕ
left_while to steps part now outcome.Running = 3 * (to - steps) + part + 1 + time_left now
left_while to steps part now o = 0

abbrev pub left_at : ℕ → Turn → (running : Option ℕ) → (now : ℕ) → ℕ
left_at to x running now = left_while to x.steps (part_left x.gave running) now x.outcome

abbrev pub left : {P S H : Type 0} → ℕ → MachineOf P S H → ℕ
left to m = left_at to m.turn m.world.scheduler.running m.world.kernel.now
