-- What a call leaves of a world beside what its row says.
use Rattle.std.specs.Prelude.{◌≡◌, ◌⊎◌, ℕ, Bool, true, false, Option, Some, None}
use Rattle.pth_model.specs.declared.next.Next.{Next}
use Rattle.pth_model.specs.declared.next.Next.TheVariants as next
use Rattle.pth_world.specs.World.{WorldOf}
use Rattle.pth_world.specs.WellFormed.{WellFormed, WaitsToRun}
use Rattle.pth_world.specs.Ranks.{KeepsRanks}
use Rattle.pth_world.specs.Numbering.{Numbers, GivesAtMost, Thread}

-- who is named: nobody else, or where control is given up, maybe a thread that waits to run
abbrev pub Names : {P S H : Type 0} → Bool → WorldOf P S H → WorldOf P S H → Type 0
Names false w v = v.scheduler.preferred ≡ w.scheduler.preferred
Names true w v = (v.scheduler.preferred ≡ w.scheduler.preferred) ⊎ ((u : ℕ) × (v.scheduler.preferred ≡ Some u) × WaitsToRun v.threads u)

-- From w to v: this thread runs, if any; at most so many numbers of each kind were given, and at most as many threads more are new as
-- numbers of threads. No ready thread is lifted above the others, and who is named is told by whether control is given up.
pub record Frame {P S H : Type 0} (w v : WorldOf P S H) (n : Numbers) (running : Option ℕ) (yields : Bool) : Type 0 where
  pub whole : WellFormed v
  pub runs : v.scheduler.running ≡ running
  pub made : GivesAtMost n w v
  pub ranks : KeepsRanks (n Thread) w.threads v.threads
  pub preferred : Names yields w v

-- whether control is given up with an answer: to a thread, or to nobody in particular (pth_yield)
abbrev pub yields_after : Next → Bool
yields_after (next.Done a) = false
yields_after (next.Yields a) = true
yields_after next.Blocks = false
yields_after (next.Ended v) = false
yields_after next.Killed = false

-- who runs after a call of thread t: t, unless it ended
abbrev pub runs_after : ℕ → Next → Option ℕ
runs_after t (next.Done a) = Some t
runs_after t (next.Yields a) = Some t
runs_after t next.Blocks = Some t
runs_after t (next.Ended v) = None
runs_after t next.Killed = Some t
