-- Arrivals that wait at barriers, and who waits there (pth_barrier_reach).
use Rattle.std.specs.Prelude.{◌≡◌, ◌<◌, ◌≤◌, ◌==◌, ℕ, ℤ, true, Option, Some, None, count_by}
use Rattle.pth_lock.specs.Objects.{object_named}
use Rattle.pth_cond.specs.Barriers.{Barrier}
use Rattle.pth_model.specs.declared.awaits.Awaits.TheVariants.{Round}
use Rattle.pth_model.specs.Awaits.{awaits_in}
use Rattle.pth_model.specs.Changes.{blocked_of}
use Rattle.pth_model.specs.State.{State}
use Rattle.pth_laws.specs.Clean.{has_arrived}

-- who is blocked at a barrier has its arrival there, for the round that it awaits
abbrev pub AllHaveArrived : {P S H : Type 0} → State P S H → Type 0
AllHaveArrived s = (t round : ℕ) (b : ℤ) → awaits_in (blocked_of s.control t) ≡ Round b round → has_arrived s.control.barriers (object_named b) round t ≡ true

-- how many arrivals at a barrier are a thread's: none where it is not initialised
abbrev pub arrivals_of : ℕ → Option Barrier → ℕ
arrivals_of t None = 0
arrivals_of t (Some y) = count_by (λ a. a.tid == t) y.arrivals

-- no thread has two arrivals at a barrier
abbrev pub NoneArrivedTwice : {P S H : Type 0} → State P S H → Type 0
NoneArrivedTwice s = (b t : ℕ) → arrivals_of t (s.control.barriers b) ≤ 1

-- and none has arrivals at two barriers
abbrev pub AllArrivedAtOne : {P S H : Type 0} → State P S H → Type 0
AllArrivedAtOne s = (b d t : ℕ) → 0 < arrivals_of t (s.control.barriers b) → 0 < arrivals_of t (s.control.barriers d) → b ≡ d
