-- What holds between two calls of the waits of threads, of every state and not only of those of runs: what a wait made is there as long
-- as the wait, and what is there a wait made.
use Rattle.std.specs.Prelude.{◌≡◌, ◌≤◌, ◌+◌, ℕ, ℤ, true, false, Some, is_some}
use Rattle.pth_base.specs.declared.call.Call.{Call}
use Rattle.pth_base.specs.declared.call.Call.TheVariants as call
use Rattle.pth_lock.specs.Mutexes.{levels_of, level_limit}
use Rattle.pth_model.specs.declared.awaits.Awaits.{Awaits}
use Rattle.pth_model.specs.declared.awaits.Awaits.TheVariants.{Round, Notice}
use Rattle.pth_model.specs.declared.blocked.Blocked.{Blocked}
use Rattle.pth_model.specs.Awaits.{awaits_in, is_await, is_awaiting, is_retaking}
use Rattle.pth_model.specs.Changes.{blocked_of}
use Rattle.pth_model.specs.Living.{lives, is_made}
use Rattle.pth_model.specs.State.{State}
use Rattle.pth_model.specs.ThreadControl.{to_join}
use Rattle.pth_laws.specs.Arrivals.{AllHaveArrived, NoneArrivedTwice}
use Rattle.pth_laws.specs.Clean.{AreClaimsOwned, AreArrivalsOwned, AreSeatsOwned, AreEventSeatsOwned}
use Rattle.pth_laws.specs.Rings.{AreRingsCircles, AreRingsHeld}
use Rattle.pth_laws.specs.Seats.{AllHaveSeats, NoneSeatedTwice}
use Rattle.pth_laws.specs.Valid.{Lives}
use Rattle.pth_laws.specs.Waits.{AllWaitRightly}

-- a round is awaited by a pth_barrier_reach of its barrier alone, and a notice by a pth_cond_await alone
abbrev pub AwaitsOwn : Call → Awaits → Type 0
AwaitsOwn c (Round b round) = c ≡ call.BarrierReach b
AwaitsOwn c (Notice d) = is_await c ≡ true
AwaitsOwn c a = Unit {0}

abbrev pub AllAwaitOwn : {P S H : Type 0} → State P S H → Type 0
AllAwaitOwn s = (t : ℕ) (b : Blocked) → blocked_of s.control t ≡ Some b → AwaitsOwn b.call b.awaits

-- no thread has more levels of a mutex than it may have (pth_mutex_acquire)
abbrev pub AreLevelsFew : {P S H : Type 0} → State P S H → Type 0
AreLevelsFew s = (t m : ℕ) → levels_of t (s.resources.store.mutexes m) ≤ level_limit

pub record AreWaitsConsistent {P S H : Type 0} (s : State P S H) : Type 0 where
  -- what blocks each thread: it waits for what its call names, and this is there
  pub own : AllAwaitOwn s
  pub rightly : AllWaitRightly s
  pub levels : AreLevelsFew s
  -- rings of events, and the claims on them: each blocked call that was given an event has its claim, and each claim is that of one
  pub circles : AreRingsCircles s
  pub held : AreRingsHeld s
  pub claims : AreClaimsOwned s
  -- seats at conditions: each wait for a notice has its seat, each seat is that of one, or of an event of a ring that is claimed, and
  -- none is taken twice
  pub seated : AllHaveSeats s
  pub seats : AreSeatsOwned s
  pub event_seats : AreEventSeatsOwned s
  pub single : NoneSeatedTwice s
  -- arrivals at barriers: each wait for a round has its arrival, each arrival is that of one, and no thread has two
  pub arrived : AllHaveArrived s
  pub arrivals : AreArrivalsOwned s
  pub once : NoneArrivedTwice s

-- What holds of a thread that may make a call: it was made, lives, and is somewhere in its program; whom it may join is dead, and who is
-- made next is not there yet; and the state says rightly whether it awaits a condition, as only a pth_cond_await does.
pub record IsCaller {P S H : Type 0} (s : State P S H) (t : ℕ) : Type 0 where
  pub made : is_made s.control.threads.made t ≡ true
  pub alive : Lives s t
  pub there : is_some (s.control.threads.progress t) ≡ true
  pub joins : (n : ℤ) (u : ℕ) → to_join s.control n ≡ Some u → lives (s.control.threads.known u) ≡ false
  pub next : lives (s.control.threads.known (s.control.threads.made + 1)) ≡ false
  pub awaits : s.resources.awaits t ≡ is_awaiting (blocked_of s.control t)
  pub retakes : is_retaking (awaits_in (blocked_of s.control t)) ≡ true → is_awaiting (blocked_of s.control t) ≡ true
