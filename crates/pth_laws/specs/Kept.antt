-- What a wait has until it is over: its claim on a ring, whose events are pending until the thread is woken, its arrival at a barrier, and
-- its seat at a condition.
use Rattle.std.specs.Prelude.{◌≡◌, ◌⊎◌, ℕ, true, Some, Contains, Ok}
use Rattle.pth_base.specs.declared.thread.ThreadState.TheVariants as state
use Rattle.pth_ring.specs.Ring.{ring_holds}
use Rattle.pth_ring.specs.Rings.{status_answer}
use Rattle.pth_ring.specs.declared.event.Status.TheVariants.{Pending}
use Rattle.pth_model.specs.Changes.{blocked_of, entry_of, or_nobody}
use Rattle.pth_model.specs.Pass.{waiting}
use Rattle.pth_model.specs.RingWaits.{awaited_events, claimant}
use Rattle.pth_model.specs.State.{State}
use Rattle.pth_laws.specs.Arrivals.{AllHaveArrived}
use Rattle.pth_laws.specs.Clean.{event_held}
use Rattle.pth_laws.specs.Seats.{AllHaveSeats}

-- a thread waits: it stands in the waiting queue, or its state is waiting, which a thread keeps while it is suspended
abbrev pub IsWaiting : {P S H : Type 0} → State P S H → ℕ → Type 0
IsWaiting s t = Contains (waiting s.control) t ⊎ ((or_nobody (entry_of s.control t)).state ≡ state.Waiting)

pub record IsWaitKept {P S H : Type 0} (s : State P S H) : Type 0 where
  -- who is blocked by a call that was given an event has the claim on its ring, unless the call takes its mutex back (pth_wait,
  -- pth_read_ev, pth_cond_await)
  pub claim : (t e : ℕ) → event_held (blocked_of s.control t) ≡ Some e → claimant s.control.events e ≡ Some t
  -- each event of the ring of a thread that waits is pending (pth_event_status)
  pub pending : (t e : ℕ) → IsWaiting s t → ring_holds e (awaited_events s.control t) ≡ true → status_answer s.control.events e ≡ Ok Pending
  -- who is blocked at a barrier has its arrival there (pth_barrier_reach)
  pub arrival : AllHaveArrived s
  -- who waits for the notice of a condition has its seat there (pth_cond_await)
  pub seat : AllHaveSeats s
