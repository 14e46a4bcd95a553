-- What a wait made is there no longer than the wait, and what a thread has no longer than the thread: nothing of it stays behind,
-- however the thread ends.
use Rattle.std.specs.Prelude.{◌≡◌, ◌<◌, ℕ, ◌==◌, ◌&&◌, Bool, true, false, Option, Some, None, option_map}
use Rattle.std.specs.List.{list_any}
use Rattle.pth_numbered.specs.Operands.{number}
use Rattle.pth_cond.specs.declared.seats.Seat.TheVariants.{Await}
use Rattle.pth_cond.specs.Conditions.{has_seat}
use Rattle.pth_cond.specs.Barriers.{Arrived, Barrier, BarrierTable}
use Rattle.pth_lock.specs.Objects.{object_limit, object_named}
use Rattle.pth_lock.specs.Mutexes.{has}
use Rattle.pth_lock.specs.RwLocks.{holds}
use Rattle.pth_ring.specs.Rings.{is_claimed}
use Rattle.pth_model.specs.declared.awaits.Awaits.{Awaits}
use Rattle.pth_model.specs.declared.awaits.Awaits.TheVariants.{Round, Notice}
use Rattle.pth_model.specs.declared.blocked.Blocked.{Blocked}
use Rattle.pth_model.specs.Awaits.{awaits_in}
use Rattle.pth_model.specs.Changes.{blocked_of}
use Rattle.pth_model.specs.EventSeats.{event_seat, condition_in}
use Rattle.pth_model.specs.RingWaits.{claimant, ring_held}
use Rattle.pth_model.specs.State.{State}
use Rattle.pth_model.specs.Transition.{tid}
use Rattle.pth_laws.specs.Valid.{Lives}

-- the event that a call was given to wait for
abbrev pub event_held : Option Blocked → Option ℕ
event_held o = option_map number (ring_held o)

-- an arrival is that of this thread, for this round
abbrev pub is_of : (round t : ℕ) → Arrived → Bool
is_of round t a = a.round == round && a.tid == t

abbrev pub has_arrived_here : (round t : ℕ) → Option Barrier → Bool
has_arrived_here round t None = false
has_arrived_here round t (Some y) = list_any (is_of round t) y.arrivals

-- some arrival at a barrier is
abbrev pub has_arrived : BarrierTable → (b round t : ℕ) → Bool
has_arrived x b round t = has_arrived_here round t (x b)

-- the barrier, and its round, for which the blocked call waits
abbrev pub round_awaited : Awaits → Option (ℕ × ℕ)
round_awaited (Round b round) = Some (object_named b, round)
round_awaited a = None

abbrev pub round_held : Option Blocked → Option (ℕ × ℕ)
round_held o = round_awaited (awaits_in o)

-- the condition for whose notice the blocked call waits
abbrev pub condition_awaited : Awaits → Option ℕ
condition_awaited (Notice c) = Some (object_named c)
condition_awaited a = None

abbrev pub condition_held : Option Blocked → Option ℕ
condition_held o = condition_awaited (awaits_in o)

module _ {P S H : Type 0} (s : State P S H) where
  -- a claim on a ring is that of a thread that lives, for the event that the call was given which blocks it (pth_wait, pth_read_ev)
  abbrev pub AreClaimsOwned : Type 0
  AreClaimsOwned = (e t : ℕ) → claimant s.control.events e ≡ Some t → Lives s t × (event_held (blocked_of s.control t) ≡ Some e)

  -- an arrival that waits at a barrier is that of a thread that lives, whose call waits there for the round of this arrival
  -- (pth_barrier_reach)
  abbrev pub AreArrivalsOwned : Type 0
  AreArrivalsOwned = (b round t : ℕ) → has_arrived s.control.barriers b round t ≡ true → Lives s t × (round_held (blocked_of s.control t) ≡ Some (b, round))

  -- a thread that has a seat at a condition lives, and its call waits for the notice of this condition (pth_cond_await)
  abbrev pub AreSeatsOwned : Type 0
  AreSeatsOwned = (c t : ℕ) → has_seat s.control.conditions c (Await (tid t)) ≡ true → Lives s t × (condition_held (blocked_of s.control t) ≡ Some c)

  -- an event that has a seat at a condition is one of this condition, and some thread claims its ring (PTH_EVENT_COND)
  abbrev pub AreEventSeatsOwned : Type 0
  AreEventSeatsOwned = (c e : ℕ) → has_seat s.control.conditions c (event_seat e) ≡ true → (option_map object_named (condition_in (s.control.events.events e)) ≡ Some c) × (is_claimed s.control.events e ≡ true)

  pub record IsClean : Type 0 where
    pub claims : AreClaimsOwned
    -- a thread that has a mutex lives, and the mutex is one of 0 to 63 (pth_mutex_acquire)
    pub mutexes : (m t : ℕ) → has t (s.resources.store.mutexes m) ≡ true → Lives s t × (m < object_limit)
    -- and so does one that holds a lock, to write or to read (pth_rwlock_acquire)
    pub locks : (l t : ℕ) → holds s.resources.store.rw_locks t l ≡ true → Lives s t × (l < object_limit)
    pub arrivals : AreArrivalsOwned
    pub seats : AreSeatsOwned
    pub event_seats : AreEventSeatsOwned
