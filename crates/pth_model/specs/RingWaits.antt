-- The rings of events for which threads wait. A call that was given an event claims its ring as it blocks its thread, and the
-- claim stands at that event until the call is answered, its thread ends, or a wait at a condition is over and its mutex is to be taken
-- back.
--
-- An event is settled if the last look found it not pending, and a ring has settled if one of its events is (`has_settled`). An
-- event comes if a look would find it so now (`comes`), and comes for the thread that waits for its ring (`comes_for`).
--
-- `unless_settled` interrupts every call with a ring in one place. `wait` never reaches it, and a wait at a condition has its own
-- path.
use Rattle.std.specs.Prelude.{ℕ, ℤ, List, [], Option, Some, None, option_map, nat_lt, not, Bool, false, if◌then◌else◌}
use Rattle.pth_base.specs.declared.ids.Tid.{Tid}
use Rattle.pth_base.specs.declared.call.Call.{Call}
use Rattle.pth_base.specs.declared.call.Call.TheVariants as call
use Rattle.pth_numbered.specs.Operands.{number, is_zero}
use Rattle.pth_ring.specs.declared.event.Event.{Event}
use Rattle.pth_ring.specs.Rings.{Events, claimed, with_event, with_claim, settled_in, is_event, is_claimed}
use Rattle.pth_cond.specs.Conditions.{seat_entered, seat_left}
use Rattle.pth_model.specs.declared.awaits.Awaited.{Awaited}
use Rattle.pth_model.specs.declared.blocked.Blocked.{Blocked}
use Rattle.pth_model.specs.Awaits.{awaits_in, is_retaking}
use Rattle.pth_model.specs.State.{State, Control, now_of}
use Rattle.pth_model.specs.Transition.{Change, nothing, tid, ◌and◌}
use Rattle.pth_model.specs.Changes.{with_conditions, with_events, is_blocked_by, blocked_of}
use Rattle.pth_model.specs.EventSeats.{SeatChange, seats_changed}

-- the ring that a call was given beside what else it waits for: 0 is none
abbrev pub extra_ring : ℤ → Option ℤ
extra_ring e = if is_zero e then None else Some e

-- the ring that a call was given, by one of its events
abbrev pub ring_given : Call → Option ℤ
ring_given (call.Wait e) = Some e
ring_given (call.ReadEv f n e) = extra_ring e
ring_given (call.WriteEv f bytes e) = extra_ring e
ring_given (call.AcceptEv f e) = extra_ring e
ring_given (call.ConnectEv f e) = extra_ring e
ring_given (call.SelectEv r w x l e) = extra_ring e
ring_given (call.MutexAcquire m v e) = extra_ring e
ring_given (call.RwAcquire l write v e) = extra_ring e
ring_given (call.CondAwait c m e) = extra_ring e
ring_given c = None

-- the ring that the blocked call was given, and claims: a wait at a condition that is over claims none any more
abbrev pub ring_held : Option Blocked → Option ℤ
ring_held None = None
ring_held (Some b) = if is_retaking b.awaits then None else ring_given b.call

-- what a thread waits for, and the ring of events beside it
abbrev pub awaited_in : Option Blocked → Awaited
awaited_in o = record { what = awaits_in o; ring = ring_held o }

-- the events of a ring, from the event that was given on
abbrev pub events_from : Events → Option ℤ → List ℕ
events_from x None = []
events_from x (Some e) = x.rings (number e)

-- the thread whose claim stands at an event
abbrev pub claimant_by : Option Event → Option ℕ
claimant_by None = None
claimant_by (Some v) = option_map (λ (t : Tid). t.0) v.claim

abbrev pub claimant : Events → ℕ → Option ℕ
claimant x e = claimant_by (x.events e)

-- one of the events of a ring is settled
abbrev pub has_settled : Events → Option ℤ → Bool
has_settled x None = false
has_settled x (Some e) = nat_lt 0 (settled_in x (number e))

module _ {P S H : Type 0} where
  -- the events of the ring for which t waits
  abbrev pub awaited_events : Control P S H → ℕ → List ℕ
  awaited_events k t = events_from k.events (ring_held (blocked_of k t))

  -- what becomes of the seats that the events of a ring have at conditions
  abbrev pub ring_seats : SeatChange → Option ℤ → Change P S H
  ring_seats g r k = with_conditions (seats_changed g k.events (events_from k.events r)) k

  -- t waits for the ring of an event: its events are pending, and are looked at from now on, and those of conditions enter their seats
  unfoldable pub claims : ℕ → Option ℤ → Change P S H
  claims t None = nothing
  claims t (Some e) = λ k. (with_events (claimed (number e) (tid t) (now_of k)) and ring_seats seat_entered (Some e)) k

  -- the claim that stands at an event is given back, and the seats of the ring's events are left
  unfoldable pub gives_back : Option ℤ → Change P S H
  gives_back None = nothing
  gives_back (Some e) = ring_seats seat_left (Some e) and with_events (with_event (with_claim None) (number e))

  -- no call blocks t any longer, and the claim of the blocked call is given back: the call is answered (`answers`), or t ends
  -- (`undoes_wait`)
  unfoldable pub stops_waiting : ℕ → Change P S H
  stops_waiting t k = (is_blocked_by t None and gives_back (ring_held (blocked_of k t))) k

module _ {P S H : Type 0} (s : State P S H) where
  -- a call was given a ring that is none, or that is claimed
  abbrev pub is_no_ring : Option ℤ → Bool
  is_no_ring None = false
  is_no_ring (Some e) = not (is_event s.control.events (number e))

  abbrev pub is_claimed_ring : Option ℤ → Bool
  is_claimed_ring None = false
  is_claimed_ring (Some e) = is_claimed s.control.events (number e)
