-- What the scheduler makes of events: as it looks at those for which threads wait, and as a call takes an event ring and gives it back.
--
-- A ring is named by the event that its call was given, and read from that event on.
use Rattle.std.specs.Prelude.{◌≡◌, ◌≤◌, ◌==◌, ℕ, ℤ, Bool, true, false, not, List, [], ◌∷◌, map, filter, count_by, Option, Some, None}
use Rattle.std.specs.List.{list_any}
use Rattle.pth_base.specs.Program.{Functions}
use Rattle.pth_base.specs.declared.event.EventSpec.{EventSpec}
use Rattle.pth_base.specs.declared.event.EventSpec.TheVariants as of
use Rattle.pth_numbered.specs.Operands.{number, handler_of}
use Rattle.pth_ring.specs.Ring.{ring_holds}
use Rattle.pth_ring.specs.declared.event.Event.{Event}
use Rattle.pth_ring.specs.declared.event.Status.TheVariants.{Pending, Occurred, Failed}
use Rattle.pth_cond.specs.Seats.{is_at, handed_on}
use Rattle.pth_cond.specs.declared.seats.SeatMark.TheVariants.{Unmarked}
use Rattle.pth_cond.specs.declared.seats.Seat.{Seat}
use Rattle.pth_cond.specs.declared.seats.Taken.{Taken}
use Rattle.pth_lock.specs.Objects.{object_named}
use Rattle.pth_model.specs.Awaits.{is_retaking}
use Rattle.pth_model.specs.Changes.{blocked_of}
use Rattle.pth_model.specs.EventSeats.{event_seat}
use Rattle.pth_model.specs.Pass.{pass, waiting}
use Rattle.pth_model.specs.RingWaits.{awaited_events, ring_given}
use Rattle.pth_model.specs.State.{State, Control}
use Rattle.pth_model.specs.declared.blocked.Blocked.{Blocked}

-- ---- what a look finds of an event

-- it has failed (PTH_STATUS_FAILED)
abbrev pub failed : Event → Event
failed x = record x { status = Failed }

-- it has occurred (PTH_STATUS_OCCURRED)
abbrev pub occurred : Event → Event
occurred x = record x { status = Occurred }

-- it is pending (PTH_STATUS_PENDING)
abbrev pub pending : Event → Event
pending x = record x { status = Pending }

-- it is pending, and its check is not called before this moment
abbrev pub pending_until : ℕ → Event → Event
pending_until moment x = record x { status = Pending; next_look = moment }

-- ---- seats at conditions

-- an event waits for the condition with this number
abbrev pub is_of_condition : ℕ → EventSpec → Bool
is_of_condition c (of.Cond d) = c == object_named d
is_of_condition c spec = false

abbrev pub waits_for_condition : ℕ → Option Event → Bool
waits_for_condition c None = false
waits_for_condition c (Some x) = is_of_condition c x.spec

-- the seat of an event as it is entered: it is not notified
abbrev pub new_seat : ℕ → Taken
new_seat e = record { seat = event_seat e; mark = Unmarked }

-- those of these events, in this order
abbrev pub entered_by : List ℕ → List Taken
entered_by es = map new_seat es

-- the seats but those of these events
abbrev pub but_those_of : List ℕ → List Taken → List Taken
but_those_of es seats = filter (λ x. not (list_any (λ e. is_at (event_seat e) x) es)) seats

-- the seats once these events have handed theirs on, one after another
abbrev pub handed_on_by : List ℕ → List Taken → List Taken
handed_on_by [] seats = seats
handed_on_by (e ∷ es) seats = handed_on_by es (handed_on (event_seat e) seats)

-- no seat is taken twice
abbrev pub NoneTwice : List Taken → Type 0
NoneTwice seats = (u : Seat) → count_by (is_at u) seats ≤ 1

module _ {P S H : Type 0} where
  -- an event by its number
  abbrev pub event : State P S H → ℕ → Option Event
  event s e = s.control.events.events e

  -- event e stands in the ring of r
  abbrev pub is_in_ring : State P S H → ℤ → ℕ → Bool
  is_in_ring s r e = ring_holds e (s.control.events.rings (number r))

  -- event e stands in a ring for which a thread waits, one that is not suspended
  abbrev pub is_awaited : State P S H → ℕ → Bool
  is_awaited s e = list_any (λ t. ring_holds e (awaited_events s.control t)) (waiting s.control)

  -- the events of the ring of r that wait for condition c, in the order of the ring
  abbrev pub events_at : State P S H → ℤ → ℕ → List ℕ
  events_at s r c = filter (λ e. waits_for_condition c (event s e)) (s.control.events.rings (number r))

  -- from k to l only seats at conditions change
  abbrev pub OnlySeatsChange : Control P S H → Control P S H → Type 0
  OnlySeatsChange k l = record l { conditions = k.conditions } ≡ k

  -- from k to l only events change, with their rings as they are, and seats at conditions
  abbrev pub OnlyEventsAndSeatsChange : Control P S H → Control P S H → Type 0
  OnlyEventsAndSeatsChange k l =
      record l { events = record l.events { events = k.events.events }; conditions = k.conditions } ≡ k

  -- a call of t waits for the ring of r; a call whose wait at a condition is over, and that only reacquires its mutex, waits for none
  pub record HasRing (s : State P S H) (t : ℕ) (r : ℤ) : Type 0 where
    pub blocked : Blocked
    pub blocks : blocked_of s.control t ≡ Some blocked
    pub waits : is_retaking blocked.awaits ≡ false
    pub given : ring_given blocked.call ≡ Some r

module _ {P S H : Type 0} (f : P → Functions S H) where
  -- the check function of an event, with its argument, returns TRUE
  abbrev pub check_holds : State P S H → (check arg : ℤ) → Bool
  check_holds s check arg = (f s.control.program).check (handler_of check) arg s.control.shared

  -- the state after the scheduler's pass over the waiting threads
  abbrev pub after_pass : State P S H → State P S H
  after_pass s = (pass f s).state

  -- the pass finds this of event e, for which a thread waits
  abbrev pub Finds : State P S H → ℕ → Event → (Event → Event) → Type 0
  Finds s e x found = event s e ≡ Some x → is_awaited s e ≡ true → event (after_pass s) e ≡ Some (found x)
