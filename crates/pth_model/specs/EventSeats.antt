-- The seats that events of conditions have there (PTH_EVENT_COND). Those of a ring enter their seats as it is claimed, in the order of
-- the ring from the event that was given on, and leave them as the claim is given back.
use Rattle.std.specs.Prelude.{ℕ, ℤ, List, [], ◌∷◌, Option, Some, None}
use Rattle.pth_base.specs.declared.event.EventSpec.{EventSpec}
use Rattle.pth_base.specs.declared.event.EventSpec.TheVariants as of
use Rattle.pth_ring.specs.declared.event.Event as event
use Rattle.pth_ring.specs.Rings.{Events, event_id}
use Rattle.pth_cond.specs.declared.seats.Seat.{Seat}
use Rattle.pth_cond.specs.declared.seats.Seat.TheVariants.{Event}
use Rattle.pth_cond.specs.Conditions.{ConditionTable}

-- the condition that an event is of, none if it is of something else
abbrev pub condition_of : EventSpec → Option ℤ
condition_of (of.Cond c) = Some c
condition_of spec = None

-- and none if there is no such event
abbrev pub condition_in : Option event.Event → Option ℤ
condition_in None = None
condition_in (Some v) = condition_of v.spec

-- the seat of an event
abbrev pub event_seat : ℕ → Seat
event_seat e = Event (event_id e)

-- what becomes of a seat at a condition: it is entered, left, or handed on
abbrev pub SeatChange : Type 0
SeatChange = ℤ → Seat → ConditionTable → ConditionTable

-- what becomes of an event's seat, if it is of a condition
abbrev pub seat_changed : SeatChange → ℕ → Option ℤ → ConditionTable → ConditionTable
seat_changed g e None y = y
seat_changed g e (Some c) y = g c (event_seat e) y

-- what becomes of the seats of these events, one after another
abbrev pub seats_changed : SeatChange → Events → List ℕ → ConditionTable → ConditionTable
seats_changed g x [] y = y
seats_changed g x (e ∷ es) y = seats_changed g x es (seat_changed g e (condition_in (x.events e)) y)
