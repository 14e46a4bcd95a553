-- Events at places, found by their numbers.
use Rattle.std.specs.Prelude.{◌≡◌, ℕ, ◌+◌, List, [], map, Option, None, option_map}
use Rattle.pth_base.specs.Table.{put}
use Rattle.pth_base.specs.Naming.{by_slot, seen}
use Rattle.pth_base.specs.declared.event.EventSpec.{EventSpec}
use Rattle.pth_numbered.specs.Numbered.{NumberedOf, IsKept, thing_at, number_at, slot_of}
use Rattle.pth_ring.specs.declared.event.Event.{Event}
use Rattle.pth_ring.specs.declared.node.Node.{Node}
use Rattle.pth_ring.specs.Links.{next_place, event_at, id_at, ring, IsLinked, IsNumbered}
use Rattle.pth_ring.specs.Rings.{Events, event_limit, alone, chained, freed}

-- the nodes by place, with the numbers of their events
abbrev pub RingsOf : Type 0
RingsOf = NumberedOf Node

-- rings of places, seen by number
unfoldable pub rings_by_number : (ℕ → Option ℕ) → (ℕ → ℕ) → (ℕ → List ℕ) → ℕ → List ℕ
rings_by_number slots numbers rings n = map numbers (by_slot [] rings (slots n))

unfoldable pub ring_of : RingsOf → ℕ → List ℕ
ring_of x = rings_by_number (slot_of x) (number_at x) (ring (thing_at x))

unfoldable pub event_of : RingsOf → ℕ → Option Event
event_of x = seen None (slot_of x) (event_at (thing_at x))

-- the events by their numbers
abbrev pub events_of : RingsOf → Events
events_of x = record { rings = ring_of x; events = event_of x; made = x.made }

-- what holds of the nodes at every moment
pub record AreLinked (x : RingsOf) : Type 0 where
  pub kept : IsKept x
  pub limit : x.limit ≡ event_limit
  -- each node has the number of its event
  pub named : id_at (thing_at x) ≡ number_at x
  pub linked : IsLinked (thing_at x)
  pub numbered : IsNumbered (thing_at x)

-- the same numbers at the same places
pub record SamePlaces (old new : RingsOf) : Type 0 where
  pub slots : slot_of new ≡ slot_of old
  pub numbers : number_at new ≡ number_at old
  pub ids : id_at (thing_at new) ≡ id_at (thing_at old)
  pub made : new.made ≡ old.made
  pub limit : new.limit ≡ old.limit
  pub kept : IsKept old → IsKept new

-- at the same places, the events are now these
pub record Becomes (old new : RingsOf) (now : Events) : Type 0 where
  pub kept : AreLinked new
  pub numbers : number_at new ≡ number_at old
  pub slots : slot_of new ≡ slot_of old
  pub events : events_of new ≡ now

-- one more event, alone at a place that was not in use
pub record IsMade (old new : RingsOf) (u : ℕ) (spec : EventSpec) : Type 0 where
  pub kept : AreLinked new
  pub unused : number_at old u ≡ 0
  pub numbers : number_at new ≡ put (number_at old) u (old.made + 1)
  pub events : events_of new ≡ alone spec (events_of old)

-- an event is gone from its place
pub record IsFreed (old new : RingsOf) (u : ℕ) : Type 0 where
  pub kept : AreLinked new
  pub numbers : number_at new ≡ put (number_at old) u 0
  pub events : events_of new ≡ freed (number_at old u) (events_of old)

-- one more event, just before the event with number n
pub record IsChained (old new : RingsOf) (spec : EventSpec) (n : ℕ) : Type 0 where
  pub kept : AreLinked new
  pub events : events_of new ≡ chained spec n (events_of old)

-- an event that stood alone is gone from its place
pub record IsDropped (old new : RingsOf) (u : ℕ) : Type 0 where
  pub kept : AreLinked new
  pub numbers : number_at new ≡ put (number_at old) u 0
  pub rings : ring_of new ≡ put (ring_of old) (number_at old u) []
  pub events : event_of new ≡ put (event_of old) (number_at old u) None
  pub made : new.made ≡ old.made

-- what is kept of the event at a place is changed, and no link
pub record Remakes (old new : RingsOf) (u : ℕ) (g : Event → Event) : Type 0 where
  pub kept : AreLinked new
  pub places : SamePlaces old new
  pub next : next_place (thing_at new) ≡ next_place (thing_at old)
  pub rings : ring (thing_at new) ≡ ring (thing_at old)
  pub event : event_at (thing_at new) ≡ put (event_at (thing_at old)) u (option_map g (event_at (thing_at old) u))
