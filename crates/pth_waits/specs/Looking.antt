-- An event is looked at, as the code does it.
use Rattle.std.specs.Prelude.{◌≡◌, ℕ, ℤ, Bool, Option, Some, None}
use Rattle.pth_base.specs.Program.{Functions}
use Rattle.pth_base.specs.declared.event.EventSpec.{EventSpec}
use Rattle.pth_base.specs.declared.event.EventSpec.TheVariants.{Func}
use Rattle.pth_ring.specs.declared.event.Event.{Event}
use Rattle.pth_numbered.specs.Numbered.{number_at}
use Rattle.pth_ring.specs.Arena.{RingsOf, events_of}
use Rattle.pth_ring.specs.Rings.{Events, with_event}
use Rattle.pth_model.specs.Looks.{comes, looked_at}
use Rattle.pth_model.specs.State.{State}

-- an event is of a function, and is looked at next at a moment
abbrev pub IsFunction : (next : ℕ) (check arg : ℤ) (interval : ℕ) → Option Event → Type 0
IsFunction next check arg interval None = ⊥
IsFunction next check arg interval (Some v) = (v.spec ≡ Func check arg interval) × (v.next_look ≡ next)

-- an event is of no function, so that no check is asked
abbrev pub AsksNothing : EventSpec → Type 0
AsksNothing (Func check arg interval) = ⊥
AsksNothing spec = Unit {0}

abbrev pub IsUnasked : Option Event → Type 0
IsUnasked None = ⊥
IsUnasked (Some v) = AsksNothing v.spec

-- from old to new: event n was looked at; come: it is not pending then
pub record LooksAt {P S H : Type 0} (f : P → Functions S H) (s : State P S H) (n : ℕ) (old new : Events) (come : Bool) : Type 0 where
  pub looked : new ≡ with_event (looked_at f s n) n old
  pub comes : come ≡ comes f s n (old.events n)

-- the same events stand in the same rings, at the same places
pub record KeepsRings (old new : RingsOf) : Type 0 where
  pub rings : (events_of new).rings ≡ (events_of old).rings
  pub places : number_at new ≡ number_at old
  pub made : new.made ≡ old.made
