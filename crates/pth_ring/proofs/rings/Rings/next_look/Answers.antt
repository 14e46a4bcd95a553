use Rattle.std.proofs.Common.{option_map, ◌∙◌, ap}
use Rattle.pth_ring.specs.declared.event.Event.{Event}
use Rattle.pth_ring.proofs.Shown.{event-at}
use Rattle.pth_ring.proofs.rings.Rings.next_look.Goals as goal

pub returns : goal.returns
returns c = rw (← c.place_of-place.ensures.number, ← c.self.view_is) (ap (option_map (λ (v : Event). v.next_look)) (event-at c.self.inside.nodes c.self.invariant c.place_of-place.result.0 (rw c.self.view_is c.place_of-place.ensures.used) ∙ c.event_of.ensures))
