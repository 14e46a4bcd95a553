use Rattle.pth_ring.proofs.Kept.{remade}
use Rattle.pth_ring.proofs.rings.Rings.mark.Goals as goal

pub returns : goal.returns
returns c = rw (← c.place_of-place.ensures.number, ← c.self.view_is) (remade c.self.inside.nodes _ c.place_of-place.result.0 _ c.self.invariant (rw c.self.view_is c.place_of-place.ensures.used) c.set_status.ensures).events
