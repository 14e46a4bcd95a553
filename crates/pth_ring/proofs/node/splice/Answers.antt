use Rattle.pth_ring.proofs.Writes.{places_then}
use Rattle.pth_ring.proofs.node.splice.Goals as goal

pub returns-clause-places : goal.returns-clause-places
returns-clause-places c = places_then _ _ _ (places_then _ _ _ (places_then _ _ _ c.set_next.ensures.places c.set_next-2.ensures.places) c.set_prev.ensures.places) c.set_prev-2.ensures.places
