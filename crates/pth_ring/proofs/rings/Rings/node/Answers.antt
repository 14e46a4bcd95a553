use Rattle.pth_ring.proofs.rings.Rings.node.Goals as goal

pub returns : goal.returns
returns c = rw (← c.place_of-place.ensures.number, ← c.self.view_is) c.ring_node_of.ensures
