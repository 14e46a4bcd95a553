use Rattle.pth_ring.proofs.Refusals.{dead}
use Rattle.pth_ring.proofs.rings.Rings.place_of.Goals as goal

pub unreachable-requires : goal.unreachable-requires
unreachable-requires c = let gone = dead c.self.inside.nodes c.self.invariant c.args.e.0 c.in-None.ensures.slot in let live = rw (← c.self.view_is) at c.requires in cc
