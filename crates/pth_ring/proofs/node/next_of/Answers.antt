use Rattle.pth_ring.proofs.Writes.{next_is}
use Rattle.pth_ring.proofs.node.next_of.Goals as goal

pub returns : goal.returns
returns c = next_is c.args.nodes.now c.args.e.0 _ c.get.ensures
