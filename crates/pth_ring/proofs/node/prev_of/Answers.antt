use Rattle.pth_ring.proofs.Writes.{prev_is}
use Rattle.pth_ring.proofs.node.prev_of.Goals as goal

pub returns : goal.returns
returns c = prev_is c.args.nodes.now c.args.e.0 _ c.get.ensures
