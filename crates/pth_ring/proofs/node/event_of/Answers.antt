use Rattle.pth_ring.proofs.Writes.{event_is}
use Rattle.pth_ring.proofs.node.event_of.Goals as goal

pub returns : goal.returns
returns c = event_is c.args.nodes.now c.args.e.0 _ c.get.ensures
