use Rattle.pth_ring.proofs.Asked.{node-named}
use Rattle.pth_ring.proofs.node.ring_node_of.Goals as goal

pub returns : goal.returns
returns c = node-named c.args.nodes.now c.requires.kept c.args.e.0 c.requires.used _ c.get.ensures
