use Rattle.pth_ring.proofs.Entries.{is-dropped}
use Rattle.pth_ring.proofs.links.remove_alone.Goals as goal

pub returns : goal.returns
returns c = is-dropped c.args.nodes.now c.remove-node.new.self c.args.e.0 c.requires.kept c.requires.used c.requires.alone c.remove-node.ensures.kept c.remove-node.ensures.removes
