use Rattle.pth_ring.proofs.Joins.{prev-used, joins}
use Rattle.pth_ring.proofs.links.join_rings.Goals as goal

pub splice-requires-clause-prev_a : goal.splice-requires-clause-prev_a
splice-requires-clause-prev_a c = prev-used c.args.nodes.now c.requires.kept c.args.a.0 c.requires.a

pub splice-requires-clause-prev_b : goal.splice-requires-clause-prev_b
splice-requires-clause-prev_b c = prev-used c.args.nodes.now c.requires.kept c.args.b.0 c.requires.b

pub returns : goal.returns
returns c = joins c.args.nodes.now c.splice.new.nodes c.args.a.0 c.args.b.0 c.requires.kept c.requires.a c.requires.b c.requires.apart c.splice.ensures.links c.splice.ensures.places
