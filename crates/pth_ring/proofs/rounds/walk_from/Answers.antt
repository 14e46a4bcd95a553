use Rattle.pth_ring.proofs.Asked.{walked-used, walked-some, walked-none}
use Rattle.pth_ring.proofs.rounds.walk_from.Goals as goal

pub id_of-requires-clause-used : goal.id_of-requires-clause-used
id_of-requires-clause-used c = walked-used c.args.nodes.now c.requires.kept c.args.e.0 c.requires.used c.args.until_occurred c.args.forward c.in-Some.found.0 c.in-Some.ensures

pub returns-in-Some : goal.returns-in-Some
returns-in-Some c = walked-some c.args.nodes.now c.requires.kept c.args.e.0 c.requires.used c.args.until_occurred c.args.forward c.in-Some.found.0 c.id_of.result c.in-Some.ensures c.id_of.ensures

pub returns-in-None : goal.returns-in-None
returns-in-None c = walked-none c.args.nodes.now c.requires.kept c.args.e.0 c.requires.used c.args.until_occurred c.args.forward c.in-None.ensures
