use Rattle.pth_ring.proofs.Entries.{alone-now, is-freed}
use Rattle.pth_ring.proofs.links.free_one.Goals as goal

pub remove_alone-requires-clause-alone : goal.remove_alone-requires-clause-alone
remove_alone-requires-clause-alone c = alone-now c.args.nodes.now c.part-next.new.nodes c.args.e.0 c.part-next.ensures.parted

pub returns : goal.returns
returns c = is-freed c.args.nodes.now c.part-next.new.nodes c.args.e.0 c.part-next.ensures.parted _ c.remove_alone.ensures
