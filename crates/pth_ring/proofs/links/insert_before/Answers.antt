use Rattle.pth_ring.proofs.Entries.{used-still, used-new, apart-new, is-chained}
use Rattle.pth_ring.proofs.links.insert_before.Goals as goal

pub join_rings-requires-clause-a : goal.join_rings-requires-clause-a
join_rings-requires-clause-a c = used-still c.args.nodes.now c.insert_alone.new.nodes c.args.spec c.args.e.0 c.in_ok-id.slot.0 c.requires.kept c.requires.used c.in_ok-id.ensures.ok

pub join_rings-requires-clause-b : goal.join_rings-requires-clause-b
join_rings-requires-clause-b c = used-new c.args.nodes.now c.insert_alone.new.nodes c.args.spec c.args.e.0 c.in_ok-id.slot.0 c.requires.kept c.requires.used c.in_ok-id.ensures.ok

pub join_rings-requires-clause-apart : goal.join_rings-requires-clause-apart
join_rings-requires-clause-apart c = apart-new c.args.nodes.now c.insert_alone.new.nodes c.args.spec c.args.e.0 c.in_ok-id.slot.0 c.requires.kept c.requires.used c.in_ok-id.ensures.ok

pub returns-clause-ok : goal.returns-clause-ok
returns-clause-ok c = is-chained c.args.nodes.now c.insert_alone.new.nodes c.args.spec c.args.e.0 c.in_ok-id.slot.0 c.requires.kept c.requires.used c.in_ok-id.ensures.ok c.join_rings.new.nodes c.join_rings.ensures
