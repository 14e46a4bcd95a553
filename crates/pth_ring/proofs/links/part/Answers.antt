use Rattle.std.proofs.Common.{◌∙◌, sym}
use Rattle.pth_ring.proofs.Joins.{prev-used, next-used, stays, parts, no-next, some-next}
use Rattle.pth_ring.proofs.links.part.Goals as goal

pub returns-then-next-e-clause-parted : goal.returns-then-next-e-clause-parted
returns-then-next-e-clause-parted c = stays c.args.nodes.now c.requires.kept c.args.e.0 c.requires.used (sym c.next_of-next.ensures ∙ c.if-next-e.true)

pub returns-then-next-e-clause-next : goal.returns-then-next-e-clause-next
returns-then-next-e-clause-next c = no-next c.args.nodes.now c.requires.kept c.args.e.0 c.requires.used (sym c.next_of-next.ensures ∙ c.if-next-e.true)

pub id_of-id-requires-clause-used : goal.id_of-id-requires-clause-used
id_of-id-requires-clause-used c = rw c.next_of-next.ensures (next-used c.args.nodes.now c.requires.kept c.args.e.0 c.requires.used)

pub splice-requires-clause-b : goal.splice-requires-clause-b
splice-requires-clause-b c = rw c.next_of-next.ensures (next-used c.args.nodes.now c.requires.kept c.args.e.0 c.requires.used)

pub splice-requires-clause-prev_a : goal.splice-requires-clause-prev_a
splice-requires-clause-prev_a c = prev-used c.args.nodes.now c.requires.kept c.args.e.0 c.requires.used

pub splice-requires-clause-prev_b : goal.splice-requires-clause-prev_b
splice-requires-clause-prev_b c = rw c.next_of-next.ensures (prev-used c.args.nodes.now c.requires.kept _ (next-used c.args.nodes.now c.requires.kept c.args.e.0 c.requires.used))

pub returns-clause-parted : goal.returns-clause-parted
returns-clause-parted c = parts c.args.nodes.now c.requires.kept c.args.e.0 c.requires.used c.splice.new.nodes (λ h. c.if-next-e.false (c.next_of-next.ensures ∙ h)) (rw c.next_of-next.ensures at c.splice.ensures.links) c.splice.ensures.places

pub returns-clause-next : goal.returns-clause-next
returns-clause-next c = some-next c.args.nodes.now c.requires.kept c.args.e.0 c.requires.used c.id_of-id.result (λ h. c.if-next-e.false (c.next_of-next.ensures ∙ h)) (rw c.next_of-next.ensures at c.id_of-id.ensures)
