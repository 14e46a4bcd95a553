use Rattle.std.proofs.Common.{◌∙◌, ap, refl}
use Rattle.pth_base.specs.Table.{put}
use Rattle.pth_ring.specs.Links.{next_id}
use Rattle.pth_numbered.specs.Numbered.{thing_at}
use Rattle.pth_ring.proofs.Writes.{next_written, next_id_written, prev_kept, prev_id_kept, id_is, event_kept, same_places}
use Rattle.pth_ring.proofs.node.set_next.Goals as goal

pub returns-clause-next : goal.returns-clause-next
returns-clause-next c = next_written c.args.nodes.now _ c.args.e.0 _ _ c.requires.e c.get_mut-node.ensures.value (c.get_mut-node.ensures.changes _)

pub returns-clause-next_id : goal.returns-clause-next_id
returns-clause-next_id c = next_id_written c.args.nodes.now _ c.args.e.0 _ _ c.requires.e c.get_mut-node.ensures.value (c.get_mut-node.ensures.changes _) ∙ ap (put (next_id (thing_at c.args.nodes.now)) c.args.e.0) (id_is c.args.nodes.now c.args.to.0 _ c.get.ensures)

pub returns-clause-prev : goal.returns-clause-prev
returns-clause-prev c = prev_kept c.args.nodes.now _ c.args.e.0 _ _ c.requires.e c.get_mut-node.ensures.value (c.get_mut-node.ensures.changes _) refl

pub returns-clause-prev_id : goal.returns-clause-prev_id
returns-clause-prev_id c = prev_id_kept c.args.nodes.now _ c.args.e.0 _ _ c.requires.e c.get_mut-node.ensures.value (c.get_mut-node.ensures.changes _) refl

pub returns-clause-event : goal.returns-clause-event
returns-clause-event c = event_kept c.args.nodes.now _ c.args.e.0 _ _ c.requires.e c.get_mut-node.ensures.value (c.get_mut-node.ensures.changes _) refl

pub returns-clause-places : goal.returns-clause-places
returns-clause-places c = same_places c.args.nodes.now _ c.args.e.0 _ _ c.requires.e c.get_mut-node.ensures.value (c.get_mut-node.ensures.changes _) refl
