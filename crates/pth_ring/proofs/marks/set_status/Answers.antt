use Rattle.std.proofs.Common.{refl}
use Rattle.pth_ring.specs.Rings.{with_status}
use Rattle.pth_ring.proofs.Kept.{rewritten}
use Rattle.pth_ring.proofs.marks.set_status.Goals as goal

pub returns : goal.returns
returns c = rewritten c.args.nodes.now _ c.args.e.0 _ _ (with_status c.args.status) c.requires.kept c.requires.used c.get_mut.ensures.value (c.get_mut.ensures.changes _) refl refl refl refl refl
