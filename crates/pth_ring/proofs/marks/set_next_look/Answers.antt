use Rattle.std.proofs.Common.{refl}
use Rattle.pth_ring.specs.Rings.{with_next_look}
use Rattle.pth_ring.proofs.Kept.{rewritten}
use Rattle.pth_ring.proofs.marks.set_next_look.Goals as goal

pub returns : goal.returns
returns c = rewritten c.args.nodes.now _ c.args.e.0 _ _ (with_next_look c.args.at) c.requires.kept c.requires.used c.get_mut.ensures.value (c.get_mut.ensures.changes _) refl refl refl refl refl
