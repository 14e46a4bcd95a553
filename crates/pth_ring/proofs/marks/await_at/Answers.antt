use Rattle.std.proofs.Common.{refl}
use Rattle.pth_ring.specs.Rings.{awaited}
use Rattle.pth_ring.proofs.Kept.{rewritten}
use Rattle.pth_ring.proofs.marks.await_at.Goals as goal

pub returns : goal.returns
returns c = rewritten c.args.nodes.now _ c.args.e.0 _ _ (awaited c.args.now) c.requires.kept c.requires.used c.get_mut.ensures.value (c.get_mut.ensures.changes _) refl refl refl refl refl
