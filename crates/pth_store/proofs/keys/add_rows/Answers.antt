use Rattle.std.proofs.Common.{◌∙◌}
use Rattle.pth_store.proofs.Rows.{under-grown}
use Rattle.pth_store.proofs.keys.add_rows.Goals as goal

pub loop-alloc-preserved : goal.loop-alloc-preserved
loop-alloc-preserved c = rw c.in_ok-push.ensures.items (under-grown _ c.loop-alloc.rows.items c.new.result c.new.ensures.items ∙ c.loop-alloc.invariant)
