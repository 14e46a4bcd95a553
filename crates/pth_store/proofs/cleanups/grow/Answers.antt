use Rattle.std.proofs.Common.{◌∙◌, ap, reverse}
use Rattle.pth_store.proofs.Stacks.{stack_grown}
use Rattle.pth_store.proofs.cleanups.grow.Goals as goal

pub loop-alloc-preserved : goal.loop-alloc-preserved
loop-alloc-preserved c = rw c.in_ok-push.ensures.items (stack_grown _ c.loop-alloc.stacks.items c.new.result (ap reverse c.new.ensures.items) ∙ c.loop-alloc.invariant)
