use Rattle.pth_store.proofs.Stacks.{none_of}
use Rattle.pth_store.proofs.Within.{within_is, within_none}
use Rattle.pth_store.proofs.cleanups.Cleanups.new.Goals as goal

pub invariant_of-result : goal.invariant_of-result
invariant_of-result c = within_is (none_of _ c.new.result.items c.new.ensures.items) within_none

pub returns : goal.returns
returns c = none_of _ c.new.result.items c.new.ensures.items
