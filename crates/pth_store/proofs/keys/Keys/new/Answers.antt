use Rattle.pth_store.proofs.Calls.{nothing-kept, nothing-shown}
use Rattle.pth_store.proofs.keys.Keys.new.Goals as goal

pub invariant_of-result : goal.invariant_of-result
invariant_of-result c = nothing-kept _ c.new.result.items c.new.ensures.items

pub returns : goal.returns
returns c = nothing-shown _ c.new.result.items c.new.ensures.items
