use Rattle.pth_lock.proofs.Holdings.{kept_none, shown_none}
use Rattle.pth_lock.proofs.rwlocks.RwLocks.new.Goals as goal

pub invariant_of-result : goal.invariant_of-result
invariant_of-result c = kept_none c.in_ok-sets.sets c.in_ok-sets.ensures.empty c.in_ok-sets.ensures.long

pub returns : goal.returns
returns c = shown_none c.in_ok-sets.sets
