use Rattle.pth_lock.proofs.Ownerships.{kept_none, mutexes_none}
use Rattle.pth_lock.proofs.mutexes.Mutexes.new.Goals as goal

pub invariant_of-result : goal.invariant_of-result
invariant_of-result c = kept_none c.in_ok-sets.sets c.in_ok-sets.ensures.long c.in_ok-sets.ensures.empty

pub returns : goal.returns
returns c = mutexes_none
