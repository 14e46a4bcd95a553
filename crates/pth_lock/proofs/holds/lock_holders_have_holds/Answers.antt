use Rattle.pth_lock.proofs.LockListings.{start, taken, released, left}
use Rattle.pth_lock.proofs.holds.lock_holders_have_holds.Goals as goal

pub returns : goal.returns
returns c = record { start = start; taken = taken; released = released; left = left }
