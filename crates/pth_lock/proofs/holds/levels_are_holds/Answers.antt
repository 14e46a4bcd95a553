use Rattle.pth_lock.proofs.Listings.{start, taken, released, left, owners}
use Rattle.pth_lock.proofs.holds.levels_are_holds.Goals as goal

pub returns : goal.returns
returns c = record { start = start; taken = taken; released = released; left = left; owners = owners }
