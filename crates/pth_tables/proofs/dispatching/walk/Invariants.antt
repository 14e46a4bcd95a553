use Rattle.std.proofs.Common.{◌≡◌, length}
use Rattle.pth_tables.specs.Waits.{waits_of}
use Rattle.pth_tables.proofs.Walks.{IsAt}
use Rattle.pth_tables.proofs.dispatching.walk.Given as goal

abbrev pub invariant-places : goal.invariant-places
invariant-places l = IsAt l.queues (waits_of l.fn.waits) l.fn.from.place l.due l.left l.at (waits_of l.waits) × (length l.waits.slots ≡ length l.fn.waits.slots)

abbrev pub decreases-places : goal.decreases-places
decreases-places l = l.at.place
