use Rattle.pth_model.specs.RingWaits.{stops_waiting}
use Rattle.pth_world.proofs.world.World.unblock.Goals as goal

pub returns-clause-shows : goal.returns-clause-shows
unfolding stops_waiting
returns-clause-shows g c k sh = rw (← c.take_blocked-blocked.ensures.blocked k sh, ← c.ring_held.ensures) (c.give_back.ensures.shows _ (c.take_blocked-blocked.ensures.shows k sh))
