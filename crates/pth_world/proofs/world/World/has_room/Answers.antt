use Rattle.std.proofs.Common.{rules}
use Rattle.pth_world.proofs.Showing.{present_is}
use Rattle.pth_world.proofs.world.World.has_room.Goals as goal

pub returns-clause-count : goal.returns-clause-count
returns-clause-count g c = search rules

pub returns-clause-room : goal.returns-clause-room
returns-clause-room g c k sh = rw (present_is _ k c.requires sh.threads) (returns-clause-count g c)
