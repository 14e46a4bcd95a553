use Rattle.pth_model.specs.ThreadControl.{suspends}
use Rattle.pth_world.proofs.world.World.suspend.Goals as goal

pub returns-clause-shows : goal.returns-clause-shows
unfolding suspends
returns-clause-shows g c k sh = c.move_to.ensures.shows k sh
