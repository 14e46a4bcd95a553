use Rattle.std.proofs.Common.{to_z-of_z}
use Rattle.pth_world.proofs.world.World.start.Goals as goal

pub returns : goal.returns
returns g c =
    let fits = c.ranges.arg in
    rw (← c.self.view_is) (rw to_z-of_z at c.start.ensures)
