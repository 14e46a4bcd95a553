use Rattle.std.proofs.Common.{rules, SFits, w64, to_z-of_z}
use Rattle.pth_world.proofs.world.World.put_in.Goals as goal

pub returns-clause-shows : goal.returns-clause-shows
returns-clause-shows g c k sh =
    let f : SFits w64 c.args.rank = search rules in
    (rw to_z-of_z at c.put_at.ensures.shows) k sh
