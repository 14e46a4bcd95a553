use Rattle.pth_model.specs.Ending.{leaves}
use Rattle.std.proofs.Common.{◌≡◌, true, false, rules}
use Rattle.pth_model.specs.Changes.{or_nobody, entry_of}
use Rattle.pth_world.proofs.world.World.leave.Goals as goal

pub returns-then-joinable-clause-shows : goal.returns-then-joinable-clause-shows
unfolding leaves
returns-then-joinable-clause-shows g c k sh =
    let j : (or_nobody (entry_of k c.args.t.0)).joinable ≡ true = search rules in
    rw j search rules

pub returns-else-joinable-clause-shows : goal.returns-else-joinable-clause-shows
unfolding leaves
returns-else-joinable-clause-shows g c k sh =
    let j : (or_nobody (entry_of k c.args.t.0)).joinable ≡ false = search rules in
    rw j search rules
