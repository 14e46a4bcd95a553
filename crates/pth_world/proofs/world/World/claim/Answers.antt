use Rattle.std.proofs.Common.{◌≡◌, arith}
use Rattle.std.proofs.lemmas.Int.{ints}
use mir.Syntax.{w64}
use mir.Val.{to_z, of_z}
use Rattle.pth_numbered.specs.Operands.{number}
use Rattle.pth_ring.specs.Rings.{claimed}
use Rattle.pth_model.specs.RingWaits.{claims}
use Rattle.pth_model.specs.State.{now_of}
use Rattle.pth_model.specs.Transition.{tid}
use Rattle.pth_world.proofs.Events.{kept_shows}
use Rattle.pth_world.proofs.world.World.claim.Goals as goal

pub returns-in-Ok-clause-shows : goal.returns-in-Ok-clause-shows
unfolding claims
returns-in-Ok-clause-shows g c k sh =
    let is : to_z w64 (of_z w64 c.args.e) ≡ c.args.e = omega (arith, ints) in
    let changes = rw (c.rings_mut.ensures.value, c.time-now.ensures.now, is) at c.in_default.ensures.changes in
    let enters = rw is at c.in-Ok.ensures.shows in
    enters _ (kept_shows c.args.self.now _ (claimed (number c.args.e) (tid c.args.t.0) (now_of k)) k sh (rw sh.kernel changes))
