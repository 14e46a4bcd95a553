use Rattle.std.proofs.Common.{◌≡◌, arith}
use Rattle.std.proofs.lemmas.Int.{ints}
use mir.Syntax.{w64}
use mir.Val.{to_z, of_z}
use Rattle.pth_ring.proofs.Kept.{remade}
use Rattle.pth_ring.proofs.Refusals.{with_event-dead}
use Rattle.pth_ring.proofs.rings.Rings.unclaim_at.Goals as goal

pub returns-in-Some : goal.returns-in-Some
returns-in-Some c =
    let is : to_z w64 (of_z w64 c.args.e) ≡ c.args.e = omega (arith, ints) in
    rw (← is, ← c.in-Some.ensures.named, ← c.self.view_is) (remade c.self.inside.nodes _ c.in-Some.place.0 _ c.self.invariant (rw c.self.view_is c.in-Some.ensures.used) c.set_claim.ensures).events

pub returns-in_default : goal.returns-in_default
returns-in_default c =
    let is : to_z w64 (of_z w64 c.args.e) ≡ c.args.e = omega (arith, ints) in
    with_event-dead _ _ _ (rw is at c.in_default.ensures.none)
