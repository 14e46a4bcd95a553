use Rattle.std.proofs.Common.{◌≡◌, arith}
use Rattle.std.proofs.lemmas.Int.{ints}
use mir.Syntax.{w64}
use mir.Val.{to_z, of_z}
use Rattle.pth_ring.proofs.Refusals.{walk-some, walk-none}
use Rattle.pth_ring.proofs.rings.Rings.walk.Goals as goal

pub returns-in-Some-walk_from : goal.returns-in-Some-walk_from
returns-in-Some-walk_from c =
    let is : to_z w64 (of_z w64 c.args.e) ≡ c.args.e = omega (arith, ints) in
    rw (← c.self.view_is) (walk-some c.self.inside.nodes c.self.invariant c.in-Some.place.0 _ c.args.forward c.args.until_occurred c.in-Some-walk_from.id (rw c.self.view_is (rw is at c.in-Some.ensures.named)) (rw c.self.view_is c.in-Some.ensures.used) c.in-Some-walk_from.ensures)

pub returns-in-None : goal.returns-in-None
returns-in-None c =
    let is : to_z w64 (of_z w64 c.args.e) ≡ c.args.e = omega (arith, ints) in
    rw (← c.self.view_is) (walk-none c.self.inside.nodes c.self.invariant c.in-Some.place.0 _ c.args.forward c.args.until_occurred (rw c.self.view_is (rw is at c.in-Some.ensures.named)) (rw c.self.view_is c.in-Some.ensures.used) c.in-None.ensures)
