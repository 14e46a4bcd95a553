use Rattle.std.proofs.Common.{◌≡◌, arith}
use Rattle.std.proofs.lemmas.Int.{ints}
use mir.Syntax.{w64}
use mir.Val.{to_z, of_z}
use Rattle.pth_ring.proofs.Refusals.{refused-claimed, not-refused}
use Rattle.pth_ring.proofs.rings.Rings.find_unclaimed.Goals as goal

pub returns-then-is_claimed-clause-refused : goal.returns-then-is_claimed-clause-refused
returns-then-is_claimed-clause-refused c =
    let is : to_z w64 (of_z w64 c.args.e) ≡ c.args.e = omega (arith, ints) in
    rw (← c.self.view_is) (refused-claimed c.self.inside.nodes c.self.invariant c.in-Some.place.0 _ (rw c.self.view_is (rw is at c.in-Some.ensures.named)) (rw c.self.view_is c.in-Some.ensures.used) c.if-is_claimed.ensures)

pub returns-clause-refused : goal.returns-clause-refused
returns-clause-refused c =
    let is : to_z w64 (of_z w64 c.args.e) ≡ c.args.e = omega (arith, ints) in
    rw (← c.self.view_is) (not-refused c.self.inside.nodes c.self.invariant c.in-Some.place.0 _ (rw c.self.view_is (rw is at c.in-Some.ensures.named)) (rw c.self.view_is c.in-Some.ensures.used) c.if-is_claimed.ensures)
