use Rattle.std.proofs.Common.{◌≡◌, true, false, refl, arith}
use Rattle.std.proofs.lemmas.Int.{ints}
use mir.Syntax.{w64}
use mir.Val.{to_z, of_z}
use Rattle.pth_ring.proofs.Refusals.{two-claimed}
use Rattle.pth_ring.proofs.rings.Rings.find_two.Goals.{then-is_claimed-via-then-is_claimed, then-is_claimed-via-else-is_claimed+then-is_claimed-2}
use Rattle.pth_ring.proofs.rings.Rings.find_two.Goals as goal

pub returns-then-is_claimed-clause-refused : goal.returns-then-is_claimed-clause-refused
returns-then-is_claimed-clause-refused c =
    let is_a : to_z w64 (of_z w64 c.args.a) ≡ c.args.a = omega (arith, ints) in
    let is_b : to_z w64 (of_z w64 c.args.b) ≡ c.args.b = omega (arith, ints) in
    elim c.then-is_claimed.branch [
      | then-is_claimed-via-then-is_claimed w ↦ rw (← c.self.view_is) (two-claimed c.self.inside.nodes c.self.invariant c.in-Some.a.0 c.in-Some-find.b.0 _ _ (rw c.self.view_is (rw is_a at c.in-Some.ensures.named)) (rw c.self.view_is (rw is_b at c.in-Some-find.ensures.named)) (rw c.self.view_is c.in-Some.ensures.used) (rw c.self.view_is c.in-Some-find.ensures.used) c.if-is_with.ensures true _ w.if-is_claimed.ensures refl)
      | then-is_claimed-via-else-is_claimed+then-is_claimed-2 w ↦ rw (← c.self.view_is) (two-claimed c.self.inside.nodes c.self.invariant c.in-Some.a.0 c.in-Some-find.b.0 _ _ (rw c.self.view_is (rw is_a at c.in-Some.ensures.named)) (rw c.self.view_is (rw is_b at c.in-Some-find.ensures.named)) (rw c.self.view_is c.in-Some.ensures.used) (rw c.self.view_is c.in-Some-find.ensures.used) c.if-is_with.ensures false true w.if-is_claimed.ensures w.if-is_claimed-2.ensures)
    ]

pub returns-clause-refused : goal.returns-clause-refused
returns-clause-refused c =
    let is_a : to_z w64 (of_z w64 c.args.a) ≡ c.args.a = omega (arith, ints) in
    let is_b : to_z w64 (of_z w64 c.args.b) ≡ c.args.b = omega (arith, ints) in
    rw (← c.self.view_is) (two-claimed c.self.inside.nodes c.self.invariant c.in-Some.a.0 c.in-Some-find.b.0 _ _ (rw c.self.view_is (rw is_a at c.in-Some.ensures.named)) (rw c.self.view_is (rw is_b at c.in-Some-find.ensures.named)) (rw c.self.view_is c.in-Some.ensures.used) (rw c.self.view_is c.in-Some-find.ensures.used) c.if-is_with.ensures false false c.if-is_claimed.ensures c.if-is_claimed-2.ensures)
