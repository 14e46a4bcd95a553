use Rattle.std.proofs.Common.{refl, ◌≡◌, ℤ, pos, negsuc, nat_abs, ◌<ℤ◌, ◌≤ℤ◌, arith}
use Rattle.std.proofs.lemmas.Int.{ints}
use mir.Syntax.{w64}
use mir.Val.{to_z, of_z}
use Rattle.pth_numbered.specs.Operands.{number}
use Rattle.pth_ring.proofs.Shown.{no-ring}
use Rattle.pth_ring.proofs.Refusals.{below-unknown, above-unknown, dead, found-dead, found-no_ring, found-live, found-begins}
use Rattle.pth_ring.proofs.rings.Rings.find.Goals.{then-e-lt0-via-then-e-lt0, then-e-lt0-via-else-e-lt0+then-e-made}
use Rattle.pth_ring.proofs.rings.Rings.find.Goals as goal

number_is : (a : ℤ) → pos 0 ≤ℤ a → nat_abs a ≡ number a
number_is (pos n) high = refl
number_is (negsuc n) high = absurd (omega (arith, ints))

pub returns-then-e-lt0-clause-none : goal.returns-then-e-lt0-clause-none
returns-then-e-lt0-clause-none c = elim c.then-e-lt0.branch [
  | then-e-lt0-via-then-e-lt0 w ↦ (let low : c.args.e <ℤ pos 0 = grind (arith, ints) in rw (← c.self.view_is) (dead c.self.inside.nodes c.self.invariant (number c.args.e) (below-unknown c.self.inside.nodes c.self.invariant c.args.e low)))
  | then-e-lt0-via-else-e-lt0+then-e-made w ↦ (let high : pos c.self.inside.nodes.made <ℤ c.args.e = grind (arith, ints) in rw (← c.self.view_is) (dead c.self.inside.nodes c.self.invariant (number c.args.e) (above-unknown c.self.inside.nodes c.self.invariant c.args.e high)))
]

pub returns-then-e-lt0-clause-no_ring : goal.returns-then-e-lt0-clause-no_ring
returns-then-e-lt0-clause-no_ring c = elim c.then-e-lt0.branch [
  | then-e-lt0-via-then-e-lt0 w ↦ (let low : c.args.e <ℤ pos 0 = grind (arith, ints) in rw (← c.self.view_is) (no-ring c.self.inside.nodes (number c.args.e) (below-unknown c.self.inside.nodes c.self.invariant c.args.e low)))
  | then-e-lt0-via-else-e-lt0+then-e-made w ↦ (let high : pos c.self.inside.nodes.made <ℤ c.args.e = grind (arith, ints) in rw (← c.self.view_is) (no-ring c.self.inside.nodes (number c.args.e) (above-unknown c.self.inside.nodes c.self.invariant c.args.e high)))
]

pub returns-clause-none : goal.returns-clause-none
returns-clause-none c =
    let high : pos 0 ≤ℤ c.args.e = grind (arith, ints) in
    let is : to_z w64 (of_z w64 c.args.e) ≡ c.args.e = omega (arith, ints) in
    rw (← c.self.view_is) (found-dead c.self.inside.nodes c.self.invariant (number c.args.e) c.find.result (rw (is, number_is c.args.e high) at c.find.ensures.slot))

pub returns-clause-no_ring : goal.returns-clause-no_ring
returns-clause-no_ring c =
    let high : pos 0 ≤ℤ c.args.e = grind (arith, ints) in
    let is : to_z w64 (of_z w64 c.args.e) ≡ c.args.e = omega (arith, ints) in
    rw (← c.self.view_is) (found-no_ring c.self.inside.nodes (number c.args.e) c.find.result (rw (is, number_is c.args.e high) at c.find.ensures.slot))

pub returns-clause-some : goal.returns-clause-some
returns-clause-some c =
    let high : pos 0 ≤ℤ c.args.e = grind (arith, ints) in
    let is : to_z w64 (of_z w64 c.args.e) ≡ c.args.e = omega (arith, ints) in
    rw (← c.self.view_is) (found-live c.self.inside.nodes c.self.invariant (number c.args.e) c.find.result c.find.ensures.used (rw (is, number_is c.args.e high) at c.find.ensures.named))

pub returns-clause-begins : goal.returns-clause-begins
returns-clause-begins c = rw (← c.self.view_is) (found-begins c.self.inside.nodes c.self.invariant c.find.result c.find.ensures.used)
