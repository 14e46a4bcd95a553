use Rattle.std.proofs.Common.{refl, ◌≡◌, ℤ, pos, negsuc, nat_abs, ◌<ℤ◌, ◌≤ℤ◌, arith}
use Rattle.std.proofs.lemmas.Int.{ints}
use mir.Syntax.{w64}
use mir.Val.{to_z, of_z}
use Rattle.pth_numbered.specs.Operands.{number}
use Rattle.pth_threads.proofs.Objects.{below_none, above_none, found_none, found_some}
use Rattle.pth_threads.proofs.attrs.Attrs.find.Goals.{then-a-lt0-via-then-a-lt0, then-a-lt0-via-else-a-lt0+then-a-made}
use Rattle.pth_threads.proofs.attrs.Attrs.find.Goals as goal

number_is : (a : ℤ) → pos 0 ≤ℤ a → nat_abs a ≡ number a
number_is (pos n) high = refl
number_is (negsuc n) high = absurd (omega (arith, ints))

pub returns-then-a-lt0-clause-none : goal.returns-then-a-lt0-clause-none
returns-then-a-lt0-clause-none c = elim c.then-a-lt0.branch [
  | then-a-lt0-via-then-a-lt0 w ↦ (let low : c.args.a <ℤ pos 0 = grind (arith, ints) in below_none _ c.args.a low)
  | then-a-lt0-via-else-a-lt0+then-a-made w ↦ (let high : pos c.self.inside.objects.made <ℤ c.args.a = grind (arith, ints) in rw (← c.self.view_is) (above_none (record { objects = c.self.inside.objects; top = c.self.inside.top }) c.args.a c.made-made.ensures.kept high))
]

pub returns-clause-none : goal.returns-clause-none
returns-clause-none c =
    let high : pos 0 ≤ℤ c.args.a = grind (arith, ints) in
    let is : to_z w64 (of_z w64 c.args.a) ≡ c.args.a = omega (arith, ints) in
    rw (← c.self.view_is) (found_none (record { objects = c.self.inside.objects; top = c.self.inside.top }) c.args.a c.find.result high (rw (is, number_is c.args.a high) at c.find.ensures.slot))

pub returns-clause-some : goal.returns-clause-some
returns-clause-some c =
    let high : pos 0 ≤ℤ c.args.a = grind (arith, ints) in
    let is : to_z w64 (of_z w64 c.args.a) ≡ c.args.a = omega (arith, ints) in
    rw (← c.self.view_is) (found_some (record { objects = c.self.inside.objects; top = c.self.inside.top }) c.args.a c.find.result high (rw (is, number_is c.args.a high) at c.find.ensures.slot))
