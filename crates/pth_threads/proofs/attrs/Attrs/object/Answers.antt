use Rattle.std.proofs.Common.{◌≡◌, arith}
use Rattle.std.proofs.lemmas.Int.{ints}
use mir.Syntax.{w64}
use mir.Val.{to_z, of_z}
use Rattle.pth_threads.proofs.Objects.{allowed_at}
use Rattle.pth_threads.proofs.attrs.Attrs.object.Goals as goal

pub returns-in-Some-clause-allowed : goal.returns-in-Some-clause-allowed
returns-in-Some-clause-allowed c =
    let is : to_z w64 (of_z w64 c.args.a) ≡ c.args.a = omega (arith, ints) in
    allowed_at c.args.self.now c.args.a c.in-Some.slot.0 c.in-Some.ensures.allowed (rw is at c.in-Some.ensures.some)
