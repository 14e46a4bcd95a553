use Rattle.std.proofs.Common.{◌≡◌, arith}
use Rattle.std.proofs.lemmas.Int.{ints}
use mir.Syntax.{w64}
use mir.Val.{to_z, of_z}
use Rattle.pth_threads.proofs.attrs.Attrs.values.Goals as goal

pub returns-in-Some-Free-clause-allowed : goal.returns-in-Some-Free-clause-allowed
returns-in-Some-Free-clause-allowed c =
    let is : to_z w64 (of_z w64 c.args.a) ≡ c.args.a = omega (arith, ints) in
    rw is at c.object.ensures.allowed
