use Rattle.std.proofs.Common.{◌≡◌, arith}
use Rattle.std.proofs.lemmas.Int.{ints}
use mir.Syntax.{w64}
use mir.Val.{to_z, of_z}
use Rattle.pth_numbered.specs.Operands.{named}
use Rattle.pth_threads.specs.Attributes.{object_of}
use Rattle.pth_calls.proofs.GivenValues.{given_prio}
use Rattle.pth_calls.proofs.thread_control.values_for.Goals as goal

pub returns-then-attr-ne0-clause-prio : goal.returns-then-attr-ne0-clause-prio
returns-then-attr-ne0-clause-prio g c =
    let is : to_z w64 (of_z w64 c.args.attr) ≡ c.args.attr = omega (arith, ints) in
    let w = c.args.w.now in
    given_prio w.attributes.top (rw c.attrs.ensures at c.values.ensures.range).1 w (named (object_of w.attributes) c.args.attr) c.values.result c.requires.whole (rw (is, c.attrs.ensures, c.threads.ensures) at c.values.ensures.answer) (rw (is, c.attrs.ensures) at c.values.ensures.allowed)
