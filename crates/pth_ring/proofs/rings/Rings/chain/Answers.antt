use Rattle.std.proofs.Common.{◌≡◌, Ok, Err, ◌∙◌, ap, arith}
use Rattle.std.proofs.lemmas.Int.{ints}
use mir.Syntax.{w64}
use mir.Val.{to_z, of_z}
use Rattle.pth_numbered.specs.Operands.{number}
use Rattle.pth_base.specs.declared.errno.Errno.TheVariants.{EAGAIN}
use Rattle.pth_base.specs.declared.refusal.Refusal.TheVariants.{Fail, OutOfMemory}
use Rattle.pth_ring.specs.Arena.{events_of}
use Rattle.pth_ring.proofs.Refusals.{made-answer, many-answer, memory-answer, chain-answer}
use Rattle.pth_ring.proofs.rings.Rings.chain.Goals.{in-Ok-insert_before, in-Err-TooMany, in-Err-OutOfMemory}
use Rattle.pth_ring.proofs.rings.Rings.chain.Goals as goal

pub returns-after-insert_before-clause-answer : goal.returns-after-insert_before-clause-answer
returns-after-insert_before-clause-answer c =
    let is : to_z w64 (of_z w64 c.args.e) ≡ c.args.e = omega (arith, ints) in
    let free = rw is at c.in-Ok.ensures.refused in
    elim c.match-insert_before.branch [
      | in-Ok-insert_before w ↦ rw w.result-is (chain-answer (events_of c.args.self.now) (number c.args.e) (Ok w.in-Ok-insert_before.id) free (rw (← c.self.view_is) (made-answer c.self.inside.nodes c.self.invariant c.insert_before.result c.insert_before.ensures.too_many _ w.in-Ok-insert_before.id w.in-Ok-insert_before.is w.in-Ok-insert_before.ensures.id)))
      | in-Err-TooMany w ↦ rw w.result-is (chain-answer (events_of c.args.self.now) (number c.args.e) (Err (Fail EAGAIN)) free (rw (← c.self.view_is) (many-answer c.self.inside.nodes c.self.invariant c.insert_before.result c.insert_before.ensures.too_many (w.in-Err-TooMany.is ∙ ap Err w.in-Err-TooMany.field-0-is))))
      | in-Err-OutOfMemory w ↦ rw w.result-is (chain-answer (events_of c.args.self.now) (number c.args.e) (Err OutOfMemory) free (rw (← c.self.view_is) (memory-answer c.self.inside.nodes c.self.invariant c.insert_before.result c.insert_before.ensures.too_many (w.in-Err-OutOfMemory.is ∙ ap Err w.in-Err-OutOfMemory.field-0-is))))
    ]
