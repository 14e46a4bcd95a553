use Rattle.std.proofs.Common.{Err, ◌∙◌, ap}
use Rattle.pth_ring.proofs.Refusals.{made-answer, many-answer, memory-answer}
use Rattle.pth_ring.proofs.rings.Rings.make.Goals.{in-Ok, in-Err-TooMany, in-Err-OutOfMemory}
use Rattle.pth_ring.proofs.rings.Rings.make.Goals as goal

pub returns-clause-answer : goal.returns-clause-answer
returns-clause-answer c = elim c.match-insert_alone.branch [
  | in-Ok w ↦ rw (w.result-is, ← c.self.view_is) (made-answer c.self.inside.nodes c.self.invariant c.insert_alone.result c.insert_alone.ensures.too_many _ w.in-Ok.id w.in-Ok.is w.in-Ok.ensures.id)
  | in-Err-TooMany w ↦ rw (w.result-is, ← c.self.view_is) (many-answer c.self.inside.nodes c.self.invariant c.insert_alone.result c.insert_alone.ensures.too_many (w.in-Err-TooMany.is ∙ ap Err w.in-Err-TooMany.field-0-is))
  | in-Err-OutOfMemory w ↦ rw (w.result-is, ← c.self.view_is) (memory-answer c.self.inside.nodes c.self.invariant c.insert_alone.result c.insert_alone.ensures.too_many (w.in-Err-OutOfMemory.is ∙ ap Err w.in-Err-OutOfMemory.field-0-is))
]
