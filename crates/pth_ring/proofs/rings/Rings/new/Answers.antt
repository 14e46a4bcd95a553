use Rattle.pth_ring.proofs.Refusals.{none-linked, none-shown}
use Rattle.pth_ring.proofs.rings.Rings.new.Goals as goal

pub invariant_of-result : goal.invariant_of-result
invariant_of-result c = let e = c.new.ensures in none-linked c.new.result e.slots e.numbers e.things e.count e.made e.limit

pub returns : goal.returns
returns c = none-shown c.new.result c.new.ensures.slots c.new.ensures.made
