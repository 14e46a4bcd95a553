use Rattle.std.proofs.Common.{◌∙◌, ap, ℕ, Some, sym}
use Rattle.pth_ring.proofs.Joins.{next-used}
use Rattle.pth_ring.proofs.Asked.{next-named}
use Rattle.pth_ring.proofs.rings.Rings.next.Goals as goal

pub id_of-requires-clause-used : goal.id_of-requires-clause-used
id_of-requires-clause-used c = rw c.next_of-next.ensures (next-used c.self.inside.nodes c.self.invariant c.place_of-place.result.0 (rw c.self.view_is c.place_of-place.ensures.used))

pub returns : goal.returns
returns c = rw (← c.place_of-place.ensures.number, ← c.self.view_is) (next-named c.self.inside.nodes c.self.invariant c.place_of-place.result.0 (rw c.self.view_is c.place_of-place.ensures.used) ∙ ap (λ (n : ℕ). Some n) (sym (rw c.next_of-next.ensures at c.id_of.ensures)))
