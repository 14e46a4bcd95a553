use Rattle.pth_ring.proofs.Joins.{next-used}
use Rattle.pth_ring.proofs.Shown.{one-place}
use Rattle.pth_ring.proofs.Asked.{next-named, round}
use Rattle.pth_ring.proofs.rings.Rings.next_at.Goals as goal

pub returns-clause-used : goal.returns-clause-used
returns-clause-used c = rw (c.next_of.ensures, ← c.self.view_is) (next-used c.self.inside.nodes c.self.invariant c.args.place.0 (rw c.self.view_is c.requires))

pub returns-clause-apart : goal.returns-clause-apart
returns-clause-apart c = rw (c.next_of.ensures, ← c.self.view_is) (λ other. one-place c.self.inside.nodes c.self.invariant _ other (next-used c.self.inside.nodes c.self.invariant c.args.place.0 (rw c.self.view_is c.requires)))

pub returns-clause-next : goal.returns-clause-next
returns-clause-next c = rw (c.next_of.ensures, ← c.self.view_is) (next-named c.self.inside.nodes c.self.invariant c.args.place.0 (rw c.self.view_is c.requires))

pub returns-clause-round : goal.returns-clause-round
returns-clause-round c = rw (c.next_of.ensures, ← c.self.view_is) (round c.self.inside.nodes c.self.invariant c.args.place.0 (rw c.self.view_is c.requires))
