use Rattle.std.proofs.Common.{◌≢◌, ◌∙◌, ap, ℕ, sym}
use Rattle.pth_numbered.specs.Numbered.{number_at}
use Rattle.pth_ring.specs.Rings.{ring_freed}
use Rattle.pth_ring.specs.Arena.{events_of}
use Rattle.pth_ring.proofs.Joins.{next-used}
use Rattle.pth_ring.proofs.Frees.{freed-all, freed-more, freed-shorter, number-still}
use Rattle.pth_ring.proofs.links.free_all.Goals as goal

pub next_of-next-requires : goal.next_of-next-requires
next_of-next-requires c = rw c.round.invariant.number c.requires.used

pub free_one-requires-clause-used : goal.free_one-requires-clause-used
free_one-requires-clause-used c = rw c.next_of-next.ensures (next-used c.round.nodes c.round.invariant.kept c.args.e.0 (rw c.round.invariant.number c.requires.used))

pub returns-then-next-e-clause-events : goal.returns-then-next-e-clause-events
returns-then-next-e-clause-events c =
    let i = c.round.invariant in
    freed-all c.round.nodes c.free_one.new.nodes c.args.e.0 c.next_of-next.result.0 i.kept (rw i.number c.requires.used) c.next_of-next.ensures c.free_one.ensures c.if-next-e.true
    ∙ ap (λ (n : ℕ). ring_freed n (events_of c.round.nodes)) i.number ∙ i.events

pub round-smaller : goal.round-smaller
round-smaller c =
    let i = c.round.invariant in
    freed-shorter c.round.nodes c.free_one.new.nodes c.args.e.0 c.next_of-next.result.0 i.kept (rw i.number c.requires.used) c.next_of-next.ensures c.free_one.ensures c.if-next-e.false

pub round-preserved : goal.round-preserved
round-preserved c =
    let i = c.round.invariant in
    let u : number_at c.round.nodes c.args.e.0 ≢ 0 = rw i.number c.requires.used in
    record {
      kept = c.free_one.ensures.kept;
      number = number-still c.round.nodes c.free_one.new.nodes c.args.e.0 c.next_of-next.result.0 i.kept u c.next_of-next.ensures c.free_one.ensures c.if-next-e.false ∙ i.number;
      events =
          ap (λ (n : ℕ). ring_freed n (events_of c.free_one.new.nodes)) (sym i.number)
          ∙ freed-more c.round.nodes c.free_one.new.nodes c.args.e.0 c.next_of-next.result.0 i.kept u c.next_of-next.ensures c.free_one.ensures c.if-next-e.false
          ∙ ap (λ (n : ℕ). ring_freed n (events_of c.round.nodes)) i.number
          ∙ i.events;
    }
