use Rattle.std.proofs.Common.{◌≡◌, ◌+◌, length, count_by}
use Rattle.pth_base.specs.Chain.{StandsIn}
use Rattle.pth_numbered.specs.Numbered.{thing_at}
use Rattle.pth_ring.specs.Links.{event_at, ring}
use Rattle.pth_ring.proofs.Going.{places_left}
use Rattle.pth_ring.specs.Rings.{is_settled}
use Rattle.pth_ring.proofs.rounds.count_settled.Given as goal

abbrev pub invariant-round : goal.invariant-round
invariant-round l = record {
  on : StandsIn l.at.0 (ring (thing_at l.nodes) l.e.0);
  sum : l.count + count_by (λ y. is_settled (event_at (thing_at l.nodes) y)) (places_left (thing_at l.nodes) l.e.0 l.at.0) ≡ count_by (λ y. is_settled (event_at (thing_at l.nodes) y)) (ring (thing_at l.nodes) l.e.0);
}

abbrev pub decreases-round : goal.decreases-round
decreases-round l = length (places_left (thing_at l.nodes) l.e.0 l.at.0)
