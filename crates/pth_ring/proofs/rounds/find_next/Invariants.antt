use Rattle.std.proofs.Common.{◌≡◌, [], ◌∷◌, ◌++◌, length, find}
use Rattle.pth_base.specs.Chain.{StandsIn}
use Rattle.pth_numbered.specs.Numbered.{thing_at}
use Rattle.pth_ring.specs.Ring.{rest_of, turned_once}
use Rattle.pth_ring.specs.Links.{event_at, ring}
use Rattle.pth_ring.proofs.Going.{places_left}
use Rattle.pth_ring.specs.Rings.{has_occurred}
use Rattle.pth_ring.proofs.rounds.find_next.Given as goal

abbrev pub invariant-round : goal.invariant-round
invariant-round l = record {
  on : StandsIn l.at.0 (ring (thing_at l.nodes) l.e.0);
  same : find (λ y. has_occurred (event_at (thing_at l.nodes) y)) (rest_of (places_left (thing_at l.nodes) l.e.0 l.at.0) ++ l.e.0 ∷ []) ≡ find (λ y. has_occurred (event_at (thing_at l.nodes) y)) (turned_once (ring (thing_at l.nodes) l.e.0));
}

abbrev pub decreases-round : goal.decreases-round
decreases-round l = length (places_left (thing_at l.nodes) l.e.0 l.at.0)
