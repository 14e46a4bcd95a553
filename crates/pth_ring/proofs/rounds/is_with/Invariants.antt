use Rattle.std.proofs.Common.{◌≡◌, length}
use Rattle.pth_base.specs.Chain.{StandsIn}
use Rattle.pth_numbered.specs.Numbered.{thing_at}
use Rattle.pth_ring.specs.Ring.{ring_holds}
use Rattle.pth_ring.specs.Links.{ring}
use Rattle.pth_ring.proofs.Going.{places_left}
use Rattle.pth_ring.proofs.rounds.is_with.Given as goal

abbrev pub invariant-round : goal.invariant-round
invariant-round l = record {
  on : StandsIn l.at.0 (ring (thing_at l.nodes) l.e.0);
  same : ring_holds l.a.0 (places_left (thing_at l.nodes) l.e.0 l.at.0) ≡ ring_holds l.a.0 (ring (thing_at l.nodes) l.e.0);
}

abbrev pub decreases-round : goal.decreases-round
decreases-round l = length (places_left (thing_at l.nodes) l.e.0 l.at.0)
