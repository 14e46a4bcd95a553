use Rattle.std.proofs.Common.{◌≡◌, length}
use Rattle.pth_numbered.specs.Numbered.{number_at}
use Rattle.pth_ring.specs.Rings.{ring_freed}
use Rattle.pth_ring.specs.Arena.{ring_of, events_of, AreLinked}
use Rattle.pth_ring.proofs.links.free_all.Given as goal

abbrev pub invariant-round : goal.invariant-round
invariant-round l = record {
  kept : AreLinked l.nodes;
  number : number_at l.nodes l.e.0 ≡ number_at l.fn.nodes l.e.0;
  events : ring_freed (number_at l.fn.nodes l.e.0) (events_of l.nodes) ≡ ring_freed (number_at l.fn.nodes l.e.0) (events_of l.fn.nodes);
}

abbrev pub decreases-round : goal.decreases-round
decreases-round l = length (ring_of l.nodes (number_at l.nodes l.e.0))
