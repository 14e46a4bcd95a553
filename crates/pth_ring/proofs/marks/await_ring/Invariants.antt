use Rattle.std.proofs.Common.{◌≡◌, length}
use Rattle.pth_base.specs.Chain.{StandsIn}
use Rattle.pth_numbered.specs.Numbered.{thing_at}
use Rattle.pth_ring.specs.Links.{event_at, ring}
use Rattle.pth_ring.proofs.Going.{places_left}
use Rattle.pth_ring.specs.Arena.{AreLinked, SamePlaces}
use Rattle.pth_ring.proofs.Awaits.{awaited_in}
use Rattle.pth_ring.proofs.marks.await_ring.Given as goal

abbrev pub invariant-round : goal.invariant-round
invariant-round l = record {
  kept : AreLinked l.nodes;
  places : SamePlaces l.fn.nodes l.nodes;
  rings : ring (thing_at l.nodes) ≡ ring (thing_at l.fn.nodes);
  on : StandsIn l.at.0 (ring (thing_at l.nodes) l.e.0);
  event : awaited_in l.now (places_left (thing_at l.nodes) l.e.0 l.at.0) (event_at (thing_at l.nodes)) ≡ awaited_in l.now (ring (thing_at l.fn.nodes) l.e.0) (event_at (thing_at l.fn.nodes));
}

abbrev pub decreases-round : goal.decreases-round
decreases-round l = length (places_left (thing_at l.nodes) l.e.0 l.at.0)
