use Rattle.pth_ring.specs.Claims.{without_claims}
use Rattle.pth_ring.specs.Arena.{AreLinked}
use Rattle.pth_ring.proofs.Releases.{IsReleased}
use Rattle.pth_ring.proofs.marks.release_all.Given as goal

abbrev pub invariant-loop-place : goal.invariant-loop-place
invariant-loop-place l = record {
  kept : AreLinked l.nodes;
  so_far : IsReleased (without_claims l.gone) l.place l.fn.nodes l.nodes;
}
