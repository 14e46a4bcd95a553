use Rattle.std.proofs.Common.{◌≡◌, arith}
use Rattle.pth_ring.specs.Claims.{without_claims}
use Rattle.pth_ring.proofs.Releases.{released-start, released-step, released-end}
use Rattle.pth_ring.proofs.marks.release_all.Goals as goal

pub loop-place-init : goal.loop-place-init
loop-place-init c = record { kept = c.requires; so_far = released-start c.args.nodes.now (without_claims c.args.gone) }

pub loop-place-preserved : goal.loop-place-preserved
loop-place-preserved c = record {
  kept = c.release_place.ensures.kept;
  so_far = released-step _ _ _ (without_claims c.args.gone) c.loop-place.place c.requires c.loop-place.invariant.so_far c.release_place.ensures;
}

pub returns-clause-events : goal.returns-clause-events
returns-clause-events c =
    let end : c.loop-place.place ≡ c.slots_end-end.result = omega arith in
    released-end c.args.nodes.now c.loop-place.nodes (without_claims c.args.gone) c.loop-place.place c.requires c.loop-place.invariant.kept (rw end c.slots_end-end.ensures.past) c.loop-place.invariant.so_far
