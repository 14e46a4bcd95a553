use Rattle.pth_script.specs.Labels.{place_after}
use Rattle.pth_script.proofs.body.Body.new.Goals as goal

pub invariant_of-result : goal.invariant_of-result
unfolding place_after
invariant_of-result c = λ k. rw (c.new-2.ensures.empty, c.new.ensures.items)
