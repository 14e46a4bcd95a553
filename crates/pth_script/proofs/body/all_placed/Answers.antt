use Rattle.pth_script.specs.Labels.{with_places}
use Rattle.pth_script.proofs.body.all_placed.Goals as goal

pub loop-line-init : goal.loop-line-init
unfolding with_places
loop-line-init c = rw (c.new-closed.ensures, c.into_iter-line-iterator.ensures.into_iter_gives.0)
