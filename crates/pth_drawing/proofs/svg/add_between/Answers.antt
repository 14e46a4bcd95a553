use Rattle.pth_drawing.proofs.Within.{lanes_within}
use Rattle.pth_drawing.proofs.svg.add_between.Goals as goal

pub add_lanes-requires-clause-within : goal.add_lanes-requires-clause-within
add_lanes-requires-clause-within c =
    rw (c.deref-2.ensures.value) (lanes_within c.args.chart.now c.requires.within)
