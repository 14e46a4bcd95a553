use Rattle.pth_drawing.specs.Picture.{stretch_line}
use Rattle.pth_drawing.proofs.Lines.{one_more}
use Rattle.pth_drawing.proofs.svg.add_stretches.Goals as goal

pub loop-stretch-preserved : goal.loop-stretch-preserved
loop-stretch-preserved c =
    one_more (stretch_line c.args.top) c.args.stretches.now c.loop-stretch.stretch-index _ c.args.out.now c.loop-stretch.out _
    c.loop-stretch-test.true c.loop-stretch.invariant c.in_ok-add_stretch.ensures
