use Rattle.pth_drawing.specs.Picture.{cross_line}
use Rattle.pth_drawing.proofs.Lines.{one_more}
use Rattle.pth_drawing.proofs.svg.add_crosses.Goals as goal

pub loop-column-preserved : goal.loop-column-preserved
loop-column-preserved c =
    one_more (cross_line c.args.top) c.args.columns.now c.loop-column.column-index 0 c.args.out.now c.loop-column.out _
    c.loop-column-test.true c.loop-column.invariant c.in_ok-add_cross.ensures
