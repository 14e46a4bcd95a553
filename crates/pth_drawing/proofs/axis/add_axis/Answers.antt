use Rattle.std.proofs.Common.{◌+◌, ◌*◌, ℕ}
use Rattle.pth_drawing.specs.Picture.{tick_line}
use Rattle.pth_drawing.proofs.Lines.{one_count_more}
use Rattle.pth_drawing.proofs.axis.add_axis.Goals as goal

pub loop-k-preserved : goal.loop-k-preserved
loop-k-preserved c =
    one_count_more (λ (k : ℕ). tick_line c.args.top c.args.bottom (10 * k) (c.args.from + 10 * k)) c.loop-k.k c.args.out.now c.loop-k.out _
    c.loop-k.invariant c.in_ok-add_tick.ensures
