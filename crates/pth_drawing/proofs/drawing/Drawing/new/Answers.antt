use Rattle.std.proofs.Common.{refl}
use Rattle.pth_drawing.proofs.Started.{started}
use Rattle.pth_drawing.proofs.drawing.Drawing.new.Goals as goal

pub returns : goal.returns
returns c = started _ c.args.from c.args.turns c.saturating_sub.ensures refl refl refl c.new.ensures.count c.new.ensures.moments c.new.ensures.tracks
