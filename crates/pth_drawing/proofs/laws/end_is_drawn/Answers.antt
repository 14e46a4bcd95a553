use Rattle.pth_drawing.proofs.AtEnd.{shows_end}
use Rattle.pth_drawing.proofs.laws.end_is_drawn.Goals as goal

pub returns : goal.returns
returns c = shows_end
