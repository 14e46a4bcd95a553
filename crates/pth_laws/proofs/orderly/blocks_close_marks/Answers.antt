use Rattle.pth_laws.proofs.OrderlyMarks.{parts}
use Rattle.pth_laws.proofs.orderly.blocks_close_marks.Goals as goal

pub returns : goal.returns
returns c = parts
