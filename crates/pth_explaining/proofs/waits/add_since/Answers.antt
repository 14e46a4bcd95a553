use Rattle.std.proofs.Common.{append_assoc}
use Rattle.pth_explaining.proofs.waits.add_since.Goals as goal

pub returns : goal.returns
returns c = simp append_assoc c.add_pieces.ensures
