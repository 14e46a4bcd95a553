use Rattle.pth_audit.proofs.HoldsFree.{no_level_in}
use Rattle.pth_audit.proofs.holds.Holds.has_no_level.Goals as goal

pub returns : goal.returns
returns c = no_level_in c.args.t c.args.self.now.owners c.has_some.ensures.ordered c.has_some.result c.has_some.ensures.is
