use Rattle.pth_audit.proofs.HoldsFree.{reads_none}
use Rattle.pth_audit.proofs.holds.Holds.reads_nowhere.Goals as goal

pub returns : goal.returns
returns c = reads_none c.args.t c.args.self.now.readers c.reads_some.result c.reads_some.ensures
