use Rattle.pth_audit.proofs.HoldsFree.{writes_none}
use Rattle.pth_audit.proofs.holds.Holds.writes_nowhere.Goals as goal

pub returns : goal.returns
returns c = writes_none c.args.t c.args.self.now.writers c.writes_some.ensures.ordered c.writes_some.result c.writes_some.ensures.is
