use Rattle.pth_kernel.proofs.Knowing.{knows-plain}
use Rattle.pth_kernel.proofs.rules.Rules.go_on.Goals as goal

pub returns-in_default : goal.returns-in_default
returns-in_default c live above k fine = knows-plain c.args.self.now live above c.args.stamp.now c.saturating_add-self.result c.in_default.not-Conn c.in_default.not-Eof c.saturating_add-self.ensures k fine
