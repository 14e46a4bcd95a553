use Rattle.pth_kernel.proofs.Knowing.{stays_faultless}
use Rattle.pth_kernel.proofs.trace.Trace.push.Goals as goal

pub returns-in_err-push-clause-faultless : goal.returns-in_err-push-clause-faultless
returns-in_err-push-clause-faultless c = stays_faultless c.args.self.now c.args.stamp

pub returns-clause-faultless : goal.returns-clause-faultless
returns-clause-faultless c = stays_faultless c.args.self.now c.args.stamp
