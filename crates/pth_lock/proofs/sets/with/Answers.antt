use Rattle.pth_lock.proofs.Bits.{contains-with}
use Rattle.pth_lock.proofs.sets.with.Goals as goal

pub returns : goal.returns
returns c = contains-with c.args.set c.args.k c.requires
