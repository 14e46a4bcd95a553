use Rattle.std.proofs.Common.{arith}
use Rattle.pth_lock.proofs.Bits.{contains-without, without_less}
use Rattle.pth_lock.proofs.sets.without.Goals as goal

pub returns-clause-objects : goal.returns-clause-objects
returns-clause-objects c = contains-without c.args.set c.args.k c.requires (omega arith)

pub returns-clause-less : goal.returns-clause-less
returns-clause-less c member = without_less c.args.set c.args.k c.requires member
