use Rattle.std.proofs.Common.{arith}
use Rattle.pth_lock.proofs.Bits.{contains-before_first, contains-first}
use Rattle.pth_lock.proofs.sets.first.Goals as goal

pub returns-clause-member : goal.returns-clause-member
returns-clause-member c = contains-first c.args.set c.requires (omega arith)

pub returns-clause-least : goal.returns-clause-least
returns-clause-least c k before = contains-before_first c.args.set c.requires (omega arith) k before
