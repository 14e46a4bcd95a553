use Rattle.std.proofs.Common.{arith}
use Rattle.std.proofs.lemmas.Bool.Decides.{nat_tests}
use Rattle.pth_kernel.proofs.Knowing.{contains-past}
use Rattle.pth_kernel.proofs.rules.has.Goals as goal

pub returns-else-fd-lt64 : goal.returns-else-fd-lt64
returns-else-fd-lt64 c = let past = contains-past c.args.set.0 c.args.fd.0 (omega arith) c.if-fd-lt64.false in grind (arith, nat_tests)
