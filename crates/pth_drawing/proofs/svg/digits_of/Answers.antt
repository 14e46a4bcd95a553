use Rattle.std.proofs.Common.{arith}
use Rattle.std.proofs.lemmas.Fmt.{length-decimal-le}
use Rattle.pth_drawing.proofs.svg.digits_of.Goals as goal

pub returns-clause-small : goal.returns-clause-small
returns-clause-small c = omega (arith, length-decimal-le 20 c.args.n (omega arith) (omega arith) (omega arith))
