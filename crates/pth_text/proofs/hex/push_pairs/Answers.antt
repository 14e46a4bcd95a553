use Rattle.std.proofs.Common.{arith}
use Rattle.pth_text.proofs.Pairs.{all_pairs}
use Rattle.pth_text.proofs.hex.push_pairs.Goals as goal

pub returns : goal.returns
returns c = all_pairs _ _ c.args.digits.now _ c.loop-rest.invariant.same (omega arith)
