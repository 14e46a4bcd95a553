use Rattle.std.proofs.Common.{◌∙◌, arith}
use Rattle.pth_audit.proofs.SamePlaces.{same_by_places}
use Rattle.pth_audit.proofs.block.are_same.Goals as goal

pub returns-clause-yes : goal.returns-clause-yes
returns-clause-yes c = λ yes. same_by_places c.args.ran.now c.args.pending.now.items (c.if-ran-len.false ∙ c.len.ensures ∙ c.args.pending.now.ok.0) (λ k low. c.loop-i.invariant k (let end = c.loop-i-test.false in omega (arith, low, end)))
