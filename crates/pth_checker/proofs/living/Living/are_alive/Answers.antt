use Rattle.std.proofs.Common.{◌∙◌, sym}
use Rattle.pth_checker.proofs.Alive.{some_others, told_apart}
use Rattle.pth_checker.proofs.living.Living.are_alive.Goals as goal

pub returns-then-len-threads : goal.returns-then-len-threads
returns-then-len-threads c = some_others c.args.self.now c.args.threads.now c.len.ensures.ordered (λ same. c.if-len-threads.true (c.len.ensures.len ∙ same))

pub returns : goal.returns
returns c = told_apart c.args.self.now c.args.threads.now c.len.ensures.ordered _ (sym c.len.ensures.len ∙ c.if-len-threads.false)
    c.are_numbers_of.ensures.yes c.are_numbers_of.ensures.no
