use Rattle.std.proofs.Common.{◌∙◌, ap₂}
use Rattle.std.proofs.lemmas.Result.{IfOk-weaker}
use Rattle.clap.specs.Words.{with_rule}
use Rattle.pth_checker.specs.Words.{checker}
use Rattle.pth_checker.proofs.words.command.Goals as goal

pub returns : goal.returns
unfolding checker
returns c = IfOk-weaker c.arg.result _ _ (λ m h. h.shape c.file.ensures.local ∙ ap₂ with_rule c.bare.ensures c.file.ensures.rule) c.arg.ensures
