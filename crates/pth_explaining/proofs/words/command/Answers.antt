use Rattle.std.proofs.Common.{◌∙◌, ap₂}
use Rattle.std.proofs.lemmas.Result.{IfOk-weaker}
use Rattle.clap.specs.Words.{with_rule}
use Rattle.pth_explaining.specs.Words.{explainer}
use Rattle.pth_explaining.proofs.words.command.Goals as goal

pub returns : goal.returns
unfolding explainer
returns c = IfOk-weaker c.arg.result _ _ (λ m h. h.shape c.file.ensures.local ∙ ap₂ with_rule c.bare.ensures c.file.ensures.rule) c.arg.ensures
