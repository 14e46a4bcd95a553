use Rattle.std.proofs.Common.{◌∙◌, ap₂}
use Rattle.std.proofs.lemmas.Result.{IfOk-weaker}
use Rattle.clap.specs.Words.{with_rule}
use Rattle.pth_drawing.specs.Words.{picture}
use Rattle.pth_drawing.proofs.words.command.Goals as goal

pub returns : goal.returns
unfolding picture
returns c =
    let one = c.in_ok-arg.ensures.shape c.number.ensures.local ∙ ap₂ with_rule c.bare.ensures c.number.ensures.rule in
    let two = c.in_ok-arg-2.ensures.shape c.number-2.ensures.local ∙ ap₂ with_rule one c.number-2.ensures.rule in
    IfOk-weaker c.arg-3.result _ _ (λ m h. h.shape c.file.ensures.local ∙ ap₂ with_rule two c.file.ensures.rule) c.arg-3.ensures
