use Rattle.std.proofs.Common.{◌∙◌, ap₂}
use Rattle.std.proofs.lemmas.Result.{IfOk-weaker}
use Rattle.clap.specs.Words.{with_rule}
use Rattle.pth_command.specs.Command.{play}
use Rattle.pth_command.proofs.command.command.Goals as goal

pub returns : goal.returns
unfolding play
returns c =
    let one = c.in_ok-arg.ensures.shape c.steps.ensures.local ∙ ap₂ with_rule c.bare.ensures c.steps.ensures.rule in
    let two = c.in_ok-arg-2.ensures.shape c.flag.ensures.local ∙ ap₂ with_rule one c.flag.ensures.rule in
    let three = c.in_ok-arg-3.ensures.shape c.flag-2.ensures.local ∙ ap₂ with_rule two c.flag-2.ensures.rule in
    let four = c.in_ok-arg-4.ensures.shape c.flag-3.ensures.local ∙ ap₂ with_rule three c.flag-3.ensures.rule in
    let five = c.in_ok-arg-5.ensures.shape c.generate.ensures.local ∙ ap₂ with_rule four c.generate.ensures.rule in
    IfOk-weaker c.arg-6.result _ _ (λ m h. h.shape c.file.ensures.local ∙ ap₂ with_rule five c.file.ensures.rule) c.arg-6.ensures
