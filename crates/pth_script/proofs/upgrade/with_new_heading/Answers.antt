use Rattle.std.proofs.Common.{◌∙◌, ◌++◌, ap, sym}
use Rattle.std.proofs.lemmas.Result.{IfOk-weaker}
use Rattle.pth_script.specs.Upgrade.{new_heading}
use Rattle.pth_script.proofs.Upgrading.{kept_text, headed_text}
use Rattle.pth_script.proofs.upgrade.with_new_heading.Goals as goal

pub returns-in_default : goal.returns-in_default
returns-in_default c = IfOk-weaker c.from_slice.result _ _ (λ text is. is ∙ sym (kept_text c.args.bytes.now c.in_default.ensures.cases)) c.from_slice.ensures

pub returns : goal.returns
returns c =
    let found = c.in-Some.ensures.cases in
    let made = c.as_slice.ensures ∙ c.in_ok-push-2.ensures.ok ∙ (λ i. (c.in_ok-push.ensures.ok ∙ ap (λ t. t ++ new_heading) c.new-text.ensures) i ++ found.1 i) in
    IfOk-weaker c.from_slice-2.result _ _ (λ text is. is ∙ made ∙ sym (headed_text c.args.bytes.now found.0)) c.from_slice-2.ensures
