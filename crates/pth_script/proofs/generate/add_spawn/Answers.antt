use Rattle.std.proofs.Common.{◌∙◌, ◌++◌, ap, SFits, w64, to_z-of_z, rules}
use Rattle.std.specs.Fmt.{signed_decimal}
use Rattle.std.proofs.lemmas.Result.{on_ok_weaker}
use Rattle.pth_script.proofs.Generating.{five_pieces}
use Rattle.pth_script.proofs.generate.add_spawn.Goals as goal

pub returns : goal.returns
returns c =
    let fits : SFits w64 c.priority.result = search rules in
    let number = c.in_ok-number.ensures.ok ∙ ap (λ z. c.push.new.self ++ signed_decimal z) (to_z-of_z fits ∙ c.priority.ensures) in
    on_ok_weaker c.push-3.result (λ last. five_pieces c.args.text.now _ _ _ _ _ _ _ _ _ _ c.in_ok-push.ensures.ok number c.in_ok-push-2.ensures.ok c.in_ok-natural.ensures.ok last) c.push-3.ensures.ok
