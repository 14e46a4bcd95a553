use Rattle.std.proofs.Common.{◌∙◌, sym, arith}
use Rattle.pth_grammar.proofs.ArgumentLemmas.{one_more, one_wrong}
use Rattle.pth_grammar.proofs.arguments.arguments.Goals as goal

pub returns-in_default : goal.returns-in_default
returns-in_default c =
    let turn = c.loop-i-test.true in
    let same = c.if-forms-words.false in
    one_wrong c.args.forms.now c.args.words.now c.loop-i.i _ _ c.loop-i.arguments turn (omega arith) (sym c.in_default.is ∙ c.in_ok-argument.ensures) ∙ c.loop-i.invariant

pub loop-i-preserved : goal.loop-i-preserved
loop-i-preserved c =
    let turn = c.loop-i-test.true in
    let same = c.if-forms-words.false in
    one_more c.args.forms.now c.args.words.now c.loop-i.i _ _ c.loop-i.arguments _ _ turn (omega arith) (sym c.in-Some.is ∙ c.in_ok-argument.ensures) c.in_ok-push.ensures
    ∙ c.loop-i.invariant
