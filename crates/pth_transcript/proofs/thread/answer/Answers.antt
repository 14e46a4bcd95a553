use Rattle.std.proofs.Common.{◌∙◌, sym, subst}
use Rattle.std.specs.Prelude.{Bool, IfOk, IfSome}
use Rattle.pth_spelling.specs.Texts.{texts}
use Rattle.pth_transcript.specs.ReadableAnswers.{IsReadableBehind}
use Rattle.pth_transcript.proofs.ActsBack.{plain_passed, name_passed}
use Rattle.pth_transcript.proofs.thread.answer.Goals as goal

pub returns-then-asks_name-clause-back : goal.returns-then-asks_name-clause-back
returns-then-asks_name-clause-back c =
    name_passed c.name_answer.result c.args.call.now (texts c.args.words.now) (sym c.asks_name.ensures ∙ c.if-asks_name.true) c.name_answer.ensures.back

pub returns-then-asks_name-clause-readable : goal.returns-then-asks_name-clause-readable
returns-then-asks_name-clause-readable c =
    subst (λ (b : Bool). IfSome c.name_answer.result (IsReadableBehind b)) (sym (sym c.asks_name.ensures ∙ c.if-asks_name.true)) c.name_answer.ensures.readable

pub returns-clause-back : goal.returns-clause-back
returns-clause-back c =
    plain_passed c.plain_answer.result c.args.call.now (texts c.args.words.now) (sym c.asks_name.ensures ∙ c.if-asks_name.false) c.plain_answer.ensures.back

pub returns-clause-readable : goal.returns-clause-readable
returns-clause-readable c =
    subst (λ (b : Bool). IfOk c.plain_answer.result (λ found. IfSome found (IsReadableBehind b))) (sym (sym c.asks_name.ensures ∙ c.if-asks_name.false))
    c.plain_answer.ensures.readable
