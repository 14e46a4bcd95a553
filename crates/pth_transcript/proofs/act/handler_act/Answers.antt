use Rattle.std.proofs.Common.{◌∙◌, sym, subst}
use Rattle.std.specs.Prelude.{IfSome}
use Rattle.pth_spelling.specs.Texts.{texts}
use Rattle.pth_transcript.specs.AnswerMeanings.{IsReadableActed}
use Rattle.pth_transcript.proofs.ActsBack.{acted_passed, acted_whole, acted_back}
use Rattle.pth_transcript.proofs.ReadAnswers.{silent_readable}
use Rattle.pth_transcript.proofs.act.handler_act.Goals as goal

pub returns-in-Some-clause-back : goal.returns-in-Some-clause-back
returns-in-Some-clause-back c =
    acted_passed c.answered.result (texts c.in-Some.act.now) (texts c.in-Some.answer.now) (texts c.args.words.now) c.in-Some.ensures c.answered.ensures.back

pub returns-in-None-clause-readable : goal.returns-in-None-clause-readable
returns-in-None-clause-readable c =
    subst (λ r. IfSome r IsReadableActed) (sym c.silent.ensures) (silent_readable (texts c.args.words.now))

pub returns-in-None-clause-back : goal.returns-in-None-clause-back
returns-in-None-clause-back c = λ x a fine e. c.silent.ensures ∙ acted_whole (texts c.args.words.now) x a (acted_back x a fine) c.in-None.ensures e
