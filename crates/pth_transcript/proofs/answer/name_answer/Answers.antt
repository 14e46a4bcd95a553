use Rattle.std.proofs.Common.{sym, subst}
use Rattle.std.specs.Prelude.{IfSome}
use Rattle.pth_transcript.specs.ReadableAnswers.{IsReadableNameAnswer}
use Rattle.pth_transcript.proofs.AnswersBack.{refused_passed, text_passed}
use Rattle.pth_transcript.proofs.ReadAnswers.{name_refusal, name_readable}
use Rattle.pth_transcript.proofs.answer.name_answer.Goals as goal

pub returns-in-Some-clause-back : goal.returns-in-Some-clause-back
returns-in-Some-clause-back c = refused_passed c.args.words.now _ c.in-Some.answer c.in-len1.len_at_least c.in-len1.len_below c.in-Some.ensures

pub returns-in-Some-clause-readable : goal.returns-in-Some-clause-readable
returns-in-Some-clause-readable c = subst (λ r. IfSome r IsReadableNameAnswer) (sym c.in-Some.ensures) (name_refusal _)

pub returns-in-None-clause-back : goal.returns-in-None-clause-back
returns-in-None-clause-back c =
    text_passed c.args.words.now _ c.text.result c.in-len1.len_at_least c.in-len1.len_below c.in-None.ensures c.text.ensures

pub returns-in-None-clause-readable : goal.returns-in-None-clause-readable
returns-in-None-clause-readable c = subst (λ r. IfSome r IsReadableNameAnswer) (sym c.text.ensures) (name_readable _)
