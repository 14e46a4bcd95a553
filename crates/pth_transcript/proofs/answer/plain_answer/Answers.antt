use Rattle.std.proofs.Common.{sym, subst}
use Rattle.std.specs.Prelude.{IfSome}
use Rattle.pth_transcript.specs.ReadableAnswers.{IsReadablePlainAnswer}
use Rattle.pth_transcript.proofs.AnswersBack.{message_passed, sets_passed}
use Rattle.pth_transcript.proofs.ReadAnswers.{message_readable, sets_readable}
use Rattle.pth_transcript.proofs.answer.plain_answer.Goals as goal

pub returns-in-len4-clause-back : goal.returns-in-len4-clause-back
returns-in-len4-clause-back c = message_passed c.args.words.now _ c.message.result c.in-len4.len_at_least c.in-len4.len_below c.message.ensures

pub returns-in-len4-clause-readable : goal.returns-in-len4-clause-readable
returns-in-len4-clause-readable c = subst (λ r. IfSome r IsReadablePlainAnswer) (sym c.message.ensures) (message_readable _ _)

pub returns-in-len5-clause-readable : goal.returns-in-len5-clause-readable
returns-in-len5-clause-readable c = subst (λ r. IfSome r IsReadablePlainAnswer) (sym c.sets.ensures) (sets_readable _ _ _ _)

pub returns-in-len5-clause-back : goal.returns-in-len5-clause-back
returns-in-len5-clause-back c = sets_passed c.args.words.now _ c.sets.result c.in-len5.len_at_least c.in-len5.len_below c.sets.ensures
