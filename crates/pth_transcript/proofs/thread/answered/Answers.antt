use Rattle.std.proofs.Common.{◌≡◌, rules, subst}
use Rattle.std.specs.Prelude.{IfSome, option_map}
use Rattle.pth_base.specs.declared.mark.Mark.TheVariants as mark
use Rattle.pth_spelling.specs.Texts.{texts}
use Rattle.pth_transcript.specs.ReadBack.{IsReadBack}
use Rattle.pth_transcript.specs.Readable.{IsReadable}
use Rattle.pth_transcript.proofs.MarksBack.{answered_back, no_call_answered}
use Rattle.pth_transcript.proofs.ReadMarks.{answered_readable}
use Rattle.pth_transcript.proofs.thread.answered.Goals as goal

pub returns-in_default-clause-back : goal.returns-in_default-clause-back
returns-in_default-clause-back c =
    no_call_answered c.args.tid (texts c.args.words.now) (texts c.args.answer_texts.now)
    (subst (IsReadBack (texts c.args.words.now)) c.in_default.is c.in_ok-call.ensures.back)

pub returns-clause-back : goal.returns-clause-back
returns-clause-back c =
    let mapped : c.map.result ≡ option_map (λ a. mark.Answered c.args.tid c.in-Some.call a) c.in_ok-answer.field-0 = search rules in
    answered_back c.args.tid (texts c.args.words.now) (texts c.args.answer_texts.now) c.in-Some.call c.in_ok-answer.field-0 c.map.result
    (subst (IsReadBack (texts c.args.words.now)) c.in-Some.is c.in_ok-call.ensures.back) c.in_ok-answer.ensures.back mapped

pub returns-clause-readable : goal.returns-clause-readable
returns-clause-readable c =
    let mapped : c.map.result ≡ option_map (λ a. mark.Answered c.args.tid c.in-Some.call a) c.in_ok-answer.field-0 = search rules in
    answered_readable c.args.tid (search rules) c.in-Some.call c.in_ok-answer.field-0 c.map.result mapped
    (subst (λ found. IfSome found IsReadable) c.in-Some.is c.in_ok-call.ensures.readable) c.in_ok-answer.ensures.readable
