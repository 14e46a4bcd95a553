use Rattle.std.proofs.Common.{true, false, codes, rules, sym, subst}
use Rattle.std.specs.Prelude.{IfSome}
use Rattle.pth_spelling.specs.Texts.{texts}
use Rattle.pth_transcript.specs.ReadableMarks.{IsReadableMark}
use Rattle.pth_transcript.proofs.LinesBack.{begun}
use Rattle.pth_transcript.proofs.MarksBack.{act_passed, answer_passed, mark_passed, call_passed}
use Rattle.pth_transcript.proofs.ReadMarks.{plain_readable}
use Rattle.pth_transcript.proofs.ToldBack.{first_test}
use Rattle.pth_transcript.proofs.thread.mark_of.Goals as goal

pub returns-then-eq-clause-back : goal.returns-then-eq-clause-back
returns-then-eq-clause-back c =
    act_passed c.args.tid c.act.result _ _ (texts c.args.words.now) (begun c.args.words.now _ c.in-len1-up.len_at_least)
    (first_test _ _ (codes "act") _ true c.eq.ensures c.as_slice.ensures c.if-eq.true) c.act.ensures.back

pub returns-in-Some-clause-back : goal.returns-in-Some-clause-back
returns-in-Some-clause-back c =
    answer_passed c.args.tid c.answered.result _ _ (texts c.args.words.now) (texts c.in-Some.call.now) (texts c.in-Some.answer.now)
    (begun c.args.words.now _ c.in-len1-up.len_at_least)
    (first_test _ _ (codes "act") _ false c.eq.ensures c.as_slice.ensures c.if-eq.false) (sym c.in-Some.ensures) c.answered.ensures.back

pub returns-in-Some-plain-clause-readable : goal.returns-in-Some-plain-clause-readable
returns-in-Some-plain-clause-readable c =
    subst (λ found. IfSome found (IsReadableMark false)) (sym c.in-Some-plain.ensures) (plain_readable c.args.tid (search rules) (texts c.args.words.now))

pub returns-in-Some-plain-clause-back : goal.returns-in-Some-plain-clause-back
returns-in-Some-plain-clause-back c =
    mark_passed c.args.tid c.in-Some-plain.mark _ _ (texts c.args.words.now) (begun c.args.words.now _ c.in-len1-up.len_at_least)
    (first_test _ _ (codes "act") _ false c.eq.ensures c.as_slice.ensures c.if-eq.false) c.in_default-at_equals.ensures c.in-Some-plain.ensures

pub returns-clause-back : goal.returns-clause-back
returns-clause-back c =
    call_passed c.args.tid c.unanswered.result _ _ (texts c.args.words.now) (begun c.args.words.now _ c.in-len1-up.len_at_least)
    (first_test _ _ (codes "act") _ false c.eq.ensures c.as_slice.ensures c.if-eq.false) c.in_default-at_equals.ensures c.in_default-plain.ensures
    c.unanswered.ensures.back
