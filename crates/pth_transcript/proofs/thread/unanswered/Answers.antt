use Rattle.std.proofs.Common.{◌-◌, false, length, take, rules, sym, subst}
use Rattle.std.specs.Prelude.{IfSome}
use Rattle.pth_spelling.specs.Texts.{texts}
use Rattle.pth_transcript.specs.ReadBack.{IsReadBack}
use Rattle.pth_transcript.specs.Readable.{IsReadable}
use Rattle.pth_transcript.specs.ReadableMarks.{IsReadableMark}
use Rattle.pth_transcript.proofs.MarksBack.{no_call_passed}
use Rattle.pth_transcript.proofs.ReadMarks.{unanswered_readable}
use Rattle.pth_transcript.proofs.thread.unanswered.Goals as goal

pub returns-in_default-2-clause-back : goal.returns-in_default-2-clause-back
returns-in_default-2-clause-back c =
    let words = c.args.words.now in
    no_call_passed c.args.tid words c.in-len1-up.len_at_least
    (subst (λ found. IsReadBack (texts (take (length words - 1) words)) found) c.in_default-2.is c.in_ok-call.ensures.back)

pub returns-clause-readable : goal.returns-clause-readable
returns-clause-readable c =
    subst (λ found. IfSome found (IsReadableMark false)) (sym c.unfinished.ensures)
    (unanswered_readable c.args.tid (search rules) _ c.in-Some.call (subst (λ found. IfSome found IsReadable) c.in-Some.is c.in_ok-call.ensures.readable))
