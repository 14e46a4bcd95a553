use Rattle.std.proofs.Common.{sym, subst, None}
use Rattle.pth_spelling.specs.Texts.{texts}
use Rattle.pth_transcript.specs.ReadableMarks.{IsThreadMarkBack}
use Rattle.pth_transcript.proofs.LinesBack.{begun}
use Rattle.pth_transcript.proofs.MarksBack.{thread_passed, no_thread_back}
use Rattle.pth_transcript.proofs.thread.thread_mark.Goals as goal

pub returns-in-Some-clause-back : goal.returns-in-Some-clause-back
returns-in-Some-clause-back c =
    thread_passed c.in-Some.tid c.mark_of.result _ _ (texts c.args.words.now) (begun c.args.words.now _ c.in-len1-up.len_at_least) c.in-Some.ensures c.mark_of.ensures.back

pub returns-in-None-clause-back : goal.returns-in-None-clause-back
returns-in-None-clause-back c =
    subst (λ ws. IsThreadMarkBack ws None) (sym (begun c.args.words.now _ c.in-len1-up.len_at_least)) (no_thread_back None _ _ c.in-None.ensures)
