use Rattle.std.proofs.Common.{subst, Some, None}
use Rattle.pth_text.specs.LineWords.{words_of}
use Rattle.pth_transcript.specs.ReadableMarks.{IsToldBack}
use Rattle.pth_transcript.proofs.ToldBack.{line_told, line_refused}
use Rattle.pth_transcript.proofs.told.read_line.Goals as goal

pub returns-in_default-clause-back : goal.returns-in_default-clause-back
returns-in_default-clause-back c =
    line_told c.args.line.now None (subst (IsToldBack (words_of c.args.line.now)) c.in_default.is c.in_ok-told.ensures.back)

pub returns-then-branch-clause-back : goal.returns-then-branch-clause-back
returns-then-branch-clause-back c =
    line_told c.args.line.now (Some c.in-Some.told) (subst (IsToldBack (words_of c.args.line.now)) c.in-Some.is c.in_ok-told.ensures.back)

pub returns-else-branch-clause-back : goal.returns-else-branch-clause-back
returns-else-branch-clause-back c =
    line_refused c.args.line.now c.in-Some.told _
    (line_told c.args.line.now (Some c.in-Some.told) (subst (IsToldBack (words_of c.args.line.now)) c.in-Some.is c.in_ok-told.ensures.back))
    c.in_ok-is_printed.ensures.printed c.if-branch.false
