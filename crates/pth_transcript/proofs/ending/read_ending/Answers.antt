use Rattle.std.proofs.Common.{subst, Some, None}
use Rattle.pth_text.specs.LineWords.{words_of}
use Rattle.pth_transcript.specs.ReadableMarks.{IsEndingBack}
use Rattle.pth_transcript.proofs.EndingsBack.{line_ending, ending_refused}
use Rattle.pth_transcript.proofs.ending.read_ending.Goals as goal

pub returns-in_default-clause-back : goal.returns-in_default-clause-back
returns-in_default-clause-back c =
    line_ending c.args.line.now None (subst (IsEndingBack (words_of c.args.line.now)) c.in_default.is c.in_ok-ending.ensures.back)

pub returns-then-branch-clause-back : goal.returns-then-branch-clause-back
returns-then-branch-clause-back c =
    line_ending c.args.line.now (Some c.in-Some.ending) (subst (IsEndingBack (words_of c.args.line.now)) c.in-Some.is c.in_ok-ending.ensures.back)

pub returns-else-branch-clause-back : goal.returns-else-branch-clause-back
returns-else-branch-clause-back c =
    ending_refused c.args.line.now c.in-Some.ending _
    (line_ending c.args.line.now (Some c.in-Some.ending) (subst (IsEndingBack (words_of c.args.line.now)) c.in-Some.is c.in_ok-ending.ensures.back))
    c.in_ok-is_printed.ensures.printed c.if-branch.false
