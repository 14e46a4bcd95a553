use Rattle.std.proofs.Common.{◌≡◌, ◌++◌, codes, subst}
use Rattle.std.specs.Prelude.{IfSome}
use Rattle.pth_transcript.proofs.ToldParts.{ending_told, mark_told}
use Rattle.pth_transcript.specs.ReadableMarks.{IsEndingLineBack, IsLineBack, IsReadableEnding, IsReadableTold}
use Rattle.pth_transcript.specs.Transcript.{ending_line, told_line}
use Rattle.pth_transcript.proofs.reader.read_part.Goals as goal

pub returns-in-Some-clause-told : goal.returns-in-Some-clause-told
returns-in-Some-clause-told c =
    let line = c.args.line.now in
    mark_told line c.in-Some.told
    (subst (λ found. IfSome found (λ told. line ++ codes "\n" ≡ told_line told)) c.in-Some.is c.in_ok-told.ensures.spelled)
    (subst (λ found. IfSome found IsReadableTold) c.in-Some.is c.in_ok-told.ensures.readable)
    (subst (IsLineBack line) c.in-Some.is c.in_ok-told.ensures.back)

pub returns-in-Some-2-clause-told : goal.returns-in-Some-2-clause-told
returns-in-Some-2-clause-told c =
    let line = c.args.line.now in
    ending_told line c.in-Some-2.ending
    (subst (λ found. IfSome found (λ ending. line ++ codes "\n" ≡ ending_line ending)) c.in-Some-2.is c.in_ok-ending.ensures.spelled)
    (subst (λ found. IfSome found IsReadableEnding) c.in-Some-2.is c.in_ok-ending.ensures.readable)
    (subst (IsLineBack line) c.in_default.is c.in_ok-told.ensures.back)
    (subst (IsEndingLineBack line) c.in-Some-2.is c.in_ok-ending.ensures.back)
