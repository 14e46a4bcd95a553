use Rattle.std.proofs.Common.{◌≡◌, ◌∙◌, false, codes, sym, ap, subst}
use Rattle.std.specs.Prelude.{IfSome}
use Rattle.pth_spelling.specs.Texts.{texts}
use Rattle.pth_transcript.specs.ReadableMarks.{IsReadableEnding, IsEndingBack}
use Rattle.pth_transcript.proofs.EndingsBack.{begins_stalled, other_back}
use Rattle.pth_transcript.proofs.LinesBack.{begun}
use Rattle.pth_transcript.proofs.ReadMarks.{other_readable}
use Rattle.pth_transcript.proofs.ToldBack.{first_test}
use Rattle.pth_transcript.proofs.ending.ending_by.Goals as goal

pub returns-clause-back : goal.returns-clause-back
returns-clause-back c =
    let other : begins_stalled (texts c.args.words.now) ≡ false =
    ap begins_stalled (begun c.args.words.now _ c.in-len1-up.len_at_least) ∙ first_test _ _ (codes "stalled") _ false c.eq.ensures c.as_slice.ensures c.if-eq.false in
    subst (IsEndingBack (texts c.args.words.now)) (sym c.other.ensures) (other_back (texts c.args.words.now) other)

pub returns-clause-readable : goal.returns-clause-readable
returns-clause-readable c = subst (λ r. IfSome r IsReadableEnding) (sym c.other.ensures) (other_readable (texts c.args.words.now))
