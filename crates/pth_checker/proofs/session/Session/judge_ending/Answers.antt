use Rattle.std.proofs.Common.{◌∙◌, ap, refl}
use Rattle.pth_checker.proofs.Heard.{ends_lawfully, ends_unfittingly, goes_past_ending}
use Rattle.pth_transcript.specs.Transcripts.{next_line}
use Rattle.pth_transcript.specs.Transcript.{marks_of}
use Rattle.pth_checker.proofs.session.Session.judge_ending.Goals as goal

pub returns-then-not-fits-clause-comes_to : goal.returns-then-not-fits-clause-comes_to
returns-then-not-fits-clause-comes_to g c = λ content told read.
    ends_unfittingly content _ c.args.self.now told c.args.ending.now c.lines-line.result read c.lines-line.ensures
    (λ fits. let h = (c.if-not-fits.ensures (marks_of told) read.judges).1 fits in cc h)

pub returns-then-branch-clause-comes_to : goal.returns-then-branch-clause-comes_to
returns-then-branch-clause-comes_to g c = λ content told read.
    ends_lawfully content _ c.args.self.now told c.args.ending.now c.lines-line.result _ read c.lines-line.ensures
    (c.in_ok-is_over.ensures.over c.if-branch.true) ((c.if-not-fits.ensures (marks_of told) read.judges).0 refl)

pub returns-else-branch-clause-comes_to : goal.returns-else-branch-clause-comes_to
returns-else-branch-clause-comes_to g c = λ content told read. (
  goes_past_ending content _ c.args.self.now told c.args.ending.now c.saturating_add.result _ read
      (c.saturating_add.ensures ∙ ap next_line c.lines-line.ensures) (c.in_ok-is_over.ensures.more c.if-branch.false) ((c.if-not-fits.ensures (marks_of told) read.judges).0 refl),
  refl,
)
