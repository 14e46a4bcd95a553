use Rattle.std.proofs.Common.{[], ◌∷◌, ◌++◌, Option, arith, refl, subst}
use Rattle.pth_audit.specs.declared.verdict.AuditRule.{AuditRule}
use Rattle.pth_checker.specs.Judging.{IsJudged}
use Rattle.pth_checker.proofs.Heard.{breaks_law, heard_more}
use Rattle.pth_checker.proofs.Judging.{has_room, judged_more}
use Rattle.pth_transcript.specs.Transcript.{marks_of}
use Rattle.pth_checker.proofs.session.Session.judge_mark.Goals as goal

pub returns-in-Ok-None-clause-goes_on : goal.returns-in-Ok-None-clause-goes_on
returns-in-Ok-None-clause-goes_on c = λ content left before read. (
  before ++ c.args.told ∷ [],
  heard_more content left c.args.self.now _ before c.args.told read refl
      (subst (λ (o : Option AuditRule). IsJudged o c.add.new.self (marks_of before) c.args.told.mark) c.in-Ok-None.field-0-is
      (c.in-Ok-None.ensures (marks_of before) read.judges)),
)

pub returns-in-Ok-Some-clause-goes_on : goal.returns-in-Ok-Some-clause-goes_on
returns-in-Ok-Some-clause-goes_on c = λ content left before read.
    breaks_law content left c.args.self.now before c.args.told c.in-Ok-Some.rule c.lines-line.result read c.lines-line.ensures
    (subst (λ (o : Option AuditRule). IsJudged o c.add.new.self (marks_of before) c.args.told.mark) c.in-Ok-Some.field-0-is
    (c.in-Ok-Some.ensures (marks_of before) read.judges))

pub add-requires : goal.add-requires
add-requires c = let line = c.lines-line.ensures in has_room c.args.self.now c.requires (omega arith)

pub returns-in-Ok-None-clause-judged : goal.returns-in-Ok-None-clause-judged
returns-in-Ok-None-clause-judged c = λ none.
    judged_more c.args.self.now _ c.requires c.args.told.mark refl
    (subst (λ (o : Option AuditRule). IsJudged o c.add.new.self c.requires.marks c.args.told.mark) c.in-Ok-None.field-0-is
    (c.in-Ok-None.ensures c.requires.marks c.requires.judges))
