-- What a judge follows, and what it says of one mark more.
use Rattle.std.specs.Prelude.{◌+◌, ◌<◌, ◌^◌, List, [], ◌∷◌, ◌++◌, length, Option, Some, None}
use Rattle.pth_base.specs.declared.mark.Mark.{Mark}
use Rattle.pth_audit.specs.Auditing.{Follows}
use Rattle.pth_audit.specs.Verdicts.{BreaksFirst}
use Rattle.pth_audit.specs.declared.verdict.AuditRule.{AuditRule}
use Rattle.pth_checker.specs.Following.{FollowsLiving}
use Rattle.pth_checker.specs.declared.judge.Judge.{Judge}

-- a judge follows a list of lawful marks
pub record Judges (j : Judge) (marks : List Mark) : Type 0 where
  pub laws : Follows j.auditor marks
  pub living : FollowsLiving j.living marks

-- a judge follows fewer than 2^64 - 1 marks, so the auditor's counts have room for one mark more
pub record HasRoom (j : Judge) : Type 0 where
  pub marks : List Mark
  pub judges : Judges j marks
  pub few : length marks + 1 < 2 ^ 64

-- with one mark more the judge follows the marks, or they break a law
abbrev pub IsJudged : Option AuditRule → Judge → List Mark → Mark → Type 0
IsJudged None j marks m = Judges j (marks ++ m ∷ [])
IsJudged (Some rule) j marks m = BreaksFirst rule (marks ++ m ∷ [])
