-- What an auditor follows, and what it says of one mark more.
use Rattle.std.specs.Prelude.{List, [], ◌∷◌, ◌++◌, Option, Some, None}
use Rattle.pth_base.specs.declared.mark.Mark.{Mark}
use Rattle.pth_audit.specs.Endings.{FollowsEndings}
use Rattle.pth_audit.specs.Holds.{FollowsHolds}
use Rattle.pth_audit.specs.Mailboxes.{FollowsMail}
use Rattle.pth_audit.specs.Verdicts.{IsLawful, BreaksFirst}
use Rattle.pth_audit.specs.declared.auditor.Auditor.{Auditor}
use Rattle.pth_audit.specs.declared.verdict.AuditRule.{AuditRule}

-- an auditor follows a list of marks that meet the four laws
pub record Follows (a : Auditor) (marks : List Mark) : Type 0 where
  pub lawful : IsLawful marks
  pub endings : FollowsEndings a.endings marks
  pub holds : FollowsHolds a.holds marks
  pub mail : FollowsMail a.mail marks

-- with one mark more the marks are lawful, or break a law
abbrev pub IsBrokenBy : Option AuditRule → List Mark → Mark → Type 0
IsBrokenBy None marks m = IsLawful (marks ++ m ∷ [])
IsBrokenBy (Some r) marks m = BreaksFirst r (marks ++ m ∷ [])

-- with one mark more the auditor follows the marks, or they break a law
abbrev pub IsAdded : Option AuditRule → Auditor → List Mark → Mark → Type 0
IsAdded None a marks m = Follows a (marks ++ m ∷ [])
IsAdded (Some r) a marks m = BreaksFirst r (marks ++ m ∷ [])
