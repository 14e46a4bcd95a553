-- What is said of a list of marks by the four laws.
use Rattle.std.specs.Prelude.{◌≡◌, ◌+◌, ℕ, List, [], ◌∷◌, ◌++◌, length}
use Rattle.pth_base.specs.declared.mark.Mark.{Mark}
use Rattle.pth_laws.specs.Exclusive.{Exclusive}
use Rattle.pth_laws.specs.InOrder.{InOrder}
use Rattle.pth_laws.specs.InTime.{InTime}
use Rattle.pth_laws.specs.Orderly.{Orderly}
use Rattle.pth_audit.specs.declared.verdict.AuditRule.{AuditRule}
use Rattle.pth_audit.specs.declared.verdict.AuditRule.TheVariants as rule
use Rattle.pth_audit.specs.declared.verdict.Verdict.{Verdict}
use Rattle.pth_audit.specs.declared.verdict.Verdict.TheVariants.{Yes, No}

-- marks meet the four laws
pub record IsLawful (marks : List Mark) : Type 0 where
  pub in_time : InTime marks
  pub orderly : Orderly marks
  pub exclusive : Exclusive marks
  pub in_order : InOrder marks

-- marks break this law, and meet those of the four that stand before it
abbrev pub BreaksFirst : AuditRule → List Mark → Type 0
BreaksFirst rule.InTime marks = InTime marks → ⊥
BreaksFirst rule.Orderly marks = InTime marks × (Orderly marks → ⊥)
BreaksFirst rule.Exclusive marks = InTime marks × Orderly marks × (Exclusive marks → ⊥)
BreaksFirst rule.InOrder marks = InTime marks × Orderly marks × Exclusive marks × (InOrder marks → ⊥)

-- so many marks break this law first of the four, and one mark less breaks none
pub record IsBrokenAt (marks : List Mark) (at : ℕ) (r : AuditRule) : Type 0 where
  pub before : List Mark
  pub mark : Mark
  pub later : List Mark
  pub all : marks ≡ before ++ mark ∷ later
  pub counted : at ≡ length before + 1
  pub lawful : IsLawful before
  pub breaks : BreaksFirst r (before ++ mark ∷ [])

-- the verdict on marks
abbrev pub IsVerdict : List Mark → Verdict → Type 0
IsVerdict marks Yes = IsLawful marks
IsVerdict marks (No at r) = IsBrokenAt marks at r

-- a mark and those before it meet the four laws
pub record BeginsLawfully (marks : List Mark) : Type 0 where
  pub before : List Mark
  pub mark : Mark
  pub later : List Mark
  pub all : marks ≡ before ++ mark ∷ later
  pub lawful : IsLawful (before ++ mark ∷ [])
