-- Which texts are lawful, which break a law, and which are refused at a line.
use Rattle.std.specs.Prelude.{◌≡◌, ◌⊎◌, ◌+◌, ℕ, List, [], ◌∷◌, ◌++◌, Option, length}
use Rattle.pth_audit.specs.Verdicts.{BreaksFirst, IsLawful}
use Rattle.pth_audit.specs.declared.verdict.AuditRule.{AuditRule}
use Rattle.pth_checker.specs.Fitting.{FitsEnding}
use Rattle.pth_checker.specs.declared.verdict.Law.{Law}
use Rattle.pth_checker.specs.declared.verdict.Law.TheVariants as law
use Rattle.pth_checker.specs.declared.verdict.Verdict.{Verdict}
use Rattle.pth_checker.specs.declared.verdict.Verdict.TheVariants.{Lawful, Unlawful}
use Rattle.pth_streams.specs.Inputs.{AreHeld}
use Rattle.pth_transcript.specs.Transcript.{marks_of}
use Rattle.pth_transcript.specs.Transcripts.{BeginsWith, BreaksOff, GoesOn, IsTranscript}
use Rattle.pth_transcript.specs.declared.ending.Ending.{Ending}
use Rattle.pth_transcript.specs.declared.reader.Part.TheVariants as part
use Rattle.pth_transcript.specs.declared.told.Told.{Told}

-- ---- verdicts

-- the text is that of a lawful transcript of n lines: lawful marks, and an ending that fits them
pub record IsLawfulText (bytes : List ℕ) (n : ℕ) : Type 0 where
  pub told : List Told
  pub ending : Ending
  pub transcript : IsTranscript bytes told ending
  pub counted : n ≡ length told + 1
  pub lawful : IsLawful (marks_of told)
  pub fits : FitsEnding (marks_of told) ending

-- the mark of line n is the first that breaks a law, and breaks this one
pub record BreaksLaw (bytes : List ℕ) (n : ℕ) (rule : AuditRule) : Type 0 where
  pub told : List Told
  pub last : Told
  pub rest : List ℕ
  pub begins : BeginsWith bytes told (part.Mark last) rest
  pub counted : n ≡ length told + 1
  pub lawful : IsLawful (marks_of told)
  pub breaks : BreaksFirst rule (marks_of told ++ last.mark ∷ [])

-- line n is an ending that does not fit the marks before it, which are lawful
pub record EndsUnfittingly (bytes : List ℕ) (n : ℕ) : Type 0 where
  pub told : List Told
  pub ending : Ending
  pub rest : List ℕ
  pub begins : BeginsWith bytes told (part.Ending ending) rest
  pub counted : n ≡ length told + 1
  pub lawful : IsLawful (marks_of told)
  pub unfitting : FitsEnding (marks_of told) ending → ⊥

-- line n of the text is the first that breaks a law
abbrev pub IsUnlawfulAt : List ℕ → ℕ → Law → Type 0
IsUnlawfulAt bytes n (law.Marks rule) = BreaksLaw bytes n rule
IsUnlawfulAt bytes n law.Ending = EndsUnfittingly bytes n

-- the verdict holds of the text
abbrev pub IsVerdict : List ℕ → Verdict → Type 0
IsVerdict bytes (Lawful lines) = IsLawfulText bytes lines
IsVerdict bytes (Unlawful line law) = IsUnlawfulAt bytes line law

-- ---- no transcript

-- behind lawful marks line n of the text is none of a transcript
pub record BreaksOffLawfully (bytes : List ℕ) (n : ℕ) : Type 0 where
  pub told : List Told
  pub off : BreaksOff bytes told n
  pub lawful : IsLawful (marks_of told)

-- the text goes on behind a lawful transcript, with line n
pub record GoesOnLawfully (bytes : List ℕ) (n : ℕ) : Type 0 where
  pub told : List Told
  pub ending : Ending
  pub goes_on : GoesOn bytes told ending n
  pub lawful : IsLawful (marks_of told)
  pub fits : FitsEnding (marks_of told) ending

-- no line before line n breaks a law, and line n is none of a transcript
abbrev pub IsRefusedAt : List ℕ → ℕ → Type 0
IsRefusedAt bytes n = BreaksOffLawfully bytes n ⊎ GoesOnLawfully bytes n

-- ---- contents

-- the verdict holds of the content
abbrev pub HoldsVerdict : Option (List ℕ) → Verdict → Type 0
HoldsVerdict content verdict = (bytes : List ℕ) × AreHeld content bytes × IsVerdict bytes verdict

-- the content is refused at this line
abbrev pub HoldsRefused : Option (List ℕ) → ℕ → Type 0
HoldsRefused content line = (bytes : List ℕ) × AreHeld content bytes × IsRefusedAt bytes line
