-- What `pth_why` writes.
use Rattle.std.specs.Prelude.{◌≡◌, ◌⊎◌, ℕ, List, Option, Some, None, Result, Ok, Err, codes}
use Rattle.pth_base.specs.declared.mark.Mark.{Mark}
use Rattle.pth_filter.specs.Filter.{Filter}
use Rattle.pth_filter.specs.Objects.{named}
use Rattle.pth_filter.specs.Output.{Output, refusal}
use Rattle.pth_print.specs.declared.fault_line.Fault.{Fault}
use Rattle.pth_print.specs.declared.fault_line.Fault.TheVariants as fault
use Rattle.pth_print.specs.declared.fault_line.Flaw.TheVariants.{NoTranscript}
use Rattle.pth_streams.specs.Inputs.{AreHeld}
use Rattle.pth_transcript.specs.Transcript.{marks_of}
use Rattle.pth_transcript.specs.Transcripts.{BreaksOff, GoesOn, IsTranscript}
use Rattle.pth_transcript.specs.declared.ending.Ending.{Ending}
use Rattle.pth_transcript.specs.declared.told.Told.{Told}
use Rattle.pth_explaining.specs.Explanation.{explanation}
use Rattle.pth_explaining.specs.Words.{asked_by}

-- ---- the transcript

-- line n of a text is none of a transcript, or stands behind an ending
abbrev pub IsRefusedAt : List ℕ → ℕ → Type 0
IsRefusedAt bytes n =
    ((told : List Told) × BreaksOff bytes told n)
    ⊎ ((told : List Told) × (ending : Ending) × GoesOn bytes told ending n)

-- a content is a transcript, and this was made of its marks and its ending
pub record IsMade {T : Type 0} (Is : List Mark → Ending → T → Type 0) (content : Option (List ℕ)) (x : T) : Type 0 where
  pub bytes : List ℕ
  pub held : AreHeld content bytes
  pub told : List Told
  pub ending : Ending
  pub transcript : IsTranscript bytes told ending
  pub made : Is (marks_of told) ending x

-- a content is refused at this line
pub record HoldsRefused (content : Option (List ℕ)) (line : ℕ) : Type 0 where
  pub bytes : List ℕ
  pub held : AreHeld content bytes
  pub refused : IsRefusedAt bytes line

-- why nothing was made of a content
abbrev pub StopsAt : Option (List ℕ) → Fault → Type 0
StopsAt content (fault.Input line why) = HoldsRefused content line × (why ≡ NoTranscript)
StopsAt content fault.ReadFault = Unit {0}
StopsAt content fault.OutOfMemory = Unit {0}
StopsAt content fault.Words = ⊥
StopsAt content fault.WriteFault = ⊥

-- something was made of the transcript that a content is, or why not
abbrev pub Makes : {T : Type 0} → (List Mark → Ending → T → Type 0) → (content : Option (List ℕ)) → Result T Fault → Type 0
Makes Is content (Ok x) = IsMade Is content x
Makes Is content (Err f) = StopsAt content f

-- ---- the program

-- the name of the program
abbrev pub program : List ℕ
program = codes "pth_why"

-- the output of an explanation
abbrev pub explained : List ℕ → Output
explained text = record { text = text; fault = None; status = 0 }

-- the output of a text: the explanation of the run that it tells, or the refusal of a line
abbrev pub IsTextOutput : List ℕ → Output → Type 0
IsTextOutput bytes out =
    ((told : List Told) × (ending : Ending) × IsTranscript bytes told ending
    × (out ≡ explained (explanation (marks_of told) ending)))
    ⊎ ((line : ℕ) × IsRefusedAt bytes line × (out ≡ refusal program (fault.Input line NoTranscript)))

-- the output for the name that the words give, if they are not refused, and the bytes that stand under it
abbrev pub IsOutput : Option (Option (List ℕ)) → List ℕ → Output → Type 0
IsOutput None bytes out = out ≡ refusal program fault.Words
IsOutput (Some name) bytes out = IsTextOutput bytes out

-- the program
abbrev pub why : Filter (Option (List ℕ))
why = record { name = program; asked = asked_by; object = λ name. named name; IsOutput = IsOutput }
