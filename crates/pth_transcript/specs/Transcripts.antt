-- What the lines of a text tell, and how far a text is a transcript.
use Rattle.std.specs.Prelude.{◌≡◌, ◌≢◌, ◌⊎◌, ◌+◌, ◌-◌, ◌<◌, ◌^◌, ◌++◌, ℕ, List, [], All, codes, length, min}
use Rattle.pth_transcript.specs.ReadableMarks.{IsReadableEnding, IsReadableTold, TellsSame}
use Rattle.pth_transcript.specs.Transcript.{ending_line, told_line, told_lines}
use Rattle.pth_transcript.specs.declared.ending.Ending.{Ending}
use Rattle.pth_transcript.specs.declared.reader.Part.{Part}
use Rattle.pth_transcript.specs.declared.reader.Part.TheVariants as part
use Rattle.pth_transcript.specs.declared.told.Told.{Told}

-- ---- a line

-- A line tells this mark: words can spell it, and whatever mark has the same line is this one.
pub record IsTold (told : Told) : Type 0 where
  pub readable : IsReadableTold told
  pub only : (other : Told) → IsReadableTold other → told_line other ≡ told_line told → other.mark ≡ told.mark

-- A line tells this ending: words can spell it, no mark has this line, and whatever ending has it tells the same.
pub record IsToldEnding (ending : Ending) : Type 0 where
  pub readable : IsReadableEnding ending
  pub no_mark : (told : Told) → IsReadableTold told → told_line told ≢ ending_line ending
  pub only : (other : Ending) → IsReadableEnding other → ending_line other ≡ ending_line ending → TellsSame other ending

-- a line tells this mark or this ending
abbrev pub IsToldPart : Part → Type 0
IsToldPart (part.Mark told) = IsTold told
IsToldPart (part.Ending ending) = IsToldEnding ending

-- the line of a mark or of an ending
abbrev pub part_line : Part → List ℕ
part_line (part.Mark told) = told_line told
part_line (part.Ending ending) = ending_line ending

-- a line, without its LF, is that of no mark and of no ending
pub record IsUnknown (line : List ℕ) : Type 0 where
  pub no_mark : (told : Told) → IsReadableTold told → line ++ codes "\n" ≢ told_line told
  pub no_ending : (ending : Ending) → IsReadableEnding ending → line ++ codes "\n" ≢ ending_line ending

-- ---- a text

-- the number of the next line after so many, up to the last value of a `u64`
abbrev pub next_line : ℕ → ℕ
next_line lines = min (lines + 1) (2 ^ 64 - 1)

-- a text begins with the lines of marks, which can be counted
pub record Begins (bytes : List ℕ) (told : List Told) (rest : List ℕ) : Type 0 where
  pub text : bytes ≡ told_lines told ++ rest
  pub tells : All IsTold told
  pub few : length told < 2 ^ 64

-- behind these stands the line of one mark more, or of an ending
pub record BeginsWith (bytes : List ℕ) (told : List Told) (last : Part) (rest : List ℕ) : Type 0 where
  pub begins : Begins bytes told (part_line last ++ rest)
  pub tells : IsToldPart last
  pub few : length told + 1 < 2 ^ 64

-- a text is a transcript: the lines of these marks, and that of this ending
abbrev pub IsTranscript : List ℕ → List Told → Ending → Type 0
IsTranscript bytes told ending = BeginsWith bytes told (part.Ending ending) []

-- a text does not begin with the line of a mark or of an ending
pub record BeginsNoLine (text : List ℕ) : Type 0 where
  pub no_mark : (told : Told) (rest : List ℕ) → IsReadableTold told → text ≢ told_line told ++ rest
  pub no_ending : (ending : Ending) (rest : List ℕ) → IsReadableEnding ending → text ≢ ending_line ending ++ rest

-- line n of a text, behind those of these marks, is none of a transcript, or one more than can be counted
pub record BreaksOff (bytes : List ℕ) (told : List Told) (n : ℕ) : Type 0 where
  pub rest : List ℕ
  pub begins : Begins bytes told rest
  pub off : BeginsNoLine rest ⊎ (length told + 1 ≡ 2 ^ 64)
  pub counted : n ≡ next_line (length told)

-- a text goes on behind the line of an ending, with line n
pub record GoesOn (bytes : List ℕ) (told : List Told) (ending : Ending) (n : ℕ) : Type 0 where
  pub rest : List ℕ
  pub begins : BeginsWith bytes told (part.Ending ending) rest
  pub more : rest ≢ []
  pub counted : n ≡ next_line (length told + 1)
