-- What a reader of a transcript answers.
use Rattle.std.specs.Prelude.{◌≡◌, ◌⊎◌, ◌+◌, ◌^◌, ℕ, List, Result, Err}
use Rattle.pth_streams.specs.Faults.{Rose}
use Rattle.pth_print.specs.declared.fault_line.Fault.{Fault}
use Rattle.pth_print.specs.declared.fault_line.Fault.TheVariants as fault
use Rattle.pth_print.specs.declared.fault_line.Flaw.TheVariants.{NoTranscript}
use Rattle.pth_transcript.specs.Taking.{Ahead, HasNoLine, TakesOne}
use Rattle.pth_transcript.specs.Transcripts.{IsUnknown, next_line}

-- after so many lines a reader comes to this fault: a line that is refused is the next one, and has this cause
abbrev pub ComesTo : (lines : ℕ) → (cause : Type 0) → Fault → Type 0
ComesTo lines cause (fault.Input line why) = (line ≡ next_line lines) × (why ≡ NoTranscript) × cause
ComesTo lines cause fault.ReadFault = Unit {0}
ComesTo lines cause fault.OutOfMemory = Unit {0}
ComesTo lines cause fault.Words = ⊥
ComesTo lines cause fault.WriteFault = ⊥

-- no line of a transcript comes: no line at all, or one that tells no mark and no ending
abbrev pub ComesNoPart : (old new : Ahead) → Type 0
ComesNoPart old new = HasNoLine old new ⊎ ((line : List ℕ) × TakesOne line old new × IsUnknown line)

-- after so many lines none of a transcript comes, or one more than can be counted
abbrev pub IsRefused : (lines : ℕ) → (old new : Ahead) → Type 0
IsRefused lines old new = ComesNoPart old new ⊎ (lines + 1 ≡ 2 ^ 64)

-- the count of faults rises by one if a read failed, and stands still otherwise
abbrev pub CountsFault : {T : Type 0} → ℕ → ℕ → Result T Fault → Type 0
CountsFault before now (Err fault.ReadFault) = Rose before now
CountsFault before now r = now ≡ before
