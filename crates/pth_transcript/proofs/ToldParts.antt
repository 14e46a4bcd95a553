-- What is read of a line is what the line tells.
use Rattle.std.proofs.Common.{◌≡◌, ◌∙◌, ◌++◌, ℕ, List, codes, Some, None, sym}
use Rattle.pth_transcript.specs.ReadableMarks.{IsEndingLineBack, IsLineBack, IsReadableEnding, IsReadableTold, told_of}
use Rattle.pth_transcript.specs.Transcript.{ending_line, told_line}
use Rattle.pth_transcript.specs.Transcripts.{IsTold, IsToldEnding, IsUnknown}
use Rattle.pth_transcript.specs.declared.ending.Ending.{Ending}
use Rattle.pth_transcript.specs.declared.told.Told.{Told}

same_mark : (told other : Told) → Some told ≡ Some other → other.mark ≡ told.mark
same_mark told other e = cc

no_told : (told : Told) → None ≡ Some told → ⊥
no_told told e = cc

-- the mark that was read is the one that the line tells
pub mark_told : (line : List ℕ) (told : Told) → line ++ codes "\n" ≡ told_line told → IsReadableTold told → IsLineBack line (Some told) → IsTold told
mark_told line told spelled readable back = record {
  readable = readable;
  only = λ other fine e. same_mark told (told_of other.audit other.mark) (back other.audit other.mark fine (spelled ∙ sym e));
}

-- no mark was read, so the line is that of none
no_mark : (line : List ℕ) → IsLineBack line None → (told : Told) → IsReadableTold told → line ++ codes "\n" ≡ told_line told → ⊥
no_mark line back told fine e = no_told (told_of told.audit told.mark) (back told.audit told.mark fine e)

-- no mark was read, and the ending that was read is the one that the line tells
pub ending_told : (line : List ℕ) (ending : Ending) → line ++ codes "\n" ≡ ending_line ending → IsReadableEnding ending
    → IsLineBack line None → IsEndingLineBack line (Some ending) → IsToldEnding ending
ending_told line ending spelled readable none back = record {
  readable = readable;
  no_mark = λ told fine e. no_mark line none told fine (spelled ∙ sym e);
  only = λ other fine e. back other fine (spelled ∙ sym e);
}

-- neither was read
pub unknown : (line : List ℕ) → IsLineBack line None → IsEndingLineBack line None → IsUnknown line
unknown line none back = record {
  no_mark = no_mark line none;
  no_ending = λ ending fine e. back ending fine e;
}
