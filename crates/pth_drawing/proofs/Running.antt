-- What was done, from the words, the picture, and how it was written.
use Rattle.std.proofs.Common.{◌≡◌, ℕ, List, [], Option, Some, None, Ok, Err, ap, refl, inl, inr}
use Rattle.std.specs.Io.KnownBytes.{Appends}
use Rattle.std.proofs.KnownBytes.{Appends-nil}
use Rattle.pth_base.specs.declared.mark.Mark.{Mark}
use Rattle.pth_drawing.proofs.OneOutput.{only}
use Rattle.pth_drawing.specs.Draw.{IsMade, StopsAt, draw, picture, picture_output, program}
use Rattle.pth_drawing.specs.Words.{Asked, Chooses}
use Rattle.pth_filter.specs.Answers.{HasOutput, Ran}
use Rattle.pth_filter.specs.Faults.{fault_of_write}
use Rattle.pth_filter.specs.Objects.{content_under, faults_under}
use Rattle.pth_filter.specs.Output.{refusal}
use Rattle.pth_print.specs.declared.fault_line.Fault.{Fault}
use Rattle.pth_print.specs.declared.fault_line.Fault.TheVariants as fault
use Rattle.pth_streams.proofs.Pieces.{part_is_prefix}
use Rattle.pth_streams.specs.Faults.{CountsSink}
use Rattle.pth_streams.specs.Inputs.{Inputs}
use Rattle.pth_streams.specs.Pieces.{AppendsPart, IsUnwritten, Received}
use Rattle.pth_streams.specs.Scene.{Scene, scene}
use Rattle.pth_streams.specs.declared.sink.SinkErr.{SinkErr}
use Rattle.pth_streams.specs.declared.sink.SinkErr.TheVariants as sink
use Rattle.pth_transcript.specs.Reading.{CountsFault}
use Rattle.pth_transcript.specs.declared.ending.Ending.{Ending}

-- nothing was written
pub none : (out : Received) → IsUnwritten out out
none out = (Appends-nil out.written, refl)

-- the words are refused, or memory ran out for them
pub unasked : (asked : Option Asked) (s : Scene) (f : Fault) → Chooses asked (Err f) → Ran draw asked s s (Err f)
unasked (Some asked) s fault.Words h = absurd (cc)
unasked None s fault.Words h = (tt, ([], refl, only None [] (refusal program fault.Words) refl), none s.out)
unasked asked s (fault.Input line why) h = absurd h
unasked asked s fault.ReadFault h = absurd h
unasked asked s fault.WriteFault h = absurd h
unasked (Some asked) s fault.OutOfMemory h = (refl, inl (none s.out))
unasked None s fault.OutOfMemory h = (tt, inl (none s.out))

module _ (asked : Asked) (ins later : Inputs) (out after : Received) where
  -- there is no picture
  pub undrawn : (f : Fault) → StopsAt (content_under asked.file ins) f
      → CountsFault {T = List ℕ} (faults_under asked.file ins) (faults_under asked.file later) (Err f) → IsUnwritten out after
      → Ran draw (Some asked) (scene ins out) (scene later after) (Err f)
  undrawn fault.Words stops counts none = absurd stops
  undrawn (fault.Input line why) stops counts none =
      let at = stops.0 in (
        counts,
        (at.bytes, at.held, only (Some asked) at.bytes (refusal program (fault.Input line why)) (inr (line, at.refused, ap (λ w. refusal program (fault.Input line w)) stops.1))),
        none,
      )
  undrawn fault.ReadFault stops counts none = (counts, none)
  undrawn fault.WriteFault stops counts none = absurd stops
  undrawn fault.OutOfMemory stops counts none = (counts, inl none)

  module _ (text : List ℕ) (made : IsMade (λ (marks : List Mark) (ending : Ending) (t : List ℕ). t ≡ picture asked.from asked.turns marks ending) (content_under asked.file ins) text)
      (stands : faults_under asked.file later ≡ faults_under asked.file ins) where
    is : HasOutput draw (Some asked) (scene ins out) (picture_output text)
    is = (made.bytes, made.held, only (Some asked) made.bytes (picture_output text) (inl (made.told, made.ending, made.transcript, ap picture_output made.made)))

    -- it was written
    pub drawn : Appends out.written after.written text → CountsSink {T = Unit {0}} out.faults after.faults (Ok tt)
        → Ran draw (Some asked) (scene ins out) (scene later after) (Ok 0)
    drawn all same = (stands, inl refl, (picture_output text, is, refl, refl, all, same))

    -- it was not written whole
    pub unfinished : (e : SinkErr) → AppendsPart out.written after.written text → CountsSink {T = Unit {0}} out.faults after.faults (Err e)
        → Ran draw (Some asked) (scene ins out) (scene later after) (Err (fault_of_write e))
    unfinished sink.Failed part counts = (stands, (picture_output text, is, part, counts))
    unfinished sink.OutOfMemory part counts = (stands, inr (picture_output text, is, part_is_prefix out.written after.written text part, counts))
