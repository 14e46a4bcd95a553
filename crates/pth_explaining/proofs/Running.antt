-- What was done, from the words, the explanation, and how it was written.
use Rattle.std.proofs.Common.{◌≡◌, ℕ, List, [], Option, Some, None, Ok, Err, ap, refl, inl, inr}
use Rattle.std.specs.Io.KnownBytes.{Appends}
use Rattle.std.proofs.KnownBytes.{Appends-nil}
use Rattle.pth_base.specs.declared.mark.Mark.{Mark}
use Rattle.pth_explaining.proofs.OneOutput.{only}
use Rattle.pth_explaining.specs.Why.{IsMade, StopsAt, explained, program, why}
use Rattle.pth_explaining.specs.Explanation.{explanation}
use Rattle.pth_explaining.specs.Words.{Names}
use Rattle.pth_filter.specs.Answers.{HasOutput, Ran}
use Rattle.pth_filter.specs.Faults.{fault_of_write}
use Rattle.pth_filter.specs.Objects.{content_under, faults_under}
use Rattle.pth_filter.specs.Output.{refusal}
use Rattle.pth_print.specs.declared.fault_line.Fault.{Fault}
use Rattle.pth_print.specs.declared.fault_line.Fault.TheVariants as fault
use Rattle.pth_streams.proofs.Pieces.{part_is_prefix}
use Rattle.pth_streams.specs.Faults.{CountsSink}
use Rattle.pth_streams.specs.Inputs.{Inputs}
use Rattle.pth_streams.specs.Pieces.{AppendsPart, IsUnwritten, Received}
use Rattle.pth_streams.specs.Scene.{Scene, scene}
use Rattle.pth_streams.specs.declared.sink.SinkErr.{SinkErr}
use Rattle.pth_streams.specs.declared.sink.SinkErr.TheVariants as sink
use Rattle.pth_transcript.specs.Reading.{CountsFault}
use Rattle.pth_transcript.specs.declared.ending.Ending.{Ending}

-- nothing was written
pub none : (out : Received) → IsUnwritten out out
none out = (Appends-nil out.written, refl)

-- the words are refused, or memory ran out for them
pub unasked : (asked : Option (Option (List ℕ))) (s : Scene) (f : Fault) → Names asked (Err f) → Ran why asked s s (Err f)
unasked (Some asked) s fault.Words h = absurd (cc)
unasked None s fault.Words h = (tt, ([], refl, only None [] (refusal program fault.Words) refl), none s.out)
unasked asked s (fault.Input line reason) h = absurd h
unasked asked s fault.ReadFault h = absurd h
unasked asked s fault.WriteFault h = absurd h
unasked (Some asked) s fault.OutOfMemory h = (refl, inl (none s.out))
unasked None s fault.OutOfMemory h = (tt, inl (none s.out))

module _ (name : Option (List ℕ)) (ins later : Inputs) (out after : Received) where
  -- there is no explanation
  pub unexplained : (f : Fault) → StopsAt (content_under name ins) f
      → CountsFault {T = List ℕ} (faults_under name ins) (faults_under name later) (Err f) → IsUnwritten out after
      → Ran why (Some name) (scene ins out) (scene later after) (Err f)
  unexplained fault.Words stops counts none = absurd stops
  unexplained (fault.Input line why) stops counts none =
      let at = stops.0 in (
        counts,
        (at.bytes, at.held, only (Some name) at.bytes (refusal program (fault.Input line why)) (inr (line, at.refused, ap (λ w. refusal program (fault.Input line w)) stops.1))),
        none,
      )
  unexplained fault.ReadFault stops counts none = (counts, none)
  unexplained fault.WriteFault stops counts none = absurd stops
  unexplained fault.OutOfMemory stops counts none = (counts, inl none)

  module _ (text : List ℕ) (made : IsMade (λ (marks : List Mark) (e : Ending) (t : List ℕ). t ≡ explanation marks e) (content_under name ins) text)
      (stands : faults_under name later ≡ faults_under name ins) where
    is : HasOutput why (Some name) (scene ins out) (explained text)
    is = (made.bytes, made.held, only (Some name) made.bytes (explained text) (inl (made.told, made.ending, made.transcript, ap explained made.made)))

    -- it was written
    pub written_whole : Appends out.written after.written text → CountsSink {T = Unit {0}} out.faults after.faults (Ok tt)
        → Ran why (Some name) (scene ins out) (scene later after) (Ok 0)
    written_whole all same = (stands, inl refl, (explained text, is, refl, refl, all, same))

    -- it was not written whole
    pub unfinished : (e : SinkErr) → AppendsPart out.written after.written text → CountsSink {T = Unit {0}} out.faults after.faults (Err e)
        → Ran why (Some name) (scene ins out) (scene later after) (Err (fault_of_write e))
    unfinished sink.Failed part counts = (stands, (explained text, is, part, counts))
    unfinished sink.OutOfMemory part counts = (stands, inr (explained text, is, part_is_prefix out.written after.written text part, counts))
