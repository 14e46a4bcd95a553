-- What was done, from the words, the verdict, and how its line was written.
use Rattle.std.proofs.Common.{◌≡◌, ℕ, List, [], Option, Some, None, Ok, Err, ap, refl, inl, inr}
use Rattle.std.proofs.KnownBytes.{Appends-nil}
use Rattle.pth_checker.proofs.OneOutput.{only}
use Rattle.pth_checker.specs.Check.{check, program, verdict_output}
use Rattle.pth_checker.specs.Judged.{HoldsVerdict}
use Rattle.pth_checker.specs.Session.{ComesTo}
use Rattle.pth_checker.specs.VerdictLines.{verdict_line, verdict_status}
use Rattle.pth_checker.specs.Words.{Names}
use Rattle.pth_checker.specs.declared.verdict.Verdict.{Verdict}
use Rattle.pth_checker.specs.declared.verdict.Verdict.TheVariants.{Lawful, Unlawful}
use Rattle.pth_filter.specs.Answers.{HasOutput, IsTextStatus, Ran}
use Rattle.pth_filter.specs.Faults.{fault_of_write}
use Rattle.pth_filter.specs.Objects.{content_under, faults_under}
use Rattle.pth_filter.specs.Output.{refusal}
use Rattle.pth_print.specs.declared.fault_line.Fault.{Fault}
use Rattle.pth_print.specs.declared.fault_line.Fault.TheVariants as fault
use Rattle.pth_streams.specs.Inputs.{Inputs}
use Rattle.pth_streams.specs.Pieces.{IsUnwritten, Received, WritesPiece}
use Rattle.pth_streams.specs.Scene.{Scene, scene}
use Rattle.pth_streams.specs.declared.sink.SinkErr.{SinkErr}
use Rattle.pth_streams.specs.declared.sink.SinkErr.TheVariants as sink
use Rattle.pth_transcript.specs.Reading.{CountsFault}

-- nothing was written
pub none : (out : Received) → IsUnwritten out out
none out = (Appends-nil out.written, refl)

-- the words give no name
pub unnamed : (asked : Option (Option (List ℕ))) (s : Scene) (f : Fault) → Names asked (Err f) → Ran check asked s s (Err f)
unnamed (Some name) s fault.Words h = absurd (cc)
unnamed None s fault.Words h = (tt, ([], refl, only None [] (refusal program fault.Words) refl), none s.out)
unnamed asked s (fault.Input line why) h = absurd h
unnamed asked s fault.ReadFault h = absurd h
unnamed asked s fault.WriteFault h = absurd h
unnamed (Some name) s fault.OutOfMemory h = (refl, inl (none s.out))
unnamed None s fault.OutOfMemory h = (tt, inl (none s.out))

-- the status of a verdict is that of a text
text_status : (verdict : Verdict) → IsTextStatus (verdict_status verdict)
text_status (Lawful lines) = inl refl
text_status (Unlawful line law) = inr (inl refl)

module _ (name : Option (List ℕ)) (ins later : Inputs) (out after : Received) where
  -- there is no verdict
  pub unjudged : (f : Fault) → ComesTo (content_under name ins) (Err f)
      → CountsFault {T = Verdict} (faults_under name ins) (faults_under name later) (Err f) → IsUnwritten out after
      → Ran check (Some name) (scene ins out) (scene later after) (Err f)
  unjudged fault.Words comes counts none = absurd comes
  unjudged (fault.Input line why) comes counts none =
      let held = comes.0 in (
        counts,
        (held.0, held.1, only (Some name) held.0 (refusal program (fault.Input line why)) (inr (line, held.2, ap (λ w. refusal program (fault.Input line w)) comes.1))),
        none,
      )
  unjudged fault.ReadFault comes counts none = (counts, none)
  unjudged fault.WriteFault comes counts none = absurd comes
  unjudged fault.OutOfMemory comes counts none = (counts, inl none)

  module _ (verdict : Verdict) (holds : HoldsVerdict (content_under name ins) verdict) (stands : faults_under name later ≡ faults_under name ins) where
    is : HasOutput check (Some name) (scene ins out) (verdict_output verdict)
    is = (holds.0, holds.1, only (Some name) holds.0 (verdict_output verdict) (inl (verdict, holds.2, refl)))

    -- its line was written
    pub told : WritesPiece {T = Unit {0}} out after (verdict_line verdict) (Ok tt) → Ran check (Some name) (scene ins out) (scene later after) (Ok (verdict_status verdict))
    told writes = (stands, text_status verdict, (verdict_output verdict, is, refl, refl, writes.0, writes.1))

    -- its line was not written whole
    pub untold : (e : SinkErr) → WritesPiece {T = Unit {0}} out after (verdict_line verdict) (Err e)
        → Ran check (Some name) (scene ins out) (scene later after) (Err (fault_of_write e))
    untold sink.Failed writes = (stands, (verdict_output verdict, is, writes.0, writes.1))
    untold sink.OutOfMemory writes = (stands, inr (verdict_output verdict, is, writes.0, writes.1))
