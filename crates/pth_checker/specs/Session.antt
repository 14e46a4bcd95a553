-- What was read and judged of a text.
use Rattle.std.specs.Prelude.{◌≡◌, ◌+◌, ◌<◌, ◌^◌, ℕ, Bool, true, List, [], ◌++◌, Option, Some, None, Result, Ok, Err, length}
use Rattle.pth_base.specs.declared.mark.Mark.{Mark}
use Rattle.pth_checker.specs.Judged.{HoldsRefused, HoldsVerdict}
use Rattle.pth_checker.specs.Judging.{Judges}
use Rattle.pth_checker.specs.declared.session.Session.{Session}
use Rattle.pth_checker.specs.declared.verdict.Verdict.{Verdict}
use Rattle.std.specs.List.{All}
use Rattle.pth_transcript.specs.Transcripts.{IsTold, IsToldPart, part_line}
use Rattle.pth_filter.specs.Objects.{is_file}
use Rattle.pth_transcript.specs.Taking.{IsStarted, Takes, ahead}
use Rattle.pth_transcript.specs.Transcript.{marks_of, told_lines}
use Rattle.pth_print.specs.declared.fault_line.Fault.{Fault}
use Rattle.pth_print.specs.declared.fault_line.Fault.TheVariants as fault
use Rattle.pth_print.specs.declared.fault_line.Flaw.TheVariants.{NoTranscript}
use Rattle.pth_transcript.specs.declared.reader.Part.{Part}
use Rattle.pth_transcript.specs.declared.told.Told.{Told}

-- ---- at the start

-- what is left of a file is all that stands under its name
abbrev pub IsWhole : Option (List ℕ) → (held : List ℕ → Option (List ℕ)) → (left : Option (List ℕ)) → Type 0
IsWhole None held left = Unit {0}
IsWhole (Some name) held left = is_file (Some name) ≡ true → left ≡ held name

-- ---- on the way

-- these lines were read from the front of the content, their marks are lawful, and this is left to read
pub record HasHeard (content : Option (List ℕ)) (h : Session) (left : Option (List ℕ)) (told : List Told) : Type 0 where
  pub taken : Takes (ahead [] content) (ahead h.reader.unread left) (told_lines told)
  pub tells : All IsTold told
  pub counted : h.reader.lines ≡ length told
  pub few : h.reader.lines < 2 ^ 64
  pub judges : Judges h.judge (marks_of told)

-- the marks of all lines that were read were judged, but for so many lines
pub record HasJudged (h : Session) (unjudged : ℕ) : Type 0 where
  pub marks : List Mark
  pub judges : Judges h.judge marks
  pub counted : h.reader.lines ≡ length marks + unjudged

-- one line more was read, and is not judged yet
pub record HasRead (content : Option (List ℕ)) (h : Session) (left : Option (List ℕ)) (told : List Told) (part : Part) : Type 0 where
  pub taken : Takes (ahead [] content) (ahead h.reader.unread left) (told_lines told ++ part_line part)
  pub tells : All IsTold told
  pub tells_part : IsToldPart part
  pub counted : h.reader.lines ≡ length told + 1
  pub few : h.reader.lines < 2 ^ 64
  pub judges : Judges h.judge (marks_of told)

-- a session went on by one line of the same object, which is still started if it is a file
pub record Steps (before after : Session) (is_started : Bool) : Type 0 where
  pub of_file : after.reader.of_file ≡ before.reader.of_file
  pub started : IsStarted after.reader.of_file is_started
  pub lines : after.reader.lines ≡ before.reader.lines + 1
  pub few : after.reader.lines < 2 ^ 64
  pub judged : HasJudged after 0

-- ---- in the end

-- what a content comes to if it is read and judged: a verdict, or a fault
abbrev pub ComesTo : Option (List ℕ) → Result Verdict Fault → Type 0
ComesTo content (Ok verdict) = HoldsVerdict content verdict
ComesTo content (Err (fault.Input line why)) = HoldsRefused content line × (why ≡ NoTranscript)
ComesTo content (Err fault.ReadFault) = Unit {0}
ComesTo content (Err fault.OutOfMemory) = Unit {0}
ComesTo content (Err fault.Words) = ⊥
ComesTo content (Err fault.WriteFault) = ⊥

-- what comes of one line more: the session goes on, or comes to an end
abbrev pub GoesOn : Option (List ℕ) → Session → Option (List ℕ) → Result (Option Verdict) Fault → Type 0
GoesOn content h left (Ok None) = (told : List Told) × HasHeard content h left told
GoesOn content h left (Ok (Some verdict)) = ComesTo content (Ok verdict)
GoesOn content h left (Err f) = ComesTo content (Err f)
