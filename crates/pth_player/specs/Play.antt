-- The clauses of the top call.
use Rattle.std.specs.Prelude.{◌≡◌, ◌≢◌, ◌⊎◌, ℕ, false, List, [], Option, Some, None, IfSome, Result, Ok, Err, IfOk}
use Rattle.std.specs.Io.KnownBytes.{Appends}
use Rattle.pth_command.specs.CommandLine.{Asked}
use Rattle.pth_filter.specs.Answers.{Answers, IsTextStatus, TopCall, asked_in, object_for}
use Rattle.pth_filter.specs.Objects.{Object, Rises, Stands, content_of}
use Rattle.pth_filter.specs.Output.{Output}
use Rattle.pth_kernel.specs.Kernel.{KernelOf}
use Rattle.pth_laws.specs.RunLaws.{MeetsRunLaws}
use Rattle.pth_line.specs.Script.{Sections, functions_of}
use Rattle.pth_model.specs.Run.{run, GoesTo}
use Rattle.pth_model.specs.State.{Given}
use Rattle.pth_player.specs.declared.done.Done.{Done}
use Rattle.pth_player.specs.declared.done.Done.TheVariants as done
use Rattle.pth_player.specs.Objects.{ObjectRead, asked_object, content, cut}
use Rattle.pth_player.specs.Output.{IsScriptOutput, IsRefused, IsTheScript, given_script, outcome_status, play, program}
use Rattle.pth_player.specs.Transcript.{text_of}
use Rattle.pth_base.specs.declared.outcome.Outcome.TheVariants.{OutOfMemory}
use Rattle.pth_print.specs.FaultLines.{fault_line}
use Rattle.pth_print.specs.declared.fault_line.Fault.{Fault}
use Rattle.pth_print.specs.declared.fault_line.Fault.TheVariants as fault
use Rattle.pth_print.specs.declared.fault_line.Flaw.{Flaw}
use Rattle.pth_print.specs.declared.fault_line.Flaw.TheVariants.{Breaks, NoTranscript}
use Rattle.pth_script.specs.Broken.{IsRefusal}
use Rattle.pth_streams.specs.Inputs.{AreHeld, Inputs}
use Rattle.pth_streams.specs.Pieces.{AppendsPart, AppendsPrefix, IsUnwritten, WritesPiece}
use Rattle.pth_streams.specs.Scene.{Scene}
use Rattle.pth_streams.specs.declared.sink.SinkErr.{SinkErr}
use Rattle.pth_streams.specs.declared.sink.SinkErr.TheVariants as sink

-- ---- the parts of the call

-- the text is refused at this line for this
abbrev pub IsRefusedFor : List ℕ → ℕ → Flaw → Type 0
IsRefusedFor text line (Breaks breach) = IsRefusal text line breach
IsRefusedFor text line NoTranscript = ⊥

-- the bytes of the object were read, as many as the limit lets be
abbrev pub ReadsBytes : Object → Inputs → Inputs → List ℕ → Type 0
ReadsBytes object old new bytes = ObjectRead object old new × ((held : List ℕ) × AreHeld (content_of object old) held × (bytes ≡ cut held))

-- what the text of the object is told to be was read of it, or why not
abbrev pub ReadsText : {T : Type 0} → (T → List ℕ → Type 0) → Object → Inputs → Inputs → Result T Fault → Type 0
ReadsText Is object old new (Ok read) =
    ObjectRead object old new × ((bytes : List ℕ) × AreHeld (content_of object old) bytes × Is read (cut bytes))
ReadsText Is object old new (Err (fault.Input line flaw)) =
    ObjectRead object old new × ((bytes : List ℕ) × AreHeld (content_of object old) bytes × IsRefusedFor (cut bytes) line flaw)
ReadsText Is object old new (Err fault.ReadFault) = Rises object old new
ReadsText Is object old new (Err fault.OutOfMemory) = Stands object old new
ReadsText Is object old new (Err fault.Words) = ⊥
ReadsText Is object old new (Err fault.WriteFault) = ⊥

-- this was read of a script's text: a script, its kernel and its greatest base priority
abbrev pub IsRead : Sections × KernelOf × ℕ → List ℕ → Type 0
IsRead read text = IsTheScript (given_script read) text

-- the content is no script's text
abbrev pub HoldsNoScript : Option Asked → Scene → Type 0
HoldsNoScript asked s = (bytes : List ℕ) × AreHeld (content asked s) bytes × IsRefused (cut bytes)

-- it is refused at this line, for what the line breaks
abbrev pub HoldsRefused : Asked → Scene → ℕ → Flaw → Type 0
HoldsRefused asked s line flaw = (bytes : List ℕ) × AreHeld (content (Some asked) s) bytes × IsRefusedFor (cut bytes) line flaw

-- the content is a script's text, with this output
abbrev pub HoldsScript : Asked → Scene → Output → Type 0
HoldsScript asked s out = (bytes : List ℕ) × AreHeld (content (Some asked) s) bytes × IsScriptOutput asked (cut bytes) out

-- the status of what was done with a script
abbrev pub done_status : Done → ℕ
done_status (done.Ran o) = outcome_status o
done_status done.Upgraded = 0

-- the content is a script's text, and what its output has was written with this result
abbrev pub WritesScript : Asked → Scene → Scene → Result Done SinkErr → Type 0
WritesScript asked old new r =
    (out : Output) × HoldsScript asked old out × IfOk r (λ d. out.status ≡ done_status d) × WritesPiece old.out new.out out.text r

-- what was done for these words but for the line of a fault
abbrev pub PlayedFor : Asked → Scene → Scene → Result Done Fault → Type 0
PlayedFor asked old new (Ok d) = ObjectRead (asked_object (Some asked)) old.ins new.ins × WritesScript asked old new (Ok d)
PlayedFor asked old new (Err fault.Words) = ⊥
PlayedFor asked old new (Err (fault.Input line flaw)) =
    ObjectRead (asked_object (Some asked)) old.ins new.ins × HoldsRefused asked old line flaw × IsUnwritten old.out new.out
PlayedFor asked old new (Err fault.ReadFault) = Rises (asked_object (Some asked)) old.ins new.ins × IsUnwritten old.out new.out
PlayedFor asked old new (Err fault.WriteFault) = ObjectRead (asked_object (Some asked)) old.ins new.ins × WritesScript asked old new (Err sink.Failed)
PlayedFor asked old new (Err fault.OutOfMemory) =
    Stands (asked_object (Some asked)) old.ins new.ins × (IsUnwritten old.out new.out ⊎ WritesScript asked old new (Err sink.OutOfMemory))

-- if the words are refused nothing is written
abbrev pub Played : Option Asked → Scene → Scene → Result Done Fault → Type 0
Played (Some asked) old new r = PlayedFor asked old new r
Played None old new (Err fault.Words) = IsUnwritten old.out new.out
Played None old new (Err fault.OutOfMemory) = IsUnwritten old.out new.out
Played None old new r = ⊥

-- the status of what was done, or its fault; no run comes to want of memory without one
abbrev pub answer_of : Result Done Fault → Result ℕ Fault
answer_of (Ok (done.Ran OutOfMemory)) = Err fault.OutOfMemory
answer_of (Ok d) = Ok (done_status d)
answer_of (Err f) = Err f

-- ---- the clauses beside those of every program

-- with a status other than 4 and 7 the object read lost what was read of it, all or as much as the limit and a byte, and no read failed
abbrev pub ReadsWhole : Option Asked → Scene → Scene → (status : ℕ) → Type 0
ReadsWhole asked old new status = status ≢ 4 → status ≢ 7 → ObjectRead (asked_object asked) old.ins new.ins

-- status 2 comes exactly if the words are refused, but for want of memory
pub record RefusesWords (asked : Option Asked) (status : ℕ) : Type 0 where
  pub only : status ≡ 2 → asked ≡ None
  pub always : asked ≡ None → (status ≡ 2) ⊎ (status ≡ 7)

-- status 3 comes exactly if the content is no script's text, but for a read that fails and want of memory
pub record RefusesInput (asked : Option Asked) (old : Scene) (status : ℕ) : Type 0 where
  pub only : status ≡ 3 → (asked ≢ None) × HoldsNoScript asked old
  pub always : asked ≢ None
      → IfSome (content asked old) (λ bytes. IsRefused (cut bytes) → (status ≡ 3) ⊎ ((status ≡ 4) ⊎ (status ≡ 7)))

-- A text is that of a run: the script stands for what the run is given, and the text shows what the run has told where it stops,
-- after the steps that are asked for or before. The run meets its laws there. So the marks of which the text has the lines, or with
-- a summary the counts, are in time, orderly, exclusive, initialised and in order.
pub record IsTextOfRun (asked : Asked) (script text : List ℕ) : Type 0 where
  pub given : Given Sections
  pub meant : IsTheScript given script
  pub parts : ℕ
  pub stops : GoesTo functions_of given asked.steps 0 parts
  pub shown : text ≡ text_of asked (run functions_of given parts)
  pub laws : MeetsRunLaws (run functions_of given parts)

-- the text of a run of the script that the object read holds was appended in this way: whole, in part, or a beginning
abbrev pub WritesRun : TopCall → Asked → (Option (List ℕ) → Option (List ℕ) → List ℕ → Type 0) → Type 0
WritesRun call asked Appended =
    (bytes : List ℕ) × AreHeld (content_of (object_for play (asked_in play call)) call.old.ins) bytes × (text : List ℕ)
    × IsTextOfRun asked (cut bytes) text × Appended call.old.out.written call.new.out.written text

-- what was written of a run to `out`, by the status
pub record ShowsRun (call : TopCall) (asked : Asked) : Type 0 where
  -- 0, 1, 6: the text of a run
  pub whole : IsTextStatus call.status → WritesRun call asked Appends
  -- 5: a beginning of the text of a run, and not the whole
  pub part : call.status ≡ 5 → WritesRun call asked AppendsPart
  -- 7: nothing, or a beginning of the text of a run
  pub beginning : call.status ≡ 7 → Appends call.old.out.written call.new.out.written [] ⊎ WritesRun call asked AppendsPrefix

-- ---- the call

-- What the call did by its status, for what the words ask and the objects that it was handed.
pub record Plays (call : TopCall) : Type 0 where
  -- The status, what was written and the fault's line are those of the one output for the words and the bytes of the object read. If the
  -- sink failed (5) or memory ended (7), a beginning was written; 4 and 5 come only if a count of faults rose.
  pub answers : Answers play call
  -- with a status other than 4 and 7 the object read lost what was read of it, and no read of it failed
  pub reads_whole : ReadsWhole (asked_in play call) call.old call.new call.status
  -- status 2 comes exactly if the words are refused
  pub refuses_words : RefusesWords (asked_in play call) call.status
  -- status 3 comes exactly if the object read has no script's text
  pub refuses_input : RefusesInput (asked_in play call) call.old call.status
  -- What was written is the text of a run or a beginning of it, if the words ask for no upgrade, and this run meets the laws of
  -- runs: its marks are in time, orderly, exclusive, initialised and in order.
  pub laws : IfSome (asked_in play call) (λ asked. asked.upgrade ≡ false → ShowsRun call asked)
  -- with 7, what was done came to a fault, with the object read or not as the fault says, and a beginning of its line was written
  pub memory : call.status ≡ 7 → (f : Fault) × Played (asked_in play call) call.old call.new (Err f)
      × AppendsPrefix call.err_old.written call.err_new.written (fault_line program f)
