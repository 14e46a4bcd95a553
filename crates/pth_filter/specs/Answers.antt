-- What the call of a program does by its status.
use Rattle.std.specs.Prelude.{◌≡◌, ◌≤◌, ◌⊎◌, ℕ, List, [], Option, Some, None, Result, Ok, Err}
use Rattle.std.specs.Io.KnownBytes.{Appends}
use Rattle.pth_streams.specs.Faults.{Rose}
use Rattle.pth_streams.specs.Inputs.{AreHeld}
use Rattle.pth_streams.specs.Pieces.{AppendsPart, AppendsPrefix, IsUnwritten, Received, WritesLine}
use Rattle.pth_streams.specs.Scene.{Scene}
use Rattle.pth_filter.specs.Faults.{Reports}
use Rattle.pth_filter.specs.Filter.{Filter}
use Rattle.pth_filter.specs.Objects.{Object, Rises, Stands, content_of, nothing}
use Rattle.pth_filter.specs.Output.{IsOnly, Output, refusal}
use Rattle.pth_print.specs.FaultLines.{fault_line}
use Rattle.pth_print.specs.declared.fault_line.Fault.{Fault}
use Rattle.pth_print.specs.declared.fault_line.Fault.TheVariants as fault

-- ---- statuses

-- 0, 1 and 6: the status of a text that was written whole
abbrev pub IsTextStatus : ℕ → Type 0
IsTextStatus status = (status ≡ 0) ⊎ ((status ≡ 1) ⊎ (status ≡ 6))

-- the status of an output: that of a text, 2 of refused words, and 3 of a refused line
abbrev pub IsOutputStatus : ℕ → Type 0
IsOutputStatus status = IsTextStatus status ⊎ ((status ≡ 2) ⊎ (status ≡ 3))

-- ---- what was done but for the line of a fault

-- what a program reads for what its words ask: nothing if they are refused
abbrev pub object_for : {A : Type 0} → Filter A → Option A → Object
object_for filter (Some a) = filter.object a
object_for filter None = nothing

module _ {A : Type 0} (filter : Filter A) (asked : Option A) where
  abbrev object : Object
  object = object_for filter asked

  -- this is the only output for the bytes that the object holds
  abbrev pub HasOutput : Scene → Output → Type 0
  HasOutput old out =
      (bytes : List ℕ) × AreHeld (content_of object old.ins) bytes
      × IsOnly (filter.IsOutput asked bytes) out

  -- the output is a refusal: of the words, or of a line of the object
  abbrev pub HasRefusal : Scene → Fault → Type 0
  HasRefusal old f = HasOutput old (refusal filter.name f)

  -- the text of an output was appended, which has this status and no fault
  abbrev pub WritesText : Scene → Scene → (status : ℕ) → Type 0
  WritesText old new status =
      (out : Output) × HasOutput old out × (out.fault ≡ None) × (out.status ≡ status)
      × Appends old.out.written new.out.written out.text × (new.out.faults ≡ old.out.faults)

  -- a beginning of an output's text was appended, and not the whole, and one fault of `out` counted
  abbrev pub WritesPart : Scene → Scene → Type 0
  WritesPart old new =
      (out : Output) × HasOutput old out
      × AppendsPart old.out.written new.out.written out.text × Rose old.out.faults new.out.faults

  -- a beginning of an output's text was appended
  abbrev pub WritesBeginning : Scene → Scene → Type 0
  WritesBeginning old new =
      (out : Output) × HasOutput old out
      × AppendsPrefix old.out.written new.out.written out.text
      × (new.out.faults ≡ old.out.faults)

  -- a text was written whole, or why not
  abbrev pub Ran : Scene → Scene → Result ℕ Fault → Type 0
  Ran old new (Ok status) =
      Stands object old.ins new.ins × IsTextStatus status × WritesText old new status
  Ran old new (Err fault.ReadFault) = Rises object old.ins new.ins × IsUnwritten old.out new.out
  Ran old new (Err fault.WriteFault) = Stands object old.ins new.ins × WritesPart old new
  Ran old new (Err fault.OutOfMemory) =
      Stands object old.ins new.ins × (IsUnwritten old.out new.out ⊎ WritesBeginning old new)
  Ran old new (Err f) =
      Stands object old.ins new.ins × HasRefusal old f × IsUnwritten old.out new.out

-- how a call ends: a text by its status alone, a fault with its line
abbrev pub Ends :
    (program : List ℕ) → Result ℕ Fault → (status : ℕ) → Received → Received → Type 0
Ends program (Ok its) status old new = (status ≡ its) × IsUnwritten old new
Ends program (Err f) status old new = Reports program f status old new

-- ---- the clauses

-- One call of a program: its words, what the input, the files and `out` told before it and tell after it, what `err` told, and the status
-- with which it ends.
pub record TopCall : Type 0 where
  pub words : List (List ℕ)
  pub old : Scene
  pub new : Scene
  pub err_old : Received
  pub err_new : Received
  pub status : ℕ

-- the call came to this status, or memory ran out
abbrev pub ComesToOrSeven : TopCall → ℕ → Type 0
ComesToOrSeven call status = (call.status ≡ status) ⊎ (call.status ≡ 7)

module _ {A : Type 0} (filter : Filter A) (call : TopCall) where
  abbrev pub asked_in : Option A
  asked_in = filter.asked call.words

  -- one fault of the object read was counted, or none
  abbrev pub CountsReadFault : Type 0
  CountsReadFault = Rises (object_for filter asked_in) call.old.ins call.new.ins

  abbrev pub CountsNoReadFault : Type 0
  CountsNoReadFault = Stands (object_for filter asked_in) call.old.ins call.new.ins

  -- one fault of `out` was counted, or none
  abbrev pub CountsWriteFault : Type 0
  CountsWriteFault = Rose call.old.out.faults call.new.out.faults

  abbrev pub CountsNoWriteFault : Type 0
  CountsNoWriteFault = call.new.out.faults ≡ call.old.out.faults

  -- nothing was written to `out`
  abbrev pub WritesNothing : Type 0
  WritesNothing = IsUnwritten call.old.out call.new.out

  -- the line of a fault was written to `err`
  abbrev pub WritesFault : Fault → Type 0
  WritesFault f = WritesLine call.err_old call.err_new (fault_line filter.name f)

  -- the line of an output's fault was written to `err`, and nothing if it has none
  abbrev pub WritesFaultOf : Option (List ℕ) → Type 0
  WritesFaultOf None = IsUnwritten call.err_old call.err_new
  WritesFaultOf (Some line) = WritesLine call.err_old call.err_new line

  -- The status is that of the output for the words and the bytes that the object read holds, its whole text was appended to `out`, and the
  -- line of its fault was written to `err`.
  abbrev pub WritesWhole : Type 0
  WritesWhole =
      (out : Output) × HasOutput filter asked_in call.old out × (call.status ≡ out.status)
      × Appends call.old.out.written call.new.out.written out.text × CountsNoWriteFault
      × WritesFaultOf out.fault

  -- nothing was appended, or a beginning of the output's text
  abbrev pub WritesAtMostBeginning : Type 0
  WritesAtMostBeginning =
      Appends call.old.out.written call.new.out.written []
      ⊎ ((out : Output) × HasOutput filter asked_in call.old out
      × AppendsPrefix call.old.out.written call.new.out.written out.text)

  -- What was done came to this fault, and a beginning of its line was written to `err`.
  abbrev pub BeginsFault : Fault → Type 0
  BeginsFault f =
      Ran filter asked_in call.old call.new (Err f)
      × AppendsPrefix call.err_old.written call.err_new.written (fault_line filter.name f)

  -- What the counts of faults say. Each stands still or rises by one.
  pub record Completes : Type 0 where
    -- if neither that of the object read nor that of `out` rose, the output was written whole, or memory ran out
    pub whole :
        (CountsReadFault → ⊥) → (CountsWriteFault → ⊥) → WritesWhole ⊎ (call.status ≡ 7)
    -- that of the object read rises with 4, and may with 7
    pub read : CountsNoReadFault ⊎ (CountsReadFault × ComesToOrSeven call 4)
    -- that of `out` rises with 5, and may with 7
    pub written : CountsNoWriteFault ⊎ (CountsWriteFault × ComesToOrSeven call 5)

  -- What the call did by its status, for its words and the objects that it was handed.
  pub record Answers : Type 0 where
    -- 0, 1, 2, 3, 6: the output was written whole
    pub whole : IsOutputStatus call.status → WritesWhole
    -- 4: a read failed
    pub read : call.status ≡ 4 → CountsReadFault × WritesNothing × WritesFault fault.ReadFault
    -- 5: a write failed
    pub write : call.status ≡ 5
        → WritesPart filter asked_in call.old call.new × WritesFault fault.WriteFault
    -- 7: memory ran out, at the latest for the line of a fault
    pub memory : call.status ≡ 7 → WritesAtMostBeginning × ((f : Fault) × BeginsFault f)
    -- how far the counts of faults rose
    pub completes : Completes
    -- no other status comes
    pub known : call.status ≤ 7
