-- What writing a piece does to what a sink tells.
use Rattle.std.specs.Prelude.{◌≡◌, ◌≢◌, ◌⊎◌, ◌++◌, ℕ, List, [], Option, Result, Ok, Err}
use Rattle.std.specs.Io.KnownBytes.{Appends}
use Rattle.pth_streams.specs.Faults.{Rose}
use Rattle.pth_streams.specs.declared.sink.SinkErr.{SinkErr}
use Rattle.pth_streams.specs.declared.sink.SinkErr.TheVariants as sink

-- what a sink tells at a moment: the bytes that were written to it, if it tells them, and its count of faults
pub record Received : Type 0 where
  pub written : Option (List ℕ)
  pub faults : ℕ

abbrev pub received : Option (List ℕ) → ℕ → Received
received written faults = record { written = written; faults = faults }

-- the beginning of a text was appended, and the rest is left
pub record Toward (old new : Option (List ℕ)) (text rest : List ℕ) : Type 0 where
  pub first : List ℕ
  pub appended : Appends old new first
  pub whole : first ++ rest ≡ text

-- a beginning of the text was appended
abbrev pub AppendsPrefix : Option (List ℕ) → Option (List ℕ) → List ℕ → Type 0
AppendsPrefix old new text = (rest : List ℕ) × Toward old new text rest

-- a beginning of the text was appended, and not the whole
abbrev pub AppendsPart : Option (List ℕ) → Option (List ℕ) → List ℕ → Type 0
AppendsPart old new text = (rest : List ℕ) × (rest ≢ []) × Toward old new text rest

-- nothing was written, and no write failed
abbrev pub IsUnwritten : Received → Received → Type 0
IsUnwritten old new = Appends old.written new.written [] × (new.faults ≡ old.faults)

-- the piece was written whole, or not the whole of it if the sink failed, or a beginning if memory ran out
abbrev pub WritesPiece : {T : Type 0} → Received → Received → List ℕ → Result T SinkErr → Type 0
WritesPiece old new piece (Ok x) = Appends old.written new.written piece × (new.faults ≡ old.faults)
WritesPiece old new piece (Err sink.Failed) = AppendsPart old.written new.written piece × Rose old.faults new.faults
WritesPiece old new piece (Err sink.OutOfMemory) = AppendsPrefix old.written new.written piece × (new.faults ≡ old.faults)

-- the line was written whole, or a part of it and one fault counted
abbrev pub WritesLine : Received → Received → List ℕ → Type 0
WritesLine old new line =
    (Appends old.written new.written line × (new.faults ≡ old.faults)) ⊎ (AppendsPart old.written new.written line × Rose old.faults new.faults)
