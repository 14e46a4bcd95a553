-- What is taken of the input or of a file, a line at a time.
use Rattle.std.specs.Prelude.{◌≡◌, ◌≢◌, ◌⊎◌, ◌==◌, ℕ, Bool, true, false, List, [], ◌++◌, Option, Some, None, Result, Ok, Err, All, codes}
use Rattle.std.specs.Io.KnownBytes.{Consumes, IsAtEnd}
use Rattle.pth_filter.specs.Objects.{is_file}
use Rattle.pth_text.specs.Bytes.{code}

-- ---- the object that is read

-- a file that is read was started
abbrev pub IsStarted : (of_file : Bool) → (started : Bool) → Type 0
IsStarted of_file started = of_file ≡ true → started ≡ true

-- If the name is that of a file, the file is started, and what it holds is left of it. The input is always there.
abbrev pub Opens : {T E : Type 0} → Option (List ℕ) → (held : List ℕ → Option (List ℕ)) → (left : Option (List ℕ)) → (started : Bool) → Result T E → Type 0
Opens None held left started (Ok x) = Unit {0}
Opens None held left started (Err e) = ⊥
Opens (Some name) held left started (Ok x) = is_file (Some name) ≡ true → (started ≡ true) × (left ≡ held name)
Opens (Some name) held left started (Err e) = is_file (Some name) ≡ true

-- ---- lines

-- the line that was taken last, and what was read behind it
pub record Taken : Type 0 where
  pub of_file : Bool
  pub line : List ℕ
  pub unread : List ℕ

-- what comes: what was read and is in no line yet, and what is left to read, if that is told
pub record Ahead : Type 0 where
  pub unread : List ℕ
  pub left : Option (List ℕ)

abbrev pub ahead : List ℕ → Option (List ℕ) → Ahead
ahead unread left = record { unread = unread; left = left }

-- a text was taken from the front
pub record Takes (old new : Ahead) (text : List ℕ) : Type 0 where
  pub read : List ℕ
  pub consumed : Consumes old.left new.left read
  pub taken : old.unread ++ read ≡ text ++ new.unread

-- no LF stands in the text
abbrev pub IsLineless : List ℕ → Type 0
IsLineless text = All (λ b. (b == code "\n") ≡ false) text

-- no line comes any more: nothing is left to read, and what was read has no LF
pub record HasNoLine (old new : Ahead) : Type 0 where
  pub takes : Takes old new []
  pub over : IsAtEnd new.left
  pub lineless : IsLineless new.unread

-- a line was taken, with the LF at its end
pub record TakesOne (line : List ℕ) (old new : Ahead) : Type 0 where
  pub takes : Takes old new (line ++ codes "\n")
  pub lineless : IsLineless line

-- a line was taken, or no line comes any more
abbrev pub TakesLine : (found : Bool) → (line : List ℕ) → (old new : Ahead) → Type 0
TakesLine true line old new = TakesOne line old new
TakesLine false line old new = HasNoLine old new

-- no line comes any more, and nothing behind the last one
pub record IsOver (old new : Ahead) : Type 0 where
  pub takes : Takes old new []
  pub unread : new.unread ≡ []
  pub left : IsAtEnd new.left

-- something comes yet: a further line, which was taken, or there is none, and something stands behind the last one
abbrev pub HasMore : (old new : Ahead) → Type 0
HasMore old new = ((line : List ℕ) × Takes old new (line ++ codes "\n")) ⊎ (Takes old new [] × IsAtEnd new.left × (new.unread ≢ []))

-- a reader of a transcript: what was read behind the last line, and how many lines were taken
pub record Reading : Type 0 where
  pub of_file : Bool
  pub unread : List ℕ
  pub lines : ℕ
