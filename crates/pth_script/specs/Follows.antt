-- What the reader keeps of the lines that it has gone over, and what it answers.
use Rattle.std.specs.Prelude.{◌≡◌, ◌≤◌, ◌<◌, ◌+◌, OnOk, ℕ, true, false, List, ◌∷◌, ◌++◌, length, reverse, Result, Ok, Err, Some, None, drop}
use Rattle.pth_line.specs.Script.{Sections}
use Rattle.pth_script.specs.TextRows.{TextRow, text_rows, size_of, is_first, is_second, is_heading, heading_length, range_of, above}
use Rattle.pth_script.specs.Seen.{seen_of}
use Rattle.pth_script.specs.RuleOrder.{first_broken}
use Rattle.pth_script.specs.Broken.{row_breaks, broken, IsRefusal, IsAccepted}
use Rattle.pth_script.specs.Limits.{text_limit}
use Rattle.pth_kernel.specs.Kernel.{KernelOf, kernel_of}
use Rattle.pth_script.specs.Meaning.{Parts, said, parts_of_text, IsScriptOf, IsKernelOf, IsTopOf}
use Rattle.pth_script.specs.Drafts.{draft_parts, seen_of_draft, IsDraftInOrder, ComesTo}
use Rattle.pth_text.specs.declared.rule.Breach.{Breach}
use Rattle.pth_text.specs.declared.rule.Breach.TheVariants.{Limit, Of}
use Rattle.pth_script.specs.declared.read.ReadErr.{ReadErr}
use Rattle.pth_script.specs.declared.read.ReadErr.TheVariants as err
use Rattle.pth_script.specs.declared.heading.Heading.{Heading}
use Rattle.pth_script.specs.declared.heading.Heading.TheVariants as heading
use Rattle.pth_script.specs.declared.reader.Reader.{Reader}
use Rattle.pth_script.specs.declared.reader.Fault.{Fault}
use Rattle.pth_script.specs.declared.reader.Fault.TheVariants as fault

-- ---- the reader and the lines above

-- the heading is read so far below these lines; once it is whole, the lines that follow say no other range
abbrev pub IsReadTo : Heading → List TextRow → Type 0
IsReadTo heading.Unread before = is_first before ≡ true
IsReadTo heading.Version2 before = is_second before ≡ true
IsReadTo (heading.Whole top) before = (is_heading before ≡ false) × ((rest : List TextRow) → range_of (reverse before ++ rest) ≡ top)

-- the reader goes on below these lines
pub record Follows (r : Reader) (before : List TextRow) : Type 0 where
  pub heading : IsReadTo r.heading before
  pub seen : seen_of_draft (draft_parts r.draft) ≡ seen_of (above before)
  pub kept : IsDraftInOrder (draft_parts r.draft)

-- a line was taken, or what it breaks first is told; no line up to it passes the input's limit
abbrev pub TakesRow : Result (Unit {0}) Fault → Reader → List TextRow → TextRow → Type 0
TakesRow (Ok _) new before row = (first_broken (λ b. row_breaks b before row) ≡ None) × Follows new (row ∷ before)
TakesRow (Err (fault.Broken b)) new before row = first_broken (λ b. row_breaks b before row) ≡ Some b
TakesRow (Err fault.Memory) new before row = Unit {0}

-- ---- the reader and the lines that are left

-- those of them that stand below the heading
abbrev pub below_heading : Heading → List TextRow → List TextRow
below_heading heading.Unread rows = drop (heading_length rows) rows
below_heading heading.Version2 rows = drop 1 rows
below_heading (heading.Whole top) rows = rows

-- the lines that the text still says
abbrev pub left_of : Reader → List TextRow → List (List (List ℕ))
left_of r rows = said (below_heading r.heading rows)

-- what an old reader makes with some lines, the new one makes with those that are left of them
abbrev pub Drafts : Reader → Reader → List TextRow → List TextRow → Type 0
Drafts old new rows rest =
    (p : Parts) → ComesTo (draft_parts old.draft) (left_of old rows) p → ComesTo (draft_parts new.draft) (left_of new rest) p

-- a line was taken of a text whose lines up to it pass no limit on their bytes
pub record Goes (old new : Reader) (row : TextRow) (result : Result (Unit {0}) Fault) : Type 0 where
  pub takes : (before : List TextRow) → Follows old before → size_of (row ∷ before) ≤ text_limit → TakesRow result new before row
  pub drafts : OnOk result ((rest : List TextRow) → Drafts old new (row ∷ rest) rest)

-- ---- the whole text

-- a refused text: the line of its refusal is named with the rule, or that a limit is passed there
abbrev pub IsRefusedAs : List ℕ → ReadErr → Type 0
IsRefusedAs text (err.Refused line r) = IsRefusal text line (Of r)
IsRefusedAs text (err.TooLarge line) = IsRefusal text line Limit
IsRefusedAs text err.OutOfMemory = Unit {0}

-- an accepted text: it stands for a script, a kernel and a greatest base priority
abbrev pub IsReadAs : List ℕ → Result (Sections × KernelOf × ℕ) ReadErr → Type 0
IsReadAs text (Ok read) = IsAccepted text × IsScriptOf read.0 text × IsKernelOf (kernel_of read.1) text × IsTopOf read.2 text
IsReadAs text (Err e) = IsRefusedAs text e

-- the error for what a line breaks
abbrev pub breach_error : ℕ → Breach → ReadErr
breach_error line Limit = err.TooLarge line
breach_error line (Of r) = err.Refused line r

-- Where the reader stands: it went over the lines above, which break no rule, and these bytes of the text are left.
pub record Reads (r : Reader) (before : List TextRow) (text : List ℕ) (line : ℕ) (rest : List ℕ) : Type 0 where
  pub follows : Follows r before
  pub whole : reverse before ++ text_rows rest ≡ text_rows text
  pub at : length before + 1 ≡ line
  pub gone : size_of before + length rest ≡ length text
  pub fine : (i : ℕ) → 1 ≤ i → i < line → first_broken (broken text i) ≡ None
  pub makes : ComesTo (draft_parts r.draft) (left_of r (text_rows rest)) (parts_of_text text)
