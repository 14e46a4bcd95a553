-- What an accepted text stands for, read from its lines.
--
-- Each list has an option for each line, so a line that a definition drops shows in a proof.
use Rattle.std.specs.Prelude.{◌≡◌, ℕ, ◌+◌, ◌^◌, Bool, List, [], ◌∷◌, Option, Some, option_map, option_and_then, map, drop, if◌then◌else◌}
use Rattle.pth_text.specs.LineWords.{words_of}
use Rattle.pth_spelling.specs.Starts.{begins}
use Rattle.pth_grammar.specs.LineMeanings.{line_of, act_of, check_of}
use Rattle.pth_spelling.specs.declared.keyword.Keyword.{Keyword}
use Rattle.pth_line.specs.Script.{Sections}
use Rattle.pth_line.specs.declared.act_line.ActLine.{ActLine}
use Rattle.pth_line.specs.declared.check.Check.{Check}
use Rattle.pth_line.specs.declared.line.Line.{Line}
use Rattle.pth_kernel.specs.declared.trace.Stamp.{Stamp}
use Rattle.pth_kernel.specs.Kernel.{Kernel, started}
use Rattle.pth_grammar.specs.KernelLines.{clock_line, open_line, stamp_line}
use Rattle.pth_script.specs.Labels.{somes, with_places}
use Rattle.pth_script.specs.TextRows.{TextRow, text_rows, is_comment, heading_length, range_of}
use Rattle.pth_script.specs.Seen.{is_handler, is_check, is_thread, is_end, is_clock, is_opening, is_stamp}

-- lines as words, without comments
unfoldable pub said : List TextRow → List (List (List ℕ))
said [] = []
said (r ∷ rs) = if is_comment r.bytes then said rs else words_of r.bytes ∷ said rs

-- what the lines up to `end` stand for
unfoldable pub until_end : {A : Type 0} → (List (List ℕ) → A) → List (List (List ℕ)) → List A
until_end read [] = []
until_end read (l ∷ ls) = if is_end (begins l) then [] else read l ∷ until_end read ls

-- each line that opens so begins a section, which has the lines up to its `end`
unfoldable pub sections_read : {A : Type 0} → (Option Keyword → Bool) → (List (List ℕ) → A) → List (List (List ℕ)) → List (List A)
sections_read opens read [] = []
sections_read opens read (l ∷ ls) = if opens (begins l) then until_end read ls ∷ sections_read opens read ls else sections_read opens read ls

-- the checks of lines
unfoldable pub checks_of : List (List (List ℕ)) → List (Option Check)
checks_of [] = []
checks_of (l ∷ ls) = if is_check (begins l) then check_of l ∷ checks_of ls else checks_of ls

-- their handlers
abbrev pub handlers_of : List (List (List ℕ)) → List (List (Option ActLine))
handlers_of ls = sections_read is_handler act_of ls

-- their bodies, in which each `goto` has its place
abbrev pub bodies_of : List (List (List ℕ)) → List (List (Option Line))
bodies_of ls = map with_places (sections_read is_thread line_of ls)

-- how far a turn moves the kernel's time, in microseconds: 1 where no line says it
unfoldable pub clock_said : List (List (List ℕ)) → Option ℕ
clock_said [] = Some 1
clock_said (l ∷ ls) = if is_clock (begins l) then clock_line l else clock_said ls

-- the set that has a descriptor more
abbrev pub opened_with : Option ℕ → Option ℕ → Option ℕ
opened_with opened live = option_and_then (λ f. option_map (λ set. 2 ^ f + set) live) opened

-- the set of the descriptors that are open from the start
unfoldable pub opens_said : List (List (List ℕ)) → Option ℕ
opens_said [] = Some 0
opens_said (l ∷ ls) = if is_opening (begins l) then opened_with (open_line l) (opens_said ls) else opens_said ls

-- what comes to descriptors
unfoldable pub trace_said : List (List (List ℕ)) → List (Option Stamp)
trace_said [] = []
trace_said (l ∷ ls) = if is_stamp (begins l) then stamp_line l ∷ trace_said ls else trace_said ls

-- what a heading and the lines below it stand for
pub record Parts : Type 0 where
  pub range : ℕ
  pub handlers : List (List (Option ActLine))
  pub checks : List (Option Check)
  pub bodies : List (List (Option Line))
  pub clock : Option ℕ
  pub opens : Option ℕ
  pub trace : List (Option Stamp)

abbrev pub parts_of : ℕ → List (List (List ℕ)) → Parts
parts_of range ls = record {
  range = range;
  handlers = handlers_of ls;
  checks = checks_of ls;
  bodies = bodies_of ls;
  clock = clock_said ls;
  opens = opens_said ls;
  trace = trace_said ls;
}

-- a script has the handlers, checks and bodies among these parts
pub record HasSections (s : Sections) (p : Parts) : Type 0 where
  pub handlers : map somes s.handlers ≡ p.handlers
  pub checks : somes s.checks ≡ p.checks
  pub bodies : map somes s.bodies ≡ p.bodies

-- a kernel starts with the clock, the open descriptors and the trace among them
abbrev pub HasKernel : Kernel → Parts → Type 0
HasKernel k p = (clock live : ℕ) × (trace : List Stamp) × (Some clock ≡ p.clock) × (Some live ≡ p.opens) × (somes trace ≡ p.trace) × (k ≡ started clock live trace)

-- the parts that a text stands for: its heading says the range, and its lines below the heading are read
abbrev pub parts_of_text : List ℕ → Parts
parts_of_text text = let rows = text_rows text in parts_of (range_of rows) (said (drop (heading_length rows) rows))

abbrev pub IsScriptOf : Sections → List ℕ → Type 0
IsScriptOf s text = HasSections s (parts_of_text text)

abbrev pub IsKernelOf : Kernel → List ℕ → Type 0
IsKernelOf k text = HasKernel k (parts_of_text text)

-- the greatest base priority, N of the range from -N to N
abbrev pub IsTopOf : ℕ → List ℕ → Type 0
IsTopOf top text = top ≡ (parts_of_text text).range
