-- The rules of a text: one predicate for each, on the whole text and the number of a line.
use Rattle.std.specs.Prelude.{◌≡◌, ℕ, ◌+◌, ◌-◌, ◌≤◌, ◌<◌, Bool, true, false, ◌||◌, ◌&&◌, not, List, ◌∷◌, length, Option, Some, None, is_none, ◌==◌, nat_lt, if◌then◌else◌, slice_get, take, reverse}
use Rattle.pth_text.specs.LineWords.{words_of}
use Rattle.pth_spelling.specs.Starts.{begins}
use Rattle.pth_grammar.specs.LineMeanings.{numbered}
use Rattle.pth_grammar.specs.Shapes.{shape_of, words_break}
use Rattle.pth_grammar.specs.KernelLines.{stamp_line}
use Rattle.pth_text.specs.declared.rule.Rule.TheVariants as rule
use Rattle.pth_grammar.specs.declared.section.Section.{Section}
use Rattle.pth_grammar.specs.declared.section.Section.TheVariants as sec
use Rattle.pth_script.specs.Limits.{text_limit, line_limit}
use Rattle.pth_script.specs.TextRows.{TextRow, text_rows, size_of, is_comment, is_version_1, is_version_2, range_said, is_first, is_second, is_heading, above}
use Rattle.pth_script.specs.Seen.{Seen, seen_of, passes_limit, misnumbered, leaves_goto, lacks_body, is_early, misuses_fd}
use Rattle.pth_script.specs.RuleOrder.{first_broken}
use Rattle.pth_text.specs.declared.rule.Breach.{Breach}
use Rattle.pth_text.specs.declared.rule.Breach.TheVariants.{Limit, Of}

-- ---- a line of words

-- what the words of a line break, under what was seen above it
unfoldable pub line_breaks : Breach → Seen → List (List ℕ) → Bool
line_breaks Limit s ws = passes_limit s.section (begins ws) s
line_breaks (Of rule.Number) s ws = misnumbered (begins ws) (numbered ws) s
line_breaks (Of rule.Label) s ws = leaves_goto s.section (begins ws) s
line_breaks (Of rule.Main) s ws = lacks_body (begins ws) s
line_breaks (Of rule.Time) s ws = is_early (stamp_line ws) s
line_breaks (Of rule.Fd) s ws = misuses_fd (stamp_line ws) s
line_breaks (Of r) s ws = words_break r (shape_of s.section ws)

-- the same, with whether an LF ends the line
unfoldable pub said_breaks : Bool → Seen → List (List ℕ) → Breach → Bool
said_breaks ended s ws (Of rule.Cut) = not ended
said_breaks ended s ws (Of rule.Header) = false
said_breaks ended s ws b = line_breaks b s ws

-- a line of the heading has no words to look at, and no comment has
unfoldable pub says_wrong : Breach → List TextRow → TextRow → Bool
says_wrong b before row = if is_heading before || is_comment row.bytes then false else line_breaks b (seen_of (above before)) (words_of row.bytes)

-- ---- a place of the text

-- the first line says no version, or the second line of version 2 no range
abbrev pub misses_heading : List TextRow → TextRow → Bool
misses_heading before row =
    (is_first before && not (is_version_1 row || is_version_2 row)) || (is_second before && is_none (range_said row.bytes))

-- a byte beyond the input's limit stands above or in the line, or the line is too long
abbrev pub is_long : List TextRow → TextRow → Bool
is_long before row = nat_lt text_limit (size_of (row ∷ before)) || nat_lt line_limit (length row.bytes)

-- a line breaks a rule, below the lines that stand above it, the nearest first
unfoldable pub row_breaks : Breach → List TextRow → TextRow → Bool
row_breaks Limit before row = is_long before row || says_wrong Limit before row
row_breaks (Of rule.Cut) before row = not row.ended
row_breaks (Of rule.Header) before row = misses_heading before row
row_breaks b before row = says_wrong b before row

-- a handler or a body is open
abbrev pub is_open : Section → Bool
is_open sec.Handler = true
is_open sec.Body = true
is_open _ = false

-- and so does the place after the last line
unfoldable pub end_breaks : Breach → List TextRow → Bool
end_breaks (Of rule.Header) before = is_heading before
end_breaks (Of rule.Main) before = (seen_of (above before)).bodies == 0
end_breaks (Of rule.End) before = is_open (seen_of (above before)).section
end_breaks _ before = false

-- a line, or the place after the last one
abbrev pub place_breaks : Breach → List TextRow → Option TextRow → Bool
place_breaks b before None = end_breaks b before
place_breaks b before (Some row) = row_breaks b before row

-- ---- the whole text

-- the i-th line of the text breaks the rule, or the place after the last one does. Lines are numbered from 1
unfoldable pub broken : List ℕ → ℕ → Breach → Bool
broken text i b = place_breaks b (reverse (take (i - 1) (text_rows text))) (slice_get (text_rows text) (i - 1))

-- how many places a text has
abbrev pub places : List ℕ → ℕ
places text = length (text_rows text) + 1

-- the rule is the first that the line breaks, and no line before it breaks any
pub record IsRefusal (text : List ℕ) (line : ℕ) (b : Breach) : Type 0 where
  pub from : 1 ≤ line
  pub within : line ≤ places text
  pub first : first_broken (broken text line) ≡ Some b
  pub least : (i : ℕ) → 1 ≤ i → i < line → first_broken (broken text i) ≡ None

-- no line breaks a rule
abbrev pub IsAccepted : List ℕ → Type 0
IsAccepted text = (i : ℕ) → 1 ≤ i → i ≤ places text → first_broken (broken text i) ≡ None
