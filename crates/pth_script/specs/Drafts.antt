-- What a draft of a script has seen, and what becomes of it with the lines that are left.
use Rattle.std.specs.Prelude.{◌≡◌, ◌≤◌, ℕ, ◌+◌, All, Bool, true, false, List, [], ◌∷◌, ◌++◌, length, reverse, Option, None, option_map, map, if◌then◌else◌}
use Rattle.pth_grammar.specs.LineMeanings.{line_of, act_of}
use Rattle.pth_spelling.specs.declared.keyword.Keyword.{Keyword}
use Rattle.pth_grammar.specs.declared.section.Section.{Section}
use Rattle.pth_grammar.specs.declared.section.Section.TheVariants as sec
use Rattle.pth_line.specs.declared.act_line.ActLine.{ActLine}
use Rattle.pth_line.specs.declared.check.Check.{Check}
use Rattle.pth_line.specs.declared.line.Line.{Line}
use Rattle.pth_script.specs.Labels.{somes, labels_in, gotos_in, with_places}
use Rattle.pth_script.specs.Limits.{handler_limit, body_limit, act_limit}
use Rattle.pth_script.specs.Meaning.{Parts, until_end, sections_read, checks_of, opens_said, trace_said}
use Rattle.pth_grammar.specs.declared.kernel_part.KernelPart.TheVariants as part
use Rattle.pth_script.specs.Seen.{Seen, seen_past, is_handler, is_thread}
use Rattle.pth_script.specs.Broken.{said_breaks}
use Rattle.pth_script.specs.RuleOrder.{first_broken}
use Rattle.pth_script.specs.KernelDrafts.{IsKernelInOrder, clock_with}
use Rattle.pth_script.specs.declared.draft.Draft.{Draft}
use Rattle.pth_script.specs.declared.kernel_draft.KernelDraft.{KernelDraft}

-- ---- what was seen

-- a handler is open
abbrev pub in_handler : Section → Bool
in_handler sec.Handler = true
in_handler _ = false

-- a body is open
abbrev pub in_body : Section → Bool
in_body sec.Body = true
in_body _ = false

-- a kernel is open
abbrev pub in_kernel : Section → Bool
in_kernel (sec.Kernel part) = true
in_kernel _ = false

-- a line of a kernel stands above
abbrev pub below_part : Section → Bool
below_part (sec.Kernel part.Opens) = true
below_part (sec.Kernel part.Entries) = true
below_part _ = false

-- something came
abbrev pub in_entries : Section → Bool
in_entries (sec.Kernel part.Entries) = true
in_entries _ = false

-- with the one that is open
abbrev pub with_open : Bool → ℕ → ℕ
with_open is_open n = if is_open then n + 1 else n

-- the parts of a draft, as lists
pub record DraftParts : Type 0 where
  pub section : Section
  pub handlers : List (List ActLine)
  pub checks : List Check
  pub bodies : List (List Line)
  pub acts : List ActLine
  pub body : List Line
  pub kernel : KernelDraft

-- those of a draft in the code
abbrev pub draft_parts : Draft → DraftParts
draft_parts d = record {
  section = d.section;
  handlers = d.handlers.items;
  checks = d.checks.items;
  bodies = d.bodies.items;
  acts = d.acts;
  body = d.body;
  kernel = d.kernel;
}

-- a draft as what was seen
abbrev pub seen_of_draft : DraftParts → Seen
seen_of_draft d = record {
  section = d.section;
  handlers = with_open (in_handler d.section) (length d.handlers);
  checks = length d.checks;
  bodies = with_open (in_body d.section) (length d.bodies);
  lines = length d.acts + length d.body;
  labels = labels_in d.body;
  gotos = gotos_in d.body;
  next_open = d.kernel.next_open;
  live = d.kernel.live.0;
  stamps = reverse d.kernel.trace;
}

-- no lines are kept of a section that is not open, nothing is kept of a kernel above the lines that say it, and no limit is passed
pub record IsDraftInOrder (d : DraftParts) : Type 0 where
  pub no_acts : in_handler d.section ≡ false → d.acts ≡ []
  pub no_lines : in_body d.section ≡ false → d.body ≡ []
  pub few_acts : length d.acts ≤ act_limit
  pub short_handlers : All (λ (acts : List ActLine). length acts ≤ act_limit) d.handlers
  pub few_handlers : with_open (in_handler d.section) (length d.handlers) ≤ handler_limit
  pub few_bodies : with_open (in_body d.section) (length d.bodies) ≤ body_limit
  pub no_clock : below_part d.section ≡ false → d.kernel.clock ≡ None
  pub no_entries : in_entries d.section ≡ false → d.kernel.trace ≡ []
  pub kernel : IsKernelInOrder d.kernel

-- nothing is open, and there is a body
pub record IsClosable (d : DraftParts) : Type 0 where
  pub handler : in_handler d.section ≡ false
  pub body : in_body d.section ≡ false
  pub some : 1 ≤ length d.bodies

-- ---- what becomes of it

-- the rest of sections, of which one may be open with some lines read
abbrev pub rest_of_sections : {A : Type 0} → (Option Keyword → Bool) → (List (List ℕ) → A) → Bool → List A → List (List (List ℕ)) → List (List A)
rest_of_sections opens read is_open lines ls = if is_open then (lines ++ until_end read ls) ∷ sections_read opens read ls else sections_read opens read ls

-- the lines that are left make these parts of the draft
pub record ComesTo (d : DraftParts) (ls : List (List (List ℕ))) (p : Parts) : Type 0 where
  pub handlers : map somes d.handlers ++ rest_of_sections is_handler act_of (in_handler d.section) (somes d.acts) ls ≡ p.handlers
  pub checks : somes d.checks ++ checks_of ls ≡ p.checks
  pub bodies : map somes d.bodies ++ map with_places (rest_of_sections is_thread line_of (in_body d.section) (somes d.body) ls) ≡ p.bodies
  pub clock : clock_with d.kernel.clock ls ≡ p.clock
  pub opens : option_map (λ set. d.kernel.live.0 + set) (opens_said ls) ≡ p.opens
  pub trace : somes d.kernel.trace ++ trace_said ls ≡ p.trace

-- ---- one line more

-- the words of a line break no rule
abbrev pub IsFine : DraftParts → List (List ℕ) → Type 0
IsFine d ws = first_broken (said_breaks true (seen_of_draft d) ws) ≡ None

-- the handler that was open is closed
abbrev pub handler_closed : DraftParts → DraftParts
handler_closed d = record d { section = sec.Handlers; handlers = d.handlers ++ d.acts ∷ []; acts = [] }

-- the body that was open is closed: each `goto` goes to the line after its label
abbrev pub IsClosed : DraftParts → DraftParts → Type 0
IsClosed old new =
    (body : List Line) × (somes body ≡ with_places (somes old.body)) × (new ≡ record old { section = sec.Bodies; bodies = old.bodies ++ body ∷ []; body = [] })

-- the draft went over a line
pub record Takes (old new : DraftParts) (ws : List (List ℕ)) : Type 0 where
  pub seen : seen_of_draft new ≡ seen_past ws (seen_of_draft old)
  pub kept : IsDraftInOrder new
  pub makes : (ls : List (List (List ℕ))) (p : Parts) → ComesTo old (ws ∷ ls) p → ComesTo new ls p
