-- What the lines above a line say. Each list has the nearest line first, as words, without comments and the heading.
use Rattle.std.specs.Prelude.{ℕ, suc, ◌+◌, ◌^◌, ◌==◌, Bool, true, false, not, List, [], ◌∷◌, length, ◌++◌, Option, Some, None, nat_le, ℤ, pos, int_lt, unwrap_or, filter_map, if◌then◌else◌}
use Rattle.std.specs.List.{list_all}
use Rattle.std.specs.Ordering.{int_eq}
use Rattle.pth_spelling.specs.Starts.{begins}
use Rattle.pth_grammar.specs.LineMeanings.{numbered}
use Rattle.pth_spelling.specs.declared.keyword.Keyword.{Keyword}
use Rattle.pth_spelling.specs.declared.keyword.Keyword.TheVariants as key
use Rattle.pth_grammar.specs.declared.section.Section.{Section}
use Rattle.pth_grammar.specs.declared.section.Section.TheVariants as sec
use Rattle.pth_kernel.specs.declared.trace.Stamp.{Stamp}
use Rattle.pth_kernel.specs.Trace.{is_before_last, breaks_fd, is_full_of_stamps}
use Rattle.pth_grammar.specs.declared.kernel_part.KernelPart.TheVariants as part
use Rattle.pth_grammar.specs.KernelLines.{open_line, stamp_line}
use Rattle.pth_script.specs.Labels.{has}
use Rattle.pth_script.specs.Limits.{handler_limit, check_limit, body_limit, act_limit, body_line_limit}

-- ---- the section of a line

-- the section round the open one
abbrev pub section_around : Section → Section
section_around sec.Handler = sec.Handlers
section_around sec.Body = sec.Bodies
section_around s = s

-- where a line leads from a section
abbrev pub leads : Option Keyword → Section → Section
leads (Some key.Handler) s = sec.Handler
leads (Some key.Check) s = sec.Checks
leads (Some key.Thread) s = sec.Body
leads (Some key.End) s = section_around s
leads (Some key.Kernel) s = sec.Kernel part.Head
leads (Some key.Clock) s = sec.Kernel part.Opens
leads (Some key.Open) s = sec.Kernel part.Opens
leads (Some key.At) s = sec.Kernel part.Entries
leads _ s = s

-- the section of the line below these
unfoldable pub section_of : List (List (List ℕ)) → Section
section_of [] = sec.Handlers
section_of (l ∷ ls) = leads (begins l) (section_of ls)

-- ---- counts and numbers

-- what keyword begins a line
abbrev pub is_handler : Option Keyword → Bool
is_handler (Some key.Handler) = true
is_handler _ = false

abbrev pub is_check : Option Keyword → Bool
is_check (Some key.Check) = true
is_check _ = false

abbrev pub is_thread : Option Keyword → Bool
is_thread (Some key.Thread) = true
is_thread _ = false

abbrev pub is_kernel : Option Keyword → Bool
is_kernel (Some key.Kernel) = true
is_kernel _ = false

abbrev pub is_end : Option Keyword → Bool
is_end (Some key.End) = true
is_end _ = false

abbrev pub is_label : Option Keyword → Bool
is_label (Some key.Label) = true
is_label _ = false

abbrev pub is_goto : Option Keyword → Bool
is_goto (Some key.Goto) = true
is_goto _ = false

abbrev pub is_clock : Option Keyword → Bool
is_clock (Some key.Clock) = true
is_clock _ = false

abbrev pub is_opening : Option Keyword → Bool
is_opening (Some key.Open) = true
is_opening _ = false

abbrev pub is_stamp : Option Keyword → Bool
is_stamp (Some key.At) = true
is_stamp _ = false

-- it stands outside of handlers and bodies, or closes one
abbrev pub is_mark : Option Keyword → Bool
is_mark (Some key.Handler) = true
is_mark (Some key.Check) = true
is_mark (Some key.Thread) = true
is_mark (Some key.End) = true
is_mark (Some key.Kernel) = true
is_mark (Some key.Clock) = true
is_mark (Some key.Open) = true
is_mark (Some key.At) = true
is_mark _ = false

-- the lines above, down from the nearest that opens or closes a section
unfoldable pub since_mark : List (List (List ℕ)) → List (List (List ℕ))
since_mark [] = []
since_mark (l ∷ ls) = if is_mark (begins l) then [] else l ∷ since_mark ls

-- how many lines begin so
unfoldable pub count_of : (Option Keyword → Bool) → List (List (List ℕ)) → ℕ
count_of kind [] = 0
count_of kind (l ∷ ls) = if kind (begins l) then count_of kind ls + 1 else count_of kind ls

-- the numbers of the lines that begin so, the nearest last
unfoldable pub numbers : (Option Keyword → Bool) → List (List (List ℕ)) → List ℤ
numbers kind [] = []
numbers kind (l ∷ ls) = if kind (begins l) then numbers kind ls ++ unwrap_or (numbered l) (pos 0) ∷ [] else numbers kind ls

-- ---- the kernel

-- one more than the number of the nearest `open`
abbrev pub past_open : Option ℕ → ℕ → ℕ
past_open (Some f) least = f + 1
past_open None least = least

unfoldable pub next_open_of : List (List (List ℕ)) → ℕ
next_open_of [] = 0
next_open_of (l ∷ ls) = past_open (open_line l) (next_open_of ls)

-- the set with a descriptor more
abbrev pub with_open_one : Option ℕ → ℕ → ℕ
with_open_one (Some f) live = live + 2 ^ f
with_open_one None live = live

-- the set of the descriptors that are open from the start
unfoldable pub open_descriptors_of : List (List (List ℕ)) → ℕ
open_descriptors_of [] = 0
open_descriptors_of (l ∷ ls) = with_open_one (open_line l) (open_descriptors_of ls)

-- what comes, the nearest first
unfoldable pub stamps_of : List (List (List ℕ)) → List Stamp
stamps_of ls = filter_map stamp_line ls

-- ---- what is seen

-- what a line's rules need of the lines above it: the section that is open there, how many handlers, checks and bodies were
-- opened, how many lines the open one has, its labels and the labels that its gotos name, and of the kernel the least number
-- that an `open` may have, the set of those that are open, and what comes, the nearest first
pub record Seen : Type 0 where
  pub section : Section
  pub handlers : ℕ
  pub checks : ℕ
  pub bodies : ℕ
  pub lines : ℕ
  pub labels : List ℤ
  pub gotos : List ℤ
  pub next_open : ℕ
  pub live : ℕ
  pub stamps : List Stamp

abbrev pub seen_of : List (List (List ℕ)) → Seen
seen_of ls = record {
  section = section_of ls;
  handlers = count_of is_handler ls;
  checks = count_of is_check ls;
  bodies = count_of is_thread ls;
  lines = length (since_mark ls);
  labels = numbers is_label (since_mark ls);
  gotos = numbers is_goto (since_mark ls);
  next_open = next_open_of ls;
  live = open_descriptors_of ls;
  stamps = stamps_of ls;
}

-- ---- the rules that look above

-- one more than the open section may have, or than the text may have. In a kernel only an `at` line counts
abbrev pub passes_limit : Section → Option Keyword → Seen → Bool
passes_limit sec.Handler (Some key.End) s = false
passes_limit sec.Handler _ s = nat_le act_limit s.lines
passes_limit sec.Body (Some key.End) s = false
passes_limit sec.Body _ s = nat_le body_line_limit s.lines
passes_limit (sec.Kernel part) (Some key.At) s = is_full_of_stamps s.stamps
passes_limit (sec.Kernel part) _ s = false
passes_limit _ (Some key.Handler) s = nat_le handler_limit s.handlers
passes_limit _ (Some key.Check) s = nat_le check_limit s.checks
passes_limit _ (Some key.Thread) s = nat_le body_limit s.bodies
passes_limit _ _ s = false

-- its number is not the next one, or is there already, or doesn't rise
abbrev pub misnumbered : Option Keyword → Option ℤ → Seen → Bool
misnumbered (Some key.Handler) (Some n) s = not (int_eq n (pos s.handlers))
misnumbered (Some key.Check) (Some n) s = not (int_eq n (pos s.checks))
misnumbered (Some key.Thread) (Some n) s = not (int_eq n (pos s.bodies))
misnumbered (Some key.Label) (Some n) s = has s.labels n
misnumbered (Some key.Open) (Some n) s = int_lt n (pos s.next_open)
misnumbered _ _ s = false

-- it ends a body in which a `goto` names no label
abbrev pub leaves_goto : Section → Option Keyword → Seen → Bool
leaves_goto sec.Body (Some key.End) s = not (list_all (λ n. has s.labels n) s.gotos)
leaves_goto _ _ s = false

-- a kernel begins below no body
abbrev pub lacks_body : Option Keyword → Seen → Bool
lacks_body (Some key.Kernel) s = s.bodies == 0
lacks_body _ s = false

-- a moment is before the one of the line above
abbrev pub is_early : Option Stamp → Seen → Bool
is_early (Some x) s = is_before_last s.stamps x.at
is_early None s = false

-- what a descriptor may not do
abbrev pub misuses_fd : Option Stamp → Seen → Bool
misuses_fd (Some x) s = breaks_fd s.live s.stamps x
misuses_fd None s = false

-- ---- one line more

-- a section begins, which has no lines yet
abbrev pub opened : Section → Seen → Seen
opened to s = record s { section = to; lines = 0; labels = []; gotos = [] }

-- what is seen of handlers, checks and bodies below one line more
abbrev pub script_past : Option Keyword → Option ℤ → Seen → Seen
script_past (Some key.Handler) n s = record (opened sec.Handler s) { handlers = s.handlers + 1 }
script_past (Some key.Check) n s = record (opened sec.Checks s) { checks = s.checks + 1 }
script_past (Some key.Thread) n s = record (opened sec.Body s) { bodies = s.bodies + 1 }
script_past (Some key.End) n s = opened (section_around s.section) s
script_past (Some key.Kernel) n s = opened (sec.Kernel part.Head) s
script_past (Some key.Clock) n s = opened (sec.Kernel part.Opens) s
script_past (Some key.Open) n s = opened (sec.Kernel part.Opens) s
script_past (Some key.At) n s = opened (sec.Kernel part.Entries) s
script_past (Some key.Label) n s = record s { lines = suc s.lines; labels = s.labels ++ unwrap_or n (pos 0) ∷ [] }
script_past (Some key.Goto) n s = record s { lines = suc s.lines; gotos = s.gotos ++ unwrap_or n (pos 0) ∷ [] }
script_past _ n s = record s { lines = suc s.lines }

-- and of the kernel
abbrev pub opens_past : Option ℕ → Seen → Seen
opens_past opened s = record s { next_open = past_open opened s.next_open; live = with_open_one opened s.live }

abbrev pub stamps_past : Option Stamp → Seen → Seen
stamps_past (Some x) s = record s { stamps = x ∷ s.stamps }
stamps_past None s = s

-- what is seen below one line more
abbrev pub seen_past : List (List ℕ) → Seen → Seen
seen_past l s = stamps_past (stamp_line l) (opens_past (open_line l) (script_past (begins l) (numbered l) s))
