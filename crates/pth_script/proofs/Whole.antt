-- Every text is accepted and stands for a script, or is refused.
use Rattle.std.proofs.Common.{◌≡◌, ◌≤◌, ◌<◌, ◌==◌, ℕ, suc, zero, ◌+◌, Bool, true, false, cond, List, [], ◌∷◌, ◌++◌, length, Option, Some, None, refl, ap, sym, subst, ◌∙◌, arith, inl, inr, ◌⊎◌, length-append, append-nil, if◌then◌else◌}
use Rattle.std.specs.Prelude.{reverse, map, drop}
use Rattle.std.proofs.lemmas.Bool.{cases_Bool, cases_order, not-false}
use Rattle.std.proofs.lemmas.List.{length-reverse}
use Rattle.pth_text.specs.LineWords.{words_of}
use Rattle.pth_spelling.specs.Starts.{begins}
use Rattle.pth_grammar.specs.LineMeanings.{act_of, check_of, line_of}
use Rattle.pth_spelling.specs.declared.keyword.Keyword.{Keyword}
use Rattle.pth_spelling.specs.declared.keyword.Keyword.TheVariants as key
use Rattle.pth_text.specs.declared.rule.Rule.TheVariants as rule
use Rattle.pth_grammar.specs.declared.section.Section.{Section}
use Rattle.pth_grammar.specs.declared.section.Section.TheVariants as sec
use Rattle.pth_kernel.specs.Kernel.{Kernel}
use Rattle.pth_grammar.specs.KernelLines.{clock_line, open_line, stamp_line}
use Rattle.pth_grammar.specs.declared.kernel_part.KernelPart.{KernelPart}
use Rattle.pth_grammar.specs.declared.kernel_part.KernelPart.TheVariants as part
use Rattle.pth_line.specs.Script.{Sections}
use Rattle.pth_line.specs.declared.line.Line.{Line}
use Rattle.pth_line.specs.declared.line.Line.TheVariants as line
use Rattle.pth_script.specs.Broken.{broken, places, row_breaks, end_breaks, is_long, is_open, said_breaks, IsAccepted, IsRefusal}
use Rattle.pth_script.specs.Drafts.{DraftParts, seen_of_draft, in_handler, in_body, in_kernel, handler_closed, IsClosed, IsFine, IsDraftInOrder, ComesTo, Takes}
use Rattle.pth_script.specs.Labels.{somes, with_places, placed_in}
use Rattle.pth_script.specs.Meaning.{Parts, said, parts_of_text, IsScriptOf, IsKernelOf, IsTopOf}
use Rattle.pth_script.specs.TextRows.{TextRow, text_rows, is_comment, is_version_2, is_heading, heading_length, range_of, above}
use Rattle.pth_script.specs.Seen.{seen_of, seen_past, is_check, is_end, is_handler, is_kernel}
use Rattle.pth_script.specs.RuleOrder.{first_broken}
use Rattle.pth_text.specs.declared.rule.Breach.{Breach}
use Rattle.pth_text.specs.declared.rule.Breach.TheVariants.{Limit, Of}
use Rattle.pth_script.proofs.Above.{seen_more, above_none}
use Rattle.pth_script.proofs.Cuts.{at_row, at_end}
use Rattle.pth_script.proofs.RowRules.{long_row, said_row_rule, above_heading, above_comment, above_said, end_rule, end_in_heading}
use Rattle.pth_script.proofs.Headings.{below_it}
use Rattle.pth_script.proofs.Runs.{one_more, sections_made, kernel_made}
use Rattle.pth_script.proofs.Said.{fine_line, said_comment, said_line_of}
use Rattle.pth_script.proofs.Starting.{nothing, nothing_seen, nothing_kept, nothing_makes}
use Rattle.pth_script.proofs.GhostRules.{blank, opens, stamps}
use Rattle.pth_script.proofs.Taken.{act_line_taken, handler_end_taken, act_is_read, body_line_taken, body_end_taken, line_is_read, handler_open_taken, kernel_open_taken, body_open_taken, check_line_taken, check_is_read}
use Rattle.pth_script.proofs.TakenParts.{clock_line_taken, open_low, open_rises, nothing_came, open_line_taken, stamp_fine, stamp_line_taken}
use Rattle.pth_script.proofs.TakingParts.{with_clock, with_descriptor, with_stamp}

-- ---- a line that breaks no rule is taken

-- a value, or none
some_or_none : {A : Type 0} (o : Option A) → ((x : A) × (o ≡ Some x)) ⊎ (o ≡ None)
some_or_none (Some x) = inl (x, refl)
some_or_none None = inr refl

placed_line : (all : List (Option Line)) (l : Line) → (m : Line) × (Some m ≡ placed_in all (Some l))
placed_line all (line.Goto k to x r y) = (line.Goto k _ x r y, refl)
placed_line all (line.Set r v) = (line.Set r v, refl)
placed_line all (line.Add r v) = (line.Add r v, refl)
placed_line all (line.Note v) = (line.Note v, refl)
placed_line all (line.Label k) = (line.Label k, refl)
placed_line all (line.Call a c) = (line.Call a c, refl)

placed_lines : (all : List (Option Line)) (ls : List Line) → (ms : List Line) × (somes ms ≡ map (placed_in all) (somes ls))
placed_lines all [] = ([], refl)
placed_lines all (l ∷ ls) =
    let first = placed_line all l in
    let others = placed_lines all ls in
    (first.0 ∷ others.0, λ i. first.1 i ∷ others.1 i)

closed : (d : DraftParts) → (e : DraftParts) × IsClosed d e
unfolding with_places
closed d = let body = placed_lines (somes d.body) d.body in (record d { section = sec.Bodies; bodies = d.bodies ++ body.0 ∷ []; body = [] }, (body.0, body.1, refl))

check_begins : (k : Option Keyword) → is_check k ≡ true → k ≡ Some key.Check
check_begins (Some key.Check) h = refl
check_begins _ h = absurd (cc)

module _ (d : DraftParts) (ws : List (List ℕ)) (kept : IsDraftInOrder d) (fine : IsFine d ws) where
  abbrev Taken : Type 0
  Taken = (e : DraftParts) × Takes d e ws

  act_taken : d.section ≡ sec.Handler → Taken
  act_taken at = elim (cases_Bool (is_end (begins ws))) [
    | inl end ↦ (handler_closed d, handler_end_taken d ws kept at end)
    | inr more ↦ elim (some_or_none (act_of ws)) [
      | inl a ↦ (record d { acts = d.acts ++ a.0 ∷ [] }, act_line_taken d ws kept at a.0 fine more a.1)
      | inr none ↦ absurd (act_is_read d ws kept at fine more none)
    ]
  ]

  line_taken : d.section ≡ sec.Body → Taken
  line_taken at = elim (cases_Bool (is_end (begins ws))) [
    | inl end ↦ let e = closed d in (e.0, body_end_taken d ws kept at e.0 e.1 end)
    | inr more ↦ elim (some_or_none (line_of ws)) [
      | inl l ↦ (record d { body = d.body ++ l.0 ∷ [] }, body_line_taken d ws kept at l.0 l.1)
      | inr none ↦ absurd (line_is_read d ws kept at fine more none)
    ]
  ]

  opening_taken : in_handler d.section ≡ false → in_body d.section ≡ false → in_kernel d.section ≡ false → Taken
  opening_taken h b n = elim (cases_Bool (is_check (begins ws))) [
    | inl check ↦ let first = check_begins (begins ws) check in elim (some_or_none (check_of ws)) [
      | inl c ↦ (record d { section = sec.Checks; checks = d.checks ++ c.0 ∷ [] }, check_line_taken d ws kept h b n fine c.0 first c.1)
      | inr none ↦ absurd (check_is_read d ws kept h b n fine first none)
    ]
    | inr no_check ↦ elim (cases_Bool (is_handler (begins ws))) [
      | inl handler ↦ (record d { section = sec.Handler }, handler_open_taken d ws kept h b n fine handler)
      | inr no_handler ↦ elim (cases_Bool (is_kernel (begins ws))) [
        | inl kernel ↦ (record d { section = sec.Kernel part.Head }, kernel_open_taken d ws kept h b n fine kernel)
        | inr no_kernel ↦ (record d { section = sec.Body }, body_open_taken d ws kept h b n fine (record { handler = no_handler; check = no_check; kernel = no_kernel }))
      ]
    ]
  ]

  part_taken : (p : KernelPart) → d.section ≡ sec.Kernel p → Taken
  part_taken p at = elim (some_or_none (stamp_line ws)) [
    | inl x ↦ let rules = stamps d.kernel kept.kernel x.0 (stamp_fine d ws kept p at fine x.0 x.1) in (record d { section = sec.Kernel part.Entries; kernel = with_stamp d.kernel x.0 rules.0 }, stamp_line_taken d ws kept p at fine x.0 x.1 rules.0 rules.1)
    | inr no_stamp ↦ elim (some_or_none (open_line ws)) [
      | inl f ↦ let rules = opens d.kernel kept.kernel f.0 (open_rises d ws kept p at fine f.0 f.1) (open_low d ws kept p at fine f.0 f.1) (nothing_came d ws kept p at fine f.0 f.1) in
          (record d { section = sec.Kernel part.Opens; kernel = with_descriptor d.kernel f.0 rules.0 }, open_line_taken d ws kept p at fine f.0 f.1 rules.0 rules.1)
      | inr no_open ↦ (record d { section = sec.Kernel part.Opens; kernel = with_clock d.kernel (clock_line ws) }, clock_line_taken d ws kept p at fine no_stamp no_open)
    ]
  ]

  taken_in : (s : Section) → d.section ≡ s → Taken
  taken_in sec.Handler e = act_taken e
  taken_in sec.Body e = line_taken e
  taken_in sec.Handlers e = opening_taken (ap in_handler e) (ap in_body e) (ap in_kernel e)
  taken_in sec.Checks e = opening_taken (ap in_handler e) (ap in_body e) (ap in_kernel e)
  taken_in sec.Bodies e = opening_taken (ap in_handler e) (ap in_body e) (ap in_kernel e)
  taken_in (sec.Kernel p) e = part_taken p e

  taken : Taken
  taken = taken_in d.section refl

-- ---- a text in which no line breaks a rule

pub limit_first : (long : Bool) (o : Option Breach) → (long ≡ true → o ≡ Some Limit) → o ≡ None → long ≡ false
limit_first true o h none = absurd (some_limit o (h refl) none)
  where
    some_limit : (o : Option Breach) → o ≡ Some Limit → o ≡ None → ⊥
    some_limit o some none = absurd (cc)
limit_first false o h none = refl

shut_by : (first none shut : Bool) → cond first (Some (Of rule.Header)) (cond none (Some (Of rule.Main)) (cond shut (Some (Of rule.End)) None)) ≡ None → shut ≡ false
shut_by true none shut h = absurd (cc)
shut_by false true shut h = absurd (cc)
shut_by false false true h = absurd (cc)
shut_by false false false h = refl

neither_open : (s : Section) → is_open s ≡ false → (in_handler s ≡ false) × (in_body s ≡ false)
neither_open sec.Handler h = absurd (cc)
neither_open sec.Body h = absurd (cc)
neither_open sec.Handlers h = (refl, refl)
neither_open sec.Checks h = (refl, refl)
neither_open sec.Bodies h = (refl, refl)
neither_open (sec.Kernel p) h = (refl, refl)

module _ (text : List ℕ) (accepted : IsAccepted text) where
  pub row_fine : (before rest : List TextRow) (row : TextRow) → reverse before ++ row ∷ rest ≡ text_rows text → first_broken (λ b. row_breaks b before row) ≡ None
  row_fine before rest row e =
      sym (at_row text before rest row e) ∙ accepted (length before + 1) (omega arith) (omega (arith, ap length e, length-append (reverse before) (row ∷ rest), length-reverse before))

  pub end_fine : (before : List TextRow) → reverse before ≡ text_rows text → first_broken (λ b. end_breaks b before) ≡ None
  end_fine before e = sym (at_end text before e) ∙ accepted (length before + 1) (omega arith) (omega (arith, ap length e, length-reverse before))

  -- a line of words breaks nothing in the draft of the lines above
  words_fine : (before rest : List TextRow) (row : TextRow) (d : DraftParts) → reverse before ++ row ∷ rest ≡ text_rows text → is_heading before ≡ false → is_comment row.bytes ≡ false
      → seen_of_draft d ≡ seen_of (above before) → IsFine d (words_of row.bytes)
  words_fine before rest row d e below words s =
      let none = row_fine before rest row e in
      let short = limit_first (is_long before row) _ (long_row before row) none in
      let fine = sym (said_row_rule before row below words short) ∙ none in
      let ended = sym (not-false row.ended (fine_line row.ended (seen_of (above before)) (words_of row.bytes) fine).cut) in
      (λ i. first_broken (said_breaks (ended i) (s i) (words_of row.bytes))) ∙ fine

  module _ (parts : Parts) where
    -- all lines were taken, and what is left makes these sections
    pub record TakesAll : Type 0 where
      pub before : List TextRow
      pub draft : DraftParts
      pub all : reverse before ≡ text_rows text
      pub seen : seen_of_draft draft ≡ seen_of (above before)
      pub makes : ComesTo draft [] parts

    take_all : (before rest : List TextRow) (d : DraftParts) → reverse before ++ rest ≡ text_rows text → is_heading before ≡ false → seen_of_draft d ≡ seen_of (above before) → IsDraftInOrder d
        → ComesTo d (said rest) parts → TakesAll
    unfolding said
    take_all before [] d e below s kept m = record { before = before; draft = d; all = sym (append-nil (reverse before)) ∙ e; seen = s; makes = m }
    take_all before (row ∷ rest) d e below s kept m = elim (cases_Bool (is_comment row.bytes)) [
      | inl comment ↦ take_all (row ∷ before) rest d (one_more before rest (text_rows text) row e) (below_it before row below) (s ∙ ap seen_of (sym (above_comment before row comment))) kept
          (subst (λ ls. ComesTo d ls parts) (said_comment row rest comment) m)
      | inr words ↦
          let ws = words_of row.bytes in
          let t = taken d ws kept (words_fine before rest row d e below words s) in
          take_all (row ∷ before) rest t.0 (one_more before rest (text_rows text) row e) (below_it before row below)
          (t.1.seen ∙ ap (λ x. seen_past ws x) s ∙ sym (seen_more ws (above before)) ∙ ap seen_of (sym (above_said before row below words)))
          t.1.kept (t.1.makes (said rest) parts (subst (λ ls. ComesTo d ls parts) (said_line_of row rest words) m))
    ]

  -- the script and the kernel of these lines, and the greatest base priority
  abbrev Stands : Type 0
  Stands = (s : Sections) × (k : Kernel) × (top : ℕ) × IsScriptOf s text × IsKernelOf k text × IsTopOf top text

  -- the heading is read, and what is left makes a script
  stands_below : (before rest : List TextRow) → reverse before ++ rest ≡ text_rows text → is_heading before ≡ false → above before ≡ [] → said rest ≡ said (drop (heading_length (text_rows text)) (text_rows text)) → Stands
  stands_below before rest e below none left =
      let ls = said (drop (heading_length (text_rows text)) (text_rows text)) in
      let start = nothing blank.0 in
      let all = take_all (parts_of_text text) before rest start e below (nothing_seen blank.0 blank.1 ∙ ap seen_of (sym none)) (nothing_kept blank.0 blank.1)
      (subst (λ t. ComesTo start t (parts_of_text text)) (sym left) (nothing_makes blank.0 blank.1 (range_of (text_rows text)) ls)) in
      let shut = neither_open all.draft.section
      (ap (λ x. is_open x.section) all.seen ∙ shut_by (is_heading all.before) ((seen_of (above all.before)).bodies == 0) _ (sym (end_rule all.before) ∙ end_fine all.before all.all)) in
      (record { handlers = all.draft.handlers; checks = all.draft.checks; bodies = all.draft.bodies }, _, _, sections_made all.draft (parts_of_text text) shut.0 shut.1 all.makes, kernel_made all.draft (parts_of_text text) all.makes, refl)

  no_end : (before : List TextRow) → reverse before ≡ text_rows text → is_heading before ≡ true → ⊥
  no_end before e here = some_header (end_fine before e) (end_in_heading before here)
    where
      some_header : {o : Option Breach} → o ≡ None → o ≡ Some (Of rule.Header) → ⊥
      some_header none some = absurd (cc)

  above_one : (row : TextRow) → above (row ∷ []) ≡ []
  above_one row = above_heading [] row refl ∙ above_none

  two_lines : (row : TextRow) (rest : List TextRow) → text_rows text ≡ row ∷ rest → is_version_2 row ≡ true → Stands
  two_lines row [] e second = absurd (no_end (row ∷ []) (sym e) second)
  two_lines row (range ∷ rest) e second =
      stands_below (range ∷ row ∷ []) rest (sym e) refl (above_heading (row ∷ []) range second ∙ above_one row)
      (ap said (λ i. drop (if sym second i then 2 else 1) (row ∷ range ∷ rest)) ∙ ap (λ rows. said (drop (heading_length rows) rows)) (sym e))

  script_by : (rows : List TextRow) → text_rows text ≡ rows → Stands
  script_by [] e = absurd (no_end [] (sym e) refl)
  script_by (row ∷ rest) e = elim (cases_Bool (is_version_2 row)) [
    | inl second ↦ two_lines row rest e second
    | inr first ↦ stands_below (row ∷ []) rest (sym e) first (above_one row)
        (ap said (λ i. drop (if sym first i then 2 else 1) (row ∷ rest)) ∙ ap (λ rows. said (drop (heading_length rows) rows)) (sym e))
  ]

  -- it stands for a script and a kernel, and has a greatest base priority
  pub script_of : Stands
  script_of = script_by (text_rows text) refl

-- ---- every text

-- no place up to this one breaks a rule, or the least that does
first_place : (text : List ℕ) (n : ℕ) → ((i : ℕ) → 1 ≤ i → i ≤ n → first_broken (broken text i) ≡ None)
    ⊎ ((line : ℕ) × (b : Breach) × (1 ≤ line) × (line ≤ n) × (first_broken (broken text line) ≡ Some b) × ((i : ℕ) → 1 ≤ i → i < line → first_broken (broken text i) ≡ None))
first_place text zero = inl (λ i from within. absurd (omega arith))
first_place text (suc n) = elim (first_place text n) [
  | inr r ↦ let within = r.3 in inr (r.0, r.1, r.2, omega arith, r.4, r.5)
  | inl fine ↦ elim (some_or_none (first_broken (broken text (suc n)))) [
    | inl b ↦ inr (suc n, b.0, omega arith, omega arith, b.1, λ i from below. fine i from (omega arith))
    | inr none ↦ inl (λ i from within. elim (cases_order i (suc n)) [
      | inl same ↦ ap (λ k. first_broken (broken text k)) same ∙ none
      | inr h ↦ elim h [ inl below ↦ fine i from (omega arith) | inr over ↦ absurd (omega arith) ]
    ])
  ]
]

-- a text is accepted or refused
pub accepted_or_refused : (text : List ℕ) → IsAccepted text ⊎ ((line : ℕ) × (b : Breach) × IsRefusal text line b)
accepted_or_refused text = elim (first_place text (places text)) [
  | inl fine ↦ inl fine
  | inr r ↦ inr (r.0, r.1, record { from = r.2; within = r.3; first = r.4; least = r.5 })
]
