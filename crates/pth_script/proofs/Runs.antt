-- The loop over the lines: what its end and each of its steps say of the whole text.
use Rattle.std.proofs.Common.{◌≡◌, ◌==◌, ℕ, ◌+◌, ◌<◌, ◌≤◌, Bool, true, false, cond, List, [], ◌∷◌, ◌++◌, length, Option, Some, None, ap, sym, subst, ◌∙◌, refl, arith, ⊎_elim, length-append, append_assoc, append-nil}
use Rattle.std.specs.Prelude.{reverse, Err, map, Result, Ok, unwrap_or, option_map}
use Rattle.std.proofs.lemmas.List.{length-reverse}
use Rattle.std.proofs.lemmas.Grind.{reverse_onto}
use Rattle.std.proofs.lemmas.Bool.{cases_lt}
use Rattle.pth_line.specs.Script.{Sections}
use Rattle.pth_kernel.specs.Kernel.{KernelOf, started}
use Rattle.pth_text.specs.Bytes.{code}
use Rattle.pth_script.specs.TextRows.{TextRow, text_rows, onto_first, row_size, size_of, range_of}
use Rattle.pth_script.specs.Broken.{broken, row_breaks, end_breaks, IsRefusal, IsAccepted}
use Rattle.pth_script.specs.Limits.{text_limit}
use Rattle.pth_script.specs.RuleOrder.{first_broken}
use Rattle.pth_script.specs.Drafts.{DraftParts, draft_parts, in_handler, in_body, rest_of_sections, ComesTo}
use Rattle.pth_script.specs.Follows.{Follows, IsReadTo, TakesRow, Reads, below_heading, left_of, breach_error, IsReadAs}
use Rattle.pth_script.specs.Labels.{somes, with_places}
use Rattle.pth_script.specs.KernelDrafts.{clock_with}
use Rattle.pth_script.specs.Meaning.{Parts, said, parts_of_text, clock_said, opens_said, trace_said, HasSections, HasKernel, IsScriptOf, IsKernelOf, IsTopOf}
use Rattle.pth_script.specs.Seen.{is_handler, is_thread}
use Rattle.pth_grammar.specs.LineMeanings.{act_of, line_of}
use Rattle.pth_text.specs.declared.rule.Breach.{Breach}
use Rattle.pth_text.specs.declared.rule.Breach.TheVariants.{Limit, Of}
use Rattle.pth_script.specs.declared.read.ReadErr.{ReadErr}
use Rattle.pth_script.specs.declared.reader.Fault.{Fault}
use Rattle.pth_script.specs.declared.reader.Fault.TheVariants as fault
use Rattle.pth_script.specs.declared.heading.Heading.{Heading}
use Rattle.pth_script.specs.declared.heading.Heading.TheVariants as heading
use Rattle.pth_script.specs.declared.reader.Reader.{Reader}
use Rattle.pth_script.proofs.Cuts.{at_row, at_end, no_rows}
use Rattle.pth_script.proofs.Resting.{rest_none, checks_none}
use Rattle.pth_script.proofs.RowRules.{long_row, beyond}

-- ---- sizes

onto_size : (b : ℕ) (rs : List TextRow) → size_of (onto_first b rs) ≡ size_of rs + 1
unfolding size_of
onto_size b [] = refl
onto_size b (r ∷ rs) = omega arith

row_more : (c : Bool) (b : ℕ) (rs : List TextRow) → size_of (cond c (record { bytes = []; ended = true } ∷ rs) (onto_first b rs)) ≡ size_of rs + 1
unfolding size_of
row_more true b rs = omega arith
row_more false b rs = onto_size b rs

-- the lines of a text have all its bytes
pub whole_size : (bs : List ℕ) → size_of (text_rows bs) ≡ length bs
unfolding text_rows size_of
whole_size [] = refl
whole_size (b ∷ bs) = omega (arith, row_more (b == code "\n") b (text_rows bs), whole_size bs)

pub row_gone : (bytes after : List ℕ) (row : TextRow) → text_rows bytes ≡ row ∷ text_rows after → length bytes ≡ row_size row + length after
unfolding size_of
row_gone bytes after row e = omega (arith, ap size_of e, whole_size bytes, whole_size after)

pub one_size : (row : TextRow) (before : List TextRow) → size_of (row ∷ before) ≡ row_size row + size_of before
unfolding size_of
one_size row before = refl

-- ---- refusals

pub broke : (e : Fault) (b : Breach) (new : Reader) (before : List TextRow) (row : TextRow) → e ≡ fault.Broken b → TakesRow (Err e) new before row → first_broken (λ b. row_breaks b before row) ≡ Some b
broke (fault.Broken q) b new before row e h = h ∙ (cc)
broke fault.Memory b new before row e h = absurd (cc)

-- no line before this one breaks a rule
abbrev pub AreFine : List ℕ → ℕ → Type 0
AreFine text line = (i : ℕ) → 1 ≤ i → i < line → first_broken (broken text i) ≡ None

module _ (text : List ℕ) (before : List TextRow) (line : ℕ) (at : length before + 1 ≡ line) (fine : AreFine text line) where
  pub refusal : (rest : List TextRow) (row : TextRow) (b : Breach) → reverse before ++ row ∷ rest ≡ text_rows text → first_broken (λ b. row_breaks b before row) ≡ Some b → IsRefusal text line b
  refusal rest row b e h = record {
    from = omega arith;
    within = omega (arith, ap length e, length-append (reverse before) (row ∷ rest), length-reverse before);
    first = ap (λ n. first_broken (broken text n)) (sym at) ∙ at_row text before rest row e ∙ h;
    least = fine;
  }

  pub refusal_at_end : (b : Breach) → reverse before ≡ text_rows text → first_broken (λ b. end_breaks b before) ≡ Some b → IsRefusal text line b
  refusal_at_end b e h = record {
    from = omega arith;
    within = omega (arith, ap length e, length-reverse before);
    first = ap (λ n. first_broken (broken text n)) (sym at) ∙ at_end text before e ∙ h;
    least = fine;
  }

  pub fine_more : first_broken (broken text line) ≡ None → AreFine text (line + 1)
  fine_more h i from below = ⊎_elim (λ (l : i < line). fine i from l) (λ (g : line ≤ i). let same : line ≡ i = omega arith in ap (λ n. first_broken (broken text n)) (sym same) ∙ h) (cases_lt i line)

  pub fine_row : (rest : List TextRow) (row : TextRow) → reverse before ++ row ∷ rest ≡ text_rows text → first_broken (λ b. row_breaks b before row) ≡ None → AreFine text (line + 1)
  fine_row rest row e h = fine_more (ap (λ n. first_broken (broken text n)) (sym at) ∙ at_row text before rest row e ∙ h)

  pub accepted : reverse before ≡ text_rows text → first_broken (λ b. end_breaks b before) ≡ None → IsAccepted text
  accepted e h i from within = fine_more (ap (λ n. first_broken (broken text n)) (sym at) ∙ at_end text before e ∙ h) i from (omega (arith, ap length e, length-reverse before))

pub one_more : (before rest all : List TextRow) (row : TextRow) → reverse before ++ row ∷ rest ≡ all → reverse (row ∷ before) ++ rest ≡ all
one_more before rest all row e = rw (reverse_onto before row [], append_assoc) e

pub all_gone : (text : List ℕ) (before : List TextRow) → reverse before ++ text_rows [] ≡ text_rows text → reverse before ≡ text_rows text
all_gone text before e = sym (append-nil (reverse before)) ∙ ap (λ t. reverse before ++ t) (sym no_rows) ∙ e

pub nothing_left : (P : List ℕ → Type 0) (rest : List ℕ) → length rest ≡ 0 → P rest → P []
nothing_left P [] h p = p
nothing_left P (b ∷ bs) h p = absurd (omega arith)

-- ---- steps of the reader

module _ (r : Reader) (before : List TextRow) (text : List ℕ) (line : ℕ) (rest : List ℕ) (at : Reads r before text line rest) where
  module _ (row : TextRow) (after : List ℕ) (cut : text_rows rest ≡ row ∷ text_rows after) where
    whole : reverse before ++ row ∷ text_rows after ≡ text_rows text
    whole = ap (λ t. reverse before ++ t) (sym cut) ∙ at.whole

    pub row_size_is : size_of (row ∷ before) + length after ≡ length text
    row_size_is = omega (arith, one_size row before, row_gone rest after row cut, at.gone)

    pub breaks : (b : Breach) → first_broken (λ b. row_breaks b before row) ≡ Some b → IsRefusal text line b
    breaks b h = refusal text before line at.at at.fine (text_rows after) row b whole h

    pub passes_size : text_limit < size_of (row ∷ before) → IsRefusal text line Limit
    passes_size h = breaks Limit (long_row before row (beyond before row h))

    -- what is left makes the same, its first line and the others apart
    pub makes_cut : ComesTo (draft_parts r.draft) (left_of r (row ∷ text_rows after)) (parts_of_text text)
    makes_cut = subst (λ rs. ComesTo (draft_parts r.draft) (left_of r rs) (parts_of_text text)) cut at.makes

    pub reads_on : (new : Reader) → TakesRow (Ok (tt)) new before row → ComesTo (draft_parts new.draft) (left_of new (text_rows after)) (parts_of_text text) → Reads new (row ∷ before) text (line + 1) after
    reads_on new t m = record {
      follows = t.1;
      whole = one_more before (text_rows after) (text_rows text) row whole;
      at = omega (arith, at.at);
      gone = row_size_is;
      fine = fine_row text before line at.at at.fine (text_rows after) row whole t.0;
      makes = m;
    }

-- ---- the end

-- a draft in which nothing is open has the sections of the lines, where no line is left
pub sections_made : (d : DraftParts) (p : Parts) → in_handler d.section ≡ false → in_body d.section ≡ false → ComesTo d [] p → HasSections (record { handlers = d.handlers; checks = d.checks; bodies = d.bodies }) p
sections_made d p h b m = record {
  handlers = sym (append-nil (map somes d.handlers)) ∙ ap (λ t. map somes d.handlers ++ t) (sym (rest_none is_handler act_of (somes d.acts))) ∙ ap (λ b. map somes d.handlers ++ rest_of_sections is_handler act_of b (somes d.acts) []) (sym h) ∙ m.handlers;
  checks = sym (append-nil (somes d.checks)) ∙ ap (λ t. somes d.checks ++ t) (sym checks_none) ∙ m.checks;
  bodies = sym (append-nil (map somes d.bodies)) ∙ ap (λ t. map somes d.bodies ++ map with_places t) (sym (rest_none is_thread line_of (somes d.body))) ∙ ap (λ b. map somes d.bodies ++ map with_places (rest_of_sections is_thread line_of b (somes d.body) [])) (sym b) ∙ m.bodies;
}

clock_made : (o : Option ℕ) → Some (unwrap_or o 1) ≡ clock_with o []
unfolding clock_said
clock_made (Some n) = refl
clock_made None = refl

live_made : (live : ℕ) → Some live ≡ option_map (λ set. live + set) (opens_said [])
unfolding opens_said
live_made live = let same : live ≡ live + 0 = omega arith in ap (λ n. Some n) same

trace_made : trace_said [] ≡ []
unfolding trace_said
trace_made = refl

-- and its kernel
pub kernel_made : (d : DraftParts) (p : Parts) → ComesTo d [] p → HasKernel (started (unwrap_or d.kernel.clock 1) d.kernel.live.0 d.kernel.trace) p
kernel_made d p m = (unwrap_or d.kernel.clock 1, d.kernel.live.0, d.kernel.trace, clock_made d.kernel.clock ∙ m.clock, live_made d.kernel.live.0 ∙ m.opens, sym (append-nil (somes d.kernel.trace)) ∙ ap (λ t. somes d.kernel.trace ++ t) (sym trace_made) ∙ m.trace, refl)

nothing_below : (h : Heading) → said (below_heading h []) ≡ []
unfolding said
nothing_below heading.Unread = refl
nothing_below heading.Version2 = refl
nothing_below (heading.Whole top) = refl

module _ (r : Reader) (before : List TextRow) (text : List ℕ) (line : ℕ) (at : Reads r before text line []) where
  pub ends_broken : (b : Breach) → first_broken (λ b. end_breaks b before) ≡ Some b → IsRefusal text line b
  ends_broken b h = refusal_at_end text before line at.at at.fine b (all_gone text before at.whole) h

  pub ends_fine : first_broken (λ b. end_breaks b before) ≡ None → IsAccepted text
  ends_fine h = accepted text before line at.at at.fine (all_gone text before at.whole) h

  none_left : left_of r (text_rows []) ≡ []
  none_left = ap (λ rs. said (below_heading r.heading rs)) no_rows ∙ nothing_below r.heading

  left : ComesTo (draft_parts r.draft) [] (parts_of_text text)
  left = subst (λ t. ComesTo (draft_parts r.draft) t (parts_of_text text)) none_left at.makes

  pub stands : in_handler r.draft.section ≡ false → in_body r.draft.section ≡ false → IsScriptOf (record { handlers = r.draft.handlers.items; checks = r.draft.checks.items; bodies = r.draft.bodies.items }) text
  stands h b = sections_made (draft_parts r.draft) (parts_of_text text) h b left

  pub kernel_stands : IsKernelOf (started (unwrap_or r.draft.kernel.clock 1) r.draft.kernel.live.0 r.draft.kernel.trace) text
  kernel_stands = kernel_made (draft_parts r.draft) (parts_of_text text) left

  pub top_stands : (top : ℕ) → r.heading ≡ heading.Whole top → IsTopOf top text
  top_stands top whole =
      let read : IsReadTo (heading.Whole top) before = subst (λ h. IsReadTo h before) whole at.follows.heading in
      sym (ap range_of (sym at.whole) ∙ read.1 (text_rows []))

-- ---- answers

pub refused_answers : (text : List ℕ) (line : ℕ) (b : Breach) (e : ReadErr) → e ≡ breach_error line b → IsRefusal text line b → IsReadAs text (Err e)
refused_answers text line Limit e h r = subst (λ e. IsReadAs text (Err e)) (sym h) r
refused_answers text line (Of q) e h r = subst (λ e. IsReadAs text (Err e)) (sym h) r

pub starts_reading : (r : Reader) (text : List ℕ) → Follows r [] → ComesTo (draft_parts r.draft) (left_of r (text_rows text)) (parts_of_text text) → Reads r [] text 1 text
unfolding size_of
starts_reading r text f m = record { follows = f; whole = refl; at = refl; gone = omega arith; fine = λ i from below. absurd (omega arith); makes = m }

pub ends_reading : (r : Reader) (before : List TextRow) (text : List ℕ) (line : ℕ) (rest : List ℕ) → Reads r before text line rest → length rest ≡ 0 → (result : Result (Sections × KernelOf × ℕ) ReadErr) → ((text : List ℕ) (before : List TextRow) → Reads r before text line [] → IsReadAs text result) → IsReadAs text result
ends_reading r before text line rest at h result f = f text before (nothing_left (λ t. Reads r before text line t) rest h at)
