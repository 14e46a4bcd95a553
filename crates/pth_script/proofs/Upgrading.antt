-- A text and the same in version 2: the lines below the heading break the same rules and stand for the same.
use Rattle.std.proofs.Common.{◌≡◌, ◌∙◌, ◌≤◌, ◌+◌, ◌==◌, ℕ, true, false, cond, ◌||◌, not, List, [], ◌∷◌, ◌++◌, length, drop, Some, None, refl, ap, sym, subst, arith, inl, inr, append-nil, codes, unwrap_or, take, take-append-drop, if◌then◌else◌}
use Rattle.std.specs.Prelude.{reverse, is_none}
use Rattle.std.specs.Str.{bytes_eq}
use Rattle.std.proofs.lemmas.Slice.Eq.{bytes_eq-Decides}
use Rattle.std.proofs.lemmas.Bool.{cases_Bool}
use Rattle.std.proofs.lemmas.Bool.Decides.{nat_tests}
use Rattle.pth_spelling.specs.Named.{named_in}
use Rattle.pth_text.specs.LineWords.{words_of}
use Rattle.pth_text.specs.declared.rule.Rule.TheVariants as rule
use Rattle.pth_text.specs.declared.rule.Breach.TheVariants.{Limit, Of}
use Rattle.pth_script.specs.Broken.{row_breaks, end_breaks, is_long, is_open, said_breaks, IsAccepted}
use Rattle.pth_script.specs.Limits.{text_limit, line_limit}
use Rattle.pth_script.specs.Meaning.{said, parts_of, parts_of_text}
use Rattle.pth_script.specs.RuleOrder.{first_broken}
use Rattle.pth_script.specs.Seen.{seen_of}
use Rattle.pth_script.specs.TextRows.{TextRow, text_rows, size_of, is_comment, range_said, is_heading, heading_length, range_of, version_1_range, above}
use Rattle.pth_script.specs.Upgrade.{old_heading, new_heading, upgraded, StandsForTheSame}
use Rattle.pth_script.proofs.Headings.{version_1_says}
use Rattle.pth_script.proofs.RowRules.{first_row_rule, second_row_rule, comment_rule, said_row_rule, end_rule, long_row, not_long, line_limit_is, text_limit_is}
use Rattle.pth_script.proofs.Runs.{AreFine, accepted, fine_row, one_more, whole_size}
use Rattle.pth_script.proofs.Whole.{row_fine, end_fine, limit_first}

-- ---- the two headings

abbrev version_1_row : TextRow
version_1_row = record { bytes = codes "pth 1"; ended = true }

abbrev version_2_row : TextRow
version_2_row = record { bytes = codes "pth 2"; ended = true }

abbrev range_row : TextRow
range_row = record { bytes = codes "range 5"; ended = true }

-- some lines below them, the nearest first
abbrev below_old : List TextRow → List TextRow
below_old zs = zs ++ version_1_row ∷ []

abbrev below_new : List TextRow → List TextRow
below_new zs = zs ++ range_row ∷ version_2_row ∷ []

old_is_whole : (zs : List TextRow) → is_heading (below_old zs) ≡ false
old_is_whole [] = refl
old_is_whole (z ∷ []) = refl
old_is_whole (z ∷ y ∷ zs) = refl

new_is_whole : (zs : List TextRow) → is_heading (below_new zs) ≡ false
new_is_whole [] = refl
new_is_whole (z ∷ []) = refl
new_is_whole (z ∷ y ∷ zs) = refl

same_above : (zs : List TextRow) → above (below_new zs) ≡ above (below_old zs)
unfolding above
same_above [] = refl
same_above (z ∷ zs) = λ i. cond ((new_is_whole zs ∙ sym (old_is_whole zs)) i || is_comment z.bytes) (same_above zs i) (words_of z.bytes ∷ same_above zs i)

-- ---- a line below them, and the place after the last one

same_row : (zs : List TextRow) (row : TextRow) → is_long (below_new zs) row ≡ false → is_long (below_old zs) row ≡ false
    → first_broken (λ b. row_breaks b (below_new zs) row) ≡ first_broken (λ b. row_breaks b (below_old zs) row)
same_row zs row new old = elim (cases_Bool (is_comment row.bytes)) [
  | inl comment ↦ comment_rule (below_new zs) row (new_is_whole zs) comment
      ∙ ap (λ t. cond t (Some Limit) (cond (not row.ended) (Some (Of rule.Cut)) None)) (new ∙ sym old)
      ∙ sym (comment_rule (below_old zs) row (old_is_whole zs) comment)
  | inr words ↦ said_row_rule (below_new zs) row (new_is_whole zs) words new
      ∙ ap (λ ls. first_broken (said_breaks row.ended (seen_of ls) (words_of row.bytes))) (same_above zs)
      ∙ sym (said_row_rule (below_old zs) row (old_is_whole zs) words old)
]

same_end : (zs : List TextRow) → first_broken (λ b. end_breaks b (below_new zs)) ≡ first_broken (λ b. end_breaks b (below_old zs))
same_end zs =
    end_rule (below_new zs)
    ∙ (λ i. cond ((new_is_whole zs ∙ sym (old_is_whole zs)) i) (Some (Of rule.Header)) (cond ((seen_of (same_above zs i)).bodies == 0) (Some (Of rule.Main)) (cond (is_open (seen_of (same_above zs i)).section) (Some (Of rule.End)) None)))
    ∙ sym (end_rule (below_old zs))

-- ---- the whole text

short_line : (before : List TextRow) (row : TextRow) → is_long before row ≡ false → length row.bytes ≤ line_limit
short_line before row h = grind (arith, nat_tests)

range_5_said : range_said (codes "range 5") ≡ Some 5
unfolding range_said named_in
range_5_said = refl

module _ (tail : List ℕ) where
  abbrev old : List ℕ
  old = old_heading ++ tail

  abbrev new : List ℕ
  new = new_heading ++ tail

  old_rows : text_rows old ≡ version_1_row ∷ text_rows tail
  unfolding text_rows
  old_rows = refl

  new_rows : text_rows new ≡ version_2_row ∷ range_row ∷ text_rows tail
  unfolding text_rows
  new_rows = refl

  module _ (fine : IsAccepted old) (small : length new ≤ text_limit) where
    -- all lines of the new text, as those of the old one
    all_fine : (zs rest : List TextRow) → AreFine new (length (below_new zs) + 1) → reverse (below_new zs) ++ rest ≡ text_rows new → reverse (below_old zs) ++ rest ≡ text_rows old
        → size_of (below_new zs) + size_of rest ≤ text_limit → IsAccepted new
    unfolding size_of
    all_fine zs [] are e o s =
        let ends = same_end zs ∙ end_fine old fine (below_old zs) (sym (append-nil (reverse (below_old zs))) ∙ o) in
        accepted new (below_new zs) (length (below_new zs) + 1) refl are (sym (append-nil (reverse (below_new zs))) ∙ e) ends
    all_fine zs (row ∷ rest) are e o s =
        let none = row_fine old fine (below_old zs) rest row o in
        let short = limit_first (is_long (below_old zs) row) _ (long_row (below_old zs) row) none in
        let fits = not_long (below_new zs) row (omega arith) (short_line (below_old zs) row short) in
        let more = fine_row new (below_new zs) (length (below_new zs) + 1) refl are rest row e (same_row zs row fits short ∙ none) in
        let next : length (below_new zs) + 1 + 1 ≡ length (below_new (row ∷ zs)) + 1 = omega arith in
        all_fine (row ∷ zs) rest (subst (AreFine new) next more) (one_more (below_new zs) rest (text_rows new) row e) (one_more (below_old zs) rest (text_rows old) row o) (omega arith)

    whole_new : 14 + size_of (text_rows tail) ≤ text_limit
    whole_new = omega (arith, whole_size tail)

    heading_fits : (before : List TextRow) (row : TextRow) → size_of (row ∷ before) ≤ 14 → length row.bytes ≤ 14 → is_long before row ≡ false
    heading_fits before row a b = not_long before row (omega (arith, text_limit_is)) (omega (arith, line_limit_is))

    first_fine : first_broken (λ b. row_breaks b [] version_2_row) ≡ None
    unfolding size_of
    first_fine = first_row_rule [] version_2_row refl ∙ ap (λ t. cond t (Some Limit) None) (heading_fits [] version_2_row (omega arith) (omega arith))

    second_fine : first_broken (λ b. row_breaks b (version_2_row ∷ []) range_row) ≡ None
    unfolding size_of
    second_fine =
        second_row_rule (version_2_row ∷ []) range_row refl
        ∙ (λ i. cond (heading_fits (version_2_row ∷ []) range_row (omega arith) (omega arith) i) (Some Limit) (cond (is_none (range_5_said i)) (Some (Of rule.Header)) None))

    heading_fine : AreFine new 3
    heading_fine =
        let one : AreFine new 1 = λ i from below. absurd (omega arith) in
        let two = fine_row new [] 1 refl one (range_row ∷ text_rows tail) version_2_row (sym new_rows) first_fine in
        fine_row new (version_2_row ∷ []) 2 refl two (text_rows tail) range_row (one_more [] (range_row ∷ text_rows tail) (text_rows new) version_2_row (sym new_rows)) second_fine

    new_accepted : IsAccepted new
    unfolding size_of
    new_accepted =
        all_fine [] (text_rows tail) heading_fine
        (one_more (version_2_row ∷ []) (text_rows tail) (text_rows new) range_row (one_more [] (range_row ∷ text_rows tail) (text_rows new) version_2_row (sym new_rows)))
        (one_more [] (text_rows tail) (text_rows old) version_1_row (sym old_rows)) whole_new

    same_parts : parts_of_text new ≡ parts_of_text old
    same_parts =
        ap (λ rows. parts_of (range_of rows) (said (drop (heading_length rows) rows))) new_rows
        ∙ (λ i. parts_of (unwrap_or (range_5_said i) version_1_range) (said (text_rows tail)))
        ∙ (λ i. parts_of (sym (version_1_says version_1_row (text_rows tail) refl) i) (said (text_rows tail)))
        ∙ ap (λ rows. parts_of (range_of rows) (said (drop (heading_length rows) rows))) (sym old_rows)

    new_stands : StandsForTheSame old new
    new_stands = record { accepted = new_accepted; parts = same_parts }

pub kept_text : (text : List ℕ) → bytes_eq (take (length old_heading) text) old_heading ≡ false → upgraded text ≡ text
unfolding upgraded
kept_text text other = ap (λ b. if b then new_heading ++ drop (length old_heading) text else text) other

pub headed_text : (text : List ℕ) → bytes_eq (take (length old_heading) text) old_heading ≡ true → upgraded text ≡ new_heading ++ drop (length old_heading) text
unfolding upgraded
headed_text text same = ap (λ b. if b then new_heading ++ drop (length old_heading) text else text) same

-- an accepted text, if the new heading fits, and the same in version 2
pub upgrade_stands : (text : List ℕ) → IsAccepted text → length text + 8 ≤ text_limit → StandsForTheSame text (upgraded text)
upgrade_stands text fine small = elim (cases_Bool (bytes_eq (take (length old_heading) text) old_heading)) [
  | inr other ↦ subst (StandsForTheSame text) (sym (kept_text text other)) (record { accepted = fine; parts = refl })
  | inl same ↦
      let tail = drop (length old_heading) text in
      let whole : old_heading ++ tail ≡ text = ap (λ t. t ++ tail) (sym ((bytes_eq-Decides (take (length old_heading) text) old_heading).0 same)) ∙ take-append-drop (length old_heading) text in
      let fits : length (new_heading ++ tail) ≤ text_limit = omega (arith, small, ap length whole) in
      subst (λ t. StandsForTheSame t (upgraded text)) whole (subst (StandsForTheSame (old_heading ++ tail)) (sym (headed_text text same)) (new_stands tail (subst IsAccepted (sym whole) fine) fits))
]
