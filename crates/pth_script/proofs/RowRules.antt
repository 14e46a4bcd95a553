-- Which rule a line breaks first, by where it stands.
use Rattle.std.proofs.Common.{◌≡◌, ◌≤◌, ◌<◌, ◌==◌, Bool, true, false, cond, not, ◌||◌, List, [], ◌∷◌, length, Some, None, refl, ap, ◌∙◌}
use Rattle.std.specs.Prelude.{is_none}
use Rattle.std.proofs.lemmas.Bool.{or_parts, or_from, or_right, le-ltb, lt-ltb, or_left}
use Rattle.pth_text.specs.LineWords.{words_of}
use Rattle.pth_text.specs.declared.rule.Rule.TheVariants as rule
use Rattle.pth_script.specs.TextRows.{TextRow, is_comment, is_version_1, is_version_2, range_said, is_first, is_second, is_heading, above, size_of}
use Rattle.pth_script.specs.Seen.{seen_of}
use Rattle.pth_script.specs.Broken.{row_breaks, says_wrong, said_breaks, is_long, end_breaks, is_open}
use Rattle.pth_script.specs.Limits.{text_limit, line_limit}
use Rattle.pth_script.specs.RuleOrder.{first_broken}
use Rattle.pth_text.specs.declared.rule.Breach.TheVariants.{Limit, Of}

or_false : (b : Bool) → (b || false) ≡ b
or_false true = refl
or_false false = refl

pub long_row : (before : List TextRow) (row : TextRow) → is_long before row ≡ true → first_broken (λ b. row_breaks b before row) ≡ Some Limit
unfolding first_broken row_breaks
long_row before row h = rw h refl

or_true : (b : Bool) → (b || true) ≡ true
or_true true = refl
or_true false = refl

-- below the heading stand neither its first line nor its second
outside : (before : List TextRow) → is_heading before ≡ false → (is_first before ≡ false) × (is_second before ≡ false)
outside before h = or_parts (is_first before) (is_second before) h

pub first_row_rule : (before : List TextRow) (row : TextRow) → is_first before ≡ true → first_broken (λ b. row_breaks b before row) ≡ cond (is_long before row) (Some Limit) (cond (not row.ended) (Some (Of rule.Cut)) (cond (not (is_version_1 row || is_version_2 row)) (Some (Of rule.Header)) None))
unfolding first_broken row_breaks says_wrong
first_row_rule [] row e = rw or_false (rw or_false refl)
first_row_rule (b ∷ bs) row e = absurd (cc)

pub second_row_rule : (before : List TextRow) (row : TextRow) → is_second before ≡ true → first_broken (λ b. row_breaks b before row) ≡ cond (is_long before row) (Some Limit) (cond (not row.ended) (Some (Of rule.Cut)) (cond (is_none (range_said row.bytes)) (Some (Of rule.Header)) None))
unfolding first_broken row_breaks says_wrong
second_row_rule [] row e = absurd (cc)
second_row_rule (r ∷ []) row e = rw e (rw or_false refl)
second_row_rule (r ∷ s ∷ rs) row e = absurd (cc)

pub comment_rule : (before : List TextRow) (row : TextRow) → is_heading before ≡ false → is_comment row.bytes ≡ true → first_broken (λ b. row_breaks b before row) ≡ cond (is_long before row) (Some Limit) (cond (not row.ended) (Some (Of rule.Cut)) None)
unfolding first_broken row_breaks says_wrong
comment_rule before row e h = let o = outside before e in rw (o.0, o.1, h) (rw or_false refl)

pub said_row_rule : (before : List TextRow) (row : TextRow) → is_heading before ≡ false → is_comment row.bytes ≡ false → is_long before row ≡ false → first_broken (λ b. row_breaks b before row) ≡ first_broken (said_breaks row.ended (seen_of (above before)) (words_of row.bytes))
unfolding first_broken row_breaks says_wrong said_breaks
said_row_rule before row e h s = let o = outside before e in rw (o.0, o.1, h) (rw s refl)

pub above_heading : (before : List TextRow) (row : TextRow) → is_heading before ≡ true → above (row ∷ before) ≡ above before
unfolding above
above_heading before row e = ap (λ t. cond (t || is_comment row.bytes) (above before) (words_of row.bytes ∷ above before)) e

pub above_comment : (before : List TextRow) (row : TextRow) → is_comment row.bytes ≡ true → above (row ∷ before) ≡ above before
unfolding above
above_comment before row h = ap (λ t. cond t (above before) (words_of row.bytes ∷ above before)) (ap (λ c. is_heading before || c) h ∙ or_true (is_heading before))

pub above_said : (before : List TextRow) (row : TextRow) → is_heading before ≡ false → is_comment row.bytes ≡ false → above (row ∷ before) ≡ words_of row.bytes ∷ above before
unfolding above
above_said before row e h = λ i. cond (e i || h i) (above before) (words_of row.bytes ∷ above before)

pub end_rule : (before : List TextRow) → first_broken (λ b. end_breaks b before) ≡ cond (is_heading before) (Some (Of rule.Header)) (cond ((seen_of (above before)).bodies == 0) (Some (Of rule.Main)) (cond (is_open (seen_of (above before)).section) (Some (Of rule.End)) None))
unfolding first_broken end_breaks
end_rule before = refl

pub end_in_heading : (before : List TextRow) → is_heading before ≡ true → first_broken (λ b. end_breaks b before) ≡ Some (Of rule.Header)
end_in_heading before h =
    end_rule before ∙ ap (λ t. cond t (Some (Of rule.Header)) (cond ((seen_of (above before)).bodies == 0) (Some (Of rule.Main)) (cond (is_open (seen_of (above before)).section) (Some (Of rule.End)) None))) h

pub end_below : (before : List TextRow) → is_heading before ≡ false → first_broken (λ b. end_breaks b before) ≡ cond ((seen_of (above before)).bodies == 0) (Some (Of rule.Main)) (cond (is_open (seen_of (above before)).section) (Some (Of rule.End)) None)
end_below before h =
    end_rule before ∙ ap (λ t. cond t (Some (Of rule.Header)) (cond ((seen_of (above before)).bodies == 0) (Some (Of rule.Main)) (cond (is_open (seen_of (above before)).section) (Some (Of rule.End)) None))) h

-- ---- limits

pub not_long : (before : List TextRow) (row : TextRow) → size_of (row ∷ before) ≤ text_limit → length row.bytes ≤ line_limit → is_long before row ≡ false
not_long before row s l = or_from _ _ (le-ltb _ _ s) (le-ltb _ _ l)

pub line_limit_is : line_limit ≡ 8192
unfolding line_limit
line_limit_is = refl

pub text_limit_is : text_limit ≡ 16777216
unfolding text_limit
text_limit_is = refl

pub too_long : (before : List TextRow) (row : TextRow) → line_limit < length row.bytes → is_long before row ≡ true
too_long before row h = or_right _ _ (lt-ltb _ _ h)

pub beyond : (before : List TextRow) (row : TextRow) → text_limit < size_of (row ∷ before) → is_long before row ≡ true
beyond before row h = or_left _ _ (lt-ltb _ _ h)
