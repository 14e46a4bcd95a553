-- A line that was found among bytes.
use Rattle.std.proofs.Common.{◌≡◌, ◌∙◌, ℕ, ◌+◌, ◌-◌, ◌<◌, ◌≤◌, ◌==◌, Bool, true, false, cond, List, [], ◌∷◌, take, subst, ◌++◌, length, drop, get_or, codes, option_map, unwrap_or, Option, Some, None, ap, sym, refl, append_assoc, arith}
use Rattle.std.specs.List.{position, position_from, slice_range}
use Rattle.std.proofs.lemmas.Bool.{eqb-true}
use Rattle.std.proofs.lemmas.List.{drop_more, get_or-drop, length-drop}
use Rattle.std.proofs.lemmas.List.Folds.{drop_split}
use Rattle.std.proofs.lemmas.Grind.{common_steps}
use Rattle.std.proofs.lemmas.Iterator.Adapters.{position_from-zero}
use Rattle.std.proofs.lemmas.List.{drop-drop, take-append-drop}
use Rattle.std.proofs.lemmas.List.Elements.{All-nil, All-cons, All-append}
use Rattle.std.proofs.lemmas.List.Quantifiers.{position-Some}
use Rattle.std.proofs.Math.Seq.{take-add}
use Rattle.pth_base.proofs.Namings.{none_some}
use Rattle.pth_text.specs.Bytes.{code}
use Rattle.pth_text.specs.LineEnd.{line_end_of}
use Rattle.pth_transcript.specs.Taking.{IsLineless}

index_of : (from end : ℕ) (o : Option ℕ) → option_map (λ i. from + i) o ≡ Some end → (i : ℕ) × (o ≡ Some i) × (from + i ≡ end)
index_of from end None e = absurd (none_some e)
index_of from end (Some i) e = (i, refl, ap (λ (o : Option ℕ). unwrap_or o 0) e)

at_end : (bytes : List ℕ) (from end i : ℕ) → from + i ≡ end → position (λ b. b == code "\n") (drop from bytes) ≡ Some i
    → (from ≤ end) × (end < length bytes) × (get_or bytes end 0 ≡ code "\n")
at_end bytes from end i e p =
    let found = position-Some (λ b. b == code "\n") (drop from bytes) i 0 p in
    let within = found.0 in
    let same : get_or (drop from bytes) i 0 ≡ get_or bytes end 0 = get_or-drop from bytes i 0 ∙ ap (λ k. get_or bytes k 0) e in
    (omega (arith, e), omega (arith, e, length-drop from bytes, within), sym same ∙ eqb-true _ _ found.1)

-- the place of the first LF at a place or later
pub found : (bytes : List ℕ) (from end : ℕ) → line_end_of bytes from ≡ Some end → (from ≤ end) × (end < length bytes) × (get_or bytes end 0 ≡ code "\n")
found bytes from end e =
    let i = index_of from end (position (λ b. b == code "\n") (drop from bytes)) e in
    at_end bytes from end i.0 i.2 i.1

-- a line, its LF, and what stands behind
pub cut : (bytes line : List ℕ) (rest end : ℕ) → rest ≤ end → end < length bytes → get_or bytes end 0 ≡ code "\n" → line ≡ slice_range bytes rest end
    → drop rest bytes ≡ (line ++ codes "\n") ++ drop (end + 1) bytes
cut bytes line rest end low within lf e =
    let behind : drop end bytes ≡ codes "\n" ++ drop (end + 1) bytes = drop_more bytes end 0 within ∙ ap (λ b. b ∷ drop (end + 1) bytes) lf in
    drop_split bytes rest end low ∙ ap (λ (l : List ℕ). slice_range bytes rest end ++ l) behind
    ∙ ap (λ (l : List ℕ). l ++ (codes "\n" ++ drop (end + 1) bytes)) (sym e) ∙ sym (append_assoc line (codes "\n") (drop (end + 1) bytes))

-- ---- no LF stands before it

-- the first that passes is none, or one of those behind the first
none_by : (b : Bool) (i : ℕ) (o : Option ℕ) → cond b (Some i) o ≡ None → (b ≡ false) × (o ≡ None)
none_by true i o e = absurd (cc)
none_by false i o e = (refl, e)

lineless_from : (i : ℕ) (text : List ℕ) → position_from (λ b. b == code "\n") i text ≡ None → IsLineless text
lineless_from i [] e = All-nil (λ b. (b == code "\n") ≡ false)
lineless_from i (b ∷ bs) e =
    let none = none_by (b == code "\n") i (position_from (λ b. b == code "\n") (i + 1) bs) e in
    All-cons (λ b. (b == code "\n") ≡ false) b bs none.0 (lineless_from (i + 1) bs none.1)

-- a text in which no LF was found
all_lineless : (text : List ℕ) → position (λ b. b == code "\n") text ≡ None → IsLineless text
all_lineless text e = lineless_from 0 text (sym (position_from-zero (λ b. b == code "\n") text) ∙ e)

-- what stands before the first LF
first_lineless : (text : List ℕ) (i : ℕ) → position (λ b. b == code "\n") text ≡ Some i → IsLineless (take i text)
first_lineless text i e = λ k d low.
    let first = position-Some (λ b. b == code "\n") text i d e in
    let within : k < i = grind (arith, common_steps) in
    let same : get_or (take i text) k d ≡ get_or text k d = grind (arith, common_steps) in
    subst (λ b. (b == code "\n") ≡ false) (sym same) (first.2 k within)

no_index : (from : ℕ) (o : Option ℕ) → option_map (λ i. from + i) o ≡ None → o ≡ None
no_index from None e = refl
no_index from (Some i) e = absurd (cc)

-- the unread bytes: those that have no LF, and those among which one is looked for
module _ (unread : List ℕ) (seen : ℕ) (none : IsLineless (take seen unread)) where
  pub before_lineless : (i n : ℕ) → position (λ b. b == code "\n") (drop seen unread) ≡ Some i → n ≡ seen + i → IsLineless (take n unread)
  before_lineless i n e same =
      subst IsLineless (sym (ap (λ n. take n unread) same ∙ take-add seen i unread))
      (All-append (λ b. (b == code "\n") ≡ false) (take seen unread) (take i (drop seen unread)) none (first_lineless (drop seen unread) i e))

  pub unread_lineless : position (λ b. b == code "\n") (drop seen unread) ≡ None → IsLineless unread
  unread_lineless e =
      subst IsLineless (take-append-drop seen unread)
      (All-append (λ b. (b == code "\n") ≡ false) (take seen unread) (drop seen unread) none (all_lineless (drop seen unread) e))

-- a line that was found has none
pub line_lineless : (bytes line : List ℕ) (rest seen end : ℕ) → IsLineless (take seen (drop rest bytes)) → line_end_of bytes (rest + seen) ≡ Some end
    → line ≡ slice_range bytes rest end → IsLineless line
line_lineless bytes line rest seen end none e is =
    let at = index_of (rest + seen) end (position (λ b. b == code "\n") (drop (rest + seen) bytes)) e in
    let place = at.2 in
    subst IsLineless (sym is)
    (before_lineless (drop rest bytes) seen none at.0 (end - rest)
    (ap (position (λ b. b == code "\n")) (drop-drop seen rest bytes) ∙ at.1) (omega (arith, place)))

-- and if none was found nothing that was read has one
pub rest_lineless : (bytes : List ℕ) (rest seen : ℕ) → IsLineless (take seen (drop rest bytes)) → line_end_of bytes (rest + seen) ≡ None
    → IsLineless (drop rest bytes)
rest_lineless bytes rest seen none e =
    unread_lineless (drop rest bytes) seen none
    (ap (position (λ b. b == code "\n")) (drop-drop seen rest bytes) ∙ no_index (rest + seen) (position (λ b. b == code "\n") (drop (rest + seen) bytes)) e)
