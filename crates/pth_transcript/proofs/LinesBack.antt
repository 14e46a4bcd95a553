-- A line is cut into the words of which it was joined.
use Rattle.std.proofs.Common.{◌≡◌, ◌∙◌, ◌==◌, ◌≤◌, ◌-◌, ◌++◌, ℕ, zero, suc, nat_lt, true, false, List, [], ◌∷◌, length, get_or, take, drop, All, codes, refl, sym, ap, arith, append-nil}
use Rattle.std.proofs.lemmas.Bool.{and_parts}
use Rattle.std.proofs.lemmas.Bool.Decides.{nat_tests}
use Rattle.std.proofs.lemmas.List.Elements.{All-nil, All-cons, All-append}
use Rattle.std.proofs.lemmas.List.{append_cancel_right}
use Rattle.std.proofs.lemmas.List.Splits.{slice_split_none, slice_split_at}
use denote.Ref.{Bor}
use Rattle.pth_text.specs.Bytes.{code}
use Rattle.pth_text.specs.LineWords.{words_of}
use Rattle.pth_spelling.specs.Texts.{texts}
use Rattle.pth_print.specs.SpacedWords.{joined_words, spaced}
use Rattle.pth_transcript.specs.Taking.{IsLineless}
use Rattle.pth_transcript.proofs.Cuts.{IsLine}
use Rattle.pth_transcript.proofs.Partings.{all_behind}
use Rattle.pth_transcript.proofs.WordBytes.{is_word, are_words, no_blank}

-- each byte of the word is above the space, so it is neither a space nor LF
abbrev pub HasNoBlank : List ℕ → Type 0
HasNoBlank w = All (λ b. nat_lt (code " ") b ≡ true) w

-- no blank stands in a word
abbrev pub HaveNoBlank : List (List ℕ) → Type 0
HaveNoBlank [] = Unit {0}
HaveNoBlank (w ∷ ws) = HasNoBlank w × HaveNoBlank ws

-- words of bytes above the space
pub no_blanks : (ws : List (List ℕ)) → are_words ws ≡ true → HaveNoBlank ws
no_blanks [] fine = tt
no_blanks (w ∷ ws) fine =
    let parts = and_parts (is_word w) (are_words ws) fine in
    (no_blank w parts.0, no_blanks ws parts.1)

-- two lists of words
pub both_no_blank : (ws vs : List (List ℕ)) → HaveNoBlank ws → HaveNoBlank vs → HaveNoBlank (ws ++ vs)
both_no_blank [] vs a b = b
both_no_blank (w ∷ ws) vs a b = (a.0, both_no_blank ws vs a.1 b)

above_no_space : (b : ℕ) → nat_lt (code " ") b ≡ true → (b == code " ") ≡ false
above_no_space b above = grind (arith, nat_tests)

-- so no space stands in the word
no_space : (w : List ℕ) → HasNoBlank w → All (λ b. (b == code " ") ≡ false) w
no_space w here = λ k d low. above_no_space (get_or w k d) (here k d low)

-- the words are found again
pub words_back : (w : List ℕ) (ws : List (List ℕ)) → HasNoBlank w → HaveNoBlank ws → words_of (joined_words (w ∷ ws)) ≡ w ∷ ws
words_back w [] here none =
    ap (λ l. words_of l) (append-nil w) ∙ slice_split_none (λ b. b == code " ") w (no_space w here)
words_back w (v ∷ vs) here none =
    slice_split_at (λ b. b == code " ") w (code " ") (joined_words (v ∷ vs)) (no_space w here) refl
    ∙ ap (λ ws. w ∷ ws) (words_back v vs none.0 none.1)

-- some words, without a blank
pub record AreWords (ws : List (List ℕ)) : Type 0 where
  pub first : List ℕ
  pub others : List (List ℕ)
  pub are : ws ≡ first ∷ others
  pub here : HasNoBlank first
  pub none : HaveNoBlank others

-- the words of a line that was joined of them
pub line_back : (line : List ℕ) (ws : List (List ℕ)) → AreWords ws → line ++ codes "\n" ≡ joined_words ws ++ codes "\n" → words_of line ≡ ws
line_back line ws words e =
    ap (λ l. words_of l) (append_cancel_right line (joined_words ws) (codes "\n") e)
    ∙ ap (λ ws. words_of (joined_words ws)) words.are
    ∙ words_back words.first words.others words.here words.none
    ∙ sym words.are

-- ---- such a line has no LF

above_no_lf : (b : ℕ) → nat_lt (code " ") b ≡ true → (b == code "\n") ≡ false
above_no_lf b above = grind (arith, nat_tests)

word_lineless : (w : List ℕ) → HasNoBlank w → IsLineless w
word_lineless w here = λ k d low. above_no_lf (get_or w k d) (here k d low)

spaced_lineless : (ws : List (List ℕ)) → HaveNoBlank ws → IsLineless (spaced ws)
spaced_lineless [] none = All-nil (λ b. (b == code "\n") ≡ false)
spaced_lineless (w ∷ ws) none =
    All-cons (λ b. (b == code "\n") ≡ false) (code " ") (w ++ spaced ws) refl
    (All-append (λ b. (b == code "\n") ≡ false) w (spaced ws) (word_lineless w none.0) (spaced_lineless ws none.1))

-- a line that was joined of such words has an LF at its end alone
pub line_of_words : (text : List ℕ) (ws : List (List ℕ)) → AreWords ws → text ≡ joined_words ws ++ codes "\n" → IsLine text
line_of_words text ws words e = record {
  line = joined_words (words.first ∷ words.others);
  lineless = All-append (λ b. (b == code "\n") ≡ false) words.first (spaced words.others) (word_lineless words.first words.here) (spaced_lineless words.others words.none);
  is = e ∙ ap (λ us. joined_words us ++ codes "\n") words.are;
}

-- ---- the first word and the last

-- the first word, and those behind it
pub begun : (ws : List (Bor (List ℕ))) (d : Bor (List ℕ)) → 1 ≤ length ws
    → texts ws ≡ (get_or ws 0 d).now ∷ texts (take (length ws - 1) (drop 1 ws))
begun [] d some = absurd (omega arith)
begun (w ∷ ws) d some = ap (λ (vs : List (Bor (List ℕ))). w.now ∷ texts vs) (sym (all_behind (w ∷ ws) 1))

-- the last word, and those before it
pub ended : (ws : List (Bor (List ℕ))) (i : ℕ) (d : Bor (List ℕ)) → length ws ≡ suc i → texts ws ≡ texts (take i ws) ++ (get_or ws i d).now ∷ []
ended [] i d e = absurd (omega (arith, e))
ended (w ∷ []) zero d e = refl
ended (w ∷ v ∷ ws) zero d e = absurd (omega (arith, e))
ended (w ∷ ws) (suc i) d e = ap (λ us. w.now ∷ us) (ended ws i d (omega (arith, e)))
