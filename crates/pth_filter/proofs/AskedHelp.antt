-- Looking for a word that asks for help.
use Rattle.std.proofs.Common.{◌≡◌, ◌∙◌, ◌<◌, ◌≤◌, ◌+◌, ℕ, zero, suc, Bool, true, false, List, [], ◌∷◌, ap, map, sym, refl, drop, length, arith}
use Rattle.std.proofs.Math.ListN.{drop_of_length-le}
use Rattle.std.specs.List.{slice_index_or}
use Rattle.std.specs.Str.{bytes_eq}
use Rattle.std.specs.Prelude.{codes, if◌then◌else◌}
use Rattle.pth_filter.specs.Help.{asks_help, is_help}

-- what the words from a word on say: whether it is `--`, whether it asks for help, and what the words after it say
abbrev by : Bool → Bool → Bool → Bool
by ends asks rest = if ends then false else (if asks then true else rest)

abbrev by_word : List ℕ → Bool → Bool
by_word w rest = by (bytes_eq w (codes "--")) (is_help w) rest

module _ {X : Type 0} (text : X → List ℕ) where
  step : (words : List X) (i : ℕ) (word : X) → i < length words → slice_index_or words i word ≡ word
      → asks_help (map text (drop i words)) ≡ by_word (text word) (asks_help (map text (drop (suc i) words)))
  unfolding asks_help
  step [] i word lt at = absurd (omega arith)
  step (w ∷ ws) zero word lt at = rw at refl
  step (w ∷ ws) (suc i) word lt at = step ws i word (omega arith) at

  -- the words from a place on, by the word that stands there
  pub at_word : (words : List X) (i : ℕ) (word : X) → i < length words → word ≡ slice_index_or words i word
      → asks_help (map text (drop i words)) ≡ by_word (text word) (asks_help (map text (drop (i + 1) words)))
  at_word words i word lt at =
      let next : suc i ≡ i + 1 = omega arith in
      step words i word lt (sym at) ∙ ap (λ (n : ℕ). by_word (text word) (asks_help (map text (drop n words)))) next

  -- no word is left
  pub at_end : (words : List X) (i : ℕ) → length words ≤ i → asks_help (map text (drop i words)) ≡ false
  unfolding asks_help
  at_end words i le = ap (λ l. asks_help (map text l)) (drop_of_length-le words le)

-- by what was found of the word
pub found : (w text : List ℕ) (ends rest : Bool) → text ≡ w → ends ≡ bytes_eq text (codes "--") → by_word w rest ≡ by ends (is_help w) rest
found w text ends rest same h =
    ap (λ b. by b (is_help w) rest) (ap (λ t. bytes_eq t (codes "--")) (sym same) ∙ sym h)

pub found_both : (w text text2 : List ℕ) (ends asks rest : Bool) → text ≡ w → ends ≡ bytes_eq text (codes "--") → text2 ≡ w → asks ≡ is_help text2
    → by_word w rest ≡ by ends asks rest
found_both w text text2 ends asks rest same h same2 k =
    found w text ends rest same h ∙ ap (λ b. by ends b rest) (ap (λ t. is_help t) (sym same2) ∙ sym k)
