-- What one line more makes of the sections that are left.
use Rattle.std.proofs.Common.{◌≡◌, ℕ, Bool, true, false, cond, List, [], ◌∷◌, ◌++◌, Option, refl, ap, sym, ◌∙◌, append_assoc, append-nil}
use Rattle.pth_spelling.specs.Starts.{begins}
use Rattle.pth_grammar.specs.LineMeanings.{check_of}
use Rattle.pth_spelling.specs.declared.keyword.Keyword.{Keyword}
use Rattle.pth_script.specs.Meaning.{until_end, sections_read, checks_of}
use Rattle.pth_script.specs.Drafts.{rest_of_sections}
use Rattle.pth_script.specs.Seen.{is_check, is_end}

module _ {A : Type 0} (opens : Option Keyword → Bool) (read : List (List ℕ) → A) where
  blocks_past : (ws : List (List ℕ)) (ls : List (List (List ℕ))) → opens (begins ws) ≡ false → sections_read opens read (ws ∷ ls) ≡ sections_read opens read ls
  unfolding sections_read
  blocks_past ws ls h = ap (λ t. cond t (until_end read ls ∷ sections_read opens read ls) (sections_read opens read ls)) h

  -- a line of the open section
  pub rest_more : (lines : List A) (ws : List (List ℕ)) (ls : List (List (List ℕ))) → is_end (begins ws) ≡ false → opens (begins ws) ≡ false → rest_of_sections opens read true lines (ws ∷ ls) ≡ rest_of_sections opens read true (lines ++ read ws ∷ []) ls
  unfolding until_end
  rest_more lines ws ls e o =
      (λ i. (lines ++ cond (e i) [] (read ws ∷ until_end read ls)) ∷ blocks_past ws ls o i) ∙ ap (λ t. t ∷ sections_read opens read ls) (sym (append_assoc lines (read ws ∷ []) (until_end read ls)))

  -- its end
  pub rest_end : (lines : List A) (ws : List (List ℕ)) (ls : List (List (List ℕ))) → is_end (begins ws) ≡ true → opens (begins ws) ≡ false → rest_of_sections opens read true lines (ws ∷ ls) ≡ lines ∷ rest_of_sections opens read false [] ls
  unfolding until_end
  rest_end lines ws ls e o = (λ i. (lines ++ cond (e i) [] (read ws ∷ until_end read ls)) ∷ blocks_past ws ls o i) ∙ ap (λ t. t ∷ sections_read opens read ls) (append-nil lines)

  -- a line that opens one
  pub rest_open : (lines : List A) (ws : List (List ℕ)) (ls : List (List (List ℕ))) → opens (begins ws) ≡ true → rest_of_sections opens read false lines (ws ∷ ls) ≡ rest_of_sections opens read true [] ls
  unfolding sections_read
  rest_open lines ws ls o = ap (λ t. cond t (until_end read ls ∷ sections_read opens read ls) (sections_read opens read ls)) o

  -- another line
  pub rest_past : (lines others : List A) (ws : List (List ℕ)) (ls : List (List (List ℕ))) → opens (begins ws) ≡ false → rest_of_sections opens read false lines (ws ∷ ls) ≡ rest_of_sections opens read false others ls
  rest_past lines others ws ls o = blocks_past ws ls o

  pub rest_none : (lines : List A) → rest_of_sections opens read false lines [] ≡ []
  unfolding sections_read
  rest_none lines = refl

pub checks_past : (ws : List (List ℕ)) (ls : List (List (List ℕ))) → is_check (begins ws) ≡ false → checks_of (ws ∷ ls) ≡ checks_of ls
unfolding checks_of
checks_past ws ls h = ap (λ t. cond t (check_of ws ∷ checks_of ls) (checks_of ls)) h

pub checks_more : (ws : List (List ℕ)) (ls : List (List (List ℕ))) → is_check (begins ws) ≡ true → checks_of (ws ∷ ls) ≡ check_of ws ∷ checks_of ls
unfolding checks_of
checks_more ws ls h = ap (λ t. cond t (check_of ws ∷ checks_of ls) (checks_of ls)) h

pub checks_none : checks_of [] ≡ []
unfolding checks_of
checks_none = refl
