-- Words by how many there are.
use Rattle.std.proofs.Common.{◌≡◌, ◌<◌, ◌≤◌, ℕ, List, [], ◌∷◌, length, get_or, refl, arith}
use denote.Ref.{Bor}
use Rattle.pth_spelling.specs.Texts.{texts}

-- one word
pub one_text : (ws : List (Bor (List ℕ))) (d : Bor (List ℕ)) → 1 ≤ length ws → length ws < 2 → texts ws ≡ (get_or ws 0 d).now ∷ []
one_text (a ∷ []) d some few = refl
one_text ws d some few = absurd (omega arith)

-- four words
pub four_texts : (ws : List (Bor (List ℕ))) (d : Bor (List ℕ)) → 4 ≤ length ws → length ws < 5
    → texts ws ≡ (get_or ws 0 d).now ∷ (get_or ws 1 d).now ∷ (get_or ws 2 d).now ∷ (get_or ws 3 d).now ∷ []
four_texts (a ∷ b ∷ c ∷ e ∷ []) d some few = refl
four_texts ws d some few = absurd (omega arith)

-- five words
pub five_texts : (ws : List (Bor (List ℕ))) (d : Bor (List ℕ)) → 5 ≤ length ws → length ws < 6
    → texts ws ≡ (get_or ws 0 d).now ∷ (get_or ws 1 d).now ∷ (get_or ws 2 d).now ∷ (get_or ws 3 d).now ∷ (get_or ws 4 d).now ∷ []
five_texts (a ∷ b ∷ c ∷ e ∷ f ∷ []) d some few = refl
five_texts ws d some few = absurd (omega arith)
