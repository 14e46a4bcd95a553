-- Lines of which one more is added.
use Rattle.std.proofs.Common.{◌≡◌, ℕ, ◌+◌, List, ◌++◌, sym, ap, ◌∙◌, add-one, append-nil}
use Rattle.std.proofs.lemmas.List.{append_assoc}
use Rattle.pth_snapshot.specs.Dump.{lines}

-- no line was added yet
pub no_lines : (old : List ℕ) (f : ℕ → List ℕ) → old ≡ old ++ lines f 0
unfolding lines
no_lines old f = sym (append-nil old)

-- what was added behind lines is one more of them
pub one_more : (old so_far now : List ℕ) (f : ℕ → List ℕ) (n : ℕ) → so_far ≡ old ++ lines f n → now ≡ so_far ++ f n → now ≡ old ++ lines f (n + 1)
unfolding lines
one_more old so_far now f n before here = rw add-one (here ∙ ap (λ x. x ++ f n) before ∙ append_assoc old (lines f n) (f n))
