-- What stands at a place and later.
use Rattle.std.proofs.Common.{◌≡◌, ◌∙◌, sym, ap, ℕ, ◌≤◌, List, length, drop, ◌++◌, append-nil}
use Rattle.std.specs.List.{slice_range}
use Rattle.std.proofs.Math.Seq.{drop-length}
use Rattle.std.proofs.lemmas.List.Folds.{drop_split}

-- the slice from a place to the end
pub slice_to_end : (bytes rest : List ℕ) (from : ℕ) → from ≤ length bytes → rest ≡ slice_range bytes from (length bytes) → rest ≡ drop from bytes
slice_to_end bytes rest from low e = e ∙ sym (append-nil (slice_range bytes from (length bytes))) ∙ ap (λ xs. slice_range bytes from (length bytes) ++ xs) (sym (drop-length bytes)) ∙ sym (drop_split bytes from (length bytes) low)
