-- Lists that have the same at each place are the same.
use Rattle.std.proofs.Common.{◌≡◌, ◌<◌, ℕ, suc, List, [], ◌∷◌, length, slice_get, Some, refl, ap₂, arith}

pub same_by_places : {A : Type 0} (xs ys : List A) → length xs ≡ length ys → ((k : ℕ) → k < length xs → slice_get ys k ≡ slice_get xs k) → xs ≡ ys
same_by_places [] [] long same = refl
same_by_places [] (y ∷ ys) long same = absurd (cc long)
same_by_places (x ∷ xs) [] long same = absurd (cc long)
same_by_places {A} (x ∷ xs) (y ∷ ys) long same =
    let first : Some y ≡ Some x = same 0 (omega arith) in
    let head : x ≡ y = cc first in
    let shorter : length xs ≡ length ys = cc long in
    let tail = same_by_places xs ys shorter (λ k low. same (suc k) (omega (arith, low))) in
    ap₂ (λ (z : A) (zs : List A). z ∷ zs) head tail
