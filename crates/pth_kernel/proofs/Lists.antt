-- The first of a part of a list, and whether one is left.
use Rattle.std.proofs.Common.{◌≡◌, ℕ, ◌<◌, ◌≤◌, ltb, List, length, get_or, take, drop, Some, ◌∙◌, ap, arith}
use Rattle.std.proofs.lemmas.List.{drop_more, get_or-take, length-take, length-drop}
use Rattle.std.proofs.lemmas.Bool.Decides.{nat_tests}
use Rattle.pth_kernel.specs.Kernel.{earliest}

pub earliest-drop : {A : Type 0} (k : ℕ) (xs : List A) (d : A) → k < length xs → earliest (drop k xs) ≡ Some (get_or xs k d)
earliest-drop k xs d h = ap earliest (drop_more xs k d h)

-- the first of those that have come, of which one is left
pub first-left : {A : Type 0} (k n : ℕ) (xs : List A) (d : A) → k < n → n ≤ length xs → earliest (drop k (take n xs)) ≡ Some (get_or xs k d)
first-left {A = A} k n xs d h within =
    let long : k < length (take n xs) = omega (arith, length-take n xs) in
    earliest-drop k (take n xs) d long ∙ ap (λ (x : A). Some x) (get_or-take n xs k d h)

pub is_left : {A : Type 0} (k : ℕ) (xs : List A) → ltb 0 (length (drop k xs)) ≡ ltb k (length xs)
is_left k xs = rw (length-drop k xs) (grind (arith, nat_tests))
