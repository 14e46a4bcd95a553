-- The handlers of a stack, from the top down.
use Rattle.std.proofs.Common.{◌≡◌, ◌<◌, ◌+◌, ℕ, zero, suc, List, [], ◌∷◌, drop, length, Some, None, refl, sym, ◌∙◌, ap, arith}
use Rattle.std.specs.List.{slice_get}

module _ {A : Type 0} where
  drop_next : (x : A) (xs : List A) (n : ℕ) → drop (suc n + 1) (x ∷ xs) ≡ drop (n + 1) xs
  drop_next x xs n = let e : suc n + 1 ≡ suc (n + 1) = omega arith in ap (λ (k : ℕ). drop k (x ∷ xs)) e

  -- one stands there, and then the rest
  pub drop_some : (xs : List A) (n : ℕ) (c : A) → slice_get xs n ≡ Some c → drop n xs ≡ c ∷ drop (n + 1) xs
  drop_some [] n c h = absurd (cc h)
  drop_some (x ∷ xs) zero c h = let same : x ≡ c = cc in ap (λ (y : A). y ∷ xs) same
  drop_some (x ∷ xs) (suc n) c h = drop_some xs n c h ∙ ap (λ (ys : List A). c ∷ ys) (sym (drop_next x xs n))

  pub drop_none : (xs : List A) (n : ℕ) → slice_get xs n ≡ None → drop n xs ≡ []
  drop_none [] zero h = refl
  drop_none [] (suc n) h = refl
  drop_none (x ∷ xs) zero h = absurd (cc h)
  drop_none (x ∷ xs) (suc n) h = drop_none xs n h

  pub stands_low : (xs : List A) (n : ℕ) (c : A) → slice_get xs n ≡ Some c → n < length xs
  stands_low [] n c h = absurd (cc h)
  stands_low (x ∷ xs) zero c h = omega arith
  stands_low (x ∷ xs) (suc n) c h = let less = stands_low xs n c h in omega arith
