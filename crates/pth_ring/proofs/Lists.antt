-- Which one stands in a list.
use Rattle.std.proofs.Common.{◌≡◌, ◌≢◌, ℕ, ◌==◌, true, false, Bool, ◌||◌, List, [], ◌∷◌, refl, sym, ◌∙◌, ap, inl, inr}
use Rattle.pth_base.specs.Chain.{StandsIn}
use Rattle.pth_base.proofs.Tables.{same_self, not_same}
use Rattle.pth_ring.specs.Ring.{ring_holds}

pub ring_holds-in : (e : ℕ) (xs : List ℕ) → StandsIn e xs → ring_holds e xs ≡ true
ring_holds-in e [] h = absurd h
ring_holds-in e (x ∷ xs) (inl s) = rw (ap (λ z. x == z) s ∙ same_self x)
ring_holds-in e (x ∷ xs) (inr h) = either (x == e) (ring_holds e xs) (ring_holds-in e xs h)
  where
    either : (a b : Bool) → b ≡ true → (a || b) ≡ true
    either true b h = refl
    either false b h = h

pub ring_holds-out : (e : ℕ) (xs : List ℕ) → (StandsIn e xs → ⊥) → ring_holds e xs ≡ false
ring_holds-out e [] h = refl
ring_holds-out e (x ∷ xs) h = rw (not_same x e (λ k. h (inl (sym k)))) (ring_holds-out e xs (λ k. h (inr k)))

pub in_one : (y e : ℕ) → StandsIn y (e ∷ []) → y ≡ e
in_one y e (inl k) = k
in_one y e (inr h) = absurd h

pub not_in_one : (y e : ℕ) → y ≢ e → StandsIn y (e ∷ []) → ⊥
not_in_one y e n h = n (in_one y e h)
