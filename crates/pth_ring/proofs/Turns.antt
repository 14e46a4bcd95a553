-- A circle read from another of its members.
use Rattle.std.proofs.Common.{◌≡◌, ◌≢◌, ℕ, ◌==◌, true, false, List, [], ◌∷◌, ◌++◌, refl, sym, ◌∙◌, ap, ap₂, inl, inr, subst}
use Rattle.std.proofs.lemmas.Bool.{cases_eq}
use Rattle.pth_base.specs.Chain.{StandsIn}
use Rattle.pth_base.proofs.Tables.{same_self, not_same}
use Rattle.pth_base.proofs.Chains.{StandsIn-turn}
use Rattle.pth_ring.specs.Ring.{from, before, turned, circle, each}
use Rattle.pth_ring.proofs.Lists.{ring_holds-in, ring_holds-out}

pub record Split (e : ℕ) (xs : List ℕ) : Type 0 where
  pub front : List ℕ
  pub back : List ℕ
  pub is : xs ≡ front ++ e ∷ back
  pub from_is : from e xs ≡ e ∷ back
  pub before_is : before e xs ≡ front

split-here : (e x : ℕ) (xs : List ℕ) → x ≡ e → Split e (x ∷ xs)
split-here e x xs s =
    let t : (x == e) ≡ true = ap (λ z. z == e) s ∙ same_self e in
    record { front = []; back = xs; is = ap (λ z. z ∷ xs) s; from_is = rw t (ap (λ z. z ∷ xs) s); before_is = rw t refl }

split-later : (e x : ℕ) (xs : List ℕ) → x ≢ e → Split e xs → Split e (x ∷ xs)
split-later e x xs n r =
    let t : (x == e) ≡ false = not_same x e n in
    record { front = x ∷ r.front; back = r.back; is = ap (λ l. x ∷ l) r.is; from_is = rw t r.from_is; before_is = rw t (ap (λ l. x ∷ l) r.before_is) }

pub split : (e : ℕ) (xs : List ℕ) → StandsIn e xs → Split e xs
split e [] h = absurd h
split e (x ∷ xs) (inl s) = split-here e x xs (sym s)
split e (x ∷ xs) (inr h) = elim (cases_eq x e) [ inl s ↦ split-here e x xs s | inr n ↦ split-later e x xs n (split e xs h) ]

pub turned-is : (e : ℕ) (xs : List ℕ) (s : Split e xs) → turned e xs ≡ e ∷ (s.back ++ s.front)
unfolding turned
turned-is e xs s = ap₂ (λ (a b : List ℕ). a ++ b) s.from_is s.before_is

-- e does not stand before itself
pub before-away : (e : ℕ) (xs : List ℕ) → StandsIn e (before e xs) → ⊥
before-away e [] h = h
before-away e (x ∷ xs) h = elim (cases_eq x e) [
  | inl s ↦ (let t : (x == e) ≡ true = ap (λ z. z == e) s ∙ same_self e in rw t at h)
  | inr n ↦ elim (let t : (x == e) ≡ false = not_same x e n in rw t at h) [ inl k ↦ n (sym k) | inr k ↦ before-away e xs k ]
]

split-first : (e : ℕ) (front back : List ℕ) → (StandsIn e front → ⊥) → (s : Split e (front ++ e ∷ back)) × (s.back ≡ back) × (s.front ≡ front)
unfolding split-here split-later
split-first e [] back out = (split-here e e back refl, refl, refl)
split-first e (x ∷ xs) back out = let r = split-first e xs back (λ h. out (inr h)) in (split-later e x (xs ++ e ∷ back) (λ k. out (inl (sym k))) r.0, r.1, ap (λ l. x ∷ l) r.2)

-- read from e on, where e does not stand in front
pub turned-first : (e : ℕ) (front back : List ℕ) → (StandsIn e front → ⊥) → turned e (front ++ e ∷ back) ≡ e ∷ (back ++ front)
turned-first e front back out = let s = split-first e front back out in turned-is e (front ++ e ∷ back) s.0 ∙ ap₂ (λ (a b : List ℕ). e ∷ (a ++ b)) s.1 s.2

pub StandsIn-turned : (y e : ℕ) (xs : List ℕ) → StandsIn e xs → StandsIn y xs → StandsIn y (turned e xs)
StandsIn-turned y e xs h k =
    let s = split e xs h in
    subst (StandsIn y) (sym (turned-is e xs s)) (StandsIn-turn y s.front (e ∷ s.back) (subst (StandsIn y) s.is k))

pub StandsIn-unturned : (y e : ℕ) (xs : List ℕ) → StandsIn e xs → StandsIn y (turned e xs) → StandsIn y xs
StandsIn-unturned y e xs h k =
    let s = split e xs h in
    subst (StandsIn y) (sym s.is) (StandsIn-turn y (e ∷ s.back) s.front (subst (StandsIn y) (turned-is e xs s) k))

pub circle-in : (xs : List ℕ) (f : ℕ → List ℕ) (e : ℕ) → StandsIn e xs → circle xs f e ≡ turned e xs
unfolding circle
circle-in xs f e h = rw (ring_holds-in e xs h) refl

pub circle-out : (xs : List ℕ) (f : ℕ → List ℕ) (e : ℕ) → (StandsIn e xs → ⊥) → circle xs f e ≡ f e
unfolding circle
circle-out xs f e h = rw (ring_holds-out e xs h) refl

-- what stands at one of these is changed, and nothing else
pub each-in : {A : Type 0} (xs : List ℕ) (g : A → A) (f : ℕ → A) (e : ℕ) → StandsIn e xs → each xs g f e ≡ g (f e)
unfolding each
each-in xs g f e h = rw (ring_holds-in e xs h) refl

pub each-out : {A : Type 0} (xs : List ℕ) (g : A → A) (f : ℕ → A) (e : ℕ) → (StandsIn e xs → ⊥) → each xs g f e ≡ f e
unfolding each
each-out xs g f e h = rw (ring_holds-out e xs h) refl
