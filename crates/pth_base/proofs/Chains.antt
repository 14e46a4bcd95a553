-- Chains and circles of links: parted, joined, turned, led to another end.
use Rattle.std.proofs.Common.{◌≡◌, ◌≢◌, ◌⊎◌, ◌<◌, ◌≤◌, ℕ, eqb, true, false, List, [], ◌∷◌, ◌++◌, length, refl, sym, ap, ◌∙◌, subst, inl, inr, ne_eqb, eqb-true, append-nil}
use Rattle.std.specs.List.{IsDistinct, list_any, AllByRecursion}
use Rattle.std.proofs.lemmas.Bool.{cases_eq, cases_Bool}
use Rattle.std.proofs.lemmas.Map.Steps.{length-le_from_distinct_below}
use Rattle.pth_base.specs.Chain.{StandsIn, Distinct, last_or, Chain, ClosedChain}

-- ---- what stands in a list

pub stands_or_not : (a : ℕ) (xs : List ℕ) → StandsIn a xs ⊎ (StandsIn a xs → ⊥)
stands_or_not a [] = inr (λ h. h)
stands_or_not a (x ∷ xs) = elim (cases_eq a x) [ inl s ↦ inl (inl s) | inr n ↦ elim (stands_or_not a xs) [ inl h ↦ inl (inr h) | inr g ↦ inr (neither a x xs n g) ] ]
  where
    neither : (a x : ℕ) (xs : List ℕ) → a ≢ x → (StandsIn a xs → ⊥) → StandsIn a (x ∷ xs) → ⊥
    neither a x xs n g (inl s) = n s
    neither a x xs n g (inr h) = g h

pub StandsIn-append_left : (a : ℕ) (xs ys : List ℕ) → StandsIn a xs → StandsIn a (xs ++ ys)
StandsIn-append_left a [] ys h = absurd h
StandsIn-append_left a (x ∷ xs) ys (inl e) = inl e
StandsIn-append_left a (x ∷ xs) ys (inr h) = inr (StandsIn-append_left a xs ys h)

pub StandsIn-append_right : (a : ℕ) (xs ys : List ℕ) → StandsIn a ys → StandsIn a (xs ++ ys)
StandsIn-append_right a [] ys h = h
StandsIn-append_right a (x ∷ xs) ys h = inr (StandsIn-append_right a xs ys h)

pub StandsIn-append_cases : (a : ℕ) (xs ys : List ℕ) → StandsIn a (xs ++ ys) → StandsIn a xs ⊎ StandsIn a ys
StandsIn-append_cases a [] ys h = inr h
StandsIn-append_cases a (x ∷ xs) ys (inl e) = inl (inl e)
StandsIn-append_cases a (x ∷ xs) ys (inr h) = elim (StandsIn-append_cases a xs ys h) [ inl l ↦ inl (inr l) | inr r ↦ inr r ]

pub StandsIn-turn : (a : ℕ) (xs ys : List ℕ) → StandsIn a (xs ++ ys) → StandsIn a (ys ++ xs)
StandsIn-turn a xs ys h = elim (StandsIn-append_cases a xs ys h) [ inl l ↦ StandsIn-append_right a ys xs l | inr r ↦ StandsIn-append_left a ys xs r ]

pub StandsIn-last : (a : ℕ) (xs : List ℕ) → StandsIn (last_or a xs) (a ∷ xs)
StandsIn-last a [] = inl refl
StandsIn-last a (x ∷ xs) = inr (StandsIn-last x xs)

-- ---- lists in which nothing stands twice

pub distinct-apart : (xs ys : List ℕ) → Distinct (xs ++ ys) → (a : ℕ) → StandsIn a xs → (b : ℕ) → StandsIn b ys → a ≢ b
distinct-apart [] ys d a ha b hb = absurd ha
distinct-apart (x ∷ xs) ys d a (inl e) b hb = λ k. d.0 b (StandsIn-append_right b xs ys hb) (sym k ∙ e)
distinct-apart (x ∷ xs) ys d a (inr h) b hb = distinct-apart xs ys d.1 a h b hb

pub distinct-left : (xs ys : List ℕ) → Distinct (xs ++ ys) → Distinct xs
distinct-left [] ys d = tt
distinct-left (x ∷ xs) ys d = ((λ y h. d.0 y (StandsIn-append_left y xs ys h)), distinct-left xs ys d.1)

pub distinct-right : (xs ys : List ℕ) → Distinct (xs ++ ys) → Distinct ys
distinct-right [] ys d = d
distinct-right (x ∷ xs) ys d = distinct-right xs ys d.1

pub distinct-join : (xs ys : List ℕ) → Distinct xs → Distinct ys → ((a : ℕ) → StandsIn a xs → (b : ℕ) → StandsIn b ys → a ≢ b) → Distinct (xs ++ ys)
distinct-join [] ys d e h = e
distinct-join (x ∷ xs) ys d e h = ((λ y k. elim (StandsIn-append_cases y xs ys k) [ inl l ↦ d.0 y l | inr r ↦ λ k. h x (inl refl) y r (sym k) ]), distinct-join xs ys d.1 e (λ a ha. h a (inr ha)))

pub distinct-turn : (xs ys : List ℕ) → Distinct (xs ++ ys) → Distinct (ys ++ xs)
distinct-turn xs ys d = distinct-join ys xs (distinct-right xs ys d) (distinct-left xs ys d) (λ a ha b hb k. distinct-apart xs ys d b hb a ha (sym k))

-- the same as std says it
is_distinct : (xs : List ℕ) → Distinct xs → IsDistinct eqb xs
unfolding IsDistinct
is_distinct [] d = tt
is_distinct (x ∷ xs) d = (apart x xs d.0, is_distinct xs d.1)
  where
    apart : (x : ℕ) (xs : List ℕ) → ((y : ℕ) → StandsIn y xs → y ≢ x) → AllByRecursion (λ y. eqb x y ≡ false) xs
    apart x [] h = tt
    apart x (y ∷ ys) h = (ne_eqb x y (λ k. h y (inl refl) (sym k)), apart x ys (λ z k. h z (inr k)))

stands_from_any : (a : ℕ) (xs : List ℕ) → list_any (eqb a) xs ≡ true → StandsIn a xs
stands_from_any a [] h = cc
stands_from_any a (x ∷ xs) h = elim (cases_Bool (eqb a x)) [ inl t ↦ inl (eqb-true a x t) | inr f ↦ inr (stands_from_any a xs (rw f at h)) ]

-- below n there are at most n
pub distinct-few : (xs : List ℕ) (n : ℕ) → Distinct xs → ((y : ℕ) → StandsIn y xs → y < n) → length xs ≤ n
distinct-few xs n d low = length-le_from_distinct_below xs n (is_distinct xs d) (λ z k. low z (stands_from_any z xs k))

-- ---- chains

pub chain-split : (n p : ℕ → ℕ) (a : ℕ) (xs : List ℕ) (y : ℕ) (ys : List ℕ) (b : ℕ) → Chain n p a (xs ++ y ∷ ys) b → Chain n p a xs y × Chain n p y ys b
chain-split n p a [] y ys b h = ((h.0, h.1), h.2)
chain-split n p a (x ∷ xs) y ys b h = let r = chain-split n p x xs y ys b h.2 in ((h.0, h.1, r.0), r.1)

pub chain-join : (n p : ℕ → ℕ) (a : ℕ) (xs : List ℕ) (y : ℕ) (ys : List ℕ) (b : ℕ) → Chain n p a xs y → Chain n p y ys b → Chain n p a (xs ++ y ∷ ys) b
chain-join n p a [] y ys b g h = (g.0, g.1, h)
chain-join n p a (x ∷ xs) y ys b g h = (g.0, g.1, chain-join n p x xs y ys b g.2 h)

-- the end of a chain knows the last before it
pub chain-last : (n p : ℕ → ℕ) (a : ℕ) (xs : List ℕ) (b : ℕ) → Chain n p a xs b → p b ≡ last_or a xs
chain-last n p a [] b h = h.1
chain-last n p a (x ∷ xs) b h = chain-last n p x xs b h.2

-- who stands before one on the way, and who after it
chain-prev : (n p : ℕ → ℕ) (a : ℕ) (xs : List ℕ) (b v : ℕ) → Chain n p a xs b → StandsIn v xs → StandsIn (p v) (a ∷ xs)
chain-prev n p a [] b v c h = absurd h
chain-prev n p a (x ∷ xs) b v c (inl e) = inl (ap p e ∙ c.1)
chain-prev n p a (x ∷ xs) b v c (inr h) = inr (chain-prev n p x xs b v c.2 h)

chain-next : (n p : ℕ → ℕ) (a : ℕ) (xs : List ℕ) (b v : ℕ) → Chain n p a xs b → StandsIn v (a ∷ xs) → (n v ≡ b) ⊎ StandsIn (n v) xs
chain-next n p a [] b v c (inl e) = inl (ap n e ∙ c.0)
chain-next n p a [] b v c (inr h) = absurd h
chain-next n p a (x ∷ xs) b v c (inl e) = inr (inl (ap n e ∙ c.0))
chain-next n p a (x ∷ xs) b v c (inr h) = elim (chain-next n p x xs b v c.2 h) [ inl e ↦ inl e | inr k ↦ inr (inr k) ]

-- the last one is led to another end
pub chain-end : (n p m q : ℕ → ℕ) (a : ℕ) (xs : List ℕ) (b c : ℕ) → Chain n p a xs b → Distinct (a ∷ xs)
    → m (last_or a xs) ≡ c → ((y : ℕ) → StandsIn y (a ∷ xs) → y ≢ last_or a xs → m y ≡ n y)
    → q c ≡ last_or a xs → ((y : ℕ) → StandsIn y xs → q y ≡ p y)
    → Chain m q a xs c
chain-end n p m q a [] b c h d m1 m2 q1 q2 = (m1, q1)
chain-end n p m q a (x ∷ xs) b c h d m1 m2 q1 q2 = (
  m2 a (inl refl) (λ k. d.0 (last_or x xs) (StandsIn-last x xs) (sym k)) ∙ h.0,
  q2 x (inl refl) ∙ h.1,
  chain-end n p m q x xs b c h.2 d.1 m1 (λ y k. m2 y (inr k)) q1 (λ y k. q2 y (inr k)),
)

-- links elsewhere do not matter
pub chain-frame : (n p m q : ℕ → ℕ) (a : ℕ) (xs : List ℕ) (b : ℕ) → Chain n p a xs b → ((y : ℕ) → StandsIn y (a ∷ xs) → m y ≡ n y) → ((y : ℕ) → StandsIn y (xs ++ b ∷ []) → q y ≡ p y) → Chain m q a xs b
chain-frame n p m q a [] b h f g = (f a (inl refl) ∙ h.0, g b (inl refl) ∙ h.1)
chain-frame n p m q a (x ∷ xs) b h f g = (f a (inl refl) ∙ h.0, g x (inl refl) ∙ h.1, chain-frame n p m q x xs b h.2 (λ y k. f y (inr k)) (λ y k. g y (inr k)))

-- ---- circles

pub closed-turn : (n p : ℕ → ℕ) (xs ys : List ℕ) → ClosedChain n p (xs ++ ys) → ClosedChain n p (ys ++ xs)
closed-turn n p [] ys h = subst (ClosedChain n p) (sym (append-nil ys)) h
closed-turn n p (x ∷ xs) [] h = subst (λ l. ClosedChain n p (x ∷ l)) (append-nil xs) h
closed-turn n p (x ∷ xs) (y ∷ ys) h = let r = chain-split n p x xs y ys x h in chain-join n p y ys x xs y r.1 r.0

-- the neighbours of a member are members
pub closed-prev : (n p : ℕ → ℕ) (xs : List ℕ) (v : ℕ) → ClosedChain n p xs → StandsIn v xs → StandsIn (p v) xs
closed-prev n p [] v r h = absurd h
closed-prev n p (x ∷ xs) v r (inl e) = subst (λ z. StandsIn z (x ∷ xs)) (sym (ap p e ∙ chain-last n p x xs x r)) (StandsIn-last x xs)
closed-prev n p (x ∷ xs) v r (inr h) = chain-prev n p x xs x v r h

pub closed-next : (n p : ℕ → ℕ) (xs : List ℕ) (v : ℕ) → ClosedChain n p xs → StandsIn v xs → StandsIn (n v) xs
closed-next n p [] v r h = absurd h
closed-next n p (x ∷ xs) v r h = elim (chain-next n p x xs x v r h) [ inl e ↦ inl e | inr k ↦ inr k ]

pub closed-frame : (n p m q : ℕ → ℕ) (xs : List ℕ) → ClosedChain n p xs → ((y : ℕ) → StandsIn y xs → m y ≡ n y) → ((y : ℕ) → StandsIn y xs → q y ≡ p y) → ClosedChain m q xs
closed-frame n p m q [] h f g = tt
closed-frame n p m q (x ∷ xs) h f g = chain-frame n p m q x xs x h f (λ y k. elim (StandsIn-append_cases y xs (x ∷ []) k) [ inl a ↦ g y (inr a) | inr (inl e) ↦ g y (inl e) | inr (inr z) ↦ absurd z ])
