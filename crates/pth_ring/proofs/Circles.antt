-- The circles that linked nodes make, and what a change of one leaves of the others.
use Rattle.std.proofs.Common.{◌≡◌, ◌≢◌, ◌⊎◌, ◌<◌, ℕ, zero, suc, ◌==◌, true, false, List, [], ◌∷◌, ◌++◌, length, Option, Some, None, IsSome, refl, sym, ◌∙◌, ap, inl, inr, subst, arith}
use mathlib.Core.Path.{fun_ext}
use Rattle.pth_base.specs.Chain.{StandsIn, Chain}
use Rattle.pth_base.proofs.Tables.{same_self, not_same}
use Rattle.pth_base.proofs.Chains.{stands_or_not, StandsIn-turn, distinct-turn, distinct-few, closed-turn, closed-frame}
use Rattle.pth_ring.specs.declared.event.Event.{Event}
use Rattle.pth_ring.specs.declared.node.Node.{Node}
use Rattle.pth_ring.specs.Ring.{turned, circle}
use Rattle.pth_ring.specs.Links.{places_along, next_place, prev_place, event_at, ring, if_some, IsLinkedRing, IsLinked}
use Rattle.pth_ring.specs.Rings.{event_limit}
use Rattle.pth_ring.proofs.Turns.{split, turned-is, StandsIn-turned, StandsIn-unturned, circle-in}

pub places_along-is : (n p : ℕ → ℕ) (fuel a : ℕ) (xs : List ℕ) (b : ℕ) → length xs < fuel → Chain n p a xs b → ((y : ℕ) → StandsIn y xs → y ≢ b) → places_along n fuel b a ≡ a ∷ xs
unfolding places_along
places_along-is n p zero a xs b f c ne = absurd (omega arith)
places_along-is n p (suc fuel) a [] b f c ne =
    let t : (n a == b) ≡ true = ap (λ z. z == b) c.0 ∙ same_self b in
    rw t refl
places_along-is n p (suc fuel) a (x ∷ xs) b f c ne =
    let t : (n a == b) ≡ false = not_same (n a) b (λ k. ne x (inl refl) (sym c.0 ∙ k)) in
    rw t (ap (λ l. a ∷ l) (ap (places_along n fuel b) c.0 ∙ places_along-is n p fuel x xs b (omega arith) c.2 (λ y k. ne y (inr k))))

some_stays : (o : Option Event) (l : List ℕ) → IsSome o → if_some o l ≡ l
some_stays (Some _) l h = refl
some_stays None l h = cc

pub ring-is : (x : ℕ → Option Node) (e : ℕ) (xs : List ℕ) → IsLinkedRing x (e ∷ xs) → ring x e ≡ e ∷ xs
unfolding ring
ring-is x e xs c =
    let f = distinct-few (e ∷ xs) event_limit c.distinct c.low in
    some_stays (event_at x e) _ (c.live e (inl refl)) ∙ places_along-is (next_place x) (prev_place x) event_limit e xs e (omega arith) c.links c.distinct.0

none_stays : (o : Option Event) (l : List ℕ) → o ≡ None → if_some o l ≡ []
none_stays (Some _) l h = cc
none_stays None l h = refl

pub ring-none : (x : ℕ → Option Node) (e : ℕ) → event_at x e ≡ None → ring x e ≡ []
unfolding ring
ring-none x e h = none_stays (event_at x e) _ h

-- what is read at e
pub record IsRead (x : ℕ → Option Node) (e : ℕ) (l : List ℕ) : Type 0 where
  pub rest : List ℕ
  pub is : l ≡ e ∷ rest
  pub circle : IsLinkedRing x (e ∷ rest)

pub circle-turn : (x : ℕ → Option Node) (xs : List ℕ) (e : ℕ) → IsLinkedRing x xs → StandsIn e xs → IsRead x e (turned e xs)
circle-turn x xs e c h =
    let s = split e xs h in
    let d : IsLinkedRing x (s.front ++ e ∷ s.back) = subst (IsLinkedRing x) s.is c in
    record {
      rest = s.back ++ s.front;
      is = turned-is e xs s;
      circle = record {
        links = closed-turn (next_place x) (prev_place x) s.front (e ∷ s.back) d.links;
        distinct = distinct-turn s.front (e ∷ s.back) d.distinct;
        live = λ y k. d.live y (StandsIn-turn y (e ∷ s.back) s.front k);
        low = λ y k. d.low y (StandsIn-turn y (e ∷ s.back) s.front k);
      };
    }

pub ring-read : (x : ℕ → Option Node) (e : ℕ) (l : List ℕ) → IsRead x e l → ring x e ≡ l
ring-read x e l r = ring-is x e r.rest r.circle ∙ sym r.is

pub ring-in : (x : ℕ → Option Node) (xs : List ℕ) (e : ℕ) → IsLinkedRing x xs → StandsIn e xs → ring x e ≡ turned e xs
ring-in x xs e c h = ring-read x e (turned e xs) (circle-turn x xs e c h)

-- circles with one member in common have all
pub same-circle : (x : ℕ → Option Node) (xs ys : List ℕ) (y e : ℕ) → IsLinkedRing x xs → IsLinkedRing x ys → StandsIn y xs → StandsIn y ys → StandsIn e xs → StandsIn e ys
same-circle x xs ys y e c d hx hy h =
    let same : turned y xs ≡ turned y ys = sym (ring-in x xs y c hx) ∙ ring-in x ys y d hy in
    StandsIn-unturned e y ys hy (subst (StandsIn e) same (StandsIn-turned e y xs hx h))

pub circle-frame : (x z : ℕ → Option Node) (c : List ℕ) → IsLinkedRing x c → ((y : ℕ) → StandsIn y c → next_place z y ≡ next_place x y) → ((y : ℕ) → StandsIn y c → prev_place z y ≡ prev_place x y) → ((y : ℕ) → StandsIn y c → event_at z y ≡ event_at x y) → IsLinkedRing z c
circle-frame x z c i n p e = record {
  links = closed-frame (next_place x) (prev_place x) (next_place z) (prev_place z) c i.links n p;
  distinct = i.distinct;
  live = λ y h. subst IsSome (sym (e y h)) (i.live y h);
  low = i.low;
}

abbrev pub IsReadOrGone : (ℕ → Option Node) → ℕ → List ℕ → Type 0
IsReadOrGone x e l = IsRead x e l ⊎ ((event_at x e ≡ None) × (l ≡ []))

-- the events that are touched were whole rings, and are read as g says
pub record Remakes (x z : ℕ → Option Node) (touched : List ℕ) (g : ℕ → List ℕ) : Type 0 where
  pub next : (y : ℕ) → (StandsIn y touched → ⊥) → next_place z y ≡ next_place x y
  pub prev : (y : ℕ) → (StandsIn y touched → ⊥) → prev_place z y ≡ prev_place x y
  pub event : (y : ℕ) → (StandsIn y touched → ⊥) → event_at z y ≡ event_at x y
  pub closed : (c : List ℕ) → IsLinkedRing x c → (y e : ℕ) → StandsIn y c → StandsIn y touched → StandsIn e c → StandsIn e touched
  pub low : (e : ℕ) → StandsIn e touched → e < event_limit
  pub inside : (e : ℕ) → StandsIn e touched → IsReadOrGone z e (g e)
  pub outside : (e : ℕ) → (StandsIn e touched → ⊥) → g e ≡ ring x e

module _ (x z : ℕ → Option Node) (touched : List ℕ) (g : ℕ → List ℕ) (linked : IsLinked x) (r : Remakes x z touched g) where
  kept : (c : List ℕ) (e : ℕ) → IsLinkedRing x c → StandsIn e c → (StandsIn e touched → ⊥) → IsLinkedRing z c
  kept c e i h out =
      let away : (y : ℕ) → StandsIn y c → StandsIn y touched → ⊥ = λ y hy t. out (r.closed c i y e hy t h) in
      circle-frame x z c i (λ y hy. r.next y (away y hy)) (λ y hy. r.prev y (away y hy)) (λ y hy. r.event y (away y hy))

  read_out : (e : ℕ) (o : Option Event) → event_at x e ≡ o → (StandsIn e touched → ⊥) → IsReadOrGone z e (ring x e)
  read_out e (Some v) was out =
      let live : IsSome (event_at x e) = cc in
      let c = linked.circle e live in
      inl (record { rest = c.0; is = ring-is x e c.0 c.1; circle = kept (e ∷ c.0) e c.1 (inl refl) out })
  read_out e None was out = inr (r.event e out ∙ was, ring-none x e was)

  read : (e : ℕ) → IsReadOrGone z e (g e)
  read e = elim (stands_or_not e touched) [ inl h ↦ r.inside e h | inr out ↦ subst (IsReadOrGone z e) (sym (r.outside e out)) (read_out e (event_at x e) refl out) ]

  read_is : (e : ℕ) (l : List ℕ) → IsReadOrGone z e l → ring z e ≡ l
  read_is e l (inl i) = ring-read z e l i
  read_is e l (inr n) = ring-none z e n.0 ∙ sym n.1

  pub remade-ring : ring z ≡ g
  remade-ring = fun_ext (λ e. read_is e (g e) (read e))

  live_circle : (e : ℕ) (l : List ℕ) → IsReadOrGone z e l → IsSome (event_at z e) → (rest : List ℕ) × IsLinkedRing z (e ∷ rest)
  live_circle e l (inl i) live = (i.rest, i.circle)
  live_circle e l (inr n) live = absurd (gone (event_at z e) n.0 live)
    where
      gone : (o : Option Event) → o ≡ None → IsSome o → ⊥
      gone o n s = cc

  pub remade-linked : IsLinked z
  remade-linked = record {
    low = λ e live. elim (stands_or_not e touched) [ inl h ↦ r.low e h | inr out ↦ linked.low e (subst IsSome (r.event e out) live) ];
    circle = λ e live. live_circle e (g e) (read e) live;
  }

-- read from each of its members
pub circle-read : (x : ℕ → Option Node) (xs : List ℕ) (f : ℕ → List ℕ) (e : ℕ) → IsLinkedRing x xs → StandsIn e xs → IsReadOrGone x e (circle xs f e)
circle-read x xs f e c h = inl (subst (IsRead x e) (sym (circle-in xs f e h)) (circle-turn x xs e c h))
