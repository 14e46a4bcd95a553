-- Going round a ring.
use Rattle.std.proofs.Common.{◌≡◌, ◌≢◌, ◌<◌, ◌≤◌, ◌+◌, ℕ, ◌==◌, true, false, Bool, cond, if◌then◌else◌, List, [], ◌∷◌, ◌++◌, length, count_by, find, Option, Some, None, IsSome, refl, sym, ◌∙◌, ap, ap₂, inl, inr, subst, arith, length-append}
use Rattle.std.specs.List.{list_any}
use Rattle.std.proofs.lemmas.Bool.{cases_eq}
use Rattle.std.proofs.lemmas.List.Sums.{sum_by-cons}
use Rattle.pth_base.specs.Chain.{StandsIn, Chain}
use Rattle.pth_ring.specs.declared.node.Node.{Node}
use Rattle.pth_ring.specs.Ring.{from, rest_of, turned_once}
use Rattle.pth_ring.specs.Links.{next_place, prev_place, event_at, places_along, ring, IsLinkedRing, IsLinked}
use Rattle.pth_ring.specs.Rings.{event_limit}
use Rattle.pth_base.proofs.Tables.{same_self, not_same}
use Rattle.pth_base.proofs.Chains.{StandsIn-append_right, distinct-few, chain-split, closed-next}
use Rattle.pth_ring.proofs.Turns.{split}
use Rattle.pth_ring.proofs.Circles.{places_along-is, ring-is}

-- from a place of the ring of u on, up to u
unfoldable pub places_left : (ℕ → Option Node) → ℕ → ℕ → List ℕ
places_left x u at = places_along (next_place x) event_limit u at

-- what is left of a ring from one of its members on
pub record Along (x : ℕ → Option Node) (e at : ℕ) : Type 0 where
  pub back : List ℕ
  pub is : places_left x e at ≡ at ∷ back
  pub from_is : from at (ring x e) ≡ at ∷ back
  pub chain : Chain (next_place x) (prev_place x) at back e
  pub away : (y : ℕ) → StandsIn y back → y ≢ e
  pub short : length back < event_limit

module _ (x : ℕ → Option Node) (e : ℕ) (rest : List ℕ) (c : IsLinkedRing x (e ∷ rest)) where
  short_rest : length rest < event_limit
  short_rest = let f = distinct-few (e ∷ rest) event_limit c.distinct c.low in omega arith

  left_by : (at : ℕ) (back : List ℕ) → Chain (next_place x) (prev_place x) at back e → ((y : ℕ) → StandsIn y back → y ≢ e) → length back < event_limit → places_left x e at ≡ at ∷ back
  unfolding places_left
  left_by at back h away short = places_along-is (next_place x) (prev_place x) event_limit at back e short h away

  along_by : (front back : List ℕ) (at : ℕ) → e ∷ rest ≡ front ++ at ∷ back → from at (ring x e) ≡ at ∷ back → Along x e at
  along_by [] back at h reads =
      let same : e ≡ at = cc in
      let tail : rest ≡ back = cc in
      subst (Along x e) same (record { back = rest; is = left_by e rest c.links c.distinct.0 short_rest; from_is = ap (λ (w : ℕ). from w (ring x e)) same ∙ reads ∙ ap₂ (λ (w : ℕ) (l : List ℕ). w ∷ l) (sym same) (sym tail); chain = c.links; away = c.distinct.0; short = short_rest })
  along_by (f ∷ front) back at h reads =
      let same : e ≡ f = cc in
      let tail : rest ≡ front ++ at ∷ back = cc in
      let chain : Chain (next_place x) (prev_place x) at back e = (chain-split (next_place x) (prev_place x) e front at back e (subst (λ l. Chain (next_place x) (prev_place x) e l e) tail c.links)).1 in
      let away : (y : ℕ) → StandsIn y back → y ≢ e = λ y k. c.distinct.0 y (subst (StandsIn y) (sym tail) (StandsIn-append_right y front (at ∷ back) (inr k))) in
      let short : length back < event_limit = (let a = length-append front (at ∷ back) in let b = ap length tail in let d = short_rest in omega arith) in
      record { back = back; is = left_by at back chain away short; from_is = reads; chain = chain; away = away; short = short }

module _ (x : ℕ → Option Node) (e : ℕ) (linked : IsLinked x) (live : IsSome (event_at x e)) where
  pub along : (at : ℕ) → StandsIn at (ring x e) → Along x e at
  along at h =
      let c = linked.circle e live in
      let s = split at (e ∷ c.0) (subst (StandsIn at) (ring-is x e c.0 c.1) h) in
      along_by x e c.0 c.1 s.front s.back at s.is (ap (from at) (ring-is x e c.0 c.1) ∙ s.from_is)

  pub on-start : StandsIn e (ring x e)
  on-start = let c = linked.circle e live in subst (StandsIn e) (sym (ring-is x e c.0 c.1)) (inl refl)

  pub on-live : (at : ℕ) → StandsIn at (ring x e) → IsSome (event_at x at)
  on-live at h = let c = linked.circle e live in c.1.live at (subst (StandsIn at) (ring-is x e c.0 c.1) h)

  pub places_left-start : places_left x e e ≡ ring x e
  places_left-start = let c = linked.circle e live in left_by x e c.0 c.1 e c.0 c.1.links c.1.distinct.0 (short_rest x e c.0 c.1) ∙ sym (ring-is x e c.0 c.1)

  last_by : (at : ℕ) (back : List ℕ) → Chain (next_place x) (prev_place x) at back e → ((y : ℕ) → StandsIn y back → y ≢ e) → next_place x at ≡ e → back ≡ []
  last_by at [] h away n = refl
  last_by at (y ∷ ys) h away n = absurd (away y (inl refl) (sym h.0 ∙ n))

  pub places_left-last : (at : ℕ) → StandsIn at (ring x e) → next_place x at ≡ e → places_left x e at ≡ at ∷ []
  places_left-last at h n = let a = along at h in a.is ∙ ap (λ l. at ∷ l) (last_by at a.back a.chain a.away n)

  step_by : (at : ℕ) (back : List ℕ) → Chain (next_place x) (prev_place x) at back e → ((y : ℕ) → StandsIn y back → y ≢ e) → length back < event_limit → next_place x at ≢ e → places_left x e (next_place x at) ≡ back
  step_by at [] h away short n = absurd (n h.0)
  step_by at (y ∷ ys) h away short n =
      let c = linked.circle e live in
      ap (places_left x e) h.0 ∙ left_by x e c.0 c.1 y ys h.2 (λ z k. away z (inr k)) (omega arith)

  pub places_left-step : (at : ℕ) → StandsIn at (ring x e) → next_place x at ≢ e → places_left x e at ≡ at ∷ places_left x e (next_place x at)
  places_left-step at h n = let a = along at h in a.is ∙ ap (λ l. at ∷ l) (sym (step_by at a.back a.chain a.away a.short n))

  pub on-next : (at : ℕ) → StandsIn at (ring x e) → StandsIn (next_place x at) (ring x e)
  on-next at h =
      let c = linked.circle e live in
      let is = ring-is x e c.0 c.1 in
      subst (StandsIn (next_place x at)) (sym is) (closed-next (next_place x) (prev_place x) (e ∷ c.0) at c.1.links (subst (StandsIn at) is h))

  pub places_left-shorter : (at : ℕ) → StandsIn at (ring x e) → next_place x at ≢ e → length (places_left x e (next_place x at)) < length (places_left x e at)
  places_left-shorter at h n = let a = ap length (places_left-step at h n) in omega arith

  pub ring-few : length (ring x e) ≤ event_limit
  ring-few = let c = linked.circle e live in rw (ring-is x e c.0 c.1) (distinct-few (e ∷ c.0) event_limit c.1.distinct (λ y h. linked.low y (c.1.live y h)))

-- the ring goes on from one of its members with the next
module _ (x : ℕ → Option Node) (e : ℕ) (linked : IsLinked x) (live : IsSome (event_at x e)) (at : ℕ) (on : StandsIn at (ring x e)) where
  from_left : (u : ℕ) → StandsIn u (ring x e) → from u (ring x e) ≡ places_left x e u
  from_left u h = let a = along x e linked live u h in a.from_is ∙ sym a.is

  pub goes-on : from at (ring x e) ≡ at ∷ (if next_place x at == e then [] else from (next_place x at) (ring x e))
  goes-on = from_left at on ∙ elim (cases_eq (next_place x at) e) [
    | inl k ↦ places_left-last x e linked live at on k ∙ ap (λ (b : Bool). at ∷ (if b then [] else from (next_place x at) (ring x e))) (sym (ap (λ (w : ℕ). w == e) k ∙ same_self e))
    | inr n ↦ places_left-step x e linked live at on n ∙ ap (λ (l : List ℕ). at ∷ l) (sym (from_left (next_place x at) (on-next x e linked live at on))) ∙ ap (λ (b : Bool). at ∷ (if b then [] else from (next_place x at) (ring x e))) (sym (not_same (next_place x at) e n))
  ]

-- ---- what is counted on the way

pub counted : (p : ℕ → Bool) (at c o t : ℕ) (l m : List ℕ) → l ≡ at ∷ m → o ≡ (if p at then 1 else 0) → c + count_by p l ≡ t → (c + o) + count_by p m ≡ t
counted p at c o t l m is one sum =
    let a = ap (count_by p) is in
    let b = sum_by-cons (λ (y : ℕ). cond (p y) 1 0) at m in
    omega (arith, a, b)

pub counted-last : (p : ℕ → Bool) (at c o t : ℕ) (l : List ℕ) → l ≡ at ∷ [] → o ≡ (if p at then 1 else 0) → c + count_by p l ≡ t → c + o ≡ t
counted-last p at c o t l is one sum = let a = counted p at c o t l [] is one sum in omega arith

-- ---- what is found on the way

pub any-here : (p : ℕ → Bool) (at : ℕ) (t : Bool) (l m : List ℕ) → l ≡ at ∷ m → true ≡ p at → list_any p l ≡ t → true ≡ t
any-here p at t l m is one same = sym (rw (← one) at (ap (list_any p) is)) ∙ same

pub any-later : (p : ℕ → Bool) (at : ℕ) (t : Bool) (l m : List ℕ) → l ≡ at ∷ m → false ≡ p at → list_any p l ≡ t → list_any p m ≡ t
any-later p at t l m is one same = sym (rw (← one) at (ap (list_any p) is)) ∙ same

find-yes : (p : ℕ → Bool) (y : ℕ) (ys : List ℕ) → true ≡ p y → find p (y ∷ ys) ≡ Some y
find-yes p y ys d = rw (← d) refl

find-no : (p : ℕ → Bool) (y : ℕ) (ys : List ℕ) → false ≡ p y → find p (y ∷ ys) ≡ find p ys
find-no p y ys d = rw (← d) refl

behind_is : (l : List ℕ) (e : ℕ) (xs : List ℕ) → l ≡ e ∷ xs → rest_of l ++ e ∷ [] ≡ turned_once l
behind_is [] e xs is = cc
behind_is (y ∷ ys) e xs is = let same : e ≡ y = cc in ap (λ (w : ℕ). ys ++ w ∷ []) same

module _ (x : ℕ → Option Node) (p : ℕ → Bool) (e : ℕ) (linked : IsLinked x) (live : IsSome (event_at x e)) where
  pub find-start : find p (rest_of (places_left x e e) ++ e ∷ []) ≡ find p (turned_once (ring x e))
  find-start =
      let c = linked.circle e live in
      ap (λ l. find p (rest_of l ++ e ∷ [])) (places_left-start x e linked live) ∙ ap (find p) (behind_is (ring x e) e c.0 (ring-is x e c.0 c.1))

  module _ (at : ℕ) (on : StandsIn at (ring x e)) where
    -- what comes behind at, e the last
    turned_once-last : next_place x at ≡ e → rest_of (places_left x e at) ++ e ∷ [] ≡ e ∷ []
    turned_once-last n = ap (λ l. rest_of l ++ e ∷ []) (places_left-last x e linked live at on n)

    turned_once-step : next_place x at ≢ e → rest_of (places_left x e at) ++ e ∷ [] ≡ next_place x at ∷ (rest_of (places_left x e (next_place x at)) ++ e ∷ [])
    turned_once-step n =
        let a = along x e linked live (next_place x at) (on-next x e linked live at on) in
        ap (λ l. rest_of l ++ e ∷ []) (places_left-step x e linked live at on n) ∙ ap (λ l. l ++ e ∷ []) (a.is ∙ ap (λ l. next_place x at ∷ rest_of l) (sym a.is))

    pub found-here : (t : Option ℕ) → true ≡ p (next_place x at) → find p (rest_of (places_left x e at) ++ e ∷ []) ≡ t → Some (next_place x at) ≡ t
    found-here t d same = elim (cases_eq (next_place x at) e) [
      | inl k ↦ sym (ap (find p) (turned_once-last k ∙ ap (λ w. w ∷ []) (sym k)) ∙ find-yes p (next_place x at) [] d) ∙ same
      | inr n ↦ sym (ap (find p) (turned_once-step n) ∙ find-yes p (next_place x at) _ d) ∙ same
    ]

    pub found-none : (t : Option ℕ) → next_place x at ≡ e → false ≡ p (next_place x at) → find p (rest_of (places_left x e at) ++ e ∷ []) ≡ t → None ≡ t
    found-none t k d same = sym (ap (find p) (turned_once-last k ∙ ap (λ w. w ∷ []) (sym k)) ∙ find-no p (next_place x at) [] d) ∙ same

    pub found-later : (t : Option ℕ) → next_place x at ≢ e → false ≡ p (next_place x at) → find p (rest_of (places_left x e at) ++ e ∷ []) ≡ t → find p (rest_of (places_left x e (next_place x at)) ++ e ∷ []) ≡ t
    found-later t n d same = sym (ap (find p) (turned_once-step n) ∙ find-no p (next_place x at) _ d) ∙ same
