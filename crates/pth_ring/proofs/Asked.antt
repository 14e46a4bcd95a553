-- What is asked of the places of a ring is asked of its numbers.
use Rattle.std.proofs.Common.{◌≡◌, ◌≢◌, ◌≤◌, ◌+◌, ℕ, ◌==◌, Bool, true, false, cond, if◌then◌else◌, List, [], ◌∷◌, ◌++◌, map, reverse, count_by, find, Option, Some, None, IsSome, option_map, option_and_then, refl, sym, ◌∙◌, ap, ap₂, inl, inr, subst, arith}
use Rattle.std.specs.List.{list_any}
use Rattle.std.proofs.lemmas.List.{reverse-append}
use Rattle.std.proofs.lemmas.List.Sums.{sum_by-cons, count_by-le-length}
use Rattle.std.proofs.lemmas.Bool.{cases_eq}
use Rattle.pth_base.specs.declared.ids.EventId.{EventId}
use Rattle.pth_base.specs.Naming.{by_slot}
use Rattle.pth_base.specs.Chain.{StandsIn, last_or}
use Rattle.pth_base.proofs.Chains.{StandsIn-turn, StandsIn-append_cases, chain-last}
use Rattle.pth_numbered.specs.Numbered.{thing_at, number_at, slot_of}
use Rattle.pth_ring.specs.declared.node.Node.{Node}
use Rattle.pth_ring.specs.Ring.{RingGoesOn, from, ring_holds, head_event, last_event, turned_once}
use Rattle.pth_ring.specs.Links.{next_place, prev_place, event_at, ring, IsLinked}
use Rattle.pth_ring.specs.Rings.{event_limit, event_id, has_claim, has_occurred, is_settled, is_claimed, settled_in, event_after, event_before, candidates, walk_end}
use Rattle.pth_ring.specs.Arena.{RingsOf, rings_by_number, ring_of, event_of, events_of, AreLinked}
use Rattle.pth_ring.specs.Nodes.{a_ring_node, ring_node}
use Rattle.pth_ring.proofs.Circles.{ring-is}
use Rattle.pth_ring.proofs.Writes.{next_id_is, prev_id_is}
use Rattle.pth_ring.proofs.Calls.{ring-alone, ring-more}
use Rattle.pth_ring.proofs.Flips.{flip, flip-next, flip-linked, flip-live, flip-ring}
use Rattle.pth_ring.proofs.Going.{ring-few, on-next, goes-on}
use Rattle.pth_ring.proofs.Named.{map-append, test_is, from_named, has_named, has-place, ring_holds-named, any-named, find-named, head_event-named, turned_once-named}
use Rattle.pth_ring.proofs.Shown.{live, place-used, all-used, ring-at, agree}

-- the same count of the places and of their numbers
count_named : {A : Type 0} (t : ℕ → ℕ) (f g : ℕ → A) (p : A → Bool) (xs : List ℕ) → ((v : ℕ) → StandsIn v xs → g (t v) ≡ f v) → count_by (λ y. p (g y)) (map t xs) ≡ count_by (λ y. p (f y)) xs
count_named t f g p [] all = refl
count_named t f g p (x ∷ xs) all =
    sum_by-cons (λ (y : ℕ). cond (p (g y)) 1 0) (t x) (map t xs)
    ∙ ap₂ (λ (b : Bool) (n : ℕ). cond b 1 0 + n) (ap p (all x (inl refl))) (count_named t f g p xs (λ v h. all v (inr h)))
    ∙ sym (sum_by-cons (λ (y : ℕ). cond (p (f y)) 1 0) x xs)

map_reverse : (t : ℕ → ℕ) (xs : List ℕ) → reverse (map t xs) ≡ map t (reverse xs)
map_reverse t [] = refl
map_reverse t (x ∷ xs) = reverse-append (t x ∷ []) (map t xs) ∙ ap (λ (l : List ℕ). l ++ t x ∷ []) (map_reverse t xs) ∙ sym (map-append t (reverse xs) (x ∷ [])) ∙ ap (map t) (sym (reverse-append (x ∷ []) xs))

from_behind : (xs : List ℕ) (v : ℕ) → StandsIn v (turned_once xs) → StandsIn v xs
from_behind [] v h = h
from_behind (y ∷ ys) v h = StandsIn-turn v ys (y ∷ []) h

from_reverse : (xs : List ℕ) (v : ℕ) → StandsIn v (reverse xs) → StandsIn v xs
from_reverse [] v h = h
from_reverse (y ∷ ys) v h = elim (StandsIn-append_cases v (reverse ys) (y ∷ []) (subst (StandsIn v) (reverse-append (y ∷ []) ys) h)) [ inl a ↦ inr (from_reverse ys v a) | inr (inl same) ↦ inl same | inr (inr z) ↦ absurd z ]

module _ (x : RingsOf) (k : AreLinked x) (e : ℕ) (used_e : number_at x e ≢ 0) where
  abbrev t : ℕ → ℕ
  t = number_at x

  abbrev l : List ℕ
  l = ring (thing_at x) e

  pub settled-seen : count_by (λ y. is_settled (event_at (thing_at x) y)) l ≡ settled_in (events_of x) (t e)
  settled-seen = sym (ap (count_by (λ y. is_settled (event_of x y))) (ring-at x k e used_e) ∙ count_named t (event_at (thing_at x)) (event_of x) is_settled l (agree x k e used_e))

  pub settled-few : count_by (λ y. is_settled (event_at (thing_at x) y)) l ≤ event_limit
  settled-few =
      let a = count_by-le-length (λ (y : ℕ). is_settled (event_at (thing_at x) y)) l in
      let b = ring-few (thing_at x) e k.linked (live x k e used_e) in
      omega arith

  pub claimed-seen : list_any (λ y. has_claim (event_at (thing_at x) y)) l ≡ is_claimed (events_of x) (t e)
  claimed-seen = sym (ap (list_any (λ y. has_claim (event_of x y))) (ring-at x k e used_e) ∙ any-named t (event_at (thing_at x)) (event_of x) has_claim l (agree x k e used_e))

  pub held-seen : (a : ℕ) → number_at x a ≢ 0 → ring_holds a l ≡ ring_holds (t a) (ring_of x (t e))
  held-seen a used_a = sym (ap (ring_holds (t a)) (ring-at x k e used_e) ∙ ring_holds-named (slot_of x) t k.kept.tied a l used_a (all-used x k e used_e))

  -- ---- a walk

  seen_by : (forward : Bool) → candidates forward (ring_of x (t e)) ≡ map t (candidates forward l)
  seen_by true = ap turned_once (ring-at x k e used_e) ∙ turned_once-named t l
  seen_by false = ap (λ (m : List ℕ). reverse m) (ring-at x k e used_e) ∙ map_reverse t l

  in_ring : (forward : Bool) (v : ℕ) → StandsIn v (candidates forward l) → StandsIn v l
  in_ring true v h = from_behind l v h
  in_ring false v h = from_reverse l v h

  chosen_seen : (until forward : Bool) → walk_end until (event_of x) (candidates forward (ring_of x (t e))) ≡ option_map t (walk_end until (event_at (thing_at x)) (candidates forward l))
  chosen_seen true forward = ap (find (λ y. has_occurred (event_of x y))) (seen_by forward) ∙ find-named t (event_at (thing_at x)) (event_of x) has_occurred (candidates forward l) (λ v h. agree x k e used_e v (in_ring forward v h))
  chosen_seen false forward = ap head_event (seen_by forward) ∙ head_event-named t (candidates forward l)

  to_ids : (until forward : Bool) (o : Option EventId) (p : Option ℕ) → p ≡ walk_end until (event_at (thing_at x)) (candidates forward l) → o ≡ option_map event_id (option_map t p) → o ≡ option_map event_id (walk_end until (event_of x) (candidates forward (ring_of x (t e))))
  to_ids until forward o p is same = same ∙ ap (λ (q : Option ℕ). option_map event_id (option_map t q)) is ∙ ap (option_map event_id) (sym (chosen_seen until forward))

  -- a place was found, and its number is the answer
  pub walked-some : (until forward : Bool) (u : ℕ) (id : EventId) → Some u ≡ walk_end until (event_at (thing_at x)) (candidates forward l) → id.0 ≡ t u → Some id ≡ option_map event_id (walk_end until (event_of x) (candidates forward (ring_of x (t e))))
  walked-some until forward u id is number = to_ids until forward (Some id) (Some u) is (ap (λ (n : ℕ). Some (event_id n)) number)

  pub walked-none : (until forward : Bool) → None ≡ walk_end until (event_at (thing_at x)) (candidates forward l) → None ≡ option_map event_id (walk_end until (event_of x) (candidates forward (ring_of x (t e))))
  walked-none until forward is = to_ids until forward None None is refl

  -- what is found stands in the ring
  first_has : (xs : List ℕ) (v : ℕ) → head_event xs ≡ Some v → StandsIn v xs
  first_has [] v h = cc
  first_has (y ∷ ys) v h = let same : v ≡ y = cc in inl same

  find_has : (p : ℕ → Bool) (xs : List ℕ) (v : ℕ) → find p xs ≡ Some v → StandsIn v xs
  find_has p [] v h = cc
  find_has p (y ∷ ys) v h = by (p y) h (find_has p ys v)
    where
      by : (b : Bool) → cond b (Some y) (find p ys) ≡ Some v → (find p ys ≡ Some v → StandsIn v ys) → StandsIn v (y ∷ ys)
      by true g rest = let same : v ≡ y = cc in inl same
      by false g rest = inr (rest g)

  chosen_has : (until forward : Bool) (v : ℕ) → walk_end until (event_at (thing_at x)) (candidates forward l) ≡ Some v → StandsIn v l
  chosen_has true forward v h = in_ring forward v (find_has (λ y. has_occurred (event_at (thing_at x) y)) (candidates forward l) v h)
  chosen_has false forward v h = in_ring forward v (first_has (candidates forward l) v h)

  pub walked-used : (until forward : Bool) (u : ℕ) → Some u ≡ walk_end until (event_at (thing_at x)) (candidates forward l) → t u ≢ 0
  walked-used until forward u is = all-used x k e used_e u (chosen_has until forward u (sym is))

-- ---- the neighbours

pub first-next : (x : ℕ → Option Node) (e : ℕ) → IsLinked x → IsSome (event_at x e) → Some (next_place x e) ≡ head_event (turned_once (ring x e))
first-next x e linked live = elim (cases_eq (next_place x e) e) [
  | inl k ↦ ap (λ (w : ℕ). Some w) k ∙ sym (ap (λ l. head_event (turned_once l)) (ring-alone x e linked live k))
  | inr n ↦ sym (ap (λ l. head_event (turned_once l)) (ring-more x e linked live n))
]

pub first-prev : (x : ℕ → Option Node) (e : ℕ) → IsLinked x → IsSome (event_at x e) → Some (prev_place x e) ≡ head_event (reverse (ring x e))
first-prev x e linked live =
    ap (λ (f : ℕ → ℕ). Some (f e)) (sym (flip-next x)) ∙ first-next (flip x) e (flip-linked x linked) (flip-live x e live) ∙ ap head_event (flip-ring x e linked live)

-- by number
pub next-named : (x : RingsOf) (k : AreLinked x) (u : ℕ) (used_u : number_at x u ≢ 0) → event_after (events_of x) (number_at x u) ≡ Some (number_at x (next_place (thing_at x) u))
next-named x k u used_u =
    ap (λ l. head_event (turned_once l)) (ring-at x k u used_u)
    ∙ ap head_event (turned_once-named (number_at x) (ring (thing_at x) u))
    ∙ head_event-named (number_at x) (turned_once (ring (thing_at x) u))
    ∙ ap (option_map (number_at x)) (sym (first-next (thing_at x) u k.linked (live x k u used_u)))

last_named : (t : ℕ → ℕ) (a : ℕ) (xs : List ℕ) → last_or (t a) (map t xs) ≡ t (last_or a xs)
last_named t a [] = refl
last_named t a (x ∷ xs) = last_named t x xs

pub prev-named : (x : RingsOf) (k : AreLinked x) (u : ℕ) (used_u : number_at x u ≢ 0) → event_before (events_of x) (number_at x u) ≡ Some (number_at x (prev_place (thing_at x) u))
prev-named x k u used_u =
    let c = k.linked.circle u (live x k u used_u) in
    ap last_event (ring-at x k u used_u ∙ ap (map (number_at x)) (ring-is (thing_at x) u c.0 c.1))
    ∙ ap (λ (n : ℕ). Some n) (last_named (number_at x) u c.0 ∙ ap (number_at x) (sym (chain-last (next_place (thing_at x)) (prev_place (thing_at x)) u c.0 u c.1.links)))

-- and so say the numbers in its node
pub node-named : (x : RingsOf) (k : AreLinked x) (u : ℕ) (used_u : number_at x u ≢ 0) (n : Node) → thing_at x u ≡ Some n → ring_node (events_of x) (number_at x u) ≡ Some n.ring
node-named x k u used_u n is =
    let l = live x k u used_u in
    let next : number_at x (next_place (thing_at x) u) ≡ n.ring.next.0 = sym (next_id_is x u n is ∙ k.numbered.next u l ∙ ap (λ (f : ℕ → ℕ). f (next_place (thing_at x) u)) k.named) in
    let prev : number_at x (prev_place (thing_at x) u) ≡ n.ring.prev.0 = sym (prev_id_is x u n is ∙ k.numbered.prev u l ∙ ap (λ (f : ℕ → ℕ). f (prev_place (thing_at x) u)) k.named) in
    ap₂ (λ (p q : Option ℕ). option_and_then (λ before. option_map (λ after. a_ring_node before after) q) p) (prev-named x k u used_u ∙ ap (λ (m : ℕ). Some m) prev) (next-named x k u used_u ∙ ap (λ (m : ℕ). Some m) next)

-- ---- round a ring

pub slot_by : (x : RingsOf) (e : ℕ) (n : ℕ) → StandsIn n (ring_of x e) → (w : ℕ) × (slot_of x e ≡ Some w)
unfolding ring_of rings_by_number
slot_by x e n h = by (slot_of x e) refl h
  where
    by : (o : Option ℕ) → slot_of x e ≡ o → StandsIn n (map (number_at x) (by_slot [] (ring (thing_at x)) o)) → (w : ℕ) × (slot_of x e ≡ Some w)
    by (Some w) is g = (w, is)
    by None is g = absurd g

if_map : (t : ℕ → ℕ) (b : Bool) (l : List ℕ) → map t (if b then [] else l) ≡ (if b then [] else map t l)
if_map t true l = refl
if_map t false l = refl

module _ (x : RingsOf) (k : AreLinked x) (u : ℕ) (used_u : number_at x u ≢ 0) where
  -- of the ring of the event at w
  round_at : (w : ℕ) → number_at x w ≢ 0 → StandsIn (number_at x u) (ring_of x (number_at x w)) → RingGoesOn (ring_of x (number_at x w)) (number_at x w) (number_at x u) (number_at x (next_place (thing_at x) u))
  round_at w used_w h =
      let t = number_at x in
      let s = slot_of x in
      let l = ring (thing_at x) w in
      let next = next_place (thing_at x) u in
      let all = all-used x k w used_w in
      let shown : ring_of x (t w) ≡ map t l = ring-at x k w used_w in
      let on : StandsIn u l = has-place s t k.kept.tied u l used_u all (subst (StandsIn (t u)) shown h) in
      let after : StandsIn next l = on-next (thing_at x) w k.linked (live x k w used_w) u on in
      record {
        within = subst (StandsIn (t next)) (sym shown) (has_named s t k.kept.tied next l after);
        rest =
            ap (from (t u)) shown
            ∙ from_named s t k.kept.tied u l used_u all
            ∙ ap (map t) (goes-on (thing_at x) w k.linked (live x k w used_w) u on)
            ∙ ap (λ (m : List ℕ). t u ∷ m) (if_map t (next == w) (from next l))
            ∙ ap₂ (λ (b : Bool) (m : List ℕ). t u ∷ (if b then [] else m)) (sym (test_is s t k.kept.tied next w (all next after) used_w)) (sym (ap (from (t next)) shown ∙ from_named s t k.kept.tied next l (all next after) all));
      }

  pub round : (e : ℕ) → StandsIn (number_at x u) (ring_of x e) → RingGoesOn (ring_of x e) e (number_at x u) (number_at x (next_place (thing_at x) u))
  round e h =
      let w = slot_by x e (number_at x u) h in
      let is : number_at x w.0 ≡ e = k.kept.tied.tid e w.0 w.1 in
      let P : ℕ → Type 0 = λ n. StandsIn (number_at x u) (ring_of x n) → RingGoesOn (ring_of x n) n (number_at x u) (number_at x (next_place (thing_at x) u)) in
      subst P is (round_at w.0 (place-used x k e w.0 w.1)) h
