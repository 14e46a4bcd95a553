-- The same rings read backwards.
use Rattle.std.proofs.Common.{◌≡◌, ℕ, List, [], ◌∷◌, ◌++◌, reverse, Option, Some, None, IsSome, refl, sym, ◌∙◌, ap, inl, inr}
use mathlib.Core.Path.{fun_ext}
use Rattle.pth_base.specs.Chain.{StandsIn, Distinct, Chain}
use Rattle.pth_ring.specs.declared.node.Node.{Node}
use Rattle.std.proofs.lemmas.List.{reverse-append}
use Rattle.pth_ring.specs.Ring.{turned_once}
use Rattle.pth_ring.specs.Links.{node_next, node_prev, node_event, next_place, prev_place, event_at, ring, IsLinkedRing, IsLinked}
use Rattle.pth_base.proofs.Chains.{StandsIn-append_cases, distinct-join, chain-join}
use Rattle.pth_ring.proofs.Lists.{in_one}
use Rattle.pth_ring.proofs.Circles.{ring-is}

abbrev reversed : List ℕ → List ℕ
reversed [] = []
reversed (x ∷ xs) = reversed xs ++ x ∷ []

reversed_is : (xs : List ℕ) → reversed xs ≡ reverse xs
reversed_is [] = refl
reversed_is (x ∷ xs) = ap (λ l. l ++ x ∷ []) (reversed_is xs) ∙ sym (reverse-append (x ∷ []) xs)

abbrev pub swapped : Option Node → Option Node
swapped (Some n) = Some (record n { prev = n.next; next = n.prev })
swapped None = None

unfoldable pub flip : (ℕ → Option Node) → ℕ → Option Node
flip x e = swapped (x e)

next_swapped : (o : Option Node) → node_next (swapped o) ≡ node_prev o
next_swapped (Some n) = refl
next_swapped None = refl

prev_swapped : (o : Option Node) → node_prev (swapped o) ≡ node_next o
prev_swapped (Some n) = refl
prev_swapped None = refl

event_swapped : (o : Option Node) → node_event (swapped o) ≡ node_event o
event_swapped (Some n) = refl
event_swapped None = refl

pub flip-next : (x : ℕ → Option Node) → next_place (flip x) ≡ prev_place x
unfolding flip next_place prev_place
flip-next x = fun_ext (λ e. next_swapped (x e))

pub flip-prev : (x : ℕ → Option Node) → prev_place (flip x) ≡ next_place x
unfolding flip next_place prev_place
flip-prev x = fun_ext (λ e. prev_swapped (x e))

pub flip-event : (x : ℕ → Option Node) → event_at (flip x) ≡ event_at x
unfolding flip event_at
flip-event x = fun_ext (λ e. event_swapped (x e))

chain-back : (n p : ℕ → ℕ) (a : ℕ) (xs : List ℕ) (b : ℕ) → Chain n p a xs b → Chain p n b (reversed xs) a
chain-back n p a [] b h = (h.1, h.0)
chain-back n p a (x ∷ xs) b h = chain-join p n b (reversed xs) x [] a (chain-back n p x xs b h.2) (h.1, h.0)

StandsIn-reversed : (y : ℕ) (xs : List ℕ) → StandsIn y (reversed xs) → StandsIn y xs
StandsIn-reversed y [] h = h
StandsIn-reversed y (x ∷ xs) h = elim (StandsIn-append_cases y (reversed xs) (x ∷ []) h) [ inl l ↦ inr (StandsIn-reversed y xs l) | inr (inl k) ↦ inl k | inr (inr z) ↦ absurd z ]

distinct-reversed : (xs : List ℕ) → Distinct xs → Distinct (reversed xs)
distinct-reversed [] d = tt
distinct-reversed (x ∷ xs) d = distinct-join (reversed xs) (x ∷ []) (distinct-reversed xs d.1) ((λ y h. absurd h), tt) (λ a ha b hb k. d.0 a (StandsIn-reversed a xs ha) (k ∙ in_one b x hb))

flip-circle : (x : ℕ → Option Node) (e : ℕ) (rest : List ℕ) → IsLinkedRing x (e ∷ rest) → IsLinkedRing (flip x) (e ∷ reversed rest)
flip-circle x e rest c = record {
  links = rw (flip-next x, flip-prev x) (chain-back (next_place x) (prev_place x) e rest e c.links);
  distinct = ((λ y h. c.distinct.0 y (StandsIn-reversed y rest h)), distinct-reversed rest c.distinct.1);
  live = λ y h. rw (flip-event x) (c.live y (there y h));
  low = λ y h. c.low y (there y h);
}
  where
    there : (y : ℕ) → StandsIn y (e ∷ reversed rest) → StandsIn y (e ∷ rest)
    there y (inl k) = inl k
    there y (inr h) = inr (StandsIn-reversed y rest h)

pub flip-linked : (x : ℕ → Option Node) → IsLinked x → IsLinked (flip x)
flip-linked x linked = record {
  low = λ e h. linked.low e (rw (flip-event x) at h);
  circle = λ e h. (let c = linked.circle e (rw (flip-event x) at h) in (reversed c.0, flip-circle x e c.0 c.1));
}

pub flip-live : (x : ℕ → Option Node) (e : ℕ) → IsSome (event_at x e) → IsSome (event_at (flip x) e)
flip-live x e h = rw (flip-event x) h

behind_same : (e : ℕ) (xs : List ℕ) → turned_once (e ∷ reversed xs) ≡ reverse (e ∷ xs)
behind_same e xs = reversed_is (e ∷ xs)

pub flip-ring : (x : ℕ → Option Node) (e : ℕ) → IsLinked x → IsSome (event_at x e) → turned_once (ring (flip x) e) ≡ reverse (ring x e)
flip-ring x e linked live =
    let c = linked.circle e live in
    ap turned_once (ring-is (flip x) e (reversed c.0) (flip-circle x e c.0 c.1)) ∙ behind_same e c.0 ∙ sym (ap (λ (l : List ℕ). reverse l) (ring-is x e c.0 c.1))
