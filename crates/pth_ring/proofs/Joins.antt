-- What is done to links is done to the rings by number.
use Rattle.std.proofs.Common.{◌≡◌, ◌≢◌, ℕ, true, false, List, [], ◌∷◌, ◌++◌, map, Option, Some, None, option_map, refl, sym, ◌∙◌, ap, ap₂, inl, inr, subst}
use Rattle.pth_numbered.specs.Numbered.{thing_at, number_at, slot_of}
use Rattle.pth_base.specs.declared.ids.EventId.{EventId}
use Rattle.pth_base.specs.Chain.{StandsIn}
use Rattle.pth_ring.specs.Ring.{ring_holds, circle, rest_of, head_event}
use Rattle.pth_ring.specs.Links.{next_place, prev_place, event_at, ring, Splices}
use Rattle.pth_ring.specs.Rings.{Events, event_id, concatenated, isolated}
use Rattle.pth_ring.specs.Arena.{RingsOf, rings_by_number, ring_of, events_of, AreLinked, SamePlaces, Becomes}
use Rattle.pth_base.proofs.Chains.{StandsIn-append_cases}
use Rattle.pth_ring.proofs.Lists.{ring_holds-in}
use Rattle.pth_ring.proofs.Changes.{live-prev, joined-linked, joined-ring}
use Rattle.pth_ring.proofs.Numbers.{spliced-numbered}
use Rattle.pth_ring.proofs.Calls.{part-linked, part-ring, part-none, first-none, first-some, live-next}
use Rattle.pth_ring.proofs.Named.{AllUsed, map-append, rings_by_number-circle, ring_holds-named, head_event-named, rest-named}
use Rattle.pth_ring.proofs.Writes.{places_none}
use Rattle.pth_ring.proofs.Shown.{rings-named, events-seen, live, used, all-used, ring-at, becomes}

module _ (x : RingsOf) (k : AreLinked x) where
  pub prev-used : (u : ℕ) → number_at x u ≢ 0 → number_at x (prev_place (thing_at x) u) ≢ 0
  prev-used u in_use = used x k _ (live-prev (thing_at x) u k.linked (live x k u in_use))

  pub next-used : (u : ℕ) → number_at x u ≢ 0 → number_at x (next_place (thing_at x) u) ≢ 0
  next-used u in_use = used x k _ (live-next (thing_at x) u k.linked (live x k u in_use))

  -- a stands in another ring
  pub is-apart : (a b : ℕ) → number_at x a ≢ 0 → number_at x b ≢ 0 → ring_holds (number_at x a) (ring_of x (number_at x b)) ≡ false → StandsIn a (ring (thing_at x) b) → ⊥
  is-apart a b ua ub out h =
      let test : ring_holds (number_at x a) (ring_of x (number_at x b)) ≡ true = ap (ring_holds (number_at x a)) (ring-at x k b ub) ∙ ring_holds-named (slot_of x) (number_at x) k.kept.tied a (ring (thing_at x) b) ua (all-used x k b ub) ∙ ring_holds-in a (ring (thing_at x) b) h in
      cc

-- the places of these rings as one are the numbers of these rings as one
module _ (x : RingsOf) (k : AreLinked x) where
  pub circle-seen : (xs ys : List ℕ) (r : ℕ → List ℕ) (f : ℕ → List ℕ) → AllUsed (number_at x) xs → map (number_at x) xs ≡ ys → rings_by_number (slot_of x) (number_at x) r ≡ f → rings_by_number (slot_of x) (number_at x) (circle xs r) ≡ circle ys f
  circle-seen xs ys r f all same rings = rings_by_number-circle (slot_of x) (number_at x) k.kept.tied xs r all ∙ ap₂ (λ (l : List ℕ) (g : ℕ → List ℕ). circle l g) same rings

-- two rings become one
pub joins : (x y : RingsOf) (a b : ℕ) → AreLinked x → number_at x a ≢ 0 → number_at x b ≢ 0 → ring_holds (number_at x a) (ring_of x (number_at x b)) ≡ false → Splices (thing_at x) (thing_at y) a b → SamePlaces x y → Becomes x y (concatenated (number_at x a) (number_at x b) (events_of x))
joins x y a b k ua ub out s p =
    let la = live x k a ua in
    let lb = live x k b ub in
    let apart = is-apart x k a b ua ub out in
    let ra = ring (thing_at x) a in
    let rb = ring (thing_at x) b in
    becomes x y p (circle (ra ++ rb) (ring (thing_at x))) (event_at (thing_at x)) (concatenated (number_at x a) (number_at x b) (events_of x)) k
    (joined-linked (thing_at x) (thing_at y) a b k.linked la lb apart s)
    (spliced-numbered (thing_at x) (thing_at y) a b s p.ids k.numbered)
    (joined-ring (thing_at x) (thing_at y) a b k.linked la lb apart s)
    s.event
    (circle-seen x k (ra ++ rb) (ring_of x (number_at x a) ++ ring_of x (number_at x b)) (ring (thing_at x)) (ring_of x)
    (λ v h. elim (StandsIn-append_cases v ra rb h) [ inl l ↦ all-used x k a ua v l | inr r ↦ all-used x k b ub v r ])
    (map-append (number_at x) ra rb ∙ ap₂ (λ (u v : List ℕ). u ++ v) (sym (ring-at x k a ua)) (sym (ring-at x k b ub)))
    (sym (rings-named x)))
    (sym (events-seen x))
    refl

-- one ring becomes two
module _ (x : RingsOf) (k : AreLinked x) (e : ℕ) (ue : number_at x e ≢ 0) where
  abbrev l : List ℕ
  l = ring (thing_at x) e

  all_rest : AllUsed (number_at x) (rest_of l)
  all_rest v h = all-used x k e ue v (in_rest l v h)
    where
      in_rest : (xs : List ℕ) (v : ℕ) → StandsIn v (rest_of xs) → StandsIn v xs
      in_rest [] v h = h
      in_rest (y ∷ ys) v h = inr h

  one_used : AllUsed (number_at x) (e ∷ [])
  one_used v (inl same) = subst (λ (w : ℕ). number_at x w ≢ 0) (sym same) ue
  one_used v (inr h) = absurd h

  rest_is : map (number_at x) (rest_of l) ≡ rest_of (ring_of x (number_at x e))
  rest_is = sym (rest-named (number_at x) l) ∙ ap rest_of (sym (ring-at x k e ue))

  parts_seen : rings_by_number (slot_of x) (number_at x) (circle (e ∷ []) (circle (rest_of l) (ring (thing_at x)))) ≡ circle (number_at x e ∷ []) (circle (rest_of (ring_of x (number_at x e))) (ring_of x))
  parts_seen = circle-seen x k (e ∷ []) (number_at x e ∷ []) _ _ one_used refl (circle-seen x k (rest_of l) (rest_of (ring_of x (number_at x e))) (ring (thing_at x)) (ring_of x) all_rest rest_is (sym (rings-named x)))

  abbrev now : Events
  now = isolated (number_at x e) (events_of x)

  -- it stood alone
  pub stays : next_place (thing_at x) e ≡ e → Becomes x x now
  stays h = becomes x x (places_none x) _ (event_at (thing_at x)) now k k.linked k.numbered (part-none (thing_at x) e k.linked (live x k e ue) h) refl parts_seen (sym (events-seen x)) refl

  pub parts : (y : RingsOf) → next_place (thing_at x) e ≢ e → Splices (thing_at x) (thing_at y) e (next_place (thing_at x) e) → SamePlaces x y → Becomes x y now
  parts y n s p = becomes x y p _ (event_at (thing_at x)) now k
      (part-linked (thing_at x) e k.linked (live x k e ue) (thing_at y) n s)
      (spliced-numbered (thing_at x) (thing_at y) e (next_place (thing_at x) e) s p.ids k.numbered)
      (part-ring (thing_at x) e k.linked (live x k e ue) (thing_at y) n s)
      s.event parts_seen (sym (events-seen x)) refl

  first_is : option_map (number_at x) (head_event (rest_of l)) ≡ head_event (rest_of (ring_of x (number_at x e)))
  first_is = sym (head_event-named (number_at x) (rest_of l)) ∙ ap head_event rest_is

  pub no-next : next_place (thing_at x) e ≡ e → None ≡ option_map event_id (head_event (rest_of (ring_of x (number_at x e))))
  no-next h =
      let none : None ≡ head_event (rest_of l) = first-none (thing_at x) e k.linked (live x k e ue) h in
      ap (λ (o : Option ℕ). option_map event_id (option_map (number_at x) o)) none ∙ ap (option_map event_id) first_is

  pub some-next : (id : EventId) → next_place (thing_at x) e ≢ e → id.0 ≡ number_at x (next_place (thing_at x) e) → Some id ≡ option_map event_id (head_event (rest_of (ring_of x (number_at x e))))
  some-next id n is =
      let some : Some (next_place (thing_at x) e) ≡ head_event (rest_of l) = first-some (thing_at x) e k.linked (live x k e ue) n in
      ap (λ (n : ℕ). Some (event_id n)) is ∙ ap (λ (o : Option ℕ). option_map event_id (option_map (number_at x) o)) some ∙ ap (option_map event_id) first_is
