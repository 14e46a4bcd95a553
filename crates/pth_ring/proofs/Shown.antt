-- Linked nodes seen by the numbers of their events.
use Rattle.std.proofs.Common.{◌≡◌, ◌≢◌, ℕ, true, List, [], ◌∷◌, map, Option, Some, None, IsSome, is_some, refl, sym, ◌∙◌, ap, subst}
use Rattle.pth_base.specs.Naming.{by_slot, seen}
use Rattle.pth_base.specs.Chain.{StandsIn}
use Rattle.pth_base.proofs.Namings.{none_some, seen_at}
use Rattle.pth_numbered.specs.Numbered.{thing_at, number_at, slot_of}
use Rattle.pth_ring.specs.declared.event.Event.{Event}
use Rattle.pth_ring.specs.declared.node.Node.{Node}
use Rattle.pth_ring.specs.Ring.{Begins, rest_of}
use Rattle.pth_ring.specs.Links.{node_event, event_at, ring, IsLinked, IsNumbered}
use Rattle.pth_ring.specs.Rings.{Events, is_event}
use Rattle.pth_ring.specs.Arena.{RingsOf, rings_by_number, ring_of, event_of, events_of, AreLinked, SamePlaces, Becomes}
use Rattle.pth_ring.proofs.Circles.{ring-is}
use Rattle.pth_ring.proofs.Named.{AllUsed, same_place, rings_by_number-at}

some_event : (o : Option Node) → IsSome o → IsSome (node_event o)
some_event (Some n) h = refl
some_event None h = cc

no_event : (o : Option Node) → o ≡ None → IsSome (node_event o) → ⊥
no_event (Some n) e h = cc
no_event None e h = cc

unseen : {A : Type 0} (d : A) (f : ℕ → A) (o : Option ℕ) → o ≡ None → by_slot d f o ≡ d
unseen d f None h = refl
unseen d f (Some u) h = cc

-- what has no place has no ring
pub no-ring : (x : RingsOf) (n : ℕ) → slot_of x n ≡ None → ring_of x n ≡ []
unfolding ring_of rings_by_number
no-ring x n h = ap (map (number_at x)) (unseen [] (ring (thing_at x)) (slot_of x n) h)

pub rings-named : (x : RingsOf) → ring_of x ≡ rings_by_number (slot_of x) (number_at x) (ring (thing_at x))
unfolding ring_of
rings-named x = refl

pub events-seen : (x : RingsOf) → event_of x ≡ seen None (slot_of x) (event_at (thing_at x))
unfolding event_of
events-seen x = refl

module _ (x : RingsOf) (k : AreLinked x) where
  -- a place in use has an event, and one with an event is in use
  pub live : (u : ℕ) → number_at x u ≢ 0 → IsSome (event_at (thing_at x) u)
  unfolding event_at
  live u used = some_event (thing_at x u) (k.kept.full u used)

  pub used : (u : ℕ) → IsSome (event_at (thing_at x) u) → number_at x u ≢ 0
  unfolding event_at
  used u h zero = no_event (thing_at x u) (k.kept.empty u zero) h

  -- the place of a number is in use
  pub place-used : (n u : ℕ) → slot_of x n ≡ Some u → number_at x u ≢ 0
  place-used n u is zero = none_some (sym k.kept.tied.zero ∙ ap (slot_of x) (sym zero ∙ k.kept.tied.tid n u is) ∙ is)

  -- each place of its ring is in use
  pub all-used : (u : ℕ) → number_at x u ≢ 0 → AllUsed (number_at x) (ring (thing_at x) u)
  all-used u in_use v h = let c = k.linked.circle u (live u in_use) in used v (c.1.live v (subst (StandsIn v) (ring-is (thing_at x) u c.0 c.1) h))

  pub ring-at : (u : ℕ) → number_at x u ≢ 0 → ring_of x (number_at x u) ≡ map (number_at x) (ring (thing_at x) u)
  unfolding ring_of
  ring-at u in_use = rings_by_number-at (slot_of x) (number_at x) k.kept.tied (ring (thing_at x)) u in_use

  -- no other place has its number
  pub one-place : (u v : ℕ) → number_at x u ≢ 0 → number_at x v ≡ number_at x u → v ≡ u
  one-place u v in_use same = same_place (slot_of x) (number_at x) k.kept.tied v u (rw same in_use) in_use same

  -- its ring begins with it
  pub begins : (u : ℕ) → number_at x u ≢ 0 → Begins (ring_of x (number_at x u)) (number_at x u)
  begins u in_use =
      let c = k.linked.circle u (live u in_use) in
      let shown : ring_of x (number_at x u) ≡ number_at x u ∷ map (number_at x) c.0 = ring-at u in_use ∙ ap (map (number_at x)) (ring-is (thing_at x) u c.0 c.1) in
      shown ∙ ap (λ (l : List ℕ). number_at x u ∷ rest_of l) (sym shown)

  pub event-at : (u : ℕ) → number_at x u ≢ 0 → event_of x (number_at x u) ≡ event_at (thing_at x) u
  unfolding event_of
  event-at u in_use = seen_at None (slot_of x) (event_at (thing_at x)) (number_at x u) u (k.kept.tied.slot u in_use)

  pub live-at : (u : ℕ) → number_at x u ≢ 0 → is_event (events_of x) (number_at x u) ≡ true
  live-at u in_use = ap is_some (event-at u in_use) ∙ live u in_use

  pub no-event : (n : ℕ) → slot_of x n ≡ None → event_of x n ≡ None
  unfolding event_of seen
  no-event n h = unseen None (event_at (thing_at x)) (slot_of x n) h

  pub agree : (u : ℕ) → number_at x u ≢ 0 → (v : ℕ) → StandsIn v (ring (thing_at x) u) → event_of x (number_at x v) ≡ event_at (thing_at x) v
  agree u in_use v h = event-at v (all-used u in_use v h)

-- ---- what a change makes of the events

pub events_same : (x z : Events) → x.rings ≡ z.rings → x.events ≡ z.events → x.made ≡ z.made → x ≡ z
events_same x z r e m =
    ap (λ (f : ℕ → List ℕ). let all : Events = record { rings = f; events = x.events; made = x.made } in all) r
    ∙ ap (λ (f : ℕ → Option Event). let all : Events = record { rings = z.rings; events = f; made = x.made } in all) e
    ∙ ap (λ (n : ℕ). let all : Events = record { rings = z.rings; events = z.events; made = n } in all) m

pub events_are : (x : RingsOf) (now : Events) → ring_of x ≡ now.rings → event_of x ≡ now.events → x.made ≡ now.made → events_of x ≡ now
events_are x now r e m = events_same (events_of x) now r e m

module _ (x y : RingsOf) (p : SamePlaces x y) where
  same_rings : (r : ℕ → List ℕ) → ring (thing_at y) ≡ r → ring_of y ≡ rings_by_number (slot_of x) (number_at x) r
  unfolding ring_of
  same_rings r e =
      ap (λ (s : ℕ → Option ℕ). rings_by_number s (number_at y) (ring (thing_at y))) p.slots
      ∙ ap (λ (t : ℕ → ℕ). rings_by_number (slot_of x) t (ring (thing_at y))) p.numbers
      ∙ ap (rings_by_number (slot_of x) (number_at x)) e

  same_events : (f : ℕ → Option Event) → event_at (thing_at y) ≡ f → event_of y ≡ seen None (slot_of x) f
  unfolding event_of
  same_events f e =
      ap (λ (s : ℕ → Option ℕ). seen None s (event_at (thing_at y))) p.slots
      ∙ ap (seen None (slot_of x)) e

  pub linked-still : AreLinked x → IsLinked (thing_at y) → IsNumbered (thing_at y) → AreLinked y
  linked-still k linked numbered = record {
    kept = p.kept k.kept;
    limit = p.limit ∙ k.limit;
    named = p.ids ∙ k.named ∙ sym p.numbers;
    linked = linked;
    numbered = numbered;
  }

  -- the rings are these, and so are the events
  pub becomes : (r : ℕ → List ℕ) (f : ℕ → Option Event) (now : Events) → AreLinked x → IsLinked (thing_at y) → IsNumbered (thing_at y) → ring (thing_at y) ≡ r → event_at (thing_at y) ≡ f → rings_by_number (slot_of x) (number_at x) r ≡ now.rings → seen None (slot_of x) f ≡ now.events → x.made ≡ now.made → Becomes x y now
  becomes r f now k linked numbered rings events rings_are events_are_these made = record {
    kept = linked-still k linked numbered;
    numbers = p.numbers;
    slots = p.slots;
    events = events_are y now (same_rings r rings ∙ rings_are) (same_events f events ∙ events_are_these) (p.made ∙ made);
  }
