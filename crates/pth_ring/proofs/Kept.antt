-- What is kept of events is changed, and their rings stay.
use Rattle.std.proofs.Common.{◌≡◌, ◌≢◌, ◌⊎◌, ℕ, List, ◌∷◌, Option, Some, None, IsSome, option_map, refl, sym, ◌∙◌, ap, inl, inr, subst}
use mathlib.Core.Path.{fun_ext}
use Rattle.pth_base.specs.Table.{put}
use Rattle.pth_base.proofs.Tables.{put_by}
use Rattle.pth_base.proofs.Namings.{seen_put}
use Rattle.pth_base.specs.declared.ids.Tid.{Tid}
use Rattle.pth_numbered.specs.Numbered.{Changes, thing_at, number_at, slot_of}
use Rattle.pth_ring.specs.declared.event.Event.{Event}
use Rattle.pth_ring.specs.declared.event.RingNode.{RingNode}
use Rattle.pth_ring.specs.declared.node.Node.{Node}
use Rattle.pth_ring.specs.Links.{next_place, prev_place, next_id, prev_id, event_at, ring, IsLinkedRing, IsLinked, IsNumbered}
use Rattle.pth_ring.specs.Rings.{with_event, with_claim, ring_awaited, claimed}
use Rattle.pth_ring.specs.Arena.{RingsOf, event_of, events_of, AreLinked, SamePlaces, Becomes, Remakes}
use Rattle.pth_ring.proofs.Circles.{ring-is, ring-none}
use Rattle.pth_ring.proofs.Writes.{event_is, next_kept, prev_kept, next_id_kept, prev_id_kept, event_written, same_places}
use Rattle.pth_ring.proofs.Shown.{rings-named, events-seen, live, event-at, linked-still, becomes}

-- the same places have events, linked alike
record SameLinks (x z : ℕ → Option Node) : Type 0 where
  next : next_place z ≡ next_place x
  prev : prev_place z ≡ prev_place x
  gone : (y : ℕ) → event_at x y ≡ None → event_at z y ≡ None
  live : (y : ℕ) → IsSome (event_at x y) → IsSome (event_at z y)

none_or_some : (o : Option Event) → (o ≡ None) ⊎ IsSome o
none_or_some None = inl refl
none_or_some (Some v) = inr refl

not_both : (o : Option Event) → o ≡ None → IsSome o → ⊥
not_both o n s = cc

module _ (x z : ℕ → Option Node) (linked : IsLinked x) (s : SameLinks x z) where
  was_live : (y : ℕ) → IsSome (event_at z y) → IsSome (event_at x y)
  was_live y h = elim (none_or_some (event_at x y)) [ inl n ↦ absurd (not_both (event_at z y) (s.gone y n) h) | inr l ↦ l ]

  same_circle : (xs : List ℕ) → IsLinkedRing x xs → IsLinkedRing z xs
  same_circle xs c = record { links = rw (s.next, s.prev) c.links; distinct = c.distinct; live = λ y h. s.live y (c.live y h); low = c.low }

  same_linked : IsLinked z
  same_linked = record {
    low = λ e h. linked.low e (was_live e h);
    circle = λ e h. (let c = linked.circle e (was_live e h) in (c.0, same_circle (e ∷ c.0) c.1));
  }

  same_at : (e : ℕ) → (event_at x e ≡ None) ⊎ IsSome (event_at x e) → ring z e ≡ ring x e
  same_at e (inl n) = ring-none z e (s.gone e n) ∙ sym (ring-none x e n)
  same_at e (inr l) = let c = linked.circle e l in ring-is z e c.0 (same_circle (e ∷ c.0) c.1) ∙ sym (ring-is x e c.0 c.1)

  same_ring : ring z ≡ ring x
  same_ring = fun_ext (λ e. same_at e (none_or_some (event_at x e)))

-- another event is written
module _ (x y : RingsOf) (u : ℕ) (a b : Node) (g : Event → Event) (k : AreLinked x) (used_u : number_at x u ≢ 0) (was : thing_at x u ≡ Some a) (writes : Changes x y u b) where
  written : SamePlaces x y → next_place (thing_at y) ≡ next_place (thing_at x) → prev_place (thing_at y) ≡ prev_place (thing_at x) → next_id (thing_at y) ≡ next_id (thing_at x) → prev_id (thing_at y) ≡ prev_id (thing_at x) → event_at (thing_at y) ≡ put (event_at (thing_at x)) u (Some b.event) → b.event ≡ g a.event → Remakes x y u g
  written p next prev next_id prev_id event is =
      let v = b.event in
      let same : SameLinks (thing_at x) (thing_at y) = record {
        next = next;
        prev = prev;
        gone = λ w h. (let P : Option Event → Type 0 = λ o. o ≡ None in rw event (put_by P (event_at (thing_at x)) u (Some v) w (λ same. absurd (not_both (event_at (thing_at x) w) h (subst (λ (i : ℕ). IsSome (event_at (thing_at x) i)) (sym same) (live x k u used_u)))) (λ apart. h)));
        live = λ w h. (let P : Option Event → Type 0 = λ o. IsSome o in rw event (put_by P (event_at (thing_at x)) u (Some v) w (λ same. refl) (λ apart. h)));
      } in
      let before : (w : ℕ) → IsSome (event_at (thing_at y) w) → IsSome (event_at (thing_at x) w) = was_live (thing_at x) (thing_at y) k.linked same in
      let numbered : IsNumbered (thing_at y) = record {
        next = λ w h. rw (p.ids, next, next_id) (k.numbered.next w (before w h));
        prev = λ w h. rw (p.ids, prev, prev_id) (k.numbered.prev w (before w h));
      } in
      record {
        kept = linked-still x y p k (same_linked (thing_at x) (thing_at y) k.linked same) numbered;
        places = p;
        next = next;
        rings = same_ring (thing_at x) (thing_at y) k.linked same;
        event = event ∙ ap (λ (o : Option Event). put (event_at (thing_at x)) u o) (ap Some is ∙ sym (ap (option_map g) (event_is x u a was)));
      }

  pub rewritten : b.id.0 ≡ a.id.0 → b.next.0 ≡ a.next.0 → b.prev.0 ≡ a.prev.0 → b.ring ≡ a.ring → b.event ≡ g a.event → Remakes x y u g
  rewritten id next prev ring event =
      written (same_places x y u a b used_u was writes id) (next_kept x y u a b used_u was writes next) (prev_kept x y u a b used_u was writes prev) (next_id_kept x y u a b used_u was writes (ap (λ (r : RingNode). r.next.0) ring)) (prev_id_kept x y u a b used_u was writes (ap (λ (r : RingNode). r.prev.0) ring)) (event_written x y u a b used_u was writes) event

-- by number
pub remade : (x y : RingsOf) (u : ℕ) (g : Event → Event) → AreLinked x → number_at x u ≢ 0 → Remakes x y u g → Becomes x y (with_event g (number_at x u) (events_of x))
remade x y u g k used_u r =
    let f = event_at (thing_at x) in
    let n = number_at x u in
    becomes x y r.places (ring (thing_at x)) (put f u (option_map g (f u))) (with_event g n (events_of x)) k r.kept.linked r.kept.numbered r.rings r.event
    (sym (rings-named x))
    (seen_put None (slot_of x) (number_at x) f n u (option_map g (f u)) k.kept.tied (k.kept.tied.slot u used_u)
    ∙ ap (λ (h : ℕ → Option Event). put h n (option_map g (f u))) (sym (events-seen x))
    ∙ ap (λ (o : Option Event). put (event_of x) n (option_map g o)) (sym (event-at x k u used_u)))
    refl

-- a ring is waited for, and the claim stands at its event
pub claims : (x y z : RingsOf) (u now : ℕ) (t : Tid) → number_at x u ≢ 0 → Becomes x y (ring_awaited (number_at x u) now (events_of x)) → Remakes y z u (with_claim (Some t)) → events_of z ≡ claimed (number_at x u) t now (events_of x)
claims x y z u now t used_u b r =
    let same : number_at y u ≡ number_at x u = ap (λ (f : ℕ → ℕ). f u) b.numbers in
    (remade y z u (with_claim (Some t)) b.kept (rw same used_u) r).events
    ∙ ap (λ (n : ℕ). with_event (with_claim (Some t)) n (events_of y)) same
    ∙ ap (with_event (with_claim (Some t)) (number_at x u)) b.events
