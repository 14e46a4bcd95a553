-- What an event that is made or removed is to the rings by number.
use Rattle.std.proofs.Common.{◌≡◌, ◌≢◌, ◌+◌, ◌<◌, ℕ, false, arith, List, [], ◌∷◌, ◌++◌, map, Option, Some, None, IsSome, refl, sym, ◌∙◌, ap, ap₂, inl, inr, subst}
use Rattle.pth_base.specs.Table.{put}
use Rattle.pth_base.specs.Naming.{seen}
use mathlib.Core.Path.{fun_ext}
use Rattle.pth_base.proofs.Tables.{put_here, put_other}
use Rattle.pth_base.proofs.Lists.{put_twice}
use Rattle.pth_base.proofs.Namings.{none_some, seen_add, seen_drop}
use Rattle.pth_base.proofs.Chains.{stands_or_not, StandsIn-append_right, closed-next, closed-prev}
use Rattle.pth_base.specs.declared.event.EventSpec.{EventSpec}
use Rattle.pth_base.specs.Chain.{StandsIn}
use Rattle.pth_numbered.specs.Numbered.{IsKept, Adds, Removes, thing_at, number_at, slot_of}
use Rattle.pth_ring.specs.declared.event.Event.{Event}
use Rattle.pth_ring.specs.declared.node.Node.{Node}
use Rattle.pth_ring.specs.Ring.{ring_holds, circle, rest_of}
use Rattle.pth_ring.specs.Links.{next_place, prev_place, next_id, prev_id, event_at, id_at, ring, IsLinkedRing, IsLinked, IsNumbered}
use Rattle.pth_ring.specs.Rings.{event_limit, Events, pending, alone, chained, concatenated, isolated, freed}
use Rattle.pth_ring.specs.Arena.{RingsOf, rings_by_number, ring_of, event_of, events_of, AreLinked, SamePlaces, Becomes, IsMade, IsChained, IsDropped, IsFreed}
use Rattle.pth_ring.proofs.Lists.{ring_holds-out, not_in_one}
use Rattle.pth_ring.proofs.Turns.{circle-in, circle-out}
use Rattle.pth_ring.proofs.Circles.{ring-is, ring-none, same-circle}
use Rattle.pth_ring.proofs.Writes.{next_put, prev_put, next_id_put, prev_id_put, id_put, event_put}
use Rattle.pth_ring.proofs.Changes.{live-prev, new-linked, new-ring, gone-linked, gone-ring}
use Rattle.pth_ring.proofs.Calls.{live-next, turned-alone, put-circle}
use Rattle.pth_ring.proofs.Numbers.{numbers-changed}
use Rattle.pth_ring.proofs.Named.{AllUsed, rings_by_number-circle, rings_by_number-grown, rings_by_number-gone}
use Rattle.pth_ring.proofs.Shown.{rings-named, events-seen, live, used, ring-at, events_are}

not_some : (o : Option Event) → o ≡ None → IsSome o → ⊥
not_some o n s = cc

is_none : (o : Option Event) → (IsSome o → ⊥) → o ≡ None
is_none (Some v) h = absurd (h refl)
is_none None h = refl

nowhere : (l : List ℕ) (u : ℕ) → l ≡ [] → StandsIn u l → ⊥
nowhere l u e h = subst (StandsIn u) e h

-- the places of a ring with a place in it are live
module _ (x : ℕ → Option Node) (linked : IsLinked x) where
  -- a place with no event is in no ring
  pub in-no-ring : (u v : ℕ) → event_at x u ≡ None → StandsIn u (ring x v) → ⊥
  in-no-ring u v none h = by (event_at x v) refl
    where
      by : (o : Option Event) → event_at x v ≡ o → ⊥
      by None is = nowhere (ring x v) u (ring-none x v is) h
      by (Some w) is =
          let c = linked.circle v (ap_some is) in
          not_some (event_at x u) none (c.1.live u (subst (StandsIn u) (ring-is x v c.0 c.1) h))
        where
          ap_some : event_at x v ≡ Some w → IsSome (event_at x v)
          ap_some e = cc

  -- one that stands alone is in no other ring
  pub in-one-ring : (u v : ℕ) → IsLinkedRing x (u ∷ []) → v ≢ u → StandsIn u (ring x v) → ⊥
  in-one-ring u v alone apart h = by (event_at x v) refl
    where
      by : (o : Option Event) → event_at x v ≡ o → ⊥
      by None is = nowhere (ring x v) u (ring-none x v is) h
      by (Some w) is =
          let c = linked.circle v (ap_some is) in
          not_in_one v u apart (same-circle x (v ∷ c.0) (u ∷ []) u v c.1 alone (subst (StandsIn u) (ring-is x v c.0 c.1) h) (inl refl) (inl refl))
        where
          ap_some : event_at x v ≡ Some w → IsSome (event_at x v)
          ap_some e = cc

-- ---- one more

-- the place of a thing that was added is in use
pub number-new : (x mid : RingsOf) (u : ℕ) (n : Node) → Adds x mid u n → number_at mid u ≢ 0
number-new x mid u n adds = rw (adds.numbers, put_here (number_at x) u (x.made + 1)) (let a : x.made + 1 ≢ 0 = omega arith in a)

module _ (x mid y : RingsOf) (u : ℕ) (n : Node) (spec : EventSpec) (k : AreLinked x) (law : IsKept mid) (adds : Adds x mid u n) (id : n.id.0 ≡ x.made + 1) (event : n.event ≡ pending spec) (p : SamePlaces mid y) (next : next_place (thing_at y) ≡ put (next_place (thing_at mid)) u u) (prev : prev_place (thing_at y) ≡ put (prev_place (thing_at mid)) u u) (next_number : next_id (thing_at y) ≡ put (next_id (thing_at mid)) u (id_at (thing_at mid) u)) (prev_number : prev_id (thing_at y) ≡ put (prev_id (thing_at mid)) u (id_at (thing_at mid) u)) (same : event_at (thing_at y) ≡ event_at (thing_at mid)) where
  abbrev m : ℕ
  m = x.made + 1

  slots_y : slot_of y ≡ put (slot_of x) m (Some u)
  slots_y = p.slots ∙ adds.slots

  numbers_y : number_at y ≡ put (number_at x) u m
  numbers_y = p.numbers ∙ adds.numbers

  next_y : next_place (thing_at y) ≡ put (next_place (thing_at x)) u u
  next_y = next ∙ ap (λ (f : ℕ → ℕ). put f u u) (next_put x mid u (Some n) adds.things) ∙ put_twice (next_place (thing_at x)) u n.next.0 u

  prev_y : prev_place (thing_at y) ≡ put (prev_place (thing_at x)) u u
  prev_y = prev ∙ ap (λ (f : ℕ → ℕ). put f u u) (prev_put x mid u (Some n) adds.things) ∙ put_twice (prev_place (thing_at x)) u n.prev.0 u

  event_y : event_at (thing_at y) ≡ put (event_at (thing_at x)) u (Some (pending spec))
  event_y = same ∙ event_put x mid u (Some n) adds.things ∙ ap (λ (v : Event). put (event_at (thing_at x)) u (Some v)) event

  ids_y : id_at (thing_at y) ≡ put (id_at (thing_at x)) u m
  ids_y = p.ids ∙ id_put x mid u (Some n) adds.things ∙ ap (λ (j : ℕ). put (id_at (thing_at x)) u j) id

  id_mid : id_at (thing_at mid) u ≡ m
  id_mid = ap (λ (f : ℕ → ℕ). f u) (id_put x mid u (Some n) adds.things) ∙ put_here (id_at (thing_at x)) u n.id.0 ∙ id

  next_id_y : next_id (thing_at y) ≡ put (next_id (thing_at x)) u m
  next_id_y = next_number ∙ ap₂ (λ (f : ℕ → ℕ) (j : ℕ). put f u j) (next_id_put x mid u (Some n) adds.things) id_mid ∙ put_twice (next_id (thing_at x)) u n.ring.next.0 m

  prev_id_y : prev_id (thing_at y) ≡ put (prev_id (thing_at x)) u m
  prev_id_y = prev_number ∙ ap₂ (λ (f : ℕ → ℕ) (j : ℕ). put f u j) (prev_id_put x mid u (Some n) adds.things) id_mid ∙ put_twice (prev_id (thing_at x)) u n.ring.prev.0 m

  unused : event_at (thing_at x) u ≡ None
  unused = is_none (event_at (thing_at x) u) (λ h. used x k u h adds.unused)

  low : u < event_limit
  low = subst (λ (l : ℕ). u < l) k.limit adds.low

  kept_y : IsKept y
  kept_y = p.kept law

  -- no event names a place that has none
  away : (v : ℕ) → IsSome (event_at (thing_at x) v) → v ≢ u
  away v h is = not_some (event_at (thing_at x) v) (ap (event_at (thing_at x)) is ∙ unused) h

  numbered_y : IsNumbered (thing_at y)
  numbered_y =
      let f = event_at (thing_at x) in
      let own : m ≡ put (id_at (thing_at x)) u m u = sym (put_here (id_at (thing_at x)) u m) in
      record {
        next = rw (event_y, ids_y, next_y, next_id_y) (numbers-changed f (id_at (thing_at x)) (next_place (thing_at x)) (next_id (thing_at x)) u u m m (Some (pending spec)) k.numbered.next (λ w apart h. away _ (live-next (thing_at x) w k.linked h)) (λ h. own));
        prev = rw (event_y, ids_y, prev_y, prev_id_y) (numbers-changed f (id_at (thing_at x)) (prev_place (thing_at x)) (prev_id (thing_at x)) u u m m (Some (pending spec)) k.numbered.prev (λ w apart h. away _ (live-prev (thing_at x) w k.linked h)) (λ h. own));
      }

  linked_y : AreLinked y
  linked_y = record {
    kept = kept_y;
    limit = p.limit ∙ adds.limit ∙ k.limit;
    named = ids_y ∙ ap (λ (f : ℕ → ℕ). put f u m) k.named ∙ sym numbers_y;
    linked = new-linked (thing_at x) (thing_at y) u (pending spec) k.linked unused low next_y prev_y event_y;
    numbered = numbered_y;
  }

  new_used : AllUsed (number_at y) (u ∷ [])
  new_used v (inl is) zero = some_number (x.made) (sym (put_here (number_at x) u m) ∙ ap (λ (w : ℕ). put (number_at x) u m w) (sym is) ∙ sym (ap (λ (f : ℕ → ℕ). f v) numbers_y) ∙ zero)
    where
      some_number : (n : ℕ) → n + 1 ≡ 0 → ⊥
      some_number n h = omega arith
  new_used v (inr h) zero = absurd h

  old_rings : rings_by_number (slot_of y) (number_at y) (ring (thing_at x)) ≡ ring_of x
  old_rings =
      ap₂ (λ (s : ℕ → Option ℕ) (t : ℕ → ℕ). rings_by_number s t (ring (thing_at x))) slots_y numbers_y
      ∙ rings_by_number-grown (slot_of x) (number_at x) m u (ring (thing_at x)) adds.unknown (ring-none (thing_at x) u unused) (λ v. in-no-ring (thing_at x) k.linked u v unused)
      ∙ sym (rings-named x)

  rings_y : ring_of y ≡ circle (m ∷ []) (ring_of x)
  rings_y =
      rings-named y
      ∙ ap (rings_by_number (slot_of y) (number_at y)) (new-ring (thing_at x) (thing_at y) u (pending spec) k.linked unused low next_y prev_y event_y)
      ∙ rings_by_number-circle (slot_of y) (number_at y) kept_y.tied (u ∷ []) (ring (thing_at x)) new_used
      ∙ ap₂ (λ (j : ℕ) (r : ℕ → List ℕ). circle (j ∷ []) r) (ap (λ (f : ℕ → ℕ). f u) numbers_y ∙ put_here (number_at x) u m) old_rings

  events_y : event_of y ≡ put (event_of x) m (Some (pending spec))
  events_y =
      events-seen y
      ∙ ap₂ (λ (s : ℕ → Option ℕ) (f : ℕ → Option Event). seen None s f) slots_y event_y
      ∙ seen_add None (slot_of x) (number_at x) (event_at (thing_at x)) m u k.kept.tied (Some (pending spec)) adds.unused
      ∙ ap (λ (f : ℕ → Option Event). put f m (Some (pending spec))) (sym (events-seen x))

  pub is-made : IsMade x y u spec
  is-made = record {
    kept = linked_y;
    unused = adds.unused;
    numbers = numbers_y;
    events = events_are y (alone spec (events_of x)) rings_y events_y (p.made ∙ adds.made);
  }

-- ---- one less

module _ (x y : RingsOf) (u : ℕ) (k : AreLinked x) (used_u : number_at x u ≢ 0) (one : ring_of x (number_at x u) ≡ number_at x u ∷ []) (law : IsKept y) (gone : Removes x y u) where
  only : (rest : List ℕ) → IsLinkedRing (thing_at x) (u ∷ rest) → map (number_at x) (u ∷ rest) ≡ number_at x u ∷ [] → IsLinkedRing (thing_at x) (u ∷ [])
  only [] c e = c
  only (v ∷ rest) c e = cc

  alone_u : IsLinkedRing (thing_at x) (u ∷ [])
  alone_u =
      let c = k.linked.circle u (live x k u used_u) in
      only c.0 c.1 (ap (map (number_at x)) (sym (ring-is (thing_at x) u c.0 c.1)) ∙ sym (ring-at x k u used_u) ∙ one)

  next_z : next_place (thing_at y) ≡ put (next_place (thing_at x)) u 0
  next_z = next_put x y u None gone.things

  prev_z : prev_place (thing_at y) ≡ put (prev_place (thing_at x)) u 0
  prev_z = prev_put x y u None gone.things

  event_z : event_at (thing_at y) ≡ put (event_at (thing_at x)) u None
  event_z = event_put x y u None gone.things

  out_of : (w : ℕ) (rest : List ℕ) {v : ℕ} → IsLinkedRing (thing_at x) (w ∷ rest) → w ≢ u → v ≡ u → StandsIn v (w ∷ rest) → ⊥
  out_of w rest c apart is h = in-one-ring (thing_at x) k.linked u w alone_u apart (subst (StandsIn u) (sym (ring-is (thing_at x) w rest c)) (subst (λ j. StandsIn j (w ∷ rest)) is h))

  -- no other event names a place that stands alone
  next_away : (w : ℕ) → w ≢ u → IsSome (event_at (thing_at x) w) → next_place (thing_at x) w ≢ u
  next_away w apart h is =
      let c = k.linked.circle w h in
      out_of w c.0 c.1 apart is (closed-next (next_place (thing_at x)) (prev_place (thing_at x)) (w ∷ c.0) w c.1.links (inl refl))

  prev_away : (w : ℕ) → w ≢ u → IsSome (event_at (thing_at x) w) → prev_place (thing_at x) w ≢ u
  prev_away w apart h is =
      let c = k.linked.circle w h in
      out_of w c.0 c.1 apart is (closed-prev (next_place (thing_at x)) (prev_place (thing_at x)) (w ∷ c.0) w c.1.links (inl refl))

  numbered_z : IsNumbered (thing_at y)
  numbered_z = record {
    next = rw (event_z, id_put x y u None gone.things, next_z, next_id_put x y u None gone.things) (numbers-changed (event_at (thing_at x)) (id_at (thing_at x)) (next_place (thing_at x)) (next_id (thing_at x)) u 0 0 0 None k.numbered.next next_away (λ h. cc));
    prev = rw (event_z, id_put x y u None gone.things, prev_z, prev_id_put x y u None gone.things) (numbers-changed (event_at (thing_at x)) (id_at (thing_at x)) (prev_place (thing_at x)) (prev_id (thing_at x)) u 0 0 0 None k.numbered.prev prev_away (λ h. cc));
  }

  at : slot_of x (number_at x u) ≡ Some u
  at = k.kept.tied.slot u used_u

  pub is-dropped : IsDropped x y u
  is-dropped = record {
    kept = record {
      kept = law;
      limit = gone.limit ∙ k.limit;
      named = id_put x y u None gone.things ∙ ap (λ (f : ℕ → ℕ). put f u 0) k.named ∙ sym gone.numbers;
      linked = gone-linked (thing_at x) (thing_at y) u k.linked alone_u next_z prev_z event_z;
      numbered = numbered_z;
    };
    numbers = gone.numbers;
    rings =
        rings-named y
        ∙ ap (rings_by_number (slot_of y) (number_at y)) (gone-ring (thing_at x) (thing_at y) u k.linked alone_u next_z prev_z event_z)
        ∙ ap₂ (λ (s : ℕ → Option ℕ) (t : ℕ → ℕ). rings_by_number s t (put (ring (thing_at x)) u [])) gone.slots gone.numbers
        ∙ rings_by_number-gone (slot_of x) (number_at x) (number_at x u) u (ring (thing_at x)) k.kept.tied at (λ v. in-one-ring (thing_at x) k.linked u v alone_u)
        ∙ ap (λ (f : ℕ → List ℕ). put f (number_at x u) []) (sym (rings-named x));
    events =
        events-seen y
        ∙ ap₂ (λ (s : ℕ → Option ℕ) (f : ℕ → Option Event). seen None s f) gone.slots event_z
        ∙ seen_drop None (slot_of x) (number_at x) (event_at (thing_at x)) (number_at x u) u k.kept.tied None at
        ∙ ap (λ (f : ℕ → Option Event). put f (number_at x u) None) (sym (events-seen x));
    made = gone.made;
  }

-- ---- out of its ring, and gone

module _ (x mid : RingsOf) (u : ℕ) (b : Becomes x mid (isolated (number_at x u) (events_of x))) where
  abbrev n : ℕ
  n = number_at x u

  number_mid : number_at mid u ≡ n
  number_mid = ap (λ (f : ℕ → ℕ). f u) b.numbers

  rings_mid : ring_of mid ≡ circle (n ∷ []) (circle (rest_of (ring_of x n)) (ring_of x))
  rings_mid = ap (λ (e : Events). e.rings) b.events

  pub alone-now : ring_of mid (number_at mid u) ≡ number_at mid u ∷ []
  alone-now = rw number_mid (ap (λ (f : ℕ → List ℕ). f n) rings_mid ∙ circle-in (n ∷ []) (circle (rest_of (ring_of x n)) (ring_of x)) n (inl refl) ∙ turned-alone n)

  pub is-freed : (y : RingsOf) → IsDropped mid y u → IsFreed x y u
  is-freed y d = record {
    kept = d.kept;
    numbers = d.numbers ∙ ap (λ (f : ℕ → ℕ). put f u 0) b.numbers;
    events = events_are y (freed n (events_of x))
        (d.rings ∙ ap₂ (λ (f : ℕ → List ℕ) (j : ℕ). put f j []) rings_mid number_mid ∙ put-circle n (circle (rest_of (ring_of x n)) (ring_of x)) [])
        (d.events ∙ ap₂ (λ (f : ℕ → Option Event) (j : ℕ). put f j None) (ap (λ (e : Events). e.events) b.events) number_mid)
        (d.made ∙ ap (λ (e : Events). e.made) b.events);
  }

-- ---- one more, just before another

module _ (x mid : RingsOf) (spec : EventSpec) (e u : ℕ) (k : AreLinked x) (used_e : number_at x e ≢ 0) (made : IsMade x mid u spec) where
  abbrev j : ℕ
  j = x.made + 1

  other : e ≢ u
  other same = used_e (ap (number_at x) same ∙ made.unused)

  number_e : number_at mid e ≡ number_at x e
  number_e = ap (λ (f : ℕ → ℕ). f e) made.numbers ∙ put_other (number_at x) u j e other

  number_u : number_at mid u ≡ j
  number_u = ap (λ (f : ℕ → ℕ). f u) made.numbers ∙ put_here (number_at x) u j

  -- the number of e is one that was given before
  number_other : number_at x e ≢ j
  number_other same = none_some (sym (k.kept.fresh j (let a : x.made < x.made + 1 = omega arith in a)) ∙ ap (slot_of x) (sym same) ∙ k.kept.tied.slot e used_e)

  rings_made : ring_of mid ≡ circle (j ∷ []) (ring_of x)
  rings_made = ap (λ (s : Events). s.rings) made.events

  ring_e : ring_of mid (number_at mid e) ≡ ring_of x (number_at x e)
  ring_e = ap₂ (λ (f : ℕ → List ℕ) (n : ℕ). f n) rings_made number_e ∙ circle-out (j ∷ []) (ring_of x) (number_at x e) (not_in_one (number_at x e) j number_other)

  ring_u : ring_of mid (number_at mid u) ≡ j ∷ []
  ring_u = ap₂ (λ (f : ℕ → List ℕ) (n : ℕ). f n) rings_made number_u ∙ circle-in (j ∷ []) (ring_of x) j (inl refl) ∙ turned-alone j

  pub used-still : number_at mid e ≢ 0
  used-still = rw number_e used_e

  pub used-new : number_at mid u ≢ 0
  used-new = rw number_u (let a : j ≢ 0 = omega arith in a)

  pub apart-new : ring_holds (number_at mid e) (ring_of mid (number_at mid u)) ≡ false
  apart-new = ap₂ ring_holds number_e ring_u ∙ ring_holds-out (number_at x e) (j ∷ []) (not_in_one (number_at x e) j number_other)

  over : (l : List ℕ) (f : ℕ) → circle (l ++ j ∷ []) (circle (j ∷ []) (ring_of x)) f ≡ circle (l ++ j ∷ []) (ring_of x) f
  over l f = elim (stands_or_not f (l ++ j ∷ [])) [
    | inl h ↦ circle-in (l ++ j ∷ []) (circle (j ∷ []) (ring_of x)) f h ∙ sym (circle-in (l ++ j ∷ []) (ring_of x) f h)
    | inr out ↦ circle-out (l ++ j ∷ []) (circle (j ∷ []) (ring_of x)) f out ∙ circle-out (j ∷ []) (ring_of x) f (λ h. out (StandsIn-append_right f l (j ∷ []) h)) ∙ sym (circle-out (l ++ j ∷ []) (ring_of x) f out)
  ]

  pub is-chained : (y : RingsOf) → Becomes mid y (concatenated (number_at mid e) (number_at mid u) (events_of mid)) → IsChained x y spec (number_at x e)
  is-chained y b = record {
    kept = b.kept;
    events = events_are y (chained spec (number_at x e) (events_of x))
        (ap (λ (s : Events). s.rings) b.events ∙ ap₂ (λ (l m : List ℕ). circle (l ++ m) (ring_of mid)) ring_e ring_u ∙ ap (circle (ring_of x (number_at x e) ++ j ∷ [])) rings_made ∙ fun_ext (λ f. over (ring_of x (number_at x e)) f))
        (ap (λ (s : Events). s.events) b.events ∙ ap (λ (s : Events). s.events) made.events)
        (ap (λ (s : Events). s.made) b.events ∙ ap (λ (s : Events). s.made) made.events);
  }
