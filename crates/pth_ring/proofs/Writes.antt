-- What one written node makes of the tables.
use Rattle.std.proofs.Common.{◌≡◌, ◌≢◌, ℕ, Option, Some, None, IsSome, refl, sym, ◌∙◌, ap}
use Rattle.pth_base.specs.Table.{put}
use Rattle.pth_base.specs.Naming.{seen}
use Rattle.pth_base.proofs.Tables.{put_by}
use Rattle.pth_base.proofs.Lists.{ap_put, put_none}
use Rattle.pth_base.proofs.Namings.{seen_at, seen_put}
use Rattle.pth_numbered.specs.Numbered.{NumberedOf, IsKept, Changes, number_known, thing_at, number_at, slot_of, count}
use Rattle.pth_numbered.proofs.Known.{number-other}
use Rattle.pth_ring.specs.declared.event.Event.{Event}
use Rattle.pth_ring.specs.declared.node.Node.{Node}
use Rattle.pth_ring.specs.Links.{node_next, node_prev, node_next_id, node_prev_id, node_id, node_event, next_place, prev_place, next_id, prev_id, id_at, event_at}
use Rattle.pth_ring.specs.Arena.{RingsOf, SamePlaces}

-- ---- reading

pub next_is : (x : RingsOf) (u : ℕ) (n : Node) → thing_at x u ≡ Some n → n.next.0 ≡ next_place (thing_at x) u
unfolding next_place
next_is x u n h = sym (ap node_next h)

pub prev_is : (x : RingsOf) (u : ℕ) (n : Node) → thing_at x u ≡ Some n → n.prev.0 ≡ prev_place (thing_at x) u
unfolding prev_place
prev_is x u n h = sym (ap node_prev h)

pub id_is : (x : RingsOf) (u : ℕ) (n : Node) → thing_at x u ≡ Some n → n.id.0 ≡ id_at (thing_at x) u
unfolding id_at
id_is x u n h = sym (ap node_id h)

pub next_id_is : (x : RingsOf) (u : ℕ) (n : Node) → thing_at x u ≡ Some n → n.ring.next.0 ≡ next_id (thing_at x) u
unfolding next_id
next_id_is x u n h = sym (ap node_next_id h)

pub prev_id_is : (x : RingsOf) (u : ℕ) (n : Node) → thing_at x u ≡ Some n → n.ring.prev.0 ≡ prev_id (thing_at x) u
unfolding prev_id
prev_id_is x u n h = sym (ap node_prev_id h)

pub event_is : (x : RingsOf) (u : ℕ) (n : Node) → thing_at x u ≡ Some n → event_at (thing_at x) u ≡ Some n.event
unfolding event_at
event_is x u n h = ap node_event h

-- ---- writing

-- another thing at a place in use keeps what is kept of numbered things
module _ {A : Type 0} (x y : NumberedOf A) (u : ℕ) (a b : A) (was : thing_at x u ≡ Some a) (used : number_at x u ≢ 0) (writes : Changes x y u b) where
  some : (o : Option A) (c : A) → o ≡ Some c → o ≡ None → ⊥
  some o c e n = cc

  pub kept-changed : IsKept x → IsKept y
  kept-changed kept = record {
    tied = rw (writes.slots, writes.numbers) kept.tied;
    fresh = rw (writes.slots, writes.made) kept.fresh;
    few = rw (writes.count, writes.limit) kept.few;
    low = rw (writes.numbers, writes.limit) kept.low;
    most = rw writes.limit kept.most;
    empty = λ v zero. empty v (rw writes.numbers at zero);
    full = λ v some. full v (rw writes.numbers at some);
    counted = counted;
  }
    where
      empty : (v : ℕ) → number_at x v ≡ 0 → thing_at y v ≡ None
      empty v zero = let P : Option A → Type 0 = λ o. o ≡ None in rw writes.things (put_by P (thing_at x) u (Some b) v (λ same. absurd (used (ap (number_at x) (sym same) ∙ zero))) (λ apart. kept.empty v zero))

      full : (v : ℕ) → number_at x v ≢ 0 → IsSome (thing_at y v)
      full v in_use = let P : Option A → Type 0 = λ o. IsSome o in rw writes.things (put_by P (thing_at x) u (Some b) v (λ same. refl) (λ apart. kept.full v in_use))

      counted : number_known (seen None (slot_of y) (thing_at y)) y.made ≡ count y
      counted =
          let n = number_at x u in
          let at : slot_of x n ≡ Some u = kept.tied.slot u used in
          let known : seen None (slot_of x) (thing_at x) n ≡ Some a = seen_at None (slot_of x) (thing_at x) n u at ∙ was in
          let old : ℕ → Option A = seen None (slot_of x) (thing_at x) in
          ap (λ (s : ℕ → Option ℕ). number_known (seen None s (thing_at y)) y.made) writes.slots
          ∙ ap (λ (t : ℕ → Option A). number_known (seen None (slot_of x) t) y.made) writes.things
          ∙ ap (λ (f : ℕ → Option A). number_known f y.made) (seen_put None (slot_of x) (number_at x) (thing_at x) n u (Some b) kept.tied at)
          ∙ ap (λ (m : ℕ). number_known (put old n (Some b)) m) writes.made
          ∙ number-other old x.made n a b known
          ∙ kept.counted
          ∙ sym writes.count

-- a function of the node at a place
of_node : {A : Type 0} (g : Option Node → A) (f h : ℕ → Option Node) (u : ℕ) (o : Option Node) → h ≡ put f u o → ◌≡◌ {A = ℕ → A} (λ (i : ℕ). g (h i)) (put (λ i. g (f i)) u (g o))
of_node {A = A} g f h u o e = let over : (ℕ → Option Node) → ℕ → A = λ t i. g (t i) in ap over e ∙ ap_put g f u o

pub next_put : (x y : RingsOf) (u : ℕ) (o : Option Node) → thing_at y ≡ put (thing_at x) u o → next_place (thing_at y) ≡ put (next_place (thing_at x)) u (node_next o)
unfolding next_place
next_put x y u o e = of_node node_next (thing_at x) (thing_at y) u o e

pub prev_put : (x y : RingsOf) (u : ℕ) (o : Option Node) → thing_at y ≡ put (thing_at x) u o → prev_place (thing_at y) ≡ put (prev_place (thing_at x)) u (node_prev o)
unfolding prev_place
prev_put x y u o e = of_node node_prev (thing_at x) (thing_at y) u o e

pub next_id_put : (x y : RingsOf) (u : ℕ) (o : Option Node) → thing_at y ≡ put (thing_at x) u o → next_id (thing_at y) ≡ put (next_id (thing_at x)) u (node_next_id o)
unfolding next_id
next_id_put x y u o e = of_node node_next_id (thing_at x) (thing_at y) u o e

pub prev_id_put : (x y : RingsOf) (u : ℕ) (o : Option Node) → thing_at y ≡ put (thing_at x) u o → prev_id (thing_at y) ≡ put (prev_id (thing_at x)) u (node_prev_id o)
unfolding prev_id
prev_id_put x y u o e = of_node node_prev_id (thing_at x) (thing_at y) u o e

pub id_put : (x y : RingsOf) (u : ℕ) (o : Option Node) → thing_at y ≡ put (thing_at x) u o → id_at (thing_at y) ≡ put (id_at (thing_at x)) u (node_id o)
unfolding id_at
id_put x y u o e = of_node node_id (thing_at x) (thing_at y) u o e

pub event_put : (x y : RingsOf) (u : ℕ) (o : Option Node) → thing_at y ≡ put (thing_at x) u o → event_at (thing_at y) ≡ put (event_at (thing_at x)) u (node_event o)
unfolding event_at
event_put x y u o e = of_node node_event (thing_at x) (thing_at y) u o e

-- a node is written over another
module _ (x y : RingsOf) (u : ℕ) (a b : Node) (used : number_at x u ≢ 0) (was : thing_at x u ≡ Some a) (writes : Changes x y u b) where
  pub next_written : next_place (thing_at y) ≡ put (next_place (thing_at x)) u b.next.0
  next_written = next_put x y u (Some b) writes.things

  pub prev_written : prev_place (thing_at y) ≡ put (prev_place (thing_at x)) u b.prev.0
  prev_written = prev_put x y u (Some b) writes.things

  pub next_id_written : next_id (thing_at y) ≡ put (next_id (thing_at x)) u b.ring.next.0
  next_id_written = next_id_put x y u (Some b) writes.things

  pub prev_id_written : prev_id (thing_at y) ≡ put (prev_id (thing_at x)) u b.ring.prev.0
  prev_id_written = prev_id_put x y u (Some b) writes.things

  pub event_written : event_at (thing_at y) ≡ put (event_at (thing_at x)) u (Some b.event)
  event_written = event_put x y u (Some b) writes.things

  pub next_kept : b.next.0 ≡ a.next.0 → next_place (thing_at y) ≡ next_place (thing_at x)
  next_kept same = next_written ∙ put_none (next_place (thing_at x)) u b.next.0 (sym (next_is x u a was) ∙ sym same)

  pub prev_kept : b.prev.0 ≡ a.prev.0 → prev_place (thing_at y) ≡ prev_place (thing_at x)
  prev_kept same = prev_written ∙ put_none (prev_place (thing_at x)) u b.prev.0 (sym (prev_is x u a was) ∙ sym same)

  pub next_id_kept : b.ring.next.0 ≡ a.ring.next.0 → next_id (thing_at y) ≡ next_id (thing_at x)
  next_id_kept same = next_id_written ∙ put_none (next_id (thing_at x)) u b.ring.next.0 (sym (next_id_is x u a was) ∙ sym same)

  pub prev_id_kept : b.ring.prev.0 ≡ a.ring.prev.0 → prev_id (thing_at y) ≡ prev_id (thing_at x)
  prev_id_kept same = prev_id_written ∙ put_none (prev_id (thing_at x)) u b.ring.prev.0 (sym (prev_id_is x u a was) ∙ sym same)

  pub event_kept : b.event ≡ a.event → event_at (thing_at y) ≡ event_at (thing_at x)
  event_kept same = event_written ∙ put_none (event_at (thing_at x)) u (Some b.event) (event_is x u a was ∙ ap (λ (v : Event). Some v) (sym same))

  pub same_places : b.id.0 ≡ a.id.0 → SamePlaces x y
  same_places same = record {
    slots = writes.slots;
    numbers = writes.numbers;
    ids = id_put x y u (Some b) writes.things ∙ put_none (id_at (thing_at x)) u b.id.0 (sym (id_is x u a was) ∙ sym same);
    made = writes.made;
    limit = writes.limit;
    kept = kept-changed x y u a b was used writes;
  }

-- one after another
pub places_then : (x y z : RingsOf) → SamePlaces x y → SamePlaces y z → SamePlaces x z
places_then x y z s t = record {
  slots = t.slots ∙ s.slots;
  numbers = t.numbers ∙ s.numbers;
  ids = t.ids ∙ s.ids;
  made = t.made ∙ s.made;
  limit = t.limit ∙ s.limit;
  kept = λ k. t.kept (s.kept k);
}

pub places_none : (x : RingsOf) → SamePlaces x x
places_none x = record { slots = refl; numbers = refl; ids = refl; made = refl; limit = refl; kept = λ k. k }
