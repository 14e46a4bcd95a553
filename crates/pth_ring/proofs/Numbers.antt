-- The numbers that nodes have of their neighbours.
use Rattle.std.proofs.Common.{◌≡◌, ◌≢◌, ℕ, Option, IsSome, sym, ◌∙◌, ap, inl, inr, subst}
use Rattle.std.proofs.lemmas.Bool.{cases_eq}
use Rattle.pth_base.specs.Table.{put}
use Rattle.pth_base.proofs.Tables.{put_here, put_other}
use Rattle.pth_ring.specs.declared.event.Event.{Event}
use Rattle.pth_ring.specs.declared.node.Node.{Node}
use Rattle.pth_ring.specs.Links.{next_place, prev_place, next_id, prev_id, id_at, event_at, AreNumbersAt, IsNumbered, Splices}

-- a place is written with its number
numbers-written : (event : ℕ → Option Event) (ids places numbers : ℕ → ℕ) (u p : ℕ) → AreNumbersAt event ids places numbers → AreNumbersAt event ids (put places u p) (put numbers u (ids p))
numbers-written event ids places numbers u p all w live = elim (cases_eq w u) [
  | inl same ↦ ap (put numbers u (ids p)) same ∙ put_here numbers u (ids p) ∙ sym (ap ids (ap (put places u p) same ∙ put_here places u p))
  | inr apart ↦ put_other numbers u (ids p) w apart ∙ all w live ∙ sym (ap ids (put_other places u p w apart))
]

-- a node is written, or gone, that no other names
pub numbers-changed : (event : ℕ → Option Event) (ids places numbers : ℕ → ℕ) (u p m j : ℕ) (o : Option Event) → AreNumbersAt event ids places numbers → ((w : ℕ) → w ≢ u → IsSome (event w) → places w ≢ u) → (IsSome o → m ≡ put ids u j p) → AreNumbersAt (put event u o) (put ids u j) (put places u p) (put numbers u m)
numbers-changed event ids places numbers u p m j o all others own w live = elim (cases_eq w u) [
  | inl same ↦ ap (put numbers u m) same ∙ put_here numbers u m ∙ own (subst IsSome (ap (put event u o) same ∙ put_here event u o) live) ∙ sym (ap (put ids u j) (ap (put places u p) same ∙ put_here places u p))
  | inr apart ↦
      let was : IsSome (event w) = subst IsSome (put_other event u o w apart) live in
      put_other numbers u m w apart ∙ all w was ∙ sym (ap (put ids u j) (put_other places u p w apart) ∙ put_other ids u j (places w) (others w apart was))
]

pub spliced-numbered : (x z : ℕ → Option Node) (a b : ℕ) → Splices x z a b → id_at z ≡ id_at x → IsNumbered x → IsNumbered z
spliced-numbered x z a b s ids n = record {
  next = rw (s.event, ids, s.next, s.next_id) (numbers-written (event_at x) (id_at x) _ _ (prev_place x b) a (numbers-written (event_at x) (id_at x) (next_place x) (next_id x) (prev_place x a) b n.next));
  prev = rw (s.event, ids, s.prev, s.prev_id) (numbers-written (event_at x) (id_at x) _ _ a (prev_place x b) (numbers-written (event_at x) (id_at x) (prev_place x) (prev_id x) b (prev_place x a) n.prev));
}
