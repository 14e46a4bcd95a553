-- What operands name, what is refused, and what is answered.
use Rattle.std.proofs.Common.{◌≡◌, ◌≢◌, ◌↔◌, ◌+◌, ◌≤◌, ℕ, ◌==◌, ℤ, pos, negsuc, ◌<ℤ◌, Bool, true, false, not, ◌&&◌, ◌||◌, if◌then◌else◌, List, [], map, Option, Some, None, IfSome, IfNone, IsSome, is_some, option_map, Result, Ok, Err, IsErrOf, refl, sym, ◌∙◌, ap, ap₂, arith}
use Rattle.std.proofs.lemmas.Int.{ints}
use Rattle.pth_base.specs.Limits.{thread_limit}
use Rattle.pth_base.specs.Table.{put}
use Rattle.pth_base.specs.Naming.{by_slot, seen}
use Rattle.pth_base.proofs.Tables.{same_self, not_same}
use Rattle.pth_base.proofs.Lists.{put_none}
use Rattle.pth_base.specs.declared.errno.Errno.TheVariants.{EAGAIN, EBUSY, EINVAL, ENOENT}
use Rattle.pth_base.specs.declared.ids.EventId.{EventId}
use Rattle.pth_base.specs.declared.ids.Slot.{Slot}
use Rattle.pth_base.specs.declared.refusal.Refusal.{Refusal}
use Rattle.pth_base.specs.declared.refusal.Refusal.TheVariants.{Fail, OutOfMemory}
use Rattle.pth_numbered.specs.Operands.{number}
use Rattle.pth_numbered.specs.Numbered.{IsKept, number_known, thing_at, number_at, slot_of, count}
use Rattle.pth_numbered.specs.declared.error.AddErr.{AddErr}
use Rattle.pth_numbered.specs.declared.error.AddErr.TheVariants as add
use Rattle.pth_numbered.proofs.Known.{number_same}
use Rattle.pth_ring.specs.declared.event.Event.{Event}
use Rattle.pth_ring.specs.declared.node.Node.{Node}
use Rattle.pth_ring.specs.Ring.{Begins, ring_holds}
use Rattle.pth_ring.specs.Links.{node_event, node_id, event_at, id_at, ring}
use Rattle.pth_ring.specs.Rings.{Events, event_limit, event_id, is_event, is_claimed, is_full_of_events, ring_refusal, concat_refusal, make_answer, chain_answer, walk_answer, candidates, walk_end, with_event, no_events, AnswersEvent}
use Rattle.pth_ring.specs.Arena.{RingsOf, rings_by_number, ring_of, event_of, events_of, AreLinked}
use Rattle.pth_ring.proofs.Shown.{begins, live-at, no-event, no-ring, events_are}

-- ---- operands

dead_by : (o : Option Event) → o ≡ None → is_some o ≡ false
dead_by (Some v) h = cc
dead_by None h = refl

pub dead : (x : RingsOf) → AreLinked x → (n : ℕ) → slot_of x n ≡ None → is_event (events_of x) n ≡ false
dead x k n h = dead_by (event_of x n) (no-event x k n h)

-- a number that is too low or too high has no place
pub below-unknown : (x : RingsOf) → AreLinked x → (e : ℤ) → e <ℤ pos 0 → slot_of x (number e) ≡ None
below-unknown x k (pos n) low = absurd (omega (arith, ints))
below-unknown x k (negsuc n) low = k.kept.tied.zero

pub above-unknown : (x : RingsOf) → AreLinked x → (e : ℤ) → pos x.made <ℤ e → slot_of x (number e) ≡ None
above-unknown x k (pos n) high = k.kept.fresh n (omega (arith, ints))
above-unknown x k (negsuc n) high = absurd (omega (arith, ints))

pub found-dead : (x : RingsOf) → AreLinked x → (n : ℕ) (o : Option Slot) → slot_of x n ≡ option_map (λ (s : Slot). s.0) o → IfNone o (is_event (events_of x) n ≡ false)
found-dead x k n None e = dead x k n e
found-dead x k n (Some s) e = tt

pub found-no_ring : (x : RingsOf) → (n : ℕ) (o : Option Slot) → slot_of x n ≡ option_map (λ (s : Slot). s.0) o → IfNone o (ring_of x n ≡ [])
found-no_ring x n None e = no-ring x n e
found-no_ring x n (Some s) e = tt

-- ---- tests

module _ (x : RingsOf) (k : AreLinked x) (u n : ℕ) (is : number_at x u ≡ n) (used_u : number_at x u ≢ 0) where
  pub live-named : is_event (events_of x) n ≡ true
  live-named = ap (is_event (events_of x)) (sym is) ∙ live-at x k u used_u

  claimed_named : (b : Bool) → b ≡ is_claimed (events_of x) (number_at x u) → is_claimed (events_of x) n ≡ b
  claimed_named b h = ap (is_claimed (events_of x)) (sym is) ∙ sym h

  pub refused-claimed : true ≡ is_claimed (events_of x) (number_at x u) → Some EBUSY ≡ ring_refusal (events_of x) n
  refused-claimed h = rw (live-named, claimed_named true h) refl

  pub not-refused : false ≡ is_claimed (events_of x) (number_at x u) → None ≡ ring_refusal (events_of x) n
  not-refused h = rw (live-named, claimed_named false h) refl

module _ (x : RingsOf) (k : AreLinked x) (u v m n : ℕ) (u_is : number_at x u ≡ m) (v_is : number_at x v ≡ n) (used_u : number_at x u ≢ 0) (used_v : number_at x v ≢ 0) where
  held_named : (b : Bool) → b ≡ ring_holds (number_at x u) (ring_of x (number_at x v)) → ring_holds m (ring_of x n) ≡ b
  held_named b h = ap₂ (λ (i j : ℕ). ring_holds i (ring_of x j)) (sym u_is) (sym v_is) ∙ sym h

  refusal_by : (p q r s t : Bool) → is_event (events_of x) m ≡ p → is_event (events_of x) n ≡ q → ring_holds m (ring_of x n) ≡ r → is_claimed (events_of x) m ≡ s → is_claimed (events_of x) n ≡ t
      → concat_refusal (events_of x) m n ≡ (if not (p && q) then Some EINVAL else if r then Some EINVAL else if s || t then Some EBUSY else None)
  refusal_by p q r s t a b c d e =
      ap₂ (λ (p q : Bool). if not (p && q) then Some EINVAL else if ring_holds m (ring_of x n) then Some EINVAL else if is_claimed (events_of x) m || is_claimed (events_of x) n then Some EBUSY else None) a b
      ∙ ap (λ (r : Bool). if not (p && q) then Some EINVAL else if r then Some EINVAL else if is_claimed (events_of x) m || is_claimed (events_of x) n then Some EBUSY else None) c
      ∙ ap₂ (λ (s t : Bool). if not (p && q) then Some EINVAL else if r then Some EINVAL else if s || t then Some EBUSY else None) d e

  live_u : is_event (events_of x) m ≡ true
  live_u = live-named x k u m u_is used_u

  live_v : is_event (events_of x) n ≡ true
  live_v = live-named x k v n v_is used_v

  pub two-claimed : false ≡ ring_holds (number_at x u) (ring_of x (number_at x v)) → (s t : Bool) → s ≡ is_claimed (events_of x) (number_at x u) → t ≡ is_claimed (events_of x) (number_at x v) → (if s || t then Some EBUSY else None) ≡ concat_refusal (events_of x) m n
  two-claimed h s t a b = sym (refusal_by true true false s t live_u live_v (held_named false h) (claimed_named x k u m u_is used_u s a) (claimed_named x k v n v_is used_v t b))

-- what a look-up found
pub found-live : (x : RingsOf) (k : AreLinked x) (n : ℕ) (o : Option Slot) → IfSome o (λ s. number_at x s.0 ≢ 0) → IfSome o (λ s. number_at x s.0 ≡ n) → IfSome o (λ _. is_event (events_of x) n ≡ true)
found-live x k n None used_s is = tt
found-live x k n (Some s) used_s is = live-named x k s.0 n is used_s

pub found-begins : (x : RingsOf) (k : AreLinked x) (o : Option Slot) → IfSome o (λ s. number_at x s.0 ≢ 0) → IfSome o (λ s. Begins (ring_of x (number_at x s.0)) (number_at x s.0))
found-begins x k None used_s = tt
found-begins x k (Some s) used_s = begins x k s.0 used_s

-- ---- how many there are

same_some : (o : Option ℕ) (f : ℕ → Option Node) → is_some (by_slot None (λ u. node_event (f u)) o) ≡ is_some (by_slot None f o)
same_some (Some u) f = node_some (f u)
  where
    node_some : (o : Option Node) → is_some (node_event o) ≡ is_some o
    node_some (Some n) = refl
    node_some None = refl
same_some None f = refl

some_alike : (x : RingsOf) (n : ℕ) → is_some (event_of x n) ≡ is_some (seen None (slot_of x) (thing_at x) n)
unfolding event_of event_at seen
some_alike x n = same_some (slot_of x n) (thing_at x)

module _ (x : RingsOf) (k : AreLinked x) where
  counted : number_known (event_of x) x.made ≡ count x
  counted = number_same (event_of x) (seen None (slot_of x) (thing_at x)) x.made (λ n le. some_alike x n) ∙ k.kept.counted

  full : count x ≡ x.limit → is_full_of_events (events_of x) ≡ true
  full e = ap (λ (n : ℕ). n == event_limit) (counted ∙ e ∙ k.limit) ∙ same_self event_limit

  room : (count x ≡ x.limit → ⊥) → is_full_of_events (events_of x) ≡ false
  room e = not_same (number_known (event_of x) x.made) event_limit (λ is. e (sym counted ∙ is ∙ sym k.limit))

  module _ {A : Type 0} (r : Result A AddErr) (many : IsErrOf r add.TooMany ↔ (count x ≡ x.limit)) where
    pub made-answer : (a : A) (id : EventId) → r ≡ Ok a → id.0 ≡ x.made + 1 → AnswersEvent (make_answer (events_of x)) (Ok id)
    made-answer a id is number = rw (room (λ e. other (many.1 e))) number
      where
        other : r ≡ Err add.TooMany → ⊥
        other h = cc

    pub many-answer : r ≡ Err add.TooMany → AnswersEvent (make_answer (events_of x)) (Err (Fail EAGAIN))
    many-answer is = rw (full (many.0 is)) refl

    pub memory-answer : r ≡ Err add.OutOfMemory → AnswersEvent (make_answer (events_of x)) (Err OutOfMemory)
    memory-answer is = rw (room (λ e. other (many.1 e))) refl
      where
        other : r ≡ Err add.TooMany → ⊥
        other h = cc

-- an event is made where its ring isn't refused
pub chain-answer : (s : Events) (n : ℕ) (r : Result EventId Refusal) → None ≡ ring_refusal s n → AnswersEvent (make_answer s) r → AnswersEvent (chain_answer s n) r
chain-answer s n r free h = rw (← free) h

-- ---- walks

pub walk-some : (x : RingsOf) → AreLinked x → (u n : ℕ) (f until : Bool) (id : EventId) → number_at x u ≡ n → number_at x u ≢ 0 → Some id ≡ option_map event_id (walk_end until (event_of x) (candidates f (ring_of x (number_at x u)))) → Ok id ≡ walk_answer (events_of x) n f until
walk-some x k u n f until id is used_u h =
    let g : Some id ≡ option_map event_id (walk_end until (event_of x) (candidates f (ring_of x n))) = h ∙ ap (λ (m : ℕ). option_map event_id (walk_end until (event_of x) (candidates f (ring_of x m)))) is in
    rw (live-named x k u n is used_u, ← g) refl

pub walk-none : (x : RingsOf) → AreLinked x → (u n : ℕ) (f until : Bool) → number_at x u ≡ n → number_at x u ≢ 0 → None ≡ option_map event_id (walk_end until (event_of x) (candidates f (ring_of x (number_at x u)))) → Err ENOENT ≡ walk_answer (events_of x) n f until
walk-none x k u n f until is used_u h =
    let g : None ≡ option_map event_id (walk_end until (event_of x) (candidates f (ring_of x n))) = h ∙ ap (λ (m : ℕ). option_map event_id (walk_end until (event_of x) (candidates f (ring_of x m)))) is in
    rw (live-named x k u n is used_u, ← g) refl

-- ---- where there is no event

gone_by : (o : Option Event) → is_some o ≡ false → o ≡ None
gone_by (Some v) h = cc
gone_by None h = refl

pub with_event-dead : (s : Events) (g : Event → Event) (n : ℕ) → is_event s n ≡ false → s ≡ with_event g n s
with_event-dead s g n h =
    let gone : s.events n ≡ None = gone_by (s.events n) h in
    let same : put s.events n (option_map g (s.events n)) ≡ s.events = put_none s.events n (option_map g (s.events n)) (gone ∙ sym (ap (option_map g) gone)) in
    ap (λ (f : ℕ → Option Event). record s { events = f }) (sym same)

-- ---- no events

no_thing : (x : RingsOf) → thing_at x ≡ (λ _. None) → (u : ℕ) → event_at (thing_at x) u ≡ None
unfolding event_at
no_thing x e u = ap (λ (f : ℕ → Option Node). node_event (f u)) e

not_live : (o : Option Event) → o ≡ None → IsSome o → ⊥
not_live o n h = cc

no_id : (x : RingsOf) → thing_at x ≡ (λ _. None) → number_at x ≡ (λ _. 0) → id_at (thing_at x) ≡ number_at x
unfolding id_at
no_id x things numbers = let ids : (ℕ → Option Node) → ℕ → ℕ = λ f u. node_id (f u) in ap ids things ∙ sym numbers

none_kept : (x : RingsOf) → slot_of x ≡ (λ _. None) → number_at x ≡ (λ _. 0) → thing_at x ≡ (λ _. None) → count x ≡ 0 → x.made ≡ 0 → x.limit ≡ event_limit → IsKept x
unfolding number_known
none_kept x slots numbers things none made limit = record {
  tied = rw (slots, numbers) (record { tid = λ n u h. cc; slot = λ u h. absurd (h refl); zero = refl; low = λ u h. absurd (h refl) });
  fresh = λ n h. ap (λ (s : ℕ → Option ℕ). s n) slots;
  few = omega (arith, none);
  low = λ u h. absurd (h (ap (λ (t : ℕ → ℕ). t u) numbers));
  most = rw limit (let le : event_limit ≤ thread_limit = omega arith in le);
  empty = λ u h. ap (λ (f : ℕ → Option Node). f u) things;
  full = λ u h. absurd (h (ap (λ (t : ℕ → ℕ). t u) numbers));
  counted = ap (number_known (seen None (slot_of x) (thing_at x))) made ∙ sym none;
}

pub none-linked : (x : RingsOf) → slot_of x ≡ (λ _. None) → number_at x ≡ (λ _. 0) → thing_at x ≡ (λ _. None) → count x ≡ 0 → x.made ≡ 0 → x.limit ≡ event_limit → AreLinked x
none-linked x slots numbers things none made limit = record {
  kept = none_kept x slots numbers things none made limit;
  limit = limit;
  named = no_id x things numbers;
  linked = record {
    low = λ u h. absurd (not_live (event_at (thing_at x) u) (no_thing x things u) h);
    circle = λ u h. absurd (not_live (event_at (thing_at x) u) (no_thing x things u) h);
  };
  numbered = record {
    next = λ u h. absurd (not_live (event_at (thing_at x) u) (no_thing x things u) h);
    prev = λ u h. absurd (not_live (event_at (thing_at x) u) (no_thing x things u) h);
  };
}

none_rings : (x : RingsOf) → slot_of x ≡ (λ _. None) → ring_of x ≡ (λ _. [])
unfolding ring_of rings_by_number
none_rings x e = let rings : (ℕ → Option ℕ) → ℕ → List ℕ = λ s n. map (number_at x) (by_slot [] (ring (thing_at x)) (s n)) in ap rings e

none_events : (x : RingsOf) → slot_of x ≡ (λ _. None) → event_of x ≡ (λ _. None)
unfolding event_of seen
none_events x e = let events : (ℕ → Option ℕ) → ℕ → Option Event = λ s n. by_slot None (event_at (thing_at x)) (s n) in ap events e

pub none-shown : (x : RingsOf) → slot_of x ≡ (λ _. None) → x.made ≡ 0 → events_of x ≡ no_events
none-shown x slots made = events_are x no_events (none_rings x slots) (none_events x slots) made
