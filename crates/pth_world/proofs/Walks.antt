-- Walks over a queue come nearer to its end.
use Rattle.std.proofs.Common.{◌≡◌, ◌≢◌, ℕ, ◌+◌, ◌<◌, ◌≤◌, Bool, true, false, cond, if◌then◌else◌, ℤ, List, [], ◌∷◌, map, length, count_by, Option, Some, None, IfSome, option_map, refl, sym, ◌∙◌, ap, subst, arith}
use Rattle.pth_base.specs.declared.ids.Slot.{Slot}
use Rattle.pth_base.specs.declared.ids.Tid.{Tid}
use Rattle.pth_base.proofs.Tables.{same_self}
use Rattle.pth_queue.specs.declared.ranked.Ranked.{Ranked}
use Rattle.pth_queue.specs.declared.queue.Queue.{Queue}
use Rattle.pth_queue.specs.declared.queue.Queue.TheVariants as queue
use Rattle.pth_queue.specs.Ranking.{is_of, head_of, after_in, named_row}
use Rattle.pth_queue.specs.Queues.{queue_of, rows_of, after_of, entered, without}
use Rattle.pth_queue.proofs.Counts.{count-cons, count-present}
use Rattle.pth_queue.proofs.Names.{after_named}
use Rattle.pth_queue.proofs.Sets.{count-head}
use Rattle.pth_threads.specs.Threads.{slot_of, tid_at, number_of}
use Rattle.pth_world.specs.World.{ThreadsBySlot}
use Rattle.pth_world.specs.Sound.{IsSound, IsKnown}
use Rattle.pth_world.specs.WellFormed.{IsIn}
use Rattle.pth_world.specs.Touches.{SameThreads}
use Rattle.pth_world.specs.Walks.{rows_behind, behind}
use Rattle.pth_world.proofs.Slots.{name_is}
use Rattle.pth_world.proofs.Places.{queue-entered_other, queue-without_other}
use Rattle.pth_world.proofs.Moves.{known_slot}
use Rattle.pth_world.proofs.QueueReads.{holds-after, names, after_of-in, once_named}

-- where no thread is answered, no slot was
pub no_slot : (f : ℕ → ℕ) (o : Option Tid) (p : Option Slot) → option_map number_of o ≡ option_map (λ (u : Slot). f u.0) p → o ≡ None → p ≡ None
no_slot f o None e none = refl
no_slot f o (Some u) e none = absurd (cc (sym e ∙ ap (option_map number_of) none))

own : (t : ℕ) (xs : List Ranked) → head_of xs ≡ Some t → rows_behind t xs + 1 ≡ length xs
own t [] head = cc
own t (x ∷ xs) head =
    let same : x.holder ≡ t = cc in
    rw (same, same_self t) (omega arith)

other_by : (t : ℕ) (x : Ranked) (xs : List Ranked) (b : Bool) → cond {A = ℕ} b 1 0 + count_by (is_of t) xs ≤ 1 → 1 ≤ count_by (is_of t) xs → (if b then length xs else rows_behind t xs) ≡ rows_behind t xs
other_by t x xs true once there = absurd (omega arith)
other_by t x xs false once there = refl

-- one that stands further on, and nowhere else
other : (t : ℕ) (x : Ranked) (xs : List Ranked) → count_by (is_of t) (x ∷ xs) ≤ 1 → 1 ≤ count_by (is_of t) xs → rows_behind t (x ∷ xs) ≡ rows_behind t xs
other t x xs once there = other_by t x xs (is_of t x) (omega (arith, count-cons t x xs)) there

less_by : (t r : ℕ) (x : Ranked) (xs : List Ranked) (b : Bool) → count_by (is_of r) (x ∷ xs) ≤ 1 → (after_in t xs ≡ Some r → rows_behind r xs < rows_behind t xs) → (if b then head_of xs else after_in t xs) ≡ Some r → rows_behind r (x ∷ xs) < (if b then length xs else rows_behind t xs)
less_by t r x xs true once more h = rw (other r x xs once (count-head r xs h)) (let e = own r xs h in omega arith)
less_by t r x xs false once more h = rw (other r x xs once (count-present r xs (holds-after t r xs h))) (more h)

-- fewer rows stand behind the one that follows
pub less-after : (t r : ℕ) (xs : List Ranked) → count_by (is_of r) xs ≤ 1 → after_in t xs ≡ Some r → rows_behind r xs < rows_behind t xs
less-after t r [] once h = cc
less-after t r (x ∷ xs) once h = less_by t r x xs (is_of t x) once (less-after t r xs (omega (arith, count-cons r x xs))) h

-- and so behind the thread that a world answers
pub behind-after : {S : Type 0} (w : ThreadsBySlot S) (t u : ℕ) (q : Queue) (o : Option Tid) (p : Option Slot) → IsSound w → slot_of w.records t ≡ Some u → queue_of u w.queues ≡ Some q →
    option_map (λ (v : Slot). v.0) p ≡ after_of u w.queues → option_map number_of o ≡ option_map (λ (v : Slot). tid_at w.records v.0) p → IfSome o (λ (r : Tid). behind w q r.0 < behind w q t)
behind-after w t u q None p sound e stands h is = tt
behind-after w t u q (Some r) p sound e stands h is = less-after t r.0 (map (named_row (tid_at w.records)) (rows_of q w.queues)) (once_named w r.0 q sound)
    (after_named (slot_of w.records) (tid_at w.records) t u (rows_of q w.queues) sound.tied e (sound.queued q)
    ∙ ap (option_map (tid_at w.records)) (sym (after_of-in u q w.queues stands) ∙ sym h)
    ∙ sym (names (tid_at w.records) p)
    ∙ sym is)

-- a thread is ready that stood in a queue
module _ {S : Type 0} (w v : ThreadsBySlot S) (t r : ℕ) (q : Queue) (rank : ℤ) (sound : IsSound w) (known : IsKnown w t) (same : SameThreads w v) (queues : IfSome (slot_of w.records t) (λ u. v.queues ≡ entered queue.Ready rank u (without u w.queues))) (apart : r ≢ t) where
  slot : (u : ℕ) × (slot_of w.records t ≡ Some u)
  slot = known_slot (slot_of w.records t) known

  queues_are : v.queues ≡ entered queue.Ready rank slot.0 (without slot.0 w.queues)
  queues_are = subst (λ (o : Option ℕ). IfSome o (λ u. v.queues ≡ entered queue.Ready rank u (without u w.queues))) slot.1 queues

  -- another that stands in a queue still does
  pub in-readied : IsIn q w r → IsIn q v r
  in-readied h = rw same.slots (by_slot (slot_of w.records r) refl h)
    where
      by_slot : (o : Option ℕ) → slot_of w.records r ≡ o → IfSome o (λ i. queue_of i w.queues ≡ Some q) → IfSome o (λ i. queue_of i v.queues ≡ Some q)
      by_slot None e h = tt
      by_slot (Some i) e h =
          let away : i ≢ slot.0 = λ k. apart (sym (name_is w r i sound e) ∙ ap (tid_at w.records) k ∙ name_is w t slot.0 sound slot.1) in
          ap (queue_of i) queues_are ∙ queue-entered_other slot.0 rank (without slot.0 w.queues) i queue.Ready away ∙ queue-without_other slot.0 i w.queues away ∙ h
