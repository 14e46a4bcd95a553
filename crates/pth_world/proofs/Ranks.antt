-- What changes of the queues do to the ranks of the ready queue.
use Rattle.std.proofs.Common.{◌≡◌, ℕ, ◌+◌, ◌≤◌, ℤ, pos, ◌≤ℤ◌, not, List, length, IsSome, IfSome, Option, Some, None, sym, ap, subst, arith}
use Rattle.std.proofs.lemmas.Int.{ints}
use Rattle.std.proofs.lemmas.List.Elements.{All-weaker, All-filter, All-map}
use Rattle.pth_queue.specs.declared.ranked.Ranked.{Ranked}
use Rattle.pth_queue.specs.declared.queue.Queue.{Queue}
use Rattle.pth_queue.specs.declared.queue.Queue.TheVariants as queue
use Rattle.pth_queue.specs.Ranking.{is_of, insert, delete, increase, raised}
use Rattle.pth_queue.specs.Queues.{QueuesOf, entered, without}
use Rattle.pth_queue.proofs.Counts.{length-insert, length-delete}
use Rattle.pth_queue.proofs.Orders.{All-insert}
use Rattle.pth_threads.specs.Threads.{slot_of}
use Rattle.pth_world.specs.World.{ThreadsBySlot, WorldOf}
use Rattle.pth_world.specs.Sound.{IsKnown, IsPrio}
use Rattle.pth_world.specs.Keeps.{MovesThreads}
use Rattle.pth_world.specs.Ranks.{IsUnder, greatest_return, KeepsRanks, more_new}

-- a higher bound
pub under-bound : (bound more : ℕ) (rows : List Ranked) → bound ≤ more → IsUnder bound rows → IsUnder more rows
under-bound bound more rows h = All-weaker (λ r. r.rank ≤ℤ pos bound) (λ r. r.rank ≤ℤ pos more) (λ r k. at_most r.rank k) rows
  where
    at_most : (n : ℤ) → n ≤ℤ pos bound → n ≤ℤ pos more
    at_most n k = omega (arith, ints)

-- a row enters at a rank not above the bound
pub under-insert : (bound : ℕ) (e : Ranked) (rows : List Ranked) → e.rank ≤ℤ pos bound → IsUnder bound rows → IsUnder bound (insert e rows)
under-insert bound e rows low under = All-insert (λ r. r.rank ≤ℤ pos bound) e rows low under

-- a row is taken out
pub under-delete : (bound s : ℕ) (rows : List Ranked) → IsUnder bound rows → IsUnder bound (delete s rows)
under-delete bound s rows = All-filter (λ r. not (is_of s r)) (λ r. r.rank ≤ℤ pos bound) rows

-- every rank one more
pub under-increase : (bound : ℕ) (rows : List Ranked) → IsUnder bound rows → IsUnder (bound + 1) (increase rows)
under-increase bound rows under = All-map (λ r. r.rank ≤ℤ pos (bound + 1)) raised rows (All-weaker (λ r. r.rank ≤ℤ pos bound) (λ r. (raised r).rank ≤ℤ pos (bound + 1)) (λ r k. one_more r k) rows under)
  where
    one_more : (r : Ranked) → r.rank ≤ℤ pos bound → (raised r).rank ≤ℤ pos (bound + 1)
    one_more r k = omega (arith, ints)

-- no change
pub ranks_none : {S : Type 0} (w : ThreadsBySlot S) → KeepsRanks 0 w w
ranks_none w = record { under = λ bound low h. h; fresh = omega arith }

-- one change after another, the first without a new thread
pub ranks_then : {S : Type 0} (n : ℕ) (u v w : ThreadsBySlot S) → KeepsRanks 0 u v → KeepsRanks n v w → KeepsRanks n u w
ranks_then n u v w a b = record { under = λ bound low h. b.under bound low (a.under bound low h); fresh = (let f = a.fresh in let g = b.fresh in omega arith) }

-- at most as many more as it is said
pub ranks_more : {S : Type 0} (n m : ℕ) (w v : ThreadsBySlot S) → n ≤ m → KeepsRanks n w v → KeepsRanks m w v
ranks_more n m w v le r = record { under = r.under; fresh = (let f = r.fresh in omega arith) }

-- where the queues are the same
pub ranks_same : {S : Type 0} (n : ℕ) (w v x : ThreadsBySlot S) → x.queues ≡ v.queues → KeepsRanks n w v → KeepsRanks n w x
ranks_same n w v x same r = record {
  under = λ bound low h. subst (λ (y : QueuesOf). IsUnder bound y.ready) (sym same) (r.under bound low h);
  fresh = (let f = r.fresh in let k : length x.queues.new ≡ length v.queues.new = ap (λ (y : QueuesOf). length y.new) same in omega arith);
}

-- where the queues are these
module _ {S : Type 0} (w v : ThreadsBySlot S) (x : QueuesOf) (queues : v.queues ≡ x) where
  ranks_by : ((bound : ℕ) → greatest_return ≤ bound → IsUnder bound w.queues.ready → IsUnder bound x.ready) → length x.new ≤ length w.queues.new → KeepsRanks 0 w v
  ranks_by under fewer = record {
    under = λ bound low h. subst (λ (y : QueuesOf). IsUnder bound y.ready) (sym queues) (under bound low h);
    fresh = (let n : length v.queues.new ≡ length x.new = ap (λ (y : QueuesOf). length y.new) queues in omega arith);
  }

length-deleted : (s : ℕ) (rows : List Ranked) → length (delete s rows) ≤ length rows
length-deleted s rows = omega (arith, length-delete s rows)

low_rank : (rank : ℤ) (bound : ℕ) → rank ≤ℤ pos greatest_return → greatest_return ≤ bound → rank ≤ℤ pos bound
low_rank rank bound low high = omega (arith, ints)

-- a base priority is no greater than the rank of a return
pub prio_low : (prio : ℤ) → IsPrio prio → prio ≤ℤ pos greatest_return
prio_low prio h = let high = h.high in omega (arith, ints)

module _ {S : Type 0} (w v : ThreadsBySlot S) (t : ℕ) (known : IsKnown w t) where
  at_slot : (Q : ℕ → Type 0) → IfSome (slot_of w.records t) Q → ((u : ℕ) → Q u → KeepsRanks 0 w v) → KeepsRanks 0 w v
  at_slot Q h f = by_slot (slot_of w.records t) known h f
    where
      by_slot : (o : Option ℕ) → IsSome o → IfSome o Q → ((u : ℕ) → Q u → KeepsRanks 0 w v) → KeepsRanks 0 w v
      by_slot (Some u) some q f = f u q
      by_slot None some q f = absurd (cc some)

  -- a thread leaves its queue
  pub ranks_left : IfSome (slot_of w.records t) (λ u. v.queues ≡ without u w.queues) → KeepsRanks 0 w v
  ranks_left h = at_slot (λ u. v.queues ≡ without u w.queues) h (λ u is. ranks_by w v _ is (λ bound low under. under-delete bound u w.queues.ready under) (length-deleted u w.queues.new))

  -- a thread is ready that stood in no queue
  pub ranks_back : IfSome (slot_of w.records t) (λ u. (prio : ℤ) × IsPrio prio × (v.queues ≡ entered queue.Ready prio u w.queues)) → KeepsRanks 0 w v
  ranks_back h = at_slot (λ u. (prio : ℤ) × IsPrio prio × (v.queues ≡ entered queue.Ready prio u w.queues)) h (λ u is. ranks_by w v _ is.2 (λ bound low under. under-insert bound (record { rank = is.0; holder = u }) w.queues.ready (low_rank is.0 bound (prio_low is.0 is.1) low) under) (omega arith))

  -- a thread waits that stood in no queue
  pub ranks_waits : IfSome (slot_of w.records t) (λ u. (prio : ℤ) × IsPrio prio × (v.queues ≡ entered queue.Waiting prio u w.queues)) → KeepsRanks 0 w v
  ranks_waits h = at_slot (λ u. (prio : ℤ) × IsPrio prio × (v.queues ≡ entered queue.Waiting prio u w.queues)) h (λ u is. ranks_by w v _ is.2 (λ bound low under. under) (omega arith))

  -- a thread is ready that stood in another queue
  pub ranks_ready : (rank : ℤ) → rank ≤ℤ pos greatest_return → IfSome (slot_of w.records t) (λ u. v.queues ≡ entered queue.Ready rank u (without u w.queues)) → KeepsRanks 0 w v
  ranks_ready rank low h = at_slot (λ u. v.queues ≡ entered queue.Ready rank u (without u w.queues)) h (λ u is. ranks_by w v _ is (λ bound high under. under-insert bound (record { rank = rank; holder = u }) (delete u w.queues.ready) (low_rank rank bound low high) (under-delete bound u w.queues.ready under)) (length-deleted u w.queues.new))

  -- a thread is dead
  pub ranks_dead : (rank : ℤ) → IfSome (slot_of w.records t) (λ u. v.queues ≡ entered queue.Dead rank u (without u w.queues)) → KeepsRanks 0 w v
  ranks_dead rank h = at_slot (λ u. v.queues ≡ entered queue.Dead rank u (without u w.queues)) h (λ u is. ranks_by w v _ is (λ bound low under. under-delete bound u w.queues.ready under) (length-deleted u w.queues.new))

-- a thread stands in another queue, at rank 0
moved_under : (bound u : ℕ) (q : Queue) (x : QueuesOf) → IsUnder bound x.ready → IsUnder bound (entered q (pos 0) u (without u x)).ready
moved_under bound u queue.Ready x under = under-insert bound (record { rank = pos 0; holder = u }) (delete u x.ready) (omega (arith, ints)) (under-delete bound u x.ready under)
moved_under bound u queue.New x under = under-delete bound u x.ready under
moved_under bound u queue.Waiting x under = under-delete bound u x.ready under
moved_under bound u queue.Suspended x under = under-delete bound u x.ready under
moved_under bound u queue.Dead x under = under-delete bound u x.ready under

moved_fresh : (u : ℕ) (q : Queue) (x : QueuesOf) → length (entered q (pos 0) u (without u x)).new ≤ length x.new + more_new q
moved_fresh u queue.New x = omega (arith, length-insert (record { rank = pos 0; holder = u }) (delete u x.new), length-deleted u x.new)
moved_fresh u queue.Ready x = omega (arith, length-deleted u x.new)
moved_fresh u queue.Waiting x = omega (arith, length-deleted u x.new)
moved_fresh u queue.Suspended x = omega (arith, length-deleted u x.new)
moved_fresh u queue.Dead x = omega (arith, length-deleted u x.new)

ranks_moved : {S : Type 0} (w v : ThreadsBySlot S) (u : ℕ) (q : Queue) → v.queues ≡ entered q (pos 0) u (without u w.queues) → KeepsRanks (more_new q) w v
ranks_moved w v u q is = record {
  under = λ bound low h. subst (λ (y : QueuesOf). IsUnder bound y.ready) (sym is) (moved_under bound u q w.queues h);
  fresh = (let n : length v.queues.new ≡ length (entered q (pos 0) u (without u w.queues)).new = ap (λ (y : QueuesOf). length y.new) is in omega (arith, moved_fresh u q w.queues));
}

pub ranks_moved_in : {S : Type 0} (w v : ThreadsBySlot S) (t : ℕ) → IsKnown w t → (q : Queue) → IfSome (slot_of w.records t) (λ u. v.queues ≡ entered q (pos 0) u (without u w.queues)) → KeepsRanks (more_new q) w v
ranks_moved_in w v t known q h = by_slot (slot_of w.records t) known h
  where
    by_slot : (o : Option ℕ) → IsSome o → IfSome o (λ u. v.queues ≡ entered q (pos 0) u (without u w.queues)) → KeepsRanks (more_new q) w v
    by_slot (Some u) some is = ranks_moved w v u q is
    by_slot None some is = absurd (cc some)

-- at most one thread more is new
new_at_most : (q : Queue) → more_new q ≤ 1
new_at_most queue.New = omega arith
new_at_most q = omega arith

pub moves_one : {P S H : Type 0} (w v : WorldOf P S H) (q : Queue) (r : Option ℕ) → MovesThreads w v (more_new q) r → MovesThreads w v 1 r
moves_one w v q r moves = record { whole = moves.whole; made = moves.made; ranks = ranks_more (more_new q) 1 w.threads v.threads (new_at_most q) moves.ranks; same = moves.same }

-- a thread is new
pub ranks_new : {S : Type 0} (w v : ThreadsBySlot S) (u : ℕ) (rank : ℤ) → v.queues ≡ entered queue.New rank u w.queues → KeepsRanks 1 w v
ranks_new w v u rank is = record {
  under = λ bound low h. subst (λ (x : QueuesOf). IsUnder bound x.ready) (sym is) h;
  fresh = (let n : length v.queues.new ≡ length (insert (record { rank = rank; holder = u }) w.queues.new) = ap (λ (x : QueuesOf). length x.new) is in omega (arith, length-insert (record { rank = rank; holder = u }) w.queues.new));
}

-- a thread is ready at its base priority
pub ready_at : (o : Option ℕ) (x y : QueuesOf) (prio : ℤ) → IsPrio prio → IfSome o (λ u. y ≡ entered queue.Ready prio u x) → IfSome o (λ u. (p : ℤ) × IsPrio p × (y ≡ entered queue.Ready p u x))
ready_at (Some u) x y prio is h = (prio, is, h)
ready_at None x y prio is h = tt
