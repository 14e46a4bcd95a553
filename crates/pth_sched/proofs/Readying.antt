-- New threads become ready, the last of them first.
use Rattle.std.proofs.Common.{◌≡◌, ℕ, ◌==◌, ◌+◌, ◌^◌, ◌<◌, ◌≤◌, ℤ, pos, ◌≤ℤ◌, Bool, true, false, not, cond, List, [], ◌∷◌, ◌++◌, map, reverse, length, count_by, Option, Some, None, IsSome, IfSome, refl, sym, ◌∙◌, ap, subst, arith}
use Rattle.std.proofs.lemmas.Int.{ints}
use Rattle.std.proofs.lemmas.List.{map-append, reverse-append}
use Rattle.std.proofs.lemmas.List.Elements.{All-head}
use Rattle.pth_base.proofs.Tables.{same_self}
use Rattle.pth_queue.specs.declared.ranked.Ranked.{Ranked}
use Rattle.pth_queue.specs.declared.queue.Queue.TheVariants as queues
use Rattle.pth_queue.specs.Ranking.{is_of, delete, favour_top, last_of, named_row}
use Rattle.pth_queue.specs.Queues.{QueuesOf, without, entered}
use Rattle.pth_queue.proofs.Counts.{count-cons, length-insert}
use Rattle.pth_threads.specs.Threads.{slot_of, tid_at}
use Rattle.pth_base.specs.declared.thread.ThreadState.TheVariants as state
use Rattle.pth_threads.specs.declared.entry.Change.TheVariants as change
use Rattle.pth_model.specs.State.{Control, queue}
use Rattle.pth_model.specs.Changes.{holders, leaves_queue, sets}
use Rattle.pth_model.specs.Pass.{is_ready_at}
use Rattle.pth_model.specs.Part.{new_rank, readies, readies_all, readies_new}
use Rattle.pth_model.proofs.Queues.{queue-enter_other, queue-leave}
use Rattle.pth_world.specs.World.{WorldOf, ThreadsBySlot}
use Rattle.pth_world.specs.Shows.{Shows}
use Rattle.pth_world.specs.Sound.{IsSound, IsKnown}
use Rattle.pth_world.specs.WellFormed.{IsIn}
use Rattle.pth_world.specs.Ranks.{IsUnder, greatest_return}
use Rattle.pth_world.proofs.QueueReads.{once_thread}
use Rattle.pth_world.proofs.Ranks.{under-bound, under-insert, under-delete}
use Rattle.pth_sched.specs.Passing.{HasRoom}
use Rattle.pth_sched.proofs.Keeping.{new_shorter, some_new}

-- ---- ranks

-- the top is one above the bound at most
pub top_under : (top bound : ℕ) (rows : List Ranked) → top ≤ 20 → greatest_return ≤ bound → IsUnder bound rows → favour_top top rows ≤ℤ pos (bound + 1)
top_under top bound [] most low under = omega (arith, ints)
top_under top bound (x ∷ xs) most low under =
    let first : x.rank ≤ℤ pos bound = All-head (λ (r : Ranked). r.rank ≤ℤ pos bound) x xs under in
    omega (arith, ints)

at_most : (rank : ℤ) (a : ℕ) → a ≤ 2 ^ 40 → rank ≤ℤ pos a → rank ≤ℤ pos (2 ^ 40)
at_most rank a low h = grind (arith, ints)

-- a new thread's rank is one that a queue takes
pub rank_room : {S : Type 0} (w : ThreadsBySlot S) (t : ℕ) (rank : ℤ) → IsKnown w t → IsIn queues.New w t → HasRoom w.queues → ((bound : ℕ) → greatest_return ≤ bound → IsUnder bound w.queues.ready → rank ≤ℤ pos (bound + 1)) → rank ≤ℤ pos (2 ^ 40)
rank_room w t rank known stands room low =
    let at = low room.bound room.low room.under in
    let some = some_new w t known stands in
    let few : room.bound + 1 ≤ 2 ^ 40 = (let f = room.few in omega arith) in
    at_most rank (room.bound + 1) few at

module _ {S : Type 0} (w v : ThreadsBySlot S) (t : ℕ) (rank : ℤ) (known : IsKnown w t) (stands : IsIn queues.New w t) (is : IfSome (slot_of w.records t) (λ u. v.queues ≡ entered queues.Ready rank u (without u w.queues))) where
  at_slot : (Q : Type 0) → ((u : ℕ) → v.queues ≡ entered queues.Ready rank u (without u w.queues) → Q) → Q
  at_slot Q f = by_slot (slot_of w.records t) known is
    where
      by_slot : (o : Option ℕ) → IsSome o → IfSome o (λ u. v.queues ≡ entered queues.Ready rank u (without u w.queues)) → Q
      by_slot (Some u) some h = f u h
      by_slot None some h = absurd (cc some)

  -- the bound is one higher
  pub ready_under : (bound : ℕ) → rank ≤ℤ pos (bound + 1) → IsUnder bound w.queues.ready → IsUnder (bound + 1) v.queues.ready
  ready_under bound low under = at_slot (IsUnder (bound + 1) v.queues.ready) (λ u e.
      subst (λ (x : QueuesOf). IsUnder (bound + 1) x.ready) (sym e)
      (under-insert (bound + 1) (record { rank = rank; holder = u }) (delete u w.queues.ready) low (under-delete (bound + 1) u w.queues.ready (under-bound bound (bound + 1) w.queues.ready (omega arith) under))))

  pub some_ready : 0 < length v.queues.ready
  some_ready = at_slot (0 < length v.queues.ready) (λ u e. subst (λ (x : QueuesOf). 0 < length x.ready) (sym e) (let more = length-insert (record { rank = rank; holder = u }) (delete u w.queues.ready) in omega (arith, more)))

  -- there is room for the others
  pub room_next : HasRoom w.queues → ((bound : ℕ) → greatest_return ≤ bound → IsUnder bound w.queues.ready → rank ≤ℤ pos (bound + 1)) → HasRoom v.queues
  room_next room low = record {
    bound = room.bound + 1;
    low = (let l = room.low in omega arith);
    under = ready_under room.bound (low room.bound room.low room.under) room.under;
    few = (let fewer = new_shorter w v t rank known stands is in let f = room.few in omega arith);
  }

-- from threads to others: the bound is higher by as much as the new threads are fewer, at most
pub record Rises {S : Type 0} (w v : ThreadsBySlot S) (bound : ℕ) : Type 0 where
  pub more : ℕ
  pub under : IsUnder (bound + more) v.queues.ready
  pub few : more + length v.queues.new ≤ length w.queues.new

module _ {S : Type 0} where
  pub rises_none : (w : ThreadsBySlot S) (bound : ℕ) → IsUnder bound w.queues.ready → Rises w w bound
  rises_none w bound under = record { more = 0; under = under-bound bound (bound + 0) w.queues.ready (omega arith) under; few = omega arith }

  pub rises_next : (u w v : ThreadsBySlot S) (t : ℕ) (rank : ℤ) (bound : ℕ) → IsKnown w t → IsIn queues.New w t → IfSome (slot_of w.records t) (λ u. v.queues ≡ entered queues.Ready rank u (without u w.queues)) → greatest_return ≤ bound
      → ((top : ℕ) → greatest_return ≤ top → IsUnder top w.queues.ready → rank ≤ℤ pos (top + 1)) → Rises u w bound → Rises u v bound
  rises_next u w v t rank bound known stands is low at_most r = record {
    more = r.more + 1;
    under = under-bound (bound + r.more + 1) (bound + (r.more + 1)) v.queues.ready (omega arith) (ready_under w v t rank known stands is (bound + r.more) (at_most (bound + r.more) (omega (arith, low)) r.under) r.under);
    few = (let fewer = new_shorter w v t rank known stands is in let f = r.few in omega arith);
  }

  pub rises_all : (w v : ThreadsBySlot S) (bound : ℕ) → Rises w v bound → IsUnder (bound + length w.queues.new) v.queues.ready
  rises_all w v bound r = under-bound (bound + r.more) (bound + length w.queues.new) v.queues.ready (let f = r.few in omega arith) r.under

-- ---- the order

record LastRow (rows : List Ranked) (t : ℕ) : Type 0 where
  front : List Ranked
  row : Ranked
  split : rows ≡ front ++ row ∷ []
  own : row.holder ≡ t

last_row : (t : ℕ) (rows : List Ranked) → last_of rows ≡ Some t → LastRow rows t
last_row t [] h = absurd (cc h)
last_row t (x ∷ []) h = record { front = []; row = x; split = refl; own = cc }
last_row t (x ∷ y ∷ ys) h =
    let l = last_row t (y ∷ ys) h in
    record { front = x ∷ l.front; row = l.row; split = ap (λ (r : List Ranked). x ∷ r) l.split; own = l.own }

count_last : (t : ℕ) (front : List Ranked) (r : Ranked) → r.holder ≡ t → 1 ≤ count_by (is_of t) (front ++ r ∷ [])
count_last t [] r own = let e : is_of t r ≡ true = ap (λ (n : ℕ). n == t) own ∙ same_self t in omega (arith, count-cons t r [], ap (λ (b : Bool). cond {A = ℕ} b 1 0) e)
count_last t (x ∷ front) r own = omega (arith, count-cons t x (front ++ r ∷ []), count_last t front r own)

delete_by : (t : ℕ) (x : Ranked) (rows front : List Ranked) (b : Bool) → cond {A = ℕ} b 1 0 + count_by (is_of t) rows ≤ 1 → 1 ≤ count_by (is_of t) rows → delete t rows ≡ front → cond (not b) (x ∷ delete t rows) (delete t rows) ≡ x ∷ front
delete_by t x rows front true once there h = absurd (omega (arith, once, there))
delete_by t x rows front false once there h = ap (λ (l : List Ranked). x ∷ l) h

-- the last row is taken out
delete_last : (t : ℕ) (front : List Ranked) (r : Ranked) → r.holder ≡ t → count_by (is_of t) (front ++ r ∷ []) ≤ 1 → delete t (front ++ r ∷ []) ≡ front
delete_last t [] r own once = rw (own, same_self t) refl
delete_last t (x ∷ front) r own once =
    delete_by t x (front ++ r ∷ []) front (is_of t x) (omega (arith, count-cons t x (front ++ r ∷ []), once)) (count_last t front r own)
    (delete_last t front r own (omega (arith, count-cons t x (front ++ r ∷ []), once)))

reversed : (front : List Ranked) (r : Ranked) → reverse (holders (front ++ r ∷ [])) ≡ r.holder ∷ reverse (holders front)
reversed front r = ap reverse (map-append (λ (x : Ranked). x.holder) front (r ∷ [])) ∙ reverse-append (holders front) (r.holder ∷ [])

module _ {P S H : Type 0} where
  new_left : (k : Control P S H) (t : ℕ) → queue (readies t k) queues.New ≡ delete t (queue k queues.New)
  unfolding readies is_ready_at sets
  new_left k t = queue-enter_other (sets t (change.State state.Ready) (leaves_queue t k)) t queues.New queues.Ready (new_rank k) k.scheduler.favour_new refl ∙ queue-leave k t queues.New

  -- the last new thread first, and then the others
  all_new_last : (w : WorldOf P S H) (k : Control P S H) (t : ℕ) → IsSound w.threads → Shows w k → last_of (queue k queues.New) ≡ Some t → readies_new (readies t k) ≡ readies_new k
  unfolding readies_all
  all_new_last w k t sound st last =
      let l = last_row t (queue k queues.New) last in
      let once = subst (λ (rows : List Ranked). count_by (is_of t) rows ≤ 1) l.split (once_thread w.threads k t queues.New sound st.threads) in
      let left : queue (readies t k) queues.New ≡ l.front = new_left k t ∙ ap (delete t) l.split ∙ delete_last t l.front l.row l.own once in
      ap (λ (rows : List Ranked). readies_all (reverse (holders rows)) (readies t k)) left
      ∙ ap (λ (u : ℕ). readies_all (u ∷ reverse (holders l.front)) k) (sym l.own)
      ∙ ap (λ (ts : List ℕ). readies_all ts k) (sym (reversed l.front l.row))
      ∙ ap (λ (rows : List Ranked). readies_all (reverse (holders rows)) k) (sym l.split)

  -- the world shows what is on the way to this
  pub record Comes (w : WorldOf P S H) (end : Control P S H) : Type 0 where
    pub control : Control P S H
    pub shows : Shows w control
    pub same : readies_new control ≡ end

  pub new_shows : (v : WorldOf P S H) (k : Control P S H) (t : ℕ) (rank : ℤ) (top : Bool) → rank ≡ new_rank k → top ≡ k.scheduler.favour_new → Shows v (is_ready_at t rank top k) → Shows v (readies t k)
  unfolding readies
  new_shows v k t rank top is favoured shows = subst (λ (r : ℤ). Shows v (is_ready_at t r k.scheduler.favour_new k)) is (subst (λ (b : Bool). Shows v (is_ready_at t rank b k)) favoured shows)

  pub comes_next : (w v : WorldOf P S H) (end : Control P S H) (t : ℕ) → IsSound w.threads → ((k : Control P S H) → Shows w k → Some t ≡ last_of (queue k queues.New)) → ((k : Control P S H) → Shows w k → Shows v (readies t k)) → Comes w end → Comes v end
  comes_next w v end t sound last shows c = record {
    control = readies t c.control;
    shows = shows c.control c.shows;
    same = all_new_last w c.control t sound c.shows (sym (last c.control c.shows)) ∙ c.same;
  }

  -- no thread is new: this is the end
  pub comes_end : (w : WorldOf P S H) (end : Control P S H) → w.threads.queues.new ≡ [] → Comes w end → Shows w end
  unfolding readies_all
  comes_end w end none c =
      let empty : queue c.control queues.New ≡ [] = c.shows.threads.standing queues.New ∙ ap (map (named_row (tid_at w.threads.records))) none in
      subst (Shows w) (sym (ap (λ (rows : List Ranked). readies_all (reverse (holders rows)) c.control) empty) ∙ c.same) c.shows
