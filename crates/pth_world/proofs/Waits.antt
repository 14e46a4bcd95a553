-- What is kept for the waits of ready threads stays what the trail tells, as threads move.
use Rattle.std.proofs.Common.{◌≡◌, ◌≢◌, ℕ, zero, suc, ◌+◌, ◌<◌, ◌≤◌, ◌==◌, Bool, true, false, cond, if◌then◌else◌, int_lt, ℤ, pos, List, [], ◌∷◌, ◌++◌, map, length, length-append, count_by, Contains, Option, Some, None, is_some, option_map, lt-ltb, refl, sym, ◌∙◌, ap, subst, arith}
use Rattle.pth_base.proofs.Tables.{same_self, put_other}
use Rattle.pth_queue.specs.declared.ranked.Ranked.{Ranked}
use Rattle.pth_queue.specs.declared.queue.Queue.{Queue}
use Rattle.pth_queue.specs.declared.queue.Queue.TheVariants.{New, Ready, Waiting, Suspended, Dead}
use Rattle.pth_base.specs.Limits.{thread_limit, last_count, most_steps}
use Rattle.pth_base.specs.Naming.{IsTied}
use Rattle.std.proofs.lemmas.List.{length-map}
use Rattle.std.proofs.lemmas.List.Elements.{All-nil, All-cons, All-head, All-tail, All-append, All-contains}
use Rattle.pth_queue.specs.Arena.{slots_of}
use Rattle.pth_queue.specs.Ranking.{is_of, named_row, IsQueued}
use Rattle.pth_queue.specs.Queues.{QueuesOf, IsRank, rows_of, queue_of, IsNowhere}
use Rattle.pth_queue.proofs.Counts.{count-cons, count-absent, count-present, fewer}
use Rattle.pth_queue.proofs.Sets.{once_in, holds-queue_of}
use Rattle.pth_threads.specs.Threads.{ThreadsOf, slot_of, tid_at, AddsThread, RemovesThread}
use Rattle.pth_threads.specs.declared.entry.Entry.{Entry}
use Rattle.pth_model.specs.Standing.{Standing, height, row_at, put_behind, order, shown, left_by, raises_of, is_queue}
use Rattle.pth_model.specs.Allowance.{Point, AreTakenReady, standing_of, waited, allowed, grace, number_by}
use Rattle.pth_model.specs.Order.{stands}
use Rattle.pth_model.specs.State.{Control}
use Rattle.pth_model.specs.Changes.{enters, leaves_queue, raises_ready, trails}
use Rattle.pth_model.specs.Part.{trail_with}
use Rattle.pth_model.specs.declared.progress.Progress.{Progress}
use Rattle.pth_model.proofs.Once.{stands-cons}
use Rattle.pth_tables.specs.Waits.{WaitsOf, KeptWaits, waits_of, enters_ready, leaves_ready, takes_ready, dispatched, reached_all, reached, seen_at_top, met, is_due, waited_by, allowed_by, allowed_taken, is_counting}
use Rattle.pth_tables.specs.declared.waits.Turn.{Turn}
use Rattle.pth_tables.specs.Counts.{Counts, IsCounted}
use Rattle.pth_tables.proofs.TrailsBefore.{AreSlotsOf}
use Rattle.pth_tables.specs.CountedOf.{CountedOf, KeptQueues, IsEntryRank, MayEnter, waits_with, waits_without}
use Rattle.std.proofs.lemmas.Int.{ints}
use Rattle.pth_tables.proofs.CountsKept.{counts_entered, counts_later, counts_left, counts_slots}
use Rattle.pth_tables.proofs.CountsTaken.{counts_taken, taken_waited, taken_allowed, ready_waited, ready_allowed}
use Rattle.pth_tables.proofs.TrailsCounted.{found-is, found-standing, left_none}
use Rattle.pth_world.specs.World.{ThreadsBySlot}
use Rattle.pth_world.specs.Shows.{ShowsThreads, IsHistory, CountsWaits, IsTurnOf}
use Rattle.pth_world.specs.Sound.{IsSound, IsPrio}
use Rattle.pth_world.proofs.Places.{nowhere-holds}
use Rattle.pth_world.proofs.QueueReads.{count-named, count-unknown}

-- the parts of what is counted
abbrev pub queues_in : CountedOf → QueuesOf
queues_in c = c.queues

abbrev pub waits_in : CountedOf → WaitsOf
waits_in c = c.waits

abbrev pub kept_queues : KeptQueues → QueuesOf
kept_queues c = c.queues

abbrev pub kept_waits : KeptQueues → WaitsOf
kept_waits c = waits_of c.waits

pub rank_of_entry : (rank : ℤ) → IsEntryRank rank → IsRank rank
rank_of_entry rank fits = (let low = fits.low in let high = fits.high in record { low = grind (arith, ints); high = high })

-- at such a rank a thread may enter any queue; a base priority is one, and so is 0
pub may_enter : (q : Queue) (rank : ℤ) → IsEntryRank rank → MayEnter q rank
may_enter q rank fits = record { taken = rank_of_entry rank fits; ready = λ is. fits }

pub prio_enters : (q : Queue) (prio : ℤ) → IsPrio prio → MayEnter q prio
prio_enters q prio h = may_enter q prio (let low = h.low in let high = h.high in record { low = low; high = grind (arith, ints) })

pub zero_enters : (q : Queue) → MayEnter q (pos 0)
zero_enters q = may_enter q (pos 0) (record { low = omega (arith, ints); high = omega (arith, ints) })

some_same : {A : Type 0} {x y : A} → Some x ≡ Some y → x ≡ y
some_same e = cc

-- the grace of a ready thread is what is kept of it
its_grace : (slot : ℕ → Option ℕ) (x : WaitsOf) (trail : List Point) (ready : List Standing) (entries : ℕ) → Counts slot x trail ready entries → (t u : ℕ) (s : Standing) → standing_of t ready ≡ Some s → slot t ≡ Some u → grace x.top s.rank ≡ (x.waits u).grace
its_grace slot x trail ready entries c t u s found e =
    let place = found-is t ready s found in
    let n = All-contains (IsCounted slot x trail) ready s c.counted place.1 in
    let own : n.at ≡ u = some_same (sym n.has_slot ∙ ap slot place.0 ∙ e) in
    sym n.first ∙ ap (λ (m : ℕ). (x.waits m).grace) own

found_by : (t : ℕ) (x : Standing) (xs : List Standing) (b : Bool) → (x.tid == t) ≡ b → cond {A = ℕ} b 1 0 + stands t xs ≡ 0 → standing_of t xs ≡ None → cond b (Some x) (standing_of t xs) ≡ None
found_by t x xs true test none h = absurd (omega (arith, none))
found_by t x xs false test none h = h

found-none : (t : ℕ) (all : List Standing) → stands t all ≡ 0 → standing_of t all ≡ None
found-none t [] none = refl
found-none t (x ∷ xs) none = found_by t x xs (x.tid == t) refl (sym (stands-cons t x xs) ∙ none) (found-none t xs (omega (arith, none, stands-cons t x xs)))

-- ---- how often a thread stands in a queue that is shown

count-rows : (raises t : ℕ) (xs : List Standing) → count_by (is_of t) (map (row_at raises) xs) ≡ stands t xs
count-rows raises t [] = refl
count-rows raises t (x ∷ xs) =
    count-cons t (row_at raises x) (map (row_at raises) xs)
    ∙ ap (λ (n : ℕ). cond (x.tid == t) 1 0 + n) (count-rows raises t xs)
    ∙ sym (stands-cons t x xs)

put_by : (t : ℕ) (s x : Standing) (xs : List Standing) (b : Bool) → stands t (put_behind s xs) ≡ stands t (s ∷ xs) → stands t (if b then s ∷ x ∷ xs else x ∷ put_behind s xs) ≡ stands t (s ∷ x ∷ xs)
put_by t s x xs true h = refl
put_by t s x xs false h = omega (arith, h, stands-cons t x (put_behind s xs), stands-cons t s xs, stands-cons t s (x ∷ xs), stands-cons t x xs)

stands-put : (t : ℕ) (s : Standing) (xs : List Standing) → stands t (put_behind s xs) ≡ stands t (s ∷ xs)
unfolding put_behind
stands-put t s [] = refl
stands-put t s (x ∷ xs) = put_by t s x xs (int_lt (height x) (height s)) (stands-put t s xs)

stands-order : (t : ℕ) (all : List Standing) → stands t (order all) ≡ stands t all
unfolding order
stands-order t [] = refl
stands-order t (s ∷ all) = omega (arith, stands-put t s (order all), stands-order t all, stands-cons t s (order all), stands-cons t s all)

stands-shown : (raises t : ℕ) (all : List Standing) → count_by (is_of t) (shown raises all) ≡ stands t all
unfolding shown
stands-shown raises t all = count-rows raises t (order all) ∙ stands-order t all

-- whoever stands there stands there once at least
contains-stands : (z : Standing) (xs : List Standing) → Contains xs z → 1 ≤ stands z.tid xs
contains-stands z [] h = absurd (omega (arith, h.1))
contains-stands z (x ∷ xs) (zero, low, same) =
    let here : cond {A = ℕ} (x.tid == z.tid) 1 0 ≡ 1 = ap (λ (y : Standing). cond {A = ℕ} (y.tid == z.tid) 1 0) same ∙ ap (λ (b : Bool). cond {A = ℕ} b 1 0) (same_self z.tid) in
    omega (arith, here, stands-cons z.tid x xs)
contains-stands z (x ∷ xs) (suc i, low, same) = omega (arith, stands-cons z.tid x xs, contains-stands z xs (i, omega (arith, low), same))

module _ {P S H : Type 0} (w : ThreadsBySlot S) (k : Control P S H) (sound : IsSound w) (sh : ShowsThreads k.top w k.threads) where
  -- a thread stands as often as its slot
  stands-slot : (t u : ℕ) (q : Queue) → slot_of w.records t ≡ Some u → stands t (k.threads.standing q) ≡ count_by (is_of u) (rows_of q w.queues)
  stands-slot t u q e =
      sym (stands-shown (raises_of k.threads.raises q) t (k.threads.standing q))
      ∙ ap (count_by (is_of t)) (sh.standing q)
      ∙ count-named (slot_of w.records) (tid_at w.records) t u (rows_of q w.queues) sound.tied e (sound.queued q)

  nobody : (t u : ℕ) (q : Queue) → slot_of w.records t ≡ Some u → IsNowhere u w.queues → stands t (k.threads.standing q) ≡ 0
  nobody t u q e nowhere = stands-slot t u q e ∙ count-absent u (rows_of q w.queues) (nowhere-holds u w.queues nowhere q)

  other_tid : (t : ℕ) (z : Standing) → stands t (k.threads.standing Ready) ≡ 0 → Contains (k.threads.standing Ready) z → z.tid ≢ t
  other_tid t z none here same =
      let one : 1 ≤ stands t (k.threads.standing Ready) = subst (λ (n : ℕ). 1 ≤ stands n (k.threads.standing Ready)) same (contains-stands z (k.threads.standing Ready) here) in
      omega (arith, one, none)

  -- who stands in another queue is not ready
  elsewhere : (t u : ℕ) (q : Queue) → slot_of w.records t ≡ Some u → queue_of u w.queues ≡ Some q → count_by (is_of u) (rows_of q w.queues) + count_by (is_of u) w.queues.ready ≤ 1 → stands t (k.threads.standing Ready) ≡ 0
  elsewhere t u q e at once = stands-slot t u Ready e ∙ omega (arith, once, count-present u (rows_of q w.queues) (holds-queue_of q u w.queues at))

  not_ready : (t u : ℕ) → slot_of w.records t ≡ Some u → (p : Option Queue) → queue_of u w.queues ≡ p → (p ≡ Some Ready → ⊥) → stands t (k.threads.standing Ready) ≡ 0
  not_ready t u e None at other = nobody t u Ready e at
  not_ready t u e (Some Ready) at other = absurd (other refl)
  not_ready t u e (Some New) at other = elsewhere t u New e at (omega (arith, sound.orderly.once u))
  not_ready t u e (Some Waiting) at other = elsewhere t u Waiting e at (omega (arith, sound.orderly.once u))
  not_ready t u e (Some Suspended) at other = elsewhere t u Suspended e at (omega (arith, sound.orderly.once u))
  not_ready t u e (Some Dead) at other = elsewhere t u Dead e at (omega (arith, sound.orderly.once u))

  stands_ready : (t u : ℕ) → slot_of w.records t ≡ Some u → queue_of u w.queues ≡ Some Ready → 1 ≤ stands t (k.threads.standing Ready)
  stands_ready t u e at = (let n = stands-slot t u Ready e in omega (arith, n, count-present u w.queues.ready (holds-queue_of Ready u w.queues at)))

  -- who is not ready has no place among the ready
  pub no_place : (t u : ℕ) → slot_of w.records t ≡ Some u → (queue_of u w.queues ≡ Some Ready → ⊥) → standing_of t (k.threads.standing Ready) ≡ None
  no_place t u e other = found-none t (k.threads.standing Ready) (not_ready t u e (queue_of u w.queues) refl other)

  pub no_place_unknown : (t : ℕ) → slot_of w.records t ≡ None → standing_of t (k.threads.standing Ready) ≡ None
  no_place_unknown t e = found-none t (k.threads.standing Ready) (
      sym (stands-shown k.threads.raises t (k.threads.standing Ready))
      ∙ ap (count_by (is_of t)) (sh.standing Ready)
      ∙ count-unknown (slot_of w.records) (tid_at w.records) t w.queues.ready sound.tied e (sound.queued Ready))

  -- what is kept of a ready thread tells its wait so far
  module _ (t u : ℕ) (e : slot_of w.records t ≡ Some u) (at : queue_of u w.queues ≡ Some Ready) (h : IsHistory k.threads.trail) where
    its_place : (s : Standing) × (standing_of t (k.threads.standing Ready) ≡ Some s)
    its_place = found-standing t (k.threads.standing Ready) (stands_ready t u e at)

    pub waited_is : (n : ℕ) → n ≡ waited_by u (waits_of w.waits) → Some n ≡ option_map (waited k.threads.trail) (standing_of t (k.threads.standing Ready))
    waited_is n is = ap Some (is ∙ ready_waited _ _ _ _ _ (sh.waits h).counts t u its_place.0 its_place.1 e) ∙ sym (ap (option_map (waited k.threads.trail)) its_place.1)

    pub allowed_is : (n : ℕ) → n ≡ allowed_by u (waits_of w.waits) → ((waits_of w.waits).waits u).grace < 64 → Some n ≡ option_map (allowed k.top k.threads.trail) (standing_of t (k.threads.standing Ready))
    allowed_is n is brief =
        let c = (sh.waits h).counts in
        let grace_is = its_grace _ _ _ _ _ c t u its_place.0 its_place.1 e in
        let top_is = (sh.waits h).top in
        ap Some (is ∙ ready_allowed _ _ _ _ _ c t u its_place.0 its_place.1 e (omega (arith, brief, grace_is)) (omega (arith, h.few)) ∙ ap (λ (m : ℕ). allowed m k.threads.trail its_place.0) (sym top_is))
        ∙ sym (ap (option_map (allowed k.top k.threads.trail)) its_place.1)

  -- ---- a thread enters a queue, or leaves its queue

  module _ (t u : ℕ) (e : slot_of w.records t ≡ Some u) (h : IsHistory k.threads.trail) where
    counts : Counts (slot_of w.records) (waits_of w.waits) k.threads.trail (k.threads.standing Ready) k.threads.entries
    counts = (sh.waits h).counts

    enters_counts : (q : Queue) (rank : ℤ) (top : Bool) (since : ℕ) → IsNowhere u w.queues
        → Counts (slot_of w.records) (waits_with q u rank top (waits_of w.waits)) k.threads.trail (if is_queue Ready q then record { tid = t; rank = rank; since = since; entry = k.threads.entries; top = top } ∷ k.threads.standing Ready else k.threads.standing Ready) (k.threads.entries + 1)
    enters_counts Ready rank top since nowhere =
        let none = nobody t u Ready e nowhere in
        counts_entered _ _ _ _ _ counts (record { tid = t; rank = rank; since = since; entry = k.threads.entries; top = top }) u e none
        (λ z here same. other_tid t z none here (sym (sound.tied.tid z.tid u same) ∙ sound.tied.tid t u e)) refl
    enters_counts New rank top since nowhere = counts_later _ _ _ _ _ counts
    enters_counts Waiting rank top since nowhere = counts_later _ _ _ _ _ counts
    enters_counts Suspended rank top since nowhere = counts_later _ _ _ _ _ counts
    enters_counts Dead rank top since nowhere = counts_later _ _ _ _ _ counts

    top_with : (q : Queue) (rank : ℤ) (top : Bool) → (waits_with q u rank top (waits_of w.waits)).top ≡ w.waits.top
    unfolding enters_ready
    top_with Ready rank top = refl
    top_with New rank top = refl
    top_with Waiting rank top = refl
    top_with Suspended rank top = refl
    top_with Dead rank top = refl

    pub enter_waits : (y : QueuesOf) (z : KeptWaits) (q : Queue) (rank : ℤ) (top : Bool) → IsNowhere u w.queues → waits_of z ≡ waits_with q u rank top (waits_of w.waits) → CountsWaits k.top (record w { queues = y; waits = z }) (enters t q rank top k).threads
    unfolding enters
    enter_waits y z q rank top nowhere is = record {
      top = (sh.waits h).top ∙ sym (ap (λ (x : WaitsOf). x.top) is ∙ top_with q rank top);
      counts = subst (λ (x : WaitsOf). Counts (slot_of w.records) x k.threads.trail (if is_queue Ready q then record { tid = t; rank = rank; since = raises_of k.threads.raises q; entry = k.threads.entries; top = top } ∷ k.threads.standing Ready else k.threads.standing Ready) (k.threads.entries + 1))
          (sym is) (enters_counts q rank top (raises_of k.threads.raises q) nowhere);
    }

    stays_counts : (p : Option Queue) → queue_of u w.queues ≡ p → (p ≡ Some Ready → ⊥) → Counts (slot_of w.records) (waits_of w.waits) k.threads.trail (left_by t (k.threads.standing Ready)) k.threads.entries
    stays_counts p at other = subst (λ (l : List Standing). Counts (slot_of w.records) (waits_of w.waits) k.threads.trail l k.threads.entries) (sym (left_none t (k.threads.standing Ready) (not_ready t u e p at other))) counts

    left_counts : (p : Option Queue) → queue_of u w.queues ≡ p → Counts (slot_of w.records) (waits_without p u (waits_of w.waits)) k.threads.trail (left_by t (k.threads.standing Ready)) k.threads.entries
    left_counts (Some Ready) at = counts_left _ _ _ _ _ counts t u e (stands_ready t u e at)
    left_counts (Some New) at = stays_counts (Some New) at (λ same. cc)
    left_counts (Some Waiting) at = stays_counts (Some Waiting) at (λ same. cc)
    left_counts (Some Suspended) at = stays_counts (Some Suspended) at (λ same. cc)
    left_counts (Some Dead) at = stays_counts (Some Dead) at (λ same. cc)
    left_counts None at = stays_counts None at (λ same. cc)

    top_without : (p : Option Queue) → (waits_without p u (waits_of w.waits)).top ≡ w.waits.top
    unfolding leaves_ready
    top_without (Some Ready) = refl
    top_without (Some New) = refl
    top_without (Some Waiting) = refl
    top_without (Some Suspended) = refl
    top_without (Some Dead) = refl
    top_without None = refl

    pub leave_waits : (y : QueuesOf) (z : KeptWaits) → waits_of z ≡ waits_without (queue_of u w.queues) u (waits_of w.waits) → CountsWaits k.top (record w { queues = y; waits = z }) (leaves_queue t k).threads
    unfolding leaves_queue
    leave_waits y z is = record {
      top = (sh.waits h).top ∙ sym (ap (λ (x : WaitsOf). x.top) is ∙ top_without (queue_of u w.queues));
      counts = subst (λ (x : WaitsOf). Counts (slot_of w.records) x k.threads.trail (left_by t (k.threads.standing Ready)) k.threads.entries) (sym is) (left_counts (queue_of u w.queues) refl);
    }

  -- ---- records change

  -- the ready threads have the slots that they had
  slots_waits : (x : ThreadsOf) (y : List (Option (Progress S))) (m : ℕ) (j : ℕ → Option Entry) (p : ℕ → Option (Progress S)) → ((z : Standing) → Contains (k.threads.standing Ready) z → slot_of x z.tid ≡ slot_of w.records z.tid) → IsHistory k.threads.trail
      → CountsWaits k.top (record w { records = x; progress = y }) (record k.threads { made = m; known = j; progress = p })
  slots_waits x y m j p same h = record { top = (sh.waits h).top; counts = counts_slots _ _ _ _ _ (sh.waits h).counts (slot_of x) same }

  pub change_waits : (x : ThreadsOf) (y : List (Option (Progress S))) (j : ℕ → Option Entry) (p : ℕ → Option (Progress S)) → slot_of x ≡ slot_of w.records → IsHistory k.threads.trail → CountsWaits k.top (record w { records = x; progress = y }) (record k.threads { known = j; progress = p })
  change_waits x y j p slots h = record { top = (sh.waits h).top; counts = subst (λ (g : ℕ → Option ℕ). Counts g (waits_of w.waits) k.threads.trail (k.threads.standing Ready) k.threads.entries) (sym slots) (sh.waits h).counts }

  -- the thread at a slot is gone, once it stands nowhere
  pub drop_waits : (t u : ℕ) (x : ThreadsOf) (y : List (Option (Progress S))) (j : ℕ → Option Entry) (p : ℕ → Option (Progress S)) → slot_of w.records t ≡ Some u → IsNowhere u w.queues → RemovesThread w.records x u → IsHistory k.threads.trail
      → CountsWaits k.top (record w { records = x; progress = y }) (record k.threads { known = j; progress = p })
  drop_waits t u x y j p e nowhere gone h = slots_waits x y k.threads.made j p (λ z here. ap (λ (g : ℕ → Option ℕ). g z.tid) gone.slots ∙ put_other (slot_of w.records) (tid_at w.records u) None z.tid (λ same. other_tid t z (nobody t u Ready e nowhere) here (same ∙ sound.tied.tid t u e))) h

  -- a new thread was not ready
  pub add_waits : (x : ThreadsOf) (y : List (Option (Progress S))) (u : ℕ) (d : Entry) (m : ℕ) (j : ℕ → Option Entry) (p : ℕ → Option (Progress S)) → AddsThread w.records x u d → IsHistory k.threads.trail → CountsWaits k.top (record w { records = x; progress = y }) (record k.threads { made = m; known = j; progress = p })
  add_waits x y u d m j p adds h = slots_waits x y m j p (λ z here. ap (λ (g : ℕ → Option ℕ). g z.tid) adds.slots ∙ put_other (slot_of w.records) d.tid.0 (Some u) z.tid (λ same. known_slot (sh.waits h).counts z here (ap (slot_of w.records) same ∙ adds.unknown))) h
    where
      known_slot : Counts (slot_of w.records) (waits_of w.waits) k.threads.trail (k.threads.standing Ready) k.threads.entries → (z : Standing) → Contains (k.threads.standing Ready) z → slot_of w.records z.tid ≡ None → ⊥
      known_slot c z here none = (let is = (All-contains (IsCounted (slot_of w.records) (waits_of w.waits) k.threads.trail) (k.threads.standing Ready) z c.counted here).has_slot in cc)

  -- the ready queue is raised
  pub raise_waits : (y : QueuesOf) (z : KeptWaits) → waits_of z ≡ waits_of w.waits → IsHistory k.threads.trail → CountsWaits k.top (record w { queues = y; waits = z }) (raises_ready k).threads
  unfolding raises_ready
  raise_waits y z is h = record {
    top = (sh.waits h).top ∙ sym (ap (λ (x : WaitsOf). x.top) is);
    counts = subst (λ (x : WaitsOf). Counts (slot_of w.records) x k.threads.trail (k.threads.standing Ready) k.threads.entries) (sym is) (sh.waits h).counts;
  }

-- ---- nobody is ready

length-put : (s : Standing) (xs : List Standing) → length (put_behind s xs) ≡ suc (length xs)
unfolding put_behind
length-put s [] = refl
length-put s (x ∷ xs) = by_test (int_lt (height x) (height s)) (length-put s xs)
  where
    by_test : (b : Bool) → length (put_behind s xs) ≡ suc (length xs) → length (if b then s ∷ x ∷ xs else x ∷ put_behind s xs) ≡ suc (suc (length xs))
    by_test true h = refl
    by_test false h = ap suc h

length-order : (all : List Standing) → length (order all) ≡ length all
unfolding order
length-order [] = refl
length-order (s ∷ all) = length-put s (order all) ∙ ap suc (length-order all)

none_left : (all : List Standing) → length (order all) ≡ 0 → all ≡ []
none_left [] h = refl
none_left (s ∷ all) h = absurd (let l = length-order (s ∷ all) in omega (arith, h, l))

-- where nobody is ready, no wait is kept, whoever is in the system
pub none_waits : {P S H : Type 0} (w : ThreadsBySlot S) (k : Control P S H) → IsSound w → ShowsThreads k.top w k.threads → w.queues.ready ≡ [] → (j : ℕ → Option Entry) (p : ℕ → Option (Progress S)) → IsHistory k.threads.trail → CountsWaits k.top w (record k.threads { known = j; progress = p; standing = λ q. [] })
unfolding shown
none_waits w k sound sh none j p h =
    let empty : k.threads.standing Ready ≡ [] = none_left (k.threads.standing Ready) (sym (length-map (order (k.threads.standing Ready)) (row_at k.threads.raises)) ∙ ap (λ (l : List Ranked). length l) (sh.standing Ready ∙ ap (map (named_row (tid_at w.records))) none)) in
    record { top = (sh.waits h).top; counts = subst (λ (l : List Standing). Counts (slot_of w.records) (waits_of w.waits) k.threads.trail l k.threads.entries) empty (sh.waits h).counts }

-- ---- a thread is dispatched

all_before : (xs ys : List Point) → AreTakenReady (xs ++ ys) → AreTakenReady xs
all_before [] ys h = All-nil (λ p. is_some (standing_of p.taken p.ready) ≡ true)
all_before (x ∷ xs) ys h = All-cons (λ p. is_some (standing_of p.taken p.ready) ≡ true) x xs (All-head (λ p. is_some (standing_of p.taken p.ready) ≡ true) x (xs ++ ys) h) (all_before xs ys (All-tail (λ p. is_some (standing_of p.taken p.ready) ≡ true) x (xs ++ ys) h))

-- the dispatches before the last one are those of a run too
before_last : (trail : List Point) (p : Point) → IsHistory (trail ++ p ∷ []) → IsHistory trail
before_last trail p h = record { taken = all_before trail (p ∷ []) h.taken; few = (let l = length-append trail (p ∷ []) in omega (arith, h.few, l)) }

-- the slots of rows are those of the threads that they show
slots_are : (g : ℕ → Option ℕ) (f : ℕ → ℕ) (raises : ℕ) (ss : List Standing) (rows : List Ranked) → IsTied g f → IsQueued f rows → map (row_at raises) ss ≡ map (named_row f) rows → AreSlotsOf g (slots_of rows) ss
slots_are g f raises [] [] tied queued same = tt
slots_are g f raises [] (r ∷ rows) tied queued same = absurd (cc same)
slots_are g f raises (s ∷ ss) [] tied queued same = absurd (cc same)
slots_are g f raises (s ∷ ss) (r ∷ rows) tied queued same =
    let first : row_at raises s ≡ named_row f r = cc in
    let rest : map (row_at raises) ss ≡ map (named_row f) rows = cc in
    (ap (λ (x : Ranked). g x.holder) first ∙ tied.slot r.holder queued.0, slots_are g f raises ss rows tied queued.1 rest)

-- what a dispatch leaves of the greatest base priority
top_reached : (place : ℕ) (slots : List ℕ) (x : WaitsOf) → (reached_all place slots x).top ≡ x.top
unfolding reached_all reached
top_reached place [] x = refl
top_reached place (s ∷ ss) x = by_due (is_due (reached_all (suc place) ss x) s) ∙ top_reached (suc place) ss x
  where
    by_due : (b : Bool) → (if b then reached s place (reached_all (suc place) ss x) else reached_all (suc place) ss x).top ≡ (reached_all (suc place) ss x).top
    by_due true = refl
    by_due false = refl

top_taken : (by_name : Bool) (slots : List ℕ) (x : WaitsOf) → (takes_ready by_name slots x).top ≡ x.top
unfolding takes_ready dispatched seen_at_top
top_taken by_name slots x = by_count (is_counting x)
  where
    by_count : (b : Bool) → (if b then dispatched by_name (met slots x) else x).top ≡ x.top
    by_count true = top_reached 0 slots (seen_at_top x)
    by_count false = refl

module _ {P S H : Type 0} (w : ThreadsBySlot S) (k : Control P S H) (sound : IsSound w) (sh : ShowsThreads k.top w k.threads) (t u : ℕ) (e : slot_of w.records t ≡ Some u) (at : queue_of u w.queues ≡ Some Ready) (h : IsHistory (trail_with t k)) where
  abbrev pub ready : List Standing
  ready = k.threads.standing Ready

  before : CountsWaits k.top w k.threads
  before = sh.waits (before_last k.threads.trail _ h)

  pub place : (s : Standing) × (standing_of t ready ≡ Some s)
  place = found-standing t ready (stands_ready w k sound sh t u e at)

  are : AreSlotsOf (slot_of w.records) (slots_of w.queues.ready) (order ready)
  unfolding shown
  are = slots_are (slot_of w.records) (tid_at w.records) k.threads.raises (order ready) w.queues.ready sound.tied (sound.queued Ready) (sh.standing Ready)

  counting : is_counting (waits_of w.waits) ≡ true
  counting = lt-ltb w.waits.dispatches last_count (let l = length-append k.threads.trail (record { ready = ready; taken = t; by_name = is_some k.scheduler.preferred } ∷ []) in omega (arith, before.counts.dispatches, h.few, l))

  few : length ready ≤ thread_limit
  unfolding shown
  few =
      let rows : length (map (row_at k.threads.raises) (order ready)) ≡ length (map (named_row (tid_at w.records)) w.queues.ready) = ap (λ (l : List Ranked). length l) (sh.standing Ready) in
      omega (
        arith,
        rows,
        length-map (order ready) (row_at k.threads.raises),
        length-map w.queues.ready (named_row (tid_at w.records)),
        length-order ready,
        fewer w.queues.room w.queues.ready (sound.orderly.each Ready).slots (λ s. once_in Ready s w.queues sound.orderly),
        sound.orderly.few,
      )

  counted_at : (z : Standing) → Contains ready z → IsCounted (slot_of w.records) (waits_of w.waits) k.threads.trail z
  counted_at z here = All-contains (IsCounted (slot_of w.records) (waits_of w.waits) k.threads.trail) ready z before.counts.counted here

  apart : (z y : Standing) → Contains ready z → Contains ready y → slot_of w.records z.tid ≡ slot_of w.records y.tid → z.tid ≡ y.tid
  apart z y here there same = (let a = counted_at z here in sym (sound.tied.tid z.tid a.at a.has_slot) ∙ sound.tied.tid y.tid a.at (sym same ∙ a.has_slot))

  abbrev now : Point
  now = record { ready = ready; taken = t; by_name = is_some k.scheduler.preferred }

  pub take_waits : (y : QueuesOf) (x : KeptWaits) → waits_of x ≡ takes_ready (is_some k.scheduler.preferred) (slots_of w.queues.ready) (waits_of w.waits) → CountsWaits k.top (record w { queues = y; waits = x }) (leaves_queue t (trails (trail_with t k) k)).threads
  unfolding leaves_queue trails
  take_waits y x is = record {
    top = before.top ∙ sym (ap (λ (z : WaitsOf). z.top) is ∙ top_taken (is_some k.scheduler.preferred) (slots_of w.queues.ready) (waits_of w.waits));
    counts = subst (λ (z : WaitsOf). Counts (slot_of w.records) z (trail_with t k) (left_by t ready) k.threads.entries) (sym is)
        (counts_taken _ _ k.threads.trail now _ before.counts (slots_of w.queues.ready) are apart place.0 place.1 few counting);
  }

  turn_numbers : (turn : Turn) → grace w.waits.top place.0.rank ≤ 64 → turn.waited ≡ waited_by u (met (slots_of w.queues.ready) (waits_of w.waits)) → turn.allowed ≡ allowed_taken u (met (slots_of w.queues.ready) (waits_of w.waits)) → IsTurnOf k t turn
  turn_numbers turn brief waits allows = record {
    waited = waits ∙ taken_waited _ _ k.threads.trail now _ before.counts (slots_of w.queues.ready) are apart place.0 place.1 u e ∙ sym (ap (number_by (waited (trail_with t k))) place.1);
    allowed = allows ∙ taken_allowed _ _ k.threads.trail now _ before.counts (slots_of w.queues.ready) are apart place.0 place.1 few u e brief (let l = length-append k.threads.trail (record { ready = ready; taken = t; by_name = is_some k.scheduler.preferred } ∷ []) in omega (arith, h.few, l))
        ∙ ap (λ (n : ℕ). allowed n (trail_with t k) place.0) (sym before.top) ∙ sym (ap (number_by (allowed k.top (trail_with t k))) place.1);
  }

  -- the grace of its place is what is kept of it
  grace_is : grace w.waits.top place.0.rank ≡ ((waits_of w.waits).waits u).grace
  grace_is = its_grace _ _ _ _ _ before.counts t u place.0 place.1 e

-- a thread is dispatched after those of a run
module _ {P S H : Type 0} (w : ThreadsBySlot S) (k : Control P S H) (sound : IsSound w) (sh : ShowsThreads k.top w k.threads) (t u : ℕ) (e : slot_of w.records t ≡ Some u) (at : queue_of u w.queues ≡ Some Ready) (taken : AreTakenReady k.threads.trail) (low : length k.threads.trail ≤ most_steps) where
  abbrev with_t : IsHistory (trail_with t k)
  with_t = record {
    taken = All-append (λ p. is_some (standing_of p.taken p.ready) ≡ true) k.threads.trail _ taken
        (All-cons (λ p. is_some (standing_of p.taken p.ready) ≡ true) (record { ready = k.threads.standing Ready; taken = t; by_name = is_some k.scheduler.preferred }) [] (ap is_some (found-standing t (k.threads.standing Ready) (stands_ready w k sound sh t u e at)).1) (All-nil (λ p. is_some (standing_of p.taken p.ready) ≡ true)));
    few = (let l = length-append k.threads.trail (record { ready = k.threads.standing Ready; taken = t; by_name = is_some k.scheduler.preferred } ∷ []) in omega (arith, low, l));
  }

  pub turn_is : (turn : Turn) → ((waits_of w.waits).waits u).grace < 64 → (is_counting (waits_of w.waits) ≡ true → turn.waited ≡ waited_by u (met (slots_of w.queues.ready) (waits_of w.waits))) → (is_counting (waits_of w.waits) ≡ true → turn.allowed ≡ allowed_taken u (met (slots_of w.queues.ready) (waits_of w.waits))) → IsTurnOf k t turn
  turn_is turn brief waits allows =
      let on = counting w k sound sh t u e at with_t in
      turn_numbers w k sound sh t u e at with_t turn (let g = grace_is w k sound sh t u e at with_t in omega (arith, brief, g)) (waits on) (allows on)
