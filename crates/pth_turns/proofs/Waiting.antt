-- Who stands among the waiting threads, or has the state of one: what the parts of a run keep of it. And what a step keeps of the moment
-- and of who runs.
use Rattle.std.proofs.Common.{◌≡◌, ◌≢◌, ◌≤◌, ◌<◌, ℕ, ◌+◌, ◌==◌, not, Bool, true, false, if◌then◌else◌, ℤ, pos, List, [], ◌∷◌, map, filter, All, Option, Some, None, option_map, ◌⊎◌, inl, inr, refl, sym, ◌∙◌, ap, subst, arith}
use Rattle.std.proofs.lemmas.Bool.{true≢false}
use Rattle.std.proofs.lemmas.List.Elements.{All-nil, All-cons, All-head, All-tail}
use Rattle.std.proofs.lemmas.Option.{none-some, same_Some}
use Rattle.pth_queue.specs.Ranking.{head_of}
use Rattle.pth_queue.specs.declared.ranked.Ranked.{Ranked}
use Rattle.pth_base.specs.Chain.{StandsIn, Distinct}
use Rattle.pth_base.specs.Program.{Functions}
use Rattle.pth_base.specs.Table.{put}
use Rattle.pth_base.specs.declared.thread.ThreadState.{ThreadState}
use Rattle.pth_base.specs.declared.thread.ThreadState.TheVariants as state
use Rattle.pth_base.proofs.Tables.{same_means, same_fails, put_by, put_other}
use Rattle.pth_queue.specs.declared.queue.Queue.{Queue}
use Rattle.pth_queue.specs.declared.queue.Queue.TheVariants.{New, Ready, Waiting, Suspended, Dead}
use Rattle.pth_threads.specs.Threads.{changed, made_of}
use Rattle.pth_threads.specs.declared.entry.Change.{Change}
use Rattle.pth_threads.specs.declared.entry.Change.TheVariants as change
use Rattle.pth_threads.specs.declared.entry.Entry.{Entry}
use Rattle.pth_threads.specs.declared.entry.NewThread.{NewThread}
use Rattle.pth_model.specs.Standing.{Standing, is_queue, left_by, raises_of, put_behind, order, row_at, shown}
use Rattle.pth_model.specs.State.{Control, Scheduler, Threads}
use Rattle.pth_model.specs.Changes.{sets, enters, leaves_queue, makes, forgets, removes, goes_on, prefers, or_nobody, entry_of, queue_for, holders}
use Rattle.pth_model.specs.Ending.{leaves, is_dead_with, other_than}
use Rattle.pth_model.specs.LibraryControl.{vanish_all_but}
use Rattle.pth_model.specs.Pass.{is_ready_at}
use Rattle.pth_model.specs.ThreadControl.{may_run, spawns, suspends, resumes, returns_to}
use Rattle.pth_model.specs.declared.progress.Progress.{Progress}
use Rattle.pth_model.proofs.Queues.{is_queue_same}
use Rattle.pth_model.proofs.Walks.{KeptBy}
use Rattle.pth_laws.proofs.Along.{standers, left_stands}
use Rattle.pth_laws.proofs.Living.{set_state, request_state}

-- ---- lists

pub all_at : (P : ℕ → Type 0) (xs : List ℕ) (u : ℕ) → All P xs → StandsIn u xs → P u
all_at P [] u all h = absurd h
all_at P (x ∷ xs) u all (inl here) = subst P (sym here) (All-head P x xs all)
all_at P (x ∷ xs) u all (inr h) = all_at P xs u (All-tail P x xs all) h

pub all_standing : (P : ℕ → Type 0) (xs : List Standing) → ((u : ℕ) → StandsIn u (standers xs) → P u) → All (λ x. P x.tid) xs
all_standing P [] h = All-nil (λ x. P x.tid)
all_standing P (x ∷ xs) h = All-cons (λ y. P y.tid) x xs (h x.tid (inl refl)) (all_standing P xs (λ u in_rest. h u (inr in_rest)))

behind_in : (u : ℕ) (s : Standing) (xs : List Standing) → (u ≡ s.tid) ⊎ StandsIn u (standers xs) → StandsIn u (standers (put_behind s xs))
unfolding put_behind
behind_in u s [] h = h
behind_in u s (x ∷ xs) h = by_test _ h (behind_in u s xs)
  where
    by_test : (b : Bool) → (u ≡ s.tid) ⊎ StandsIn u (standers (x ∷ xs)) → ((u ≡ s.tid) ⊎ StandsIn u (standers xs) → StandsIn u (standers (put_behind s xs))) → StandsIn u (standers (if b then s ∷ x ∷ xs else x ∷ put_behind s xs))
    by_test true h more = h
    by_test false (inl own) more = inr (more (inl own))
    by_test false (inr (inl here)) more = inl here
    by_test false (inr (inr h)) more = inr (more (inr h))

order_in : (u : ℕ) (xs : List Standing) → StandsIn u (standers xs) → StandsIn u (standers (order xs))
unfolding order
order_in u [] h = h
order_in u (x ∷ xs) (inl here) = behind_in u x (order xs) (inl here)
order_in u (x ∷ xs) (inr h) = behind_in u x (order xs) (inr (order_in u xs h))

holders_are : (raises : ℕ) (xs : List Standing) → holders (map (row_at raises) xs) ≡ standers xs
holders_are raises [] = refl
holders_are raises (x ∷ xs) = ap (λ (l : List ℕ). x.tid ∷ l) (holders_are raises xs)

-- who stands in a queue is shown there
pub shown_in : (u raises : ℕ) (xs : List Standing) → StandsIn u (standers xs) → StandsIn u (holders (shown raises xs))
unfolding shown
shown_in u raises xs h = subst (StandsIn u) (sym (holders_are raises (order xs))) (order_in u xs h)

behind_out : (u : ℕ) (s : Standing) (xs : List Standing) → StandsIn u (standers (put_behind s xs)) → (u ≡ s.tid) ⊎ StandsIn u (standers xs)
unfolding put_behind
behind_out u s [] h = h
behind_out u s (x ∷ xs) h = by_test _ h (behind_out u s xs)
  where
    by_test : (b : Bool) → StandsIn u (standers (if b then s ∷ x ∷ xs else x ∷ put_behind s xs)) → (StandsIn u (standers (put_behind s xs)) → (u ≡ s.tid) ⊎ StandsIn u (standers xs)) → (u ≡ s.tid) ⊎ StandsIn u (standers (x ∷ xs))
    by_test true h more = h
    by_test false (inl here) more = inr (inl here)
    by_test false (inr h) more = elim (more h) [ inl own ↦ inl own | inr k ↦ inr (inr k) ]

order_out : (u : ℕ) (xs : List Standing) → StandsIn u (standers (order xs)) → StandsIn u (standers xs)
unfolding order
order_out u [] h = h
order_out u (x ∷ xs) h = elim (behind_out u x (order xs) h) [ inl here ↦ inl here | inr k ↦ inr (order_out u xs k) ]

pub shown_out : (u raises : ℕ) (xs : List Standing) → StandsIn u (holders (shown raises xs)) → StandsIn u (standers xs)
unfolding shown
shown_out u raises xs h = order_out u xs (subst (StandsIn u) (holders_are raises (order xs)) h)

-- the head of a queue stands there
pub head_out : (t raises : ℕ) (xs : List Standing) → head_of (shown raises xs) ≡ Some t → StandsIn t (standers xs)
head_out t raises xs head = shown_out t raises xs (by_rows (shown raises xs) head)
  where
    by_rows : (rows : List Ranked) → head_of rows ≡ Some t → StandsIn t (holders rows)
    by_rows [] h = absurd (none-some t h)
    by_rows (x ∷ rows) h = inl (sym (same_Some x.holder t h))

-- nothing stands twice in the order either
behind_once : (s : Standing) (xs : List Standing) → (StandsIn s.tid (standers xs) → ⊥) → Distinct (standers xs) → Distinct (standers (put_behind s xs))
unfolding put_behind
behind_once s [] out once = ((λ y h. absurd h), tt)
behind_once s (x ∷ xs) out once = by_test _ (behind_once s xs (λ h. out (inr h)) once.1)
  where
    by_test : (b : Bool) → Distinct (standers (put_behind s xs)) → Distinct (standers (if b then s ∷ x ∷ xs else x ∷ put_behind s xs))
    by_test true more = ((λ y h same. out (subst (λ i. StandsIn i (standers (x ∷ xs))) same h)), once)
    by_test false more = ((λ y h. elim (behind_out y s xs h) [ inl own ↦ (λ same. out (inl (sym own ∙ same))) | inr k ↦ once.0 y k ]), more)

order_once : (xs : List Standing) → Distinct (standers xs) → Distinct (standers (order xs))
unfolding order
order_once [] once = tt
order_once (x ∷ xs) once = behind_once x (order xs) (λ h. once.0 x.tid (order_out x.tid xs h) refl) (order_once xs once.1)

pub shown_once : (raises : ℕ) (xs : List Standing) → Distinct (standers xs) → Distinct (holders (shown raises xs))
unfolding shown
shown_once raises xs once = subst Distinct (sym (holders_are raises (order xs))) (order_once xs once)

filter_out : {A : Type 0} (name : A → ℕ) (p : A → Bool) (xs : List A) (u : ℕ) → StandsIn u (map name (filter p xs)) → StandsIn u (map name xs)
filter_out name p [] u h = h
filter_out name p (x ∷ xs) u h = by_test (p x) h (filter_out name p xs u)
  where
    by_test : (b : Bool) → StandsIn u (map name (if b then x ∷ filter p xs else filter p xs)) → (StandsIn u (map name (filter p xs)) → StandsIn u (map name xs)) → StandsIn u (map name (x ∷ xs))
    by_test true (inl here) more = inl here
    by_test true (inr h) more = inr (more h)
    by_test false h more = inr (more h)

filter_once : {A : Type 0} (name : A → ℕ) (p : A → Bool) (xs : List A) → Distinct (map name xs) → Distinct (map name (filter p xs))
filter_once name p [] once = once
filter_once name p (x ∷ xs) once = by_test (p x) (filter_once name p xs once.1)
  where
    by_test : (b : Bool) → Distinct (map name (filter p xs)) → Distinct (map name (if b then x ∷ filter p xs else filter p xs))
    by_test true more = ((λ y h. once.0 y (filter_out name p xs y h)), more)
    by_test false more = more

plain_map : (xs : List ℕ) → map (λ (x : ℕ). x) xs ≡ xs
plain_map [] = refl
plain_map (x ∷ xs) = ap (λ (l : List ℕ). x ∷ l) (plain_map xs)

pub filtered_once : (p : ℕ → Bool) (xs : List ℕ) → Distinct xs → Distinct (filter p xs)
filtered_once p xs once = subst Distinct (plain_map (filter p xs)) (filter_once (λ (x : ℕ). x) p xs (subst Distinct (sym (plain_map xs)) once))

left_once : (t : ℕ) (xs : List Standing) → Distinct (standers xs) → Distinct (standers (left_by t xs))
left_once t xs once = filter_once (λ (x : Standing). x.tid) (λ (x : Standing). not (x.tid == t)) xs once

-- ---- states

-- a change of a record that leaves its state
abbrev pub LeavesState : Change → Type 0
LeavesState c = (e : Entry) → (changed c e).state ≡ e.state

suspended_leaves : (b : Bool) → LeavesState (change.Suspended b)
unfolding changed
suspended_leaves b e = refl

value_leaves : (v : ℤ) → LeavesState (change.Value v)
unfolding changed
value_leaves v e = refl

pub dispatches_leave : (n : ℕ) → LeavesState (change.Dispatches n)
unfolding changed
dispatches_leave n e = refl

left_state : (c : Change) (o : Option Entry) → LeavesState c → (or_nobody (option_map (changed c) o)).state ≡ (or_nobody o).state
left_state c None leaves = refl
left_state c (Some e) leaves = leaves e

-- a record that is set to another state than waiting is not one of a waiting thread
pub other_state : (at : ThreadState) (o : Option Entry) → (at ≡ state.Waiting → ⊥) → (or_nobody (option_map (changed (change.State at)) o)).state ≡ state.Waiting → ⊥
unfolding changed
other_state at None other h = absurd (cc h)
other_state at (Some e) other h = other h

pub ready_other : state.Ready ≡ state.Waiting → ⊥
ready_other h = cc

pub running_other : state.Running ≡ state.Waiting → ⊥
running_other h = cc

dead_other : state.Dead ≡ state.Waiting → ⊥
dead_other h = cc

new_other : state.New ≡ state.Waiting → ⊥
new_other h = cc

waiting_queue : (at : ThreadState) (q : Queue) → queue_for at ≡ Some q → is_queue Waiting q ≡ true → at ≡ state.Waiting
waiting_queue state.New q same h = absurd (true≢false (sym h ∙ ap (is_queue Waiting) (sym (same_Some New q same))))
waiting_queue state.Ready q same h = absurd (true≢false (sym h ∙ ap (is_queue Waiting) (sym (same_Some Ready q same))))
waiting_queue state.Running q same h = absurd (cc same)
waiting_queue state.Waiting q same h = refl
waiting_queue state.Dead q same h = absurd (true≢false (sym h ∙ ap (is_queue Waiting) (sym (same_Some Dead q same))))

module _ {P S H : Type 0} where
  abbrev pub state_at : Control P S H → ℕ → ThreadState
  state_at k v = (or_nobody (k.threads.known v)).state

  -- v stands among the waiting threads, or has the state of one
  abbrev pub Waits : Control P S H → ℕ → Type 0
  Waits k v = StandsIn v (standers (k.threads.standing Waiting)) ⊎ (state_at k v ≡ state.Waiting)

  -- of each thread that does, this holds
  abbrev pub Waiters : (ℕ → Type 0) → Control P S H → Type 0
  Waiters W k = (v : ℕ) → Waits k v → W v

  module _ (W : ℕ → Type 0) where
    waiters_leave : (t : ℕ) (k : Control P S H) → Waiters W k → Waiters W (leaves_queue t k)
    unfolding leaves_queue
    waiters_leave t k h v (inl stands) = h v (inl (left_stands t v (k.threads.standing Waiting) stands).0)
    waiters_leave t k h v (inr at) = h v (inr at)

    pub waiters_set : (t : ℕ) (c : Change) (k : Control P S H) → LeavesState c → Waiters W k → Waiters W (sets t c k)
    unfolding sets
    waiters_set t c k leaves h v (inl stands) = h v (inl stands)
    waiters_set t c k leaves h v (inr at) =
        put_by (λ o. (or_nobody o).state ≡ state.Waiting → W v) k.threads.known t (option_map (changed c) (k.threads.known t)) v
        (λ here now. h v (inr (ap (state_at k) here ∙ sym (left_state c (k.threads.known t) leaves) ∙ now)))
        (λ other now. h v (inr now)) at

    waiters_enter : (t : ℕ) (q : Queue) (rank : ℤ) (top : Bool) (k : Control P S H) → (is_queue Waiting q ≡ true → W t) → Waiters W k → Waiters W (enters t q rank top k)
    unfolding enters
    waiters_enter t q rank top k own h v (inr at) = h v (inr at)
    waiters_enter t q rank top k own h v (inl stands) = by_queue (is_queue Waiting q) refl stands
      where
        here : Standing
        here = record { tid = t; rank = rank; since = raises_of k.threads.raises q; entry = k.threads.entries; top = top }

        by_queue : (b : Bool) → is_queue Waiting q ≡ b → StandsIn v (standers (if b then here ∷ k.threads.standing Waiting else k.threads.standing Waiting)) → W v
        by_queue true same (inl is) = subst W (sym is) (own same)
        by_queue true same (inr rest) = h v (inl rest)
        by_queue false same rest = h v (inl rest)

    -- t is put among the waiting threads, or among others
    pub waiters_put : (t : ℕ) (at : ThreadState) (q : Queue) (rank : ℤ) (top : Bool) (k : Control P S H) → (is_queue Waiting q ≡ true → W t) → ((or_nobody (option_map (changed (change.State at)) (k.threads.known t))).state ≡ state.Waiting → W t) → Waiters W k → Waiters W (enters t q rank top (sets t (change.State at) k))
    unfolding sets
    waiters_put t at q rank top k own set h = waiters_enter t q rank top (sets t (change.State at) k) own (λ v w. by_place v w)
      where
        by_place : (v : ℕ) → Waits (sets t (change.State at) k) v → W v
        by_place v (inl stands) = h v (inl stands)
        by_place v (inr now) =
            put_by (λ o. (or_nobody o).state ≡ state.Waiting → W v) k.threads.known t (option_map (changed (change.State at)) (k.threads.known t)) v
            (λ here is. subst W (sym here) (set is)) (λ other is. h v (inr is)) now

  -- t leaves its queue, and its record is another, which is not that of a waiting thread
  waiters_away : (W V : ℕ → Type 0) (t : ℕ) (o : Option Entry) (k : Control P S H) → ((or_nobody o).state ≡ state.Waiting → ⊥) → ((v : ℕ) → v ≢ t → W v → V v) → Waiters W k → (v : ℕ) → StandsIn v (standers (left_by t (k.threads.standing Waiting))) ⊎ ((or_nobody (put k.threads.known t o v)).state ≡ state.Waiting) → V v
  waiters_away W V t o k other to h v (inl stands) = let left = left_stands t v (k.threads.standing Waiting) stands in to v left.1 (h v (inl left.0))
  waiters_away W V t o k other to h v (inr at) = put_by (λ p. (or_nobody p).state ≡ state.Waiting → V v) k.threads.known t o v (λ here now. absurd (other now)) (λ apart now. to v apart (h v (inr now))) at

  pub waiters_moved : (W V : ℕ → Type 0) (t : ℕ) (at : ThreadState) (k : Control P S H) → (at ≡ state.Waiting → ⊥) → ((v : ℕ) → v ≢ t → W v → V v) → Waiters W k → Waiters V (sets t (change.State at) (leaves_queue t k))
  unfolding sets leaves_queue
  waiters_moved W V t at k other to h = waiters_away W V t (option_map (changed (change.State at)) (k.threads.known t)) k (other_state at (k.threads.known t) other) to h

  module _ (W : ℕ → Type 0) where
    waiters_vanished : (t : ℕ) (k : Control P S H) → Waiters W k → Waiters W (vanish_all_but t k)
    unfolding vanish_all_but
    waiters_vanished t k h v (inl stands) = absurd stands
    waiters_vanished t k h v (inr at) = by_test (v == t) at
      where
        by_test : (b : Bool) → (or_nobody (if b then k.threads.known v else None)).state ≡ state.Waiting → W v
        by_test true now = h v (inr now)
        by_test false now = absurd (dead_other now)

-- ---- who waits to run

-- by the state of a thread that is new or ready, and by no other
may_queue : (at : ThreadState) (q : Queue) → queue_for at ≡ Some q → (is_queue New q ≡ true) ⊎ (is_queue Ready q ≡ true) → may_run at ≡ true
may_queue state.New q same h = refl
may_queue state.Ready q same h = refl
may_queue state.Running q same h = absurd (cc same)
may_queue state.Waiting q same (inl h) = absurd (true≢false (sym h ∙ ap (is_queue New) (sym (same_Some Waiting q same))))
may_queue state.Waiting q same (inr h) = absurd (true≢false (sym h ∙ ap (is_queue Ready) (sym (same_Some Waiting q same))))
may_queue state.Dead q same (inl h) = absurd (true≢false (sym h ∙ ap (is_queue New) (sym (same_Some Dead q same))))
may_queue state.Dead q same (inr h) = absurd (true≢false (sym h ∙ ap (is_queue Ready) (sym (same_Some Dead q same))))

-- a record that is set to a state of no thread to run is not one of such a thread
not_to_run : (at : ThreadState) (o : Option Entry) → may_run at ≡ false → may_run (or_nobody (option_map (changed (change.State at)) o)).state ≡ true → ⊥
unfolding changed
not_to_run at None stays h = true≢false (sym h)
not_to_run at (Some e) stays h = true≢false (sym h ∙ stays)

-- who stands in a queue once t has entered one
entered : (p q : Queue) (t v : ℕ) (x : Standing) (xs : List Standing) → x.tid ≡ t → StandsIn v (standers (if is_queue p q then x ∷ xs else xs)) → StandsIn v (standers xs) ⊎ ((v ≡ t) × (is_queue p q ≡ true))
entered p q t v x xs own h = by_queue (is_queue p q) refl h
  where
    by_queue : (b : Bool) → is_queue p q ≡ b → StandsIn v (standers (if b then x ∷ xs else xs)) → StandsIn v (standers xs) ⊎ ((v ≡ t) × (is_queue p q ≡ true))
    by_queue true same (inl is) = inr (is ∙ own, same)
    by_queue true same (inr rest) = inl rest
    by_queue false same rest = inl rest

module _ {P S H : Type 0} where
  -- v is new or ready, stands among those, or is named by a yield
  pub data ToRun (k : Control P S H) (v : ℕ) : Type 0 where
    Stands : (q : Queue) → (is_queue New q ≡ true) ⊎ (is_queue Ready q ≡ true) → StandsIn v (standers (k.threads.standing q)) → ToRun k v
    Named : k.scheduler.preferred ≡ Some v → ToRun k v
    HasState : may_run (state_at k v) ≡ true → ToRun k v

  abbrev pub Runners : (ℕ → Type 0) → Control P S H → Type 0
  Runners R k = (v : ℕ) → ToRun k v → R v

  -- W holds of each that waits, R of each that waits to run, and nobody stands twice among the waiting threads
  pub record Places (W R : ℕ → Type 0) (k : Control P S H) : Type 0 where
    pub waiters : Waiters W k
    pub runners : Runners R k
    pub once : Distinct (standers (k.threads.standing Waiting))

  -- where threads and who is named are as before
  pub places_so : (W R : ℕ → Type 0) (j k : Control P S H) → k.threads ≡ j.threads → k.scheduler.preferred ≡ j.scheduler.preferred → Places W R j → Places W R k
  places_so W R j k threads named h = record {
    waiters = λ v w. h.waiters v (subst (λ (x : Threads S). StandsIn v (standers (x.standing Waiting)) ⊎ ((or_nobody (x.known v)).state ≡ state.Waiting)) threads w);
    runners = λ v r. by_run v r;
    once = subst (λ (x : Threads S). Distinct (standers (x.standing Waiting))) (sym threads) h.once;
  }
    where
      by_run : (v : ℕ) → ToRun k v → R v
      by_run v (Stands q own stands) = h.runners v (Stands q own (subst (λ (x : Threads S). StandsIn v (standers (x.standing q))) threads stands))
      by_run v (Named is) = h.runners v (Named (sym named ∙ is))
      by_run v (HasState at) = h.runners v (HasState (subst (λ (x : Threads S). may_run (or_nobody (x.known v)).state ≡ true) threads at))

  -- ---- what becomes of who waits to run

  runners_set : (R : ℕ → Type 0) (t : ℕ) (c : Change) (k : Control P S H) → LeavesState c → Runners R k → Runners R (sets t c k)
  unfolding sets
  runners_set R t c k leaves h v (Stands q own stands) = h v (Stands q own stands)
  runners_set R t c k leaves h v (Named is) = h v (Named is)
  runners_set R t c k leaves h v (HasState at) =
      put_by (λ o. may_run (or_nobody o).state ≡ true → R v) k.threads.known t (option_map (changed c) (k.threads.known t)) v
      (λ here now. h v (HasState (ap (λ i. may_run (state_at k i)) here ∙ ap may_run (sym (left_state c (k.threads.known t) leaves)) ∙ now)))
      (λ other now. h v (HasState now)) at

  runners_enter : (R : ℕ → Type 0) (t : ℕ) (q : Queue) (rank : ℤ) (top : Bool) (k : Control P S H) → ((is_queue New q ≡ true) ⊎ (is_queue Ready q ≡ true) → R t) → Runners R k → Runners R (enters t q rank top k)
  unfolding enters
  runners_enter R t q rank top k own h v (Named is) = h v (Named is)
  runners_enter R t q rank top k own h v (HasState at) = h v (HasState at)
  runners_enter R t q rank top k own h v (Stands p of stands) = by_place (entered p q t v (record { tid = t; rank = rank; since = raises_of k.threads.raises q; entry = k.threads.entries; top = top }) (k.threads.standing p) refl stands)
    where
      by_place : StandsIn v (standers (k.threads.standing p)) ⊎ ((v ≡ t) × (is_queue p q ≡ true)) → R v
      by_place (inl before) = h v (Stands p of before)
      by_place (inr now) = subst R (sym now.0) (own (subst (λ (r : Queue). (is_queue New r ≡ true) ⊎ (is_queue Ready r ≡ true)) (is_queue_same p q now.1) of))

  runners_leave : (R : ℕ → Type 0) (t : ℕ) (k : Control P S H) → Runners R k → Runners R (leaves_queue t k)
  unfolding leaves_queue
  runners_leave R t k h v (Stands q own stands) = h v (Stands q own (left_stands t v (k.threads.standing q) stands).0)
  runners_leave R t k h v (Named is) = h v (Named is)
  runners_leave R t k h v (HasState at) = h v (HasState at)

  -- t leaves its queue, and its state is of no thread to run
  runners_moved : (R V : ℕ → Type 0) (t : ℕ) (at : ThreadState) (k : Control P S H) → may_run at ≡ false → ((v : ℕ) → v ≢ t → R v → V v) → ((v : ℕ) → k.scheduler.preferred ≡ Some v → V v) → Runners R k → Runners V (sets t (change.State at) (leaves_queue t k))
  unfolding sets leaves_queue
  runners_moved R V t at k stays to named h v (Stands q own stands) = let left = left_stands t v (k.threads.standing q) stands in to v left.1 (h v (Stands q own left.0))
  runners_moved R V t at k stays to named h v (Named is) = named v is
  runners_moved R V t at k stays to named h v (HasState now) =
      put_by (λ o. may_run (or_nobody o).state ≡ true → V v) k.threads.known t (option_map (changed (change.State at)) (k.threads.known t)) v
      (λ here is. absurd (not_to_run at (k.threads.known t) stays is))
      (λ other is. to v other (h v (HasState is))) now

  runners_removed : (R : ℕ → Type 0) (t : ℕ) (k : Control P S H) → Runners R k → Runners R (removes t k)
  unfolding forgets leaves_queue
  runners_removed R t k h v (Stands q own stands) = h v (Stands q own (left_stands t v (k.threads.standing q) stands).0)
  runners_removed R t k h v (Named is) = h v (Named is)
  runners_removed R t k h v (HasState now) = put_by (λ o. may_run (or_nobody o).state ≡ true → R v) k.threads.known t None v (λ here is. absurd (true≢false (sym is))) (λ other is. h v (HasState is)) now

  -- t is ready
  runners_ready : (R V : ℕ → Type 0) (t : ℕ) (rank : ℤ) (top : Bool) (k : Control P S H) → V t → ((v : ℕ) → v ≢ t → R v → V v) → Runners R k → Runners V (is_ready_at t rank top k)
  unfolding is_ready_at sets leaves_queue
  runners_ready R V t rank top k own to h = runners_enter V t Ready rank top (sets t (change.State state.Ready) (leaves_queue t k)) (λ of. own) (λ v r. by_thread v (v == t) refl r)
    where
      by_thread : (v : ℕ) (b : Bool) → (v == t) ≡ b → ToRun (sets t (change.State state.Ready) (leaves_queue t k)) v → V v
      by_thread v true same r = subst V (sym (same_means v t same)) own
      by_thread v false apart (Stands q of stands) = let left = left_stands t v (k.threads.standing q) stands in to v left.1 (h v (Stands q of left.0))
      by_thread v false apart (Named is) = to v (same_fails v t apart) (h v (Named is))
      by_thread v false apart (HasState now) = to v (same_fails v t apart) (h v (HasState (ap (λ o. may_run (or_nobody o).state) (sym (put_other k.threads.known t _ v (same_fails v t apart))) ∙ now)))

  runners_put : (R : ℕ → Type 0) (t : ℕ) (at : ThreadState) (q : Queue) (rank : ℤ) (top : Bool) (k : Control P S H) → ((is_queue New q ≡ true) ⊎ (is_queue Ready q ≡ true) → R t) → (may_run at ≡ true → R t) → Runners R k → Runners R (enters t q rank top (sets t (change.State at) k))
  unfolding sets
  runners_put R t at q rank top k own set h = runners_enter R t q rank top (sets t (change.State at) k) own (λ v r. by_run v r)
    where
      by_state : (o : Option Entry) (b : Bool) → may_run at ≡ b → may_run (or_nobody (option_map (changed (change.State at)) o)).state ≡ true → R t
      by_state o true is now = set is
      by_state o false is now = absurd (not_to_run at o is now)

      by_run : (v : ℕ) → ToRun (sets t (change.State at) k) v → R v
      by_run v (Stands q of stands) = h v (Stands q of stands)
      by_run v (Named is) = h v (Named is)
      by_run v (HasState now) =
          put_by (λ o. may_run (or_nobody o).state ≡ true → R v) k.threads.known t (option_map (changed (change.State at)) (k.threads.known t)) v
          (λ here is. subst R (sym here) (by_state (k.threads.known t) (may_run at) refl is)) (λ other is. h v (HasState is)) now

  -- ---- nobody stands twice among the waiting threads

  enter_once : (t : ℕ) (q : Queue) (rank : ℤ) (top : Bool) (k : Control P S H) → (is_queue Waiting q ≡ true → StandsIn t (standers (k.threads.standing Waiting)) → ⊥) → Distinct (standers (k.threads.standing Waiting)) → Distinct (standers ((enters t q rank top k).threads.standing Waiting))
  unfolding enters
  enter_once t q rank top k fresh once = by_queue (is_queue Waiting q) refl
    where
      here : Standing
      here = record { tid = t; rank = rank; since = raises_of k.threads.raises q; entry = k.threads.entries; top = top }

      by_queue : (b : Bool) → is_queue Waiting q ≡ b → Distinct (standers (if b then here ∷ k.threads.standing Waiting else k.threads.standing Waiting))
      by_queue true own = ((λ y h same. fresh own (subst (λ i. StandsIn i (standers (k.threads.standing Waiting))) same h)), once)
      by_queue false other = once

  left_out : (t : ℕ) (k : Control P S H) → StandsIn t (standers ((leaves_queue t k).threads.standing Waiting)) → ⊥
  unfolding leaves_queue
  left_out t k h = (left_stands t t (k.threads.standing Waiting) h).1 refl

  leave_once : (t : ℕ) (k : Control P S H) → Distinct (standers (k.threads.standing Waiting)) → Distinct (standers ((leaves_queue t k).threads.standing Waiting))
  unfolding leaves_queue
  leave_once t k once = left_once t (k.threads.standing Waiting) once

  -- ---- all of it

  -- t is ready
  pub places_ready : (W R V Q : ℕ → Type 0) (t : ℕ) (rank : ℤ) (top : Bool) (k : Control P S H) → Q t → ((v : ℕ) → v ≢ t → W v → V v) → ((v : ℕ) → v ≢ t → R v → Q v) → Places W R k → Places V Q (is_ready_at t rank top k)
  unfolding is_ready_at sets
  places_ready W R V Q t rank top k own waits runs h = record {
    waiters = waiters_enter V t Ready rank top (sets t (change.State state.Ready) (leaves_queue t k)) (λ odd. absurd (true≢false (sym odd))) (waiters_moved W V t state.Ready k ready_other waits h.waiters);
    runners = runners_ready R Q t rank top k own runs h.runners;
    once = enter_once t Ready rank top (sets t (change.State state.Ready) (leaves_queue t k)) (λ odd. absurd (true≢false (sym odd))) (leave_once t k h.once);
  }

  -- t runs, and nobody is named
  pub places_run : (W R V Q : ℕ → Type 0) (t n : ℕ) (k : Control P S H) → ((v : ℕ) → v ≢ t → W v → V v) → ((v : ℕ) → v ≢ t → R v → Q v) → k.scheduler.preferred ≡ None → Places W R k → Places V Q (sets t (change.Dispatches n) (sets t (change.State state.Running) (leaves_queue t k)))
  unfolding sets
  places_run W R V Q t n k waits runs unnamed h =
      let j = sets t (change.State state.Running) (leaves_queue t k) in
      record {
        waiters = waiters_set V t (change.Dispatches n) j (dispatches_leave n) (waiters_moved W V t state.Running k running_other waits h.waiters);
        runners = runners_set Q t (change.Dispatches n) j (dispatches_leave n) (runners_moved R Q t state.Running k refl runs (λ v is. absurd (none-some v (sym unnamed ∙ is))) h.runners);
        once = leave_once t k h.once;
      }

  module _ (W R : ℕ → Type 0) where
    -- t is put among the waiting threads, or among those that are ready
    pub places_waiting : (t : ℕ) (rank : ℤ) (k : Control P S H) → W t → (StandsIn t (standers (k.threads.standing Waiting)) → ⊥) → Places W R k → Places W R (enters t Waiting rank false (sets t (change.State state.Waiting) k))
    unfolding sets
    places_waiting t rank k own fresh h = record {
      waiters = waiters_put W t state.Waiting Waiting rank false k (λ in_queue. own) (λ at. own) h.waiters;
      runners = runners_put R t state.Waiting Waiting rank false k (λ of. absurd (no_queue of)) (λ odd. absurd (true≢false (sym odd))) h.runners;
      once = enter_once t Waiting rank false (sets t (change.State state.Waiting) k) (λ same. fresh) h.once;
    }
      where
        no_queue : (is_queue New Waiting ≡ true) ⊎ (is_queue Ready Waiting ≡ true) → ⊥
        no_queue (inl odd) = true≢false (sym odd)
        no_queue (inr odd) = true≢false (sym odd)

    pub places_put_back : (t : ℕ) (rank : ℤ) (k : Control P S H) → R t → Places W R k → Places W R (enters t Ready rank false (sets t (change.State state.Ready) k))
    unfolding sets
    places_put_back t rank k own h = record {
      waiters = waiters_put W t state.Ready Ready rank false k (λ odd. absurd (true≢false (sym odd))) (λ at. absurd (other_state state.Ready (k.threads.known t) ready_other at)) h.waiters;
      runners = runners_put R t state.Ready Ready rank false k (λ of. own) (λ at. own) h.runners;
      once = enter_once t Ready rank false (sets t (change.State state.Ready) k) (λ odd. absurd (true≢false (sym odd))) h.once;
    }

    places_set : (t : ℕ) (c : Change) (k : Control P S H) → LeavesState c → Places W R k → Places W R (sets t c k)
    unfolding sets
    places_set t c k leaves h = record { waiters = waiters_set W t c k leaves h.waiters; runners = runners_set R t c k leaves h.runners; once = h.once }

    places_enter : (t : ℕ) (q : Queue) (rank : ℤ) (top : Bool) (k : Control P S H) → (is_queue Waiting q ≡ true → W t) → ((is_queue New q ≡ true) ⊎ (is_queue Ready q ≡ true) → R t) → (is_queue Waiting q ≡ true → StandsIn t (standers (k.threads.standing Waiting)) → ⊥) → Places W R k → Places W R (enters t q rank top k)
    places_enter t q rank top k waits runs fresh h = record { waiters = waiters_enter W t q rank top k waits h.waiters; runners = runners_enter R t q rank top k runs h.runners; once = enter_once t q rank top k fresh h.once }

    places_leave : (t : ℕ) (k : Control P S H) → Places W R k → Places W R (leaves_queue t k)
    places_leave t k h = record { waiters = waiters_leave W t k h.waiters; runners = runners_leave R t k h.runners; once = leave_once t k h.once }

    waiters_removed : (t : ℕ) (k : Control P S H) → Waiters W k → Waiters W (removes t k)
    unfolding forgets leaves_queue
    waiters_removed t k h = waiters_away W W t None k dead_other (λ v apart w. w) h

    places_removed : (t : ℕ) (k : Control P S H) → Places W R k → Places W R (removes t k)
    unfolding forgets
    places_removed t k h = record { waiters = waiters_removed t k h.waiters; runners = runners_removed R t k h.runners; once = leave_once t k h.once }

    places_dead : (t : ℕ) (x : ℤ) (k : Control P S H) → Places W R k → Places W R (is_dead_with t x k)
    unfolding is_dead_with sets
    places_dead t x k h =
        let b = sets t (change.State state.Dead) (leaves_queue t k) in
        let c = sets t (change.Suspended false) b in
        places_enter t Dead (pos 0) false (sets t (change.Value x) c) (λ odd. absurd (true≢false (sym odd))) (λ of. absurd (not_dead of)) (λ odd. absurd (true≢false (sym odd)))
        (places_set t (change.Value x) c (value_leaves x) (places_set t (change.Suspended false) b (suspended_leaves false) (record {
          waiters = waiters_moved W W t state.Dead k dead_other (λ v apart w. w) h.waiters;
          runners = runners_moved R R t state.Dead k refl (λ v apart r. r) (λ v is. h.runners v (Named is)) h.runners;
          once = leave_once t k h.once;
        })))
      where
        not_dead : (is_queue New Dead ≡ true) ⊎ (is_queue Ready Dead ≡ true) → ⊥
        not_dead (inl odd) = true≢false (sym odd)
        not_dead (inr odd) = true≢false (sym odd)

    places_left : (t : ℕ) (x : ℤ) (k : Control P S H) → Places W R k → Places W R (leaves t x k)
    unfolding leaves
    places_left t x k h = places_so W R _ (leaves t x k) refl refl (by_end (or_nobody (entry_of k t)).joinable)
      where
        by_end : (b : Bool) → Places W R ((if b then is_dead_with t x else removes t) k)
        by_end true = places_dead t x k h
        by_end false = places_removed t k h

    places_spawned : (f : P → Functions S H) (b : ℕ) (x : ℤ) (of : NewThread) (k : Control P S H) → R (k.threads.made + 1) → Places W R k → Places W R (spawns f b x of k)
    unfolding makes made_of
    places_spawned f b x of k own h = places_enter (k.threads.made + 1) New of.prio false (makes f b x of k) (λ odd. absurd (true≢false (sym odd))) (λ q. own) (λ odd. absurd (true≢false (sym odd))) (record { waiters = λ v w. waits v w; runners = λ v r. runs v r; once = h.once })
      where
        n : ℕ
        n = k.threads.made + 1

        waits : (v : ℕ) → Waits (makes f b x of k) v → W v
        waits v (inl stands) = h.waiters v (inl stands)
        waits v (inr at) = put_by (λ o. (or_nobody o).state ≡ state.Waiting → W v) k.threads.known n (Some (made_of of n)) v (λ here now. absurd (new_other now)) (λ other now. h.waiters v (inr now)) at

        runs : (v : ℕ) → ToRun (makes f b x of k) v → R v
        runs v (Stands q of stands) = h.runners v (Stands q of stands)
        runs v (Named is) = h.runners v (Named is)
        runs v (HasState at) = put_by (λ o. may_run (or_nobody o).state ≡ true → R v) k.threads.known n (Some (made_of of n)) v (λ here now. subst R (sym here) own) (λ other now. h.runners v (HasState now)) at

    places_suspended : (t : ℕ) (k : Control P S H) → Places W R k → Places W R (suspends t k)
    unfolding suspends
    places_suspended t k h = places_enter t Suspended (pos 0) false (sets t (change.Suspended true) (leaves_queue t k)) (λ odd. absurd (true≢false (sym odd))) (λ of. absurd (not_suspended of)) (λ odd. absurd (true≢false (sym odd))) (places_set t (change.Suspended true) (leaves_queue t k) (suspended_leaves true) (places_leave t k h))
      where
        not_suspended : (is_queue New Suspended ≡ true) ⊎ (is_queue Ready Suspended ≡ true) → ⊥
        not_suspended (inl odd) = true≢false (sym odd)
        not_suspended (inr odd) = true≢false (sym odd)

    places_returned : (t : ℕ) (o : Option Queue) (k : Control P S H) → queue_for (state_at k t) ≡ o → Places W R k → Places W R (returns_to t o k)
    unfolding sets
    places_returned t None k for h = h
    places_returned t (Some q) k for h =
        places_enter t q (pos 0) false (sets t (change.Suspended false) (leaves_queue t k))
        (λ own. h.waiters t (inr (waiting_queue (state_at k t) q for own)))
        (λ of. h.runners t (HasState (may_queue (state_at k t) q for of)))
        (λ own. left_out t k)
        (places_set t (change.Suspended false) (leaves_queue t k) (suspended_leaves false) (places_leave t k h))

    places_resumed : (t : ℕ) (k : Control P S H) → Places W R k → Places W R (resumes t k)
    unfolding resumes
    places_resumed t k h = places_returned t (queue_for (state_at k t)) k refl h

    places_vanished : (t : ℕ) (k : Control P S H) → Places W R k → Places W R (vanish_all_but t k)
    unfolding vanish_all_but
    places_vanished t k h = record { waiters = λ v w. waiters_vanished W t k h.waiters v w; runners = λ v r. runs v r; once = tt }
      where
        runs : (v : ℕ) → ToRun (vanish_all_but t k) v → R v
        runs v (Stands q of stands) = absurd stands
        runs v (Named is) = h.runners v (Named is)
        runs v (HasState at) = by_test (v == t) at
          where
            by_test : (b : Bool) → may_run (or_nobody (if b then k.threads.known v else None)).state ≡ true → R v
            by_test true now = h.runners v (HasState now)
            by_test false now = absurd (true≢false (sym now))

    places_named : (t : ℕ) (k : Control P S H) → may_run (state_at k t) ≡ true → Places W R k → Places W R (prefers (Some t) k)
    places_named t k may h = record { waiters = h.waiters; runners = λ v r. runs v r; once = h.once }
      where
        runs : (v : ℕ) → ToRun (prefers (Some t) k) v → R v
        runs v (Stands q of stands) = h.runners v (Stands q of stands)
        runs v (Named is) = subst R (same_Some t v is) (h.runners t (HasState may))
        runs v (HasState at) = h.runners v (HasState at)

-- ---- a step

-- who may run while t makes a step
abbrev pub RunsOrNone : ℕ → Option ℕ → Type 0
RunsOrNone t o = (o ≡ Some t) ⊎ (o ≡ None)

other_runs : (t u : ℕ) (o : Option ℕ) → RunsOrNone t o → RunsOrNone t (other_than u o)
other_runs t u None h = inr refl
other_runs t u (Some v) (inl same) = by_test (v == u)
  where
    by_test : (b : Bool) → RunsOrNone t (if b then None else Some v)
    by_test true = inr refl
    by_test false = inl same
other_runs t u (Some v) (inr none) = absurd (cc none)

module _ {P S H : Type 0} where
  -- What a step of t keeps: W holds of who waits, R of who waits to run and of whoever is made, the moment stays, and t runs or nobody
  -- does. n threads were made before.
  pub record Steady (W R : ℕ → Type 0) (t now n : ℕ) (k : Control P S H) : Type 0 where
    pub places : Places W R k
    pub moment : k.kernel.now ≡ now
    pub running : RunsOrNone t k.scheduler.running
    pub grown : n ≤ k.threads.made

  -- a change that shows in places alone
  record IsMove (j k : Control P S H) : Type 0 where
    moment : k.kernel.now ≡ j.kernel.now
    running : k.scheduler.running ≡ j.scheduler.running
    made : k.threads.made ≡ j.threads.made

  returned_move : (t : ℕ) (o : Option Queue) (k : Control P S H) → IsMove k (returns_to t o k)
  unfolding enters sets leaves_queue
  returned_move t None k = record { moment = refl; running = refl; made = refl }
  returned_move t (Some q) k = record { moment = refl; running = refl; made = refl }

  left_moment : (u : ℕ) (x : ℤ) (k : Control P S H) → ((leaves u x k).kernel.now ≡ k.kernel.now) × ((leaves u x k).scheduler.running ≡ other_than u k.scheduler.running) × ((leaves u x k).threads.made ≡ k.threads.made)
  unfolding leaves is_dead_with enters sets forgets leaves_queue
  left_moment u x k = by_end (or_nobody (entry_of k u)).joinable
    where
      by_end : (b : Bool) → (((if b then is_dead_with u x else removes u) k).kernel.now ≡ k.kernel.now) × (other_than u ((if b then is_dead_with u x else removes u) k).scheduler.running ≡ other_than u k.scheduler.running) × (((if b then is_dead_with u x else removes u) k).threads.made ≡ k.threads.made)
      by_end true = (refl, refl, refl)
      by_end false = (refl, refl, refl)

  module _ (f : P → Functions S H) (W R : ℕ → Type 0) (t now n : ℕ) (next : (v : ℕ) → n < v → R v) where
    abbrev Keeps : Control P S H → Type 0
    Keeps k = Steady W R t now n k

    moved_steady : (j k : Control P S H) → IsMove j k → Places W R k → Keeps j → Keeps k
    moved_steady j k m places h = record { places = places; moment = m.moment ∙ h.moment; running = subst (RunsOrNone t) (sym m.running) h.running; grown = rw m.made h.grown }

    -- where threads, the scheduler and the moment are as before
    same_steady : (j k : Control P S H) → k.threads ≡ j.threads → k.scheduler ≡ j.scheduler → k.kernel.now ≡ j.kernel.now → Keeps j → Keeps k
    same_steady j k threads scheduler moment h = record {
      places = places_so W R j k threads (ap (λ (x : Scheduler). x.preferred) scheduler) h.places;
      moment = moment ∙ h.moment;
      running = subst (λ (x : Scheduler). RunsOrNone t x.running) (sym scheduler) h.running;
      grown = subst (λ (x : Threads S). n ≤ x.made) (sym threads) h.grown;
    }

    left_steady : (u : ℕ) (x : ℤ) (k : Control P S H) → Keeps k → Keeps (leaves u x k)
    left_steady u x k h =
        let m = left_moment u x k in
        record { places = places_left W R u x k h.places; moment = m.0 ∙ h.moment; running = subst (RunsOrNone t) (sym m.1) (other_runs t u k.scheduler.running h.running); grown = rw m.2 h.grown }

    spawned_steady : (b : ℕ) (x : ℤ) (of : NewThread) (k : Control P S H) → Keeps k → Keeps (spawns f b x of k)
    unfolding makes enters
    spawned_steady b x of k h = record { places = places_spawned W R f b x of k (next (k.threads.made + 1) (later n k.threads.made h.grown)) h.places; moment = h.moment; running = h.running; grown = more n k.threads.made h.grown }
      where
        later : (i j : ℕ) → i ≤ j → i < j + 1
        later i j le = omega (arith, le)

        more : (i j : ℕ) → i ≤ j → i ≤ j + 1
        more i j le = omega (arith, le)

    suspended_steady : (u : ℕ) (k : Control P S H) → Keeps k → Keeps (suspends u k)
    unfolding suspends enters sets leaves_queue
    suspended_steady u k h = moved_steady k (suspends u k) (record { moment = refl; running = refl; made = refl }) (places_suspended W R u k h.places) h

    resumed_steady : (u : ℕ) (k : Control P S H) → Keeps k → Keeps (resumes u k)
    unfolding resumes
    resumed_steady u k h = moved_steady k (resumes u k) (returned_move u (queue_for (state_at k u)) k) (places_resumed W R u k h.places) h

    removed_steady : (u : ℕ) (k : Control P S H) → Keeps k → Keeps (removes u k)
    unfolding forgets leaves_queue
    removed_steady u k h = moved_steady k (removes u k) (record { moment = refl; running = refl; made = refl }) (places_removed W R u k h.places) h

    set_steady : (u : ℕ) (c : Change) (k : Control P S H) → LeavesState c → Keeps k → Keeps (sets u c k)
    unfolding sets
    set_steady u c k leaves h = moved_steady k (sets u c k) (record { moment = refl; running = refl; made = refl }) (places_set W R u c k leaves h.places) h

    vanished_steady : (k : Control P S H) → Keeps k → Keeps (vanish_all_but t k)
    unfolding vanish_all_but
    vanished_steady k h = moved_steady k (vanish_all_but t k) (record { moment = refl; running = refl; made = refl }) (places_vanished W R t k h.places) h

    named_steady : (u : ℕ) (k : Control P S H) → may_run (state_at k u) ≡ true → Keeps k → Keeps (prefers (Some u) k)
    named_steady u k may h = moved_steady k (prefers (Some u) k) (record { moment = refl; running = refl; made = refl }) (places_named W R u k may h.places) h

    goes_steady : (u : ℕ) (g : Progress S → Progress S) (k : Control P S H) → Keeps k → Keeps (goes_on u g k)
    unfolding goes_on
    goes_steady u g k h = record { places = record { waiters = h.places.waiters; runners = λ v r. runs v r; once = h.places.once }; moment = h.moment; running = h.running; grown = h.grown }
      where
        runs : (v : ℕ) → ToRun (goes_on u g k) v → R v
        runs v (Stands q of stands) = h.places.runners v (Stands q of stands)
        runs v (Named is) = h.places.runners v (Named is)
        runs v (HasState at) = h.places.runners v (HasState at)

    pub steady_by_calls : KeptBy f t Keeps
    steady_by_calls = record {
      calls = record {
        handlers = record { shares = λ x k h. same_steady k (record k { shared = x }) refl refl refl h; seated = λ x k h. same_steady k (record k { conditions = x }) refl refl refl h };
        spawned = spawned_steady;
        suspended = λ u k other lives h. suspended_steady u k h;
        resumed = λ u k other h. resumed_steady u k h;
        removed = λ m u k taken h. removed_steady u k h;
        favoured = λ b k h. record { places = places_so W R k _ refl refl h.places; moment = h.moment; running = h.running; grown = h.grown };
        changed = λ x u c k is h. set_steady u c k (λ e. set_state x c e is) h;
        added = λ x k h. same_steady k _ refl refl refl h;
        exchanged = λ m o k h. same_steady k _ refl refl refl h;
        evented = λ x k none h. same_steady k (record k { events = x }) refl refl refl h;
        described = λ ds k h. same_steady k (record k { kernel = record k.kernel { descriptors = ds } }) refl refl refl h;
        barred = λ x k h. same_steady k (record k { barriers = x }) refl refl refl h;
        used = λ o k h. same_steady k (record k { used = o }) refl refl refl h;
        requested = λ u b k apart h. set_steady u (change.Request b) k (request_state b) h;
      };
      goes = λ u g k odd h. goes_steady u g k h;
      blocked = λ b j k odd was h. goes_steady t _ k h;
      claimed = λ x k h. same_steady k (record k { events = x }) refl refl refl h;
      preferred = λ u k runs h. named_steady u k runs h;
      left = λ x k h. left_steady t x k h;
      ended = λ u x k other up h. left_steady u x k h;
      dropped = λ u k other dead h. removed_steady u k h;
      vanished = λ k h. vanished_steady k h;
    }
