-- Every run has its history: one dispatch for each of its turns, and each of a thread that was ready.
use Rattle.std.proofs.Common.{◌≡◌, ◌≢◌, ℕ, zero, suc, ◌+◌, ◌==◌, ◌||◌, not, min, Bool, true, false, cond, if◌then◌else◌, ℤ, pos, ◌+ℤ◌, List, [], ◌∷◌, length, map, reverse, Option, Some, None, is_some, option_map, refl, sym, ◌∙◌, ap, subst, ◌⊎◌, inl, inr, length-append}
use Rattle.std.specs.List.{list_any}
use Rattle.std.proofs.lemmas.List.Elements.{All-nil, All-push}
use Rattle.std.proofs.lemmas.List.Sorted.{IsPermutation-reverse, list_any-IsPermutation}
use Rattle.std.proofs.lemmas.Map.Views.{any-filter_same}
use Rattle.std.proofs.lemmas.Bool.{true≢false}
use Rattle.std.proofs.lemmas.Option.{none-some, same_Some}
use Rattle.pth_base.specs.Program.{Functions}
use Rattle.pth_base.specs.declared.attr.AttrValue.{AttrValue}
use Rattle.pth_base.specs.declared.outcome.Outcome.{Outcome}
use Rattle.pth_base.specs.declared.outcome.Outcome.TheVariants as outcome
use Rattle.pth_base.specs.declared.thread.ThreadState.{ThreadState}
use Rattle.pth_base.specs.declared.thread.ThreadState.TheVariants as state
use Rattle.pth_base.specs.Limits.{last_count}
use Rattle.pth_base.specs.Table.{put}
use Rattle.pth_base.proofs.Tables.{same_self, same_means, same_fails, not_same, put_by, put_here, put_other}
use Rattle.pth_cond.proofs.Arrivals.{list_any-map}
use Rattle.pth_queue.specs.Ranking.{head_of}
use Rattle.pth_queue.specs.declared.queue.Queue.{Queue}
use Rattle.pth_queue.specs.declared.queue.Queue.TheVariants.{New, Ready, Waiting, Suspended, Dead}
use Rattle.pth_queue.specs.declared.ranked.Ranked.{Ranked}
use Rattle.pth_threads.specs.Attributes.{change_of}
use Rattle.pth_threads.specs.Threads.{changed, made_of}
use Rattle.pth_threads.specs.declared.entry.Change.{Change}
use Rattle.pth_threads.specs.declared.entry.Change.TheVariants as change
use Rattle.pth_threads.specs.declared.entry.Entry.{Entry}
use Rattle.pth_threads.specs.declared.entry.NewThread.{NewThread}
use Rattle.pth_model.specs.declared.blocked.Blocked.{Blocked}
use Rattle.pth_model.specs.declared.next.Next.{Next}
use Rattle.pth_model.specs.declared.next.Next.TheVariants as next
use Rattle.pth_model.specs.Allowance.{Point, standing_of, AreTakenReady}
use Rattle.pth_model.specs.Standing.{Standing, is_queue, order, row_at, shown, left_by, raises_of}
use Rattle.pth_model.specs.State.{State, Control, Turn, Given, start, no_turn, queue, main, main_entry, main_standing}
use Rattle.pth_model.specs.Transition.{controlled}
use Rattle.pth_model.specs.Changes.{sets, enters, goes_on, leaves_queue, trails, makes, forgets, removes, queue_for, raises_ready, holders, entry_of, or_nobody, blocked_of, prio_of}
use Rattle.pth_model.specs.ThreadControl.{spawns, suspends, resumes, returns_to}
use Rattle.pth_model.specs.LibraryControl.{vanish_all_but}
use Rattle.pth_model.specs.Ending.{leaves, is_dead_with}
use Rattle.pth_model.specs.Pass.{looks, is_ready_at, woken, all_woken, pass, to_wake, moment}
use Rattle.pth_model.specs.Course.{Course, HasHistory}
use Rattle.pth_model.specs.Part.{Part, Move, Take, Step, Close, Halt, next_part, unless_ended, part, part_by, moves, moves_by, readies, readies_all, readies_new, is_put_back, is_put_waiting, is_placed, placed_by, closes, turn_ends, turn_after, ends_run, trail_with, takes, takes_by, dispatches, runs, chosen, steps, steps_on, owes_after}
use Rattle.pth_model.specs.Run.{parts, run}
use Rattle.pth_model.proofs.Queues.{is_queue_self}
use Rattle.pth_model.proofs.Sorted.{same-order}
use Rattle.pth_model.proofs.Walks.{KeptBy, step_keeps}
use Rattle.pth_laws.proofs.EveryRun.{run_names, run_closes}
use Rattle.pth_laws.proofs.Living.{run_queue, queue_to_run, IsToRun, NamesToRun, set_leaves}

-- ---- one queue

-- t stands among these
abbrev stands_in : ℕ → List Standing → Bool
stands_in t all = list_any (λ x. x.tid == t) all

-- and among the rows that are shown
shown_in : (raises t : ℕ) (all : List Standing) → list_any (λ u. u == t) (holders (shown raises all)) ≡ stands_in t all
unfolding shown
shown_in raises t all =
    list_any-map (λ u. u == t) (λ (r : Ranked). r.holder) (map (row_at raises) (order all))
    ∙ list_any-map (λ (r : Ranked). r.holder == t) (row_at raises) (order all)
    ∙ sym (list_any-IsPermutation (λ x. x.tid == t) all (order all) (same-order all))

-- the head stands there
head_in : (raises t : ℕ) (all : List Standing) → head_of (shown raises all) ≡ Some t → stands_in t all ≡ true
head_in raises t all head = sym (shown_in raises t all) ∙ first_in (shown raises all) head
  where
    first_in : (rows : List Ranked) → head_of rows ≡ Some t → list_any (λ u. u == t) (holders rows) ≡ true
    first_in [] h = absurd (cc h)
    first_in (x ∷ xs) h = rw (same_Some x.holder t h, same_self t) refl

-- and is found there
found_in : (t : ℕ) (all : List Standing) → is_some (standing_of t all) ≡ stands_in t all
found_in t [] = refl
found_in t (x ∷ xs) = by_test (x.tid == t) (found_in t xs)
  where
    by_test : (b : Bool) → is_some (standing_of t xs) ≡ stands_in t xs → is_some (cond b (Some x) (standing_of t xs)) ≡ (b || stands_in t xs)
    by_test true rest = refl
    by_test false rest = rest

first_stands : (t : ℕ) (x : Standing) (all : List Standing) → x.tid ≡ t → stands_in t (x ∷ all) ≡ true
first_stands t x all own = rw (own, same_self t) refl

still_stands : (t : ℕ) (x : Standing) (all : List Standing) → stands_in t all ≡ true → stands_in t (x ∷ all) ≡ true
still_stands t x all h = by_test (x.tid == t)
  where
    by_test : (b : Bool) → (b || stands_in t all) ≡ true
    by_test true = refl
    by_test false = h

-- others leave it there
other_left : (t u : ℕ) (all : List Standing) → t ≢ u → stands_in t (left_by u all) ≡ stands_in t all
other_left t u all apart = any-filter_same (λ x. x.tid == t) (λ x. not (x.tid == u)) true (λ x same. ap not (ap (λ i. i == u) (same_means x.tid t same) ∙ not_same t u apart)) all

-- ---- one thread's place

new_ready : New ≡ Ready → ⊥
new_ready h = cc

-- what becomes of it by changes of its record

abbrev IsPlain : Change → Type 0
IsPlain c = (e : Entry) → queue_to_run (Some (changed c e)) ≡ queue_to_run (Some e)

plain_same : (c : Change) (o : Option Entry) → IsPlain c → queue_to_run (option_map (changed c) o) ≡ queue_to_run o
plain_same c None plain = refl
plain_same c (Some e) plain = plain e

value_plain : (v : AttrValue) (c : Change) → change_of v ≡ Some c → IsPlain c
value_plain v c is e = let same = set_leaves v c e is in rw (same.0, same.1) refl

request_plain : (b : Bool) → IsPlain (change.Request b)
unfolding changed
request_plain b e = refl

ready_there : (o : Option Entry) (p : Queue) → queue_to_run (option_map (changed (change.State state.Ready)) o) ≡ Some p → p ≡ Ready
unfolding changed
ready_there None p h = absurd (none-some p h)
ready_there (Some e) p h = by_suspended e.suspended h
  where
    by_suspended : (b : Bool) → run_queue state.Ready b ≡ Some p → p ≡ Ready
    by_suspended true h = absurd (none-some p h)
    by_suspended false h = sym (same_Some Ready p h)

ready_to_run : (o : Option Entry) → IsToRun o → IsToRun (option_map (changed (change.State state.Ready)) o)
unfolding changed
ready_to_run None h = h
ready_to_run (Some e) h = by_suspended e.state e.suspended h
  where
    by_suspended : (at : ThreadState) (b : Bool) → is_some (run_queue at b) ≡ true → is_some (run_queue state.Ready b) ≡ true
    by_suspended at false h = refl
    by_suspended state.New true h = h
    by_suspended state.Ready true h = h
    by_suspended at true h = h

-- new, or ready
to_run_there : (o : Option Entry) → IsToRun o → (queue_to_run o ≡ Some New) ⊎ (queue_to_run o ≡ Some Ready)
to_run_there None h = absurd (true≢false (sym h))
to_run_there (Some e) h = by_state e.state e.suspended h
  where
    by_state : (at : ThreadState) (b : Bool) → is_some (run_queue at b) ≡ true → (run_queue at b ≡ Some New) ⊎ (run_queue at b ≡ Some Ready)
    by_state state.New false h = inl refl
    by_state state.Ready false h = inr refl
    by_state state.New true h = absurd (true≢false (sym h))
    by_state state.Ready true h = absurd (true≢false (sym h))
    by_state at b h = absurd (true≢false (sym h))

waiting_nowhere : (o : Option Entry) → queue_to_run (option_map (changed (change.State state.Waiting)) o) ≡ None
unfolding changed
waiting_nowhere None = refl
waiting_nowhere (Some e) = refl

suspended_nowhere : (o : Option Entry) → queue_to_run (option_map (changed (change.Suspended true)) o) ≡ None
unfolding changed
suspended_nowhere None = refl
suspended_nowhere (Some e) = by_state e.state
  where
    by_state : (at : ThreadState) → run_queue at true ≡ None
    by_state state.New = refl
    by_state state.Ready = refl
    by_state at = refl

dead_nowhere : (v : ℤ) (o : Option Entry) → queue_to_run (option_map (changed (change.Value v)) (option_map (changed (change.Suspended false)) (option_map (changed (change.State state.Dead)) o))) ≡ None
unfolding changed
dead_nowhere v None = refl
dead_nowhere v (Some e) = refl

running_nowhere : (n : ℕ) (o : Option Entry) → queue_to_run (option_map (changed (change.Dispatches n)) (option_map (changed (change.State state.Running)) o)) ≡ None
unfolding changed
running_nowhere n None = refl
running_nowhere n (Some e) = refl

-- it is resumed into the queue of its state
resumed_there : (o : Option Entry) (q p : Queue) → queue_for (or_nobody o).state ≡ Some q → queue_to_run (option_map (changed (change.Suspended false)) o) ≡ Some p → p ≡ q
unfolding changed
resumed_there None q p for h = absurd (none-some p h)
resumed_there (Some e) q p for h = by_state e.state for h
  where
    by_state : (at : ThreadState) → queue_for at ≡ Some q → run_queue at false ≡ Some p → p ≡ q
    by_state state.New for h = sym (same_Some New p h) ∙ same_Some New q for
    by_state state.Ready for h = sym (same_Some Ready p h) ∙ same_Some Ready q for
    by_state at for h = absurd (none-some p h)

-- whom a dispatch takes
chosen_stands : (named : Option ℕ) (raises t : ℕ) (ready : List Standing) → ((v : ℕ) → named ≡ Some v → stands_in v ready ≡ true) → chosen named (shown raises ready) ≡ Some t → stands_in t ready ≡ true
chosen_stands (Some u) raises t ready stands e = stands t e
chosen_stands None raises t ready stands e = head_in raises t ready e

module _ {P S H : Type 0} (v : ℕ) where
  -- where it waits to run, there it stands
  abbrev IsQueued : Control P S H → Type 0
  IsQueued k = (q : Queue) → queue_to_run (k.threads.known v) ≡ Some q → stands_in v (k.threads.standing q) ≡ true

  queued_unless : (t : ℕ) (k : Control P S H) → (v ≡ t → queue_to_run (k.threads.known v) ≡ None) → (v ≢ t → IsQueued k) → IsQueued k
  queued_unless t k own other q waits = by_thread (v == t) refl
    where
      by_thread : (b : Bool) → (v == t) ≡ b → stands_in v (k.threads.standing q) ≡ true
      by_thread true same = absurd (none-some q (sym (own (same_means v t same)) ∙ waits))
      by_thread false apart = other (same_fails v t apart) q waits

  queued_entered : (t : ℕ) (q : Queue) (rank : ℤ) (top : Bool) (k : Control P S H) → (v ≡ t → (p : Queue) → queue_to_run (k.threads.known v) ≡ Some p → p ≡ q) → (v ≢ t → IsQueued k) → IsQueued (enters t q rank top k)
  unfolding enters
  queued_entered t q rank top k own other p waits = by_thread (v == t) refl
    where
      new : Standing
      new = record { tid = t; rank = rank; since = raises_of k.threads.raises q; entry = k.threads.entries; top = top }

      by_thread : (b : Bool) → (v == t) ≡ b → stands_in v (if is_queue p q then new ∷ k.threads.standing p else k.threads.standing p) ≡ true
      by_thread true same =
          let here : is_queue p q ≡ true = subst (λ r. is_queue p r ≡ true) (own (same_means v t same) p waits) (is_queue_self p) in
          rw here (first_stands v new (k.threads.standing p) (sym (same_means v t same)))
      by_thread false apart = by_queue (is_queue p q)
        where
          stood : stands_in v (k.threads.standing p) ≡ true
          stood = other (same_fails v t apart) p waits

          by_queue : (b : Bool) → stands_in v (if b then new ∷ k.threads.standing p else k.threads.standing p) ≡ true
          by_queue true = still_stands v new (k.threads.standing p) stood
          by_queue false = stood

  queued_left : (t : ℕ) (k : Control P S H) → v ≢ t → IsQueued k → IsQueued (leaves_queue t k)
  unfolding leaves_queue
  queued_left t k apart h q waits = other_left v t (k.threads.standing q) apart ∙ h q waits

  set_own : (t : ℕ) (c : Change) (k : Control P S H) → v ≡ t → (sets t c k).threads.known v ≡ option_map (changed c) (k.threads.known v)
  unfolding sets
  set_own t c k same = rw same (put_here k.threads.known t (option_map (changed c) (k.threads.known t)))

  set_other : (t : ℕ) (c : Change) (k : Control P S H) → v ≢ t → (sets t c k).threads.known v ≡ k.threads.known v
  unfolding sets
  set_other t c k apart = put_other k.threads.known t (option_map (changed c) (k.threads.known t)) v apart

  queued_other : (t : ℕ) (c : Change) (k : Control P S H) → v ≢ t → IsQueued k → IsQueued (sets t c k)
  unfolding sets
  queued_other t c k apart h q waits = h q (sym (ap queue_to_run (set_other t c k apart)) ∙ waits)

  queued_changed : (t : ℕ) (c : Change) (k : Control P S H) → IsPlain c → IsQueued k → IsQueued (sets t c k)
  unfolding sets
  queued_changed t c k plain h q waits =
      h q (put_by (λ o. queue_to_run o ≡ Some q → queue_to_run (k.threads.known v) ≡ Some q) k.threads.known t (option_map (changed c) (k.threads.known t)) v
      (λ here w. ap (λ u. queue_to_run (k.threads.known u)) here ∙ sym (plain_same c (k.threads.known t) plain) ∙ w) (λ other w. w) waits)

  -- it enters a queue once its record has changed
  queued_put : (t : ℕ) (c : Change) (q : Queue) (rank : ℤ) (top : Bool) (k : Control P S H) → (v ≡ t → (p : Queue) → queue_to_run (option_map (changed c) (k.threads.known v)) ≡ Some p → p ≡ q) → (v ≢ t → IsQueued k) → IsQueued (enters t q rank top (sets t c k))
  queued_put t c q rank top k own h =
      queued_entered t q rank top (sets t c k) (λ same p waits. own same p (ap queue_to_run (sym (set_own t c k same)) ∙ waits)) (λ apart. queued_other t c k apart (h apart))

  queued_moved : (t : ℕ) (c : Change) (q : Queue) (rank : ℤ) (top : Bool) (k : Control P S H) → (v ≡ t → (p : Queue) → queue_to_run (option_map (changed c) (k.threads.known v)) ≡ Some p → p ≡ q) → IsQueued k → IsQueued (enters t q rank top (sets t c (leaves_queue t k)))
  unfolding leaves_queue
  queued_moved t c q rank top k own h = queued_put t c q rank top (leaves_queue t k) own (λ apart. queued_left t k apart h)

  queued_ready : (t : ℕ) (rank : ℤ) (top : Bool) (k : Control P S H) → IsQueued k → IsQueued (is_ready_at t rank top k)
  unfolding is_ready_at
  queued_ready t rank top k h = queued_moved t (change.State state.Ready) Ready rank top k (λ same. ready_there (k.threads.known v)) h

  -- ---- calls

  queued_spawned : (f : P → Functions S H) (b : ℕ) (x : ℤ) (of : NewThread) (k : Control P S H) → IsQueued k → IsQueued (spawns f b x of k)
  unfolding makes made_of
  queued_spawned f b x of k h =
      let n = k.threads.made + 1 in
      let new = Some (made_of of n) in
      queued_entered n New of.prio false (makes f b x of k)
      (λ same p waits. sym (same_Some New p (sym (ap queue_to_run (ap (put k.threads.known n new) same ∙ put_here k.threads.known n new)) ∙ waits)))
      (λ apart q waits. h q (sym (ap queue_to_run (put_other k.threads.known n new v apart)) ∙ waits))

  queued_suspended : (t : ℕ) (k : Control P S H) → IsQueued k → IsQueued (suspends t k)
  unfolding suspends
  queued_suspended t k h = queued_moved t (change.Suspended true) Suspended (pos 0) false k (λ same p waits. absurd (none-some p (sym (suspended_nowhere (k.threads.known v)) ∙ waits))) h

  queued_returned : (t : ℕ) (o : Option Queue) (k : Control P S H) → queue_for (or_nobody (k.threads.known t)).state ≡ o → IsQueued k → IsQueued (returns_to t o k)
  queued_returned t None k for h = h
  queued_returned t (Some q) k for h = queued_moved t (change.Suspended false) q (pos 0) false k (λ same p waits. resumed_there (k.threads.known v) q p (ap (λ u. queue_for (or_nobody (k.threads.known u)).state) same ∙ for) waits) h

  queued_resumed : (t : ℕ) (k : Control P S H) → IsQueued k → IsQueued (resumes t k)
  unfolding resumes
  queued_resumed t k h = queued_returned t (queue_for (or_nobody (entry_of k t)).state) k refl h

  queued_removed : (t : ℕ) (k : Control P S H) → IsQueued k → IsQueued (removes t k)
  unfolding forgets leaves_queue
  queued_removed t k h = queued_unless t (removes t k)
      (λ same. ap queue_to_run (ap (put k.threads.known t None) same ∙ put_here k.threads.known t None))
      (λ apart q waits. queued_left t k apart h q (sym (ap queue_to_run (put_other k.threads.known t None v apart)) ∙ waits))

  queued_dead : (t : ℕ) (x : ℤ) (k : Control P S H) → IsQueued k → IsQueued (is_dead_with t x k)
  unfolding is_dead_with
  queued_dead t x k h =
      let a = leaves_queue t k in
      let b = sets t (change.State state.Dead) a in
      let c = sets t (change.Suspended false) b in
      let at : v ≡ t → (sets t (change.Value x) c).threads.known v ≡ option_map (changed (change.Value x)) (option_map (changed (change.Suspended false)) (option_map (changed (change.State state.Dead)) (a.threads.known v))) =
      λ same. set_own t (change.Value x) c same ∙ ap (option_map (changed (change.Value x))) (set_own t (change.Suspended false) b same ∙ ap (option_map (changed (change.Suspended false))) (set_own t (change.State state.Dead) a same)) in
      queued_entered t Dead (pos 0) false (sets t (change.Value x) c)
      (λ same p waits. absurd (none-some p (sym (ap queue_to_run (at same) ∙ dead_nowhere x (a.threads.known v)) ∙ waits)))
      (λ apart. queued_other t (change.Value x) c apart (queued_other t (change.Suspended false) b apart (queued_other t (change.State state.Dead) a apart (queued_left t k apart h))))

  queued_gone : (t : ℕ) (x : ℤ) (k : Control P S H) → IsQueued k → IsQueued (leaves t x k)
  unfolding leaves
  queued_gone t x k h = by_end (or_nobody (entry_of k t)).joinable
    where
      by_end : (b : Bool) → IsQueued ((if b then is_dead_with t x else removes t) k)
      by_end true = queued_dead t x k h
      by_end false = queued_removed t k h

  queued_vanished : (t : ℕ) (k : Control P S H) → v ≢ t → IsQueued (vanish_all_but t k)
  unfolding vanish_all_but
  queued_vanished t k apart q waits = absurd (none-some q (sym (ap (λ (b : Bool). queue_to_run (if b then k.threads.known v else None)) (not_same v t apart)) ∙ waits))

  -- ---- a turn begins, and is closed

  queued_placed : (t : ℕ) (r : Option ℕ) (b : Option Blocked) (k : Control P S H) → IsQueued k → IsQueued (placed_by t r b k)
  unfolding is_put_back is_put_waiting
  queued_placed t None b k h = h
  queued_placed t (Some r) (Some b) k h = queued_put t (change.State state.Waiting) Waiting (prio_of k t) false k (λ same p waits. absurd (none-some p (sym (waiting_nowhere (k.threads.known v)) ∙ waits))) (λ apart. h)
  queued_placed t (Some r) None k h = queued_put t (change.State state.Ready) Ready (prio_of k t) false k (λ same. ready_there (k.threads.known v)) (λ apart. h)

  queued_taken : (t : ℕ) (k : Control P S H) → IsQueued k → IsQueued (runs t k)
  unfolding runs trails
  queued_taken t k h =
      let a = leaves_queue t (trails (trail_with t k) k) in
      let b = sets t (change.State state.Running) a in
      let n = min ((or_nobody (entry_of k t)).dispatches + 1) last_count in
      queued_unless t (sets t (change.Dispatches n) b)
      (λ same. ap queue_to_run (set_own t (change.Dispatches n) b same ∙ ap (option_map (changed (change.Dispatches n))) (set_own t (change.State state.Running) a same)) ∙ running_nowhere n (a.threads.known v))
      (λ apart. queued_other t (change.Dispatches n) b apart (queued_other t (change.State state.Running) a apart (queued_left t (trails (trail_with t k) k) apart h)))

  -- these threads become ready, v among them if it is new
  new_readied : (ts : List ℕ) (k : Control P S H) → (queue_to_run (k.threads.known v) ≡ Some New → list_any (λ u. u == v) ts ≡ true) → queue_to_run ((readies_all ts k).threads.known v) ≡ Some New → ⊥
  unfolding readies_all readies is_ready_at leaves_queue enters
  new_readied [] k among new = true≢false (sym (among new))
  new_readied (t ∷ ts) k among new = new_readied ts (readies t k) still new
    where
      ready : Control P S H
      ready = leaves_queue t k

      still : queue_to_run ((sets t (change.State state.Ready) ready).threads.known v) ≡ Some New → list_any (λ u. u == v) ts ≡ true
      still new = by_thread (t == v) refl
        where
          by_thread : (b : Bool) → (t == v) ≡ b → list_any (λ u. u == v) ts ≡ true
          by_thread true same = absurd (new_ready (ready_there (k.threads.known v) New (ap queue_to_run (sym (set_own t (change.State state.Ready) ready (sym (same_means t v same)))) ∙ new)))
          by_thread false apart =
              ap (λ b. b || list_any (λ u. u == v) ts) (sym apart) ∙ among (ap queue_to_run (sym (set_other t (change.State state.Ready) ready (λ same. same_fails t v apart (sym same)))) ∙ new)

-- ---- all threads

module _ {P S H : Type 0} where
  -- what calls of t keep: the dispatches so far, and the place of each other thread
  abbrev KeepsPast : List Point → ℕ → Control P S H → Type 0
  KeepsPast trail t k = (k.threads.trail ≡ trail) × ((v : ℕ) → v ≢ t → IsQueued v k)

  trail_returned : (t : ℕ) (o : Option Queue) (k : Control P S H) → (returns_to t o k).threads.trail ≡ k.threads.trail
  unfolding enters sets leaves_queue
  trail_returned t None k = refl
  trail_returned t (Some q) k = refl

  trail_left : (t : ℕ) (x : ℤ) (k : Control P S H) → (leaves t x k).threads.trail ≡ k.threads.trail
  unfolding leaves is_dead_with enters sets forgets leaves_queue
  trail_left t x k = by_end (or_nobody (entry_of k t)).joinable
    where
      by_end : (b : Bool) → ((if b then is_dead_with t x else removes t) k).threads.trail ≡ k.threads.trail
      by_end true = refl
      by_end false = refl

  past_by_calls : (f : P → Functions S H) (trail : List Point) (t : ℕ) → KeptBy f t (KeepsPast trail t)
  unfolding makes enters sets leaves_queue forgets goes_on suspends resumes vanish_all_but
  past_by_calls f trail t = record {
    calls = record {
      handlers = record { shares = λ x k h. h; seated = λ x k h. h };
      spawned = λ b x of k h. (h.0, λ v apart. queued_spawned v f b x of k (h.1 v apart));
      suspended = λ u k other lives h. (h.0, λ v apart. queued_suspended v u k (h.1 v apart));
      resumed = λ u k other h. (trail_returned u (queue_for (or_nobody (entry_of k u)).state) k ∙ h.0, λ v apart. queued_resumed v u k (h.1 v apart));
      removed = λ n u k taken h. (h.0, λ v apart. queued_removed v u k (h.1 v apart));
      favoured = λ b k h. h;
      changed = λ x u c k is h. (h.0, λ v apart. queued_changed v u c k (value_plain x c is) (h.1 v apart));
      added = λ x k h. h;
      exchanged = λ n o k h. h;
      evented = λ x k none h. h;
      described = λ ds k h. h;
      barred = λ x k h. h;
      used = λ o k h. h;
      requested = λ u b k apart h. (h.0, λ v other. queued_changed v u (change.Request b) k (request_plain b) (h.1 v other));
    };
    goes = λ u g k odd h. h;
    blocked = λ b j k odd was h. h;
    claimed = λ x k h. h;
    preferred = λ u k runs h. h;
    left = λ x k h. (trail_left t x k ∙ h.0, λ v apart. queued_gone v t x k (h.1 v apart));
    ended = λ u x k other up h. (trail_left u x k ∙ h.0, λ v apart. queued_gone v u x k (h.1 v apart));
    dropped = λ u k other dead h. (h.0, λ v apart. queued_removed v u k (h.1 v apart));
    vanished = λ k h. (h.0, λ v apart. queued_vanished v t k apart);
  }

  -- all stand where they wait to run, and who is named waits to run; these are the dispatches so far
  record HasPlaces (trail : List Point) (k : Control P S H) : Type 0 where
    past : k.threads.trail ≡ trail
    queued : (v : ℕ) → IsQueued v k
    named : (v : ℕ) → k.scheduler.preferred ≡ Some v → IsToRun (k.threads.known v)

  places_ready : (trail : List Point) (t : ℕ) (rank : ℤ) (top : Bool) (k : Control P S H) → HasPlaces trail k → HasPlaces trail (is_ready_at t rank top k)
  unfolding is_ready_at sets leaves_queue enters
  places_ready trail t rank top k h = record {
    past = h.past;
    queued = λ v. queued_ready v t rank top k (h.queued v);
    named = λ v is. put_by IsToRun k.threads.known t (option_map (changed (change.State state.Ready)) (k.threads.known t)) v (λ here. ready_to_run (k.threads.known t) (subst (λ u. IsToRun (k.threads.known u)) here (h.named v is))) (λ other. h.named v is);
  }

  places_woken : (trail : List Point) (ts : List ℕ) (s : State P S H) → HasPlaces trail s.control → HasPlaces trail (all_woken ts s).state.control
  unfolding all_woken woken
  places_woken trail [] s h = h
  places_woken trail (t ∷ ts) s h = places_woken trail ts (woken t s).state (places_ready trail t (prio_of s.control t +ℤ pos 1) false s.control h)

  places_pass : (trail : List Point) (f : P → Functions S H) (s : State P S H) → HasPlaces trail s.control → HasPlaces trail (pass f s).state.control
  unfolding pass looks
  places_pass trail f s h = places_woken trail (to_wake f s) (controlled (looks f s) s) (record { past = h.past; queued = h.queued; named = h.named })

  places_moved : (trail : List Point) (f : P → Functions S H) (x : Turn) (o : Option ℕ) (s : State P S H) → HasPlaces trail s.control → HasPlaces trail (moves_by f x o s).state.control
  places_moved trail f x None s h = h
  places_moved trail f x (Some m) s h = places_pass trail f _ (record { past = h.past; queued = h.queued; named = h.named })

  -- who gave up control does not wait to run
  places_placed : (trail : List Point) (t : ℕ) (r : Option ℕ) (b : Option Blocked) (k : Control P S H) → ((u : ℕ) → r ≡ Some u → queue_to_run (k.threads.known t) ≡ None) → HasPlaces trail k → HasPlaces trail (placed_by t r b k)
  unfolding is_put_back is_put_waiting sets enters
  places_placed trail t None b k idle h = h
  places_placed trail t (Some r) b k idle h = by_block b
    where
      kept : (o : Option Entry) (v : ℕ) → k.scheduler.preferred ≡ Some v → IsToRun (put k.threads.known t o v)
      kept o v is = put_by IsToRun k.threads.known t o v (λ here. absurd (true≢false (sym (subst (λ u. IsToRun (k.threads.known u)) here (h.named v is)) ∙ ap is_some (idle r refl)))) (λ other. h.named v is)

      by_block : (b : Option Blocked) → HasPlaces trail (placed_by t (Some r) b k)
      by_block None = record { past = h.past; queued = λ v. queued_placed v t (Some r) None k (h.queued v); named = kept (option_map (changed (change.State state.Ready)) (k.threads.known t)) }
      by_block (Some d) = record { past = h.past; queued = λ v. queued_placed v t (Some r) (Some d) k (h.queued v); named = kept (option_map (changed (change.State state.Waiting)) (k.threads.known t)) }

  places_closed : (trail : List Point) (f : P → Functions S H) (x : Turn) (t : ℕ) (s : State P S H) → ((u : ℕ) → s.control.scheduler.running ≡ Some u → queue_to_run (s.control.threads.known t) ≡ None) → HasPlaces trail s.control → HasPlaces trail (closes f x t s).state.control
  unfolding closes is_placed raises_ready
  places_closed trail f x t s idle h =
      let k = s.control in
      let placed = places_placed trail t k.scheduler.running (blocked_of k t) (raises_ready k) idle (record { past = h.past; queued = h.queued; named = h.named }) in
      places_pass trail f (controlled (turn_ends t) s) (record { past = placed.past; queued = placed.queued; named = placed.named })

  places_readies : (trail : List Point) (ts : List ℕ) (k : Control P S H) → HasPlaces trail k → HasPlaces trail (readies_all ts k)
  unfolding readies_all readies
  places_readies trail [] k h = h
  places_readies trail (t ∷ ts) k h = places_readies trail ts (readies t k) (places_ready trail t _ _ k h)

  -- once the new threads are ready, whoever waits to run is ready
  to_run_ready : (k : Control P S H) (v : ℕ) → ((w : ℕ) → IsQueued w k) → IsToRun ((readies_new k).threads.known v) → queue_to_run ((readies_new k).threads.known v) ≡ Some Ready
  to_run_ready k v queued runs = elim (to_run_there ((readies_new k).threads.known v) runs) [ inl fresh ↦ absurd (new_readied v (reverse new) k among fresh) | inr ready ↦ ready ]
    where
      new : List ℕ
      new = holders (queue k New)

      among : queue_to_run (k.threads.known v) ≡ Some New → list_any (λ u. u == v) (reverse new) ≡ true
      among waits = sym (list_any-IsPermutation (λ u. u == v) new (reverse new) (IsPermutation-reverse new)) ∙ shown_in 0 v (k.threads.standing New) ∙ queued v New waits

  -- ---- the dispatches so far, and what a part makes of them

  record HasPast (s : State P S H) (x : Turn) : Type 0 where
    taken : AreTakenReady s.control.threads.trail
    turns : length s.control.threads.trail ≡ x.turns
    places : (x.outcome ≡ outcome.Killed → ⊥) → HasPlaces s.control.threads.trail s.control

  -- a part that takes nobody
  past_kept : (s u : State P S H) (x y : Turn) → HasPast s x → u.control.threads.trail ≡ s.control.threads.trail → y.turns ≡ x.turns → ((y.outcome ≡ outcome.Killed → ⊥) → HasPlaces s.control.threads.trail u.control) → HasPast u y
  past_kept s u x y h same turns places = record {
    taken = subst AreTakenReady (sym same) h.taken;
    turns = ap (λ (l : List Point). length l) same ∙ h.turns ∙ sym turns;
    places = λ on. subst (λ l. HasPlaces l u.control) (sym same) (places on);
  }

  past_dispatched : (x : Turn) (o : Option ℕ) (s : State P S H) → ((t : ℕ) → o ≡ Some t → stands_in t (s.control.threads.standing Ready) ≡ true) → HasPast s x → (x.outcome ≡ outcome.Killed → ⊥) → HasPast (takes_by x o s).state (takes_by x o s).turn
  unfolding dispatches runs trails sets leaves_queue
  past_dispatched x None s stands h on = h
  past_dispatched x (Some t) s stands h on =
      let k = s.control in
      let point : Point = record { ready = k.threads.standing Ready; taken = t; by_name = is_some k.scheduler.preferred } in
      record {
        taken = All-push (λ p. is_some (standing_of p.taken p.ready) ≡ true) k.threads.trail point h.taken (found_in t (k.threads.standing Ready) ∙ stands t refl);
        turns = length-append k.threads.trail (point ∷ []) ∙ ap (λ n. n + 1) h.turns;
        places = λ still. record { past = refl; queued = λ v. queued_taken v t k ((h.places on).queued v); named = λ v is. absurd (none-some v is) };
      }

  past_taken : (x : Turn) (s : State P S H) → HasPast s x → (x.outcome ≡ outcome.Killed → ⊥) → HasPast (takes x s).state (takes x s).turn
  unfolding takes
  past_taken x s h on = past_dispatched x (chosen a.control.scheduler.preferred (queue a.control Ready)) a stands (past_kept s a x x h after.past refl (λ still. after)) on
    where
      a : State P S H
      a = controlled readies_new s

      after : HasPlaces s.control.threads.trail a.control
      after = places_readies s.control.threads.trail (reverse (holders (queue s.control New))) s.control (h.places on)

      stands : (t : ℕ) → chosen a.control.scheduler.preferred (queue a.control Ready) ≡ Some t → stands_in t (a.control.threads.standing Ready) ≡ true
      stands t = chosen_stands a.control.scheduler.preferred a.control.threads.raises t (a.control.threads.standing Ready)
          (λ v is. after.queued v Ready (to_run_ready s.control v (h.places on).queued (after.named v is)))

-- ---- every run

-- an answer that is owed names nobody
owed_names : {P S H : Type 0} (t : ℕ) (n : Next) (k : Control P S H) → NamesToRun t k → NamesToRun t (owes_after t n k)
unfolding goes_on
owed_names t (next.Done a) k h = h
owed_names t (next.Yields a) k h = h
owed_names t next.Blocks k h = h
owed_names t (next.Ended v) k h = h
owed_names t next.Killed k h = h

-- a step leaves the number of turns
turns_after : (t : ℕ) (n : Next) (x : Turn) → (turn_after t n x).turns ≡ x.turns
turns_after t (next.Done a) x = refl
turns_after t (next.Yields a) x = refl
turns_after t next.Blocks x = refl
turns_after t (next.Ended v) x = by_main (t == main)
  where
    by_main : (b : Bool) → (ends_run v b x).turns ≡ x.turns
    by_main true = refl
    by_main false = refl
turns_after t next.Killed x = refl

still_on : (t : ℕ) (n : Next) (x : Turn) → ((turn_after t n x).outcome ≡ outcome.Killed → ⊥) → n ≡ next.Killed → ⊥
still_on t n x on killed = on (ap (λ y. (turn_after t y x).outcome) killed)

halts_killed : (o : Outcome) (p : Part) → o ≡ outcome.Killed → unless_ended o p ≡ Halt
halts_killed o p killed = rw killed refl

module _ {P S H : Type 0} (f : P → Functions S H) (g : Given P) where
  abbrev HasPastAt : Course P S H → Type 0
  HasPastAt c = HasPast c.state c.turn

  -- where a part comes next the run was not killed
  on_before : (i : ℕ) (p : Part) → let c = run f g i in next_part c.state c.turn ≡ p → (p ≡ Halt → ⊥) → c.turn.outcome ≡ outcome.Killed → ⊥
  unfolding next_part
  on_before i p is goes killed = goes (sym is ∙ halts_killed (run f g i).turn.outcome _ killed)

  -- only main stands, and is ready
  first_queued : (v : ℕ) → IsQueued v (start f g).control
  unfolding start
  first_queued v q waits = put_by (λ o. queue_to_run o ≡ Some q → stands_in v (main_standing q) ≡ true) (λ u. None) main (Some main_entry) v
      (λ here w. subst (λ r. stands_in v (main_standing r) ≡ true) (same_Some Ready q w) (first_stands v (record { tid = main; rank = pos 0; since = 0; entry = 0; top = false }) [] (sym here)))
      (λ other w. absurd (none-some q w)) waits

  turns_moved : (o : Option ℕ) (s : State P S H) (x : Turn) → (moves_by f x o s).turn.turns ≡ x.turns
  turns_moved None s x = refl
  turns_moved (Some m) s x = refl

  past_closed : (x : Turn) (t : ℕ) (s : State P S H) → HasPast s x → HasPlaces s.control.threads.trail (closes f x t s).state.control → HasPast (closes f x t s).state (closes f x t s).turn
  unfolding closes
  past_closed x t s h after = past_kept s (closes f x t s).state x (record x { gave = None }) h after.past refl (λ still. after)

  past_stepped : (i t : ℕ) → let c = run f g i in next_part c.state c.turn ≡ Step t → (c.turn.outcome ≡ outcome.Killed → ⊥) → HasPastAt c → HasPastAt (steps f c.turn t c.state)
  unfolding steps
  past_stepped i t step on h = past_kept c.state d.state c.turn d.turn h kept.0 (turns_after t n x) places
    where
      c : Course P S H
      c = run f g i

      d : Course P S H
      d = steps f c.turn t c.state

      n : Next
      n = (steps_on f t c.state).next

      x : Turn
      x = record c.turn { steps = c.turn.steps + 1 }

      trail : List Point
      trail = c.state.control.threads.trail

      kept : KeepsPast trail t d.state.control
      kept = step_keeps f t (KeepsPast trail t) (past_by_calls f trail t) c.turn c.state (refl, λ v apart. (h.places on).queued v)

      places : ((turn_after t n x).outcome ≡ outcome.Killed → ⊥) → HasPlaces trail d.state.control
      places still =
          let left = owed_names t n (steps_on f t c.state).told.state.control (run_names f g i t step (still_on t n x still)) in
          record {
            past = kept.0;
            queued = λ v. queued_unless v t d.state.control (λ same. ap (λ u. queue_to_run (d.state.control.threads.known u)) same ∙ left.0) (kept.1 v);
            named = left.1;
          }

  past_by : (i : ℕ) (p : Part) → let c = run f g i in next_part c.state c.turn ≡ p → HasPastAt c → HasPastAt (part_by f c.turn c.state p)
  unfolding moves
  past_by i Move is h =
      let c = run f g i in
      let after = places_moved c.state.control.threads.trail f c.turn (moment f c.state) c.state (h.places (on_before i Move is (λ odd. cc))) in
      past_kept c.state (moves f c.turn c.state).state c.turn (moves f c.turn c.state).turn h after.past (turns_moved (moment f c.state) c.state c.turn) (λ still. after)
  past_by i Take is h = let c = run f g i in past_taken c.turn c.state h (on_before i Take is (λ odd. cc))
  past_by i (Step t) is h = past_stepped i t is (on_before i (Step t) is (λ odd. cc)) h
  past_by i (Close t) is h =
      let c = run f g i in
      let after = places_closed c.state.control.threads.trail f c.turn t c.state (run_closes f g i t is) (h.places (on_before i (Close t) is (λ odd. cc))) in
      past_closed c.turn t c.state h after
  past_by i Halt is h = h

  first_past : HasPast (start f g) no_turn
  unfolding start
  first_past = record {
    taken = All-nil _;
    turns = refl;
    places = λ on. record { past = refl; queued = first_queued; named = λ v is. absurd (none-some v is) };
  }

  run_past : (i : ℕ) → HasPastAt (run f g i)
  unfolding parts part
  run_past zero = first_past
  run_past (suc i) = past_by i (next_part (run f g i).state (run f g i).turn) refl (run_past i)

  -- every run has its history
  pub run_history : (i : ℕ) → HasHistory (run f g i)
  run_history i = record { taken = (run_past i).taken; turns = (run_past i).turns }
