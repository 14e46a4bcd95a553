-- Threads are woken one after another.
use Rattle.std.proofs.Common.{◌≡◌, ◌≢◌, ℕ, ◌==◌, ◌+◌, ◌≤◌, ℤ, pos, ◌+ℤ◌, Bool, true, false, cond, ◌||◌, List, [], ◌∷◌, ◌++◌, map, filter, count_by, Option, Some, IsSome, IfSome, refl, sym, ◌∙◌, ap, subst, arith, append_assoc, append-nil}
use Rattle.pth_base.specs.Program.{Functions}
use Rattle.pth_base.proofs.Tables.{same_self}
use Rattle.pth_base.specs.declared.mark.Mark.{Mark}
use Rattle.pth_base.specs.declared.mark.Mark.TheVariants.{Woke}
use Rattle.pth_queue.specs.declared.ranked.Ranked.{Ranked}
use Rattle.pth_queue.specs.declared.queue.Queue.TheVariants.{Ready, Waiting}
use Rattle.pth_queue.specs.Ranking.{is_of, holds, named_row, IsQueued}
use Rattle.pth_queue.specs.Queues.{queue_of, without, entered}
use Rattle.pth_queue.proofs.Counts.{count-cons}
use Rattle.pth_queue.proofs.Standing.{queue_of-holds}
use Rattle.pth_threads.specs.Threads.{slot_of, tid_at}
use Rattle.pth_model.specs.State.{State}
use Rattle.pth_model.specs.Transition.{Transition, changes, controlled, tid, ◌and_then◌}
use Rattle.pth_model.specs.Changes.{holders, prio_of}
use Rattle.pth_model.specs.Pass.{is_ready_at, is_to_wake, looks, woken, all_woken, to_wake, pass}
use Rattle.pth_model.specs.Resources.{told as told_of}
use Rattle.pth_world.specs.World.{WorldOf, ThreadsBySlot}
use Rattle.pth_world.specs.Shows.{Shows, StandsFor}
use Rattle.pth_world.specs.Sound.{IsSound, IsKnown}
use Rattle.pth_world.specs.Touches.{KeepsRest, SameThreads}
use Rattle.pth_base.specs.Cut.{IsCut}
use Rattle.pth_world.specs.Leading.{Leads}
use Rattle.pth_world.specs.Ranks.{KeepsRanks}
use Rattle.pth_world.specs.WellFormed.{WellFormed, WaitsToRun}
use Rattle.pth_world.proofs.Events.{events_whole}
use Rattle.pth_world.proofs.Ranks.{ranks_none, ranks_then}
use Rattle.pth_world.proofs.Telling.{has_still}
use Rattle.pth_world.proofs.QueueReads.{once_thread, stands_at}
use Rattle.pth_world.proofs.Walks.{in-readied}
use Rattle.pth_sched.specs.Passing.{IsWaiting, IsNotIn, OnlyWakes, WaitOnce}
use Rattle.pth_sched.proofs.Keeping.{scheduler_first, scheduler_then}

-- ---- one thread

module _ {P S H : Type 0} where
  pub woken_leads : (w v : WorldOf P S H) (s : State P S H) (t : ℕ) (rank : ℤ) (old new : List Mark) → StandsFor w s → v.store ≡ w.store → rank ≡ prio_of s.control t +ℤ pos 1 → Shows v (is_ready_at t rank false s.control) → new ≡ old ++ Woke (tid t) rank ∷ [] → Leads v old new (woken t s)
  unfolding woken told_of
  woken_leads w v s t rank old new stands stored is st told = record {
    stands = record { control = subst (λ (r : ℤ). Shows v (is_ready_at t r false s.control)) is st; store = has_still w v s stored stands.store };
    tells = subst (λ (r : ℤ). new ≡ old ++ Woke (tid t) r ∷ []) is told;
  }

  -- another thread that waits goes on waiting
  pub waits_still : (w v : WorldOf P S H) (t u : ℕ) (rank : ℤ) → IsSound w.threads → IsKnown w.threads t → SameThreads w.threads v.threads → IfSome (slot_of w.threads.records t) (λ x. v.threads.queues ≡ entered Ready rank x (without x w.threads.queues)) → u ≢ t → IsWaiting w u → IsWaiting v u
  waits_still w v t u rank sound known same queues apart waits =
      (subst (λ (f : ℕ → Option ℕ). IsSome (f u)) (sym same.slots) waits.0, in-readied w.threads v.threads t u Waiting rank sound known same queues apart waits.1)

  -- and so do others, none of which is this one
  pub wait_once : (w v : WorldOf P S H) (t : ℕ) (ts : List ℕ) → ((u : ℕ) → u ≢ t → IsWaiting w u → IsWaiting v u) → IsNotIn t ts → WaitOnce w ts → WaitOnce v ts
  wait_once w v t [] still apart once = tt
  wait_once w v t (u ∷ us) still apart once = (still u apart.0 once.0, once.1, wait_once w v t us still apart.1 once.2)

-- ---- which threads a pass wakes

zero_of : (b : Bool) (n : ℕ) → cond {A = ℕ} b 1 0 + n ≡ 0 → b ≡ false
zero_of true n h = absurd (omega arith)
zero_of false n h = refl

not_in_by : (p : Bool) (t u : ℕ) (us : List ℕ) → u ≢ t → IsNotIn t us → IsNotIn t (cond p (u ∷ us) us)
not_in_by true t u us apart h = (apart, h)
not_in_by false t u us apart h = h

-- whose row does not stand in a queue is not listed
not_in : (p : ℕ → Bool) (t : ℕ) (rows : List Ranked) → count_by (is_of t) rows ≡ 0 → IsNotIn t (filter p (holders rows))
not_in p t [] none = tt
not_in p t (x ∷ rows) none =
    let other : is_of t x ≡ false = zero_of (is_of t x) (count_by (is_of t) rows) (sym (count-cons t x rows) ∙ none) in
    not_in_by (p x.holder) t x.holder (filter p (holders rows)) (λ same. absurd (cc (sym other ∙ ap (λ (n : ℕ). n == t) same ∙ same_self t))) (not_in p t rows (omega (arith, count-cons t x rows)))

module _ {P S H : Type 0} (w : WorldOf P S H) (sound : IsSound w.threads) where
  one_waits : (x : ℕ) → tid_at w.threads.records x ≢ 0 → queue_of x w.threads.queues ≡ Some Waiting → IsWaiting w (tid_at w.threads.records x)
  one_waits x used stands = (subst (λ (o : Option ℕ). IsSome o) (sym (sound.tied.slot x used)) refl, stands_at w.threads sound x (tid_at w.threads.records x) Waiting used refl stands)

  once_by : (b : Bool) (t : ℕ) (ts : List ℕ) → IsWaiting w t → IsNotIn t ts → WaitOnce w ts → WaitOnce w (cond b (t ∷ ts) ts)
  once_by true t ts waits apart once = (waits, apart, once)
  once_by false t ts waits apart once = once

  rows_once : (p : ℕ → Bool) (xs : List Ranked) → IsQueued (tid_at w.threads.records) xs → ((x : ℕ) → holds x xs ≡ true → queue_of x w.threads.queues ≡ Some Waiting) → ((t : ℕ) → count_by (is_of t) (map (named_row (tid_at w.threads.records)) xs) ≤ 1)
      → WaitOnce w (filter p (holders (map (named_row (tid_at w.threads.records)) xs)))
  rows_once p [] used stands once = tt
  rows_once p (x ∷ xs) used stands once =
      let t = tid_at w.threads.records x.holder in
      let rest = map (named_row (tid_at w.threads.records)) xs in
      let own : cond {A = ℕ} (is_of t (named_row (tid_at w.threads.records) x)) 1 0 ≡ 1 = ap (λ (b : Bool). cond {A = ℕ} b 1 0) (same_self t) in
      let count = count-cons t (named_row (tid_at w.threads.records) x) rest in
      let none : count_by (is_of t) rest ≡ 0 = (let o = once t in omega arith) in
      once_by (p t) t (filter p (holders rest)) (one_waits x.holder used.0 (stands x.holder (rw (same_self x.holder) refl))) (not_in p t rest none)
      (rows_once p xs used.1 (λ y h. stands y (rw h (or_true (is_of y x)))) (λ u. (let o = once u in omega (arith, count-cons u (named_row (tid_at w.threads.records) x) rest))))
    where
      or_true : (b : Bool) → (b || true) ≡ true
      or_true true = refl
      or_true false = refl

  -- they wait, and none is listed twice
  pub to_wake_once : (f : P → Functions S H) (s : State P S H) → StandsFor w s → WaitOnce w (to_wake f s)
  unfolding to_wake
  to_wake_once f s st =
      let rows = st.control.threads.standing Waiting in
      subst (λ (l : List Ranked). WaitOnce w (filter (is_to_wake f s) (holders l))) (sym rows)
      (rows_once (is_to_wake f s) w.threads.queues.waiting (sound.queued Waiting) (λ x h. queue_of-holds Waiting x w.threads.queues sound.orderly h) (λ t. subst (λ (l : List Ranked). count_by (is_of t) l ≤ 1) rows (once_thread w.threads s.control t Waiting sound st.control.threads)))

-- ---- all of them

module _ {P S H : Type 0} where
  -- the world stands for a state from which the threads that are left are still to be woken
  pub record Wakes (w : WorldOf P S H) (ts : List ℕ) (old new : List Mark) (all : Transition P S H) : Type 0 where
    pub state : State P S H
    pub stands : StandsFor w state
    pub told : List Mark
    pub appended : new ≡ old ++ told
    pub same_state : (all_woken ts state).state ≡ all.state
    pub same_marks : told ++ (all_woken ts state).marks ≡ all.marks

  pub wakes_first : (w : WorldOf P S H) (ts : List ℕ) (old : List Mark) (s : State P S H) → StandsFor w s → Wakes w ts old old (all_woken ts s)
  wakes_first w ts old s st = record { state = s; stands = st; told = []; appended = sym (append-nil old); same_state = refl; same_marks = refl }

  pub wakes_next : (w v : WorldOf P S H) (t : ℕ) (ts : List ℕ) (old mid new : List Mark) (all : Transition P S H) → Wakes w (t ∷ ts) old mid all → ((s : State P S H) → StandsFor w s → Leads v mid new (woken t s)) → Wakes v ts old new all
  unfolding all_woken
  wakes_next w v t ts old mid new all k leads =
      let l = leads k.state k.stands in
      record {
        state = (woken t k.state).state;
        stands = l.stands;
        told = k.told ++ (woken t k.state).marks;
        appended = l.tells ∙ ap (λ (m : List Mark). m ++ (woken t k.state).marks) k.appended ∙ append_assoc old k.told (woken t k.state).marks;
        same_state = k.same_state;
        same_marks = append_assoc k.told (woken t k.state).marks (all_woken ts (woken t k.state).state).marks ∙ k.same_marks;
      }

  pub wakes_all : (w : WorldOf P S H) (old new : List Mark) (all : Transition P S H) → Wakes w [] old new all → Leads w old new all
  unfolding all_woken
  wakes_all w old new all k = record {
    stands = subst (StandsFor w) k.same_state k.stands;
    tells = k.appended ∙ ap (λ (m : List Mark). old ++ m) (sym (append-nil k.told) ∙ k.same_marks);
  }

  pub wakes_cut : (w : WorldOf P S H) (t : ℕ) (ts : List ℕ) (old mid new : List Mark) (all : Transition P S H) → Wakes w (t ∷ ts) old mid all → ((s : State P S H) → StandsFor w s → IsCut mid new (woken t s).marks) → IsCut old new all.marks
  unfolding all_woken
  wakes_cut w t ts old mid new all k cuts =
      let c = cuts k.state k.stands in
      let later = (all_woken ts (woken t k.state).state).marks in
      record {
        first = k.told ++ c.first;
        rest = c.rest ++ later;
        new_is = c.new_is ∙ ap (λ (m : List Mark). m ++ c.first) k.appended ∙ append_assoc old k.told c.first;
        whole_is = append_assoc k.told c.first (c.rest ++ later) ∙ ap (λ (m : List Mark). k.told ++ m) (sym (append_assoc c.first c.rest later) ∙ ap (λ (m : List Mark). m ++ later) c.whole_is) ∙ k.same_marks;
      }

  -- a pass wakes those that it listed
  module _ (f : P → Functions S H) (w v : WorldOf P S H) (s : State P S H) (st : StandsFor w s) (ts : List ℕ) (old new : List Mark) (is : ts ≡ to_wake f s) (seen : Shows v (looks f s s.control)) (stored : v.store ≡ w.store) where
    stands_seen : StandsFor v (controlled (looks f s) s)
    stands_seen = record { control = seen; store = has_still w v s stored st.store }

    pub pass_leads : (x : WorldOf P S H) → ((u : State P S H) → StandsFor v u → Leads x old new (all_woken ts u)) → Leads x old new (pass f s)
    unfolding pass
    pass_leads x leads =
        let l = leads (controlled (looks f s) s) stands_seen in
        subst (λ (l : List ℕ). Leads x old new ((changes (looks f s) and_then all_woken l) s)) is (record { stands = l.stands; tells = l.tells })

    pub pass_cut : ((u : State P S H) → StandsFor v u → IsCut old new (all_woken ts u).marks) → IsCut old new (pass f s).marks
    unfolding pass
    pass_cut cut = subst (λ (l : List ℕ). IsCut old new ((changes (looks f s) and_then all_woken l) s).marks) is (cut (controlled (looks f s) s) stands_seen)

  -- and all of them wait still
  pub once_seen : (w v : WorldOf P S H) → v ≡ record w { events = v.events } → (ts : List ℕ) → WaitOnce w ts → WaitOnce v ts
  once_seen w v same [] once = tt
  once_seen w v same (t ∷ ts) once = (subst (λ (x : WorldOf P S H). IsWaiting x t) (sym same) once.0, once.1, once_seen w v same ts once.2)

  -- what is seen of events leaves all else
  seen_rest : (w v : WorldOf P S H) → v.events.made ≡ w.events.made → v ≡ record w { events = v.events } → KeepsRest w v
  seen_rest w v made same = record {
    program = ap (λ (x : WorldOf P S H). x.program) same;
    attributes = ap (λ (x : WorldOf P S H). x.attributes) same;
    events = made;
    conditions = ap (λ (x : WorldOf P S H). x.conditions) same;
    barriers = ap (λ (x : WorldOf P S H). x.barriers) same;
    kernel = ap (λ (x : WorldOf P S H). x.kernel) same;
    store = ap (λ (x : WorldOf P S H). x.store) same;
    used = ap (λ (x : WorldOf P S H). x.used) same;
    scheduler = ap (λ (x : WorldOf P S H). x.scheduler) same;
  }

  pub wakes_seen : (w v : WorldOf P S H) → WellFormed w → v.events.made ≡ w.events.made → v ≡ record w { events = v.events } → OnlyWakes w v
  wakes_seen w v whole made same =
      let threads : v.threads ≡ w.threads = ap (λ (x : WorldOf P S H). x.threads) same in
      record {
        whole = subst (λ (x : WorldOf P S H). WellFormed x) (sym same) (events_whole w v.events whole);
        rest = seen_rest w v made same;
        made = ap (λ (x : ThreadsBySlot S). x.records.made) threads;
        ranks = subst (λ (x : ThreadsBySlot S). KeepsRanks 0 w.threads x) (sym threads) (ranks_none w.threads);
        stays = λ u. subst (λ (x : ThreadsBySlot S). WaitsToRun x u) (sym threads);
      }

  -- ---- what is kept on the way

  pub wakes_none : (w : WorldOf P S H) → WellFormed w → OnlyWakes w w
  wakes_none w whole = record { whole = whole; rest = scheduler_first w; made = refl; ranks = ranks_none w.threads; stays = λ u waits. waits }

  pub wakes_then : (w m v : WorldOf P S H) → OnlyWakes w m → OnlyWakes m v → OnlyWakes w v
  wakes_then w m v a b = record {
    whole = b.whole;
    rest = scheduler_then w m v a.rest b.rest;
    made = b.made ∙ a.made;
    ranks = ranks_then 0 w.threads m.threads v.threads a.ranks b.ranks;
    stays = λ u waits. b.stays u (a.stays u waits);
  }
