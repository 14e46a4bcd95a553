-- No wait and no event asks of descriptor d, as long as no call names it.
use Rattle.std.proofs.Common.{◌≡◌, ℕ, zero, suc, ◌+◌, ◌*◌, ◌==◌, ◌&&◌, Bool, true, false, if◌then◌else◌, ℤ, List, [], ◌∷◌, map, Option, Some, None, option_map, refl, ap, ◌∙◌, subst}
use Rattle.pth_base.proofs.Tables.{put_by}
use Rattle.pth_base.specs.Program.{Functions}
use Rattle.pth_base.specs.Table.{put}
use Rattle.pth_base.specs.declared.act.Act.{Act}
use Rattle.pth_base.specs.declared.act.Act.TheVariants as act
use Rattle.pth_base.specs.declared.answer.Answer.TheVariants as answer
use Rattle.pth_base.specs.declared.attr.AttrValue.{AttrValue}
use Rattle.pth_base.specs.declared.event.EventSpec.{EventSpec}
use Rattle.pth_base.specs.declared.event.EventSpec.TheVariants as of
use Rattle.pth_base.specs.declared.event.EvLine.{EvLine}
use Rattle.pth_base.specs.declared.event.EvLine.TheVariants as line
use Rattle.pth_base.specs.declared.ids.HandlerId.{HandlerId}
use Rattle.pth_base.specs.declared.mark.Mark.{Mark}
use Rattle.pth_base.specs.declared.mark.Mark.TheVariants as mark
use Rattle.pth_base.specs.declared.query.Query.{Query}
use Rattle.pth_base.specs.declared.query.Query.TheVariants as query
use Rattle.pth_numbered.specs.Operands.{number}
use Rattle.pth_queue.specs.declared.queue.Queue.{Queue}
use Rattle.pth_ring.specs.Ring.{each, ring_holds}
use Rattle.pth_ring.specs.Rings.{awaited, with_claim, alone, chained, freed, ring_freed, pending}
use Rattle.pth_ring.specs.declared.event.Event.{Event}
use Rattle.pth_store.specs.Cleanups.{PushedHandler}
use Rattle.pth_store.specs.Keys.{key_limit}
use Rattle.pth_threads.specs.Attributes.{change_of}
use Rattle.pth_threads.specs.declared.attribute.Attribute.{Attribute}
use Rattle.pth_threads.specs.declared.attribute.Attribute.TheVariants.{Free, Bound}
use Rattle.pth_threads.specs.declared.entry.Change as change_of_record
use Rattle.pth_model.specs.declared.awaits.Awaits.{Awaits}
use Rattle.pth_model.specs.declared.awaits.Awaits.TheVariants as awaits
use Rattle.pth_model.specs.declared.blocked.Blocked.{Blocked}
use Rattle.pth_model.specs.declared.destructors.Due.{Due}
use Rattle.pth_model.specs.declared.destructors.DestructorRound.{DestructorRound}
use Rattle.pth_model.specs.declared.progress.Progress.{Progress}
use Rattle.pth_base.specs.Descriptors.{descriptor_limit}
use Rattle.pth_cond.specs.Barriers.{waits_at, withdrawn}
use Rattle.pth_cond.specs.Conditions.{seat_handed_on}
use Rattle.pth_lock.specs.Objects.{object_named}
use Rattle.pth_numbered.specs.Operands.{is_below}
use Rattle.pth_threads.specs.declared.entry.Change.TheVariants as change
use Rattle.pth_threads.specs.declared.entry.NewThread.{NewThread}
use Rattle.pth_model.specs.declared.verdict.Verdict.{Verdict}
use Rattle.pth_model.specs.AttributeHandling.{sets_field, sets_value}
use Rattle.pth_model.specs.Cancellation.{canceled_by_other, canceled_value, aborts}
use Rattle.pth_model.specs.Cleanups.{runs_pushed}
use Rattle.pth_model.specs.EventHandling.{are_goals, spec_of, made_as}
use Rattle.pth_model.specs.LibraryControl.{ctrl, vanish_all_but}
use Rattle.pth_model.specs.ThreadControl.{spawns, returns_to, takes_joined}
use Rattle.pth_model.specs.Times.{is_negative, moment_of, length_of}
use Rattle.pth_model.specs.Acts.{acts, acts_from, act_limit, row_of_act, goes_on_after, runs_handler}
use Rattle.pth_model.specs.Barriers.{withdraws, withdraws_from}
use Rattle.pth_model.specs.Changes.{with_barriers, with_events, sets, goes_on, enters, leaves_queue, makes, forgets, removes, shares, is_blocked_by, blocked_in, blocked_of, entry_of, or_nobody}
use Rattle.pth_model.specs.Conditions.{hands_on_seat}
use Rattle.pth_model.specs.Ending.{ending, undoes_wait, runs_each, runs_cleanups, destructs, destructs_by, runs_destructors, mutexes_had, locks_held, gives_mutexes, gives_locks, leaves, is_dead_with, stops_running, next_destructor, round_limit, first_round}
use Rattle.pth_model.specs.RingWaits.{awaited_in, claims, gives_back, ring_held, ring_seats, stops_waiting}
use Rattle.pth_model.specs.Row.{refuses, unless_refused}
use Rattle.pth_model.specs.State.{State, now_of}
use Rattle.pth_model.specs.Transition.{nothing, where_so, Piece, Change, changes, controlled, tells, tells_each, tid, ◌and_then◌}
use Rattle.pth_agreement.specs.Descriptors.{named_by_line}
use Rattle.pth_agreement.proofs.Asked.{asked_by_event}
use Rattle.pth_agreement.proofs.Waits.{asks_of, wait_asks}

module _ (d : ℕ) where
  abbrev pub blocked_asks : Option Blocked → Bool
  blocked_asks None = false
  blocked_asks (Some b) = wait_asks d b.awaits

  abbrev pub event_asks : Option Event → Bool
  event_asks None = false
  event_asks (Some x) = asks_of d (asked_by_event x.spec)

  abbrev pub ClearOf : {S : Type 0} → (ℕ → Option (Progress S)) → (ℕ → Option Event) → Type 0
  ClearOf progress events = ((t : ℕ) → blocked_asks (blocked_in (progress t)) ≡ false) × ((e : ℕ) → event_asks (events e) ≡ false)

  abbrev pub IsClear : {P S H : Type 0} → State P S H → Type 0
  IsClear s = ClearOf s.control.threads.progress s.control.events.events

  -- ---- tables

  pub progress_put : {S : Type 0} (f : ℕ → Option (Progress S)) (k : ℕ) (o : Option (Progress S)) → ((t : ℕ) → blocked_asks (blocked_in (f t)) ≡ false) → blocked_asks (blocked_in o) ≡ false → (t : ℕ) → blocked_asks (blocked_in (put f k o t)) ≡ false
  progress_put {S = S} f k o all here t = put_by {A = Option (Progress S)} (λ x. blocked_asks (blocked_in x) ≡ false) f k o t (λ same. here) (λ apart. all t)

  event_put : (f : ℕ → Option Event) (k : ℕ) (o : Option Event) → ((e : ℕ) → event_asks (f e) ≡ false) → event_asks o ≡ false → (e : ℕ) → event_asks (put f k o e) ≡ false
  event_put f k o all here e = put_by {A = Option Event} (λ x. event_asks x ≡ false) f k o e (λ same. here) (λ apart. all e)

  pub event_if : (b : Bool) (x y : Option Event) → event_asks x ≡ false → event_asks y ≡ false → event_asks (if b then x else y) ≡ false
  event_if true x y one two = one
  event_if false x y one two = two

  pub event_same : (g : Event → Event) (o : Option Event) → ((x : Event) → (g x).spec ≡ x.spec) → event_asks o ≡ false → event_asks (option_map g o) ≡ false
  event_same g None same h = refl
  event_same g (Some x) same h = ap (λ spec. asks_of d (asked_by_event spec)) (same x) ∙ h

  -- who goes on otherwise, and is blocked by what it was
  goes_same : {S : Type 0} (g : Progress S → Progress S) (o : Option (Progress S)) → ((p : Progress S) → blocked_asks (g p).blocked ≡ false) → blocked_asks (blocked_in (option_map g o)) ≡ false
  goes_same g None h = refl
  goes_same g (Some p) h = h p

  kept_same : {S : Type 0} (g : Progress S → Progress S) (o : Option (Progress S)) → ((p : Progress S) → (g p).blocked ≡ p.blocked) → blocked_asks (blocked_in o) ≡ false → blocked_asks (blocked_in (option_map g o)) ≡ false
  kept_same g None same h = refl
  kept_same g (Some p) same h = ap blocked_asks (same p) ∙ h

  -- what a line asks for asks of what it names
  pub spec_clear : (l : EvLine) → asks_of d (named_by_line l) ≡ false → (x : EventSpec) → spec_of l ≡ Some x → asks_of d (asked_by_event x) ≡ false
  spec_clear (line.Time at) none x made = by_test (is_negative at) made
    where
      by_test : (b : Bool) → (if b then None else Some (of.Time (moment_of at))) ≡ Some x → asks_of d (asked_by_event x) ≡ false
      by_test true same = absurd (cc same)
      by_test false same = subst (λ o. event_asks (option_map pending o) ≡ false) same refl
  spec_clear (line.Fd goals fd) none x made = by_test (are_goals goals && is_below fd descriptor_limit) made
    where
      by_test : (b : Bool) → (if b then Some (of.Fd goals fd) else None) ≡ Some x → asks_of d (asked_by_event x) ≡ false
      by_test true same = subst (λ o. event_asks (option_map pending o) ≡ false) same none
      by_test false same = absurd (cc same)
  spec_clear (line.Select r w y) none x made = subst (λ o. event_asks (option_map pending o) ≡ false) made none
  spec_clear (line.Msg p) none x made = subst (λ o. event_asks (option_map pending o) ≡ false) made refl
  spec_clear (line.Cond i) none x made = subst (λ o. event_asks (option_map pending o) ≡ false) made refl
  spec_clear (line.Tid at t) none x made = subst (λ o. event_asks (option_map pending o) ≡ false) made refl
  spec_clear (line.Func check arg l) none x made = by_test (is_negative l) made
    where
      by_test : (b : Bool) → (if b then None else Some (of.Func check arg (length_of 1 l))) ≡ Some x → asks_of d (asked_by_event x) ≡ false
      by_test true same = absurd (cc same)
      by_test false same = subst (λ o. event_asks (option_map pending o) ≡ false) same refl

  module _ {P S H : Type 0} where
    abbrev pub Stays : Change P S H → Type 0
    Stays g = (s : State P S H) → IsClear s → IsClear (controlled g s)

    abbrev pub Keeps : Piece P S H → Type 0
    Keeps a = (s : State P S H) → IsClear s → IsClear (a s).state

    pub goes_stays : (t : ℕ) (g : Progress S → Progress S) → ((p : Progress S) → (g p).blocked ≡ p.blocked) → Stays (goes_on t g)
    unfolding goes_on
    goes_stays t g same s c = (progress_put s.control.threads.progress t (option_map g (s.control.threads.progress t)) c.0 (kept_same g (s.control.threads.progress t) same (c.0 t)), c.1)

    pub blocked_stays : (t : ℕ) (b : Option Blocked) → blocked_asks b ≡ false → Stays (is_blocked_by t b)
    unfolding goes_on
    blocked_stays t b none s c = let g : Progress S → Progress S = λ p. record p { blocked = b } in (progress_put s.control.threads.progress t (option_map g (s.control.threads.progress t)) c.0 (goes_same g (s.control.threads.progress t) (λ p. none)), c.1)

    gives_back_stays : (o : Option ℤ) → Stays (gives_back o)
    unfolding gives_back
    gives_back_stays None s c = c
    gives_back_stays (Some e) s c = (c.0, event_put s.control.events.events (number e) (option_map (with_claim None) (s.control.events.events (number e))) c.1 (event_same (with_claim None) (s.control.events.events (number e)) (λ x. refl) (c.1 (number e))))

    pub claims_stays : (t : ℕ) (o : Option ℤ) → Stays (claims t o)
    unfolding claims each
    claims_stays t None s c = c
    claims_stays t (Some e) s c =
        let x = s.control.events in
        let g = awaited (now_of s.control) in
        let waited : (i : ℕ) → event_asks (each (x.rings (number e)) (option_map g) x.events i) ≡ false = λ i. event_if (ring_holds i (x.rings (number e))) (option_map g (x.events i)) (x.events i) (event_same g (x.events i) (λ v. refl) (c.1 i)) (c.1 i) in
        let y = each (x.rings (number e)) (option_map g) x.events in
        (c.0, event_put y (number e) (option_map (with_claim (Some (tid t))) (y (number e))) waited (event_same (with_claim (Some (tid t))) (y (number e)) (λ v. refl) (waited (number e))))

    pub stops_stays : (t : ℕ) → Stays (stops_waiting t)
    unfolding stops_waiting goes_on
    stops_stays t s c = gives_back_stays (ring_held (blocked_of s.control t)) (controlled (is_blocked_by t None) s) (blocked_stays t None refl s c)

    -- ---- handlers, and ends

    pub unless_keeps : (b : Bool) (a : Piece P S H) (s : State P S H) → IsClear s → IsClear (a s).state → IsClear (unless_refused b a s).state
    unless_keeps true a s c h = c
    unless_keeps false a s c h = h

    act_effect : (t : ℕ) (x : Act) (s : State P S H) → IsClear s → IsClear ((row_of_act s t x).begin.effect s).state
    act_effect t (act.Note v) s c = c
    act_effect t x s c = c

    act_keeps : (t : ℕ) (x : Act) → Keeps (acts t x)
    unfolding acts
    act_keeps t x s c = let a = (row_of_act s t x).begin in unless_keeps (refuses a.verdict) a.effect s c (act_effect t x s c)

    look_keeps : (t : ℕ) (o : Option Act) (next : Piece P S H) → Keeps next → Keeps (goes_on_after t o next)
    look_keeps t None next keeps s c = c
    look_keeps t (Some x) next keeps s c = keeps (acts t x s).state (act_keeps t x s c)

    pub seat_stays : (t : ℕ) (a : Awaits) → Stays (hands_on_seat t a)
    unfolding hands_on_seat
    seat_stays t (awaits.Notice i) s c = c
    seat_stays t a s c = c

    pub where_keeps : (so : Bool) (a : Piece P S H) → Keeps a → Keeps (where_so so a)
    where_keeps true a keeps s c = keeps s c
    where_keeps false a keeps s c = c

    withdraws_keeps : (t : ℕ) (a : Awaits) → Keeps (withdraws_from t a)
    unfolding withdraws_from withdraws
    withdraws_keeps t (awaits.Round b round) s c = where_keeps (waits_at s.control.barriers b t) (changes (with_barriers (withdrawn b t)) and_then tells (mark.Withdrew (tid t) (object_named b))) (λ u e. e) s c
    withdraws_keeps t a s c = c

    undoes_keeps : (t : ℕ) → Keeps (undoes_wait t)
    undoes_keeps t s c =
        let a = awaited_in (blocked_of s.control t) in
        let u = (withdraws_from t a.what s).state in
        let v = controlled (hands_on_seat t a.what) u in
        stops_stays t (controlled (ring_seats seat_handed_on a.ring) v) (seat_stays t a.what u (withdraws_keeps t a.what s c))

    pub removes_stays : (t : ℕ) → Stays (removes t)
    unfolding leaves_queue forgets
    removes_stays t s c = (progress_put s.control.threads.progress t None c.0 refl, c.1)

    leaves_stays : (t : ℕ) (v : ℤ) → Stays (leaves t v)
    unfolding leaves is_dead_with leaves_queue sets enters forgets
    leaves_stays t v s c = by_joinable (or_nobody (entry_of s.control t)).joinable
      where
        by_joinable : (b : Bool) → IsClear (controlled (λ k. stops_running t ((if b then is_dead_with t v else removes t) k)) s)
        by_joinable true = c
        by_joinable false = removes_stays t s c

    each_keeps : (ms : List Mark) → Keeps (tells_each ms)
    unfolding tells_each
    each_keeps [] s c = c
    each_keeps (m ∷ ms) s c = each_keeps ms (tells m s).state c

    module _ (f : P → Functions S H) where
      acts_keep : (t : ℕ) (h : HandlerId) (v : ℤ) (n i : ℕ) → Keeps (acts_from f t h v n i)
      unfolding acts_from
      acts_keep t h v zero i s c = c
      acts_keep t h v (suc n) i s c =
          let x = (f s.control.program).act h.0 v i s.control.shared in
          look_keeps t x.act (acts_from f t h v n (i + 1)) (acts_keep t h v n (i + 1)) (controlled (shares x.shared) s) c

      pub handler_keeps : (t : ℕ) (h : HandlerId) (v : ℤ) → Keeps (runs_handler f t h v)
      handler_keeps t h v s c = acts_keep t h v (suc act_limit) 0 (tells (mark.Handler (tid t) h v) s).state c

      cleanups_keep : (t : ℕ) (cs : List PushedHandler) → Keeps (runs_each f t cs)
      unfolding runs_each
      cleanups_keep t [] s c = c
      cleanups_keep t (x ∷ cs) s c = cleanups_keep t cs (runs_handler f t x.0 x.1 s).state (handler_keeps t x.0 x.1 s c)

      due_keeps : (t : ℕ) (o : Option Due) (next : DestructorRound → Piece P S H) → ((r : DestructorRound) → Keeps (next r)) → Keeps (destructs_by f t o next)
      due_keeps t None next keeps s c = c
      due_keeps t (Some x) next keeps s c = keeps x.round _ (acts_keep t x.handler x.value (suc act_limit) 0 (tells (mark.Destructor (tid t) x.key x.value) s).state c)

      destructs_keep : (t n : ℕ) (r : DestructorRound) → Keeps (destructs f t n r)
      unfolding destructs
      destructs_keep t zero r s c = c
      destructs_keep t (suc n) r s c = due_keeps t (next_destructor s.resources.store.keys t r) (destructs f t n) (destructs_keep t n) s c

      pub ending_keeps : (t : ℕ) (v : ℤ) → Keeps (ending f t v)
      unfolding ending
      ending_keeps t v s c =
          let s1 = (undoes_wait t s).state in
          let s2 = (runs_cleanups f t s1).state in
          let s3 = (runs_destructors f t s2).state in
          let s4 = (gives_mutexes t s3).state in
          let s5 = (gives_locks t s4).state in
          let c2 = cleanups_keep t (s1.resources.store.cleanups t) s1 (undoes_keeps t s c) in
          let c3 = destructs_keep t (round_limit * key_limit) first_round s2 c2 in
          let c4 = each_keeps (map (mark.GaveMutex (tid t)) (mutexes_had t s3.resources.store.mutexes)) s3 c3 in
          let c5 = each_keeps (map (mark.GaveLock (tid t)) (locks_held t s4.resources.store.rw_locks)) s4 c4 in
          leaves_stays t v s5 c5

      -- ---- what calls do as they begin

      pub other_keeps : (t : ℕ) → Keeps (canceled_by_other f t)
      other_keeps t s c = ending_keeps t canceled_value (tells (mark.Canceled (tid t) None) s).state c

      pub asks_keep : (t : ℕ) (b : Bool) → Keeps (if b then canceled_by_other f t else changes (sets t (change.Request true)))
      unfolding sets
      asks_keep t true s c = other_keeps t s c
      asks_keep t false s c = c

      pub aborts_keep : (t : ℕ) (dead : Bool) → Keeps (aborts f t dead)
      unfolding sets
      aborts_keep t true s c = removes_stays t s c
      aborts_keep t false s c = other_keeps t (controlled (sets t (change.Cancel 3)) (controlled (sets t (change.Joinable false)) s)) c

      pub pushed_keeps : (t : ℕ) (o : Option PushedHandler) → Keeps (runs_pushed f t o)
      pushed_keeps t None s c = c
      pushed_keeps t (Some x) s c = handler_keeps t x.0 x.1 s c

      pub spawned_keeps : (b : ℕ) (v : ℤ) (of : NewThread) → Stays (spawns f b v of)
      unfolding makes enters
      spawned_keeps b v of s c = (progress_put s.control.threads.progress (s.control.threads.made + 1) (Some (record { state = (f s.control.program).start b v; owed = answer.None; blocked = None })) c.0 refl, c.1)

    pub if_stays : (b : Bool) (g : Change P S H) → Stays g → Stays (if b then nothing else g)
    if_stays true g stays s c = c
    if_stays false g stays s c = stays s c

    pub sets_stays : (t : ℕ) (x : change_of_record.Change) → Stays (sets t x)
    unfolding sets
    sets_stays t x s c = c

    field_stays : (t : ℕ) (o : Option change_of_record.Change) → Stays (sets_field t o)
    field_stays t None s c = c
    field_stays t (Some x) s c = sets_stays t x s c

    pub value_stays : (a : ℤ) (v : AttrValue) (o : Option Attribute) → Stays (sets_value a v o)
    value_stays a v None s c = c
    value_stays a v (Some (Free x)) s c = c
    value_stays a v (Some (Bound u)) s c = field_stays u.0 (change_of v) s c

    pub returns_stays : (t : ℕ) (o : Option Queue) → Stays (returns_to t o)
    unfolding leaves_queue sets enters
    returns_stays t None s c = c
    returns_stays t (Some q) s c = c

    pub joined_stays : (o : Option ℕ) → Stays (takes_joined o)
    joined_stays None s c = c
    joined_stays (Some t) s c = removes_stays t s c

    pub ctrl_keeps : (s : State P S H) (x : Query) → IsClear s → IsClear ((ctrl s x).begin.effect s).state
    ctrl_keeps s query.Threads c = c
    ctrl_keeps s x c = c

    pub vanish_stays : (t : ℕ) → Stays (vanish_all_but t)
    unfolding vanish_all_but
    vanish_stays t s c = (λ u. by_test u (u == t), λ e. event_same (with_claim None) (s.control.events.events e) (λ x. refl) (c.1 e))
      where
        by_test : (u : ℕ) (b : Bool) → blocked_asks (blocked_in (if b then s.control.threads.progress u else None)) ≡ false
        by_test u true = c.0 u
        by_test u false = refl

    pub freed_stays : (all : Bool) (e : ℕ) → Stays (with_events (if all then ring_freed e else freed e))
    unfolding each
    freed_stays true e s c = (c.0, λ i. event_if (ring_holds i (s.control.events.rings e)) None (s.control.events.events i) refl (c.1 i))
    freed_stays false e s c = (c.0, event_put s.control.events.events e None c.1 refl)

    -- an event that is made
    new_clear : (spec : EventSpec) (n : ℕ) (s : State P S H) → IsClear s → asks_of d (asked_by_event spec) ≡ false → (e : ℕ) → event_asks (put s.control.events.events n (Some (pending spec)) e) ≡ false
    new_clear spec n s c none = event_put s.control.events.events n (Some (pending spec)) c.1 none

    pub alone_keeps : (s : State P S H) (o : Option EventSpec) (v : EventSpec → Verdict) → ((x : EventSpec) → o ≡ Some x → asks_of d (asked_by_event x) ≡ false) → IsClear s → IsClear ((made_as o v (λ x. with_events (alone x))).begin.effect s).state
    alone_keeps s None v none c = c
    alone_keeps s (Some x) v none c = (c.0, new_clear x (s.control.events.made + 1) s c (none x refl))

    pub chained_keeps : (s : State P S H) (e : ℕ) (o : Option EventSpec) (v : EventSpec → Verdict) → ((x : EventSpec) → o ≡ Some x → asks_of d (asked_by_event x) ≡ false) → IsClear s → IsClear ((made_as o v (λ x. with_events (chained x e))).begin.effect s).state
    chained_keeps s e None v none c = c
    chained_keeps s e (Some x) v none c = (c.0, new_clear x (s.control.events.made + 1) s c (none x refl))
