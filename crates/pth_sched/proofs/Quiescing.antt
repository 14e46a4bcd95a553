-- What keeps a state quiescent: dispatches, what ends a turn, and non-waking steps.
use Rattle.std.proofs.Common.{◌≡◌, ◌≢◌, ◌∙◌, ℕ, ◌+◌, ◌≤◌, ◌||◌, not, min, Bool, true, false, ℤ, pos, negsuc, List, [], ◌∷◌, Option, Some, None, option_map, refl, sym, ap, subst, arith}
use Rattle.pth_base.specs.Limits.{last_moment}
use Rattle.pth_base.specs.Table.{put}
use Rattle.pth_base.proofs.Tables.{put_other, put_by}
use Rattle.pth_base.specs.declared.thread.ThreadState.{ThreadState}
use Rattle.pth_base.specs.declared.thread.ThreadState.TheVariants as state
use Rattle.pth_kernel.specs.Kernel.{advanced}
use Rattle.pth_threads.specs.Threads.{changed}
use Rattle.pth_threads.specs.declared.entry.Change.TheVariants as change
use Rattle.pth_threads.specs.declared.entry.Entry.{Entry}
use Rattle.pth_model.specs.declared.blocked.Blocked.{Blocked}
use Rattle.pth_model.specs.State.{Control, State, now_of, clock_of}
use Rattle.pth_model.specs.Changes.{blocked_of, entry_of, or_nobody, sets, leaves_queue, enters, raises_ready, runs_now, trails}
use Rattle.pth_model.specs.Cancellation.{is_to_cancel, may_be_canceled}
use Rattle.pth_model.specs.Coming.{has_died}
use Rattle.pth_model.specs.ThreadControl.{is_dead_in}
use Rattle.pth_model.specs.Pass.{is_ready_at}
use Rattle.pth_model.specs.Part.{runs, readies, readies_all, is_placed, placed_by, is_put_back, is_put_waiting, time_passes, turn_ends}
use Rattle.pth_model.specs.Transition.{controlled}
use Rattle.pth_waits.specs.Dormant.{IsDormant, is_left_to_join}
use Rattle.pth_sched.specs.Quiescence.{IsQuiescent, IsQuiescentBut, is_among_waiting}
use Rattle.pth_waits.proofs.Dormancy.{KeepsPending, KeepsRounds, KeepsSeats, dormant_kept, pending_then, same_pending, same_seats, seats_then}

-- ---- records of threads

-- A thread that has not died, and can be joined, still has not and can; one that is not left to join is not left now; and whether it
-- lets itself be canceled is as it was.
pub record IsTame (o p : Option Entry) : Type 0 where
  pub died : (is_dead_in o || not (or_nobody o).joinable) ≡ false → (is_dead_in p || not (or_nobody p).joinable) ≡ false
  pub left : is_left_to_join o ≡ false → is_left_to_join p ≡ false
  pub asked : is_to_cancel (or_nobody p) ≡ is_to_cancel (or_nobody o)

tame_same : (o : Option Entry) → IsTame o o
tame_same o = record { died = λ h. h; left = λ h. h; asked = refl }

tame_then : (o p q : Option Entry) → IsTame o p → IsTame p q → IsTame o q
tame_then o p q a b = record { died = λ h. b.died (a.died h); left = λ h. b.left (a.left h); asked = b.asked ∙ a.asked }

-- states of threads that live
data Lives : ThreadState → Type 0 where
  Ready : Lives state.Ready
  Running : Lives state.Running
  Waiting : Lives state.Waiting

-- and of those, states of threads that don't wait
data Runs : ThreadState → Type 0 where
  Ready : Runs state.Ready
  Running : Runs state.Running

or_right : (a b : Bool) → (a || b) ≡ false → b ≡ false
or_right true b h = absurd (cc h)
or_right false b h = h

tame_state : (x : ThreadState) → Lives x → (o : Option Entry) → IsTame o (option_map (changed (change.State x)) o)
unfolding changed
tame_state x lives None = tame_same None
tame_state state.Ready lives (Some e) = record { died = λ h. or_right (is_dead_in (Some e)) (not e.joinable) h; left = λ h. refl; asked = refl }
tame_state state.Running lives (Some e) = record { died = λ h. or_right (is_dead_in (Some e)) (not e.joinable) h; left = λ h. refl; asked = refl }
tame_state state.Waiting lives (Some e) = record { died = λ h. or_right (is_dead_in (Some e)) (not e.joinable) h; left = λ h. refl; asked = refl }
tame_state state.New lives (Some e) = elim lives [ ]
tame_state state.Dead lives (Some e) = elim lives [ ]

tame_dispatches : (n : ℕ) → (o : Option Entry) → IsTame o (option_map (changed (change.Dispatches n)) o)
unfolding changed
tame_dispatches n None = tame_same None
tame_dispatches n (Some e) = record { died = λ h. h; left = λ h. h; asked = refl }

-- in a table of which one record is changed
tame_put : (f : ℕ → Option Entry) (t : ℕ) (p : Option Entry) → IsTame (f t) p → (u : ℕ) → IsTame (f u) (put f t p u)
tame_put f t p tame u = put_by (λ v. IsTame (f u) v) f t p u (λ same. subst (λ n. IsTame (f n) p) (sym same) tame) (λ apart. tame_same (f u))

-- who runs or is ready waits no longer
not_waiting : (x : ThreadState) → Runs x → (o : Option Entry) → is_among_waiting (option_map (changed (change.State x)) o) ≡ false
unfolding changed
not_waiting x runs None = refl
not_waiting state.Ready runs (Some e) = refl
not_waiting state.Running runs (Some e) = refl
not_waiting state.Waiting runs (Some e) = elim runs [ ]
not_waiting state.New runs (Some e) = elim runs [ ]
not_waiting state.Dead runs (Some e) = elim runs [ ]

-- ---- quiescence

module _ {P S H : Type 0} where
  -- what changed leaves quiescent what was quiescent: time went on, and of threads that wait all is as it was
  pub record KeepsQuiescence (s r : State P S H) (but : ℕ → Type 0) : Type 0 where
    pub now : ℕ
    pub later : now_of s.control ≤ now
    pub kernel : r.control.kernel ≡ advanced now s.control.kernel
    pub events : KeepsPending s.control.events r.control.events
    pub mutexes : r.resources.store.mutexes ≡ s.resources.store.mutexes
    pub locks : r.resources.store.rw_locks ≡ s.resources.store.rw_locks
    pub mail : r.resources.store.mail ≡ s.resources.store.mail
    pub rounds : KeepsRounds s.control.barriers r.control.barriers
    pub seats : KeepsSeats s.control.conditions r.control.conditions
    pub tame : (u : ℕ) → IsTame (entry_of s.control u) (entry_of r.control u)
    pub waited : (u : ℕ) → but u → is_among_waiting (entry_of r.control u) ≡ true
        → (s.control.scheduler.running ≢ Some u) × (is_among_waiting (entry_of s.control u) ≡ true) × (blocked_of r.control u ≡ blocked_of s.control u)

  died_kept : (k j : Control P S H) → ((u : ℕ) → IsTame (entry_of k u) (entry_of j u)) → (n : ℤ) → has_died k n ≡ false → has_died j n ≡ false
  died_kept k j tame (pos n) h = (tame n).died h
  died_kept k j tame (negsuc n) h = h

  asked_kept : (k j : Control P S H) (u : ℕ) → IsTame (entry_of k u) (entry_of j u) → blocked_of j u ≡ blocked_of k u → may_be_canceled k u ≡ false → may_be_canceled j u ≡ false
  unfolding may_be_canceled
  asked_kept k j u tame blocked h = rw (tame.asked, blocked) h

  pub quiescence_kept : (s r : State P S H) (but : ℕ → Type 0) (until : ℕ) → KeepsQuiescence s r but → IsQuiescent s until → (u : ℕ) → but u → is_among_waiting (entry_of r.control u) ≡ true → IsDormant r until u
  quiescence_kept s r but until keeps quiescence u b waits =
      let w = keeps.waited u b waits in
      dormant_kept s r u (record {
        now = keeps.now;
        later = keeps.later;
        kernel = keeps.kernel;
        events = keeps.events;
        mutexes = keeps.mutexes;
        locks = keeps.locks;
        mail = keeps.mail;
        rounds = keeps.rounds;
        seats = keeps.seats;
        blocked = w.2;
        died = died_kept s.control r.control keeps.tame;
        left = λ none v. (keeps.tame v).left (none v);
        asked = asked_kept s.control r.control u (keeps.tame u) w.2;
      }) until (quiescence u w.0 w.1)

  -- ---- the threads that become ready, and the one that is dispatched

  module _ (s : State P S H) (nobody : s.control.scheduler.running ≡ None) where
    not_running : (u : ℕ) → s.control.scheduler.running ≢ Some u
    not_running u is = cc (sym nobody ∙ is)

    pub ready_keeps : (t : ℕ) (rank : ℤ) (top : Bool) → KeepsQuiescence s (controlled (is_ready_at t rank top) s) (λ u. Unit {0})
    unfolding is_ready_at leaves_queue sets enters
    ready_keeps t rank top =
        let known = s.control.threads.known in
        record {
          now = now_of s.control;
          later = omega arith;
          kernel = refl;
          events = same_pending s.control.events;
          mutexes = refl;
          locks = refl;
          mail = refl;
          rounds = λ b r h. h;
          seats = same_seats s.control.conditions;
          tame = tame_put known t _ (tame_state state.Ready Ready (known t));
          waited = λ u b. put_by (λ v. is_among_waiting v ≡ true → (s.control.scheduler.running ≢ Some u) × (is_among_waiting (known u) ≡ true) × (blocked_of s.control u ≡ blocked_of s.control u)) known t _ u
              (λ same waits. absurd (cc (sym (not_waiting state.Ready Ready (known t)) ∙ waits)))
              (λ apart waits. (not_running u, waits, refl));
        }

    pub runs_keeps : (t : ℕ) → KeepsQuiescence s (controlled (runs t) s) (λ u. u ≢ t)
    unfolding runs trails leaves_queue sets
    runs_keeps t =
        let known = s.control.threads.known in
        let first = put known t (option_map (changed (change.State state.Running)) (known t)) in
        record {
          now = now_of s.control;
          later = omega arith;
          kernel = refl;
          events = same_pending s.control.events;
          mutexes = refl;
          locks = refl;
          mail = refl;
          rounds = λ b r h. h;
          seats = same_seats s.control.conditions;
          tame = λ u. tame_then (known u) (first u) _
              (tame_put known t _ (tame_state state.Running Running (known t)) u)
              (tame_put first t _ (tame_dispatches _ (first t)) u);
          waited = λ u apart waits. (not_running u, subst (λ (v : Option Entry). is_among_waiting v ≡ true) (put_other first t _ u apart ∙ put_other known t _ u apart) waits, refl);
        }

  ready_runs : (k : Control P S H) (t : ℕ) → k.scheduler.running ≡ None → (readies t k).scheduler.running ≡ None
  unfolding readies is_ready_at leaves_queue sets enters
  ready_runs k t nobody = nobody

  ready_quiescent : (s : State P S H) (until t : ℕ) → s.control.scheduler.running ≡ None → IsQuiescent s until → IsQuiescent (controlled (readies t) s) until
  unfolding readies
  ready_quiescent s until t nobody quiescence = λ u b waits. quiescence_kept s (controlled (readies t) s) (λ u. Unit {0}) until (ready_keeps s nobody t _ _) quiescence u tt waits

  pub readied_quiescent : (s : State P S H) (until : ℕ) (ts : List ℕ) → s.control.scheduler.running ≡ None → IsQuiescent s until → IsQuiescent (controlled (readies_all ts) s) until
  unfolding readies_all
  readied_quiescent s until [] nobody quiescence = quiescence
  readied_quiescent s until (t ∷ ts) nobody quiescence = readied_quiescent (controlled (readies t) s) until ts (ready_runs s.control t nobody) (ready_quiescent s until t nobody quiescence)

  pub readied_nobody : (k : Control P S H) (ts : List ℕ) → k.scheduler.running ≡ None → (readies_all ts k).scheduler.running ≡ None
  unfolding readies_all
  readied_nobody k [] nobody = nobody
  readied_nobody k (t ∷ ts) nobody = readied_nobody (readies t k) ts (ready_runs k t nobody)

  runs_is : (k : Control P S H) (t : ℕ) → (runs t k).scheduler.running ≡ Some t
  unfolding runs leaves_queue sets
  runs_is k t = refl

  -- who is dispatched waits no longer, and runs
  pub dispatched_quiescent : (s : State P S H) (until t : ℕ) → s.control.scheduler.running ≡ None → IsQuiescent s until → IsQuiescent (controlled (runs t) s) until
  dispatched_quiescent s until t nobody quiescence = λ u apart waits.
      quiescence_kept s (controlled (runs t) s) (λ u. u ≢ t) until (runs_keeps s nobody t) quiescence u (λ same. apart (runs_is s.control t ∙ ap (λ n. Some n) (sym same))) waits

  -- ---- the end of a turn

  module _ (s : State P S H) (t : ℕ) (own : (r : ℕ) → s.control.scheduler.running ≡ Some r → r ≡ t) where
    abbrev k : Control P S H
    k = s.control

    not_own : (u : ℕ) → u ≢ t → k.scheduler.running ≢ Some u
    not_own u apart is = apart (own u is)

    later_now : (now clock : ℕ) → now ≤ last_moment → now ≤ min (now + clock) last_moment
    later_now now clock h = omega arith

    -- another state of t is set
    module _ (x : ThreadState) (lives : Lives x) where
      others_wait : (u : ℕ) → u ≢ t → is_among_waiting (put k.threads.known t (option_map (changed (change.State x)) (k.threads.known t)) u) ≡ true → is_among_waiting (entry_of k u) ≡ true
      others_wait u apart waits = subst (λ (v : Option Entry). is_among_waiting v ≡ true) (put_other k.threads.known t _ u apart) waits

    put_keeps : (r : Option ℕ) (b : Option Blocked) → now_of k ≤ last_moment → KeepsQuiescence s (controlled (λ j. time_passes (runs_now None (placed_by t r b (raises_ready j)))) s) (λ u. u ≢ t)
    unfolding raises_ready is_put_back is_put_waiting sets enters
    put_keeps None b within = record {
      now = min (now_of k + clock_of k) last_moment;
      later = later_now (now_of k) (clock_of k) within;
      kernel = refl;
      events = same_pending k.events;
      mutexes = refl;
      locks = refl;
      mail = refl;
      rounds = λ b r h. h;
      seats = same_seats k.conditions;
      tame = λ u. tame_same (k.threads.known u);
      waited = λ u apart waits. (not_own u apart, waits, refl);
    }
    put_keeps (Some r) None within = record {
      now = min (now_of k + clock_of k) last_moment;
      later = later_now (now_of k) (clock_of k) within;
      kernel = refl;
      events = same_pending k.events;
      mutexes = refl;
      locks = refl;
      mail = refl;
      rounds = λ b r h. h;
      seats = same_seats k.conditions;
      tame = tame_put k.threads.known t _ (tame_state state.Ready Ready (k.threads.known t));
      waited = λ u apart waits. (not_own u apart, others_wait state.Ready Ready u apart waits, refl);
    }
    put_keeps (Some r) (Some b) within = record {
      now = min (now_of k + clock_of k) last_moment;
      later = later_now (now_of k) (clock_of k) within;
      kernel = refl;
      events = same_pending k.events;
      mutexes = refl;
      locks = refl;
      mail = refl;
      rounds = λ b r h. h;
      seats = same_seats k.conditions;
      tame = tame_put k.threads.known t _ (tame_state state.Waiting Waiting (k.threads.known t));
      waited = λ u apart waits. (not_own u apart, others_wait state.Waiting Waiting u apart waits, refl);
    }

    pub turn_over_quiescent : (until : ℕ) → now_of k ≤ last_moment → IsQuiescent s until → IsQuiescentBut t (controlled (turn_ends t) s) until
    unfolding is_placed
    turn_over_quiescent until within quiescence = λ u apart waits.
        quiescence_kept s (controlled (turn_ends t) s) (λ u. u ≢ t) until (put_keeps (raises_ready k).scheduler.running (blocked_of (raises_ready k) t) within) quiescence u apart waits

  -- ---- steps that are non-waking

  -- but for t, which runs, of threads and of what they wait for all is as it was, and events are pending as they were, or more
  pub record IsNonWaking (t : ℕ) (s r : State P S H) : Type 0 where
    pub known : r.control.threads.known ≡ s.control.threads.known
    pub running : r.control.scheduler.running ≡ s.control.scheduler.running
    pub kernel : r.control.kernel ≡ s.control.kernel
    pub events : KeepsPending s.control.events r.control.events
    pub mutexes : r.resources.store.mutexes ≡ s.resources.store.mutexes
    pub locks : r.resources.store.rw_locks ≡ s.resources.store.rw_locks
    pub mail : r.resources.store.mail ≡ s.resources.store.mail
    pub rounds : KeepsRounds s.control.barriers r.control.barriers
    pub seats : KeepsSeats s.control.conditions r.control.conditions
    pub blocked : (u : ℕ) → u ≢ t → blocked_of r.control u ≡ blocked_of s.control u

  pub non_waking_same : (t : ℕ) (s : State P S H) → IsNonWaking t s s
  non_waking_same t s = record { known = refl; running = refl; kernel = refl; events = same_pending s.control.events; mutexes = refl; locks = refl; mail = refl; rounds = λ b r h. h; seats = same_seats s.control.conditions; blocked = λ u apart. refl }

  pub non_waking_then : (t : ℕ) (s r q : State P S H) → IsNonWaking t s r → IsNonWaking t r q → IsNonWaking t s q
  non_waking_then t s r q a b = record {
    known = b.known ∙ a.known;
    running = b.running ∙ a.running;
    kernel = b.kernel ∙ a.kernel;
    events = pending_then s.control.events r.control.events q.control.events a.events b.events;
    mutexes = b.mutexes ∙ a.mutexes;
    locks = b.locks ∙ a.locks;
    mail = b.mail ∙ a.mail;
    rounds = λ c r h. b.rounds c r (a.rounds c r h);
    seats = seats_then s.control.conditions r.control.conditions q.control.conditions a.seats b.seats;
    blocked = λ u apart. b.blocked u apart ∙ a.blocked u apart;
  }

  non_waking_keeps : (t : ℕ) (s r : State P S H) → IsNonWaking t s r → s.control.scheduler.running ≡ Some t → KeepsQuiescence s r (λ u. u ≢ t)
  non_waking_keeps t s r non_waking runs = record {
    now = now_of s.control;
    later = omega arith;
    kernel = non_waking.kernel;
    events = non_waking.events;
    mutexes = non_waking.mutexes;
    locks = non_waking.locks;
    mail = non_waking.mail;
    rounds = non_waking.rounds;
    seats = non_waking.seats;
    tame = λ u. subst (λ (f : ℕ → Option Entry). IsTame (s.control.threads.known u) (f u)) (sym non_waking.known) (tame_same (s.control.threads.known u));
    waited = λ u apart waits. (λ is. apart (cc (sym runs ∙ is)), subst (λ (f : ℕ → Option Entry). is_among_waiting (f u) ≡ true) non_waking.known waits, non_waking.blocked u apart);
  }

  pub non_waking_quiescent : (t : ℕ) (s r : State P S H) (until : ℕ) → IsNonWaking t s r → s.control.scheduler.running ≡ Some t → IsQuiescent s until → IsQuiescent r until
  non_waking_quiescent t s r until non_waking runs quiescence = λ u other waits.
      quiescence_kept s r (λ u. u ≢ t) until (non_waking_keeps t s r non_waking runs) quiescence u (λ same. other (non_waking.running ∙ runs ∙ ap (λ n. Some n) (sym same))) waits
