-- What each part of a run keeps of where threads stand, and so every run: none stands twice.
use Rattle.std.proofs.Common.{◌≡◌, ℕ, zero, suc, ◌+◌, ◌≤◌, ◌==◌, min, Bool, true, false, if◌then◌else◌, ℤ, pos, ◌+ℤ◌, List, [], ◌∷◌, reverse, Option, Some, None, is_some, All, refl, sym, ◌∙◌, subst, arith}
use Rattle.std.proofs.lemmas.List.Elements.{All-nil, All-cons, All-head, All-tail, All-filter}
use Rattle.std.proofs.lemmas.List.Sorted.{IsPermutation-reverse, All-permutation}
use Rattle.pth_base.specs.Program.{Functions}
use Rattle.pth_base.specs.declared.outcome.Outcome.{Outcome}
use Rattle.pth_base.specs.declared.outcome.Outcome.TheVariants as outcome
use Rattle.pth_base.specs.declared.thread.ThreadState.TheVariants as state
use Rattle.pth_base.specs.Limits.{last_count}
use Rattle.pth_base.specs.Table.{put}
use Rattle.pth_base.proofs.Tables.{same_self, put_by}
use Rattle.pth_queue.specs.declared.queue.Queue.{Queue}
use Rattle.pth_queue.specs.declared.queue.Queue.TheVariants.{New, Ready, Waiting, Suspended, Dead}
use Rattle.pth_queue.specs.declared.ranked.Ranked.{Ranked}
use Rattle.pth_threads.specs.declared.entry.Change as change_type
use Rattle.pth_threads.specs.declared.entry.Change.TheVariants as change
use Rattle.pth_threads.specs.declared.entry.Entry.{Entry}
use Rattle.pth_threads.specs.declared.entry.NewThread.{NewThread}
use Rattle.pth_model.specs.declared.blocked.Blocked.{Blocked}
use Rattle.pth_model.specs.declared.next.Next.{Next}
use Rattle.pth_model.specs.declared.next.Next.TheVariants as next
use Rattle.pth_model.specs.declared.progress.Progress.{Progress}
use Rattle.pth_model.specs.Standing.{Standing}
use Rattle.pth_model.specs.State.{State, Control, Turn, Given, start, main, main_entry, main_standing, queue}
use Rattle.pth_model.specs.Transition.{controlled}
use Rattle.pth_model.specs.Changes.{sets, enters, goes_on, leaves_queue, trails, makes, forgets, removes, prefers, queue_for, raises_ready, runs_now, prio_of, holders, entry_of, or_nobody, blocked_of, blocking}
use Rattle.pth_model.specs.ThreadControl.{spawns, suspends, resumes, returns_to}
use Rattle.pth_model.specs.LibraryControl.{vanish_all_but}
use Rattle.pth_model.specs.Ending.{leaves, is_dead_with, other_than, stops_running}
use Rattle.pth_model.specs.Living.{is_dead}
use Rattle.pth_model.specs.Pass.{is_ready_at, woken, all_woken, pass, looks, waiting, is_to_wake, to_wake, moment}
use Rattle.pth_model.specs.Part.{Part, next_part, next_part_by, unless_ended, is_idle, part, part_by, moves, moves_by, readies, readies_all, readies_new, new_rank, is_put_back, is_put_waiting, is_placed, placed_by, closes, turn_ends, takes, takes_by, dispatches, runs, chosen, steps, steps_on, turn_after, ends_run, gives_up}
use Rattle.pth_model.specs.Run.{parts, run}
use Rattle.pth_model.specs.Order.{times_listed, IsOnce}
use Rattle.pth_model.proofs.Walks.{IsOther, KeptBy, runs_some, step_keeps}
use Rattle.pth_model.proofs.Once.{SetsOf, Sets, times_in, sets-enter, sets-leave, sets-thread, sets-change, sets-forget, times-above, times-enter_other, times-leave, times-leave_le, rows-low, stands-cons, at_most_one}

-- where threads stand, and who runs
pub record Seats : Type 0 where
  pub made : ℕ
  pub known : ℕ → Option Entry
  pub standing : Queue → List Standing
  pub preferred : Option ℕ
  pub running : Option ℕ

-- the thread that runs stands nowhere
record IsSeated (x : Seats) : Type 0 where
  sets : SetsOf x.made x.known x.standing
  preferred : (t : ℕ) → x.preferred ≡ Some t → t ≤ x.made
  low : (t : ℕ) → x.running ≡ Some t → t ≤ x.made
  out : (t : ℕ) → x.running ≡ Some t → times_listed t x.standing ≡ 0

-- t makes a step, and runs unless it has ended
record IsGoing (t : ℕ) (x : Seats) : Type 0 where
  sets : SetsOf x.made x.known x.standing
  preferred : (u : ℕ) → x.preferred ≡ Some u → u ≤ x.made
  low : t ≤ x.made
  out : (r : ℕ) → x.running ≡ Some r → times_listed r x.standing ≡ 0
  alone : (r : ℕ) → x.running ≡ Some r → r ≡ t

-- none runs
record IsResting (x : Seats) : Type 0 where
  sets : SetsOf x.made x.known x.standing
  preferred : (t : ℕ) → x.preferred ≡ Some t → t ≤ x.made
  running : x.running ≡ None

none_some : (t : ℕ) → None ≡ Some t → ⊥
none_some t e = cc

same_some : (t u : ℕ) → Some t ≡ Some u → u ≡ t
same_some t u e = cc

-- whom a dispatch takes was made
chosen_low : (made : ℕ) (preferred : Option ℕ) (rows : List Ranked) → ((t : ℕ) → preferred ≡ Some t → t ≤ made) → All (λ t. t ≤ made) (holders rows) → (t : ℕ) → chosen preferred rows ≡ Some t → t ≤ made
chosen_low made (Some u) rows low all t e = low t e
chosen_low made None [] low all t e = absurd (none_some t e)
chosen_low made None (x ∷ rows) low all t e = let same : t ≡ x.holder = same_some x.holder t e in let h : x.holder ≤ made = All-head (λ t. t ≤ made) x.holder (holders rows) all in omega (arith, same, h)

-- main's place at the start
abbrev main_stands : Standing
main_stands = record { tid = 1; rank = pos 0; since = 0; entry = 0; top = false }

low_start : (q : Queue) → All (λ x. x.tid ≤ 1) (main_standing q)
low_start Ready = All-cons (λ x. x.tid ≤ 1) main_stands [] (omega arith) (All-nil (λ x. x.tid ≤ 1))
low_start New = All-nil (λ x. x.tid ≤ 1)
low_start Waiting = All-nil (λ x. x.tid ≤ 1)
low_start Suspended = All-nil (λ x. x.tid ≤ 1)
low_start Dead = All-nil (λ x. x.tid ≤ 1)

numbered_start : (t : ℕ) → is_some (put (λ u. None) main (Some main_entry) t) ≡ true → t ≤ 1
numbered_start t =
    let Low : Option Entry → Type 0 = λ o. is_some o ≡ true → t ≤ 1 in
    put_by Low (λ u. None) main (Some main_entry) t (λ here e. omega (arith, here)) (λ other e. absurd (cc e))

-- ---- who gives up control

-- none gave up control but t
abbrev Gives : ℕ → Option ℕ → Type 0
Gives t gave = (u : ℕ) → gave ≡ Some u → u ≡ t

gives_up-own : (t : ℕ) (x : Turn) → Gives t (gives_up t x).gave
gives_up-own t x u e = same_some t u e

gave_after : (t : ℕ) (n : Next) (x : Turn) → x.gave ≡ None → Gives t (turn_after t n x).gave
gave_after t (next.Done a) x none u e = absurd (none_some u (sym none ∙ e))
gave_after t (next.Yields a) x none u e = gives_up-own t x u e
gave_after t next.Blocks x none u e = gives_up-own t x u e
gave_after t (next.Ended v) x none u e = gives_up-own t (ends_run v (t == main) x) u e
gave_after t next.Killed x none u e = absurd (none_some u (sym none ∙ e))

module _ {P S H : Type 0} where
  abbrev pub seats : Control P S H → Seats
  seats k = record { made = k.threads.made; known = k.threads.known; standing = k.threads.standing; preferred = k.scheduler.preferred; running = k.scheduler.running }

  abbrev Going : ℕ → Control P S H → Type 0
  Going t k = IsGoing t (seats k)

  abbrev Resting : Control P S H → Type 0
  Resting k = IsResting (seats k)

  -- and it is the one that gives up control
  record Placed (k : Control P S H) (gave : Option ℕ) : Type 0 where
    seated : IsSeated (seats k)
    gives : (t r : ℕ) → gave ≡ Some t → k.scheduler.running ≡ Some r → t ≡ r

  placed_after : (t : ℕ) (k : Control P S H) (gave : Option ℕ) → Gives t gave → Going t k → Placed k gave
  placed_after t k gave own g = record {
    seated = record {
      sets = g.sets;
      preferred = g.preferred;
      low = λ r e. let same : r ≡ t = g.alone r e in omega (arith, same, g.low);
      out = g.out;
    };
    gives = λ u r e h. own u e ∙ sym (g.alone r h);
  }

  -- ---- calls of t

  going_spawned : (f : P → Functions S H) (t b : ℕ) (v : ℤ) (of : NewThread) (k : Control P S H) → Going t k → Going t (spawns f b v of k)
  unfolding makes enters
  going_spawned f t b v of k g =
      let made = k.threads.made in
      let a = makes f b v of k in
      let new : Sets a = sets-thread k g.sets f b v of in
      record {
        sets = sets-enter a new (made + 1) New of.prio false (times-above k g.sets (made + 1) (omega arith)) (omega arith);
        low = omega (arith, g.low);
        preferred = λ u e. let h = g.preferred u e in omega (arith, h);
        alone = g.alone;
        out = λ r e. let same : r ≡ t = g.alone r e in times-enter_other a new (made + 1) New of.prio false r (omega (arith, same, g.low)) ∙ g.out r e;
      }

  -- t has ended, and does not run
  stopped_going : (t : ℕ) (k : Control P S H) → Sets k → t ≤ k.threads.made → ((u : ℕ) → k.scheduler.preferred ≡ Some u → u ≤ k.threads.made) → ((r : ℕ) → k.scheduler.running ≡ Some r → r ≡ t) → Going t (stops_running t k)
  stopped_going t k sets low preferred alone =
      let stopped : other_than t k.scheduler.running ≡ None = stops k.scheduler.running alone in
      record {
        sets = sets;
        preferred = preferred;
        low = low;
        out = λ r e. absurd (none_some r (sym stopped ∙ e));
        alone = λ r e. absurd (none_some r (sym stopped ∙ e));
      }
    where
      stops : (o : Option ℕ) → ((r : ℕ) → o ≡ Some r → r ≡ t) → other_than t o ≡ None
      stops None same = refl
      stops (Some r) same = let e : r ≡ t = same r refl in rw (e, same_self t) refl

  sets_dead : (k : Control P S H) (t : ℕ) (v : ℤ) → Sets k → t ≤ k.threads.made → Sets (is_dead_with t v k)
  unfolding is_dead_with sets leaves_queue
  sets_dead k t v s low =
      let a = leaves_queue t k in
      let b = sets t (change.State state.Dead) a in
      let c = sets t (change.Suspended false) b in
      let sa : Sets a = sets-leave k s t in
      let sb : Sets b = sets-change a sa t (change.State state.Dead) in
      let sc : Sets c = sets-change b sb t (change.Suspended false) in
      sets-enter (sets t (change.Value v) c) (sets-change c sc t (change.Value v)) t Dead (pos 0) false (times-leave k t) low

  going_left : (t : ℕ) (v : ℤ) (k : Control P S H) → Going t k → Going t (leaves t v k)
  unfolding leaves is_dead_with sets enters forgets leaves_queue
  going_left t v k g = by_end (or_nobody (entry_of k t)).joinable
    where
      by_end : (b : Bool) → Going t (stops_running t ((if b then is_dead_with t v else (λ (c : Control P S H). forgets t (leaves_queue t c))) k))
      by_end true = stopped_going t (is_dead_with t v k) (sets_dead k t v g.sets g.low) g.low g.preferred g.alone
      by_end false = stopped_going t (forgets t (leaves_queue t k)) (sets-forget (leaves_queue t k) (sets-leave k g.sets t) t) g.low g.preferred g.alone

  -- another thread has ended
  going_ended : (t u : ℕ) (v : ℤ) (k : Control P S H) → IsOther t u k → is_dead (or_nobody (entry_of k u)).state ≡ false → Going t k → Going t (leaves u v k)
  unfolding leaves is_dead_with sets enters forgets leaves_queue
  going_ended t u v k other up g = by_end (or_nobody (entry_of k u)).joinable
    where
      still : (r : ℕ) → other_than u k.scheduler.running ≡ Some r → k.scheduler.running ≡ Some r
      still r e = by_running k.scheduler.running e
        where
          by_running : (o : Option ℕ) → other_than u o ≡ Some r → o ≡ Some r
          by_running None e = e
          by_running (Some w) e = by_same (w == u) e
            where
              by_same : (b : Bool) → (if b then None else Some w) ≡ Some r → Some w ≡ Some r
              by_same true e = absurd (none_some r e)
              by_same false e = e

      out_of : (r : ℕ) → k.scheduler.running ≡ Some r → times_in (leaves_queue u k) r ≡ 0
      out_of r e = let less = times-leave_le k u r in let none = g.out r e in omega (arith, less, none)

      by_end : (b : Bool) → Going t (stops_running u ((if b then is_dead_with u v else (λ (c : Control P S H). forgets u (leaves_queue u c))) k))
      by_end true = record {
        sets = sets_dead k u v g.sets (g.sets.numbered u other.known);
        preferred = g.preferred;
        low = g.low;
        out = λ r e. let same : r ≡ t = g.alone r (still r e) in times-enter_other (leaves_queue u k) (sets-leave k g.sets u) u Dead (pos 0) false r (λ is_u. other.apart (is_u ∙ same)) ∙ out_of r (still r e);
        alone = λ r e. g.alone r (still r e);
      }
      by_end false = record {
        sets = sets-forget (leaves_queue u k) (sets-leave k g.sets u) u;
        preferred = g.preferred;
        low = g.low;
        out = λ r e. out_of r (still r e);
        alone = λ r e. g.alone r (still r e);
      }

  -- t stands nowhere, and another thread that leaves its queue for one changes nothing for it
  going_moved : (t u : ℕ) (q : Queue) (c : change_type.Change) (k : Control P S H) → IsOther t u k → Going t k → Going t (enters u q (pos 0) false (sets u c (leaves_queue u k)))
  unfolding sets enters leaves_queue
  going_moved t u q c k other g =
      let a = leaves_queue u k in
      let b = sets u c a in
      let sb : Sets b = sets-change a (sets-leave k g.sets u) u c in
      record {
        sets = sets-enter b sb u q (pos 0) false (times-leave k u) (g.sets.numbered u other.known);
        preferred = g.preferred;
        low = g.low;
        out = λ r e.
            let same : r ≡ t = g.alone r e in
            let none : times_in a r ≡ 0 = (let h = times-leave_le k u r in let z = g.out r e in omega (arith, h, z)) in
            times-enter_other b sb u q (pos 0) false r (λ is. other.apart (is ∙ same)) ∙ none;
        alone = g.alone;
      }

  going_suspended : (t u : ℕ) (k : Control P S H) → IsOther t u k → Going t k → Going t (suspends u k)
  unfolding suspends
  going_suspended t u k other g = going_moved t u Suspended (change.Suspended true) k other g

  going_returned : (t u : ℕ) (q : Option Queue) (k : Control P S H) → IsOther t u k → Going t k → Going t (returns_to u q k)
  going_returned t u None k other g = g
  going_returned t u (Some q) k other g = going_moved t u q (change.Suspended false) k other g

  going_resumed : (t u : ℕ) (k : Control P S H) → IsOther t u k → Going t k → Going t (resumes u k)
  unfolding resumes
  going_resumed t u k other g = going_returned t u (queue_for (or_nobody (entry_of k u)).state) k other g

  going_preferred : (t u : ℕ) (k : Control P S H) → is_some (k.threads.known u) ≡ true → Going t k → Going t (prefers (Some u) k)
  going_preferred t u k known g = record {
    sets = g.sets;
    preferred = λ v e. let same : v ≡ u = same_some u v e in rw same (g.sets.numbered u known);
    low = g.low;
    out = g.out;
    alone = g.alone;
  }

  going_changed : (t u : ℕ) (c : change_type.Change) (k : Control P S H) → Going t k → Going t (sets u c k)
  unfolding sets
  going_changed t u c k g = record { sets = sets-change k g.sets u c; preferred = g.preferred; low = g.low; out = g.out; alone = g.alone }

  going_removed : (t u : ℕ) (k : Control P S H) → Going t k → Going t (removes u k)
  unfolding forgets leaves_queue
  going_removed t u k g = record {
    sets = sets-forget (leaves_queue u k) (sets-leave k g.sets u) u;
    preferred = g.preferred;
    low = g.low;
    out = λ r e. let h = times-leave_le k u r in let z = g.out r e in omega (arith, h, z);
    alone = g.alone;
  }

  going_vanished : (t : ℕ) (k : Control P S H) → Going t k → Going t (vanish_all_but t k)
  unfolding vanish_all_but
  going_vanished t k g = record {
    sets = record { once = λ u. omega arith; low = λ q. All-nil (λ x. x.tid ≤ k.threads.made); numbered = λ u. only_by u (u == t) };
    preferred = g.preferred;
    low = g.low;
    out = λ r e. refl;
    alone = g.alone;
  }
    where
      only_by : (u : ℕ) (b : Bool) → is_some (if b then k.threads.known u else None) ≡ true → u ≤ k.threads.made
      only_by u true h = g.sets.numbered u h
      only_by u false h = absurd (cc h)

  going_goes : (t u : ℕ) (g : Progress S → Progress S) (k : Control P S H) → Going t k → Going t (goes_on u g k)
  unfolding goes_on
  going_goes t u g k h = h

  going_kept : (f : P → Functions S H) (t : ℕ) → KeptBy f t (Going t)
  going_kept f t = record {
    calls = record {
      handlers = record { shares = λ h k g. g; seated = λ x k g. g };
      spawned = going_spawned f t;
      suspended = λ u k other lives g. going_suspended t u k other g;
      resumed = going_resumed t;
      removed = λ n u k taken g. going_removed t u k g;
      favoured = λ b k g. g;
      changed = λ v u c k is g. going_changed t u c k g;
      added = λ x k g. g;
      exchanged = λ n o k g. g;
      evented = λ x k none g. g;
      barred = λ x k g. g;
      described = λ ds k g. g;
      used = λ o k g. g;
      requested = λ u b k apart g. going_changed t u (change.Request b) k g;
    };
    goes = λ u g k odd h. going_goes t u g k h;
    blocked = λ b j k odd was h. going_goes t t (blocking (Some b)) k h;
    claimed = λ x k g. g;
    preferred = λ u k runs g. going_preferred t u k (runs_some (entry_of k u) runs) g;
    left = going_left t;
    ended = going_ended t;
    dropped = λ u k other dead g. going_removed t u k g;
    vanished = going_vanished t;
  }

  placed_step : (f : P → Functions S H) (x : Turn) (t : ℕ) (s : State P S H) → x.gave ≡ None → Going t s.control → Placed (steps f x t s).state.control (steps f x t s).turn.gave
  unfolding steps
  placed_step f x t s none g =
      placed_after t (steps f x t s).state.control (steps f x t s).turn.gave
      (gave_after t (steps_on f t s).next (record x { steps = x.steps + 1 }) none)
      (step_keeps f t (Going t) (going_kept f t) x s g)

  -- ---- between turns

  placed_resting : (k : Control P S H) (gave : Option ℕ) → Resting k → Placed k gave
  placed_resting k gave i = record {
    seated = record {
      sets = i.sets;
      preferred = i.preferred;
      low = λ t e. absurd (none_some t (sym i.running ∙ e));
      out = λ t e. absurd (none_some t (sym i.running ∙ e));
    };
    gives = λ t r g e. absurd (none_some r (sym i.running ∙ e));
  }

  resting_ready : (k : Control P S H) (t : ℕ) (rank : ℤ) (top : Bool) → t ≤ k.threads.made → Resting k → Resting (is_ready_at t rank top k)
  unfolding is_ready_at sets leaves_queue enters
  resting_ready k t rank top low i = record {
    sets = sets-enter (sets t (change.State state.Ready) (leaves_queue t k)) (sets-change (leaves_queue t k) (sets-leave k i.sets t) t (change.State state.Ready)) t Ready rank top (times-leave k t) low;
    preferred = i.preferred;
    running = i.running;
  }

  resting_readies : (ts : List ℕ) (k : Control P S H) → All (λ t. t ≤ k.threads.made) ts → Resting k → Resting (readies_all ts k)
  unfolding readies_all readies is_ready_at sets leaves_queue enters
  resting_readies [] k low i = i
  resting_readies (t ∷ ts) k low i =
      resting_readies ts (readies t k) (All-tail (λ t. t ≤ k.threads.made) t ts low)
      (resting_ready k t (new_rank k) k.scheduler.favour_new (All-head (λ t. t ≤ k.threads.made) t ts low) i)

  resting_woken : (ts : List ℕ) (s : State P S H) → All (λ t. t ≤ s.control.threads.made) ts → Resting s.control → Resting (all_woken ts s).state.control
  unfolding all_woken woken is_ready_at sets leaves_queue enters
  resting_woken [] s low i = i
  resting_woken (t ∷ ts) s low i =
      resting_woken ts (woken t s).state (All-tail (λ t. t ≤ s.control.threads.made) t ts low)
      (resting_ready s.control t (prio_of s.control t +ℤ pos 1) false (All-head (λ t. t ≤ s.control.threads.made) t ts low) i)

  resting_pass : (f : P → Functions S H) (s : State P S H) → Resting s.control → Resting (pass f s).state.control
  unfolding pass to_wake looks
  resting_pass f s i = resting_woken (to_wake f s) (controlled (looks f s) s) (All-filter (is_to_wake f s) (λ t. t ≤ s.control.threads.made) (waiting s.control) (rows-low s.control i.sets Waiting)) i

  placed_dispatched : (x : Turn) (s : State P S H) (t : ℕ) → x.gave ≡ None → t ≤ s.control.threads.made → Resting s.control → Placed (takes_by x (Some t) s).state.control x.gave
  unfolding dispatches runs trails sets leaves_queue
  placed_dispatched x s t none low i = record {
    seated = record {
      sets =
          let a = leaves_queue t s.control in
          let b = sets t (change.State state.Running) a in
          let sb : Sets b = sets-change a (sets-leave s.control i.sets t) t (change.State state.Running) in
          sets-change b sb t (change.Dispatches (min ((or_nobody (entry_of s.control t)).dispatches + 1) last_count));
      preferred = λ u e. absurd (none_some u e);
      low = λ r e. let same : r ≡ t = same_some t r e in omega (arith, same, low);
      out = λ r e. let same : r ≡ t = same_some t r e in rw same (times-leave s.control t);
    };
    gives = λ u r g e. absurd (none_some u (sym none ∙ g));
  }

  placed_taken_by : (x : Turn) (s : State P S H) (o : Option ℕ) → x.gave ≡ None → ((t : ℕ) → o ≡ Some t → t ≤ s.control.threads.made) → Resting s.control → Placed (takes_by x o s).state.control (takes_by x o s).turn.gave
  placed_taken_by x s None none low i = placed_resting s.control x.gave i
  placed_taken_by x s (Some t) none low i = placed_dispatched x s t none (low t refl) i

  placed_taken : (x : Turn) (s : State P S H) → x.gave ≡ None → Resting s.control → Placed (takes x s).state.control (takes x s).turn.gave
  unfolding takes
  placed_taken x s none i =
      let k = s.control in
      let new = holders (queue k New) in
      let a : State P S H = controlled readies_new s in
      let low : All (λ t. t ≤ k.threads.made) (reverse new) = All-permutation (λ t. t ≤ k.threads.made) new (reverse new) (IsPermutation-reverse new) (rows-low k i.sets New) in
      let after : Resting a.control = resting_readies (reverse new) k low i in
      placed_taken_by x a (chosen a.control.scheduler.preferred (queue a.control Ready)) none (chosen_low a.control.threads.made a.control.scheduler.preferred (queue a.control Ready) after.preferred (rows-low a.control after.sets Ready)) after

  placed_moved : (f : P → Functions S H) (x : Turn) (s : State P S H) (m : Option ℕ) → Resting s.control → Placed (moves_by f x m s).state.control (moves_by f x m s).turn.gave
  placed_moved f x s None i = placed_resting s.control x.gave i
  placed_moved f x s (Some m) i = placed_resting _ x.gave (resting_pass f _ i)

  -- t is put back, unless it has ended
  resting_back : (k : Control P S H) (t : ℕ) (r : Option ℕ) (b : Option Blocked) → IsSeated (seats k) → ((u : ℕ) → r ≡ Some u → (times_in k t ≡ 0) × (t ≤ k.threads.made)) → Resting (runs_now None (placed_by t r b k))
  unfolding is_put_back is_put_waiting sets enters
  resting_back k t None b p out = record { sets = p.sets; preferred = p.preferred; running = refl }
  resting_back k t (Some r) (Some b) p out = record {
    sets = sets-enter (sets t (change.State state.Waiting) k) (sets-change k p.sets t (change.State state.Waiting)) t Waiting (prio_of k t) false (out r refl).0 (out r refl).1;
    preferred = p.preferred;
    running = refl;
  }
  resting_back k t (Some r) None p out = record {
    sets = sets-enter (sets t (change.State state.Ready) k) (sets-change k p.sets t (change.State state.Ready)) t Ready (prio_of k t) false (out r refl).0 (out r refl).1;
    preferred = p.preferred;
    running = refl;
  }

  placed_closed : (f : P → Functions S H) (x : Turn) (t : ℕ) (s : State P S H) → x.gave ≡ Some t → Placed s.control x.gave → Placed (closes f x t s).state.control None
  unfolding closes is_placed raises_ready
  placed_closed f x t s gave p =
      let k = s.control in
      let own : (u : ℕ) → k.scheduler.running ≡ Some u → (times_in k t ≡ 0) × (t ≤ k.threads.made) = λ u e. (
      let same : t ≡ u = p.gives t u gave e in
      (subst (λ (n : ℕ). times_in k n ≡ 0) (sym same) (p.seated.out u e), (let low = p.seated.low u e in omega (arith, same, low)))) in
      let back = resting_back (raises_ready k) t k.scheduler.running (blocked_of k t) p.seated own in
      placed_resting (pass f (controlled (turn_ends t) s)).state.control None (resting_pass f (controlled (turn_ends t) s) (record { sets = back.sets; preferred = back.preferred; running = refl }))

  placed_going : (k : Control P S H) (gave : Option ℕ) (t : ℕ) → k.scheduler.running ≡ Some t → Placed k gave → Going t k
  placed_going k gave t running p = record {
    sets = p.seated.sets;
    preferred = p.seated.preferred;
    low = p.seated.low t running;
    out = p.seated.out;
    alone = λ r e. same_some t r (sym running ∙ e);
  }

  placed_rests : (k : Control P S H) (gave : Option ℕ) → k.scheduler.running ≡ None → Placed k gave → Resting k
  placed_rests k gave rests p = record { sets = p.seated.sets; preferred = p.seated.preferred; running = rests }

  -- ---- parts and runs

  placed_next : (f : P → Functions S H) (x : Turn) (s : State P S H) (g r : Option ℕ) (idle : Bool) → x.gave ≡ g → s.control.scheduler.running ≡ r → Placed s.control x.gave → Placed (part_by f x s (next_part_by g r idle)).state.control (part_by f x s (next_part_by g r idle)).turn.gave
  unfolding moves closes
  placed_next f x s (Some t) r idle gave running p = placed_closed f x t s gave p
  placed_next f x s None (Some t) idle gave running p = placed_step f x t s gave (placed_going s.control x.gave t running p)
  placed_next f x s None None true gave running p = placed_moved f x s (moment f s) (placed_rests s.control x.gave running p)
  placed_next f x s None None false gave running p = placed_taken x s gave (placed_rests s.control x.gave running p)

  placed_unless : (f : P → Functions S H) (x : Turn) (s : State P S H) (o : Outcome) (n : Part) → Placed s.control x.gave → Placed (part_by f x s n).state.control (part_by f x s n).turn.gave → Placed (part_by f x s (unless_ended o n)).state.control (part_by f x s (unless_ended o n)).turn.gave
  placed_unless f x s outcome.Running n p after = after
  placed_unless f x s o n p after = p

  placed_part : (f : P → Functions S H) (x : Turn) (s : State P S H) → Placed s.control x.gave → Placed (part f x s).state.control (part f x s).turn.gave
  unfolding part next_part
  placed_part f x s p =
      placed_unless f x s x.outcome (next_part_by x.gave s.control.scheduler.running (is_idle s.control)) p
      (placed_next f x s x.gave s.control.scheduler.running (is_idle s.control) refl refl p)

  placed_start : (f : P → Functions S H) (g : Given P) → Placed (start f g).control None
  unfolding start
  placed_start f g = placed_resting (start f g).control None (record {
    sets = record { once = λ t. omega (arith, stands-cons t main_stands [], at_most_one (1 == t)); low = low_start; numbered = numbered_start };
    preferred = λ t e. absurd (none_some t e);
    running = refl;
  })

  placed_run : (f : P → Functions S H) (g : Given P) (i : ℕ) → Placed (run f g i).state.control (run f g i).turn.gave
  unfolding parts
  placed_run f g zero = placed_start f g
  placed_run f g (suc i) = placed_part f (run f g i).turn (run f g i).state (placed_run f g i)

  pub none_twice : (f : P → Functions S H) (g : Given P) (i : ℕ) → IsOnce (run f g i).state.control
  none_twice f g i = (placed_run f g i).seated.sets.once
