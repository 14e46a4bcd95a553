-- Every run is in time: no thread has waited longer than it may, neither at its dispatch nor while it is ready.
use Rattle.std.proofs.Common.{◌≡◌, ◌≤◌, ℕ, zero, suc, ◌+◌, Bool, true, false, if◌then◌else◌, ℤ, pos, ◌+ℤ◌, ◌≤ℤ◌, List, [], ◌∷◌, reverse, Contains, Option, Some, None, option_map, refl, sym, ap, subst, arith}
use Rattle.std.proofs.lemmas.Int.{ints}
use Rattle.std.proofs.lemmas.List.Elements.{All-nil, All-cons, All-append}
use Rattle.std.proofs.lemmas.Bool.{true≢false}
use Rattle.pth_base.specs.Program.{Functions}
use Rattle.pth_base.specs.declared.mark.Mark.TheVariants as mark
use Rattle.pth_base.specs.declared.outcome.Outcome.{Outcome}
use Rattle.pth_base.specs.declared.outcome.Outcome.TheVariants as outcome
use Rattle.pth_base.specs.declared.thread.ThreadState.{ThreadState}
use Rattle.pth_base.specs.declared.thread.ThreadState.TheVariants as state
use Rattle.pth_base.proofs.Tables.{put_by}
use Rattle.pth_queue.specs.Ranking.{favour_top}
use Rattle.pth_queue.specs.declared.queue.Queue.{Queue}
use Rattle.pth_queue.specs.declared.queue.Queue.TheVariants.{New, Ready, Waiting, Suspended, Dead}
use Rattle.pth_threads.specs.Threads.{changed}
use Rattle.pth_threads.specs.declared.entry.Change.{Change}
use Rattle.pth_threads.specs.declared.entry.Change.TheVariants as change
use Rattle.pth_threads.specs.declared.entry.Entry.{Entry}
use Rattle.pth_threads.specs.declared.entry.NewThread.{NewThread}
use Rattle.pth_model.specs.declared.blocked.Blocked.{Blocked}
use Rattle.pth_model.specs.declared.next.Next.{Next}
use Rattle.pth_model.specs.declared.next.Next.TheVariants as next
use Rattle.pth_model.specs.declared.progress.Progress.{Progress}
use Rattle.pth_model.specs.Allowance.{waited, allowed}
use Rattle.pth_model.specs.Standing.{Standing, is_queue, raises_of}
use Rattle.pth_model.specs.State.{State, Control, Turn, Given, start, queue}
use Rattle.pth_model.specs.Transition.{controlled, tells}
use Rattle.pth_model.specs.Changes.{sets, enters, goes_on, leaves_queue, trails, makes, forgets, removes, queue_for, raises_ready, moves_to, prio_of, holders, entry_of, or_nobody, blocked_of, blocking}
use Rattle.pth_model.specs.ThreadControl.{spawns, suspends, resumes, returns_to}
use Rattle.pth_model.specs.LibraryControl.{vanish_all_but}
use Rattle.pth_model.specs.Ending.{leaves, is_dead_with}
use Rattle.pth_model.specs.Pass.{looks, is_ready_at, woken, all_woken, pass, to_wake, moment}
use Rattle.pth_model.specs.Course.{Course}
use Rattle.pth_model.specs.Part.{Part, Move, Take, Step, Close, Halt, next_part, next_part_by, unless_ended, is_idle, part, part_by, moves, moves_by, readies, readies_all, readies_new, is_put_back, is_put_waiting, is_placed, placed_by, closes, turn_ends, turn_after, takes, takes_by, dispatches, runs, chosen, steps, steps_on, owes_after}
use Rattle.pth_model.specs.Run.{parts, run}
use Rattle.pth_model.proofs.Queues.{is_queue_same}
use Rattle.pth_model.proofs.Walks.{KeptBy, step_keeps}
use Rattle.pth_laws.specs.InTime.{IsInTime, InTime}
use Rattle.pth_laws.proofs.EveryRun.{run_steps}
use Rattle.pth_laws.proofs.Ranged.{run_ranged, run_top}
use Rattle.pth_laws.proofs.Waited.{AreInTime, in_time_none, in_time_entered, in_time_left, in_time_counted, in_time_raised, in_time_open, in_time_taken, taken_in_time, ready_in_time}

zero_low : (n : ℕ) → pos 0 ≤ℤ pos (n + 1)
zero_low n = omega (arith, ints)

one_above : (n : ℕ) (prio : ℤ) → prio ≤ℤ pos n → (prio +ℤ pos 1) ≤ℤ pos (n + 1)
one_above n prio low = omega (arith, ints, low)

prio_low : (n : ℕ) (prio : ℤ) → prio ≤ℤ pos n → prio ≤ℤ pos (n + 1)
prio_low n prio low = omega (arith, ints, low)

-- ---- turns

-- how many turns are open as a part begins
abbrev turns_at : Part → ℕ
turns_at Move = 0
turns_at Take = 0
turns_at (Step t) = 1
turns_at (Close t) = 1
turns_at Halt = 1

-- a turn is open while a thread runs, or gave up control
turns_running : (o : Outcome) (gave r : Option ℕ) (t : ℕ) (idle : Bool) → r ≡ Some t → turns_at (unless_ended o (next_part_by gave r idle)) ≡ 1
turns_running o gave r t idle runs = rw runs (by_outcome o gave)
  where
    by_outcome : (o : Outcome) (gave : Option ℕ) → turns_at (unless_ended o (next_part_by gave (Some t) idle)) ≡ 1
    by_outcome outcome.Running None = refl
    by_outcome outcome.Running (Some u) = refl
    by_outcome o gave = refl

turns_giving : (o : Outcome) (t : ℕ) (r : Option ℕ) (idle : Bool) → turns_at (unless_ended o (next_part_by (Some t) r idle)) ≡ 1
turns_giving outcome.Running t r idle = refl
turns_giving o t r idle = refl

module _ {P S H : Type 0} where
  -- while so many turns are open
  abbrev KeepsTime : ℕ → Control P S H → Type 0
  KeepsTime turns k = AreInTime k.top turns k.threads.raises k.threads.entries k.threads.trail (k.threads.standing Ready)

  -- ---- entries and calls

  module _ (turns : ℕ) (one : turns ≤ 1) where
    abbrev Keeps : Control P S H → Type 0
    Keeps k = KeepsTime turns k

    time_enter : (t : ℕ) (q : Queue) (rank : ℤ) (top : Bool) (k : Control P S H) → (is_queue Ready q ≡ true → top ≡ false → rank ≤ℤ pos (k.top + 1)) → Keeps k → Keeps (enters t q rank top k)
    unfolding enters
    time_enter t q rank top k low h = by_queue (is_queue Ready q) refl
      where
        ready : List Standing
        ready = k.threads.standing Ready

        here : Standing
        here = record { tid = t; rank = rank; since = raises_of k.threads.raises q; entry = k.threads.entries; top = top }

        by_queue : (b : Bool) → is_queue Ready q ≡ b → AreInTime k.top turns k.threads.raises (k.threads.entries + 1) k.threads.trail (if b then here ∷ ready else ready)
        by_queue true own = in_time_entered one h here (ap (raises_of k.threads.raises) (sym (is_queue_same Ready q own))) refl (low own)
        by_queue false other = in_time_counted one h

    time_leave : (t : ℕ) (k : Control P S H) → Keeps k → Keeps (leaves_queue t k)
    unfolding leaves_queue
    time_leave t k h = in_time_left one h t

    -- at rank 0
    time_plain : (t : ℕ) (q : Queue) (k : Control P S H) → Keeps k → Keeps (enters t q (pos 0) false k)
    time_plain t q k h = time_enter t q (pos 0) false k (λ own new. zero_low k.top) h

    time_ready : (t : ℕ) (rank : ℤ) (top : Bool) (k : Control P S H) → (top ≡ false → rank ≤ℤ pos (k.top + 1)) → Keeps k → Keeps (is_ready_at t rank top k)
    unfolding is_ready_at sets leaves_queue
    time_ready t rank top k low h = time_enter t Ready rank top (sets t (change.State state.Ready) (leaves_queue t k)) (λ own. low) (time_leave t k h)

    time_goes : (t : ℕ) (g : Progress S → Progress S) (k : Control P S H) → Keeps k → Keeps (goes_on t g k)
    unfolding goes_on
    time_goes t g k h = h

    time_spawned : (f : P → Functions S H) (b : ℕ) (v : ℤ) (of : NewThread) (k : Control P S H) → Keeps k → Keeps (spawns f b v of k)
    unfolding makes
    time_spawned f b v of k h = time_enter (k.threads.made + 1) New of.prio false (makes f b v of k) (λ odd. absurd (true≢false (sym odd))) h

    time_dead : (t : ℕ) (v : ℤ) (k : Control P S H) → Keeps k → Keeps (is_dead_with t v k)
    unfolding is_dead_with sets
    time_dead t v k h = time_plain t Dead (sets t (change.Value v) (sets t (change.Suspended false) (sets t (change.State state.Dead) (leaves_queue t k)))) (time_leave t k h)

    time_removed : (t : ℕ) (k : Control P S H) → Keeps k → Keeps (removes t k)
    unfolding forgets
    time_removed t k h = time_leave t k h

    time_left : (t : ℕ) (v : ℤ) (k : Control P S H) → Keeps k → Keeps (leaves t v k)
    unfolding leaves
    time_left t v k h = by_end (or_nobody (entry_of k t)).joinable
      where
        by_end : (b : Bool) → Keeps ((if b then is_dead_with t v else removes t) k)
        by_end true = time_dead t v k h
        by_end false = time_removed t k h

    time_returned : (t : ℕ) (q : Option Queue) (k : Control P S H) → Keeps k → Keeps (returns_to t q k)
    unfolding sets
    time_returned t None k h = h
    time_returned t (Some q) k h = time_plain t q (sets t (change.Suspended false) (leaves_queue t k)) (time_leave t k h)

    time_suspended : (t : ℕ) (k : Control P S H) → Keeps k → Keeps (suspends t k)
    unfolding suspends sets
    time_suspended t k h = time_plain t Suspended (sets t (change.Suspended true) (leaves_queue t k)) (time_leave t k h)

    time_resumed : (t : ℕ) (k : Control P S H) → Keeps k → Keeps (resumes t k)
    unfolding resumes
    time_resumed t k h = time_returned t (queue_for (or_nobody (entry_of k t)).state) k h

    time_changed : (t : ℕ) (c : Change) (k : Control P S H) → Keeps k → Keeps (sets t c k)
    unfolding sets
    time_changed t c k h = h

    time_vanished : (t : ℕ) (k : Control P S H) → Keeps k → Keeps (vanish_all_but t k)
    unfolding vanish_all_but
    time_vanished t k h = in_time_none k.top turns k.threads.raises k.threads.entries k.threads.trail h.past

    time_by_calls : (f : P → Functions S H) (t : ℕ) → KeptBy f t Keeps
    time_by_calls f t = record {
      calls = record {
        handlers = record { shares = λ x k h. h; seated = λ x k h. h };
        spawned = time_spawned f;
        suspended = λ u k other lives h. time_suspended u k h;
        resumed = λ u k other h. time_resumed u k h;
        removed = λ n u k taken h. time_removed u k h;
        favoured = λ b k h. h;
        changed = λ v u c k is h. time_changed u c k h;
        added = λ x k h. h;
        exchanged = λ n o k h. h;
        evented = λ x k none h. h;
        described = λ ds k h. h;
        barred = λ x k h. h;
        used = λ o k h. h;
        requested = λ u b k apart h. time_changed u (change.Request b) k h;
      };
      goes = λ u g k odd h. time_goes u g k h;
      blocked = λ b j k odd was h. time_goes t (blocking (Some b)) k h;
      claimed = λ x k h. h;
      preferred = λ u k runs h. h;
      left = time_left t;
      ended = λ u v k other up h. time_left u v k h;
      dropped = λ u k other dead h. time_removed u k h;
      vanished = time_vanished t;
    }

  -- ---- between turns, where base priorities are in their range

  abbrev AreLow : Control P S H → Type 0
  AreLow k = (t : ℕ) → prio_of k t ≤ℤ pos k.top

  low_set : (t : ℕ) (at : ThreadState) (k : Control P S H) → AreLow k → AreLow (sets t (change.State at) k)
  unfolding sets changed
  low_set t at k low u = put_by (λ o. (or_nobody o).prio ≤ℤ pos k.top) k.threads.known t (option_map (changed (change.State at)) (k.threads.known t)) u (λ here. by_entry (k.threads.known t) (low t)) (λ other. low u)
    where
      by_entry : (o : Option Entry) → (or_nobody o).prio ≤ℤ pos k.top → (or_nobody (option_map (changed (change.State at)) o)).prio ≤ℤ pos k.top
      by_entry None h = h
      by_entry (Some e) h = h

  low_ready : (t : ℕ) (rank : ℤ) (top : Bool) (k : Control P S H) → AreLow k → AreLow (is_ready_at t rank top k)
  unfolding is_ready_at leaves_queue enters
  low_ready t rank top k low = low_set t state.Ready (leaves_queue t k) low

  -- who is woken enters at its base priority and one
  time_woken : (ts : List ℕ) (s : State P S H) → AreLow s.control → KeepsTime 0 s.control → KeepsTime 0 (all_woken ts s).state.control
  unfolding all_woken woken
  time_woken [] s low h = h
  time_woken (t ∷ ts) s low h =
      let rank = prio_of s.control t +ℤ pos 1 in
      time_woken ts (woken t s).state (low_ready t rank false s.control low) (time_ready 0 (omega arith) t rank false s.control (λ new. one_above s.control.top (prio_of s.control t) (low t)) h)

  time_pass : (f : P → Functions S H) (s : State P S H) → AreLow s.control → KeepsTime 0 s.control → KeepsTime 0 (pass f s).state.control
  unfolding pass looks
  time_pass f s low h = time_woken (to_wake f s) (controlled (looks f s) s) low h

  -- no pass tells a dispatch
  woken_in_time : (ts : List ℕ) (s : State P S H) → InTime (all_woken ts s).marks
  unfolding all_woken woken
  woken_in_time [] s = All-nil IsInTime
  woken_in_time (t ∷ ts) s = All-cons IsInTime _ _ tt (woken_in_time ts (woken t s).state)

  pass_in_time : (f : P → Functions S H) (s : State P S H) → InTime (pass f s).marks
  unfolding pass
  pass_in_time f s = woken_in_time (to_wake f s) (controlled (looks f s) s)

  -- who gave up control enters at its base priority
  time_placed : (t : ℕ) (r : Option ℕ) (b : Option Blocked) (k : Control P S H) → AreLow k → KeepsTime 0 k → AreLow (placed_by t r b k) × KeepsTime 0 (placed_by t r b k)
  unfolding is_put_back is_put_waiting sets enters
  time_placed t None b k low h = (low, h)
  time_placed t (Some r) (Some b) k low h =
      (low_set t state.Waiting k low, time_enter 0 (omega arith) t Waiting (prio_of k t) false (sets t (change.State state.Waiting) k) (λ odd. absurd (true≢false (sym odd))) h)
  time_placed t (Some r) None k low h =
      (low_set t state.Ready k low, time_enter 0 (omega arith) t Ready (prio_of k t) false (sets t (change.State state.Ready) k) (λ own new. prio_low k.top (prio_of k t) (low t)) h)

  time_closed : (f : P → Functions S H) (x : Turn) (t : ℕ) (s : State P S H) → AreLow s.control → KeepsTime 1 s.control → KeepsTime 0 (closes f x t s).state.control
  unfolding closes is_placed raises_ready
  time_closed f x t s low h =
      let k = s.control in
      let raised = in_time_raised (omega arith) h in
      let placed = time_placed t k.scheduler.running (blocked_of k t) (raises_ready k) low raised in
      time_pass f (controlled (turn_ends t) s) placed.0 placed.1

  time_moved : (f : P → Functions S H) (x : Turn) (o : Option ℕ) (s : State P S H) → AreLow s.control → KeepsTime 0 s.control → KeepsTime 0 (moves_by f x o s).state.control × InTime (moves_by f x o s).marks
  time_moved f x None s low h = (h, All-nil IsInTime)
  time_moved f x (Some m) s low h =
      let a = (tells (mark.Moved m) (controlled (moves_to m) s)).state in
      (time_pass f a low h, All-cons IsInTime (mark.Moved m) (pass f a).marks tt (pass_in_time f a))

  -- ---- a turn begins

  -- a new thread enters at Top, or at rank 0
  time_new : (t : ℕ) (b : Bool) (k : Control P S H) → KeepsTime 0 k → KeepsTime 0 (is_ready_at t (if b then favour_top k.top (queue k Ready) else pos 0) b k)
  time_new t true k h = time_ready 0 (omega arith) t (favour_top k.top (queue k Ready)) true k (λ odd. absurd (true≢false odd)) h
  time_new t false k h = time_ready 0 (omega arith) t (pos 0) false k (λ new. zero_low k.top) h

  time_readies : (ts : List ℕ) (k : Control P S H) → KeepsTime 0 k → KeepsTime 0 (readies_all ts k)
  unfolding readies_all readies
  time_readies [] k h = h
  time_readies (t ∷ ts) k h = time_readies ts (readies t k) (time_new t k.scheduler.favour_new k h)

  abbrev IsOnTime : Course P S H → Type 0
  IsOnTime c = KeepsTime (turns_at (next_part c.state c.turn)) c.state.control

  between_turns : (c : Course P S H) → KeepsTime 0 c.state.control → IsOnTime c
  between_turns c h = by_part (next_part c.state c.turn)
    where
      k : Control P S H
      k = c.state.control

      opened : KeepsTime 1 k
      opened = in_time_open (omega arith) h

      by_part : (p : Part) → KeepsTime (turns_at p) k
      by_part Move = h
      by_part Take = h
      by_part (Step t) = opened
      by_part (Close t) = opened
      by_part Halt = opened

  time_dispatched : (x : Turn) (o : Option ℕ) (s : State P S H) → chosen s.control.scheduler.preferred (queue s.control Ready) ≡ o → KeepsTime 0 s.control → IsOnTime (takes_by x o s) × InTime (takes_by x o s).marks
  unfolding dispatches runs trails sets leaves_queue next_part
  time_dispatched x None s named h = (between_turns (takes_by x None s) h, All-nil IsInTime)
  time_dispatched x (Some t) s named h =
      let k = s.control in
      let after = (takes_by x (Some t) s).state in (
        subst (λ n. KeepsTime n after.control) (sym (turns_running x.outcome x.gave (Some t) t (is_idle after.control) refl)) (in_time_taken t h k.scheduler.preferred named),
        All-cons IsInTime _ [] (taken_in_time t h k.scheduler.preferred named) (All-nil IsInTime),
      )

  time_taken : (x : Turn) (s : State P S H) → KeepsTime 0 s.control → IsOnTime (takes x s) × InTime (takes x s).marks
  unfolding takes
  time_taken x s h =
      let a : State P S H = controlled readies_new s in
      time_dispatched x (chosen a.control.scheduler.preferred (queue a.control Ready)) a refl (time_readies (reverse (holders (queue s.control New))) s.control h)

-- ---- every run

module _ {P S H : Type 0} (f : P → Functions S H) (g : Given P) where
  abbrev at : ℕ → Control P S H
  at i = (run f g i).state.control

  lows : (i : ℕ) → AreLow (at i)
  lows i t = by_entry ((at i).threads.known t) refl
    where
      by_entry : (o : Option Entry) → (at i).threads.known t ≡ o → (or_nobody o).prio ≤ℤ pos (at i).top
      by_entry None same = omega (arith, ints)
      by_entry (Some e) same = subst (λ n. e.prio ≤ℤ pos n) (sym (run_top f g i)) ((run_ranged f g i).threads t e same).high

  -- a step leaves its turn open
  stays_open : (i t : ℕ) (n : Next) → let c = run f g i in next_part c.state c.turn ≡ Step t → (steps_on f t c.state).next ≡ n → turns_at (next_part (controlled (owes_after t n) (steps_on f t c.state).told.state) (turn_after t n (record c.turn { steps = c.turn.steps + 1 }))) ≡ 1
  unfolding next_part goes_on
  stays_open i t n step goes = by_next n goes
    where
      x : Turn
      x = record (run f g i).turn { steps = (run f g i).turn.steps + 1 }

      u : State P S H
      u = (steps_on f t (run f g i).state).told.state

      by_next : (n : Next) → (steps_on f t (run f g i).state).next ≡ n → turns_at (next_part (controlled (owes_after t n) u) (turn_after t n x)) ≡ 1
      by_next (next.Done a) goes = turns_running x.outcome x.gave u.control.scheduler.running t (is_idle u.control) ((run_steps f g i t step).1 a goes)
      by_next (next.Yields a) goes = turns_giving x.outcome t u.control.scheduler.running (is_idle u.control)
      by_next next.Blocks goes = turns_giving x.outcome t u.control.scheduler.running (is_idle u.control)
      by_next (next.Ended v) goes = turns_giving (turn_after t (next.Ended v) x).outcome t u.control.scheduler.running (is_idle u.control)
      by_next next.Killed goes = refl

  stepped_on : (i t : ℕ) → let c = run f g i in next_part c.state c.turn ≡ Step t → KeepsTime 1 (steps f c.turn t c.state).state.control → IsOnTime (steps f c.turn t c.state) × InTime (steps f c.turn t c.state).marks
  unfolding steps
  stepped_on i t step kept =
      let c = run f g i in
      (subst (λ n. KeepsTime n (steps f c.turn t c.state).state.control) (sym (stays_open i t (steps_on f t c.state).next step refl)) kept, (run_steps f g i t step).0)

  closed_in_time : (x : Turn) (t : ℕ) (s : State P S H) → InTime (closes f x t s).marks
  unfolding closes
  closed_in_time x t s = pass_in_time f (controlled (turn_ends t) s)

  part_on_time : (i : ℕ) (p : Part) → let c = run f g i in next_part c.state c.turn ≡ p → KeepsTime (turns_at p) c.state.control → IsOnTime (part_by f c.turn c.state p) × InTime (part_by f c.turn c.state p).marks
  unfolding moves
  part_on_time i Move is h =
      let c = run f g i in
      let m = time_moved f c.turn (moment f c.state) c.state (lows i) h in
      (between_turns (moves f c.turn c.state) m.0, m.1)
  part_on_time i Take is h = let c = run f g i in time_taken c.turn c.state h
  part_on_time i (Step t) is h = let c = run f g i in stepped_on i t is (step_keeps f t (KeepsTime 1) (time_by_calls 1 (omega arith) f t) c.turn c.state h)
  part_on_time i (Close t) is h = let c = run f g i in (between_turns (closes f c.turn t c.state) (time_closed f c.turn t c.state (lows i) h), closed_in_time c.turn t c.state)
  part_on_time i Halt is h = (subst (λ p. KeepsTime (turns_at p) (at i)) (sym is) h, All-nil IsInTime)

  first_on_time : KeepsTime 0 (start f g).control
  unfolding start
  first_on_time = in_time_entered (omega arith) (in_time_none g.top 0 0 0 [] (λ e late. All-nil _)) _ refl refl (λ new. zero_low g.top)

  run_on_time : (i : ℕ) → IsOnTime (run f g i) × InTime (run f g i).marks
  unfolding parts part
  run_on_time zero = (between_turns (run f g zero) first_on_time, All-nil IsInTime)
  run_on_time (suc i) =
      let c = run f g i in
      let before = run_on_time i in
      let now = part_on_time i (next_part c.state c.turn) refl before.0 in
      (now.0, All-append IsInTime c.marks (part f c.turn c.state).marks before.1 now.1)

  pub run_in_time : (i : ℕ) → InTime (run f g i).marks
  run_in_time i = (run_on_time i).1

  pub run_ready_in_time : (i : ℕ) (s : Standing) → Contains ((at i).threads.standing Ready) s → waited (at i).threads.trail s ≤ allowed g.top (at i).threads.trail s
  run_ready_in_time i s here =
      let trail = (at i).threads.trail in
      subst (λ top. waited trail s ≤ allowed top trail s) (run_top f g i) (ready_in_time (run_on_time i).0 s here)
