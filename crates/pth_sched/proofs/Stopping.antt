-- Every run comes to a part where it stops.
use Rattle.std.proofs.Common.{◌≡◌, ℕ, zero, suc, ◌+◌, ◌-◌, ◌*◌, ◌<◌, ◌≤◌, ◌&&◌, Bool, true, false, List, [], ◌∷◌, reverse, length, Option, Some, None, refl, sym, ap, ◌∙◌, arith, subst, inl, inr}
use Rattle.std.proofs.lemmas.Bool.{cases_Bool}
use Rattle.std.proofs.lemmas.Bool.Decides.{nat_tests}
use Rattle.std.proofs.lemmas.List.{length-reverse, length-map}
use Rattle.pth_base.specs.Program.{Functions}
use Rattle.pth_base.specs.declared.mark.Mark.TheVariants.{Moved}
use Rattle.pth_base.specs.declared.outcome.Outcome.{Outcome}
use Rattle.pth_base.specs.declared.outcome.Outcome.TheVariants.{Running, Ended, Killed, Stalled, OutOfMemory}
use Rattle.pth_queue.specs.declared.ranked.Ranked.{Ranked}
use Rattle.pth_queue.specs.declared.queue.Queue.TheVariants as queues
use Rattle.pth_queue.specs.Ranking.{insert, head_of}
use Rattle.pth_threads.specs.declared.entry.Change.TheVariants as change
use Rattle.pth_base.specs.declared.thread.ThreadState.TheVariants as state
use Rattle.pth_model.specs.Course.{Course}
use Rattle.pth_kernel.specs.Kernel.{Kernel}
use Rattle.pth_model.specs.State.{State, Control, Turn, Given, start, queue, now_of}
use Rattle.pth_model.specs.Changes.{holders, is_empty, enters, leaves_queue, moves_to, sets, trails}
use Rattle.pth_model.specs.Pass.{looks, is_ready_at, woken, all_woken, pass, to_wake, moment}
use Rattle.pth_model.specs.Part.{next_part, next_part_by, unless_ended, part, part_by, moves, moves_by, takes, readies, readies_all, readies_new, chosen, is_idle, steps, steps_on, closes, turn_ends, is_placed, dispatches, runs}
use Rattle.pth_model.specs.Run.{run, stops, stops_at, stops_by, GoesTo}
use Rattle.pth_model.specs.Transition.{controlled, changes, tells, ◌and_then◌}
use Rattle.pth_model.proofs.Queues.{queue-enter}
use Rattle.pth_model.proofs.Runs.{parts-more, none-more}
use Rattle.pth_queue.proofs.Counts.{length-insert}
use Rattle.pth_sched.proofs.Left.{left_at, left_while, part_left, time_left}
use Rattle.pth_sched.proofs.Parts.{turn_steps}
use Rattle.pth_sched.proofs.Times.{IsLater, moment_later, time_less, readied_kernel, ended_time, step_at}

part_small : (g r : Option ℕ) → part_left g r ≤ 2
part_small (Some t) r = omega arith
part_small None None = omega arith
part_small None (Some r) = omega arith

module _ {P S H : Type 0} where
  -- how far a run to a number of steps is from where it stops
  abbrev pub far : ℕ → Course P S H → ℕ
  far to c = left_at to c.turn c.state.control.scheduler.running (now_of c.state.control)

far_most : (to steps n now : ℕ) (o : Outcome) → left_while to steps n now o ≤ 3 * (to - steps) + n + 1 + time_left now
far_most to steps n now Running = omega arith
far_most to steps n now (Ended v) = omega arith
far_most to steps n now Killed = omega arith
far_most to steps n now Stalled = omega arith
far_most to steps n now OutOfMemory = omega arith

module _ {P S H : Type 0} where
  -- how far it is at most, by what is known of who gave up control or runs, and of time
  far_within : (to n : ℕ) (c : Course P S H) → part_left c.turn.gave c.state.control.scheduler.running ≤ n → far to c ≤ 3 * (to - c.turn.steps) + n + 1 + time_left (now_of c.state.control)
  far_within to n c small =
      let most = far_most to c.turn.steps (part_left c.turn.gave c.state.control.scheduler.running) (now_of c.state.control) c.turn.outcome in
      omega arith

-- ---- a thread is ready after the new ones became ready

insert_some : (e : Ranked) (xs : List Ranked) → 0 < length (insert e xs)
insert_some e xs = omega (arith, length-insert e xs)

head_some : (rows : List Ranked) → 0 < length rows → (t : ℕ) × (head_of rows ≡ Some t)
head_some [] h = absurd (omega (arith, h))
head_some (x ∷ xs) h = (x.holder, refl)

pub next_some : (preferred : Option ℕ) (rows : List Ranked) → 0 < length rows → (t : ℕ) × (chosen preferred rows ≡ Some t)
next_some (Some t) rows h = (t, refl)
next_some None rows h = head_some rows h

busy : (a b : List Ranked) → (is_empty a && is_empty b) ≡ false → 0 < length a + length b
busy [] [] h = absurd (cc h)
busy [] (y ∷ b) h = omega arith
busy (x ∷ a) b h = omega arith

module _ {P S H : Type 0} where
  readied_some : (k : Control P S H) (t : ℕ) → 0 < length (queue (readies t k) queues.Ready)
  unfolding readies is_ready_at
  readied_some k t =
      let before = sets t (change.State state.Ready) (leaves_queue t k) in
      subst (λ (rows : List Ranked). 0 < length rows) (sym (queue-enter before t queues.Ready _ _)) (insert_some _ (queue before queues.Ready))

  all_some : (ts : List ℕ) (k : Control P S H) → 0 < length ts + length (queue k queues.Ready) → 0 < length (queue (readies_all ts k) queues.Ready)
  unfolding readies_all
  all_some [] k h = omega (arith, h)
  all_some (t ∷ ts) k h = all_some ts (readies t k) (let some = readied_some k t in omega arith)

  pub ready_some : (k : Control P S H) → is_idle k ≡ false → 0 < length (queue (readies_new k) queues.Ready)
  ready_some k h =
      let new = queue k queues.New in
      let count : length (reverse (holders new)) ≡ length new = length-reverse (holders new) ∙ length-map new (λ (r : Ranked). r.holder) in
      all_some (reverse (holders new)) k (let b = busy new (queue k queues.Ready) h in omega arith)

  -- ---- what a pass leaves: the scheduler and the kernel

  woken_scheduler : (ts : List ℕ) (s : State P S H) → (all_woken ts s).state.control.scheduler ≡ s.control.scheduler
  unfolding all_woken woken is_ready_at enters sets leaves_queue
  woken_scheduler [] s = refl
  woken_scheduler (t ∷ ts) s = woken_scheduler ts (woken t s).state

  pub pass_scheduler : (f : P → Functions S H) (s : State P S H) → (pass f s).state.control.scheduler ≡ s.control.scheduler
  unfolding pass looks
  pass_scheduler f s = woken_scheduler (to_wake f s) (controlled (looks f s) s)

  woken_kernel : (ts : List ℕ) (s : State P S H) → (all_woken ts s).state.control.kernel ≡ s.control.kernel
  unfolding all_woken woken is_ready_at enters sets leaves_queue
  woken_kernel [] s = refl
  woken_kernel (t ∷ ts) s = woken_kernel ts (woken t s).state

  pub pass_kernel : (f : P → Functions S H) (s : State P S H) → (pass f s).state.control.kernel ≡ s.control.kernel
  unfolding pass looks
  pass_kernel f s = woken_kernel (to_wake f s) (controlled (looks f s) s)

  pub placed_nobody : (k : Control P S H) (t : ℕ) → (turn_ends t k).scheduler.running ≡ None
  unfolding is_placed
  placed_nobody k t = refl

module _ {P S H : Type 0} (f : P → Functions S H) where
  pub stepped_steps : (x : Turn) (t : ℕ) (s : State P S H) → (steps f x t s).turn.steps ≡ x.steps + 1
  unfolding steps
  stepped_steps x t s = turn_steps t (steps_on f t s).next (record x { steps = x.steps + 1 })

  -- ---- each part comes nearer

  close_near : (to : ℕ) (x : Turn) (t : ℕ) (s : State P S H) → far to (closes f x t s) < 3 * (to - x.steps) + 2 + 1 + time_left (now_of s.control)
  unfolding closes
  close_near to x t s =
      let ended = turn_ends t s.control in
      let same : (pass f (controlled (turn_ends t) s)).state.control.scheduler ≡ ended.scheduler = pass_scheduler f (controlled (turn_ends t) s) in
      let now : now_of (pass f (controlled (turn_ends t) s)).state.control ≡ now_of ended = ap (λ (y : Kernel). y.now) (pass_kernel f (controlled (turn_ends t) s)) in
      let time = ended_time s.control t in
      rw (same, now, placed_nobody s.control t) (let most = far_most to x.steps 1 (now_of ended) x.outcome in omega arith)

  step_near : (to : ℕ) (x : Turn) (t : ℕ) (s : State P S H) → x.steps < to → far to (steps f x t s) < 3 * (to - x.steps) + 0 + 1 + time_left (now_of s.control)
  step_near to x t s low =
      let c = steps f x t s in
      let most = far_within to 2 c (part_small c.turn.gave c.state.control.scheduler.running) in
      let steps = stepped_steps x t s in
      let time : time_left (now_of c.state.control) ≡ time_left (now_of s.control) = ap time_left (step_at f t (now_of s.control) x s refl) in
      omega arith

  take_near : (to : ℕ) (x : Turn) (s : State P S H) → x.gave ≡ None → is_idle s.control ≡ false → far to (takes x s) < 3 * (to - x.steps) + 1 + 1 + time_left (now_of s.control)
  unfolding takes dispatches runs trails sets leaves_queue
  take_near to x s gave h =
      let k = readies_new s.control in
      let some = next_some k.scheduler.preferred (queue k queues.Ready) (ready_some s.control h) in
      let same : k.kernel ≡ s.control.kernel = readied_kernel (reverse (holders (queue s.control queues.New))) s.control in
      let time : time_left (now_of k) ≡ time_left (now_of s.control) = ap (λ (y : Kernel). time_left y.now) same in
      rw (some.1, gave) (let most = far_most to x.steps 0 (now_of k) x.outcome in omega arith)

  move_near : (to : ℕ) (x : Turn) (s : State P S H) → x.gave ≡ None → s.control.scheduler.running ≡ None → far to (moves f x s) < 3 * (to - x.steps) + 1 + 1 + time_left (now_of s.control)
  unfolding moves
  move_near to x s gave nobody = by_moment (moment f s) (λ m is. moment_later f s m is)
    where
      by_moment : (o : Option ℕ) → ((m : ℕ) → o ≡ Some m → IsLater (now_of s.control) m) → far to (moves_by f x o s) < 3 * (to - x.steps) + 1 + 1 + time_left (now_of s.control)
      by_moment None later = omega arith
      by_moment (Some m) later =
          let at = ((changes (moves_to m) and_then tells (Moved m)) s).state in
          let same : (pass f at).state.control.scheduler ≡ at.control.scheduler = pass_scheduler f at in
          let now : now_of (pass f at).state.control ≡ now_of at.control = ap (λ (y : Kernel). y.now) (pass_kernel f at) in
          let time = time_less (now_of s.control) m (later m refl) in
          rw (same, now, nobody, gave) (let most = far_most to x.steps 1 m x.outcome in omega arith)

  near_by : (to : ℕ) (x : Turn) (s : State P S H) (o : Outcome) (g r : Option ℕ) (idle : Bool) → x.gave ≡ g → s.control.scheduler.running ≡ r → is_idle s.control ≡ idle
      → stops_by to x.steps (unless_ended o (next_part_by g r idle)) ≡ false → far to (part_by f x s (unless_ended o (next_part_by g r idle))) < left_while to x.steps (part_left g r) (now_of s.control) o
  near_by to x s Running (Some t) r idle eg er ei h = close_near to x t s
  near_by to x s Running None (Some t) idle eg er ei h = step_near to x t s (grind (arith, nat_tests))
  near_by to x s Running None None true eg er ei h = move_near to x s eg er
  near_by to x s Running None None false eg er ei h = take_near to x s eg ei
  near_by to x s (Ended v) g r idle eg er ei h = absurd (cc h)
  near_by to x s Killed g r idle eg er ei h = absurd (cc h)
  near_by to x s Stalled g r idle eg er ei h = absurd (cc h)
  near_by to x s OutOfMemory g r idle eg er ei h = absurd (cc h)

  pub near : (to : ℕ) (c : Course P S H) → stops to c ≡ false → far to (part f c.turn c.state) < far to c
  unfolding part stops next_part
  near to c h = near_by to c.turn c.state c.turn.outcome c.turn.gave c.state.control.scheduler.running (is_idle c.state.control) refl refl refl h

  module _ (g : Given P) (to i : ℕ) where
    next_near : (j : ℕ) → stops to (run f g j) ≡ false → far to (run f g (j + 1)) < far to (run f g j)
    next_near j on = subst (λ (x : Course P S H). far to x < far to (run f g j)) (sym (parts-more f (start f g) j)) (near to (run f g j) on)

    stop_within : (n j : ℕ) → i ≤ j → ((k : ℕ) → i ≤ k → k < j → stops to (run f g k) ≡ false) → far to (run f g j) ≤ n → (m : ℕ) × GoesTo f g to i m
    stop_within zero j later before low = elim (cases_Bool (stops to (run f g j))) [
      | inl halt ↦ (j, record { later = later; here = halt; first = before })
      | inr on ↦ absurd (omega (arith, low, next_near j on))
    ]
    stop_within (suc n) j later before low = elim (cases_Bool (stops to (run f g j))) [
      | inl halt ↦ (j, record { later = later; here = halt; first = before })
      | inr on ↦ stop_within n (j + 1) (omega (arith, later)) (none-more (stops_at f g to) i j before on) (omega (arith, low, next_near j on))
    ]

    -- from each part a run comes to one where it stops
    pub run_stops : (m : ℕ) × GoesTo f g to i m
    run_stops = stop_within (far to (run f g i)) i (omega arith) (λ k from below. absurd (omega (arith, from, below))) (omega arith)
