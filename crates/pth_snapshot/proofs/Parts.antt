-- What the parts of a run leave of the turn, of who runs and of time, and so to which place each part is.
use Rattle.std.proofs.Common.{◌≡◌, ◌≢◌, ℕ, zero, suc, ◌+◌, ◌-◌, ◌<◌, ◌≤◌, ◌&&◌, ◌||◌, nat_le, nat_lt, Bool, true, false, Option, Some, None, is_some, refl, sym, ap, ◌∙◌, arith, subst, inl, inr, add-one}
use Rattle.std.proofs.lemmas.Bool.{cases_lt, lt-leb}
use Rattle.std.proofs.lemmas.Bool.Decides.{nat_tests}
use Rattle.pth_base.specs.Program.{Functions}
use Rattle.pth_base.specs.declared.answer.Answer.{Answer}
use Rattle.pth_base.specs.declared.mark.Mark.TheVariants.{Moved}
use Rattle.pth_base.specs.declared.outcome.Outcome.{Outcome}
use Rattle.pth_base.specs.declared.outcome.Outcome.TheVariants.{Running, Ended, Killed, Stalled, OutOfMemory}
use Rattle.pth_kernel.specs.Kernel.{Kernel}
use Rattle.pth_laws.proofs.EveryRun.{run_steps}
use Rattle.pth_model.specs.declared.next.Next.{Next}
use Rattle.pth_model.specs.declared.next.Next.TheVariants as next
use Rattle.pth_queue.specs.declared.queue.Queue.TheVariants as queues
use Rattle.pth_model.specs.Changes.{moves_to, goes_on}
use Rattle.pth_model.specs.Course.{Course, followed}
use Rattle.pth_model.specs.Part.{Part, Move, Take, Step, Close, Halt, next_part, next_part_by, unless_ended, part, part_by, moves, moves_by, takes, takes_by, chosen, readies_new, dispatches, runs, steps, steps_on, turn_after, owes_after, closes, turn_ends, is_idle}
use Rattle.pth_model.specs.Pass.{moment}
use Rattle.pth_model.specs.Run.{run, parts, stops, stops_at, stops_by, stops_or_closed, closed, GoesTo, TurnsTo}
use Rattle.pth_model.specs.State.{State, Control, Scheduler, Turn, Given, start, queue, now_of}
use Rattle.pth_model.specs.Transition.{controlled, changes, tells, ◌and_then◌}
use Rattle.pth_model.proofs.Runs.{parts-more}
use Rattle.pth_sched.proofs.Stopping.{stepped_steps, pass_scheduler, pass_kernel, placed_nobody, next_some, ready_some}
use Rattle.pth_sched.proofs.Times.{IsLater, moment_later}
use Rattle.pth_sched.proofs.Turning.{counts_up}
use Rattle.pth_snapshot.specs.Place.{OpensAt, has_come, has_come_by, IsPlace, IsSavable, place_of}

-- ---- one part

-- nobody runs, and nobody gave up control
record IsOpen {P S H : Type 0} (c : Course P S H) : Type 0 where
  pub gave : c.turn.gave ≡ None
  pub nobody : c.state.control.scheduler.running ≡ None

abbrev pub running_of : {P S H : Type 0} → Course P S H → Option ℕ
running_of c = c.state.control.scheduler.running

-- time moved, and nothing else of this
pub record IsMoved {P S H : Type 0} (x : Turn) (s : State P S H) (c : Course P S H) : Type 0 where
  pub turn : c.turn ≡ x
  pub running : c.state.control.scheduler.running ≡ s.control.scheduler.running
  pub later : IsLater (now_of s.control) (now_of c.state.control)

module _ {P S H : Type 0} where
  -- a thread is dispatched
  take_runs : (x : Turn) (s : State P S H) → is_idle s.control ≡ false → IsOpen (takes x s) → ⊥
  unfolding takes dispatches runs
  take_runs x s h o =
      let k = readies_new s.control in
      let some = next_some k.scheduler.preferred (queue k queues.Ready) (ready_some s.control h) in
      let none = rw some.1 at o.nobody in
      cc none

module _ {P S H : Type 0} (f : P → Functions S H) where
  -- the turn is over
  close_opens : (x : Turn) (t : ℕ) (s : State P S H) → IsOpen (closes f x t s)
  unfolding closes
  close_opens x t s = record {
    gave = refl;
    nobody = ap (λ (y : Scheduler). y.running) (pass_scheduler f (controlled (turn_ends t) s)) ∙ placed_nobody s.control t;
  }

  -- time moves, or the run is stalled
  pub move_moves : (x : Turn) (s : State P S H) → (moves f x s).turn.outcome ≡ Running → IsMoved x s (moves f x s)
  unfolding moves
  move_moves x s goes = by_moment (moment f s) (λ m is. moment_later f s m is) goes
    where
      by_moment : (o : Option ℕ) → ((m : ℕ) → o ≡ Some m → IsLater (now_of s.control) m) → (moves_by f x o s).turn.outcome ≡ Running → IsMoved x s (moves_by f x o s)
      by_moment None later goes = absurd (cc goes)
      by_moment (Some m) later goes =
          let at = ((changes (moves_to m) and_then tells (Moved m)) s).state in
          record {
            turn = refl;
            running = ap (λ (y : Scheduler). y.running) (pass_scheduler f at);
            later = subst (IsLater (now_of s.control)) (sym (ap (λ (y : Kernel). y.now) (pass_kernel f at))) (later m refl);
          }

  pub stalls : (x : Turn) (s : State P S H) → moment f s ≡ None → (moves f x s).turn.outcome ≡ Stalled
  unfolding moves
  stalls x s none = rw none refl

  owed_running : (t : ℕ) (o : Next) (k : Control P S H) → (owes_after t o k).scheduler.running ≡ k.scheduler.running
  unfolding goes_on
  owed_running t (next.Done a) k = refl
  owed_running t (next.Yields a) k = refl
  owed_running t next.Blocks k = refl
  owed_running t (next.Ended v) k = refl
  owed_running t next.Killed k = refl

  -- who made a step runs on, or gave up control, or the run is over
  step_goes_by : (x : Turn) (t : ℕ) (r : Option ℕ) (o : Next) → ((a : Answer) → o ≡ next.Done a → r ≡ Some t) → (turn_after t o x).gave ≡ None → r ≡ None → (turn_after t o x).outcome ≡ Running → ⊥
  step_goes_by x t r (next.Done a) runs gave nobody goes = (let h = sym (runs a refl) ∙ nobody in cc h)
  step_goes_by x t r (next.Yields a) runs gave nobody goes = cc gave
  step_goes_by x t r next.Blocks runs gave nobody goes = cc gave
  step_goes_by x t r (next.Ended v) runs gave nobody goes = cc gave
  step_goes_by x t r next.Killed runs gave nobody goes = cc goes

  step_goes : (x : Turn) (t : ℕ) (s : State P S H) → let w = steps_on f t s in ((a : Answer) → w.next ≡ next.Done a → w.told.state.control.scheduler.running ≡ Some t)
      → IsOpen (steps f x t s) → (steps f x t s).turn.outcome ≡ Running → ⊥
  unfolding steps
  step_goes x t s runs o goes = step_goes_by (record x { steps = x.steps + 1 }) t (steps_on f t s).told.state.control.scheduler.running (steps_on f t s).next runs o.gave (sym (owed_running t (steps_on f t s).next (steps_on f t s).told.state.control) ∙ o.nobody) goes

-- ---- parts of a run

halts : (o : Outcome) (p : Part) → o ≢ Running → unless_ended o p ≡ Halt
halts Running p ended = absurd (ended refl)
halts (Ended v) p ended = refl
halts Killed p ended = refl
halts Stalled p ended = refl
halts OutOfMemory p ended = refl

-- what a part that comes next says of who gave up control, who runs, and whether nothing is new or ready
abbrev pub Shape : Option ℕ → Option ℕ → Bool → Part → Type 0
Shape gave r idle Move = (gave ≡ None) × (r ≡ None) × (idle ≡ true)
Shape gave r idle Take = (gave ≡ None) × (r ≡ None) × (idle ≡ false)
Shape gave r idle (Step t) = (gave ≡ None) × (r ≡ Some t)
Shape gave r idle (Close t) = gave ≡ Some t
Shape gave r idle Halt = ⊥

shape_by : (gave r : Option ℕ) (idle : Bool) → Shape gave r idle (next_part_by gave r idle)
shape_by (Some t) r idle = refl
shape_by None (Some t) idle = (refl, refl)
shape_by None None true = (refl, refl, refl)
shape_by None None false = (refl, refl, refl)

module _ {P S H : Type 0} (f : P → Functions S H) (g : Given P) where
  abbrev pub next_at : ℕ → Part
  next_at i = next_part (run f g i).state (run f g i).turn

  abbrev pub steps_at : ℕ → ℕ
  steps_at i = (run f g i).turn.steps

  abbrev pub time_at : ℕ → ℕ
  time_at i = now_of (run f g i).state.control

  abbrev pub GoesAt : ℕ → Type 0
  GoesAt i = (run f g i).turn.outcome ≡ Running

  -- the part that comes next was made
  pub after : (i : ℕ) (p : Part) → next_at i ≡ p → run f g (i + 1) ≡ followed (run f g i) (part_by f (run f g i).turn (run f g i).state p)
  unfolding part
  after i p is = parts-more f (start f g) i ∙ ap (λ q. followed (run f g i) (part_by f (run f g i).turn (run f g i).state q)) is

  -- no part follows an outcome
  pub halted : (i : ℕ) → (GoesAt i → ⊥) → next_at i ≡ Halt
  unfolding next_part
  halted i ended = halts (run f g i).turn.outcome _ ended

  pub next_is : (i : ℕ) → GoesAt i → next_at i ≡ next_part_by (run f g i).turn.gave (run f g i).state.control.scheduler.running (is_idle (run f g i).state.control)
  unfolding next_part
  next_is i goes = rw goes refl

  went : (i : ℕ) → GoesAt (i + 1) → GoesAt i
  went i goes = by_outcome (run f g i).turn.outcome refl
    where
      stayed : (GoesAt i → ⊥) → GoesAt i
      stayed ended = absurd (ended (sym (ap (λ c. c.turn.outcome) (after i Halt (halted i ended))) ∙ goes))

      by_outcome : (o : Outcome) → (run f g i).turn.outcome ≡ o → GoesAt i
      by_outcome Running is = is
      by_outcome (Ended v) is = stayed (λ h. (let e = sym is ∙ h in cc e))
      by_outcome Killed is = stayed (λ h. (let e = sym is ∙ h in cc e))
      by_outcome Stalled is = stayed (λ h. (let e = sym is ∙ h in cc e))
      by_outcome OutOfMemory is = stayed (λ h. (let e = sym is ∙ h in cc e))

  went_on : (n i : ℕ) → GoesAt (i + n) → GoesAt i
  went_on zero i goes = subst GoesAt (let e : i + 0 ≡ i = omega arith in e) goes
  went_on (suc n) i goes = went_on n i (went (i + n) (subst GoesAt (let e : i + suc n ≡ i + n + 1 = omega arith in e) goes))

  -- a run that goes on went on before
  pub goes_before : (i j : ℕ) → i ≤ j → GoesAt j → GoesAt i
  goes_before i j le goes = went_on (j - i) i (subst GoesAt (let e : j ≡ i + (j - i) = omega arith in e) goes)

  -- ---- who runs

  abbrev OpenAt : ℕ → Type 0
  OpenAt i = IsOpen (run f g i)

  one_step : (i t : ℕ) → next_at i ≡ Step t → steps_at (i + 1) ≡ steps_at i + 1
  one_step i t is = ap (λ c. c.turn.steps) (after i (Step t) is) ∙ stepped_steps f (run f g i).turn t (run f g i).state

  open_of : (i : ℕ) (c : Course P S H) → run f g (i + 1) ≡ followed (run f g i) c → OpenAt (i + 1) → IsOpen c
  open_of i c is o = record { gave = ap (λ c. c.turn.gave) (sym is) ∙ o.gave; nobody = ap (λ c. c.state.control.scheduler.running) (sym is) ∙ o.nobody }

  goes_of : (i : ℕ) (c : Course P S H) → run f g (i + 1) ≡ followed (run f g i) c → GoesAt (i + 1) → c.turn.outcome ≡ Running
  goes_of i c is goes = ap (λ c. c.turn.outcome) (sym is) ∙ goes

  not_stepped : (i t : ℕ) → next_at i ≡ Step t → GoesAt (i + 1) → OpenAt (i + 1) → ⊥
  not_stepped i t is goes o =
      let made = after i (Step t) is in
      step_goes f (run f g i).turn t (run f g i).state (run_steps f g i t is).1 (open_of i _ made o) (goes_of i _ made goes)

  -- ---- what comes next

  pub shape : (i : ℕ) (p : Part) → GoesAt i → next_at i ≡ p → Shape (run f g i).turn.gave (running_of (run f g i)) (is_idle (run f g i).state.control) p
  shape i p goes is = subst (Shape (run f g i).turn.gave (running_of (run f g i)) (is_idle (run f g i).state.control)) (sym (next_is i goes) ∙ is) (shape_by (run f g i).turn.gave (running_of (run f g i)) (is_idle (run f g i).state.control))

  gave_after : (h : ℕ) (c : Course P S H) (o : Option ℕ) → run f g (h + 1) ≡ followed (run f g h) c → c.turn.gave ≡ o → (run f g (h + 1)).turn.gave ≡ o
  gave_after h c o is gave = ap (λ d. d.turn.gave) is ∙ gave

  not_gave : (t : ℕ) (o : Option ℕ) → o ≡ None → o ≡ Some t → ⊥
  not_gave t o none some = (let e = sym none ∙ some in cc e)

  take_gave : (x : Turn) (s : State P S H) → x.gave ≡ None → (takes x s).turn.gave ≡ None
  unfolding takes
  take_gave x s none = by_next (chosen (readies_new s.control).scheduler.preferred (queue (readies_new s.control) queues.Ready))
    where
      by_next : (o : Option ℕ) → (takes_by x o (controlled readies_new s)).turn.gave ≡ None
      by_next None = none
      by_next (Some t) = none

  -- a part after which somebody has given up control is a step
  gave_stepped : (h t : ℕ) (p : Part) → next_at h ≡ p → GoesAt (h + 1) → (run f g (h + 1)).turn.gave ≡ Some t → (u : ℕ) × (next_at h ≡ Step u)
  gave_stepped h t Move is goes gave =
      let made = after h Move is in
      let before = shape h Move (went h goes) is in
      let m = move_moves f (run f g h).turn (run f g h).state (goes_of h _ made goes) in
      absurd (not_gave t _ (gave_after h _ None made (ap (λ x. x.gave) m.turn ∙ before.0)) gave)
  gave_stepped h t Take is goes gave =
      let made = after h Take is in
      let before = shape h Take (went h goes) is in
      absurd (not_gave t _ (gave_after h _ None made (take_gave (run f g h).turn (run f g h).state before.0)) gave)
  gave_stepped h t (Step u) is goes gave = (u, is)
  gave_stepped h t (Close u) is goes gave =
      let made = after h (Close u) is in
      absurd (not_gave t _ (gave_after h _ None made (close_opens f (run f g h).turn u (run f g h).state).gave) gave)
  gave_stepped h t Halt is goes gave = absurd (shape h Halt (went h goes) is)

  start_gave : (run f g 0).turn.gave ≡ None
  unfolding parts
  start_gave = refl

  -- a Close follows a step at once
  closes_step : (i t : ℕ) → GoesAt i → next_at i ≡ Close t → (h : ℕ) × (u : ℕ) × (i ≡ h + 1) × (next_at h ≡ Step u)
  closes_step zero t goes is = absurd (not_gave t (run f g 0).turn.gave start_gave (shape zero (Close t) goes is))
  closes_step (suc h) t goes is =
      let same : suc h ≡ h + 1 = omega arith in
      let gave : (run f g (h + 1)).turn.gave ≡ Some t = subst (λ k. (run f g k).turn.gave ≡ Some t) same (shape (suc h) (Close t) goes is) in
      let s = gave_stepped h t (next_at h) refl (subst GoesAt same goes) gave in
      (h, s.0, same, s.1)

  -- ---- the way to a step

  -- before a step is due as many steps were not made
  early_by : (i t n : ℕ) → GoesAt i → next_at i ≡ Step t → n < i → (p : Part) → next_at n ≡ p → stops_by (steps_at i) (steps_at n) p ≡ false
  early_by i t n goes is low Move here = refl
  early_by i t n goes is low Take here = refl
  early_by i t n goes is low (Close u) here = refl
  early_by i t n goes is low (Step u) here =
      let one = one_step n u here in
      let up = counts_up f g (n + 1) i (omega (arith, low)) in
      lt-leb (steps_at i) (steps_at n) (omega arith)
  early_by i t n goes is low Halt here = absurd (shape n Halt (goes_before n i (omega (arith, low)) goes) here)

  early : (i t n : ℕ) → GoesAt i → next_at i ≡ Step t → n < i → stops_at f g (steps_at i) n ≡ false
  unfolding stops
  early i t n goes is low = early_by i t n goes is low (next_at n) refl

  stops_by_step : (i t : ℕ) → next_at i ≡ Step t → stops_at f g (steps_at i) i ≡ true
  unfolding stops
  stops_by_step i t is = rw is (same (steps_at i))
    where
      same : (n : ℕ) → nat_le n n ≡ true
      same n = grind (arith, nat_tests)

  pub goes_to_step : (i t : ℕ) → GoesAt i → next_at i ≡ Step t → GoesTo f g (steps_at i) 0 i
  goes_to_step i t goes is = record {
    later = omega arith;
    here = stops_by_step i t is;
    first = λ n from low. early i t n goes is low;
  }

  -- ---- the turn that a Close ends

  goes_past : (to i : ℕ) (p : Part) → next_at i ≡ p → stops_by to (steps_at i) p ≡ false → stops_at f g to i ≡ false
  unfolding stops
  goes_past to i p is on = rw is on

  closed_there : (h u : ℕ) → next_at h ≡ Close u → closed f g (h + 1) ≡ true
  closed_there h u is = rw add-one (rw is refl)

  not_closed : (h u : ℕ) → next_at h ≡ Step u → closed f g (h + 1) ≡ false
  not_closed h u is = rw add-one (rw is refl)

  turns_to_close : (h u t : ℕ) → next_at h ≡ Step u → next_at (h + 1) ≡ Close t → TurnsTo f g (steps_at h + 1) h (h + 1 + 1)
  turns_to_close h u t step close = record {
    later = omega arith;
    here = end_by (stops_at f g (steps_at h + 1) (h + 1 + 1)) (nat_lt h (h + 1 + 1)) (closed f g (h + 1 + 1)) (grind (arith, nat_tests)) (closed_there (h + 1) t close);
    first = λ k from low. elim (cases_lt h k) [
      | inl past ↦ (
          let at : h + 1 ≡ k = omega (arith, from, low, past) in
          subst (λ n. stops_or_closed f g (steps_at h + 1) h n ≡ false) at
          (both_false (stops_at f g (steps_at h + 1) (h + 1)) (nat_lt h (h + 1)) (closed f g (h + 1)) (goes_past (steps_at h + 1) (h + 1) (Close t) close refl) (not_closed h u step)))
      | inr not ↦ (
          let at : h ≡ k = omega (arith, from, not) in
          subst (λ n. stops_or_closed f g (steps_at h + 1) h n ≡ false) at
          (neither (stops_at f g (steps_at h + 1) h) (nat_lt h h) (closed f g h) (goes_past (steps_at h + 1) h (Step u) step (above (steps_at h))) (grind (arith, nat_tests))))
    ];
  }
    where
      end_by : (a b c : Bool) → b ≡ true → c ≡ true → (a || (b && c)) ≡ true
      end_by true b c hb hc = refl
      end_by false b c hb hc = rw (hb, hc) refl

      both_false : (a b c : Bool) → a ≡ false → c ≡ false → (a || (b && c)) ≡ false
      both_false a true c ha hc = rw (ha, hc) refl
      both_false a false c ha hc = rw ha refl

      neither : (a b c : Bool) → a ≡ false → b ≡ false → (a || (b && c)) ≡ false
      neither a b c ha hb = rw (ha, hb) refl

      above : (n : ℕ) → nat_le (n + 1) n ≡ false
      above n = grind (arith, nat_tests)

  opens_at_close : (h u t n : ℕ) → GoesAt h → next_at h ≡ Step u → next_at (h + 1) ≡ Close t → n ≡ steps_at h + 1 → OpensAt f g n (h + 1 + 1)
  opens_at_close h u t n goes step close is =
      let same : n ≡ suc (steps_at h) = omega arith in
      let to : steps_at h + 1 ≡ suc (steps_at h) = omega arith in
      subst (λ m. OpensAt f g m (h + 1 + 1)) (sym same) (h, goes_to_step h u goes step, subst (λ m. TurnsTo f g m h (h + 1 + 1)) to (turns_to_close h u t step close))

  -- ---- the way to a part where no turn is open

  -- behind part k time alone moved, to part i
  record IsReachedFrom (k i : ℕ) : Type 0 where
    pub later : k ≤ i
    pub opens : OpensAt f g (steps_at i) k
    pub moves : (n : ℕ) → k ≤ n → n < i → (next_at n ≡ Move) × (time_at n < time_at i)

  opens_start : OpensAt f g (steps_at 0) 0
  unfolding parts
  opens_start = refl

  at_start : IsReachedFrom 0 0
  at_start = record { later = omega arith; opens = opens_start; moves = λ n from low. absurd (omega (arith, low)) }

  closed_steps : (i t : ℕ) → (closes f (run f g i).turn t (run f g i).state).turn.steps ≡ steps_at i
  unfolding closes
  closed_steps i t = refl

  reached_by : (i : ℕ) (p : Part) → next_at i ≡ p → GoesAt (i + 1) → OpenAt (i + 1) → (GoesAt i → OpenAt i → (k : ℕ) × IsReachedFrom k i) → (k : ℕ) × IsReachedFrom k (i + 1)
  reached_by i Move is goes o before =
      let made = after i Move is in
      let was = shape i Move (went i goes) is in
      let m = move_moves f (run f g i).turn (run f g i).state (goes_of i _ made goes) in
      let r = before (went i goes) (record { gave = was.0; nobody = was.1 }) in
      let time : time_at i < time_at (i + 1) = subst (λ n. time_at i < n) (sym (ap (λ c. now_of c.state.control) made)) m.later.after in
      let same : steps_at (i + 1) ≡ steps_at i = ap (λ c. c.turn.steps) made ∙ ap (λ x. x.steps) m.turn in (
        r.0,
        record {
          later = omega (arith, r.1.later);
          opens = subst (λ n. OpensAt f g n r.0) (sym same) r.1.opens;
          moves = λ n from low. elim (cases_lt n i) [
            | inl early ↦ (let e = r.1.moves n from early in (e.0, omega (arith, e.1, time)))
            | inr late ↦ (let at : i ≡ n = omega (arith, late, low) in subst (λ k. (next_at k ≡ Move) × (time_at k < time_at (i + 1))) at (is, time))
          ];
        },
      )
  reached_by i Take is goes o before =
      let made = after i Take is in
      let was = shape i Take (went i goes) is in
      absurd (take_runs (run f g i).turn (run f g i).state was.2 (open_of i _ made o))
  reached_by i (Step t) is goes o before = absurd (not_stepped i t is goes o)
  reached_by i (Close t) is goes o before =
      let made = after i (Close t) is in
      let s = closes_step i t (went i goes) is in
      let h = s.0 in
      let at : i ≡ h + 1 = s.2 in
      let close : next_at (h + 1) ≡ Close t = subst (λ k. next_at k ≡ Close t) at is in
      let goes_h : GoesAt h = goes_before h i (omega (arith, at)) (went i goes) in
      let same : steps_at (i + 1) ≡ steps_at h + 1 = ap (λ c. c.turn.steps) made ∙ (closed_steps i t ∙ ap steps_at at ∙ one_step h s.1 s.3) in (
        i + 1,
        record {
          later = omega arith;
          opens = subst (λ k. OpensAt f g (steps_at (i + 1)) (k + 1)) (sym at) (opens_at_close h s.1 t (steps_at (i + 1)) goes_h s.3 close same);
          moves = λ n from low. absurd (omega (arith, from, low));
        },
      )
  reached_by i Halt is goes o before = absurd (shape i Halt (went i goes) is)

  reached : (i : ℕ) → GoesAt i → OpenAt i → (k : ℕ) × IsReachedFrom k i
  reached zero goes o = (0, at_start)
  reached (suc i) goes o =
      let same : suc i ≡ i + 1 = omega arith in
      let r = reached_by i (next_at i) refl (subst GoesAt same goes) (subst OpenAt same o) (reached i) in
      (r.0, subst (IsReachedFrom r.0) (sym same) r.1)

  -- ---- each part is a place

  came_by : (m : ℕ) (p : Part) → has_come_by m m p ≡ true
  came_by m Move = grind (arith, nat_tests)
  came_by m Take = refl
  came_by m (Step t) = refl
  came_by m (Close t) = refl
  came_by m Halt = refl

  not_come : (m n i : ℕ) → next_at i ≡ Move → time_at i < m → has_come f g m i ≡ false
  not_come m n i is low = rw is (lt-leb m (time_at i) low)

  is_place_by : (i : ℕ) (r : Option ℕ) → running_of (run f g i) ≡ r → IsSavable f g i → (run f g i).turn.gave ≡ None → IsPlace f g (place_of (run f g i)) i
  is_place_by i (Some t) runs s gave =
      rw runs (record { leads = goes_to_step i t s.goes (next_is i s.goes ∙ step_next gave runs); goes = s.goes; kind = ap is_some runs })
    where
      step_next : (run f g i).turn.gave ≡ None → running_of (run f g i) ≡ Some t → next_part_by (run f g i).turn.gave (running_of (run f g i)) (is_idle (run f g i).state.control) ≡ Step t
      step_next a b = rw (a, b) refl
  is_place_by i None nobody s gave =
      let r = reached i s.goes (record { gave = gave; nobody = nobody }) in
      rw nobody (record {
        leads = (
          r.0,
          r.1.opens,
          record {
            later = r.1.later;
            here = came_by (time_at i) (next_at i);
            first = λ n from low. (let m = r.1.moves n from low in not_come (time_at i) n n m.0 m.1);
          },
        );
        goes = s.goes;
        kind = ap is_some nobody;
      })

  gave_none : (i : ℕ) (o : Option ℕ) → (run f g i).turn.gave ≡ o → IsSavable f g i → (run f g i).turn.gave ≡ None
  gave_none i None is s = is
  gave_none i (Some t) is s = absurd (s.no_close t (next_is i s.goes ∙ close_next is))
    where
      close_next : (run f g i).turn.gave ≡ Some t → next_part_by (run f g i).turn.gave (running_of (run f g i)) (is_idle (run f g i).state.control) ≡ Close t
      close_next a = rw a refl

  pub part_is_place : (i : ℕ) → IsSavable f g i → IsPlace f g (place_of (run f g i)) i
  part_is_place i s = is_place_by i (running_of (run f g i)) refl s (gave_none i (run f g i).turn.gave refl s)
