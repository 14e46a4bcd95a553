-- How a machine follows a run to the end of a turn.
use Rattle.std.proofs.Common.{◌≡◌, ◌≢◌, ℕ, zero, suc, ◌+◌, ◌-◌, ◌≤◌, ◌&&◌, ◌||◌, List, Bool, true, false, nat_lt, nat_le, Option, Some, None, refl, sym, ap, ◌∙◌, arith, subst, add-zero, add-one, inl, inr}
use Rattle.pth_world.specs.Leading.{AllAwaitRightly}
use Rattle.std.proofs.lemmas.Bool.{cases_lt, lt-ltb, le-ltb, true≢false, or_left, or_from, or_right, and_right}
use Rattle.std.proofs.lemmas.Bool.Decides.{nat_tests}
use Rattle.pth_base.specs.Cut.{IsCut}
use Rattle.pth_base.specs.Program.{Functions}
use Rattle.pth_base.specs.declared.mark.Mark.{Mark}
use Rattle.pth_base.specs.declared.outcome.Outcome.{Outcome}
use Rattle.pth_base.specs.declared.outcome.Outcome.TheVariants.{Running, Ended, Killed, Stalled, OutOfMemory}
use Rattle.pth_model.specs.Course.{Course, HasHistory}
use Rattle.pth_model.specs.State.{State, Given, Turn, start, queue}
use Rattle.pth_model.specs.Pass.{moment}
use Rattle.pth_model.specs.Part.{Part, Move, Take, Step, Close, Halt, next_part, next_part_by, unless_ended, part, part_by, moves, moves_by, takes, takes_by, readies_new, chosen, steps, closes, is_idle}
use Rattle.pth_model.specs.Run.{run, stops, stops_at, stops_by, closed, is_close, stops_or_closed, GoesTo, TurnsTo}
use Rattle.pth_model.specs.Transition.{controlled}
use Rattle.pth_model.proofs.Runs.{parts-more, goes-first}
use Rattle.pth_queue.specs.declared.queue.Queue.TheVariants as queues
use Rattle.pth_sched.specs.MachineOf.{MachineOf, machine_stops}
use Rattle.pth_sched.specs.Running.{Stands, StandsAt, Makes, GoesOn, TurnGoesOn, TurnBreaksOff}
use Rattle.pth_sched.proofs.Cutting.{is_running, follows_then}
use Rattle.pth_sched.proofs.Following.{Reaches, reach-none, reach-more, reach-stop, reach-cut, lives_on}
use Rattle.pth_sched.proofs.Keeping.{stops_ended}
use Rattle.pth_sched.proofs.Parts.{part_close, makes_as, cut_as}
use Rattle.pth_sched.proofs.Showing.{stops_is}
use Rattle.pth_sched.proofs.Stopping.{run_stops, stepped_steps}

-- ---- tests

not_after : (i : ℕ) (b : Bool) → (nat_lt i i && b) ≡ false
not_after i b = (let e : nat_lt i i ≡ false = le-ltb i i (omega arith) in rw e refl)

after : (i k : ℕ) (b : Bool) → i ≤ k → b ≡ true → (nat_lt i (k + 1) && b) ≡ true
after i k b later is = (let e : nat_lt i (k + 1) ≡ true = lt-ltb i (k + 1) (omega arith) in rw (e, is) refl)

-- ---- which part closes a turn

no_close : (o : Outcome) (r : Option ℕ) (idle : Bool) → is_close (unless_ended o (next_part_by None r idle)) ≡ false
no_close Running None true = refl
no_close Running None false = refl
no_close Running (Some t) idle = refl
no_close (Ended v) r idle = refl
no_close Killed r idle = refl
no_close Stalled r idle = refl
no_close OutOfMemory r idle = refl

module _ {P S H : Type 0} where
  -- a machine that does not stop has no outcome
  pub running_on : (to : ℕ) (m : MachineOf P S H) → machine_stops to m ≡ false → m.turn.outcome ≡ Running
  running_on to m on = elim (is_running m.turn.outcome) [
    | inl runs ↦ runs
    | inr ended ↦ absurd (true≢false (sym (stops_ended to m ended) ∙ on))
  ]

  module _ (m : MachineOf P S H) (c : Course P S H) (st : Stands m c) where
    goes_open : m.turn.gave ≡ None → is_close (next_part c.state c.turn) ≡ false
    unfolding next_part
    goes_open none = (let gave : c.turn.gave ≡ None = ap (λ (x : Turn). x.gave) st.turn ∙ none in rw gave (no_close c.turn.outcome c.state.control.scheduler.running (is_idle c.state.control)))

    goes_close : (t : ℕ) → m.turn.outcome ≡ Running → m.turn.gave ≡ Some t → is_close (next_part c.state c.turn) ≡ true
    unfolding next_part
    goes_close t goes over =
        let on : c.turn.outcome ≡ Running = ap (λ (x : Turn). x.outcome) st.turn ∙ goes in
        let gave : c.turn.gave ≡ Some t = ap (λ (x : Turn). x.gave) st.turn ∙ over in
        rw (on, gave) refl

-- ---- the loop

module _ {P S H : Type 0} (f : P → Functions S H) (g : Given P) (to i : ℕ) where
  closed-more : (k : ℕ) → closed f g (k + 1) ≡ is_close (next_part (run f g k).state (run f g k).turn)
  closed-more k = rw add-one refl

  -- the machine came to a part, before which a turn does not stop, and to which no Close led
  pub record Turns (m : MachineOf P S H) (old new : List Mark) : Type 0 where
    pub reached : Reaches f g (stops_or_closed f g to i) i m old new
    pub unclosed : (nat_lt i reached.part && closed f g reached.part) ≡ false

  pub turn-none : (m : MachineOf P S H) (old : List Mark) → StandsAt f g i m → Turns m old old
  unfolding reach-none
  turn-none m old st = record { reached = reach-none f g (stops_or_closed f g to i) i m old st; unclosed = not_after i (closed f g i) }

  -- where the run stops
  pub turn-stop : (m : MachineOf P S H) (old new : List Mark) → Turns m old new → machine_stops to m ≡ true → TurnGoesOn f g to i m old new
  turn-stop m old new r halt =
      let at = run f g r.reached.part in
      reach-stop f g (stops_or_closed f g to i) i m old new r.reached (or_left (stops to at) _ (sym (stops_is to m at r.reached.stands) ∙ halt))

  module _ (m : MachineOf P S H) (old mid : List Mark) (r : Turns m old mid) (on : machine_stops to m ≡ false) where
    goes_on : stops_or_closed f g to i r.reached.part ≡ false
    goes_on = (let at = run f g r.reached.part in or_from (stops to at) _ (sym (stops_is to m at r.reached.stands) ∙ on) r.unclosed)

    lives : (run f g r.reached.part).turn.outcome ≢ Killed
    lives = lives_on to m (run f g r.reached.part) r.reached.stands on

    -- memory ends in the next part
    pub turn-cut : (new : List Mark) → ((c : Course P S H) → Stands m c → AllAwaitRightly c.state → IsCut mid new (part f c.turn c.state).marks) → TurnBreaksOff f g to i old new
    turn-cut new cuts = reach-cut f g (stops_or_closed f g to i) i m old mid new r.reached goes_on lives cuts

    -- the machine makes a part that is no Close
    pub turn-more : (v : MachineOf P S H) (new : List Mark) → m.turn.gave ≡ None → ((c : Course P S H) → Stands m c → AllAwaitRightly c.state → HasHistory c → Makes v mid new (part f c.turn c.state)) → Turns v old new
    unfolding reach-more
    turn-more v new none makes =
        let n = r.reached.part in
        record {
          reached = reach-more f g (stops_or_closed f g to i) i m v old mid new r.reached goes_on lives makes;
          unclosed = and_right (nat_lt i (n + 1)) (closed f g (n + 1)) (closed-more n ∙ goes_open m (run f g n) r.reached.stands none);
        }

    module _ (t : ℕ) (over : m.turn.gave ≡ Some t) where
      -- it makes a Close: the turn is over
      pub turn-close : (v : MachineOf P S H) (new : List Mark) → ((c : Course P S H) → Stands m c → Makes v mid new (closes f c.turn t c.state)) → TurnGoesOn f g to i v old new
      unfolding reach-more
      turn-close v new makes =
          let n = r.reached.part in
          let goes = running_on to m on in
          let is_over = after i n (closed f g (n + 1)) r.reached.later (closed-more n ∙ goes_close m (run f g n) r.reached.stands t goes over) in
          reach-stop f g (stops_or_closed f g to i) i v old new
          (reach-more f g (stops_or_closed f g to i) i m v old mid new r.reached goes_on lives (λ c st right history. makes_as v _ _ (part_close f m c st goes t over) mid new (makes c st)))
          (or_right (stops to (run f g (n + 1))) _ is_over)

      -- memory ends in the Close
      pub close-cut : (new : List Mark) → ((c : Course P S H) → Stands m c → IsCut mid new (closes f c.turn t c.state).marks) → TurnBreaksOff f g to i old new
      close-cut new cuts = turn-cut new (λ c st right. cut_as m _ _ (part_close f m c st (running_on to m on) t over) mid new (cuts c st))

  -- a run comes to the end of a turn, or to where it stops
  pub turn_stops : (j : ℕ) × TurnsTo f g to i j
  turn_stops = (let s = run_stops f g to i in goes-first (stops_or_closed f g to i) i s.0 s.1.later (or_left (stops to (run f g s.0)) _ s.1.here))

-- after an outcome that ended the run a machine stays where it is
pub turn_stays : {P S H : Type 0} (f : P → Functions S H) (g : Given P) (to i : ℕ) (m : MachineOf P S H) (old : List Mark) → m.turn.outcome ≢ Running → StandsAt f g i m → TurnGoesOn f g to i m old old
turn_stays f g to i m old ended st = turn-stop f g to i m old old (turn-none f g to i m old st) (stops_ended to m ended)

-- ---- a turn, and what comes after it

not_left : (a b : Bool) → (a || b) ≡ false → a ≡ false
not_left true b h = h
not_left false b h = refl

step_below : (far n m : ℕ) → m ≡ n + 1 → m ≤ far → nat_le far n ≡ false
step_below far n m is le = grind (arith, nat_tests)

module _ {P S H : Type 0} (f : P → Functions S H) where
  -- no part takes a step back
  counts_by : (x : Turn) (s : State P S H) (p : Part) → x.steps ≤ (part_by f x s p).turn.steps
  unfolding moves takes closes
  counts_by x s Move = by_moment (moment f s)
    where
      by_moment : (o : Option ℕ) → x.steps ≤ (moves_by f x o s).turn.steps
      by_moment None = omega arith
      by_moment (Some t) = omega arith
  counts_by x s Take = by_next (chosen (readies_new s.control).scheduler.preferred (queue (readies_new s.control) queues.Ready))
    where
      by_next : (o : Option ℕ) → x.steps ≤ (takes_by x o (controlled readies_new s)).turn.steps
      by_next None = omega arith
      by_next (Some t) = omega arith
  counts_by x s (Step t) = omega (arith, stepped_steps f x t s)
  counts_by x s (Close t) = omega arith
  counts_by x s Halt = omega arith

  counts : (c : Course P S H) → c.turn.steps ≤ (part f c.turn c.state).turn.steps
  unfolding part
  counts c = counts_by c.turn c.state (next_part c.state c.turn)

  -- before a part that leaves it within so many steps, a run to as many goes on
  goes_by : (to far : ℕ) (x : Turn) (s : State P S H) (p : Part) → stops_by to x.steps p ≡ false → (part_by f x s p).turn.steps ≤ far → stops_by far x.steps p ≡ false
  goes_by to far x s Move on le = refl
  goes_by to far x s Take on le = refl
  goes_by to far x s (Step t) on le = step_below far x.steps (steps f x t s).turn.steps (stepped_steps f x t s) le
  goes_by to far x s (Close t) on le = refl
  goes_by to far x s Halt on le = on

  still_goes : (to far : ℕ) (c : Course P S H) → stops to c ≡ false → (part f c.turn c.state).turn.steps ≤ far → stops far c ≡ false
  unfolding part stops
  still_goes to far c on le = goes_by to far c.turn c.state (next_part c.state c.turn) on le

  module _ (g : Given P) where
    pub next_counts : (j : ℕ) → (run f g (j + 1)).turn.steps ≡ (part f (run f g j).turn (run f g j).state).turn.steps
    next_counts j = ap (λ (c : Course P S H). c.turn.steps) (parts-more f (start f g) j)

    counts_within : (n j : ℕ) → (run f g j).turn.steps ≤ (run f g (j + n)).turn.steps
    counts_within zero j = rw add-zero (omega arith)
    counts_within (suc n) j =
        let same : j + suc n ≡ j + n + 1 = omega arith in
        let before = counts_within n j in
        let one = counts (run f g (j + n)) in
        let next = next_counts (j + n) in
        subst (λ (k : ℕ). (run f g j).turn.steps ≤ (run f g k).turn.steps) (sym same) (omega arith)

    pub counts_up : (j k : ℕ) → j ≤ k → (run f g j).turn.steps ≤ (run f g k).turn.steps
    counts_up j k later = (let same : j + (k - j) ≡ k = omega arith in subst (λ (l : ℕ). (run f g j).turn.steps ≤ (run f g l).turn.steps) same (counts_within (k - j) j))

    -- a turn, and then a run to as many steps as were made or more
    turn_joins : (to far i j k : ℕ) → TurnsTo f g to i j → (run f g j).turn.steps ≤ far → GoesTo f g far j k → GoesTo f g far i k
    turn_joins to far i j k a le b = record {
      later = omega (arith, a.later, b.later);
      here = b.here;
      first = λ n from below. elim (cases_lt n j) [
        | inl early ↦
            let up = counts_up (n + 1) j (omega arith) in
            let next = next_counts n in
            still_goes to far (run f g n) (not_left (stops to (run f g n)) _ (a.first n from early)) (omega arith)
        | inr late ↦ b.first n (omega (arith, late)) below
      ];
    }

    pub turn_joined : (to far i : ℕ) (t u : MachineOf P S H) (a b c : List Mark) → (first : TurnGoesOn f g to i t a b) → t.turn.steps ≤ far → GoesOn f g far first.part u b c → GoesOn f g far i u a c
    turn_joined to far i t u a b c first le second =
        let made = ap (λ (x : Turn). x.steps) first.stands.turn in
        follows_then f g (stops_or_closed f g to i) (stops_at f g far) (stops_at f g far) i t u a b c first second (turn_joins to far i first.part second.part first.goes (omega arith) second.goes)
