-- How a machine is led to a place.
use Rattle.std.proofs.Common.{◌≡◌, ◌≢◌, ◌⊎◌, ℕ, zero, suc, ◌+◌, ◌-◌, ◌<◌, ◌≤◌, ◌&&◌, nat_lt, not, Bool, true, false, List, [], Option, Some, None, IsSome, refl, sym, ap, ◌∙◌, arith, subst, inl, inr}
use Rattle.std.proofs.lemmas.Bool.Decides.{nat_tests}
use Rattle.pth_base.specs.Limits.{most_steps}
use Rattle.pth_base.specs.Program.{Functions}
use Rattle.pth_base.specs.declared.mark.Mark.{Mark}
use Rattle.pth_base.specs.declared.outcome.Outcome.{Outcome}
use Rattle.pth_base.specs.declared.outcome.Outcome.TheVariants.{Running, Stalled}
use Rattle.pth_kernel.specs.Kernel.{Kernel}
use Rattle.pth_model.specs.Course.{Course}
use Rattle.pth_model.specs.Part.{Move, Close, next_part_by, moves, is_idle}
use Rattle.pth_model.specs.Pass.{moment}
use Rattle.pth_model.specs.Run.{run, stops, stops_at, GoesUntil, GoesTo, TurnsTo}
use Rattle.pth_model.specs.State.{Given, Scheduler, Turn, now_of}
use Rattle.pth_model.proofs.Runs.{goes-then, stops-later, none-more}
use Rattle.pth_world.specs.Sound.{IsSound}
use Rattle.pth_world.specs.StateOf.{state_of}
use Rattle.pth_world.proofs.StateOf.{stands_for_state}
use Rattle.pth_sched.specs.MachineOf.{MachineOf}
use Rattle.pth_sched.specs.Running.{Stands, StandsAt, Makes, GoesOn, TurnGoesOn, IsAtStep, IsBetweenTurns}
use Rattle.pth_snapshot.specs.Leading.{ComesTo, IsOpened, Arrives, IsLed}
use Rattle.pth_snapshot.specs.Place.{OpensAt, LeadsTo, leads_by, has_come, has_come_by, IsSavable}
use Rattle.pth_snapshot.specs.declared.place.Kind.{Kind}
use Rattle.pth_snapshot.specs.declared.place.Kind.TheVariants as kind
use Rattle.pth_snapshot.specs.declared.place.Place.{Place}
use Rattle.pth_snapshot.proofs.Parts.{next_at, time_at, next_is, halted, after, stalls, move_moves}

module _ {P S H : Type 0} (f : P → Functions S H) where
  -- a move of idle time makes it later
  pub moved_later : (m v : MachineOf P S H) (old new : List Mark) → IsSound m.world.threads → m.turn.outcome ≡ Running → v.turn ≡ m.turn
      → ((c : Course P S H) → Stands m c → Makes v old new (moves f c.turn c.state)) → m.world.kernel.now < v.world.kernel.now
  moved_later m v old new sound goes turn makes =
      let c : Course P S H = record { state = state_of m.world; turn = m.turn; marks = [] } in
      let st : Stands m c = record { world = stands_for_state m.world sound; turn = refl; memory = λ over. (let e = sym goes ∙ over in cc e) } in
      let made = makes c st in
      let on : (moves f c.turn c.state).turn.outcome ≡ Running = ap (λ (x : Turn). x.outcome) (made.stands.turn ∙ turn) ∙ goes in
      let moved = move_moves f c.turn c.state on in
      let before : now_of c.state.control ≡ m.world.kernel.now = ap (λ (k : Kernel). k.now) st.world.control.kernel in
      let behind : now_of (moves f c.turn c.state).state.control ≡ v.world.kernel.now = ap (λ (k : Kernel). k.now) made.stands.world.control.kernel in
      let later = moved.later.after in
      omega arith

module _ {P S H : Type 0} (f : P → Functions S H) (g : Given P) where
  -- how the run stands where the machine does
  pub outcome_there : (m : MachineOf P S H) (c : Course P S H) → Stands m c → c.turn.outcome ≡ m.turn.outcome
  outcome_there m c st = ap (λ (x : Turn). x.outcome) st.turn

  stops_ended : (to i : ℕ) → (run f g i).turn.outcome ≢ Running → stops_at f g to i ≡ true
  unfolding stops
  stops_ended to i ended = rw (halted f g i ended) refl

  -- ---- steps

  -- from part p on the machine has still to come to where the run stops from part i on
  pub record IsOnWay (to i : ℕ) (m : MachineOf P S H) : Type 0 where
    pub part : ℕ
    pub stands : StandsAt f g part m
    pub rest : (j : ℕ) → GoesTo f g to part j → GoesTo f g to i j

  pub way_more : (to i next : ℕ) (m v : MachineOf P S H) (old new : List Mark) → (w : IsOnWay to i m) → next ≤ to → GoesOn f g next w.part v old new → IsOnWay to i v
  way_more to i next m v old new w le goes = record {
    part = goes.part;
    stands = goes.stands;
    rest = λ j on. w.rest j (goes-then f g next to w.part goes.part j le goes.goes on);
  }

  -- the run to fewer steps has stopped: it was to so many, or the run is over
  stopped : (next to p j : ℕ) → next ≤ to → (next ≡ to) ⊎ ((run f g j).turn.outcome ≢ Running) → GoesTo f g next p j → GoesTo f g to p j
  stopped next to p j le (inl same) goes = subst (λ n. GoesTo f g n p j) same goes
  stopped next to p j le (inr ended) goes = record {
    later = goes.later;
    here = stops_ended to j ended;
    first = λ k from low. stops-later next to (run f g k) le (goes.first k from low);
  }

  pub way_over : (to i next : ℕ) (m v : MachineOf P S H) (old new : List Mark) → (w : IsOnWay to i m) → next ≤ to → (next ≡ to) ⊎ (v.turn.outcome ≢ Running) → GoesOn f g next w.part v old new
      → ComesTo f g (stops_at f g to) i v
  way_over to i next m v old new w le over goes = (goes.part, w.rest goes.part (stopped next to w.part goes.part le (there over) goes.goes), goes.stands)
    where
      there : (next ≡ to) ⊎ (v.turn.outcome ≢ Running) → (next ≡ to) ⊎ ((run f g goes.part).turn.outcome ≢ Running)
      there (inl same) = inl same
      there (inr ended) = inr (λ on. ended (sym (outcome_there v (run f g goes.part) goes.stands) ∙ on))

  -- ---- the turn that is closed

  opens_by : (steps k : ℕ) → 1 ≤ steps → (h : ℕ) → GoesTo f g (steps - 1) 0 h → TurnsTo f g steps h k → OpensAt f g steps k
  opens_by zero k some h goes turns = absurd (omega arith)
  opens_by (suc n) k some h goes turns = (h, subst (λ m. GoesTo f g m 0 h) (let e : suc n - 1 ≡ n = omega arith in e) goes, turns)

  pub opened_turn : (steps made : ℕ) (m v : MachineOf P S H) (old new : List Mark) → 1 ≤ steps → made ≡ steps → (c : ComesTo f g (stops_at f g (steps - 1)) 0 m) → TurnGoesOn f g made c.0 v old new → IsOpened f g steps v
  opened_turn steps made m v old new some same c turns = (turns.part, opens_by steps turns.part some c.0 c.1 (subst (λ n. TurnsTo f g n c.0 turns.part) same turns.goes), turns.stands)

  pub opened_ended : (steps : ℕ) (m : MachineOf P S H) → 1 ≤ steps → m.turn.outcome ≢ Running → ComesTo f g (stops_at f g (steps - 1)) 0 m → IsOpened f g steps m
  opened_ended steps m some ended c =
      let over : (run f g c.0).turn.outcome ≢ Running = λ on. ended (sym (outcome_there m (run f g c.0) c.2) ∙ on) in (
        c.0,
        opens_by steps c.0 some c.0 c.1 (record {
          later = omega arith;
          here = rw (stops_ended steps c.0 over) refl;
          first = λ k from low. absurd (omega (arith, from, low));
        }),
        c.2,
      )

  -- ---- idle time

  -- what comes next where the machine stands
  next_there : (i : ℕ) (m : MachineOf P S H) → StandsAt f g i m → m.turn.outcome ≡ Running → (gave r : Option ℕ) → m.turn.gave ≡ gave → m.world.scheduler.running ≡ r
      → next_at f g i ≡ next_part_by gave r (is_idle (run f g i).state.control)
  next_there i m st goes gave r is_gave is_r =
      let c = run f g i in
      let same_gave : c.turn.gave ≡ gave = ap (λ (x : Turn). x.gave) st.turn ∙ is_gave in
      let same_r : c.state.control.scheduler.running ≡ r = ap (λ (x : Scheduler). x.running) st.world.control.scheduler ∙ is_r in
      next_is f g i (outcome_there m c st ∙ goes) ∙ rw (same_gave, same_r) refl

  come_by : (moment now : ℕ) (idle : Bool) → has_come_by moment now (next_part_by None None idle) ≡ not (idle && nat_lt now moment)
  come_by moment now true = grind (arith, nat_tests)
  come_by moment now false = refl

  -- whether idle time has come to a moment
  pub come_there : (moment i : ℕ) (m : MachineOf P S H) → StandsAt f g i m → IsBetweenTurns m → has_come f g moment i ≡ not (is_idle (run f g i).state.control && nat_lt m.world.kernel.now moment)
  come_there moment i m st between =
      let c = run f g i in
      let now : time_at f g i ≡ m.world.kernel.now = ap (λ (k : Kernel). k.now) st.world.control.kernel in
      ap (has_come_by moment (time_at f g i)) (next_there i m st between.goes None None between.gave between.nobody)
      ∙ come_by moment (time_at f g i) (is_idle c.state.control)
      ∙ ap (λ n. not (is_idle c.state.control && nat_lt n moment)) now

  pub come_now : (moment i : ℕ) (m : MachineOf P S H) → StandsAt f g i m → IsBetweenTurns m → (idle : Bool) (now : ℕ) → idle ≡ is_idle (run f g i).state.control → now ≡ m.world.kernel.now
      → has_come f g moment i ≡ not (idle && nat_lt now moment)
  come_now moment i m st between idle now is_idle is_now = rw (is_idle, is_now) (come_there moment i m st between)

  pub move_there : (i : ℕ) (m : MachineOf P S H) → StandsAt f g i m → IsBetweenTurns m → is_idle (run f g i).state.control ≡ true → next_at f g i ≡ Move
  move_there i m st between idle = next_there i m st between.goes None None between.gave between.nobody ∙ rw idle refl

  -- from part i on the machine moved to a part up to which the moment has not come
  pub record IsWaiting (moment i : ℕ) (m : MachineOf P S H) : Type 0 where
    pub part : ℕ
    pub later : i ≤ part
    pub stands : StandsAt f g part m
    pub first : (k : ℕ) → i ≤ k → k < part → has_come f g moment k ≡ false

  come_ended : (m i : ℕ) → (run f g i).turn.outcome ≢ Running → has_come f g m i ≡ true
  come_ended m i ended = rw (halted f g i ended) refl

  -- without a moment to move to, the next part ends the run
  pub waiting_stalled : (m i : ℕ) (v : MachineOf P S H) (any : MachineOf P S H) → (w : IsWaiting m i v) → has_come f g m w.part ≡ false → next_at f g w.part ≡ Move → moment f (run f g w.part).state ≡ None
      → (j : ℕ) × GoesUntil (has_come f g m) i j × Arrives f g j Stalled any
  waiting_stalled m i v any w on move none =
      let ends : (run f g (w.part + 1)).turn.outcome ≡ Stalled = ap (λ (c : Course P S H). c.turn.outcome) (after f g w.part Move move) ∙ stalls f (run f g w.part).turn (run f g w.part).state none in (
        w.part + 1,
        record {
          later = omega (arith, w.later);
          here = come_ended m (w.part + 1) (λ on. (let e = sym ends ∙ on in cc e));
          first = none-more (has_come f g m) i w.part w.first on;
        },
        record { outcome = ends; stands = λ on. absurd (cc on) },
      )

  -- ---- the place

  pub arrives_there : (j : ℕ) (o : Outcome) (m : MachineOf P S H) → o ≡ m.turn.outcome → StandsAt f g j m → Arrives f g j o m
  arrives_there j o m is st = record { outcome = outcome_there m (run f g j) st ∙ sym is; stands = λ on. st }

  by_kind : (p : Place) (k : Kind) (i : ℕ) → p.kind ≡ k → leads_by f g k p i → LeadsTo f g p i
  by_kind p k i is leads = subst (λ k. leads_by f g k p i) (sym is) leads

  pub led_on : (p : Place) (o : Outcome) (m v : MachineOf P S H) → p.kind ≡ kind.Open → IsOpened f g p.steps m
      → ((i : ℕ) → StandsAt f g i m → (j : ℕ) × GoesUntil (has_come f g p.now) i j × Arrives f g j o v) → IsLed f g p o v
  led_on p o m v is opened waits = (let w = waits opened.0 opened.2 in (w.0, by_kind p kind.Open w.0 is (opened.0, opened.1, w.1), w.2))

  pub led_here : (p : Place) (o : Outcome) (m : MachineOf P S H) → p.kind ≡ kind.Open → o ≡ m.turn.outcome → (o ≢ Running) ⊎ IsAtStep m → IsOpened f g p.steps m → IsLed f g p o m
  led_here p o m is outcome over opened = (k, by_kind p kind.Open k is (k, opened.1, record { later = omega arith; here = come over; first = λ n from low. absurd (omega (arith, from, low)) }), arrives_there k o m outcome opened.2)
    where
      k : ℕ
      k = opened.0

      come : (o ≢ Running) ⊎ IsAtStep m → has_come f g p.now k ≡ true
      come (inl ended) = come_ended p.now k (λ on. ended (outcome ∙ sym (outcome_there m (run f g k) opened.2) ∙ on))
      come (inr at) = by_running m.world.scheduler.running refl at.runs
        where
          by_running : (r : Option ℕ) → m.world.scheduler.running ≡ r → IsSome r → has_come f g p.now k ≡ true
          by_running None is some = absurd (cc some)
          by_running (Some t) is some = rw (next_there k m opened.2 at.goes None (Some t) at.gave is) refl

  -- ---- what can be saved

  no_close_by : (t : ℕ) (idle : Bool) → next_part_by None None idle ≢ Close t
  no_close_by t true = λ e. cc e
  no_close_by t false = λ e. cc e

  -- where a machine stands between two calls, no Close comes next
  pub savable_there : (i : ℕ) (m : MachineOf P S H) → StandsAt f g i m → IsAtStep m ⊎ IsBetweenTurns m → m.turn.steps ≤ most_steps → IsSavable f g i
  savable_there i m st rests few = record {
    goes = outcome_there m (run f g i) st ∙ goes rests;
    no_close = none rests;
    few = subst (λ n. n ≤ most_steps) (sym (ap (λ (x : Turn). x.steps) st.turn)) few;
  }
    where
      goes : IsAtStep m ⊎ IsBetweenTurns m → m.turn.outcome ≡ Running
      goes (inl at) = at.goes
      goes (inr between) = between.goes

      at_step : IsAtStep m → (t : ℕ) → (r : Option ℕ) → m.world.scheduler.running ≡ r → IsSome r → next_at f g i ≢ Close t
      at_step at t None is some = absurd (cc some)
      at_step at t (Some u) is some = λ e. (let h = sym (next_there i m st at.goes None (Some u) at.gave is) ∙ e in cc h)

      none : IsAtStep m ⊎ IsBetweenTurns m → (t : ℕ) → next_at f g i ≢ Close t
      none (inl at) t = at_step at t m.world.scheduler.running refl at.runs
      none (inr between) t = λ e. no_close_by t (is_idle (run f g i).state.control) (sym (next_there i m st between.goes None None between.gave between.nobody) ∙ e)
