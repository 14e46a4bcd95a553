-- The parts of a run: between two of them the account of the marks fits the state.
use Rattle.std.proofs.Common.{◌≡◌, ◌≢◌, ◌≤◌, ◌<◌, ℕ, zero, suc, ◌+◌, ◌==◌, ◌&&◌, not, min, nat_le, nat_lt, Bool, true, false, if◌then◌else◌, ℤ, pos, ◌+ℤ◌, List, [], ◌∷◌, reverse, All, Option, Some, None, is_none, is_some, option_map, ◌⊎◌, inl, inr, refl, sym, ◌∙◌, ap, subst, arith}
use Rattle.std.proofs.lemmas.Bool.{true≢false, and_parts}
use Rattle.std.proofs.lemmas.Bool.Decides.{nat_tests}
use Rattle.std.proofs.lemmas.List.Elements.{All-nil, All-cons, All-head, All-tail, All-filter}
use Rattle.std.proofs.lemmas.List.Sorted.{IsPermutation-reverse, All-permutation}
use Rattle.std.proofs.lemmas.Option.{none-some, same_Some}
use Rattle.pth_base.specs.Limits.{last_moment, last_count}
use Rattle.pth_base.specs.Chain.{StandsIn, Distinct}
use Rattle.pth_base.specs.Program.{Functions}
use Rattle.pth_base.specs.Table.{put}
use Rattle.pth_base.specs.declared.mark.Mark.{Mark}
use Rattle.pth_base.specs.declared.mark.Mark.TheVariants as mark
use Rattle.pth_base.specs.declared.outcome.Outcome.TheVariants as outcome
use Rattle.pth_base.specs.declared.thread.ThreadState.TheVariants as state
use Rattle.pth_base.proofs.Tables.{same_self, same_means, same_fails, put_here, put_other, put_by}
use Rattle.pth_kernel.specs.Kernel.{Kernel}
use Rattle.pth_kernel.specs.Moments.{least_after, least_by}
use Rattle.pth_queue.specs.declared.queue.Queue.TheVariants.{New, Ready, Waiting}
use Rattle.pth_queue.specs.Ranking.{place_in}
use Rattle.pth_threads.specs.declared.entry.Change.TheVariants as change
use Rattle.pth_model.specs.declared.blocked.Blocked.{Blocked}
use Rattle.pth_base.specs.declared.answer.Answer.{Answer}
use Rattle.pth_model.specs.declared.progress.Progress.{Progress}
use Rattle.pth_model.specs.declared.next.Next.{Next}
use Rattle.pth_model.specs.declared.next.Next.TheVariants as next
use Rattle.pth_model.specs.Allowance.{standing_of, waited, allowed, number_by}
use Rattle.pth_model.specs.Changes.{blocked_in, owing, sets, enters, leaves_queue, goes_on, trails, prefers, raises_ready, or_nobody, entry_of, prio_of, blocked_of, holders, moves_to}
use Rattle.pth_model.specs.Course.{Course}
use Rattle.pth_model.specs.Part.{rank_by, readies, readies_all, readies_new, runs, trail_with, dispatches, takes, takes_by, chosen, owes_after, steps, steps_on, turn_after, ends_run, is_put_back, is_put_waiting, placed_by, is_placed, turn_ends, closes, moves_by}
use Rattle.pth_model.specs.Living.{is_made}
use Rattle.pth_model.specs.Pass.{pass, looks, waiting, is_to_wake, to_wake, woken, all_woken, is_ready_at, moment}
use Rattle.pth_model.specs.Standing.{Standing, raises_of}
use Rattle.pth_model.specs.State.{State, Control, Turn, queue, now_of, clock_of, main}
use Rattle.pth_model.specs.Transition.{controlled, tells, tid}
use Rattle.pth_model.proofs.Once.{shown-all}
use Rattle.pth_model.proofs.Walks.{step_keeps}
use Rattle.pth_turns.specs.Turns.{Account, is_thread, is_up, has_turn}
use Rattle.pth_turns.proofs.Accounts.{Leads, leads_nowhere, leads_one, leads_then}
use Rattle.pth_turns.proofs.Steps.{IsLeft, AreUp, steps_on_step, and_both, up_made}
use Rattle.pth_laws.proofs.Along.{standers}
use Rattle.pth_laws.proofs.Living.{made_more}
use Rattle.pth_turns.proofs.Waiting.{all_standing, shown_once, filtered_once, head_out, Waits, Waiters, waiters_put, ToRun, Stands, Named, HasState, Places, places_so, places_ready, places_run, places_waiting, places_put_back, other_state, ready_other, RunsOrNone, Steady, steady_by_calls}

-- who is woken waits, and is up
abbrev pub HasWaited : Account → ℕ → Type 0
HasWaited a v = (a.waiting v ≡ true) × (is_up a v ≡ true)

abbrev pub DoesWait : Account → ℕ → Type 0
DoesWait a v = a.waiting v ≡ true

abbrev pub WaitsNot : Account → ℕ → Type 0
WaitsNot a v = a.waiting v ≡ false

-- how a call blocks t, and whether it waits
abbrev pub IsBlockedSo : {P S H : Type 0} → Account → ℕ → Control P S H → Type 0
IsBlockedSo a t k = ((blocked_of k t ≡ None) × WaitsNot a t) ⊎ ((is_some (blocked_of k t) ≡ true) × DoesWait a t)

-- the account of the marks that led to a state in a turn, while the run goes on
pub record Fits {P S H : Type 0} (a : Account) (s : State P S H) (x : Turn) : Type 0 where
  pub turn : a.turn ≡ x.turns
  pub moment : a.moment ≤ now_of s.control
  pub early : now_of s.control ≤ last_moment
  pub canceled : a.canceled ≡ None
  pub made : a.made ≡ s.control.threads.made
  pub nobody : a.ended 0 ≡ false
  -- whose turn it is, until it gives up control
  pub running : x.gave ≡ None → a.running ≡ s.control.scheduler.running
  pub over : (t : ℕ) → x.gave ≡ Some t → a.running ≡ None
  -- who gave up control runs until its turn is closed, if it has not ended, and waits if a call blocks it
  pub gave : (t : ℕ) → x.gave ≡ Some t → RunsOrNone t s.control.scheduler.running
  pub blocked : (t : ℕ) → x.gave ≡ Some t → s.control.scheduler.running ≡ Some t → is_some (s.control.threads.progress t) ≡ true → IsBlockedSo a t s.control
  -- who runs does not wait, and stands nowhere
  pub free : (t : ℕ) → x.gave ≡ None → s.control.scheduler.running ≡ Some t → WaitsNot a t
  pub aside : (t : ℕ) → s.control.scheduler.running ≡ Some t → (v : ℕ) → Waits s.control v ⊎ ToRun s.control v → v ≢ t
  -- who waits, and who waits to run
  pub places : Places (DoesWait a) (WaitsNot a) s.control
  pub of_made : (v : ℕ) → DoesWait a v → is_made a.made v ≡ true

-- a part leads from one account to another, which fits while the run goes on
pub record Leaves {P S H : Type 0} (a : Account) (c : Course P S H) : Type 0 where
  pub to : Account
  pub leads : Leads a c.marks to
  pub fits : c.turn.outcome ≡ outcome.Running → Fits to c.state c.turn

le_nat : (m n : ℕ) → m ≤ n → nat_le m n ≡ true
le_nat m n h = grind (arith, nat_tests)

lt_nat : (m n : ℕ) → m < n → nat_lt m n ≡ true
lt_nat m n h = grind (arith, nat_tests)

-- ---- moments

-- a moment to which time moves is later, and no later than the last
later_by : (now m : ℕ) (b : Bool) (o : Option ℕ) → (nat_lt now m && nat_le m last_moment) ≡ b → ((n : ℕ) → o ≡ Some n → (now < n) × (n ≤ last_moment)) → (k : ℕ) → (if b then least_by m o else o) ≡ Some k → (now < k) × (k ≤ last_moment)
later_by now m false o same rest k h = rest k h
later_by now m true None same rest k h =
    let both = and_parts (nat_lt now m) (nat_le m last_moment) same in
    subst (λ i. (now < i) × (i ≤ last_moment)) (same_Some m k h) (grind (arith, nat_tests), grind (arith, nat_tests))
later_by now m true (Some n) same rest k h =
    let both = and_parts (nat_lt now m) (nat_le m last_moment) same in
    let r = rest n refl in
    subst (λ i. (now < i) × (i ≤ last_moment)) (same_Some (min m n) k h) (grind (arith, nat_tests), grind (arith, nat_tests))

later : (now : ℕ) (ms : List ℕ) (m : ℕ) → least_after now ms ≡ Some m → (now < m) × (m ≤ last_moment)
later now [] m h = absurd (none-some m h)
later now (x ∷ ms) m h = later_by now x (nat_lt now x && nat_le x last_moment) (least_after now ms) refl (later now ms) m h

still_early : (now clock : ℕ) → now ≤ last_moment → (now ≤ min (now + clock) last_moment) × (min (now + clock) last_moment ≤ last_moment)
still_early now clock h = (grind arith, grind arith)

ended_turns : (v : ℤ) (b : Bool) (x : Turn) → (ends_run v b x).turns ≡ x.turns
ended_turns v true x = refl
ended_turns v false x = refl

-- as before but for who waits: nobody more does
record Fewer (a b : Account) : Type 0 where
  turn : b.turn ≡ a.turn
  moment : b.moment ≡ a.moment
  running : b.running ≡ a.running
  canceled : b.canceled ≡ a.canceled
  made : b.made ≡ a.made
  ended : b.ended ≡ a.ended
  waiting : (v : ℕ) → DoesWait b v → DoesWait a v

-- those of a list that are not t
all_apart : (a : Account) (t : ℕ) (ts : List ℕ) → ((v : ℕ) → StandsIn v ts → v ≢ t) → All (HasWaited a) ts → All (HasWaited (record a { waiting = put a.waiting t false })) ts
all_apart a t [] apart all = All-nil (HasWaited (record a { waiting = put a.waiting t false }))
all_apart a t (u ∷ ts) apart all =
    let own = All-head (HasWaited a) u ts all in
    All-cons (HasWaited (record a { waiting = put a.waiting t false })) u ts (put_other a.waiting t false u (apart u (inl refl)) ∙ own.0, own.1) (all_apart a t ts (λ v h. apart v (inr h)) (All-tail (HasWaited a) u ts all))

-- what of an account is left by a step of t, whatever comes next
record Changed (t : ℕ) (a b : Account) : Type 0 where
  others : (v : ℕ) → v ≢ t → b.waiting v ≡ a.waiting v
  own : is_made a.made t ≡ true

changed_same : (t : ℕ) (a b : Account) → is_made a.made t ≡ true → b.waiting ≡ a.waiting → Changed t a b
changed_same t a b there same = record { others = λ v apart. ap (λ (w : ℕ → Bool). w v) same; own = there }

changed_put : (t : ℕ) (a b : Account) → is_made a.made t ≡ true → b.waiting ≡ put a.waiting t true → Changed t a b
changed_put t a b there same = record { others = λ v apart. ap (λ (w : ℕ → Bool). w v) same ∙ put_other a.waiting t true v apart; own = there }

module _ {P S H : Type 0} where
  -- ---- a pass

  -- what is not told: how many threads were made, the moment, and who runs
  record SameAs (j k : Control P S H) : Type 0 where
    made : k.threads.made ≡ j.threads.made
    now : k.kernel.now ≡ j.kernel.now
    running : k.scheduler.running ≡ j.scheduler.running

  same_then : (i j k : Control P S H) → SameAs i j → SameAs j k → SameAs i k
  same_then i j k x y = record { made = y.made ∙ x.made; now = y.now ∙ x.now; running = y.running ∙ x.running }

  same_ready : (t : ℕ) (rank : ℤ) (top : Bool) (k : Control P S H) → SameAs k (is_ready_at t rank top k)
  unfolding is_ready_at sets leaves_queue enters
  same_ready t rank top k = record { made = refl; now = refl; running = refl }

  record Passes (a : Account) (j : Control P S H) (marks : List Mark) (k : Control P S H) : Type 0 where
    to : Account
    leads : Leads a marks to
    fewer : Fewer a to
    same : SameAs j k
    places : Places (DoesWait to) (WaitsNot to) k

  woken_passes : (ts : List ℕ) (a : Account) (s : State P S H) → a.running ≡ None → All (HasWaited a) ts → Distinct ts → Places (DoesWait a) (WaitsNot a) s.control → let x = all_woken ts s in Passes a s.control x.marks x.state.control
  unfolding all_woken woken
  woken_passes [] a s rests all once places = record { to = a; leads = leads_nowhere a; fewer = record { turn = refl; moment = refl; running = refl; canceled = refl; made = refl; ended = refl; waiting = λ v h. h }; same = record { made = refl; now = refl; running = refl }; places = places }
  woken_passes (t ∷ ts) a s rests all once places =
      let rank = prio_of s.control t +ℤ pos 1 in
      let m = mark.Woke (tid t) rank in
      let b : Account = record a { waiting = put a.waiting t false } in
      let u = (woken t s).state in
      let own = All-head (HasWaited a) t ts all in
      let here = places_ready (DoesWait a) (WaitsNot a) (DoesWait b) (WaitsNot b) t rank false s.control (put_here a.waiting t false) (λ v apart w. put_other a.waiting t false v apart ∙ w) (λ v apart w. put_other a.waiting t false v apart ∙ w) places in
      let rest = woken_passes ts b u rests (all_apart a t ts once.0 (All-tail (HasWaited a) t ts all)) once.1 here in
      let f = rest.fewer in
      record {
        to = rest.to;
        leads = leads_then a (m ∷ []) (all_woken ts u).marks b rest.to (leads_one a m (and_both _ (is_up a t) (and_both (is_none a.running) (a.waiting t) (ap is_none rests) own.0) own.1)) rest.leads;
        fewer = record { turn = f.turn; moment = f.moment; running = f.running; canceled = f.canceled; made = f.made; ended = f.ended; waiting = λ v h. was a t v (f.waiting v h) };
        same = same_then s.control (is_ready_at t rank false s.control) (all_woken ts u).state.control (same_ready t rank false s.control) rest.same;
        places = rest.places;
      }
    where
      was : (a : Account) (t v : ℕ) → put a.waiting t false v ≡ true → a.waiting v ≡ true
      was a t v h = put_by (λ b. b ≡ true → a.waiting v ≡ true) a.waiting t false v (λ here odd. absurd (true≢false (sym odd))) (λ other is. is) h

  pass_passes : (f : P → Functions S H) (a : Account) (s : State P S H) → a.running ≡ None → Waiters (HasWaited a) s.control → Places (DoesWait a) (WaitsNot a) s.control → let x = pass f s in Passes a s.control x.marks x.state.control
  unfolding pass looks to_wake
  pass_passes f a s rests have places =
      let u = controlled (looks f s) s in
      let raises = raises_of s.control.threads.raises Waiting in
      let standing = s.control.threads.standing Waiting in
      let all : All (HasWaited a) (waiting s.control) = shown-all (HasWaited a) raises standing (all_standing (HasWaited a) standing (λ v stands. have v (inl stands))) in
      let once : Distinct (waiting s.control) = shown_once raises standing places.once in
      let x = woken_passes (to_wake f s) a u rests (All-filter (is_to_wake f s) (HasWaited a) (waiting s.control) all) (filtered_once (is_to_wake f s) (waiting s.control) once) (places_so (DoesWait a) (WaitsNot a) s.control u.control refl refl places) in
      record { to = x.to; leads = x.leads; fewer = x.fewer; same = record { made = x.same.made; now = x.same.now; running = x.same.running }; places = x.places }

  -- after a pass, with nobody's turn
  passed_fits : (a b : Account) (j : Control P S H) (u : State P S H) (x : Turn) → Fewer a b → SameAs j u.control → Places (DoesWait b) (WaitsNot b) u.control → x.gave ≡ None → a.running ≡ None → j.scheduler.running ≡ None → a.turn ≡ x.turns → a.moment ≤ now_of j → now_of j ≤ last_moment → a.canceled ≡ None → a.made ≡ j.threads.made → a.ended 0 ≡ false → ((v : ℕ) → DoesWait a v → is_made a.made v ≡ true) → Fits b u x
  passed_fits a b j u x fewer same places none stopped rests turn moment early canceled made nobody of_made = record {
    turn = fewer.turn ∙ turn;
    moment = rw (fewer.moment, same.now) moment;
    early = rw same.now early;
    canceled = fewer.canceled ∙ canceled;
    made = fewer.made ∙ (made ∙ sym same.made);
    nobody = ap (λ (e : ℕ → Bool). e 0) fewer.ended ∙ nobody;
    running = λ g. fewer.running ∙ stopped ∙ sym (same.running ∙ rests);
    over = λ t g. absurd (none-some t (sym none ∙ g));
    gave = λ t g. absurd (none-some t (sym none ∙ g));
    blocked = λ t g. absurd (none-some t (sym none ∙ g));
    free = λ t g runs. absurd (none-some t (sym (same.running ∙ rests) ∙ runs));
    aside = λ t runs. absurd (none-some t (sym (same.running ∙ rests) ∙ runs));
    places = places;
    of_made = λ v w. ap (λ n. is_made n v) fewer.made ∙ of_made v (fewer.waiting v w);
  }

  -- ---- time moves

  pub ahead : (f : P → Functions S H) (s : State P S H) (m : ℕ) → moment f s ≡ Some m → (now_of s.control < m) × (m ≤ last_moment)
  ahead f s m h = later (now_of s.control) _ m h

  pub moved_leaves : (f : P → Functions S H) (x : Turn) (o : Option ℕ) (a : Account) (s : State P S H) → ((m : ℕ) → o ≡ Some m → (now_of s.control < m) × (m ≤ last_moment)) → x.gave ≡ None → s.control.scheduler.running ≡ None → Waiters (HasWaited a) s.control → Fits a s x → Leaves a (moves_by f x o s)
  moved_leaves f x None a s ahead none rests have h = record { to = a; leads = leads_nowhere a; fits = λ on. absurd (cc on) }
  moved_leaves f x (Some m) a s ahead none rests have h =
      let later = ahead m refl in
      let k = mark.Moved m in
      let b : Account = record a { moment = m } in
      let u = (tells k (controlled (moves_to m) s)).state in
      let stopped = h.running none ∙ rests in
      let p = pass_passes f b u stopped (λ v w. have v w) (places_so (DoesWait a) (WaitsNot a) s.control u.control refl refl h.places) in
      record {
        to = p.to;
        leads = leads_then a (k ∷ []) (pass f u).marks b p.to (leads_one a k (and_both (is_none a.running) (nat_lt a.moment m) (ap is_none stopped) (lt_nat a.moment m (before a.moment (now_of s.control) m h.moment later.0)))) p.leads;
        fits = λ on. passed_fits b p.to u.control (pass f u).state x p.fewer p.same p.places none stopped rests h.turn (omega arith) later.1 h.canceled h.made h.nobody h.of_made;
      }
    where
      before : (i j n : ℕ) → i ≤ j → j < n → i < n
      before i j n x y = omega (arith, x, y)

  -- ---- a dispatch

  readies_pass : (W R : ℕ → Type 0) (ts : List ℕ) (k : Control P S H) → All R ts → Places W R k → Places W R (readies_all ts k) × SameAs k (readies_all ts k)
  unfolding readies_all readies
  readies_pass W R [] k all h = (h, record { made = refl; now = refl; running = refl })
  readies_pass W R (t ∷ ts) k all h =
      let rest = readies_pass W R ts (readies t k) (All-tail R t ts all) (places_ready W R W R t _ _ k (All-head R t ts all) (λ v apart w. w) (λ v apart r. r) h) in
      (rest.0, same_then k (readies t k) (readies_all ts (readies t k)) (same_ready t _ _ k) rest.1)

  new_pass : (W R : ℕ → Type 0) (k : Control P S H) → Places W R k → Places W R (readies_new k) × SameAs k (readies_new k)
  new_pass W R k h =
      let new = holders (queue k New) in
      let all : All R new = shown-all R (raises_of k.threads.raises New) (k.threads.standing New) (all_standing R (k.threads.standing New) (λ v stands. h.runners v (Stands New (inl refl) stands))) in
      readies_pass W R (reverse new) k (All-permutation R new (reverse new) (IsPermutation-reverse new) all) h

  -- nobody's turn: no thread runs, or gave up control
  pub record Rests (a : Account) (x : Turn) (k : Control P S H) : Type 0 where
    pub none : x.gave ≡ None
    pub rests : k.scheduler.running ≡ None
    pub stopped : a.running ≡ None

  -- whom a dispatch takes waits to run
  chosen_runs : (k : Control P S H) (named : Option ℕ) (t : ℕ) → k.scheduler.preferred ≡ named → chosen named (queue k Ready) ≡ Some t → ToRun k t
  chosen_runs k (Some u) t same is = Named (same ∙ is)
  chosen_runs k None t same is = Stands Ready (inr refl) (head_out t (raises_of k.threads.raises Ready) (k.threads.standing Ready) is)

  taken_leaves : (x : Turn) (o : Option ℕ) (a : Account) (s : State P S H) → ((t : ℕ) → o ≡ Some t → is_up a t ≡ true) → ((t : ℕ) → o ≡ Some t → ToRun s.control t) → Rests a x s.control → Fits a s x → Leaves a (takes_by x o s)
  unfolding dispatches runs trails sets leaves_queue
  taken_leaves x None a s up to_run r h = record { to = a; leads = leads_nowhere a; fits = λ on. h }
  taken_leaves x (Some t) a s up to_run r h = record {
    to = b;
    leads = leads_one a m (and_both _ (not (a.waiting t)) (and_both _ (is_up a t) (and_both _ (nat_le a.moment (now_of s.control)) (and_both (is_none a.running) _ (ap is_none r.stopped) (ap (λ n. x.turns + 1 == n + 1) h.turn ∙ same_self (x.turns + 1))) (le_nat a.moment (now_of s.control) h.moment)) (up t refl)) (ap not own));
    fits = λ on. record {
      turn = refl;
      moment = omega arith;
      early = h.early;
      canceled = h.canceled;
      made = h.made;
      nobody = h.nobody;
      running = λ g. refl;
      over = λ u g. absurd (none-some u (sym r.none ∙ g));
      gave = λ u g. absurd (none-some u (sym r.none ∙ g));
      blocked = λ u g. absurd (none-some u (sym r.none ∙ g));
      free = λ u g run. subst (WaitsNot a) (same_Some t u run) own;
      aside = λ u run v it. subst (λ i. v ≢ i) (same_Some t u run) (elim it [ inl waits ↦ (places.waiters v waits).0 | inr runs ↦ (places.runners v runs).0 ]);
      places = record { waiters = λ v w. (places.waiters v w).1; runners = λ v w. (places.runners v w).1; once = places.once };
      of_made = h.of_made;
    };
  }
    where
      own : a.waiting t ≡ false
      own = h.places.runners t (to_run t refl)

      k : Control P S H
      k = prefers None (trails (trail_with t s.control) s.control)

      count : ℕ
      count = min ((or_nobody (entry_of (trails (trail_with t s.control) s.control) t)).dispatches + 1) last_count

      place : Option Standing
      place = standing_of t (s.control.threads.standing Ready)

      m : Mark
      m = mark.Dispatch (x.turns + 1) (now_of s.control) (tid t) (rank_by (place_in t (queue s.control Ready))) (number_by (waited (trail_with t s.control)) place) (number_by (allowed s.control.top (trail_with t s.control)) place)

      b : Account
      b = record a { turn = x.turns + 1; moment = now_of s.control; running = Some t }

      V : ℕ → Type 0
      V v = (v ≢ t) × DoesWait a v

      Q : ℕ → Type 0
      Q v = (v ≢ t) × WaitsNot a v

      unnamed : (v : ℕ) → ToRun k v → WaitsNot a v
      unnamed v (Stands q of stands) = h.places.runners v (Stands q of stands)
      unnamed v (Named is) = absurd (none-some v is)
      unnamed v (HasState at) = h.places.runners v (HasState at)

      taken : Places V Q (sets t (change.Dispatches count) (sets t (change.State state.Running) (leaves_queue t k)))
      taken = places_run (DoesWait a) (WaitsNot a) V Q t count k (λ v apart w. (apart, w)) (λ v apart w. (apart, w)) refl (record { waiters = λ v w. h.places.waiters v w; runners = unnamed; once = h.places.once })

      places : Places V Q (takes_by x (Some t) s).state.control
      places = places_so V Q (sets t (change.Dispatches count) (sets t (change.State state.Running) (leaves_queue t k))) (takes_by x (Some t) s).state.control refl refl taken

  taken_made : (x : Turn) (o : Option ℕ) (s : State P S H) → (takes_by x o s).state.control.threads.made ≡ s.control.threads.made
  unfolding dispatches runs trails sets leaves_queue
  taken_made x None s = refl
  taken_made x (Some t) s = refl

  pub take_leaves : (x : Turn) (a : Account) (s : State P S H) → ((t : ℕ) → (takes x s).state.control.scheduler.running ≡ Some t → is_up a t ≡ true) → Rests a x s.control → Fits a s x → Leaves a (takes x s)
  unfolding takes dispatches runs
  take_leaves x a s up r h =
      let u = controlled readies_new s in
      let o = chosen u.control.scheduler.preferred (queue u.control Ready) in
      let p = new_pass (DoesWait a) (WaitsNot a) s.control h.places in
      taken_leaves x o a u (λ t is. up t (ap (λ q. (takes_by x q u).state.control.scheduler.running) is)) (λ t is. chosen_runs u.control u.control.scheduler.preferred t refl is)
      (record { none = r.none; rests = p.1.running ∙ r.rests; stopped = r.stopped })
      (record {
        turn = h.turn;
        moment = rw p.1.now h.moment;
        early = rw p.1.now h.early;
        canceled = h.canceled;
        made = h.made ∙ sym p.1.made;
        nobody = h.nobody;
        running = λ g. r.stopped ∙ sym (p.1.running ∙ r.rests);
        over = h.over;
        gave = λ t g. absurd (none-some t (sym r.none ∙ g));
        blocked = λ t g. absurd (none-some t (sym r.none ∙ g));
        free = λ t g runs. absurd (none-some t (sym (p.1.running ∙ r.rests) ∙ runs));
        aside = λ t runs. absurd (none-some t (sym (p.1.running ∙ r.rests) ∙ runs));
        places = p.0;
        of_made = h.of_made;
      })

  pub takes_outcome : (x : Turn) (s : State P S H) → (takes x s).turn.outcome ≡ x.outcome
  unfolding takes
  takes_outcome x s = by_chosen (chosen (controlled readies_new s).control.scheduler.preferred (queue (controlled readies_new s).control Ready))
    where
      by_chosen : (o : Option ℕ) → (takes_by x o (controlled readies_new s)).turn.outcome ≡ x.outcome
      by_chosen None = refl
      by_chosen (Some t) = refl

  new_made : (k : Control P S H) → (readies_new k).threads.made ≡ k.threads.made
  unfolding readies_all readies
  new_made k = all_made (reverse (holders (queue k New))) k
    where
      all_made : (ts : List ℕ) (k : Control P S H) → (readies_all ts k).threads.made ≡ k.threads.made
      all_made [] k = refl
      all_made (t ∷ ts) k = all_made ts (readies t k) ∙ (same_ready t _ _ k).made

  pub takes_made : (x : Turn) (s : State P S H) → (takes x s).state.control.threads.made ≡ s.control.threads.made
  unfolding takes
  takes_made x s =
      let u = controlled readies_new s in
      taken_made x (chosen u.control.scheduler.preferred (queue u.control Ready)) u ∙ new_made s.control

  -- ---- a turn is closed

  placed_waiters : (W : ℕ → Type 0) (t : ℕ) (r : Option ℕ) (b : Option Blocked) (k : Control P S H) → ((u : ℕ) (d : Blocked) → r ≡ Some u → b ≡ Some d → W t) → Waiters W k → Waiters W (placed_by t r b k)
  unfolding is_put_back is_put_waiting
  placed_waiters W t None b k own h = h
  placed_waiters W t (Some u) (Some d) k own h = waiters_put W t state.Waiting Waiting (prio_of k t) false k (λ in_queue. own u d refl refl) (λ at. own u d refl refl) h
  placed_waiters W t (Some u) None k own h = waiters_put W t state.Ready Ready (prio_of k t) false k (λ odd. absurd (true≢false (sym odd))) (λ at. absurd (other_state state.Ready (k.threads.known t) ready_other at)) h

  placed_places : (W R : ℕ → Type 0) (t : ℕ) (r : Option ℕ) (b : Option Blocked) (k : Control P S H) → ((u : ℕ) (d : Blocked) → r ≡ Some u → b ≡ Some d → W t) → ((u : ℕ) → r ≡ Some u → b ≡ None → R t) → ((u : ℕ) → r ≡ Some u → StandsIn t (standers (k.threads.standing Waiting)) → ⊥) → Places W R k → Places W R (placed_by t r b k)
  unfolding is_put_back is_put_waiting
  placed_places W R t None b k waits runs out h = h
  placed_places W R t (Some u) (Some d) k waits runs out h = places_waiting W R t (prio_of k t) k (waits u d refl refl) (out u refl) h
  placed_places W R t (Some u) None k waits runs out h = places_put_back W R t (prio_of k t) k (runs u refl refl) h

  placed_same : (t : ℕ) (r : Option ℕ) (b : Option Blocked) (k : Control P S H) → ((placed_by t r b k).threads.made ≡ k.threads.made) × ((placed_by t r b k).kernel ≡ k.kernel)
  unfolding is_put_back is_put_waiting sets enters
  placed_same t None b k = (refl, refl)
  placed_same t (Some u) (Some d) k = (refl, refl)
  placed_same t (Some u) None k = (refl, refl)

  pub close_leaves : (f : P → Functions S H) (x : Turn) (t : ℕ) (a : Account) (s : State P S H) → x.gave ≡ Some t → (s.control.scheduler.running ≡ Some t → (is_up a t ≡ true) × (is_some (s.control.threads.progress t) ≡ true)) → Waiters (HasWaited a) s.control → Fits a s x → Leaves a (closes f x t s)
  unfolding closes is_placed raises_ready
  close_leaves f x t a s gave up have h = record {
    to = p.to;
    leads = p.leads;
    fits = λ on. passed_fits a p.to (turn_ends t s.control) (pass f (controlled (turn_ends t) s)).state (record x { gave = None }) p.fewer p.same p.places refl (h.over t gave) refl h.turn
        (later_than (now_of s.control) (clock_of s.control) _ (ap (λ (n : Kernel). min (n.now + n.clock) last_moment) same.1) h.moment h.early)
        (within (now_of s.control) (clock_of s.control) _ (ap (λ (n : Kernel). min (n.now + n.clock) last_moment) same.1) h.early)
        h.canceled (h.made ∙ sym same.0) h.nobody h.of_made;
  }
    where
      r : Option ℕ
      r = s.control.scheduler.running

      b : Option Blocked
      b = blocked_of s.control t

      k : Control P S H
      k = raises_ready s.control

      same : ((placed_by t r b k).threads.made ≡ k.threads.made) × ((placed_by t r b k).kernel ≡ k.kernel)
      same = placed_same t r b k

      runs_still : (u : ℕ) → r ≡ Some u → RunsOrNone t r → r ≡ Some t
      runs_still u is (inl here) = here
      runs_still u is (inr none) = absurd (none-some u (sym none ∙ is))

      so : (u : ℕ) → r ≡ Some u → IsBlockedSo a t s.control
      so u is = let it = runs_still u is (h.gave t gave) in h.blocked t gave it (up it).1

      waits_by : (d : Blocked) → b ≡ Some d → IsBlockedSo a t s.control → DoesWait a t
      waits_by d is (inl unblocked) = absurd (none-some d (sym unblocked.0 ∙ is))
      waits_by d is (inr it) = it.1

      runs_by : b ≡ None → IsBlockedSo a t s.control → WaitsNot a t
      runs_by is (inl it) = it.1
      runs_by is (inr it) = absurd (true≢false (sym it.0 ∙ ap is_some is))

      own : (u : ℕ) (d : Blocked) → r ≡ Some u → b ≡ Some d → HasWaited a t
      own u d is blocks = (waits_by d blocks (so u is), (up (runs_still u is (h.gave t gave))).0)

      out : (u : ℕ) → r ≡ Some u → StandsIn t (standers (k.threads.standing Waiting)) → ⊥
      out u is stands = h.aside t (runs_still u is (h.gave t gave)) t (inl (inl stands)) refl

      waiters : Waiters (HasWaited a) (placed_by t r b k)
      waiters = placed_waiters (HasWaited a) t r b k own (λ v w. have v w)

      raised : Places (DoesWait a) (WaitsNot a) k
      raised = record { waiters = λ v w. h.places.waiters v w; runners = λ v w. runs_raised v w; once = h.places.once }
        where
          runs_raised : (v : ℕ) → ToRun k v → WaitsNot a v
          runs_raised v (Stands q of stands) = h.places.runners v (Stands q of stands)
          runs_raised v (Named is) = h.places.runners v (Named is)
          runs_raised v (HasState at) = h.places.runners v (HasState at)

      placed : Places (DoesWait a) (WaitsNot a) (placed_by t r b k)
      placed = placed_places (DoesWait a) (WaitsNot a) t r b k (λ u d is blocks. (own u d is blocks).0) (λ u is unblocked. runs_by unblocked (so u is)) out raised

      p : Passes a (turn_ends t s.control) (pass f (controlled (turn_ends t) s)).marks (pass f (controlled (turn_ends t) s)).state.control
      p = pass_passes f a (controlled (turn_ends t) s) (h.over t gave) (λ v w. waiters v w) (places_so (DoesWait a) (WaitsNot a) (placed_by t r b k) (turn_ends t s.control) refl refl placed)

      later_than : (now clock n : ℕ) → n ≡ min (now + clock) last_moment → a.moment ≤ now → now ≤ last_moment → a.moment ≤ n
      later_than now clock n is before early = let l = still_early now clock early in omega (arith, is, before, l.0)

      within : (now clock n : ℕ) → n ≡ min (now + clock) last_moment → now ≤ last_moment → n ≤ last_moment
      within now clock n is early = let l = still_early now clock early in omega (arith, is, l.1)

  -- ---- a step

  owed_blocked : (t : ℕ) (x : Answer) (k : Control P S H) → blocked_of (goes_on t (owing x) k) t ≡ blocked_of k t
  unfolding goes_on
  owed_blocked t x k = ap blocked_in (put_here k.threads.progress t (option_map (owing x) (k.threads.progress t))) ∙ by_progress (k.threads.progress t)
    where
      by_progress : (p : Option (Progress S)) → blocked_in (option_map (owing x) p) ≡ blocked_in p
      by_progress None = refl
      by_progress (Some p) = refl

  -- what a step keeps, while t runs
  abbrev KeptPlaces : ℕ → Account → (now n : ℕ) → Control P S H → Type 0
  KeptPlaces t a now n = Steady (λ v. (v ≢ t) × DoesWait a v) (λ v. (v ≢ t) × WaitsNot a v) t now n

  left_places : (t now : ℕ) (a b : Account) (k : Control P S H) → Changed t a b → KeptPlaces t a now a.made k → Places (DoesWait b) (WaitsNot b) k
  left_places t now a b k c z = record { waiters = λ v w. let it = z.places.waiters v w in c.others v it.0 ∙ it.1; runners = λ v w. let it = z.places.runners v w in c.others v it.0 ∙ it.1; once = z.places.once }

  left_aside : (t now : ℕ) (a : Account) (k : Control P S H) → KeptPlaces t a now a.made k → (u : ℕ) → k.scheduler.running ≡ Some u → (v : ℕ) → Waits k v ⊎ ToRun k v → v ≢ u
  left_aside t now a k z u runs v it = subst (λ i. v ≢ i) (by_runs z.running) (by_place it)
    where
      by_runs : RunsOrNone t k.scheduler.running → t ≡ u
      by_runs (inl is) = same_Some t u (sym is ∙ runs)
      by_runs (inr none) = absurd (none-some u (sym none ∙ runs))

      by_place : Waits k v ⊎ ToRun k v → v ≢ t
      by_place (inl waits) = (z.places.waiters v waits).0
      by_place (inr to_run) = (z.places.runners v to_run).0

  left_made : (t now : ℕ) (a b : Account) (k : Control P S H) → Changed t a b → b.made ≡ k.threads.made → ((v : ℕ) → DoesWait a v → is_made a.made v ≡ true) → KeptPlaces t a now a.made k → (v : ℕ) → DoesWait b v → is_made b.made v ≡ true
  left_made t now a b k c made of_made z v w = ap (λ n. is_made n v) made ∙ made_more a.made k.threads.made v z.grown (by_thread (v == t) refl)
    where
      by_thread : (e : Bool) → (v == t) ≡ e → is_made a.made v ≡ true
      by_thread true same = ap (is_made a.made) (same_means v t same) ∙ c.own
      by_thread false apart = of_made v (sym (c.others v (same_fails v t apart)) ∙ w)

  -- what a step leaves fits, by what comes next
  left_fits : (x : Turn) (t now : ℕ) (n : Next) (a b : Account) (u : State P S H) → x.gave ≡ None → a.turn ≡ x.turns → a.moment ≤ now → now ≤ last_moment → a.ended 0 ≡ false → is_made a.made t ≡ true → WaitsNot a t → ((v : ℕ) → DoesWait a v → is_made a.made v ≡ true) → ((y : Answer) → n ≡ next.Done y → u.control.scheduler.running ≡ Some t) → IsLeft t a n b u → KeptPlaces t a now a.made (owes_after t n u.control) → (turn_after t n x).outcome ≡ outcome.Running → Fits b (controlled (owes_after t n) u) (turn_after t n x)
  unfolding goes_on
  left_fits x t now (next.Done y) a b u none turn moment early nobody there free of_made goes l z on =
      let c = changed_same t a b there l.1 in
      record {
        turn = l.0.turn ∙ turn;
        moment = rw (l.0.moment, z.moment) moment;
        early = rw z.moment early;
        canceled = l.0.canceled;
        made = l.0.made;
        nobody = l.0.nobody ∙ nobody;
        running = λ g. l.2 ∙ sym (goes y refl);
        over = λ v g. absurd (none-some v (sym none ∙ g));
        gave = λ v g. absurd (none-some v (sym none ∙ g));
        blocked = λ v g. absurd (none-some v (sym none ∙ g));
        free = λ v g run. subst (WaitsNot b) (same_Some t v (sym (goes y refl) ∙ run)) (ap (λ (w : ℕ → Bool). w t) l.1 ∙ free);
        aside = left_aside t now a (owes_after t (next.Done y) u.control) z;
        places = left_places t now a b (owes_after t (next.Done y) u.control) c z;
        of_made = left_made t now a b (owes_after t (next.Done y) u.control) c l.0.made of_made z;
      }
  left_fits x t now (next.Yields y) a b u none turn moment early nobody there free of_made goes l z on =
      let c = changed_same t a b there l.1 in
      record {
        turn = l.0.turn ∙ turn;
        moment = rw (l.0.moment, z.moment) moment;
        early = rw z.moment early;
        canceled = l.0.canceled;
        made = l.0.made;
        nobody = l.0.nobody ∙ nobody;
        running = λ g. absurd (none-some t (sym g));
        over = λ v g. l.2;
        gave = λ v g. subst (λ i. RunsOrNone i u.control.scheduler.running) (same_Some t v g) z.running;
        blocked = λ v g run progress. inl (subst (λ i. (blocked_of (goes_on t (owing y) u.control) i ≡ None) × WaitsNot b i) (same_Some t v g) (owed_blocked t y u.control ∙ l.3, ap (λ (w : ℕ → Bool). w t) l.1 ∙ free));
        free = λ v g. absurd (none-some t (sym g));
        aside = left_aside t now a (owes_after t (next.Yields y) u.control) z;
        places = left_places t now a b (owes_after t (next.Yields y) u.control) c z;
        of_made = left_made t now a b (owes_after t (next.Yields y) u.control) c l.0.made of_made z;
      }
  left_fits x t now next.Blocks a b u none turn moment early nobody there free of_made goes l z on =
      let c = changed_put t a b there l.1 in
      record {
        turn = l.0.turn ∙ turn;
        moment = rw (l.0.moment, z.moment) moment;
        early = rw z.moment early;
        canceled = l.0.canceled;
        made = l.0.made;
        nobody = l.0.nobody ∙ nobody;
        running = λ g. absurd (none-some t (sym g));
        over = λ v g. l.2;
        gave = λ v g. subst (λ i. RunsOrNone i u.control.scheduler.running) (same_Some t v g) z.running;
        blocked = λ v g run. subst (λ i. is_some (u.control.threads.progress i) ≡ true → IsBlockedSo b i u.control) (same_Some t v g) (λ progress. inr (l.3 progress, ap (λ (w : ℕ → Bool). w t) l.1 ∙ put_here a.waiting t true));
        free = λ v g. absurd (none-some t (sym g));
        aside = left_aside t now a u.control z;
        places = left_places t now a b u.control c z;
        of_made = left_made t now a b u.control c l.0.made of_made z;
      }
  left_fits x t now (next.Ended value) a b u none turn moment early nobody there free of_made goes l z on =
      let c = changed_same t a b there l.1 in
      record {
        turn = l.0.turn ∙ (turn ∙ sym (ended_turns value (t == main) x));
        moment = rw (l.0.moment, z.moment) moment;
        early = rw z.moment early;
        canceled = l.0.canceled;
        made = l.0.made;
        nobody = l.0.nobody ∙ nobody;
        running = λ g. absurd (none-some t (sym g));
        over = λ v g. l.2;
        gave = λ v g. subst (λ i. RunsOrNone i u.control.scheduler.running) (same_Some t v g) z.running;
        blocked = λ v g run. absurd (l.3 (run ∙ sym g));
        free = λ v g. absurd (none-some t (sym g));
        aside = left_aside t now a u.control z;
        places = left_places t now a b u.control c z;
        of_made = left_made t now a b u.control c l.0.made of_made z;
      }
  left_fits x t now next.Killed a b u none turn moment early nobody there free of_made goes l z on = absurd (cc on)

  pub step_leaves : (f : P → Functions S H) (x : Turn) (t : ℕ) (a : Account) (s : State P S H) → is_some (s.control.threads.progress t) ≡ true → AreUp f t a s → x.gave ≡ None → s.control.scheduler.running ≡ Some t → is_up a t ≡ true → ((y : Answer) → (steps_on f t s).next ≡ next.Done y → (steps_on f t s).told.state.control.scheduler.running ≡ Some t) → Fits a s x → Leaves a (steps f x t s)
  unfolding steps
  step_leaves f x t a s there up none running own goes h =
      let w = steps_on f t s in
      let runs : a.running ≡ Some t = h.running none ∙ running in
      let turn : has_turn a t ≡ true = and_both _ (is_up a t) (and_both (is_none a.canceled) (is_thread a.running t) (ap is_none h.canceled) (ap (λ o. is_thread o t) runs ∙ same_self t)) own in
      let y = steps_on_step f t a s there up (record { turn = turn; made = h.made }) in
      let z = step_keeps f t (KeptPlaces t a (now_of s.control) a.made) (steady_by_calls f (λ v. (v ≢ t) × DoesWait a v) (λ v. (v ≢ t) × WaitsNot a v) t (now_of s.control) a.made not_made) x s
      (record { places = record { waiters = λ v it. (h.aside t running v (inl it), h.places.waiters v it); runners = λ v it. (h.aside t running v (inr it), h.places.runners v it); once = h.places.once }; moment = refl; running = inl running; grown = omega (arith, h.made) }) in
      record { to = y.to; leads = y.leads; fits = λ on. left_fits (record x { steps = x.steps + 1 }) t (now_of s.control) w.next a y.to w.told.state none h.turn h.moment h.early h.nobody (up_made a t own) (h.free t none running) h.of_made goes y.left z on }
    where
      above : (n v : ℕ) → n < v → is_made n v ≡ true → ⊥
      above n zero later h = absurd (omega (arith, later))
      above n (suc v) later h = true≢false (sym h ∙ lt_fails v n later)
        where
          lt_fails : (v n : ℕ) → n < suc v → nat_lt v n ≡ false
          lt_fails v n later = grind (arith, nat_tests)

      not_made : (v : ℕ) → a.made < v → (v ≢ t) × WaitsNot a v
      not_made v later = ((λ same. above a.made v later (ap (is_made a.made) same ∙ up_made a t own)), by_wait (a.waiting v) refl)
        where
          by_wait : (b : Bool) → a.waiting v ≡ b → a.waiting v ≡ false
          by_wait false is = is
          by_wait true is = absurd (above a.made v later (h.of_made v is))
