-- A step of a thread: its marks are allowed in its turn, and what they say of the thread is what comes next for it.
use Rattle.std.proofs.Common.{◌≡◌, ◌≢◌, ℕ, zero, suc, ◌+◌, ◌==◌, ◌&&◌, ◌||◌, not, Bool, true, false, if◌then◌else◌, ℤ, pos, [], ◌∷◌, Option, Some, None, is_none, is_some, option_map, Result, Ok, Err, refl, sym, ◌∙◌, ap, subst}
use Rattle.std.proofs.lemmas.Bool.{true≢false, and_parts, not-false}
use Rattle.pth_base.specs.Program.{Functions, Stepped}
use Rattle.pth_base.specs.Table.{put}
use Rattle.pth_base.specs.declared.answer.Answer.{Answer}
use Rattle.pth_base.specs.declared.answer.Answer.TheVariants as answer
use Rattle.pth_base.specs.declared.call.Call.{Call}
use Rattle.pth_base.specs.declared.call.Call.TheVariants as call
use Rattle.pth_base.specs.declared.errno.Errno.{Errno}
use Rattle.pth_base.specs.declared.errno.Errno.TheVariants.{EAGAIN, EINTR, EINVAL, EPERM, ESRCH}
use Rattle.pth_base.specs.declared.mark.Mark.{Mark}
use Rattle.pth_base.specs.declared.mark.Mark.TheVariants as mark
use Rattle.pth_base.proofs.Tables.{same_self, not_same, same_means, put_here, put_other}
use Rattle.pth_lock.specs.Objects.{object_named}
use Rattle.pth_numbered.specs.Operands.{number, is_zero, is_below, ◌is◌}
use Rattle.pth_threads.specs.declared.entry.Change.TheVariants as change
use Rattle.pth_threads.specs.declared.entry.NewThread.{NewThread}
use Rattle.pth_model.specs.declared.awaits.Awaits.{Awaits}
use Rattle.pth_model.specs.declared.awaits.Awaits.TheVariants as awaits
use Rattle.pth_model.specs.declared.awaits.Retake.{Retake}
use Rattle.pth_model.specs.declared.awaits.Retake.TheVariants as retake
use Rattle.pth_model.specs.declared.blocked.Blocked.{Blocked}
use Rattle.pth_model.specs.declared.next.Next.{Next}
use Rattle.pth_model.specs.declared.next.Next.TheVariants as next
use Rattle.pth_model.specs.declared.progress.Progress.{Progress}
use Rattle.pth_model.specs.declared.verdict.Verdict.{Verdict}
use Rattle.pth_model.specs.declared.verdict.Verdict.TheVariants.{Says, Yields, Blocks, Ends, Kills}
use Rattle.pth_numbered.specs.Clauses.{◌when◌otherwise◌}
use Rattle.pth_model.specs.Verdict.{refused, says, refused_as◌otherwise◌}
use Rattle.pth_model.specs.Calls.{begun, begun_by, begun_as, blocks, gone_on, gone_on_where, canceled_by, tried_again, tried_again_by, tried_by, unless_settled, retaken_as, retakes_where, retakes, ends_await, awaits_on_where, awaits_on, gone_on_in, gone_on_by}
use Rattle.pth_model.specs.Cancellation.{canceled_value, is_asynchronous, may_be_canceled, takes_request, canceled_in, canceled_by_other, aborted}
use Rattle.pth_model.specs.Changes.{sets, removes, forgets, leaves_queue, enters, makes, goes_on, is_blocked_by, blocking, blocked_in, blocked_of, or_nobody, prefers}
use Rattle.pth_model.specs.Conditions.{can_take, is_noticed, leaves_seat, hands_on_seats}
use Rattle.pth_model.specs.Ending.{ending}
use Rattle.pth_model.specs.LibraryControl.{vanish_all_but}
use Rattle.pth_model.specs.Living.{is_dead, is_made, lives}
use Rattle.pth_model.specs.Part.{steps_on, steps_by, stepping}
use Rattle.pth_model.specs.RingWaits.{claims, extra_ring, ring_given, has_settled, stops_waiting}
use Rattle.pth_model.specs.Row.{effect_of, ◌trying◌}
use Rattle.pth_model.specs.Rows.{row_of}
use Rattle.pth_model.specs.State.{State, Control, main}
use Rattle.pth_model.specs.ThreadControl.{thread, is_known, may_run, spawns, values_for, or_first, has_room}
use Rattle.pth_model.specs.Transition.{Transition, Went, Piece, Change, Last, nothing, changes, tells, tid, controlled, ◌and◌, ◌and_then◌, ◌and_finally◌}
use Rattle.pth_model.proofs.Walks.{named_other, named_lives}
use Rattle.pth_laws.proofs.Going.{known_lives}
use Rattle.pth_turns.specs.Turns.{Account, is_allowed, account_after, is_thread, is_up, has_turn, may_end, answered, is_next_made, waits, ends}
use Rattle.pth_turns.proofs.Accounts.{Leads, leads_nowhere, leads_one, leads_then, turn_may_end}
use Rattle.pth_turns.proofs.Blocks.{IsMadeAs, EndsAs, ending_as, claims_made, stops_made, seat_made, leaves_seat_made}
use Rattle.pth_turns.proofs.Effects.{is_unmarked, unmarked_stays, is_plain, Quiet, quiet_change, request_quiet, effect_quiet, again_quiet}
use Rattle.pth_turns.proofs.Yielding.{is_yielding, is_yield, begins_unyielding, again_unyielding}

-- ---- what a step leaves of an account

module _ {P S H : Type 0} where
  -- as before but for who runs, who has ended and who waits; and how many threads were made is as the state says
  pub record Kept (a b : Account) (u : State P S H) : Type 0 where
    pub turn : b.turn ≡ a.turn
    pub moment : b.moment ≡ a.moment
    pub canceled : b.canceled ≡ None
    pub made : b.made ≡ u.control.threads.made
    pub nobody : b.ended 0 ≡ a.ended 0

  -- a call blocks t, if it is in the system
  abbrev pub IsBlocked : ℕ → Control P S H → Type 0
  IsBlocked t k = is_some (k.threads.progress t) ≡ true → is_some (blocked_of k t) ≡ true

  -- by what comes next for t
  abbrev pub IsLeft : ℕ → Account → Next → Account → State P S H → Type 0
  IsLeft t a (next.Done x) b u = Kept a b u × (b.waiting ≡ a.waiting) × (b.running ≡ Some t)
  IsLeft t a (next.Yields x) b u = Kept a b u × (b.waiting ≡ a.waiting) × (b.running ≡ None) × (blocked_of u.control t ≡ None)
  IsLeft t a next.Blocks b u = Kept a b u × (b.waiting ≡ put a.waiting t true) × (b.running ≡ None) × IsBlocked t u.control
  IsLeft t a (next.Ended v) b u = Kept a b u × (b.waiting ≡ a.waiting) × (b.running ≡ None) × (u.control.scheduler.running ≢ Some t)
  -- a run that is killed goes no further
  IsLeft t a next.Killed b u = Unit {0}

  pub record Steps (t : ℕ) (a : Account) (w : Went P S H) : Type 0 where
    pub to : Account
    pub leads : Leads a w.told.marks to
    pub left : IsLeft t a w.next to w.told.state

  -- it is t's turn, and the account counts the threads that were made
  pub record InTurn (t : ℕ) (a : Account) (s : State P S H) : Type 0 where
    pub turn : has_turn a t ≡ true
    pub made : a.made ≡ s.control.threads.made

-- it is this thread
thread_is : (o : Option ℕ) (t : ℕ) → is_thread o t ≡ true → o ≡ Some t
thread_is None t h = absurd (true≢false (sym h))
thread_is (Some u) t h = ap Some (same_means u t h)

none_is : {A : Type 0} (o : Option A) → is_none o ≡ true → o ≡ None
none_is None h = refl
none_is (Some x) h = absurd (true≢false (sym h))

pub and_both : (a b : Bool) → a ≡ true → b ≡ true → (a && b) ≡ true
and_both true b x y = y
and_both false b x y = x

-- number 0 is no thread's
not_nobody : (n t : ℕ) → is_made n t ≡ true → 0 ≢ t
not_nobody n zero h same = true≢false (sym h)
not_nobody n (suc t) h same = absurd (cc same)

turn_runs : (a : Account) (t : ℕ) → has_turn a t ≡ true → (a.canceled ≡ None) × (a.running ≡ Some t) × (is_up a t ≡ true)
turn_runs a t h =
    let one = and_parts (is_none a.canceled && is_thread a.running t) (is_up a t) h in
    let two = and_parts (is_none a.canceled) (is_thread a.running t) one.0 in
    (none_is a.canceled two.0, thread_is a.running t two.1, one.1)

pub up_made : (a : Account) (t : ℕ) → is_up a t ≡ true → is_made a.made t ≡ true
up_made a t h = (and_parts (is_made a.made t) (not (a.ended t)) h).0

module _ {P S H : Type 0} (t : ℕ) where
  abbrev In : Account → State P S H → Type 0
  In a s = InTurn t a s

  in_state : (a : Account) (s u : State P S H) → IsMadeAs s u → In a s → In a u
  in_state a s u same i = record { turn = i.turn; made = i.made ∙ sym same }

  kept_so : (a : Account) (s : State P S H) → In a s → Kept a a s
  kept_so a s i = record { turn = refl; moment = refl; canceled = (turn_runs a t i.turn).0; made = i.made; nobody = refl }

  goes_on_so : (x : Answer) (a : Account) (s : State P S H) → In a s → IsLeft t a (next.Done x) a s
  goes_on_so x a s i = (kept_so a s i, refl, (turn_runs a t i.turn).1)

  -- ---- one mark, and what comes next

  -- an answer that leaves the account as it is
  pub says_step : (c : Call) (x : Answer) (a : Account) (u : State P S H) → In a u → (answered a c x ≡ a) × (is_next_made a.made c x ≡ true) → Steps t a (record { told = tells (mark.Answered (tid t) c x) u; next = next.Done x })
  says_step c x a u i plain = record {
    to = a;
    leads = record { allowed = (and_both (has_turn a t) (is_next_made a.made c x) i.turn plain.1, tt); to = plain.0 };
    left = goes_on_so x a (tells (mark.Answered (tid t) c x) u).state (record { turn = i.turn; made = i.made });
  }

  -- a kill, or an answer that leaves no more to say
  kills_step : (c : Call) (a : Account) (u : State P S H) → In a u → is_next_made a.made c (answer.Int (pos 1)) ≡ true → Steps t a (record { told = tells (mark.Answered (tid t) c (answer.Int (pos 1))) u; next = next.Killed })
  kills_step c a u i fits =
      let m = mark.Answered (tid t) c (answer.Int (pos 1)) in
      record { to = account_after a m; leads = leads_one a m (and_both (has_turn a t) (is_next_made a.made c (answer.Int (pos 1))) i.turn fits); left = tt }

  -- a call blocks t from now on
  blocked_so : (d : Blocked) (k : Control P S H) → IsBlocked t (is_blocked_by t (Some d) k)
  unfolding goes_on
  blocked_so d k there =
      let same = put_here k.threads.progress t (option_map (blocking (Some d)) (k.threads.progress t)) in
      ap (λ p. is_some (blocked_in p)) same ∙ by_progress (k.threads.progress t) (ap is_some (sym same) ∙ there)
    where
      by_progress : (p : Option (Progress S)) → is_some (option_map (blocking (Some d)) p) ≡ true → is_some (blocked_in (option_map (blocking (Some d)) p)) ≡ true
      by_progress None h = h
      by_progress (Some p) h = refl

  waits_left : (a : Account) (u : State P S H) → In a u → IsBlocked t u.control → IsLeft t a next.Blocks (waits a t) u
  waits_left a u i blocked = (record { turn = refl; moment = refl; canceled = (turn_runs a t i.turn).0; made = i.made; nobody = refl }, refl, refl, blocked)

  pub waits_step : (c : Call) (a : Account) (u : State P S H) → In a u → IsBlocked t u.control → Steps t a (record { told = tells (mark.Waits (tid t) c) u; next = next.Blocks })
  waits_step c a u i blocked = record { to = waits a t; leads = leads_one a (mark.Waits (tid t) c) i.turn; left = waits_left a (tells (mark.Waits (tid t) c) u).state (record { turn = i.turn; made = i.made }) blocked }

  retakes_step : (c : Call) (a : Account) (u : State P S H) → In a u → IsBlocked t u.control → Steps t a (record { told = tells (mark.Retakes (tid t) c) u; next = next.Blocks })
  retakes_step c a u i blocked = record { to = waits a t; leads = leads_one a (mark.Retakes (tid t) c) i.turn; left = waits_left a (tells (mark.Retakes (tid t) c) u).state (record { turn = i.turn; made = i.made }) blocked }

  -- t ends
  end_step : (f : P → Functions S H) (v : ℤ) (a : Account) (s : State P S H) → In a s → Steps t a (record { told = ending f t v s; next = next.Ended v })
  end_step f v a s i =
      let r = turn_runs a t i.turn in
      let e = ending_as f t v s in
      let b : Account = ends a None t in
      record {
        to = b;
        leads = subst (λ (o : Option ℕ). Leads a (ending f t v s).marks (ends a o t)) r.0 (e.leads a (turn_may_end a t i.turn));
        left = (record { turn = refl; moment = refl; canceled = r.0; made = i.made ∙ sym e.made; nobody = put_other a.ended t true 0 (not_nobody a.made t (up_made a t r.2)) }, refl, refl, e.gone);
      }

  -- ---- what comes before

  pub quiet_finally : (p : Piece P S H) (last : Last P S H) (a : Account) (s : State P S H) → In a s → Quiet t s (p s) → (In a (p s).state → Steps t a (last (p s).state)) → Steps t a ((p and_finally last) s)
  quiet_finally p last a s i q goes =
      let y = goes (in_state a s (p s).state q.made i) in
      record { to = y.to; leads = leads_then a (p s).marks (last (p s).state).told.marks a y.to (q.leads a i.turn) y.leads; left = y.left }

  -- a change, and what follows
  changed_finally : (g : Change P S H) (last : Last P S H) (a : Account) (s : State P S H) → IsMadeAs s (controlled g s) → In a s → (In a (controlled g s) → Steps t a (last (controlled g s))) → Steps t a ((changes g and_finally last) s)
  changed_finally g last a s same i goes = quiet_finally (changes g) last a s i (quiet_change t s (controlled g s) same) goes

module _ {P S H : Type 0} (f : P → Functions S H) (t : ℕ) where
  -- t takes a request up in a call, and ends
  canceled_step : (c : Call) (a : Account) (s : State P S H) → InTurn t a s → Steps t a (record { told = canceled_in f t c s; next = next.Ended canceled_value })
  canceled_step c a s i =
      let q = request_quiet t c s in
      let u = (takes_request t c s).state in
      let y = end_step t f canceled_value a u (in_state t a s u q.made i) in
      record { to = y.to; leads = leads_then a (takes_request t c s).marks (ending f t canceled_value u).marks a y.to (q.leads a i.turn) y.leads; left = y.left }

  -- ---- another thread ends in t's turn

  -- u ends, and t goes on in an account in which it has
  record Others (u : ℕ) (a : Account) (s : State P S H) (x : Transition P S H) : Type 0 where
    to : Account
    leads : Leads a x.marks to
    kept : Kept a to x.state
    waiting : to.waiting ≡ a.waiting
    turn : has_turn to t ≡ true

  nothing_ends : (u : ℕ) (a : Account) (s y : State P S H) → IsMadeAs s y → InTurn t a s → Others u a s (record { state = y; marks = [] })
  nothing_ends u a s y same i = record { to = a; leads = leads_nowhere a; kept = kept_so t a y (in_state t a s y same i); waiting = refl; turn = i.turn }

  other_ends : (u : ℕ) (a : Account) (s : State P S H) → t ≢ u → is_up a u ≡ true → InTurn t a s → Others u a s (canceled_by_other f u s)
  other_ends u a s apart up i = record {
    to = c;
    leads = leads_then a (m ∷ []) (ending f u canceled_value (tells m s).state).marks b c (leads_one a m allowed) (e.leads b ends_now);
    kept = record { turn = refl; moment = refl; canceled = refl; made = i.made ∙ sym e.made; nobody = put_other a.ended u true 0 (not_nobody a.made u (up_made a u up)) };
    waiting = refl;
    turn = and_both (is_thread a.running t) (is_made a.made t && not (put a.ended u true t)) (ap (λ o. is_thread o t) r.1 ∙ same_self t) (ap (λ e. is_made a.made t && not e) (put_other a.ended u true t apart) ∙ r.2);
  }
    where
      m : Mark
      m = mark.Canceled (tid u) None

      b : Account
      b = record a { canceled = Some u }

      c : Account
      c = record a { canceled = None; ended = put a.ended u true }

      r : (a.canceled ≡ None) × (a.running ≡ Some t) × (is_up a t ≡ true)
      r = turn_runs a t i.turn

      e : EndsAs u canceled_value (tells m s).state (ending f u canceled_value (tells m s).state)
      e = ending_as f u canceled_value (tells m s).state

      allowed : is_allowed a m ≡ true
      allowed = and_both _ (is_up a u) (and_both _ (not (is_thread a.running u)) (and_both (is_some a.running) (is_none a.canceled) (ap is_some r.1) (ap is_none r.0)) (ap (λ o. not (is_thread o u)) r.1 ∙ ap not (not_same t u apart))) up

      ends_now : may_end b u ≡ true
      ends_now = and_both (u == u) (is_up a u) (same_self u) up

  -- and the call is answered
  then_answered : (u : ℕ) (c : Call) (p : Piece P S H) (a : Account) (s : State P S H) → is_unmarked c ≡ true → Others u a s (p s) → Steps t a (record { told = (p and_then tells (mark.Answered (tid t) c (answer.Int (pos 1)))) s; next = next.Done (answer.Int (pos 1)) })
  then_answered u c p a s unmarked o =
      let m = mark.Answered (tid t) c (answer.Int (pos 1)) in
      let plain = unmarked_stays o.to c (answer.Int (pos 1)) unmarked in
      record {
        to = o.to;
        leads = leads_then a (p s).marks (m ∷ []) o.to o.to o.leads (record { allowed = (and_both (has_turn o.to t) (is_next_made o.to.made c (answer.Int (pos 1))) o.turn plain.1, tt); to = plain.0 });
        left = (record { turn = o.kept.turn; moment = o.kept.moment; canceled = o.kept.canceled; made = o.kept.made; nobody = o.kept.nobody }, o.waiting, (turn_runs o.to t o.turn).1);
      }

  -- ---- a call begins

  -- whoever lives was made and has not ended
  abbrev pub AreUp : Account → State P S H → Type 0
  AreUp a s = (u : ℕ) → lives (s.control.threads.known u) ≡ true → is_up a u ≡ true

  refused_step : (c : Call) (e : Errno) (a : Account) (s : State P S H) → InTurn t a s → (answered a c (answer.Fail e) ≡ a) × (is_next_made a.made c (answer.Fail e) ≡ true) → Steps t a (record { told = tells (mark.Answered (tid t) c (answer.Fail e)) s; next = next.Done (answer.Fail e) })
  refused_step c e a s i plain = says_step t c (answer.Fail e) a s i plain

  kill_step : (refuse : Bool) (a : Account) (s : State P S H) → InTurn t a s → Steps t a (begun_as f t call.Kill (refused EPERM when refuse otherwise Kills trying changes (vanish_all_but t)) s)
  unfolding vanish_all_but
  kill_step true a s i = refused_step call.Kill EPERM a s i (refl, refl)
  kill_step false a s i = let y = kills_step t call.Kill a (controlled (vanish_all_but t) s) (record { turn = i.turn; made = i.made }) refl in record { to = y.to; leads = y.leads; left = tt }

  yields_step : (n : ℤ) (here : Bool) (a : Account) (s : State P S H) → blocked_of s.control t ≡ None → InTurn t a s → Steps t a (record { told = (changes (if here then nothing else prefers (Some (number n))) and_then tells (mark.Answered (tid t) (call.Yield n) (answer.Int (pos 1)))) s; next = next.Yields (answer.Int (pos 1)) })
  yields_step n here a s free i = by_zero here
    where
      m : Mark
      m = mark.Answered (tid t) (call.Yield n) (answer.Int (pos 1))

      kept : (u : State P S H) → IsMadeAs s u → Kept a (record a { running = None }) u
      kept u same = record { turn = refl; moment = refl; canceled = (turn_runs a t i.turn).0; made = i.made ∙ sym same; nobody = refl }

      by_zero : (here : Bool) → Steps t a (record { told = (changes (if here then nothing else prefers (Some (number n))) and_then tells m) s; next = next.Yields (answer.Int (pos 1)) })
      by_zero true = record { to = record a { running = None }; leads = leads_one a m (and_both (has_turn a t) true i.turn refl); left = (kept _ refl, refl, refl, free) }
      by_zero false = record { to = record a { running = None }; leads = leads_one a m (and_both (has_turn a t) true i.turn refl); left = (kept _ refl, refl, refl, free) }

  yield_step : (n : ℤ) (refuse here : Bool) (a : Account) (s : State P S H) → blocked_of s.control t ≡ None → InTurn t a s → Steps t a (begun_as f t (call.Yield n) (refused EINVAL when refuse otherwise Yields (answer.Int (pos 1)) trying changes (if here then nothing else prefers (Some (number n)))) s)
  yield_step n true here a s free i = refused_step (call.Yield n) EINVAL a s i (refl, refl)
  yield_step n false here a s free i = let y = yields_step n here a s free i in record { to = y.to; leads = y.leads; left = y.left }

  spawned_step : (b v k : ℤ) (of : NewThread) (a : Account) (s : State P S H) → InTurn t a s → let n = s.control.threads.made + 1 in Steps t a (record { told = (changes (spawns f (number b) v of) and_then tells (mark.Answered (tid t) (call.Spawn b v k) (answer.Int (pos n)))) s; next = next.Done (answer.Int (pos n)) })
  unfolding makes enters
  spawned_step b v k of a s i =
      let n = s.control.threads.made + 1 in
      let r = turn_runs a t i.turn in
      record {
        to = record a { made = a.made + 1 };
        leads = leads_one a (mark.Answered (tid t) (call.Spawn b v k) (answer.Int (pos n))) (and_both (has_turn a t) (n == a.made + 1) i.turn (ap (λ made. n == made + 1) i.made ∙ same_self n));
        left = (record { turn = refl; moment = refl; canceled = r.0; made = ap (λ made. made + 1) i.made; nobody = refl }, refl, r.1);
      }

  spawn_step : (b v k : ℤ) (of : NewThread) (below room : Bool) (values : Result NewThread Errno) (a : Account) (s : State P S H) → InTurn t a s → Steps t a (begun_as f t (call.Spawn b v k) (refused EINVAL when below otherwise refused_as values otherwise refused EAGAIN when room otherwise says (s.control.threads.made + 1) trying changes (spawns f (number b) v of)) s)
  spawn_step b v k of true room values a s i = refused_step (call.Spawn b v k) EINVAL a s i (refl, refl)
  spawn_step b v k of false room (Err e) a s i = refused_step (call.Spawn b v k) e a s i (refl, refl)
  spawn_step b v k of false true (Ok x) a s i = refused_step (call.Spawn b v k) EAGAIN a s i (refl, refl)
  spawn_step b v k of false false (Ok x) a s i = let y = spawned_step b v k of a s i in record { to = y.to; leads = y.leads; left = y.left }

  -- whom a call names, if it is another that lives
  named_up : (n : ℤ) (a : Account) (s : State P S H) → AreUp a s → (n is t) ≡ false → is_known s.control n ≡ true → is_dead (or_nobody (thread s.control n)).state ≡ false → (t ≢ number n) × (is_up a (number n) ≡ true)
  named_up n a s up own known alive =
      let other = named_other s.control n t known own in
      (λ same. other.apart (sym same), up (number n) (known_lives (s.control.threads.known (number n)) other.known (named_lives s.control n known alive)))

  or_none : (a b : Bool) → (a || b) ≡ false → b ≡ false
  or_none false b h = h
  or_none true b h = absurd (true≢false h)

  asks : (n : ℤ) (now : Bool) (a : Account) (s : State P S H) → (t ≢ number n) × (is_up a (number n) ≡ true) → InTurn t a s → Others (number n) a s ((if now then canceled_by_other f (number n) else changes (sets (number n) (change.Request true))) s)
  unfolding sets
  asks n true a s it i = other_ends (number n) a s it.0 it.1 i
  asks n false a s it i = nothing_ends (number n) a s (controlled (sets (number n) (change.Request true)) s) refl i

  aborted_other : (n : ℤ) (a : Account) (s : State P S H) → (t ≢ number n) × (is_up a (number n) ≡ true) → InTurn t a s → Others (number n) a s (aborted f (number n) s)
  unfolding sets
  aborted_other n a s it i =
      let u = controlled (sets (number n) (change.Joinable false) and sets (number n) (change.Cancel 3)) s in
      let o = other_ends (number n) a u it.0 it.1 (record { turn = i.turn; made = i.made }) in
      record { to = o.to; leads = o.leads; kept = o.kept; waiting = o.waiting; turn = o.turn }

  drops : (n : ℤ) (dead : Bool) (a : Account) (s : State P S H) → (dead ≡ false → (t ≢ number n) × (is_up a (number n) ≡ true)) → InTurn t a s → Others (number n) a s ((if dead then changes (removes (number n)) else aborted f (number n)) s)
  unfolding forgets leaves_queue
  drops n true a s it i = nothing_ends (number n) a s (controlled (removes (number n)) s) refl i
  drops n false a s it i = aborted_other n a s (it refl) i

  cancel_step : (n : ℤ) (own unknown barred : Bool) (a : Account) (s : State P S H) → (n is t) ≡ own → not (is_known s.control n) ≡ unknown → (n is main || is_dead (or_nobody (thread s.control n)).state) ≡ barred → AreUp a s → InTurn t a s
      → Steps t a (begun_as f t (call.Cancel n) (refused EINVAL when own otherwise refused ESRCH when unknown otherwise refused EPERM when barred otherwise says 1 trying (if is_asynchronous (or_nobody (thread s.control n)).cancel then canceled_by_other f (number n) else changes (sets (number n) (change.Request true)))) s)
  cancel_step n true unknown barred a s x y z up i = refused_step (call.Cancel n) EINVAL a s i (refl, refl)
  cancel_step n false true barred a s x y z up i = refused_step (call.Cancel n) ESRCH a s i (refl, refl)
  cancel_step n false false true a s x y z up i = refused_step (call.Cancel n) EPERM a s i (refl, refl)
  cancel_step n false false false a s x y z up i =
      let now = is_asynchronous (or_nobody (thread s.control n)).cancel in
      let p : Piece P S H = if now then canceled_by_other f (number n) else changes (sets (number n) (change.Request true)) in
      then_answered (number n) (call.Cancel n) p a s refl (asks n now a s (named_up n a s up x (not-false _ y) (or_none (n is main) _ z)) i)

  abort_step : (n : ℤ) (own unknown barred : Bool) (a : Account) (s : State P S H) → (n is t) ≡ own → not (is_known s.control n) ≡ unknown → AreUp a s → InTurn t a s
      → Steps t a (begun_as f t (call.Abort n) (refused EINVAL when own otherwise refused ESRCH when unknown otherwise refused EPERM when barred otherwise says 1 trying (if is_dead (or_nobody (thread s.control n)).state then changes (removes (number n)) else aborted f (number n))) s)
  abort_step n true unknown barred a s x y up i = refused_step (call.Abort n) EINVAL a s i (refl, refl)
  abort_step n false true barred a s x y up i = refused_step (call.Abort n) ESRCH a s i (refl, refl)
  abort_step n false false true a s x y up i = refused_step (call.Abort n) EPERM a s i (refl, refl)
  abort_step n false false false a s x y up i =
      let dead = is_dead (or_nobody (thread s.control n)).state in
      let p : Piece P S H = if dead then changes (removes (number n)) else aborted f (number n) in
      then_answered (number n) (call.Abort n) p a s refl (drops n dead a s (λ alive. named_up n a s up x (not-false _ y) alive) i)

  -- as the verdict says, of a call that leaves the account whatever it is answered
  verdict_step : (c : Call) (v : Verdict) (a : Account) (s : State P S H) → is_unmarked c ≡ true → is_yielding v ≡ false → InTurn t a s → Steps t a (begun_by f t c v s)
  unfolding goes_on
  verdict_step c (Says x) a s unmarked still i = says_step t c x a s i (unmarked_stays a c x unmarked)
  verdict_step c (Yields x) a s unmarked still i = absurd (true≢false still)
  verdict_step c (Blocks y) a s unmarked still i =
      let u = controlled (λ k. blocks t c y (claims t (ring_given c) k)) s in
      let w = waits_step t c a u (in_state t a s u (blocks_made (claims t (ring_given c) s.control) ∙ claims_made t (ring_given c) s.control) i) (blocked_so t (record { call = c; awaits = y }) (claims t (ring_given c) s.control)) in
      record { to = w.to; leads = w.leads; left = w.left }
    where
      blocks_made : (k : Control P S H) → (blocks t c y k).threads.made ≡ k.threads.made
      blocks_made k = refl
  verdict_step c (Ends v) a s unmarked still i = end_step t f v a s i
  verdict_step c Kills a s unmarked still i = kills_step t c a s i (unmarked_stays a c (answer.Int (pos 1)) unmarked).1

  plain_unmarked : (c : Call) → is_plain c ≡ true → (is_unmarked c ≡ true) × (is_yield c ≡ false)
  plain_unmarked call.Kill plain = absurd (true≢false (sym plain))
  plain_unmarked (call.Spawn b v k) plain = absurd (true≢false (sym plain))
  plain_unmarked (call.Yield n) plain = absurd (true≢false (sym plain))
  plain_unmarked (call.Cancel n) plain = absurd (true≢false (sym plain))
  plain_unmarked (call.Abort n) plain = absurd (true≢false (sym plain))
  plain_unmarked c plain = (refl, refl)

  plain_step : (c : Call) (a : Account) (s : State P S H) → is_plain c ≡ true → InTurn t a s → Steps t a (begun_as f t c (row_of f s t c).begin s)
  plain_step c a s plain i =
      let x = (row_of f s t c).begin in
      let kind = plain_unmarked c plain in
      quiet_finally t (effect_of x) (begun_by f t c x.verdict) a s i (effect_quiet f t s c plain) (λ j. verdict_step c x.verdict a (effect_of x s).state kind.0 (begins_unyielding f s t c kind.1) j)

  pub begun_step : (c : Call) (a : Account) (s : State P S H) → blocked_of s.control t ≡ None → AreUp a s → InTurn t a s → Steps t a (begun f t c s)
  unfolding begun row_of
  begun_step call.Plain a s free up i = record { to = a; leads = leads_nowhere a; left = goes_on_so t answer.None a s i }
  begun_step (call.Note v) a s free up i = record { to = a; leads = leads_one a (mark.Noted (tid t) v) i.turn; left = goes_on_so t (answer.Int (pos 0)) a (tells (mark.Noted (tid t) v) s).state (record { turn = i.turn; made = i.made }) }
  begun_step call.Kill a s free up i = kill_step (not (t == main)) a s i
  begun_step (call.Spawn b v k) a s free up i = spawn_step b v k (or_first (values_for s.control t k)) (not (is_below b (f s.control.program).bodies)) (not (has_room s.control)) (values_for s.control t k) a s i
  begun_step (call.Yield n) a s free up i = yield_step n (not (is_zero n) && ((or_nobody (thread s.control n)).suspended || not (may_run (or_nobody (thread s.control n)).state))) (is_zero n) a s free i
  begun_step (call.Cancel n) a s free up i = cancel_step n (n is t) (not (is_known s.control n)) (n is main || is_dead (or_nobody (thread s.control n)).state) a s refl refl refl up i
  begun_step (call.Abort n) a s free up i = abort_step n (n is t) (not (is_known s.control n)) (n is main) a s refl refl up i
  begun_step c a s free up i = plain_step c a s refl i

  -- ---- a call is tried again

  -- a call that leaves a mark in the account is never tried again
  tried_step : (d : Blocked) (v : Verdict) (a : Account) (s : State P S H) → (is_unmarked d.call ≡ false → (y : Awaits) → v ≡ Blocks awaits.Nothing) → is_yielding v ≡ false → InTurn t a s → Steps t a (tried_by f t d v s)
  unfolding goes_on
  tried_step d v a s never still i = by_kind (is_unmarked d.call) refl
    where
      stopped : InTurn t a (controlled (stops_waiting t) s)
      stopped = in_state t a s (controlled (stops_waiting t) s) (stops_made t s.control) i

      blocked_step : (y : Awaits) → Steps t a (tried_by f t d (Blocks y) s)
      blocked_step y =
          let w = waits_step t d.call a (controlled (is_blocked_by t (Some (record d { awaits = y }))) s) (record { turn = i.turn; made = i.made }) (blocked_so t (record d { awaits = y }) s.control) in
          record { to = w.to; leads = w.leads; left = w.left }

      by_verdict : (v : Verdict) → is_unmarked d.call ≡ true → is_yielding v ≡ false → Steps t a (tried_by f t d v s)
      by_verdict (Says x) unmarked still = let y = says_step t d.call x a (controlled (stops_waiting t) s) stopped (unmarked_stays a d.call x unmarked) in record { to = y.to; leads = y.leads; left = y.left }
      by_verdict (Yields x) unmarked still = absurd (true≢false still)
      by_verdict (Blocks y) unmarked still = blocked_step y
      by_verdict (Ends v) unmarked still = end_step t f v a s i
      by_verdict Kills unmarked still = let y = kills_step t d.call a (controlled (stops_waiting t) s) stopped (unmarked_stays a d.call (answer.Int (pos 1)) unmarked).1 in record { to = y.to; leads = y.leads; left = tt }

      by_kind : (b : Bool) → is_unmarked d.call ≡ b → Steps t a (tried_by f t d v s)
      by_kind true unmarked = by_verdict v unmarked still
      by_kind false marked = subst (λ (w : Verdict). Steps t a (tried_by f t d w s)) (sym (never marked awaits.Nothing)) (blocked_step awaits.Nothing)

  never_tried : (s : State P S H) (c : Call) (b : Awaits) → is_unmarked c ≡ false → (unless_settled (has_settled s.control.events (ring_given c)) ((row_of f s t c).again b)).verdict ≡ Blocks awaits.Nothing
  unfolding row_of
  never_tried s (call.Spawn x v k) b marked = refl
  never_tried s (call.Yield n) b marked = refl
  never_tried s call.Kill b marked = refl
  never_tried s c b marked = absurd (true≢false marked)

  again_step : (d : Blocked) (a : Account) (s : State P S H) → InTurn t a s → Steps t a (tried_again_by f t (Some d) s)
  again_step d a s i =
      let come = has_settled s.control.events (ring_given d.call) in
      let x = unless_settled come ((row_of f s t d.call).again d.awaits) in
      quiet_finally t (effect_of x) (tried_by f t d x.verdict) a s i (again_quiet f t s d.call d.awaits come) (λ j. tried_step d x.verdict a (effect_of x s).state (λ marked y. never_tried s d.call d.awaits marked) (again_unyielding f s t d.call d.awaits come) j)

  where_step : (asked : Bool) (d : Blocked) (a : Account) (s : State P S H) → blocked_of s.control t ≡ Some d → InTurn t a s → Steps t a (gone_on_where f t asked s)
  unfolding tried_again
  where_step true d a s at i = subst (λ (o : Option Blocked). Steps t a (canceled_by f t o s)) (sym at) (canceled_step d.call a s i)
  where_step false d a s at i = subst (λ (o : Option Blocked). Steps t a (tried_again_by f t o s)) (sym at) (again_step d a s i)

  -- ---- a wait at a condition goes on

  retaken_step : (c : Call) (m : ℤ) (o : Retake) (a : Account) (s : State P S H) → is_unmarked c ≡ true → InTurn t a s → Steps t a (retaken_as f t c m o s)
  retaken_step c m retake.Notified a s unmarked i = says_step t c (answer.Int (pos 1)) a s i (unmarked_stays a c (answer.Int (pos 1)) unmarked)
  retaken_step c m retake.Interrupted a s unmarked i = says_step t c (answer.Fail EINTR) a s i (unmarked_stays a c (answer.Fail EINTR) unmarked)
  retaken_step c m retake.Canceled a s unmarked i =
      let k = mark.Took (tid t) (object_named m) in
      let y = end_step t f canceled_value a (tells k s).state (record { turn = i.turn; made = i.made }) in
      record { to = y.to; leads = leads_then a (k ∷ []) (ending f t canceled_value (tells k s).state).marks a y.to (leads_one a k i.turn) y.leads; left = y.left }

  retakes_by : (b : Bool) (c : Call) (m : ℤ) (o : Retake) (a : Account) (s : State P S H) → is_unmarked c ≡ true → InTurn t a s → Steps t a (retakes_where f t b c m o s)
  unfolding goes_on
  retakes_by true c m o a s unmarked i = retaken_step c m o a s unmarked i
  retakes_by false c m o a s unmarked i =
      let y = retakes_step t c a (controlled (blocks t c (awaits.Retaking m o)) s) (record { turn = i.turn; made = i.made }) (blocked_so t (record { call = c; awaits = awaits.Retaking m o }) s.control) in
      record { to = y.to; leads = y.leads; left = y.left }

  await_ends : (g : Change P S H) (c : Call) (m : ℤ) (o : Retake) (a : Account) (s : State P S H) → ((k : Control P S H) → (g k).threads.made ≡ k.threads.made) → is_unmarked c ≡ true → InTurn t a s → Steps t a (ends_await f t g c m o s)
  await_ends g c m o a s same unmarked i =
      let u = controlled (g and stops_waiting t) s in
      changed_finally t (g and stops_waiting t) (retakes f t c m o) a s (stops_made t (g s.control) ∙ same s.control) i (λ j. retakes_by (can_take u t m) c m o a u unmarked j)

  awaits_step : (asked noticed settled : Bool) (c m e : ℤ) (a : Account) (s : State P S H) → is_some (blocked_of s.control t) ≡ true → InTurn t a s → Steps t a (awaits_on_where f t asked noticed settled (call.CondAwait c m e) c m s)
  awaits_step true noticed settled c m e a s at i =
      let k = call.CondAwait c m e in
      let g : Change P S H = hands_on_seats t (record { what = awaits.Notice c; ring = ring_given k }) in
      quiet_finally t (takes_request t k) (ends_await f t g k m retake.Canceled) a s i (request_quiet t k s) (λ j. await_ends g k m retake.Canceled a (takes_request t k s).state (λ x. seat_made t (awaits.Notice c) x) refl j)
  awaits_step false true settled c m e a s at i = await_ends (leaves_seat t (awaits.Notice c)) (call.CondAwait c m e) m retake.Notified a s (leaves_seat_made t (awaits.Notice c)) refl i
  awaits_step false false true c m e a s at i = await_ends (leaves_seat t (awaits.Notice c)) (call.CondAwait c m e) m retake.Interrupted a s (leaves_seat_made t (awaits.Notice c)) refl i
  awaits_step false false false c m e a s at i = waits_step t (call.CondAwait c m e) a s i (λ there. at)

  awaits_on_step : (c m e : ℤ) (b : Awaits) (a : Account) (s : State P S H) → is_some (blocked_of s.control t) ≡ true → InTurn t a s → Steps t a (awaits_on f t c m e b s)
  awaits_on_step c m e (awaits.Retaking n o) a s at i = await_ends nothing (call.CondAwait c m e) m o a s (λ k. refl) refl i
  awaits_on_step c m e b a s at i = awaits_step (may_be_canceled s.control t) (is_noticed s t c) (has_settled s.control.events (extra_ring e)) c m e a s at i

  in_step : (c : Call) (b : Awaits) (a : Account) (s : State P S H) → blocked_of s.control t ≡ Some (record { call = c; awaits = b }) → InTurn t a s → Steps t a (gone_on_in f t c b s)
  in_step (call.CondAwait c m e) b a s at i = awaits_on_step c m e b a s (ap is_some at) i
  in_step c b a s at i = where_step (may_be_canceled s.control t) (record { call = c; awaits = b }) a s at i

  gone_on_step : (d : Blocked) (a : Account) (s : State P S H) → blocked_of s.control t ≡ Some d → InTurn t a s → Steps t a (gone_on f t s)
  unfolding gone_on
  gone_on_step d a s at i = subst (λ (o : Option Blocked). Steps t a (gone_on_by f t o s)) (sym at) (in_step d.call d.awaits a s at i)

  -- ---- a step

  steps_by_step : (o : Option Blocked) (p : Option (Progress S)) (a : Account) (s : State P S H) → blocked_of s.control t ≡ o → s.control.threads.progress t ≡ p → is_some p ≡ true → AreUp a s → InTurn t a s → Steps t a (steps_by f t o p s)
  unfolding goes_on
  steps_by_step (Some d) p a s at on there up i = gone_on_step d a s at i
  steps_by_step None None a s at on there up i = absurd (true≢false (sym there))
  steps_by_step None (Some p) a s at on there up i =
      let x = (f s.control.program).step p.state s.control.shared p.owed in
      changed_finally t (stepping t x) (begun f t x.call) a s (stepped_made x) i (λ j. begun_step x.call a (controlled (stepping t x) s) (stepped_free x) (stepped_up x) j)
    where
      stepped_made : (x : Stepped S H) → IsMadeAs s (controlled (stepping t x) s)
      stepped_made x = refl

      stepped_up : (x : Stepped S H) → AreUp a (controlled (stepping t x) s)
      stepped_up x = up

      moved : Stepped S H → Progress S → Progress S
      moved x y = record y { state = x.state; owed = answer.None }

      stepped_free : (x : Stepped S H) → blocked_of (stepping t x s.control) t ≡ None
      stepped_free x = ap blocked_in (put_here s.control.threads.progress t (option_map (moved x) (s.control.threads.progress t)) ∙ ap (option_map (moved x)) on) ∙ (sym (ap blocked_in on) ∙ at)

  pub steps_on_step : (a : Account) (s : State P S H) → is_some (s.control.threads.progress t) ≡ true → AreUp a s → InTurn t a s → Steps t a (steps_on f t s)
  steps_on_step a s there up i = steps_by_step (blocked_of s.control t) (s.control.threads.progress t) a s refl refl there up i
