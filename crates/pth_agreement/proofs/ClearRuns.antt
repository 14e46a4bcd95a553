-- In a run in which no call names descriptor d, no wait and no event asks of it.
use Rattle.std.proofs.Common.{◌≡◌, ◌<◌, ℕ, zero, suc, not, Bool, true, false, if◌then◌else◌, ℤ, pos, List, [], ◌∷◌, reverse, flat_map, Option, Some, None, option_map, refl, lt-suc_self, lt_trans}
use Rattle.pth_base.specs.Program.{Functions}
use Rattle.pth_base.specs.declared.answer.Answer.TheVariants as answer
use Rattle.pth_base.specs.declared.call.Call.{Call}
use Rattle.pth_base.specs.declared.call.Call.TheVariants as call
use Rattle.pth_base.specs.declared.event.EvLine.{EvLine}
use Rattle.pth_base.specs.declared.event.EvLine.TheVariants as line
use Rattle.pth_base.specs.declared.mark.Mark.TheVariants as mark
use Rattle.pth_lock.specs.Objects.{object_named}
use Rattle.pth_numbered.specs.Operands.{number, is_zero}
use Rattle.pth_queue.specs.declared.queue.Queue.TheVariants.{New, Ready}
use Rattle.pth_ring.specs.Ring.{each, ring_holds}
use Rattle.pth_ring.specs.Rings.{make_answer, chain_answer, alone, chained}
use Rattle.pth_threads.specs.declared.entry.Change.TheVariants as change
use Rattle.pth_model.specs.declared.awaits.Awaits.{Awaits}
use Rattle.pth_model.specs.declared.awaits.Awaits.TheVariants as awaits
use Rattle.pth_model.specs.declared.awaits.Awaited.{Awaited}
use Rattle.pth_model.specs.declared.awaits.Retake.{Retake}
use Rattle.pth_model.specs.declared.awaits.Retake.TheVariants as retake
use Rattle.pth_model.specs.declared.blocked.Blocked.{Blocked}
use Rattle.pth_model.specs.declared.next.Next.{Next}
use Rattle.pth_model.specs.declared.next.Next.TheVariants as next
use Rattle.pth_model.specs.declared.progress.Progress.{Progress}
use Rattle.pth_model.specs.declared.verdict.Verdict.{Verdict}
use Rattle.pth_model.specs.declared.verdict.Verdict.TheVariants.{Says, Yields, Blocks, Ends, Kills}
use Rattle.pth_model.specs.AttributeHandling.{object}
use Rattle.pth_model.specs.Calls.{waits_by, begun, begun_by, canceled_by, interrupted, unless_settled, tried_by, tried_again, tried_again_by, gone_on, gone_on_where, gone_on_in, gone_on_by, retaken_as, retakes_where, ends_await, awaits_on, awaits_on_where}
use Rattle.pth_model.specs.Cancellation.{canceled_value, is_asynchronous, is_to_cancel, may_be_canceled, takes_request}
use Rattle.pth_model.specs.Changes.{with_barriers, owing, queue_for, sets, goes_on, enters, leaves_queue, raises_ready, trails, prefers, with_events, moves_to, shares, blocked_of, uses, entry_of, or_nobody, holders}
use Rattle.pth_model.specs.Cleanups.{last_pushed, runs_pushed}
use Rattle.pth_model.specs.Conditions.{can_take, is_noticed, leaves_seat, hands_on_seats}
use Rattle.pth_model.specs.Verdict.{says, by_result}
use Rattle.pth_model.specs.LibraryControl.{ctrl}
use Rattle.pth_model.specs.Acts.{runs_handler}
use Rattle.pth_model.specs.Awaits.{round_in}
use Rattle.pth_cond.specs.Barriers.{has_passed, round_answer, round_answered}
use Rattle.pth_base.specs.declared.query.Query.{Query}
use Rattle.pth_base.specs.declared.query.Query.TheVariants as query
use Rattle.pth_base.specs.declared.event.EventSpec.{EventSpec}
use Rattle.pth_model.specs.EventHandling.{spec_of, made_as, make_event, chain}
use Rattle.pth_model.specs.Living.{is_dead}
use Rattle.pth_model.specs.Looks.{looked_at}
use Rattle.pth_model.specs.Part.{Part, Move, Take, Step, Close, Halt, next_part, part, part_by, chosen, readies, readies_all, readies_new, runs, dispatches, takes, takes_by, owes_after, steps, steps_by, steps_on, is_put_back, is_put_waiting, placed_by, is_placed, turn_ends, closes, moves, moves_by}
use Rattle.pth_model.specs.Pass.{pass, looks, to_wake, woken, all_woken, is_ready_at, moment, waiting}
use Rattle.pth_model.specs.Resources.{handler}
use Rattle.pth_model.specs.RingWaits.{awaited_events, claims, extra_ring, has_settled, ring_given, stops_waiting}
use Rattle.pth_model.specs.Row.{refuses, effect_of, ◌trying◌}
use Rattle.pth_model.specs.Rows.{row_of}
use Rattle.pth_model.specs.Run.{parts, run}
use Rattle.pth_model.specs.State.{State, Given, Turn, start, queue}
use Rattle.pth_model.specs.ThreadControl.{thread, suspends, resumes, to_join, values_for, or_first}
use Rattle.pth_model.specs.Transition.{Change, silent, changes, controlled, nothing, tells, tid, ◌and_then◌}
use Rattle.pth_agreement.specs.Descriptors.{named_by_line, named_by_call}
use Rattle.pth_agreement.proofs.Waits.{asks_of, wait_asks, asks_by, begins_none, again_none, interrupted_none}
use Rattle.pth_agreement.proofs.Clear.{IsClear, Keeps, Stays, blocked_asks, event_if, event_same, progress_put, spec_clear, goes_stays, blocked_stays, claims_stays, stops_stays, seat_stays, unless_keeps, where_keeps, handler_keeps, ending_keeps, asks_keep, aborts_keep, pushed_keeps, spawned_keeps, if_stays, sets_stays, value_stays, returns_stays, joined_stays, ctrl_keeps, vanish_stays, freed_stays, alone_keeps, chained_keeps}

module _ (d : ℕ) {P S H : Type 0} (f : P → Functions S H) where
  module _ (t : ℕ) where
    make_keeps : (s : State P S H) (l : EvLine) → asks_of d (named_by_line l) ≡ false → IsClear d s → IsClear d ((make_event s l).begin.effect s).state
    make_keeps s l none c = alone_keeps d s (spec_of l) (λ x. by_result says (make_answer s.control.events)) (spec_clear d l none) c

    chain_keeps : (s : State P S H) (e : ℤ) (l : EvLine) → asks_of d (named_by_line l) ≡ false → IsClear d s → IsClear d ((chain s e l).begin.effect s).state
    chain_keeps s e l none c = chained_keeps d s (number e) (spec_of l) (λ x. by_result says (chain_answer s.control.events (number e))) (spec_clear d l none) c

    -- what a call does as it begins
    does_keep : (s : State P S H) (c : Call) → asks_of d (named_by_call c) ≡ false → IsClear d s → IsClear d ((row_of f s t c).begin.effect s).state
    unfolding row_of suspends leaves_queue sets enters resumes
    does_keep s call.Kill none clear = vanish_stays d t s clear
    does_keep s (call.Ctrl x) none clear = ctrl_keeps d s x clear
    does_keep s (call.AttrSet a v) none clear = value_stays d a v (object s.control a) s clear
    does_keep s (call.Spawn b v a) none clear = spawned_keeps d f (number b) v (or_first (values_for s.control t a)) s clear
    does_keep s (call.Once o h v) none clear = where_keeps d (not (s.control.used (number o))) (changes (uses (number o)) and_then runs_handler f t (handler h) v) (λ u e. handler_keeps d f t (handler h) v (controlled (uses (number o)) u) e) s clear
    does_keep s (call.Resume n) none clear = returns_stays d (number n) (queue_for (or_nobody (entry_of s.control (number n))).state) s clear
    does_keep s (call.Yield n) none clear = if_stays d (is_zero n) (prefers (Some (number n))) (λ u e. e) s clear
    does_keep s (call.Cancel n) none clear = asks_keep d f (number n) (is_asynchronous (or_nobody (thread s.control n)).cancel) s clear
    does_keep s (call.Abort n) none clear = aborts_keep d f (number n) (is_dead (or_nobody (thread s.control n)).state) s clear
    does_keep s (call.Join n) none clear = joined_stays d (to_join s.control n) s clear
    does_keep s call.CancelPoint none clear = where_keeps d (is_to_cancel (or_nobody (entry_of s.control t))) (takes_request t call.CancelPoint) (λ u e. e) s clear
    does_keep s (call.CancelState n) none clear = if_stays d (is_zero n) (sets t (change.Cancel (number n))) (sets_stays d t (change.Cancel (number n))) s clear
    does_keep s (call.EvFd goals fd) none clear = make_keeps s (line.Fd goals fd) none clear
    does_keep s (call.EvSelect r w x) none clear = make_keeps s (line.Select r w x) none clear
    does_keep s (call.EvTime m) none clear = make_keeps s (line.Time m) none clear
    does_keep s (call.EvMsg q) none clear = make_keeps s (line.Msg q) none clear
    does_keep s (call.EvCond i) none clear = make_keeps s (line.Cond i) none clear
    does_keep s (call.EvTid at n) none clear = make_keeps s (line.Tid at n) none clear
    does_keep s (call.EvFunc i v l) none clear = make_keeps s (line.Func i v l) none clear
    does_keep s (call.Chain e l) none clear = chain_keeps s e l none clear
    does_keep s (call.EvFree e all) none clear = freed_stays d all (number e) s clear
    does_keep s (call.CleanupPop v) none clear = where_keeps d (not (is_zero v)) (runs_pushed f t (last_pushed f s t)) (pushed_keeps d f t (last_pushed f s t)) s clear
    does_keep s c none clear = clear

    waits_keep : (c : Call) (a : Awaits) (s : State P S H) → wait_asks d a ≡ false → IsClear d s → IsClear d (waits_by t c a s).state
    waits_keep c a s none clear = blocked_stays d t (Some (record { call = c; awaits = a })) none (controlled (claims t (ring_given c)) s) (claims_stays d t (ring_given c) s clear)

    begun_by_keeps : (c : Call) (v : Verdict) (s : State P S H) → asks_by d v ≡ false → IsClear d s → IsClear d (begun_by f t c v s).told.state
    begun_by_keeps c (Says x) s none clear = clear
    begun_by_keeps c (Yields x) s none clear = clear
    begun_by_keeps c (Blocks a) s none clear = waits_keep c a s none clear
    begun_by_keeps c (Ends v) s none clear = ending_keeps d f t v s clear
    begun_by_keeps c Kills s none clear = clear

    pub begun_keeps : (c : Call) (s : State P S H) → asks_of d (named_by_call c) ≡ false → IsClear d s → IsClear d (begun f t c s).told.state
    unfolding begun
    begun_keeps call.Plain s none clear = clear
    begun_keeps (call.Note v) s none clear = clear
    begun_keeps c s none clear =
        let a = (row_of f s t c).begin in
        begun_by_keeps c a.verdict (effect_of a s).state (begins_none d f s t c none) (unless_keeps d (refuses a.verdict) a.effect s clear (does_keep s c none clear))

    -- ---- a call is tried again

    ctrl_again : (s : State P S H) (x : Query) (a : Awaits) → IsClear d s → IsClear d (((ctrl s x).again a).effect s).state
    ctrl_again s query.Threads a clear = clear
    ctrl_again s x a clear = clear

    made_again : (s : State P S H) (o : Option EventSpec) (v : EventSpec → Verdict) (g : EventSpec → Change P S H) (a : Awaits) → IsClear d s → IsClear d (((made_as o v g).again a).effect s).state
    made_again s None v g a clear = clear
    made_again s (Some x) v g a clear = clear

    make_again : (s : State P S H) (l : EvLine) (a : Awaits) → IsClear d s → IsClear d (((make_event s l).again a).effect s).state
    make_again s l a clear = made_again s (spec_of l) (λ x. by_result says (make_answer s.control.events)) (λ x. with_events (alone x)) a clear

    chain_again : (s : State P S H) (e : ℤ) (l : EvLine) (a : Awaits) → IsClear d s → IsClear d (((chain s e l).again a).effect s).state
    chain_again s e l a clear = made_again s (spec_of l) (λ x. by_result says (chain_answer s.control.events (number e))) (λ x. with_events (chained x (number e))) a clear

    round_again : (s : State P S H) (b : ℤ) (round : ℕ) (passed : Bool) → IsClear d s → IsClear d ((if passed then (Says (answer.Int (round_answer s.control.barriers b round t)) trying changes (with_barriers (round_answered b round t))) else (Blocks (awaits.Round b round) trying silent)).effect s).state
    round_again s b round true clear = clear
    round_again s b round false clear = clear

    again_keeps : (s : State P S H) (c : Call) (a : Awaits) → IsClear d s → IsClear d (((row_of f s t c).again a).effect s).state
    unfolding row_of
    again_keeps s (call.Ctrl x) a clear = ctrl_again s x a clear
    again_keeps s (call.Join n) a clear = joined_stays d (to_join s.control n) s clear
    again_keeps s (call.BarrierReach b) a clear = round_again s b (round_in a) (has_passed s.control.barriers b (round_in a)) clear
    again_keeps s (call.EvFd goals fd) a clear = make_again s (line.Fd goals fd) a clear
    again_keeps s (call.EvSelect r w x) a clear = make_again s (line.Select r w x) a clear
    again_keeps s (call.EvTime m) a clear = make_again s (line.Time m) a clear
    again_keeps s (call.EvMsg q) a clear = make_again s (line.Msg q) a clear
    again_keeps s (call.EvCond i) a clear = make_again s (line.Cond i) a clear
    again_keeps s (call.EvTid at n) a clear = make_again s (line.Tid at n) a clear
    again_keeps s (call.EvFunc i v l) a clear = make_again s (line.Func i v l) a clear
    again_keeps s (call.Chain e l) a clear = chain_again s e l a clear
    again_keeps s c a clear = clear

    tried_by_keeps : (b : Blocked) (v : Verdict) (s : State P S H) → asks_by d v ≡ false → IsClear d s → IsClear d (tried_by f t b v s).told.state
    tried_by_keeps b (Says x) s none clear = stops_stays d t s clear
    tried_by_keeps b (Yields x) s none clear = stops_stays d t s clear
    tried_by_keeps b (Blocks a) s none clear = blocked_stays d t (Some (record b { awaits = a })) none s clear
    tried_by_keeps b (Ends v) s none clear = ending_keeps d f t v s clear
    tried_by_keeps b Kills s none clear = stops_stays d t s clear

    come_keeps : (b : Blocked) (come : Bool) (s : State P S H) → wait_asks d b.awaits ≡ false → IsClear d s → let a = unless_settled come ((row_of f s t b.call).again b.awaits) in IsClear d (tried_by f t b a.verdict (effect_of a s).state).told.state
    come_keeps b false s none clear =
        let a = (row_of f s t b.call).again b.awaits in
        tried_by_keeps b a.verdict (effect_of a s).state (again_none d f s t b.call b.awaits none) (unless_keeps d (refuses a.verdict) a.effect s clear (again_keeps s b.call b.awaits clear))
    come_keeps b true s none clear =
        let a = (row_of f s t b.call).again b.awaits in
        tried_by_keeps b (interrupted a.verdict) (effect_of (record a { verdict = interrupted a.verdict }) s).state (interrupted_none d a.verdict) (unless_keeps d (refuses (interrupted a.verdict)) a.effect s clear (again_keeps s b.call b.awaits clear))

    tried_again_by_keeps : (o : Option Blocked) (s : State P S H) → blocked_asks d o ≡ false → IsClear d s → IsClear d (tried_again_by f t o s).told.state
    tried_again_by_keeps None s none clear = clear
    tried_again_by_keeps (Some b) s none clear = come_keeps b (has_settled s.control.events (ring_given b.call)) s none clear

    canceled_keeps : (o : Option Blocked) (s : State P S H) → IsClear d s → IsClear d (canceled_by f t o s).told.state
    unfolding sets
    canceled_keeps None s clear = clear
    canceled_keeps (Some b) s clear = ending_keeps d f t canceled_value (takes_request t b.call s).state clear

    where_on_keeps : (now : Bool) (s : State P S H) → IsClear d s → IsClear d (gone_on_where f t now s).told.state
    unfolding tried_again
    where_on_keeps true s clear = canceled_keeps (blocked_of s.control t) s clear
    where_on_keeps false s clear = tried_again_by_keeps (blocked_of s.control t) s (clear.0 t) clear

    retaken_keeps : (c : Call) (m : ℤ) (o : Retake) (s : State P S H) → IsClear d s → IsClear d (retaken_as f t c m o s).told.state
    retaken_keeps c m retake.Notified s clear = clear
    retaken_keeps c m retake.Interrupted s clear = clear
    retaken_keeps c m retake.Canceled s clear = ending_keeps d f t canceled_value (tells (mark.Took (tid t) (object_named m)) s).state clear

    retakes_keeps : (can : Bool) (c : Call) (m : ℤ) (o : Retake) (s : State P S H) → IsClear d s → IsClear d (retakes_where f t can c m o s).told.state
    retakes_keeps true c m o s clear = retaken_keeps c m o s clear
    retakes_keeps false c m o s clear = blocked_stays d t (Some (record { call = c; awaits = awaits.Retaking m o })) refl s clear

    ends_await_keeps : (g : Change P S H) (c : Call) (m : ℤ) (o : Retake) → Stays d g → (s : State P S H) → IsClear d s → IsClear d (ends_await f t g c m o s).told.state
    ends_await_keeps g c m o stays s clear =
        let u = controlled (stops_waiting t) (controlled g s) in
        retakes_keeps (can_take u t m) c m o u (stops_stays d t (controlled g s) (stays s clear))

    leaves_seat_stays : (a : Awaits) → Stays d {P = P} {S = S} {H = H} (leaves_seat t a)
    unfolding leaves_seat
    leaves_seat_stays (awaits.Notice i) s clear = clear
    leaves_seat_stays a s clear = clear

    awaits_where_keeps : (asked noticed settled : Bool) (k : Call) (c m : ℤ) (s : State P S H) → IsClear d s → IsClear d (awaits_on_where f t asked noticed settled k c m s).told.state
    unfolding sets
    awaits_where_keeps true noticed settled k c m s clear =
        let a : Awaited = record { what = awaits.Notice c; ring = ring_given k } in
        ends_await_keeps (hands_on_seats t a) k m retake.Canceled (λ u e. seat_stays d t (awaits.Notice c) u e) (takes_request t k s).state clear
    awaits_where_keeps false true settled k c m s clear = ends_await_keeps (leaves_seat t (awaits.Notice c)) k m retake.Notified (leaves_seat_stays (awaits.Notice c)) s clear
    awaits_where_keeps false false true k c m s clear = ends_await_keeps (leaves_seat t (awaits.Notice c)) k m retake.Interrupted (leaves_seat_stays (awaits.Notice c)) s clear
    awaits_where_keeps false false false k c m s clear = clear

    awaits_on_keeps : (c m e : ℤ) (a : Awaits) (s : State P S H) → IsClear d s → IsClear d (awaits_on f t c m e a s).told.state
    awaits_on_keeps c m e (awaits.Retaking n o) s clear = ends_await_keeps nothing (call.CondAwait c m e) m o (λ u x. x) s clear
    awaits_on_keeps c m e a s clear = awaits_where_keeps (may_be_canceled s.control t) (is_noticed s t c) (has_settled s.control.events (extra_ring e)) (call.CondAwait c m e) c m s clear

    gone_on_in_keeps : (c : Call) (a : Awaits) (s : State P S H) → IsClear d s → IsClear d (gone_on_in f t c a s).told.state
    gone_on_in_keeps (call.CondAwait c m e) a s clear = awaits_on_keeps c m e a s clear
    gone_on_in_keeps c a s clear = where_on_keeps (may_be_canceled s.control t) s clear

    gone_on_by_keeps : (o : Option Blocked) (s : State P S H) → IsClear d s → IsClear d (gone_on_by f t o s).told.state
    gone_on_by_keeps None s clear = clear
    gone_on_by_keeps (Some b) s clear = gone_on_in_keeps b.call b.awaits s clear

    gone_on_keeps : (s : State P S H) → IsClear d s → IsClear d (gone_on f t s).told.state
    unfolding gone_on
    gone_on_keeps s clear = gone_on_by_keeps (blocked_of s.control t) s clear

    -- ---- a step

    -- the call that is asked for does not name d
    abbrev pub NamesNot : Option Blocked → Option (Progress S) → Functions S H → H → Type 0
    NamesNot None (Some p) a shared = asks_of d (named_by_call (a.step p.state shared p.owed).call) ≡ false
    NamesNot None None a shared = Unit {0}
    NamesNot (Some b) o a shared = Unit {0}

    steps_by_keeps : (b : Option Blocked) (o : Option (Progress S)) (s : State P S H) → NamesNot b o (f s.control.program) s.control.shared → IsClear d s → IsClear d (steps_by f t b o s).told.state
    steps_by_keeps (Some b) o s none clear = gone_on_keeps s clear
    steps_by_keeps None None s none clear = gone_on_keeps s clear
    steps_by_keeps None (Some p) s none clear =
        let x = (f s.control.program).step p.state s.control.shared p.owed in
        let g : Progress S → Progress S = λ y. record y { state = x.state; owed = answer.None } in
        begun_keeps x.call (controlled (goes_on t g) (controlled (shares x.shared) s)) none (goes_stays d t g (λ y. refl) (controlled (shares x.shared) s) clear)

    owes_keep : (n : Next) → Stays d {P = P} {S = S} {H = H} (owes_after t n)
    owes_keep (next.Done a) s clear = goes_stays d t (owing a) (λ p. refl) s clear
    owes_keep (next.Yields a) s clear = goes_stays d t (owing a) (λ p. refl) s clear
    owes_keep n s clear = clear

    step_keeps : (x : Turn) (s : State P S H) → NamesNot (blocked_of s.control t) (s.control.threads.progress t) (f s.control.program) s.control.shared → IsClear d s → IsClear d (steps f x t s).state
    unfolding steps
    step_keeps x s none clear = let w = steps_on f t s in owes_keep w.next w.told.state (steps_by_keeps (blocked_of s.control t) (s.control.threads.progress t) s none clear)

  -- ---- the other parts

  woken_keep : (ts : List ℕ) → Keeps d {P = P} {S = S} {H = H} (all_woken ts)
  unfolding all_woken woken is_ready_at leaves_queue sets enters
  woken_keep [] s clear = clear
  woken_keep (t ∷ ts) s clear = woken_keep ts (woken t s).state clear

  looks_stay : (s : State P S H) → IsClear d s → IsClear d (controlled (looks f s) s)
  unfolding looks each
  looks_stay s clear =
      let es = flat_map (awaited_events s.control) (waiting s.control) in
      (clear.0, λ e. event_if d (ring_holds e es) (option_map (looked_at f s e) (s.control.events.events e)) (s.control.events.events e) (event_same d (looked_at f s e) (s.control.events.events e) (λ x. refl) (clear.1 e)) (clear.1 e))

  pass_keeps : (s : State P S H) → IsClear d s → IsClear d (pass f s).state
  unfolding pass
  pass_keeps s clear = woken_keep (to_wake f s) (controlled (looks f s) s) (looks_stay s clear)

  readies_stay : (ts : List ℕ) → Stays d {P = P} {S = S} {H = H} (readies_all ts)
  unfolding readies_all readies is_ready_at leaves_queue sets enters
  readies_stay [] s clear = clear
  readies_stay (t ∷ ts) s clear = readies_stay ts (controlled (readies t) s) clear

  taken_keeps : (x : Turn) (o : Option ℕ) (s : State P S H) → IsClear d s → IsClear d (takes_by x o s).state
  unfolding dispatches runs trails leaves_queue sets
  taken_keeps x None s clear = clear
  taken_keeps x (Some t) s clear = clear

  takes_keeps : (x : Turn) (s : State P S H) → IsClear d s → IsClear d (takes x s).state
  unfolding takes
  takes_keeps x s clear =
      let u = controlled readies_new s in
      taken_keeps x (chosen u.control.scheduler.preferred (queue u.control Ready)) u (readies_stay (reverse (holders (queue s.control New))) s clear)

  put_stays : (t : ℕ) (r : Option ℕ) (b : Option Blocked) → Stays d {P = P} {S = S} {H = H} (placed_by t r b)
  unfolding is_put_back is_put_waiting sets enters
  put_stays t None b s clear = clear
  put_stays t (Some r) (Some b) s clear = clear
  put_stays t (Some r) None s clear = clear

  closes_keeps : (x : Turn) (t : ℕ) (s : State P S H) → IsClear d s → IsClear d (closes f x t s).state
  unfolding closes is_placed raises_ready
  closes_keeps x t s clear = pass_keeps (controlled (turn_ends t) s) (put_stays t s.control.scheduler.running (blocked_of s.control t) (controlled raises_ready s) clear)

  moves_keeps : (x : Turn) (o : Option ℕ) (s : State P S H) → IsClear d s → IsClear d (moves_by f x o s).state
  moves_keeps x None s clear = clear
  moves_keeps x (Some m) s clear = pass_keeps (tells (mark.Moved m) (controlled (moves_to m) s)).state clear

  part_keeps : (x : Turn) (s : State P S H) (a : Part) → ((t : ℕ) → a ≡ Step t → NamesNot t (blocked_of s.control t) (s.control.threads.progress t) (f s.control.program) s.control.shared) → IsClear d s → IsClear d (part_by f x s a).state
  unfolding moves
  part_keeps x s Move none clear = moves_keeps x (moment f s) s clear
  part_keeps x s Take none clear = takes_keeps x s clear
  part_keeps x s (Step t) none clear = step_keeps t x s (none t refl) clear
  part_keeps x s (Close t) none clear = closes_keeps x t s clear
  part_keeps x s Halt none clear = clear

  start_clear : (g : Given P) → IsClear d (start f g)
  unfolding start
  start_clear g = (progress_put d (λ t. None) 1 (Some (record { state = (f g.program).start 0 (pos 0); owed = answer.None; blocked = None })) (λ t. refl) refl, λ e. refl)

  pub run_clear : (g : Given P) (i : ℕ) → ((j t : ℕ) → j < i → let s = (run f g j).state in next_part s (run f g j).turn ≡ Step t → NamesNot t (blocked_of s.control t) (s.control.threads.progress t) (f s.control.program) s.control.shared) → IsClear d (run f g i).state
  unfolding parts part
  run_clear g zero none = start_clear g
  run_clear g (suc i) none =
      let c = run f g i in
      part_keeps c.turn c.state (next_part c.state c.turn) (λ t next. none i t (lt-suc_self i) next) (run_clear g i (λ j t before. none j t (lt_trans before (lt-suc_self i))))
