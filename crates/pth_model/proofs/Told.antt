-- Each piece of a run gives the resources what its marks say.
use Rattle.std.proofs.Common.{◌≡◌, ◌∙◌, ℕ, ℤ, pos, zero, suc, Bool, true, false, List, [], ◌∷◌, ◌++◌, Option, Some, None, refl, ap, sym, ◌+◌, ◌*◌, not, if◌then◌else◌}
use Rattle.pth_model.specs.declared.awaits.Retake.{Retake}
use Rattle.pth_model.specs.declared.awaits.Retake.TheVariants as retake
use Rattle.pth_base.specs.Program.{Functions}
use Rattle.pth_base.specs.declared.call.Call.{Call}
use Rattle.pth_base.specs.declared.call.Call.TheVariants as call
use Rattle.pth_base.specs.declared.mark.Mark.{Mark}
use Rattle.pth_base.specs.declared.query.Query.{Query}
use Rattle.pth_base.specs.declared.query.Query.TheVariants as query
use Rattle.pth_base.specs.declared.mark.Mark.TheVariants as mark
use Rattle.pth_queue.specs.declared.queue.Queue.TheVariants as queues
use Rattle.pth_model.specs.declared.blocked.Blocked.{Blocked}
use Rattle.pth_model.specs.declared.awaits.Awaits.{Awaits}
use Rattle.pth_model.specs.declared.awaits.Awaits.TheVariants.{Round, Notice, Retaking}
use Rattle.pth_cond.specs.Barriers.{has_passed, round_answer, round_answered, waits_at, withdrawn}
use Rattle.pth_lock.specs.Objects.{object_named}
use Rattle.pth_base.specs.declared.answer.Answer.TheVariants.{Int}
use Rattle.pth_model.specs.Awaits.{awaits_in, round_in}
use Rattle.pth_model.specs.Barriers.{tries_round, withdraws, withdraws_from}
use Rattle.pth_model.specs.declared.progress.Progress.{Progress}
use Rattle.pth_model.specs.Resources.{told, told_all}
use Rattle.pth_model.specs.Store.{Resources, no_resources}
use Rattle.pth_model.specs.LibraryControl.{ctrl}
use Rattle.pth_model.specs.declared.verdict.Verdict.{Verdict}
use Rattle.pth_model.specs.declared.verdict.Verdict.TheVariants.{Says, Yields, Blocks, Ends, Kills}
use Rattle.pth_model.specs.Verdict.{says, by_result}
use Rattle.pth_model.specs.State.{State, queue, Given, Turn, start, Control}
use Rattle.pth_model.specs.Transition.{Transition, Piece, Change, Last, silent, changes, tells, tells_each, tid, controlled, where_so, ◌and◌, ◌and_then◌, ◌and_finally◌, nothing}
use Rattle.pth_model.specs.Changes.{shares, uses, sets, removes, entry_of, or_nobody, blocked_of, with_barriers, with_events}
use Rattle.pth_model.specs.Living.{is_dead}
use Rattle.pth_model.specs.ThreadControl.{thread}
use Rattle.pth_threads.specs.declared.entry.Change.TheVariants as change
use Rattle.pth_model.specs.Cancellation.{canceled_value, is_asynchronous, is_to_cancel, may_be_canceled, takes_request, canceled_by_other, aborted}
use Rattle.pth_model.specs.Row.{Attempt, effect_of, refuses, unless_refused, ◌trying◌}
use Rattle.pth_model.specs.Rows.{row_of}
use Rattle.pth_model.specs.Mutexes.{mutex_release}
use Rattle.pth_model.specs.Ending.{ending, undoes_wait, dies, runs_each, runs_cleanups, runs_destructor, runs_destructors, destructs, destructs_by, next_destructor, round_limit, first_round, gives_mutexes, gives_locks, gives_all}
use Rattle.pth_model.specs.declared.destructors.Due.{Due}
use Rattle.pth_model.specs.declared.destructors.DestructorRound.{DestructorRound}
use Rattle.pth_model.specs.Conditions.{cond_notify, can_take, is_noticed, leaves_seat, hands_on_seats}
use Rattle.pth_model.specs.Acts.{acts, acts_by, acts_from, act_limit, answer_in, handled, goes_on_after, runs_handler}
use Rattle.pth_model.specs.KeyStorage.{key_set}
use Rattle.pth_model.specs.Ports.{port_put}
use Rattle.pth_model.specs.Cleanups.{runs_pushed, last_pushed}
use Rattle.pth_model.specs.Resources.{handler}
use Rattle.pth_base.specs.declared.act.Act.{Act}
use Rattle.pth_base.specs.declared.act.Act.TheVariants as act
use Rattle.pth_base.specs.declared.ids.HandlerId.{HandlerId}
use Rattle.pth_store.specs.Cleanups.{PushedHandler}
use Rattle.pth_store.specs.Keys.{key_limit}
use Rattle.pth_model.specs.Calls.{begun, begun_by, gone_on, gone_on_where, canceled_by, tried_again, tried_again_by, tried_by, unless_settled, interrupted, retaken_as, retakes_where, ends_await, awaits_on_where, awaits_on, gone_on_in, gone_on_by, retakes}
use Rattle.pth_model.specs.RingWaits.{awaited_in, ring_given, has_settled, stops_waiting, extra_ring}
use Rattle.pth_model.specs.EventHandling.{spec_of, made_as, make_event, chain}
use Rattle.pth_base.specs.declared.event.EvLine.{EvLine}
use Rattle.pth_numbered.specs.Operands.{number, is_zero}
use Rattle.pth_ring.specs.Rings.{make_answer, chain_answer, alone, chained}
use Rattle.pth_base.specs.declared.event.EventSpec.{EventSpec}
use Rattle.pth_base.specs.declared.event.EvLine.TheVariants as line
use Rattle.pth_model.specs.Course.{Course}
use Rattle.pth_model.specs.Pass.{pass, woken, all_woken, to_wake, moment}
use Rattle.pth_model.specs.Part.{Part, Move, Take, Step, Close, Halt, part, part_by, next_part, moves, moves_by, takes, takes_by, dispatches, chosen, readies_new, steps, steps_by, closes}
use Rattle.pth_model.specs.Run.{parts, run}

-- what a list tells after another
pub told_more : (k : Resources) (xs ys : List Mark) → told_all k (xs ++ ys) ≡ told_all (told_all k xs) ys
told_more k [] ys = refl
told_more k (x ∷ xs) ys = told_more (told k x) xs ys

module _ {P S H : Type 0} where
  -- what comes of these resources is what is told
  abbrev Tells : Resources → Transition P S H → Type 0
  Tells k x = x.state.resources ≡ told_all k x.marks

  -- a piece gives the resources what its marks say
  abbrev IsTold : Piece P S H → Type 0
  IsTold a = (s : State P S H) → Tells s.resources (a s)

  abbrev LastTold : Last P S H → Type 0
  LastTold a = (s : State P S H) → Tells s.resources (a s).told

  then_told : (a b : Piece P S H) → IsTold a → IsTold b → IsTold (a and_then b)
  then_told a b x y s = y (a s).state ∙ ap (λ (k : Resources). told_all k (b (a s).state).marks) (x s) ∙ sym (told_more s.resources (a s).marks (b (a s).state).marks)

  finally_told : (a : Piece P S H) (b : Last P S H) → IsTold a → LastTold b → LastTold (a and_finally b)
  finally_told a b x y s = y (a s).state ∙ ap (λ (k : Resources). told_all k (b (a s).state).told.marks) (x s) ∙ sym (told_more s.resources (a s).marks (b (a s).state).told.marks)

  unless_told : (b : Bool) (a : Piece P S H) → IsTold a → IsTold (unless_refused b a)
  unless_told true a x s = refl
  unless_told false a x s = x s

module _ {P S H : Type 0} (f : P → Functions S H) where
  module _ (t : ℕ) where
    -- handlers, and an ending

    attempt_told : (x : Act) (a : Attempt P S H) → IsTold a.effect → IsTold (acts_by t x a)
    attempt_told x a known = then_told (effect_of a) (tells (mark.Acted (tid t) x (answer_in a.verdict))) (unless_told (refuses a.verdict) a.effect known) (λ u. refl)

    act_told : (x : Act) → IsTold (acts {P = P} {S = S} {H = H} t x)
    unfolding acts
    act_told (act.SetKey k v) s = attempt_told (act.SetKey k v) (key_set s k).begin (λ u. refl) s
    act_told (act.Release m) s = attempt_told (act.Release m) (mutex_release s t m).begin (λ u. refl) s
    act_told (act.Notify c v) s = attempt_told (act.Notify c v) (cond_notify s c v).begin (λ u. refl) s
    act_told (act.Put p v) s = attempt_told (act.Put p v) (port_put s p (pos 0)).begin (λ u. refl) s
    act_told x s = refl

    look_told : (x : Option Act) (next : Piece P S H) → IsTold next → IsTold (goes_on_after t x next)
    look_told None next known s = refl
    look_told (Some x) next known s = then_told (acts t x) next (act_told x) known s

    acts_told : (h : HandlerId) (v : ℤ) (n i : ℕ) → IsTold (acts_from f t h v n i)
    unfolding acts_from
    acts_told h v zero i s = refl
    acts_told h v (suc n) i s =
        let x = (f s.control.program).act h.0 v i s.control.shared in
        look_told x.act (acts_from f t h v n (i + 1)) (acts_told h v n (i + 1)) (controlled (shares x.shared) s)

    handler_told : (h : HandlerId) (v : ℤ) → IsTold (runs_handler f t h v)
    handler_told h v = then_told (tells (mark.Handler (tid t) h v)) (handled f t h v) (λ u. refl) (acts_told h v (suc act_limit) 0)

    each_told : (cs : List PushedHandler) → IsTold (runs_each f t cs)
    unfolding runs_each
    each_told [] s = refl
    each_told (c ∷ cs) s = then_told (runs_handler f t c.0 c.1) (runs_each f t cs) (handler_told c.0 c.1) (each_told cs) s

    by_due_told : (o : Option Due) (next : DestructorRound → Piece P S H) → ((r : DestructorRound) → IsTold (next r)) → IsTold (destructs_by f t o next)
    by_due_told None next known s = refl
    by_due_told (Some d) next known s =
        then_told (runs_destructor f t d) (next d.round)
        (then_told (tells (mark.Destructor (tid t) d.key d.value)) (handled f t d.handler d.value) (λ u. refl) (acts_told d.handler d.value (suc act_limit) 0))
        (known d.round) s

    destructs_told : (n : ℕ) (r : DestructorRound) → IsTold (destructs f t n r)
    unfolding destructs
    destructs_told zero r s = refl
    destructs_told (suc n) r s = by_due_told (next_destructor s.resources.store.keys t r) (destructs f t n) (destructs_told n) s

    -- its arrival is taken back, and its wait undone
    where_told_back : (b : Bool) (x : ℤ) → IsTold {P = P} {S = S} {H = H} (where_so b (changes (with_barriers (withdrawn x t)) and_then tells (mark.Withdrew (tid t) (object_named x))))
    where_told_back true x s = refl
    where_told_back false x s = refl

    withdraws_told : (a : Awaits) → IsTold {P = P} {S = S} {H = H} (withdraws_from t a)
    unfolding withdraws_from withdraws
    withdraws_told (Round b round) s = where_told_back (waits_at s.control.barriers b t) b s
    withdraws_told a s = refl

    undone_told : IsTold {P = P} {S = S} {H = H} (undoes_wait t)
    undone_told s = then_told (withdraws_from t (awaits_in (blocked_of s.control t))) (changes (hands_on_seats t (awaited_in (blocked_of s.control t)) and stops_waiting t)) (withdraws_told (awaits_in (blocked_of s.control t))) (λ u. refl) s

    marks_told : (ms : List Mark) → IsTold {P = P} {S = S} {H = H} (tells_each ms)
    unfolding tells_each
    marks_told [] s = refl
    marks_told (m ∷ ms) s = then_told (tells m) (tells_each ms) (λ u. refl) (marks_told ms) s

    ending_told : (v : ℤ) → IsTold (ending f t v)
    unfolding ending
    ending_told v =
        then_told (undoes_wait t) (runs_cleanups f t and_then runs_destructors f t and_then gives_all t and_then dies t v) undone_told
        (then_told (runs_cleanups f t) (runs_destructors f t and_then gives_all t and_then dies t v) (λ u. each_told (u.resources.store.cleanups t) u)
        (then_told (runs_destructors f t) (gives_all t and_then dies t v) (destructs_told (round_limit * key_limit) first_round)
        (then_told (gives_all t) (dies t v) (then_told (gives_mutexes t) (gives_locks t) (λ u. marks_told _ u) (λ u. marks_told _ u)) (λ u. refl))))

  module _ (t : ℕ) where
    -- calls, and steps

    pops_told : (o : Option PushedHandler) (b : Bool) → IsTold (where_so b (runs_pushed f t o))
    pops_told o false s = refl
    pops_told None true s = refl
    pops_told (Some c) true s = handler_told t c.0 c.1 s

    once_told : (o : ℕ) (h : HandlerId) (v : ℤ) (b : Bool) → IsTold (where_so b (changes (uses o) and_then runs_handler f t h v))
    once_told o h v false s = refl
    once_told o h v true s = then_told (changes (uses o)) (runs_handler f t h v) (λ u. refl) (handler_told t h v) s

    -- another thread is canceled, or asked to end; t takes a request up

    other_told : (u : ℕ) → IsTold (canceled_by_other f u)
    other_told u = then_told (tells (mark.Canceled (tid u) None)) (ending f u canceled_value) (λ x. refl) (ending_told u canceled_value)

    cancels_told : (u : ℕ) (b : Bool) → IsTold (if b then canceled_by_other f u else changes (sets u (change.Request true)))
    cancels_told u true s = other_told u s
    cancels_told u false s = refl

    aborts_told : (u : ℕ) (b : Bool) → IsTold (if b then changes (removes u) else aborted f u)
    aborts_told u true s = refl
    aborts_told u false s = then_told (changes (sets u (change.Joinable false) and sets u (change.Cancel 3))) (canceled_by_other f u) (λ x. refl) (other_told u) s

    takes_told : (c : Call) → IsTold (takes_request {P = P} {S = S} {H = H} t c)
    takes_told c s = refl

    points_told : (b : Bool) → IsTold (where_so b (takes_request {P = P} {S = S} {H = H} t call.CancelPoint))
    points_told true s = refl
    points_told false s = refl

    ctrl_tells : (s : State P S H) (x : Query) → IsTold (ctrl s x).begin.effect
    ctrl_tells s query.Threads u = refl
    ctrl_tells s x u = refl

    made_tells : (spec : Option EventSpec) (v : EventSpec → Verdict) (g : EventSpec → Change P S H) → IsTold (made_as spec v g).begin.effect
    made_tells None v g u = refl
    made_tells (Some spec) v g u = refl

    made_tells_again : (spec : Option EventSpec) (v : EventSpec → Verdict) (g : EventSpec → Change P S H) (b : Awaits) → IsTold ((made_as spec v g).again b).effect
    made_tells_again None v g b u = refl
    made_tells_again (Some spec) v g b u = refl

    make_tells : (s : State P S H) (l : EvLine) → IsTold (make_event s l).begin.effect
    make_tells s l = made_tells (spec_of l) (λ x. by_result says (make_answer s.control.events)) (λ x. with_events (alone x))

    chain_tells : (s : State P S H) (e : ℤ) (l : EvLine) → IsTold (chain s e l).begin.effect
    chain_tells s e l = made_tells (spec_of l) (λ x. by_result says (chain_answer s.control.events (number e))) (λ x. with_events (chained x (number e)))

    make_tells_again : (s : State P S H) (l : EvLine) (b : Awaits) → IsTold ((make_event s l).again b).effect
    make_tells_again s l = made_tells_again (spec_of l) (λ x. by_result says (make_answer s.control.events)) (λ x. with_events (alone x))

    chain_tells_again : (s : State P S H) (e : ℤ) (l : EvLine) (b : Awaits) → IsTold ((chain s e l).again b).effect
    chain_tells_again s e l = made_tells_again (spec_of l) (λ x. by_result says (chain_answer s.control.events (number e))) (λ x. with_events (chained x (number e)))

    -- what a call does beside its answer is a change, which is not told
    effect_tells : (s : State P S H) (c : Call) → IsTold (row_of f s t c).begin.effect
    unfolding row_of
    effect_tells s (call.Ctrl x) = ctrl_tells s x
    effect_tells s (call.EvFd goals fd) = make_tells s (line.Fd goals fd)
    effect_tells s (call.EvSelect r w x) = make_tells s (line.Select r w x)
    effect_tells s (call.EvTime m) = make_tells s (line.Time m)
    effect_tells s (call.EvMsg p) = make_tells s (line.Msg p)
    effect_tells s (call.EvCond c) = make_tells s (line.Cond c)
    effect_tells s (call.EvTid state n) = make_tells s (line.Tid state n)
    effect_tells s (call.EvFunc c v l) = make_tells s (line.Func c v l)
    effect_tells s (call.Chain e l) = chain_tells s e l
    effect_tells s (call.CleanupPop v) = pops_told (last_pushed f s t) (not (is_zero v))
    effect_tells s (call.Once o h v) = once_told (number o) (handler h) v (not (s.control.used (number o)))
    effect_tells s (call.Cancel n) = cancels_told (number n) (is_asynchronous (or_nobody (thread s.control n)).cancel)
    effect_tells s (call.Abort n) = aborts_told (number n) (is_dead (or_nobody (thread s.control n)).state)
    effect_tells s call.CancelPoint = points_told (is_to_cancel (or_nobody (entry_of s.control t)))
    effect_tells s c = λ u. refl

    effect_told : (s : State P S H) (c : Call) → IsTold (effect_of (row_of f s t c).begin)
    effect_told s c = unless_told (refuses (row_of f s t c).begin.verdict) (row_of f s t c).begin.effect (effect_tells s c)

    ctrl_tells_again : (s : State P S H) (x : Query) (b : Awaits) → IsTold ((ctrl s x).again b).effect
    ctrl_tells_again s query.Threads b u = refl
    ctrl_tells_again s x b u = refl

    -- t's round is tried again
    round_tells : (s : State P S H) (b : ℤ) (round : ℕ) → IsTold (tries_round s t b round).effect
    round_tells s b round = by_round (has_passed s.control.barriers b round)
      where
        by_round : (passed : Bool) → IsTold {P = P} {S = S} {H = H} (if passed then (Says (Int (round_answer s.control.barriers b round t)) trying changes (with_barriers (round_answered b round t))) else (Blocks (Round b round) trying silent)).effect
        by_round true u = refl
        by_round false u = refl

    again_tells : (s : State P S H) (c : Call) (b : Awaits) → IsTold ((row_of f s t c).again b).effect
    unfolding row_of
    again_tells s (call.Ctrl x) b = ctrl_tells_again s x b
    again_tells s (call.EvFd goals fd) b = make_tells_again s (line.Fd goals fd) b
    again_tells s (call.EvSelect r w x) b = make_tells_again s (line.Select r w x) b
    again_tells s (call.EvTime m) b = make_tells_again s (line.Time m) b
    again_tells s (call.EvMsg p) b = make_tells_again s (line.Msg p) b
    again_tells s (call.EvCond c) b = make_tells_again s (line.Cond c) b
    again_tells s (call.EvTid state n) b = make_tells_again s (line.Tid state n) b
    again_tells s (call.EvFunc c v l) b = make_tells_again s (line.Func c v l) b
    again_tells s (call.Chain e l) b = chain_tells_again s e l b
    again_tells s (call.BarrierReach c) b = round_tells s c (round_in b)
    again_tells s c b = λ u. refl

    again_told : (s : State P S H) (c : Call) (b : Awaits) → IsTold (effect_of ((row_of f s t c).again b))
    again_told s c b = unless_told (refuses ((row_of f s t c).again b).verdict) ((row_of f s t c).again b).effect (again_tells s c b)

    begun_by_told : (c : Call) (v : Verdict) → LastTold (begun_by f t c v)
    begun_by_told c (Says x) s = refl
    begun_by_told c (Yields x) s = refl
    begun_by_told c (Blocks a) s = refl
    begun_by_told c (Ends v) s = ending_told t v s
    begun_by_told c Kills s = refl

    begun_told : (c : Call) → LastTold (begun f t c)
    unfolding begun
    begun_told call.Plain s = refl
    begun_told (call.Note v) s = refl
    begun_told c s =
        let a = (row_of f s t c).begin in
        finally_told (effect_of a) (begun_by f t c a.verdict) (effect_told s c) (begun_by_told c a.verdict) s

    come_told : (s : State P S H) (c : Call) (b : Awaits) (come : Bool) → IsTold (effect_of (unless_settled come ((row_of f s t c).again b)))
    come_told s c b false = again_told s c b
    come_told s c b true = unless_told (refuses (interrupted ((row_of f s t c).again b).verdict)) ((row_of f s t c).again b).effect (again_tells s c b)

    tried_by_told : (b : Blocked) (v : Verdict) → LastTold (tried_by f t b v)
    tried_by_told b (Says x) s = refl
    tried_by_told b (Yields x) s = refl
    tried_by_told b (Blocks a) s = refl
    tried_by_told b (Ends v) s = ending_told t v s
    tried_by_told b Kills s = refl

    tried_again_by_told : (s : State P S H) (b : Option Blocked) → Tells s.resources (tried_again_by f t b s).told
    tried_again_by_told s None = refl
    tried_again_by_told s (Some b) =
        let come = has_settled s.control.events (ring_given b.call) in
        let a = unless_settled come ((row_of f s t b.call).again b.awaits) in
        finally_told (effect_of a) (tried_by f t b a.verdict) (come_told s b.call b.awaits come) (tried_by_told b a.verdict) s

    canceled_told : (b : Option Blocked) → LastTold (canceled_by f t b)
    canceled_told None s = refl
    canceled_told (Some b) s = then_told (takes_request t b.call) (ending f t canceled_value) (takes_told b.call) (ending_told t canceled_value) s

    where_told : (b : Bool) → LastTold (gone_on_where f t b)
    unfolding tried_again
    where_told true s = canceled_told (blocked_of s.control t) s
    where_told false s = tried_again_by_told s (blocked_of s.control t)

    retaken_told : (c : Call) (m : ℤ) (o : Retake) → LastTold (retaken_as f t c m o)
    retaken_told c m retake.Notified s = refl
    retaken_told c m retake.Interrupted s = refl
    retaken_told c m retake.Canceled s = then_told (tells (mark.Took (tid t) (object_named m))) (ending f t canceled_value) (λ u. refl) (ending_told t canceled_value) s

    retakes_told : (b : Bool) (c : Call) (m : ℤ) (o : Retake) → LastTold (retakes_where f t b c m o)
    retakes_told true c m o s = retaken_told c m o s
    retakes_told false c m o s = refl

    await_ends_told : (g : Control P S H → Control P S H) (c : Call) (m : ℤ) (o : Retake) → LastTold (ends_await f t g c m o)
    await_ends_told g c m o s = finally_told (changes (g and stops_waiting t)) (retakes f t c m o) (λ u. refl) (λ u. retakes_told (can_take u t m) c m o u) s

    awaits_where_told : (asked noticed settled : Bool) (k : Call) (c m : ℤ) → LastTold (awaits_on_where f t asked noticed settled k c m)
    awaits_where_told true noticed settled k c m s = finally_told (takes_request t k) (ends_await f t (hands_on_seats t (record { what = Notice c; ring = ring_given k })) k m retake.Canceled) (takes_told k) (await_ends_told (hands_on_seats t (record { what = Notice c; ring = ring_given k })) k m retake.Canceled) s
    awaits_where_told false true settled k c m s = await_ends_told (leaves_seat t (Notice c)) k m retake.Notified s
    awaits_where_told false false true k c m s = await_ends_told (leaves_seat t (Notice c)) k m retake.Interrupted s
    awaits_where_told false false false k c m s = refl

    awaits_on_told : (c m e : ℤ) (a : Awaits) → LastTold (awaits_on f t c m e a)
    awaits_on_told c m e (Retaking n o) s = await_ends_told nothing (call.CondAwait c m e) m o s
    awaits_on_told c m e a s = awaits_where_told (may_be_canceled s.control t) (is_noticed s t c) (has_settled s.control.events (extra_ring e)) (call.CondAwait c m e) c m s

    gone_on_in_told : (c : Call) (a : Awaits) → LastTold (gone_on_in f t c a)
    gone_on_in_told (call.CondAwait c m e) a s = awaits_on_told c m e a s
    gone_on_in_told c a s = where_told (may_be_canceled s.control t) s

    gone_on_by_told : (b : Option Blocked) → LastTold (gone_on_by f t b)
    gone_on_by_told None s = refl
    gone_on_by_told (Some b) s = gone_on_in_told b.call b.awaits s

    gone_on_told : LastTold (gone_on f t)
    unfolding gone_on
    gone_on_told s = gone_on_by_told (blocked_of s.control t) s

    steps_by_told : (b : Option Blocked) (p : Option (Progress S)) → LastTold (steps_by f t b p)
    steps_by_told (Some b) p s = gone_on_told s
    steps_by_told None None s = gone_on_told s
    steps_by_told None (Some p) s = begun_told _ _

    steps_told : (x : Turn) (s : State P S H) → (steps f x t s).state.resources ≡ told_all s.resources (steps f x t s).marks
    unfolding steps
    steps_told x s = steps_by_told (blocked_of s.control t) (s.control.threads.progress t) s

  woken_told : (t : ℕ) → IsTold (woken {P = P} {S = S} {H = H} t)
  unfolding woken
  woken_told t s = refl

  all_woken_told : (ts : List ℕ) → IsTold (all_woken {P = P} {S = S} {H = H} ts)
  unfolding all_woken
  all_woken_told [] s = refl
  all_woken_told (t ∷ ts) s = then_told (woken t) (all_woken ts) (woken_told t) (all_woken_told ts) s

  pass_told : IsTold (pass f)
  unfolding pass
  pass_told s = all_woken_told (to_wake f s) _

  abbrev CourseTold : State P S H → Course P S H → Type 0
  CourseTold s c = c.state.resources ≡ told_all s.resources c.marks

  takes_by_told : (x : Turn) (o : Option ℕ) (s : State P S H) → CourseTold s (takes_by x o s)
  unfolding dispatches
  takes_by_told x None s = refl
  takes_by_told x (Some t) s = refl

  moves_by_told : (x : Turn) (o : Option ℕ) (s : State P S H) → CourseTold s (moves_by f x o s)
  moves_by_told x None s = refl
  moves_by_told x (Some m) s = pass_told _

  part_by_told : (x : Turn) (s : State P S H) (p : Part) → CourseTold s (part_by f x s p)
  unfolding takes moves closes
  part_by_told x s Move = moves_by_told x (moment f s) s
  part_by_told x s Take = takes_by_told x (chosen (readies_new s.control).scheduler.preferred (queue (readies_new s.control) queues.Ready)) (controlled readies_new s)
  part_by_told x s (Step t) = steps_told t x s
  part_by_told x s (Close t) = pass_told _
  part_by_told x s Halt = refl

  part_told : (x : Turn) (s : State P S H) → CourseTold s (part f x s)
  unfolding part
  part_told x s = part_by_told x s (next_part s x)

  pub run_told : (g : Given P) (i : ℕ) → (run f g i).state.resources ≡ told_all no_resources (run f g i).marks
  unfolding start parts
  run_told g zero = refl
  run_told g (suc i) =
      let c = run f g i in
      let next = part f c.turn c.state in
      part_told c.turn c.state ∙ ap (λ (k : Resources). told_all k next.marks) (run_told g i) ∙ sym (told_more no_resources c.marks next.marks)
