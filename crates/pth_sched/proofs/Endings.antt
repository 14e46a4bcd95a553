-- A run ends with main's value where main is alone.
use Rattle.std.proofs.Common.{◌≡◌, ℕ, ◌==◌, ◌&&◌, ◌||◌, not, ◌+◌, nat_lt, nat_le, length, if◌then◌else◌, ℤ, pos, Bool, true, false, Option, Some, None, is_none, Result, Ok, Err, refl, sym, ap, ◌∙◌, subst, append_assoc, List, [], ◌∷◌, ◌++◌}
use Rattle.pth_port.specs.Mail.{port_create_answer, port_find_answer, port_pending_answer, port_put_answer, port_get_answer, reply_answer, port_destroy_answer}
use Rattle.pth_model.proofs.Walks.{retakes_oddly}
use Rattle.pth_model.specs.Conditions.{begins_await, can_take, is_noticed, leaves_seat}
use Rattle.pth_base.proofs.Tables.{same_means}
use Rattle.pth_base.specs.Program.{Functions}
use Rattle.pth_base.specs.declared.call.Call.{Call}
use Rattle.pth_base.specs.declared.call.Call.TheVariants as call
use Rattle.pth_base.specs.declared.mark.Mark.{Mark}
use Rattle.pth_base.specs.declared.mark.Mark.TheVariants.{Ended as End}
use Rattle.pth_base.specs.declared.outcome.Outcome.TheVariants.{Running, Ended}
use Rattle.pth_queue.specs.declared.queue.Queue.TheVariants as queues
use Rattle.pth_model.specs.declared.awaits.Awaits.{Awaits}
use Rattle.pth_model.specs.declared.awaits.Retake.{Retake}
use Rattle.pth_model.specs.declared.awaits.Retake.TheVariants as retake
use Rattle.pth_model.specs.declared.awaits.Awaits.TheVariants.{Nothing, Alone, Moment, Ring, Reading, Writing, Connection, ConnectAnswer, Selection, Mutex, Lock, Round, Notice, Retaking}
use Rattle.pth_model.specs.declared.blocked.Blocked.{Blocked}
use Rattle.pth_model.specs.declared.next.Next.{Next}
use Rattle.pth_model.specs.declared.next.Next.TheVariants as next
use Rattle.pth_model.specs.declared.progress.Progress.{Progress}
use Rattle.pth_model.specs.declared.verdict.Verdict.{Verdict}
use Rattle.pth_model.specs.declared.verdict.Verdict.TheVariants.{Says, Yields, Blocks, Ends, Kills}
use Rattle.pth_model.specs.Verdict.{refused, says, done, by_result, said_or, taken_or, refused_as◌otherwise◌}
use Rattle.pth_numbered.specs.Clauses.{count_or, ◌when◌otherwise◌}
use Rattle.pth_model.specs.State.{State, Control, Given, Turn, start, queue, present, main, now_of, once_limit}
use Rattle.pth_model.specs.Transition.{Change, Went, changes, silent, tid, controlled, ◌and◌}
use Rattle.pth_base.specs.declared.answer.Answer.{Answer}
use Rattle.pth_base.specs.declared.answer.Answer.TheVariants.{Int, Text, Fail, Msg}
use Rattle.pth_base.specs.declared.errno.Errno.{Errno}
use Rattle.pth_base.specs.declared.errno.Errno.TheVariants.{EINVAL, EAGAIN, EBUSY, EINTR, ESRCH, EPERM, EDEADLK, EBADF}
use Rattle.pth_base.specs.declared.query.Query.{Query}
use Rattle.pth_base.specs.declared.query.Query.TheVariants as query
use Rattle.pth_model.specs.ThreadControl.{spawn, values_for, suspend, resume, yield, join_attempt, joined, to_join, thread, is_known, has_room, may_run}
use Rattle.pth_model.specs.Living.{is_dead}
use Rattle.pth_numbered.specs.Operands.{named, number, is_below, is_zero, ◌is◌, ◌is_from◌to◌}
use Rattle.pth_model.specs.Pass.{moment}
use Rattle.pth_model.specs.LibraryControl.{kill, ctrl, running_count}
use Rattle.pth_model.specs.Cancellation.{canceled_value, is_to_cancel, is_at_point, may_be_canceled, cancel_state, cancel, abort}
use Rattle.pth_model.specs.AttributeHandling.{object, answer_of}
use Rattle.pth_threads.specs.Attributes.{create_answer, of_answer, init_answer, set_answer, get_answer, destroy_answer}
use Rattle.pth_model.specs.Changes.{blocked_of, goes_on, entry_of, or_nobody, with_barriers, with_events}
use Rattle.pth_model.specs.Course.{Course}
use Rattle.pth_model.specs.Row.{Attempt, effect_of, ◌trying◌}
use Rattle.pth_model.specs.Rows.{row_of}
use Rattle.pth_model.specs.Ending.{ending, undoes_wait, gives_all, runs_cleanups, runs_destructors}
use Rattle.pth_model.specs.Cleanups.{last_pushed}
use Rattle.pth_store.specs.Cleanups.{push_answer}
use Rattle.pth_store.specs.Keys.{key_create_answer, key_delete_answer, key_set_answer, key_get_answer}
use Rattle.pth_model.specs.ThreadEnds.{is_alone, must_wait}
use Rattle.pth_model.specs.Calls.{begun, begun_by, gone_on, gone_on_where, tried_again, tried_again_by, tried_by, unless_settled, interrupted, awaits_on, awaits_on_where, gone_on_by, gone_on_in, retakes_where}
use Rattle.pth_model.specs.EventHandling.{spec_of, made_as, make_event, chain, wait, number_or_none, status_number}
use Rattle.pth_model.specs.RingWaits.{extra_ring, ring_given, has_settled, is_no_ring, is_claimed_ring, stops_waiting}
use Rattle.pth_cond.specs.Barriers.{arrival_answer, barrier_init_answer, has_passed, round_answer, round_answered, taillight}
use Rattle.pth_cond.specs.Conditions.{cond_init_answer, cond_notify_answer, is_initialised}
use Rattle.pth_cond.specs.declared.barriers.Arrival.{Arrival}
use Rattle.pth_cond.specs.declared.barriers.Arrival.TheVariants.{Incomplete, Tail}
use Rattle.pth_model.specs.Barriers.{arrived_as, tries_round}
use Rattle.pth_lock.specs.Mutexes.{mutex_init_answer, mutex_release_answer, mutex_take_answer}
use Rattle.pth_lock.specs.Objects.{object_named}
use Rattle.pth_lock.specs.RwLocks.{holds, lock_init_answer, lock_release_answer, lock_take_answer}
use Rattle.pth_model.specs.Mutexes.{begins_acquiring, is_free}
use Rattle.pth_model.specs.Rwlocks.{begins_entering, is_open}
use Rattle.pth_model.specs.Times.{rest, timeout, is_negative, length_of, moment_after}
use Rattle.pth_ring.specs.Rings.{make_answer, chain_answer, concat_answer, isolate_answer, walk_answer, status_answer, kind_answer, free_answer, claim_answer, settled_in, alone, chained}
use Rattle.pth_base.specs.declared.event.EvLine.{EvLine}
use Rattle.pth_base.specs.declared.event.EvLine.TheVariants as line
use Rattle.pth_base.specs.declared.event.EventSpec.{EventSpec}
use Rattle.pth_base.specs.declared.ids.EventId.{EventId}
use Rattle.pth_kernel.specs.Kernel.{Kernel, fd_named, is_fd_live}
use Rattle.pth_kernel.specs.Modes.{mode_answer}
use Rattle.pth_model.specs.Awaits.{death_of, moment_in, round_in, written_in, is_canceled, is_retaking}
use Rattle.pth_model.specs.Io.{answered_or_waits, trial_for, begins_waiting, tries, at_once, is_refused_length, select_deadline, fdmode, close}
use Rattle.pth_model.specs.Part.{Part, Move, Take, Step, Close, Halt, next_part, part, part_by, moves, moves_by, takes, takes_by, readies_new, chosen, closes, steps, steps_by, steps_on, turn_after, gives_up, ends_run}
use Rattle.pth_model.specs.Run.{run, IsBetween}
use Rattle.pth_model.proofs.Runs.{parts-more, between-none, between-more}
use Rattle.pth_sched.proofs.Unasked.{StaysUp, unasked_main, up_run}

running_ended : (v : ℤ) → Running ≡ Ended v → ⊥
running_ended v h = cc

-- ---- verdicts that end a thread

-- a verdict that does not end its thread
abbrev EndsNot : Verdict → Type 0
EndsNot x = (v : ℤ) → x ≡ Ends v → ⊥

says_on : (a : Answer) → EndsNot (Says a)
says_on a v h = cc h

blocks_on : (a : Awaits) → EndsNot (Blocks a)
blocks_on a v h = cc h

kills_on : EndsNot Kills
kills_on v h = cc h

yields_on : (a : Answer) → EndsNot (Yields a)
yields_on a v h = cc h

-- nor does a row's, whose clauses don't
when_on : (w : Verdict) (b : Bool) (x : Verdict) → EndsNot w → EndsNot x → EndsNot (w when b otherwise x)
when_on w true x first rest = first
when_on w false x first rest = rest

-- a refusal, and then the rest of the row
refused_on : (e : Errno) (b : Bool) (x : Verdict) → EndsNot x → EndsNot (refused e when b otherwise x)
refused_on e b x rest = when_on (refused e) b x (says_on (Fail e)) rest

-- nor does what a part says, or refuses
result_on : {A : Type 0} (say : A → Answer) (r : Result A Errno) → EndsNot (by_result (λ x. Says (say x)) r)
result_on say (Ok x) = says_on (say x)
result_on say (Err e) = says_on (Fail e)

part_on : {A : Type 0} (r : Result A Errno) (x : Verdict) → EndsNot x → EndsNot (refused_as r otherwise x)
part_on (Ok y) x rest = rest
part_on (Err e) x rest = says_on (Fail e)

done_on : (r : Result (Unit {0}) Errno) → EndsNot (by_result done r)
done_on r = result_on (λ (u : Unit {0}). Int (pos 1)) r

-- nor does an arrival at a barrier, or its round
arrived_on : (b : ℤ) (r : Result Arrival Errno) → EndsNot (by_result (arrived_as b) r)
arrived_on b (Ok (Incomplete round)) = blocks_on (Round b round)
arrived_on b (Ok Tail) = says_on (Int taillight)
arrived_on b (Err e) = says_on (Fail e)

module _ {P S H : Type 0} (s : State P S H) (t : ℕ) (b : ℤ) (round : ℕ) where
  abbrev tried_if : Bool → Attempt P S H
  tried_if passed = if passed then (Says (Int (round_answer s.control.barriers b round t)) trying changes (with_barriers (round_answered b round t))) else (Blocks (Round b round) trying silent)

  round_by : (passed : Bool) → EndsNot (tried_if passed).verdict
  round_by true = says_on (Int (round_answer s.control.barriers b round t))
  round_by false = blocks_on (Round b round)

  round_on : EndsNot (tries_round s t b round).verdict
  round_on = round_by (has_passed s.control.barriers b round)

-- nor does an answer that is there, or else what follows
said_on : (a : Option Answer) (x : Verdict) → EndsNot x → EndsNot (said_or a x)
said_on (Some a) x rest = says_on a
said_on None x rest = rest

counts_on : (n : ℕ) (e : Errno) → EndsNot (Says (count_or n e))
counts_on n e = says_on (count_or n e)

-- nor does an attempt at what is awaited of descriptors
answered_on : (o : Option Answer) (a : Awaits) → EndsNot (answered_or_waits o a)
answered_on o a = said_on o (Blocks a) (blocks_on a)

trial_on : (k : Kernel) (a : Awaits) → EndsNot (trial_for k a).verdict
trial_on k (Reading f n) = answered_on _ (Reading f n)
trial_on k (Writing f total done) = answered_on _ (Writing f total _)
trial_on k (Connection f) = answered_on _ (Connection f)
trial_on k (ConnectAnswer f) = answered_on _ (ConnectAnswer f)
trial_on k (Selection r w x deadline) = answered_on _ (Selection r w x deadline)
trial_on k a = blocks_on a

joined_on : {P S H : Type 0} (k : Control P S H) (n : ℤ) (o : Option ℕ) → EndsNot (joined k n o)
joined_on k n None = blocks_on (death_of n)
joined_on k n (Some t) = says_on (Int (or_nobody (entry_of k t)).value)

module _ {P S H : Type 0} (f : P → Functions S H) (s : State P S H) (t : ℕ) where
  spawn_on : (b v a : ℤ) → EndsNot (spawn f s t b v a).begin.verdict
  spawn_on b v a =
      let body = not (is_below b (f s.control.program).bodies) in
      let values = values_for s.control t a in
      let room = not (has_room s.control) in
      let made = Int (pos (s.control.threads.made + 1)) in
      refused_on EINVAL body (refused_as values otherwise refused EAGAIN when room otherwise Says made)
      (part_on values (refused EAGAIN when room otherwise Says made) (refused_on EAGAIN room (Says made) (says_on made)))

  suspend_on : (n : ℤ) → EndsNot (suspend s t n).begin.verdict
  suspend_on n =
      let it = or_nobody (thread s.control n) in
      let may = n is t || is_dead it.state || it.suspended in
      refused_on ESRCH (not (is_known s.control n)) (refused EPERM when may otherwise says 1) (refused_on EPERM may (says 1) (says_on (Int (pos 1))))

  resume_on : (n : ℤ) → EndsNot (resume s t n).begin.verdict
  resume_on n =
      let may = n is t || not (or_nobody (thread s.control n)).suspended in
      refused_on ESRCH (not (is_known s.control n)) (refused EPERM when may otherwise says 1) (refused_on EPERM may (says 1) (says_on (Int (pos 1))))

  yield_on : (n : ℤ) → EndsNot (yield s t n).begin.verdict
  yield_on n =
      let it = or_nobody (thread s.control n) in
      refused_on EINVAL (not (is_zero n) && (it.suspended || not (may_run it.state))) (Yields (Int (pos 1))) (yields_on (Int (pos 1)))

  join_on : (n : ℤ) → EndsNot (join_attempt s t n).verdict
  join_on n =
      let unknown = not (is_zero n) && not (is_known s.control n) in
      let detached = not (is_zero n) && not (or_nobody (thread s.control n)).joinable in
      let whom = to_join s.control n in
      refused_on EDEADLK (n is t || (is_zero n && (present s.control == 1))) (refused ESRCH when unknown otherwise refused EINVAL when detached otherwise joined s.control n whom)
      (refused_on ESRCH unknown (refused EINVAL when detached otherwise joined s.control n whom) (refused_on EINVAL detached (joined s.control n whom) (joined_on s.control n whom)))

  kill_on : EndsNot (kill s t).begin.verdict
  kill_on = refused_on EPERM (not (t == main)) Kills kills_on

  state_on : (n : ℤ) → EndsNot (cancel_state s t n).begin.verdict
  state_on n =
      let old = Int (pos (or_nobody (entry_of s.control t)).cancel) in
      refused_on EINVAL (not (n is_from pos 0 to pos 4)) (Says old) (says_on old)

  cancel_on : (n : ℤ) → EndsNot (cancel f s t n).begin.verdict
  cancel_on n =
      let unknown = not (is_known s.control n) in
      let may = n is main || is_dead (or_nobody (thread s.control n)).state in
      refused_on EINVAL (n is t) (refused ESRCH when unknown otherwise refused EPERM when may otherwise says 1)
      (refused_on ESRCH unknown (refused EPERM when may otherwise says 1) (refused_on EPERM may (says 1) (says_on (Int (pos 1)))))

  abort_on : (n : ℤ) → EndsNot (abort f s t n).begin.verdict
  abort_on n =
      let unknown = not (is_known s.control n) in
      refused_on EINVAL (n is t) (refused ESRCH when unknown otherwise refused EPERM when n is main otherwise says 1)
      (refused_on ESRCH unknown (refused EPERM when n is main otherwise says 1) (refused_on EPERM (n is main) (says 1) (says_on (Int (pos 1)))))

  ctrl_on : (q : Query) → EndsNot (ctrl s q).begin.verdict
  ctrl_on (query.Favournew n) =
      let old = Int (pos (if s.control.scheduler.favour_new then 1 else 0)) in
      refused_on EINVAL (not (n is_from pos 0 to pos 1)) (Says old) (says_on old)
  ctrl_on (query.Prio n) =
      let prio = Int (or_nobody (thread s.control n)).prio in
      refused_on ESRCH (not (is_known s.control n)) (Says prio) (says_on prio)
  ctrl_on (query.Name n) =
      let name = Text (or_nobody (thread s.control n)).name in
      refused_on ESRCH (not (is_known s.control n)) (Says name) (says_on name)
  ctrl_on query.Threads = says_on (Int (pos (present s.control)))
  ctrl_on query.New = says_on (Int (pos (length (queue s.control queues.New))))
  ctrl_on query.Ready = says_on (Int (pos (length (queue s.control queues.Ready))))
  ctrl_on query.Running = says_on (Int (pos (running_count s.control.scheduler.running)))
  ctrl_on query.Waiting = says_on (Int (pos (length (queue s.control queues.Waiting))))
  ctrl_on query.Suspended = says_on (Int (pos (length (queue s.control queues.Suspended))))
  ctrl_on query.Dead = says_on (Int (pos (length (queue s.control queues.Dead))))

  rest_on : (unit : ℕ) (n : ℤ) (answer : ℕ) → EndsNot (rest s unit n answer).begin.verdict
  rest_on unit n answer =
      let until = Moment (moment_after (now_of s.control) (length_of unit n)) in
      refused_on EINVAL (is_negative n) (says answer when is_zero n otherwise Blocks until) (when_on (says answer) (is_zero n) (Blocks until) (says_on (Int (pos answer))) (blocks_on until))

  timeout_on : (n : ℤ) → EndsNot (timeout s n).begin.verdict
  timeout_on n =
      let at = Int (pos (moment_after (now_of s.control) (length_of 1 n))) in
      refused_on EINVAL (is_negative n) (Says at) (says_on at)

  -- an answer or a wait
  says_or_waits_on : (n : ℕ) (b : Bool) (a : Awaits) → EndsNot (says n when b otherwise Blocks a)
  says_or_waits_on n b a = when_on (says n) b (Blocks a) (says_on (Int (pos n))) (blocks_on a)

  made_on : (o : Option EventSpec) (r : Result ℕ Errno) (g : EventSpec → Change P S H) → EndsNot (made_as o (λ x. by_result says r) g).begin.verdict
  made_on None r g = says_on (Fail EINVAL)
  made_on (Some x) r g = result_on (λ (n : ℕ). Int (pos n)) r

  make_on : (l : EvLine) → EndsNot (make_event s l).begin.verdict
  make_on l = made_on (spec_of l) (make_answer s.control.events) (λ x. with_events (alone x))

  chain_on : (e : ℤ) (l : EvLine) → EndsNot (chain s e l).begin.verdict
  chain_on e l = made_on (spec_of l) (chain_answer s.control.events (number e)) (λ x. with_events (chained x (number e)))

  made_again_on : (o : Option EventSpec) (r : Result ℕ Errno) (g : EventSpec → Change P S H) (a : Awaits) → EndsNot ((made_as o (λ x. by_result says r) g).again a).verdict
  made_again_on None r g a = blocks_on Nothing
  made_again_on (Some x) r g a = blocks_on Nothing

  make_again_on : (l : EvLine) (a : Awaits) → EndsNot ((make_event s l).again a).verdict
  make_again_on l = made_again_on (spec_of l) (make_answer s.control.events) (λ x. with_events (alone x))

  chain_again_on : (e : ℤ) (l : EvLine) (a : Awaits) → EndsNot ((chain s e l).again a).verdict
  chain_again_on e l = made_again_on (spec_of l) (chain_answer s.control.events (number e)) (λ x. with_events (chained x (number e)))

  fdmode_on : (d m : ℤ) → EndsNot (fdmode s d m).begin.verdict
  fdmode_on d m = result_on (λ (n : ℕ). Int (pos n)) (mode_answer s.control.kernel (fd_named d) m)

  close_on : (d : ℤ) → EndsNot (close s d).begin.verdict
  close_on d = refused_on EBADF (not (is_fd_live s.control.kernel (fd_named d))) (says 1) (says_on (Int (pos 1)))

  -- calls on descriptors, as they begin
  waiting_on : (now : Bool) (e : Option ℤ) (x : Verdict) → EndsNot x → EndsNot (begins_waiting s now e x)
  waiting_on now e (Blocks a) on =
      let unless_claimed = when_on (Says (count_or (written_in a) EBUSY)) (is_claimed_ring s e) (Blocks a) (counts_on (written_in a) EBUSY) on in
      when_on (Says (count_or (written_in a) EAGAIN)) now (Says (count_or (written_in a) EBUSY) when is_claimed_ring s e otherwise Blocks a) (counts_on (written_in a) EAGAIN) unless_claimed
  waiting_on now e x on = on

  tries_on : (e : Option ℤ) (refused_else now : Bool) (a : Awaits) → EndsNot (tries s e refused_else now a).begin.verdict
  tries_on e refused_else now a =
      let begins = begins_waiting s now e (trial_for s.control.kernel a).verdict in
      refused_on EINVAL (is_no_ring s e) (refused EINVAL when refused_else otherwise begins)
      (refused_on EINVAL refused_else begins (waiting_on now e (trial_for s.control.kernel a).verdict (trial_on s.control.kernel a)))

  wait_on : (e : ℤ) → EndsNot (wait s e).begin.verdict
  wait_on e = part_on (claim_answer s.control.events (number e)) (Blocks (Ring e)) (blocks_on (Ring e))

  seated_on : (none : Bool) (r : Result (Unit {0}) Errno) (claimed : Bool) (a : Awaits) → EndsNot (refused EINVAL when none otherwise by_result (λ released. refused EBUSY when claimed otherwise Blocks a) r)
  seated_on true r claimed a v h = cc h
  seated_on false (Err e) claimed a v h = cc h
  seated_on false (Ok u) true a v h = cc h
  seated_on false (Ok u) false a v h = cc h

  -- calls that take a mutex or a lock, or wait for it
  turned_on : (b : Bool) (a : Awaits) → EndsNot (refused EBUSY when b otherwise Blocks a)
  turned_on b a = refused_on EBUSY b (Blocks a) (blocks_on a)

  taken_on : (r : Result (Unit {0}) Errno) (b : Bool) (a : Awaits) → EndsNot (taken_or r (refused EBUSY when b otherwise Blocks a))
  taken_on (Ok u) b a = says_on (Int (pos 1))
  taken_on (Err EBUSY) b a = turned_on b a
  taken_on (Err e) b a = says_on (Fail e)

  acquire_on : (m u e : ℤ) → EndsNot (begins_acquiring s t m u e)
  acquire_on m u e =
      let busy = not (is_zero u) || is_claimed_ring s (extra_ring e) in
      let answer = mutex_take_answer s.resources.store.mutexes t m in
      refused_on EINVAL (is_no_ring s (extra_ring e)) (taken_or answer (refused EBUSY when busy otherwise Blocks (Mutex m))) (taken_on answer busy (Mutex m))

  enter_on : (l : ℤ) (write : Bool) (u e : ℤ) → EndsNot (begins_entering s t l write u e)
  enter_on l write u e =
      let busy = not (is_zero u) || is_claimed_ring s (extra_ring e) in
      let answer = lock_take_answer s.resources.store.rw_locks t write l in
      refused_on EINVAL (is_no_ring s (extra_ring e)) (taken_or answer (refused EBUSY when busy otherwise Blocks (Lock l write))) (taken_on answer busy (Lock l write))

  -- a wait at a condition
  await_on : (c m e : ℤ) → EndsNot (begins_await s t c m e)
  await_on c m e = seated_on (not (is_initialised s.control.conditions c) || is_no_ring s (extra_ring e)) (mutex_release_answer s.resources.store.mutexes t m) (is_claimed_ring s (extra_ring e)) (Notice c)

  ctrl_again_on : (q : Query) (a : Awaits) → EndsNot ((ctrl s q).again a).verdict
  ctrl_again_on query.Threads a v h = cc h
  ctrl_again_on q a v h = cc h

exit_on : (b : Bool) (x v : ℤ) → (Blocks Alone when b otherwise Ends x) ≡ Ends v → (x ≡ v) × (b ≡ false)
exit_on true x v h = absurd (cc h)
exit_on false x v h = (cc, refl)

-- a point ends a thread only where it is to be canceled
point_on : (b : Bool) → b ≡ false → EndsNot (Ends canceled_value when b otherwise says 1)
point_on false up = says_on (Int (pos 1))
point_on true up = absurd (cc up)

-- where main need not wait, it is alone
alone_by : (p q : Bool) → p ≡ true → (p && not q) ≡ false → q ≡ true
alone_by true true h k = refl
alone_by true false h k = absurd (cc k)
alone_by false q h k = absurd (cc h)

module _ {P S H : Type 0} (f : P → Functions S H) (t : ℕ) (v : ℤ) where
  -- of a thread that is not to be canceled, only an exit ends it, and only where it need not wait
  abbrev IsUp : State P S H → Type 0
  IsUp s = is_to_cancel (or_nobody (entry_of s.control t)) ≡ false

  exits : (s : State P S H) (c : Call) → IsUp s → (row_of f s t c).begin.verdict ≡ Ends v → (c ≡ call.Exit v) × (must_wait s.control t ≡ false)
  unfolding row_of
  exits s (call.CondAwait c m e) up h = absurd (await_on f s t c m e v h)
  exits s (call.Exit x) up h = let e = exit_on (must_wait s.control t) x v h in (ap call.Exit e.0, e.1)
  exits s call.Kill up h = absurd (kill_on f s t v h)
  exits s (call.CancelState n) up h = absurd (state_on f s t n v h)
  exits s call.CancelPoint up h = absurd (point_on _ up v h)
  exits s (call.Cancel n) up h = absurd (cancel_on f s t n v h)
  exits s (call.Abort n) up h = absurd (abort_on f s t n v h)
  exits s (call.Ctrl q) up h = absurd (ctrl_on f s t q v h)
  exits s call.AttrNew up h = absurd (result_on (λ (n : ℕ). Int (pos n)) (create_answer s.control.attributes.objects s.control.attributes.made) v h)
  exits s (call.AttrOf n) up h = absurd (result_on (λ (m : ℕ). Int (pos m)) (of_answer (named s.control.threads.known n) s.control.attributes.objects s.control.attributes.made) v h)
  exits s (call.AttrInit a) up h = absurd (done_on (init_answer (object s.control a)) v h)
  exits s (call.AttrSet a x) up h = absurd (done_on (set_answer s.control.top s.control.threads.known (object s.control a) x) v h)
  exits s (call.AttrGet a field) up h = absurd (result_on answer_of (get_answer s.control.threads.known (object s.control a) field) v h)
  exits s (call.AttrDestroy a) up h = absurd (done_on (destroy_answer (object s.control a)) v h)
  exits s (call.Spawn b u a) up h = absurd (spawn_on f s t b u a v h)
  exits s (call.Suspend n) up h = absurd (suspend_on f s t n v h)
  exits s (call.Resume n) up h = absurd (resume_on f s t n v h)
  exits s (call.Yield n) up h = absurd (yield_on f s t n v h)
  exits s (call.Join n) up h = absurd (join_on f s t n v h)
  exits s (call.Nap n) up h = absurd (rest_on f s t 1 n 1 v h)
  exits s (call.Usleep n) up h = absurd (rest_on f s t 1 n 0 v h)
  exits s (call.Sleep n) up h = absurd (rest_on f s t 1000000 n 0 v h)
  exits s (call.Timeout n) up h = absurd (timeout_on f s t n v h)
  exits s (call.Read d n) up h = absurd (tries_on f s t None false (at_once s d) (Reading d n) v h)
  exits s (call.ReadEv d n e) up h = absurd (tries_on f s t (extra_ring e) false (at_once s d) (Reading d n) v h)
  exits s (call.Write d bytes) up h = absurd (tries_on f s t None false (at_once s d) (Writing d (length bytes) 0) v h)
  exits s (call.WriteEv d bytes e) up h = absurd (tries_on f s t (extra_ring e) false (at_once s d) (Writing d (length bytes) 0) v h)
  exits s (call.Accept d) up h = absurd (tries_on f s t None false (at_once s d) (Connection d) v h)
  exits s (call.AcceptEv d e) up h = absurd (tries_on f s t (extra_ring e) false (at_once s d) (Connection d) v h)
  exits s (call.Connect d) up h = absurd (tries_on f s t None false (at_once s d) (ConnectAnswer d) v h)
  exits s (call.ConnectEv d e) up h = absurd (tries_on f s t (extra_ring e) false (at_once s d) (ConnectAnswer d) v h)
  exits s (call.Select r w x l) up h = absurd (tries_on f s t None (is_refused_length s r w x l) false (Selection r w x (select_deadline s l)) v h)
  exits s (call.SelectEv r w x l e) up h = absurd (tries_on f s t (extra_ring e) (is_refused_length s r w x l) false (Selection r w x (select_deadline s l)) v h)
  exits s (call.Fdmode d m) up h = absurd (fdmode_on f s t d m v h)
  exits s (call.EvFd goals fd) up h = absurd (make_on f s t (line.Fd goals fd) v h)
  exits s (call.EvSelect r w x) up h = absurd (make_on f s t (line.Select r w x) v h)
  exits s (call.EvTime m) up h = absurd (make_on f s t (line.Time m) v h)
  exits s (call.EvMsg p) up h = absurd (make_on f s t (line.Msg p) v h)
  exits s (call.EvCond c) up h = absurd (make_on f s t (line.Cond c) v h)
  exits s (call.EvTid state n) up h = absurd (make_on f s t (line.Tid state n) v h)
  exits s (call.EvFunc c u l) up h = absurd (make_on f s t (line.Func c u l) v h)
  exits s (call.Chain e l) up h = absurd (chain_on f s t e l v h)
  exits s (call.EvConcat e g) up h = absurd (result_on (λ (u : Unit {0}). Int e) (concat_answer s.control.events (number e) (number g)) v h)
  exits s (call.EvIsolate e) up h = absurd (result_on (λ o. Int (pos (number_or_none o))) (isolate_answer s.control.events (number e)) v h)
  exits s (call.EvWalk e forward until) up h = absurd (result_on (λ (x : EventId). Int (pos x.0)) (walk_answer s.control.events (number e) forward until) v h)
  exits s (call.EvStatus e) up h = absurd (result_on (λ x. Int (pos (status_number x))) (status_answer s.control.events (number e)) v h)
  exits s (call.EvKind e) up h = absurd (result_on (λ (n : ℕ). Int (pos n)) (kind_answer s.control.events (number e)) v h)
  exits s (call.EvFree e all) up h = absurd (done_on (free_answer s.control.events (number e)) v h)
  exits s (call.KeyCreate d) up h = absurd (result_on (λ (n : ℕ). Int (pos n)) (key_create_answer s.resources.store.keys) v h)
  exits s (call.KeyDelete k) up h = absurd (done_on (key_delete_answer s.resources.store.keys k) v h)
  exits s (call.KeySet k x) up h = absurd (done_on (key_set_answer s.resources.store.keys k) v h)
  exits s (call.KeyGet k) up h = absurd (result_on (λ (x : ℤ). Int x) (key_get_answer s.resources.store.keys t k) v h)
  exits s (call.CleanupPush d x) up h = absurd (done_on (push_answer s.resources.store.cleanups t) v h)
  exits s (call.CleanupPop x) up h = absurd (refused_on EINVAL (is_none (last_pushed f s t)) (says 1) (says_on (Int (pos 1))) v h)
  exits s (call.Once o d x) up h = absurd (refused_on EINVAL (not (is_below o once_limit)) (says 1) (says_on (Int (pos 1))) v h)
  exits s (call.Wait e) up h = absurd (wait_on f s t e v h)
  exits s (call.Close d) up h = absurd (close_on f s t d v h)
  exits s (call.MutexInit m) up h = absurd (done_on (mutex_init_answer s.resources.store.mutexes m) v h)
  exits s (call.MutexAcquire m u e) up h = absurd (acquire_on f s t m u e v h)
  exits s (call.MutexRelease m) up h = absurd (done_on (mutex_release_answer s.resources.store.mutexes t m) v h)
  exits s (call.RwInit l) up h = absurd (done_on (lock_init_answer s.resources.store.rw_locks l) v h)
  exits s (call.RwAcquire l write u e) up h = absurd (enter_on f s t l write u e v h)
  exits s (call.RwRelease l) up h = absurd (done_on (lock_release_answer s.resources.store.rw_locks t l) v h)
  exits s (call.CondInit c) up h = absurd (done_on (cond_init_answer s.control.conditions c) v h)
  exits s (call.CondNotify c x) up h = absurd (done_on (cond_notify_answer s.control.conditions c) v h)
  exits s (call.BarrierInit b n) up h = absurd (done_on (barrier_init_answer s.control.barriers b n) v h)
  exits s (call.PortCreate name) up h = absurd (result_on (λ (p : ℕ). Int (pos p)) (port_create_answer s.resources.store.ports s.resources.store.mail name) v h)
  exits s (call.PortFind name) up h = absurd (result_on (λ (p : ℕ). Int (pos p)) (port_find_answer s.resources.store.ports name) v h)
  exits s (call.PortPending p) up h = absurd (result_on (λ (n : ℕ). Int (pos n)) (port_pending_answer s.resources.store.mail p) v h)
  exits s (call.PortPut p x r) up h = absurd (result_on (λ (n : ℕ). Int (pos 1)) (port_put_answer s.resources.store.mail s.resources.store.ports.made p r) v h)
  exits s (call.PortGet p) up h = absurd (result_on (λ (m : ℕ × ℤ). Msg (record { 0 = m.0 }) m.1) (port_get_answer s.resources.store.mail p) v h)
  exits s (call.Reply m x) up h = absurd (done_on (reply_answer s.resources.store.mail m) v h)
  exits s (call.PortDestroy p) up h = absurd (done_on (port_destroy_answer s.resources.store.mail p) v h)
  exits s (call.BarrierReach b) up h = absurd (arrived_on b (arrival_answer s.control.barriers b) v h)
  exits s c up h = absurd (cc h)

  exits_again : (s : State P S H) (a : Awaits) (c : Call) → ((row_of f s t c).again a).verdict ≡ Ends v → (c ≡ call.Exit v) × (must_wait s.control t ≡ false)
  unfolding row_of
  exits_again s a (call.Exit x) h = let e = exit_on (must_wait s.control t) x v h in (ap call.Exit e.0, e.1)
  exits_again s a (call.Ctrl q) h = absurd (ctrl_again_on f s t q a v h)
  exits_again s a (call.Join n) h = absurd (join_on f s t n v h)
  exits_again s a (call.Nap n) h = absurd (says_or_waits_on f s t 1 (nat_le (moment_in a) (now_of s.control)) (Moment (moment_in a)) v h)
  exits_again s a (call.Usleep n) h = absurd (says_or_waits_on f s t 0 (nat_le (moment_in a) (now_of s.control)) (Moment (moment_in a)) v h)
  exits_again s a (call.Sleep n) h = absurd (says_or_waits_on f s t 0 (nat_le (moment_in a) (now_of s.control)) (Moment (moment_in a)) v h)
  exits_again s a (call.Wait e) h = absurd (says_or_waits_on f s t (settled_in s.control.events (number e)) (nat_lt 0 (settled_in s.control.events (number e))) (Ring e) v h)
  exits_again s a (call.MutexAcquire m u e) h = absurd (says_or_waits_on f s t 1 (is_free s m) (Mutex m) v h)
  exits_again s a (call.RwAcquire l write u e) h = absurd (says_or_waits_on f s t 1 (is_open s write l && not (holds s.resources.store.rw_locks t (object_named l))) (Lock l write) v h)
  exits_again s a (call.BarrierReach b) h = absurd (round_on s t b (round_in a) v h)
  exits_again s a (call.Read d n) h = absurd (trial_on s.control.kernel a v h)
  exits_again s a (call.ReadEv d n e) h = absurd (trial_on s.control.kernel a v h)
  exits_again s a (call.Write d bytes) h = absurd (trial_on s.control.kernel a v h)
  exits_again s a (call.WriteEv d bytes e) h = absurd (trial_on s.control.kernel a v h)
  exits_again s a (call.Accept d) h = absurd (trial_on s.control.kernel a v h)
  exits_again s a (call.AcceptEv d e) h = absurd (trial_on s.control.kernel a v h)
  exits_again s a (call.Connect d) h = absurd (trial_on s.control.kernel a v h)
  exits_again s a (call.ConnectEv d e) h = absurd (trial_on s.control.kernel a v h)
  exits_again s a (call.Select r w x l) h = absurd (trial_on s.control.kernel a v h)
  exits_again s a (call.SelectEv r w x l e) h = absurd (trial_on s.control.kernel a v h)
  exits_again s a (call.EvFd goals fd) h = absurd (make_again_on f s t (line.Fd goals fd) a v h)
  exits_again s a (call.EvSelect r w x) h = absurd (make_again_on f s t (line.Select r w x) a v h)
  exits_again s a (call.EvTime m) h = absurd (make_again_on f s t (line.Time m) a v h)
  exits_again s a (call.EvMsg p) h = absurd (make_again_on f s t (line.Msg p) a v h)
  exits_again s a (call.EvCond c) h = absurd (make_again_on f s t (line.Cond c) a v h)
  exits_again s a (call.EvTid state n) h = absurd (make_again_on f s t (line.Tid state n) a v h)
  exits_again s a (call.EvFunc c u l) h = absurd (make_again_on f s t (line.Func c u l) a v h)
  exits_again s a (call.Chain e l) h = absurd (chain_again_on f s t e l a v h)
  exits_again s a c h = absurd (cc h)

  begun_verdict : (c : Call) (w : Verdict) (s : State P S H) → (begun_by f t c w s).next ≡ next.Ended v → w ≡ Ends v
  begun_verdict c (Says a) s e = absurd (cc e)
  begun_verdict c (Yields a) s e = absurd (cc e)
  begun_verdict c (Blocks a) s e = absurd (cc e)
  begun_verdict c (Ends x) s e = (let same : x ≡ v = cc in ap Ends same)
  begun_verdict c Kills s e = absurd (cc e)

  tried_verdict : (b : Blocked) (w : Verdict) (s : State P S H) → (tried_by f t b w s).next ≡ next.Ended v → w ≡ Ends v
  tried_verdict b (Says a) s e = absurd (cc e)
  tried_verdict b (Yields a) s e = absurd (cc e)
  tried_verdict b (Blocks a) s e = absurd (cc e)
  tried_verdict b (Ends x) s e = (let same : x ≡ v = cc in ap Ends same)
  tried_verdict b Kills s e = absurd (cc e)

  -- what blocks is interrupted, and nothing else
  come_verdict : (come : Bool) (a : Attempt P S H) → (unless_settled come a).verdict ≡ Ends v → a.verdict ≡ Ends v
  come_verdict false a e = e
  come_verdict true a e = by_verdict a.verdict e
    where
      by_verdict : (w : Verdict) → interrupted w ≡ Ends v → w ≡ Ends v
      by_verdict (Says x) h = absurd (cc h)
      by_verdict (Yields x) h = absurd (cc h)
      by_verdict (Blocks x) h = absurd (counts_on (written_in x) EINTR v h)
      by_verdict (Ends x) h = h
      by_verdict Kills h = absurd (cc h)

  -- what is told last of a thread that ends
  ending_told : (s : State P S H) → (before : List Mark) × ((ending f t v s).marks ≡ before ++ End (tid t) v ∷ [])
  unfolding ending
  ending_told s =
      let undone = undoes_wait t s in
      let cleaned = runs_cleanups f t undone.state in
      let destructed = runs_destructors f t cleaned.state in
      let gave = gives_all t destructed.state in
      let last = End (tid t) v ∷ [] in (
        undone.marks ++ (cleaned.marks ++ (destructed.marks ++ gave.marks)),
        ap (λ (ms : List Mark). undone.marks ++ (cleaned.marks ++ ms)) (sym (append_assoc destructed.marks gave.marks last))
            ∙ ap (λ (ms : List Mark). undone.marks ++ ms) (sym (append_assoc cleaned.marks (destructed.marks ++ gave.marks) last))
            ∙ sym (append_assoc undone.marks (cleaned.marks ++ (destructed.marks ++ gave.marks)) last),
      )

  -- what ends its thread with v: it need not wait, and this is told last
  record EndsIt (k : Control P S H) (marks : List Mark) : Type 0 where
    free : must_wait k t ≡ false
    before : List Mark
    told : marks ≡ before ++ End (tid t) v ∷ []

  ends_by : (k : Control P S H) (marks : List Mark) (s : State P S H) → must_wait k t ≡ false → marks ≡ (ending f t v s).marks → EndsIt k marks
  ends_by k marks s unlocked same = let last = ending_told s in record { free = unlocked; before = last.0; told = same ∙ last.1 }

  -- an exit that need not wait ends its thread
  exit_ends : (s : State P S H) → must_wait s.control t ≡ false → begun f t (call.Exit v) s ≡ record { told = ending f t v s; next = next.Ended v }
  unfolding begun row_of
  exit_ends s free = rw free refl

  -- also as it is tried again
  again_ends : (s : State P S H) (b : Blocked) → blocked_of s.control t ≡ Some b → b.call ≡ call.Exit v → must_wait s.control t ≡ false → tried_again f t s ≡ record { told = ending f t v s; next = next.Ended v }
  unfolding tried_again row_of
  again_ends s b at its free = rw (at, its, free) refl

  of_exit : (s : State P S H) (c : Call) → (c ≡ call.Exit v) × (must_wait s.control t ≡ false) → EndsIt s.control (begun f t c s).told.marks
  of_exit s c x = subst (λ (y : Call). EndsIt s.control (begun f t y s).told.marks) (sym x.0) (ends_by s.control _ s x.1 (ap (λ (w : Went P S H). w.told.marks) (exit_ends s x.1)))

  exit_began : (s : State P S H) (c : Call) → IsUp s → (begun f t c s).next ≡ next.Ended v → (c ≡ call.Exit v) × (must_wait s.control t ≡ false)
  unfolding begun
  exit_began s call.Plain up e = absurd (cc e)
  exit_began s (call.Note x) up e = absurd (cc e)
  exit_began s c up e = exits s c up (begun_verdict c (row_of f s t c).begin.verdict (effect_of (row_of f s t c).begin s).state e)

  begun_ends : (c : Call) (s : State P S H) → IsUp s → (begun f t c s).next ≡ next.Ended v → EndsIt s.control (begun f t c s).told.marks
  begun_ends c s up e = of_exit s c (exit_began s c up e)

  where_as : (s : State P S H) → IsUp s → gone_on_where f t (may_be_canceled s.control t) s ≡ tried_again f t s
  unfolding may_be_canceled
  where_as s up = ap (λ (b : Bool). gone_on_where f t (b && is_at_point (blocked_of s.control t)) s) up

  tried_ends : (s : State P S H) → (tried_again f t s).next ≡ next.Ended v → EndsIt s.control (tried_again f t s).told.marks
  unfolding tried_again
  tried_ends s e = by_blocked (blocked_of s.control t) refl e
    where
      by_blocked : (o : Option Blocked) → blocked_of s.control t ≡ o → (tried_again_by f t o s).next ≡ next.Ended v → EndsIt s.control (tried_again f t s).told.marks
      by_blocked None at h = absurd (cc h)
      by_blocked (Some b) at h =
          let come = has_settled s.control.events (ring_given b.call) in
          let a = unless_settled come ((row_of f s t b.call).again b.awaits) in
          let x = exits_again s b.awaits b.call (come_verdict come ((row_of f s t b.call).again b.awaits) (tried_verdict b a.verdict (effect_of a s).state h)) in
          ends_by s.control _ s x.1 (ap (λ (w : Went P S H). w.told.marks) (again_ends s b at x.0 x.1))

  where_ends : (s : State P S H) → IsUp s → (gone_on_where f t (may_be_canceled s.control t) s).next ≡ next.Ended v → EndsIt s.control (gone_on_where f t (may_be_canceled s.control t) s).told.marks
  where_ends s up e =
      let tried = tried_ends s (ap (λ (w : Went P S H). w.next) (sym (where_as s up)) ∙ e) in
      record { free = tried.free; before = tried.before; told = ap (λ (w : Went P S H). w.told.marks) (where_as s up) ∙ tried.told }

  -- a wait at a condition ends only a thread that was canceled
  retaken_not : (can : Bool) (k : Call) (m : ℤ) (o : Retake) (s : State P S H) → is_canceled (Retaking m o) ≡ false → (retakes_where f t can k m o s).next ≡ next.Ended v → ⊥
  retaken_not true k m retake.Notified s plain e = cc e
  retaken_not true k m retake.Interrupted s plain e = cc e
  retaken_not true k m retake.Canceled s plain e = cc plain
  retaken_not false k m o s plain e = cc e

  await_not : (noticed settled : Bool) (k : Call) (c m : ℤ) (s : State P S H) → (awaits_on_where f t false noticed settled k c m s).next ≡ next.Ended v → ⊥
  await_not true settled k c m s e = let u = controlled (leaves_seat t (Notice c) and stops_waiting t) s in retaken_not (can_take u t m) k m retake.Notified u refl e
  await_not false true k c m s e = let u = controlled (leaves_seat t (Notice c) and stops_waiting t) s in retaken_not (can_take u t m) k m retake.Interrupted u refl e
  await_not false false k c m s e = cc e

  same_wait : (n m : ℤ) (o : Retake) → is_canceled (Retaking n o) ≡ false → is_canceled (Retaking m o) ≡ false
  same_wait n m retake.Canceled plain = plain
  same_wait n m retake.Notified plain = refl
  same_wait n m retake.Interrupted plain = refl

  awaits_not : (c m e : ℤ) (a : Awaits) (s : State P S H) → IsUp s → is_canceled a ≡ false → (awaits_on f t c m e a s).next ≡ next.Ended v → ⊥
  unfolding may_be_canceled
  awaits_not c m e (Retaking n o) s up plain h = let u = controlled (stops_waiting t) s in retaken_not (can_take u t m) (call.CondAwait c m e) m o u (same_wait n m o plain) h
  awaits_not c m e a s up plain h =
      let noticed = is_noticed s t c in
      let settled = has_settled s.control.events (extra_ring e) in
      let k = call.CondAwait c m e in
      await_not noticed settled k c m s (ap (λ (b : Bool). (awaits_on_where f t (b && is_at_point (blocked_of s.control t)) noticed settled k c m s).next) (sym up) ∙ h)

  even_plain : (a : Awaits) → (is_retaking a && (false || is_canceled a)) ≡ false → is_canceled a ≡ false
  even_plain (Retaking m o) even = even
  even_plain a even = refl

  gone_on_ends : (s : State P S H) → IsUp s → retakes_oddly (blocked_of s.control t) ≡ false → (gone_on f t s).next ≡ next.Ended v → EndsIt s.control (gone_on f t s).told.marks
  unfolding gone_on
  gone_on_ends s up even e = by_blocked (blocked_of s.control t) even e
    where
      by_call : (c : Call) (a : Awaits) → retakes_oddly (Some (record { call = c; awaits = a })) ≡ false → (gone_on_in f t c a s).next ≡ next.Ended v → EndsIt s.control (gone_on_in f t c a s).told.marks
      by_call (call.CondAwait c m x) a even h = absurd (awaits_not c m x a s up (even_plain a even) h)
      by_call c a even h = where_ends s up h

      by_blocked : (o : Option Blocked) → retakes_oddly o ≡ false → (gone_on_by f t o s).next ≡ next.Ended v → EndsIt s.control (gone_on_by f t o s).told.marks
      by_blocked None even h = absurd (cc h)
      by_blocked (Some b) even h = by_call b.call b.awaits even h

  steps_ends : (s : State P S H) → IsUp s → retakes_oddly (blocked_of s.control t) ≡ false → (steps_on f t s).next ≡ next.Ended v → EndsIt s.control (steps_on f t s).told.marks
  unfolding goes_on is_alone
  steps_ends s up even e = by_progress (blocked_of s.control t) (s.control.threads.progress t) e
    where
      by_progress : (b : Option Blocked) (p : Option (Progress S)) → (steps_by f t b p s).next ≡ next.Ended v → EndsIt s.control (steps_by f t b p s).told.marks
      by_progress (Some b) p h = gone_on_ends s up even h
      by_progress None None h = gone_on_ends s up even h
      by_progress None (Some p) h = (let b = begun_ends _ _ up h in record { free = b.free; before = b.before; told = b.told })

-- who is main, and whose call ended it
turn_ended : (t : ℕ) (v : ℤ) (n : Next) (x : Turn) → x.outcome ≡ Running → (turn_after t n x).outcome ≡ Ended v → ((t == main) ≡ true) × (n ≡ next.Ended v)
turn_ended t v (next.Done a) x on e = absurd (running_ended v (sym on ∙ e))
turn_ended t v (next.Yields a) x on e = absurd (running_ended v (sym on ∙ e))
turn_ended t v next.Blocks x on e = absurd (running_ended v (sym on ∙ e))
turn_ended t v next.Killed x on e = absurd (cc e)
turn_ended t v (next.Ended y) x on e = by_main (t == main) refl e
  where
    inside : (y v : ℤ) → Ended y ≡ Ended v → y ≡ v
    inside y v h = cc

    by_main : (b : Bool) → (t == main) ≡ b → (gives_up t (ends_run y b x)).outcome ≡ Ended v → ((t == main) ≡ true) × (next.Ended y ≡ next.Ended v)
    by_main true one h = (one, ap next.Ended (inside y v h))
    by_main false one h = absurd (running_ended v (sym on ∙ h))

module _ {P S H : Type 0} where
  record EndsMain (x : Turn) (s : State P S H) (marks : List Mark) (v : ℤ) : Type 0 where
    step : next_part s x ≡ Step main
    alone : is_alone s.control main ≡ true
    before : List Mark
    told : marks ≡ before ++ End (tid main) v ∷ []

  step_ends : (f : P → Functions S H) (x : Turn) (s : State P S H) (t : ℕ) (v : ℤ) → StaysUp s.control → x.outcome ≡ Running → (steps f x t s).turn.outcome ≡ Ended v → (t ≡ main) × (is_alone s.control t ≡ true) × ((before : List Mark) × ((steps f x t s).marks ≡ before ++ End (tid t) v ∷ []))
  unfolding steps
  step_ends f x s t v up on e =
      let main_is = turn_ended t v (steps_on f t s).next (record x { steps = x.steps + 1 }) on e in
      let same = same_means t main main_is.0 in
      let ends = steps_ends f t v s (subst (λ (u : ℕ). is_to_cancel (or_nobody (entry_of s.control u)) ≡ false) (sym same) (unasked_main s.control up.0)) (subst (λ (u : ℕ). retakes_oddly (blocked_of s.control u) ≡ false) (sym same) up.1) main_is.1 in
      (same, alone_by (t == main) (is_alone s.control t) main_is.0 ends.free, (ends.before, ends.told))

  part_ends : (f : P → Functions S H) (x : Turn) (s : State P S H) (v : ℤ) (p : Part) → StaysUp s.control → next_part s x ≡ p → x.outcome ≡ Running → (part_by f x s p).turn.outcome ≡ Ended v → EndsMain x s (part_by f x s p).marks v
  unfolding moves takes closes
  part_ends f x s v Move up comes on e = by_moment (moment f s) e
    where
      by_moment : (o : Option ℕ) → (moves_by f x o s).turn.outcome ≡ Ended v → EndsMain x s (moves_by f x o s).marks v
      by_moment None h = absurd (cc h)
      by_moment (Some m) h = absurd (running_ended v (sym on ∙ h))
  part_ends f x s v Take up comes on e = by_next (chosen (readies_new s.control).scheduler.preferred (queue (readies_new s.control) queues.Ready)) e
    where
      by_next : (o : Option ℕ) → (takes_by x o (controlled readies_new s)).turn.outcome ≡ Ended v → EndsMain x s (takes_by x o (controlled readies_new s)).marks v
      by_next None h = absurd (running_ended v (sym on ∙ h))
      by_next (Some t) h = absurd (running_ended v (sym on ∙ h))
  part_ends f x s v (Step t) up comes on e =
      let k = step_ends f x s t v up on e in
      record { step = comes ∙ ap Step k.0; alone = subst (λ (u : ℕ). is_alone s.control u ≡ true) k.0 k.1; before = k.2.0; told = k.2.1 ∙ ap (λ (u : ℕ). k.2.0 ++ End (tid u) v ∷ []) k.0 }
  part_ends f x s v (Close t) up comes on e = absurd (running_ended v (sym on ∙ e))
  part_ends f x s v Halt up comes on e = absurd (running_ended v (sym on ∙ e))

  module _ (f : P → Functions S H) (g : Given P) (i : ℕ) (v : ℤ) (on : (run f g i).turn.outcome ≡ Running) (e : (run f g (i + 1)).turn.outcome ≡ Ended v) where
    run_ends : EndsMain (run f g i).turn (run f g i).state (part f (run f g i).turn (run f g i).state).marks v
    unfolding part
    run_ends = part_ends f (run f g i).turn (run f g i).state v (next_part (run f g i).state (run f g i).turn) (up_run f g i) refl on (subst (λ (x : Course P S H). x.turn.outcome ≡ Ended v) (parts-more f (start f g) i) e)

    pub ends_step : next_part (run f g i).state (run f g i).turn ≡ Step main
    ends_step = run_ends.step

    pub ends_alone : is_alone (run f g i).state.control main ≡ true
    ends_alone = run_ends.alone

    pub ends_told : (before : List Mark) × IsBetween f g i (i + 1) (before ++ End (tid main) v ∷ [])
    ends_told = (run_ends.before, subst (λ (m : List Mark). IsBetween f g i (i + 1) m) run_ends.told (between-more f g i i [] (between-none f g i)))
