-- What is known as a call is answered, or as it blocks its thread: its row said so.
use Rattle.std.proofs.Common.{◌≡◌, ℕ, ◌+◌, ◌==◌, nat_lt, ◌&&◌, ◌||◌, not, Bool, true, false, if◌then◌else◌, ℤ, pos, length, Option, Some, None, is_none, is_some, option_map, refl, sym, ◌∙◌, ap, subst, inl, Result, Ok, Err, is_ok}
use Rattle.std.proofs.lemmas.Bool.{true≢false, not-false}
use Rattle.std.proofs.lemmas.Option.{none-some}
use Rattle.pth_base.specs.Program.{Functions}
use Rattle.pth_base.specs.declared.answer.Answer.{Answer}
use Rattle.pth_base.specs.declared.answer.Answer.TheVariants as answer
use Rattle.pth_base.specs.declared.call.Call.{Call}
use Rattle.pth_base.specs.declared.call.Call.TheVariants as call
use Rattle.pth_base.specs.declared.errno.Errno.{Errno}
use Rattle.pth_base.specs.declared.errno.Errno.TheVariants.{EINVAL, EAGAIN, EBUSY, EDEADLK, EINTR, EPERM, ESRCH, EACCES}
use Rattle.pth_base.specs.declared.event.EventSpec.{EventSpec}
use Rattle.pth_base.specs.declared.event.EvLine.{EvLine}
use Rattle.pth_base.specs.declared.event.EvLine.TheVariants as line
use Rattle.pth_base.specs.declared.mark.Mark.{Mark}
use Rattle.pth_base.specs.declared.mark.Mark.TheVariants as mark
use Rattle.pth_base.specs.declared.query.Query.{Query}
use Rattle.pth_base.specs.declared.query.Query.TheVariants as query
use Rattle.pth_base.proofs.Tables.{put_by, put_here}
use Rattle.pth_numbered.specs.Operands.{number, ◌is◌}
use Rattle.pth_cond.specs.declared.barriers.Arrival.{Arrival}
use Rattle.pth_cond.specs.declared.barriers.Arrival.TheVariants as arrival
use Rattle.pth_cond.specs.Conditions.{ConditionTable, is_initialised, seat_entered}
use Rattle.pth_cond.specs.Barriers.{arrival_answer, has_passed, waits_at, round_answer, round_answered, withdrawn}
use Rattle.pth_lock.specs.Objects.{object_named}
use Rattle.pth_lock.specs.Mutexes.{Mutex, owner_of, levels_of, level_limit, take_answer, is_anothers}
use Rattle.pth_lock.specs.RwLocks.{holds, may_enter}
use Rattle.pth_queue.specs.declared.queue.Queue.{Queue}
use Rattle.pth_ring.specs.Rings.{Events, is_event, is_claimed, ring_refusal, unless, make_answer, chain_answer, alone, chained}
use Rattle.pth_kernel.specs.Kernel.{Kernel}
use Rattle.pth_threads.specs.declared.entry.Change as change_of_record
use Rattle.pth_threads.specs.declared.entry.Change.TheVariants as change
use Rattle.pth_threads.specs.declared.entry.NewThread.{NewThread}
use Rattle.pth_model.specs.declared.awaits.Awaits.{Awaits}
use Rattle.pth_model.specs.declared.awaits.Awaits.TheVariants as awaits
use Rattle.pth_model.specs.declared.blocked.Blocked.{Blocked}
use Rattle.pth_model.specs.declared.progress.Progress.{Progress}
use Rattle.pth_model.specs.declared.verdict.Verdict.{Verdict}
use Rattle.pth_model.specs.declared.verdict.Verdict.TheVariants.{Says, Yields, Blocks, Ends, Kills}
use Rattle.pth_model.specs.Verdict.{refused, says, by_result, taken_or, refused_as◌otherwise◌}
use Rattle.pth_numbered.specs.Clauses.{count_or, ◌when◌otherwise◌}
use Rattle.pth_model.specs.Store.{Resources}
use Rattle.pth_model.specs.Io.{trial_for, tries, at_once, begins_waiting, is_refused_length, select_deadline}
use Rattle.pth_model.specs.Conditions.{seat_of}
use Rattle.pth_model.specs.Awaits.{IsRound, is_await, is_awaiting, awaits_in, written_in, round_in}
use Rattle.pth_model.specs.Barriers.{arrived_as, tries_round, withdraws, withdraws_from}
use Rattle.pth_model.specs.State.{State, Control, Threads, main}
use Rattle.pth_model.specs.Transition.{Piece, Change, changes, tells, tid, controlled, silent, where_so, ◌and_then◌}
use Rattle.pth_model.specs.Changes.{sets, enters, leaves_queue, makes, forgets, removes, goes_on, blocking, is_blocked_by, blocked_in, blocked_of, or_nobody, entry_of, queue_for, with_conditions, with_barriers, with_events, with_kernel}
use Rattle.pth_model.specs.Living.{is_dead, is_made}
use Rattle.pth_model.specs.Row.{Attempt, unless_refused, refuses, effect_of, ◌trying◌}
use Rattle.pth_model.specs.RingWaits.{has_settled, ring_given, ring_held, extra_ring, is_no_ring, is_claimed_ring, stops_waiting, gives_back}
use Rattle.pth_model.specs.Mutexes.{mutex, is_free}
use Rattle.pth_model.specs.Rwlocks.{is_lock, lets_in}
use Rattle.pth_model.specs.LibraryControl.{ctrl}
use Rattle.pth_model.specs.EventHandling.{spec_of, made_as, make_event}
use Rattle.pth_model.specs.ThreadControl.{thread, is_known, spawns, suspends, resumes, returns_to, to_join, takes_joined, joined}
use Rattle.pth_model.specs.Rows.{row_of}
use Rattle.pth_model.specs.Calls.{unless_settled, interrupted}
use Rattle.pth_model.proofs.Walks.{KeptByCalls, is_common, effect_keeps, come_keeps}
use Rattle.pth_laws.specs.Waits.{WaitsRightly, Names}
use Rattle.pth_laws.proofs.Seats.{HasLeftAt}
use Rattle.pth_model.proofs.NoRounds.{is_reaching, is_round, is_special, is_rounding, again_none, interrupted_none}
use Rattle.pth_laws.proofs.Rounds.{answered_left, withdrawn_left}

-- no call blocks t
abbrev pub IsFree : {P S H : Type 0} → ℕ → State P S H → Type 0
IsFree t s = blocked_of s.control t ≡ None

-- t enters a lock: it was made, waits for nothing, does not hold it, and may enter
pub record IsEntering {P S H : Type 0} (t l : ℕ) (write : Bool) (s : State P S H) : Type 0 where
  pub free : IsFree t s
  pub out : holds s.resources.store.rw_locks t l ≡ false
  pub open_to : may_enter s.resources.store.rw_locks write l ≡ true
  pub made : is_made s.control.threads.made t ≡ true

-- t takes a level of a mutex: it waits for nothing, and has not all levels that it may have
pub record IsTaking {P S H : Type 0} (t m : ℕ) (s : State P S H) : Type 0 where
  pub free : IsFree t s
  pub room : (levels_of t (s.resources.store.mutexes m) == level_limit) ≡ false

-- what is known as a mark is told
abbrev pub IsToTell : {P S H : Type 0} → Mark → State P S H → Type 0
IsToTell (mark.Answered t (call.RwAcquire l write v e) (answer.Int n)) s = IsEntering t.0 (object_named l) write s
IsToTell (mark.Answered t (call.MutexAcquire m v e) (answer.Int n)) s = IsTaking t.0 (object_named m) s
IsToTell (mark.Answered t (call.CondAwait c m e) a) s = s.resources.awaits t.0 ≡ true → IsTaking t.0 (object_named m) s
IsToTell (mark.Took t m) s = IsTaking t.0 m s
IsToTell m s = Unit {0}

-- who awaits nothing takes no mutex back
pub unawaited : {P S H : Type 0} (t m : ℕ) (s : State P S H) → s.resources.awaits t ≡ false → s.resources.awaits t ≡ true → IsTaking t m s
unawaited t m s uncanceled awaits = absurd (true≢false (sym awaits ∙ uncanceled))

-- who can take a mutex has not all levels of it, and neither has who meets a free one
pub takes_room : (t : ℕ) (z : Mutex) → is_ok (take_answer t z) ≡ true → (levels_of t z == level_limit) ≡ false
takes_room t z h = by_tests (is_none z) (levels_of t z == level_limit) h
  where
    by_tests : (none full : Bool) → is_ok (if none then Err EINVAL else (if full then Err EAGAIN else (if is_anothers t z then Err EBUSY else Ok (tt {0})))) ≡ true → full ≡ false
    by_tests none false h = refl
    by_tests true true h = absurd (true≢false (sym h))
    by_tests false true h = absurd (true≢false (sym h))

free_room : (t : ℕ) (z : Mutex) → (not (is_none z) && is_none (owner_of z)) ≡ true → (levels_of t z == level_limit) ≡ false
free_room t None h = absurd (true≢false (sym h))
free_room t (Some None) h = refl
free_room t (Some (Some o)) h = absurd (true≢false (sym h))

-- what is known of the call as it begins to block t: by a pth_cond_await, which is still to give a level of its mutex back, t awaits
-- nothing yet
abbrev pub MayBegin : Resources → ℕ → Call → Type 0
MayBegin k t (call.CondAwait c m e) = (is_some (k.store.mutexes (object_named m)) ≡ true) × (k.awaits t ≡ false)
MayBegin k t c = WaitsRightly k t c

-- what is known as a call blocks t: the ring that it was given is there, with no claim, and so is what it waits for, which is what
-- it names
pub record MayWait {P S H : Type 0} (t : ℕ) (c : Call) (a : Awaits) (s : State P S H) : Type 0 where
  pub ring : (e : ℤ) → ring_given c ≡ Some e → (is_event s.control.events (number e) ≡ true) × (is_claimed s.control.events (number e) ≡ false)
  pub rightly : MayBegin s.resources t c
  pub names : Names c a

-- the same by the verdict on a call that begins, after its effect
abbrev pub IsAllowed : {P S H : Type 0} → ℕ → Call → Verdict → State P S H → Type 0
IsAllowed t c (Says a) s = IsToTell (mark.Answered (tid t) c a) s
IsAllowed t c (Yields a) s = IsToTell (mark.Answered (tid t) c a) s
IsAllowed t c (Blocks a) s = IsFree t s × MayWait t c a s
IsAllowed t c (Ends v) s = Unit {0}
IsAllowed t c Kills s = IsToTell (mark.Answered (tid t) c (answer.Int (pos 1))) s

-- and on one that is tried again
abbrev pub IsAllowedAgain : {P S H : Type 0} → ℕ → Call → Blocked → Verdict → State P S H → Type 0
IsAllowedAgain t c b (Says a) s = IsToTell (mark.Answered (tid t) c a) (controlled (stops_waiting t) s)
IsAllowedAgain t c b (Yields a) s = IsToTell (mark.Answered (tid t) c a) (controlled (stops_waiting t) s)
IsAllowedAgain t c b (Blocks a) s = (blocked_of s.control t ≡ Some b) × Names c a
IsAllowedAgain t c b (Ends v) s = Unit {0}
IsAllowedAgain t c b Kills s = IsToTell (mark.Answered (tid t) c (answer.Int (pos 1))) (controlled (stops_waiting t) s)

-- while it blocks on, t waits for the same round, and for none if it waited for none
abbrev pub StaysAt : Call → Awaits → Awaits → Type 0
StaysAt (call.BarrierReach b) a now = now ≡ awaits.Round b (round_in a)
StaysAt c a now = is_special true a ≡ false → is_special true now ≡ false

-- if t waits for a round, its arrival was answered or taken back: it may wait no longer
abbrev pub HasLeft : {P S H : Type 0} → ℕ → State P S H → Type 0
HasLeft t s = (b : ℤ) (round : ℕ) → blocked_of s.control t ≡ Some (record { call = call.BarrierReach b; awaits = awaits.Round b round }) → waits_at s.control.barriers b t ≡ false

-- if t waits at a condition, its seat there is left in this table: it may wait no longer
abbrev pub HasLeftSeat : {P S H : Type 0} → ℕ → ConditionTable → State P S H → Type 0
HasLeftSeat t y s = (c m e : ℤ) → blocked_of s.control t ≡ Some (record { call = call.CondAwait c m e; awaits = awaits.Notice c }) → HasLeftAt (seat_of t) (object_named c) y s.control.conditions

-- who waits by another call has none
pub unseated : {P S H : Type 0} (t : ℕ) (y : ConditionTable) (s : State P S H) → is_awaiting (blocked_of s.control t) ≡ false → HasLeftSeat t y s
unseated t y s none c m e now = absurd (true≢false (sym (ap is_awaiting now) ∙ none))

-- ---- verdicts

-- calls whose answers take a mutex or a lock
abbrev is_taking : Call → Bool
is_taking (call.MutexAcquire m v e) = true
is_taking (call.RwAcquire l write v e) = true
is_taking (call.CondAwait c m e) = true
is_taking c = false

abbrev pub is_blocking : Verdict → Bool
is_blocking (Blocks p) = true
is_blocking v = false

-- a call that is given no ring, and waits for no mutex, no lock, no condition and no barrier
abbrev is_plainly_waiting : Call → Bool
is_plainly_waiting (call.Wait e) = false
is_plainly_waiting (call.ReadEv f n e) = false
is_plainly_waiting (call.WriteEv f bytes e) = false
is_plainly_waiting (call.AcceptEv f e) = false
is_plainly_waiting (call.ConnectEv f e) = false
is_plainly_waiting (call.SelectEv r w x l e) = false
is_plainly_waiting (call.MutexAcquire m v e) = false
is_plainly_waiting (call.RwAcquire l write v e) = false
is_plainly_waiting (call.CondAwait c m e) = false
is_plainly_waiting (call.BarrierReach b) = false
is_plainly_waiting c = true

abbrev is_joining : Call → Bool
is_joining (call.Join n) = true
is_joining c = false

pub when_answers : (e : Errno) (b : Bool) (v : Verdict) → is_blocking v ≡ false → is_blocking (refused e when b otherwise v) ≡ false
when_answers e true v h = refl
when_answers e false v h = h

pub asking_answers : (own unknown barred : Bool) → is_blocking (refused EINVAL when own otherwise refused ESRCH when unknown otherwise refused EPERM when barred otherwise says 1) ≡ false
asking_answers true unknown barred = refl
asking_answers false true barred = refl
asking_answers false false true = refl
asking_answers false false false = refl

counts_answers : (n : ℕ) (e : Errno) → is_blocking (Says (count_or n e)) ≡ false
counts_answers n e = refl

interrupted_answers : (v : Verdict) → is_blocking (interrupted v) ≡ false
interrupted_answers (Says a) = refl
interrupted_answers (Yields a) = refl
interrupted_answers (Blocks a) = counts_answers (written_in a) EINTR
interrupted_answers (Ends v) = refl
interrupted_answers Kills = refl

-- ---- the ring of a call

ring_passes : (x : Events) (e : ℕ) → ring_refusal x e ≡ None → (is_event x e ≡ true) × (is_claimed x e ≡ false)
ring_passes x e h = by_tests (is_event x e) (is_claimed x e) h
  where
    by_tests : (there has : Bool) → (if not there then Some EINVAL else (if has then Some EBUSY else None)) ≡ None → (there ≡ true) × (has ≡ false)
    by_tests false has h = absurd (cc h)
    by_tests true true h = absurd (cc h)
    by_tests true false h = (refl, refl)

module _ {P S H : Type 0} (t : ℕ) where
  -- where the answer is that of another call
  tells_any : (c : Call) (a : Answer) (s : State P S H) → is_taking c ≡ false → IsToTell (mark.Answered (tid t) c a) s
  tells_any (call.MutexAcquire m v e) a s other = absurd (true≢false other)
  tells_any (call.RwAcquire l write v e) a s other = absurd (true≢false other)
  tells_any (call.CondAwait c m e) a s other = absurd (true≢false other)
  tells_any c a s other = tt

  waits_plainly : (c : Call) (a : Awaits) (s : State P S H) → is_plainly_waiting c ≡ true → MayWait t c a s
  waits_plainly (call.Wait e) a s plain = absurd (true≢false (sym plain))
  waits_plainly (call.ReadEv f n e) a s plain = absurd (true≢false (sym plain))
  waits_plainly (call.WriteEv f bytes e) a s plain = absurd (true≢false (sym plain))
  waits_plainly (call.AcceptEv f e) a s plain = absurd (true≢false (sym plain))
  waits_plainly (call.ConnectEv f e) a s plain = absurd (true≢false (sym plain))
  waits_plainly (call.SelectEv r w x l e) a s plain = absurd (true≢false (sym plain))
  waits_plainly (call.MutexAcquire m v e) a s plain = absurd (true≢false (sym plain))
  waits_plainly (call.RwAcquire l write v e) a s plain = absurd (true≢false (sym plain))
  waits_plainly (call.CondAwait c m e) a s plain = absurd (true≢false (sym plain))
  waits_plainly (call.BarrierReach b) a s plain = absurd (true≢false (sym plain))
  waits_plainly c a s plain = record { ring = λ e h. absurd (none-some e h); rightly = tt; names = tt }

  -- any verdict on a call that takes no mutex and no lock, if what is known of one that blocks is
  allowed_by : (c : Call) (v : Verdict) (s : State P S H) → is_taking c ≡ false → ((a : Awaits) → v ≡ Blocks a → IsFree t s × MayWait t c a s) → IsAllowed t c v s
  allowed_by c (Says a) s other on = tells_any c a s other
  allowed_by c (Yields a) s other on = tells_any c a s other
  allowed_by c (Blocks a) s other on = on a refl
  allowed_by c (Ends v) s other on = tt
  allowed_by c Kills s other on = tells_any c (answer.Int (pos 1)) s other

  -- one that doesn't block
  allowed_at_once : (c : Call) (v : Verdict) (s : State P S H) → is_taking c ≡ false → is_blocking v ≡ false → IsAllowed t c v s
  allowed_at_once c v s other at_once = allowed_by c v s other (λ a blocks. absurd (true≢false (sym (ap is_blocking blocks) ∙ at_once)))

  again_by : (c : Call) (b : Blocked) (v : Verdict) (s : State P S H) → is_taking c ≡ false → ((a : Awaits) → v ≡ Blocks a → (blocked_of s.control t ≡ Some b) × Names c a) → IsAllowedAgain t c b v s
  again_by c b (Says a) s other on = tells_any c a (controlled (stops_waiting t) s) other
  again_by c b (Yields a) s other on = tells_any c a (controlled (stops_waiting t) s) other
  again_by c b (Blocks a) s other on = on a refl
  again_by c b (Ends v) s other on = tt
  again_by c b Kills s other on = tells_any c (answer.Int (pos 1)) (controlled (stops_waiting t) s) other

  -- the ring of a call that was neither refused for it nor found claimed; u has the events of s
  ring_waits : (s u : State P S H) (c : Call) (a : Awaits) (r : Option ℤ) → ring_given c ≡ r → u.control.events ≡ s.control.events → is_no_ring s r ≡ false → is_claimed_ring s r ≡ false → Names c a → MayBegin u.resources t c → MayWait t c a u
  ring_waits s u c a None given same there free names rightly = record { ring = λ e h. absurd (none-some e (sym given ∙ h)); rightly = rightly; names = names }
  ring_waits s u c a (Some i) given same there free names rightly = record { ring = λ e h. by_event e (sym given ∙ h); rightly = rightly; names = names }
    where
      by_event : (e : ℤ) → Some i ≡ Some e → (is_event u.control.events (number e) ≡ true) × (is_claimed u.control.events (number e) ≡ false)
      by_event e h =
          let here : i ≡ e = cc in (
            ap (λ (x : Events). is_event x (number e)) same ∙ ap (λ (j : ℤ). is_event s.control.events (number j)) (sym here) ∙ not-false (is_event s.control.events (number i)) there,
            ap (λ (x : Events). is_claimed x (number e)) same ∙ ap (λ (j : ℤ). is_claimed s.control.events (number j)) (sym here) ∙ free,
          )

  -- ---- what is known of the call that blocks t, and holds too if none does

  module _ (O : Option Blocked → Type 0) (none : O None) where
    abbrev BlockedSo : Control P S H → Type 0
    BlockedSo k = O (blocked_of k t)

    so_spawned : (f : P → Functions S H) (b : ℕ) (v : ℤ) (of : NewThread) (k : Control P S H) → BlockedSo k → BlockedSo (spawns f b v of k)
    unfolding makes enters
    so_spawned f b v of k so = put_by (λ o. O (blocked_in o)) k.threads.progress (k.threads.made + 1) _ t (λ here. none) (λ other. so)

    so_suspended : (u : ℕ) (k : Control P S H) → BlockedSo k → BlockedSo (suspends u k)
    unfolding suspends sets enters leaves_queue
    so_suspended u k so = so

    so_returned : (u : ℕ) (q : Option Queue) (k : Control P S H) → BlockedSo k → BlockedSo (returns_to u q k)
    unfolding sets enters leaves_queue
    so_returned u None k so = so
    so_returned u (Some q) k so = so

    so_resumed : (u : ℕ) (k : Control P S H) → BlockedSo k → BlockedSo (resumes u k)
    unfolding resumes
    so_resumed u k so = so_returned u (queue_for (or_nobody (entry_of k u)).state) k so

    so_removed : (u : ℕ) (k : Control P S H) → BlockedSo k → BlockedSo (removes u k)
    unfolding forgets leaves_queue
    so_removed u k so = put_by (λ o. O (blocked_in o)) k.threads.progress u None t (λ here. none) (λ other. so)

    so_set : (u : ℕ) (c : change_of_record.Change) (k : Control P S H) → BlockedSo k → BlockedSo (sets u c k)
    unfolding sets
    so_set u c k so = so

    so_kept : (f : P → Functions S H) → KeptByCalls f t BlockedSo
    so_kept f = record {
      handlers = record { shares = λ h k so. so; seated = λ x k so. so };
      spawned = λ b v of k so. so_spawned f b v of k so;
      suspended = λ u k other up so. so_suspended u k so;
      resumed = λ u k other so. so_resumed u k so;
      removed = λ n u k taken so. so_removed u k so;
      favoured = λ b k so. so;
      changed = λ v u c k set so. so_set u c k so;
      added = λ x k so. so;
      exchanged = λ n o k so. so;
      evented = λ x k none so. so;
      described = λ ds k so. so;
      barred = λ x k so. so;
      used = λ o k so. so;
      requested = λ u b k apart so. so_set u (change.Request b) k so;
    }

  -- once t waits no longer
  pub stopped_free : (s : State P S H) → IsFree t (controlled (stops_waiting t) s)
  unfolding stops_waiting goes_on gives_back
  stopped_free s = by_ring (ring_held (blocked_of s.control t))
    where
      by_progress : (p : Option (Progress S)) → blocked_in (option_map (blocking None) p) ≡ None
      by_progress None = refl
      by_progress (Some p) = refl

      here : blocked_of (is_blocked_by t None s.control) t ≡ None
      here = ap blocked_in (put_here s.control.threads.progress t (option_map (blocking None) (s.control.threads.progress t))) ∙ by_progress (s.control.threads.progress t)

      by_ring : (r : Option ℤ) → blocked_of (gives_back r (is_blocked_by t None s.control)) t ≡ None
      by_ring None = here
      by_ring (Some e) = here

  -- as many threads were made
  stopped_made : (s : State P S H) → is_made (controlled (stops_waiting t) s).control.threads.made t ≡ is_made s.control.threads.made t
  unfolding stops_waiting goes_on gives_back
  stopped_made s = by_ring (ring_held (blocked_of s.control t))
    where
      by_ring : (r : Option ℤ) → is_made (gives_back r (is_blocked_by t None s.control)).threads.made t ≡ is_made s.control.threads.made t
      by_ring None = refl
      by_ring (Some e) = refl

  -- ---- t's arrival at a barrier is taken back, if it waits there

  where_withdrawn : (b : ℤ) (here : Bool) (s : State P S H) → (where_so here (changes (with_barriers (withdrawn b t)) and_then tells (mark.Withdrew (tid t) (object_named b))) s).state.control.threads ≡ s.control.threads
  where_withdrawn b true s = refl
  where_withdrawn b false s = refl

  withdrawn_threads : (a : Awaits) (s : State P S H) → (withdraws_from t a s).state.control.threads ≡ s.control.threads
  unfolding withdraws_from withdraws
  withdrawn_threads (awaits.Round b round) s = where_withdrawn b (waits_at s.control.barriers b t) s
  withdrawn_threads a s = refl

  where_left : (b : ℤ) (here : Bool) (s : State P S H) → waits_at s.control.barriers b t ≡ here → waits_at (where_so here (changes (with_barriers (withdrawn b t)) and_then tells (mark.Withdrew (tid t) (object_named b))) s).state.control.barriers b t ≡ false
  where_left b true s is_here = withdrawn_left b t s.control.barriers
  where_left b false s is_here = is_here

  withdrawn_from : (a : Awaits) (s : State P S H) (b : ℤ) (round : ℕ) → a ≡ awaits.Round b round → waits_at (withdraws_from t a s).state.control.barriers b t ≡ false
  unfolding withdraws_from withdraws
  withdrawn_from (awaits.Round c r) s b round same =
      let here : c ≡ b = cc in
      subst (λ (i : ℤ). waits_at (where_so (waits_at s.control.barriers c t) (changes (with_barriers (withdrawn c t)) and_then tells (mark.Withdrew (tid t) (object_named c))) s).state.control.barriers i t ≡ false) here (where_left c (waits_at s.control.barriers c t) s refl)
  withdrawn_from a s b round same = absurd (true≢false (sym (ap is_round same)))

  pub left_ended : (s : State P S H) → HasLeft t (withdraws_from t (awaits_in (blocked_of s.control t)) s).state
  left_ended s b round now =
      let a = awaits_in (blocked_of s.control t) in
      withdrawn_from a s b round (ap awaits_in (ap (λ (x : Threads S). blocked_in (x.progress t)) (sym (withdrawn_threads a s)) ∙ now))

-- ---- a call begins

module _ {P S H : Type 0} where
  silent_unless : (b : Bool) (s : State P S H) → (unless_refused b silent s).state ≡ s
  silent_unless true s = refl
  silent_unless false s = refl

  events_unless : (b : Bool) (g : Kernel → Kernel) (s : State P S H) → (unless_refused b (changes (with_kernel g)) s).state.control.events ≡ s.control.events
  events_unless true g s = refl
  events_unless false g s = refl

not_none : {A : Type 0} (o : Option A) → is_none o ≡ false → is_some o ≡ true
not_none None h = absurd (true≢false h)
not_none (Some x) h = refl

module _ {P S H : Type 0} (f : P → Functions S H) (t : ℕ) where
  free_after : (s : State P S H) (c : Call) → is_common c ≡ true → IsFree t s → IsFree t (effect_of (row_of f s t c).begin s).state
  free_after s c common free = effect_keeps f t (λ k. blocked_of k t ≡ None) (so_kept t (λ o. o ≡ None) refl f) s c common free

  -- a call on descriptors that is not yet; u has the events of s
  not_yet_allowed : (s u : State P S H) (c : Call) (r : Option ℤ) (at_once has : Bool) (a : Awaits) → ring_given c ≡ r → is_taking c ≡ false → is_no_ring s r ≡ false → is_claimed_ring s r ≡ has → u.control.events ≡ s.control.events → IsFree t u → Names c a × MayBegin u.resources t c
      → IsAllowed t c (Says (count_or (written_in a) EAGAIN) when at_once otherwise Says (count_or (written_in a) EBUSY) when has otherwise Blocks a) u
  not_yet_allowed s u c r true has a given other there claim same free right = allowed_at_once t c (Says (count_or (written_in a) EAGAIN)) u other (counts_answers (written_in a) EAGAIN)
  not_yet_allowed s u c r false true a given other there claim same free right = allowed_at_once t c (Says (count_or (written_in a) EBUSY)) u other (counts_answers (written_in a) EBUSY)
  not_yet_allowed s u c r false false a given other there claim same free right = (free, ring_waits t s u c a r given same there claim right.0 right.1)

  -- one that begins
  io_allowed : (s u : State P S H) (c : Call) (r : Option ℤ) (none refused_else at_once : Bool) (v : Verdict) → ring_given c ≡ r → is_taking c ≡ false → is_no_ring s r ≡ none → u.control.events ≡ s.control.events → IsFree t u → ((a : Awaits) → Names c a × MayBegin u.resources t c)
      → IsAllowed t c (refused EINVAL when none otherwise refused EINVAL when refused_else otherwise begins_waiting s at_once r v) u
  io_allowed s u c r true refused_else at_once v given other there same free right = tells_any t c (answer.Fail EINVAL) u other
  io_allowed s u c r false true at_once v given other there same free right = tells_any t c (answer.Fail EINVAL) u other
  io_allowed s u c r false false at_once (Blocks a) given other there same free right = not_yet_allowed s u c r at_once (is_claimed_ring s r) a given other there refl same free (right a)
  io_allowed s u c r false false at_once v given other there same free right = allowed_at_once t c v u other refl

  tries_allowed : (s : State P S H) (c : Call) (r : Option ℤ) (refused_else at_once : Bool) (first : Awaits) → ring_given c ≡ r → is_taking c ≡ false → let x = (tries s r refused_else at_once first).begin in IsFree t (effect_of x s).state → ((a : Awaits) (k : Resources) → Names c a × MayBegin k t c) → IsAllowed t c x.verdict (effect_of x s).state
  tries_allowed s c r refused_else at_once first given other free right =
      let x = (tries s r refused_else at_once first).begin in
      let u = (effect_of x s).state in
      let trial = trial_for s.control.kernel first in
      io_allowed s u c r (is_no_ring s r) refused_else at_once trial.verdict given other refl (events_unless (refuses x.verdict) trial.after s) free (λ a. right a u.resources)

  wait_allowed : (s : State P S H) (e : ℤ) (r : Option Errno) → ring_refusal s.control.events (number e) ≡ r → IsFree t s → IsAllowed t (call.Wait e) (refused_as unless {A = Unit {0}} r (Ok tt) otherwise Blocks (awaits.Ring e)) s
  wait_allowed s e (Some x) refusal free = tt
  wait_allowed s e None refusal free =
      let passed = ring_passes s.control.events (number e) refusal in
      (free, ring_waits t s s (call.Wait e) (awaits.Ring e) (Some e) refl refl (ap not passed.0) passed.1 tt tt)

  acquire_allowed : (s : State P S H) (m v e : ℤ) (no_ring none full others tries has : Bool) → (levels_of t (mutex s m) == level_limit) ≡ full → is_none (mutex s m) ≡ none → is_no_ring s (extra_ring e) ≡ no_ring → is_claimed_ring s (extra_ring e) ≡ has → IsFree t s
      → IsAllowed t (call.MutexAcquire m v e) (refused EINVAL when no_ring otherwise taken_or (if none then Err EINVAL else if full then Err EAGAIN else if others then Err EBUSY else Ok tt) (refused EBUSY when tries || has otherwise Blocks (awaits.Mutex m))) s
  acquire_allowed s m v e true none full others tries has is_full is_none_so is_ring is_has free = tt
  acquire_allowed s m v e false true full others tries has is_full is_none_so is_ring is_has free = tt
  acquire_allowed s m v e false false true others tries has is_full is_none_so is_ring is_has free = tt
  acquire_allowed s m v e false false false false tries has is_full is_none_so is_ring is_has free = record { free = free; room = is_full }
  acquire_allowed s m v e false false false true true has is_full is_none_so is_ring is_has free = tt
  acquire_allowed s m v e false false false true false true is_full is_none_so is_ring is_has free = tt
  acquire_allowed s m v e false false false true false false is_full is_none_so is_ring is_has free = (free, ring_waits t s s (call.MutexAcquire m v e) (awaits.Mutex m) (extra_ring e) refl refl is_ring is_has refl (not_none (mutex s m) is_none_so))

  enter_allowed : (s : State P S H) (l : ℤ) (write : Bool) (v e : ℤ) (no_ring known held open_to tries has : Bool) → is_lock s l ≡ known → is_no_ring s (extra_ring e) ≡ no_ring → holds s.resources.store.rw_locks t (object_named l) ≡ held → lets_in s write l ≡ open_to → is_claimed_ring s (extra_ring e) ≡ has → IsFree t s → is_made s.control.threads.made t ≡ true
      → IsAllowed t (call.RwAcquire l write v e) (refused EINVAL when no_ring otherwise taken_or (if not known then Err EINVAL else if held then Err EDEADLK else if not open_to then Err EBUSY else Ok tt) (refused EBUSY when tries || has otherwise Blocks (awaits.Lock l write))) s
  enter_allowed s l write v e true known held open_to tries has is_known is_ring is_held is_open_to is_has free made = tt
  enter_allowed s l write v e false false held open_to tries has is_known is_ring is_held is_open_to is_has free made = tt
  enter_allowed s l write v e false true true open_to tries has is_known is_ring is_held is_open_to is_has free made = tt
  enter_allowed s l write v e false true false true tries has is_known is_ring is_held is_open_to is_has free made = record { free = free; out = is_held; open_to = is_open_to; made = made }
  enter_allowed s l write v e false true false false true has is_known is_ring is_held is_open_to is_has free made = tt
  enter_allowed s l write v e false true false false false true is_known is_ring is_held is_open_to is_has free made = tt
  enter_allowed s l write v e false true false false false false is_known is_ring is_held is_open_to is_has free made = (free, ring_waits t s s (call.RwAcquire l write v e) (awaits.Lock l write) (extra_ring e) refl refl is_ring is_has refl (is_known, is_held))

  -- after its effect, by which t has a seat
  pub await_allowed : (s u : State P S H) (c m e : ℤ) (bad none free other has : Bool) → is_none (mutex s m) ≡ none → is_no_ring s (extra_ring e) ≡ bad → is_claimed_ring s (extra_ring e) ≡ has → u.control.events ≡ s.control.events → u.resources ≡ s.resources → IsFree t u → u.resources.awaits t ≡ false → (dead : Bool)
      → IsAllowed t (call.CondAwait c m e) (refused EINVAL when dead || bad otherwise by_result (λ released. refused EBUSY when has otherwise Blocks (awaits.Notice c)) (if none then Err EINVAL else if free then Err EDEADLK else if other then Err EACCES else Ok (tt {0}))) u
  await_allowed s u c m e bad none free other has is_none_so is_ring is_has events same idle uncanceled true = unawaited t (object_named m) u uncanceled
  await_allowed s u c m e true none free other has is_none_so is_ring is_has events same idle uncanceled false = unawaited t (object_named m) u uncanceled
  await_allowed s u c m e false true free other has is_none_so is_ring is_has events same idle uncanceled false = unawaited t (object_named m) u uncanceled
  await_allowed s u c m e false false true other has is_none_so is_ring is_has events same idle uncanceled false = unawaited t (object_named m) u uncanceled
  await_allowed s u c m e false false false true has is_none_so is_ring is_has events same idle uncanceled false = unawaited t (object_named m) u uncanceled
  await_allowed s u c m e false false false false true is_none_so is_ring is_has events same idle uncanceled false = unawaited t (object_named m) u uncanceled
  await_allowed s u c m e false false false false false is_none_so is_ring is_has events same idle uncanceled false =
      let there = ap (λ (k : Resources). is_some (k.store.mutexes (object_named m))) same ∙ not_none (mutex s m) is_none_so in
      (idle, ring_waits t s u (call.CondAwait c m e) (awaits.Notice c) (extra_ring e) refl events is_ring is_has (inl refl) (there, uncanceled))

  seats_unless : (b : Bool) (g : ConditionTable → ConditionTable) (s : State P S H) → let u = (unless_refused b (changes (with_conditions g)) s).state in (u.control.events ≡ s.control.events) × (u.resources ≡ s.resources)
  seats_unless true g s = (refl, refl)
  seats_unless false g s = (refl, refl)

  -- by what an arrival comes to
  reach_allowed : (s : State P S H) (b : ℤ) (o : Result Arrival Errno) (u : State P S H) → IsFree t u → IsAllowed t (call.BarrierReach b) (by_result (arrived_as b) o) u
  reach_allowed s b (Err e) u free = tt
  reach_allowed s b (Ok arrival.Tail) u free = tt
  reach_allowed s b (Ok (arrival.Incomplete round)) u free = (free, record { ring = λ e h. absurd (none-some e h); rightly = tt; names = refl })

  pub allowed : (s : State P S H) (c : Call) → IsFree t s → s.resources.awaits t ≡ false → is_made s.control.threads.made t ≡ true → IsAllowed t c (row_of f s t c).begin.verdict (effect_of (row_of f s t c).begin s).state
  unfolding row_of
  allowed s call.Kill free uncanceled made = allowed_at_once t call.Kill (row_of f s t call.Kill).begin.verdict (effect_of (row_of f s t call.Kill).begin s).state refl (when_answers EPERM (not (t == main)) Kills refl)
  allowed s (call.Yield n) free uncanceled made = allowed_at_once t (call.Yield n) (row_of f s t (call.Yield n)).begin.verdict (effect_of (row_of f s t (call.Yield n)).begin s).state refl (when_answers EINVAL _ (Yields (answer.Int (pos 1))) refl)
  allowed s (call.Cancel n) free uncanceled made = allowed_at_once t (call.Cancel n) (row_of f s t (call.Cancel n)).begin.verdict (effect_of (row_of f s t (call.Cancel n)).begin s).state refl (asking_answers (n is t) (not (is_known s.control n)) (n is main || is_dead (or_nobody (thread s.control n)).state))
  allowed s (call.Abort n) free uncanceled made = allowed_at_once t (call.Abort n) (row_of f s t (call.Abort n)).begin.verdict (effect_of (row_of f s t (call.Abort n)).begin s).state refl (asking_answers (n is t) (not (is_known s.control n)) (n is main))
  allowed s (call.Wait e) free uncanceled made =
      let v = (row_of f s t (call.Wait e)).begin.verdict in
      subst (IsAllowed t (call.Wait e) v) (sym (silent_unless (refuses v) s)) (wait_allowed s e (ring_refusal s.control.events (number e)) refl free)
  allowed s (call.ReadEv d n e) free uncanceled made = tries_allowed s (call.ReadEv d n e) (extra_ring e) false (at_once s d) (awaits.Reading d n) refl refl (free_after s (call.ReadEv d n e) refl free) (λ a k. (tt, tt))
  allowed s (call.WriteEv d bytes e) free uncanceled made = tries_allowed s (call.WriteEv d bytes e) (extra_ring e) false (at_once s d) (awaits.Writing d (length bytes) 0) refl refl (free_after s (call.WriteEv d bytes e) refl free) (λ a k. (tt, tt))
  allowed s (call.AcceptEv d e) free uncanceled made = tries_allowed s (call.AcceptEv d e) (extra_ring e) false (at_once s d) (awaits.Connection d) refl refl (free_after s (call.AcceptEv d e) refl free) (λ a k. (tt, tt))
  allowed s (call.ConnectEv d e) free uncanceled made = tries_allowed s (call.ConnectEv d e) (extra_ring e) false (at_once s d) (awaits.ConnectAnswer d) refl refl (free_after s (call.ConnectEv d e) refl free) (λ a k. (tt, tt))
  allowed s (call.SelectEv r w x l e) free uncanceled made = tries_allowed s (call.SelectEv r w x l e) (extra_ring e) (is_refused_length s r w x l) false (awaits.Selection r w x (select_deadline s l)) refl refl (free_after s (call.SelectEv r w x l e) refl free) (λ a k. (tt, tt))
  allowed s (call.MutexAcquire m v e) free uncanceled made =
      let verdict = (row_of f s t (call.MutexAcquire m v e)).begin.verdict in
      subst (IsAllowed t (call.MutexAcquire m v e) verdict) (sym (silent_unless (refuses verdict) s)) (acquire_allowed s m v e (is_no_ring s (extra_ring e)) (is_none (mutex s m)) _ _ _ (is_claimed_ring s (extra_ring e)) refl refl refl refl free)
  allowed s (call.RwAcquire l write v e) free uncanceled made =
      let verdict = (row_of f s t (call.RwAcquire l write v e)).begin.verdict in
      subst (IsAllowed t (call.RwAcquire l write v e) verdict) (sym (silent_unless (refuses verdict) s)) (enter_allowed s l write v e (is_no_ring s (extra_ring e)) (is_lock s l) (holds s.resources.store.rw_locks t (object_named l)) (lets_in s write l) _ (is_claimed_ring s (extra_ring e)) refl refl refl refl refl free made)
  allowed s (call.CondAwait c m e) free uncanceled made =
      let row = (row_of f s t (call.CondAwait c m e)).begin in
      let same = seats_unless (refuses row.verdict) (seat_entered c (seat_of t)) s in
      await_allowed s (effect_of row s).state c m e (is_no_ring s (extra_ring e)) (is_none (mutex s m)) _ _ (is_claimed_ring s (extra_ring e)) refl refl refl same.0 same.1 (free_after s (call.CondAwait c m e) refl free) (ap (λ (k : Resources). k.awaits t) same.1 ∙ uncanceled) (not (is_initialised s.control.conditions c))
  allowed s (call.BarrierReach b) free uncanceled made = reach_allowed s b (arrival_answer s.control.barriers b) (effect_of (row_of f s t (call.BarrierReach b)).begin s).state (free_after s (call.BarrierReach b) refl free)
  allowed s c free uncanceled made = allowed_by t c (row_of f s t c).begin.verdict (effect_of (row_of f s t c).begin s).state refl (λ a blocks. (free_after s c refl free, waits_plainly t c a (effect_of (row_of f s t c).begin s).state refl))

  -- ---- a call is tried again

  abbrev IsHere : State P S H → State P S H → Type 0
  IsHere s u = blocked_of u.control t ≡ blocked_of s.control t

  here_unless : (b : Bool) (a : Piece P S H) (s : State P S H) → IsHere s (a s).state → IsHere s (unless_refused b a s).state
  here_unless true a s h = refl
  here_unless false a s h = h

  ctrl_here : (s : State P S H) (x : Query) (a : Awaits) → IsHere s (((ctrl s x).again a).effect s).state
  ctrl_here s query.Threads a = refl
  ctrl_here s x a = refl

  made_here : (s : State P S H) (spec : Option EventSpec) (v : EventSpec → Verdict) (g : EventSpec → Change P S H) (a : Awaits) → IsHere s (((made_as spec v g).again a).effect s).state
  made_here s None v g a = refl
  made_here s (Some x) v g a = refl

  make_here : (s : State P S H) (l : EvLine) (a : Awaits) → IsHere s (((make_event s l).again a).effect s).state
  make_here s l a = made_here s (spec_of l) (λ x. by_result says (make_answer s.control.events)) (λ x. with_events (alone x)) a

  -- t's round is tried again, by whether it has passed
  abbrev tries_as : State P S H → ℤ → ℕ → Bool → Attempt P S H
  tries_as s b round passed = if passed then (Says (answer.Int (round_answer s.control.barriers b round t)) trying changes (with_barriers (round_answered b round t))) else (Blocks (awaits.Round b round) trying silent)

  round_here : (s : State P S H) (b : ℤ) (round : ℕ) → IsHere s ((tries_round s t b round).effect s).state
  round_here s b round = by_test (has_passed s.control.barriers b round)
    where
      by_test : (passed : Bool) → IsHere s ((tries_as s b round passed).effect s).state
      by_test true = refl
      by_test false = refl

  -- an attempt that blocks on leaves t blocked
  joins_here : (s : State P S H) (n : ℤ) (own unknown bound : Bool) (o : Option ℕ) → let v = refused EDEADLK when own otherwise refused ESRCH when unknown otherwise refused EINVAL when bound otherwise joined s.control n o in is_blocking v ≡ true → IsHere s (unless_refused (refuses v) (changes (takes_joined o)) s).state
  joins_here s n true unknown bound o h = refl
  joins_here s n false true bound o h = refl
  joins_here s n false false true o h = refl
  joins_here s n false false false None h = refl
  joins_here s n false false false (Some u) h = absurd (true≢false (sym h))

  effect_here : (s : State P S H) (c : Call) (a : Awaits) → is_joining c ≡ false → IsHere s (((row_of f s t c).again a).effect s).state
  unfolding row_of
  effect_here s (call.Join n) a other = absurd (true≢false other)
  effect_here s (call.Ctrl x) a other = ctrl_here s x a
  effect_here s (call.EvFd goals fd) a other = make_here s (line.Fd goals fd) a
  effect_here s (call.EvSelect r w x) a other = make_here s (line.Select r w x) a
  effect_here s (call.EvTime m) a other = make_here s (line.Time m) a
  effect_here s (call.EvMsg p) a other = make_here s (line.Msg p) a
  effect_here s (call.EvCond c) a other = make_here s (line.Cond c) a
  effect_here s (call.EvTid state n) a other = make_here s (line.Tid state n) a
  effect_here s (call.EvFunc c v l) a other = make_here s (line.Func c v l) a
  effect_here s (call.Chain n l) a other = made_here s (spec_of l) (λ x. by_result says (chain_answer s.control.events (number n))) (λ x. with_events (chained x (number n))) a
  effect_here s (call.BarrierReach b) a other = round_here s b (round_in a)
  effect_here s c a other = refl

  again_here : (s : State P S H) (c : Call) (a : Awaits) → is_blocking ((row_of f s t c).again a).verdict ≡ true → IsHere s (effect_of ((row_of f s t c).again a) s).state
  unfolding row_of
  again_here s (call.Join n) a blocks = joins_here s n _ _ _ (to_join s.control n) blocks
  again_here s c a blocks = here_unless (refuses ((row_of f s t c).again a).verdict) ((row_of f s t c).again a).effect s (effect_here s c a refl)

  -- and it blocks on for what the call names, a round for the same one
  round_stays : (s : State P S H) (b : ℤ) (round : ℕ) (now : Awaits) → (tries_round s t b round).verdict ≡ Blocks now → now ≡ awaits.Round b round
  round_stays s b round now blocks = by_test (has_passed s.control.barriers b round) blocks
    where
      by_test : (passed : Bool) → (tries_as s b round passed).verdict ≡ Blocks now → now ≡ awaits.Round b round
      by_test true blocks = absurd (cc blocks)
      by_test false blocks = cc

  again_names : (s : State P S H) (c : Call) (a now : Awaits) → is_taking c ≡ false → is_await c ≡ false → ((row_of f s t c).again a).verdict ≡ Blocks now → Names c now
  unfolding row_of
  again_names s (call.MutexAcquire m v e) a now other plain blocks = absurd (true≢false other)
  again_names s (call.RwAcquire l write v e) a now other plain blocks = absurd (true≢false other)
  again_names s (call.CondAwait q m e) a now other plain blocks = absurd (true≢false plain)
  again_names s (call.BarrierReach b) a now other plain blocks = subst (IsRound b) (sym (round_stays s b (round_in a) now blocks)) refl
  again_names s c a now other plain blocks = tt

  -- a mutex is taken, or a lock is entered, once t waits no longer
  mutex_again : (s : State P S H) (m v e : ℤ) (b : Blocked) (come free : Bool) → is_free s m ≡ free → blocked_of s.control t ≡ Some b → let a = unless_settled come (says 1 when free otherwise Blocks (awaits.Mutex m) trying silent) in IsAllowedAgain t (call.MutexAcquire m v e) b a.verdict (effect_of a s).state
  mutex_again s m v e b false true is_free_so at = record { free = stopped_free t s; room = free_room t (mutex s m) is_free_so }
  mutex_again s m v e b true true is_free_so at = record { free = stopped_free t s; room = free_room t (mutex s m) is_free_so }
  mutex_again s m v e b false false is_free_so at = (at, refl)
  mutex_again s m v e b true false is_free_so at = tt

  rw_again : (s : State P S H) (l : ℤ) (write : Bool) (v e : ℤ) (b : Blocked) (come known open_to held : Bool) → is_lock s l ≡ known → lets_in s write l ≡ open_to → holds s.resources.store.rw_locks t (object_named l) ≡ held → blocked_of s.control t ≡ Some b → is_made s.control.threads.made t ≡ true
      → let a = unless_settled come (says 1 when (known && open_to) && not held otherwise Blocks (awaits.Lock l write) trying silent) in IsAllowedAgain t (call.RwAcquire l write v e) b a.verdict (effect_of a s).state
  rw_again s l write v e b false true true false is_known is_open_to is_held at made = record { free = stopped_free t s; out = is_held; open_to = is_open_to; made = stopped_made t s ∙ made }
  rw_again s l write v e b true true true false is_known is_open_to is_held at made = record { free = stopped_free t s; out = is_held; open_to = is_open_to; made = stopped_made t s ∙ made }
  rw_again s l write v e b false true true true is_known is_open_to is_held at made = (at, refl)
  rw_again s l write v e b true true true true is_known is_open_to is_held at made = tt
  rw_again s l write v e b false true false held is_known is_open_to is_held at made = (at, refl)
  rw_again s l write v e b true true false held is_known is_open_to is_held at made = tt
  rw_again s l write v e b false false open_to held is_known is_open_to is_held at made = (at, refl)
  rw_again s l write v e b true false open_to held is_known is_open_to is_held at made = tt

  other_again : (s : State P S H) (c : Call) (b : Blocked) (come : Bool) → is_taking c ≡ false → is_await c ≡ false → blocked_of s.control t ≡ Some b → let a = unless_settled come ((row_of f s t c).again b.awaits) in IsAllowedAgain t c b a.verdict (effect_of a s).state
  other_again s c b false other plain at =
      let a = (row_of f s t c).again b.awaits in
      again_by t c b a.verdict (effect_of a s).state other (λ now blocks. (again_here s c b.awaits (ap is_blocking blocks) ∙ at, again_names s c b.awaits now other plain blocks))
  other_again s c b true other plain at =
      let a = unless_settled true ((row_of f s t c).again b.awaits) in
      again_by t c b a.verdict (effect_of a s).state other (λ now blocks. absurd (true≢false (sym (ap is_blocking blocks) ∙ interrupted_answers ((row_of f s t c).again b.awaits).verdict)))

  pub allowed_again : (s : State P S H) (c : Call) (b : Blocked) (come : Bool) → is_await c ≡ false → blocked_of s.control t ≡ Some b → is_made s.control.threads.made t ≡ true → let a = unless_settled come ((row_of f s t c).again b.awaits) in IsAllowedAgain t c b a.verdict (effect_of a s).state
  unfolding row_of
  allowed_again s (call.MutexAcquire m v e) b come plain at made = mutex_again s m v e b come (is_free s m) refl at
  allowed_again s (call.CondAwait c m e) b come plain at made = absurd (true≢false plain)
  allowed_again s (call.RwAcquire l write v e) b come plain at made = rw_again s l write v e b come (is_lock s l) (lets_in s write l) (holds s.resources.store.rw_locks t (object_named l)) refl refl refl at made
  allowed_again s c b come plain at made = other_again s c b come refl plain at

  settled_none : (s : State P S H) (c : Call) (a : Awaits) (come : Bool) → is_reaching c ≡ false → is_special true a ≡ false → is_rounding true (unless_settled come ((row_of f s t c).again a)).verdict ≡ false
  settled_none s c a false other none = again_none true f s t c a other none
  settled_none s c a true other none = interrupted_none true ((row_of f s t c).again a).verdict

  pub stays_again : (s : State P S H) (c : Call) (a : Awaits) (come : Bool) (now : Awaits) → (unless_settled come ((row_of f s t c).again a)).verdict ≡ Blocks now → StaysAt c a now
  unfolding row_of
  stays_again s (call.BarrierReach b) a false now blocks = round_stays s b (round_in a) now blocks
  stays_again s (call.BarrierReach b) a true now blocks = absurd (true≢false (sym (ap is_blocking blocks) ∙ interrupted_answers (tries_round s t b (round_in a)).verdict))
  stays_again s c a come now blocks = λ none. sym (ap (is_rounding true) blocks) ∙ settled_none s c a come refl none

  -- t's round has passed, and its arrival is answered
  round_left : (s : State P S H) (b : ℤ) (round : ℕ) → is_blocking (tries_round s t b round).verdict ≡ false → waits_at (effect_of (tries_round s t b round) s).state.control.barriers b t ≡ false
  round_left s b round at_once = by_test (has_passed s.control.barriers b round) at_once
    where
      by_test : (passed : Bool) → is_blocking (tries_as s b round passed).verdict ≡ false → waits_at (effect_of (tries_as s b round passed) s).state.control.barriers b t ≡ false
      by_test true at_once = answered_left b round t s.control.barriers
      by_test false at_once = absurd (true≢false at_once)

  -- what blocks t afterwards is the same call, if any does
  same_call : (s : State P S H) (c : Call) (b d : Blocked) (come : Bool) → blocked_of s.control t ≡ Some b → blocked_of (effect_of (unless_settled come ((row_of f s t c).again b.awaits)) s).state.control t ≡ Some d → d ≡ b
  same_call s c b d come at now = come_keeps f t (λ k. (x : Blocked) → blocked_of k t ≡ Some x → x ≡ b) (so_kept t (λ o. (x : Blocked) → o ≡ Some x → x ≡ b) (λ x h. absurd (cc h)) f) s c b.awaits come (λ x h. one x (sym at ∙ h)) d now
    where
      one : (x : Blocked) → Some b ≡ Some x → x ≡ b
      one x h = cc

  pub unseated_again : (s : State P S H) (c : Call) (b : Blocked) (come : Bool) → b.call ≡ c → is_await c ≡ false → blocked_of s.control t ≡ Some b → is_awaiting (blocked_of (effect_of (unless_settled come ((row_of f s t c).again b.awaits)) s).state.control t) ≡ false
  unseated_again s c b come named other at = come_keeps f t (λ k. is_awaiting (blocked_of k t) ≡ false) (so_kept t (λ o. is_awaiting o ≡ false) refl f) s c b.awaits come (ap is_awaiting at ∙ ap is_await named ∙ other)

  pub left_again : (s : State P S H) (c : Call) (b : Blocked) → b.call ≡ c → blocked_of s.control t ≡ Some b → let a = unless_settled (has_settled s.control.events (ring_given c)) ((row_of f s t c).again b.awaits) in is_blocking a.verdict ≡ false → HasLeft t (effect_of a s).state
  unfolding row_of
  left_again s (call.BarrierReach x) b named at at_once y round now =
      let same : record { call = call.BarrierReach y; awaits = awaits.Round y round } ≡ b = same_call s (call.BarrierReach x) b (record { call = call.BarrierReach y; awaits = awaits.Round y round }) false at now in
      let here : x ≡ y = reached_same x y (sym named ∙ ap (λ (d : Blocked). d.call) (sym same)) in
      subst (λ (i : ℤ). waits_at (effect_of (tries_round s t x (round_in b.awaits)) s).state.control.barriers i t ≡ false) here (round_left s x (round_in b.awaits) at_once)
    where
      reached_same : (x y : ℤ) → call.BarrierReach x ≡ call.BarrierReach y → x ≡ y
      reached_same x y h = cc
  left_again s c b named at at_once y round now =
      let same = same_call s c b (record { call = call.BarrierReach y; awaits = awaits.Round y round }) (has_settled s.control.events (ring_given c)) at now in
      absurd (true≢false (ap is_reaching (ap (λ (d : Blocked). d.call) same ∙ named)))
