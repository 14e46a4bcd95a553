-- What every part of a run keeps of a state, by the changes and the marks of which parts are made. Beside each stands what is known as it
-- is made.
use Rattle.std.proofs.Common.{◌≡◌, ◌≢◌, ◌==◌, ℕ, zero, suc, ◌+◌, ◌*◌, ◌&&◌, ◌||◌, not, min, Bool, true, false, if◌then◌else◌, ℤ, pos, ◌+ℤ◌, List, [], ◌∷◌, map, reverse, ◌⊎◌, inl, inr, Option, Some, None, is_none, is_some, option_map, refl, sym, ◌∙◌, ap, subst, Result, Ok, Err, arith}
use Rattle.std.proofs.lemmas.Bool.{not-false, true≢false}
use Rattle.std.proofs.lemmas.Int.{ints}
use Rattle.pth_base.specs.Limits.{last_count, last_moment}
use Rattle.pth_base.specs.Program.{Functions}
use Rattle.pth_base.specs.declared.act.Act.{Act}
use Rattle.pth_base.specs.declared.act.Act.TheVariants as act
use Rattle.pth_base.specs.declared.answer.Answer.TheVariants as answer
use Rattle.pth_base.specs.declared.attr.AttrValue.{AttrValue}
use Rattle.pth_base.specs.declared.attr.AttrValue.TheVariants as value
use Rattle.pth_base.specs.declared.call.Call.{Call}
use Rattle.pth_base.specs.declared.call.Call.TheVariants as call
use Rattle.pth_base.specs.declared.errno.Errno.{Errno}
use Rattle.pth_base.specs.declared.errno.Errno.TheVariants.{EACCES, EBUSY, EDEADLK, EINTR, EINVAL, EPERM, ESRCH}
use Rattle.pth_base.specs.declared.event.EventSpec.{EventSpec}
use Rattle.pth_base.specs.declared.event.EvLine.{EvLine}
use Rattle.pth_base.specs.declared.event.EvLine.TheVariants as line
use Rattle.pth_base.specs.declared.ids.EventId.{EventId}
use Rattle.pth_base.specs.declared.ids.HandlerId.{HandlerId}
use Rattle.pth_base.specs.declared.ids.Tid.{Tid}
use Rattle.pth_base.specs.declared.mark.Mark.{Mark}
use Rattle.pth_base.specs.declared.mark.Mark.TheVariants as mark
use Rattle.pth_base.specs.declared.outcome.Outcome.{Outcome}
use Rattle.pth_base.specs.declared.outcome.Outcome.TheVariants as outcome
use Rattle.pth_base.specs.declared.query.Query.{Query}
use Rattle.pth_base.specs.declared.query.Query.TheVariants as query
use Rattle.pth_base.specs.declared.thread.ThreadState.{ThreadState}
use Rattle.pth_base.specs.declared.thread.ThreadState.TheVariants as state
use Rattle.pth_base.specs.Chain.{StandsIn}
use Rattle.pth_base.proofs.Tables.{put_here, same_fails}
use Rattle.pth_cond.specs.declared.barriers.Arrival.{Arrival}
use Rattle.pth_cond.specs.declared.barriers.Arrival.TheVariants as arrival
use Rattle.pth_cond.specs.Conditions.{ConditionTable, is_initialised, cond_notified, seat_entered, seat_left, seat_handed_on}
use Rattle.pth_cond.specs.declared.seats.Seat.{Seat}
use Rattle.pth_cond.specs.Barriers.{BarrierTable, is_size, taillight, arrival_answer, has_passed, waits_at, barrier_initialised, barrier_reached, round_answer, round_answered, withdrawn}
use Rattle.pth_kernel.specs.Kernel.{Kernel, advanced}
use Rattle.pth_lock.specs.Objects.{object_named, is_object}
use Rattle.pth_numbered.specs.Operands.{number, is_zero, ◌is◌, ◌is_from◌to◌}
use Rattle.pth_queue.specs.Ranking.{place_in}
use Rattle.pth_queue.specs.declared.queue.Queue.{Queue}
use Rattle.pth_queue.specs.declared.queue.Queue.TheVariants.{New, Ready, Waiting, Suspended, Dead}
use Rattle.pth_ring.specs.Ring.{head_event, rest_of}
use Rattle.pth_ring.specs.Rings.{Events, event_id, make_answer, chain_answer, unless, ring_refusal, concat_refusal, alone, chained, concatenated, isolated, freed, ring_freed}
use Rattle.pth_store.specs.Cleanups.{PushedHandler}
use Rattle.pth_store.specs.Keys.{key_limit}
use Rattle.pth_threads.specs.Attributes.{IsSetPrio, first_values, least_priority, with_value, change_of, is_gone, is_fixed, is_in_range, set_answer}
use Rattle.pth_threads.specs.Threads.{changed}
use Rattle.pth_threads.specs.declared.attribute.Attribute.{Attribute}
use Rattle.pth_threads.specs.declared.attribute.Attribute.TheVariants.{Free, Bound}
use Rattle.pth_threads.specs.declared.entry.Change as change_of_record
use Rattle.pth_threads.specs.declared.entry.Change.TheVariants as change
use Rattle.pth_threads.specs.declared.entry.Entry.{Entry}
use Rattle.pth_threads.specs.declared.entry.NewThread.{NewThread}
use Rattle.pth_model.specs.declared.awaits.Awaits.{Awaits}
use Rattle.pth_model.specs.declared.awaits.Awaits.TheVariants as awaits
use Rattle.pth_model.specs.declared.awaits.Retake.{Retake}
use Rattle.pth_model.specs.declared.awaits.Retake.TheVariants as retake
use Rattle.pth_model.specs.declared.blocked.Blocked.{Blocked}
use Rattle.pth_model.specs.declared.destructors.Due.{Due}
use Rattle.pth_model.specs.declared.destructors.DestructorRound.{DestructorRound}
use Rattle.pth_model.specs.declared.next.Next.{Next}
use Rattle.pth_model.specs.declared.next.Next.TheVariants as next
use Rattle.pth_model.specs.declared.progress.Progress.{Progress}
use Rattle.pth_model.specs.Awaits.{awaits_in, round_in, is_await, is_awaiting, is_retaking}
use Rattle.pth_model.specs.Conditions.{seat_of, can_take, is_noticed, leaves_seat, hands_on_seat, hands_on_seats}
use Rattle.pth_model.specs.Mutexes.{mutex}
use Rattle.pth_model.specs.Barriers.{arrived_as, withdraws, withdraws_from}
use Rattle.pth_model.specs.Resources.{handler}
use Rattle.pth_model.specs.Standing.{Standing, left_by, is_queue, raises_of}
use Rattle.pth_model.specs.Allowance as allowance
use Rattle.pth_model.specs.Allowance.{Point, standing_of, waited, number_by}
use Rattle.pth_model.specs.State.{State, Given, Scheduler, Threads, Turn, start, queue, now_of, clock_of}
use Rattle.pth_model.specs.Transition.{Piece, Change, silent, nothing, changes, tells, tells_each, tid, controlled, where_so, ◌and◌, ◌and_then◌}
use Rattle.pth_model.specs.Changes.{shares, uses, sets, goes_on, owing, is_blocked_by, enters, leaves_queue, trails, raises_ready, makes, forgets, removes, adds_object, puts_object, with_threads, with_conditions, with_barriers, with_events, with_kernel, with_scheduler, moves_to, prefers, runs_now, blocked_in, blocked_of, or_nobody, entry_of, prio_of, queue_for, holders}
use Rattle.pth_model.specs.declared.verdict.Verdict.{Verdict}
use Rattle.pth_model.specs.declared.verdict.Verdict.TheVariants.{Says, Yields, Blocks, Ends, Kills}
use Rattle.pth_model.specs.Verdict.{refused, says, done, by_result}
use Rattle.pth_numbered.specs.Clauses.{◌when◌otherwise◌}
use Rattle.pth_model.specs.Row.{Attempt, unless_refused, refuses, effect_of, ◌trying◌}
use Rattle.pth_model.specs.EventSeats.{seats_changed}
use Rattle.pth_model.specs.RingWaits.{awaited_in, claims, extra_ring, is_no_ring, is_claimed_ring, ring_given, ring_held, ring_seats, events_from, stops_waiting, has_settled}
use Rattle.pth_model.specs.Acts.{acts, acts_from, act_limit, answer_in, row_of_act, goes_on_after, runs_handler}
use Rattle.pth_model.specs.Cleanups.{runs_pushed, last_pushed}
use Rattle.pth_model.specs.Ending.{ending, undoes_wait, runs_each, runs_cleanups, destructs, destructs_by, runs_destructors, mutexes_had, locks_held, gives_mutexes, gives_locks, dies, leaves, is_dead_with, other_than, stops_running, next_destructor, round_limit, first_round}
use Rattle.pth_model.specs.ThreadControl.{thread, is_known, spawns, suspends, resumes, returns_to, values_for, or_first, to_join, takes_joined}
use Rattle.pth_model.specs.LibraryControl.{ctrl, vanish_all_but}
use Rattle.pth_model.specs.AttributeHandling.{object, sets_field, sets_value}
use Rattle.pth_model.specs.EventHandling.{spec_of, made_as, make_event, number_or_none}
use Rattle.pth_model.specs.Cancellation.{canceled_value, is_asynchronous, is_to_cancel, may_be_canceled, takes_request, canceled_by_other, aborted}
use Rattle.pth_model.specs.Living.{is_dead, lives}
use Rattle.pth_model.specs.Rows.{row_of}
use Rattle.pth_model.specs.Calls.{begun, begun_by, begun_as, blocks, gone_on, gone_on_where, canceled_by, tried_again, tried_again_by, tried_by, unless_settled, interrupted, retaken_as, retakes_where, awaits_on_where, awaits_on, gone_on_in, gone_on_by}
use Rattle.pth_model.specs.Pass.{pass, looks, to_wake, woken, all_woken, is_ready_at, moment}
use Rattle.pth_model.specs.Part.{rank_by, Part, Move, Take, Step, Close, Halt, part, part_by, next_part, chosen, readies, readies_all, readies_new, runs, trail_with, dispatches, takes, takes_by, owes_after, steps, steps_on, steps_by, is_put_back, is_put_waiting, placed_by, is_placed, turn_ends, closes, moves, moves_by, unless_ended}
use Rattle.pth_model.specs.Run.{parts, run}
use Rattle.pth_model.proofs.Walks.{named_dead}
use Rattle.pth_laws.specs.Waits.{Names}
use Rattle.pth_laws.proofs.Going.{IsSound, sound_steps}
use Rattle.pth_laws.proofs.EveryRun.{run_sound, run_valid}
use Rattle.pth_model.proofs.NoRounds.{is_reaching, is_special, is_rounding, begins_none, again_plainly}
use Rattle.pth_laws.proofs.Seats.{HasLeftAt, left_fewer, left_there, handed_there}
use Rattle.pth_laws.proofs.KeptSeats.{KeepsSeats, KeepsOtherSeats, keeps_handed, keeps_notified, keeps_initialised, keeps_same, keeps_then, keeps_left, keeps_handed_on}
use Rattle.pth_laws.proofs.NoNotices.{is_notice, is_noticing, begins_unnoticed, again_unnoticed}
use Rattle.pth_laws.proofs.Rounds.{HasFewer, HasOthers, HasAll, fewer_same, fewer_initialised, fewer_tail, fewer_answered, fewer_withdrawn, others_answered, others_withdrawn, all_initialised, all_reached}
use Rattle.pth_laws.proofs.Still.{begins_still}
use Rattle.pth_laws.proofs.Allowed.{IsFree, IsTaking, IsToTell, unawaited, takes_room, MayWait, IsAllowed, IsAllowedAgain, StaysAt, HasLeft, HasLeftSeat, unseated, unseated_again, is_blocking, await_allowed, allowed, allowed_again, stays_again, left_again, left_ended, stopped_free}

-- a change of a record that leaves its base priority in its range
abbrev pub IsPrioSafe : ℕ → change_of_record.Change → Type 0
IsPrioSafe top (change.Prio prio) = IsSetPrio top prio
IsPrioSafe top c = Unit {0}

-- a thread dies once no call blocks it
abbrev pub IsLifeSafe : {P S H : Type 0} → ℕ → change_of_record.Change → State P S H → Type 0
IsLifeSafe t (change.State state.Dead) s = IsFree t s
IsLifeSafe t c s = Unit {0}

-- in a step none begins to wait: a thread is put among the waiting ones as its turn is closed
abbrev pub IsStepSafe : {P S H : Type 0} → ℕ → change_of_record.Change → State P S H → Type 0
IsStepSafe t (change.State state.Dead) s = IsFree t s
IsStepSafe t (change.State state.Waiting) s = ⊥
IsStepSafe t c s = Unit {0}

-- who stands in a queue
abbrev pub standers : List Standing → List ℕ
standers all = map (λ x. x.tid) all

-- the state of a thread
abbrev pub state_of : {P S H : Type 0} → State P S H → ℕ → ThreadState
state_of s t = (or_nobody (entry_of s.control t)).state

-- whoever stands among the waiting threads stood there, or its state is waiting
abbrev pub MayStand : {P S H : Type 0} → (Queue → List Standing) → State P S H → Type 0
MayStand standing s = (u : ℕ) → StandsIn u (standers (standing Waiting)) → StandsIn u (standers (s.control.threads.standing Waiting)) ⊎ (state_of s u ≡ state.Waiting)

-- no call blocks t, or it does not live
abbrev pub IsGone : {P S H : Type 0} → ℕ → State P S H → Type 0
IsGone t s = IsFree t s ⊎ (lives (s.control.threads.known t) ≡ false)

-- t lives, and is somewhere in its program
abbrev pub IsThere : {P S H : Type 0} → ℕ → State P S H → Type 0
IsThere t s = (lives (s.control.threads.known t) ≡ true) × (is_some (s.control.threads.progress t) ≡ true)

-- calls that take a place where they wait
abbrev pub is_placing : Call → Bool
is_placing (call.BarrierReach b) = true
is_placing (call.CondAwait c m e) = true
is_placing c = false

abbrev is_saying : Verdict → Bool
is_saying (Says a) = true
is_saying v = false

-- the changes of events and rings that calls make
pub data Arrangement : Type 0 where
  Alone : EventSpec → Arrangement
  Chained : EventSpec → ℕ → Arrangement
  Joined : (a b : ℕ) → Arrangement
  Isolated : ℕ → Arrangement
  Freed : ℕ → Arrangement
  RingFreed : ℕ → Arrangement

abbrev pub arranged : Arrangement → Events → Events
arranged (Alone spec) = alone spec
arranged (Chained spec e) = chained spec e
arranged (Joined a b) = concatenated a b
arranged (Isolated e) = isolated e
arranged (Freed e) = freed e
arranged (RingFreed e) = ring_freed e

-- none of the rings is claimed, and each event is there
abbrev pub MayArrange : Events → Arrangement → Type 0
MayArrange x (Alone spec) = Unit {0}
MayArrange x (Chained spec e) = ring_refusal x e ≡ None
MayArrange x (Joined a b) = concat_refusal x a b ≡ None
MayArrange x (Isolated e) = ring_refusal x e ≡ None
MayArrange x (Freed e) = ring_refusal x e ≡ None
MayArrange x (RingFreed e) = ring_refusal x e ≡ None

-- what handlers do, and what is told of them: the program's shared value changes, and the marks of seats
pub record KeptByHandlers {P S H : Type 0} (R : State P S H → Type 0) : Type 0 where
  pub shared : (h : H) (s : State P S H) → R s → R (controlled (shares h) s)
  pub seated : (x : ConditionTable) (s : State P S H) → KeepsSeats x s.control.conditions → R s → R (controlled (with_conditions (λ y. x)) s)
  pub told : (m : Mark) (s : State P S H) → IsToTell m s → R s → R (tells m s).state

-- Other places in queues, or another trail of dispatches, changes of records, and looks. A step puts nobody among the waiting threads, and looks at no event: these two
-- are left out where not all changes are asked for.
abbrev pub KeepsPlaces : {P S H : Type 0} → (all : Bool) → (State P S H → Type 0) → Type 0
KeepsPlaces {P = P} {S = S} {H = H} true R = (standing : Queue → List Standing) (entries raises : ℕ) (trail : List Point) (s : State P S H) → R s → R (controlled (with_threads (λ x. record x { standing = standing; entries = entries; raises = raises; trail = trail })) s)
KeepsPlaces {P = P} {S = S} {H = H} false R = (standing : Queue → List Standing) (entries raises : ℕ) (trail : List Point) (s : State P S H) → MayStand standing s → R s → R (controlled (with_threads (λ x. record x { standing = standing; entries = entries; raises = raises; trail = trail })) s)

abbrev pub KeepsRecords : {P S H : Type 0} → (all : Bool) → (State P S H → Type 0) → Type 0
KeepsRecords {P = P} {S = S} {H = H} true R = (t : ℕ) (c : change_of_record.Change) (s : State P S H) → IsPrioSafe s.control.top c → IsLifeSafe t c s → R s → R (controlled (sets t c) s)
KeepsRecords {P = P} {S = S} {H = H} false R = (t : ℕ) (c : change_of_record.Change) (s : State P S H) → IsPrioSafe s.control.top c → IsStepSafe t c s → R s → R (controlled (sets t c) s)

abbrev pub KeepsLooks : {P S H : Type 0} → (all : Bool) → (P → Functions S H) → (State P S H → Type 0) → Type 0
KeepsLooks {P = P} {S = S} {H = H} true f R = (s : State P S H) → R s → R (controlled (looks f s) s)
KeepsLooks {P = P} {S = S} {H = H} false f R = Unit {0}

pub record Kept {P S H : Type 0} (all : Bool) (f : P → Functions S H) (R : State P S H → Type 0) : Type 0 where
  pub handlers : KeptByHandlers R
  -- the places in queues and the trail, what the scheduler keeps, the kernel, and what was used once
  pub placed : KeepsPlaces all R
  pub scheduled : (x : Scheduler) (s : State P S H) → R s → R (controlled (with_scheduler (λ y. x)) s)
  pub timed : (x : Kernel) (s : State P S H) → R s → R (controlled (with_kernel (λ y. x)) s)
  pub used : (o : ℕ → Bool) (s : State P S H) → R s → R (controlled (λ k. record k { used = o }) s)
  -- the records of threads
  pub set : KeepsRecords all R
  pub made : (t b : ℕ) (v a : ℤ) (s : State P S H) → lives (s.control.threads.known (s.control.threads.made + 1)) ≡ false → R s → R (controlled (makes f b v (or_first (values_for s.control t a))) s)
  pub forgotten : (t : ℕ) (s : State P S H) → IsGone t s → R s → R (controlled (forgets t) s)
  pub vanished : (t : ℕ) (s : State P S H) → IsFree t s → R s → R (controlled (vanish_all_but t) s)
  -- attribute objects
  pub added : (s : State P S H) → R s → R (controlled (adds_object (Free first_values)) s)
  pub bound : (t : Tid) (s : State P S H) → R s → R (controlled (adds_object (Bound t)) s)
  pub renewed : (n : ℕ) (s : State P S H) → R s → R (controlled (puts_object n (Some (Free first_values))) s)
  pub valued : (a : ℤ) (v : AttrValue) (x : NewThread) (s : State P S H) → object s.control a ≡ Some (Free x) → is_in_range s.control.top v ≡ true → R s → R (controlled (puts_object (number a) (Some (Free (with_value v x)))) s)
  pub destroyed : (n : ℕ) (s : State P S H) → R s → R (controlled (puts_object n None) s)
  -- events, and looks at them
  pub arranges : (x : Arrangement) (s : State P S H) → MayArrange s.control.events x → R s → R (controlled (with_events (arranged x)) s)
  pub looked : KeepsLooks all f R
  -- barriers: none has an arrival more, and none is lost; or t's call makes one, and waits for its round
  pub barred : (x : BarrierTable) (s : State P S H) → HasFewer x s.control.barriers → HasAll x s.control.barriers → R s → R (controlled (with_barriers (λ y. x)) s)
  pub reached : (t : ℕ) (b : ℤ) (round : ℕ) (s : State P S H) → IsFree t s → lives (s.control.threads.known t) ≡ true → is_some (s.control.threads.progress t) ≡ true → arrival_answer s.control.barriers b ≡ Ok (arrival.Incomplete round) → R s → R (controlled (λ k. blocks t (call.BarrierReach b) (awaits.Round b round) (with_barriers (barrier_reached b t) k)) s)
  -- how far threads are, and what blocks them
  pub goes : (t : ℕ) (g : Progress S → Progress S) (s : State P S H) → ((p : Progress S) → (g p).blocked ≡ p.blocked) → R s → R (controlled (goes_on t g) s)
  pub blocked : (t : ℕ) (c : Call) (a : Awaits) (s : State P S H) → IsFree t s → IsThere t s → is_placing c ≡ false → (is_special true a ≡ false) × (is_notice a ≡ false) → MayWait t c a s → R s → R (controlled (λ k. blocks t c a (claims t (ring_given c) k)) s)
  pub waits_on : (t : ℕ) (a : Awaits) (b : Blocked) (s : State P S H) → blocked_of s.control t ≡ Some b → Names b.call a → StaysAt b.call b.awaits a → is_await b.call ≡ false → (is_retaking b.awaits ≡ false) × (is_retaking a ≡ false) × (is_notice b.awaits ≡ false → is_notice a ≡ false) → R s → R (controlled (is_blocked_by t (Some (record b { awaits = a }))) s)
  -- no call blocks t any longer, and its arrival, or its seat, may be lost with this
  pub stopped : (t : ℕ) (x : BarrierTable) (y : ConditionTable) (s : State P S H) → HasFewer x s.control.barriers → HasOthers t x s.control.barriers → KeepsOtherSeats t y s.control.conditions → HasLeft t (controlled (with_barriers (λ z. x)) s) → HasLeftSeat t y s → R s → R (controlled (λ k. stops_waiting t (with_conditions (λ z. y) (with_barriers (λ z. x) k))) s)
  -- t takes a seat at a condition, which is initialised, and waits there, as is told
  pub takes_seat : (t : ℕ) (c m e : ℤ) (s : State P S H) → IsFree t s → lives (s.control.threads.known t) ≡ true → (is_some (s.control.threads.progress t) ≡ true) × (is_initialised s.control.conditions c ≡ true) → MayWait t (call.CondAwait c m e) (awaits.Notice c) s → R s → R (tells (mark.Waits (tid t) (call.CondAwait c m e)) (controlled (λ k. blocks t (call.CondAwait c m e) (awaits.Notice c) (claims t (extra_ring e) (with_conditions (seat_entered c (seat_of t)) k))) s)).state
  -- its wait there is over, its seat may be lost with this, and it waits for its mutex
  pub retakes : (t : ℕ) (c m e : ℤ) (a : Awaits) (o : Retake) (y : ConditionTable) (s : State P S H) → KeepsOtherSeats t y s.control.conditions → HasLeftSeat t y s → blocked_of s.control t ≡ Some (record { call = call.CondAwait c m e; awaits = a }) → R s → R (controlled (λ k. blocks t (call.CondAwait c m e) (awaits.Retaking m o) (stops_waiting t (with_conditions (λ z. y) k))) s)

-- of all parts, and of steps alone
abbrev pub KeptAlong : {P S H : Type 0} → (P → Functions S H) → (State P S H → Type 0) → Type 0
KeptAlong f R = Kept true f R

abbrev pub KeptBySteps : {P S H : Type 0} → (P → Functions S H) → (State P S H → Type 0) → Type 0
KeptBySteps f R = Kept false f R

pub life_of_step : {P S H : Type 0} (t : ℕ) (c : change_of_record.Change) (s : State P S H) → IsStepSafe t c s → IsLifeSafe t c s
life_of_step t (change.State state.Dead) s safe = safe
life_of_step t (change.State state.Waiting) s safe = absurd safe
life_of_step t (change.State at) s safe = tt
life_of_step t c s safe = tt

-- what all changes keep, steps do
pub kept_by_steps : {P S H : Type 0} (f : P → Functions S H) (R : State P S H → Type 0) → KeptAlong f R → KeptBySteps f R
kept_by_steps f R kept = record {
  handlers = kept.handlers;
  placed = λ standing entries raises trail s may r. kept.placed standing entries raises trail s r;
  scheduled = kept.scheduled;
  timed = kept.timed;
  used = kept.used;
  set = λ t c s prio life r. kept.set t c s prio (life_of_step t c s life) r;
  made = kept.made;
  forgotten = kept.forgotten;
  vanished = kept.vanished;
  added = kept.added;
  bound = kept.bound;
  renewed = kept.renewed;
  valued = kept.valued;
  destroyed = kept.destroyed;
  arranges = kept.arranges;
  looked = tt;
  barred = kept.barred;
  reached = kept.reached;
  goes = kept.goes;
  blocked = kept.blocked;
  waits_on = kept.waits_on;
  stopped = kept.stopped;
  takes_seat = kept.takes_seat;
  retakes = kept.retakes;
}

-- ---- who stands among the waiting threads

-- who leaves stands there no longer, and nobody more does
pub left_stands : (t u : ℕ) (xs : List Standing) → StandsIn u (standers (left_by t xs)) → StandsIn u (standers xs) × (u ≢ t)
left_stands t u [] h = absurd h
left_stands t u (x ∷ xs) h = by_test (x.tid == t) refl (left_stands t u xs) h
  where
    by_test : (b : Bool) → (x.tid == t) ≡ b → (StandsIn u (standers (left_by t xs)) → StandsIn u (standers xs) × (u ≢ t)) → StandsIn u (standers (if not b then x ∷ left_by t xs else left_by t xs)) → StandsIn u (standers (x ∷ xs)) × (u ≢ t)
    by_test true own more h = let old = more h in (inr old.0, old.1)
    by_test false other more (inl here) = (inl here, λ same. same_fails x.tid t other (sym here ∙ same))
    by_test false other more (inr h) = let old = more h in (inr old.0, old.1)

-- in the queue of a state that is not waiting none waits
waiting_queue : (at : ThreadState) (q : Queue) → queue_for at ≡ Some q → is_queue Waiting q ≡ true → at ≡ state.Waiting
waiting_queue state.New q same h = let here : New ≡ q = cc in absurd (true≢false (sym h ∙ ap (is_queue Waiting) (sym here)))
waiting_queue state.Ready q same h = let here : Ready ≡ q = cc in absurd (true≢false (sym h ∙ ap (is_queue Waiting) (sym here)))
waiting_queue state.Running q same h = absurd (cc same)
waiting_queue state.Waiting q same h = refl
waiting_queue state.Dead q same h = let here : Dead ≡ q = cc in absurd (true≢false (sym h ∙ ap (is_queue Waiting) (sym here)))

suspended_state : (b : Bool) (o : Option Entry) → (or_nobody (option_map (changed (change.Suspended b)) o)).state ≡ (or_nobody o).state
unfolding changed
suspended_state b None = refl
suspended_state b (Some e) = refl

-- ---- what verdicts say of calls that they do not refuse

no_refusal : {A : Type 0} (r : Option Errno) (x : Result A Errno) (v : A → Verdict) → refuses (by_result v (unless r x)) ≡ false → r ≡ None
no_refusal None x v h = refl
no_refusal (Some e) x v h = absurd (true≢false h)

-- a value that is set is in its range
set_passes : (top : ℕ) (known : ℕ → Option Entry) (o : Option Attribute) (v : AttrValue) → refuses (by_result done (set_answer top known o v)) ≡ false → is_in_range top v ≡ true
set_passes top known o v h = by_tests (is_none o) (is_gone known o) (is_fixed v) (is_in_range top v) h
  where
    by_tests : (none gone fixed inside : Bool) → refuses (by_result done (if none then Err EINVAL else (if gone then Err ESRCH else (if fixed then Err EPERM else (if not inside then Err EINVAL else Ok tt))))) ≡ false → inside ≡ true
    by_tests true gone fixed inside h = absurd (true≢false h)
    by_tests false true fixed inside h = absurd (true≢false h)
    by_tests false false true inside h = absurd (true≢false h)
    by_tests false false false false h = absurd (true≢false h)
    by_tests false false false true h = refl

-- a barrier that is initialised was not
init_passes : (inside there : Bool) → refuses (by_result done (if not inside then Err EINVAL else (if there then Err EBUSY else Ok tt))) ≡ false → there ≡ false
init_passes false there h = absurd (true≢false h)
init_passes true true h = absurd (true≢false h)
init_passes true false h = refl

pub prio_in_range : (top : ℕ) (n : ℤ) → (n is_from least_priority top to pos top) ≡ true → IsSetPrio top n
prio_in_range top n h = record { low = grind (arith, ints); high = grind (arith, ints) }

-- ---- handlers, and what is given up: only the program's shared value and seats of conditions change, and marks are told

module _ {P S H : Type 0} (f : P → Functions S H) (R : State P S H → Type 0) (kept : KeptByHandlers R) where
  abbrev Runs : Piece P S H → Type 0
  Runs a = (s : State P S H) → R s → R (a s).state

  then_runs : (a b : Piece P S H) → Runs a → Runs b → Runs (a and_then b)
  then_runs a b x y s r = y (a s).state (x s r)

  -- an act that changes nothing, refused or not, and is told
  nothing_keeps : (t : ℕ) (x : Act) (s : State P S H) (b : Bool) → R s → R ((unless_refused b (changes nothing) and_then tells (mark.Acted (tid t) x (answer_in (row_of_act s t x).begin.verdict))) s).state
  nothing_keeps t x s true r = kept.told _ s tt r
  nothing_keeps t x s false r = kept.told _ s tt r

  act_keeps : (t : ℕ) (x : Act) → Runs (acts t x)
  unfolding acts
  act_keeps t (act.Notify c v) s r = by_refusal (refuses (row_of_act s t (act.Notify c v)).begin.verdict)
    where
      m : Mark
      m = mark.Acted (tid t) (act.Notify c v) (answer_in (row_of_act s t (act.Notify c v)).begin.verdict)

      by_refusal : (b : Bool) → R ((unless_refused b (row_of_act s t (act.Notify c v)).begin.effect and_then tells m) s).state
      by_refusal true = kept.told m s tt r
      by_refusal false = kept.told m (controlled (with_conditions (cond_notified c (not (is_zero v)))) s) tt (kept.seated _ s (keeps_notified c (not (is_zero v)) s.control.conditions) r)
  act_keeps t (act.SetKey k v) s r = nothing_keeps t (act.SetKey k v) s (refuses (row_of_act s t (act.SetKey k v)).begin.verdict) r
  act_keeps t (act.Release i) s r = nothing_keeps t (act.Release i) s (refuses (row_of_act s t (act.Release i)).begin.verdict) r
  act_keeps t (act.Put p v) s r = nothing_keeps t (act.Put p v) s (refuses (row_of_act s t (act.Put p v)).begin.verdict) r
  act_keeps t x s r = kept.told (mark.Acted (tid t) x (answer_in (row_of_act s t x).begin.verdict)) s tt r

  look_keeps : (t : ℕ) (x : Option Act) (next : Piece P S H) → Runs next → Runs (goes_on_after t x next)
  look_keeps t None next keeps s r = r
  look_keeps t (Some x) next keeps s r = keeps (acts t x s).state (act_keeps t x s r)

  pub acts_keep : (t : ℕ) (h : HandlerId) (v : ℤ) (n i : ℕ) → Runs (acts_from f t h v n i)
  unfolding acts_from
  acts_keep t h v zero i s r = r
  acts_keep t h v (suc n) i s r =
      let x = (f s.control.program).act h.0 v i s.control.shared in
      look_keeps t x.act (acts_from f t h v n (i + 1)) (acts_keep t h v n (i + 1)) (controlled (shares x.shared) s) (kept.shared x.shared s r)

  pub handler_keeps : (t : ℕ) (h : HandlerId) (v : ℤ) → Runs (runs_handler f t h v)
  handler_keeps t h v s r =
      let m = mark.Handler (tid t) h v in
      acts_keep t h v (suc act_limit) 0 (tells m s).state (kept.told m s tt r)

  each_keep : (t : ℕ) (cs : List PushedHandler) → Runs (runs_each f t cs)
  unfolding runs_each
  each_keep t [] s r = r
  each_keep t (c ∷ cs) s r = then_runs (runs_handler f t c.0 c.1) (runs_each f t cs) (handler_keeps t c.0 c.1) (each_keep t cs) s r

  due_keeps : (t : ℕ) (o : Option Due) (next : DestructorRound → Piece P S H) → ((i : DestructorRound) → Runs (next i)) → Runs (destructs_by f t o next)
  due_keeps t None next keeps s r = r
  due_keeps t (Some d) next keeps s r =
      let m = mark.Destructor (tid t) d.key d.value in
      keeps d.round _ (acts_keep t d.handler d.value (suc act_limit) 0 (tells m s).state (kept.told m s tt r))

  destructs_keep : (t n : ℕ) (i : DestructorRound) → Runs (destructs f t n i)
  unfolding destructs
  destructs_keep t zero i s r = r
  destructs_keep t (suc n) i s r = due_keeps t (next_destructor s.resources.store.keys t i) (destructs f t n) (destructs_keep t n) s r

  mutexes_keep : (t : ℕ) (had : List ℕ) → Runs (tells_each (map (mark.GaveMutex (tid t)) had))
  unfolding tells_each
  mutexes_keep t [] s r = r
  mutexes_keep t (m ∷ had) s r = mutexes_keep t had (tells (mark.GaveMutex (tid t) m) s).state (kept.told (mark.GaveMutex (tid t) m) s tt r)

  locks_keep : (t : ℕ) (held : List ℕ) → Runs (tells_each (map (mark.GaveLock (tid t)) held))
  unfolding tells_each
  locks_keep t [] s r = r
  locks_keep t (l ∷ held) s r = locks_keep t held (tells (mark.GaveLock (tid t) l) s).state (kept.told (mark.GaveLock (tid t) l) s tt r)

-- ---- ends, calls, and all parts

-- where nothing of threads is changed, it still is there
there_still : {P S H : Type 0} (t : ℕ) (s u : State P S H) → u.control.threads ≡ s.control.threads → IsThere t s → IsThere t u
there_still {S = S} t s u same there = (ap (λ (x : Threads S). lives (x.known t)) same ∙ there.0, ap (λ (x : Threads S). is_some (x.progress t)) same ∙ there.1)

-- no call blocks a thread that is in no queue any more
leaves_free : {P S H : Type 0} (t : ℕ) (s : State P S H) → IsFree t s → IsFree t (controlled (leaves_queue t) s)
unfolding leaves_queue
leaves_free t s free = free

returned_state : {P S H : Type 0} (t : ℕ) (s : State P S H) → state_of (controlled (sets t (change.Suspended false)) (controlled (leaves_queue t) s)) t ≡ state_of s t
unfolding sets leaves_queue
returned_state t s = ap (λ o. (or_nobody o).state) (put_here s.control.threads.known t (option_map (changed (change.Suspended false)) (s.control.threads.known t))) ∙ suspended_state false (s.control.threads.known t)

leaves_gone : {P S H : Type 0} (t : ℕ) (s : State P S H) → IsGone t s → IsGone t (controlled (leaves_queue t) s)
unfolding leaves_queue
leaves_gone t s gone = gone

-- a seat that is left at a condition, by whatever number
left_named : (u : Seat) (c i : ℤ) (x y : ConditionTable) → c ≡ i → HasLeftAt u (object_named c) x y → HasLeftAt u (object_named i) x y
left_named u c i x y same left = subst (λ (n : ℤ). HasLeftAt u (object_named n) x y) same left

same_notice : (c i : ℤ) → awaits.Notice c ≡ awaits.Notice i → c ≡ i
same_notice c i h = cc

same_await : (c m e i j k : ℤ) (a b : Awaits) → ◌≡◌ {A = Option Blocked} (Some (record { call = call.CondAwait c m e; awaits = a })) (Some (record { call = call.CondAwait i j k; awaits = b })) → c ≡ i
same_await c m e i j k a b h =
    let one : ◌≡◌ {A = Blocked} (record { call = call.CondAwait c m e; awaits = a }) (record { call = call.CondAwait i j k; awaits = b }) = cc in
    let two : call.CondAwait c m e ≡ call.CondAwait i j k = ap (λ (x : Blocked). x.call) one in
    cc

not_retaking : (b : Blocked) → is_await b.call ≡ false → (is_retaking b.awaits ≡ true → is_await b.call ≡ true) → is_retaking b.awaits ≡ false
not_retaking b other only = by_test (is_retaking b.awaits) only
  where
    by_test : (r : Bool) → (r ≡ true → is_await b.call ≡ true) → r ≡ false
    by_test false only = refl
    by_test true only = absurd (true≢false (sym (only refl) ∙ other))

-- t awaits, as marks tell it, exactly if a pth_cond_await blocks it
abbrev AwaitsAsBlocked : {P S H : Type 0} → ℕ → State P S H → Type 0
AwaitsAsBlocked t s = s.resources.awaits t ≡ is_awaiting (blocked_of s.control t)

-- a run that was killed makes no step more
steps_unkilled : (o : Outcome) (p : Part) (t : ℕ) → unless_ended o p ≡ Step t → o ≡ outcome.Killed → ⊥
steps_unkilled outcome.Running p t next killed = cc
steps_unkilled o p t next killed = cc

run_awaits : {P S H : Type 0} (f : P → Functions S H) (g : Given P) (i t : ℕ) → next_part (run f g i).state (run f g i).turn ≡ Step t → AwaitsAsBlocked t (run f g i).state
unfolding next_part
run_awaits f g i t next = (run_valid f g i (λ killed. steps_unkilled (run f g i).turn.outcome _ t next killed)).awaits t

dead_gone : (o : Option Entry) → is_dead (or_nobody o).state ≡ true → lives o ≡ false
dead_gone None h = refl
dead_gone (Some e) h = ap not h

-- a call on a thread that is there
not_unknown : (own unknown barred : Bool) → refuses (refused EINVAL when own otherwise refused ESRCH when unknown otherwise refused EPERM when barred otherwise says 1) ≡ false → unknown ≡ false
not_unknown true unknown barred h = absurd (true≢false h)
not_unknown false true barred h = absurd (true≢false h)
not_unknown false false barred h = refl

module _ {P S H : Type 0} (f : P → Functions S H) (R : State P S H → Type 0) (kept : KeptBySteps f R) where
  abbrev Keeps : Piece P S H → Type 0
  Keeps a = (s : State P S H) → R s → R (a s).state

  abbrev Stays : Change P S H → Type 0
  Stays g = (s : State P S H) → R s → R (controlled g s)

  -- ---- changes of queues and records

  -- among the waiting threads only one enters whose state is waiting
  enters_keeps : (t : ℕ) (q : Queue) (rank : ℤ) (top : Bool) (s : State P S H) → (is_queue Waiting q ≡ true → state_of s t ≡ state.Waiting) → R s → R (controlled (enters t q rank top) s)
  unfolding enters
  enters_keeps t q rank top s waits r = kept.placed _ _ _ _ s (λ u h. by_queue u (is_queue Waiting q) refl h) r
    where
      here : Standing
      here = record { tid = t; rank = rank; since = raises_of s.control.threads.raises q; entry = s.control.threads.entries; top = top }

      by_queue : (u : ℕ) (b : Bool) → is_queue Waiting q ≡ b → StandsIn u (standers (if b then here ∷ s.control.threads.standing Waiting else s.control.threads.standing Waiting)) → StandsIn u (standers (s.control.threads.standing Waiting)) ⊎ (state_of s u ≡ state.Waiting)
      by_queue u true own (inl same) = inr (ap (state_of s) same ∙ waits own)
      by_queue u true own (inr h) = inl h
      by_queue u false other h = inl h

  leaves_queue_keeps : (t : ℕ) → Stays (leaves_queue t)
  unfolding leaves_queue
  leaves_queue_keeps t s r = kept.placed _ _ _ _ s (λ u h. inl (left_stands t u (s.control.threads.standing Waiting) h).0) r

  pub raises_keeps : Stays raises_ready
  unfolding raises_ready
  raises_keeps s r = kept.placed _ _ _ _ s (λ u h. inl h) r

  trails_keeps : (trail : List Point) → Stays (trails trail)
  unfolding trails
  trails_keeps trail s r = kept.placed _ _ _ _ s (λ u h. inl h) r

  runs_now_keeps : (o : Option ℕ) → Stays (runs_now o)
  runs_now_keeps o s r = kept.scheduled (record s.control.scheduler { running = o }) s r

  prefers_keeps : (o : Option ℕ) → Stays (prefers o)
  prefers_keeps o s r = kept.scheduled (record s.control.scheduler { preferred = o }) s r

  moves_to_keeps : (m : ℕ) → Stays (moves_to m)
  moves_to_keeps m s r = kept.timed (advanced m s.control.kernel) s r

  removes_keeps : (t : ℕ) (s : State P S H) → IsGone t s → R s → R (controlled (removes t) s)
  removes_keeps t s gone r = kept.forgotten t (controlled (leaves_queue t) s) (leaves_gone t s gone) (leaves_queue_keeps t s r)

  moved_keeps : (t : ℕ) (c : change_of_record.Change) (q : Queue) (rank : ℤ) (top : Bool) → ((s : State P S H) → IsPrioSafe s.control.top c) → ((s : State P S H) → IsStepSafe t c s) → (s : State P S H) → (is_queue Waiting q ≡ true → state_of (controlled (sets t c) (controlled (leaves_queue t) s)) t ≡ state.Waiting) → R s → R (controlled (λ k. enters t q rank top (sets t c (leaves_queue t k))) s)
  moved_keeps t c q rank top safe life s waits r =
      let a = controlled (leaves_queue t) s in
      enters_keeps t q rank top (controlled (sets t c) a) waits (kept.set t c a (safe a) (life a) (leaves_queue_keeps t s r))

  suspends_keeps : (t : ℕ) → Stays (suspends t)
  unfolding suspends
  suspends_keeps t s r = moved_keeps t (change.Suspended true) Suspended (pos 0) false (λ a. tt) (λ a. tt) s (λ odd. absurd (true≢false (sym odd))) r

  returns_keeps : (t : ℕ) (q : Option Queue) (s : State P S H) → queue_for (state_of s t) ≡ q → R s → R (controlled (returns_to t q) s)
  returns_keeps t None s same r = r
  returns_keeps t (Some q) s same r = moved_keeps t (change.Suspended false) q (pos 0) false (λ a. tt) (λ a. tt) s (λ h. still s ∙ waiting_queue (state_of s t) q same h) r
    where
      still : (s : State P S H) → state_of (controlled (sets t (change.Suspended false)) (controlled (leaves_queue t) s)) t ≡ state_of s t
      still s = returned_state t s

  resumes_keeps : (t : ℕ) → Stays (resumes t)
  unfolding resumes
  resumes_keeps t s r = returns_keeps t (queue_for (or_nobody (entry_of s.control t)).state) s refl r

  ready_keeps : (t : ℕ) (rank : ℤ) (top : Bool) → Stays (is_ready_at t rank top)
  unfolding is_ready_at
  ready_keeps t rank top s r = moved_keeps t (change.State state.Ready) Ready rank top (λ a. tt) (λ a. tt) s (λ odd. absurd (true≢false (sym odd))) r

  dead_keeps : (t : ℕ) (v : ℤ) (s : State P S H) → IsFree t s → R s → R (controlled (is_dead_with t v) s)
  unfolding is_dead_with
  dead_keeps t v s free r =
      let a = controlled (leaves_queue t) s in
      let b = controlled (sets t (change.State state.Dead)) a in
      let c = controlled (sets t (change.Suspended false)) b in
      let d = controlled (sets t (change.Value v)) c in
      enters_keeps t Dead (pos 0) false d (λ odd. absurd (true≢false (sym odd))) (kept.set t (change.Value v) c tt tt (kept.set t (change.Suspended false) b tt tt (kept.set t (change.State state.Dead) a tt (leaves_free t s free) (leaves_queue_keeps t s r))))

  left_keeps : (t : ℕ) (v : ℤ) (s : State P S H) → IsFree t s → R s → R (controlled (leaves t v) s)
  unfolding leaves
  left_keeps t v s free r = by_joinable (or_nobody (entry_of s.control t)).joinable
    where
      by_joinable : (b : Bool) → R (controlled (λ k. stops_running t ((if b then is_dead_with t v else removes t) k)) s)
      by_joinable true = let a = controlled (is_dead_with t v) s in runs_now_keeps (other_than t a.control.scheduler.running) a (dead_keeps t v s free r)
      by_joinable false = let a = controlled (removes t) s in runs_now_keeps (other_than t a.control.scheduler.running) a (removes_keeps t s (inl free) r)

  spawns_keep : (t b : ℕ) (v a : ℤ) (s : State P S H) → lives (s.control.threads.known (s.control.threads.made + 1)) ≡ false → R s → R (controlled (spawns f b v (or_first (values_for s.control t a))) s)
  spawns_keep t b v a s next r =
      let of = or_first (values_for s.control t a) in
      enters_keeps (s.control.threads.made + 1) New of.prio false (controlled (makes f b v of) s) (λ odd. absurd (true≢false (sym odd))) (kept.made t b v a s next r)

  -- ---- ends

  dies_keeps : (t : ℕ) (v : ℤ) (s : State P S H) → IsFree t s → R s → R (dies t v s).state
  dies_keeps t v s free r = kept.handlers.told (mark.Ended (tid t) v) (controlled (leaves t v) s) tt (left_keeps t v s free r)

  -- no call blocks t any longer, whose arrival was not lost
  stops_keeps : (t : ℕ) (y : ConditionTable) (s : State P S H) → KeepsOtherSeats t y s.control.conditions → HasLeft t s → HasLeftSeat t y s → R s → R (controlled (λ k. stops_waiting t (with_conditions (λ z. y) k)) s)
  stops_keeps t y s fewer left unseated r = kept.stopped t s.control.barriers y s (λ b. fewer_same (s.control.barriers b)) (λ b round u apart h. h) fewer left unseated r

  -- the seats of a ring's events are handed on: nobody has a seat more, and no thread loses its own
  abbrev ring_handed : Option ℤ → State P S H → ConditionTable → ConditionTable
  ring_handed o s y = seats_changed seat_handed_on s.control.events (events_from s.control.events o) y

  ring_keeps : (o : Option ℤ) (s : State P S H) (y : ConditionTable) → KeepsSeats (ring_handed o s y) y
  ring_keeps o s y = keeps_handed s.control.events (events_from s.control.events o) y

  -- after t left its own
  ring_then : (t : ℕ) (o : Option ℤ) (s : State P S H) (y z : ConditionTable) → KeepsOtherSeats t y z → KeepsOtherSeats t (ring_handed o s y) z
  ring_then t o s y z keeps = keeps_then t (ring_handed o s y) y z (ring_keeps o s y) keeps

  -- its arrival at a barrier is taken back, if it waits there, and those seats are handed on
  where_withdrawn : (t : ℕ) (b : ℤ) (here : Bool) (o : Option ℤ) (s : State P S H) → let a = (where_so here (changes (with_barriers (withdrawn b t)) and_then tells (mark.Withdrew (tid t) (object_named b))) s).state in HasLeft t a → HasLeftSeat t (ring_handed o s s.control.conditions) s → R s → R (controlled (λ k. stops_waiting t (ring_seats seat_handed_on o k)) a)
  where_withdrawn t b true o s left unseated r =
      let m = mark.Withdrew (tid t) (object_named b) in
      let x = s.control.conditions in
      kept.stopped t (withdrawn b t s.control.barriers) (ring_handed o s x) (tells m s).state (fewer_withdrawn b t s.control.barriers) (others_withdrawn b t s.control.barriers) (ring_then t o s x x (keeps_same t x)) left unseated (kept.handlers.told m s tt r)
  where_withdrawn t b false o s left unseated r = let x = s.control.conditions in stops_keeps t (ring_handed o s x) s (ring_then t o s x x (keeps_same t x)) left unseated r

  -- and so is its own seat at a condition
  undone_keeps : (t : ℕ) (a : Awaits) (o : Option ℤ) (s : State P S H) → awaits_in (blocked_of s.control t) ≡ a → HasLeft t (withdraws_from t a s).state → R s → R (controlled (hands_on_seat t a and ring_seats seat_handed_on o and stops_waiting t) (withdraws_from t a s).state)
  unfolding withdraws_from withdraws hands_on_seat
  undone_keeps t (awaits.Round b round) o s own left r = where_withdrawn t b (waits_at s.control.barriers b t) o s left (λ c m e now. absurd (cc (sym own ∙ ap awaits_in now))) r
  undone_keeps t (awaits.Notice c) o s own left r =
      let x = s.control.conditions in
      let y = seat_handed_on c (seat_of t) x in
      stops_keeps t (ring_handed o s y) s (ring_then t o s y x (keeps_handed_on c t x)) left
      (λ i m e now. left_named (seat_of t) c i (ring_handed o s y) x (same_notice c i (sym own ∙ ap awaits_in now)) (left_fewer (seat_of t) (object_named c) (ring_handed o s y) y x (ring_keeps o s y).fewer (handed_there c (seat_of t) x))) r
  undone_keeps t a o s own left r = let x = s.control.conditions in stops_keeps t (ring_handed o s x) s (ring_then t o s x x (keeps_same t x)) left (λ c m e now. absurd (cc (sym own ∙ ap awaits_in now))) r

  -- and no call blocks it
  abbrev Unblocked : ℕ → State P S H → Type 0
  Unblocked t s = R s × IsFree t s

  unblocked_handlers : (t : ℕ) → KeptByHandlers (Unblocked t)
  unblocked_handlers t = record {
    shared = λ h s x. (kept.handlers.shared h s x.0, x.1);
    seated = λ y s fewer x. (kept.handlers.seated y s fewer x.0, x.1);
    told = λ m s may x. (kept.handlers.told m s may x.0, x.1);
  }

  pub ending_keeps : (t : ℕ) (v : ℤ) → Keeps (ending f t v)
  unfolding ending
  ending_keeps t v s r =
      let o = blocked_of s.control t in
      let s0 = (withdraws_from t (awaits_in o) s).state in
      let s1 = (undoes_wait t s).state in
      let s2 = (runs_cleanups f t s1).state in
      let s3 = (runs_destructors f t s2).state in
      let s4 = (gives_mutexes t s3).state in
      let s5 = (gives_locks t s4).state in
      let x1 : Unblocked t s1 = (undone_keeps t (awaits_in o) (ring_held o) s refl (left_ended t s) r, stopped_free t (controlled (hands_on_seats t (awaited_in o)) s0)) in
      let x2 : Unblocked t s2 = each_keep f (Unblocked t) (unblocked_handlers t) t (s1.resources.store.cleanups t) s1 x1 in
      let x3 : Unblocked t s3 = destructs_keep f (Unblocked t) (unblocked_handlers t) t (round_limit * key_limit) first_round s2 x2 in
      let x4 : Unblocked t s4 = mutexes_keep f (Unblocked t) (unblocked_handlers t) t (mutexes_had t s3.resources.store.mutexes) s3 x3 in
      let x5 : Unblocked t s5 = locks_keep f (Unblocked t) (unblocked_handlers t) t (locks_held t s4.resources.store.rw_locks) s4 x4 in
      dies_keeps t v s5 x5.1 x5.0

  -- ---- a call begins

  module _ (t : ℕ) where
    -- if this holds of the state at which the call is made
    abbrev KeepsAt : State P S H → Piece P S H → Type 0
    KeepsAt s a = R s → R (a s).state

    unless_keeps : (s : State P S H) (b : Bool) (a : Piece P S H) → (b ≡ false → KeepsAt s a) → KeepsAt s (unless_refused b a)
    unless_keeps s true a keeps = λ r. r
    unless_keeps s false a keeps = keeps refl

    pops_keep : (o : Option PushedHandler) (b : Bool) → Keeps (where_so b (runs_pushed f t o))
    pops_keep o false s r = r
    pops_keep None true s r = r
    pops_keep (Some c) true s r = handler_keeps f R kept.handlers t c.0 c.1 s r

    once_keeps : (o : ℕ) (h : HandlerId) (v : ℤ) (b : Bool) → Keeps (where_so b (changes (uses o) and_then runs_handler f t h v))
    once_keeps o h v false s r = r
    once_keeps o h v true s r = handler_keeps f R kept.handlers t h v (controlled (uses o) s) (kept.used _ s r)

    ctrl_keeps : (s : State P S H) (x : Query) → KeepsAt s (ctrl s x).begin.effect
    ctrl_keeps s (query.Favournew n) r = kept.scheduled _ s r
    ctrl_keeps s query.Threads r = r
    ctrl_keeps s x r = r

    -- a value is set in an object, or in a thread
    fields_keep : (s : State P S H) (u : ℕ) (v : AttrValue) → is_in_range s.control.top v ≡ true → KeepsAt s (changes (sets_field u (change_of v)))
    fields_keep s u (value.Prio n) inside r = kept.set u (change.Prio n) s (prio_in_range s.control.top n inside) tt r
    fields_keep s u (value.Name name) inside r = kept.set u (change.Name name) s tt tt r
    fields_keep s u (value.Joinable n) inside r = kept.set u (change.Joinable (n is 1)) s tt tt r
    fields_keep s u (value.Cancel n) inside r = kept.set u (change.Cancel (number n)) s tt tt r
    fields_keep s u v inside r = r

    values_keep : (s : State P S H) (a : ℤ) (v : AttrValue) (o : Option Attribute) → object s.control a ≡ o → is_in_range s.control.top v ≡ true → KeepsAt s (changes (sets_value a v o))
    values_keep s a v None same inside r = r
    values_keep s a v (Some (Free x)) same inside r = kept.valued a v x s same inside r
    values_keep s a v (Some (Bound u)) same inside r = fields_keep s u.0 v inside r

    made_keeps : (s : State P S H) (spec : Option EventSpec) (v : EventSpec → Verdict) (g : EventSpec → Arrangement) → ((x : EventSpec) → refuses (v x) ≡ false → MayArrange s.control.events (g x)) → refuses (made_as {P = P} {S = S} {H = H} spec v (λ x. with_events (arranged (g x)))).begin.verdict ≡ false → KeepsAt s (made_as spec v (λ x. with_events (arranged (g x)))).begin.effect
    made_keeps s None v g may e r = r
    made_keeps s (Some x) v g may e r = kept.arranges (g x) s (may x e) r

    make_keeps : (s : State P S H) (l : EvLine) → let x = (made_as {P = P} {S = S} {H = H} (spec_of l) (λ spec. by_result says (make_answer s.control.events)) (λ spec. with_events (arranged (Alone spec)))).begin in refuses x.verdict ≡ false → KeepsAt s x.effect
    make_keeps s l e r = made_keeps s (spec_of l) (λ spec. by_result says (make_answer s.control.events)) Alone (λ x h. tt) e r

    chain_keeps : (s : State P S H) (i : ℤ) (l : EvLine) → let x = (made_as {P = P} {S = S} {H = H} (spec_of l) (λ spec. by_result says (chain_answer s.control.events (number i))) (λ spec. with_events (arranged (Chained spec (number i))))).begin in refuses x.verdict ≡ false → KeepsAt s x.effect
    chain_keeps s i l e r = made_keeps s (spec_of l) (λ spec. by_result says (chain_answer s.control.events (number i))) (λ spec. Chained spec (number i)) (λ x h. no_refusal (ring_refusal s.control.events (number i)) (make_answer s.control.events) says h) e r

    freed_keeps : (s : State P S H) (i : ℕ) (all : Bool) → ring_refusal s.control.events i ≡ None → KeepsAt s (changes (with_events (if all then ring_freed i else freed i)))
    freed_keeps s i true may r = kept.arranges (RingFreed i) s may r
    freed_keeps s i false may r = kept.arranges (Freed i) s may r

    points_keep : (s : State P S H) (b : Bool) → KeepsAt s (where_so b (takes_request t call.CancelPoint))
    points_keep s false r = r
    points_keep s true r = kept.handlers.told (mark.Canceled (tid t) (Some call.CancelPoint)) (controlled (sets t (change.Request false)) s) tt (kept.set t (change.Request false) s tt tt r)

    states_keep : (s : State P S H) (n : ℤ) (b : Bool) → KeepsAt s (changes (if b then nothing else sets t (change.Cancel (number n))))
    states_keep s n true r = r
    states_keep s n false r = kept.set t (change.Cancel (number n)) s tt tt r

    joins_keep : (s : State P S H) (o : Option ℕ) → ((u : ℕ) → o ≡ Some u → lives (s.control.threads.known u) ≡ false) → KeepsAt s (changes (takes_joined o))
    joins_keep s None dead r = r
    joins_keep s (Some u) dead r = removes_keeps u s (inr (dead u refl)) r

    yields_keep : (s : State P S H) (n : ℤ) (b : Bool) → KeepsAt s (changes (if b then nothing else prefers (Some (number n))))
    yields_keep s n true r = r
    yields_keep s n false r = prefers_keeps (Some (number n)) s r

    other_keeps : (u : ℕ) → Keeps (canceled_by_other f u)
    other_keeps u s r =
        let m = mark.Canceled (tid u) None in
        ending_keeps u canceled_value (tells m s).state (kept.handlers.told m s tt r)

    asks_keep : (s : State P S H) (u : ℕ) (b : Bool) → KeepsAt s (if b then canceled_by_other f u else changes (sets u (change.Request true)))
    asks_keep s u true r = other_keeps u s r
    asks_keep s u false r = kept.set u (change.Request true) s tt tt r

    aborts_keep : (s : State P S H) (n : ℤ) (dead : Bool) → is_dead (or_nobody (thread s.control n)).state ≡ dead → is_known s.control n ≡ true → KeepsAt s (if dead then changes (removes (number n)) else aborted f (number n))
    aborts_keep s n true dead known r = removes_keeps (number n) s (inr (dead_gone (s.control.threads.known (number n)) (named_dead s.control n known dead))) r
    aborts_keep s n false dead known r =
        let u = number n in
        let a = controlled (sets u (change.Joinable false)) s in
        other_keeps u (controlled (sets u (change.Cancel 3)) a) (kept.set u (change.Cancel 3) a tt tt (kept.set u (change.Joinable false) s tt tt r))

    -- what a call does that is not refused
    does_keeps : (s : State P S H) (c : Call) → IsFree t s → IsSound t s.control → is_placing c ≡ false → refuses (row_of f s t c).begin.verdict ≡ false → KeepsAt s (row_of f s t c).begin.effect
    unfolding row_of
    does_keeps s call.Kill free sound other e r = kept.vanished t s free r
    does_keeps s (call.Yield n) free sound other e r = yields_keep s n (is_zero n) r
    does_keeps s (call.Cancel n) free sound other e r = asks_keep s (number n) (is_asynchronous (or_nobody (thread s.control n)).cancel) r
    does_keeps s (call.Abort n) free sound other e r = aborts_keep s n (is_dead (or_nobody (thread s.control n)).state) refl (not-false (is_known s.control n) (not_unknown _ (not (is_known s.control n)) _ e)) r
    does_keeps s call.CancelPoint free sound other e r = points_keep s (is_to_cancel (or_nobody (entry_of s.control t))) r
    does_keeps s (call.CancelState n) free sound other e r = states_keep s n (is_zero n) r
    does_keeps s (call.Ctrl x) free sound other e r = ctrl_keeps s x r
    does_keeps s call.AttrNew free sound other e r = kept.added s r
    does_keeps s (call.AttrOf n) free sound other e r = kept.bound (tid (number n)) s r
    does_keeps s (call.AttrInit a) free sound other e r = kept.renewed (number a) s r
    does_keeps s (call.AttrSet a v) free sound other e r = values_keep s a v (object s.control a) refl (set_passes s.control.top s.control.threads.known (object s.control a) v e) r
    does_keeps s (call.AttrDestroy a) free sound other e r = kept.destroyed (number a) s r
    does_keeps s (call.Spawn b v a) free sound other e r = spawns_keep t (number b) v a s sound.next r
    does_keeps s (call.Suspend n) free sound other e r = suspends_keeps (number n) s r
    does_keeps s (call.Resume n) free sound other e r = resumes_keeps (number n) s r
    does_keeps s (call.EvFd goals fd) free sound other e r = make_keeps s (line.Fd goals fd) e r
    does_keeps s (call.EvSelect a b c) free sound other e r = make_keeps s (line.Select a b c) e r
    does_keeps s (call.EvTime m) free sound other e r = make_keeps s (line.Time m) e r
    does_keeps s (call.EvMsg p) free sound other e r = make_keeps s (line.Msg p) e r
    does_keeps s (call.EvCond c) free sound other e r = make_keeps s (line.Cond c) e r
    does_keeps s (call.EvTid at n) free sound other e r = make_keeps s (line.Tid at n) e r
    does_keeps s (call.EvFunc c v l) free sound other e r = make_keeps s (line.Func c v l) e r
    does_keeps s (call.Chain i l) free sound other e r = chain_keeps s i l e r
    does_keeps s (call.EvConcat a b) free sound other e r = kept.arranges (Joined (number a) (number b)) s (no_refusal {A = Unit {0}} (concat_refusal s.control.events (number a) (number b)) (Ok tt) (λ u. Says (answer.Int a)) e) r
    does_keeps s (call.EvIsolate i) free sound other e r = kept.arranges (Isolated (number i)) s (no_refusal {A = Option EventId} (ring_refusal s.control.events (number i)) (Ok (option_map event_id (head_event (rest_of (s.control.events.rings (number i)))))) (λ o. says (number_or_none o)) e) r
    does_keeps s (call.EvFree i all) free sound other e r = freed_keeps s (number i) all (no_refusal {A = Unit {0}} (ring_refusal s.control.events (number i)) (Ok tt) done e) r
    does_keeps s (call.Fdmode d m) free sound other e r = kept.timed _ s r
    does_keeps s (call.Read d n) free sound other e r = kept.timed _ s r
    does_keeps s (call.ReadEv d n x) free sound other e r = kept.timed _ s r
    does_keeps s (call.Write d bytes) free sound other e r = kept.timed _ s r
    does_keeps s (call.WriteEv d bytes x) free sound other e r = kept.timed _ s r
    does_keeps s (call.Accept d) free sound other e r = kept.timed _ s r
    does_keeps s (call.AcceptEv d x) free sound other e r = kept.timed _ s r
    does_keeps s (call.Close d) free sound other e r = kept.timed _ s r
    does_keeps s (call.CondInit c) free sound other e r = kept.handlers.seated _ s (keeps_initialised c s.control.conditions (init_passes (is_object c) (is_initialised s.control.conditions c) e)) r
    does_keeps s (call.CondNotify c v) free sound other e r = kept.handlers.seated _ s (keeps_notified c (not (is_zero v)) s.control.conditions) r
    does_keeps s (call.CondAwait c m i) free sound other e r = absurd (true≢false other)
    does_keeps s (call.BarrierInit b n) free sound other e r = kept.barred (barrier_initialised b n s.control.barriers) s (fewer_initialised b n s.control.barriers) (all_initialised b n s.control.barriers (init_passes (is_object b && is_size n) (is_some (s.control.barriers (object_named b))) e)) r
    does_keeps s (call.BarrierReach b) free sound other e r = absurd (true≢false other)
    does_keeps s (call.Join n) free sound other e r = joins_keep s (to_join s.control n) (λ u taken. sound.joins n u taken) r
    does_keeps s (call.CleanupPop v) free sound other e r = pops_keep (last_pushed f s t) (not (is_zero v)) s r
    does_keeps s (call.Once o h v) free sound other e r = once_keeps (number o) (handler h) v (not (s.control.used (number o))) s r
    does_keeps s c free sound other e r = r

    begun_by_keeps : (c : Call) (v : Verdict) (s : State P S H) → is_placing c ≡ false → (is_rounding true v ≡ false) × (is_noticing v ≡ false) → IsAllowed t c v s → (is_blocking v ≡ true → IsThere t s) → R s → R (begun_by f t c v s).told.state
    begun_by_keeps c (Says x) s other none may here r = kept.handlers.told (mark.Answered (tid t) c x) s may r
    begun_by_keeps c (Yields x) s other none may here r = kept.handlers.told (mark.Answered (tid t) c x) s may r
    begun_by_keeps c (Blocks a) s other none may here r = kept.handlers.told (mark.Waits (tid t) c) (controlled (λ k. blocks t c a (claims t (ring_given c) k)) s) tt (kept.blocked t c a s may.0 (here refl) other none may.1 r)
    begun_by_keeps c (Ends v) s other none may here r = ending_keeps t v s r
    begun_by_keeps c Kills s other none may here r = kept.handlers.told (mark.Answered (tid t) c (answer.Int (pos 1))) s may r

    -- an arrival at a barrier, by what it comes to
    reach_keeps : (b : ℤ) (o : Result Arrival Errno) (s : State P S H) → arrival_answer s.control.barriers b ≡ o → IsFree t s → IsSound t s.control → is_some (s.control.threads.progress t) ≡ true → R s → R (begun_as f t (call.BarrierReach b) (by_result (arrived_as b) o trying changes (with_barriers (barrier_reached b t))) s).told.state
    unfolding claims
    reach_keeps b (Err e) s same free sound there r = kept.handlers.told (mark.Answered (tid t) (call.BarrierReach b) (answer.Fail e)) s tt r
    reach_keeps b (Ok arrival.Tail) s same free sound there r = kept.handlers.told (mark.Answered (tid t) (call.BarrierReach b) (answer.Int taillight)) (controlled (with_barriers (barrier_reached b t)) s) tt (kept.barred (barrier_reached b t s.control.barriers) s (fewer_tail b t s.control.barriers same) (all_reached b t s.control.barriers) r)
    reach_keeps b (Ok (arrival.Incomplete round)) s same free sound there r =
        kept.handlers.told (mark.Waits (tid t) (call.BarrierReach b)) (controlled (λ k. blocks t (call.BarrierReach b) (awaits.Round b round) (with_barriers (barrier_reached b t) k)) s) tt (kept.reached t b round s free sound.alive there same r)

    -- a wait at a condition begins
    await_keeps : (c m e : ℤ) (live bad none free_now other has : Bool) (s : State P S H) → is_initialised s.control.conditions c ≡ live → is_none (mutex s m) ≡ none → is_no_ring s (extra_ring e) ≡ bad → is_claimed_ring s (extra_ring e) ≡ has → IsFree t s → IsSound t s.control → s.resources.awaits t ≡ false → is_some (s.control.threads.progress t) ≡ true → R s
        → R (begun_as f t (call.CondAwait c m e) (refused EINVAL when not live || bad otherwise by_result (λ released. refused EBUSY when has otherwise Blocks (awaits.Notice c)) (if none then Err EINVAL else if free_now then Err EDEADLK else if other then Err EACCES else Ok (tt {0})) trying changes (with_conditions (seat_entered c (seat_of t)))) s).told.state
    await_keeps c m e false bad none free_now other has s is_live_so is_none_so is_ring is_has free sound uncanceled there r = kept.handlers.told (mark.Answered (tid t) (call.CondAwait c m e) (answer.Fail EINVAL)) s (unawaited t (object_named m) s uncanceled) r
    await_keeps c m e true true none free_now other has s is_live_so is_none_so is_ring is_has free sound uncanceled there r = kept.handlers.told (mark.Answered (tid t) (call.CondAwait c m e) (answer.Fail EINVAL)) s (unawaited t (object_named m) s uncanceled) r
    await_keeps c m e true false true free_now other has s is_live_so is_none_so is_ring is_has free sound uncanceled there r = kept.handlers.told (mark.Answered (tid t) (call.CondAwait c m e) (answer.Fail EINVAL)) s (unawaited t (object_named m) s uncanceled) r
    await_keeps c m e true false false true other has s is_live_so is_none_so is_ring is_has free sound uncanceled there r = kept.handlers.told (mark.Answered (tid t) (call.CondAwait c m e) (answer.Fail EDEADLK)) s (unawaited t (object_named m) s uncanceled) r
    await_keeps c m e true false false false true has s is_live_so is_none_so is_ring is_has free sound uncanceled there r = kept.handlers.told (mark.Answered (tid t) (call.CondAwait c m e) (answer.Fail EACCES)) s (unawaited t (object_named m) s uncanceled) r
    await_keeps c m e true false false false false true s is_live_so is_none_so is_ring is_has free sound uncanceled there r = kept.handlers.told (mark.Answered (tid t) (call.CondAwait c m e) (answer.Fail EBUSY)) s (unawaited t (object_named m) s uncanceled) r
    await_keeps c m e true false false false false false s is_live_so is_none_so is_ring is_has free sound uncanceled there r =
        let may = await_allowed f t s s c m e false false false false false is_none_so is_ring is_has refl refl free uncanceled false in
        kept.takes_seat t c m e s free sound.alive (there, is_live_so) may.1 r

    pub begun_keeps : (c : Call) (s : State P S H) → IsFree t s → IsSound t s.control → s.resources.awaits t ≡ false → is_some (s.control.threads.progress t) ≡ true → R s → R (begun f t c s).told.state
    unfolding begun row_of
    begun_keeps call.Plain s free sound uncanceled there r = r
    begun_keeps (call.Note v) s free sound uncanceled there r = kept.handlers.told (mark.Noted (tid t) v) s tt r
    begun_keeps (call.BarrierReach b) s free sound uncanceled there r = reach_keeps b (arrival_answer s.control.barriers b) s refl free sound there r
    begun_keeps (call.CondAwait c m e) s free sound uncanceled there r =
        await_keeps c m e (is_initialised s.control.conditions c) (is_no_ring s (extra_ring e)) (is_none (mutex s m)) _ _ (is_claimed_ring s (extra_ring e)) s refl refl refl refl free sound uncanceled there r
    begun_keeps c s free sound uncanceled there r =
        let a = (row_of f s t c).begin in
        begun_by_keeps c a.verdict (effect_of a s).state refl (begins_none true f s t c refl, begins_unnoticed f s t c refl) (allowed f t s c free uncanceled sound.made) (λ blocks. there_still t s (effect_of a s).state (begins_still f t s c blocks) (sound.alive, there)) (unless_keeps s (refuses a.verdict) a.effect (does_keeps s c free sound refl) r)

    -- ---- a call is tried again

    ctrl_again : (s : State P S H) (x : Query) (b : Awaits) → KeepsAt s ((ctrl s x).again b).effect
    ctrl_again s query.Threads b r = r
    ctrl_again s x b r = r

    made_again : (s : State P S H) (spec : Option EventSpec) (v : EventSpec → Verdict) (g : EventSpec → Change P S H) (b : Awaits) → KeepsAt s ((made_as spec v g).again b).effect
    made_again s None v g b r = r
    made_again s (Some x) v g b r = r

    make_again : (s : State P S H) (l : EvLine) (b : Awaits) → KeepsAt s ((make_event s l).again b).effect
    make_again s l b r = made_again s (spec_of l) (λ x. by_result says (make_answer s.control.events)) (λ x. with_events (alone x)) b r

    does_again : (s : State P S H) (c : Call) (b : Awaits) → is_reaching c ≡ false → IsSound t s.control → KeepsAt s ((row_of f s t c).again b).effect
    unfolding row_of
    does_again s (call.Ctrl x) b other sound r = ctrl_again s x b r
    does_again s (call.EvFd goals fd) b other sound r = make_again s (line.Fd goals fd) b r
    does_again s (call.EvSelect i w x) b other sound r = make_again s (line.Select i w x) b r
    does_again s (call.EvTime m) b other sound r = make_again s (line.Time m) b r
    does_again s (call.EvMsg p) b other sound r = make_again s (line.Msg p) b r
    does_again s (call.EvCond c) b other sound r = make_again s (line.Cond c) b r
    does_again s (call.EvTid at n) b other sound r = make_again s (line.Tid at n) b r
    does_again s (call.EvFunc c v l) b other sound r = make_again s (line.Func c v l) b r
    does_again s (call.Chain i l) b other sound r = made_again s (spec_of l) (λ x. by_result says (chain_answer s.control.events (number i))) (λ x. with_events (chained x (number i))) b r
    does_again s (call.Read d n) b other sound r = kept.timed _ s r
    does_again s (call.ReadEv d n x) b other sound r = kept.timed _ s r
    does_again s (call.Write d bytes) b other sound r = kept.timed _ s r
    does_again s (call.WriteEv d bytes x) b other sound r = kept.timed _ s r
    does_again s (call.Accept d) b other sound r = kept.timed _ s r
    does_again s (call.AcceptEv d x) b other sound r = kept.timed _ s r
    does_again s (call.Connect d) b other sound r = kept.timed _ s r
    does_again s (call.ConnectEv d x) b other sound r = kept.timed _ s r
    does_again s (call.Select i w x l) b other sound r = kept.timed _ s r
    does_again s (call.SelectEv i w x l e) b other sound r = kept.timed _ s r
    does_again s (call.BarrierReach c) b other sound r = absurd (true≢false other)
    does_again s (call.Join n) b other sound r = joins_keep s (to_join s.control n) (λ u taken. sound.joins n u taken) r
    does_again s c b other sound r = r

    come_keeps : (s : State P S H) (c : Call) (b : Awaits) (come : Bool) → is_reaching c ≡ false → IsSound t s.control → KeepsAt s (effect_of (unless_settled come ((row_of f s t c).again b)))
    come_keeps s c b false other sound r = unless_keeps s (refuses ((row_of f s t c).again b).verdict) ((row_of f s t c).again b).effect (λ e. does_again s c b other sound) r
    come_keeps s c b true other sound r = unless_keeps s (refuses (interrupted ((row_of f s t c).again b).verdict)) ((row_of f s t c).again b).effect (λ e. does_again s c b other sound) r

    -- t's round is tried again: it has passed, or t waits on
    abbrev rounds : State P S H → ℤ → ℕ → Bool → Attempt P S H
    rounds s b round passed = if passed then (Says (answer.Int (round_answer s.control.barriers b round t)) trying changes (with_barriers (round_answered b round t))) else (Blocks (awaits.Round b round) trying silent)

    -- an attempt that doesn't answer
    still_keeps : (s : State P S H) (c : Call) (b : Awaits) → IsSound t s.control → R s → let a = unless_settled (has_settled s.control.events (ring_given c)) ((row_of f s t c).again b) in is_saying a.verdict ≡ false → R (effect_of a s).state
    unfolding row_of
    still_keeps s (call.BarrierReach x) b sound r says_none = by_test (has_passed s.control.barriers x (round_in b)) says_none
      where
        by_test : (passed : Bool) → is_saying (rounds s x (round_in b) passed).verdict ≡ false → R (effect_of (rounds s x (round_in b) passed) s).state
        by_test true says_none = absurd (true≢false says_none)
        by_test false says_none = r
    still_keeps s c b sound r says_none = come_keeps s c b (has_settled s.control.events (ring_given c)) refl sound r

    -- one that blocks t no longer
    stop_keeps : (s : State P S H) (c : Call) (b : Blocked) → b.call ≡ c → is_await c ≡ false → blocked_of s.control t ≡ Some b → IsSound t s.control → R s → let a = unless_settled (has_settled s.control.events (ring_given c)) ((row_of f s t c).again b.awaits) in is_blocking a.verdict ≡ false → R (controlled (stops_waiting t) (effect_of a s).state)
    unfolding row_of
    stop_keeps s (call.BarrierReach x) b named other at sound r at_once = by_test (has_passed s.control.barriers x (round_in b.awaits)) at_once (left_again f t s (call.BarrierReach x) b named at at_once)
      where
        by_test : (passed : Bool) → let a = rounds s x (round_in b.awaits) passed in is_blocking a.verdict ≡ false → HasLeft t (effect_of a s).state → R (controlled (stops_waiting t) (effect_of a s).state)
        by_test true at_once left = kept.stopped t (round_answered x (round_in b.awaits) t s.control.barriers) s.control.conditions s (fewer_answered x (round_in b.awaits) t s.control.barriers) (others_answered x (round_in b.awaits) t s.control.barriers) (keeps_same t s.control.conditions) left (unseated t s.control.conditions s (ap is_awaiting at ∙ ap is_await named)) r
        by_test false at_once left = absurd (true≢false at_once)
    stop_keeps s c b named other at sound r at_once =
        let come = has_settled s.control.events (ring_given c) in
        let u = (effect_of (unless_settled come ((row_of f s t c).again b.awaits)) s).state in
        stops_keeps t u.control.conditions u (keeps_same t u.control.conditions) (left_again f t s c b named at at_once) (unseated t u.control.conditions u (unseated_again f t s c b come named other at)) (come_keeps s c b.awaits come refl sound r)

    tried_by_keeps : (b : Blocked) (v : Verdict) (s : State P S H) → IsAllowedAgain t b.call b v s → ((a : Awaits) → v ≡ Blocks a → StaysAt b.call b.awaits a) → is_await b.call ≡ false → ((a : Awaits) → v ≡ Blocks a → (is_retaking b.awaits ≡ false) × (is_retaking a ≡ false) × (is_notice b.awaits ≡ false → is_notice a ≡ false)) → (is_saying v ≡ false → R s) → (is_blocking v ≡ false → R (controlled (stops_waiting t) s)) → R (tried_by f t b v s).told.state
    tried_by_keeps b (Says x) s may stays other plain still stop = kept.handlers.told (mark.Answered (tid t) b.call x) (controlled (stops_waiting t) s) may (stop refl)
    tried_by_keeps b (Yields x) s may stays other plain still stop = kept.handlers.told (mark.Answered (tid t) b.call x) (controlled (stops_waiting t) s) may (stop refl)
    tried_by_keeps b (Blocks a) s may stays other plain still stop = kept.handlers.told (mark.Waits (tid t) b.call) (controlled (is_blocked_by t (Some (record b { awaits = a }))) s) tt (kept.waits_on t a b s may.0 may.1 (stays a refl) other (plain a refl) (still refl))
    tried_by_keeps b (Ends v) s may stays other plain still stop = ending_keeps t v s (still refl)
    tried_by_keeps b Kills s may stays other plain still stop = kept.handlers.told (mark.Answered (tid t) b.call (answer.Int (pos 1))) (controlled (stops_waiting t) s) may (stop refl)

    -- by a call that takes no mutex back
    tried_again_keeps : (s : State P S H) (b : Blocked) → blocked_of s.control t ≡ Some b → is_await b.call ≡ false → IsSound t s.control → R s → R (tried_again_by f t (Some b) s).told.state
    tried_again_keeps s b at other sound r =
        let come = has_settled s.control.events (ring_given b.call) in
        let a = unless_settled come ((row_of f s t b.call).again b.awaits) in
        let plain = not_retaking b other (subst (λ o. is_retaking (awaits_in o) ≡ true → is_awaiting o ≡ true) at sound.retakes) in
        tried_by_keeps b a.verdict (effect_of a s).state (allowed_again f t s b.call b come other at sound.made) (λ now blocks. stays_again f t s b.call b.awaits come now blocks) other (λ now blocks. (plain, again_plainly f s t b.call b.awaits come now plain blocks, λ none. again_unnoticed f s t b.call b.awaits come now other none blocks))
        (λ says_none. still_keeps s b.call b.awaits sound r says_none) (λ at_once. stop_keeps s b.call b refl other at sound r at_once)

    canceled_keeps : (o : Option Blocked) (s : State P S H) → R s → R (canceled_by f t o s).told.state
    canceled_keeps None s r = r
    canceled_keeps (Some b) s r =
        let m = mark.Canceled (tid t) (Some b.call) in
        let a = controlled (sets t (change.Request false)) s in
        ending_keeps t canceled_value (tells m a).state (kept.handlers.told m a tt (kept.set t (change.Request false) s tt tt r))

    where_keeps : (now : Bool) (s : State P S H) (b : Blocked) → blocked_of s.control t ≡ Some b → is_await b.call ≡ false → IsSound t s.control → R s → R (gone_on_where f t now s).told.state
    unfolding tried_again
    where_keeps true s b at other sound r = canceled_keeps (blocked_of s.control t) s r
    where_keeps false s b at other sound r = subst (λ o. R (tried_again_by f t o s).told.state) (sym at) (tried_again_keeps s b at other sound r)

    -- ---- a wait at a condition goes on

    retaken_keeps : (c m e : ℤ) (o : Retake) (s : State P S H) → IsTaking t (object_named m) s → R s → R (retaken_as f t (call.CondAwait c m e) m o s).told.state
    retaken_keeps c m e retake.Notified s takes r = kept.handlers.told (mark.Answered (tid t) (call.CondAwait c m e) (answer.Int (pos 1))) s (λ awaits. takes) r
    retaken_keeps c m e retake.Interrupted s takes r = kept.handlers.told (mark.Answered (tid t) (call.CondAwait c m e) (answer.Fail EINTR)) s (λ awaits. takes) r
    retaken_keeps c m e retake.Canceled s takes r = ending_keeps t canceled_value (tells (mark.Took (tid t) (object_named m)) s).state (kept.handlers.told (mark.Took (tid t) (object_named m)) s takes r)

    -- who waits at a condition has no arrival
    awaiting_left : (s : State P S H) (c m e : ℤ) (a : Awaits) → blocked_of s.control t ≡ Some (record { call = call.CondAwait c m e; awaits = a }) → HasLeft t s
    awaiting_left s c m e a at b round now = absurd (true≢false (ap is_awaiting (sym at ∙ now)))

    -- with its seat there
    await_ends_keeps : (c m e : ℤ) (a : Awaits) (o : Retake) (can : Bool) (y : ConditionTable) (s : State P S H) → can_take s t m ≡ can → KeepsOtherSeats t y s.control.conditions → HasLeftSeat t y s → blocked_of s.control t ≡ Some (record { call = call.CondAwait c m e; awaits = a }) → R s
        → R (retakes_where f t can (call.CondAwait c m e) m o (controlled (λ k. stops_waiting t (with_conditions (λ z. y) k)) s)).told.state
    await_ends_keeps c m e a o true y s can fewer gone at r =
        let u = controlled (λ k. stops_waiting t (with_conditions (λ z. y) k)) s in
        let takes : IsTaking t (object_named m) u = record { free = stopped_free t (controlled (with_conditions (λ z. y)) s); room = takes_room t (mutex s m) can } in
        retaken_keeps c m e o u takes (kept.stopped t s.control.barriers y s (λ b. fewer_same (s.control.barriers b)) (λ b round u apart h. h) fewer (awaiting_left s c m e a at) gone r)
    await_ends_keeps c m e a o false y s can fewer gone at r =
        let k = call.CondAwait c m e in
        kept.handlers.told (mark.Retakes (tid t) k) (controlled (λ j. blocks t k (awaits.Retaking m o) (stops_waiting t (with_conditions (λ z. y) j))) s) tt (kept.retakes t c m e a o y s fewer gone at r)

    awaits_where_keeps : (asked noticed settled : Bool) (c m e : ℤ) (a : Awaits) (s : State P S H) → blocked_of s.control t ≡ Some (record { call = call.CondAwait c m e; awaits = a }) → R s → R (awaits_on_where f t asked noticed settled (call.CondAwait c m e) c m s).told.state
    unfolding leaves_seat hands_on_seat sets
    awaits_where_keeps true noticed settled c m e a s at r =
        let k = mark.Canceled (tid t) (Some (call.CondAwait c m e)) in
        let s1 = controlled (sets t (change.Request false)) s in
        let s2 = (tells k s1).state in
        let x = s.control.conditions in
        let own = seat_handed_on c (seat_of t) x in
        let y = ring_handed (extra_ring e) s own in
        await_ends_keeps c m e a retake.Canceled (can_take (controlled (λ j. stops_waiting t (with_conditions (λ z. y) j)) s2) t m) y s2 refl (ring_then t (extra_ring e) s own x (keeps_handed_on c t x))
        (λ i n d now. left_named (seat_of t) c i y x (same_await c m e i n d a (awaits.Notice i) (sym at ∙ now)) (left_fewer (seat_of t) (object_named c) y own x (ring_keeps (extra_ring e) s own).fewer (handed_there c (seat_of t) x))) at (kept.handlers.told k s1 tt (kept.set t (change.Request false) s tt tt r))
    awaits_where_keeps false true settled c m e a s at r =
        let x = s.control.conditions in
        let y = seat_left c (seat_of t) x in
        await_ends_keeps c m e a retake.Notified (can_take (controlled (λ j. stops_waiting t (with_conditions (λ z. y) j)) s) t m) y s refl (keeps_left c t x)
        (λ i n d now. left_named (seat_of t) c i y x (same_await c m e i n d a (awaits.Notice i) (sym at ∙ now)) (left_there c (seat_of t) x)) at r
    awaits_where_keeps false false true c m e a s at r =
        let x = s.control.conditions in
        let y = seat_left c (seat_of t) x in
        await_ends_keeps c m e a retake.Interrupted (can_take (controlled (λ j. stops_waiting t (with_conditions (λ z. y) j)) s) t m) y s refl (keeps_left c t x)
        (λ i n d now. left_named (seat_of t) c i y x (same_await c m e i n d a (awaits.Notice i) (sym at ∙ now)) (left_there c (seat_of t) x)) at r
    awaits_where_keeps false false false c m e a s at r = kept.handlers.told (mark.Waits (tid t) (call.CondAwait c m e)) s tt r

    awaits_on_keeps : (c m e : ℤ) (a : Awaits) (s : State P S H) → blocked_of s.control t ≡ Some (record { call = call.CondAwait c m e; awaits = a }) → R s → R (awaits_on f t c m e a s).told.state
    awaits_on_keeps c m e (awaits.Retaking i o) s at r =
        await_ends_keeps c m e (awaits.Retaking i o) o (can_take (controlled (stops_waiting t) s) t m) s.control.conditions s refl (keeps_same t s.control.conditions) (λ j n d now. absurd (true≢false (ap (λ o. is_retaking (awaits_in o)) (sym at ∙ now)))) at r
    awaits_on_keeps c m e a s at r = awaits_where_keeps (may_be_canceled s.control t) (is_noticed s t c) (has_settled s.control.events (extra_ring e)) c m e a s at r

    -- whatever call it is
    gone_on_in_keeps : (c : Call) (a : Awaits) (s : State P S H) → blocked_of s.control t ≡ Some (record { call = c; awaits = a }) → IsSound t s.control → R s → R (gone_on_in f t c a s).told.state
    gone_on_in_keeps (call.CondAwait c m e) a s at sound r = awaits_on_keeps c m e a s at r
    gone_on_in_keeps c a s at sound r = where_keeps (may_be_canceled s.control t) s (record { call = c; awaits = a }) at refl sound r

    gone_on_by_keeps : (o : Option Blocked) (s : State P S H) → blocked_of s.control t ≡ o → IsSound t s.control → R s → R (gone_on_by f t o s).told.state
    gone_on_by_keeps None s at sound r = r
    gone_on_by_keeps (Some b) s at sound r = gone_on_in_keeps b.call b.awaits s at sound r

    pub gone_on_keeps : (s : State P S H) → IsSound t s.control → R s → R (gone_on f t s).told.state
    unfolding gone_on
    gone_on_keeps s sound r = gone_on_by_keeps (blocked_of s.control t) s refl sound r

    -- ---- a step

    stepped_free : (g : Progress S → Progress S) (s : State P S H) (p : Progress S) → s.control.threads.progress t ≡ Some p → (g p).blocked ≡ None → IsFree t (controlled (goes_on t g) s)
    unfolding goes_on
    stepped_free g s p at free = ap blocked_in (put_here s.control.threads.progress t (option_map g (s.control.threads.progress t))) ∙ ap (λ o. blocked_in (option_map g o)) at ∙ free

    stepped_there : (g : Progress S → Progress S) (s : State P S H) (p : Progress S) → s.control.threads.progress t ≡ Some p → is_some ((controlled (goes_on t g) s).control.threads.progress t) ≡ true
    unfolding goes_on
    stepped_there g s p at = ap is_some (put_here s.control.threads.progress t (option_map g (s.control.threads.progress t)) ∙ ap (option_map g) at)

    steps_by_keeps : (b : Option Blocked) (o : Option (Progress S)) (s : State P S H) → blocked_of s.control t ≡ b → s.control.threads.progress t ≡ o → IsSound t s.control → s.resources.awaits t ≡ is_awaiting b → R s → R (steps_by f t b o s).told.state
    steps_by_keeps (Some b) o s is_blocked at sound uncanceled r = gone_on_keeps s sound r
    steps_by_keeps None None s is_blocked at sound uncanceled r = gone_on_keeps s sound r
    steps_by_keeps None (Some p) s is_blocked at sound uncanceled r =
        let x = (f s.control.program).step p.state s.control.shared p.owed in
        let g : Progress S → Progress S = λ y. record y { state = x.state; owed = answer.None } in
        let a = controlled (shares x.shared) s in
        begun_keeps x.call (controlled (goes_on t g) a) (stepped_free g a p at (sym (ap blocked_in at) ∙ is_blocked)) (sound_steps t t g x.shared s.control (λ y. refl) sound) uncanceled (stepped_there g a p at) (kept.goes t g a (λ y. refl) (kept.handlers.shared x.shared s r))

    owes_keeps : (n : Next) → Stays (owes_after t n)
    owes_keeps (next.Done a) s r = kept.goes t (owing a) s (λ p. refl) r
    owes_keeps (next.Yields a) s r = kept.goes t (owing a) s (λ p. refl) r
    owes_keeps next.Blocks s r = r
    owes_keeps (next.Ended v) s r = r
    owes_keeps next.Killed s r = r

    step_keeps : (x : Turn) (s : State P S H) → IsSound t s.control → AwaitsAsBlocked t s → R s → R (steps f x t s).state
    unfolding steps
    step_keeps x s sound uncanceled r =
        let w = steps_on f t s in
        owes_keeps w.next w.told.state (steps_by_keeps (blocked_of s.control t) (s.control.threads.progress t) s refl refl sound uncanceled r)

  -- ---- the other parts

  pub woken_keeps : (ts : List ℕ) → Keeps (all_woken ts)
  unfolding all_woken woken
  woken_keeps [] s r = r
  woken_keeps (t ∷ ts) s r =
      let rank = prio_of s.control t +ℤ pos 1 in
      woken_keeps ts (woken t s).state (kept.handlers.told (mark.Woke (tid t) rank) (controlled (is_ready_at t rank false) s) tt (ready_keeps t rank false s r))

  readies_keep : (ts : List ℕ) → Stays (readies_all ts)
  unfolding readies_all readies
  readies_keep [] s r = r
  readies_keep (t ∷ ts) s r = readies_keep ts (controlled (readies t) s) (ready_keeps t _ _ s r)

  taken_keeps : (x : Turn) (o : Option ℕ) (s : State P S H) → R s → R (takes_by x o s).state
  unfolding dispatches runs
  taken_keeps x None s r = r
  taken_keeps x (Some t) s r =
      let trail = trail_with t s.control in
      let place = standing_of t (s.control.threads.standing Ready) in
      let before = controlled (trails trail) s in
      let a = controlled (leaves_queue t) before in
      let b = controlled (sets t (change.State state.Running)) a in
      let n = min ((or_nobody (entry_of s.control t)).dispatches + 1) last_count in
      let c = controlled (sets t (change.Dispatches n)) b in
      let d = controlled (runs_now (Some t)) c in
      let m = mark.Dispatch (x.turns + 1) (now_of s.control) (tid t) (rank_by (place_in t (queue s.control Ready))) (number_by (waited trail) place) (number_by (allowance.allowed s.control.top trail) place) in
      kept.handlers.told m (controlled (prefers None) d) tt (prefers_keeps None d (runs_now_keeps (Some t) c (kept.set t (change.Dispatches n) b tt tt (kept.set t (change.State state.Running) a tt tt (leaves_queue_keeps t before (trails_keeps trail s r))))))

  takes_keeps : (x : Turn) (s : State P S H) → R s → R (takes x s).state
  unfolding takes
  takes_keeps x s r =
      let a = controlled readies_new s in
      taken_keeps x (chosen a.control.scheduler.preferred (queue a.control Ready)) a (readies_keep (reverse (holders (queue s.control New))) s r)

  -- one that is put back is ready, which is no queue of waiting threads
  pub put_back_keeps : (t : ℕ) → Stays (is_put_back t)
  unfolding is_put_back
  put_back_keeps t s r = enters_keeps t Ready (prio_of s.control t) false (controlled (sets t (change.State state.Ready)) s) (λ odd. absurd (true≢false (sym odd))) (kept.set t (change.State state.Ready) s tt tt r)

  -- ---- a run, where passes and closed turns keep it too

  module _ (passed : Keeps (pass f)) (closed : (x : Turn) (t : ℕ) (s : State P S H) → R s → R (closes f x t s).state) where
    pub moves_keeps : (x : Turn) (o : Option ℕ) (s : State P S H) → R s → R (moves_by f x o s).state
    moves_keeps x None s r = r
    moves_keeps x (Some m) s r =
        let a = controlled (moves_to m) s in
        passed (tells (mark.Moved m) a).state (kept.handlers.told (mark.Moved m) a tt (moves_to_keeps m s r))

    part_keeps : (x : Turn) (s : State P S H) (p : Part) → ((t : ℕ) → p ≡ Step t → IsSound t s.control × AwaitsAsBlocked t s) → R s → R (part_by f x s p).state
    unfolding moves
    part_keeps x s Move sound r = moves_keeps x (moment f s) s r
    part_keeps x s Take sound r = takes_keeps x s r
    part_keeps x s (Step t) sound r = let steps_so = sound t refl in step_keeps t x s steps_so.0 steps_so.1 r
    part_keeps x s (Close t) sound r = closed x t s r
    part_keeps x s Halt sound r = r

    pub run_keeps_through : (g : Given P) → R (start f g) → (i : ℕ) → R (run f g i).state
    unfolding parts part
    run_keeps_through g begins zero = begins
    run_keeps_through g begins (suc i) = part_keeps (run f g i).turn (run f g i).state (next_part (run f g i).state (run f g i).turn) (λ t next. (run_sound f g i t next, run_awaits f g i t next)) (run_keeps_through g begins i)

-- ---- a run, where all changes keep it

module _ {P S H : Type 0} (f : P → Functions S H) (R : State P S H → Type 0) (kept : KeptAlong f R) where
  steps_keep : KeptBySteps f R
  steps_keep = kept_by_steps f R kept

  pub pass_keeps : (s : State P S H) → R s → R (pass f s).state
  unfolding pass
  pass_keeps s r = woken_keeps f R steps_keep (to_wake f s) (controlled (looks f s) s) (kept.looked s r)

  put_waiting_keeps : (t : ℕ) (s : State P S H) → R s → R (controlled (is_put_waiting t) s)
  unfolding is_put_waiting enters
  put_waiting_keeps t s r = kept.placed _ _ _ _ (controlled (sets t (change.State state.Waiting)) s) (kept.set t (change.State state.Waiting) s tt tt r)

  placed_keeps : (t : ℕ) (o : Option ℕ) (b : Option Blocked) (s : State P S H) → R s → R (controlled (placed_by t o b) s)
  placed_keeps t None b s r = r
  placed_keeps t (Some u) (Some b) s r = put_waiting_keeps t s r
  placed_keeps t (Some u) None s r = put_back_keeps f R steps_keep t s r

  pub closes_keeps : (x : Turn) (t : ℕ) (s : State P S H) → R s → R (closes f x t s).state
  unfolding closes is_placed raises_ready
  closes_keeps x t s r =
      let a = controlled raises_ready s in
      let b = controlled (placed_by t s.control.scheduler.running (blocked_of s.control t)) a in
      let c = controlled (runs_now None) b in
      pass_keeps (controlled (turn_ends t) s) (moves_to_keeps f R steps_keep (min (now_of c.control + clock_of c.control) last_moment) c (runs_now_keeps f R steps_keep None b (placed_keeps t s.control.scheduler.running (blocked_of s.control t) a (raises_keeps f R steps_keep s r))))

  pub run_keeps : (g : Given P) → R (start f g) → (i : ℕ) → R (run f g i).state
  run_keeps g begins i = run_keeps_through f R steps_keep pass_keeps closes_keeps g begins i
