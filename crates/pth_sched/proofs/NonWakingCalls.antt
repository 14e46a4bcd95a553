-- The calls that are non-waking leave all other threads, and what they wait for, as they are.
use Rattle.std.proofs.Common.{◌≡◌, ◌∙◌, ◌==◌, ℕ, not, Bool, true, false, if◌then◌else◌, ℤ, pos, length, Option, Some, None, option_map, Result, Ok, Err, refl, sym, ap, subst}
use Rattle.pth_waits.proofs.Canceling.{by_other}
use Rattle.pth_base.specs.Program.{Functions, Stepped}
use Rattle.pth_base.proofs.Tables.{put_by, put_other, same_means}
use Rattle.pth_base.specs.declared.answer.Answer.{Answer}
use Rattle.pth_base.specs.declared.answer.Answer.TheVariants.{Int, Text}
use Rattle.pth_base.specs.declared.call.Call.{Call}
use Rattle.pth_base.specs.declared.call.Call.TheVariants as call
use Rattle.pth_base.specs.declared.errno.Errno.{Errno}
use Rattle.pth_base.specs.declared.errno.Errno.TheVariants.{EDEADLK, EINVAL, ESRCH}
use Rattle.pth_base.specs.declared.mark.Mark.TheVariants.{Answered}
use Rattle.pth_base.specs.declared.query.Query.{Query}
use Rattle.pth_base.specs.declared.query.Query.TheVariants as query
use Rattle.pth_base.specs.declared.ids.EventId.{EventId}
use Rattle.pth_base.specs.declared.ids.FdSet.{FdSet}
use Rattle.pth_kernel.specs.Kernel.{Kernel, fd_named, room}
use Rattle.std.specs.Option.{ok_or}
use Rattle.pth_cond.specs.Barriers.{Barrier, BarrierTable, arrival_answer, arrival_at, arrived, barrier_reached, has_passed, is_past, lacks_one, round_answer, round_answered}
use Rattle.pth_cond.specs.declared.barriers.Arrival.{Arrival}
use Rattle.pth_cond.specs.declared.barriers.Arrival.TheVariants.{Incomplete, Tail}
use Rattle.pth_lock.specs.Objects.{object_named}
use Rattle.pth_model.specs.Barriers.{arrived_as}
use Rattle.pth_numbered.specs.Operands.{number, is_zero}
use Rattle.pth_ring.specs.Rings.{claimed, walk_answer, status_answer, kind_answer}
use Rattle.pth_store.specs.Keys.{key_get_answer}
use Rattle.pth_threads.specs.Attributes.{get_answer}
use Rattle.pth_model.specs.AttributeHandling.{answer_of, object}
use Rattle.pth_model.specs.EventHandling.{status_number}
use Rattle.pth_model.specs.Times.{is_negative, length_of, moment_after}
use Rattle.pth_model.specs.declared.awaits.Awaits.{Awaits}
use Rattle.pth_model.specs.declared.awaits.Awaits.TheVariants.{Reading, Writing, Connection, ConnectAnswer, Selection, Round}
use Rattle.pth_model.specs.declared.blocked.Blocked.{Blocked}
use Rattle.pth_model.specs.Awaits.{death_of, round_in, is_await}
use Rattle.pth_model.specs.Io.{at_once, begins_waiting, is_refused_length, select_deadline, trial_for, tries}
use Rattle.pth_model.specs.declared.next.Next.{Next}
use Rattle.pth_model.specs.declared.next.Next.TheVariants as next
use Rattle.pth_model.specs.declared.progress.Progress.{Progress}
use Rattle.pth_queue.specs.declared.queue.Queue.TheVariants as queues
use Rattle.pth_model.specs.LibraryControl.{running_count}
use Rattle.pth_model.specs.State.{State, now_of, present, queue}
use Rattle.pth_model.specs.Transition.{silent, nothing, controlled, changes, tells, tid, ◌and_then◌, Went}
use Rattle.pth_model.specs.Changes.{blocked_of, blocked_in, blocking, favours_new, goes_on, or_nobody, prefers, with_barriers, with_kernel}
use Rattle.pth_model.specs.Cancellation.{may_be_canceled}
use Rattle.pth_model.specs.Calls.{begun, begun_as, gone_on, gone_on_where, tried_again_by, canceled_by, tried, tried_again, interrupted, unless_settled, waits_by, gone_on_by}
use Rattle.pth_model.specs.Part.{owes_after, stepping}
use Rattle.pth_model.specs.Resources.{told, answer_told, wait_told}
use Rattle.pth_model.specs.Store.{Resources}
use Rattle.pth_model.specs.RingWaits.{ring_given, claims, extra_ring, has_settled, is_no_ring}
use Rattle.pth_model.specs.Row.{refuses, unless_refused, ◌trying◌}
use Rattle.pth_model.specs.Rows.{row_of}
use Rattle.pth_model.specs.declared.verdict.Verdict.{Verdict}
use Rattle.pth_model.specs.declared.verdict.Verdict.TheVariants.{Says, Yields, Blocks, Ends, Kills}
use Rattle.pth_model.specs.Verdict.{by_result, refused, says}
use Rattle.pth_numbered.specs.Clauses.{◌when◌otherwise◌}
use Rattle.pth_model.specs.ThreadControl.{is_known, joined, takes_joined, thread}
use Rattle.pth_world.specs.WellFormed.{IsSelection, IsWriting, MayAwaitAs, MayBlock}
use Rattle.pth_waits.proofs.Dormancy.{KeepsRounds, claimed_pending, entered_seats, same_pending, same_seats}
use Rattle.pth_waits.proofs.Unchanged.{HasNoRoom, waiting_same}
use Rattle.pth_sched.specs.NonWaking.{is_non_waking, waits_without_waking, is_waiting}
use Rattle.pth_sched.proofs.Quiescing.{IsNonWaking, non_waking_same, non_waking_then}

-- ---- attempts at descriptors

abbrev blocks_in : Verdict → Bool
blocks_in (Blocks a) = true
blocks_in (Says a) = false
blocks_in (Yields a) = false
blocks_in (Ends v) = false
blocks_in Kills = false

-- an attempt that is not yet takes nothing, if a write finds no room
not_yet_same : (k : Kernel) (a : Awaits) (v : Verdict) → (trial_for k a).verdict ≡ v → HasNoRoom k a → blocks_in v ≡ true → (trial_for k a).after k ≡ k
not_yet_same k a (Blocks b) is none blocks = waiting_same k a b is none
not_yet_same k a v is none blocks = absurd (cc blocks)

-- what a call on descriptors may wait for, if a write finds no room
equal_no_room : (k : Kernel) (a b : Awaits) → a ≡ b → HasNoRoom k b → HasNoRoom k a
equal_no_room k a b is none = subst (HasNoRoom k) (sym is) none

writing_no_room : (k : Kernel) (g : ℤ) (n : ℕ) (a : Awaits) → IsWriting g n a → (room k (fd_named g) == 0) ≡ true → HasNoRoom k a
writing_no_room k g n (Writing h total done) is none = same_means (room k (fd_named h)) 0 (ap (λ (i : ℤ). room k (fd_named i) == 0) is.0 ∙ none)
writing_no_room k g n a is none = tt

selection_no_room : (k : Kernel) (r w x : FdSet) (a : Awaits) → IsSelection r w x a → HasNoRoom k a
selection_no_room k r w x (Writing h total done) is = absurd is
selection_no_room k r w x a is = tt

-- what is refused or interrupted blocks only if the verdict itself does
refused_not : (e : Errno) (b : Bool) (v : Verdict) → blocks_in (refused e when b otherwise v) ≡ true → blocks_in v ≡ true
refused_not e true v blocks = absurd (cc blocks)
refused_not e false v blocks = blocks

interrupted_not : (v : Verdict) → blocks_in (interrupted v) ≡ true → blocks_in v ≡ true
interrupted_not (Blocks a) blocks = refl
interrupted_not v blocks = blocks

-- an arrival that waits at a barrier leaves its round current
still_waiting : (t round : ℕ) (y : Barrier) (last : Bool) → lacks_one y ≡ last → ◌≡◌ {A = Result Arrival Errno} (Ok (if last then Tail else Incomplete y.round)) (Ok (Incomplete round)) → (arrived t y).round ≡ y.round
still_waiting t round y true is waits = absurd (cc waits)
still_waiting t round y false is waits = rw is refl

still_past : (t round n : ℕ) (o : Option Barrier) → ok_or (option_map arrival_at o) EINVAL ≡ Ok (Incomplete round) → is_past n o ≡ false → is_past n (option_map (arrived t) o) ≡ false
still_past t round n None waits before = refl
still_past t round n (Some y) waits before = rw (still_waiting t round y (lacks_one y) refl waits) before

waiting_rounds : (x : BarrierTable) (b : ℤ) (t round : ℕ) → arrival_answer x b ≡ Ok (Incomplete round) → KeepsRounds x (barrier_reached b t x)
waiting_rounds x b t round waits c n before =
    put_by (λ o. is_past n o ≡ false) x (object_named b) (option_map (arrived t) (x (object_named b))) (object_named c)
    (λ same. still_past t round n (x (object_named b)) waits (subst (λ i. is_past n (x i) ≡ false) same before))
    (λ apart. before)

module _ {P S H : Type 0} (t : ℕ) where
  -- t alone goes on otherwise
  pub goes_non_waking : (g : Progress S → Progress S) (s : State P S H) → IsNonWaking t s (controlled (goes_on t g) s)
  unfolding goes_on
  goes_non_waking g s = record {
    known = refl;
    running = refl;
    kernel = refl;
    events = same_pending s.control.events;
    mutexes = refl;
    locks = refl;
    mail = refl;
    rounds = λ b r h. h;
    seats = same_seats s.control.conditions;
    blocked = λ u apart. ap (λ (o : Option (Progress S)). blocked_in o) (put_other s.control.threads.progress t _ u apart);
  }

  pub owes_non_waking : (n : Next) (s : State P S H) → IsNonWaking t s (controlled (owes_after t n) s)
  owes_non_waking (next.Done a) s = goes_non_waking _ s
  owes_non_waking (next.Yields a) s = goes_non_waking _ s
  owes_non_waking next.Blocks s = non_waking_same t s
  owes_non_waking (next.Ended v) s = non_waking_same t s
  owes_non_waking next.Killed s = non_waking_same t s

  pub stepping_non_waking : (x : Stepped S H) (s : State P S H) → IsNonWaking t s (controlled (stepping t x) s)
  unfolding goes_on
  stepping_non_waking x s = record {
    known = refl;
    running = refl;
    kernel = refl;
    events = same_pending s.control.events;
    mutexes = refl;
    locks = refl;
    mail = refl;
    rounds = λ b r h. h;
    seats = same_seats s.control.conditions;
    blocked = λ u apart. ap (λ (o : Option (Progress S)). blocked_in o) (put_other s.control.threads.progress t _ u apart);
  }

  -- a ring is claimed: who else waits for it finds it pending still
  claims_non_waking : (ring : Option ℤ) (s : State P S H) → IsNonWaking t s (controlled (claims t ring) s)
  unfolding claims
  claims_non_waking None s = non_waking_same t s
  claims_non_waking (Some e) s = record {
    known = refl;
    running = refl;
    kernel = refl;
    events = claimed_pending s.control.events (number e) (tid t) s.control.kernel.now;
    mutexes = refl;
    locks = refl;
    mail = refl;
    rounds = λ b r h. h;
    seats = entered_seats (claimed (number e) (tid t) s.control.kernel.now s.control.events) (s.control.events.rings (number e)) s.control.conditions;
    blocked = λ u apart. refl;
  }

  -- a call that waits
  waits_non_waking : (c : Call) (a : Awaits) → ((x : Resources) → wait_told x t c ≡ x) → (s : State P S H) → IsNonWaking t s (waits_by t c a s).state
  unfolding told
  waits_non_waking c a told_same s =
      let r = controlled (claims t (ring_given c)) s in
      let waits = blocking (Some (record { call = c; awaits = a })) in
      rw (told_same s.resources) (non_waking_then t s r (controlled (goes_on t waits) r) (claims_non_waking (ring_given c) s) (goes_non_waking waits r))

  -- an attempt takes nothing of a descriptor
  takes_non_waking : (h : Kernel → Kernel) (s : State P S H) → h s.control.kernel ≡ s.control.kernel → IsNonWaking t s (controlled (with_kernel h) s)
  takes_non_waking h s same = record { known = refl; running = refl; kernel = same; events = same_pending s.control.events; mutexes = refl; locks = refl; mail = refl; rounds = λ b r h. h; seats = same_seats s.control.conditions; blocked = λ u apart. refl }

  -- ---- calls that begin

  module _ (f : P → Functions S H) (s : State P S H) where
    by_verdict : (c : Call) (v : Verdict) → ((x : Resources) → wait_told x t c ≡ x) → is_waiting (begun_as f t c (v trying silent) s).next ≡ true → IsNonWaking t s (begun_as f t c (v trying silent) s).told.state
    by_verdict c (Says a) same waits = absurd (cc waits)
    by_verdict c (Yields a) same waits = absurd (cc waits)
    by_verdict c (Blocks a) same waits = waits_non_waking c a same s
    by_verdict c (Ends v) same waits = absurd (cc waits)
    by_verdict c Kills same waits = absurd (cc waits)

    -- a join waits, and takes nobody
    joins_by : (c : Call) (n : ℤ) (a b d : Bool) (o : Option ℕ) → ((x : Resources) → wait_told x t c ≡ x)
        → is_waiting (begun_as f t c (refused EDEADLK when a otherwise refused ESRCH when b otherwise refused EINVAL when d otherwise joined s.control n o trying changes (takes_joined o)) s).next ≡ true
        → IsNonWaking t s (begun_as f t c (refused EDEADLK when a otherwise refused ESRCH when b otherwise refused EINVAL when d otherwise joined s.control n o trying changes (takes_joined o)) s).told.state
    joins_by c n true b d o same waits = absurd (cc waits)
    joins_by c n false true d o same waits = absurd (cc waits)
    joins_by c n false false true o same waits = absurd (cc waits)
    joins_by c n false false false (Some u) same waits = absurd (cc waits)
    joins_by c n false false false None same waits = waits_non_waking c (death_of n) same s

    -- a call on descriptors waits if its attempt has no answer, and takes nothing then
    attempts_by : (c : Call) (v : Verdict) (h : Kernel → Kernel) → ((x : Resources) → wait_told x t c ≡ x) → (blocks_in v ≡ true → h s.control.kernel ≡ s.control.kernel)
        → is_waiting (begun_as f t c (v trying changes (with_kernel h)) s).next ≡ true → IsNonWaking t s (begun_as f t c (v trying changes (with_kernel h)) s).told.state
    attempts_by c (Says a) h told_same same waits = absurd (cc waits)
    attempts_by c (Yields a) h told_same same waits = absurd (cc waits)
    attempts_by c (Blocks a) h told_same same waits = non_waking_then t s (controlled (with_kernel h) s) (waits_by t c a (controlled (with_kernel h) s)).state (takes_non_waking h s (same refl)) (waits_non_waking c a told_same (controlled (with_kernel h) s))
    attempts_by c (Ends v) h told_same same waits = absurd (cc waits)
    attempts_by c Kills h told_same same waits = absurd (cc waits)

    begins_waiting_not : (now : Bool) (e : Option ℤ) (v : Verdict) → blocks_in (begins_waiting s now e v) ≡ true → blocks_in v ≡ true
    begins_waiting_not now e (Blocks a) blocks = refl
    begins_waiting_not now e v blocks = blocks

    io_begins_non_waking : (c : Call) (e : Option ℤ) (refused_else now : Bool) (a : Awaits) → HasNoRoom s.control.kernel a → ((x : Resources) → wait_told x t c ≡ x)
        → is_waiting (begun_as f t c (tries s e refused_else now a).begin s).next ≡ true → IsNonWaking t s (begun_as f t c (tries s e refused_else now a).begin s).told.state
    io_begins_non_waking c e refused_else now a none told_same waits =
        let trial = trial_for s.control.kernel a in
        let begins = begins_waiting s now e trial.verdict in
        attempts_by c (tries s e refused_else now a).begin.verdict trial.after told_same
        (λ blocks. not_yet_same s.control.kernel a trial.verdict refl none (begins_waiting_not now e trial.verdict (refused_not EINVAL refused_else begins (refused_not EINVAL (is_no_ring s e) (refused EINVAL when refused_else otherwise begins) blocks)))) waits

    -- an arrival that waits lets no round pass
    reaches_by : (b : ℤ) (q : Result Arrival Errno) → arrival_answer s.control.barriers b ≡ q → is_waiting (begun_as f t (call.BarrierReach b) (by_result (arrived_as b) q trying changes (with_barriers (barrier_reached b t))) s).next ≡ true
        → IsNonWaking t s (begun_as f t (call.BarrierReach b) (by_result (arrived_as b) q trying changes (with_barriers (barrier_reached b t))) s).told.state
    reaches_by b (Ok (Incomplete round)) is waits =
        let r = controlled (with_barriers (barrier_reached b t)) s in
        non_waking_then t s r (waits_by t (call.BarrierReach b) (Round b round) r).state
        (record { known = refl; running = refl; kernel = refl; events = same_pending s.control.events; mutexes = refl; locks = refl; mail = refl; rounds = waiting_rounds s.control.barriers b t round is; seats = same_seats s.control.conditions; blocked = λ u apart. refl })
        (waits_non_waking (call.BarrierReach b) (Round b round) (λ x. refl) r)
    reaches_by b (Ok Tail) is waits = absurd (cc waits)
    reaches_by b (Err e) is waits = absurd (cc waits)

    pub begins_non_waking : (c : Call) → waits_without_waking s.control.kernel c ≡ true → is_waiting (begun f t c s).next ≡ true → IsNonWaking t s (begun f t c s).told.state
    unfolding begun row_of
    begins_non_waking (call.Exit v) non_waking waits = by_verdict _ _ (λ x. refl) waits
    begins_non_waking (call.Wait e) non_waking waits = by_verdict _ _ (λ x. refl) waits
    begins_non_waking (call.Join n) non_waking waits = joins_by _ n _ _ _ _ (λ x. refl) waits
    begins_non_waking (call.Nap n) non_waking waits = by_verdict _ _ (λ x. refl) waits
    begins_non_waking (call.Usleep n) non_waking waits = by_verdict _ _ (λ x. refl) waits
    begins_non_waking (call.Sleep n) non_waking waits = by_verdict _ _ (λ x. refl) waits
    begins_non_waking (call.MutexAcquire m v e) non_waking waits = by_verdict _ _ (λ x. refl) waits
    begins_non_waking (call.RwAcquire l write v e) non_waking waits = by_verdict _ _ (λ x. refl) waits
    begins_non_waking (call.BarrierReach b) non_waking waits = reaches_by b (arrival_answer s.control.barriers b) refl waits
    begins_non_waking (call.Read g n) non_waking waits = io_begins_non_waking (call.Read g n) None false (at_once s g) (Reading g n) tt (λ x. refl) waits
    begins_non_waking (call.ReadEv g n e) non_waking waits = io_begins_non_waking (call.ReadEv g n e) (extra_ring e) false (at_once s g) (Reading g n) tt (λ x. refl) waits
    begins_non_waking (call.Write g bytes) non_waking waits = io_begins_non_waking (call.Write g bytes) None false (at_once s g) (Writing g (length bytes) 0) (same_means (room s.control.kernel (fd_named g)) 0 non_waking) (λ x. refl) waits
    begins_non_waking (call.WriteEv g bytes e) non_waking waits = io_begins_non_waking (call.WriteEv g bytes e) (extra_ring e) false (at_once s g) (Writing g (length bytes) 0) (same_means (room s.control.kernel (fd_named g)) 0 non_waking) (λ x. refl) waits
    begins_non_waking (call.Accept g) non_waking waits = io_begins_non_waking (call.Accept g) None false (at_once s g) (Connection g) tt (λ x. refl) waits
    begins_non_waking (call.AcceptEv g e) non_waking waits = io_begins_non_waking (call.AcceptEv g e) (extra_ring e) false (at_once s g) (Connection g) tt (λ x. refl) waits
    begins_non_waking (call.Connect g) non_waking waits = io_begins_non_waking (call.Connect g) None false (at_once s g) (ConnectAnswer g) tt (λ x. refl) waits
    begins_non_waking (call.ConnectEv g e) non_waking waits = io_begins_non_waking (call.ConnectEv g e) (extra_ring e) false (at_once s g) (ConnectAnswer g) tt (λ x. refl) waits
    begins_non_waking (call.Select r w x l) non_waking waits = io_begins_non_waking (call.Select r w x l) None (is_refused_length s r w x l) false (Selection r w x (select_deadline s l)) tt (λ y. refl) waits
    begins_non_waking (call.SelectEv r w x l e) non_waking waits = io_begins_non_waking (call.SelectEv r w x l e) (extra_ring e) (is_refused_length s r w x l) false (Selection r w x (select_deadline s l)) tt (λ y. refl) waits
    begins_non_waking c non_waking waits = absurd (cc non_waking)

    -- ---- calls that are non-waking whatever they come to

    prefers_non_waking : (z : Bool) (p : Option ℕ) → IsNonWaking t s (controlled (if z then nothing else prefers p) s)
    prefers_non_waking true p = non_waking_same t s
    prefers_non_waking false p = record { known = refl; running = refl; kernel = refl; events = same_pending s.control.events; mutexes = refl; locks = refl; mail = refl; rounds = λ b r h. h; seats = same_seats s.control.conditions; blocked = λ u apart. refl }

    yield_non_waking : (n : ℤ) (b : Bool) → IsNonWaking t s (begun_as f t (call.Yield n) (refused EINVAL when b otherwise Yields (Int (pos 1)) trying changes (if is_zero n then nothing else prefers (Some (number n)))) s).told.state
    unfolding told answer_told
    yield_non_waking n true = non_waking_same t s
    yield_non_waking n false = prefers_non_waking (is_zero n) (Some (number n))

    -- a call that is answered, and changes nothing
    abbrev is_answered : Verdict → Bool
    is_answered (Says a) = true
    is_answered v = false

    answered_when : (e : Errno) (b : Bool) (v : Verdict) → is_answered v ≡ true → is_answered (refused e when b otherwise v) ≡ true
    answered_when e true v h = refl
    answered_when e false v h = h

    answered_by : {A : Type 0} (g : A → Verdict) (r : Result A Errno) → ((x : A) → is_answered (g x) ≡ true) → is_answered (by_result g r) ≡ true
    answered_by g (Ok x) h = h x
    answered_by g (Err e) h = refl

    told_by : (c : Call) (a : Answer) (b : Bool) → answer_told s.resources t c a ≡ s.resources → IsNonWaking t s ((unless_refused b (changes nothing) and_then tells (Answered (tid t) c a)) s).state
    unfolding told
    told_by c a true same = rw same (non_waking_same t s)
    told_by c a false same = rw same (non_waking_same t s)

    asks_non_waking : (c : Call) (v : Verdict) → is_answered v ≡ true → ((a : Answer) → answer_told s.resources t c a ≡ s.resources) → IsNonWaking t s (begun_as f t c (v trying changes nothing) s).told.state
    asks_non_waking c (Says a) only same = told_by c a (refuses (Says a)) (same a)
    asks_non_waking c (Yields a) only same = absurd (cc only)
    asks_non_waking c (Blocks a) only same = absurd (cc only)
    asks_non_waking c (Ends v) only same = absurd (cc only)
    asks_non_waking c Kills only same = absurd (cc only)

    favours_non_waking : (n : ℤ) (b : Bool) (m : ℕ) (y : Bool) → IsNonWaking t s (begun_as f t (call.Ctrl (query.Favournew n)) (refused EINVAL when b otherwise says m trying changes (favours_new y)) s).told.state
    unfolding told answer_told
    favours_non_waking n true m y = non_waking_same t s
    favours_non_waking n false m y = record { known = refl; running = refl; kernel = refl; events = same_pending s.control.events; mutexes = refl; locks = refl; mail = refl; rounds = λ b r h. h; seats = same_seats s.control.conditions; blocked = λ u apart. refl }

    ctrl_non_waking : (q : Query) → IsNonWaking t s (begun f t (call.Ctrl q) s).told.state
    unfolding begun row_of answer_told
    ctrl_non_waking query.Threads = asks_non_waking (call.Ctrl query.Threads) (says (present s.control)) refl (λ a. refl)
    ctrl_non_waking query.New = asks_non_waking (call.Ctrl query.New) (says (length (queue s.control queues.New))) refl (λ a. refl)
    ctrl_non_waking query.Ready = asks_non_waking (call.Ctrl query.Ready) (says (length (queue s.control queues.Ready))) refl (λ a. refl)
    ctrl_non_waking query.Running = asks_non_waking (call.Ctrl query.Running) (says (running_count s.control.scheduler.running)) refl (λ a. refl)
    ctrl_non_waking query.Waiting = asks_non_waking (call.Ctrl query.Waiting) (says (length (queue s.control queues.Waiting))) refl (λ a. refl)
    ctrl_non_waking query.Suspended = asks_non_waking (call.Ctrl query.Suspended) (says (length (queue s.control queues.Suspended))) refl (λ a. refl)
    ctrl_non_waking query.Dead = asks_non_waking (call.Ctrl query.Dead) (says (length (queue s.control queues.Dead))) refl (λ a. refl)
    ctrl_non_waking (query.Favournew n) = favours_non_waking n _ _ _
    ctrl_non_waking (query.Prio n) = asks_non_waking (call.Ctrl (query.Prio n)) (refused ESRCH when not (is_known s.control n) otherwise Says (Int (or_nobody (thread s.control n)).prio)) (answered_when ESRCH (not (is_known s.control n)) (Says (Int (or_nobody (thread s.control n)).prio)) refl) (λ a. refl)
    ctrl_non_waking (query.Name n) = asks_non_waking (call.Ctrl (query.Name n)) (refused ESRCH when not (is_known s.control n) otherwise Says (Text (or_nobody (thread s.control n)).name)) (answered_when ESRCH (not (is_known s.control n)) (Says (Text (or_nobody (thread s.control n)).name)) refl) (λ a. refl)

    pub is_non_waking_begun : (c : Call) → is_non_waking c ≡ true → IsNonWaking t s (begun f t c s).told.state
    unfolding begun row_of told answer_told
    is_non_waking_begun call.Plain non_waking = non_waking_same t s
    is_non_waking_begun (call.Note v) non_waking = non_waking_same t s
    is_non_waking_begun call.SelfTid non_waking = non_waking_same t s
    is_non_waking_begun (call.Yield n) non_waking = yield_non_waking n _
    is_non_waking_begun (call.Ctrl q) non_waking = ctrl_non_waking q
    is_non_waking_begun (call.AttrGet a field) non_waking = asks_non_waking (call.AttrGet a field) (by_result (λ v. Says (answer_of v)) (get_answer s.control.threads.known (object s.control a) field)) (answered_by (λ v. Says (answer_of v)) (get_answer s.control.threads.known (object s.control a) field) (λ v. refl)) (λ a. refl)
    is_non_waking_begun (call.Timeout n) non_waking = asks_non_waking (call.Timeout n) (refused EINVAL when is_negative n otherwise says (moment_after (now_of s.control) (length_of 1 n))) (answered_when EINVAL (is_negative n) (says (moment_after (now_of s.control) (length_of 1 n))) refl) (λ a. refl)
    is_non_waking_begun (call.EvWalk e forward until_occurred) non_waking = asks_non_waking (call.EvWalk e forward until_occurred) (by_result (λ (x : EventId). says x.0) (walk_answer s.control.events (number e) forward until_occurred)) (answered_by (λ (x : EventId). says x.0) (walk_answer s.control.events (number e) forward until_occurred) (λ v. refl)) (λ a. refl)
    is_non_waking_begun (call.EvStatus e) non_waking = asks_non_waking (call.EvStatus e) (by_result (λ x. says (status_number x)) (status_answer s.control.events (number e))) (answered_by (λ x. says (status_number x)) (status_answer s.control.events (number e)) (λ v. refl)) (λ a. refl)
    is_non_waking_begun (call.EvKind e) non_waking = asks_non_waking (call.EvKind e) (by_result says (kind_answer s.control.events (number e))) (answered_by says (kind_answer s.control.events (number e)) (λ v. refl)) (λ a. refl)
    is_non_waking_begun (call.KeyGet k) non_waking = asks_non_waking (call.KeyGet k) (by_result (λ v. Says (Int v)) (key_get_answer s.resources.store.keys t k)) (answered_by (λ v. Says (Int v)) (key_get_answer s.resources.store.keys t k) (λ v. refl)) (λ a. refl)
    is_non_waking_begun c non_waking = absurd (cc non_waking)

    -- ---- calls that are tried again

    tried_non_waking : (b : Blocked) (v : Verdict) → ((x : Resources) → wait_told x t b.call ≡ x) → is_waiting (tried f t b (v trying silent) s).next ≡ true → IsNonWaking t s (tried f t b (v trying silent) s).told.state
    unfolding told
    tried_non_waking b (Says a) same waits = absurd (cc waits)
    tried_non_waking b (Yields a) same waits = absurd (cc waits)
    tried_non_waking b (Blocks a) same waits = rw (same s.resources) (goes_non_waking (blocking (Some (record b { awaits = a }))) s)
    tried_non_waking b (Ends v) same waits = absurd (cc waits)
    tried_non_waking b Kills same waits = absurd (cc waits)

    come_non_waking : (b : Blocked) (come : Bool) (v : Verdict) → ((x : Resources) → wait_told x t b.call ≡ x) → is_waiting (tried f t b (unless_settled come (v trying silent)) s).next ≡ true → IsNonWaking t s (tried f t b (unless_settled come (v trying silent)) s).told.state
    come_non_waking b true v same waits = tried_non_waking b (interrupted v) same waits
    come_non_waking b false v same waits = tried_non_waking b v same waits

    -- a round that has not passed is waited for on
    rounds_on_by : (b : Blocked) (c : ℤ) (round : ℕ) (come passed : Bool) → ((x : Resources) → wait_told x t b.call ≡ x)
        → is_waiting (tried f t b (unless_settled come (if passed then (Says (Int (round_answer s.control.barriers c round t)) trying changes (with_barriers (round_answered c round t))) else (Blocks (Round c round) trying silent))) s).next ≡ true
        → IsNonWaking t s (tried f t b (unless_settled come (if passed then (Says (Int (round_answer s.control.barriers c round t)) trying changes (with_barriers (round_answered c round t))) else (Blocks (Round c round) trying silent))) s).told.state
    rounds_on_by b c round true true same waits = absurd (cc waits)
    rounds_on_by b c round false true same waits = absurd (cc waits)
    rounds_on_by b c round come false same waits = come_non_waking b come (Blocks (Round c round)) same waits

    -- a join that blocks on takes nobody
    joins_on_by : (b : Blocked) (n : ℤ) (come i j d : Bool) (o : Option ℕ) → ((x : Resources) → wait_told x t b.call ≡ x)
        → is_waiting (tried f t b (unless_settled come (refused EDEADLK when i otherwise refused ESRCH when j otherwise refused EINVAL when d otherwise joined s.control n o trying changes (takes_joined o))) s).next ≡ true
        → IsNonWaking t s (tried f t b (unless_settled come (refused EDEADLK when i otherwise refused ESRCH when j otherwise refused EINVAL when d otherwise joined s.control n o trying changes (takes_joined o))) s).told.state
    joins_on_by b n true true j d o same waits = absurd (cc waits)
    joins_on_by b n true false true d o same waits = absurd (cc waits)
    joins_on_by b n true false false true o same waits = absurd (cc waits)
    joins_on_by b n true false false false (Some u) same waits = absurd (cc waits)
    joins_on_by b n false true j d o same waits = absurd (cc waits)
    joins_on_by b n false false true d o same waits = absurd (cc waits)
    joins_on_by b n false false false true o same waits = absurd (cc waits)
    joins_on_by b n false false false false (Some u) same waits = absurd (cc waits)
    joins_on_by b n come false false false None same waits = come_non_waking b come (Blocks (death_of n)) same waits

    -- a call on descriptors waits on if its attempt has no answer, and takes nothing then
    attempts_again : (b : Blocked) (v : Verdict) (h : Kernel → Kernel) → ((x : Resources) → wait_told x t b.call ≡ x) → (blocks_in v ≡ true → h s.control.kernel ≡ s.control.kernel)
        → is_waiting (tried f t b (v trying changes (with_kernel h)) s).next ≡ true → IsNonWaking t s (tried f t b (v trying changes (with_kernel h)) s).told.state
    unfolding told
    attempts_again b (Says a) h told_same same waits = absurd (cc waits)
    attempts_again b (Yields a) h told_same same waits = absurd (cc waits)
    attempts_again b (Blocks a) h told_same same waits =
        let r = controlled (with_kernel h) s in
        let on = blocking (Some (record b { awaits = a })) in
        rw (told_same s.resources) (non_waking_then t s r (controlled (goes_on t on) r) (takes_non_waking h s (same refl)) (goes_non_waking on r))
    attempts_again b (Ends v) h told_same same waits = absurd (cc waits)
    attempts_again b Kills h told_same same waits = absurd (cc waits)

    io_again_non_waking : (b : Blocked) (come : Bool) (a : Awaits) → HasNoRoom s.control.kernel a → ((x : Resources) → wait_told x t b.call ≡ x)
        → is_waiting (tried f t b (unless_settled come ((trial_for s.control.kernel a).verdict trying changes (with_kernel (trial_for s.control.kernel a).after))) s).next ≡ true
        → IsNonWaking t s (tried f t b (unless_settled come ((trial_for s.control.kernel a).verdict trying changes (with_kernel (trial_for s.control.kernel a).after))) s).told.state
    io_again_non_waking b true a none told_same waits =
        let trial = trial_for s.control.kernel a in
        attempts_again b (interrupted trial.verdict) trial.after told_same (λ blocks. not_yet_same s.control.kernel a trial.verdict refl none (interrupted_not trial.verdict blocks)) waits
    io_again_non_waking b false a none told_same waits =
        let trial = trial_for s.control.kernel a in
        attempts_again b trial.verdict trial.after told_same (not_yet_same s.control.kernel a trial.verdict refl none) waits

    told_nothing : (c : Call) → waits_without_waking s.control.kernel c ≡ true → (x : Resources) → wait_told x t c ≡ x
    told_nothing (call.Exit v) non_waking x = refl
    told_nothing (call.Wait e) non_waking x = refl
    told_nothing (call.Join n) non_waking x = refl
    told_nothing (call.Nap n) non_waking x = refl
    told_nothing (call.Usleep n) non_waking x = refl
    told_nothing (call.Sleep n) non_waking x = refl
    told_nothing (call.MutexAcquire m v e) non_waking x = refl
    told_nothing (call.RwAcquire l write v e) non_waking x = refl
    told_nothing (call.BarrierReach b) non_waking x = refl
    told_nothing (call.Read g n) non_waking x = refl
    told_nothing (call.ReadEv g n e) non_waking x = refl
    told_nothing (call.Write g bytes) non_waking x = refl
    told_nothing (call.WriteEv g bytes e) non_waking x = refl
    told_nothing (call.Accept g) non_waking x = refl
    told_nothing (call.AcceptEv g e) non_waking x = refl
    told_nothing (call.Connect g) non_waking x = refl
    told_nothing (call.ConnectEv g e) non_waking x = refl
    told_nothing (call.Select r w z l) non_waking x = refl
    told_nothing (call.SelectEv r w z l e) non_waking x = refl
    told_nothing c non_waking x = absurd (cc non_waking)

    -- the call that blocks t waits for what it may wait for
    again_non_waking : (c : Call) (b : Blocked) (come : Bool) → waits_without_waking s.control.kernel c ≡ true → MayAwaitAs t c b.awaits → ((x : Resources) → wait_told x t b.call ≡ x)
        → is_waiting (tried f t b (unless_settled come ((row_of f s t c).again b.awaits)) s).next ≡ true → IsNonWaking t s (tried f t b (unless_settled come ((row_of f s t c).again b.awaits)) s).told.state
    unfolding row_of
    again_non_waking (call.Exit v) b come non_waking may same waits = come_non_waking b come _ same waits
    again_non_waking (call.Wait e) b come non_waking may same waits = come_non_waking b come _ same waits
    again_non_waking (call.Join n) b come non_waking may same waits = joins_on_by b n come _ _ _ _ same waits
    again_non_waking (call.Nap n) b come non_waking may same waits = come_non_waking b come _ same waits
    again_non_waking (call.Usleep n) b come non_waking may same waits = come_non_waking b come _ same waits
    again_non_waking (call.Sleep n) b come non_waking may same waits = come_non_waking b come _ same waits
    again_non_waking (call.MutexAcquire m v e) b come non_waking may same waits = come_non_waking b come _ same waits
    again_non_waking (call.RwAcquire l write v e) b come non_waking may same waits = come_non_waking b come _ same waits
    again_non_waking (call.BarrierReach c) b come non_waking may same waits = rounds_on_by b c (round_in b.awaits) come (has_passed s.control.barriers c (round_in b.awaits)) same waits
    again_non_waking (call.Read g n) b come non_waking may same waits = io_again_non_waking b come b.awaits (equal_no_room s.control.kernel b.awaits (Reading g n) may tt) same waits
    again_non_waking (call.ReadEv g n e) b come non_waking may same waits = io_again_non_waking b come b.awaits (equal_no_room s.control.kernel b.awaits (Reading g n) may tt) same waits
    again_non_waking (call.Write g bytes) b come non_waking may same waits = io_again_non_waking b come b.awaits (writing_no_room s.control.kernel g (length bytes) b.awaits may non_waking) same waits
    again_non_waking (call.WriteEv g bytes e) b come non_waking may same waits = io_again_non_waking b come b.awaits (writing_no_room s.control.kernel g (length bytes) b.awaits may non_waking) same waits
    again_non_waking (call.Accept g) b come non_waking may same waits = io_again_non_waking b come b.awaits (equal_no_room s.control.kernel b.awaits (Connection g) may tt) same waits
    again_non_waking (call.AcceptEv g e) b come non_waking may same waits = io_again_non_waking b come b.awaits (equal_no_room s.control.kernel b.awaits (Connection g) may tt) same waits
    again_non_waking (call.Connect g) b come non_waking may same waits = io_again_non_waking b come b.awaits (equal_no_room s.control.kernel b.awaits (ConnectAnswer g) may tt) same waits
    again_non_waking (call.ConnectEv g e) b come non_waking may same waits = io_again_non_waking b come b.awaits (equal_no_room s.control.kernel b.awaits (ConnectAnswer g) may tt) same waits
    again_non_waking (call.Select r w x l) b come non_waking may same waits = io_again_non_waking b come b.awaits (selection_no_room s.control.kernel r w x b.awaits may) same waits
    again_non_waking (call.SelectEv r w x l e) b come non_waking may same waits = io_again_non_waking b come b.awaits (selection_no_room s.control.kernel r w x b.awaits may) same waits
    again_non_waking c b come non_waking may same waits = absurd (cc non_waking)

    goes_on_by : (b : Blocked) → MayBlock t b → waits_without_waking s.control.kernel b.call ≡ true → is_waiting (tried_again_by f t (Some b) s).next ≡ true → IsNonWaking t s (tried_again_by f t (Some b) s).told.state
    goes_on_by b may non_waking waits = again_non_waking b.call b (has_settled s.control.events (ring_given b.call)) non_waking may (told_nothing b.call non_waking) waits

    goes_on_where : (canceled : Bool) (b : Blocked) → blocked_of s.control t ≡ Some b → MayBlock t b → waits_without_waking s.control.kernel b.call ≡ true → is_waiting (gone_on_where f t canceled s).next ≡ true → IsNonWaking t s (gone_on_where f t canceled s).told.state
    unfolding tried_again
    goes_on_where true b is may non_waking waits = absurd (let no : is_waiting (canceled_by f t (Some b) s).next ≡ true = subst (λ (o : Option Blocked). is_waiting (canceled_by f t o s).next ≡ true) is waits in cc no)
    goes_on_where false b is may non_waking waits =
        subst (λ (o : Option Blocked). IsNonWaking t s (tried_again_by f t o s).told.state) (sym is) (goes_on_by b may non_waking (subst (λ (o : Option Blocked). is_waiting (tried_again_by f t o s).next ≡ true) is waits))

    without_waking_other : (c : Call) → waits_without_waking s.control.kernel c ≡ true → is_await c ≡ false
    without_waking_other (call.CondAwait x m e) non_waking = absurd (cc non_waking)
    without_waking_other c non_waking = refl

    -- a call that is tried again, and waits on
    pub goes_on_non_waking : (b : Blocked) → blocked_of s.control t ≡ Some b → MayBlock t b → waits_without_waking s.control.kernel b.call ≡ true → is_waiting (gone_on f t s).next ≡ true → IsNonWaking t s (gone_on f t s).told.state
    unfolding gone_on
    goes_on_non_waking b is may non_waking waits =
        let same : gone_on f t s ≡ gone_on_where f t (may_be_canceled s.control t) s = ap (λ (o : Option Blocked). gone_on_by f t o s) is ∙ by_other f t b.call b.awaits (without_waking_other b.call non_waking) s in
        subst (λ (w : Went P S H). IsNonWaking t s w.told.state) (sym same) (goes_on_where (may_be_canceled s.control t) b is may non_waking (ap (λ (w : Went P S H). is_waiting w.next) (sym same) ∙ waits))
