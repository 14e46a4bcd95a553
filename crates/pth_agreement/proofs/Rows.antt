-- The row of each call, with another program and another kernel: its verdict, and its effect.
use Rattle.std.proofs.Common.{◌≡◌, ℕ, ◌&&◌, length, [], not, Bool, true, false, if◌then◌else◌, ℤ, negsuc, int_lt, Option, Some, None, refl, ap}
use Rattle.pth_base.specs.Program.{Functions, Stepped}
use Rattle.pth_base.specs.declared.answer.Answer.{Answer}
use Rattle.pth_base.specs.declared.answer.Answer.TheVariants.{Int}
use Rattle.pth_base.specs.declared.attr.AttrValue.{AttrValue}
use Rattle.pth_base.specs.declared.call.Call.{Call}
use Rattle.pth_base.specs.declared.call.Call.TheVariants as call
use Rattle.pth_base.specs.declared.errno.Errno.TheVariants.{EINVAL, EBADF}
use Rattle.pth_base.specs.declared.event.EventSpec.{EventSpec}
use Rattle.pth_base.specs.declared.event.EvLine.{EvLine}
use Rattle.pth_base.specs.declared.event.EvLine.TheVariants as line
use Rattle.pth_base.specs.declared.ids.HandlerId.{HandlerId}
use Rattle.pth_base.specs.declared.mark.Mark.TheVariants as mark
use Rattle.pth_base.specs.declared.query.Query.{Query}
use Rattle.pth_base.specs.declared.query.Query.TheVariants as query
use Rattle.pth_agreement.proofs.Others.{Others, AllLeft}
use Rattle.pth_agreement.specs.Descriptors.{in_sets, asked_by_call}
use Rattle.pth_agreement.proofs.Asked.{asked_by_wait}
use Rattle.pth_base.specs.declared.ids.FdSet.{FdSet}
use Rattle.pth_kernel.specs.Kernel.{fd_named, fd_closed}
use Rattle.pth_kernel.specs.Modes.{sets_mode}
use Rattle.pth_numbered.specs.Operands.{number, is_zero}
use Rattle.pth_queue.specs.declared.queue.Queue.{Queue}
use Rattle.pth_ring.specs.Rings.{make_answer, chain_answer, alone, chained}
use Rattle.pth_store.specs.Cleanups.{PushedHandler}
use Rattle.pth_threads.specs.Attributes.{change_of}
use Rattle.pth_threads.specs.declared.attribute.Attribute.{Attribute}
use Rattle.pth_threads.specs.declared.attribute.Attribute.TheVariants.{Free, Bound}
use Rattle.pth_threads.specs.declared.entry.Change as change_of_record
use Rattle.pth_threads.specs.declared.entry.Change.TheVariants as change
use Rattle.pth_model.specs.declared.awaits.Awaits.{Awaits}
use Rattle.pth_model.specs.declared.awaits.Awaits.TheVariants as awaits
use Rattle.pth_model.specs.declared.verdict.Verdict.{Verdict}
use Rattle.pth_model.specs.declared.verdict.Verdict.TheVariants.{Says, Blocks}
use Rattle.pth_cond.specs.Barriers.{has_passed, round_answer, round_answered}
use Rattle.pth_model.specs.Acts.{runs_handler}
use Rattle.pth_model.specs.Ending.{ending}
use Rattle.pth_model.specs.AttributeHandling.{object, sets_field, sets_value}
use Rattle.pth_model.specs.Awaits.{round_in}
use Rattle.pth_model.specs.Cancellation.{canceled_by_other, aborts, takes_request, is_asynchronous, is_to_cancel, canceled_value}
use Rattle.pth_model.specs.Changes.{sets, enters, leaves_queue, makes, forgets, removes, prefers, uses, with_events, with_barriers, with_kernel, or_nobody, entry_of, queue_for}
use Rattle.pth_model.specs.Cleanups.{runs_pushed, last_pushed}
use Rattle.pth_model.specs.EventHandling.{spec_of, made_as, make_event, chain}
use Rattle.pth_model.specs.Io.{tries, at_once, is_refused_length, select_deadline, begins_waiting}
use Rattle.pth_model.specs.LibraryControl.{ctrl, vanish_all_but}
use Rattle.pth_model.specs.Living.{is_dead}
use Rattle.pth_model.specs.Resources.{handler}
use Rattle.pth_model.specs.RingWaits.{extra_ring, is_no_ring}
use Rattle.pth_model.specs.Row.{Attempt, ◌trying◌}
use Rattle.pth_model.specs.Rows.{row_of}
use Rattle.pth_model.specs.State.{State}
use Rattle.pth_model.specs.ThreadControl.{thread, joinable_dead, to_join, takes_joined, suspends, resumes, returns_to}
use Rattle.pth_model.specs.ThreadEnds.{is_alone}
use Rattle.pth_model.specs.Transition.{Change, silent, nothing, changes, tells, tid, ◌and◌, ◌and_then◌}
use Rattle.pth_model.specs.Verdict.{refused, says, by_result}
use Rattle.pth_numbered.specs.Clauses.{◌when◌otherwise◌}
use Rattle.pth_agreement.proofs.Placed.{Bare, placed, placed_control, moved, AreSame, DoSame, AttemptSame, changes_same, then_same, where_same}
use Rattle.pth_agreement.proofs.Kernels.{ShowsSame, changed_same, mode_sets, live_at, blocking_at, mode_at, live_same, sets_left, trial_same, after_same}
use Rattle.pth_agreement.proofs.Endings.{stepping_so, handler_same, ending_same}

module _ {P S H : Type 0} (p : P) (other : Others) where
  abbrev Same : Attempt (Unit {0}) S H → Attempt P S H → Bare S H → Type 0
  Same = AttemptSame p other

  ctrl_same : (s : Bare S H) (x : Query) → Same (ctrl s x).begin (ctrl (placed p other s) x).begin s
  ctrl_same s query.Threads = record { verdict = refl; effect = refl }
  ctrl_same s x = record { verdict = refl; effect = refl }

  ctrl_again_same : (s : Bare S H) (x : Query) (a : Awaits) → Same ((ctrl s x).again a) ((ctrl (placed p other s) x).again a) s
  ctrl_again_same s query.Threads a = record { verdict = refl; effect = refl }
  ctrl_again_same s x a = record { verdict = refl; effect = refl }

  -- an event that is made, and what is put in an object or a thread
  made_same : (s : Bare S H) (o : Option EventSpec) (v : EventSpec → Verdict) (g : EventSpec → Change (Unit {0}) S H) (h : EventSpec → Change P S H) → ((x : EventSpec) → AreSame p other (g x) (h x)) → Same (made_as o v g).begin (made_as o v h).begin s
  made_same s None v g h same = record { verdict = refl; effect = refl }
  made_same s (Some x) v g h same = record { verdict = refl; effect = changes_same p other (g x) (h x) (same x) s }

  made_again_same : (s : Bare S H) (o : Option EventSpec) (v : EventSpec → Verdict) (g : EventSpec → Change (Unit {0}) S H) (h : EventSpec → Change P S H) (a : Awaits) → Same ((made_as o v g).again a) ((made_as o v h).again a) s
  made_again_same s None v g h a = record { verdict = refl; effect = refl }
  made_again_same s (Some x) v g h a = record { verdict = refl; effect = refl }

  make_same : (s : Bare S H) (l : EvLine) → Same (make_event s l).begin (make_event (placed p other s) l).begin s
  make_same s l = made_same s (spec_of l) (λ x. by_result says (make_answer s.control.events)) (λ x. with_events (alone x)) (λ x. with_events (alone x)) (λ x k. refl)

  make_again_same : (s : Bare S H) (l : EvLine) (a : Awaits) → Same ((make_event s l).again a) ((make_event (placed p other s) l).again a) s
  make_again_same s l a = made_again_same s (spec_of l) (λ x. by_result says (make_answer s.control.events)) (λ x. with_events (alone x)) (λ x. with_events (alone x)) a

  chain_same : (s : Bare S H) (e : ℤ) (l : EvLine) → Same (chain s e l).begin (chain (placed p other s) e l).begin s
  chain_same s e l = made_same s (spec_of l) (λ x. by_result says (chain_answer s.control.events (number e))) (λ x. with_events (chained x (number e))) (λ x. with_events (chained x (number e))) (λ x k. refl)

  chain_again_same : (s : Bare S H) (e : ℤ) (l : EvLine) (a : Awaits) → Same ((chain s e l).again a) ((chain (placed p other s) e l).again a) s
  chain_again_same s e l a = made_again_same s (spec_of l) (λ x. by_result says (chain_answer s.control.events (number e))) (λ x. with_events (chained x (number e))) (λ x. with_events (chained x (number e))) a

  sets_same : (t : ℕ) (c : change_of_record.Change) → AreSame {S = S} {H = H} p other (sets t c) (sets t c)
  unfolding sets
  sets_same t c k = refl

  field_same : (t : ℕ) (o : Option change_of_record.Change) → AreSame {S = S} {H = H} p other (sets_field t o) (sets_field t o)
  field_same t None k = refl
  field_same t (Some c) k = sets_same t c k

  value_same : (a : ℤ) (v : AttrValue) (o : Option Attribute) → AreSame {S = S} {H = H} p other (sets_value a v o) (sets_value a v o)
  value_same a v None k = refl
  value_same a v (Some (Free x)) k = refl
  value_same a v (Some (Bound u)) k = field_same u.0 (change_of v) k

  -- a change, if so
  if_same : (b : Bool) (g : Change (Unit {0}) S H) (h : Change P S H) → AreSame p other g h → AreSame p other (if b then nothing else g) (if b then nothing else h)
  if_same true g h same k = refl
  if_same false g h same k = same k

  returns_same : (t : ℕ) (o : Option Queue) → AreSame {S = S} {H = H} p other (returns_to t o) (returns_to t o)
  unfolding leaves_queue sets enters
  returns_same t None k = refl
  returns_same t (Some q) k = refl

  resumes_same : (t : ℕ) → AreSame {S = S} {H = H} p other (resumes t) (resumes t)
  unfolding resumes
  resumes_same t k = returns_same t (queue_for (or_nobody (entry_of k t)).state) k

  removes_same : (t : ℕ) → AreSame {S = S} {H = H} p other (removes t) (removes t)
  unfolding leaves_queue forgets
  removes_same t k = refl

  joined_same : (o : Option ℕ) → AreSame {S = S} {H = H} p other (takes_joined o) (takes_joined o)
  joined_same None k = refl
  joined_same (Some t) k = removes_same t k

  join_same : (s : Bare S H) (t : ℕ) (n : ℤ) (o : Option ℕ) → changes (takes_joined o) (placed p other s) ≡ moved p other (changes (takes_joined o) s)
  join_same s t n o = changes_same p other (takes_joined o) (takes_joined o) (joined_same o) s

  -- t's round has passed, or t waits on
  abbrev round_attempt : {Q : Type 0} → ℕ → State Q S H → ℤ → ℕ → Bool → Attempt Q S H
  round_attempt t s b round passed = if passed then (Says (Int (round_answer s.control.barriers b round t)) trying changes (with_barriers (round_answered b round t))) else (Blocks (awaits.Round b round) trying silent)

  round_same : (t : ℕ) (s : Bare S H) (b : ℤ) (round : ℕ) (passed : Bool) → Same (round_attempt t s b round passed) (round_attempt t (placed p other s) b round passed) s
  round_same t s b round true = record { verdict = refl; effect = refl }
  round_same t s b round false = record { verdict = refl; effect = refl }

  mode_same : (d : ℕ) (m : ℤ) → other.left d ≡ true → AreSame {S = S} {H = H} p other (with_kernel (sets_mode d m)) (with_kernel (sets_mode d m))
  mode_same d m left c = ap (λ k. record (placed_control p other c) { kernel = k }) (mode_sets other d m c.kernel left)

  closed_same : (d : ℕ) → other.left d ≡ true → AreSame {S = S} {H = H} p other (with_kernel (fd_closed d)) (with_kernel (fd_closed d))
  closed_same d left c = ap (λ k. record (placed_control p other c) { kernel = k }) (changed_same other c.kernel d (λ x. record x { live = false }) left)

  pub request_same : (t : ℕ) (c : Call) → DoSame {S = S} {H = H} p other (takes_request t c) (takes_request t c)
  unfolding sets
  request_same t c s = refl

  -- descriptors
  module _ (s : Bare S H) (shows : ShowsSame other s.control.kernel) where
    tries_same : (e : Option ℤ) (b c : Bool) (x y : Bool) (a : Awaits) → c ≡ b → y ≡ x → AllLeft other (asked_by_wait a) → Same (tries s e b x a).begin (tries (placed p other s) e c y a).begin s
    tries_same e b c x y a same_refusal same_mode left = record {
      verdict = λ i. refused EINVAL when is_no_ring s e otherwise refused EINVAL when same_refusal i otherwise begins_waiting s (same_mode i) e (trial_same other s.control.kernel shows a left i);
      effect = ap (λ k. record { state = record (placed p other s) { control = record (placed p other s).control { kernel = k } }; marks = [] }) (after_same other s.control.kernel shows a left);
    }

    -- on one descriptor, and on sets
    on_one : (e : Option ℤ) (d : ℤ) (a : Awaits) → other.left (fd_named d) ≡ true → AllLeft other (asked_by_wait a) → Same (tries s e false (at_once s d) a).begin (tries (placed p other s) e false (at_once (placed p other s) d) a).begin s
    on_one e d a one left = tries_same e false false (at_once s d) (at_once (placed p other s) d) a refl (blocking_at other s.control.kernel (fd_named d) one) left

    on_sets : (e : Option ℤ) (r w x : FdSet) (l : ℤ) → AllLeft other (in_sets r w x) → let a = awaits.Selection r w x (select_deadline s l) in Same (tries s e (is_refused_length s r w x l) false a).begin (tries (placed p other s) e (is_refused_length (placed p other s) r w x l) false a).begin s
    on_sets e r w x l left = tries_same e (is_refused_length s r w x l) (is_refused_length (placed p other s) r w x l) false false (awaits.Selection r w x (select_deadline s l)) (ap (λ b. int_lt l (negsuc 0) && b) (live_same other s.control.kernel r w x (sets_left other s.control.kernel r w x left))) refl left

    tries_again_same : (e : Option ℤ) (b c : Bool) (x y : Bool) (first a : Awaits) → AllLeft other (asked_by_wait a) → Same ((tries s e b x first).again a) ((tries (placed p other s) e c y first).again a) s
    tries_again_same e b c x y first a left = record {
      verdict = trial_same other s.control.kernel shows a left;
      effect = ap (λ k. record { state = record (placed p other s) { control = record (placed p other s).control { kernel = k } }; marks = [] }) (after_same other s.control.kernel shows a left);
    }

  module _ (f : P → Functions S H) (step : S → H → Answer → Stepped S H) where
    abbrev bare : Unit {0} → Functions S H
    bare = stepping_so f p step

    other_same : (t : ℕ) → DoSame p other (canceled_by_other bare t) (canceled_by_other f t)
    other_same t = then_same p other (tells (mark.Canceled (tid t) None)) (ending bare t canceled_value) (tells (mark.Canceled (tid t) None)) (ending f t canceled_value) (λ u. refl) (ending_same p other f step t canceled_value)

    asks_same : (t : ℕ) (b : Bool) → DoSame p other (if b then canceled_by_other bare t else changes (sets t (change.Request true))) (if b then canceled_by_other f t else changes (sets t (change.Request true)))
    asks_same t true s = other_same t s
    asks_same t false s = changes_same p other (sets t (change.Request true)) (sets t (change.Request true)) (sets_same t (change.Request true)) s

    aborts_same : (t : ℕ) (dead : Bool) → DoSame p other (aborts bare t dead) (aborts f t dead)
    unfolding sets
    aborts_same t true s = changes_same p other (removes t) (removes t) (removes_same t) s
    aborts_same t false s =
        let g = changes (sets t (change.Joinable false) and sets t (change.Cancel 3)) in
        let h = changes (sets t (change.Joinable false) and sets t (change.Cancel 3)) in
        then_same p other g (canceled_by_other bare t) h (canceled_by_other f t) (λ u. refl) (other_same t) s

    pushed_same : (t : ℕ) (o : Option PushedHandler) → DoSame p other (runs_pushed bare t o) (runs_pushed f t o)
    pushed_same t None s = refl
    pushed_same t (Some c) s = handler_same p other f step t c.0 c.1 s

    once_same : (t o : ℕ) (h : HandlerId) (v : ℤ) → DoSame p other (changes (uses o) and_then runs_handler bare t h v) (changes (uses o) and_then runs_handler f t h v)
    once_same t o h v = then_same p other (changes (uses o)) (runs_handler bare t h v) (changes (uses o)) (runs_handler f t h v) (λ u. refl) (handler_same p other f step t h v)

    pub begins_same : (t : ℕ) (s : Bare S H) → ShowsSame other s.control.kernel → (c : Call) → AllLeft other (asked_by_call c) → Same (row_of bare s t c).begin (row_of f (placed p other s) t c).begin s
    unfolding row_of vanish_all_but makes enters suspends leaves_queue sets joinable_dead is_alone
    begins_same t s shows (call.Ctrl x) left = ctrl_same s x
    begins_same t s shows (call.AttrSet a v) left = record { verdict = refl; effect = changes_same p other (sets_value a v (object s.control a)) (sets_value a v (object s.control a)) (value_same a v (object s.control a)) s }
    begins_same t s shows (call.Once o h v) left = record { verdict = refl; effect = where_same p other (not (s.control.used (number o))) (changes (uses (number o)) and_then runs_handler bare t (handler h) v) (changes (uses (number o)) and_then runs_handler f t (handler h) v) (once_same t (number o) (handler h) v) s }
    begins_same t s shows (call.Resume n) left = record { verdict = refl; effect = changes_same p other (resumes (number n)) (resumes (number n)) (resumes_same (number n)) s }
    begins_same t s shows (call.Yield n) left = record { verdict = refl; effect = changes_same p other (if is_zero n then nothing else prefers (Some (number n))) (if is_zero n then nothing else prefers (Some (number n))) (if_same (is_zero n) (prefers (Some (number n))) (prefers (Some (number n))) (λ k. refl)) s }
    begins_same t s shows (call.Cancel n) left = record { verdict = refl; effect = asks_same (number n) (is_asynchronous (or_nobody (thread s.control n)).cancel) s }
    begins_same t s shows (call.Abort n) left = record { verdict = refl; effect = aborts_same (number n) (is_dead (or_nobody (thread s.control n)).state) s }
    begins_same t s shows (call.Join n) left = record { verdict = refl; effect = join_same s t n (to_join s.control n) }
    begins_same t s shows call.CancelPoint left = record { verdict = refl; effect = where_same p other (is_to_cancel (or_nobody (entry_of s.control t))) (takes_request t call.CancelPoint) (takes_request t call.CancelPoint) (request_same t call.CancelPoint) s }
    begins_same t s shows (call.CancelState n) left = record { verdict = refl; effect = changes_same p other (if is_zero n then nothing else sets t (change.Cancel (number n))) (if is_zero n then nothing else sets t (change.Cancel (number n))) (if_same (is_zero n) (sets t (change.Cancel (number n))) (sets t (change.Cancel (number n))) (sets_same t (change.Cancel (number n)))) s }
    begins_same t s shows (call.EvFd goals fd) left = make_same s (line.Fd goals fd)
    begins_same t s shows (call.EvSelect r w x) left = make_same s (line.Select r w x)
    begins_same t s shows (call.EvTime m) left = make_same s (line.Time m)
    begins_same t s shows (call.EvMsg q) left = make_same s (line.Msg q)
    begins_same t s shows (call.EvCond c) left = make_same s (line.Cond c)
    begins_same t s shows (call.EvTid at n) left = make_same s (line.Tid at n)
    begins_same t s shows (call.EvFunc c v l) left = make_same s (line.Func c v l)
    begins_same t s shows (call.Chain e l) left = chain_same s e l
    begins_same t s shows (call.CleanupPop v) left = record { verdict = refl; effect = where_same p other (not (is_zero v)) (runs_pushed bare t (last_pushed bare s t)) (runs_pushed f t (last_pushed bare s t)) (pushed_same t (last_pushed bare s t)) s }
    begins_same t s shows (call.Read d n) left = on_one s shows None d (awaits.Reading d n) left.0 left
    begins_same t s shows (call.ReadEv d n e) left = on_one s shows (extra_ring e) d (awaits.Reading d n) left.0 left
    begins_same t s shows (call.Write d bytes) left = on_one s shows None d (awaits.Writing d (length bytes) 0) left.0 left
    begins_same t s shows (call.WriteEv d bytes e) left = on_one s shows (extra_ring e) d (awaits.Writing d (length bytes) 0) left.0 left
    begins_same t s shows (call.Accept d) left = on_one s shows None d (awaits.Connection d) left.0 left
    begins_same t s shows (call.AcceptEv d e) left = on_one s shows (extra_ring e) d (awaits.Connection d) left.0 left
    begins_same t s shows (call.Connect d) left = on_one s shows None d (awaits.ConnectAnswer d) left.0 left
    begins_same t s shows (call.ConnectEv d e) left = on_one s shows (extra_ring e) d (awaits.ConnectAnswer d) left.0 left
    begins_same t s shows (call.Select r w x l) left = on_sets s shows None r w x l left
    begins_same t s shows (call.SelectEv r w x l e) left = on_sets s shows (extra_ring e) r w x l left
    begins_same t s shows (call.Fdmode d m) left = record { verdict = ap (by_result says) (mode_at other s.control.kernel (fd_named d) m left.0); effect = changes_same p other (with_kernel (sets_mode (fd_named d) m)) (with_kernel (sets_mode (fd_named d) m)) (mode_same (fd_named d) m left.0) s }
    begins_same t s shows (call.Close d) left = record { verdict = ap (λ b. refused EBADF when not b otherwise says 1) (live_at other s.control.kernel (fd_named d) left.0); effect = changes_same p other (with_kernel (fd_closed (fd_named d))) (with_kernel (fd_closed (fd_named d))) (closed_same (fd_named d) left.0) s }
    begins_same t s shows c left = record { verdict = refl; effect = refl }

    pub tried_same : (t : ℕ) (s : Bare S H) → ShowsSame other s.control.kernel → (c : Call) (a : Awaits) → AllLeft other (asked_by_wait a) → Same ((row_of bare s t c).again a) ((row_of f (placed p other s) t c).again a) s
    unfolding row_of joinable_dead is_alone
    tried_same t s shows (call.Ctrl x) a left = ctrl_again_same s x a
    tried_same t s shows (call.Join n) a left = record { verdict = refl; effect = join_same s t n (to_join s.control n) }
    tried_same t s shows (call.BarrierReach b) a left = round_same t s b (round_in a) (has_passed s.control.barriers b (round_in a))
    tried_same t s shows (call.EvFd goals fd) a left = make_again_same s (line.Fd goals fd) a
    tried_same t s shows (call.EvSelect r w x) a left = make_again_same s (line.Select r w x) a
    tried_same t s shows (call.EvTime m) a left = make_again_same s (line.Time m) a
    tried_same t s shows (call.EvMsg q) a left = make_again_same s (line.Msg q) a
    tried_same t s shows (call.EvCond c) a left = make_again_same s (line.Cond c) a
    tried_same t s shows (call.EvTid at n) a left = make_again_same s (line.Tid at n) a
    tried_same t s shows (call.EvFunc c v l) a left = make_again_same s (line.Func c v l) a
    tried_same t s shows (call.Chain e l) a left = chain_again_same s e l a
    tried_same t s shows (call.Read d n) a left = tries_again_same s shows None false false (at_once s d) (at_once (placed p other s) d) (awaits.Reading d n) a left
    tried_same t s shows (call.ReadEv d n e) a left = tries_again_same s shows (extra_ring e) false false (at_once s d) (at_once (placed p other s) d) (awaits.Reading d n) a left
    tried_same t s shows (call.Write d bytes) a left = tries_again_same s shows None false false (at_once s d) (at_once (placed p other s) d) (awaits.Writing d (length bytes) 0) a left
    tried_same t s shows (call.WriteEv d bytes e) a left = tries_again_same s shows (extra_ring e) false false (at_once s d) (at_once (placed p other s) d) (awaits.Writing d (length bytes) 0) a left
    tried_same t s shows (call.Accept d) a left = tries_again_same s shows None false false (at_once s d) (at_once (placed p other s) d) (awaits.Connection d) a left
    tried_same t s shows (call.AcceptEv d e) a left = tries_again_same s shows (extra_ring e) false false (at_once s d) (at_once (placed p other s) d) (awaits.Connection d) a left
    tried_same t s shows (call.Connect d) a left = tries_again_same s shows None false false (at_once s d) (at_once (placed p other s) d) (awaits.ConnectAnswer d) a left
    tried_same t s shows (call.ConnectEv d e) a left = tries_again_same s shows (extra_ring e) false false (at_once s d) (at_once (placed p other s) d) (awaits.ConnectAnswer d) a left
    tried_same t s shows (call.Select r w x l) a left = tries_again_same s shows None (is_refused_length s r w x l) (is_refused_length (placed p other s) r w x l) false false (awaits.Selection r w x (select_deadline s l)) a left
    tried_same t s shows (call.SelectEv r w x l e) a left = tries_again_same s shows (extra_ring e) (is_refused_length s r w x l) (is_refused_length (placed p other s) r w x l) false false (awaits.Selection r w x (select_deadline s l)) a left
    tried_same t s shows c a left = record { verdict = refl; effect = refl }
