-- Calls on descriptors: their rows, and what attempts at them come to.
use Rattle.std.proofs.Common.{◌≡◌, ◌∙◌, ◌≤◌, ◌<◌, ◌^◌, ◌+◌, ◌-◌, ◌&&◌, min, not, ℕ, nat_lt, ℤ, pos, Bool, true, false, Option, Some, None, IsSome, Result, Ok, Err, IfOk, [], if◌then◌else◌, refl, sym, ap, subst, arith}
use Rattle.std.proofs.lemmas.Bool.Decides.{nat_tests}
use Rattle.pth_base.specs.Program.{Functions}
use Rattle.pth_base.specs.declared.answer.Answer.{Answer}
use Rattle.pth_base.specs.declared.answer.Answer.TheVariants.{Int, Fail}
use Rattle.pth_base.specs.declared.call.Call.{Call}
use Rattle.pth_base.specs.declared.call.Call.TheVariants as call
use Rattle.pth_base.specs.declared.errno.Errno.{Errno}
use Rattle.pth_base.specs.declared.errno.Errno.TheVariants.{EINVAL, EAGAIN, EBUSY}
use Rattle.pth_base.specs.declared.mark.Mark.TheVariants.{Answered}
use Rattle.pth_base.specs.declared.memory.OutOfMemory.{OutOfMemory}
use Rattle.pth_io.specs.Attempts.{accept_answer, connect_answer, read_answer, select_answer, write_answer, written}
use Rattle.pth_kernel.specs.Entries.{is_failure}
use Rattle.pth_kernel.specs.Kernel.{Kernel, KernelOf, came, fd_named, is_fd_live, kernel_of, room}
use Rattle.pth_model.specs.Awaits.{written_in, is_await}
use Rattle.pth_model.specs.Changes.{with_kernel}
use Rattle.pth_model.specs.Io.{Trial, answered_or_waits, begins_waiting, tries, trial_for}
use Rattle.pth_model.specs.Resources.{answer_told, told}
use Rattle.pth_model.specs.RingWaits.{claims, is_claimed_ring, is_no_ring, ring_given}
use Rattle.pth_model.specs.Row.{Attempt, Row, effect_of, refuses, unless_refused, ◌trying◌}
use Rattle.pth_model.specs.Rows.{row_of}
use Rattle.pth_model.specs.State.{State}
use Rattle.pth_model.specs.Transition.{Transition, changes, controlled, silent, tid}
use Rattle.pth_model.specs.Verdict.{refused, says}
use Rattle.pth_numbered.specs.Clauses.{count_or, ◌when◌otherwise◌}
use Rattle.pth_model.specs.declared.awaits.Awaits.{Awaits}
use Rattle.pth_model.specs.declared.awaits.Awaits.TheVariants.{Nothing, Reading, Writing, Connection, ConnectAnswer, Selection}
use Rattle.pth_model.specs.declared.verdict.Verdict.{Verdict}
use Rattle.pth_model.specs.declared.verdict.Verdict.TheVariants.{Says, Yields, Blocks, Ends, Kills}
use Rattle.pth_world.proofs.Awaiting.{may_await}
use Rattle.pth_world.proofs.Kernels.{turned_shows}
use Rattle.pth_world.proofs.StateOf.{stands_for_state}
use Rattle.pth_world.specs.Leading.{Attempts, Changed, IsIdle, IsReady, MayComeTo, StandsOnce, Tries}
use Rattle.pth_world.specs.Shows.{StandsFor}
use Rattle.pth_world.specs.StateOf.{state_of}
use Rattle.pth_world.specs.WellFormed.{MayAwait, MayAwaitAs, WellFormed}
use Rattle.pth_world.specs.World.{WorldOf}
use Rattle.pth_waits.proofs.Attempting.{IsQuietCall, blocked_still, changed_attempts, changed_tries, refused_ready}
use Rattle.pth_waits.proofs.Attempted.{io_unawaited}
use Rattle.pth_waits.proofs.Blocking.{quiet_once, waits_once}
use Rattle.pth_waits.proofs.Unchanged.{IsVain, vain_same}
use Rattle.pth_waits.specs.Io.{first_awaited, is_at_once, is_refused_length}
use Rattle.pth_waits.specs.Verdicts.{IsCounted}

-- ---- rows

some_is : (o : Option Awaits) (a : Awaits) → o ≡ Some a → IsSome o
some_is o a is = subst (λ (x : Option Awaits). IsSome x) (sym is) refl

module _ {P S H : Type 0} (f : P → Functions S H) (s : State P S H) (t : ℕ) where
  abbrev awaits_or_nothing : Option Awaits → Awaits
  awaits_or_nothing (Some a) = a
  awaits_or_nothing None = Nothing

  abbrev row_by : Call → Option Awaits → Row P S H
  row_by c o = tries s (ring_given c) (is_refused_length s c) (is_at_once s.control.kernel c) (awaits_or_nothing o)

  io_row : (c : Call) → IsSome (first_awaited s c) → row_of f s t c ≡ row_by c (first_awaited s c)
  unfolding row_of
  io_row (call.Read g n) some = refl
  io_row (call.ReadEv g n e) some = refl
  io_row (call.Write g bytes) some = refl
  io_row (call.WriteEv g bytes e) some = refl
  io_row (call.Accept g) some = refl
  io_row (call.AcceptEv g e) some = refl
  io_row (call.Connect g) some = refl
  io_row (call.ConnectEv g e) some = refl
  io_row (call.Select r w x l) some = refl
  io_row (call.SelectEv r w x l e) some = refl
  io_row c some = absurd (cc some)

  -- the row of a call that waits for this first
  pub first_row : (c : Call) (a : Awaits) → first_awaited s c ≡ Some a → row_of f s t c ≡ tries s (ring_given c) (is_refused_length s c) (is_at_once s.control.kernel c) a
  first_row c a is = io_row c (some_is (first_awaited s c) a is) ∙ ap (row_by c) is

module _ {P S H : Type 0} (s : State P S H) (t : ℕ) where
  -- no answer to the call tells anything of what threads have
  pub io_quiet : (c : Call) → IsSome (first_awaited s c) → IsQuietCall t c
  unfolding told answer_told
  io_quiet (call.Read g n) some = λ a x. refl
  io_quiet (call.ReadEv g n e) some = λ a x. refl
  io_quiet (call.Write g bytes) some = λ a x. refl
  io_quiet (call.WriteEv g bytes e) some = λ a x. refl
  io_quiet (call.Accept g) some = λ a x. refl
  io_quiet (call.AcceptEv g e) some = λ a x. refl
  io_quiet (call.Connect g) some = λ a x. refl
  io_quiet (call.ConnectEv g e) some = λ a x. refl
  io_quiet (call.Select r w x l) some = λ a y. refl
  io_quiet (call.SelectEv r w x l e) some = λ a y. refl
  io_quiet c some = absurd (cc some)

  -- it may write on
  writes_on : (c : Call) → IsSome (first_awaited s c) → (g : ℤ) (total i j : ℕ) → j ≤ total → MayAwaitAs t c (Writing g total i) → MayAwaitAs t c (Writing g total j)
  writes_on (call.Write h bytes) some g total i j le may = (may.0, may.1, le, may.3)
  writes_on (call.WriteEv h bytes e) some g total i j le may = (may.0, may.1, le, may.3)
  writes_on (call.Select r w x l) some g total i j le may = absurd may
  writes_on (call.SelectEv r w x l e) some g total i j le may = absurd may
  writes_on c some g total i j le may = absurd (cc)

-- ---- what an attempt comes to

within : (takes : Bool) (free total done : ℕ) → done ≤ total → done + (if takes then min free (total - done) else 0) ≤ total
within true free total done le = omega arith
within false free total done le = omega arith

written_within : (k : Kernel) (f total done : ℕ) → done ≤ total → written k f total done ≤ total
unfolding written
written_within k f total done le = within (is_fd_live k f && not (came k is_failure f)) (room k f) total done le

may_wait : (t : ℕ) (c : Call) (o : Option Answer) (a : Awaits) → MayAwaitAs t c a → MayComeTo t c (answered_or_waits o a)
may_wait t c (Some x) a may = tt
may_wait t c None a may = may

-- an attempt at what the call may wait for waits for what it may wait for
trial_may : {P S H : Type 0} (s : State P S H) (k : Kernel) (t : ℕ) (c : Call) (a : Awaits) → IsSome (first_awaited s c) → MayAwaitAs t c a → MayComeTo t c (trial_for k a).verdict
trial_may s k t c (Reading f n) some may = may_wait t c (read_answer k (fd_named f) n) (Reading f n) may
trial_may s k t c (Writing f total done) some may =
    let now = written k (fd_named f) total done in
    let le = (may_await t (Some (record { call = c; awaits = Writing f total done })) may).0 in
    may_wait t c (write_answer k (fd_named f) total done) (Writing f total now) (writes_on s t c some f total done now (written_within k (fd_named f) total done le) may)
trial_may s k t c (Connection f) some may = may_wait t c (accept_answer k (fd_named f)) (Connection f) may
trial_may s k t c (ConnectAnswer f) some may = may_wait t c (connect_answer k (fd_named f)) (ConnectAnswer f) may
trial_may s k t c (Selection r w x deadline) some may = may_wait t c (select_answer k r.0 w.0 x.0 deadline) (Selection r w x deadline) may
trial_may s k t c a some may = may

counted : (a : Awaits) → MayAwait a → written_in a < 2 ^ 63
counted (Writing f total done) may = let le = may.0 in let few = may.1 in omega arith
counted a may = omega arith

-- what a call may come to has a number of bytes that can be counted
pub may_counted : (t : ℕ) (c : Call) (v : Verdict) → MayComeTo t c v → IsCounted v
may_counted t c (Blocks a) may = counted a (may_await t (Some (record { call = c; awaits = a })) may)
may_counted t c v may = tt

-- ---- when it can be carried out

-- it does not block its thread
abbrev pub DoesNotBlock : Verdict → Type 0
DoesNotBlock v = (a : Awaits) → v ≡ Blocks a → ⊥

module _ {P S H : Type 0} where
  -- an answer to a call on descriptors
  pub io_told : (before : State P S H) (v : WorldOf P S H) (t : ℕ) (c : Call) (a : Answer) (s : State P S H) → IsSome (first_awaited before c) → StandsFor v s → StandsOnce v (Answered (tid t) c a) s
  io_told before v t c a s some st = quiet_once v s (Answered (tid t) c a) (io_quiet before t c some a) st

  -- any verdict on it: if it blocks, the ring that is to be waited for is claimed
  io_ready : (before : State P S H) (v : WorldOf P S H) (t : ℕ) (c : Call) (ring : Option ℤ) (x : Verdict) (s : State P S H) → IsSome (first_awaited before c) → ((a : Awaits) → x ≡ Blocks a → StandsFor v (controlled (claims t ring) s)) → StandsFor v s → IsReady v t c ring x s
  io_ready before v t c ring (Says a) s some waits st = io_told before v t c a s some st
  io_ready before v t c ring (Yields a) s some waits st = io_told before v t c a s some st
  io_ready before v t c ring (Blocks a) s some waits st = waits_once v (controlled (claims t ring) s) t c (io_unawaited before c some) (waits a refl)
  io_ready before v t c ring (Ends n) s some waits st = st
  io_ready before v t c ring Kills s some waits st = io_told before v t c (Int (pos 1)) s some st

  pub answered_ready : (before : State P S H) (v : WorldOf P S H) (t : ℕ) (c : Call) (ring : Option ℤ) (x : Verdict) (s : State P S H) → IsSome (first_awaited before c) → DoesNotBlock x → StandsFor v s → IsReady v t c ring x s
  answered_ready before v t c ring x s some answered st = io_ready before v t c ring x s some (λ a is. absurd (answered a is)) st

  again_ready : (v : WorldOf P S H) (t : ℕ) (c : Call) (x : Verdict) (s : State P S H) → IsSome (first_awaited s c) → StandsFor v s → IsReady v t c None x s
  unfolding claims
  again_ready v t c x s some st = io_ready s v t c None x s some (λ a is. st) st

-- ---- what it does

-- a count refuses if nothing was written
counted_by : (b : Bool) (n : ℕ) (e : Errno) → nat_lt 0 n ≡ b → refuses (Says (Int (pos n) when b otherwise Fail e)) ≡ true → n ≡ 0
counted_by true n e part is = absurd (cc is)
counted_by false n e part is = grind (arith, nat_tests)

none_counted : (n : ℕ) (e : Errno) → refuses (Says (count_or n e)) ≡ true → n ≡ 0
none_counted n e is = counted_by (nat_lt 0 n) n e refl is

refused_vain : (v : Verdict) → refuses v ≡ true → IsVain v
refused_vain (Says (Fail e)) is = tt
refused_vain v is = absurd (cc is)

idle_vain : (v : Verdict) → IsIdle v → IsVain v
idle_vain (Blocks a) idle = idle
idle_vain v idle = absurd idle

turned_away : (at_once claimed : Bool) (a : Awaits) → refuses (Says (count_or (written_in a) EAGAIN) when at_once otherwise Says (count_or (written_in a) EBUSY) when claimed otherwise Blocks a) ≡ true → written_in a ≡ 0
turned_away true claimed a is = none_counted (written_in a) EAGAIN is
turned_away false true a is = none_counted (written_in a) EBUSY is
turned_away false false a is = absurd (cc is)

module _ {P S H : Type 0} (s : State P S H) where
  begins_vain : (at_once : Bool) (e : Option ℤ) (v : Verdict) → refuses (begins_waiting s at_once e v) ≡ true → IsVain v
  begins_vain at_once e (Says (Fail x)) is = tt
  begins_vain at_once e (Blocks a) is = turned_away at_once (is_claimed_ring s e) a is
  begins_vain at_once e v is = absurd (cc is)

  pub begins_answered : (at_once : Bool) (e : Option ℤ) (v : Verdict) → DoesNotBlock v → begins_waiting s at_once e v ≡ v
  begins_answered at_once e (Blocks a) answered = absurd (answered a refl)
  begins_answered at_once e v answered = refl

  abbrev has_kernel : Kernel → Transition P S H
  has_kernel k = record { state = record s { control = record s.control { kernel = k } }; marks = [] }

  turns_by : (b : Bool) (h : Kernel → Kernel) → (b ≡ true → h s.control.kernel ≡ s.control.kernel) → unless_refused b (changes (with_kernel h)) s ≡ changes (with_kernel h) s
  turns_by true h same = ap has_kernel (sym (same refl))
  turns_by false h same = refl

  module _ (a : Awaits) where
    abbrev trial : Trial
    trial = trial_for s.control.kernel a

    abbrev turned : Transition P S H
    turned = changes (with_kernel trial.after) s

    -- an attempt changes the kernel, also if it is refused and leaves the kernel as it was
    does : (v : Verdict) → (refuses v ≡ true → IsVain trial.verdict) → effect_of (v trying changes (with_kernel trial.after)) s ≡ turned
    does v vain = turns_by (refuses v) trial.after (λ r. vain_same s.control.kernel a (vain r))

    does_nothing : IsIdle trial.verdict → turned ≡ silent s
    does_nothing idle = ap has_kernel (vain_same s.control.kernel a (idle_vain trial.verdict idle))

-- ---- calls that are refused as they begin

pub refused_attempts : {P S H : Type 0} (w : WorldOf P S H) (t : ℕ) (c : Call) (ring : Option ℤ) (attempt : State P S H → Attempt P S H) (e : Errno) → ((s : State P S H) → StandsFor w s → (attempt s).verdict ≡ refused e) → is_await c ≡ false → Attempts false w w t c ring attempt (refused e)
refused_attempts w t c ring attempt e is other =
    changed_attempts false w w t c ring attempt (refused e) is
    (λ s st. subst (Changed w) (ap (λ (v : Verdict). unless_refused (refuses v) (attempt s).effect s) (sym (is s st))) (record { shows = st.control; store = st.store; silent = refl }))
    (λ u su. refused_ready w t c ring e u other su) tt

module _ {P S H : Type 0} (f : P → Functions S H) (s : State P S H) (t : ℕ) (c : Call) (a : Awaits) (first : first_awaited s c ≡ Some a) where
  abbrev waits_or_not : Verdict → Verdict
  waits_or_not v = begins_waiting s (is_at_once s.control.kernel c) (ring_given c) v

  abbrev begins_as : (no_ring long : Bool) → Attempt P S H
  begins_as no_ring long =
      refused EINVAL when no_ring otherwise
      refused EINVAL when long otherwise
      waits_or_not (trial s a).verdict
      trying changes (with_kernel (trial s a).after)

  begin_is : (row_of f s t c).begin ≡ begins_as (is_no_ring s (ring_given c)) (is_refused_length s c)
  begin_is = ap (λ (r : Row P S H). r.begin) (first_row f s t c a first)

  refused_both : (no_ring : Bool) → (begins_as no_ring true).verdict ≡ refused EINVAL
  refused_both true = refl
  refused_both false = refl

  -- for its ring, or for its length
  pub begin_no_ring : is_no_ring s (ring_given c) ≡ true → (row_of f s t c).begin.verdict ≡ refused EINVAL
  begin_no_ring none = ap (λ (x : Attempt P S H). x.verdict) begin_is ∙ ap (λ (b : Bool). (begins_as b (is_refused_length s c)).verdict) none

  pub begin_long : is_refused_length s c ≡ true → (row_of f s t c).begin.verdict ≡ refused EINVAL
  begin_long long = ap (λ (x : Attempt P S H). x.verdict) begin_is ∙ ap (λ (b : Bool). (begins_as (is_no_ring s (ring_given c)) b).verdict) long ∙ refused_both (is_no_ring s (ring_given c))

  -- it is not refused
  begin_tries : is_no_ring s (ring_given c) ≡ false → is_refused_length s c ≡ false → (row_of f s t c).begin ≡ begins_as false false
  begin_tries ring length = begin_is ∙ ap (λ (b : Bool). begins_as b (is_refused_length s c)) ring ∙ ap (begins_as false) length

-- ---- attempts of the code

-- an attempt was made in world w, and the kernel is y then
module _ {P S H : Type 0} (f : P → Functions S H) (w : WorldOf P S H) (whole : WellFormed w) (y : KernelOf) (t : ℕ) (c : Call) (a : Awaits) (may : MayAwaitAs t c a) (x : Verdict)
    (is : x ≡ (trial_for (kernel_of w.kernel) a).verdict) (after : kernel_of y ≡ (trial_for (kernel_of w.kernel) a).after (kernel_of w.kernel)) where
  abbrev world_then : WorldOf P S H
  world_then = record w { kernel = y }

  module _ (s : State P S H) (st : StandsFor w s) where
    verdict_now : (trial s a).verdict ≡ x
    verdict_now = ap (λ (k : Kernel). (trial_for k a).verdict) st.control.kernel ∙ sym is

    stands_then : StandsFor world_then (turned s a).state
    stands_then = record {
      control = turned_shows w y (trial s a).after s.control st.control (subst (λ (k : Kernel). kernel_of y ≡ (trial_for k a).after (kernel_of w.kernel)) (sym st.control.kernel) after);
      store = st.store;
    }

  pub comes_to : ((s : State P S H) → StandsFor w s → IsSome (first_awaited s c)) → MayComeTo t c x
  comes_to some =
      let o = state_of w in
      subst (MayComeTo t c) (sym is) (trial_may o (kernel_of w.kernel) t c a (some o (stands_for_state w whole.sound)) may)

  -- tried again
  module _ (some : (s : State P S H) → IsSome (first_awaited s c)) where
    abbrev again : State P S H → Attempt P S H
    again s = (row_of f s t c).again a

    again_is : (s : State P S H) → again s ≡ ((trial s a).verdict trying changes (with_kernel (trial s a).after))
    again_is s = ap (λ (r : Row P S H). r.again a) (io_row f s t c (some s))

    again_does : (s : State P S H) → effect_of (again s) s ≡ turned s a
    again_does s = ap (λ (b : Attempt P S H). effect_of b s) (again_is s) ∙ does s a (trial s a).verdict (refused_vain (trial s a).verdict)

    pub io_tries : Tries w world_then t (record { call = c; awaits = a }) again x
    io_tries =
        changed_tries w world_then t (record { call = c; awaits = a }) again x
        (λ s st. ap (λ (b : Attempt P S H). b.verdict) (again_is s) ∙ verdict_now s st)
        (λ s st. subst (Changed world_then) (sym (again_does s)) (record { shows = (stands_then s st).control; store = (stands_then s st).store; silent = refl }))
        (λ u su. again_ready world_then t c x u (some u) su)
        (comes_to (λ s st. some s))
        (λ idle s st. again_does s ∙ does_nothing s a (subst IsIdle (sym (verdict_now s st)) idle))
        (blocked_still w world_then t refl)

  -- begun
  module _ (first : (s : State P S H) → StandsFor w s → first_awaited s c ≡ Some a)
      (ring : (s : State P S H) → StandsFor w s → is_no_ring s (ring_given c) ≡ false)
      (length : (s : State P S H) → StandsFor w s → is_refused_length s c ≡ false) where
    abbrev begins : State P S H → Attempt P S H
    begins s = (row_of f s t c).begin

    some : (s : State P S H) → StandsFor w s → IsSome (first_awaited s c)
    some s st = some_is (first_awaited s c) a (first s st)

    begin_does : (s : State P S H) → StandsFor w s → effect_of (begins s) s ≡ turned s a
    begin_does s st =
        ap (λ (b : Attempt P S H). effect_of b s) (begin_tries f s t c a (first s st) (ring s st) (length s st))
        ∙ does s a (begins_waiting s (is_at_once s.control.kernel c) (ring_given c) (trial s a).verdict) (begins_vain s (is_at_once s.control.kernel c) (ring_given c) (trial s a).verdict)

    -- the number of bytes that it wrote can be counted
    pub io_counted : IsCounted x
    io_counted = may_counted t c x (comes_to some)

    -- the code found what it comes to: at_once tells whether the descriptor doesn't block, and e is the ring that was given
    pub io_begins : (v : WorldOf P S H) (r : Result Verdict OutOfMemory) (at_once : Bool) (e : Option ℤ) → at_once ≡ is_at_once (kernel_of w.kernel) c → e ≡ ring_given c
        → IfOk r (λ z. (s : State P S H) → StandsFor world_then s → is_no_ring s e ≡ false → begins_waiting s at_once e x ≡ z)
        → IfOk r (λ z. (d : Call) (before s : State P S H) → IsSome (first_awaited before d) → StandsFor world_then s → IsReady v t d e z s)
        → IfOk r (λ z. (d : Call) → MayComeTo t d x → MayComeTo t d z) → IfOk r (λ z. Attempts false w v t c (ring_given c) begins z)
    io_begins v (Err o) at_once e once given waits ready may_then = tt
    io_begins v (Ok z) at_once e once given waits ready may_then = record {
      verdict = λ s st.
          ap (λ (b : Attempt P S H). b.verdict) (begin_tries f s t c a (first s st) (ring s st) (length s st))
          ∙ rw (verdict_now s st, ← given, st.control.kernel, ← once) (waits (turned s a).state (stands_then s st) (rw given (ring s st)));
      silent = λ s st. ap (λ (m : Transition P S H). m.marks) (begin_does s st);
      ready = λ s st. subst (λ (m : Transition P S H). IsReady v t c (ring_given c) z m.state) (sym (begin_does s st.0)) (rw (← given) (ready c s (turned s a).state (some s st.0) (stands_then s st.0)));
      may = may_then c (comes_to some);
    }
