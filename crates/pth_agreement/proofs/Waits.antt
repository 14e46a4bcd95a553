-- A call that names no descriptor d waits for nothing that asks of d, as it begins and as it is tried again.
use Rattle.std.proofs.Common.{◌≡◌, ℕ, ℤ, nat_lt, Bool, true, false, if◌then◌else◌, ◌==◌, List, Option, Some, None, Result, Ok, Err, refl}
use Rattle.pth_base.specs.Program.{Functions}
use Rattle.pth_base.specs.declared.answer.Answer.{Answer}
use Rattle.pth_base.specs.declared.answer.Answer.TheVariants as answer
use Rattle.pth_base.specs.declared.call.Call.{Call}
use Rattle.pth_base.specs.declared.call.Call.TheVariants as call
use Rattle.pth_base.specs.declared.errno.Errno.{Errno}
use Rattle.pth_base.specs.declared.errno.Errno.TheVariants.{EBUSY}
use Rattle.pth_base.specs.declared.event.EventSpec.{EventSpec}
use Rattle.pth_base.specs.declared.query.Query.{Query}
use Rattle.pth_base.specs.declared.query.Query.TheVariants as query
use Rattle.pth_cond.specs.declared.barriers.Arrival.{Arrival}
use Rattle.pth_cond.specs.declared.barriers.Arrival.TheVariants as arrival
use Rattle.pth_cond.specs.Barriers.{arrival_answer, has_passed, round_answer, round_answered}
use Rattle.pth_numbered.specs.Operands.{is_zero}
use Rattle.pth_kernel.specs.Kernel.{Kernel}
use Rattle.pth_model.specs.declared.awaits.Awaits.{Awaits}
use Rattle.pth_model.specs.declared.awaits.Awaits.TheVariants as awaits
use Rattle.pth_model.specs.declared.verdict.Verdict.{Verdict}
use Rattle.pth_model.specs.declared.verdict.Verdict.TheVariants.{Says, Yields, Blocks, Ends, Kills}
use Rattle.pth_model.specs.Awaits.{death_of, round_in}
use Rattle.pth_model.specs.State.{State, Control}
use Rattle.pth_model.specs.Transition.{Change, changes, silent}
use Rattle.pth_model.specs.Verdict.{refused, says, said_or, by_result, taken_or, refused_as◌otherwise◌}
use Rattle.pth_numbered.specs.Clauses.{count_or, ◌when◌otherwise◌}
use Rattle.pth_model.specs.Barriers.{arrived_as}
use Rattle.pth_model.specs.Calls.{interrupted}
use Rattle.pth_model.specs.Changes.{with_barriers}
use Rattle.pth_model.specs.Row.{Attempt, ◌trying◌}
use Rattle.pth_model.specs.EventHandling.{made_as}
use Rattle.pth_model.specs.Io.{trial_for, begins_waiting, tries}
use Rattle.pth_model.specs.LibraryControl.{ctrl}
use Rattle.pth_model.specs.Rows.{row_of}
use Rattle.pth_model.specs.ThreadControl.{joined, join_attempt}
use Rattle.std.specs.List.{list_any}
use Rattle.pth_agreement.specs.Descriptors.{named_by_call}
use Rattle.pth_agreement.proofs.Asked.{asked_by_wait}

-- d is one of these
abbrev pub asks_of : ℕ → List ℕ → Bool
asks_of d fs = list_any (λ f. f == d) fs

-- what is waited for asks of d
abbrev pub wait_asks : ℕ → Awaits → Bool
wait_asks d a = asks_of d (asked_by_wait a)

-- a verdict by which a thread waits so
abbrev pub asks_by : ℕ → Verdict → Bool
asks_by d (Blocks a) = wait_asks d a
asks_by d v = false

module _ (d : ℕ) where
  -- ---- verdicts

  when_none : (v : Verdict) (b : Bool) (w : Verdict) → asks_by d v ≡ false → asks_by d w ≡ false → asks_by d (v when b otherwise w) ≡ false
  when_none v true w one two = one
  when_none v false w one two = two

  result_none : {A : Type 0} (v : A → Verdict) (r : Result A Errno) → ((x : A) → asks_by d (v x) ≡ false) → asks_by d (by_result v r) ≡ false
  result_none v (Ok x) none = none x
  result_none v (Err e) none = refl

  as_none : {A : Type 0} (r : Result A Errno) (v : Verdict) → asks_by d v ≡ false → asks_by d (refused_as r otherwise v) ≡ false
  as_none (Ok x) v none = none
  as_none (Err e) v none = refl

  taken_none : (r : Result (Unit {0}) Errno) (v : Verdict) → asks_by d v ≡ false → asks_by d (taken_or r v) ≡ false
  taken_none (Ok u) v none = refl
  taken_none (Err EBUSY) v none = none
  taken_none (Err e) v none = refl

  said_none : (o : Option Answer) (v : Verdict) → asks_by d v ≡ false → asks_by d (said_or o v) ≡ false
  said_none (Some a) v none = refl
  said_none None v none = none

  counts_none : (n : ℕ) (e : Errno) → asks_by d (Says (count_or n e)) ≡ false
  counts_none n e = refl

  pub interrupted_none : (v : Verdict) → asks_by d (interrupted v) ≡ false
  interrupted_none (Says a) = refl
  interrupted_none (Yields a) = refl
  interrupted_none (Blocks a) = search counts_none
  interrupted_none (Ends v) = refl
  interrupted_none Kills = refl

  death_none : (n : ℤ) → wait_asks d (death_of n) ≡ false
  death_none n = by_test (is_zero n)
    where
      by_test : (b : Bool) → wait_asks d (if b then awaits.AnyDeath else awaits.Death n) ≡ false
      by_test true = refl
      by_test false = refl

  trial_none : (k : Kernel) (a : Awaits) → wait_asks d a ≡ false → asks_by d (trial_for k a).verdict ≡ false
  trial_none k (awaits.Reading f n) none = search said_none
  trial_none k (awaits.Writing f total written) none = search said_none
  trial_none k (awaits.Connection f) none = search said_none
  trial_none k (awaits.ConnectAnswer f) none = search said_none
  trial_none k (awaits.Selection r w x deadline) none = search said_none
  trial_none k a none = none

  module _ {P S H : Type 0} where
    arrival_none : (s : State P S H) (b : ℤ) (o : Result Arrival Errno) → asks_by d (by_result (arrived_as b) o) ≡ false
    arrival_none s b (Ok (arrival.Incomplete round)) = refl
    arrival_none s b (Ok arrival.Tail) = refl
    arrival_none s b (Err e) = refl

    abbrev round_attempt : (s : State P S H) → ℕ → ℤ → ℕ → Bool → Attempt P S H
    round_attempt s t b round passed = if passed then (Says (answer.Int (round_answer s.control.barriers b round t)) trying changes (with_barriers (round_answered b round t))) else (Blocks (awaits.Round b round) trying silent)

    round_none : (s : State P S H) (t : ℕ) (b : ℤ) (round : ℕ) (passed : Bool) → asks_by d (round_attempt s t b round passed).verdict ≡ false
    round_none s t b round true = refl
    round_none s t b round false = refl

    joined_none : (k : Control P S H) (n : ℤ) (o : Option ℕ) → asks_by d (joined k n o) ≡ false
    joined_none k n None = death_none n
    joined_none k n (Some t) = refl

    join_none : (s : State P S H) (t : ℕ) (n : ℤ) → asks_by d (join_attempt s t n).verdict ≡ false
    join_none s t n = search (when_none, joined_none)

    made_none : (spec : Option EventSpec) (v : EventSpec → Verdict) (g : EventSpec → Change P S H) → ((x : EventSpec) → asks_by d (v x) ≡ false) → asks_by d (made_as spec v g).begin.verdict ≡ false
    made_none None v g none = refl
    made_none (Some x) v g none = none x

    made_again_none : (spec : Option EventSpec) (v : EventSpec → Verdict) (g : EventSpec → Change P S H) (a : Awaits) → asks_by d ((made_as spec v g).again a).verdict ≡ false
    made_again_none None v g a = refl
    made_again_none (Some x) v g a = refl

    waiting_none : (s : State P S H) (at_once : Bool) (e : Option ℤ) (v : Verdict) → asks_by d v ≡ false → asks_by d (begins_waiting s at_once e v) ≡ false
    waiting_none s at_once e (Says a) none = refl
    waiting_none s at_once e (Yields a) none = refl
    waiting_none s at_once e (Blocks a) none = search (when_none, counts_none, none)
    waiting_none s at_once e (Ends v) none = refl
    waiting_none s at_once e Kills none = refl

    tries_none : (s : State P S H) (e : Option ℤ) (refused_else at_once : Bool) (first : Awaits) → wait_asks d first ≡ false → asks_by d (tries s e refused_else at_once first).begin.verdict ≡ false
    tries_none s e refused_else at_once first none = search (when_none, waiting_none s at_once e, trial_none s.control.kernel first none)

    ctrl_none : (s : State P S H) (x : Query) → asks_by d (ctrl s x).begin.verdict ≡ false
    ctrl_none s (query.Favournew n) = search when_none
    ctrl_none s (query.Prio n) = search when_none
    ctrl_none s (query.Name n) = search when_none
    ctrl_none s x = refl

    ctrl_again_none : (s : State P S H) (x : Query) (a : Awaits) → asks_by d ((ctrl s x).again a).verdict ≡ false
    ctrl_again_none s query.Threads a = refl
    ctrl_again_none s x a = refl

  -- ---- rows

  module _ {P S H : Type 0} (f : P → Functions S H) (s : State P S H) (t : ℕ) where
    -- a call that begins
    pub begins_none : (c : Call) → asks_of d (named_by_call c) ≡ false → asks_by d (row_of f s t c).begin.verdict ≡ false
    unfolding row_of
    begins_none call.Kill none = search when_none
    begins_none (call.Ctrl x) none = ctrl_none s x
    begins_none call.AttrNew none = search result_none
    begins_none (call.AttrOf n) none = search result_none
    begins_none (call.AttrInit a) none = search result_none
    begins_none (call.AttrSet a v) none = search result_none
    begins_none (call.AttrGet a x) none = search result_none
    begins_none (call.AttrDestroy a) none = search result_none
    begins_none (call.Spawn b v a) none = search (when_none, as_none)
    begins_none (call.Once o h v) none = search when_none
    begins_none (call.Suspend n) none = search when_none
    begins_none (call.Resume n) none = search when_none
    begins_none (call.Yield n) none = search when_none
    begins_none (call.Nap n) none = search when_none
    begins_none (call.Wait e) none = search as_none
    begins_none (call.Cancel n) none = search when_none
    begins_none (call.Abort n) none = search when_none
    begins_none (call.Join n) none = join_none s t n
    begins_none (call.Exit v) none = search when_none
    begins_none (call.Fdmode d m) none = search result_none
    begins_none (call.Timeout n) none = search when_none
    begins_none call.CancelPoint none = search when_none
    begins_none (call.CancelState n) none = search when_none
    begins_none (call.EvFd goals fd) none = search (made_none, result_none)
    begins_none (call.EvSelect r w x) none = search result_none
    begins_none (call.EvTime m) none = search (made_none, result_none)
    begins_none (call.EvMsg p) none = search result_none
    begins_none (call.EvCond c) none = search result_none
    begins_none (call.EvTid state n) none = search result_none
    begins_none (call.EvFunc c v l) none = search (made_none, result_none)
    begins_none (call.Chain e l) none = search (made_none, result_none)
    begins_none (call.EvConcat e g) none = search result_none
    begins_none (call.EvIsolate e) none = search result_none
    begins_none (call.EvWalk e forward until_occurred) none = search result_none
    begins_none (call.EvStatus e) none = search result_none
    begins_none (call.EvKind e) none = search result_none
    begins_none (call.EvFree e all) none = search result_none
    begins_none (call.KeyCreate h) none = search result_none
    begins_none (call.KeyDelete k) none = search result_none
    begins_none (call.KeySet k v) none = search result_none
    begins_none (call.KeyGet k) none = search result_none
    begins_none (call.PortCreate name) none = search result_none
    begins_none (call.PortFind name) none = search result_none
    begins_none (call.PortPending p) none = search result_none
    begins_none (call.PortPut p v r) none = search result_none
    begins_none (call.PortGet p) none = search result_none
    begins_none (call.Reply m v) none = search result_none
    begins_none (call.PortDestroy p) none = search result_none
    begins_none (call.CleanupPush h v) none = search result_none
    begins_none (call.CleanupPop v) none = search when_none
    begins_none (call.MutexInit m) none = search result_none
    begins_none (call.MutexAcquire m v e) none = search (when_none, taken_none)
    begins_none (call.MutexRelease m) none = search result_none
    begins_none (call.RwInit l) none = search result_none
    begins_none (call.RwAcquire l write v e) none = search (when_none, taken_none)
    begins_none (call.RwRelease l) none = search result_none
    begins_none (call.CondInit c) none = search result_none
    begins_none (call.CondNotify c v) none = search result_none
    begins_none (call.CondAwait c m e) none = search (when_none, result_none)
    begins_none (call.BarrierInit b n) none = search result_none
    begins_none (call.BarrierReach b) none = arrival_none s b (arrival_answer s.control.barriers b)
    begins_none (call.Usleep n) none = search when_none
    begins_none (call.Sleep n) none = search when_none
    begins_none (call.Read d n) none = search tries_none
    begins_none (call.ReadEv d n e) none = search tries_none
    begins_none (call.Write d bytes) none = search tries_none
    begins_none (call.WriteEv d bytes e) none = search tries_none
    begins_none (call.Accept d) none = search tries_none
    begins_none (call.AcceptEv d e) none = search tries_none
    begins_none (call.Connect d) none = search tries_none
    begins_none (call.ConnectEv d e) none = search tries_none
    begins_none (call.Select r w x l) none = search tries_none
    begins_none (call.SelectEv r w x l e) none = search tries_none
    begins_none (call.Close d) none = search when_none
    begins_none c none = refl

    -- one that is tried again, and did not wait so
    pub again_none : (c : Call) (a : Awaits) → wait_asks d a ≡ false → asks_by d ((row_of f s t c).again a).verdict ≡ false
    unfolding row_of
    again_none (call.Ctrl x) a none = ctrl_again_none s x a
    again_none (call.Nap n) a none = search when_none
    again_none (call.Wait e) a none = search when_none
    again_none (call.Join n) a none = join_none s t n
    again_none (call.Exit v) a none = search when_none
    again_none (call.EvFd goals fd) a none = search made_again_none
    again_none (call.EvTime m) a none = search made_again_none
    again_none (call.EvFunc c v l) a none = search made_again_none
    again_none (call.Chain e l) a none = search made_again_none
    again_none (call.MutexAcquire m v e) a none = search when_none
    again_none (call.RwAcquire l write v e) a none = search when_none
    again_none (call.BarrierReach b) a none = round_none s t b (round_in a) (has_passed s.control.barriers b (round_in a))
    again_none (call.Usleep n) a none = search when_none
    again_none (call.Sleep n) a none = search when_none
    again_none (call.Read d n) a none = trial_none s.control.kernel a none
    again_none (call.ReadEv d n e) a none = trial_none s.control.kernel a none
    again_none (call.Write d bytes) a none = trial_none s.control.kernel a none
    again_none (call.WriteEv d bytes e) a none = trial_none s.control.kernel a none
    again_none (call.Accept d) a none = trial_none s.control.kernel a none
    again_none (call.AcceptEv d e) a none = trial_none s.control.kernel a none
    again_none (call.Connect d) a none = trial_none s.control.kernel a none
    again_none (call.ConnectEv d e) a none = trial_none s.control.kernel a none
    again_none (call.Select r w x l) a none = trial_none s.control.kernel a none
    again_none (call.SelectEv r w x l e) a none = trial_none s.control.kernel a none
    again_none c a none = refl
