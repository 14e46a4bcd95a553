-- Only pth_yield gives up control with its answer.
use Rattle.std.proofs.Common.{◌≡◌, ℕ, ℤ, nat_lt, Bool, true, false, if◌then◌else◌, Option, Some, None, Result, Ok, Err, refl}
use Rattle.std.proofs.lemmas.Bool.{true≢false}
use Rattle.pth_base.specs.Program.{Functions}
use Rattle.pth_base.specs.declared.answer.Answer.{Answer}
use Rattle.pth_base.specs.declared.answer.Answer.TheVariants as answer
use Rattle.pth_base.specs.declared.call.Call.{Call}
use Rattle.pth_base.specs.declared.call.Call.TheVariants as call
use Rattle.pth_base.specs.declared.errno.Errno.{Errno}
use Rattle.pth_base.specs.declared.errno.Errno.TheVariants.{EBUSY}
use Rattle.pth_base.specs.declared.event.EventSpec.{EventSpec}
use Rattle.pth_base.specs.declared.query.Query.{Query}
use Rattle.pth_base.specs.declared.query.Query.TheVariants as query
use Rattle.pth_cond.specs.declared.barriers.Arrival.{Arrival}
use Rattle.pth_cond.specs.declared.barriers.Arrival.TheVariants as arrival
use Rattle.pth_cond.specs.Barriers.{arrival_answer, has_passed, round_answer, round_answered}
use Rattle.pth_kernel.specs.Kernel.{Kernel}
use Rattle.pth_model.specs.declared.awaits.Awaits.{Awaits}
use Rattle.pth_model.specs.declared.awaits.Awaits.TheVariants as awaits
use Rattle.pth_model.specs.declared.verdict.Verdict.{Verdict}
use Rattle.pth_model.specs.declared.verdict.Verdict.TheVariants.{Says, Yields, Blocks, Ends, Kills}
use Rattle.pth_model.specs.Awaits.{round_in}
use Rattle.pth_model.specs.State.{State, Control}
use Rattle.pth_model.specs.Transition.{Change, changes, silent}
use Rattle.pth_numbered.specs.Clauses.{count_or, ◌when◌otherwise◌}
use Rattle.pth_model.specs.Verdict.{refused, says, said_or, by_result, taken_or, refused_as◌otherwise◌}
use Rattle.pth_model.specs.Barriers.{arrived_as, tries_round}
use Rattle.pth_model.specs.Calls.{interrupted, unless_settled}
use Rattle.pth_model.specs.Changes.{with_barriers}
use Rattle.pth_model.specs.Row.{Attempt, ◌trying◌}
use Rattle.pth_model.specs.EventHandling.{made_as}
use Rattle.pth_model.specs.Io.{trial_for, begins_waiting, tries}
use Rattle.pth_model.specs.LibraryControl.{ctrl}
use Rattle.pth_model.specs.Rows.{row_of}
use Rattle.pth_model.specs.ThreadControl.{joined, join_attempt}

-- a verdict by which a thread gives up control with its answer
abbrev pub is_yielding : Verdict → Bool
is_yielding (Yields a) = true
is_yielding v = false

abbrev pub is_yield : Call → Bool
is_yield (call.Yield n) = true
is_yield c = false

-- ---- verdicts

when_none : (v : Verdict) (b : Bool) (w : Verdict) → is_yielding v ≡ false → is_yielding w ≡ false → is_yielding (v when b otherwise w) ≡ false
when_none v true w one two = one
when_none v false w one two = two

result_none : {A : Type 0} (v : A → Verdict) (r : Result A Errno) → ((x : A) → is_yielding (v x) ≡ false) → is_yielding (by_result v r) ≡ false
result_none v (Ok x) none = none x
result_none v (Err e) none = refl

as_none : {A : Type 0} (r : Result A Errno) (v : Verdict) → is_yielding v ≡ false → is_yielding (refused_as r otherwise v) ≡ false
as_none (Ok x) v none = none
as_none (Err e) v none = refl

taken_none : (r : Result (Unit {0}) Errno) (v : Verdict) → is_yielding v ≡ false → is_yielding (taken_or r v) ≡ false
taken_none (Ok u) v none = refl
taken_none (Err EBUSY) v none = none
taken_none (Err e) v none = refl

said_none : (o : Option Answer) (v : Verdict) → is_yielding v ≡ false → is_yielding (said_or o v) ≡ false
said_none (Some a) v none = refl
said_none None v none = none

counts_none : (n : ℕ) (e : Errno) → is_yielding (Says (count_or n e)) ≡ false
counts_none n e = refl

interrupted_none : (v : Verdict) → is_yielding v ≡ false → is_yielding (interrupted v) ≡ false
interrupted_none (Says a) none = refl
interrupted_none (Yields a) none = none
interrupted_none (Blocks a) none = search counts_none
interrupted_none (Ends v) none = refl
interrupted_none Kills none = refl

trial_none : (k : Kernel) (a : Awaits) → is_yielding (trial_for k a).verdict ≡ false
trial_none k (awaits.Reading f n) = search said_none
trial_none k (awaits.Writing f total written) = search said_none
trial_none k (awaits.Connection f) = search said_none
trial_none k (awaits.ConnectAnswer f) = search said_none
trial_none k (awaits.Selection r w x deadline) = search said_none
trial_none k a = refl

-- an arrival at a barrier
reach_none : (b : ℤ) (o : Result Arrival Errno) → is_yielding (by_result (arrived_as b) o) ≡ false
reach_none b (Err e) = refl
reach_none b (Ok arrival.Tail) = refl
reach_none b (Ok (arrival.Incomplete round)) = refl

module _ {P S H : Type 0} where
  abbrev tries_as : State P S H → (t : ℕ) → ℤ → ℕ → Bool → Attempt P S H
  tries_as s t b round passed = if passed then (Says (answer.Int (round_answer s.control.barriers b round t)) trying changes (with_barriers (round_answered b round t))) else (Blocks (awaits.Round b round) trying silent)

  round_none : (s : State P S H) (t : ℕ) (b : ℤ) (round : ℕ) → is_yielding (tries_round s t b round).verdict ≡ false
  round_none s t b round = by_test (has_passed s.control.barriers b round)
    where
      by_test : (passed : Bool) → is_yielding (tries_as s t b round passed).verdict ≡ false
      by_test true = refl
      by_test false = refl

  joined_none : (k : Control P S H) (n : ℤ) (o : Option ℕ) → is_yielding (joined k n o) ≡ false
  joined_none k n None = refl
  joined_none k n (Some t) = refl

  join_none : (s : State P S H) (t : ℕ) (n : ℤ) → is_yielding (join_attempt s t n).verdict ≡ false
  join_none s t n = search (when_none, joined_none)

  made_none : (spec : Option EventSpec) (v : EventSpec → Verdict) (g : EventSpec → Change P S H) → ((x : EventSpec) → is_yielding (v x) ≡ false) → is_yielding (made_as spec v g).begin.verdict ≡ false
  made_none None v g none = refl
  made_none (Some x) v g none = none x

  made_again_none : (spec : Option EventSpec) (v : EventSpec → Verdict) (g : EventSpec → Change P S H) (a : Awaits) → is_yielding ((made_as spec v g).again a).verdict ≡ false
  made_again_none None v g a = refl
  made_again_none (Some x) v g a = refl

  waiting_none : (s : State P S H) (at_once : Bool) (e : Option ℤ) (v : Verdict) → is_yielding v ≡ false → is_yielding (begins_waiting s at_once e v) ≡ false
  waiting_none s at_once e (Says a) none = refl
  waiting_none s at_once e (Yields a) none = none
  waiting_none s at_once e (Blocks a) none = search (when_none, counts_none, none)
  waiting_none s at_once e (Ends v) none = refl
  waiting_none s at_once e Kills none = refl

  tries_none : (s : State P S H) (e : Option ℤ) (refused_else at_once : Bool) (first : Awaits) → is_yielding (tries s e refused_else at_once first).begin.verdict ≡ false
  tries_none s e refused_else at_once first = search (when_none, waiting_none s at_once e, trial_none s.control.kernel first)

  ctrl_none : (s : State P S H) (x : Query) → is_yielding (ctrl s x).begin.verdict ≡ false
  ctrl_none s (query.Favournew n) = search when_none
  ctrl_none s (query.Prio n) = search when_none
  ctrl_none s (query.Name n) = search when_none
  ctrl_none s x = refl

  ctrl_again_none : (s : State P S H) (x : Query) (a : Awaits) → is_yielding ((ctrl s x).again a).verdict ≡ false
  ctrl_again_none s query.Threads a = refl
  ctrl_again_none s x a = refl

-- ---- rows

module _ {P S H : Type 0} (f : P → Functions S H) (s : State P S H) (t : ℕ) where
  -- a call that begins
  pub begins_unyielding : (c : Call) → is_yield c ≡ false → is_yielding (row_of f s t c).begin.verdict ≡ false
  unfolding row_of
  begins_unyielding call.Kill other = search when_none
  begins_unyielding (call.Ctrl x) other = ctrl_none s x
  begins_unyielding call.AttrNew other = search result_none
  begins_unyielding (call.AttrOf n) other = search result_none
  begins_unyielding (call.AttrInit a) other = search result_none
  begins_unyielding (call.AttrSet a v) other = search result_none
  begins_unyielding (call.AttrGet a x) other = search result_none
  begins_unyielding (call.AttrDestroy a) other = search result_none
  begins_unyielding (call.Spawn b v a) other = search (when_none, as_none)
  begins_unyielding (call.Once o h v) other = search when_none
  begins_unyielding (call.Suspend n) other = search when_none
  begins_unyielding (call.Resume n) other = search when_none
  begins_unyielding (call.Yield n) other = absurd (true≢false other)
  begins_unyielding (call.Nap n) other = search when_none
  begins_unyielding (call.Wait e) other = search as_none
  begins_unyielding (call.Cancel n) other = search when_none
  begins_unyielding (call.Abort n) other = search when_none
  begins_unyielding (call.Join n) other = join_none s t n
  begins_unyielding (call.Exit v) other = search when_none
  begins_unyielding (call.Fdmode d m) other = search result_none
  begins_unyielding (call.Timeout n) other = search when_none
  begins_unyielding call.CancelPoint other = search when_none
  begins_unyielding (call.CancelState n) other = search when_none
  begins_unyielding (call.EvFd goals fd) other = search (made_none, result_none)
  begins_unyielding (call.EvSelect r w x) other = search result_none
  begins_unyielding (call.EvTime m) other = search (made_none, result_none)
  begins_unyielding (call.EvMsg p) other = search result_none
  begins_unyielding (call.EvCond c) other = search result_none
  begins_unyielding (call.EvTid state n) other = search result_none
  begins_unyielding (call.EvFunc c v l) other = search (made_none, result_none)
  begins_unyielding (call.Chain e l) other = search (made_none, result_none)
  begins_unyielding (call.EvConcat e g) other = search result_none
  begins_unyielding (call.EvIsolate e) other = search result_none
  begins_unyielding (call.EvWalk e forward until_occurred) other = search result_none
  begins_unyielding (call.EvStatus e) other = search result_none
  begins_unyielding (call.EvKind e) other = search result_none
  begins_unyielding (call.EvFree e all) other = search result_none
  begins_unyielding (call.KeyCreate h) other = search result_none
  begins_unyielding (call.KeyDelete k) other = search result_none
  begins_unyielding (call.KeySet k v) other = search result_none
  begins_unyielding (call.KeyGet k) other = search result_none
  begins_unyielding (call.PortCreate name) other = search result_none
  begins_unyielding (call.PortFind name) other = search result_none
  begins_unyielding (call.PortPending p) other = search result_none
  begins_unyielding (call.PortPut p v r) other = search result_none
  begins_unyielding (call.PortGet p) other = search result_none
  begins_unyielding (call.Reply m v) other = search result_none
  begins_unyielding (call.PortDestroy p) other = search result_none
  begins_unyielding (call.CleanupPush h v) other = search result_none
  begins_unyielding (call.CleanupPop v) other = search when_none
  begins_unyielding (call.MutexInit m) other = search result_none
  begins_unyielding (call.MutexAcquire m v e) other = search (when_none, taken_none)
  begins_unyielding (call.MutexRelease m) other = search result_none
  begins_unyielding (call.RwInit l) other = search result_none
  begins_unyielding (call.RwAcquire l write v e) other = search (when_none, taken_none)
  begins_unyielding (call.RwRelease l) other = search result_none
  begins_unyielding (call.CondInit c) other = search result_none
  begins_unyielding (call.CondNotify c v) other = search result_none
  begins_unyielding (call.CondAwait c m e) other = search (when_none, result_none)
  begins_unyielding (call.BarrierInit b n) other = search result_none
  begins_unyielding (call.BarrierReach b) other = reach_none b (arrival_answer s.control.barriers b)
  begins_unyielding (call.Usleep n) other = search when_none
  begins_unyielding (call.Sleep n) other = search when_none
  begins_unyielding (call.Read d n) other = search tries_none
  begins_unyielding (call.ReadEv d n e) other = search tries_none
  begins_unyielding (call.Write d bytes) other = search tries_none
  begins_unyielding (call.WriteEv d bytes e) other = search tries_none
  begins_unyielding (call.Accept d) other = search tries_none
  begins_unyielding (call.AcceptEv d e) other = search tries_none
  begins_unyielding (call.Connect d) other = search tries_none
  begins_unyielding (call.ConnectEv d e) other = search tries_none
  begins_unyielding (call.Select r w x l) other = search tries_none
  begins_unyielding (call.SelectEv r w x l e) other = search tries_none
  begins_unyielding (call.Close d) other = search when_none
  begins_unyielding c other = refl

  -- one that is tried again
  again_none : (c : Call) (a : Awaits) → is_yielding ((row_of f s t c).again a).verdict ≡ false
  unfolding row_of
  again_none (call.Ctrl x) a = ctrl_again_none s x a
  again_none (call.Nap n) a = search when_none
  again_none (call.Wait e) a = search when_none
  again_none (call.Join n) a = join_none s t n
  again_none (call.Exit v) a = search when_none
  again_none (call.EvFd goals fd) a = search made_again_none
  again_none (call.EvTime m) a = search made_again_none
  again_none (call.EvFunc c v l) a = search made_again_none
  again_none (call.Chain e l) a = search made_again_none
  again_none (call.MutexAcquire m v e) a = search when_none
  again_none (call.RwAcquire l write v e) a = search when_none
  again_none (call.BarrierReach b) a = round_none s t b (round_in a)
  again_none (call.Usleep n) a = search when_none
  again_none (call.Sleep n) a = search when_none
  again_none (call.Read d n) a = trial_none s.control.kernel a
  again_none (call.ReadEv d n e) a = trial_none s.control.kernel a
  again_none (call.Write d bytes) a = trial_none s.control.kernel a
  again_none (call.WriteEv d bytes e) a = trial_none s.control.kernel a
  again_none (call.Accept d) a = trial_none s.control.kernel a
  again_none (call.AcceptEv d e) a = trial_none s.control.kernel a
  again_none (call.Connect d) a = trial_none s.control.kernel a
  again_none (call.ConnectEv d e) a = trial_none s.control.kernel a
  again_none (call.Select r w x l) a = trial_none s.control.kernel a
  again_none (call.SelectEv r w x l e) a = trial_none s.control.kernel a
  again_none c a = refl

  pub again_unyielding : (c : Call) (a : Awaits) (come : Bool) → is_yielding (unless_settled come ((row_of f s t c).again a)).verdict ≡ false
  again_unyielding c a false = again_none c a
  again_unyielding c a true = interrupted_none ((row_of f s t c).again a).verdict (again_none c a)
