-- Only pth_barrier_reach waits for a round of a barrier, and no row waits for a mutex to be taken back.
use Rattle.std.proofs.Common.{◌≡◌, ℕ, ℤ, nat_lt, Bool, true, false, if◌then◌else◌, Option, Some, None, Result, Ok, Err, refl, sym, ◌∙◌, ap}
use Rattle.pth_base.specs.Program.{Functions}
use Rattle.pth_base.specs.declared.answer.Answer.{Answer}
use Rattle.pth_base.specs.declared.answer.Answer.TheVariants as answer
use Rattle.pth_base.specs.declared.call.Call.{Call}
use Rattle.pth_base.specs.declared.call.Call.TheVariants as call
use Rattle.pth_base.specs.declared.errno.Errno.{Errno}
use Rattle.pth_base.specs.declared.errno.Errno.TheVariants.{EBUSY}
use Rattle.pth_base.specs.declared.event.EventSpec.{EventSpec}
use Rattle.pth_base.specs.declared.query.Query.{Query}
use Rattle.pth_base.specs.declared.query.Query.TheVariants as query
use Rattle.pth_cond.specs.declared.barriers.Arrival.{Arrival}
use Rattle.pth_cond.specs.declared.barriers.Arrival.TheVariants as arrival
use Rattle.pth_cond.specs.Barriers.{arrival_answer, has_passed, round_answer, round_answered}
use Rattle.pth_numbered.specs.Operands.{is_zero}
use Rattle.pth_kernel.specs.Kernel.{Kernel}
use Rattle.pth_model.specs.declared.awaits.Awaits.{Awaits}
use Rattle.pth_model.specs.declared.awaits.Awaits.TheVariants as awaits
use Rattle.pth_model.specs.declared.verdict.Verdict.{Verdict}
use Rattle.pth_model.specs.declared.verdict.Verdict.TheVariants.{Says, Yields, Blocks, Ends, Kills}
use Rattle.pth_model.specs.Awaits.{death_of, is_retaking, round_in}
use Rattle.pth_model.specs.State.{State, Control}
use Rattle.pth_model.specs.Transition.{Change, changes, silent}
use Rattle.pth_model.specs.Verdict.{refused, says, said_or, by_result, taken_or, refused_as◌otherwise◌}
use Rattle.pth_numbered.specs.Clauses.{count_or, ◌when◌otherwise◌}
use Rattle.pth_model.specs.Barriers.{arrived_as, tries_round}
use Rattle.pth_model.specs.Calls.{interrupted, unless_settled}
use Rattle.pth_model.specs.Changes.{with_barriers}
use Rattle.pth_model.specs.Row.{Attempt, ◌trying◌}
use Rattle.pth_model.specs.EventHandling.{made_as}
use Rattle.pth_model.specs.Io.{trial_for, begins_waiting, tries}
use Rattle.pth_model.specs.LibraryControl.{ctrl}
use Rattle.pth_model.specs.Rows.{row_of}
use Rattle.pth_model.specs.ThreadControl.{joined, join_attempt}

true_false : true ≡ false → ⊥
true_false h = cc

abbrev pub is_reaching : Call → Bool
is_reaching (call.BarrierReach b) = true
is_reaching c = false

abbrev pub is_round : Awaits → Bool
is_round (awaits.Round b round) = true
is_round a = false

-- a wait for a mutex that is taken back, or also one for a round
abbrev pub is_special : (rounds : Bool) → Awaits → Bool
is_special rounds (awaits.Round b round) = rounds
is_special rounds (awaits.Retaking m o) = true
is_special rounds a = false

-- a verdict by which a thread waits so
abbrev pub is_rounding : (rounds : Bool) → Verdict → Bool
is_rounding rounds (Blocks a) = is_special rounds a
is_rounding rounds v = false

pub special_none : (a : Awaits) → is_special true a ≡ false → (is_round a ≡ false) × (is_retaking a ≡ false)
special_none (awaits.Round b round) h = absurd (true_false h)
special_none (awaits.Retaking m o) h = absurd (true_false h)
special_none a h = (refl, refl)

pub special_retaking : (a : Awaits) → is_special false a ≡ is_retaking a
special_retaking (awaits.Retaking m o) = refl
special_retaking a = refl

pub special_both : (a : Awaits) → is_round a ≡ false → is_retaking a ≡ false → is_special true a ≡ false
special_both (awaits.Round b round) h g = absurd (true_false h)
special_both (awaits.Retaking m o) h g = absurd (true_false g)
special_both a h g = refl

module _ (rounds : Bool) where
  -- ---- verdicts

  when_none : (v : Verdict) (b : Bool) (w : Verdict) → is_rounding rounds v ≡ false → is_rounding rounds w ≡ false → is_rounding rounds (v when b otherwise w) ≡ false
  when_none v true w one two = one
  when_none v false w one two = two

  result_none : {A : Type 0} (v : A → Verdict) (r : Result A Errno) → ((x : A) → is_rounding rounds (v x) ≡ false) → is_rounding rounds (by_result v r) ≡ false
  result_none v (Ok x) none = none x
  result_none v (Err e) none = refl

  as_none : {A : Type 0} (r : Result A Errno) (v : Verdict) → is_rounding rounds v ≡ false → is_rounding rounds (refused_as r otherwise v) ≡ false
  as_none (Ok x) v none = none
  as_none (Err e) v none = refl

  taken_none : (r : Result (Unit {0}) Errno) (v : Verdict) → is_rounding rounds v ≡ false → is_rounding rounds (taken_or r v) ≡ false
  taken_none (Ok u) v none = refl
  taken_none (Err EBUSY) v none = none
  taken_none (Err e) v none = refl

  said_none : (o : Option Answer) (v : Verdict) → is_rounding rounds v ≡ false → is_rounding rounds (said_or o v) ≡ false
  said_none (Some a) v none = refl
  said_none None v none = none

  counts_none : (n : ℕ) (e : Errno) → is_rounding rounds (Says (count_or n e)) ≡ false
  counts_none n e = refl

  pub interrupted_none : (v : Verdict) → is_rounding rounds (interrupted v) ≡ false
  interrupted_none (Says a) = refl
  interrupted_none (Yields a) = refl
  interrupted_none (Blocks a) = search counts_none
  interrupted_none (Ends v) = refl
  interrupted_none Kills = refl

  death_none : (n : ℤ) → is_special rounds (death_of n) ≡ false
  death_none n = by_test (is_zero n)
    where
      by_test : (b : Bool) → is_special rounds (if b then awaits.AnyDeath else awaits.Death n) ≡ false
      by_test true = refl
      by_test false = refl

  trial_none : (k : Kernel) (a : Awaits) → is_special rounds a ≡ false → is_rounding rounds (trial_for k a).verdict ≡ false
  trial_none k (awaits.Reading f n) none = search said_none
  trial_none k (awaits.Writing f total written) none = search said_none
  trial_none k (awaits.Connection f) none = search said_none
  trial_none k (awaits.ConnectAnswer f) none = search said_none
  trial_none k (awaits.Selection r w x deadline) none = search said_none
  trial_none k a none = none

  module _ {P S H : Type 0} where
    joined_none : (k : Control P S H) (n : ℤ) (o : Option ℕ) → is_rounding rounds (joined k n o) ≡ false
    joined_none k n None = death_none n
    joined_none k n (Some t) = refl

    join_none : (s : State P S H) (t : ℕ) (n : ℤ) → is_rounding rounds (join_attempt s t n).verdict ≡ false
    join_none s t n = search (when_none, joined_none)

    made_none : (spec : Option EventSpec) (v : EventSpec → Verdict) (g : EventSpec → Change P S H) → ((x : EventSpec) → is_rounding rounds (v x) ≡ false) → is_rounding rounds (made_as spec v g).begin.verdict ≡ false
    made_none None v g none = refl
    made_none (Some x) v g none = none x

    made_again_none : (spec : Option EventSpec) (v : EventSpec → Verdict) (g : EventSpec → Change P S H) (a : Awaits) → is_rounding rounds ((made_as spec v g).again a).verdict ≡ false
    made_again_none None v g a = refl
    made_again_none (Some x) v g a = refl

    waiting_none : (s : State P S H) (at_once : Bool) (e : Option ℤ) (v : Verdict) → is_rounding rounds v ≡ false → is_rounding rounds (begins_waiting s at_once e v) ≡ false
    waiting_none s at_once e (Says a) none = refl
    waiting_none s at_once e (Yields a) none = refl
    waiting_none s at_once e (Blocks a) none = search (when_none, counts_none, none)
    waiting_none s at_once e (Ends v) none = refl
    waiting_none s at_once e Kills none = refl

    tries_none : (s : State P S H) (e : Option ℤ) (refused_else at_once : Bool) (first : Awaits) → is_special rounds first ≡ false → is_rounding rounds (tries s e refused_else at_once first).begin.verdict ≡ false
    tries_none s e refused_else at_once first none = search (when_none, waiting_none s at_once e, trial_none s.control.kernel first none)

    ctrl_none : (s : State P S H) (x : Query) → is_rounding rounds (ctrl s x).begin.verdict ≡ false
    ctrl_none s (query.Favournew n) = search when_none
    ctrl_none s (query.Prio n) = search when_none
    ctrl_none s (query.Name n) = search when_none
    ctrl_none s x = refl

    ctrl_again_none : (s : State P S H) (x : Query) (a : Awaits) → is_rounding rounds ((ctrl s x).again a).verdict ≡ false
    ctrl_again_none s query.Threads a = refl
    ctrl_again_none s x a = refl

  -- ---- rows

  module _ {P S H : Type 0} (f : P → Functions S H) (s : State P S H) (t : ℕ) where
    -- a call that begins
    pub begins_none : (c : Call) → is_reaching c ≡ false → is_rounding rounds (row_of f s t c).begin.verdict ≡ false
    unfolding row_of
    begins_none call.Kill other = search when_none
    begins_none (call.Ctrl x) other = ctrl_none s x
    begins_none call.AttrNew other = search result_none
    begins_none (call.AttrOf n) other = search result_none
    begins_none (call.AttrInit a) other = search result_none
    begins_none (call.AttrSet a v) other = search result_none
    begins_none (call.AttrGet a x) other = search result_none
    begins_none (call.AttrDestroy a) other = search result_none
    begins_none (call.Spawn b v a) other = search (when_none, as_none)
    begins_none (call.Once o h v) other = search when_none
    begins_none (call.Suspend n) other = search when_none
    begins_none (call.Resume n) other = search when_none
    begins_none (call.Yield n) other = search when_none
    begins_none (call.Nap n) other = search when_none
    begins_none (call.Wait e) other = search as_none
    begins_none (call.Cancel n) other = search when_none
    begins_none (call.Abort n) other = search when_none
    begins_none (call.Join n) other = join_none s t n
    begins_none (call.Exit v) other = search when_none
    begins_none (call.Fdmode d m) other = search result_none
    begins_none (call.Timeout n) other = search when_none
    begins_none call.CancelPoint other = search when_none
    begins_none (call.CancelState n) other = search when_none
    begins_none (call.EvFd goals fd) other = search (made_none, result_none)
    begins_none (call.EvSelect r w x) other = search result_none
    begins_none (call.EvTime m) other = search (made_none, result_none)
    begins_none (call.EvMsg p) other = search result_none
    begins_none (call.EvCond c) other = search result_none
    begins_none (call.EvTid state n) other = search result_none
    begins_none (call.EvFunc c v l) other = search (made_none, result_none)
    begins_none (call.Chain e l) other = search (made_none, result_none)
    begins_none (call.EvConcat e g) other = search result_none
    begins_none (call.EvIsolate e) other = search result_none
    begins_none (call.EvWalk e forward until_occurred) other = search result_none
    begins_none (call.EvStatus e) other = search result_none
    begins_none (call.EvKind e) other = search result_none
    begins_none (call.EvFree e all) other = search result_none
    begins_none (call.KeyCreate h) other = search result_none
    begins_none (call.KeyDelete k) other = search result_none
    begins_none (call.KeySet k v) other = search result_none
    begins_none (call.KeyGet k) other = search result_none
    begins_none (call.PortCreate name) other = search result_none
    begins_none (call.PortFind name) other = search result_none
    begins_none (call.PortPending p) other = search result_none
    begins_none (call.PortPut p v r) other = search result_none
    begins_none (call.PortGet p) other = search result_none
    begins_none (call.Reply m v) other = search result_none
    begins_none (call.PortDestroy p) other = search result_none
    begins_none (call.CleanupPush h v) other = search result_none
    begins_none (call.CleanupPop v) other = search when_none
    begins_none (call.MutexInit m) other = search result_none
    begins_none (call.MutexAcquire m v e) other = search (when_none, taken_none)
    begins_none (call.MutexRelease m) other = search result_none
    begins_none (call.RwInit l) other = search result_none
    begins_none (call.RwAcquire l write v e) other = search (when_none, taken_none)
    begins_none (call.RwRelease l) other = search result_none
    begins_none (call.CondInit c) other = search result_none
    begins_none (call.CondNotify c v) other = search result_none
    begins_none (call.CondAwait c m e) other = search (when_none, result_none)
    begins_none (call.BarrierInit b n) other = search result_none
    begins_none (call.BarrierReach b) other = absurd (true_false other)
    begins_none (call.Usleep n) other = search when_none
    begins_none (call.Sleep n) other = search when_none
    begins_none (call.Read d n) other = search tries_none
    begins_none (call.ReadEv d n e) other = search tries_none
    begins_none (call.Write d bytes) other = search tries_none
    begins_none (call.WriteEv d bytes e) other = search tries_none
    begins_none (call.Accept d) other = search tries_none
    begins_none (call.AcceptEv d e) other = search tries_none
    begins_none (call.Connect d) other = search tries_none
    begins_none (call.ConnectEv d e) other = search tries_none
    begins_none (call.Select r w x l) other = search tries_none
    begins_none (call.SelectEv r w x l e) other = search tries_none
    begins_none (call.Close d) other = search when_none
    begins_none c other = refl

    -- one that is tried again, and did not wait so
    pub again_none : (c : Call) (a : Awaits) → is_reaching c ≡ false → is_special rounds a ≡ false → is_rounding rounds ((row_of f s t c).again a).verdict ≡ false
    unfolding row_of
    again_none (call.Ctrl x) a other none = ctrl_again_none s x a
    again_none (call.Nap n) a other none = search when_none
    again_none (call.Wait e) a other none = search when_none
    again_none (call.Join n) a other none = join_none s t n
    again_none (call.Exit v) a other none = search when_none
    again_none (call.EvFd goals fd) a other none = search made_again_none
    again_none (call.EvTime m) a other none = search made_again_none
    again_none (call.EvFunc c v l) a other none = search made_again_none
    again_none (call.Chain e l) a other none = search made_again_none
    again_none (call.MutexAcquire m v e) a other none = search when_none
    again_none (call.RwAcquire l write v e) a other none = search when_none
    again_none (call.BarrierReach b) a other none = absurd (true_false other)
    again_none (call.Usleep n) a other none = search when_none
    again_none (call.Sleep n) a other none = search when_none
    again_none (call.Read d n) a other none = trial_none s.control.kernel a none
    again_none (call.ReadEv d n e) a other none = trial_none s.control.kernel a none
    again_none (call.Write d bytes) a other none = trial_none s.control.kernel a none
    again_none (call.WriteEv d bytes e) a other none = trial_none s.control.kernel a none
    again_none (call.Accept d) a other none = trial_none s.control.kernel a none
    again_none (call.AcceptEv d e) a other none = trial_none s.control.kernel a none
    again_none (call.Connect d) a other none = trial_none s.control.kernel a none
    again_none (call.ConnectEv d e) a other none = trial_none s.control.kernel a none
    again_none (call.Select r w x l) a other none = trial_none s.control.kernel a none
    again_none (call.SelectEv r w x l e) a other none = trial_none s.control.kernel a none
    again_none c a other none = refl

-- ---- a mutex that is taken back

arrival_none : (b : ℤ) (o : Result Arrival Errno) → is_rounding false (by_result (arrived_as b) o) ≡ false
arrival_none b (Err e) = refl
arrival_none b (Ok arrival.Tail) = refl
arrival_none b (Ok (arrival.Incomplete round)) = refl

retaken_none : (v : Verdict) (a : Awaits) → is_rounding false v ≡ false → v ≡ Blocks a → is_retaking a ≡ false
retaken_none v a none blocks = sym (special_retaking a) ∙ sym (ap (is_rounding false) blocks) ∙ none

module _ {P S H : Type 0} (f : P → Functions S H) (s : State P S H) (t : ℕ) where
  begins_plain : (c : Call) → is_rounding false (row_of f s t c).begin.verdict ≡ false
  unfolding row_of
  begins_plain (call.BarrierReach b) = arrival_none b (arrival_answer s.control.barriers b)
  begins_plain c = begins_none false f s t c refl

  abbrev tries_as : ℤ → ℕ → Bool → Attempt P S H
  tries_as b round passed = if passed then (Says (answer.Int (round_answer s.control.barriers b round t)) trying changes (with_barriers (round_answered b round t))) else (Blocks (awaits.Round b round) trying silent)

  round_plain : (b : ℤ) (round : ℕ) → is_rounding false (tries_round s t b round).verdict ≡ false
  round_plain b round = by_test (has_passed s.control.barriers b round)
    where
      by_test : (passed : Bool) → is_rounding false (tries_as b round passed).verdict ≡ false
      by_test true = refl
      by_test false = refl

  again_plain : (c : Call) (a : Awaits) → is_special false a ≡ false → is_rounding false ((row_of f s t c).again a).verdict ≡ false
  unfolding row_of
  again_plain (call.BarrierReach b) a none = round_plain b (round_in a)
  again_plain c a none = again_none false f s t c a refl none

  come_plain : (c : Call) (a : Awaits) (come : Bool) → is_special false a ≡ false → is_rounding false (unless_settled come ((row_of f s t c).again a)).verdict ≡ false
  come_plain c a false none = again_plain c a none
  come_plain c a true none = interrupted_none false ((row_of f s t c).again a).verdict

  -- no call begins to wait for a mutex to be taken back
  pub begins_plainly : (c : Call) (a : Awaits) → (row_of f s t c).begin.verdict ≡ Blocks a → is_retaking a ≡ false
  begins_plainly c a blocks = retaken_none (row_of f s t c).begin.verdict a (begins_plain c) blocks

  -- nor does one that is tried again, and did not wait so
  pub again_plainly : (c : Call) (a : Awaits) (come : Bool) (now : Awaits) → is_retaking a ≡ false → (unless_settled come ((row_of f s t c).again a)).verdict ≡ Blocks now → is_retaking now ≡ false
  again_plainly c a come now plain blocks = retaken_none (unless_settled come ((row_of f s t c).again a)).verdict now (come_plain c a come (special_retaking a ∙ plain)) blocks
