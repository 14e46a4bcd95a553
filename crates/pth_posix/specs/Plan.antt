-- Which calls of Pth a POSIX thread call makes, and what it answers.
use Rattle.std.specs.Prelude.{ℤ, pos, negsuc, ◌+ℤ◌, ◌-ℤ◌, ◌*ℤ◌, int_le, ◌&&◌, ◌==◌, Bool, true, false, List, [], ◌∷◌, if◌then◌else◌}
use Rattle.pth_base.specs.declared.answer.Answer.{Answer}
use Rattle.pth_base.specs.declared.answer.Answer.TheVariants as answer
use Rattle.pth_base.specs.declared.call.Call.{Call}
use Rattle.pth_base.specs.declared.call.Call.TheVariants as call
use Rattle.pth_base.specs.declared.errno.Errno.TheVariants.{EPERM, ENOENT, ESRCH, EINTR, EACCES, EINVAL, EDEADLK}
use Rattle.pth_posix.specs.declared.panswer.PAnswer.{PAnswer}
use Rattle.pth_posix.specs.declared.panswer.PAnswer.TheVariants.{None, Value, Fail, TimedOut}
use Rattle.pth_posix.specs.declared.pcall.PCall.{PCall}
use Rattle.pth_posix.specs.declared.pcall.PCall.TheVariants as pcall
use Rattle.pth_posix.specs.declared.plan.Planned.{Planned}
use Rattle.pth_posix.specs.declared.plan.Planned.TheVariants.{Calls, Answers}

-- What the answer of a call of Pth is read as. An error stays as it is, and an answer that is neither a number nor an error is read
-- as none.
--
-- a number is the value
abbrev pub value : Answer → PAnswer
value (answer.Int n) = Value n
value (answer.Fail e) = Fail e
value a = None

-- a number says that the call did its work
abbrev pub zero : Answer → PAnswer
zero (answer.Int n) = Value (pos 0)
zero (answer.Fail e) = Fail e
zero a = None

-- the last of a barrier's round is told apart (PTHREAD_BARRIER_SERIAL_THREAD)
abbrev pub barrier_answer : Answer → PAnswer
barrier_answer (answer.Int (negsuc n)) = Value (if n == 1 then negsuc 0 else pos 0)
barrier_answer a = zero a

-- a thread that gives up what it does not have is not permitted to
abbrev pub as_eperm : PAnswer → PAnswer
as_eperm (Fail EDEADLK) = Fail EPERM
as_eperm (Fail EACCES) = Fail EPERM
as_eperm a = a

-- a key that is not live is no valid one, and has the value 0
abbrev pub as_einval : PAnswer → PAnswer
as_einval (Fail ENOENT) = Fail EINVAL
as_einval a = a

abbrev pub as_value_0 : PAnswer → PAnswer
as_value_0 (Fail ENOENT) = Value (pos 0)
as_value_0 a = a

-- a wait that its moment ended
abbrev pub as_timed_out : PAnswer → PAnswer
as_timed_out (Fail EINTR) = TimedOut
as_timed_out a = a

-- The cancel state of Pth is 1, and 1 more if cancellation is disabled, and 2 more if it is asynchronous.
abbrev pub is_cancel_state : ℤ → Bool
is_cancel_state n = int_le (pos 1) n && int_le n (pos 4)

abbrev pub cancel_state : ℤ → ℤ → ℤ
cancel_state state type = pos 1 +ℤ state +ℤ pos 2 *ℤ type

-- the type of POSIX in it, and the state
abbrev pub type_in : ℤ → ℤ
type_in n = if int_le n (pos 2) then pos 0 else pos 1

abbrev pub state_in : ℤ → ℤ
state_in n = n -ℤ cancel_state (pos 0) (type_in n)

-- the operand is 0
abbrev pub is_0 : ℤ → Bool
is_0 (pos n) = n == 0
is_0 (negsuc n) = false

-- it is 0 or 1
abbrev pub is_flag : ℤ → Bool
is_flag n = int_le (pos 0) n && int_le n (pos 1)

-- what a part of the old cancel state is; a number that is no cancel state is read as none
abbrev pub old : (ℤ → ℤ) → Answer → PAnswer
old part (answer.Int n) = if is_cancel_state n then Value (part n) else None
old part a = value a

-- The next call, or the answer, by the answers that the calls of Pth got so far.
--
-- none is made
abbrev pub at_once : PAnswer → List Answer → Planned
at_once a got = Answers a

-- one, and its answer is read so
abbrev pub one : Call → (Answer → PAnswer) → List Answer → Planned
one c read [] = Calls c
one c read (a ∷ more) = Answers (read a)

-- two: the cancel state is asked for, and then set to what it becomes
abbrev pub sets : (ℤ → ℤ) → (Answer → PAnswer) → List Answer → Planned
sets becomes read [] = Calls (call.CancelState (pos 0))
sets becomes read (answer.Int n ∷ []) = if is_cancel_state n then Calls (call.CancelState (becomes n)) else Answers None
sets becomes read (answer.Int n ∷ b ∷ more) = if is_cancel_state n then Answers (read b) else Answers None
sets becomes read (a ∷ more) = Answers (value a)

-- three: an event of the moment is made and waited with, and freed whatever the wait is answered
abbrev pub timed : ℤ → ℤ → ℤ → List Answer → Planned
timed c m at [] = Calls (call.EvTime at)
timed c m at (answer.Int e ∷ []) = Calls (call.CondAwait c m e)
timed c m at (answer.Int e ∷ w ∷ []) = Calls (call.EvFree e true)
timed c m at (answer.Int e ∷ w ∷ freed ∷ more) = Answers (as_timed_out (as_eperm (zero w)))
timed c m at (a ∷ more) = Answers (value a)

abbrev pub plan : PCall → List Answer → Planned
plan pcall.Nothing got = at_once None got
-- threads
plan (pcall.Create body arg) got = one (call.Spawn body arg (pos 0)) value got
plan pcall.SelfId got = one call.SelfTid value got
plan pcall.Yield got = one (call.Yield (pos 0)) zero got
plan pcall.TestCancel got = one call.CancelPoint zero got
plan (pcall.Exit v) got = Calls (call.Exit v)
plan (pcall.Join t) got = if is_0 t then at_once (Fail ESRCH) got else one (call.Join t) value got
plan (pcall.Cancel t) got = one (call.Cancel t) zero got
plan (pcall.SetState s) got = if is_flag s then sets (λ n. cancel_state s (type_in n)) (old state_in) got else at_once (Fail EINVAL) got
plan (pcall.SetType y) got = if is_flag y then sets (λ n. cancel_state (state_in n) y) (old type_in) got else at_once (Fail EINVAL) got
-- cleanup handlers, keys and once controls
plan (pcall.Push h arg) got = one (call.CleanupPush h arg) zero got
plan (pcall.Pop e) got = one (call.CleanupPop e) zero got
plan (pcall.KeyCreate h) got = one (call.KeyCreate h) value got
plan (pcall.KeyDelete k) got = one (call.KeyDelete k) (λ a. as_einval (zero a)) got
plan (pcall.SetSpecific k v) got = one (call.KeySet k v) (λ a. as_einval (zero a)) got
plan (pcall.GetSpecific k) got = one (call.KeyGet k) (λ a. as_value_0 (value a)) got
plan (pcall.Once o h arg) got = one (call.Once o h arg) zero got
-- mutexes
plan (pcall.MutexInit m) got = one (call.MutexInit m) zero got
plan (pcall.Lock m) got = one (call.MutexAcquire m (pos 0) (pos 0)) zero got
plan (pcall.TryLock m) got = one (call.MutexAcquire m (pos 1) (pos 0)) zero got
plan (pcall.Unlock m) got = one (call.MutexRelease m) (λ a. as_eperm (zero a)) got
-- conditions
plan (pcall.CondInit c) got = one (call.CondInit c) zero got
plan (pcall.Signal c) got = one (call.CondNotify c (pos 0)) zero got
plan (pcall.Broadcast c) got = one (call.CondNotify c (pos 1)) zero got
plan (pcall.CondWait c m) got = one (call.CondAwait c m (pos 0)) (λ a. as_eperm (zero a)) got
plan (pcall.TimedWait c m at) got = timed c m at got
-- read-write locks and barriers
plan (pcall.RwInit l) got = one (call.RwInit l) zero got
plan (pcall.RdLock l) got = one (call.RwAcquire l false (pos 0) (pos 0)) zero got
plan (pcall.WrLock l) got = one (call.RwAcquire l true (pos 0) (pos 0)) zero got
plan (pcall.RwUnlock l) got = one (call.RwRelease l) (λ a. as_eperm (zero a)) got
plan (pcall.BarrierInit b n) got = one (call.BarrierInit b n) zero got
plan (pcall.BarrierWait b) got = one (call.BarrierReach b) barrier_answer got
