-- What the walk along a run keeps of each mark, by the book of the marks before it. It is more than orderly, exclusive and initialised
-- marks are: answers are those that calls give, also calls on ports, and numbers are in range.
use Rattle.std.specs.Prelude.{◌≡◌, ◌<◌, ℕ, zero, suc, ◌||◌, ℤ, pos, negsuc, Bool, true, false, List, [], ◌∷◌, length, Option, Some, None, is_some, Ok}
use Rattle.pth_base.specs.declared.act.Act.TheVariants as act
use Rattle.pth_base.specs.declared.answer.Answer.{Answer}
use Rattle.pth_base.specs.declared.answer.Answer.TheVariants.{Fail, Int, Msg}
use Rattle.pth_base.specs.declared.call.Call.{Call}
use Rattle.pth_base.specs.declared.call.Call.TheVariants as call
use Rattle.pth_base.specs.declared.errno.Errno.TheVariants.{ENOENT}
use Rattle.pth_base.specs.declared.mark.Mark.{Mark}
use Rattle.pth_base.specs.declared.mark.Mark.TheVariants as mark
use Rattle.pth_numbered.specs.Operands.{number, is_zero}
use Rattle.pth_lock.specs.Objects.{object_limit, object_named}
use Rattle.pth_lock.specs.Mutexes.{has, is_anothers}
use Rattle.pth_lock.specs.RwLocks.{holds, may_enter}
use Rattle.pth_port.specs.Mail.{Mail, is_live, is_port, messages_at, oldest, reply_port}
use Rattle.pth_store.specs.Keys.{key_limit}
use Rattle.pth_model.specs.Ending.{next_destructor}
use Rattle.pth_model.specs.Store.{Resources}
use Rattle.pth_laws.specs.Marks.{thread_of}
use Rattle.pth_laws.specs.Orderly.{RanLast}
use Rattle.pth_laws.proofs.Book.{Book, after, ran_by}

-- A holds of each mark, and of the book of the marks before it
abbrev pub EachMark : (Book → Mark → Type 0) → Book → List Mark → Type 0
EachMark A b [] = Unit {0}
EachMark A b (m ∷ ms) = A b m × EachMark A (after b m) ms

-- ---- orderly

-- a thread that has ended has no mark more
abbrev pub HasNotEnded : Book → Option ℕ → Type 0
HasNotEnded b None = Unit {0}
HasNotEnded b (Some t) = b.ended t ≡ false

-- a cleanup_pop that is answered 1, and not of 0, ran its handler
abbrev pub IsPopOrderly : Book → ℕ → Call → Answer → Type 0
IsPopOrderly b t (call.CleanupPop v) (Int (pos (suc zero))) = is_zero v ≡ false → RanLast (ran_by b.block t).handlers (b.resources.store.cleanups t)
IsPopOrderly b t c a = Unit {0}

-- a thread that ends ran its handlers, the last pushed first, and then its destructors, until none was due in four rounds
pub record IsEndOrderly (b : Book) (t : ℕ) (v : ℤ) : Type 0 where
  pub handlers : (ran_by b.block t).handlers ≡ b.resources.store.cleanups t
  pub destructors : (ran_by b.block t).is_fine ≡ true
  pub all : next_destructor b.resources.store.keys t (ran_by b.block t).round ≡ None
  -- one that was canceled has the value -1
  pub value : b.canceled t ≡ true → v ≡ negsuc 0

-- who was canceled has no answer, no note and no wait told
abbrev pub IsUncanceled : Book → ℕ → Type 0
IsUncanceled b t = b.canceled t ≡ false

abbrev pub IsInItsOrder : Book → Mark → Type 0
IsInItsOrder b (mark.Answered t c a) = IsUncanceled b t.0 × IsPopOrderly b t.0 c a
IsInItsOrder b (mark.Noted t v) = IsUncanceled b t.0
IsInItsOrder b (mark.Waits t c) = IsUncanceled b t.0
IsInItsOrder b (mark.Ended t v) = IsEndOrderly b t.0 v
IsInItsOrder b m = Unit {0}

abbrev pub IsOrderlyMark : Book → Mark → Type 0
IsOrderlyMark b m = HasNotEnded b (thread_of m) × IsInItsOrder b m

-- ---- exclusive

module _ (k : Resources) where
  -- a mutex that is initialised is one of 0 to 63, and was not initialised before
  pub record IsNewMutex (m : ℕ) : Type 0 where
    pub known : m < object_limit
    pub new : is_some (k.store.mutexes m) ≡ false

  -- t takes a level of a mutex: it is initialised, and no other thread has it
  pub record MayTake (t m : ℕ) : Type 0 where
    pub initialised : is_some (k.store.mutexes m) ≡ true
    pub free : is_anothers t (k.store.mutexes m) ≡ false

  -- t gives a level of a mutex back, or all: it has the mutex
  abbrev pub HasMutex : (t m : ℕ) → Type 0
  HasMutex t m = has t (k.store.mutexes m) ≡ true

  -- a lock that is initialised is one of 0 to 63, and was not initialised before
  pub record IsNewLock (l : ℕ) : Type 0 where
    pub known : l < object_limit
    pub new : k.store.rw_locks.initialised l ≡ false

  -- t enters a lock: it is initialised, t does not hold it yet, and nobody writes; and to write, nobody reads either
  pub record MayEnter (t l : ℕ) (write : Bool) : Type 0 where
    pub initialised : k.store.rw_locks.initialised l ≡ true
    pub out : holds k.store.rw_locks t l ≡ false
    pub enters : may_enter k.store.rw_locks write l ≡ true

  -- t gives a lock back: it holds it
  abbrev pub HoldsLock : (t l : ℕ) → Type 0
  HoldsLock t l = holds k.store.rw_locks t l ≡ true

  -- t has no mutex, and holds no lock
  pub record HoldsNothing (t : ℕ) : Type 0 where
    pub mutexes : (m : ℕ) → has t (k.store.mutexes m) ≡ false
    pub locks : (l : ℕ) → holds k.store.rw_locks t l ≡ false

-- a number is that of a key
abbrev pub IsKey : ℤ → Type 0
IsKey n = (i : ℕ) × (n ≡ pos i) × (i < key_limit)

-- a number is one from 1 on
abbrev pub IsFromOne : ℤ → Type 0
IsFromOne n = (i : ℕ) × (n ≡ pos (suc i))

module _ (q : Mail) (p : ℤ) where
  -- a message may be put to a port, with a port for the reply or none: these ports are there
  pub record MayPut (r : ℤ) : Type 0 where
    pub there : is_port q p ≡ true
    pub reply : (is_zero r || is_port q r) ≡ true

  -- a port is there, and this is its oldest message
  pub record HasOldest (n : ℕ) (v : ℤ) : Type 0 where
    pub there : is_port q p ≡ true
    pub first : oldest (messages_at q p) ≡ Ok (n, v)

  -- a port is there, and has no message
  pub record HasNoMessage : Type 0 where
    pub there : is_port q p ≡ true
    pub none : messages_at q p ≡ []

  -- a port is there, and has so many messages
  pub record HasMessages (n : ℤ) : Type 0 where
    pub there : is_port q p ≡ true
    pub count : n ≡ pos (length (messages_at q p))

  -- what a pth_msgport_get is answered
  abbrev pub IsAnswerToGet : Answer → Type 0
  IsAnswerToGet (Msg id v) = HasOldest id.0 v
  IsAnswerToGet (Fail ENOENT) = HasNoMessage
  IsAnswerToGet a = Unit {0}

-- a call of t is answered, by what threads have before its answer: a call on a mutex or a lock with 1
abbrev pub IsAnswerExclusive : Resources → ℕ → Call → Answer → Type 0
IsAnswerExclusive k t (call.MutexInit m) (Int n) = (n ≡ pos 1) × IsNewMutex k (object_named m)
IsAnswerExclusive k t (call.MutexAcquire m v e) (Int n) = (n ≡ pos 1) × MayTake k t (object_named m)
IsAnswerExclusive k t (call.MutexRelease m) (Int n) = (n ≡ pos 1) × HasMutex k t (object_named m)
IsAnswerExclusive k t (call.RwInit l) (Int n) = (n ≡ pos 1) × IsNewLock k (object_named l)
IsAnswerExclusive k t (call.RwAcquire l write v e) (Int n) = (n ≡ pos 1) × MayEnter k t (object_named l) write
IsAnswerExclusive k t (call.RwRelease l) (Int n) = (n ≡ pos 1) × HoldsLock k t (object_named l)
-- a cond_await takes its mutex back with its answer, unless it has it again already
IsAnswerExclusive k t (call.CondAwait c m e) a = k.awaits t ≡ true → MayTake k t (object_named m)
IsAnswerExclusive k t (call.KeyCreate h) (Int n) = IsKey n
-- a call on a port, by the messages that are there: with 1 where it only succeeds
IsAnswerExclusive k t (call.PortCreate name) (Int n) = IsFromOne n
IsAnswerExclusive k t (call.PortPut p v r) (Int n) = (n ≡ pos 1) × MayPut k.store.mail p r
IsAnswerExclusive k t (call.PortGet p) a = IsAnswerToGet k.store.mail p a
IsAnswerExclusive k t (call.PortPending p) (Int n) = HasMessages k.store.mail p n
IsAnswerExclusive k t (call.Reply m v) (Int n) = (n ≡ pos 1) × (is_live k.store.mail (reply_port (k.store.mail.kept (number m))) ≡ true)
IsAnswerExclusive k t (call.PortDestroy p) (Int n) = (n ≡ pos 1) × (is_port k.store.mail p ≡ true)
IsAnswerExclusive k t c a = Unit {0}

abbrev pub IsExclusiveMark : Book → Mark → Type 0
IsExclusiveMark b (mark.Answered t c a) = IsAnswerExclusive b.resources t.0 c a
IsExclusiveMark b (mark.Acted t (act.Release m) a) = IsAnswerExclusive b.resources t.0 (call.MutexRelease m) a
IsExclusiveMark b (mark.Acted t (act.Put p v) a) = IsAnswerExclusive b.resources t.0 (call.PortPut p v (pos 0)) a
-- a cond_await that begins to await gives a level back
IsExclusiveMark b (mark.Waits t (call.CondAwait c m e)) = b.resources.awaits t.0 ≡ false → HasMutex b.resources t.0 (object_named m)
IsExclusiveMark b (mark.Took t m) = MayTake b.resources t.0 m
IsExclusiveMark b (mark.GaveMutex t m) = HasMutex b.resources t.0 m
IsExclusiveMark b (mark.GaveLock t l) = HoldsLock b.resources t.0 l
IsExclusiveMark b (mark.Ended t v) = HoldsNothing b.resources t.0
IsExclusiveMark b m = Unit {0}

-- ---- both of them

abbrev pub IsLawful : Book → Mark → Type 0
IsLawful b m = IsOrderlyMark b m × IsExclusiveMark b m
