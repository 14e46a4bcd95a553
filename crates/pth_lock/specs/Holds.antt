-- The mutexes and the read-write locks as lists of holds, and laws of what the calls do to these lists.
use Rattle.std.specs.Prelude.{◌≡◌, ℕ, zero, suc, ◌<◌, ◌==◌, pos, Bool, true, false, not, if◌then◌else◌, List, [], ◌∷◌, ◌++◌, replicate, filter, IsPermutation, Some, None, Ok}
use Rattle.pth_base.specs.Limits.{thread_limit}
use Rattle.pth_lock.specs.Objects.{object_limit}
use Rattle.pth_lock.specs.Mutexes.{Mutex, MutexTable, take_answer, release_answer, no_mutexes, mutex_initialised, mutex_taken, mutex_released, mutexes_left, HasLevels}
use Rattle.pth_lock.specs.RwLocks.{LockTables, is_one, lock_take_answer, lock_release_answer, no_locks, lock_initialised, lock_taken, lock_released, locks_left}

-- the lists at the numbers below a number, one after another
unfoldable pub joined : {A : Type 0} → (ℕ → List A) → ℕ → List A
joined lists zero = []
joined lists (suc i) = joined lists i ++ lists i

-- ---- mutexes

-- a level: who has it, and of which mutex
pub record Hold : Type 0 where
  pub owner : ℕ
  pub mutex : ℕ

-- the holds of one mutex
abbrev pub holds_at : ℕ → Mutex → List Hold
holds_at m (Some (Some o)) = replicate o.levels (record { owner = o.owner; mutex = m })
holds_at m (Some None) = []
holds_at m None = []

-- all holds, one for each level
abbrev pub holds_of : MutexTable → List Hold
holds_of x = joined (λ m. holds_at m (x m)) object_limit

-- the holds of a mutex alone
abbrev pub holds_on : ℕ → List Hold → List Hold
holds_on m hs = filter (λ h. h.mutex == m) hs

-- the holds of all slots but one
abbrev pub holds_without : ℕ → List Hold → List Hold
holds_without s hs = filter (λ h. not (h.owner == s)) hs

-- before the first call there are none, and none comes with a mutex that is initialised
pub record StartWithoutHolds : Type 0 where
  pub none : holds_of no_mutexes ≡ []
  pub initialised : (x : MutexTable) (m : ℕ) → x m ≡ None → holds_of (mutex_initialised m x) ≡ holds_of x

-- who takes a mutex has one hold more
abbrev pub TakesAddHold : Type 0
TakesAddHold =
    (x : MutexTable) (s m : ℕ) → m < object_limit → take_answer s (x m) ≡ Ok tt
    → IsPermutation (holds_of (mutex_taken s m x)) (record { owner = s; mutex = m } ∷ holds_of x)

-- who releases a mutex had one hold more
abbrev pub ReleasesDropHold : Type 0
ReleasesDropHold =
    (x : MutexTable) (s m : ℕ) → m < object_limit → HasLevels (x m) → release_answer s (x m) ≡ Ok tt
    → IsPermutation (holds_of x) (record { owner = s; mutex = m } ∷ holds_of (mutex_released s m x))

-- a slot that gives all back has no hold any more, and the others have theirs
abbrev pub EndsDropHolds : Type 0
EndsDropHolds = (x : MutexTable) (s : ℕ) → holds_of (mutexes_left s x) ≡ holds_without s (holds_of x)

-- the holds of one mutex say who has it, and with how many levels
abbrev pub HoldsTellOwners : Type 0
HoldsTellOwners = (x : MutexTable) (m : ℕ) → m < object_limit → holds_on m (holds_of x) ≡ holds_at m (x m)

-- ---- read-write locks

-- who holds a lock, which, and whether to write
pub record LockHold : Type 0 where
  pub slot : ℕ
  pub lock : ℕ
  pub write : Bool

-- the hold of a lock that a slot has, if it has one
abbrev pub lock_holds_by : LockTables → (lock slot : ℕ) → List LockHold
lock_holds_by x l s =
    if is_one s (x.writer l) then record { slot = s; lock = l; write = true } ∷ [] else
    if x.reads l s then record { slot = s; lock = l; write = false } ∷ [] else
    []

-- the holds of one lock
abbrev pub lock_holds_at : LockTables → ℕ → List LockHold
lock_holds_at x l = joined (lock_holds_by x l) thread_limit

-- all holds of locks
abbrev pub lock_holds_of : LockTables → List LockHold
lock_holds_of x = joined (lock_holds_at x) object_limit

-- before the first call there are none, and none comes with a lock that is initialised
pub record StartWithoutLockHolds : Type 0 where
  pub none : lock_holds_of no_locks ≡ []
  pub initialised : (x : LockTables) (l : ℕ) → lock_holds_of (lock_initialised l x) ≡ lock_holds_of x

-- who takes a lock has one hold more
abbrev pub LockTakesAddHold : Type 0
LockTakesAddHold =
    (x : LockTables) (s l : ℕ) (write : Bool) → s < thread_limit → l < object_limit → lock_take_answer x s write (pos l) ≡ Ok tt
    → IsPermutation (lock_holds_of (lock_taken s write l x)) (record { slot = s; lock = l; write = write } ∷ lock_holds_of x)

-- who releases a lock had one hold more
abbrev pub LockReleasesDropHold : Type 0
LockReleasesDropHold =
    (x : LockTables) (s l : ℕ) → s < thread_limit → l < object_limit → lock_release_answer x s (pos l) ≡ Ok tt
    → IsPermutation (lock_holds_of x) (record { slot = s; lock = l; write = is_one s (x.writer l) } ∷ lock_holds_of (lock_released s l x))

-- a slot that gives all back has no hold any more, and the others have theirs
abbrev pub LockEndsDropHolds : Type 0
LockEndsDropHolds = (x : LockTables) (s : ℕ) → lock_holds_of (locks_left s x) ≡ filter (λ h. not (h.slot == s)) (lock_holds_of x)
