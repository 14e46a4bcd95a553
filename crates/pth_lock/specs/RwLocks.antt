-- Read-write locks: which are initialised, who writes under each, and who reads (pth_rwlock_init, pth_rwlock_acquire,
-- pth_rwlock_release).
use Rattle.std.specs.Prelude.{◌≡◌, ℕ, zero, suc, ◌+◌, ◌-◌, ◌<◌, ◌≤◌, ◌==◌, ℤ, Bool, true, false, not, ◌||◌, if◌then◌else◌, List, length, Option, Some, None, is_some, Result, Ok, Err}
use Rattle.pth_base.specs.Limits.{thread_limit}
use Rattle.pth_base.specs.Table.{put, table}
use Rattle.pth_base.specs.declared.errno.Errno.{Errno}
use Rattle.pth_base.specs.declared.errno.Errno.TheVariants.{EACCES, EBUSY, EINVAL, EDEADLK}
use Rattle.pth_base.specs.declared.ids.Slot.{Slot}
use Rattle.pth_lock.specs.Objects.{object_limit, object_named, is_object}
use Rattle.pth_lock.specs.Sets.{is_in_set}
use Rattle.pth_lock.specs.declared.rwlocks.Holders.{Holders}
use Rattle.pth_lock.specs.declared.rwlocks.Holders.TheVariants.{Readers, Writer}

-- the locks by number
pub record LockTables : Type 0 where
  -- a lock is initialised
  pub initialised : ℕ → Bool
  -- the slot that writes under a lock, if one does
  pub writer : ℕ → Option ℕ
  -- a slot reads under a lock, and how many do
  pub reads : (lock slot : ℕ) → Bool
  pub readers : ℕ → ℕ

-- ---- tests

-- a slot is this one
abbrev pub is_one : ℕ → Option ℕ → Bool
is_one s (Some u) = u == s
is_one s None = false

-- somebody writes under a lock
abbrev pub is_written : LockTables → ℕ → Bool
is_written x l = is_some (x.writer l)

-- somebody reads under it
abbrev pub is_read : LockTables → ℕ → Bool
is_read x l = not (x.readers l == 0)

-- somebody holds it
abbrev pub is_held : LockTables → ℕ → Bool
is_held x l = is_written x l || is_read x l

-- a slot holds it
abbrev pub holds : LockTables → ℕ → ℕ → Bool
holds x s l = is_one s (x.writer l) || x.reads l s

-- a slot that does not hold it may enter, to write or to read
abbrev pub may_enter : LockTables → Bool → ℕ → Bool
may_enter x write l = if write then not (is_held x l) else not (is_written x l)

-- ---- answers: the tests stand in order, and the first that holds is the answer

-- a lock is initialised
abbrev pub lock_init_answer : LockTables → ℤ → Result (Unit {0}) Errno
lock_init_answer x l =
    if not (is_object l) then Err EINVAL else
    if x.initialised (object_named l) then Err EBUSY else
    Ok tt

-- a slot takes a lock, to write or to read
abbrev pub lock_take_answer : LockTables → ℕ → Bool → ℤ → Result (Unit {0}) Errno
lock_take_answer x s write l =
    if not (x.initialised (object_named l)) then Err EINVAL else
    if holds x s (object_named l) then Err EDEADLK else
    if not (may_enter x write (object_named l)) then Err EBUSY else
    Ok tt

-- a slot gives a lock back
abbrev pub lock_release_answer : LockTables → ℕ → ℤ → Result (Unit {0}) Errno
lock_release_answer x s l =
    if not (x.initialised (object_named l)) then Err EINVAL else
    if not (is_held x (object_named l)) then Err EDEADLK else
    if not (holds x s (object_named l)) then Err EACCES else
    Ok tt

-- whether a slot that does not hold a lock may enter
abbrev pub lock_free_answer : LockTables → Bool → ℤ → Result Bool Errno
lock_free_answer x write l =
    if not (x.initialised (object_named l)) then Err EINVAL else
    Ok (may_enter x write (object_named l))

-- ---- changes

-- none is initialised
abbrev pub no_locks : LockTables
no_locks = record { initialised = λ _. false; writer = λ _. None; reads = λ _ _. false; readers = λ _. 0 }

-- a lock is initialised
abbrev pub lock_initialised : ℕ → LockTables → LockTables
lock_initialised l x = record x { initialised = put x.initialised l true }

-- a slot writes under a lock, or reads
abbrev pub lock_taken : ℕ → Bool → ℕ → LockTables → LockTables
lock_taken s true l x = record x { writer = put x.writer l (Some s) }
lock_taken s false l x = record x { reads = put x.reads l (put (x.reads l) s true); readers = put x.readers l (x.readers l + 1) }

-- nobody, where it was this slot
abbrev pub without_slot : ℕ → Option ℕ → Option ℕ
without_slot s o = if is_one s o then None else o

-- how many read, without a slot that did or did not
abbrev pub readers_without : Bool → ℕ → ℕ
readers_without read n = if read then n - 1 else n

-- a slot holds a lock no longer
abbrev pub lock_released : ℕ → ℕ → LockTables → LockTables
lock_released s l x = record x {
  writer = put x.writer l (without_slot s (x.writer l));
  reads = put x.reads l (put (x.reads l) s false);
  readers = put x.readers l (readers_without (x.reads l s) (x.readers l));
}

-- a slot holds no lock
abbrev pub locks_left : ℕ → LockTables → LockTables
locks_left s x = record x {
  writer = λ l. without_slot s (x.writer l);
  reads = λ l. put (x.reads l) s false;
  readers = λ l. readers_without (x.reads l s) (x.readers l);
}

-- how many of the slots below a number pass a test
unfoldable pub count_below : (ℕ → Bool) → ℕ → ℕ
count_below test zero = 0
count_below test (suc s) = if test s then count_below test s + 1 else count_below test s

-- what the tables say at every moment
pub record LocksAreSound (x : LockTables) : Type 0 where
  -- there are no others
  pub past : (l : ℕ) → object_limit ≤ l → x.initialised l ≡ false
  -- where a slot writes none reads
  pub alone : (l s : ℕ) → is_written x l ≡ true → x.reads l s ≡ false
  -- who reads is counted
  pub counted : (l : ℕ) → x.readers l ≡ count_below (x.reads l) thread_limit
  pub known : (l s : ℕ) → holds x s l ≡ true → x.initialised l ≡ true
  pub slots : (l s : ℕ) → holds x s l ≡ true → s < thread_limit

-- ---- the locks as data

-- a lock: none where it is not initialised, and else its writer, or how many read
abbrev pub Lock : Type 0
Lock = Option Holders

-- the locks in a list by number, and in a list by slot the sets of those that the slots hold
pub record LocksOf : Type 0 where
  pub locks : List Lock
  pub sets : List ℕ

-- who writes under a lock, if anybody
abbrev pub writer_of : Lock → Option ℕ
writer_of (Some (Writer w)) = Some w.0
writer_of (Some (Readers n)) = None
writer_of None = None

-- how many read under it
abbrev pub readers_of : Lock → ℕ
readers_of (Some (Writer w)) = 0
readers_of (Some (Readers n)) = n
readers_of None = 0

-- who holds a lock reads, where nobody writes
abbrev pub reads_in : Lock → Bool → Bool
reads_in (Some (Writer w)) held = false
reads_in (Some (Readers n)) held = held
reads_in None held = false

-- the tables that they stand for
abbrev pub tables_of : LocksOf → LockTables
tables_of x = record {
  initialised = λ l. is_some (table None x.locks l);
  writer = λ l. writer_of (table None x.locks l);
  reads = λ l s. reads_in (table None x.locks l) (is_in_set x.sets s l);
  readers = λ l. readers_of (table None x.locks l);
}

-- the holders of a lock are the slots that pass this test
abbrev pub AreHolders : Lock → (ℕ → Bool) → Type 0
AreHolders (Some (Writer w)) held = (s : ℕ) → held s ≡ (w.0 == s)
AreHolders (Some (Readers n)) held = n ≡ count_below held thread_limit
AreHolders None held = (s : ℕ) → held s ≡ false

-- what holds at every moment
pub record LocksAreKept (x : LocksOf) : Type 0 where
  pub many : length x.locks ≡ object_limit
  pub slots : length x.sets ≡ thread_limit
  -- who holds a lock has it in its set
  pub held : (l : ℕ) → AreHolders (table None x.locks l) (λ s. is_in_set x.sets s l)

-- ---- one lock, step by step

-- one holder less
abbrev pub left_lock : Lock → Lock
left_lock (Some (Writer w)) = Some (Readers 0)
left_lock (Some (Readers n)) = Some (Readers (n - 1))
left_lock None = None

-- one more may enter, to write or to read
abbrev pub is_open : Holders → Bool → Bool
is_open (Readers n) write = (n == 0) || not write
is_open (Writer w) write = false

-- a slot has entered, to write or to read
abbrev pub entered : Holders → Bool → Slot → Holders
entered (Readers n) true s = Writer s
entered (Readers n) false s = Readers (n + 1)
entered (Writer w) write s = Writer s

-- there are not more readers than slots
abbrev pub HasRoom : Holders → Type 0
HasRoom (Readers n) = n ≤ thread_limit
HasRoom (Writer w) = Unit {0}
