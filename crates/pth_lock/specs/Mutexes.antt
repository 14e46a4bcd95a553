-- Mutexes: which are initialised, and who has each, with how many levels (pth_mutex_init, pth_mutex_acquire,
-- pth_mutex_release).
use Rattle.std.specs.Prelude.{◌≡◌, ℕ, ◌+◌, ◌-◌, ◌<◌, ◌≤◌, ◌==◌, ℤ, Bool, true, false, not, ◌&&◌, if◌then◌else◌, List, length, Option, Some, None, is_some, is_none, Result, Ok, Err}
use Rattle.std.specs.Option.{option_map}
use Rattle.pth_base.specs.Limits.{thread_limit}
use Rattle.pth_base.specs.Table.{put, table}
use Rattle.pth_base.specs.declared.errno.Errno.{Errno}
use Rattle.pth_base.specs.declared.errno.Errno.TheVariants.{EAGAIN, EACCES, EBUSY, EINVAL, EDEADLK}
use Rattle.pth_base.specs.declared.ids.Slot.{Slot}
use Rattle.pth_lock.specs.Objects.{object_limit, object_named, is_object}
use Rattle.pth_lock.specs.Sets.{is_in_set}
use Rattle.pth_lock.specs.declared.mutexes.Owner.{Owner}

-- who has a mutex, and how many levels of it: one for each time that it was taken and not released
pub record Ownership : Type 0 where
  pub owner : ℕ
  pub levels : ℕ

-- a mutex: none where it is not initialised, and else who has it, if anybody
abbrev pub Mutex : Type 0
Mutex = Option (Option Ownership)

-- the mutexes by number
abbrev pub MutexTable : Type 0
MutexTable = ℕ → Mutex

-- how many levels of a mutex a slot may have
abbrev pub level_limit : ℕ
level_limit = 65535

-- the slot of this number
abbrev pub slot_numbered : ℕ → Slot
slot_numbered n = record { 0 = n }

-- ---- tests

-- who has a mutex, if anybody
abbrev pub owner_of : Mutex → Option ℕ
owner_of (Some (Some o)) = Some o.owner
owner_of (Some None) = None
owner_of None = None

-- how many levels of a mutex a slot has
abbrev pub levels_of : ℕ → Mutex → ℕ
levels_of s (Some (Some o)) = if o.owner == s then o.levels else 0
levels_of s (Some None) = 0
levels_of s None = 0

-- a slot has a mutex
abbrev pub has : ℕ → Mutex → Bool
has s (Some (Some o)) = o.owner == s
has s (Some None) = false
has s None = false

-- another slot has it
abbrev pub is_anothers : ℕ → Mutex → Bool
is_anothers s mutex = is_some (owner_of mutex) && not (has s mutex)

-- ---- answers: the tests stand in order, and the first that holds is the answer

-- a mutex is initialised
abbrev pub mutex_init_answer : MutexTable → ℤ → Result (Unit {0}) Errno
mutex_init_answer x m =
    if not (is_object m) then Err EINVAL else
    if is_some (x (object_named m)) then Err EBUSY else
    Ok tt

-- a slot takes a level of a mutex
abbrev pub take_answer : ℕ → Mutex → Result (Unit {0}) Errno
take_answer s mutex =
    if is_none mutex then Err EINVAL else
    if levels_of s mutex == level_limit then Err EAGAIN else
    if is_anothers s mutex then Err EBUSY else
    Ok tt

-- a slot takes a level of the mutex that an operand names
abbrev pub mutex_take_answer : MutexTable → ℕ → ℤ → Result (Unit {0}) Errno
mutex_take_answer x s m = take_answer s (x (object_named m))

-- a slot gives a level of a mutex back
abbrev pub release_answer : ℕ → Mutex → Result (Unit {0}) Errno
release_answer s mutex =
    if is_none mutex then Err EINVAL else
    if is_none (owner_of mutex) then Err EDEADLK else
    if is_anothers s mutex then Err EACCES else
    Ok tt

-- a slot gives a level back of the mutex that an operand names
abbrev pub mutex_release_answer : MutexTable → ℕ → ℤ → Result (Unit {0}) Errno
mutex_release_answer x s m = release_answer s (x (object_named m))

-- who has a mutex
abbrev pub mutex_owner_answer : MutexTable → ℤ → Result (Option Slot) Errno
mutex_owner_answer x m =
    if is_none (x (object_named m)) then Err EINVAL else
    Ok (option_map slot_numbered (owner_of (x (object_named m))))

-- whether nobody has a mutex
abbrev pub mutex_free_answer : MutexTable → ℤ → Result Bool Errno
mutex_free_answer x m =
    if is_none (x (object_named m)) then Err EINVAL else
    Ok (is_none (owner_of (x (object_named m))))

-- ---- changes

-- none is initialised
abbrev pub no_mutexes : MutexTable
no_mutexes m = None

-- a mutex that nobody has
abbrev pub free_mutex : Mutex
free_mutex = Some None

-- a mutex of which a slot has so many levels: it is free where they are none
abbrev pub mutex_with : ℕ → ℕ → Mutex
mutex_with s n = if n == 0 then free_mutex else Some (Some (record { owner = s; levels = n }))

-- a mutex is initialised
abbrev pub mutex_initialised : ℕ → MutexTable → MutexTable
mutex_initialised m x = put x m free_mutex

-- a slot has a level more of a mutex
abbrev pub mutex_taken : ℕ → ℕ → MutexTable → MutexTable
mutex_taken s m x = put x m (mutex_with s (levels_of s (x m) + 1))

-- a slot has a level less
abbrev pub mutex_released : ℕ → ℕ → MutexTable → MutexTable
mutex_released s m x = put x m (mutex_with s (levels_of s (x m) - 1))

-- all mutexes that a slot has are free
abbrev pub mutexes_left : ℕ → MutexTable → MutexTable
mutexes_left s x m = if has s (x m) then free_mutex else x m

-- ---- the mutexes as data

-- what is said of an owner
abbrev pub ownership : Owner → Ownership
ownership o = record { owner = o.slot.0; levels = o.levels }

-- what is said of a mutex
abbrev pub mutex_of : Option (Option Owner) → Mutex
mutex_of mutex = option_map (option_map ownership) mutex

-- the table that a list by number stands for
abbrev pub mutexes_of : List (Option (Option Owner)) → MutexTable
mutexes_of mutexes m = mutex_of (table None mutexes m)

-- who has a mutex has a level of it, and not more than it may have
abbrev pub HasLevels : Mutex → Type 0
HasLevels (Some (Some o)) = (0 < o.levels) × (o.levels ≤ level_limit)
HasLevels (Some None) = Unit {0}
HasLevels None = Unit {0}

-- what the table says at every moment
pub record MutexesAreSound (x : MutexTable) : Type 0 where
  -- there are no others
  pub past : (m : ℕ) → object_limit ≤ m → x m ≡ None
  pub levels : (m : ℕ) → HasLevels (x m)
  pub slots : (s m : ℕ) → has s (x m) ≡ true → s < thread_limit

-- what holds at every moment, with the sets of the mutexes that slots have
pub record MutexesAreKept (mutexes : List (Option (Option Owner))) (sets : List ℕ) : Type 0 where
  pub many : length mutexes ≡ object_limit
  pub slots : length sets ≡ thread_limit
  pub had : (s m : ℕ) → is_in_set sets s m ≡ has s (mutexes_of mutexes m)
  pub levels : (m : ℕ) → HasLevels (mutexes_of mutexes m)
