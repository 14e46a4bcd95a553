-- What threads have, as contracts see it: by the numbers of threads. The code keeps it by slot.
--
-- What a contract sees of a world is data, and a function is none. So a table is seen here as a list of what it has at each number
-- that a thread, a key or an object can have, all those below `name_limit`. `listed` makes the list of a table, and `table` reads
-- it as one again. Such a list stands in statements alone: nothing makes one.
use Rattle.std.specs.Prelude.{ℕ, zero, suc, ◌==◌, ◌&&◌, ◌||◌, ℤ, pos, Bool, false, List, [], map, Option, Some, None, is_none, option_map, Result, Ok, Err, if◌then◌else◌}
use Rattle.std.specs.List.{range_with_len}
use Rattle.pth_base.specs.Naming.{seen}
use Rattle.pth_base.specs.Table.{table}
use Rattle.pth_base.specs.declared.errno.Errno.{Errno}
use Rattle.pth_base.specs.declared.errno.Errno.TheVariants.{EINVAL}
use Rattle.pth_base.specs.declared.ids.HandlerId.{HandlerId}
use Rattle.pth_base.specs.declared.ids.Tid.{Tid}
use Rattle.pth_base.specs.Limits.{thread_limit}
use Rattle.pth_threads.specs.Threads.{ThreadsOf, slot_of, tid_at}
use Rattle.pth_lock.specs.Mutexes.{Mutex, MutexTable, owner_of}
use Rattle.pth_lock.specs.Objects.{object_named}
use Rattle.pth_lock.specs.RwLocks.{LockTables}
use Rattle.pth_port.specs.Ports.{PortsOf, mail_of, names_of}
use Rattle.pth_store.specs.Keys.{Tables}
use Rattle.pth_store.specs.Cleanups.{PushedHandler, Stacks}
use Rattle.pth_model.specs.Store.{Store}
use Rattle.pth_model.specs.Transition.{tid}
pub use Rattle.pth_model.specs.Store.{HasNothing}

-- the numbers of threads are below, and the keys and objects that operands name
abbrev pub name_limit : ℕ
name_limit = 9223372036854775808

-- what a table has at each number below n
unfoldable pub listed_to : {A : Type 0} → ℕ → (ℕ → A) → List A
listed_to n f = map f (range_with_len 0 n)

-- a table as a list
abbrev pub listed : {A : Type 0} → (ℕ → A) → List A
listed f = listed_to name_limit f

-- the read-write locks: which are initialised (pth_rwlock_init), who writes under each, whether each thread reads, and how many do
pub record LocksOf : Type 0 where
  pub initialised : List Bool
  pub writers : List (Option ℕ)
  pub reads : List (List Bool)
  pub readers : List ℕ

-- the handlers of each thread, the last pushed first (pth_cleanup_push); the live keys with their destructors (pth_key_create);
-- of each key the value that each thread has under it (pth_key_setdata); the mutexes (pth_mutex_init) and the locks; the message
-- ports with their messages (pth_msgport_create)
pub record StoreOf : Type 0 where
  pub cleanups : List (List PushedHandler)
  pub keys : List (Option (Option HandlerId))
  pub values : List (List ℤ)
  pub mutexes : List Mutex
  pub rw_locks : LocksOf
  pub ports : PortsOf

-- what it stands for
abbrev pub locks_of : LocksOf → LockTables
locks_of x = record { initialised = table false x.initialised; writer = table None x.writers; reads = λ l. table false (table [] x.reads l); readers = table 0 x.readers }

abbrev pub store_of : StoreOf → Store
store_of x = record {
  cleanups = table [] x.cleanups;
  keys = record { keys = table None x.keys; values = λ k. table (pos 0) (table [] x.values k) };
  mutexes = table None x.mutexes;
  rw_locks = locks_of x.rw_locks;
  ports = names_of x.ports;
  mail = mail_of x.ports;
}

-- What stands at a slot that is not used counts as that of thread 0, which is nobody. A world that is whole has nothing for a thread
-- that is not alive (`StoresAlive`): so it has nothing at such a slot, and a thread that is made there begins with nothing.

-- a mutex, its owner by number: 0 where the slot is not used
abbrev pub named_mutex : (ℕ → ℕ) → Mutex → Mutex
named_mutex tid_at (Some (Some o)) = Some (Some (record { owner = tid_at o.owner; levels = o.levels }))
named_mutex tid_at (Some None) = Some None
named_mutex tid_at None = None

-- one of the slots below a number that are not used passes a test
unfoldable pub any_unused : (ℕ → ℕ) → (ℕ → Bool) → ℕ → Bool
any_unused tid_at test zero = false
any_unused tid_at test (suc u) = ((tid_at u == 0) && test u) || any_unused tid_at test u

-- who reads, by number: 0 where that is a slot that is not used
abbrev pub named_reads : ThreadsOf → (ℕ → Bool) → ℕ → Bool
named_reads x reads t = if t == 0 then any_unused (tid_at x) reads thread_limit else seen false (slot_of x) reads t

abbrev pub locked_by : ThreadsOf → LockTables → LocksOf
locked_by x locks = record {
  initialised = listed locks.initialised;
  writers = listed (λ l. option_map (tid_at x) (locks.writer l));
  reads = listed (λ l. listed (named_reads x (locks.reads l)));
  readers = listed locks.readers;
}

-- what is kept by slot, as threads have it, and the ports
abbrev pub stored_by : ThreadsOf → Tables → Stacks → MutexTable → LockTables → PortsOf → StoreOf
stored_by x keys cleanups mutexes locks ports = record {
  cleanups = listed (seen [] (slot_of x) cleanups);
  keys = listed keys.keys;
  values = listed (λ k. listed (seen (pos 0) (slot_of x) (keys.values k)));
  mutexes = listed (λ m. named_mutex (tid_at x) (mutexes m));
  rw_locks = locked_by x locks;
  ports = ports;
}

-- who has a mutex
abbrev pub owner_answer : MutexTable → ℤ → Result (Option Tid) Errno
owner_answer x m =
    if is_none (x (object_named m)) then Err EINVAL else
    Ok (option_map tid (owner_of (x (object_named m))))
