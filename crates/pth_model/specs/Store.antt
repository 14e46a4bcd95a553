-- What threads have: cleanups, key values, mutexes, locks and messages; and how one of these changes while all others stay.
use Rattle.std.specs.Prelude.{◌≡◌, ℕ, pos, Bool, false, []}
use Rattle.pth_base.specs.Table.{put}
use Rattle.pth_lock.specs.Mutexes.{MutexTable, no_mutexes, has}
use Rattle.pth_lock.specs.RwLocks.{LockTables, no_locks, holds}
use Rattle.pth_port.specs.Mail.{Mail, PortNames, no_mail, no_names}
use Rattle.pth_store.specs.Keys.{Tables, no_keys}
use Rattle.pth_store.specs.Cleanups.{Stacks, no_cleanups}

-- cleanups and keys (pth_cleanup_push, pth_key_create), mutexes and read-write locks (pth_mutex_init, pth_rwlock_init), of each
-- thread by its number, and the message ports (pth_msgport_create), which no thread has for itself
pub record Store : Type 0 where
  -- its handlers, the last pushed first
  pub cleanups : Stacks
  -- the live keys, and its value under each
  pub keys : Tables
  -- the mutexes that are initialised, and who has them
  pub mutexes : MutexTable
  -- the locks that are initialised, and who holds them
  pub rw_locks : LockTables
  -- the message ports, and the messages
  pub ports : PortNames
  pub mail : Mail

-- a thread has nothing: no handler, no value but 0, no mutex and no lock
pub record HasNothing (s : Store) (t : ℕ) : Type 0 where
  pub cleanups : s.cleanups t ≡ []
  pub values : (k : ℕ) → s.keys.values k t ≡ pos 0
  pub mutexes : (m : ℕ) → has t (s.mutexes m) ≡ false
  pub locks : (l : ℕ) → holds s.rw_locks t l ≡ false

pub record Resources : Type 0 where
  pub store : Store
  -- who waits at a condition, and has not its mutex again (pth_cond_await)
  pub awaits : ℕ → Bool

-- as a run starts
abbrev pub no_resources : Resources
no_resources = record {
  store = record { cleanups = no_cleanups; keys = no_keys; mutexes = no_mutexes; rw_locks = no_locks; ports = no_names; mail = no_mail };
  awaits = λ t. false;
}

-- one of the facilities

abbrev pub with_cleanups : (Stacks → Stacks) → Store → Store
with_cleanups g s = record s { cleanups = g s.cleanups }

abbrev pub with_keys : (Tables → Tables) → Store → Store
with_keys g s = record s { keys = g s.keys }

abbrev pub with_mutexes : (MutexTable → MutexTable) → Store → Store
with_mutexes g s = record s { mutexes = g s.mutexes }

abbrev pub with_rw_locks : (LockTables → LockTables) → Store → Store
with_rw_locks g s = record s { rw_locks = g s.rw_locks }

abbrev pub with_ports : (PortNames → PortNames) → (Mail → Mail) → Store → Store
with_ports g h s = record s { ports = g s.ports; mail = h s.mail }

abbrev pub with_mail : (Mail → Mail) → Store → Store
with_mail g s = record s { mail = g s.mail }

module _ (k : Resources) where
  abbrev pub with_store : Store → Resources
  with_store s = record k { store = s }

  abbrev pub awaiting : ℕ → Bool → Resources
  awaiting t b = record k { awaits = put k.awaits t b }

  -- the resources of one facility become others, and all else stays
  abbrev pub cleanups_become : (Stacks → Stacks) → Resources
  cleanups_become g = with_store (with_cleanups g k.store)

  abbrev pub keys_become : (Tables → Tables) → Resources
  keys_become g = with_store (with_keys g k.store)

  abbrev pub mutexes_become : (MutexTable → MutexTable) → Resources
  mutexes_become g = with_store (with_mutexes g k.store)

  abbrev pub locks_become : (LockTables → LockTables) → Resources
  locks_become g = with_store (with_rw_locks g k.store)

  abbrev pub ports_become : (PortNames → PortNames) → (Mail → Mail) → Resources
  ports_become g h = with_store (with_ports g h k.store)

  abbrev pub mail_becomes : (Mail → Mail) → Resources
  mail_becomes g = with_store (with_mail g k.store)
