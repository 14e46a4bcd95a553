-- What a kill leaves: only what the thread that calls it has (pth_kill). Nothing else needs these definitions.
use Rattle.std.specs.Prelude.{ℕ, ◌==◌, ◌&&◌, pos, [], Option, None, if◌then◌else◌}
use Rattle.pth_lock.specs.Mutexes.{MutexTable, free_mutex, is_anothers}
use Rattle.pth_lock.specs.RwLocks.{LockTables, is_one}
use Rattle.pth_model.specs.Store.{Store, Resources}

-- what a table has at t alone
abbrev pub only_at : {A : Type 0} → ℕ → (ℕ → Option A) → ℕ → Option A
only_at t f u = if u == t then f u else None

-- mutexes of others are free
abbrev pub mutexes_of_only : ℕ → MutexTable → MutexTable
mutexes_of_only t x m = if is_anothers t (x m) then free_mutex else x m

-- locks that only others hold are free
abbrev pub locks_of_only : ℕ → LockTables → LockTables
locks_of_only t x = record x {
  writer = λ l. if is_one t (x.writer l) then x.writer l else None;
  reads = λ l u. (u == t) && x.reads l u;
  readers = λ l. if x.reads l t then 1 else 0;
}

abbrev pub store_of_only : ℕ → Store → Store
store_of_only t s = record s {
  cleanups = λ u. if u == t then s.cleanups u else [];
  keys = record { keys = s.keys.keys; values = λ k u. if u == t then s.keys.values k u else pos 0 };
  mutexes = mutexes_of_only t s.mutexes;
  rw_locks = locks_of_only t s.rw_locks;
}

-- only what thread t has is left (pth_kill)
abbrev pub of_only : ℕ → Resources → Resources
of_only t k = record k {
  store = store_of_only t k.store;
  awaits = λ u. (u == t) && k.awaits u;
}
