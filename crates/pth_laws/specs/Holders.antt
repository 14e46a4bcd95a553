-- Who holds read-write locks in a state, to write or to read (pth_rwlock_acquire, pth_rwlock_release).
use Rattle.std.specs.Prelude.{◌≡◌, ◌+◌, ℕ, true, false, Some}
use Rattle.pth_lock.specs.RwLocks.{holds, count_below}
use Rattle.pth_model.specs.Living.{is_made}
use Rattle.pth_model.specs.State.{State}

pub record AreHoldersApart {P S H : Type 0} (s : State P S H) : Type 0 where
  -- no thread has two holds of one lock: who writes under it does not read under it as well
  pub once : (t l : ℕ) → s.resources.store.rw_locks.writer l ≡ Some t → s.resources.store.rw_locks.reads l t ≡ false
  -- a writer's hold of a lock is the only one
  pub alone : (t u l : ℕ) → s.resources.store.rw_locks.writer l ≡ Some t → holds s.resources.store.rw_locks u l ≡ true → u ≡ t
  -- who holds a lock was made
  pub made : (t l : ℕ) → holds s.resources.store.rw_locks t l ≡ true → is_made s.control.threads.made t ≡ true
  -- the count of a lock's readers is how many of the threads that were made read under it
  pub counted : (l : ℕ) → s.resources.store.rw_locks.readers l ≡ count_below (s.resources.store.rw_locks.reads l) (s.control.threads.made + 1)
