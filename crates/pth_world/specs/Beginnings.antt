-- The parts of a world that has no thread yet, and such a world.
use Rattle.std.specs.Prelude.{◌≡◌, ◌<◌, ℕ, List, length, Option, None}
use Rattle.pth_base.specs.Limits.{thread_limit}
use Rattle.pth_base.specs.Program.{Functions}
use Rattle.pth_base.specs.Table.{table}
use Rattle.pth_lock.specs.Mutexes.{MutexTable, no_mutexes}
use Rattle.pth_lock.specs.RwLocks.{LockTables, no_locks}
use Rattle.pth_model.specs.Store.{no_resources}
use Rattle.pth_model.specs.State.{Given}
use Rattle.pth_model.specs.declared.progress.Progress.{Progress}
use Rattle.pth_queue.specs.Queues.{no_queues}
use Rattle.pth_tables.specs.CountedOf.{CountedOf, KeptQueues, counted, nothing_counted}
use Rattle.pth_threads.specs.Threads.{count}
use Rattle.pth_world.specs.Shows.{Shows}
use Rattle.pth_world.specs.Store.{store_of}
use Rattle.pth_world.specs.WellFormed.{WellFormed}
use Rattle.pth_world.specs.World.{WorldOf, before_main}

-- queues with nobody, in which as many threads may stand as there may be
abbrev pub reserved_for : ℕ → CountedOf
reserved_for top = record (nothing_counted top) { queues = record (no_queues top) { room = thread_limit } }

-- parts that keep nothing yet, with room for as many threads as there may be
pub record AreEmpty {S : Type 0} (top : ℕ) (q : KeptQueues) (y : List (Option (Progress S))) (m : MutexTable) (l : LockTables) : Type 0 where
  pub queues : counted q ≡ reserved_for top
  pub none : table None y ≡ (λ _. None)
  pub long : length y ≡ thread_limit
  pub mutexes : m ≡ no_mutexes
  pub locks : l ≡ no_locks

-- a world before its main thread is made: it shows the control from which a run starts, and nothing is stored
pub record IsBeforeMain {P S H : Type 0} (f : P → Functions S H) (g : Given P) (w : WorldOf P S H) : Type 0 where
  pub shows : Shows w (before_main f g)
  pub store : store_of w.store ≡ no_resources.store
  pub whole : WellFormed w
  -- no number of a thread, an attribute object, an event or a port was given
  pub made : w.threads.records.made ≡ 0
  pub objects : w.attributes.objects.made ≡ 0
  pub events : w.events.made ≡ 0
  pub ports : w.store.ports.made ≡ 0
  pub count : count w.threads.records ≡ 0
  pub queues : w.threads.queues ≡ record (no_queues g.top) { room = thread_limit }
  -- there is a body for main
  pub bodies : 0 < (f w.program).bodies
