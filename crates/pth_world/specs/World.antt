-- What contracts see of a world: its parts, in the groups of the state, those of threads by slot.
--
-- A world shows no raises and no entry numbers, since no code reads them. A contract is said of every state that the world
-- represents.
use Rattle.std.specs.Prelude.{ℕ, Bool, List, [], Option, None}
use Rattle.pth_base.specs.Naming.{seen}
use Rattle.pth_base.specs.Program.{Functions}
use Rattle.pth_threads.specs.Attributes.{AttrsOf}
use Rattle.pth_threads.specs.Threads.{ThreadsOf, slot_of, entry_at}
use Rattle.pth_threads.specs.declared.entry.Entry.{Entry}
use Rattle.pth_queue.specs.Queues.{QueuesOf}
use Rattle.pth_tables.specs.Waits.{KeptWaits}
use Rattle.pth_ring.specs.Arena.{RingsOf}
use Rattle.pth_cond.specs.Conditions.{Condition}
use Rattle.pth_cond.specs.Barriers.{Barrier}
use Rattle.pth_kernel.specs.Kernel.{KernelOf}
use Rattle.pth_model.specs.declared.progress.Progress.{Progress}
use Rattle.pth_model.specs.State.{Control, Scheduler, Given, start}
use Rattle.pth_world.specs.Store.{StoreOf}

-- the threads by slot: their records, where they stand, how long they wait, and how far each is in its program
pub record ThreadsBySlot (S : Type 0) : Type 0 where
  pub records : ThreadsOf
  pub queues : QueuesOf
  -- how long the ready threads wait
  pub waits : KeptWaits
  pub progress : List (Option (Progress S))

-- the record of a thread, none where it is not in the system
abbrev pub entry_in : {S : Type 0} → ThreadsBySlot S → ℕ → Option Entry
entry_in x t = seen None (slot_of x.records) (entry_at x.records) t

pub record WorldOf (P S H : Type 0) : Type 0 where
  pub program : P
  pub shared : H
  pub threads : ThreadsBySlot S
  pub attributes : AttrsOf
  pub events : RingsOf
  pub conditions : List Condition
  pub barriers : List (Option Barrier)
  pub kernel : KernelOf
  -- what threads have stored, by their numbers
  pub store : StoreOf
  -- by number, whether a once control was used (pth_once)
  pub used : List Bool
  pub scheduler : Scheduler

-- from what a run starts, before the main thread is made
abbrev pub before_main : {P S H : Type 0} → (P → Functions S H) → Given P → Control P S H
before_main f g = let k = (start f g).control in record k { threads = record { made = 0; known = λ t. None; progress = λ t. None; standing = λ q. []; entries = 0; raises = 0; trail = [] } }
