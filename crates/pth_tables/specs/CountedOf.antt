-- What contracts see of counted queues, and its changes.
use Rattle.std.specs.Prelude.{◌≡◌, ℕ, Bool, ℤ, pos, neg_ℤ, ◌≤ℤ◌, ◌^◌, Option, Some}
use Rattle.pth_queue.specs.Arena.{slots_of}
use Rattle.pth_queue.specs.Queues.{QueuesOf, IsRank, no_queues, queue_of, entered, without}
use Rattle.pth_queue.specs.declared.queue.Queue.{Queue}
use Rattle.pth_queue.specs.declared.queue.Queue.TheVariants.{New, Ready, Waiting, Suspended, Dead}
use Rattle.pth_tables.specs.Waits.{WaitsOf, KeptWaits, waits_of, no_waits, enters_ready, leaves_ready, takes_ready}

-- the queues, and what is kept for the waits of the ready threads
pub record CountedOf : Type 0 where
  pub queues : QueuesOf
  pub waits : WaitsOf

-- the same, as it is kept
pub record KeptQueues : Type 0 where
  pub queues : QueuesOf
  pub waits : KeptWaits

abbrev pub counted : KeptQueues → CountedOf
counted kept = record { queues = kept.queues; waits = waits_of kept.waits }

abbrev pub nothing_counted : ℕ → CountedOf
nothing_counted top = record { queues = no_queues top; waits = no_waits top }

-- a rank at which threads enter the ready queue: a base priority is -20 at least
pub record IsEntryRank (rank : ℤ) : Type 0 where
  pub low : neg_ℤ (pos 20) ≤ℤ rank
  pub high : rank ≤ℤ pos (2 ^ 40)

-- a rank at which a thread may enter this queue: one that queues take, and where waits are counted, one at which threads are ready
pub record MayEnter (q : Queue) (rank : ℤ) : Type 0 where
  pub taken : IsRank rank
  pub ready : q ≡ Ready → IsEntryRank rank

-- only of the ready queue waits are counted
abbrev pub waits_with : Queue → ℕ → ℤ → Bool → WaitsOf → WaitsOf
waits_with Ready s rank top x = enters_ready s rank top x
waits_with New s rank top x = x
waits_with Waiting s rank top x = x
waits_with Suspended s rank top x = x
waits_with Dead s rank top x = x

abbrev pub waits_without : Option Queue → ℕ → WaitsOf → WaitsOf
waits_without (Some Ready) s x = leaves_ready s x
waits_without q s x = x

-- the thread of a slot enters a queue
abbrev pub enters_counted : Queue → ℤ → ℕ → Bool → CountedOf → CountedOf
enters_counted q rank s top c = record { queues = entered q rank s c.queues; waits = waits_with q s rank top c.waits }

-- it leaves its queue
abbrev pub leaves_counted : ℕ → CountedOf → CountedOf
leaves_counted s c = record { queues = without s c.queues; waits = waits_without (queue_of s c.queues) s c.waits }

-- it is dispatched, by name or not
abbrev pub takes_counted : ℕ → Bool → CountedOf → CountedOf
takes_counted s by_name c = record { queues = without s c.queues; waits = takes_ready by_name (slots_of c.queues.ready) c.waits }
