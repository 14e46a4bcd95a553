-- What every change of a world's threads keeps.
use Rattle.std.specs.Prelude.{◌≡◌, ◌≢◌, ◌<◌, ℕ, ℤ, pos, neg_ℤ, ◌≤ℤ◌, true, length, Option, None, IsSome, IfSome}
use Rattle.pth_base.specs.Limits.{thread_limit}
use Rattle.pth_base.specs.Table.{table}
use Rattle.pth_base.specs.Naming.{IsTied, seen}
use Rattle.pth_queue.specs.Ranking.{IsQueued}
use Rattle.pth_queue.specs.Queues.{rows_of, IsOrderly}
use Rattle.pth_queue.specs.declared.queue.Queue.{Queue}
use Rattle.pth_threads.specs.Threads.{slot_of, tid_at, entry_at, count}
use Rattle.pth_threads.specs.declared.entry.Change.{Change}
use Rattle.pth_threads.specs.declared.entry.Change.TheVariants as change
use Rattle.pth_threads.specs.declared.entry.Entry.{Entry}
use Rattle.pth_numbered.specs.Numbered.{number_known}
pub use Rattle.pth_model.specs.Living.{lives}
use Rattle.pth_world.specs.World.{ThreadsBySlot, entry_in}

-- slots that are not used have nothing
abbrev pub IsBare : {A : Type 0} → A → (ℕ → ℕ) → (ℕ → A) → Type 0
IsBare d tid_at f = (u : ℕ) → tid_at u ≡ 0 → f u ≡ d

-- a base priority as a world keeps it: that it is one that can be set (`IsSetPrio`) is a law of runs
pub record IsPrio (prio : ℤ) : Type 0 where
  pub low : neg_ℤ (pos 20) ≤ℤ prio
  pub high : prio ≤ℤ pos 20

-- the record of a thread, if there is one, has such a base priority
abbrev pub HasPrio : Option Entry → Type 0
HasPrio o = IfSome o (λ e. IsPrio e.prio)

-- a change of a record that leaves the base priority, or sets it to such a one
abbrev pub KeepsPrio : Change → Type 0
KeepsPrio (change.Prio prio) = IsPrio prio
KeepsPrio c = Unit {0}

-- names are tied to slots, and each part speaks of threads in the system alone
pub record IsSound {S : Type 0} (x : ThreadsBySlot S) : Type 0 where
  pub tied : IsTied (slot_of x.records) (tid_at x.records)
  -- later numbers are not used
  pub fresh : (t : ℕ) → x.records.made < t → slot_of x.records t ≡ None
  -- a slot that is not used has no record and no program
  pub empty : IsBare None (tid_at x.records) (entry_at x.records)
  pub bare : IsBare None (tid_at x.records) (table None x.progress)
  -- each thread in the system is somewhere in its program
  pub recorded : (u : ℕ) → tid_at x.records u ≢ 0 → IsSome (table None x.progress u)
  pub queued : (q : Queue) → IsQueued (tid_at x.records) (rows_of q x.queues)
  pub room : x.queues.room ≡ thread_limit
  -- each queue is in order, and no slot stands in two
  pub orderly : IsOrderly x.queues
  pub long : length x.progress ≡ thread_limit
  -- the threads are counted by slot as by number
  pub present : number_known (seen None (slot_of x.records) (entry_at x.records)) x.records.made ≡ count x.records

-- the thread is in the system
abbrev pub IsKnown : {S : Type 0} → ThreadsBySlot S → ℕ → Type 0
IsKnown x t = IsSome (slot_of x.records t)

-- the thread is in the system, and not dead
abbrev pub IsAlive : {S : Type 0} → ThreadsBySlot S → ℕ → Type 0
IsAlive x t = lives (entry_in x t) ≡ true
