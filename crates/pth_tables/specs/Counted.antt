-- What is kept beside the queues: how many stand in each, and what tells their ranks.
use Rattle.std.specs.Prelude.{◌≡◌, ◌≤◌, ℕ, ℤ, pos, neg_ℤ, ◌+ℤ◌, ◌≤ℤ◌, List, All, length, Option}
use Rattle.std.specs.Int.{w64, int_wrap}
use Rattle.pth_base.specs.Table.{table}
use Rattle.pth_queue.specs.declared.queue.Queue.{Queue}
use Rattle.pth_queue.specs.declared.queue.Queue.TheVariants.{New, Ready, Waiting, Suspended, Dead}
use Rattle.pth_queue.specs.declared.ranked.Ranked.{Ranked}
use Rattle.pth_queue.specs.Arena.{slots_of}
use Rattle.pth_queue.specs.Queues.{QueuesOf, rows_of}
use Rattle.pth_tables.specs.declared.counted_queues.PerQueue.{PerQueue}
use Rattle.pth_tables.specs.Waits.{WaitsOf, KeptWaits, waits_of}
use Rattle.pth_tables.specs.declared.mark.Mark.{Mark}
use Rattle.pth_tables.specs.DueTable.{IsTable}
use Rattle.pth_tables.specs.Marks.{IsMarked}

-- what is kept of one queue
abbrev pub kept_of : {A : Type 0} → Queue → PerQueue A → A
kept_of New all = all.new
kept_of Ready all = all.ready
kept_of Waiting all = all.waiting
kept_of Suspended all = all.suspended
kept_of Dead all = all.dead

-- something else for one queue
abbrev pub with_kept : {A : Type 0} → Queue → A → PerQueue A → PerQueue A
with_kept New x all = record all { new = x }
with_kept Ready x all = record all { ready = x }
with_kept Waiting x all = record all { waiting = x }
with_kept Suspended x all = record all { suspended = x }
with_kept Dead x all = record all { dead = x }

-- the lengths are those of the queues
abbrev pub AreCounted : QueuesOf → PerQueue ℕ → Type 0
AreCounted queues lengths = (q : Queue) → kept_of q lengths ≡ length (rows_of q queues)

-- two numbers of which the last 64 bits are the same
abbrev pub AreAlike : ℤ → ℤ → Type 0
AreAlike a b = int_wrap w64 a ≡ int_wrap w64 b

-- a rank is the height of its slot and the raises of its queue: the height is the rank on entry, less the raises before it
abbrev pub IsRaisedHeight : List ℤ → ℤ → Ranked → Type 0
IsRaisedHeight heights raises r = AreAlike (table (pos 0) heights r.holder +ℤ raises) r.rank

abbrev pub AreRaisedHeights : QueuesOf → PerQueue ℤ → List ℤ → Type 0
AreRaisedHeights queues raises heights = (q : Queue) → All (IsRaisedHeight heights (kept_of q raises)) (rows_of q queues)

-- no thread is ready at a lower rank than those at which threads enter
abbrev pub IsHigh : Ranked → Type 0
IsHigh r = neg_ℤ (pos 20) ≤ℤ r.rank

-- what holds of the waits of the ready threads, which are kept for so many slots, and of the table beside them
pub record AreWaitsBeside (queues : QueuesOf) (x : WaitsOf) (slots : ℕ) (due : List ℕ) : Type 0 where
  -- for each slot that may be used a wait is kept
  pub room : queues.room ≤ slots
  -- so no grace is more than 41
  pub top : x.top ≡ queues.top
  pub high : All IsHigh queues.ready
  pub table : IsTable (slots_of queues.ready) x.dispatches x.waits due

pub record AreKeptBeside (queues : QueuesOf) (lengths : PerQueue ℕ) (raises : PerQueue ℤ) (heights : List ℤ) (waits : KeptWaits) (due : List ℕ) (mark : Option Mark) : Type 0 where
  pub counts : AreCounted queues lengths
  -- each slot that may be used has a height
  pub room : queues.room ≤ length heights
  pub tells : AreRaisedHeights queues raises heights
  pub beside : AreWaitsBeside queues (waits_of waits) (length waits.slots) due
  pub marked : IsMarked (slots_of queues.ready) mark
