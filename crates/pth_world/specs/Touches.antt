-- What a change of one thread leaves of the others.
use Rattle.std.specs.Prelude.{◌≡◌, ◌≢◌, ℕ, Option, Some, option_map}
use Rattle.pth_queue.specs.declared.queue.Queue.{Queue}
use Rattle.pth_threads.specs.Threads.{slot_of, tid_at, changed}
use Rattle.pth_threads.specs.declared.entry.Change.{Change}
use Rattle.pth_threads.specs.declared.entry.Change.TheVariants as change
use Rattle.pth_model.specs.declared.blocked.Blocked.{Blocked}
use Rattle.pth_world.specs.World.{WorldOf, ThreadsBySlot}
use Rattle.pth_world.specs.WellFormed.{View, view}

-- the others have what they had, and this one what the change makes of it; the greatest base priority is the same
pub record Touches {S : Type 0} (old new : ThreadsBySlot S) (t : ℕ) (change : View → View) : Type 0 where
  pub own : (u : ℕ) → slot_of old.records t ≡ Some u → view new u ≡ change (view old u)
  pub others : (u : ℕ) → tid_at old.records u ≢ t → view new u ≡ view old u
  pub top : new.queues.top ≡ old.queues.top

-- a field that says neither a thread's state nor where it stands
abbrev pub IsAside : Change → Type 0
IsAside (change.State state) = ⊥
IsAside (change.Suspended b) = ⊥
IsAside c = Unit {0}

-- the changes: a field of the record is set, the thread stands in another queue or in none, or another call blocks it
abbrev pub view_changed : Change → View → View
view_changed c v = record v { entry = option_map (changed c) v.entry }

abbrev pub view_placed : Option Queue → View → View
view_placed q v = record v { place = q }

abbrev pub view_blocked : Option Blocked → View → View
view_blocked b v = record v { blocked = b }

abbrev pub same_view : View → View
same_view v = v

-- the same threads are in the system, at the same slots
pub record SameThreads {S : Type 0} (old new : ThreadsBySlot S) : Type 0 where
  pub slots : slot_of new.records ≡ slot_of old.records
  pub tids : tid_at new.records ≡ tid_at old.records
  pub made : new.records.made ≡ old.records.made

-- nothing is changed but the queues, and the waits beside them
abbrev pub SameButQueues : {P S H : Type 0} → (old new : WorldOf P S H) → Type 0
SameButQueues old new = new ≡ record old { threads = record old.threads { queues = new.threads.queues; waits = new.threads.waits } }

-- nor but the records of threads
abbrev pub SameButStates : {P S H : Type 0} → (old new : WorldOf P S H) → Type 0
SameButStates old new = new ≡ record old {
  threads = record old.threads { records = new.threads.records; queues = new.threads.queues; waits = new.threads.waits };
}

-- what a change of threads leaves as it was: all but the threads, the shared value, and what is kept of events
pub record KeepsRest {P S H : Type 0} (old new : WorldOf P S H) : Type 0 where
  pub program : new.program ≡ old.program
  pub attributes : new.attributes ≡ old.attributes
  pub events : new.events.made ≡ old.events.made
  pub conditions : new.conditions ≡ old.conditions
  pub barriers : new.barriers ≡ old.barriers
  pub kernel : new.kernel ≡ old.kernel
  pub store : new.store ≡ old.store
  pub used : new.used ≡ old.used
  pub scheduler : new.scheduler ≡ old.scheduler
