-- The threads in the system: their records by slot, found by the threads' numbers.
use Rattle.std.specs.Prelude.{◌≡◌, ◌+◌, ◌<◌, ◌≤◌, ℕ, pos, false, Option, Some, None, option_map}
use Rattle.pth_base.specs.Limits.{thread_limit, last_count}
use Rattle.pth_base.specs.Table.{put}
use Rattle.pth_base.specs.Naming.{IsTied}
use Rattle.pth_base.specs.declared.ids.Tid.{Tid}
use Rattle.pth_base.specs.declared.thread.ThreadState.TheVariants.{New}
use Rattle.pth_numbered.specs.Numbered.{NumberedOf, thing_at, number_at}
use Rattle.pth_threads.specs.declared.entry.Entry.{Entry}
use Rattle.pth_threads.specs.declared.entry.NewThread.{NewThread}
use Rattle.pth_threads.specs.declared.entry.Change.{Change}
use Rattle.pth_threads.specs.declared.entry.Change.TheVariants as change
pub use Rattle.pth_numbered.specs.Numbered.{slot_of, count}

-- the records with the threads' numbers, and how many threads were ever made. A thread's slot and how many there are, `slot_of`
-- and `count`, are those of all that is numbered
abbrev pub ThreadsOf : Type 0
ThreadsOf = NumberedOf Entry

-- a thread's number, and the thread of a number
abbrev pub number_of : Tid → ℕ
number_of t = t.0

abbrev pub tid_from : ℕ → Tid
tid_from n = record { 0 = n }

-- the record at a slot
unfoldable pub entry_at : ThreadsOf → ℕ → Option Entry
entry_at x u = thing_at x u

-- the number of a record, 0 where there is none
abbrev pub tid_of : Option Entry → ℕ
tid_of (Some e) = e.tid.0
tid_of None = 0

-- the number of the thread at a slot, 0 where the slot is not in use
unfoldable pub tid_at : ThreadsOf → ℕ → ℕ
tid_at x u = tid_of (entry_at x u)

-- a record with one field set
unfoldable pub changed : Change → Entry → Entry
changed (change.Prio prio) e = record e { prio = prio }
changed (change.Name name) e = record e { name = name }
changed (change.Joinable joinable) e = record e { joinable = joinable }
changed (change.Cancel cancel) e = record e { cancel = cancel }
changed (change.Request request) e = record e { request = request }
changed (change.State state) e = record e { state = state }
changed (change.Suspended suspended) e = record e { suspended = suspended }
changed (change.Dispatches dispatches) e = record e { dispatches = dispatches }
changed (change.Value value) e = record e { value = value }

-- a count of dispatches is one that an `i64` holds
abbrev pub IsCountable : Change → Type 0
IsCountable (change.Dispatches dispatches) = dispatches ≤ last_count
IsCountable _ = Unit {0}

-- the record of a new thread
unfoldable pub made_of : NewThread → ℕ → Entry
made_of of tid = record {
  tid = record { 0 = tid };
  prio = of.prio;
  name = of.name;
  joinable = of.joinable;
  cancel = of.cancel;
  request = false;
  state = New;
  suspended = false;
  dispatches = 0;
  value = pos 0;
}

-- what holds of the threads at every moment, beside what holds of all that is numbered
pub record AreThreadsKept (x : ThreadsOf) : Type 0 where
  -- each record has the number by which it is found
  pub named : number_at x ≡ tid_at x
  pub limit : x.limit ≡ thread_limit
  -- each count of dispatches is one that an `i64` holds
  pub countable : (u : ℕ) (e : Entry) → entry_at x u ≡ Some e → e.dispatches ≤ last_count

-- a new thread at a slot that was not in use
pub record AddsThread (old new : ThreadsOf) (u : ℕ) (e : Entry) : Type 0 where
  pub unused : tid_at old u ≡ 0
  pub unknown : slot_of old e.tid.0 ≡ None
  pub low : u < thread_limit
  pub slots : slot_of new ≡ put (slot_of old) e.tid.0 (Some u)
  pub tids : tid_at new ≡ put (tid_at old) u e.tid.0
  pub entries : entry_at new ≡ put (entry_at old) u (Some e)
  pub count : count new ≡ count old + 1
  pub made : new.made ≡ e.tid.0
  pub tied : IsTied (slot_of new) (tid_at new)

-- one field of the record at a slot is set
pub record ChangesThread (old new : ThreadsOf) (u : ℕ) (c : Change) : Type 0 where
  pub slots : slot_of new ≡ slot_of old
  pub tids : tid_at new ≡ tid_at old
  pub entries : entry_at new ≡ put (entry_at old) u (option_map (changed c) (entry_at old u))
  pub count : count new ≡ count old
  pub made : new.made ≡ old.made

-- a thread is gone, and its slot is not in use
pub record RemovesThread (old new : ThreadsOf) (u : ℕ) : Type 0 where
  pub slots : slot_of new ≡ put (slot_of old) (tid_at old u) None
  pub tids : tid_at new ≡ put (tid_at old) u 0
  pub entries : entry_at new ≡ put (entry_at old) u None
  pub count : count new + 1 ≡ count old
  pub made : new.made ≡ old.made
  pub tied : IsTied (slot_of new) (tid_at new)

-- the same threads
pub record IsSame (old new : ThreadsOf) : Type 0 where
  pub slots : slot_of new ≡ slot_of old
  pub tids : tid_at new ≡ tid_at old
  pub entries : entry_at new ≡ entry_at old
  pub count : count new ≡ count old
  pub made : new.made ≡ old.made
