-- How the threads of a world, where they stand, and what they have stored fit each other between two calls; and all threads but one
-- while that thread is changed. What holds of waits besides is a part of `Whole` (pth_end).
use Rattle.std.specs.Prelude.{◌≡◌, ◌≢◌, ◌≤◌, ◌<◌, ◌^◌, ℕ, ℤ, length, Bool, true, false, Option, Some, None, IfSome}
use Rattle.pth_base.specs.Limits.{last_moment}
use Rattle.pth_base.specs.Table.{table}
use Rattle.pth_base.specs.declared.call.Call.{Call}
use Rattle.pth_base.specs.declared.ids.FdSet.{FdSet}
use Rattle.pth_base.specs.declared.call.Call.TheVariants as call
use Rattle.pth_base.specs.declared.thread.ThreadState.{ThreadState}
use Rattle.pth_base.specs.declared.thread.ThreadState.TheVariants as state
use Rattle.pth_queue.specs.Queues.{queue_of}
use Rattle.pth_queue.specs.declared.queue.Queue.{Queue}
use Rattle.pth_queue.specs.declared.queue.Queue.TheVariants as queue
use Rattle.pth_threads.specs.Threads.{slot_of, tid_at, entry_at}
use Rattle.pth_threads.specs.declared.entry.Entry.{Entry}
use Rattle.pth_model.specs.declared.awaits.Awaits.{Awaits}
use Rattle.pth_model.specs.declared.awaits.Awaits.TheVariants.{Alone, Moment, Ring, Reading, Writing, Connection, ConnectAnswer, Selection, Mutex, Lock, Notice, Retaking}
use Rattle.pth_model.specs.declared.blocked.Blocked.{Blocked}
use Rattle.pth_model.specs.Awaits.{IsRound, death_of}
use Rattle.pth_model.specs.State.{main}
use Rattle.pth_model.specs.Changes.{blocked_in, queue_for}
use Rattle.pth_world.specs.Store.{store_of, HasNothing}
use Rattle.pth_world.specs.World.{WorldOf, ThreadsBySlot, entry_in}
use Rattle.pth_world.specs.Sound.{IsSound, IsKnown, IsPrio, lives}

-- what there is at a slot
pub record View : Type 0 where
  pub entry : Option Entry
  pub place : Option Queue
  pub blocked : Option Blocked

abbrev pub view : {S : Type 0} → ThreadsBySlot S → ℕ → View
view x u = record { entry = entry_at x.records u; place = queue_of u x.queues; blocked = blocked_in (table None x.progress u) }

-- where a thread stands: a suspended one in no queue of its state
abbrev pub place_for : ThreadState → Bool → Option Queue
place_for state true = Some queue.Suspended
place_for state false = queue_for state

-- a wait for a moment, which is not after the last
abbrev pub IsMoment : Awaits → Type 0
IsMoment (Moment m) = m ≤ last_moment
IsMoment a = ⊥

-- a write of so many bytes, of which not more than these are written
abbrev pub IsWriting : ℤ → ℕ → Awaits → Type 0
IsWriting f n (Writing g total written) = (g ≡ f) × (total ≡ n) × (written ≤ total) × (total < 2 ^ 63)
IsWriting f n a = ⊥

-- a select of these sets, whose deadline is not after the last moment
abbrev pub IsSelection : (r w x : FdSet) → Awaits → Type 0
IsSelection r w x (Selection a b c deadline) = (a ≡ r) × (b ≡ w) × (c ≡ x) × IfSome deadline (λ m. m ≤ last_moment)
IsSelection r w x a = ⊥

-- a notice at this condition is awaited, or this mutex is to be taken back
abbrev pub IsAwait : (c m : ℤ) → Awaits → Type 0
IsAwait c m (Notice d) = d ≡ c
IsAwait c m (Retaking n o) = n ≡ m
IsAwait c m a = ⊥

-- What a call that blocks thread t waits for. These calls may block it: main's exit, every join, and the calls that wait for a moment, for
-- a ring, for a descriptor, for a mutex, for a lock, at a condition or at a barrier.
abbrev pub MayAwaitAs : ℕ → Call → Awaits → Type 0
MayAwaitAs t (call.Exit v) a = (t ≡ main) × (a ≡ Alone)
MayAwaitAs t (call.Join n) a = a ≡ death_of n
MayAwaitAs t (call.Nap n) a = IsMoment a
MayAwaitAs t (call.Usleep n) a = IsMoment a
MayAwaitAs t (call.Sleep n) a = IsMoment a
MayAwaitAs t (call.Wait e) a = a ≡ Ring e
MayAwaitAs t (call.Read f n) a = a ≡ Reading f n
MayAwaitAs t (call.ReadEv f n e) a = a ≡ Reading f n
MayAwaitAs t (call.Write f bytes) a = IsWriting f (length bytes) a
MayAwaitAs t (call.WriteEv f bytes e) a = IsWriting f (length bytes) a
MayAwaitAs t (call.Accept f) a = a ≡ Connection f
MayAwaitAs t (call.AcceptEv f e) a = a ≡ Connection f
MayAwaitAs t (call.Connect f) a = a ≡ ConnectAnswer f
MayAwaitAs t (call.ConnectEv f e) a = a ≡ ConnectAnswer f
MayAwaitAs t (call.Select r w x l) a = IsSelection r w x a
MayAwaitAs t (call.SelectEv r w x l e) a = IsSelection r w x a
MayAwaitAs t (call.MutexAcquire m v e) a = a ≡ Mutex m
MayAwaitAs t (call.RwAcquire l write v e) a = a ≡ Lock l write
MayAwaitAs t (call.CondAwait c m e) a = IsAwait c m a
MayAwaitAs t (call.BarrierReach b) a = IsRound b a
MayAwaitAs t c a = ⊥

-- so a call may block thread t
abbrev pub MayBlock : ℕ → Blocked → Type 0
MayBlock t b = MayAwaitAs t b.call b.awaits

-- what is awaited of a write is not more than its bytes, and no moment is after the last
abbrev pub MayAwait : Awaits → Type 0
MayAwait (Writing f total written) = (written ≤ total) × (total < 2 ^ 63)
MayAwait (Moment m) = m ≤ last_moment
MayAwait (Selection r w x (Some deadline)) = deadline ≤ last_moment
MayAwait a = Unit {0}

-- only a new, ready or waiting thread may be suspended (pth_suspend)
abbrev pub CanSuspend : ThreadState → Type 0
CanSuspend state.Running = ⊥
CanSuspend state.Dead = ⊥
CanSuspend s = Unit {0}

-- such a thread may stand in this queue, as one that is suspended or not
abbrev pub MayStandIn : Queue → Bool → ThreadState → Type 0
MayStandIn q suspended state = (Some q ≡ place_for state suspended) × CanSuspend state

-- what holds of each thread in the system: its base priority is one of a world, it stands in exactly the queue of its state,
-- the thread that runs is the one that is running, and the call that blocks it is one that may
pub record IsFitting (running : Option ℕ) (e : Entry) (place : Option Queue) (blocked : Option Blocked) : Type 0 where
  pub prio : IsPrio e.prio
  pub placed : place ≡ place_for e.state e.suspended
  pub runs : running ≡ Some e.tid.0 → e.state ≡ state.Running
  pub named : e.state ≡ state.Running → running ≡ Some e.tid.0
  pub awake : e.suspended ≡ true → CanSuspend e.state
  pub calls : IfSome blocked (λ b. MayBlock e.tid.0 b)

abbrev pub FitsEntry : Option ℕ → Option Entry → Option Queue → Option Blocked → Type 0
FitsEntry running None place blocked = Unit {0}
FitsEntry running (Some e) place blocked = IsFitting running e place blocked

abbrev pub Fits : Option ℕ → View → Type 0
Fits running v = FitsEntry running v.entry v.place v.blocked

-- whoever runs is in the system
abbrev pub IsRunner : {P S H : Type 0} → WorldOf P S H → Type 0
IsRunner w = IfSome w.scheduler.running (λ t. IsKnown w.threads t)

-- and so, unless it is t
abbrev pub IsRunnerBut : {P S H : Type 0} → WorldOf P S H → ℕ → Type 0
IsRunnerBut w t = IfSome w.scheduler.running (λ r. r ≢ t → IsKnown w.threads r)

-- a thread has something stored only while it is alive
abbrev pub StoresAlive : {P S H : Type 0} → WorldOf P S H → ℕ → Type 0
StoresAlive w t = lives (entry_in w.threads t) ≡ false → HasNothing (store_of w.store) t

-- the threads of a world, where they stand, and what they have stored fit each other
pub record WellFormed {P S H : Type 0} (w : WorldOf P S H) : Type 0 where
  pub sound : IsSound w.threads
  pub fits : (u : ℕ) → Fits w.scheduler.running (view w.threads u)
  pub runner : IsRunner w
  pub stored : (t : ℕ) → StoresAlive w t
  -- priorities are set up to the same greatest one as the queues have
  pub top : w.attributes.top ≡ w.threads.queues.top

-- what holds of it while thread t is changed: all but what is said of t itself. Nor need t be in the system if it runs.
pub record WellFormedBut {P S H : Type 0} (w : WorldOf P S H) (t : ℕ) : Type 0 where
  pub sound : IsSound w.threads
  pub fits : (u : ℕ) → tid_at w.threads.records u ≢ t → Fits w.scheduler.running (view w.threads u)
  pub runner : IsRunnerBut w t
  pub stored : (u : ℕ) → u ≢ t → StoresAlive w u
  pub top : w.attributes.top ≡ w.threads.queues.top

-- nobody but t runs
abbrev pub IsAbout : Option ℕ → ℕ → Type 0
IsAbout running t = (r : ℕ) → running ≡ Some r → r ≡ t

-- the thread is in the system and stands in this queue
abbrev pub IsIn : {S : Type 0} → Queue → ThreadsBySlot S → ℕ → Type 0
IsIn q x t = IfSome (slot_of x.records t) (λ u. queue_of u x.queues ≡ Some q)

-- the queues in which a thread waits to be ready
pub data IsBefore : Queue → Type 0 where
  Newly : IsBefore queue.New
  Waiting : IsBefore queue.Waiting

-- the thread stands in one of these
pub record IsBeforeReady {S : Type 0} (x : ThreadsBySlot S) (t : ℕ) : Type 0 where
  pub queue : Queue
  pub before : IsBefore queue
  pub stands : IsIn queue x t

-- the queues of threads that are new or ready
pub data IsRunnable : Queue → Type 0 where
  OfNew : IsRunnable queue.New
  OfReady : IsRunnable queue.Ready

-- the thread is new or ready, and not suspended: to it a yield may give control (pth_yield)
pub record WaitsToRun {S : Type 0} (x : ThreadsBySlot S) (t : ℕ) : Type 0 where
  pub known : IsKnown x t
  pub queue : Queue
  pub runnable : IsRunnable queue
  pub stands : IsIn queue x t
