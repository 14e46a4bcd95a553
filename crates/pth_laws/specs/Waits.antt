-- What a thread waits for while a call blocks it: the mutex or the lock that the call named, which is initialised, the condition that
-- it named or the mutex that it takes back then, or a round of the barrier that it named; and who waits to write or to read under a
-- lock does not hold it (pth_mutex_acquire, pth_rwlock_acquire, pth_cond_await, pth_barrier_reach). Who waits at a condition can take
-- its mutex back as soon as no other thread has it.
use Rattle.std.specs.Prelude.{◌≡◌, ◌<◌, ◌⊎◌, not, ℕ, Bool, true, false, Some, is_some, is_none}
use Rattle.pth_base.specs.Program.{Functions}
use Rattle.pth_base.specs.declared.call.Call.{Call}
use Rattle.pth_base.specs.declared.call.Call.TheVariants as call
use Rattle.pth_lock.specs.Objects.{object_named}
use Rattle.pth_lock.specs.Mutexes.{owner_of, levels_of, level_limit, is_anothers}
use Rattle.pth_lock.specs.RwLocks.{holds}
use Rattle.pth_model.specs.declared.awaits.Awaits.{Awaits}
use Rattle.pth_model.specs.declared.awaits.Awaits.TheVariants.{Mutex, Lock, Notice, Retaking}
use Rattle.pth_model.specs.declared.awaits.Retake.{Retake}
use Rattle.pth_model.specs.declared.blocked.Blocked.{Blocked}
use Rattle.pth_model.specs.declared.verdict.Verdict.TheVariants.{Blocks}
use Rattle.pth_model.specs.Awaits.{IsRound}
use Rattle.pth_model.specs.Changes.{blocked_of}
use Rattle.pth_model.specs.Coming.{has_come}
use Rattle.pth_model.specs.Conditions.{can_take}
use Rattle.pth_model.specs.Mutexes.{mutex}
use Rattle.pth_model.specs.Store.{Resources}
use Rattle.pth_model.specs.Row.{Row}
use Rattle.pth_model.specs.Rows.{row_of}
use Rattle.pth_model.specs.Rwlocks.{lets_in}
use Rattle.pth_model.specs.State.{State}
use Rattle.pth_model.specs.Verdict.{says}
use Rattle.pth_numbered.specs.Clauses.{◌when◌otherwise◌}

-- Thread t, which this call blocks, waits for a mutex or a lock that is initialised, and is no holder of the lock. Who waits at a
-- condition has fewer levels of its mutex than it may have, since the wait gave one back.
abbrev pub WaitsRightly : Resources → ℕ → Call → Type 0
WaitsRightly k t (call.MutexAcquire m v e) = is_some (k.store.mutexes (object_named m)) ≡ true
WaitsRightly k t (call.RwAcquire l write v e) = (k.store.rw_locks.initialised (object_named l) ≡ true) × (holds k.store.rw_locks t (object_named l) ≡ false)
WaitsRightly k t (call.CondAwait c m e) = (is_some (k.store.mutexes (object_named m)) ≡ true) × (levels_of t (k.store.mutexes (object_named m)) < level_limit)
WaitsRightly k t c = Unit {0}

-- what is awaited is the mutex, or the lock, that the call names, its condition or its mutex, or a round of the barrier
abbrev pub Names : Call → Awaits → Type 0
Names (call.MutexAcquire m v e) a = a ≡ Mutex m
Names (call.RwAcquire l write v e) a = a ≡ Lock l write
Names (call.CondAwait c m e) a = (a ≡ Notice c) ⊎ ((o : Retake) × (a ≡ Retaking m o))
Names (call.BarrierReach b) a = IsRound b a
Names c a = Unit {0}

-- each thread that a call blocks waits so, and for what the call names
abbrev pub AllWaitRightly : {P S H : Type 0} → State P S H → Type 0
AllWaitRightly s = (t : ℕ) (b : Blocked) → blocked_of s.control t ≡ Some b → Names b.call b.awaits × WaitsRightly s.resources t b.call

-- the call that blocks thread t is answered 1 as it is tried again if this test passes, and else waits on for the same; and what it
-- waits for has come exactly if the test passes
pub record AsksOnly {P S H : Type 0} (s : State P S H) (t : ℕ) (row : Row P S H) (a : Awaits) (test : Bool) : Type 0 where
  pub again : (row.again a).verdict ≡ (says 1 when test otherwise Blocks a)
  pub comes : has_come s t a ≡ test

-- It is asked of a mutex that nobody has it, of a lock that it lets the thread in, and nothing more. A pth_cond_await is not tried
-- again by its row (`awaits_on`): its thread can take the mutex back exactly if no other thread has it.
abbrev pub AsksNoMore : {P S H : Type 0} → (P → Functions S H) → State P S H → ℕ → Awaits → Call → Type 0
AsksNoMore f s t a (call.MutexAcquire m v e) = AsksOnly s t (row_of f s t (call.MutexAcquire m v e)) a (is_none (owner_of (mutex s m)))
AsksNoMore f s t a (call.RwAcquire l write v e) = AsksOnly s t (row_of f s t (call.RwAcquire l write v e)) a (lets_in s write l)
AsksNoMore f s t a (call.CondAwait c m e) = can_take s t m ≡ not (is_anothers t (mutex s m))
AsksNoMore f s t a c = Unit {0}

-- so for each thread that a call blocks
abbrev pub AllAskNoMore : {P S H : Type 0} → (P → Functions S H) → State P S H → Type 0
AllAskNoMore f s = (t : ℕ) (b : Blocked) → blocked_of s.control t ≡ Some b → AsksNoMore f s t b.awaits b.call
