-- What threads have changes by marks alone: `told` says of every mark what becomes of it.
--
-- Which threads ended or were canceled is no resource: no row reads it from the marks.
use Rattle.std.specs.Prelude.{ℕ, suc, zero, ℤ, pos, Bool, true, false, List, [], ◌∷◌, Option, Some, None, if◌then◌else◌}
use Rattle.pth_base.specs.Table.{put}
use Rattle.pth_base.specs.declared.ids.HandlerId.{HandlerId}
use Rattle.pth_base.specs.declared.act.Act.{Act}
use Rattle.pth_base.specs.declared.act.Act.TheVariants as act
use Rattle.pth_base.specs.declared.answer.Answer.{Answer}
use Rattle.pth_base.specs.declared.answer.Answer.TheVariants.{Int, Msg}
use Rattle.pth_base.specs.declared.call.Call.{Call}
use Rattle.pth_base.specs.declared.call.Call.TheVariants as call
use Rattle.pth_base.specs.declared.mark.Mark.{Mark}
use Rattle.pth_base.specs.declared.mark.Mark.TheVariants as mark
use Rattle.pth_numbered.specs.Operands.{number, handler_of}
use Rattle.pth_lock.specs.Objects.{object_named}
use Rattle.pth_lock.specs.Mutexes.{MutexTable, mutex_initialised, mutex_taken, mutex_released, mutexes_left, free_mutex}
use Rattle.pth_lock.specs.RwLocks.{lock_initialised, lock_taken, lock_released, locks_left}
use Rattle.pth_port.specs.Mail.{port_added, port_removed, messages_at, with_port, put_to, got, replied, closed_port}
use Rattle.pth_store.specs.Keys.{key_named, created, deleted, with_key_value, forgotten}
use Rattle.pth_store.specs.Cleanups.{with_top, top_taken, emptied}
use Rattle.pth_model.specs.Store.{Store, Resources, awaiting, cleanups_become, keys_become, mutexes_become, locks_become, ports_become, mail_becomes}
use Rattle.pth_model.specs.Kill.{of_only}

-- the handler that an operand names
abbrev pub handler : ℤ → HandlerId
handler h = record { 0 = handler_of h }

abbrev pub destructor_by : Option ℤ → Option HandlerId
destructor_by None = None
destructor_by (Some h) = Some (handler h)

-- nobody has the mutex any longer
abbrev pub mutex_freed : ℕ → MutexTable → MutexTable
mutex_freed m x = put x m free_mutex

-- thread t has nothing
abbrev pub store_without : ℕ → Store → Store
store_without t s = record s {
  cleanups = emptied t s.cleanups;
  keys = forgotten t s.keys;
  mutexes = mutexes_left t s.mutexes;
  rw_locks = locks_left t s.rw_locks;
}

-- t has its mutex again, and awaits no more
abbrev pub retaken : Resources → ℕ → ℕ → Resources
retaken k t m = awaiting (mutexes_become k (mutex_taken t m)) t false

-- t gives a level of its mutex back, and awaits from now on
abbrev pub let_go : Resources → ℕ → ℕ → Resources
let_go k t m = awaiting (mutexes_become k (mutex_released t m)) t true

-- an answer of 1, with a number, or with a message; every other one changes nothing
abbrev pub on_one : Answer → Resources → Resources → Resources
on_one (Int (pos (suc zero))) k g = g
on_one a k g = k

abbrev pub on_int : Answer → Resources → (ℤ → Resources) → Resources
on_int (Int n) k g = g n
on_int a k g = k

abbrev pub on_msg : Answer → Resources → Resources → Resources
on_msg (Msg id v) k g = g
on_msg a k g = k

-- A call of t is answered: these calls change what threads have, facility by facility. What handlers and the ends of threads change has
-- marks of its own.
unfoldable pub answer_told : Resources → ℕ → Call → Answer → Resources
answer_told k t (call.CleanupPush h v) a = on_one a k (cleanups_become k (with_top t (handler h, v)))
answer_told k t (call.CleanupPop v) a = on_one a k (cleanups_become k (top_taken t))
answer_told k t (call.KeyCreate h) a = on_int a k (λ key. keys_become k (created (key_named key) (destructor_by h)))
answer_told k t (call.KeyDelete key) a = on_one a k (keys_become k (deleted (key_named key)))
answer_told k t (call.KeySet key v) a = on_one a k (keys_become k (with_key_value t (key_named key) v))
answer_told k t (call.MutexInit m) a = on_int a k (λ n. mutexes_become k (mutex_initialised (object_named m)))
answer_told k t (call.MutexAcquire m v e) a = on_int a k (λ n. mutexes_become k (mutex_taken t (object_named m)))
answer_told k t (call.MutexRelease m) a = on_int a k (λ n. mutexes_become k (mutex_released t (object_named m)))
answer_told k t (call.RwInit l) a = on_int a k (λ n. locks_become k (lock_initialised (object_named l)))
answer_told k t (call.RwAcquire l write v e) a = on_int a k (λ n. locks_become k (lock_taken t write (object_named l)))
answer_told k t (call.RwRelease l) a = on_int a k (λ n. locks_become k (lock_released t (object_named l)))
-- whatever the answer is, once it awaits
answer_told k t (call.CondAwait c m e) a = if k.awaits t then retaken k t (object_named m) else k
answer_told k t (call.PortCreate name) a = on_int a k (λ p. ports_become k (port_added name) (with_port (number p)))
answer_told k t (call.PortPut p v r) a = on_int a k (λ n. mail_becomes k (put_to (number p) v (number r)))
answer_told k t (call.PortGet p) a = on_msg a k (mail_becomes k (got (number p) (messages_at k.store.mail p)))
answer_told k t (call.Reply m v) a = on_int a k (λ n. mail_becomes k (replied v (k.store.mail.kept (number m))))
answer_told k t (call.PortDestroy p) a = on_int a k (λ n. ports_become k (port_removed (number p)) (closed_port (number p)))
answer_told k t call.Kill a = on_int a k (λ n. of_only t k)
-- every other call
answer_told k t c a = k

-- an act is a call of the thread that runs the handler
unfoldable pub act_told : Resources → ℕ → Act → Answer → Resources
act_told k t (act.Release m) a = answer_told k t (call.MutexRelease m) a
act_told k t (act.Put p v) a = answer_told k t (call.PortPut p v (pos 0)) a
act_told k t (act.SetKey key v) a = answer_told k t (call.KeySet key v) a
act_told k t (act.Notify c v) a = k
act_told k t (act.Note v) a = k
act_told k t (act.Set n v) a = k

-- a call blocks t, or blocks it again: a cond_await gives its mutex back the first time
abbrev pub wait_told : Resources → ℕ → Call → Resources
wait_told k t (call.CondAwait c m e) = if k.awaits t then k else let_go k t (object_named m)
wait_told k t c = k

-- t has ended: no cleanup, no value, no mutex and no lock is left, and it awaits nothing
abbrev pub end_told : Resources → ℕ → Resources
end_told k t = record k { store = store_without t k.store; awaits = put k.awaits t false }

-- the resources after a mark
unfoldable pub told : Resources → Mark → Resources
told k (mark.Answered t c a) = answer_told k t.0 c a
told k (mark.Acted t x a) = act_told k t.0 x a
told k (mark.Waits t c) = wait_told k t.0 c
told k (mark.Took t m) = retaken k t.0 m
told k (mark.Destructor t key v) = keys_become k (with_key_value t.0 key (pos 0))
told k (mark.GaveMutex t m) = mutexes_become k (mutex_freed m)
told k (mark.GaveLock t l) = locks_become k (lock_released t.0 l)
told k (mark.Ended t v) = end_told k t.0
told k (mark.Dispatch turn at t rank waited allowed) = k
told k (mark.Canceled t c) = k
told k (mark.Retakes t c) = k
told k (mark.Withdrew t b) = k
told k (mark.Handler t h v) = k
told k (mark.Noted t v) = k
told k (mark.Woke t rank) = k
told k (mark.Moved at) = k

-- the resources after all these marks
abbrev pub told_all : Resources → List Mark → Resources
told_all k [] = k
told_all k (m ∷ ms) = told_all (told k m) ms
