-- The syntax of calls: the word of each, and the forms of the words after it.
use Rattle.std.specs.Prelude.{ℕ, List, [], ◌∷◌, codes}
use Rattle.pth_spelling.specs.declared.form.Form.{Form}
use Rattle.pth_spelling.specs.declared.form.Form.TheVariants as form
use Rattle.pth_spelling.specs.declared.keyword.CallWord.{CallWord}
use Rattle.pth_spelling.specs.declared.keyword.CallWord.TheVariants as call
use Rattle.pth_spelling.specs.declared.keyword.AttributeWord.{AttributeWord}
use Rattle.pth_spelling.specs.declared.keyword.AttributeWord.TheVariants as attributes
use Rattle.pth_spelling.specs.declared.keyword.BarrierWord.{BarrierWord}
use Rattle.pth_spelling.specs.declared.keyword.BarrierWord.TheVariants as barriers
use Rattle.pth_spelling.specs.declared.keyword.CancellationWord.{CancellationWord}
use Rattle.pth_spelling.specs.declared.keyword.CancellationWord.TheVariants as cancellations
use Rattle.pth_spelling.specs.declared.keyword.CleanupWord.{CleanupWord}
use Rattle.pth_spelling.specs.declared.keyword.CleanupWord.TheVariants as cleanups
use Rattle.pth_spelling.specs.declared.keyword.ConditionWord.{ConditionWord}
use Rattle.pth_spelling.specs.declared.keyword.ConditionWord.TheVariants as conditions
use Rattle.pth_spelling.specs.declared.keyword.EventWord.{EventWord}
use Rattle.pth_spelling.specs.declared.keyword.EventWord.TheVariants as events
use Rattle.pth_spelling.specs.declared.keyword.IoWord.{IoWord}
use Rattle.pth_spelling.specs.declared.keyword.IoWord.TheVariants as ios
use Rattle.pth_spelling.specs.declared.keyword.KeyStorageWord.{KeyStorageWord}
use Rattle.pth_spelling.specs.declared.keyword.KeyStorageWord.TheVariants as keys
use Rattle.pth_spelling.specs.declared.keyword.LibraryWord.{LibraryWord}
use Rattle.pth_spelling.specs.declared.keyword.LibraryWord.TheVariants as libraries
use Rattle.pth_spelling.specs.declared.keyword.MutexWord.{MutexWord}
use Rattle.pth_spelling.specs.declared.keyword.MutexWord.TheVariants as mutexes
use Rattle.pth_spelling.specs.declared.keyword.NewEventWord.{NewEventWord}
use Rattle.pth_spelling.specs.declared.keyword.NewEventWord.TheVariants as new_events
use Rattle.pth_spelling.specs.declared.keyword.PortWord.{PortWord}
use Rattle.pth_spelling.specs.declared.keyword.PortWord.TheVariants as ports
use Rattle.pth_spelling.specs.declared.keyword.RwlockWord.{RwlockWord}
use Rattle.pth_spelling.specs.declared.keyword.RwlockWord.TheVariants as rwlocks
use Rattle.pth_spelling.specs.declared.keyword.ThreadWord.{ThreadWord}
use Rattle.pth_spelling.specs.declared.keyword.ThreadWord.TheVariants as threads
use Rattle.pth_spelling.specs.declared.keyword.UtilityWord.{UtilityWord}
use Rattle.pth_spelling.specs.declared.keyword.UtilityWord.TheVariants as utilities

-- A call's word, and the forms of the words after it. After `ctrl`, `attr_set` and `chain` more words may follow: an earlier one says which.
pub record Syntax : Type 0 where
  pub text : List ℕ
  pub forms : List Form

abbrev pub syntax : List ℕ → List Form → Syntax
syntax text forms = record { text = text; forms = forms }

abbrev pub library_syntax : LibraryWord → Syntax
library_syntax libraries.Kill = syntax (codes "kill") []
library_syntax libraries.Ctrl = syntax (codes "ctrl") (form.Query ∷ [])

abbrev pub attribute_syntax : AttributeWord → Syntax
attribute_syntax attributes.New = syntax (codes "attr_new") []
attribute_syntax attributes.Of = syntax (codes "attr_of") (form.Operand ∷ [])
attribute_syntax attributes.Init = syntax (codes "attr_init") (form.Operand ∷ [])
attribute_syntax attributes.Set = syntax (codes "attr_set") (form.Operand ∷ form.Field ∷ [])
attribute_syntax attributes.Get = syntax (codes "attr_get") (form.Operand ∷ form.Field ∷ [])
attribute_syntax attributes.Destroy = syntax (codes "attr_destroy") (form.Operand ∷ [])

abbrev pub thread_syntax : ThreadWord → Syntax
thread_syntax threads.Spawn = syntax (codes "spawn") (form.Operand ∷ form.Operand ∷ form.Operand ∷ [])
thread_syntax threads.Once = syntax (codes "once") (form.Operand ∷ form.Operand ∷ form.Operand ∷ [])
thread_syntax threads.SelfTid = syntax (codes "self") []
thread_syntax threads.Suspend = syntax (codes "suspend") (form.Operand ∷ [])
thread_syntax threads.Resume = syntax (codes "resume") (form.Operand ∷ [])
thread_syntax threads.Yield = syntax (codes "yield") (form.Operand ∷ [])
thread_syntax threads.Nap = syntax (codes "nap") (form.Operand ∷ [])
thread_syntax threads.Wait = syntax (codes "wait") (form.Operand ∷ [])
thread_syntax threads.Cancel = syntax (codes "cancel") (form.Operand ∷ [])
thread_syntax threads.Abort = syntax (codes "abort") (form.Operand ∷ [])
thread_syntax threads.Join = syntax (codes "join") (form.Operand ∷ [])
thread_syntax threads.Exit = syntax (codes "exit") (form.Operand ∷ [])

abbrev pub utility_syntax : UtilityWord → Syntax
utility_syntax utilities.Fdmode = syntax (codes "fdmode") (form.Operand ∷ form.Operand ∷ [])
utility_syntax utilities.Timeout = syntax (codes "timeout") (form.Operand ∷ [])

abbrev pub cancellation_syntax : CancellationWord → Syntax
cancellation_syntax cancellations.Point = syntax (codes "cancel_point") []
cancellation_syntax cancellations.State = syntax (codes "cancel_state") (form.Operand ∷ [])

abbrev pub new_event_syntax : NewEventWord → Syntax
new_event_syntax new_events.Fd = syntax (codes "ev_fd") (form.Goals ∷ form.Operand ∷ [])
new_event_syntax new_events.Select = syntax (codes "ev_select") (form.Set ∷ form.Set ∷ form.Set ∷ [])
new_event_syntax new_events.Time = syntax (codes "ev_time") (form.Operand ∷ [])
new_event_syntax new_events.Msg = syntax (codes "ev_msg") (form.Operand ∷ [])
new_event_syntax new_events.Cond = syntax (codes "ev_cond") (form.Operand ∷ [])
new_event_syntax new_events.Tid = syntax (codes "ev_tid") (form.State ∷ form.Operand ∷ [])
new_event_syntax new_events.Func = syntax (codes "ev_func") (form.Operand ∷ form.Operand ∷ form.Operand ∷ [])

abbrev pub event_syntax : EventWord → Syntax
event_syntax (events.New k) = new_event_syntax k
event_syntax events.Chain = syntax (codes "chain") (form.Operand ∷ form.Event ∷ [])
event_syntax events.Concat = syntax (codes "ev_concat") (form.Operand ∷ form.Operand ∷ [])
event_syntax events.Isolate = syntax (codes "ev_isolate") (form.Operand ∷ [])
event_syntax events.Walk = syntax (codes "ev_walk") (form.Operand ∷ form.Direction ∷ [])
event_syntax events.Status = syntax (codes "ev_status") (form.Operand ∷ [])
event_syntax events.Kind = syntax (codes "ev_kind") (form.Operand ∷ [])
event_syntax events.Free = syntax (codes "ev_free") (form.Operand ∷ form.Which ∷ [])

abbrev pub key_syntax : KeyStorageWord → Syntax
key_syntax keys.Create = syntax (codes "key_create") (form.MaybeOperand ∷ [])
key_syntax keys.Delete = syntax (codes "key_delete") (form.Operand ∷ [])
key_syntax keys.Set = syntax (codes "key_set") (form.Operand ∷ form.Operand ∷ [])
key_syntax keys.Get = syntax (codes "key_get") (form.Operand ∷ [])

abbrev pub port_syntax : PortWord → Syntax
port_syntax ports.Create = syntax (codes "port_create") (form.MaybeName ∷ [])
port_syntax ports.Find = syntax (codes "port_find") (form.Name ∷ [])
port_syntax ports.Pending = syntax (codes "port_pending") (form.Operand ∷ [])
port_syntax ports.Put = syntax (codes "port_put") (form.Operand ∷ form.Operand ∷ form.Operand ∷ [])
port_syntax ports.Get = syntax (codes "port_get") (form.Operand ∷ [])
port_syntax ports.Reply = syntax (codes "reply") (form.Operand ∷ [])
port_syntax ports.Destroy = syntax (codes "port_destroy") (form.Operand ∷ [])

abbrev pub cleanup_syntax : CleanupWord → Syntax
cleanup_syntax cleanups.Push = syntax (codes "cleanup_push") (form.Operand ∷ form.Operand ∷ [])
cleanup_syntax cleanups.Pop = syntax (codes "cleanup_pop") (form.Operand ∷ [])

abbrev pub mutex_syntax : MutexWord → Syntax
mutex_syntax mutexes.Init = syntax (codes "mutex_init") (form.Operand ∷ [])
mutex_syntax mutexes.Acquire = syntax (codes "mutex_acquire") (form.Operand ∷ form.Operand ∷ form.Operand ∷ [])
mutex_syntax mutexes.Release = syntax (codes "mutex_release") (form.Operand ∷ [])

abbrev pub rwlock_syntax : RwlockWord → Syntax
rwlock_syntax rwlocks.Init = syntax (codes "rw_init") (form.Operand ∷ [])
rwlock_syntax rwlocks.Acquire = syntax (codes "rw_acquire") (form.Operand ∷ form.Mode ∷ form.Operand ∷ form.Operand ∷ [])
rwlock_syntax rwlocks.Release = syntax (codes "rw_release") (form.Operand ∷ [])

abbrev pub condition_syntax : ConditionWord → Syntax
condition_syntax conditions.Init = syntax (codes "cond_init") (form.Operand ∷ [])
condition_syntax conditions.Await = syntax (codes "cond_await") (form.Operand ∷ form.Operand ∷ form.Operand ∷ [])
condition_syntax conditions.Notify = syntax (codes "cond_notify") (form.Operand ∷ form.Operand ∷ [])

abbrev pub barrier_syntax : BarrierWord → Syntax
barrier_syntax barriers.Init = syntax (codes "barrier_init") (form.Operand ∷ form.Operand ∷ [])
barrier_syntax barriers.Reach = syntax (codes "barrier_reach") (form.Operand ∷ [])

abbrev pub io_syntax : IoWord → Syntax
io_syntax ios.Usleep = syntax (codes "usleep") (form.Operand ∷ [])
io_syntax ios.Sleep = syntax (codes "sleep") (form.Operand ∷ [])
io_syntax ios.Read = syntax (codes "read") (form.Operand ∷ form.Operand ∷ [])
io_syntax ios.ReadEv = syntax (codes "read_ev") (form.Operand ∷ form.Operand ∷ form.Operand ∷ [])
io_syntax ios.Write = syntax (codes "write") (form.Operand ∷ form.Bytes ∷ [])
io_syntax ios.WriteEv = syntax (codes "write_ev") (form.Operand ∷ form.Bytes ∷ form.Operand ∷ [])
io_syntax ios.Accept = syntax (codes "accept") (form.Operand ∷ [])
io_syntax ios.AcceptEv = syntax (codes "accept_ev") (form.Operand ∷ form.Operand ∷ [])
io_syntax ios.Connect = syntax (codes "connect") (form.Operand ∷ [])
io_syntax ios.ConnectEv = syntax (codes "connect_ev") (form.Operand ∷ form.Operand ∷ [])
io_syntax ios.Select = syntax (codes "select") (form.Set ∷ form.Set ∷ form.Set ∷ form.Operand ∷ [])
io_syntax ios.SelectEv = syntax (codes "select_ev") (form.Set ∷ form.Set ∷ form.Set ∷ form.Operand ∷ form.Operand ∷ [])
io_syntax ios.Close = syntax (codes "close") (form.Operand ∷ [])

abbrev pub syntax_of : CallWord → Syntax
syntax_of (call.Library k) = library_syntax k
syntax_of (call.Attributes k) = attribute_syntax k
syntax_of (call.Threads k) = thread_syntax k
syntax_of (call.Utilities k) = utility_syntax k
syntax_of (call.Cancellation k) = cancellation_syntax k
syntax_of (call.Events k) = event_syntax k
syntax_of (call.Keys k) = key_syntax k
syntax_of (call.Ports k) = port_syntax k
syntax_of (call.Cleanups k) = cleanup_syntax k
syntax_of (call.Mutexes k) = mutex_syntax k
syntax_of (call.Rwlocks k) = rwlock_syntax k
syntax_of (call.Conditions k) = condition_syntax k
syntax_of (call.Barriers k) = barrier_syntax k
syntax_of (call.Io k) = io_syntax k
