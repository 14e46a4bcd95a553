-- The call that a word and its operands make. Each operand has a place, from 0 on.
use Rattle.std.specs.Prelude.{ℕ, ℤ, pos, Bool, true, false, List, [], Option, Some, None, codes, slice_get}
use Rattle.pth_base.specs.declared.attr.AttrField.{AttrField}
use Rattle.pth_base.specs.declared.attr.AttrField.TheVariants as fields
use Rattle.pth_base.specs.declared.attr.AttrValue.{AttrValue}
use Rattle.pth_base.specs.declared.attr.AttrValue.TheVariants as value
use Rattle.pth_base.specs.declared.call.Call.{Call}
use Rattle.pth_base.specs.declared.call.Call.TheVariants as call
use Rattle.pth_base.specs.declared.event.EvLine.{EvLine}
use Rattle.pth_base.specs.declared.event.EvLine.TheVariants as line
use Rattle.pth_base.specs.declared.ids.FdSet.{FdSet}
use Rattle.pth_base.specs.declared.query.Query.{Query}
use Rattle.pth_base.specs.declared.query.Query.TheVariants as asked
use Rattle.pth_base.specs.declared.thread.ThreadState.{ThreadState}
use Rattle.pth_base.specs.declared.thread.ThreadState.TheVariants as states
use Rattle.pth_spelling.specs.Args.{Arg}
use Rattle.pth_spelling.specs.Args as arg
use Rattle.pth_spelling.specs.declared.keyword.LibraryWord.{LibraryWord}
use Rattle.pth_spelling.specs.declared.direction.Direction.{Direction}
use Rattle.pth_spelling.specs.declared.keyword.LibraryWord.TheVariants as libraries
use Rattle.pth_spelling.specs.declared.keyword.AttributeWord.{AttributeWord}
use Rattle.pth_spelling.specs.declared.keyword.AttributeWord.TheVariants as attributes
use Rattle.pth_spelling.specs.declared.keyword.ThreadWord.{ThreadWord}
use Rattle.pth_spelling.specs.declared.keyword.ThreadWord.TheVariants as threads
use Rattle.pth_spelling.specs.declared.keyword.UtilityWord.{UtilityWord}
use Rattle.pth_spelling.specs.declared.keyword.UtilityWord.TheVariants as utilities
use Rattle.pth_spelling.specs.declared.keyword.CancellationWord.{CancellationWord}
use Rattle.pth_spelling.specs.declared.keyword.CancellationWord.TheVariants as cancellations
use Rattle.pth_spelling.specs.declared.keyword.EventWord.{EventWord}
use Rattle.pth_spelling.specs.declared.keyword.EventWord.TheVariants as events
use Rattle.pth_spelling.specs.declared.keyword.KeyStorageWord.{KeyStorageWord}
use Rattle.pth_spelling.specs.declared.keyword.KeyStorageWord.TheVariants as keys
use Rattle.pth_spelling.specs.declared.keyword.PortWord.{PortWord}
use Rattle.pth_spelling.specs.declared.keyword.PortWord.TheVariants as ports
use Rattle.pth_spelling.specs.declared.keyword.CleanupWord.{CleanupWord}
use Rattle.pth_spelling.specs.declared.keyword.CleanupWord.TheVariants as cleanups
use Rattle.pth_spelling.specs.declared.keyword.MutexWord.{MutexWord}
use Rattle.pth_spelling.specs.declared.keyword.MutexWord.TheVariants as mutexes
use Rattle.pth_spelling.specs.declared.keyword.RwlockWord.{RwlockWord}
use Rattle.pth_spelling.specs.declared.keyword.RwlockWord.TheVariants as rwlocks
use Rattle.pth_spelling.specs.declared.keyword.ConditionWord.{ConditionWord}
use Rattle.pth_spelling.specs.declared.keyword.ConditionWord.TheVariants as conditions
use Rattle.pth_spelling.specs.declared.keyword.BarrierWord.{BarrierWord}
use Rattle.pth_spelling.specs.declared.keyword.BarrierWord.TheVariants as barriers
use Rattle.pth_spelling.specs.declared.keyword.IoWord.{IoWord}
use Rattle.pth_spelling.specs.declared.keyword.IoWord.TheVariants as ios
use Rattle.pth_spelling.specs.declared.keyword.NewEventWord.{NewEventWord}
use Rattle.pth_spelling.specs.declared.keyword.NewEventWord.TheVariants as new_events
use Rattle.pth_spelling.specs.declared.keyword.QueryWord.{QueryWord}
use Rattle.pth_spelling.specs.declared.keyword.QueryWord.TheVariants as queries
use Rattle.pth_spelling.specs.declared.keyword.CallWord.{CallWord}
use Rattle.pth_spelling.specs.declared.keyword.CallWord.TheVariants as calls

-- ---- the operand at a place. Where an operand of another form stands there or none, which no line has, a fixed one stands for it

abbrev pub the_number : Option Arg → ℤ
the_number (Some (arg.Number n)) = n
the_number _ = pos 0

abbrev pub number : List Arg → ℕ → ℤ
number os place = the_number (slice_get os place)

abbrev pub the_maybe_number : Option Arg → Option ℤ
the_maybe_number (Some (arg.MaybeNumber n)) = n
the_maybe_number _ = None

abbrev pub maybe_number : List Arg → ℕ → Option ℤ
maybe_number os place = the_maybe_number (slice_get os place)

abbrev pub the_name : Option Arg → List ℕ
the_name (Some (arg.Name name)) = name
the_name _ = codes "_"

abbrev pub name : List Arg → ℕ → List ℕ
name os place = the_name (slice_get os place)

abbrev pub the_maybe_name : Option Arg → Option (List ℕ)
the_maybe_name (Some (arg.MaybeName name)) = name
the_maybe_name _ = None

abbrev pub maybe_name : List Arg → ℕ → Option (List ℕ)
maybe_name os place = the_maybe_name (slice_get os place)

abbrev pub the_set : Option Arg → FdSet
the_set (Some (arg.Set set)) = record { 0 = set }
the_set _ = record { 0 = 0 }

abbrev pub set : List Arg → ℕ → FdSet
set os place = the_set (slice_get os place)

abbrev pub the_bytes : Option Arg → List ℕ
the_bytes (Some (arg.Bytes bytes)) = bytes
the_bytes _ = []

abbrev pub bytes : List Arg → ℕ → List ℕ
bytes os place = the_bytes (slice_get os place)

abbrev pub the_goals : Option Arg → ℕ
the_goals (Some (arg.Goals goals)) = goals
the_goals _ = 1

abbrev pub goals : List Arg → ℕ → ℕ
goals os place = the_goals (slice_get os place)

abbrev pub the_which : Option Arg → Bool
the_which (Some (arg.Which all)) = all
the_which _ = false

abbrev pub which : List Arg → ℕ → Bool
which os place = the_which (slice_get os place)

abbrev pub the_mode : Option Arg → Bool
the_mode (Some (arg.Mode write)) = write
the_mode _ = false

abbrev pub mode : List Arg → ℕ → Bool
mode os place = the_mode (slice_get os place)

abbrev pub the_field : Option Arg → AttrField
the_field (Some (arg.Field f)) = f
the_field _ = fields.Prio

abbrev pub field : List Arg → ℕ → AttrField
field os place = the_field (slice_get os place)

abbrev pub the_state : Option Arg → ThreadState
the_state (Some (arg.State s)) = s
the_state _ = states.New

abbrev pub state : List Arg → ℕ → ThreadState
state os place = the_state (slice_get os place)

abbrev pub the_query : Option Arg → QueryWord
the_query (Some (arg.Query k)) = k
the_query _ = queries.Threads

abbrev pub query : List Arg → ℕ → QueryWord
query os place = the_query (slice_get os place)

abbrev pub the_event : Option Arg → NewEventWord
the_event (Some (arg.Event k)) = k
the_event _ = new_events.Time

abbrev pub event : List Arg → ℕ → NewEventWord
event os place = the_event (slice_get os place)

-- whether a walk goes forward, and whether it goes on to an event that occurred
abbrev pub the_walk : Option Arg → Direction
the_walk (Some (arg.Walk forward until_occurred)) = record { forward = forward; until_occurred = until_occurred }
the_walk _ = record { forward = true; until_occurred = false }

abbrev pub walk : List Arg → ℕ → Direction
walk os place = the_walk (slice_get os place)

-- ---- operands that stand together

-- what the scheduler is asked
abbrev pub query_call : QueryWord → List Arg → Query
query_call queries.Threads os = asked.Threads
query_call queries.New os = asked.New
query_call queries.Ready os = asked.Ready
query_call queries.Running os = asked.Running
query_call queries.Waiting os = asked.Waiting
query_call queries.Suspended os = asked.Suspended
query_call queries.Dead os = asked.Dead
query_call queries.Favournew os = asked.Favournew (number os 1)
query_call queries.Prio os = asked.Prio (number os 1)
query_call queries.Name os = asked.Name (number os 1)

-- a field with its value
abbrev pub value_call : AttrField → List Arg → AttrValue
value_call fields.Prio os = value.Prio (number os 2)
value_call fields.Name os = value.Name (name os 2)
value_call fields.Joinable os = value.Joinable (number os 2)
value_call fields.Cancel os = value.Cancel (number os 2)
value_call fields.Dispatches os = value.Dispatches (number os 2)
value_call fields.State os = value.State (number os 2)
value_call fields.Bound os = value.Bound (number os 2)

-- an event that is chained to a ring
abbrev pub chained_call : NewEventWord → List Arg → EvLine
chained_call new_events.Fd os = line.Fd (goals os 2) (number os 3)
chained_call new_events.Select os = line.Select (set os 2) (set os 3) (set os 4)
chained_call new_events.Time os = line.Time (number os 2)
chained_call new_events.Msg os = line.Msg (number os 2)
chained_call new_events.Cond os = line.Cond (number os 2)
chained_call new_events.Tid os = line.Tid (state os 2) (number os 3)
chained_call new_events.Func os = line.Func (number os 2) (number os 3) (number os 4)

-- ---- one line for each call

abbrev pub new_event_call : NewEventWord → List Arg → Call
new_event_call new_events.Fd os = call.EvFd (goals os 0) (number os 1)
new_event_call new_events.Select os = call.EvSelect (set os 0) (set os 1) (set os 2)
new_event_call new_events.Time os = call.EvTime (number os 0)
new_event_call new_events.Msg os = call.EvMsg (number os 0)
new_event_call new_events.Cond os = call.EvCond (number os 0)
new_event_call new_events.Tid os = call.EvTid (state os 0) (number os 1)
new_event_call new_events.Func os = call.EvFunc (number os 0) (number os 1) (number os 2)

abbrev pub library_call : LibraryWord → List Arg → Call
library_call libraries.Kill os = call.Kill
library_call libraries.Ctrl os = call.Ctrl (query_call (query os 0) os)

abbrev pub attribute_call : AttributeWord → List Arg → Call
attribute_call attributes.New os = call.AttrNew
attribute_call attributes.Of os = call.AttrOf (number os 0)
attribute_call attributes.Init os = call.AttrInit (number os 0)
attribute_call attributes.Set os = call.AttrSet (number os 0) (value_call (field os 1) os)
attribute_call attributes.Get os = call.AttrGet (number os 0) (field os 1)
attribute_call attributes.Destroy os = call.AttrDestroy (number os 0)

abbrev pub thread_call : ThreadWord → List Arg → Call
thread_call threads.Spawn os = call.Spawn (number os 0) (number os 1) (number os 2)
thread_call threads.Once os = call.Once (number os 0) (number os 1) (number os 2)
thread_call threads.SelfTid os = call.SelfTid
thread_call threads.Suspend os = call.Suspend (number os 0)
thread_call threads.Resume os = call.Resume (number os 0)
thread_call threads.Yield os = call.Yield (number os 0)
thread_call threads.Nap os = call.Nap (number os 0)
thread_call threads.Wait os = call.Wait (number os 0)
thread_call threads.Cancel os = call.Cancel (number os 0)
thread_call threads.Abort os = call.Abort (number os 0)
thread_call threads.Join os = call.Join (number os 0)
thread_call threads.Exit os = call.Exit (number os 0)

abbrev pub utility_call : UtilityWord → List Arg → Call
utility_call utilities.Fdmode os = call.Fdmode (number os 0) (number os 1)
utility_call utilities.Timeout os = call.Timeout (number os 0)

abbrev pub cancellation_call : CancellationWord → List Arg → Call
cancellation_call cancellations.Point os = call.CancelPoint
cancellation_call cancellations.State os = call.CancelState (number os 0)

abbrev pub event_call : EventWord → List Arg → Call
event_call (events.New k) os = new_event_call k os
event_call events.Chain os = call.Chain (number os 0) (chained_call (event os 1) os)
event_call events.Concat os = call.EvConcat (number os 0) (number os 1)
event_call events.Isolate os = call.EvIsolate (number os 0)
event_call events.Walk os = call.EvWalk (number os 0) (walk os 1).forward (walk os 1).until_occurred
event_call events.Status os = call.EvStatus (number os 0)
event_call events.Kind os = call.EvKind (number os 0)
event_call events.Free os = call.EvFree (number os 0) (which os 1)

abbrev pub key_call : KeyStorageWord → List Arg → Call
key_call keys.Create os = call.KeyCreate (maybe_number os 0)
key_call keys.Delete os = call.KeyDelete (number os 0)
key_call keys.Set os = call.KeySet (number os 0) (number os 1)
key_call keys.Get os = call.KeyGet (number os 0)

abbrev pub port_call : PortWord → List Arg → Call
port_call ports.Create os = call.PortCreate (maybe_name os 0)
port_call ports.Find os = call.PortFind (name os 0)
port_call ports.Pending os = call.PortPending (number os 0)
port_call ports.Put os = call.PortPut (number os 0) (number os 1) (number os 2)
port_call ports.Get os = call.PortGet (number os 0)
port_call ports.Reply os = call.Reply (number os 0) (number os 1)
port_call ports.Destroy os = call.PortDestroy (number os 0)

abbrev pub cleanup_call : CleanupWord → List Arg → Call
cleanup_call cleanups.Push os = call.CleanupPush (number os 0) (number os 1)
cleanup_call cleanups.Pop os = call.CleanupPop (number os 0)

abbrev pub mutex_call : MutexWord → List Arg → Call
mutex_call mutexes.Init os = call.MutexInit (number os 0)
mutex_call mutexes.Acquire os = call.MutexAcquire (number os 0) (number os 1) (number os 2)
mutex_call mutexes.Release os = call.MutexRelease (number os 0)

abbrev pub rwlock_call : RwlockWord → List Arg → Call
rwlock_call rwlocks.Init os = call.RwInit (number os 0)
rwlock_call rwlocks.Acquire os = call.RwAcquire (number os 0) (mode os 1) (number os 2) (number os 3)
rwlock_call rwlocks.Release os = call.RwRelease (number os 0)

abbrev pub condition_call : ConditionWord → List Arg → Call
condition_call conditions.Init os = call.CondInit (number os 0)
condition_call conditions.Await os = call.CondAwait (number os 0) (number os 1) (number os 2)
condition_call conditions.Notify os = call.CondNotify (number os 0) (number os 1)

abbrev pub barrier_call : BarrierWord → List Arg → Call
barrier_call barriers.Init os = call.BarrierInit (number os 0) (number os 1)
barrier_call barriers.Reach os = call.BarrierReach (number os 0)

abbrev pub io_call : IoWord → List Arg → Call
io_call ios.Usleep os = call.Usleep (number os 0)
io_call ios.Sleep os = call.Sleep (number os 0)
io_call ios.Read os = call.Read (number os 0) (number os 1)
io_call ios.ReadEv os = call.ReadEv (number os 0) (number os 1) (number os 2)
io_call ios.Write os = call.Write (number os 0) (bytes os 1)
io_call ios.WriteEv os = call.WriteEv (number os 0) (bytes os 1) (number os 2)
io_call ios.Accept os = call.Accept (number os 0)
io_call ios.AcceptEv os = call.AcceptEv (number os 0) (number os 1)
io_call ios.Connect os = call.Connect (number os 0)
io_call ios.ConnectEv os = call.ConnectEv (number os 0) (number os 1)
io_call ios.Select os = call.Select (set os 0) (set os 1) (set os 2) (number os 3)
io_call ios.SelectEv os = call.SelectEv (set os 0) (set os 1) (set os 2) (number os 3) (number os 4)
io_call ios.Close os = call.Close (number os 0)

abbrev pub call_of : CallWord → List Arg → Call
call_of (calls.Library k) os = library_call k os
call_of (calls.Attributes k) os = attribute_call k os
call_of (calls.Threads k) os = thread_call k os
call_of (calls.Utilities k) os = utility_call k os
call_of (calls.Cancellation k) os = cancellation_call k os
call_of (calls.Events k) os = event_call k os
call_of (calls.Keys k) os = key_call k os
call_of (calls.Ports k) os = port_call k os
call_of (calls.Cleanups k) os = cleanup_call k os
call_of (calls.Mutexes k) os = mutex_call k os
call_of (calls.Rwlocks k) os = rwlock_call k os
call_of (calls.Conditions k) os = condition_call k os
call_of (calls.Barriers k) os = barrier_call k os
call_of (calls.Io k) os = io_call k os
