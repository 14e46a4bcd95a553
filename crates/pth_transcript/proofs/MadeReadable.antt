-- The call of a word and of operands that words can spell is one that words can spell.
use Rattle.std.proofs.Common.{◌≡◌, ◌≢◌, ◌<◌, ◌≤◌, ◌^◌, ℕ, zero, suc, List, [], ◌∷◌, Option, Some, None, w64, FitsSigned, All, refl, arith}
use Rattle.std.specs.Prelude.{slice_get}
use Rattle.pth_base.specs.declared.attr.AttrField.{AttrField}
use Rattle.pth_base.specs.declared.attr.AttrField.TheVariants as fields
use Rattle.pth_base.specs.declared.call.Call.TheVariants as call
use Rattle.pth_base.specs.declared.thread.ThreadState.TheVariants.{Running}
use Rattle.pth_line.specs.CallOf.{call_of, the_number, the_maybe_number, the_name, the_maybe_name, the_set, the_bytes, the_goals, the_state}
use Rattle.pth_line.specs.CallOf.{number, maybe_number, name, maybe_name, set, bytes, goals, state, query, field, event}
use Rattle.pth_line.specs.CallOf.{value_call, query_call, chained_call}
use Rattle.pth_spelling.specs.Args.{Arg}
use Rattle.pth_spelling.specs.Args as arg
use Rattle.pth_spelling.specs.WordMeanings.{name_of}
use Rattle.pth_spelling.specs.declared.keyword.LibraryWord.{LibraryWord}
use Rattle.pth_spelling.specs.declared.keyword.LibraryWord.TheVariants as libraries
use Rattle.pth_spelling.specs.declared.keyword.AttributeWord.{AttributeWord}
use Rattle.pth_spelling.specs.declared.keyword.AttributeWord.TheVariants as attributes
use Rattle.pth_spelling.specs.declared.keyword.ThreadWord.{ThreadWord}
use Rattle.pth_spelling.specs.declared.keyword.ThreadWord.TheVariants as threads
use Rattle.pth_spelling.specs.declared.keyword.UtilityWord.{UtilityWord}
use Rattle.pth_spelling.specs.declared.keyword.UtilityWord.TheVariants as utilities
use Rattle.pth_spelling.specs.declared.keyword.CancellationWord.{CancellationWord}
use Rattle.pth_spelling.specs.declared.keyword.CancellationWord.TheVariants as cancellations
use Rattle.pth_spelling.specs.declared.keyword.EventWord.{EventWord}
use Rattle.pth_spelling.specs.declared.keyword.EventWord.TheVariants as events
use Rattle.pth_spelling.specs.declared.keyword.KeyStorageWord.{KeyStorageWord}
use Rattle.pth_spelling.specs.declared.keyword.KeyStorageWord.TheVariants as keys
use Rattle.pth_spelling.specs.declared.keyword.PortWord.{PortWord}
use Rattle.pth_spelling.specs.declared.keyword.PortWord.TheVariants as ports
use Rattle.pth_spelling.specs.declared.keyword.CleanupWord.{CleanupWord}
use Rattle.pth_spelling.specs.declared.keyword.CleanupWord.TheVariants as cleanups
use Rattle.pth_spelling.specs.declared.keyword.MutexWord.{MutexWord}
use Rattle.pth_spelling.specs.declared.keyword.MutexWord.TheVariants as mutexes
use Rattle.pth_spelling.specs.declared.keyword.RwlockWord.{RwlockWord}
use Rattle.pth_spelling.specs.declared.keyword.RwlockWord.TheVariants as rwlocks
use Rattle.pth_spelling.specs.declared.keyword.ConditionWord.{ConditionWord}
use Rattle.pth_spelling.specs.declared.keyword.ConditionWord.TheVariants as conditions
use Rattle.pth_spelling.specs.declared.keyword.BarrierWord.{BarrierWord}
use Rattle.pth_spelling.specs.declared.keyword.BarrierWord.TheVariants as barriers
use Rattle.pth_spelling.specs.declared.keyword.IoWord.{IoWord}
use Rattle.pth_spelling.specs.declared.keyword.IoWord.TheVariants as ios
use Rattle.pth_spelling.specs.declared.keyword.NewEventWord.{NewEventWord}
use Rattle.pth_spelling.specs.declared.keyword.NewEventWord.TheVariants as new_events
use Rattle.pth_spelling.specs.declared.keyword.QueryWord.{QueryWord}
use Rattle.pth_spelling.specs.declared.keyword.QueryWord.TheVariants as queries
use Rattle.pth_spelling.specs.declared.keyword.CallWord.{CallWord}
use Rattle.pth_spelling.specs.declared.keyword.CallWord.TheVariants as calls
use Rattle.pth_transcript.specs.Readable.{IsReadable, IsReadableArg, AreReadable}

-- an operand that a word can spell, if there is one
abbrev IsReadableOption : Option Arg → Type 0
IsReadableOption (Some o) = IsReadableArg o
IsReadableOption None = Unit {0}

at : (os : List Arg) (place : ℕ) → AreReadable os → IsReadableOption (slice_get os place)
at [] place fine = tt
at (o ∷ os) zero fine = fine.0
at (o ∷ os) (suc place) fine = at os place fine.1

the_number_fine : (o : Option Arg) → IsReadableOption o → FitsSigned w64 (the_number o)
the_number_fine (Some (arg.Number n)) fine = fine
the_number_fine _ fine = (omega arith)

number_fine : (os : List Arg) (place : ℕ) → AreReadable os → FitsSigned w64 (number os place)
number_fine os place fine = the_number_fine (slice_get os place) (at os place fine)

the_maybe_number_fine : (o : Option Arg) → IsReadableOption o → IsReadableArg (arg.MaybeNumber (the_maybe_number o))
the_maybe_number_fine (Some (arg.MaybeNumber n)) fine = fine
the_maybe_number_fine _ fine = tt

maybe_number_fine : (os : List Arg) (place : ℕ) → AreReadable os → IsReadableArg (arg.MaybeNumber (maybe_number os place))
maybe_number_fine os place fine = the_maybe_number_fine (slice_get os place) (at os place fine)

fixed_name : name_of (the_name None) ≡ Some (the_name None)
unfolding name_of
fixed_name = refl

the_name_fine : (o : Option Arg) → IsReadableOption o → name_of (the_name o) ≡ Some (the_name o)
the_name_fine (Some (arg.Name n)) fine = fine
the_name_fine _ fine = fixed_name

name_fine : (os : List Arg) (place : ℕ) → AreReadable os → name_of (name os place) ≡ Some (name os place)
name_fine os place fine = the_name_fine (slice_get os place) (at os place fine)

the_maybe_name_fine : (o : Option Arg) → IsReadableOption o → IsReadableArg (arg.MaybeName (the_maybe_name o))
the_maybe_name_fine (Some (arg.MaybeName n)) fine = fine
the_maybe_name_fine _ fine = tt

maybe_name_fine : (os : List Arg) (place : ℕ) → AreReadable os → IsReadableArg (arg.MaybeName (maybe_name os place))
maybe_name_fine os place fine = the_maybe_name_fine (slice_get os place) (at os place fine)

the_set_fine : (o : Option Arg) → IsReadableOption o → (the_set o).0 < 2 ^ 64
the_set_fine (Some (arg.Set n)) fine = fine
the_set_fine _ fine = (omega arith)

set_fine : (os : List Arg) (place : ℕ) → AreReadable os → (set os place).0 < 2 ^ 64
set_fine os place fine = the_set_fine (slice_get os place) (at os place fine)

the_bytes_fine : (o : Option Arg) → IsReadableOption o → All (λ b. b < 256) (the_bytes o)
the_bytes_fine (Some (arg.Bytes n)) fine = fine
the_bytes_fine _ fine = (λ k d low. absurd (omega arith))

bytes_fine : (os : List Arg) (place : ℕ) → AreReadable os → All (λ b. b < 256) (bytes os place)
bytes_fine os place fine = the_bytes_fine (slice_get os place) (at os place fine)

the_goals_fine : (o : Option Arg) → IsReadableOption o → (1 ≤ the_goals o) × (the_goals o ≤ 7)
the_goals_fine (Some (arg.Goals n)) fine = fine
the_goals_fine _ fine = ((omega arith), (omega arith))

goals_fine : (os : List Arg) (place : ℕ) → AreReadable os → (1 ≤ goals os place) × (goals os place ≤ 7)
goals_fine os place fine = the_goals_fine (slice_get os place) (at os place fine)

the_state_fine : (o : Option Arg) → IsReadableOption o → the_state o ≢ Running
the_state_fine (Some (arg.State n)) fine = fine
the_state_fine _ fine = (λ e. cc)

state_fine : (os : List Arg) (place : ℕ) → AreReadable os → state os place ≢ Running
state_fine os place fine = the_state_fine (slice_get os place) (at os place fine)

-- ---- one line for each call

query_readable : (k : QueryWord) (os : List Arg) → AreReadable os → IsReadable (call.Ctrl (query_call k os))
query_readable queries.Threads os fine = (tt, tt)
query_readable queries.New os fine = (tt, tt)
query_readable queries.Ready os fine = (tt, tt)
query_readable queries.Running os fine = (tt, tt)
query_readable queries.Waiting os fine = (tt, tt)
query_readable queries.Suspended os fine = (tt, tt)
query_readable queries.Dead os fine = (tt, tt)
query_readable queries.Favournew os fine = (tt, (number_fine os 1 fine, tt))
query_readable queries.Prio os fine = (tt, (number_fine os 1 fine, tt))
query_readable queries.Name os fine = (tt, (number_fine os 1 fine, tt))

value_readable : (k : AttrField) (os : List Arg) → AreReadable os → IsReadable (call.AttrSet (number os 0) (value_call k os))
value_readable fields.Prio os fine = (number_fine os 0 fine, (tt, (number_fine os 2 fine, tt)))
value_readable fields.Name os fine = (number_fine os 0 fine, (tt, (name_fine os 2 fine, tt)))
value_readable fields.Joinable os fine = (number_fine os 0 fine, (tt, (number_fine os 2 fine, tt)))
value_readable fields.Cancel os fine = (number_fine os 0 fine, (tt, (number_fine os 2 fine, tt)))
value_readable fields.Dispatches os fine = (number_fine os 0 fine, (tt, (number_fine os 2 fine, tt)))
value_readable fields.State os fine = (number_fine os 0 fine, (tt, (number_fine os 2 fine, tt)))
value_readable fields.Bound os fine = (number_fine os 0 fine, (tt, (number_fine os 2 fine, tt)))

chain_readable : (k : NewEventWord) (os : List Arg) → AreReadable os → IsReadable (call.Chain (number os 0) (chained_call k os))
chain_readable new_events.Fd os fine = (number_fine os 0 fine, (tt, (goals_fine os 2 fine, (number_fine os 3 fine, tt))))
chain_readable new_events.Select os fine = (number_fine os 0 fine, (tt, (set_fine os 2 fine, (set_fine os 3 fine, (set_fine os 4 fine, tt)))))
chain_readable new_events.Time os fine = (number_fine os 0 fine, (tt, (number_fine os 2 fine, tt)))
chain_readable new_events.Msg os fine = (number_fine os 0 fine, (tt, (number_fine os 2 fine, tt)))
chain_readable new_events.Cond os fine = (number_fine os 0 fine, (tt, (number_fine os 2 fine, tt)))
chain_readable new_events.Tid os fine = (number_fine os 0 fine, (tt, (state_fine os 2 fine, (number_fine os 3 fine, tt))))
chain_readable new_events.Func os fine = (number_fine os 0 fine, (tt, (number_fine os 2 fine, (number_fine os 3 fine, (number_fine os 4 fine, tt)))))

library_readable : (k : LibraryWord) (os : List Arg) → AreReadable os → IsReadable (call_of (calls.Library k) os)
library_readable libraries.Kill os fine = tt
library_readable libraries.Ctrl os fine = query_readable (query os 0) os fine

attribute_readable : (k : AttributeWord) (os : List Arg) → AreReadable os → IsReadable (call_of (calls.Attributes k) os)
attribute_readable attributes.New os fine = tt
attribute_readable attributes.Of os fine = (number_fine os 0 fine, tt)
attribute_readable attributes.Init os fine = (number_fine os 0 fine, tt)
attribute_readable attributes.Set os fine = value_readable (field os 1) os fine
attribute_readable attributes.Get os fine = (number_fine os 0 fine, (tt, tt))
attribute_readable attributes.Destroy os fine = (number_fine os 0 fine, tt)

thread_readable : (k : ThreadWord) (os : List Arg) → AreReadable os → IsReadable (call_of (calls.Threads k) os)
thread_readable threads.Spawn os fine = (number_fine os 0 fine, (number_fine os 1 fine, (number_fine os 2 fine, tt)))
thread_readable threads.Once os fine = (number_fine os 0 fine, (number_fine os 1 fine, (number_fine os 2 fine, tt)))
thread_readable threads.SelfTid os fine = tt
thread_readable threads.Suspend os fine = (number_fine os 0 fine, tt)
thread_readable threads.Resume os fine = (number_fine os 0 fine, tt)
thread_readable threads.Yield os fine = (number_fine os 0 fine, tt)
thread_readable threads.Nap os fine = (number_fine os 0 fine, tt)
thread_readable threads.Wait os fine = (number_fine os 0 fine, tt)
thread_readable threads.Cancel os fine = (number_fine os 0 fine, tt)
thread_readable threads.Abort os fine = (number_fine os 0 fine, tt)
thread_readable threads.Join os fine = (number_fine os 0 fine, tt)
thread_readable threads.Exit os fine = (number_fine os 0 fine, tt)

utility_readable : (k : UtilityWord) (os : List Arg) → AreReadable os → IsReadable (call_of (calls.Utilities k) os)
utility_readable utilities.Fdmode os fine = (number_fine os 0 fine, (number_fine os 1 fine, tt))
utility_readable utilities.Timeout os fine = (number_fine os 0 fine, tt)

cancellation_readable : (k : CancellationWord) (os : List Arg) → AreReadable os → IsReadable (call_of (calls.Cancellation k) os)
cancellation_readable cancellations.Point os fine = tt
cancellation_readable cancellations.State os fine = (number_fine os 0 fine, tt)

event_readable : (k : EventWord) (os : List Arg) → AreReadable os → IsReadable (call_of (calls.Events k) os)
event_readable (events.New new_events.Fd) os fine = (goals_fine os 0 fine, (number_fine os 1 fine, tt))
event_readable (events.New new_events.Select) os fine = (set_fine os 0 fine, (set_fine os 1 fine, (set_fine os 2 fine, tt)))
event_readable (events.New new_events.Time) os fine = (number_fine os 0 fine, tt)
event_readable (events.New new_events.Msg) os fine = (number_fine os 0 fine, tt)
event_readable (events.New new_events.Cond) os fine = (number_fine os 0 fine, tt)
event_readable (events.New new_events.Tid) os fine = (state_fine os 0 fine, (number_fine os 1 fine, tt))
event_readable (events.New new_events.Func) os fine = (number_fine os 0 fine, (number_fine os 1 fine, (number_fine os 2 fine, tt)))
event_readable events.Chain os fine = chain_readable (event os 1) os fine
event_readable events.Concat os fine = (number_fine os 0 fine, (number_fine os 1 fine, tt))
event_readable events.Isolate os fine = (number_fine os 0 fine, tt)
event_readable events.Walk os fine = (number_fine os 0 fine, (tt, tt))
event_readable events.Status os fine = (number_fine os 0 fine, tt)
event_readable events.Kind os fine = (number_fine os 0 fine, tt)
event_readable events.Free os fine = (number_fine os 0 fine, (tt, tt))

key_readable : (k : KeyStorageWord) (os : List Arg) → AreReadable os → IsReadable (call_of (calls.Keys k) os)
key_readable keys.Create os fine = (maybe_number_fine os 0 fine, tt)
key_readable keys.Delete os fine = (number_fine os 0 fine, tt)
key_readable keys.Set os fine = (number_fine os 0 fine, (number_fine os 1 fine, tt))
key_readable keys.Get os fine = (number_fine os 0 fine, tt)

port_readable : (k : PortWord) (os : List Arg) → AreReadable os → IsReadable (call_of (calls.Ports k) os)
port_readable ports.Create os fine = (maybe_name_fine os 0 fine, tt)
port_readable ports.Find os fine = (name_fine os 0 fine, tt)
port_readable ports.Pending os fine = (number_fine os 0 fine, tt)
port_readable ports.Put os fine = (number_fine os 0 fine, (number_fine os 1 fine, (number_fine os 2 fine, tt)))
port_readable ports.Get os fine = (number_fine os 0 fine, tt)
port_readable ports.Reply os fine = (number_fine os 0 fine, (number_fine os 1 fine, tt))
port_readable ports.Destroy os fine = (number_fine os 0 fine, tt)

cleanup_readable : (k : CleanupWord) (os : List Arg) → AreReadable os → IsReadable (call_of (calls.Cleanups k) os)
cleanup_readable cleanups.Push os fine = (number_fine os 0 fine, (number_fine os 1 fine, tt))
cleanup_readable cleanups.Pop os fine = (number_fine os 0 fine, tt)

mutex_readable : (k : MutexWord) (os : List Arg) → AreReadable os → IsReadable (call_of (calls.Mutexes k) os)
mutex_readable mutexes.Init os fine = (number_fine os 0 fine, tt)
mutex_readable mutexes.Acquire os fine = (number_fine os 0 fine, (number_fine os 1 fine, (number_fine os 2 fine, tt)))
mutex_readable mutexes.Release os fine = (number_fine os 0 fine, tt)

rwlock_readable : (k : RwlockWord) (os : List Arg) → AreReadable os → IsReadable (call_of (calls.Rwlocks k) os)
rwlock_readable rwlocks.Init os fine = (number_fine os 0 fine, tt)
rwlock_readable rwlocks.Acquire os fine = (number_fine os 0 fine, (tt, (number_fine os 2 fine, (number_fine os 3 fine, tt))))
rwlock_readable rwlocks.Release os fine = (number_fine os 0 fine, tt)

condition_readable : (k : ConditionWord) (os : List Arg) → AreReadable os → IsReadable (call_of (calls.Conditions k) os)
condition_readable conditions.Init os fine = (number_fine os 0 fine, tt)
condition_readable conditions.Await os fine = (number_fine os 0 fine, (number_fine os 1 fine, (number_fine os 2 fine, tt)))
condition_readable conditions.Notify os fine = (number_fine os 0 fine, (number_fine os 1 fine, tt))

barrier_readable : (k : BarrierWord) (os : List Arg) → AreReadable os → IsReadable (call_of (calls.Barriers k) os)
barrier_readable barriers.Init os fine = (number_fine os 0 fine, (number_fine os 1 fine, tt))
barrier_readable barriers.Reach os fine = (number_fine os 0 fine, tt)

io_readable : (k : IoWord) (os : List Arg) → AreReadable os → IsReadable (call_of (calls.Io k) os)
io_readable ios.Usleep os fine = (number_fine os 0 fine, tt)
io_readable ios.Sleep os fine = (number_fine os 0 fine, tt)
io_readable ios.Read os fine = (number_fine os 0 fine, (number_fine os 1 fine, tt))
io_readable ios.ReadEv os fine = (number_fine os 0 fine, (number_fine os 1 fine, (number_fine os 2 fine, tt)))
io_readable ios.Write os fine = (number_fine os 0 fine, (bytes_fine os 1 fine, tt))
io_readable ios.WriteEv os fine = (number_fine os 0 fine, (bytes_fine os 1 fine, (number_fine os 2 fine, tt)))
io_readable ios.Accept os fine = (number_fine os 0 fine, tt)
io_readable ios.AcceptEv os fine = (number_fine os 0 fine, (number_fine os 1 fine, tt))
io_readable ios.Connect os fine = (number_fine os 0 fine, tt)
io_readable ios.ConnectEv os fine = (number_fine os 0 fine, (number_fine os 1 fine, tt))
io_readable ios.Select os fine = (set_fine os 0 fine, (set_fine os 1 fine, (set_fine os 2 fine, (number_fine os 3 fine, tt))))
io_readable ios.SelectEv os fine = (set_fine os 0 fine, (set_fine os 1 fine, (set_fine os 2 fine, (number_fine os 3 fine, (number_fine os 4 fine, tt)))))
io_readable ios.Close os fine = (number_fine os 0 fine, tt)

pub made_readable : (k : CallWord) (os : List Arg) → AreReadable os → IsReadable (call_of k os)
made_readable (calls.Library k) os fine = library_readable k os fine
made_readable (calls.Attributes k) os fine = attribute_readable k os fine
made_readable (calls.Threads k) os fine = thread_readable k os fine
made_readable (calls.Utilities k) os fine = utility_readable k os fine
made_readable (calls.Cancellation k) os fine = cancellation_readable k os fine
made_readable (calls.Events k) os fine = event_readable k os fine
made_readable (calls.Keys k) os fine = key_readable k os fine
made_readable (calls.Ports k) os fine = port_readable k os fine
made_readable (calls.Cleanups k) os fine = cleanup_readable k os fine
made_readable (calls.Mutexes k) os fine = mutex_readable k os fine
made_readable (calls.Rwlocks k) os fine = rwlock_readable k os fine
made_readable (calls.Conditions k) os fine = condition_readable k os fine
made_readable (calls.Barriers k) os fine = barrier_readable k os fine
made_readable (calls.Io k) os fine = io_readable k os fine
