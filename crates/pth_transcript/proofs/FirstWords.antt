-- The first word of a call tells which call it is.
use Rattle.std.proofs.Common.{◌≡◌, Some, None, refl}
use Rattle.pth_text.specs.Number.{numeral_value}
use Rattle.pth_spelling.specs.Keywords.{call_word, keyword_of, plain_word}
use Rattle.pth_spelling.specs.Named.{named_in}
use Rattle.pth_spelling.specs.Syntax.{syntax_of}
use Rattle.pth_spelling.specs.WordMeanings.{register_of, own_of, shared_of}
use Rattle.pth_spelling.specs.declared.keyword.CallWord.{CallWord}
use Rattle.pth_spelling.specs.declared.keyword.CallWord.TheVariants as calls
use Rattle.pth_spelling.specs.declared.keyword.Keyword.TheVariants as key
use Rattle.pth_spelling.specs.declared.keyword.LibraryWord.{LibraryWord}
use Rattle.pth_spelling.specs.declared.keyword.LibraryWord.TheVariants as libraries
use Rattle.pth_spelling.specs.declared.keyword.AttributeWord.{AttributeWord}
use Rattle.pth_spelling.specs.declared.keyword.AttributeWord.TheVariants as attributes
use Rattle.pth_spelling.specs.declared.keyword.ThreadWord.{ThreadWord}
use Rattle.pth_spelling.specs.declared.keyword.ThreadWord.TheVariants as threads
use Rattle.pth_spelling.specs.declared.keyword.UtilityWord.{UtilityWord}
use Rattle.pth_spelling.specs.declared.keyword.UtilityWord.TheVariants as utilities
use Rattle.pth_spelling.specs.declared.keyword.CancellationWord.{CancellationWord}
use Rattle.pth_spelling.specs.declared.keyword.CancellationWord.TheVariants as cancellations
use Rattle.pth_spelling.specs.declared.keyword.EventWord.{EventWord}
use Rattle.pth_spelling.specs.declared.keyword.EventWord.TheVariants as events
use Rattle.pth_spelling.specs.declared.keyword.KeyStorageWord.{KeyStorageWord}
use Rattle.pth_spelling.specs.declared.keyword.KeyStorageWord.TheVariants as keys
use Rattle.pth_spelling.specs.declared.keyword.PortWord.{PortWord}
use Rattle.pth_spelling.specs.declared.keyword.PortWord.TheVariants as ports
use Rattle.pth_spelling.specs.declared.keyword.CleanupWord.{CleanupWord}
use Rattle.pth_spelling.specs.declared.keyword.CleanupWord.TheVariants as cleanups
use Rattle.pth_spelling.specs.declared.keyword.MutexWord.{MutexWord}
use Rattle.pth_spelling.specs.declared.keyword.MutexWord.TheVariants as mutexes
use Rattle.pth_spelling.specs.declared.keyword.RwlockWord.{RwlockWord}
use Rattle.pth_spelling.specs.declared.keyword.RwlockWord.TheVariants as rwlocks
use Rattle.pth_spelling.specs.declared.keyword.ConditionWord.{ConditionWord}
use Rattle.pth_spelling.specs.declared.keyword.ConditionWord.TheVariants as conditions
use Rattle.pth_spelling.specs.declared.keyword.BarrierWord.{BarrierWord}
use Rattle.pth_spelling.specs.declared.keyword.BarrierWord.TheVariants as barriers
use Rattle.pth_spelling.specs.declared.keyword.IoWord.{IoWord}
use Rattle.pth_spelling.specs.declared.keyword.IoWord.TheVariants as ios
use Rattle.pth_spelling.specs.declared.keyword.NewEventWord.{NewEventWord}
use Rattle.pth_spelling.specs.declared.keyword.NewEventWord.TheVariants as new_events

-- the word of the call is no register, and it is that call's keyword
pub record IsFirst (k : CallWord) : Type 0 where
  pub plain : register_of (syntax_of k).text ≡ None
  pub keyword : keyword_of (syntax_of k).text ≡ Some (key.Call k)

-- of calls that make an event
new_event_first : (k : NewEventWord) → IsFirst (calls.Events (events.New k))
unfolding register_of own_of shared_of numeral_value keyword_of plain_word call_word named_in
new_event_first new_events.Fd = record { plain = refl; keyword = refl }
new_event_first new_events.Select = record { plain = refl; keyword = refl }
new_event_first new_events.Time = record { plain = refl; keyword = refl }
new_event_first new_events.Msg = record { plain = refl; keyword = refl }
new_event_first new_events.Cond = record { plain = refl; keyword = refl }
new_event_first new_events.Tid = record { plain = refl; keyword = refl }
new_event_first new_events.Func = record { plain = refl; keyword = refl }

-- of calls that manage the library
library_first : (k : LibraryWord) → IsFirst (calls.Library k)
unfolding register_of own_of shared_of numeral_value keyword_of plain_word call_word named_in
library_first libraries.Kill = record { plain = refl; keyword = refl }
library_first libraries.Ctrl = record { plain = refl; keyword = refl }

-- of calls on attribute objects
attribute_first : (k : AttributeWord) → IsFirst (calls.Attributes k)
unfolding register_of own_of shared_of numeral_value keyword_of plain_word call_word named_in
attribute_first attributes.New = record { plain = refl; keyword = refl }
attribute_first attributes.Of = record { plain = refl; keyword = refl }
attribute_first attributes.Init = record { plain = refl; keyword = refl }
attribute_first attributes.Set = record { plain = refl; keyword = refl }
attribute_first attributes.Get = record { plain = refl; keyword = refl }
attribute_first attributes.Destroy = record { plain = refl; keyword = refl }

-- of calls on threads
thread_first : (k : ThreadWord) → IsFirst (calls.Threads k)
unfolding register_of own_of shared_of numeral_value keyword_of plain_word call_word named_in
thread_first threads.Spawn = record { plain = refl; keyword = refl }
thread_first threads.Once = record { plain = refl; keyword = refl }
thread_first threads.SelfTid = record { plain = refl; keyword = refl }
thread_first threads.Suspend = record { plain = refl; keyword = refl }
thread_first threads.Resume = record { plain = refl; keyword = refl }
thread_first threads.Yield = record { plain = refl; keyword = refl }
thread_first threads.Nap = record { plain = refl; keyword = refl }
thread_first threads.Wait = record { plain = refl; keyword = refl }
thread_first threads.Cancel = record { plain = refl; keyword = refl }
thread_first threads.Abort = record { plain = refl; keyword = refl }
thread_first threads.Join = record { plain = refl; keyword = refl }
thread_first threads.Exit = record { plain = refl; keyword = refl }

-- of the utilities
utility_first : (k : UtilityWord) → IsFirst (calls.Utilities k)
unfolding register_of own_of shared_of numeral_value keyword_of plain_word call_word named_in
utility_first utilities.Fdmode = record { plain = refl; keyword = refl }
utility_first utilities.Timeout = record { plain = refl; keyword = refl }

-- of calls on cancellation
cancellation_first : (k : CancellationWord) → IsFirst (calls.Cancellation k)
unfolding register_of own_of shared_of numeral_value keyword_of plain_word call_word named_in
cancellation_first cancellations.Point = record { plain = refl; keyword = refl }
cancellation_first cancellations.State = record { plain = refl; keyword = refl }

-- of calls on events
event_first : (k : EventWord) → IsFirst (calls.Events k)
unfolding register_of own_of shared_of numeral_value keyword_of plain_word call_word named_in
event_first (events.New k) = new_event_first k
event_first events.Chain = record { plain = refl; keyword = refl }
event_first events.Concat = record { plain = refl; keyword = refl }
event_first events.Isolate = record { plain = refl; keyword = refl }
event_first events.Walk = record { plain = refl; keyword = refl }
event_first events.Status = record { plain = refl; keyword = refl }
event_first events.Kind = record { plain = refl; keyword = refl }
event_first events.Free = record { plain = refl; keyword = refl }

-- of calls on keys
key_first : (k : KeyStorageWord) → IsFirst (calls.Keys k)
unfolding register_of own_of shared_of numeral_value keyword_of plain_word call_word named_in
key_first keys.Create = record { plain = refl; keyword = refl }
key_first keys.Delete = record { plain = refl; keyword = refl }
key_first keys.Set = record { plain = refl; keyword = refl }
key_first keys.Get = record { plain = refl; keyword = refl }

-- of calls on message ports
port_first : (k : PortWord) → IsFirst (calls.Ports k)
unfolding register_of own_of shared_of numeral_value keyword_of plain_word call_word named_in
port_first ports.Create = record { plain = refl; keyword = refl }
port_first ports.Find = record { plain = refl; keyword = refl }
port_first ports.Pending = record { plain = refl; keyword = refl }
port_first ports.Put = record { plain = refl; keyword = refl }
port_first ports.Get = record { plain = refl; keyword = refl }
port_first ports.Reply = record { plain = refl; keyword = refl }
port_first ports.Destroy = record { plain = refl; keyword = refl }

-- of calls on cleanup handlers
cleanup_first : (k : CleanupWord) → IsFirst (calls.Cleanups k)
unfolding register_of own_of shared_of numeral_value keyword_of plain_word call_word named_in
cleanup_first cleanups.Push = record { plain = refl; keyword = refl }
cleanup_first cleanups.Pop = record { plain = refl; keyword = refl }

-- of calls on mutexes
mutex_first : (k : MutexWord) → IsFirst (calls.Mutexes k)
unfolding register_of own_of shared_of numeral_value keyword_of plain_word call_word named_in
mutex_first mutexes.Init = record { plain = refl; keyword = refl }
mutex_first mutexes.Acquire = record { plain = refl; keyword = refl }
mutex_first mutexes.Release = record { plain = refl; keyword = refl }

-- of calls on read-write locks
rwlock_first : (k : RwlockWord) → IsFirst (calls.Rwlocks k)
unfolding register_of own_of shared_of numeral_value keyword_of plain_word call_word named_in
rwlock_first rwlocks.Init = record { plain = refl; keyword = refl }
rwlock_first rwlocks.Acquire = record { plain = refl; keyword = refl }
rwlock_first rwlocks.Release = record { plain = refl; keyword = refl }

-- of calls on conditions
condition_first : (k : ConditionWord) → IsFirst (calls.Conditions k)
unfolding register_of own_of shared_of numeral_value keyword_of plain_word call_word named_in
condition_first conditions.Init = record { plain = refl; keyword = refl }
condition_first conditions.Await = record { plain = refl; keyword = refl }
condition_first conditions.Notify = record { plain = refl; keyword = refl }

-- of calls on barriers
barrier_first : (k : BarrierWord) → IsFirst (calls.Barriers k)
unfolding register_of own_of shared_of numeral_value keyword_of plain_word call_word named_in
barrier_first barriers.Init = record { plain = refl; keyword = refl }
barrier_first barriers.Reach = record { plain = refl; keyword = refl }

-- of calls that replace those of POSIX
io_first : (k : IoWord) → IsFirst (calls.Io k)
unfolding register_of own_of shared_of numeral_value keyword_of plain_word call_word named_in
io_first ios.Usleep = record { plain = refl; keyword = refl }
io_first ios.Sleep = record { plain = refl; keyword = refl }
io_first ios.Read = record { plain = refl; keyword = refl }
io_first ios.ReadEv = record { plain = refl; keyword = refl }
io_first ios.Write = record { plain = refl; keyword = refl }
io_first ios.WriteEv = record { plain = refl; keyword = refl }
io_first ios.Accept = record { plain = refl; keyword = refl }
io_first ios.AcceptEv = record { plain = refl; keyword = refl }
io_first ios.Connect = record { plain = refl; keyword = refl }
io_first ios.ConnectEv = record { plain = refl; keyword = refl }
io_first ios.Select = record { plain = refl; keyword = refl }
io_first ios.SelectEv = record { plain = refl; keyword = refl }
io_first ios.Close = record { plain = refl; keyword = refl }

-- of all calls
pub first : (k : CallWord) → IsFirst k
first (calls.Library k) = library_first k
first (calls.Attributes k) = attribute_first k
first (calls.Threads k) = thread_first k
first (calls.Utilities k) = utility_first k
first (calls.Cancellation k) = cancellation_first k
first (calls.Events k) = event_first k
first (calls.Keys k) = key_first k
first (calls.Ports k) = port_first k
first (calls.Cleanups k) = cleanup_first k
first (calls.Mutexes k) = mutex_first k
first (calls.Rwlocks k) = rwlock_first k
first (calls.Conditions k) = condition_first k
first (calls.Barriers k) = barrier_first k
first (calls.Io k) = io_first k
