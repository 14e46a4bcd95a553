-- The words that begin lines.
use Rattle.std.specs.Prelude.{ℕ, List, [], ◌∷◌, Option, Some, None, codes, map, option_and_then, option_map}
use Rattle.pth_spelling.specs.Named.{named_in}
use Rattle.pth_spelling.specs.Syntax.{syntax_of}
use Rattle.pth_spelling.specs.declared.keyword.LibraryWord.TheVariants as libraries
use Rattle.pth_spelling.specs.declared.keyword.AttributeWord.TheVariants as attributes
use Rattle.pth_spelling.specs.declared.keyword.ThreadWord.TheVariants as threads
use Rattle.pth_spelling.specs.declared.keyword.UtilityWord.TheVariants as utilities
use Rattle.pth_spelling.specs.declared.keyword.CancellationWord.TheVariants as cancellations
use Rattle.pth_spelling.specs.declared.keyword.EventWord.TheVariants as events
use Rattle.pth_spelling.specs.declared.keyword.KeyStorageWord.TheVariants as keys
use Rattle.pth_spelling.specs.declared.keyword.PortWord.TheVariants as ports
use Rattle.pth_spelling.specs.declared.keyword.CleanupWord.TheVariants as cleanups
use Rattle.pth_spelling.specs.declared.keyword.MutexWord.TheVariants as mutexes
use Rattle.pth_spelling.specs.declared.keyword.RwlockWord.TheVariants as rwlocks
use Rattle.pth_spelling.specs.declared.keyword.ConditionWord.TheVariants as conditions
use Rattle.pth_spelling.specs.declared.keyword.BarrierWord.TheVariants as barriers
use Rattle.pth_spelling.specs.declared.keyword.IoWord.TheVariants as ios
use Rattle.pth_spelling.specs.declared.keyword.NewEventWord.{NewEventWord}
use Rattle.pth_spelling.specs.declared.keyword.NewEventWord.TheVariants as new_events
use Rattle.pth_spelling.specs.declared.keyword.EntryWord.{EntryWord}
use Rattle.pth_spelling.specs.declared.keyword.EntryWord.TheVariants as entries
use Rattle.pth_spelling.specs.declared.keyword.CallWord.{CallWord}
use Rattle.pth_spelling.specs.declared.keyword.CallWord.TheVariants as call
use Rattle.pth_spelling.specs.declared.keyword.Keyword.{Keyword}
use Rattle.pth_spelling.specs.declared.keyword.Keyword.TheVariants as key

-- ---- call lines

-- all calls, by the facility
abbrev pub all_calls : List CallWord
all_calls =
    call.Library libraries.Kill ∷ call.Library libraries.Ctrl
    ∷ call.Attributes attributes.New ∷ call.Attributes attributes.Of ∷ call.Attributes attributes.Init
    ∷ call.Attributes attributes.Set ∷ call.Attributes attributes.Get ∷ call.Attributes attributes.Destroy
    ∷ call.Threads threads.Spawn ∷ call.Threads threads.Once ∷ call.Threads threads.SelfTid
    ∷ call.Threads threads.Suspend ∷ call.Threads threads.Resume ∷ call.Threads threads.Yield
    ∷ call.Threads threads.Nap ∷ call.Threads threads.Wait ∷ call.Threads threads.Cancel
    ∷ call.Threads threads.Abort ∷ call.Threads threads.Join ∷ call.Threads threads.Exit
    ∷ call.Utilities utilities.Fdmode ∷ call.Utilities utilities.Timeout
    ∷ call.Cancellation cancellations.Point ∷ call.Cancellation cancellations.State
    ∷ call.Events (events.New new_events.Fd) ∷ call.Events (events.New new_events.Select)
    ∷ call.Events (events.New new_events.Time) ∷ call.Events (events.New new_events.Msg)
    ∷ call.Events (events.New new_events.Cond) ∷ call.Events (events.New new_events.Tid)
    ∷ call.Events (events.New new_events.Func) ∷ call.Events events.Chain ∷ call.Events events.Concat
    ∷ call.Events events.Isolate ∷ call.Events events.Walk ∷ call.Events events.Status ∷ call.Events events.Kind
    ∷ call.Events events.Free
    ∷ call.Keys keys.Create ∷ call.Keys keys.Delete ∷ call.Keys keys.Set ∷ call.Keys keys.Get
    ∷ call.Ports ports.Create ∷ call.Ports ports.Find ∷ call.Ports ports.Pending ∷ call.Ports ports.Put
    ∷ call.Ports ports.Get ∷ call.Ports ports.Reply ∷ call.Ports ports.Destroy
    ∷ call.Cleanups cleanups.Push ∷ call.Cleanups cleanups.Pop
    ∷ call.Mutexes mutexes.Init ∷ call.Mutexes mutexes.Acquire ∷ call.Mutexes mutexes.Release
    ∷ call.Rwlocks rwlocks.Init ∷ call.Rwlocks rwlocks.Acquire ∷ call.Rwlocks rwlocks.Release
    ∷ call.Conditions conditions.Init ∷ call.Conditions conditions.Await ∷ call.Conditions conditions.Notify
    ∷ call.Barriers barriers.Init ∷ call.Barriers barriers.Reach
    ∷ call.Io ios.Usleep ∷ call.Io ios.Sleep ∷ call.Io ios.Read ∷ call.Io ios.ReadEv ∷ call.Io ios.Write
    ∷ call.Io ios.WriteEv ∷ call.Io ios.Accept ∷ call.Io ios.AcceptEv ∷ call.Io ios.Connect
    ∷ call.Io ios.ConnectEv ∷ call.Io ios.Select ∷ call.Io ios.SelectEv ∷ call.Io ios.Close
    ∷ []

-- the words of calls
abbrev pub call_words : List (List ℕ × CallWord)
call_words = map (λ k. ((syntax_of k).text, k)) all_calls

unfoldable pub call_word : List ℕ → Option CallWord
call_word w = named_in call_words w

-- the new event that a call makes
abbrev pub new_of : CallWord → Option NewEventWord
new_of (call.Events (events.New k)) = Some k
new_of k = None

unfoldable pub new_event_word : List ℕ → Option NewEventWord
new_event_word w = option_and_then (λ k. new_of k) (call_word w)

-- ---- what comes to descriptors

abbrev pub entry_words : List (List ℕ × EntryWord)
entry_words =
    (codes "in", entries.In)
    ∷ (codes "eof", entries.Eof)
    ∷ (codes "room", entries.Room)
    ∷ (codes "conn", entries.Conn)
    ∷ (codes "up", entries.Up)
    ∷ (codes "refuse", entries.Refuse)
    ∷ (codes "exc", entries.Exc)
    ∷ (codes "err", entries.Err)
    ∷ []

unfoldable pub entry_word : List ℕ → Option EntryWord
entry_word w = named_in entry_words w

-- ---- all first words

-- the first that is there
abbrev pub or_else : {A : Type 0} → Option A → Option A → Option A
or_else (Some x) o = Some x
or_else None o = o

-- the words of lines that make no call
abbrev pub plain_words : List (List ℕ × Keyword)
plain_words =
    (codes "handler", key.Handler)
    ∷ (codes "check", key.Check)
    ∷ (codes "thread", key.Thread)
    ∷ (codes "end", key.End)
    ∷ (codes "note", key.Note)
    ∷ (codes "set", key.Set)
    ∷ (codes "add", key.Add)
    ∷ (codes "label", key.Label)
    ∷ (codes "goto", key.Goto)
    ∷ (codes "release", key.Release)
    ∷ (codes "notify", key.Notify)
    ∷ (codes "put", key.Put)
    ∷ (codes "setkey", key.SetKey)
    ∷ (codes "kernel", key.Kernel)
    ∷ (codes "clock", key.Clock)
    ∷ (codes "open", key.Open)
    ∷ (codes "at", key.At)
    ∷ []

unfoldable pub plain_word : List ℕ → Option Keyword
plain_word w = named_in plain_words w

unfoldable pub keyword_of : List ℕ → Option Keyword
keyword_of w = or_else (plain_word w) (option_map (λ k. key.Call k) (call_word w))
