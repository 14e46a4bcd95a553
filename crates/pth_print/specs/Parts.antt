-- Calls in parts: which call it is, and its operands in the order of its line.
use Rattle.std.specs.Prelude.{ℤ, List, [], ◌∷◌, Option, Some, None}
use Rattle.pth_base.specs.declared.attr.AttrField.TheVariants as field
use Rattle.pth_base.specs.declared.attr.AttrValue.{AttrValue}
use Rattle.pth_base.specs.declared.attr.AttrValue.TheVariants as value
use Rattle.pth_base.specs.declared.call.Call.{Call}
use Rattle.pth_base.specs.declared.call.Call.TheVariants as call
use Rattle.pth_base.specs.declared.event.EvLine.{EvLine}
use Rattle.pth_base.specs.declared.event.EvLine.TheVariants as line
use Rattle.pth_base.specs.declared.query.Query.{Query}
use Rattle.pth_base.specs.declared.query.Query.TheVariants as query
use Rattle.pth_spelling.specs.declared.keyword.AttributeWord.TheVariants as attributes
use Rattle.pth_spelling.specs.declared.keyword.BarrierWord.TheVariants as barriers
use Rattle.pth_spelling.specs.declared.keyword.CancellationWord.TheVariants as cancellations
use Rattle.pth_spelling.specs.declared.keyword.CleanupWord.TheVariants as cleanups
use Rattle.pth_spelling.specs.declared.keyword.ConditionWord.TheVariants as conditions
use Rattle.pth_spelling.specs.declared.keyword.EventWord.TheVariants as events
use Rattle.pth_spelling.specs.declared.keyword.IoWord.TheVariants as ios
use Rattle.pth_spelling.specs.declared.keyword.KeyStorageWord.TheVariants as keys
use Rattle.pth_spelling.specs.declared.keyword.LibraryWord.TheVariants as libraries
use Rattle.pth_spelling.specs.declared.keyword.MutexWord.TheVariants as mutexes
use Rattle.pth_spelling.specs.declared.keyword.PortWord.TheVariants as ports
use Rattle.pth_spelling.specs.declared.keyword.RwlockWord.TheVariants as rwlocks
use Rattle.pth_spelling.specs.declared.keyword.ThreadWord.TheVariants as threads
use Rattle.pth_spelling.specs.declared.keyword.UtilityWord.TheVariants as utilities
use Rattle.pth_spelling.specs.declared.keyword.CallWord.{CallWord}
use Rattle.pth_spelling.specs.declared.keyword.CallWord.TheVariants as calls
use Rattle.pth_spelling.specs.declared.keyword.NewEventWord.TheVariants as new_events
use Rattle.pth_spelling.specs.declared.keyword.QueryWord.{QueryWord}
use Rattle.pth_spelling.specs.declared.keyword.QueryWord.TheVariants as queries
use Rattle.pth_spelling.specs.Args.{Arg}
use Rattle.pth_spelling.specs.Args as arg

pub record Parts : Type 0 where
  pub word : CallWord
  pub operands : List Arg

abbrev pub parts : CallWord → List Arg → Parts
parts w os = record { word = w; operands = os }

-- ---- operands that stand together

-- what the scheduler is asked
abbrev pub asked : Query → QueryWord
asked query.Threads = queries.Threads
asked query.New = queries.New
asked query.Ready = queries.Ready
asked query.Running = queries.Running
asked query.Waiting = queries.Waiting
asked query.Suspended = queries.Suspended
asked query.Dead = queries.Dead
asked (query.Favournew n) = queries.Favournew
asked (query.Prio n) = queries.Prio
asked (query.Name n) = queries.Name

-- and what it is asked of
abbrev pub asked_of : Query → List Arg
asked_of (query.Favournew n) = arg.Number n ∷ []
asked_of (query.Prio t) = arg.Number t ∷ []
asked_of (query.Name t) = arg.Number t ∷ []
asked_of q = []

abbrev pub query_args : Query → List Arg
query_args q = arg.Query (asked q) ∷ asked_of q

-- a field and its value
abbrev pub value_args : AttrValue → List Arg
value_args (value.Prio n) = arg.Field field.Prio ∷ arg.Number n ∷ []
value_args (value.Name name) = arg.Field field.Name ∷ arg.Name name ∷ []
value_args (value.Joinable n) = arg.Field field.Joinable ∷ arg.Number n ∷ []
value_args (value.Cancel n) = arg.Field field.Cancel ∷ arg.Number n ∷ []
value_args (value.Dispatches n) = arg.Field field.Dispatches ∷ arg.Number n ∷ []
value_args (value.State n) = arg.Field field.State ∷ arg.Number n ∷ []
value_args (value.Bound n) = arg.Field field.Bound ∷ arg.Number n ∷ []

-- an event line
abbrev pub event_args : EvLine → List Arg
event_args (line.Fd goals fd) = arg.Event new_events.Fd ∷ arg.Goals goals ∷ arg.Number fd ∷ []
event_args (line.Select r w x) = arg.Event new_events.Select ∷ arg.Set r.0 ∷ arg.Set w.0 ∷ arg.Set x.0 ∷ []
event_args (line.Time m) = arg.Event new_events.Time ∷ arg.Number m ∷ []
event_args (line.Msg p) = arg.Event new_events.Msg ∷ arg.Number p ∷ []
event_args (line.Cond c) = arg.Event new_events.Cond ∷ arg.Number c ∷ []
event_args (line.Tid state tid) = arg.Event new_events.Tid ∷ arg.State state ∷ arg.Number tid ∷ []
event_args (line.Func check given interval) = arg.Event new_events.Func ∷ arg.Number check ∷ arg.Number given ∷ arg.Number interval ∷ []

-- ---- a call; `Plain` and `Note` are none

abbrev pub parts_of : Call → Option Parts
parts_of call.Kill = Some (parts (calls.Library libraries.Kill) [])
parts_of (call.Ctrl query) = Some (parts (calls.Library libraries.Ctrl) (query_args query))
parts_of call.AttrNew = Some (parts (calls.Attributes attributes.New) [])
parts_of (call.AttrOf t) = Some (parts (calls.Attributes attributes.Of) (arg.Number t ∷ []))
parts_of (call.AttrInit a) = Some (parts (calls.Attributes attributes.Init) (arg.Number a ∷ []))
parts_of (call.AttrSet a v) = Some (parts (calls.Attributes attributes.Set) (arg.Number a ∷ value_args v))
parts_of (call.AttrGet a f) = Some (parts (calls.Attributes attributes.Get) (arg.Number a ∷ arg.Field f ∷ []))
parts_of (call.AttrDestroy a) = Some (parts (calls.Attributes attributes.Destroy) (arg.Number a ∷ []))
parts_of (call.Spawn b v a) = Some (parts (calls.Threads threads.Spawn) (arg.Number b ∷ arg.Number v ∷ arg.Number a ∷ []))
parts_of (call.Once o h v) = Some (parts (calls.Threads threads.Once) (arg.Number o ∷ arg.Number h ∷ arg.Number v ∷ []))
parts_of call.SelfTid = Some (parts (calls.Threads threads.SelfTid) [])
parts_of (call.Suspend t) = Some (parts (calls.Threads threads.Suspend) (arg.Number t ∷ []))
parts_of (call.Resume t) = Some (parts (calls.Threads threads.Resume) (arg.Number t ∷ []))
parts_of (call.Yield t) = Some (parts (calls.Threads threads.Yield) (arg.Number t ∷ []))
parts_of (call.Nap l) = Some (parts (calls.Threads threads.Nap) (arg.Number l ∷ []))
parts_of (call.Wait e) = Some (parts (calls.Threads threads.Wait) (arg.Number e ∷ []))
parts_of (call.Cancel t) = Some (parts (calls.Threads threads.Cancel) (arg.Number t ∷ []))
parts_of (call.Abort t) = Some (parts (calls.Threads threads.Abort) (arg.Number t ∷ []))
parts_of (call.Join t) = Some (parts (calls.Threads threads.Join) (arg.Number t ∷ []))
parts_of (call.Exit v) = Some (parts (calls.Threads threads.Exit) (arg.Number v ∷ []))
parts_of (call.Fdmode f m) = Some (parts (calls.Utilities utilities.Fdmode) (arg.Number f ∷ arg.Number m ∷ []))
parts_of (call.Timeout l) = Some (parts (calls.Utilities utilities.Timeout) (arg.Number l ∷ []))
parts_of call.CancelPoint = Some (parts (calls.Cancellation cancellations.Point) [])
parts_of (call.CancelState n) = Some (parts (calls.Cancellation cancellations.State) (arg.Number n ∷ []))
parts_of (call.EvFd goals fd) = Some (parts (calls.Events (events.New new_events.Fd)) (arg.Goals goals ∷ arg.Number fd ∷ []))
parts_of (call.EvSelect r w x) = Some (parts (calls.Events (events.New new_events.Select)) (arg.Set r.0 ∷ arg.Set w.0 ∷ arg.Set x.0 ∷ []))
parts_of (call.EvTime m) = Some (parts (calls.Events (events.New new_events.Time)) (arg.Number m ∷ []))
parts_of (call.EvMsg p) = Some (parts (calls.Events (events.New new_events.Msg)) (arg.Number p ∷ []))
parts_of (call.EvCond c) = Some (parts (calls.Events (events.New new_events.Cond)) (arg.Number c ∷ []))
parts_of (call.EvTid state tid) = Some (parts (calls.Events (events.New new_events.Tid)) (arg.State state ∷ arg.Number tid ∷ []))
parts_of (call.EvFunc check given interval) = Some (parts (calls.Events (events.New new_events.Func)) (arg.Number check ∷ arg.Number given ∷ arg.Number interval ∷ []))
parts_of (call.Chain e line) = Some (parts (calls.Events events.Chain) (arg.Number e ∷ event_args line))
parts_of (call.EvConcat e f) = Some (parts (calls.Events events.Concat) (arg.Number e ∷ arg.Number f ∷ []))
parts_of (call.EvIsolate e) = Some (parts (calls.Events events.Isolate) (arg.Number e ∷ []))
parts_of (call.EvWalk e forward until_occurred) = Some (parts (calls.Events events.Walk) (arg.Number e ∷ arg.Walk forward until_occurred ∷ []))
parts_of (call.EvStatus e) = Some (parts (calls.Events events.Status) (arg.Number e ∷ []))
parts_of (call.EvKind e) = Some (parts (calls.Events events.Kind) (arg.Number e ∷ []))
parts_of (call.EvFree e all) = Some (parts (calls.Events events.Free) (arg.Number e ∷ arg.Which all ∷ []))
parts_of (call.KeyCreate h) = Some (parts (calls.Keys keys.Create) (arg.MaybeNumber h ∷ []))
parts_of (call.KeyDelete k) = Some (parts (calls.Keys keys.Delete) (arg.Number k ∷ []))
parts_of (call.KeySet k v) = Some (parts (calls.Keys keys.Set) (arg.Number k ∷ arg.Number v ∷ []))
parts_of (call.KeyGet k) = Some (parts (calls.Keys keys.Get) (arg.Number k ∷ []))
parts_of (call.PortCreate name) = Some (parts (calls.Ports ports.Create) (arg.MaybeName name ∷ []))
parts_of (call.PortFind name) = Some (parts (calls.Ports ports.Find) (arg.Name name ∷ []))
parts_of (call.PortPending p) = Some (parts (calls.Ports ports.Pending) (arg.Number p ∷ []))
parts_of (call.PortPut p v r) = Some (parts (calls.Ports ports.Put) (arg.Number p ∷ arg.Number v ∷ arg.Number r ∷ []))
parts_of (call.PortGet p) = Some (parts (calls.Ports ports.Get) (arg.Number p ∷ []))
parts_of (call.Reply m v) = Some (parts (calls.Ports ports.Reply) (arg.Number m ∷ arg.Number v ∷ []))
parts_of (call.PortDestroy p) = Some (parts (calls.Ports ports.Destroy) (arg.Number p ∷ []))
parts_of (call.CleanupPush h v) = Some (parts (calls.Cleanups cleanups.Push) (arg.Number h ∷ arg.Number v ∷ []))
parts_of (call.CleanupPop v) = Some (parts (calls.Cleanups cleanups.Pop) (arg.Number v ∷ []))
parts_of (call.MutexInit m) = Some (parts (calls.Mutexes mutexes.Init) (arg.Number m ∷ []))
parts_of (call.MutexAcquire m v e) = Some (parts (calls.Mutexes mutexes.Acquire) (arg.Number m ∷ arg.Number v ∷ arg.Number e ∷ []))
parts_of (call.MutexRelease m) = Some (parts (calls.Mutexes mutexes.Release) (arg.Number m ∷ []))
parts_of (call.RwInit l) = Some (parts (calls.Rwlocks rwlocks.Init) (arg.Number l ∷ []))
parts_of (call.RwAcquire l write v e) = Some (parts (calls.Rwlocks rwlocks.Acquire) (arg.Number l ∷ arg.Mode write ∷ arg.Number v ∷ arg.Number e ∷ []))
parts_of (call.RwRelease l) = Some (parts (calls.Rwlocks rwlocks.Release) (arg.Number l ∷ []))
parts_of (call.CondInit c) = Some (parts (calls.Conditions conditions.Init) (arg.Number c ∷ []))
parts_of (call.CondAwait c m e) = Some (parts (calls.Conditions conditions.Await) (arg.Number c ∷ arg.Number m ∷ arg.Number e ∷ []))
parts_of (call.CondNotify c v) = Some (parts (calls.Conditions conditions.Notify) (arg.Number c ∷ arg.Number v ∷ []))
parts_of (call.BarrierInit b n) = Some (parts (calls.Barriers barriers.Init) (arg.Number b ∷ arg.Number n ∷ []))
parts_of (call.BarrierReach b) = Some (parts (calls.Barriers barriers.Reach) (arg.Number b ∷ []))
parts_of (call.Usleep l) = Some (parts (calls.Io ios.Usleep) (arg.Number l ∷ []))
parts_of (call.Sleep s) = Some (parts (calls.Io ios.Sleep) (arg.Number s ∷ []))
parts_of (call.Read f n) = Some (parts (calls.Io ios.Read) (arg.Number f ∷ arg.Number n ∷ []))
parts_of (call.ReadEv f n e) = Some (parts (calls.Io ios.ReadEv) (arg.Number f ∷ arg.Number n ∷ arg.Number e ∷ []))
parts_of (call.Write f bytes) = Some (parts (calls.Io ios.Write) (arg.Number f ∷ arg.Bytes bytes ∷ []))
parts_of (call.WriteEv f bytes e) = Some (parts (calls.Io ios.WriteEv) (arg.Number f ∷ arg.Bytes bytes ∷ arg.Number e ∷ []))
parts_of (call.Accept f) = Some (parts (calls.Io ios.Accept) (arg.Number f ∷ []))
parts_of (call.AcceptEv f e) = Some (parts (calls.Io ios.AcceptEv) (arg.Number f ∷ arg.Number e ∷ []))
parts_of (call.Connect f) = Some (parts (calls.Io ios.Connect) (arg.Number f ∷ []))
parts_of (call.ConnectEv f e) = Some (parts (calls.Io ios.ConnectEv) (arg.Number f ∷ arg.Number e ∷ []))
parts_of (call.Select r w x l) = Some (parts (calls.Io ios.Select) (arg.Set r.0 ∷ arg.Set w.0 ∷ arg.Set x.0 ∷ arg.Number l ∷ []))
parts_of (call.SelectEv r w x l e) = Some (parts (calls.Io ios.SelectEv) (arg.Set r.0 ∷ arg.Set w.0 ∷ arg.Set x.0 ∷ arg.Number l ∷ arg.Number e ∷ []))
parts_of (call.Close f) = Some (parts (calls.Io ios.Close) (arg.Number f ∷ []))
parts_of call.Plain = None
parts_of (call.Note v) = None
