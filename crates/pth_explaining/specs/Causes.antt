-- What a call waits for.
use Rattle.std.specs.Prelude.{ℕ, zero, ℤ, pos, List, [], Option, Some, None, codes}
use Rattle.pth_base.specs.declared.call.Call.{Call}
use Rattle.pth_base.specs.declared.call.Call.TheVariants as call
use Rattle.pth_explaining.specs.declared.cause.Cause.{Cause}
use Rattle.pth_explaining.specs.declared.cause.Cause.TheVariants as cause

-- ---- causes

-- main's `pth_exit` waits for the ends of all other threads, and `pth_join` of 0 for the end of any
abbrev pub end_of : ℤ → Cause
end_of (pos zero) = cause.AnyEnd
end_of t = cause.End t

-- what a call waits for, but for an extra ring
abbrev pub cause_of : Call → Cause
cause_of (call.Exit v) = cause.AllEnds
cause_of (call.Join t) = end_of t
cause_of (call.Nap n) = cause.Time
cause_of (call.Usleep n) = cause.Time
cause_of (call.Sleep n) = cause.Time
cause_of (call.Wait e) = cause.Event e
cause_of (call.Read f n) = cause.Descriptor f
cause_of (call.ReadEv f n e) = cause.Descriptor f
cause_of (call.Write f bytes) = cause.Descriptor f
cause_of (call.WriteEv f bytes e) = cause.Descriptor f
cause_of (call.Accept f) = cause.Descriptor f
cause_of (call.AcceptEv f e) = cause.Descriptor f
cause_of (call.Connect f) = cause.Descriptor f
cause_of (call.ConnectEv f e) = cause.Descriptor f
cause_of (call.Select r w x l) = cause.Descriptors
cause_of (call.SelectEv r w x l e) = cause.Descriptors
cause_of (call.MutexAcquire m v e) = cause.Mutex m
cause_of (call.RwAcquire l write v e) = cause.Lock l
cause_of (call.CondAwait c m e) = cause.Condition c
cause_of (call.BarrierReach b) = cause.Barrier b
cause_of c = cause.Unknown

-- what a call waits for that takes a mutex back
abbrev pub retaken_by : Call → Cause
retaken_by (call.CondAwait c m e) = cause.Retaken m
retaken_by c = cause.Unknown

-- an operand names an extra ring, unless it is 0
abbrev pub ring_named : ℤ → Option ℤ
ring_named (pos zero) = None
ring_named e = Some e

-- the extra ring of a call, an event of which ends the wait too
abbrev pub ring_of : Call → Option ℤ
ring_of (call.ReadEv f n e) = ring_named e
ring_of (call.WriteEv f bytes e) = ring_named e
ring_of (call.AcceptEv f e) = ring_named e
ring_of (call.ConnectEv f e) = ring_named e
ring_of (call.SelectEv r w x l e) = ring_named e
ring_of (call.MutexAcquire m v e) = ring_named e
ring_of (call.RwAcquire l write v e) = ring_named e
ring_of (call.CondAwait c m e) = ring_named e
ring_of c = None

-- ---- how they are said

-- what a cause is, behind `waits` or `retakes` and before its number
abbrev pub words_of : Cause → List ℕ
words_of (cause.Mutex m) = codes " for mutex "
words_of (cause.Lock l) = codes " for rwlock "
words_of (cause.Condition c) = codes " for condition "
words_of (cause.Barrier b) = codes " for barrier "
words_of (cause.Descriptor f) = codes " for descriptor "
words_of cause.Descriptors = codes " for descriptors"
words_of (cause.End t) = codes " for the end of t"
words_of cause.AnyEnd = codes " for the end of any thread"
words_of cause.AllEnds = codes " for the end of all other threads"
words_of cause.Time = codes " for its deadline"
words_of (cause.Event e) = codes " for an event of ring "
words_of (cause.Retaken m) = codes " mutex "
words_of cause.Unknown = []

-- the number of a cause, if it has one
abbrev pub number_in : Cause → Option ℤ
number_in (cause.Mutex m) = Some m
number_in (cause.Lock l) = Some l
number_in (cause.Condition c) = Some c
number_in (cause.Barrier b) = Some b
number_in (cause.Descriptor f) = Some f
number_in (cause.End t) = Some t
number_in (cause.Event e) = Some e
number_in (cause.Retaken m) = Some m
number_in c = None
