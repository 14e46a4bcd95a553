-- The calls that neither block their thread nor give up control, and that end nothing.
use Rattle.std.specs.Prelude.{Bool, true, false}
use Rattle.pth_base.specs.declared.call.Call.{Call}
use Rattle.pth_base.specs.declared.call.Call.TheVariants as call
use Rattle.pth_base.specs.declared.query.Query.{Query}
use Rattle.pth_base.specs.declared.query.Query.TheVariants as query

-- All calls but these: a plain line and a note call nothing, and pth_cleanup_pop and pth_once run handlers before they are answered.
abbrev pub is_plain : Call → Bool
is_plain call.Kill = false
is_plain (call.Yield n) = false
is_plain (call.Join n) = false
is_plain (call.Exit v) = false
is_plain (call.Nap n) = false
is_plain (call.Wait e) = false
is_plain (call.Usleep n) = false
is_plain (call.Sleep n) = false
is_plain (call.Read f n) = false
is_plain (call.ReadEv f n e) = false
is_plain (call.Write f bytes) = false
is_plain (call.WriteEv f bytes e) = false
is_plain (call.Accept f) = false
is_plain (call.AcceptEv f e) = false
is_plain (call.Connect f) = false
is_plain (call.ConnectEv f e) = false
is_plain (call.Select r w x l) = false
is_plain (call.SelectEv r w x l e) = false
is_plain (call.MutexAcquire m v e) = false
is_plain (call.RwAcquire l write v e) = false
is_plain (call.CondAwait x m e) = false
is_plain (call.BarrierReach b) = false
is_plain call.CancelPoint = false
is_plain (call.Cancel n) = false
is_plain (call.Abort n) = false
is_plain (call.CleanupPop v) = false
is_plain (call.Once o h v) = false
is_plain call.Plain = false
is_plain (call.Note v) = false
is_plain c = true

-- a question that is not answered by a number of threads
abbrev pub asks_for_more : Query → Bool
asks_for_more (query.Favournew n) = true
asks_for_more (query.Prio n) = true
asks_for_more (query.Name n) = true
asks_for_more q = false
