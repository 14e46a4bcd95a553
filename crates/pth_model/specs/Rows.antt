-- The row of each call. Its parts stand with its facility, in pth(3)'s order.
use Rattle.std.specs.Prelude.{ℕ, None}
use Rattle.pth_base.specs.Program.{Functions}
use Rattle.pth_base.specs.declared.answer.Answer.TheVariants as answer
use Rattle.pth_base.specs.declared.call.Call.{Call}
use Rattle.pth_base.specs.declared.call.Call.TheVariants as call
use Rattle.pth_base.specs.declared.event.EvLine.TheVariants as line
use Rattle.pth_model.specs.declared.verdict.Verdict.TheVariants.{Says}
use Rattle.pth_model.specs.Verdict.{says}
use Rattle.pth_model.specs.State.{State}
use Rattle.pth_model.specs.Transition.{nothing}
use Rattle.pth_model.specs.Row.{Row, ◌changing◌}
use Rattle.pth_model.specs.LibraryControl.{kill, ctrl}
use Rattle.pth_model.specs.AttributeHandling.{attr_new, attr_of, attr_init, attr_set, attr_get, attr_destroy}
use Rattle.pth_model.specs.ThreadControl.{spawn, self, suspend, resume, yield, join}
use Rattle.pth_model.specs.KeyStorage.{key_create, key_delete, key_set, key_get}
use Rattle.pth_model.specs.Cleanups.{cleanup_push, cleanup_pop, once}
use Rattle.pth_model.specs.EventHandling.{make_event, chain, ev_concat, ev_isolate, ev_walk, ev_status, ev_kind, ev_free, wait}
use Rattle.pth_model.specs.Cancellation.{cancel_state, cancel_point, cancel, abort}
use Rattle.pth_model.specs.Mutexes.{mutex_init, mutex_acquire, mutex_release}
use Rattle.pth_model.specs.Rwlocks.{rw_init, rw_acquire, rw_release}
use Rattle.pth_model.specs.Conditions.{cond_init, cond_await, cond_notify}
use Rattle.pth_model.specs.Barriers.{barrier_init, barrier_reach}
use Rattle.pth_model.specs.Ports.{port_create, port_find, port_pending, port_put, port_get, reply, port_destroy}
use Rattle.pth_model.specs.ThreadEnds.{exit}
use Rattle.pth_model.specs.Times.{timeout, nap, usleep, sleep}
use Rattle.pth_model.specs.RingWaits.{extra_ring}
use Rattle.pth_model.specs.Io.{read, write, accept, connect, select, fdmode, close}

module _ {P S H : Type 0} (f : P → Functions S H) (s : State P S H) (t : ℕ) where
  -- the row of a call of t
  unfoldable pub row_of : Call → Row P S H
  row_of call.Kill = kill s t
  row_of (call.Ctrl q) = ctrl s q
  row_of call.AttrNew = attr_new s
  row_of (call.AttrOf n) = attr_of s n
  row_of (call.AttrInit a) = attr_init s a
  row_of (call.AttrSet a v) = attr_set s a v
  row_of (call.AttrGet a x) = attr_get s a x
  row_of (call.AttrDestroy a) = attr_destroy s a
  row_of (call.Spawn b v a) = spawn f s t b v a
  row_of (call.Once o h v) = once f s t o h v
  row_of call.SelfTid = self s t
  row_of (call.Suspend n) = suspend s t n
  row_of (call.Resume n) = resume s t n
  row_of (call.Yield n) = yield s t n
  row_of (call.Nap l) = nap s l
  row_of (call.Wait e) = wait s e
  row_of (call.Cancel n) = cancel f s t n
  row_of (call.Abort n) = abort f s t n
  row_of (call.Join n) = join s t n
  row_of (call.Exit v) = exit s t v
  row_of (call.Fdmode d m) = fdmode s d m
  row_of (call.Timeout l) = timeout s l
  row_of call.CancelPoint = cancel_point s t
  row_of (call.CancelState n) = cancel_state s t n
  row_of (call.EvFd goals fd) = make_event s (line.Fd goals fd)
  row_of (call.EvSelect r w x) = make_event s (line.Select r w x)
  row_of (call.EvTime m) = make_event s (line.Time m)
  row_of (call.EvMsg p) = make_event s (line.Msg p)
  row_of (call.EvCond c) = make_event s (line.Cond c)
  row_of (call.EvTid state n) = make_event s (line.Tid state n)
  row_of (call.EvFunc c v l) = make_event s (line.Func c v l)
  row_of (call.Chain e l) = chain s e l
  row_of (call.EvConcat e g) = ev_concat s e g
  row_of (call.EvIsolate e) = ev_isolate s e
  row_of (call.EvWalk e forward until_occurred) = ev_walk s e forward until_occurred
  row_of (call.EvStatus e) = ev_status s e
  row_of (call.EvKind e) = ev_kind s e
  row_of (call.EvFree e all) = ev_free s e all
  row_of (call.KeyCreate h) = key_create s
  row_of (call.KeyDelete k) = key_delete s k
  row_of (call.KeySet k v) = key_set s k
  row_of (call.KeyGet k) = key_get s t k
  row_of (call.PortCreate name) = port_create s name
  row_of (call.PortFind name) = port_find s name
  row_of (call.PortPending p) = port_pending s p
  row_of (call.PortPut p v r) = port_put s p r
  row_of (call.PortGet p) = port_get s p
  row_of (call.Reply m v) = reply s m
  row_of (call.PortDestroy p) = port_destroy s p
  row_of (call.CleanupPush h v) = cleanup_push f s t
  row_of (call.CleanupPop v) = cleanup_pop f s t v
  row_of (call.MutexInit m) = mutex_init s m
  row_of (call.MutexAcquire m v e) = mutex_acquire s t m v e
  row_of (call.MutexRelease m) = mutex_release s t m
  row_of (call.RwInit l) = rw_init s l
  row_of (call.RwAcquire l write v e) = rw_acquire s t l write v e
  row_of (call.RwRelease l) = rw_release s t l
  row_of (call.CondInit c) = cond_init s c
  row_of (call.CondAwait c m e) = cond_await s t c m e
  row_of (call.CondNotify c v) = cond_notify s c v
  row_of (call.BarrierInit b n) = barrier_init s b n
  row_of (call.BarrierReach b) = barrier_reach s t b
  row_of (call.Usleep l) = usleep s l
  row_of (call.Sleep l) = sleep s l
  row_of (call.Read d n) = read s d n None
  row_of (call.ReadEv d n e) = read s d n (extra_ring e)
  row_of (call.Write d bytes) = write s d bytes None
  row_of (call.WriteEv d bytes e) = write s d bytes (extra_ring e)
  row_of (call.Accept d) = accept s d None
  row_of (call.AcceptEv d e) = accept s d (extra_ring e)
  row_of (call.Connect d) = connect s d None
  row_of (call.ConnectEv d e) = connect s d (extra_ring e)
  row_of (call.Select r w x l) = select s r w x l None
  row_of (call.SelectEv r w x l e) = select s r w x l (extra_ring e)
  row_of (call.Close d) = close s d
  -- a plain line and a note call nothing: `begun` tells them without a row, and these two stand here so that no call is left out
  row_of call.Plain = Says answer.None changing nothing
  row_of (call.Note v) = says 0 changing nothing
