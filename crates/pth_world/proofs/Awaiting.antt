-- What blocked threads may wait for.
use Rattle.std.proofs.Common.{◌≡◌, ℕ, ℤ, length, Bool, true, false, Option, Some, None, IfSome, if◌then◌else◌, sym, subst}
use Rattle.pth_base.specs.declared.call.Call.{Call}
use Rattle.pth_base.specs.declared.call.Call.TheVariants as call
use Rattle.pth_base.specs.declared.ids.FdSet.{FdSet}
use Rattle.pth_numbered.specs.Operands.{is_zero}
use Rattle.pth_model.specs.declared.awaits.Awaits.{Awaits}
use Rattle.pth_model.specs.declared.awaits.Awaits.TheVariants.{Death, AnyDeath, Moment, Writing, Selection, Notice, Retaking}
use Rattle.pth_model.specs.declared.blocked.Blocked.{Blocked}
use Rattle.pth_model.specs.Awaits.{awaits_in}
use Rattle.pth_world.specs.WellFormed.{IsMoment, IsSelection, IsWriting, MayAwait, MayAwaitAs, MayBlock, IsAwait}

death_may : (zero : Bool) (n : ℤ) → MayAwait (if zero then AnyDeath else Death n)
death_may true n = tt
death_may false n = tt

moment_may : (a : Awaits) → IsMoment a → MayAwait a
moment_may (Moment m) is = is
moment_may a is = absurd is

writing_may : (f : ℤ) (n : ℕ) (a : Awaits) → IsWriting f n a → MayAwait a
writing_may f n (Writing g total written) is = (is.2, is.3)
writing_may f n a is = absurd is

selection_may : (r w x : FdSet) (a : Awaits) → IsSelection r w x a → MayAwait a
selection_may r w x (Selection b c d (Some deadline)) is = is.3
selection_may r w x (Selection b c d None) is = tt
selection_may r w x a is = absurd is

await_may : (c m : ℤ) (a : Awaits) → IsAwait c m a → MayAwait a
await_may c m (Notice d) is = tt
await_may c m (Retaking n o) is = tt
await_may c m a is = absurd is

by_equal : (a b : Awaits) → a ≡ b → MayAwait b → MayAwait a
by_equal a b is may = subst MayAwait (sym is) may

call_may : (t : ℕ) (c : Call) (a : Awaits) → MayAwaitAs t c a → MayAwait a
call_may t (call.Exit v) a may = by_equal a _ may.1 tt
call_may t (call.Join n) a may = by_equal a _ may (death_may (is_zero n) n)
call_may t (call.Nap n) a may = moment_may a may
call_may t (call.Usleep n) a may = moment_may a may
call_may t (call.Sleep n) a may = moment_may a may
call_may t (call.Write f bytes) a may = writing_may f (length bytes) a may
call_may t (call.WriteEv f bytes e) a may = writing_may f (length bytes) a may
call_may t (call.Select r w x l) a may = selection_may r w x a may
call_may t (call.SelectEv r w x l e) a may = selection_may r w x a may
call_may t (call.Wait e) a may = by_equal a _ may tt
call_may t (call.Read f n) a may = by_equal a _ may tt
call_may t (call.ReadEv f n e) a may = by_equal a _ may tt
call_may t (call.Accept f) a may = by_equal a _ may tt
call_may t (call.AcceptEv f e) a may = by_equal a _ may tt
call_may t (call.Connect f) a may = by_equal a _ may tt
call_may t (call.ConnectEv f e) a may = by_equal a _ may tt
call_may t (call.MutexAcquire m v e) a may = by_equal a _ may tt
call_may t (call.RwAcquire l write v e) a may = by_equal a _ may tt
call_may t (call.CondAwait c m e) a may = await_may c m a may
call_may t (call.BarrierReach b) a may = by_equal a _ may tt
call_may t c a may = absurd may

pub may_await : (t : ℕ) (o : Option Blocked) → IfSome o (λ b. MayBlock t b) → MayAwait (awaits_in o)
may_await t None may = tt
may_await t (Some b) may = call_may t b.call b.awaits may
