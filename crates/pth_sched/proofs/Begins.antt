-- Which calls never block their thread.
use Rattle.std.proofs.Common.{◌≡◌, ◌≢◌, ℕ, ℤ, true, None, refl, arith, false}
use Rattle.pth_base.specs.declared.call.Call.{Call}
use Rattle.pth_base.specs.declared.call.Call.TheVariants as call
use Rattle.pth_calls.specs.Plain.{is_plain}
use Rattle.pth_model.specs.declared.awaits.Awaits.{Awaits}
use Rattle.pth_model.specs.declared.awaits.Awaits.TheVariants.{Alone, Lock, Moment, Mutex, Ring, Round}
use Rattle.pth_model.specs.Awaits.{death_of, is_await}
use Rattle.pth_model.specs.State.{State, main}
use Rattle.pth_world.specs.WellFormed.{MayAwaitAs}
use Rattle.pth_waits.specs.Io.{first_awaited}
use Rattle.pth_waits.specs.Verdicts.{NeverBlocks}
use Rattle.pth_sched.specs.NonWaking.{is_non_waking}

-- a call that never blocks its thread is plain where it is none of these
pub is_plain_call : {P S H : Type 0} (s : State P S H) (c : Call) → NeverBlocks P S H c → c ≢ call.Kill → ((n : ℤ) → c ≢ call.Yield n) → c ≢ call.Plain → ((v : ℤ) → c ≢ call.Note v) → ((v : ℤ) → c ≢ call.CleanupPop v) → ((o h v : ℤ) → c ≢ call.Once o h v)
    → ((n : ℤ) → c ≢ call.Cancel n) → ((n : ℤ) → c ≢ call.Abort n) → c ≢ call.CancelPoint → is_plain c ≡ true
is_plain_call s (call.Join n) never no_kill no_yield no_plain no_note no_pop no_once no_cancel no_abort no_point = absurd (never.away 0 (death_of n) refl)
is_plain_call s (call.Exit v) never no_kill no_yield no_plain no_note no_pop no_once no_cancel no_abort no_point = absurd (never.away main Alone (refl, refl))
is_plain_call s (call.Nap n) never no_kill no_yield no_plain no_note no_pop no_once no_cancel no_abort no_point = absurd (never.away 0 (Moment 0) (omega arith))
is_plain_call s (call.Usleep n) never no_kill no_yield no_plain no_note no_pop no_once no_cancel no_abort no_point = absurd (never.away 0 (Moment 0) (omega arith))
is_plain_call s (call.Sleep n) never no_kill no_yield no_plain no_note no_pop no_once no_cancel no_abort no_point = absurd (never.away 0 (Moment 0) (omega arith))
is_plain_call s (call.Wait e) never no_kill no_yield no_plain no_note no_pop no_once no_cancel no_abort no_point = absurd (never.away 0 (Ring e) refl)
is_plain_call s (call.MutexAcquire m v e) never no_kill no_yield no_plain no_note no_pop no_once no_cancel no_abort no_point = absurd (never.away 0 (Mutex m) refl)
is_plain_call s (call.RwAcquire l write v e) never no_kill no_yield no_plain no_note no_pop no_once no_cancel no_abort no_point = absurd (never.away 0 (Lock l write) refl)
is_plain_call s (call.CondAwait x m e) never no_kill no_yield no_plain no_note no_pop no_once no_cancel no_abort no_point = absurd (cc never.unawaited)
is_plain_call s (call.BarrierReach b) never no_kill no_yield no_plain no_note no_pop no_once no_cancel no_abort no_point = absurd (never.away 0 (Round b 0) refl)
is_plain_call s (call.Read g n) never no_kill no_yield no_plain no_note no_pop no_once no_cancel no_abort no_point = absurd (cc (never.elsewhere s))
is_plain_call s (call.ReadEv g n e) never no_kill no_yield no_plain no_note no_pop no_once no_cancel no_abort no_point = absurd (cc (never.elsewhere s))
is_plain_call s (call.Write g bytes) never no_kill no_yield no_plain no_note no_pop no_once no_cancel no_abort no_point = absurd (cc (never.elsewhere s))
is_plain_call s (call.WriteEv g bytes e) never no_kill no_yield no_plain no_note no_pop no_once no_cancel no_abort no_point = absurd (cc (never.elsewhere s))
is_plain_call s (call.Accept g) never no_kill no_yield no_plain no_note no_pop no_once no_cancel no_abort no_point = absurd (cc (never.elsewhere s))
is_plain_call s (call.AcceptEv g e) never no_kill no_yield no_plain no_note no_pop no_once no_cancel no_abort no_point = absurd (cc (never.elsewhere s))
is_plain_call s (call.Connect g) never no_kill no_yield no_plain no_note no_pop no_once no_cancel no_abort no_point = absurd (cc (never.elsewhere s))
is_plain_call s (call.ConnectEv g e) never no_kill no_yield no_plain no_note no_pop no_once no_cancel no_abort no_point = absurd (cc (never.elsewhere s))
is_plain_call s (call.Select r w x l) never no_kill no_yield no_plain no_note no_pop no_once no_cancel no_abort no_point = absurd (cc (never.elsewhere s))
is_plain_call s (call.SelectEv r w x l e) never no_kill no_yield no_plain no_note no_pop no_once no_cancel no_abort no_point = absurd (cc (never.elsewhere s))
is_plain_call s call.Kill never no_kill no_yield no_plain no_note no_pop no_once no_cancel no_abort no_point = absurd (no_kill refl)
is_plain_call s (call.Yield n) never no_kill no_yield no_plain no_note no_pop no_once no_cancel no_abort no_point = absurd (no_yield n refl)
is_plain_call s call.Plain never no_kill no_yield no_plain no_note no_pop no_once no_cancel no_abort no_point = absurd (no_plain refl)
is_plain_call s (call.Note v) never no_kill no_yield no_plain no_note no_pop no_once no_cancel no_abort no_point = absurd (no_note v refl)
is_plain_call s (call.CleanupPop v) never no_kill no_yield no_plain no_note no_pop no_once no_cancel no_abort no_point = absurd (no_pop v refl)
is_plain_call s (call.Once o h v) never no_kill no_yield no_plain no_note no_pop no_once no_cancel no_abort no_point = absurd (no_once o h v refl)
is_plain_call s (call.Cancel n) never no_kill no_yield no_plain no_note no_pop no_once no_cancel no_abort no_point = absurd (no_cancel n refl)
is_plain_call s (call.Abort n) never no_kill no_yield no_plain no_note no_pop no_once no_cancel no_abort no_point = absurd (no_abort n refl)
is_plain_call s call.CancelPoint never no_kill no_yield no_plain no_note no_pop no_once no_cancel no_abort no_point = absurd (no_point refl)
is_plain_call s c never no_kill no_yield no_plain no_note no_pop no_once no_cancel no_abort no_point = refl

-- a call that is non-waking whatever it comes to never blocks its thread
non_waking_away : (c : Call) → is_non_waking c ≡ true → (t : ℕ) (a : Awaits) → MayAwaitAs t c a → ⊥
non_waking_away (call.Join n) non_waking t a may = cc non_waking
non_waking_away (call.Exit v) non_waking t a may = cc non_waking
non_waking_away (call.Nap n) non_waking t a may = cc non_waking
non_waking_away (call.Usleep n) non_waking t a may = cc non_waking
non_waking_away (call.Sleep n) non_waking t a may = cc non_waking
non_waking_away (call.Wait e) non_waking t a may = cc non_waking
non_waking_away (call.MutexAcquire m v e) non_waking t a may = cc non_waking
non_waking_away (call.RwAcquire l write v e) non_waking t a may = cc non_waking
non_waking_away (call.BarrierReach b) non_waking t a may = cc non_waking
non_waking_away (call.CondAwait x m e) non_waking t a may = cc non_waking
non_waking_away (call.Read g n) non_waking t a may = cc non_waking
non_waking_away (call.ReadEv g n e) non_waking t a may = cc non_waking
non_waking_away (call.Write g bytes) non_waking t a may = cc non_waking
non_waking_away (call.WriteEv g bytes e) non_waking t a may = cc non_waking
non_waking_away (call.Accept g) non_waking t a may = cc non_waking
non_waking_away (call.AcceptEv g e) non_waking t a may = cc non_waking
non_waking_away (call.Connect g) non_waking t a may = cc non_waking
non_waking_away (call.ConnectEv g e) non_waking t a may = cc non_waking
non_waking_away (call.Select r w x l) non_waking t a may = cc non_waking
non_waking_away (call.SelectEv r w x l e) non_waking t a may = cc non_waking
non_waking_away c non_waking t a may = may

non_waking_elsewhere : {P S H : Type 0} (c : Call) → is_non_waking c ≡ true → (s : State P S H) → first_awaited s c ≡ None
non_waking_elsewhere (call.Read g n) non_waking s = absurd (cc non_waking)
non_waking_elsewhere (call.ReadEv g n e) non_waking s = absurd (cc non_waking)
non_waking_elsewhere (call.Write g bytes) non_waking s = absurd (cc non_waking)
non_waking_elsewhere (call.WriteEv g bytes e) non_waking s = absurd (cc non_waking)
non_waking_elsewhere (call.Accept g) non_waking s = absurd (cc non_waking)
non_waking_elsewhere (call.AcceptEv g e) non_waking s = absurd (cc non_waking)
non_waking_elsewhere (call.Connect g) non_waking s = absurd (cc non_waking)
non_waking_elsewhere (call.ConnectEv g e) non_waking s = absurd (cc non_waking)
non_waking_elsewhere (call.Select r w x l) non_waking s = absurd (cc non_waking)
non_waking_elsewhere (call.SelectEv r w x l e) non_waking s = absurd (cc non_waking)
non_waking_elsewhere c non_waking s = refl

non_waking_unawaited : (c : Call) → is_non_waking c ≡ true → is_await c ≡ false
non_waking_unawaited (call.CondAwait x m e) non_waking = absurd (cc non_waking)
non_waking_unawaited c non_waking = refl

pub non_waking_never : {P S H : Type 0} (c : Call) → is_non_waking c ≡ true → NeverBlocks P S H c
non_waking_never c non_waking = record { away = non_waking_away c non_waking; elsewhere = non_waking_elsewhere c non_waking; unawaited = non_waking_unawaited c non_waking }
