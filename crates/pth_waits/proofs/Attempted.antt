-- Which calls are attempted, and what is known of the call that blocks a thread.
use Rattle.std.proofs.Common.{◌≡◌, ◌≢◌, ◌<◌, ◌^◌, ℕ, ℤ, Bool, true, false, Option, Some, None, IsSome, is_some, IfSome, refl, sym, subst, arith}
use Rattle.pth_base.specs.declared.call.Call.{Call}
use Rattle.pth_base.specs.declared.call.Call.TheVariants as call
use Rattle.pth_model.specs.declared.awaits.Awaits.{Awaits}
use Rattle.pth_model.specs.declared.awaits.Awaits.TheVariants.{Writing}
use Rattle.pth_model.specs.declared.blocked.Blocked.{Blocked}
use Rattle.pth_model.specs.declared.verdict.Verdict.{Verdict}
use Rattle.pth_model.specs.declared.verdict.Verdict.TheVariants.{Says, Yields, Blocks, Ends, Kills}
use Rattle.pth_model.specs.Awaits.{is_await, written_in}
use Rattle.pth_model.specs.Row.{Attempt}
use Rattle.pth_model.specs.State.{State}
use Rattle.pth_world.proofs.Awaiting.{may_await}
use Rattle.pth_world.specs.Leading.{MayComeTo, Tries}
use Rattle.pth_world.specs.WellFormed.{MayAwait, MayAwaitAs}
use Rattle.pth_world.specs.World.{WorldOf}
use Rattle.pth_waits.specs.Io.{first_awaited}
use Rattle.pth_waits.specs.Verdicts.{IsCounted, is_called}

-- ---- calls on descriptors

-- a call that awaits no condition
pub unawaited : (c : Call) → ((x m e : ℤ) → c ≢ call.CondAwait x m e) → is_await c ≡ false
unawaited (call.CondAwait x m e) other = absurd (other x m e refl)
unawaited c other = refl

module _ {P S H : Type 0} (s : State P S H) where
  -- a call on descriptors awaits none
  pub io_unawaited : (c : Call) → IsSome (first_awaited s c) → is_await c ≡ false
  io_unawaited (call.CondAwait x m e) is = absurd (cc is)
  io_unawaited c is = refl

  -- a call on descriptors is called
  pub others_called : (c : Call) → IsSome (first_awaited s c) → is_called c ≡ true
  others_called call.Plain is = absurd (cc is)
  others_called (call.Note v) is = absurd (cc is)
  others_called c is = refl

  -- whether a call is one on descriptors, is told by no state
  pub same_elsewhere : (c : Call) (u : State P S H) → is_some (first_awaited s c) ≡ is_some (first_awaited u c)
  same_elsewhere (call.Read f n) u = refl
  same_elsewhere (call.ReadEv f n e) u = refl
  same_elsewhere (call.Write f bytes) u = refl
  same_elsewhere (call.WriteEv f bytes e) u = refl
  same_elsewhere (call.Accept f) u = refl
  same_elsewhere (call.AcceptEv f e) u = refl
  same_elsewhere (call.Connect f) u = refl
  same_elsewhere (call.ConnectEv f e) u = refl
  same_elsewhere (call.Select r w x l) u = refl
  same_elsewhere (call.SelectEv r w x l e) u = refl
  same_elsewhere c u = refl

  -- a call that blocks a thread, and is none of these, is one on descriptors
  pub descriptors_else : (t : ℕ) (c : Call) (a : Awaits) → MayAwaitAs t c a
      → ((n : ℤ) → c ≢ call.Join n) → ((v : ℤ) → c ≢ call.Exit v) → ((n : ℤ) → c ≢ call.Nap n) → ((n : ℤ) → c ≢ call.Usleep n) → ((n : ℤ) → c ≢ call.Sleep n) → ((e : ℤ) → c ≢ call.Wait e)
      → ((m v e : ℤ) → c ≢ call.MutexAcquire m v e) → ((l : ℤ) (write : Bool) (v e : ℤ) → c ≢ call.RwAcquire l write v e) → ((b : ℤ) → c ≢ call.BarrierReach b) → is_await c ≡ false → IsSome (first_awaited s c)
  descriptors_else t (call.Join n) a may join exit nap usleep sleep wait mutex lock reach other = absurd (join n refl)
  descriptors_else t (call.Exit v) a may join exit nap usleep sleep wait mutex lock reach other = absurd (exit v refl)
  descriptors_else t (call.Nap n) a may join exit nap usleep sleep wait mutex lock reach other = absurd (nap n refl)
  descriptors_else t (call.Usleep n) a may join exit nap usleep sleep wait mutex lock reach other = absurd (usleep n refl)
  descriptors_else t (call.Sleep n) a may join exit nap usleep sleep wait mutex lock reach other = absurd (sleep n refl)
  descriptors_else t (call.Wait e) a may join exit nap usleep sleep wait mutex lock reach other = absurd (wait e refl)
  descriptors_else t (call.MutexAcquire m v e) a may join exit nap usleep sleep wait mutex lock reach other = absurd (mutex m v e refl)
  descriptors_else t (call.RwAcquire l write v e) a may join exit nap usleep sleep wait mutex lock reach other = absurd (lock l write v e refl)
  descriptors_else t (call.BarrierReach b) a may join exit nap usleep sleep wait mutex lock reach other = absurd (reach b refl)
  descriptors_else t (call.CondAwait x m e) a may join exit nap usleep sleep wait mutex lock reach other = absurd (cc other)
  descriptors_else t (call.Read f n) a may join exit nap usleep sleep wait mutex lock reach other = refl
  descriptors_else t (call.ReadEv f n e) a may join exit nap usleep sleep wait mutex lock reach other = refl
  descriptors_else t (call.Write f bytes) a may join exit nap usleep sleep wait mutex lock reach other = refl
  descriptors_else t (call.WriteEv f bytes e) a may join exit nap usleep sleep wait mutex lock reach other = refl
  descriptors_else t (call.Accept f) a may join exit nap usleep sleep wait mutex lock reach other = refl
  descriptors_else t (call.AcceptEv f e) a may join exit nap usleep sleep wait mutex lock reach other = refl
  descriptors_else t (call.Connect f) a may join exit nap usleep sleep wait mutex lock reach other = refl
  descriptors_else t (call.ConnectEv f e) a may join exit nap usleep sleep wait mutex lock reach other = refl
  descriptors_else t (call.Select r w x l) a may join exit nap usleep sleep wait mutex lock reach other = refl
  descriptors_else t (call.SelectEv r w x l e) a may join exit nap usleep sleep wait mutex lock reach other = refl
  descriptors_else t c a may join exit nap usleep sleep wait mutex lock reach other = absurd may

  -- so a call that is neither one of these nor on descriptors never blocks a thread
  pub others_never : (c : Call) → first_awaited s c ≡ None
      → ((n : ℤ) → c ≢ call.Join n) → ((v : ℤ) → c ≢ call.Exit v) → ((n : ℤ) → c ≢ call.Nap n) → ((n : ℤ) → c ≢ call.Usleep n) → ((n : ℤ) → c ≢ call.Sleep n) → ((e : ℤ) → c ≢ call.Wait e)
      → ((m v e : ℤ) → c ≢ call.MutexAcquire m v e) → ((l : ℤ) (write : Bool) (v e : ℤ) → c ≢ call.RwAcquire l write v e) → ((b : ℤ) → c ≢ call.BarrierReach b) → is_await c ≡ false → (t : ℕ) (a : Awaits) → MayAwaitAs t c a → ⊥
  others_never c none join exit nap usleep sleep wait mutex lock reach other t a may =
      cc (none, descriptors_else t c a may join exit nap usleep sleep wait mutex lock reach other)

-- ---- as a call is tried again

module _ {P S H : Type 0} (w v : WorldOf P S H) (t : ℕ) (b : Blocked) (c : Call) (attempt : Call → Awaits → State P S H → Attempt P S H) (x : Verdict) (is : b.call ≡ c) where
  pub tries_as : Tries w v t (record { call = c; awaits = b.awaits }) (attempt c b.awaits) x → Tries w v t b (attempt b.call b.awaits) x
  tries_as tries = subst (λ (d : Call). Tries w v t (record { call = d; awaits = b.awaits }) (attempt d b.awaits) x) (sym is) tries

  pub tries_at : ((a : Awaits) → Tries w v t (record { call = c; awaits = a }) (attempt c a) x) → Tries w v t b (attempt b.call b.awaits) x
  tries_at tries = tries_as (tries b.awaits)

-- whether a call blocks a thread
pub some_blocked : (o : Option Blocked) → is_some o ≡ true → (b : Blocked) × (o ≡ Some b)
some_blocked (Some b) some = (b, refl)
some_blocked None some = absurd (cc some)

pub none_is : {A : Type 0} (o : Option A) → is_some o ≡ false → o ≡ None
none_is None none = refl
none_is (Some x) none = absurd (cc none)

pub some_then : {A Q : Type 0} (o : Option A) → (is_some o ≡ true → Q) → IfSome o (λ x. Q)
some_then None q = tt
some_then (Some x) q = q refl

-- the bytes of a write can be counted
few_written : (a : Awaits) → MayAwait a → written_in a < 2 ^ 63
few_written (Writing f total written) may = let below = may.0 in let few = may.1 in omega (arith, below, few)
few_written a may = omega arith

pub counted : (t : ℕ) (c : Call) (x : Verdict) → MayComeTo t c x → IsCounted x
counted t c (Blocks a) may = few_written a (may_await t (Some (record { call = c; awaits = a })) may)
counted t c (Says a) may = tt
counted t c (Yields a) may = tt
counted t c (Ends v) may = tt
counted t c Kills may = tt
