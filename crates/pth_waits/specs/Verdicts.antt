-- Calls that come to verdicts, and verdicts on blocked calls whose rings have settled.
use Rattle.std.specs.Prelude.{◌≡◌, ◌<◌, ◌^◌, ℕ, Bool, true, false, None}
use Rattle.pth_base.specs.declared.call.Call.{Call}
use Rattle.pth_base.specs.declared.call.Call.TheVariants as call
use Rattle.pth_model.specs.declared.awaits.Awaits.{Awaits}
use Rattle.pth_model.specs.declared.verdict.Verdict.{Verdict}
use Rattle.pth_model.specs.declared.verdict.Verdict.TheVariants.{Blocks}
use Rattle.pth_model.specs.Awaits.{is_await, is_awaiting, written_in}
use Rattle.pth_model.specs.Calls.{interrupted}
use Rattle.pth_model.specs.RingWaits.{ring_given}
use Rattle.pth_model.specs.Row.{Row}
use Rattle.pth_model.specs.Changes.{blocked_of}
use Rattle.pth_model.specs.State.{Control, State}
use Rattle.pth_waits.specs.Io.{first_awaited}
use Rattle.pth_world.specs.Leading.{Attempts, Tries}
use Rattle.pth_world.specs.Shows.{Shows}
use Rattle.pth_world.specs.WellFormed.{MayAwaitAs}
use Rattle.pth_world.specs.World.{WorldOf}

-- a plain line and a note come to none: they are told without one
abbrev pub is_called : Call → Bool
is_called call.Plain = false
is_called (call.Note v) = false
is_called c = true

module _ {P S H : Type 0} (w v : WorldOf P S H) (t : ℕ) (c : Call) (row : State P S H → Row P S H) (x : Verdict) where
  -- as it begins, the call comes to the verdict of this row
  abbrev pub Begins : Type 0
  Begins = Attempts false w v t c (ring_given c) (λ s. (row s).begin) x

  -- and as it is tried again, whatever its thread awaits
  abbrev pub TriesAgain : Type 0
  TriesAgain = (a : Awaits) → Tries w v t (record { call = c; awaits = a }) (λ s. (row s).again a) x

-- no wait at a condition blocks t
abbrev pub AwaitsNone : {P S H : Type 0} → WorldOf P S H → ℕ → Type 0
AwaitsNone w t = (k : Control _ _ _) → Shows w k → is_awaiting (blocked_of k t) ≡ false

-- no thread waits for anything by such a call, and it is none on descriptors and awaits no condition
pub record NeverBlocks (P S H : Type 0) (c : Call) : Type 0 where
  pub away : (t : ℕ) (a : Awaits) → MayAwaitAs t c a → ⊥
  pub elsewhere : (s : State P S H) → first_awaited s c ≡ None
  pub unawaited : is_await c ≡ false

-- the verdict on a blocked call, if its ring has settled or not
abbrev pub interrupted_if : Bool → Verdict → Verdict
interrupted_if true v = interrupted v
interrupted_if false v = v

-- its bytes can be counted
abbrev pub IsCounted : Verdict → Type 0
IsCounted (Blocks a) = written_in a < 2 ^ 63
IsCounted v = Unit {0}
