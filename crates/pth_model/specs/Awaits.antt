-- What a blocked call waits for, and what its wait holds: a moment, the bytes that it wrote so far, the round of a barrier; and which
-- call awaits a condition.
use Rattle.std.specs.Prelude.{◌≡◌, ℕ, ℤ, Bool, true, false, Option, Some, None, if◌then◌else◌}
use Rattle.pth_base.specs.declared.call.Call.{Call}
use Rattle.pth_base.specs.declared.call.Call.TheVariants as call
use Rattle.pth_numbered.specs.Operands.{is_zero}
use Rattle.pth_model.specs.declared.awaits.Awaits.{Awaits}
use Rattle.pth_model.specs.declared.awaits.Retake.TheVariants.{Canceled}
use Rattle.pth_model.specs.declared.awaits.Awaits.TheVariants.{Nothing, Death, AnyDeath, Moment, Writing, Selection, Round, Retaking}
use Rattle.pth_model.specs.declared.blocked.Blocked.{Blocked}

-- pth_join waits for the death of the thread that is named, and for 0 for any
abbrev pub death_of : ℤ → Awaits
death_of n = if is_zero n then AnyDeath else Death n

-- the moment that is waited for, to which idle time goes; 0 for none
abbrev pub moment_in : Awaits → ℕ
moment_in (Moment m) = m
moment_in (Selection r w x (Some deadline)) = deadline
moment_in a = 0

-- how many bytes a pth_write wrote so far
abbrev pub written_in : Awaits → ℕ
written_in (Writing f total written) = written
written_in a = 0

-- which round of a barrier is waited for
abbrev pub round_in : Awaits → ℕ
round_in (Round b round) = round
round_in a = 0

-- a round of this barrier is waited for
abbrev pub IsRound : ℤ → Awaits → Type 0
IsRound b a = a ≡ Round b (round_in a)

-- a call waits at a condition (pth_cond_await)
abbrev pub is_await : Call → Bool
is_await (call.CondAwait c m e) = true
is_await c = false

abbrev pub is_awaiting : Option Blocked → Bool
is_awaiting None = false
is_awaiting (Some b) = is_await b.call

-- a wait at a condition is over, and the mutex is to be taken back
abbrev pub is_retaking : Awaits → Bool
is_retaking (Retaking m o) = true
is_retaking a = false

-- its thread was canceled, and takes its mutex back before it ends (pth_cond_await)
abbrev pub is_canceled : Awaits → Bool
is_canceled (Retaking m Canceled) = true
is_canceled a = false

-- what the blocked call waits for: if no call blocks, nothing
abbrev pub awaits_in : Option Blocked → Awaits
awaits_in None = Nothing
awaits_in (Some b) = b.awaits

abbrev pub is_canceled_in : Option Blocked → Bool
is_canceled_in o = is_canceled (awaits_in o)
