-- Cancellation: pth_cancel_state, pth_cancel_point, pth_cancel, pth_abort.
--
-- Whether a wait is a cancellation point is read off what is awaited, so no line for a call can be forgotten.
use Rattle.std.specs.Prelude.{ℕ, ◌==◌, ◌&&◌, ◌||◌, not, ℤ, pos, negsuc, Bool, true, false, Option, Some, None, if◌then◌else◌}
use Rattle.pth_base.specs.Program.{Functions}
use Rattle.pth_base.specs.declared.call.Call.{Call}
use Rattle.pth_base.specs.declared.call.Call.TheVariants as call
use Rattle.pth_base.specs.declared.errno.Errno.TheVariants.{EINVAL, ESRCH, EPERM}
use Rattle.pth_base.specs.declared.mark.Mark.TheVariants.{Canceled}
use Rattle.pth_numbered.specs.Operands.{number, is_zero, ◌is◌, ◌is_from◌to◌}
use Rattle.pth_threads.specs.declared.entry.Entry.{Entry}
use Rattle.pth_threads.specs.declared.entry.Change.TheVariants as change
use Rattle.pth_model.specs.declared.awaits.Awaits.{Awaits}
use Rattle.pth_model.specs.declared.awaits.Awaits.TheVariants.{Nothing, Alone, Round, Retaking}
use Rattle.pth_model.specs.declared.blocked.Blocked.{Blocked}
use Rattle.pth_model.specs.Awaits.{awaits_in}
use Rattle.pth_model.specs.declared.verdict.Verdict.TheVariants.{Ends}
use Rattle.pth_model.specs.Verdict.{refused, says}
use Rattle.pth_numbered.specs.Clauses.{◌when◌otherwise◌}
use Rattle.pth_model.specs.State.{Control, State, main}
use Rattle.pth_model.specs.Transition.{Piece, changes, tells, tid, nothing, where_so, ◌and◌, ◌and_then◌}
use Rattle.pth_model.specs.Changes.{sets, removes, entry_of, blocked_of, or_nobody}
use Rattle.pth_model.specs.Living.{is_dead}
use Rattle.pth_model.specs.Row.{Row, ◌changing◌, ◌doing◌}
use Rattle.pth_model.specs.ThreadControl.{thread, is_known}
use Rattle.pth_model.specs.Ending.{ending}

-- what a thread that is canceled ends with (PTH_CANCELED)
abbrev pub canceled_value : ℤ
canceled_value = negsuc 0

-- the cancel states in which a thread lets itself be canceled (PTH_CANCEL_ENABLE), at cancellation points or at any moment
-- (PTH_CANCEL_DEFERRED, PTH_CANCEL_ASYNCHRONOUS)
abbrev pub enabled_deferred : ℕ
enabled_deferred = 1

abbrev pub enabled_asynchronous : ℕ
enabled_asynchronous = 3

abbrev pub is_enabled : ℕ → Bool
is_enabled n = (n == enabled_deferred) || (n == enabled_asynchronous)

abbrev pub is_asynchronous : ℕ → Bool
is_asynchronous n = n == enabled_asynchronous

-- it was asked to end, and lets itself be canceled
abbrev pub is_to_cancel : Entry → Bool
is_to_cancel e = e.request && is_enabled e.cancel

-- each wait is a cancellation point, but those of pth_exit and pth_barrier_reach, and that of a pth_cond_await for its mutex
abbrev pub is_point : Awaits → Bool
is_point Nothing = false
is_point Alone = false
is_point (Round b round) = false
is_point (Retaking m o) = false
is_point a = true

-- the blocked call is one
abbrev pub is_at_point : Option Blocked → Bool
is_at_point o = is_point (awaits_in o)

module _ {P S H : Type 0} where
  -- t was asked to end, lets itself be canceled, and is blocked in a cancellation point
  unfoldable pub may_be_canceled : Control P S H → ℕ → Bool
  may_be_canceled k t = is_to_cancel (or_nobody (entry_of k t)) && is_at_point (blocked_of k t)

  -- t takes the request up in a call of its own
  abbrev pub takes_request : ℕ → Call → Piece P S H
  takes_request t c = changes (sets t (change.Request false)) and_then tells (Canceled (tid t) (Some c))

module _ {P S H : Type 0} (f : P → Functions S H) where
  -- t is canceled in a call of its own
  abbrev pub canceled_in : ℕ → Call → Piece P S H
  canceled_in t c = takes_request t c and_then ending f t canceled_value

  -- t is canceled in another thread's turn
  abbrev pub canceled_by_other : ℕ → Piece P S H
  canceled_by_other t = tells (Canceled (tid t) None) and_then ending f t canceled_value

  -- t is canceled by another thread: where it lets itself be canceled at any moment it ends now, and else it is asked to end
  abbrev pub ends_or_asks : ℕ → ℕ → Piece P S H
  ends_or_asks t cancel = if is_asynchronous cancel then canceled_by_other t else changes (sets t (change.Request true))

  -- t can be joined no longer, and is canceled: so it is gone
  abbrev pub aborted : ℕ → Piece P S H
  aborted t = changes (sets t (change.Joinable false) and sets t (change.Cancel 3)) and_then canceled_by_other t

  -- t is aborted by another thread: a dead one is in the system no longer, and another ends now, whatever its cancel state is
  abbrev pub aborts : ℕ → Bool → Piece P S H
  aborts t dead = if dead then changes (removes t) else aborted t

module _ {P S H : Type 0} (s : State P S H) (t : ℕ) where
  -- pth_cancel_state: the state until now; 0 leaves it as it is
  abbrev pub cancel_state : ℤ → Row P S H
  cancel_state n =
      refused EINVAL when not (n is_from pos 0 to pos 4) otherwise
      says (or_nobody (entry_of s.control t)).cancel
      changing (if is_zero n then nothing else sets t (change.Cancel (number n)))

  -- pth_cancel_point: t ends where it was asked to and lets itself be canceled
  abbrev pub cancel_point : Row P S H
  cancel_point =
      let asked = is_to_cancel (or_nobody (entry_of s.control t)) in
      Ends canceled_value when asked otherwise
      says 1
      doing where_so asked (takes_request t call.CancelPoint)

module _ {P S H : Type 0} (f : P → Functions S H) (s : State P S H) (t : ℕ) where
  -- pth_cancel
  abbrev pub cancel : ℤ → Row P S H
  cancel n =
      let it = or_nobody (thread s.control n) in
      refused EINVAL when n is t otherwise
      refused ESRCH when not (is_known s.control n) otherwise
      refused EPERM when n is main || is_dead it.state otherwise
      says 1
      doing ends_or_asks f (number n) it.cancel

  -- pth_abort
  abbrev pub abort : ℤ → Row P S H
  abort n =
      refused EINVAL when n is t otherwise
      refused ESRCH when not (is_known s.control n) otherwise
      refused EPERM when n is main otherwise
      says 1
      doing aborts f (number n) (is_dead (or_nobody (thread s.control n)).state)
