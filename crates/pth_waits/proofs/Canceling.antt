-- When a thread may be canceled, and how a cancellation point begins.
use Rattle.std.proofs.Common.{◌≡◌, ℕ, pos, Bool, true, false, ap, refl}
use Rattle.pth_base.specs.Program.{Functions}
use Rattle.pth_base.specs.declared.answer.Answer.TheVariants.{Int}
use Rattle.pth_base.specs.declared.call.Call.{Call}
use Rattle.pth_base.specs.declared.call.Call.TheVariants as call
use Rattle.pth_base.specs.declared.mark.Mark.TheVariants.{Answered}
use Rattle.pth_base.specs.declared.ids.Tid.{Tid}
use Rattle.pth_model.specs.declared.awaits.Awaited.{Awaited}
use Rattle.pth_model.specs.declared.awaits.Awaits.{Awaits}
use Rattle.pth_model.specs.Awaits.{is_await}
use Rattle.pth_model.specs.declared.next.Next.TheVariants as next
use Rattle.pth_model.specs.Calls.{begun, canceled_by, gone_on_in, gone_on_where, tried_again}
use Rattle.pth_model.specs.Cancellation.{canceled_in, canceled_value, is_point, is_to_cancel, may_be_canceled}
use Rattle.pth_model.specs.Changes.{entry_of, or_nobody, blocked_of}
use Rattle.pth_model.specs.Resources.{told, answer_told}
use Rattle.pth_model.specs.RingWaits.{awaited_in}
use Rattle.pth_model.specs.Rows.{row_of}
use Rattle.pth_model.specs.State.{Control, State}
use Rattle.pth_model.specs.Transition.{Went, silent, tells, tid, ◌and_then◌, ◌and_next◌}
use Rattle.pth_world.specs.Leading.{IsQuiet}

module _ {P S H : Type 0} (k : Control P S H) (t : ℕ) where
  pub not_asked : is_to_cancel (or_nobody (entry_of k t)) ≡ false → false ≡ may_be_canceled k t
  unfolding may_be_canceled
  not_asked none = rw none refl

  -- by what is read of it
  pub asked_at : (a : Awaited) → a ≡ awaited_in (blocked_of k t) → is_to_cancel (or_nobody (entry_of k t)) ≡ true → is_point a.what ≡ may_be_canceled k t
  unfolding may_be_canceled
  asked_at a is asked = rw asked (ap (λ (b : Awaited). is_point b.what) is)

module _ {P S H : Type 0} (f : P → Functions S H) (s : State P S H) (t : ℕ) where
  pub point_ends : is_to_cancel (or_nobody (entry_of s.control t)) ≡ true → begun f t call.CancelPoint s ≡ record { told = canceled_in f t call.CancelPoint s; next = next.Ended canceled_value }
  unfolding begun row_of
  point_ends asked = rw asked refl

  abbrev pub goes_on_from : Went P S H
  goes_on_from = (silent and_then tells (Answered (tid t) call.CancelPoint (Int (pos 1))) and_next next.Done (Int (pos 1))) s

  pub point_says : is_to_cancel (or_nobody (entry_of s.control t)) ≡ false → begun f t call.CancelPoint s ≡ goes_on_from
  unfolding begun row_of
  point_says none = rw none refl

pub quiet_point : (t : Tid) → IsQuiet (Answered t call.CancelPoint (Int (pos 1)))
unfolding told answer_told
quiet_point t = λ x. refl

-- a thread that a call blocks goes on: it is canceled, or the call is tried again
module _ {P S H : Type 0} (f : P → Functions S H) (s : State P S H) (t : ℕ) where
  pub where_canceled : may_be_canceled s.control t ≡ true → gone_on_where f t (may_be_canceled s.control t) s ≡ canceled_by f t (blocked_of s.control t) s
  where_canceled may = ap (λ (b : Bool). gone_on_where f t b s) may

  pub where_again : may_be_canceled s.control t ≡ false → gone_on_where f t (may_be_canceled s.control t) s ≡ tried_again f t s
  where_again may = ap (λ (b : Bool). gone_on_where f t b s) may

-- and so a call does that is no wait at a condition
pub by_other : {P S H : Type 0} (f : P → Functions S H) (t : ℕ) (c : Call) (a : Awaits) → is_await c ≡ false → (s : State P S H) → gone_on_in f t c a s ≡ gone_on_where f t (may_be_canceled s.control t) s
by_other f t (call.CondAwait x m e) a other s = absurd (cc other)
by_other f t c a other s = refl
