-- How a call begins, and how a call that blocks its thread is tried again.
use Rattle.std.specs.Prelude.{ℕ, pos, Bool, true, false, Option, Some, None, ℤ}
use Rattle.pth_model.specs.Conditions.{can_take, is_noticed, leaves_seat, hands_on_seats}
use Rattle.pth_model.specs.declared.awaits.Retake.TheVariants.{Notified, Interrupted, Canceled}
use Rattle.pth_model.specs.declared.awaits.Retake.{Retake}
use Rattle.pth_model.specs.declared.awaits.Awaits.TheVariants.{Notice, Retaking}
use Rattle.pth_lock.specs.Objects.{object_named}
use Rattle.pth_base.specs.Program.{Functions}
use Rattle.pth_base.specs.declared.answer.Answer.{Answer}
use Rattle.pth_base.specs.declared.answer.Answer.TheVariants as answer
use Rattle.pth_base.specs.declared.call.Call.{Call}
use Rattle.pth_base.specs.declared.call.Call.TheVariants as call
use Rattle.pth_base.specs.declared.errno.Errno.TheVariants.{EINTR}
use Rattle.pth_base.specs.declared.mark.Mark.TheVariants as mark
use Rattle.pth_model.specs.declared.blocked.Blocked.{Blocked}
use Rattle.pth_model.specs.declared.awaits.Awaits.{Awaits}
use Rattle.pth_model.specs.declared.next.Next.TheVariants as next
use Rattle.pth_model.specs.Awaits.{awaits_in, moment_in, written_in}
use Rattle.pth_model.specs.Coming.{has_come}
use Rattle.pth_model.specs.declared.verdict.Verdict.{Verdict}
use Rattle.pth_model.specs.declared.verdict.Verdict.TheVariants.{Says, Yields, Blocks, Ends, Kills}
use Rattle.pth_numbered.specs.Clauses.{count_or}
use Rattle.pth_model.specs.State.{State}
use Rattle.pth_model.specs.Transition.{Piece, Change, Last, silent, changes, tells, tid, ◌and◌, ◌and_then◌, ◌and_next◌, ◌and_finally◌, nothing}
use Rattle.pth_model.specs.Changes.{is_blocked_by, blocked_of}
use Rattle.pth_model.specs.RingWaits.{ring_given, claims, stops_waiting, has_settled, extra_ring}
use Rattle.pth_model.specs.Row.{Attempt, effect_of}
use Rattle.pth_model.specs.Ending.{ending}
use Rattle.pth_model.specs.Cancellation.{canceled_value, may_be_canceled, canceled_in, takes_request}
use Rattle.pth_model.specs.Rows.{row_of}

-- ---- a call begins

module _ {P S H : Type 0} (t : ℕ) where
  abbrev pub blocks : Call → Awaits → Change P S H
  blocks c a = is_blocked_by t (Some (record { call = c; awaits = a }))

  -- a call blocks t from now on, and claims the ring that it was given: told each time that it blocks
  abbrev pub waits_by : Call → Awaits → Piece P S H
  waits_by c a = changes (claims t (ring_given c) and blocks c a) and_then tells (mark.Waits (tid t) c)

module _ {P S H : Type 0} (f : P → Functions S H) (t : ℕ) where
  -- the verdict on a call that begins
  abbrev pub begun_by : Call → Verdict → Last P S H
  begun_by c (Says a) = tells (mark.Answered (tid t) c a) and_next next.Done a
  begun_by c (Yields a) = tells (mark.Answered (tid t) c a) and_next next.Yields a
  begun_by c (Blocks a) = waits_by t c a and_next next.Blocks
  begun_by c (Ends v) = ending f t v and_next next.Ended v
  begun_by c Kills = tells (mark.Answered (tid t) c (answer.Int (pos 1))) and_next next.Killed

  abbrev pub begun_as : Call → Attempt P S H → Last P S H
  begun_as c a = effect_of a and_finally begun_by c a.verdict

  -- a plain line tells nothing, and a note its value
  unfoldable pub begun : Call → Last P S H
  begun call.Plain = silent and_next next.Done answer.None
  begun (call.Note v) = tells (mark.Noted (tid t) v) and_next next.Done (answer.Int (pos 0))
  begun c = λ s. begun_as c (row_of f s t c).begin s

-- ---- A thread that a call blocks goes on. It is canceled in the blocked call if it may be, and else the call is tried again: what
-- would block on is interrupted if an event of its ring is settled, and the verdict says the rest.

module _ {P S H : Type 0} (f : P → Functions S H) (t : ℕ) where
  -- t is canceled in the blocked call
  abbrev pub canceled_by : Option Blocked → Last P S H
  canceled_by None = silent and_next next.Blocks
  canceled_by (Some b) = canceled_in f t b.call and_next next.Ended canceled_value

-- the blocked call is answered EINTR in place of blocking on, or with its count if it wrote a part
abbrev pub interrupted : Verdict → Verdict
interrupted (Blocks a) = Says (count_or (written_in a) EINTR)
interrupted (Says a) = Says a
interrupted (Yields a) = Yields a
interrupted (Ends v) = Ends v
interrupted Kills = Kills

module _ {P S H : Type 0} where
  -- that is, if its ring has settled
  abbrev pub unless_settled : Bool → Attempt P S H → Attempt P S H
  unless_settled false a = a
  unless_settled true a = record a { verdict = interrupted a.verdict }

module _ {P S H : Type 0} (f : P → Functions S H) (t : ℕ) where
  -- the blocked call is answered, and blocks t no longer
  abbrev pub answers : Call → Answer → Piece P S H
  answers c a = changes (stops_waiting t) and_then tells (mark.Answered (tid t) c a)

  -- The verdict on the blocked call. No row yields or kills as it is tried again, so the lines of these two only say the same as
  -- when a call begins.
  abbrev pub tried_by : Blocked → Verdict → Last P S H
  tried_by b (Says a) = answers b.call a and_next next.Done a
  tried_by b (Yields a) = answers b.call a and_next next.Yields a
  tried_by b (Blocks a) = changes (is_blocked_by t (Some (record b { awaits = a }))) and_then tells (mark.Waits (tid t) b.call) and_next next.Blocks
  tried_by b (Ends v) = ending f t v and_next next.Ended v
  tried_by b Kills = answers b.call (answer.Int (pos 1)) and_next next.Killed

  abbrev pub tried : Blocked → Attempt P S H → Last P S H
  tried b a = effect_of a and_finally tried_by b a.verdict

  abbrev pub tried_again_by : Option Blocked → Last P S H
  tried_again_by None = silent and_next next.Blocks
  tried_again_by (Some b) = λ s. tried b (unless_settled (has_settled s.control.events (ring_given b.call)) ((row_of f s t b.call).again b.awaits)) s

  -- the blocked call is tried again
  unfoldable pub tried_again : Last P S H
  tried_again s = tried_again_by (blocked_of s.control t) s

  abbrev pub gone_on_where : Bool → Last P S H
  gone_on_where true s = canceled_by f t (blocked_of s.control t) s
  gone_on_where false s = tried_again s

-- ---- A wait at a condition goes on (pth_cond_await). It is over if its thread may be canceled, if its seat was notified, or if an event
-- of its ring is settled. Then the thread takes its mutex back: in the same step if it can, and else its call blocks it until then.

module _ {P S H : Type 0} (f : P → Functions S H) (t : ℕ) where
  -- t has its mutex again
  abbrev pub retaken_as : Call → ℤ → Retake → Last P S H
  retaken_as c m Notified = tells (mark.Answered (tid t) c (answer.Int (pos 1))) and_next next.Done (answer.Int (pos 1))
  retaken_as c m Interrupted = tells (mark.Answered (tid t) c (answer.Fail EINTR)) and_next next.Done (answer.Fail EINTR)
  retaken_as c m Canceled = tells (mark.Took (tid t) (object_named m)) and_then ending f t canceled_value and_next next.Ended canceled_value

  abbrev pub retakes_where : Bool → Call → ℤ → Retake → Last P S H
  retakes_where true c m o = retaken_as c m o
  retakes_where false c m o = changes (blocks t c (Retaking m o)) and_then tells (mark.Retakes (tid t) c) and_next next.Blocks

  abbrev pub retakes : Call → ℤ → Retake → Last P S H
  retakes c m o s = retakes_where (can_take s t m) c m o s

  -- the wait is over: its claim is given back, and the mutex taken back
  abbrev pub ends_await : Change P S H → Call → ℤ → Retake → Last P S H
  ends_await g c m o = changes (g and stops_waiting t) and_finally retakes c m o

  abbrev pub awaits_on_where : (asked noticed settled : Bool) → Call → (c m : ℤ) → Last P S H
  awaits_on_where true noticed settled k c m =
      takes_request t k and_finally ends_await (hands_on_seats t (record { what = Notice c; ring = ring_given k })) k m Canceled
  awaits_on_where false true settled k c m = ends_await (leaves_seat t (Notice c)) k m Notified
  awaits_on_where false false true k c m = ends_await (leaves_seat t (Notice c)) k m Interrupted
  awaits_on_where false false false k c m = tells (mark.Waits (tid t) k) and_next next.Blocks

  abbrev pub awaits_on : (c m e : ℤ) → Awaits → Last P S H
  awaits_on c m e (Retaking n o) = ends_await nothing (call.CondAwait c m e) m o
  awaits_on c m e a = λ s.
      awaits_on_where (may_be_canceled s.control t) (is_noticed s t c) (has_settled s.control.events (extra_ring e)) (call.CondAwait c m e) c m s

-- ---- a thread that a call blocks goes on

module _ {P S H : Type 0} (f : P → Functions S H) (t : ℕ) where
  abbrev pub gone_on_in : Call → Awaits → Last P S H
  gone_on_in (call.CondAwait c m e) a = awaits_on f t c m e a
  gone_on_in c a = λ s. gone_on_where f t (may_be_canceled s.control t) s

  abbrev pub gone_on_by : Option Blocked → Last P S H
  gone_on_by None = silent and_next next.Blocks
  gone_on_by (Some b) = gone_on_in b.call b.awaits

  -- it is canceled if it may be, and else the blocked call is tried again
  unfoldable pub gone_on : Last P S H
  gone_on s = gone_on_by (blocked_of s.control t) s

module _ {P S H : Type 0} (t : ℕ) where
  -- whether the blocked call has what it waits for
  unfoldable pub wakes : State P S H → Bool
  wakes s = has_come s t (awaits_in (blocked_of s.control t))

  -- the moment that it waits for, 0 for none
  unfoldable pub waits_until : State P S H → ℕ
  waits_until s = moment_in (awaits_in (blocked_of s.control t))
