-- What a call comes to: the state after it, the marks, and what comes next for its thread.
--
-- `refused EINVAL when A otherwise returns 1` is read like this: if A holds, the call is refused with EINVAL, and else it returns 1.
-- `G then returns 1` says that the state becomes G of what it was, and the call returns 1. Each test is of the state before the call, but
-- for that of `retakes`: it is of the state after the changes before it, which leave mutexes as they are.
use Rattle.std.specs.Prelude.{◌≡◌, ℕ, ℤ, pos, Bool, true, false, List, [], ◌∷◌, ◌++◌, Some, None}
use Rattle.pth_base.specs.Program.{Functions}
use Rattle.pth_base.specs.declared.answer.Answer.{Answer}
use Rattle.pth_base.specs.declared.answer.Answer.TheVariants.{Int, Fail}
use Rattle.pth_base.specs.declared.answer.Answer.TheVariants as answer
use Rattle.pth_base.specs.declared.call.Call.{Call}
use Rattle.pth_base.specs.declared.errno.Errno.{Errno}
use Rattle.pth_base.specs.declared.mark.Mark.{Mark}
use Rattle.pth_base.specs.declared.mark.Mark.TheVariants as mark
use Rattle.pth_threads.specs.declared.entry.Change.TheVariants as change
use Rattle.pth_numbered.specs.Clauses.{◌when◌otherwise◌}
use Rattle.pth_lock.specs.Objects.{object_named}
use Rattle.pth_model.specs.declared.awaits.Awaits.{Awaits}
use Rattle.pth_model.specs.declared.next.Next.{Next}
use Rattle.pth_model.specs.declared.next.Next.TheVariants as next
use Rattle.pth_model.specs.Calls.{begun, gone_on}
use Rattle.pth_model.specs.Cancellation.{canceled_value}
use Rattle.pth_model.specs.Changes.{is_blocked_by, blocked_of, sets}
use Rattle.pth_model.specs.Conditions.{can_take}
use Rattle.pth_model.specs.Ending.{ending}
use Rattle.pth_model.specs.declared.awaits.Awaits.TheVariants.{Retaking}
use Rattle.pth_model.specs.declared.awaits.Retake.{Retake}
use Rattle.pth_model.specs.State.{State}
use Rattle.pth_model.specs.Transition.{Transition, Went, controlled, tid}
use Rattle.pth_sheet.specs.States.{takes_mutex_back}

-- what a call of a thread comes to, from the state before it
abbrev pub Outcome : Type 0 → Type 0 → Type 0 → Type 0
Outcome P S H = State P S H → ℕ → Call → Went P S H

module _ {P S H : Type 0} where
  -- a state, the marks on the way to it, and what comes next
  abbrev pub went : State P S H → List Mark → Next → Went P S H
  went s marks n = record { told = record { state = s; marks = marks }; next = n }

  -- the state changes, and then the outcome follows
  infixr 5 ◌then◌
  abbrev pub ◌then◌ : (State P S H → State P S H) → Outcome P S H → Outcome P S H
  (g then o) s t c = o (g s) t c

  -- a change with marks of its own, whose lines come in the transcript before the line of the call
  infixr 5 ◌before◌
  abbrev pub ◌before◌ : (State P S H → Transition P S H) → Outcome P S H → Outcome P S H
  (first before o) s t c =
      let x = first s in
      let y = o x.state t c in
      went y.told.state (x.marks ++ y.told.marks) y.next

  -- the call returns an answer, and its thread goes on
  abbrev pub answers : Answer → Outcome P S H
  answers a s t c = went s (mark.Answered (tid t) c a ∷ []) (next.Done a)

  abbrev pub returns : ℕ → Outcome P S H
  returns n = answers (Int (pos n))

  -- the call fails: it returns the error (errno), and itself changes nothing
  abbrev pub refused : Errno → Outcome P S H
  refused e = answers (Fail e)

  -- the call returns, and its thread yields execution control to the scheduler
  abbrev pub yields : ℕ → Outcome P S H
  yields n s t c = went s (mark.Answered (tid t) c (Int (pos n)) ∷ []) (next.Yields (Int (pos n)))

  -- the call returns TRUE, and the run ends (pth_kill)
  abbrev pub kills : Outcome P S H
  kills s t c = went s (mark.Answered (tid t) c (Int (pos 1)) ∷ []) next.Killed

  -- a change: call c suspends the execution of t, and waits for a
  abbrev pub blocks : ℕ → Call → Awaits → State P S H → State P S H
  blocks t c a = controlled (is_blocked_by t (Some (record { call = c; awaits = a })))

  -- the call suspends the execution of its thread until a has come
  abbrev pub waits_for : Awaits → Outcome P S H
  waits_for a s t c = went (blocks t c a s) (mark.Waits (tid t) c ∷ []) next.Blocks

  -- the call waits on, and nothing changes
  abbrev pub still_waits : Outcome P S H
  still_waits s t c = went s (mark.Waits (tid t) c ∷ []) next.Blocks

  -- the transcript has a line for a note
  abbrev pub notes : ℤ → Outcome P S H
  notes v s t c = went s (mark.Noted (tid t) v ∷ []) (next.Done (Int (pos 0)))

  -- a plain line: the transcript has no line
  abbrev pub marks_nothing : Outcome P S H
  marks_nothing s t c = went s [] (next.Done answer.None)

  -- the wait at a condition is over, and the call suspends its thread until the mutex m can be reacquired (pth_cond_await)
  abbrev pub waits_to_retake : ℤ → Retake → Outcome P S H
  waits_to_retake m o s t c =
      went (blocks t c (Retaking m o) s) (mark.Retakes (tid t) c ∷ []) next.Blocks

  -- t reacquires the mutex m, and then o follows; while another thread has m, the call suspends t
  abbrev pub retakes : ℤ → Retake → Outcome P S H → Outcome P S H
  retakes m r o s t c =
      ((takes_mutex_back t m then o) when can_take s t m otherwise waits_to_retake m r) s t c

  -- the pending cancellation request of t is cleared, and the transcript has a line that t is canceled in call c
  abbrev pub clears_request : ℕ → Call → State P S H → Transition P S H
  clears_request t c s = record {
    state = controlled (sets t (change.Request false)) s;
    marks = mark.Canceled (tid t) (Some c) ∷ [];
  }

  -- the transcript has a line that t, which is canceled, has reacquired the mutex m
  abbrev pub marks_mutex_taken : ℕ → ℤ → State P S H → Transition P S H
  marks_mutex_taken t m s = record { state = s; marks = mark.Took (tid t) (object_named m) ∷ [] }

module _ {P S H : Type 0} (f : P → Functions S H) where
  -- the thread terminates with value v, as by pth_exit: its cleanup routines and destructors run
  abbrev pub ends : ℤ → Outcome P S H
  ends v s t c = let x = ending f t v s in went x.state x.marks (next.Ended v)

  -- the thread is canceled at this cancellation point: it terminates with PTH_CANCELED
  abbrev pub canceled : Outcome P S H
  canceled s t c = (clears_request t c before ends canceled_value) s t c

  -- another thread, u, is canceled at once: it terminates with PTH_CANCELED
  abbrev pub cancels : ℕ → State P S H → Transition P S H
  cancels u s =
      let x = ending f u canceled_value s in
      record { state = x.state; marks = mark.Canceled (tid u) None ∷ x.marks }

  -- in state s, thread t makes call c: it comes to o
  abbrev pub Begins : State P S H → ℕ → Call → Outcome P S H → Type 0
  Begins s t c o = begun f t c s ≡ o s t c

  -- in state s, thread t is dispatched again in call c, which waits for a: it comes to o
  abbrev pub GoesOn : State P S H → ℕ → Call → Awaits → Outcome P S H → Type 0
  GoesOn s t c a o =
      blocked_of s.control t ≡ Some (record { call = c; awaits = a }) →
      gone_on f t s ≡ o s t c
