-- When what a blocked call waits for has come.
use Rattle.std.specs.Prelude.{ℕ, ◌||◌, nat_le, nat_lt, not, ℤ, Bool, false, is_some}
use Rattle.pth_model.specs.Conditions.{can_take, is_noticed}
use Rattle.pth_cond.specs.Barriers.{has_passed}
use Rattle.pth_io.specs.Attempts.{read_answer, write_answer, accept_answer, connect_answer, select_answer}
use Rattle.pth_kernel.specs.Kernel.{Kernel, fd_named, room}
use Rattle.pth_model.specs.declared.awaits.Awaits.{Awaits}
use Rattle.pth_model.specs.declared.awaits.Awaits.TheVariants.{Nothing, Alone, Death, AnyDeath, Moment, Ring, Reading, Writing, Connection, ConnectAnswer, Selection, Mutex, Lock, Round, Notice, Retaking}
use Rattle.pth_model.specs.Changes.{or_nobody}
use Rattle.pth_model.specs.Mutexes.{is_free}
use Rattle.pth_model.specs.Rwlocks.{is_open}
use Rattle.pth_model.specs.State.{Control, State, now_of}
use Rattle.pth_model.specs.ThreadControl.{thread, is_dead_in, first_of, joinable_dead}
use Rattle.pth_model.specs.ThreadEnds.{is_alone}

module _ {P S H : Type 0} (k : Control P S H) where
  -- The death of a thread that can't be joined, or is in the system no longer, is not waited for: then the join is tried again, and
  -- refused (pth_join).
  abbrev pub has_died : ℤ → Bool
  has_died n = is_dead_in (thread k n) || not (or_nobody (thread k n)).joinable

  -- a thread that can be joined has died
  abbrev pub has_any_died : Bool
  has_any_died = is_some (first_of (joinable_dead k))

-- what is awaited of descriptors has come once the call would be answered; of a write, room for a part is worth waking for
abbrev pub descriptors_bring : Kernel → Awaits → Bool
descriptors_bring k (Reading f n) = is_some (read_answer k (fd_named f) n)
descriptors_bring k (Writing f total written) = is_some (write_answer k (fd_named f) total written) || nat_lt 0 (room k (fd_named f))
descriptors_bring k (Connection f) = is_some (accept_answer k (fd_named f))
descriptors_bring k (ConnectAnswer f) = is_some (connect_answer k (fd_named f))
descriptors_bring k (Selection r w x deadline) = is_some (select_answer k r.0 w.0 x.0 deadline)
descriptors_bring k a = false

module _ {P S H : Type 0} (s : State P S H) (t : ℕ) where
  -- What t waits for has come. That an event comes is told apart from this (`comes_for`): a ring has no line of its own here.
  abbrev pub has_come : Awaits → Bool
  has_come Nothing = false
  has_come Alone = is_alone s.control t
  has_come (Death n) = has_died s.control n
  has_come AnyDeath = has_any_died s.control
  has_come (Moment m) = nat_le m (now_of s.control)
  has_come (Ring e) = false
  has_come (Mutex m) = is_free s m
  has_come (Lock l write) = is_open s write l
  has_come (Round b round) = has_passed s.control.barriers b round
  has_come (Notice c) = is_noticed s t c
  has_come (Retaking m o) = can_take s t m
  has_come a = descriptors_bring s.control.kernel a
