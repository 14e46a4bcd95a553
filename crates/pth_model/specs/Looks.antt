-- What is found of events as they are looked at: in each pass, those for which threads wait.
--
-- `comes` is defined by `looked_at`, so what a look changes is said once.
use Rattle.std.specs.Prelude.{ℕ, ℤ, ◌&&◌, ◌||◌, nat_le, Bool, true, false, not, List, Option, Some, None, option_map, if◌then◌else◌}
use Rattle.pth_base.specs.Program.{Functions}
use Rattle.pth_base.specs.declared.thread.ThreadState.{ThreadState}
use Rattle.pth_base.specs.declared.thread.ThreadState.TheVariants.{New, Ready, Running, Waiting, Dead}
use Rattle.pth_ring.specs.declared.event.EventSpec.{EventSpec}
use Rattle.pth_base.specs.declared.event.EventSpec.TheVariants as of
use Rattle.pth_ring.specs.declared.event.Event.{Event}
use Rattle.pth_ring.specs.declared.event.Status.{Status}
use Rattle.pth_ring.specs.declared.event.Status.TheVariants.{Pending, Occurred, Failed}
use Rattle.pth_ring.specs.Rings.{with_status, with_next_look, is_settled}
use Rattle.pth_ring.specs.Ring.{each}
use Rattle.pth_cond.specs.Conditions.{is_initialised, is_marked}
use Rattle.pth_port.specs.Mail.{is_port, messages_at}
use Rattle.pth_base.specs.Descriptors.{contains}
use Rattle.pth_kernel.specs.Kernel.{fd_named, is_fd_live, is_readable, is_writeable, is_exceptional}
use Rattle.pth_io.specs.Attempts.{are_all_live, is_any_ready}
use Rattle.pth_numbered.specs.Operands.{handler_of}
use Rattle.pth_model.specs.State.{State, now_of}
use Rattle.pth_model.specs.Transition.{Change, controlled}
use Rattle.pth_model.specs.Changes.{with_events, is_empty, or_nobody}
use Rattle.pth_model.specs.ThreadControl.{thread, is_known}
use Rattle.pth_model.specs.Times.{moment_after}
use Rattle.pth_model.specs.EventSeats.{event_seat}

-- two states are one
abbrev pub is_state : ThreadState → ThreadState → Bool
is_state New New = true
is_state Ready Ready = true
is_state Running Running = true
is_state Waiting Waiting = true
is_state Dead Dead = true
is_state a b = false

-- what is found of an event that fails so, or occurs so
abbrev pub found_by : (fails occurs : Bool) → Status
found_by fails occurs = if fails then Failed else (if occurs then Occurred else Pending)

module _ {P S H : Type 0} (s : State P S H) where
  -- an event of descriptors fails if one of them is not live (PTH_EVENT_FD, PTH_EVENT_SELECT), one of a message if its port is not
  -- live (PTH_EVENT_MSG), one of a thread if that is not known (PTH_EVENT_TID), and one of a condition if that is not initialised
  -- (PTH_EVENT_COND)
  abbrev pub fails : EventSpec → Bool
  fails (of.Fd goals fd) = not (is_fd_live s.control.kernel (fd_named fd))
  fails (of.Select r w x) = not (are_all_live s.control.kernel r.0 w.0 x.0)
  fails (of.Time at) = false
  fails (of.Msg p) = not (is_port s.resources.store.mail p)
  fails (of.Tid state t) = not (is_known s.control t)
  fails (of.Func check arg interval) = false
  fails (of.Cond c) = not (is_initialised s.control.conditions c)

  -- Event e occurs if a descriptor is as its goals say, if a message is queued at its port, if its thread is in its state, or if its
  -- seat at its condition was notified. One of a moment occurs then, and at all later moments (PTH_EVENT_TIME). Whether one of a
  -- function occurs only its program knows (PTH_EVENT_FUNC).
  abbrev pub occurs : ℕ → EventSpec → Bool
  occurs e (of.Fd goals fd) =
      (contains goals 0 && is_readable s.control.kernel (fd_named fd))
      || (contains goals 1 && is_writeable s.control.kernel (fd_named fd))
      || (contains goals 2 && is_exceptional s.control.kernel (fd_named fd))
  occurs e (of.Select r w x) = is_any_ready s.control.kernel r.0 w.0 x.0
  occurs e (of.Time at) = nat_le at (now_of s.control)
  occurs e (of.Msg p) = not (is_empty (messages_at s.resources.store.mail p))
  occurs e (of.Tid state t) = is_state state (or_nobody (thread s.control t)).state
  occurs e (of.Func check arg interval) = false
  occurs e (of.Cond c) = is_marked s.control.conditions c (event_seat e)

  -- what is found of an event, if no check is asked
  abbrev pub found_unasked : ℕ → EventSpec → Status
  found_unasked e spec = found_by (fails spec) (occurs e spec)

module _ {P S H : Type 0} (f : P → Functions S H) (s : State P S H) where
  -- a check holds over the shared value; an operand names a check as one names a handler
  abbrev pub check_holds : (check arg : ℤ) → Bool
  check_holds check arg = (f s.control.program).check (handler_of check) arg s.control.shared

  -- what is found of event e: one of a function occurs if its check holds, but not before its next look
  abbrev pub found : ℕ → (next : ℕ) → EventSpec → Status
  found e next (of.Func check arg interval) = found_by false (nat_le next (now_of s.control) && check_holds check arg)
  found e next spec = found_unasked s e spec

  -- when an event is to be looked at next: a look that is due and finds that the check does not hold puts it off by the interval
  abbrev pub next_look : (next : ℕ) → EventSpec → ℕ
  next_look next (of.Func check arg interval) =
      if nat_le next (now_of s.control) && not (check_holds check arg) then moment_after (now_of s.control) interval else next
  next_look next spec = next

  -- an event that is looked at
  abbrev pub looked_at : ℕ → Event → Event
  looked_at e x = with_next_look (next_look x.next_look x.spec) (with_status (found e x.next_look x.spec) x)

  -- these events are looked at
  abbrev pub looks_at : List ℕ → Change P S H
  looks_at es = with_events (λ x. record x { events = λ e. each es (option_map (looked_at e)) x.events e })

  -- the state in which these events were looked at
  abbrev pub after_looks : List ℕ → State P S H
  after_looks es = controlled (looks_at es) s

  -- whether an event is settled, if it is looked at now
  abbrev pub comes : ℕ → Option Event → Bool
  comes e o = is_settled (option_map (looked_at e) o)

  -- the moment at which an event occurs, 0 where none is known: that of a function is its next look, if its check holds now
  abbrev pub occurs_at : (next : ℕ) → EventSpec → ℕ
  occurs_at next (of.Time at) = at
  occurs_at next (of.Func check arg interval) = if check_holds check arg then next else 0
  occurs_at next spec = 0

  abbrev pub event_moment : Option Event → ℕ
  event_moment None = 0
  event_moment (Some x) = occurs_at x.next_look x.spec
