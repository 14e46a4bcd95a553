-- Event handling: pth_event, pth_event_concat, pth_event_isolate, pth_event_walk, pth_event_status, pth_event_typeof,
-- pth_event_free, and pth_wait. The answers stand beside the rings, with the refusals of each call in order.
use Rattle.std.specs.Prelude.{ℕ, ℤ, ◌&&◌, nat_lt, Bool, Option, Some, None, if◌then◌else◌}
use Rattle.pth_base.specs.declared.answer.Answer.TheVariants.{Int}
use Rattle.pth_base.specs.declared.errno.Errno.TheVariants.{EINVAL}
use Rattle.pth_base.specs.declared.event.EvLine.{EvLine}
use Rattle.pth_base.specs.declared.event.EvLine.TheVariants as line
use Rattle.pth_base.specs.declared.event.EventSpec.{EventSpec}
use Rattle.pth_base.specs.declared.event.EventSpec.TheVariants as of
use Rattle.pth_base.specs.declared.ids.EventId.{EventId}
use Rattle.pth_base.specs.Descriptors.{descriptor_limit}
use Rattle.pth_numbered.specs.Operands.{number, is_below}
use Rattle.pth_ring.specs.declared.event.Status.{Status}
use Rattle.pth_ring.specs.declared.event.Status.TheVariants.{Pending, Occurred, Failed}
use Rattle.pth_ring.specs.Rings.{make_answer, chain_answer, concat_answer, isolate_answer, walk_answer, status_answer, kind_answer, free_answer, claim_answer, settled_in, alone, chained, concatenated, isolated, freed, ring_freed}
use Rattle.pth_model.specs.declared.awaits.Awaits.TheVariants.{Ring}
use Rattle.pth_model.specs.declared.verdict.Verdict.{Verdict}
use Rattle.pth_model.specs.declared.verdict.Verdict.TheVariants.{Says, Blocks}
use Rattle.pth_model.specs.Verdict.{refused, says, done, by_result, refused_as◌otherwise◌}
use Rattle.pth_numbered.specs.Clauses.{◌when◌otherwise◌}
use Rattle.pth_model.specs.State.{State}
use Rattle.pth_model.specs.Transition.{Change, silent, nothing}
use Rattle.pth_model.specs.Changes.{with_events}
use Rattle.pth_model.specs.Row.{Row, ◌changing◌, ◌trying◌}
use Rattle.pth_model.specs.Times.{is_negative, moment_of, length_of}

-- the number of an event, 0 for none
abbrev pub number_or_none : Option EventId → ℕ
number_or_none None = 0
number_or_none (Some e) = e.0

-- the sum of some of 1 for readable, 2 for writeable and 4 for exceptional
abbrev pub are_goals : ℕ → Bool
are_goals goals = nat_lt 0 goals && nat_lt goals 8

abbrev pub status_number : Status → ℕ
status_number Pending = 0
status_number Occurred = 1
status_number Failed = 2

-- what an event is of that a line asks for, none where its operands are refused: a negative moment (PTH_EVENT_TIME), goals or a
-- descriptor that there can't be (PTH_EVENT_FD), a negative interval (PTH_EVENT_FUNC); each port, thread, check and condition will do
-- (PTH_EVENT_MSG, PTH_EVENT_TID, PTH_EVENT_COND)
abbrev pub spec_of : EvLine → Option EventSpec
spec_of (line.Time at) = if is_negative at then None else Some (of.Time (moment_of at))
spec_of (line.Fd goals fd) = if are_goals goals && is_below fd descriptor_limit then Some (of.Fd goals fd) else None
spec_of (line.Select r w x) = Some (of.Select r w x)
spec_of (line.Msg p) = Some (of.Msg p)
spec_of (line.Cond c) = Some (of.Cond c)
spec_of (line.Tid state t) = Some (of.Tid state t)
spec_of (line.Func check arg interval) = if is_negative interval then None else Some (of.Func check arg (length_of 1 interval))

module _ {P S H : Type 0} where
  -- an event of what a line asks for is made, as a verdict and a change say
  abbrev pub made_as : Option EventSpec → (EventSpec → Verdict) → (EventSpec → Change P S H) → Row P S H
  made_as None v g = refused EINVAL changing nothing
  made_as (Some spec) v g = v spec changing g spec

module _ {P S H : Type 0} (s : State P S H) where
  -- pth_event: alone in its ring, with the next number
  abbrev pub make_event : EvLine → Row P S H
  make_event l = made_as (spec_of l)
      (λ spec. by_result says (make_answer s.control.events))
      (λ spec. with_events (alone spec))

  -- the same with PTH_MODE_CHAIN: just before e in its ring
  abbrev pub chain : ℤ → EvLine → Row P S H
  chain e l = made_as (spec_of l)
      (λ spec. by_result says (chain_answer s.control.events (number e)))
      (λ spec. with_events (chained spec (number e)))

  -- pth_event_concat: the ring of e from e on, and then that of g from g on
  abbrev pub ev_concat : ℤ → ℤ → Row P S H
  ev_concat e g =
      by_result (λ u. Says (Int e)) (concat_answer s.control.events (number e) (number g))
      changing with_events (concatenated (number e) (number g))

  -- pth_event_isolate: e stands alone; the event after it in the rest, or 0
  abbrev pub ev_isolate : ℤ → Row P S H
  ev_isolate e =
      by_result (λ o. says (number_or_none o)) (isolate_answer s.control.events (number e))
      changing with_events (isolated (number e))

  -- pth_event_walk: the neighbour, or the next one that has occurred
  abbrev pub ev_walk : ℤ → Bool → Bool → Row P S H
  ev_walk e forward until_occurred =
      by_result (λ (x : EventId). says x.0) (walk_answer s.control.events (number e) forward until_occurred)
      changing nothing

  -- pth_event_status: what was found as the event was last looked at
  abbrev pub ev_status : ℤ → Row P S H
  ev_status e =
      by_result (λ x. says (status_number x)) (status_answer s.control.events (number e))
      changing nothing

  -- pth_event_typeof
  abbrev pub ev_kind : ℤ → Row P S H
  ev_kind e =
      by_result says (kind_answer s.control.events (number e))
      changing nothing

  -- pth_event_free: an event, or all of its ring
  abbrev pub ev_free : ℤ → Bool → Row P S H
  ev_free e all =
      by_result done (free_answer s.control.events (number e))
      changing with_events (if all then ring_freed (number e) else freed (number e))

  -- pth_wait: the ring is claimed, and waited for until some of its events are not pending: how many
  abbrev pub wait : ℤ → Row P S H
  wait e =
      let settled = settled_in s.control.events (number e) in
      record {
        begin =
            refused_as claim_answer s.control.events (number e) otherwise
            Blocks (Ring e)
            trying silent;
        again = λ a.
            says settled when nat_lt 0 settled otherwise
            Blocks (Ring e)
            trying silent;
      }
