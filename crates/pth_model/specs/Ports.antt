-- Message ports: pth_msgport_create, pth_msgport_find, pth_msgport_pending, pth_msgport_put, pth_msgport_get, pth_msgport_reply,
-- pth_msgport_destroy. The answers and the changes stand beside the ports. What these calls change is told by their
-- answers.
use Rattle.std.specs.Prelude.{ℕ, ℤ, List, Option}
use Rattle.pth_base.specs.declared.answer.Answer.TheVariants.{Msg}
use Rattle.pth_port.specs.Mail.{port_create_answer, port_find_answer, port_pending_answer, port_put_answer, port_get_answer, reply_answer, port_destroy_answer}
use Rattle.pth_model.specs.declared.verdict.Verdict.{Verdict}
use Rattle.pth_model.specs.declared.verdict.Verdict.TheVariants.{Says}
use Rattle.pth_model.specs.Verdict.{says, done, by_result}
use Rattle.pth_model.specs.State.{State}
use Rattle.pth_model.specs.Transition.{nothing}
use Rattle.pth_model.specs.Row.{Row, ◌changing◌}

-- a message is put: its number is not said
abbrev pub put_done : ℕ → Verdict
put_done m = says 1

-- a message, with its number and its value
abbrev pub says_message : ℕ × ℤ → Verdict
says_message m = Says (Msg (record { 0 = m.0 }) m.1)

module _ {P S H : Type 0} (s : State P S H) where
  -- pth_msgport_create
  abbrev pub port_create : Option (List ℕ) → Row P S H
  port_create name = by_result says (port_create_answer s.resources.store.ports s.resources.store.mail name) changing nothing

  -- pth_msgport_find
  abbrev pub port_find : List ℕ → Row P S H
  port_find name = by_result says (port_find_answer s.resources.store.ports name) changing nothing

  -- pth_msgport_pending
  abbrev pub port_pending : ℤ → Row P S H
  port_pending p = by_result says (port_pending_answer s.resources.store.mail p) changing nothing

  -- pth_msgport_put: a message for port p, with its reply to port r, or to none
  abbrev pub port_put : (p r : ℤ) → Row P S H
  port_put p r = by_result put_done (port_put_answer s.resources.store.mail s.resources.store.ports.made p r) changing nothing

  -- pth_msgport_get
  abbrev pub port_get : ℤ → Row P S H
  port_get p = by_result says_message (port_get_answer s.resources.store.mail p) changing nothing

  -- pth_msgport_reply
  abbrev pub reply : ℤ → Row P S H
  reply m = by_result done (reply_answer s.resources.store.mail m) changing nothing

  -- pth_msgport_destroy
  abbrev pub port_destroy : ℤ → Row P S H
  port_destroy p = by_result done (port_destroy_answer s.resources.store.mail p) changing nothing
