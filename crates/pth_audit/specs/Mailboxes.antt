-- The messages that marks tell of, as the judge of their order keeps them.
use Rattle.std.specs.Prelude.{◌≡◌, ◌+◌, ◌<◌, ◌^◌, ◌==◌, ◌&&◌, ◌++◌, ◌∷◌, [], ℕ, ℤ, Bool, true, false, List, length, map, Option, Some, None, is_some, option_map, if◌then◌else◌}
use Rattle.std.specs.Ordering.{int_eq}
use Rattle.std.specs.declared.collections.VecDeque.{VecDeque}
use Rattle.pth_base.specs.Table.{put}
use Rattle.pth_base.specs.declared.answer.Answer.{Answer}
use Rattle.pth_base.specs.declared.answer.Answer.TheVariants.{Fail, Int, Msg}
use Rattle.pth_base.specs.declared.call.Call.{Call}
use Rattle.pth_base.specs.declared.call.Call.TheVariants as call
use Rattle.pth_base.specs.declared.errno.Errno.TheVariants.{ENOENT}
use Rattle.pth_base.specs.declared.mark.Mark.{Mark}
use Rattle.pth_base.specs.declared.mark.Mark.TheVariants as mark
use Rattle.pth_numbered.specs.Operands.{◌is◌}
use Rattle.pth_port.specs.Mail.{Mail, Message, messages_of, with_port, got}
use Rattle.pth_port.specs.Ports.{entry_at}
use Rattle.pth_laws.specs.InOrder.{port_index, mail}
use Rattle.pth_audit.specs.declared.mailboxes.StoredMessage.{StoredMessage}
use Rattle.pth_audit.specs.declared.mailboxes.Mailboxes.{Mailboxes}

-- a message, as the law has it
abbrev pub message_of : StoredMessage → Message
message_of l = record { number = l.number; value = l.value; reply = l.reply }

module _ {Z : Type 0} where
  -- the messages of a queue, the oldest first
  abbrev pub messages_in : VecDeque StoredMessage Z → List Message
  messages_in q = map message_of q.items

  -- the queue of each port, by the port's index
  abbrev pub queues_of : List (ℕ × VecDeque StoredMessage Z) → ℕ → Option (List Message)
  queues_of es i = option_map messages_in (entry_at es i)

-- the messages that are kept, by number
abbrev pub kept_of : List (ℕ × StoredMessage) → ℕ → Option Message
kept_of es n = option_map message_of (entry_at es n)

-- a message goes last to port p, if it is there
abbrev pub sent_at : ℕ → Message → (ℕ → Option (List Message)) → ℕ → Option (List Message)
sent_at p m f = if is_some (f p) then put f p (Some (messages_of (f p) ++ m ∷ [])) else f

-- the oldest of these
abbrev pub first : List Message → Option Message
first [] = None
first (m ∷ ms) = Some m

-- the oldest of these, which are at port p, is taken
abbrev pub without_first : ℕ → List Message → (ℕ → Option (List Message)) → ℕ → Option (List Message)
without_first p [] f = f
without_first p (m ∷ ms) f = put f p (Some ms)

-- all messages that the judge has
abbrev pub mail_of : Mailboxes → Mail
mail_of b = record { at = queues_of b.ports.entries; kept = kept_of b.kept.entries; made = b.made }

-- one message more has a number
abbrev pub HasNumber : Mailboxes → Type 0
HasNumber b = b.made + 1 < 2 ^ 64

-- the judge has the messages after these marks
pub record FollowsMail (b : Mailboxes) (marks : List Mark) : Type 0 where
  pub at : (mail marks).at ≡ queues_of b.ports.entries
  pub kept : (mail marks).kept ≡ kept_of b.kept.entries
  pub made : (mail marks).made ≡ b.made

-- a port is made, if its number is the answer
abbrev pub created : Answer → Mail → Mail
created (Int p) q = with_port (port_index p) q
created a q = q

-- the oldest message of a port is got, if a message is the answer
abbrev pub got_of : ℤ → Answer → Mail → Mail
got_of p (Msg id v) q = got (port_index p) (messages_of (q.at (port_index p))) q
got_of p a q = q

-- ---- what is said of a mark, as a test

-- those at a port, the oldest first: none if it is not there
abbrev pub queue_in : (ℕ → Option (List Message)) → ℤ → List Message
queue_in f p = messages_of (f (port_index p))

-- a message has this number and this value
abbrev pub is_first : ℕ → ℤ → Option Message → Bool
is_first n v None = false
is_first n v (Some m) = (m.number == n) && int_eq m.value v

-- what a call for the oldest message is answered is true of these
abbrev pub is_got_in_order : Answer → List Message → Bool
is_got_in_order (Msg id v) ms = is_first id.0 v (first ms)
is_got_in_order (Fail ENOENT) ms = length ms == 0
is_got_in_order a ms = true

-- what a call for the number of messages is answered is true of these
abbrev pub is_counted_in_order : Answer → List Message → Bool
is_counted_in_order (Int n) ms = n is length ms
is_counted_in_order a ms = true

-- what a call is answered is true of the messages that wait at each port
abbrev pub is_answer_in_order : (ℤ → List Message) → Call → Answer → Bool
is_answer_in_order waiting (call.PortGet p) a = is_got_in_order a (waiting p)
is_answer_in_order waiting (call.PortPending p) a = is_counted_in_order a (waiting p)
is_answer_in_order waiting c a = true

-- what is said of a mark in order is true of them
abbrev pub is_in_order : (ℤ → List Message) → Mark → Bool
is_in_order waiting (mark.Answered t c a) = is_answer_in_order waiting c a
is_in_order waiting m = true
