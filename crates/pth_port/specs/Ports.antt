-- How ports and their messages are kept.
use Rattle.std.specs.Prelude.{◌≡◌, ◌≢◌, ◌+◌, ◌-◌, ◌<◌, ◌≤◌, ◌==◌, ℕ, zero, suc, nat_eq, nat_le, ℤ, pos, Bool, true, false, if◌then◌else◌, List, [], ◌∷◌, length, Option, Some, None, IfSome, option_map, Result, Ok, Err}
use Rattle.std.specs.Ordering.{nat_cmp}
use Rattle.std.specs.BTreeMap.{is_at}
use Rattle.std.specs.Map.{lookup}
use Rattle.pth_base.specs.Table.{put}
use Rattle.pth_base.specs.declared.errno.Errno.{Errno}
use Rattle.pth_base.specs.declared.ids.PortId.{PortId}
use Rattle.pth_base.specs.declared.refusal.Refusal.{Refusal}
use Rattle.pth_base.specs.declared.refusal.Refusal.TheVariants.{Fail, OutOfMemory}
use Rattle.pth_numbered.specs.Numbered.{number_known}
use Rattle.pth_numbered.specs.Operands.{number}
use Rattle.pth_port.specs.Mail.{Message, Mail, PortNames, port_limit, message_limit, messages, has_name, sent}
use Rattle.pth_port.specs.declared.entries.Port.{Port}
use Rattle.pth_port.specs.declared.stored_messages.StoredMessage.{StoredMessage}
use Rattle.pth_port.specs.declared.stored_messages.Place.{Place}
use Rattle.pth_port.specs.declared.stored_messages.Place.TheVariants.{Queued, Held}
use Rattle.pth_port.specs.declared.stored_messages.Queue.{Queue}

-- ports and messages by number, and how many were ever made and put
pub record PortsOf : Type 0 where
  pub ports : List (ℕ × Port)
  pub stored_messages : List (ℕ × StoredMessage)
  pub made : ℕ
  pub sent : ℕ

-- ---- entries

module _ {A : Type 0} where
  -- what entries have under a number
  unfoldable pub entry_at : List (ℕ × A) → ℕ → Option A
  entry_at es n = lookup (is_at (nat_cmp n)) es

  -- the same of entries that stand in no order
  unfoldable pub stored_in : List (ℕ × A) → ℕ → Option A
  stored_in es n = lookup (nat_eq n) es

  -- another one is under a number, if one is there
  abbrev pub with_entry : ℕ → (A → A) → (ℕ → Option A) → ℕ → Option A
  with_entry n change f = put f n (option_map change (f n))

abbrev pub port_at : PortsOf → ℕ → Option Port
port_at x p = entry_at x.ports p

abbrev pub stored_at : PortsOf → ℕ → Option StoredMessage
stored_at x n = stored_in x.stored_messages n

-- ---- changes of an entry

-- a message is at another place
abbrev pub at_place : Place → StoredMessage → StoredMessage
at_place place l = record l { place = place }

-- it has another value, and no port for its reply
abbrev pub rewritten : ℤ → StoredMessage → StoredMessage
rewritten v l = record l { value = v; reply = None }

-- it has no port for its reply
abbrev pub without_reply : StoredMessage → StoredMessage
without_reply l = record l { reply = None }

-- the queue of a port is another
abbrev pub with_queue : Queue → Port → Port
with_queue queue port = record port { queue = queue }

-- a message is the last of a queue
abbrev pub with_last : ℕ → Queue → Queue
with_last n queue = record {
  first = if queue.length == 0 then n else queue.first;
  last = n;
  length = queue.length + 1;
}

-- it is the last of a queue at a port, and stands behind the one that was, if one was
abbrev pub linked : PortId → ℕ → Queue → (ℕ → Option StoredMessage) → ℕ → Option StoredMessage
linked p n queue f =
    with_entry n (at_place (Queued p 0))
    (if queue.length == 0 then f else with_entry queue.last (at_place (Queued p n)) f)

-- the first of a queue is taken, behind which another stood
abbrev pub without_first : ℕ → Queue → Queue
without_first next queue = record { first = next; last = queue.last; length = queue.length - 1 }

-- ---- what an entry says

-- the number of the port for a reply, 0 for none
abbrev pub reply_number : Option PortId → ℕ
reply_number None = 0
reply_number (Some p) = p.0

abbrev pub is_held : Place → Bool
is_held (Queued p n) = false
is_held Held = true

-- the number of the message behind one in its queue
abbrev pub next_in : Place → ℕ
next_in (Queued p n) = n
next_in Held = 0

-- nothing stands behind a message that is not there
abbrev pub next_of : Option StoredMessage → ℕ
next_of (Some l) = next_in l.place
next_of None = 0

-- a message with its number
abbrev pub message : ℕ → StoredMessage → Message
message n l = record { number = n; value = l.value; reply = reply_number l.reply }

-- the message of a number; a value is given to one that is not there
abbrev pub message_of : ℕ → Option StoredMessage → Message
message_of n (Some l) = message n l
message_of n None = record { number = n; value = pos 0; reply = 0 }

-- a message that was got
abbrev pub held_of : ℕ → Option StoredMessage → Option Message
held_of n (Some l) = if is_held l.place then Some (message n l) else None
held_of n None = None

abbrev pub name_in : Option Port → Option (List ℕ)
name_in (Some port) = port.name
name_in None = None

abbrev pub queue_in : Option Port → Option Queue
queue_in (Some port) = Some port.queue
queue_in None = None

-- the first of a queue with its number, where it has one
abbrev pub taken_first : Queue → Option StoredMessage → Option (ℕ × StoredMessage)
taken_first queue (Some l) = if queue.length == 0 then None else Some (queue.first, l)
taken_first queue None = None

-- the first entry with a name
abbrev pub first_named : List ℕ → List (ℕ × Port) → Option ℕ
first_named name [] = None
first_named name (e ∷ es) = if has_name name e.1.name then Some e.0 else first_named name es

-- so many messages, from one number on
abbrev pub walk : (ℕ → Option StoredMessage) → (count first : ℕ) → List Message
walk f zero n = []
walk f (suc k) n = message_of n (f n) ∷ walk f k (next_of (f n))

-- the messages at a port, the first of its queue first
abbrev pub messages_in : (ℕ → Option StoredMessage) → Port → List Message
messages_in f port = walk f port.queue.length port.queue.first

-- ---- what is kept, as mail and names

unfoldable pub mail_of : PortsOf → Mail
mail_of x = record {
  at = λ p. option_map (messages_in (stored_at x)) (port_at x p);
  kept = λ n. held_of n (stored_at x n);
  made = x.sent;
}

unfoldable pub names_of : PortsOf → PortNames
names_of x = record { made = x.made; names = λ p. name_in (port_at x p) }

-- ---- steps of changes

-- a message is kept, in place of the one that has its number
abbrev pub with_held : Message → Mail → Mail
with_held m q = record q { kept = put q.kept m.number (Some m) }

-- a message is kept no longer
abbrev pub without_held : ℕ → Mail → Mail
without_held n q = record q { kept = put q.kept n None }

abbrev pub first_message : List Message → Option Message
first_message [] = None
first_message (m ∷ ms) = Some m

-- the first of the messages of a port is kept
abbrev pub first_held : ℕ → List Message → Mail → Mail
first_held p [] q = q
first_held p (m ∷ ms) q = with_held m (record q { at = put q.at p (Some ms) })

-- a message that was taken is kept only where it has a port for its reply
abbrev pub settled : Message → Mail → Mail
settled m q = if m.reply == 0 then without_held m.number q else q

-- a message of a port that is closed goes on: not to that port
abbrev pub gone_on : ℕ → Message → Mail → Mail
gone_on p m q =
    if m.reply == p
    then without_held m.number q
    else sent m.reply (record m { reply = 0 }) (without_held m.number q)

-- a port is gone
abbrev pub without_port : ℕ → Mail → Mail
without_port p q = record q { at = put q.at p None }

-- ---- what holds at every moment

-- a message is queued at a port
abbrev pub IsQueuedIn : ℕ → Place → Type 0
IsQueuedIn p (Queued q n) = q.0 ≡ p
IsQueuedIn p Held = ⊥

abbrev pub IsQueued : ℕ → Option StoredMessage → Type 0
IsQueued p (Some l) = IsQueuedIn p l.place
IsQueued p None = ⊥

-- none of so many messages, from one number on, is this one
abbrev pub IsApart : (ℕ → Option StoredMessage) → (other count first : ℕ) → Type 0
IsApart f m zero n = Unit {0}
IsApart f m (suc k) n = (n ≢ m) × IsApart f m k (next_of (f n))

-- exactly the last of them, before which stand so many, is the last of the queue
abbrev pub IsEnd : (before n last : ℕ) → Type 0
IsEnd zero n last = n ≡ last
IsEnd (suc k) n last = n ≢ last

-- so many messages, from one number on, are queued at a port, each of them once
abbrev pub IsLine : (ℕ → Option StoredMessage) → (port last count first : ℕ) → Type 0
IsLine f p last zero n = Unit {0}
IsLine f p last (suc k) n =
    IsQueued p (f n) × IsApart f n k (next_of (f n)) × IsEnd k n last × IsLine f p last k (next_of (f n))

-- a queue at a port
abbrev pub IsQueue : (ℕ → Option StoredMessage) → ℕ → Queue → Type 0
IsQueue f p queue = IsLine f p queue.last queue.length queue.first

-- no two live ports have one name
abbrev pub NamesDiffer : PortNames → Type 0
NamesDiffer x =
    (name : List ℕ) (p q : ℕ) → has_name name (x.names p) ≡ true → has_name name (x.names q) ≡ true → p ≡ q

-- ports have numbers from 1 to those made, and each has its queue
abbrev pub PortIsKept : (ℕ → Option StoredMessage) → (made p : ℕ) → Option Port → Type 0
PortIsKept f made p o = IfSome o (λ port. (0 < p) × (p ≤ made) × IsQueue f p port.queue)

-- messages have numbers from 1 to those sent, and a port for a reply has a number
abbrev pub StoredMessageIsKept : (sent n : ℕ) → Option StoredMessage → Type 0
StoredMessageIsKept sent n o = IfSome o (λ l. (0 < n) × (n ≤ sent) × IfSome l.reply (λ p. p.0 ≢ 0))

-- what holds of ports and messages at every moment
pub record PortsAreKept (x : PortsOf) : Type 0 where
  pub ports : (p : ℕ) → PortIsKept (stored_at x) x.made p (port_at x p)
  pub stored_messages : (n : ℕ) → StoredMessageIsKept x.sent n (stored_at x n)
  -- the numbers of ports fit
  pub numbers : x.made ≤ 4294967295
  -- how many there are, and that they are not too many
  pub port_count : number_known (port_at x) x.made ≡ length x.ports
  pub stored_count : messages (mail_of x) x.made ≡ length x.stored_messages
  pub few_ports : length x.ports ≤ port_limit
  pub few_stored_messages : length x.stored_messages ≤ message_limit
  pub names : NamesDiffer (names_of x)

-- ---- operands and answers

-- the number of the port that an operand names; one that is too great for a port is 0, which no port has
abbrev pub port_number : ℤ → ℕ
port_number p = if nat_le (number p) 4294967295 then number p else 0

-- an answer, with what stands for its value
abbrev pub answer_as : {A B : Type 0} → (A → B) → Result A Errno → Result B Errno
answer_as f (Ok a) = Ok (f a)
answer_as f (Err e) = Err e

-- how a call that takes memory is answered with a number: a refusal comes for certain, and else only want of
-- memory refuses
abbrev pub NumbersWithMemory : {A : Type 0} → Result ℕ Errno → (A → ℕ) → Result A Refusal → Type 0
NumbersWithMemory (Err e) f r = r ≡ Err (Fail e)
NumbersWithMemory (Ok n) f (Ok a) = f a ≡ n
NumbersWithMemory (Ok n) f (Err e) = e ≡ OutOfMemory
