-- Message ports and the messages at them: pth_msgport_create, pth_msgport_find, pth_msgport_pending, pth_msgport_put,
-- pth_msgport_get, pth_msgport_reply, pth_msgport_destroy.
use Rattle.std.specs.Prelude.{ℕ, zero, suc, ◌+◌, ◌==◌, nat_le, ◌&&◌, ◌||◌, not, ℤ, Bool, false, List, [], ◌∷◌, ◌++◌, length, Option, Some, None, is_some, Result, Ok, Err, if◌then◌else◌}
use Rattle.std.specs.Str.{bytes_eq}
use Rattle.pth_base.specs.Table.{put}
use Rattle.pth_base.specs.declared.errno.Errno.{Errno}
use Rattle.pth_base.specs.declared.errno.Errno.TheVariants.{EAGAIN, EEXIST, EINVAL, ENOENT}
use Rattle.pth_numbered.specs.Numbered.{number_known}
use Rattle.pth_numbered.specs.Operands.{number, is_zero}

-- a message: its number, its value, and the port for the reply, 0 for none (pth_message_t)
pub record Message : Type 0 where
  pub number : ℕ
  pub value : ℤ
  pub reply : ℕ

-- the messages, by the ports at which they are queued, and those that were got
pub record Mail : Type 0 where
  -- of each live port, its messages, the oldest first
  pub at : ℕ → Option (List Message)
  -- by its number, each message that was got and has a reply port
  pub kept : ℕ → Option Message
  -- how many messages were ever put: the last one's number
  pub made : ℕ

-- the ports, without their messages
pub record PortNames : Type 0 where
  -- how many were ever made: the last one's number
  pub made : ℕ
  -- the names of live ports
  pub names : ℕ → Option (List ℕ)

-- how many ports there may be at once, and how many messages, queued or kept
abbrev pub port_limit : ℕ
port_limit = 256

abbrev pub message_limit : ℕ
message_limit = 65536

-- ---- tests

abbrev pub messages_of : Option (List Message) → List Message
messages_of None = []
messages_of (Some ms) = ms

-- a port is there
abbrev pub is_live : Mail → ℕ → Bool
is_live q p = is_some (q.at p)

-- ports have numbers from 1 on, so 0 and a negative operand name none
abbrev pub is_port : Mail → ℤ → Bool
is_port q p = is_live q (number p)

-- the messages at a port, the oldest first
abbrev pub messages_at : Mail → ℤ → List Message
messages_at q p = messages_of (q.at (number p))

-- how many messages are queued at the first n ports
unfoldable pub queued : Mail → ℕ → ℕ
queued q zero = 0
queued q (suc n) = length (messages_of (q.at (suc n))) + queued q n

-- how many messages there are, at the first n ports and kept ones
abbrev pub messages : Mail → ℕ → ℕ
messages q n = queued q n + number_known q.kept q.made

-- a port has this name
abbrev pub has_name : List ℕ → Option (List ℕ) → Bool
has_name name None = false
has_name name (Some other) = bytes_eq name other

-- the one among the first n ports that has this name; the last of them, were there more
unfoldable pub port_named : List ℕ → (ℕ → Option (List ℕ)) → ℕ → Option ℕ
port_named name names zero = None
port_named name names (suc n) = if has_name name (names (suc n)) then Some (suc n) else port_named name names n

-- a live port has this name
abbrev pub is_taken : PortNames → Option (List ℕ) → Bool
is_taken x None = false
is_taken x (Some name) = is_some (port_named name x.names x.made)

-- where a message goes back to; 0 for nowhere
abbrev pub reply_port : Option Message → ℕ
reply_port None = 0
reply_port (Some m) = m.reply

-- ---- answers: the tests stand in order, and the first that holds is the answer

-- a port is made: the next number
abbrev pub port_create_answer : PortNames → Mail → Option (List ℕ) → Result ℕ Errno
port_create_answer x q name =
    if is_taken x name then Err EEXIST else
    if nat_le port_limit (number_known q.at x.made) then Err EAGAIN else
    Ok (x.made + 1)

-- the port of a name
abbrev pub port_or_error : Option ℕ → Result ℕ Errno
port_or_error None = Err ENOENT
port_or_error (Some p) = Ok p

abbrev pub port_find_answer : PortNames → List ℕ → Result ℕ Errno
port_find_answer x name = port_or_error (port_named name x.names x.made)

-- how many messages are queued at a port
abbrev pub port_pending_answer : Mail → ℤ → Result ℕ Errno
port_pending_answer q p =
    if not (is_port q p) then Err EINVAL else
    Ok (length (messages_at q p))

-- a message is put to a port, of which there were n so far, with a port for the reply or none: the next number
abbrev pub port_put_answer : Mail → ℕ → (p r : ℤ) → Result ℕ Errno
port_put_answer q n p r =
    if not (is_port q p) || not (is_zero r) && not (is_port q r) then Err EINVAL else
    if nat_le message_limit (messages q n) then Err EAGAIN else
    Ok (q.made + 1)

-- the oldest message
abbrev pub oldest : List Message → Result (ℕ × ℤ) Errno
oldest [] = Err ENOENT
oldest (m ∷ ms) = Ok (m.number, m.value)

-- the oldest message of a port is got: its number and its value
abbrev pub port_get_answer : Mail → ℤ → Result (ℕ × ℤ) Errno
port_get_answer q p =
    if not (is_port q p) then Err EINVAL else
    oldest (messages_at q p)

-- a kept message is sent back
abbrev pub reply_answer : Mail → ℤ → Result (Unit {0}) Errno
reply_answer q m =
    if not (is_live q (reply_port (q.kept (number m)))) then Err ENOENT else
    Ok tt

-- a port is destroyed
abbrev pub port_destroy_answer : Mail → ℤ → Result (Unit {0}) Errno
port_destroy_answer q p =
    if not (is_port q p) then Err EINVAL else
    Ok tt

-- ---- changes of the messages

-- no port was made
abbrev pub no_mail : Mail
no_mail = record { at = λ p. None; kept = λ n. None; made = 0 }

-- m goes last to port p; it ceases where the port is gone
abbrev pub sent : ℕ → Message → Mail → Mail
sent p m q = record q { at = if is_live q p then put q.at p (Some (messages_of (q.at p) ++ m ∷ [])) else q.at }

-- a port that is there from now on, unless it was
abbrev pub with_port : ℕ → Mail → Mail
with_port p q = if is_live q p then q else record q { at = put q.at p (Some []) }

-- a message is put, with the next number, where there is the port, and the port for the reply
abbrev pub put_to : ℕ → ℤ → ℕ → Mail → Mail
put_to p v r q =
    if is_live q p && ((r == 0) || is_live q r)
    then sent p (record { number = q.made + 1; value = v; reply = r }) (record q { made = q.made + 1 })
    else q

-- the oldest message is taken, and kept where it has a reply port
abbrev pub got : ℕ → List Message → Mail → Mail
got p [] q = q
got p (m ∷ ms) q = record q { at = put q.at p (Some ms); kept = if m.reply == 0 then q.kept else put q.kept m.number (Some m) }

-- m goes back with a value, where its reply port is there
abbrev pub replied : ℤ → Option Message → Mail → Mail
replied v None q = q
replied v (Some m) q =
    if is_live q m.reply
    then sent m.reply (record m { value = v; reply = 0 }) (record q { kept = put q.kept m.number None })
    else q

-- the messages of a port that is gone go to their reply ports
abbrev pub sent_back : List Message → Mail → Mail
sent_back [] q = q
sent_back (m ∷ ms) q = sent_back ms (sent m.reply (record m { reply = 0 }) q)

abbrev pub closed_port : ℕ → Mail → Mail
closed_port p q = sent_back (messages_of (q.at p)) (record q { at = put q.at p None })

-- ---- changes of the names

-- no port was made
abbrev pub no_names : PortNames
no_names = record { made = 0; names = λ p. None }

-- one more port, with a name or without
abbrev pub port_added : Option (List ℕ) → PortNames → PortNames
port_added name x = record { made = x.made + 1; names = put x.names (x.made + 1) name }

-- a port is gone, and its name is free
abbrev pub port_removed : ℕ → PortNames → PortNames
port_removed p x = record x { names = put x.names p None }
