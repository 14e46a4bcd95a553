-- Marks in order: who gets a message of a port gets the oldest one (pth_msgport_get), nobody is told that there is none while there is
-- one, and whoever asks how many there are is told (pth_msgport_pending). All is told by the marks alone, of every list of marks: also of
-- one that no run tells.
--
-- The queues change by `put_to`, `got`, `replied` and `closed_port` of `pth_port`. Port n has index 2n + 1 and port -n index 2n.
use Rattle.std.specs.Prelude.{◌≡◌, ◌≤◌, ℕ, zero, suc, ◌+◌, ◌*◌, ◌==◌, nat_lt, ◌&&◌, ◌||◌, not, ℤ, pos, negsuc, Bool, false, if◌then◌else◌, List, [], ◌∷◌, ◌++◌, length, drop, map, filter, fold, count_by, Option, Some, None}
use Rattle.pth_base.specs.declared.act.Act.TheVariants as act
use Rattle.pth_base.specs.declared.answer.Answer.TheVariants.{Fail, Int, Msg}
use Rattle.pth_base.specs.declared.call.Call.TheVariants as call
use Rattle.pth_base.specs.declared.errno.Errno.TheVariants.{ENOENT}
use Rattle.pth_base.specs.declared.ids.MsgId.{MsgId}
use Rattle.pth_base.specs.declared.ids.Tid.{Tid}
use Rattle.pth_base.specs.declared.mark.Mark.{Mark}
use Rattle.pth_base.specs.declared.mark.Mark.TheVariants as mark
use Rattle.pth_numbered.specs.Operands.{number}
use Rattle.pth_port.specs.Mail.{Mail, Message, is_live, messages_of, no_mail, with_port, put_to, got, replied, closed_port}
use Rattle.pth_laws.specs.Marks.{is_same}

-- ---- ports by their numbers: each number names a port of its own, also 0 and one below

abbrev pub port_index : ℤ → ℕ
port_index (pos n) = 2 * n + 1
port_index (negsuc n) = 2 * n + 2

-- the port for a reply: 0 is none
abbrev pub reply_index : ℤ → ℕ
reply_index (pos zero) = 0
reply_index r = port_index r

-- a message of a state, whose ports are numbered from 0 on
abbrev pub by_index : Message → Message
by_index m = record m { reply = reply_index (pos m.reply) }

-- ---- messages

-- the messages after a mark: a call on ports that is answered with its success changes them, and so does an act that puts one. Nothing
-- changes if the call would be refused because its port, its message or the port for its reply is not there, or if a port is made that is
-- there.
abbrev pub mail_after : Mail → Mark → Mail
mail_after q (mark.Answered t (call.PortCreate name) (Int p)) = with_port (port_index p) q
mail_after q (mark.Answered t (call.PortPut p v r) (Int (pos (suc zero)))) = put_to (port_index p) v (reply_index r) q
mail_after q (mark.Acted t (act.Put p v) (Int (pos (suc zero)))) = put_to (port_index p) v 0 q
mail_after q (mark.Answered t (call.PortGet p) (Msg id v)) = got (port_index p) (messages_of (q.at (port_index p))) q
mail_after q (mark.Answered t (call.Reply m v) (Int (pos (suc zero)))) = replied v (q.kept (number m)) q
mail_after q (mark.Answered t (call.PortDestroy p) (Int (pos (suc zero)))) = closed_port (port_index p) q
mail_after q m = q

-- the messages after these marks
abbrev pub mail : List Mark → Mail
mail marks = fold mail_after no_mail marks

-- those at a port, the oldest first: none if it is not there
abbrev pub queue : List Mark → ℤ → List Message
queue marks p = messages_of ((mail marks).at (port_index p))

-- ---- the sentences

-- a message is the oldest of these, by its number and its value
abbrev pub IsOldest : ℕ → ℤ → List Message → Type 0
IsOldest n v [] = ⊥
IsOldest n v (m ∷ ms) = (m.number ≡ n) × (m.value ≡ v)

-- what is said of a mark m, by the messages that wait at each port
pub record IsInOrderAt (waiting : ℤ → List Message) (m : Mark) : Type 0 where
  -- a message that is got is the oldest of its port
  pub got_is_oldest : (t : Tid) (p : ℤ) (id : MsgId) (v : ℤ) → m ≡ mark.Answered t (call.PortGet p) (Msg id v) → IsOldest id.0 v (waiting p)
  -- a port of which none is got, since it has none, has none
  pub none_is_there : (t : Tid) (p : ℤ) → m ≡ mark.Answered t (call.PortGet p) (Fail ENOENT) → waiting p ≡ []
  -- as many are there as a pth_msgport_pending is answered
  pub as_many_are_there : (t : Tid) (p n : ℤ) → m ≡ mark.Answered t (call.PortPending p) (Int n) → n ≡ pos (length (waiting p))

-- wherever a mark stands in these marks, that is said of it, by the marks before it
abbrev pub InOrder : List Mark → Type 0
InOrder marks = (before later : List Mark) (m : Mark) → marks ≡ before ++ m ∷ later → IsInOrderAt (queue before) m

-- these marks are in order, and are not with this one more
abbrev pub IsOutOfOrder : List Mark → Mark → Type 0
IsOutOfOrder before m = InOrder before × (InOrder (before ++ m ∷ []) → ⊥)

-- ---- the same by what went to a port, and how many of it were taken

-- a message, if it goes
abbrev pub one_if : Bool → Message → List Message
one_if b m = if b then m ∷ [] else []

-- a kept message that goes back to port i with a value
abbrev pub sent_as_reply : ℕ → ℤ → Option Message → List Message
sent_as_reply i v None = []
sent_as_reply i v (Some m) = one_if (m.reply == i) (record m { value = v; reply = 0 })

-- what a mark sends to port i, which is there, in this order: a message that is put there, or one that a reply sends back there, or the
-- messages of another port that is destroyed, if their replies go there
abbrev pub sent_to : ℕ → Mail → Mark → List Message
sent_to i q (mark.Answered t (call.PortPut p v r) (Int (pos (suc zero)))) =
    one_if ((port_index p == i) && ((reply_index r == 0) || is_live q (reply_index r))) (record { number = q.made + 1; value = v; reply = reply_index r })
sent_to i q (mark.Acted t (act.Put p v) (Int (pos (suc zero)))) = one_if (port_index p == i) (record { number = q.made + 1; value = v; reply = 0 })
sent_to i q (mark.Answered t (call.Reply m v) (Int (pos (suc zero)))) = sent_as_reply i v (q.kept (number m))
sent_to i q (mark.Answered t (call.PortDestroy p) (Int (pos (suc zero)))) =
    map (λ (m : Message). record m { reply = 0 }) (filter (λ (m : Message). m.reply == i) (messages_of (q.at (port_index p))))
sent_to i q m = []

-- port i is made, or destroyed
abbrev pub begins_anew : ℕ → Mail → Mark → Bool
begins_anew i q (mark.Answered t (call.PortCreate name) (Int p)) = (port_index p == i) && not (is_live q i)
begins_anew i q (mark.Answered t (call.PortDestroy p) (Int (pos (suc zero)))) = port_index p == i
begins_anew i q m = false

-- a message of port i is got
abbrev pub takes_of : ℕ → Mail → Mark → Bool
takes_of i q (mark.Answered t (call.PortGet p) (Msg id v)) = (port_index p == i) && nat_lt 0 (length (messages_of (q.at i)))
takes_of i q m = false

-- what went to a port
pub record Traffic : Type 0 where
  pub mail : Mail
  -- the messages that went to it since it was made, and how many of these were taken
  pub since : List Message
  pub taken : ℕ
  -- all that ever went to a port of this number
  pub ever : List Message

-- what a mark sends to port i
abbrev pub arrives_at : ℕ → Mail → Mark → List Message
arrives_at i q m = if is_live q i && not (begins_anew i q m) then sent_to i q m else []

abbrev pub traffic_after : ℕ → Traffic → Mark → Traffic
traffic_after i x m = record {
  mail = mail_after x.mail m;
  since = if begins_anew i x.mail m then [] else x.since ++ arrives_at i x.mail m;
  taken = if begins_anew i x.mail m then 0 else (if takes_of i x.mail m then x.taken + 1 else x.taken);
  ever = x.ever ++ arrives_at i x.mail m;
}

-- what went to port p by these marks
abbrev pub traffic : List Mark → ℤ → Traffic
traffic marks p = fold (traffic_after (port_index p)) (record { mail = no_mail; since = []; taken = 0; ever = [] }) marks

-- what is left of it: without as many as were taken
abbrev pub left : List Mark → ℤ → List Message
left marks p = drop (traffic marks p).taken (traffic marks p).since

-- wherever a mark stands in these marks, what is said of one in order is said of it, by what is left of what went to each port
abbrev pub InOrderAsSent : List Mark → Type 0
InOrderAsSent marks = (before later : List Mark) (m : Mark) → marks ≡ before ++ m ∷ later → IsInOrderAt (left before) m

-- ---- what it comes to

-- message n is got of port p
abbrev pub is_get_of : (p : ℤ) (n : ℕ) → Mark → Bool
is_get_of p n (mark.Answered t (call.PortGet k) (Msg id v)) = is_same p k && (id.0 == n)
is_get_of p n m = false

-- a message is got of a port at most once for each time that it went there
abbrev pub AreGotNoMoreThanSent : List Mark → Type 0
AreGotNoMoreThanSent marks = (p : ℤ) (n : ℕ) → count_by (is_get_of p n) marks ≤ count_by (λ (m : Message). m.number == n) (traffic marks p).ever
