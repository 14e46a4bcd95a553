-- The queue of a port as it is looked up, and what a change of it leaves.
use Rattle.std.proofs.Common.{◌≡◌, ◌≢◌, ℕ, zero, suc, ◌<◌, ◌==◌, Bool, true, false, List, [], length, Option, Some, None, IsSome, IfSome, if◌then◌else◌, option_map, refl, sym, ◌∙◌, ap, ap₂, subst, arith}
use Rattle.std.proofs.lemmas.Option.{same_Some}
use Rattle.pth_base.proofs.Tables.{same_fails, not_same}
use Rattle.pth_base.specs.declared.ids.PortId.{PortId}
use Rattle.pth_port.specs.Mail.{Mail, Message, messages_of}
use Rattle.pth_port.specs.Mail.{sent as sent_to}
use Rattle.pth_port.specs.Ports.{PortsOf, port_at, stored_at, with_entry, at_place, with_queue, with_last, linked, without_first, next_in, message, walk, messages_in, queue_in, taken_first, first_message, mail_of, names_of, without_held, first_held, IsLine, PortIsKept, PortsAreKept}
use Rattle.pth_port.specs.declared.entries.Port.{Port}
use Rattle.pth_port.specs.declared.stored_messages.StoredMessage.{StoredMessage}
use Rattle.pth_port.specs.declared.stored_messages.Place.TheVariants.{Held}
use Rattle.pth_port.specs.declared.stored_messages.Queue.{Queue}
use Rattle.pth_port.proofs.Changes.{mail_at}
use Rattle.pth_port.proofs.HeldMessages.{given}
use Rattle.pth_port.proofs.Queueing.{has_queue, queued_stored, sent_names, sent_kept, sent_mail, room, first_messages, taken_names, taken_mail, taken_kept, none_held_first}

-- ---- a message becomes the last of a port

pub record Sends (x y : PortsOf) (p n : ℕ) : Type 0 where
  pub kept : PortsAreKept y
  pub mail : (m : Message) → (mail_of x).kept n ≡ Some m → mail_of y ≡ sent_to p m (without_held n (mail_of x))
  pub names : names_of y ≡ names_of x

module _ (x : PortsOf) (kept : PortsAreKept x) (pid : PortId) (queue : Queue) (is : Some queue ≡ queue_in (port_at x pid.0)) (n : ℕ) where
  pub sends : (y : PortsOf) → IsSome ((mail_of x).kept n) → port_at y ≡ with_entry pid.0 (with_queue (with_last n queue)) (port_at x) → length y.ports ≡ length x.ports → y.made ≡ x.made → y.sent ≡ x.sent → stored_at y ≡ linked pid n queue (stored_at x) → length y.stored_messages ≡ length x.stored_messages → Sends x y pid.0 n
  sends y some ports long made sent stored_messages same =
      let h = has_queue (port_at x pid.0) queue is in
      let ports₁ = subst (λ (q : Queue). port_at y ≡ with_entry pid.0 (with_queue (with_last n q)) (port_at x)) (sym h.2) ports in
      let stored_messages₁ = subst (λ (q : Queue). stored_at y ≡ linked pid n q (stored_at x)) (sym h.2) stored_messages in
      record {
        kept = sent_kept x y kept pid h.0 h.1 n some ports₁ long made sent stored_messages₁ same;
        mail = sent_mail x y kept pid h.0 h.1 n some ports₁ long made sent stored_messages₁ same;
        names = sent_names x y kept pid h.0 h.1 n some ports₁ long made sent stored_messages₁ same;
      }

  pub has_room_for : queue.length < 4294967295
  has_room_for =
      let h = has_queue (port_at x pid.0) queue is in
      subst (λ (q : Queue). q.length < 4294967295) h.2 (room x kept pid.0 h.0 h.1)

-- ---- the first of a port is taken

test_taken : (q : Queue) (l m : StoredMessage) (n : ℕ) (b : Bool) → (q.length == 0) ≡ b → ◌≡◌ {A = Option (ℕ × StoredMessage)} (Some (n, l)) (if◌then◌else◌ {A = Option (ℕ × StoredMessage)} b None (Some (q.first, m))) → (m ≡ l) × (n ≡ q.first) × (q.length ≢ 0)
test_taken q l m n true empty is = absurd (cc is)
test_taken q l m n false some is =
    let pair = same_Some _ _ is in
    (sym (ap (λ (t : ℕ × StoredMessage). t.1) pair), ap (λ (t : ℕ × StoredMessage). t.0) pair, same_fails q.length 0 some)

of_taken : (q : Queue) (o : Option StoredMessage) (n : ℕ) (l : StoredMessage) → ◌≡◌ {A = Option (ℕ × StoredMessage)} (Some (n, l)) (taken_first q o) → (o ≡ Some l) × (n ≡ q.first) × (q.length ≢ 0)
of_taken q (Some m) n l is = let h = test_taken q l m n (q.length == 0) refl is in (ap Some h.0, h.1, h.2)
of_taken q None n l is = absurd (cc is)

pub record Takes (x y : PortsOf) (p n : ℕ) (l : StoredMessage) : Type 0 where
  pub kept : PortsAreKept y
  pub first : Some (message n l) ≡ first_message (messages_of ((mail_of x).at p))
  pub mail : mail_of y ≡ first_held p (messages_of ((mail_of x).at p)) (mail_of x)
  pub names : names_of y ≡ names_of x
  pub reply : IfSome l.reply (λ q. q.0 ≢ 0)
  pub fresh : (mail_of x).kept n ≡ None

module _ (x : PortsOf) (kept : PortsAreKept x) (p : ℕ) (queue : Queue) (is : Some queue ≡ queue_in (port_at x p)) where
  pub takes : (y : PortsOf) (n : ℕ) (l : StoredMessage) (next : ℕ) (rest : Queue) → ◌≡◌ {A = Option (ℕ × StoredMessage)} (Some (n, l)) (taken_first queue (stored_at x queue.first)) → next ≡ next_in l.place → rest ≡ without_first next queue → port_at y ≡ with_entry p (with_queue rest) (port_at x) → length y.ports ≡ length x.ports → y.made ≡ x.made → y.sent ≡ x.sent → stored_at y ≡ with_entry n (at_place Held) (stored_at x) → length y.stored_messages ≡ length x.stored_messages → Takes x y p n l
  takes y n l next rest taken next_is rest_is ports long made sent stored_messages same =
      let h = has_queue (port_at x p) queue is in
      let t = of_taken queue (stored_at x queue.first) n l taken in
      let some : h.0.queue.length ≢ 0 = subst (λ (q : Queue). q.length ≢ 0) (sym h.2) t.2 in
      let first : n ≡ h.0.queue.first = t.1 ∙ ap (λ (q : Queue). q.first) (sym h.2) in
      let there : stored_at x h.0.queue.first ≡ Some l = subst (λ (q : Queue). stored_at x q.first ≡ Some l) (sym h.2) t.0 in
      let shorter : rest ≡ without_first (next_in l.place) h.0.queue = rest_is ∙ ap₂ (λ (i : ℕ) (q : Queue). without_first i q) next_is (sym h.2) in
      let ports₁ = subst (λ (q : Queue). port_at y ≡ with_entry p (with_queue q) (port_at x)) shorter ports in
      let stored_messages₁ = subst (λ (i : ℕ). stored_at y ≡ with_entry i (at_place Held) (stored_at x)) first stored_messages in
      record {
        kept = taken_kept x y kept p h.0 h.1 some l there ports₁ long made sent stored_messages₁ same;
        first = ap (λ (i : ℕ). Some (message i l)) first ∙ sym (ap first_message (first_messages x y kept p h.0 h.1 some l there ports₁ long made sent stored_messages₁ same));
        mail = taken_mail x y kept p h.0 h.1 some l there ports₁ long made sent stored_messages₁ same;
        names = taken_names x y kept p h.0 h.1 some l there ports₁ long made sent stored_messages₁ same;
        reply = (given x kept h.0.queue.first l there).2;
        fresh = ap (mail_of x).kept first ∙ none_held_first x y kept p h.0 h.1 some l there ports₁ long made sent stored_messages₁ same;
      }

  -- the queue is empty where it has no first
  has_first : (k : ℕ) → queue.length ≡ k → IsLine (stored_at x) p queue.last k queue.first → None ≡ taken_first queue (stored_at x queue.first) → k ≡ 0
  has_first zero long line none = refl
  has_first (suc k) long line none =
      let l = queued_stored p (stored_at x queue.first) line.0 in
      let some : (queue.length == 0) ≡ false = not_same queue.length 0 (omega (arith, long)) in
      let there : ◌≡◌ {A = Option (ℕ × StoredMessage)} (taken_first queue (stored_at x queue.first)) (Some (queue.first, l.0)) = ap (taken_first queue) l.1 ∙ ap (λ (b : Bool). if◌then◌else◌ {A = Option (ℕ × StoredMessage)} b None (Some (queue.first, l.0))) some in
      let no : ◌≡◌ {A = Option (ℕ × StoredMessage)} None (Some (queue.first, l.0)) = none ∙ there in
      absurd (cc no)

  pub none_queued : None ≡ taken_first queue (stored_at x queue.first) → messages_of ((mail_of x).at p) ≡ []
  none_queued none =
      let h = has_queue (port_at x p) queue is in
      let line : PortIsKept (stored_at x) x.made p (Some h.0) = subst (PortIsKept (stored_at x) x.made p) h.1 (kept.ports p) in
      let here : IsLine (stored_at x) p queue.last queue.length queue.first = subst (λ (q : Queue). IsLine (stored_at x) p q.last q.length q.first) h.2 line.2 in
      let empty = has_first queue.length refl here none in
      ap messages_of (mail_at x p ∙ ap (option_map (messages_in (stored_at x))) h.1)
      ∙ ap (λ (q : Queue). walk (stored_at x) q.length q.first) h.2
      ∙ ap (λ (k : ℕ). walk (stored_at x) k queue.first) empty

-- ---- there is no such port

pub no_port : (x : PortsOf) (p : ℕ) → None ≡ queue_in (port_at x p) → (mail_of x).at p ≡ None
no_port x p none = mail_at x p ∙ of_port (port_at x p) none
  where
    of_port : (o : Option Port) → None ≡ queue_in o → option_map (messages_in (stored_at x)) o ≡ None
    of_port (Some port) none = absurd (cc none)
    of_port None none = refl

-- nothing changes
pub none_first : (q : Mail) (p : ℕ) (ms : List Message) → ms ≡ [] → q ≡ first_held p ms q
none_first q p ms none = sym (ap (λ (ms : List Message). first_held p ms q) none)

-- a message ceases where its port is gone
pub none_sent : (q : Mail) (p : ℕ) (m : Message) → q.at p ≡ None → q ≡ sent_to p m q
none_sent q p m none = rw none refl
