-- A message goes last to a port, or the first of a port is taken.
use Rattle.std.proofs.Common.{◌≡◌, ◌≢◌, ℕ, zero, suc, ◌+◌, ◌-◌, ◌<◌, ◌≤◌, ◌==◌, Bool, true, false, List, [], ◌∷◌, ◌++◌, length, Option, Some, None, IsSome, is_some, if◌then◌else◌, option_map, refl, sym, ◌∙◌, ap, ap₂, subst, arith, add-one, inl, inr}
use Rattle.std.proofs.lemmas.Bool.{cases_eq}
use Rattle.std.proofs.lemmas.Option.{same_Some}
use mathlib.Core.Path.{fun_ext}
use Rattle.pth_base.specs.Table.{put}
use Rattle.pth_base.proofs.Tables.{put_is, put_by, put_here, put_other, not_same}
use Rattle.pth_base.proofs.Lists.{put_none}
use Rattle.pth_base.specs.declared.ids.PortId.{PortId}
use Rattle.pth_numbered.specs.Numbered.{number_known}
use Rattle.pth_port.specs.Mail.{Message, messages_of, queued, is_live}
use Rattle.pth_port.specs.Mail.{sent as sent_to}
use Rattle.pth_port.specs.Ports.{PortsOf, port_at, stored_at, with_entry, at_place, with_queue, with_last, linked, without_first, next_of, next_in, message, message_of, is_held, walk, messages_in, held_of, queue_in, name_in, mail_of, names_of, without_held, first_held, without_port, IsQueuedIn, IsQueued, IsLine, IsQueue, NamesDiffer, PortIsKept, StoredMessageIsKept, PortsAreKept}
use Rattle.pth_port.specs.declared.entries.Port.{Port}
use Rattle.pth_port.specs.declared.stored_messages.StoredMessage.{StoredMessage}
use Rattle.pth_port.specs.declared.stored_messages.Place.{Place}
use Rattle.pth_port.specs.declared.stored_messages.Place.TheVariants.{Queued, Held}
use Rattle.pth_port.specs.declared.stored_messages.Queue.{Queue}
use Rattle.pth_port.proofs.Lines.{StoredMessages, line_more, walk_more, line_less, walk_less}
use Rattle.pth_port.proofs.Counts.{one, number_put, queued_put}
use Rattle.pth_port.proofs.Changes.{mail_is, mail_made, mail_at, mail_kept, messages_are, stored_messages_put, at_put, ports_put, names_put, names_is, names_made}
use Rattle.pth_port.proofs.HeldMessages.{stored_of_held, held_is, held_free, given}

-- ---- what a queue has

pub has_queue : (o : Option Port) (queue : Queue) → Some queue ≡ queue_in o → (port : Port) × (o ≡ Some port) × (port.queue ≡ queue)
has_queue (Some port) queue is = (port, refl, cc is)
has_queue None queue is = absurd (cc is)

pub length_walk : (f : StoredMessages) (k n : ℕ) → length (walk f k n) ≡ k
length_walk f zero n = refl
length_walk f (suc k) n = ap suc (length_walk f k (next_of (f n)))

pub queued_stored : (p : ℕ) (o : Option StoredMessage) → IsQueued p o → (l : StoredMessage) × (o ≡ Some l)
queued_stored p (Some l) queued = (l, refl)
queued_stored p None queued = absurd queued

queued_in_once : (i p : ℕ) (place : Place) → IsQueuedIn i place → IsQueuedIn p place → i ≡ p
queued_in_once i p (Queued q n) one other = sym one ∙ other
queued_in_once i p Held one other = absurd one

queued_once : (i p : ℕ) (o : Option StoredMessage) → IsQueued i o → IsQueued p o → i ≡ p
queued_once i p (Some l) one other = queued_in_once i p l.place one other
queued_once i p None one other = absurd one

not_held_in : (p n : ℕ) (l : StoredMessage) (place : Place) → IsQueuedIn p place → (if is_held place then Some (message n l) else None) ≡ None
not_held_in p n l (Queued q m) queued = refl
not_held_in p n l Held queued = absurd queued

not_held : (p n : ℕ) (o : Option StoredMessage) → IsQueued p o → held_of n o ≡ None
not_held p n (Some l) queued = not_held_in p n l l.place queued
not_held p n None queued = absurd queued

last_queued : (f : StoredMessages) (p last k n : ℕ) → IsLine f p last (suc k) n → IsQueued p (f last)
last_queued f p last zero n line = subst (λ (i : ℕ). IsQueued p (f i)) line.2 line.0
last_queued f p last (suc k) n line = last_queued f p last k (next_of (f n)) line.3

-- ---- the stored messages, as a message becomes the last

pub record Links (f g : StoredMessages) (p n : ℕ) (l : StoredMessage) (q r : Queue) : Type 0 where
  pub line : IsQueue g p r
  pub walks : walk g r.length r.first ≡ walk f q.length q.first ++ (message n l ∷ [])
  pub stays : (i : ℕ) → i ≢ p → (j : ℕ) → IsQueued i (f j) → g j ≡ f j
  pub held : (j : ℕ) → held_of j (g j) ≡ put (λ i. held_of i (f i)) n None j
  pub sound : (sent : ℕ) → ((j : ℕ) → StoredMessageIsKept sent j (f j)) → (j : ℕ) → StoredMessageIsKept sent j (g j)

same_kept : (sent n : ℕ) (place : Place) (l : StoredMessage) → StoredMessageIsKept sent n (Some l) → StoredMessageIsKept sent n (Some (at_place place l))
same_kept sent n place l kept = kept

module _ (f : StoredMessages) (pid : PortId) (n : ℕ) (l : StoredMessage) (is : f n ≡ Some l) (held : l.place ≡ Held) (q : Queue) where
  abbrev p : ℕ
  p = pid.0

  abbrev placed : Option StoredMessage
  placed = Some (at_place (Queued pid 0) l)

  free : (i : ℕ) → IsQueued i (f n) → ⊥
  free i = held_free i l (f n) is held

  -- what stood last points at it from now on, if anything stood there
  module _ (f₁ : StoredMessages) (at : f₁ n ≡ Some l) (others : (j : ℕ) → (IsQueued p (f j) → ⊥) → f₁ j ≡ f j) (still : (j : ℕ) → held_of j (f₁ j) ≡ held_of j (f j)) (sound₁ : (sent : ℕ) → ((j : ℕ) → StoredMessageIsKept sent j (f j)) → (j : ℕ) → StoredMessageIsKept sent j (f₁ j)) where
    abbrev g : StoredMessages
    g = with_entry n (at_place (Queued pid 0)) f₁

    g_is : g ≡ put f₁ n placed
    g_is = ap (λ (o : Option StoredMessage). put f₁ n (option_map (at_place (Queued pid 0)) o)) at

    g_here : g n ≡ placed
    g_here = ap (λ (h : StoredMessages). h n) g_is ∙ put_here f₁ n placed

    g_other : (j : ℕ) → j ≢ n → g j ≡ f₁ j
    g_other j apart = put_other f₁ n (option_map (at_place (Queued pid 0)) (f₁ n)) j apart

    not_new : (i j : ℕ) → IsQueued i (f j) → j ≢ n
    not_new i j queued same = free i (subst (λ (k : ℕ). IsQueued i (f k)) same queued)

    link_stays : (i : ℕ) → i ≢ p → (j : ℕ) → IsQueued i (f j) → g j ≡ f j
    link_stays i apart j queued = g_other j (not_new i j queued) ∙ others j (λ here. apart (queued_once i p (f j) queued here))

    link_held : (j : ℕ) → held_of j (g j) ≡ put (λ i. held_of i (f i)) n None j
    link_held j = let P : Option Message → Type 0 = λ o. held_of j (g j) ≡ o in
        put_by P (λ i. held_of i (f i)) n None j (λ same. ap (held_of j) (ap g same ∙ g_here)) (λ apart. ap (held_of j) (g_other j apart) ∙ still j)

    link_sound : (sent : ℕ) → ((j : ℕ) → StoredMessageIsKept sent j (f j)) → (j : ℕ) → StoredMessageIsKept sent j (g j)
    link_sound sent all j = subst (λ (h : StoredMessages). StoredMessageIsKept sent j (h j)) (sym g_is)
        (stored_messages_put f₁ sent sent n placed (omega arith) (same_kept sent n (Queued pid 0) l (subst (StoredMessageIsKept sent n) is (all n))) (sound₁ sent all) j)

  -- nothing stood there
  links_empty : q.length ≡ 0 → Links f (with_entry n (at_place (Queued pid 0)) f) p n l q (record { first = n; last = n; length = 1 })
  links_empty none =
      let here = g_here f is (λ j h. refl) (λ j. refl) (λ sent all. all) in
      record {
        line = (subst (IsQueued p) (sym here) refl, tt, refl, tt);
        walks = ap (λ (o : Option StoredMessage). message_of n o ∷ []) here ∙ ap (λ (k : ℕ). walk f k q.first ++ (message n l ∷ [])) (sym none);
        stays = link_stays f is (λ j h. refl) (λ j. refl) (λ sent all. all);
        held = link_held f is (λ j h. refl) (λ j. refl) (λ sent all. all);
        sound = link_sound f is (λ j h. refl) (λ j. refl) (λ sent all. all);
      }

  module _ (k : ℕ) (line : IsLine f p q.last (suc k) q.first) where
    tail : (l : StoredMessage) × (f q.last ≡ Some l)
    tail = queued_stored p (f q.last) (last_queued f p q.last k q.first line)

    abbrev front : StoredMessages
    front = with_entry q.last (at_place (Queued pid n)) f

    abbrev pointed : StoredMessage
    pointed = at_place (Queued pid n) tail.0

    front_is : front ≡ put f q.last (Some pointed)
    front_is = ap (λ (o : Option StoredMessage). put f q.last (option_map (at_place (Queued pid n)) o)) tail.1

    front_here : front q.last ≡ Some pointed
    front_here = ap (λ (h : StoredMessages). h q.last) front_is ∙ put_here f q.last (Some pointed)

    front_other : (j : ℕ) → j ≢ q.last → front j ≡ f j
    front_other j apart = put_other f q.last (option_map (at_place (Queued pid n)) (f q.last)) j apart

    last_apart : n ≢ q.last
    last_apart same = free p (subst (λ (i : ℕ). IsQueued p (f i)) (sym same) (last_queued f p q.last k q.first line))

    front_unqueued : (j : ℕ) → (IsQueued p (f j) → ⊥) → front j ≡ f j
    front_unqueued j none = front_other j (λ same. none (subst (λ (i : ℕ). IsQueued p (f i)) (sym same) (last_queued f p q.last k q.first line)))

    front_held : (j : ℕ) → held_of j (front j) ≡ held_of j (f j)
    front_held j = elim (cases_eq j q.last) [
      | inl same ↦ ap (held_of j) (ap front same ∙ front_here) ∙ sym (not_held p j (f j) (subst (λ (i : ℕ). IsQueued p (f i)) (sym same) (last_queued f p q.last k q.first line)))
      | inr apart ↦ ap (held_of j) (front_other j apart)
    ]

    front_sound : (sent : ℕ) → ((j : ℕ) → StoredMessageIsKept sent j (f j)) → (j : ℕ) → StoredMessageIsKept sent j (front j)
    front_sound sent all j = subst (λ (h : StoredMessages). StoredMessageIsKept sent j (h j)) (sym front_is)
        (stored_messages_put f sent sent q.last (Some pointed) (omega arith) (same_kept sent q.last (Queued pid n) tail.0 (subst (StoredMessageIsKept sent q.last) tail.1 (all q.last))) all j)

    front_new : front n ≡ Some l
    front_new = front_other n last_apart ∙ is

    links_more : q.length ≡ suc k → Links f (with_entry n (at_place (Queued pid 0)) front) p n l q (record { first = q.first; last = n; length = suc (suc k) })
    links_more long =
        let g : StoredMessages = with_entry n (at_place (Queued pid 0)) front in
        let here : g n ≡ placed = g_here front front_new front_unqueued front_held front_sound in
        let other : (j : ℕ) → j ≢ n → g j ≡ front j = g_other front front_new front_unqueued front_held front_sound in
        let there : g q.last ≡ Some pointed = other q.last (λ same. last_apart (sym same)) ∙ front_here in
        let others : (j : ℕ) → IsQueued p (f j) → j ≢ q.last → g j ≡ f j = λ j queued apart. other j (λ same. free p (subst (λ (i : ℕ). IsQueued p (f i)) same queued)) ∙ front_other j apart in
        let is_here : IsQueued p (g n) = subst (IsQueued p) (sym here) refl in
        let is_there : IsQueued p (g q.last) = subst (IsQueued p) (sym there) refl in
        let same : message_of q.last (g q.last) ≡ message_of q.last (f q.last) = ap (message_of q.last) there ∙ sym (ap (message_of q.last) tail.1) in
        let next : next_of (g q.last) ≡ n = ap next_of there in
        record {
          line = line_more f g p q.last n others (free p) is_here is_there same next k q.first line;
          walks = walk_more f g p q.last n others (free p) is_here is_there same next k q.first line
              ∙ ap₂ (λ (m : ℕ) (o : Option StoredMessage). walk f m q.first ++ (message_of n o ∷ [])) (sym long) here;
          stays = link_stays front front_new front_unqueued front_held front_sound;
          held = link_held front front_new front_unqueued front_held front_sound;
          sound = link_sound front front_new front_unqueued front_held front_sound;
        }

  -- the two, by how many messages are queued
  front_of : ℕ → StoredMessages
  front_of m = if m == 0 then f else with_entry q.last (at_place (Queued pid n)) f

  queue_of : ℕ → Queue
  queue_of m = record { first = if m == 0 then n else q.first; last = n; length = m + 1 }

  by_length : (k : ℕ) (h : StoredMessages) (r : Queue) → q.length ≡ k → front_of k ≡ h → queue_of k ≡ r → Links f (with_entry n (at_place (Queued pid 0)) h) p n l q r → Links f (linked pid n q f) p n l q (with_last n q)
  unfolding front_of queue_of
  by_length k h r long front back done =
      subst (λ (s : Queue). Links f (linked pid n q f) p n l q s) (sym (ap queue_of long ∙ back))
      (subst (λ (h₁ : StoredMessages). Links f (with_entry n (at_place (Queued pid 0)) h₁) p n l q r) (sym (ap front_of long ∙ front)) done)

  links : (k : ℕ) → q.length ≡ k → IsQueue f p q → Links f (linked pid n q f) p n l q (with_last n q)
  unfolding front_of queue_of
  links zero none line = by_length zero f _ none refl refl (links_empty none)
  links (suc k) long line =
      let line₁ : IsLine f p q.last (suc k) q.first = subst (λ (m : ℕ). IsLine f p q.last m q.first) long line in
      let some : (suc k == 0) ≡ false = not_same (suc k) 0 (omega arith) in
      by_length (suc k) (front k line₁) (record { first = q.first; last = n; length = suc (suc k) }) long
      (ap (λ (b : Bool). if b then f else front k line₁) some)
      (ap₂ (λ (b : Bool) (m : ℕ). record { first = if b then n else q.first; last = n; length = m }) some (add-one (suc k)))
      (links_more k line₁ long)

  pub linked_is : IsQueue f p q → Links f (linked pid n q f) p n l q (with_last n q)
  linked_is line = links q.length refl line

-- ---- one port has another queue

module _ (x y : PortsOf) (kept : PortsAreKept x) (p : ℕ) (port : Port) (was : port_at x p ≡ Some port) (queue : Queue) (ports : port_at y ≡ put (port_at x) p (Some (with_queue queue port))) (long : length y.ports ≡ length x.ports) (made : y.made ≡ x.made) (sent : y.sent ≡ x.sent) (stays : (i : ℕ) → i ≢ p → (j : ℕ) → IsQueued i (stored_at x j) → stored_at y j ≡ stored_at x j) where
  pub port_given : (0 < p) × (p ≤ x.made) × IsQueue (stored_at x) p port.queue
  port_given = subst (PortIsKept (stored_at x) x.made p) was (kept.ports p)

  pub stood : (mail_of x).at p ≡ Some (walk (stored_at x) port.queue.length port.queue.first)
  stood = mail_at x p ∙ ap (option_map (messages_in (stored_at x))) was

  pub step_at : (mail_of y).at ≡ put (mail_of x).at p (Some (walk (stored_at y) queue.length queue.first))
  step_at = at_put x y kept p (Some (with_queue queue port)) ports stays

  name_same : (names_of x).names p ≡ port.name
  unfolding names_of
  name_same = ap name_in was

  pub step_names : names_of y ≡ names_of x
  step_names = names_is (names_of y) (names_of x) (names_made y ∙ made ∙ sym (names_made x))
      (names_put x y kept p (Some (with_queue queue port)) ports stays ∙ put_none (names_of x).names p port.name name_same)

  pub step_kept : IsQueue (stored_at y) p queue → ((n : ℕ) → StoredMessageIsKept y.sent n (stored_at y n)) → number_known (mail_of y).kept x.sent + queue.length ≡ number_known (mail_of x).kept x.sent + port.queue.length → length y.stored_messages ≡ length x.stored_messages → PortsAreKept y
  step_kept line stored_messages count same = record {
    ports = ports_put x y kept p (Some (with_queue queue port)) ports stays (omega (arith, made)) (port_given.0, subst (λ (m : ℕ). p ≤ m) (sym made) port_given.1, line);
    stored_messages = stored_messages;
    numbers = rw made kept.numbers;
    port_count =
        let one_more = number_put (port_at x) p (Some (with_queue queue port)) x.made port_given.0 port_given.1 in
        let had : one (port_at x p) ≡ 1 = ap one was in
        ap₂ (λ (f : ℕ → Option Port) (m : ℕ). number_known f m) ports made ∙ omega (arith, one_more, had, kept.port_count, long);
    stored_count =
        let before = sym (messages_are (mail_of x) x.made x.sent (mail_made x)) ∙ kept.stored_count in
        let moved = queued_put (mail_of x) (mail_of y) p (Some (walk (stored_at y) queue.length queue.first)) x.made step_at port_given.0 port_given.1 in
        let had = ap (λ (o : Option (List Message)). length (messages_of o)) stood ∙ length_walk (stored_at x) port.queue.length port.queue.first in
        let has = length_walk (stored_at y) queue.length queue.first in
        messages_are (mail_of y) y.made x.sent (mail_made y ∙ sent) ∙ ap (λ (m : ℕ). queued (mail_of y) m + number_known (mail_of y).kept x.sent) made ∙ omega (arith, before, moved, had, has, count, same);
    few_ports = omega (arith, long, kept.few_ports);
    few_stored_messages = omega (arith, same, kept.few_stored_messages);
    names = subst NamesDiffer (sym step_names) kept.names;
  }

-- ---- a held message goes last to a port

module _ (x y : PortsOf) (kept : PortsAreKept x) (pid : PortId) (port : Port) (was : port_at x pid.0 ≡ Some port) (n : ℕ) (some : IsSome ((mail_of x).kept n)) (ports : port_at y ≡ with_entry pid.0 (with_queue (with_last n port.queue)) (port_at x)) (long : length y.ports ≡ length x.ports) (made : y.made ≡ x.made) (sent : y.sent ≡ x.sent) (stored_messages : stored_at y ≡ linked pid n port.queue (stored_at x)) (same : length y.stored_messages ≡ length x.stored_messages) where
  abbrev stored : StoredMessage
  stored = (stored_of_held x kept n some).0

  kept_here : PortIsKept (stored_at x) x.made pid.0 (Some port)
  kept_here = subst (PortIsKept (stored_at x) x.made pid.0) was (kept.ports pid.0)

  link : Links (stored_at x) (stored_at y) pid.0 n stored port.queue (with_last n port.queue)
  link =
      let h = stored_of_held x kept n some in
      subst (λ (g : StoredMessages). Links (stored_at x) g pid.0 n stored port.queue (with_last n port.queue)) (sym stored_messages) (linked_is (stored_at x) pid n stored h.1 h.2 port.queue kept_here.2)

  sent_ports : port_at y ≡ put (port_at x) pid.0 (Some (with_queue (with_last n port.queue) port))
  sent_ports = ports ∙ ap (λ (o : Option Port). put (port_at x) pid.0 (option_map (with_queue (with_last n port.queue)) o)) was

  sent_held : (mail_of y).kept ≡ put (mail_of x).kept n None
  unfolding mail_of
  sent_held = fun_ext link.held

  had_held : (mail_of x).kept n ≡ Some (message n stored)
  had_held = let h = stored_of_held x kept n some in mail_kept x n ∙ ap (held_of n) h.1 ∙ held_is n stored h.2

  had_messages : (mail_of x).at pid.0 ≡ Some (walk (stored_at x) port.queue.length port.queue.first)
  had_messages = mail_at x pid.0 ∙ ap (option_map (messages_in (stored_at x))) was

  pub sent_names : names_of y ≡ names_of x
  sent_names = step_names x y kept pid.0 port was (with_last n port.queue) sent_ports long made sent link.stays

  pub sent_kept : PortsAreKept y
  sent_kept =
      let h = stored_of_held x kept n some in
      let number = given x kept n stored h.1 in
      let had : one ((mail_of x).kept n) ≡ 1 = ap one had_held in
      let less = number_put (mail_of x).kept n None x.sent number.0 number.1 in
      step_kept x y kept pid.0 port was (with_last n port.queue) sent_ports long made sent link.stays link.line
      (λ j. subst (λ (m : ℕ). StoredMessageIsKept m j (stored_at y j)) (sym sent) (link.sound x.sent kept.stored_messages j))
      (ap (λ (f : ℕ → Option Message). number_known f x.sent + (port.queue.length + 1)) sent_held ∙ omega (arith, had, less))
      same

  is_live_here : is_live (mail_of x) pid.0 ≡ true
  is_live_here = ap is_some had_messages

  pub sent_mail : (m : Message) → (mail_of x).kept n ≡ Some m → mail_of y ≡ sent_to pid.0 m (without_held n (mail_of x))
  sent_mail m held =
      let is : message n stored ≡ m = same_Some _ _ (sym had_held ∙ held) in
      let last : walk (stored_at y) (with_last n port.queue).length (with_last n port.queue).first ≡ messages_of ((mail_of x).at pid.0) ++ (m ∷ []) =
      link.walks ∙ ap₂ (λ (o : Option (List Message)) (k : Message). messages_of o ++ (k ∷ [])) (sym had_messages) is in
      mail_is (mail_of y) (sent_to pid.0 m (without_held n (mail_of x)))
      (step_at x y kept pid.0 port was (with_last n port.queue) sent_ports long made sent link.stays ∙ ap (λ (ms : List Message). put (mail_of x).at pid.0 (Some ms)) last
      ∙ sym (ap (λ (b : Bool). if b then put (mail_of x).at pid.0 (Some (messages_of ((mail_of x).at pid.0) ++ (m ∷ []))) else (mail_of x).at) is_live_here))
      sent_held
      (mail_made y ∙ sent ∙ sym (mail_made x))

-- the queue has room
pub room : (x : PortsOf) (kept : PortsAreKept x) (p : ℕ) (port : Port) → port_at x p ≡ Some port → port.queue.length < 4294967295
room x kept p port was =
    let here : PortIsKept (stored_at x) x.made p (Some port) = subst (PortIsKept (stored_at x) x.made p) was (kept.ports p) in
    let all = sym (messages_are (mail_of x) x.made x.sent (mail_made x)) ∙ kept.stored_count in
    let others = queued_put (mail_of x) (without_port p (mail_of x)) p None x.made refl here.0 here.1 in
    let long = ap (λ (o : Option (List Message)). length (messages_of o)) (mail_at x p ∙ ap (option_map (messages_in (stored_at x))) was) ∙ length_walk (stored_at x) port.queue.length port.queue.first in
    omega (arith, all, others, long, kept.few_stored_messages)

-- ---- the first of a port is held

module _ (x y : PortsOf) (kept : PortsAreKept x) (p : ℕ) (port : Port) (was : port_at x p ≡ Some port) (some : port.queue.length ≢ 0) (stored : StoredMessage) (is : stored_at x port.queue.first ≡ Some stored) (ports : port_at y ≡ with_entry p (with_queue (without_first (next_in stored.place) port.queue)) (port_at x)) (long : length y.ports ≡ length x.ports) (made : y.made ≡ x.made) (sent : y.sent ≡ x.sent) (stored_messages : stored_at y ≡ with_entry port.queue.first (at_place Held) (stored_at x)) (same : length y.stored_messages ≡ length x.stored_messages) where
  abbrev rest : ℕ
  rest = port.queue.length - 1

  abbrev n : ℕ
  n = port.queue.first

  abbrev queue : Queue
  queue = without_first (next_in stored.place) port.queue

  first_given : PortIsKept (stored_at x) x.made p (Some port)
  first_given = subst (PortIsKept (stored_at x) x.made p) was (kept.ports p)

  long_is : port.queue.length ≡ suc rest
  long_is = omega arith

  first_line : IsLine (stored_at x) p port.queue.last (suc rest) n
  first_line = subst (λ (k : ℕ). IsLine (stored_at x) p port.queue.last k n) long_is first_given.2

  taken_stored_messages : stored_at y ≡ put (stored_at x) n (Some (at_place Held stored))
  taken_stored_messages = stored_messages ∙ ap (λ (o : Option StoredMessage). put (stored_at x) n (option_map (at_place Held) o)) is

  taken_here : stored_at y n ≡ Some (at_place Held stored)
  taken_here = ap (λ (f : StoredMessages). f n) taken_stored_messages ∙ put_here (stored_at x) n _

  taken_other : (j : ℕ) → j ≢ n → stored_at y j ≡ stored_at x j
  taken_other j apart = ap (λ (f : StoredMessages). f j) taken_stored_messages ∙ put_other (stored_at x) n _ j apart

  taken_stays : (i : ℕ) → i ≢ p → (j : ℕ) → IsQueued i (stored_at x j) → stored_at y j ≡ stored_at x j
  taken_stays i apart j queued = taken_other j (λ at. apart (queued_once i p (stored_at x n) (subst (λ (k : ℕ). IsQueued i (stored_at x k)) at queued) first_line.0))

  taken_ports : port_at y ≡ put (port_at x) p (Some (with_queue queue port))
  taken_ports = ports ∙ ap (λ (o : Option Port). put (port_at x) p (option_map (with_queue queue) o)) was

  next_is : next_of (stored_at x n) ≡ next_in stored.place
  next_is = ap next_of is

  taken_line : IsQueue (stored_at y) p queue
  taken_line = subst (IsLine (stored_at y) p port.queue.last rest) next_is (line_less (stored_at x) (stored_at y) p port.queue.last rest n first_line taken_other)

  taken_walk : walk (stored_at y) rest (next_in stored.place) ≡ walk (stored_at x) rest (next_in stored.place)
  taken_walk = subst (λ (k : ℕ). walk (stored_at y) rest k ≡ walk (stored_at x) rest k) next_is (walk_less (stored_at x) (stored_at y) p port.queue.last rest n first_line taken_other)

  pub first_messages : messages_of ((mail_of x).at p) ≡ message n stored ∷ walk (stored_at x) rest (next_in stored.place)
  first_messages =
      ap messages_of (mail_at x p ∙ ap (option_map (messages_in (stored_at x))) was)
      ∙ ap (λ (k : ℕ). walk (stored_at x) k n) long_is
      ∙ ap (λ (o : Option StoredMessage). message_of n o ∷ walk (stored_at x) rest (next_of o)) is

  taken_held : (mail_of y).kept ≡ put (mail_of x).kept n (Some (message n stored))
  unfolding mail_of
  taken_held = put_is _ _ n (Some (message n stored)) (ap (held_of n) taken_here) (λ j apart. ap (held_of j) (taken_other j apart))

  pub taken_names : names_of y ≡ names_of x
  taken_names = step_names x y kept p port was queue taken_ports long made sent taken_stays

  pub taken_mail : mail_of y ≡ first_held p (messages_of ((mail_of x).at p)) (mail_of x)
  taken_mail =
      mail_is (mail_of y) (first_held p (message n stored ∷ walk (stored_at x) rest (next_in stored.place)) (mail_of x))
      (step_at x y kept p port was queue taken_ports long made sent taken_stays ∙ ap (λ (ms : List Message). put (mail_of x).at p (Some ms)) taken_walk)
      taken_held
      (mail_made y ∙ sent ∙ sym (mail_made x))
      ∙ ap (λ (ms : List Message). first_held p ms (mail_of x)) (sym first_messages)

  pub none_held_first : (mail_of x).kept n ≡ None
  none_held_first = mail_kept x n ∙ not_held p n (stored_at x n) first_line.0

  pub taken_kept : PortsAreKept y
  taken_kept =
      let number = given x kept n stored is in
      let had : one ((mail_of x).kept n) ≡ 0 = ap one none_held_first in
      let more = number_put (mail_of x).kept n (Some (message n stored)) x.sent number.0 number.1 in
      step_kept x y kept p port was queue taken_ports long made sent taken_stays taken_line
      (λ j. subst (λ (m : ℕ). StoredMessageIsKept m j (stored_at y j)) (sym sent) (subst (λ (f : StoredMessages). StoredMessageIsKept x.sent j (f j)) (sym taken_stored_messages)
      (stored_messages_put (stored_at x) x.sent x.sent n (Some (at_place Held stored)) (omega arith) (same_kept x.sent n Held stored (subst (StoredMessageIsKept x.sent n) is (kept.stored_messages n))) kept.stored_messages j)))
      (ap (λ (f : ℕ → Option Message). number_known f x.sent + rest) taken_held ∙ omega (arith, had, more, long_is))
      same
