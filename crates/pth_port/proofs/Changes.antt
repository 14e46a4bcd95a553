-- The mail, the names and what is kept, after a change of an entry.
use Rattle.std.proofs.Common.{◌≡◌, ◌≢◌, ℕ, ◌+◌, ◌≤◌, List, length, Option, Some, None, option_map, refl, sym, ◌∙◌, ap, ap₂, subst, arith}
use mathlib.Core.Path.{fun_ext}
use Rattle.pth_base.specs.Table.{put}
use Rattle.pth_base.proofs.Tables.{put_is, put_by, put_here, put_other}
use Rattle.pth_numbered.specs.Numbered.{number_known}
use Rattle.pth_port.specs.Mail.{Mail, Message, PortNames, message_limit, queued, messages}
use Rattle.pth_port.specs.Ports.{PortsOf, entry_at, port_at, stored_at, messages_in, held_of, name_in, mail_of, names_of, IsQueued, NamesDiffer, PortIsKept, StoredMessageIsKept, PortsAreKept}
use Rattle.pth_port.specs.declared.entries.Port.{Port}
use Rattle.pth_port.specs.declared.stored_messages.StoredMessage.{StoredMessage}
use Rattle.pth_port.proofs.Lines.{StoredMessages, messages_same, port_same}
use Rattle.pth_port.proofs.Counts.{queued_same}

pub mail_is : (q r : Mail) → q.at ≡ r.at → q.kept ≡ r.kept → q.made ≡ r.made → q ≡ r
mail_is q r at kept made =
    ap (λ (f : ℕ → Option (List Message)). record q { at = f }) at
    ∙ ap (λ (f : ℕ → Option Message). record { at = r.at; kept = f; made = q.made }) kept
    ∙ ap (λ (n : ℕ). record r { made = n }) made

pub names_is : (x y : PortNames) → x.made ≡ y.made → x.names ≡ y.names → x ≡ y
names_is x y made names = ap (λ (n : ℕ). record x { made = n }) made ∙ ap (λ (f : ℕ → Option (List ℕ)). record y { names = f }) names

pub names_made : (x : PortsOf) → (names_of x).made ≡ x.made
unfolding names_of
names_made x = refl

pub mail_made : (x : PortsOf) → (mail_of x).made ≡ x.sent
unfolding mail_of
mail_made x = refl

pub mail_at : (x : PortsOf) (p : ℕ) → (mail_of x).at p ≡ option_map (messages_in (stored_at x)) (port_at x p)
unfolding mail_of
mail_at x p = refl

pub mail_kept : (x : PortsOf) (n : ℕ) → (mail_of x).kept n ≡ held_of n (stored_at x n)
unfolding mail_of
mail_kept x n = refl

-- how many messages there are, where so many were put
pub messages_are : (q : Mail) (n sent : ℕ) → q.made ≡ sent → messages q n ≡ queued q n + number_known q.kept sent
messages_are q n sent is = ap (λ (k : ℕ). queued q n + number_known q.kept k) is

stored_more : (sent more n : ℕ) (o : Option StoredMessage) → sent ≤ more → StoredMessageIsKept sent n o → StoredMessageIsKept more n o
stored_more sent more n (Some l) le kept = (kept.0, le_trans kept.1 le, kept.2)
  where
    le_trans : {i j k : ℕ} → i ≤ j → j ≤ k → i ≤ k
    le_trans a b = omega arith
stored_more sent more n None le kept = tt

-- one message is another
pub stored_messages_put : (f : StoredMessages) (sent more n : ℕ) (w : Option StoredMessage) → sent ≤ more → StoredMessageIsKept more n w → ((i : ℕ) → StoredMessageIsKept sent i (f i)) → (i : ℕ) → StoredMessageIsKept more i (put f n w i)
stored_messages_put f sent more n w le new kept i =
    put_by (StoredMessageIsKept more i) f n w i (λ is. subst (λ (k : ℕ). StoredMessageIsKept more k w) (sym is) new) (λ apart. stored_more sent more i (f i) le (kept i))

-- ---- one message changes, which is queued nowhere

module _ (x y : PortsOf) (kept : PortsAreKept x) (n : ℕ) (w : Option StoredMessage) (ports : y.ports ≡ x.ports) (made : y.made ≡ x.made) (stored_messages : stored_at y ≡ put (stored_at x) n w) where
  stored_here : stored_at y n ≡ w
  stored_here = ap (λ (f : StoredMessages). f n) stored_messages ∙ put_here (stored_at x) n w

  stored_other : (j : ℕ) → j ≢ n → stored_at y j ≡ stored_at x j
  stored_other j apart = ap (λ (f : StoredMessages). f j) stored_messages ∙ put_other (stored_at x) n w j apart

  pub held_put : (mail_of y).kept ≡ put (mail_of x).kept n (held_of n w)
  unfolding mail_of
  held_put = put_is _ _ n (held_of n w) (ap (held_of n) stored_here) (λ j apart. ap (held_of j) (stored_other j apart))

  pub names_same : names_of y ≡ names_of x
  unfolding names_of
  names_same = ap₂ (λ (es : List (ℕ × Port)) (m : ℕ). names_of (record x { ports = es; made = m })) ports made

  module _ (free : (i : ℕ) → IsQueued i (stored_at x n) → ⊥) where
    stays : (i j : ℕ) → IsQueued i (stored_at x j) → stored_at y j ≡ stored_at x j
    stays i j queued = stored_other j (λ is. free i (subst (λ (k : ℕ). IsQueued i (stored_at x k)) is queued))

    port_is : (i : ℕ) → port_at y i ≡ port_at x i
    port_is i = ap (λ (es : List (ℕ × Port)). entry_at es i) ports

    pub at_same : (mail_of y).at ≡ (mail_of x).at
    unfolding mail_of
    at_same = fun_ext (λ i. ap (option_map (messages_in (stored_at y))) (port_is i) ∙ messages_same (stored_at x) (stored_at y) i (stays i) x.made (port_at x i) (kept.ports i))

    queued_is : queued (mail_of y) y.made ≡ queued (mail_of x) x.made
    queued_is = ap (queued (mail_of y)) made ∙ queued_same (mail_of x) (mail_of y) x.made (λ i le. ap (λ (f : ℕ → Option (List Message)). f i) at_same)

    pub kept_changed : x.sent ≤ y.sent → StoredMessageIsKept y.sent n w → number_known (put (mail_of x).kept n (held_of n w)) y.sent + length x.stored_messages ≡ number_known (mail_of x).kept x.sent + length y.stored_messages → length y.stored_messages ≤ message_limit → PortsAreKept y
    kept_changed more new count few = record {
      ports = λ i. subst (PortIsKept (stored_at y) y.made i) (sym (port_is i)) (port_same (stored_at x) (stored_at y) i (stays i) x.made y.made (port_at x i) (omega arith) (kept.ports i));
      stored_messages = λ i. subst (StoredMessageIsKept y.sent i) (sym (ap (λ (f : StoredMessages). f i) stored_messages)) (stored_messages_put (stored_at x) x.sent y.sent n w more new kept.stored_messages i);
      numbers = rw made kept.numbers;
      port_count = rw (ports, made) kept.port_count;
      stored_count =
          let before = sym (messages_are (mail_of x) x.made x.sent (mail_made x)) ∙ kept.stored_count in
          let held = ap (λ (f : ℕ → Option Message). number_known f y.sent) held_put in
          messages_are (mail_of y) y.made y.sent (mail_made y) ∙ omega (arith, before, held, count, queued_is);
      few_ports = rw ports kept.few_ports;
      few_stored_messages = few;
      names = subst NamesDiffer (sym names_same) kept.names;
    }

-- ---- one port changes, and of the messages only those that are queued there or nowhere

module _ (x y : PortsOf) (kept : PortsAreKept x) (p : ℕ) (o : Option Port) (ports : port_at y ≡ put (port_at x) p o) (stays : (i : ℕ) → i ≢ p → (j : ℕ) → IsQueued i (stored_at x j) → stored_at y j ≡ stored_at x j) where
  port_here : port_at y p ≡ o
  port_here = ap (λ (f : ℕ → Option Port). f p) ports ∙ put_here (port_at x) p o

  port_other : (i : ℕ) → i ≢ p → port_at y i ≡ port_at x i
  port_other i apart = ap (λ (f : ℕ → Option Port). f i) ports ∙ put_other (port_at x) p o i apart

  pub at_put : (mail_of y).at ≡ put (mail_of x).at p (option_map (messages_in (stored_at y)) o)
  unfolding mail_of
  at_put = put_is _ _ p _ (ap (option_map (messages_in (stored_at y))) port_here)
      (λ i apart. ap (option_map (messages_in (stored_at y))) (port_other i apart) ∙ messages_same (stored_at x) (stored_at y) i (stays i apart) x.made (port_at x i) (kept.ports i))

  pub ports_put : x.made ≤ y.made → PortIsKept (stored_at y) y.made p o → (i : ℕ) → PortIsKept (stored_at y) y.made i (port_at y i)
  ports_put more new i = subst (PortIsKept (stored_at y) y.made i) (sym (ap (λ (f : ℕ → Option Port). f i) ports))
      (put_by (PortIsKept (stored_at y) y.made i) (port_at x) p o i
      (λ is. subst (λ (k : ℕ). PortIsKept (stored_at y) y.made k o) (sym is) new)
      (λ apart. port_same (stored_at x) (stored_at y) i (stays i apart) x.made y.made (port_at x i) more (kept.ports i)))

  pub names_put : (names_of y).names ≡ put (names_of x).names p (name_in o)
  unfolding names_of
  names_put = put_is _ _ p (name_in o) (ap name_in port_here) (λ i apart. ap name_in (port_other i apart))
