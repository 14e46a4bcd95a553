-- A message that is held comes, changes or ceases.
use Rattle.std.proofs.Common.{◌≡◌, ◌≢◌, ℕ, ◌+◌, ◌<◌, ◌≤◌, ℤ, Bool, true, false, length, Option, Some, None, IsSome, is_some, IfSome, if◌then◌else◌, option_map, refl, sym, ◌∙◌, ap, subst, arith}
use Rattle.std.proofs.lemmas.Option.{same_Some}
use Rattle.pth_base.specs.Table.{put}
use Rattle.pth_numbered.specs.Numbered.{number_known}
use Rattle.pth_base.specs.declared.ids.PortId.{PortId}
use Rattle.pth_port.specs.Mail.{Message, message_limit}
use Rattle.pth_port.specs.Ports.{PortsOf, stored_at, with_entry, without_reply, reply_number, is_held, message, held_of, mail_of, with_held, without_held, IsQueuedIn, IsQueued, StoredMessageIsKept, PortsAreKept}
use Rattle.pth_port.specs.declared.stored_messages.StoredMessage.{StoredMessage}
use Rattle.pth_port.specs.declared.stored_messages.Place.{Place}
use Rattle.pth_port.specs.declared.stored_messages.Place.TheVariants.{Queued, Held}
use Rattle.pth_port.proofs.Counts.{one, number_put, number_past}
use Rattle.pth_port.proofs.Changes.{mail_is, mail_made, mail_kept, held_put, at_same, kept_changed}

-- ---- what is held

held_place : (place : Place) → is_held place ≡ true → place ≡ Held
held_place (Queued p n) held = absurd (cc held)
held_place Held held = refl

of_test : (n : ℕ) (l : StoredMessage) (b : Bool) → is_held l.place ≡ b → IsSome (if b then Some (message n l) else None) → l.place ≡ Held
of_test n l true is some = held_place l.place is
of_test n l false is some = absurd (cc some)

-- a message that is held is stored
pub held_stored : (n : ℕ) (o : Option StoredMessage) → IsSome (held_of n o) → (l : StoredMessage) × (o ≡ Some l) × (l.place ≡ Held)
held_stored n (Some l) some = (l, refl, of_test n l (is_held l.place) refl some)
held_stored n None some = absurd (cc some)

pub held_is : (n : ℕ) (l : StoredMessage) → l.place ≡ Held → held_of n (Some l) ≡ Some (message n l)
held_is n l held = ap (λ (place : Place). if is_held place then Some (message n l) else None) held

-- and is queued nowhere
pub held_free : (i : ℕ) (l : StoredMessage) (o : Option StoredMessage) → o ≡ Some l → l.place ≡ Held → IsQueued i o → ⊥
held_free i l o is held queued = subst (IsQueuedIn i) held (subst (IsQueued i) is queued)

module _ (x : PortsOf) (kept : PortsAreKept x) (n : ℕ) where
  pub stored_of_held : IsSome ((mail_of x).kept n) → (l : StoredMessage) × (stored_at x n ≡ Some l) × (l.place ≡ Held)
  stored_of_held some = held_stored n (stored_at x n) (subst IsSome (mail_kept x n) some)

  pub given : (l : StoredMessage) → stored_at x n ≡ Some l → (0 < n) × (n ≤ x.sent) × IfSome l.reply (λ p. p.0 ≢ 0)
  given l is = subst (StoredMessageIsKept x.sent n) is (kept.stored_messages n)

  -- no message has a number that is still to come
  pub none_given : x.sent < n → stored_at x n ≡ None
  none_given past = none (stored_at x n) (kept.stored_messages n)
    where
      none : (o : Option StoredMessage) → StoredMessageIsKept x.sent n o → o ≡ None
      none (Some l) given = absurd (omega (arith, past, given.1))
      none None given = refl

-- ---- one ceases

module _ (x y : PortsOf) (kept : PortsAreKept x) (n : ℕ) (some : IsSome ((mail_of x).kept n)) (ports : y.ports ≡ x.ports) (made : y.made ≡ x.made) (sent : y.sent ≡ x.sent) where
  module _ (stored_messages : stored_at y ≡ put (stored_at x) n None) (long : length y.stored_messages + (if is_some (stored_at x n) then 1 else 0) ≡ length x.stored_messages) where
    dropped_free : (i : ℕ) → IsQueued i (stored_at x n) → ⊥
    dropped_free i = let h = stored_of_held x kept n some in held_free i h.0 (stored_at x n) h.1 h.2

    pub dropped_mail : mail_of y ≡ without_held n (mail_of x)
    dropped_mail = mail_is _ _ (at_same x y kept n None ports made stored_messages dropped_free) (held_put x y kept n None ports made stored_messages) (mail_made y ∙ sent ∙ sym (mail_made x))

    pub dropped_kept : PortsAreKept y
    dropped_kept =
        let h = stored_of_held x kept n some in
        let number = given x kept n h.0 h.1 in
        let was : one (stored_at x n) ≡ 1 = ap one h.1 in
        let had : one ((mail_of x).kept n) ≡ 1 = ap one (mail_kept x n ∙ ap (held_of n) h.1 ∙ held_is n h.0 h.2) in
        let less = number_put (mail_of x).kept n None x.sent number.0 number.1 in
        kept_changed x y kept n None ports made stored_messages dropped_free (omega (arith, sent)) tt
        (ap (λ (k : ℕ). number_known (put (mail_of x).kept n None) k + length x.stored_messages) sent ∙ omega (arith, less, had, was, long))
        (omega (arith, long, kept.few_stored_messages))

  -- ---- one is another, without a port for its reply

  module _ (change : StoredMessage → StoredMessage) (places : (l : StoredMessage) → (change l).place ≡ l.place) (replies : (l : StoredMessage) → (change l).reply ≡ None) (stored_messages : stored_at y ≡ with_entry n change (stored_at x)) (long : length y.stored_messages ≡ length x.stored_messages) where
    abbrev old : StoredMessage
    old = (stored_of_held x kept n some).0

    abbrev other : Option StoredMessage
    other = Some (change old)

    other_is : stored_at y ≡ put (stored_at x) n other
    other_is = stored_messages ∙ ap (λ (o : Option StoredMessage). put (stored_at x) n (option_map change o)) (stored_of_held x kept n some).1

    other_free : (i : ℕ) → IsQueued i (stored_at x n) → ⊥
    other_free i = let h = stored_of_held x kept n some in held_free i h.0 (stored_at x n) h.1 h.2

    still_held : held_of n other ≡ Some (message n (change old))
    still_held = held_is n (change old) (places old ∙ (stored_of_held x kept n some).2)

    pub changed_mail : mail_of y ≡ with_held (message n (change old)) (mail_of x)
    changed_mail = mail_is _ _ (at_same x y kept n other ports made other_is other_free)
        (held_put x y kept n other ports made other_is ∙ ap (put (mail_of x).kept n) still_held)
        (mail_made y ∙ sent ∙ sym (mail_made x))

    pub changed_kept : PortsAreKept y
    changed_kept =
        let h = stored_of_held x kept n some in
        let number = given x kept n h.0 h.1 in
        let had : one ((mail_of x).kept n) ≡ 1 = ap one (mail_kept x n ∙ ap (held_of n) h.1 ∙ held_is n h.0 h.2) in
        let has : one (held_of n other) ≡ 1 = ap one still_held in
        let same = number_put (mail_of x).kept n (held_of n other) x.sent number.0 number.1 in
        kept_changed x y kept n other ports made other_is other_free (omega (arith, sent))
        (number.0, subst (λ (k : ℕ). n ≤ k) (sym sent) number.1, subst (λ (r : Option PortId). IfSome r (λ p. p.0 ≢ 0)) (sym (replies old)) tt)
        (ap (λ (k : ℕ). number_known (put (mail_of x).kept n (held_of n other)) k + length x.stored_messages) sent ∙ omega (arith, same, had, has, long))
        (omega (arith, long, kept.few_stored_messages))

  -- the same message, without a port for its reply
  pub cleared_mail : stored_at y ≡ with_entry n without_reply (stored_at x) → length y.stored_messages ≡ length x.stored_messages → (m : Message) → (mail_of x).kept n ≡ Some m → mail_of y ≡ with_held (record m { reply = 0 }) (mail_of x)
  cleared_mail stored_messages long m was =
      let h = stored_of_held x kept n some in
      let is : message n h.0 ≡ m = same_Some _ _ (sym (mail_kept x n ∙ ap (held_of n) h.1 ∙ held_is n h.0 h.2) ∙ was) in
      changed_mail without_reply (λ l. refl) (λ l. refl) stored_messages long ∙ ap (λ (k : Message). with_held (record k { reply = 0 }) (mail_of x)) is

-- ---- one more

module _ (x y : PortsOf) (kept : PortsAreKept x) (ports : y.ports ≡ x.ports) (made : y.made ≡ x.made) (sent : y.sent ≡ x.sent + 1) (v : ℤ) (reply : Option PortId) (stored_messages : stored_at y ≡ put (stored_at x) (x.sent + 1) (Some (record { value = v; reply = reply; place = Held }))) (long : length y.stored_messages ≡ length x.stored_messages + 1) where
  abbrev newcomer : Option StoredMessage
  newcomer = Some (record { value = v; reply = reply; place = Held })

  new_free : (i : ℕ) → IsQueued i (stored_at x (x.sent + 1)) → ⊥
  new_free i queued = subst (IsQueued i) (none_given x kept (x.sent + 1) (omega arith)) queued

  pub added_mail : mail_of y ≡ with_held (record { number = x.sent + 1; value = v; reply = reply_number reply }) (record (mail_of x) { made = x.sent + 1 })
  added_mail = mail_is _ _ (at_same x y kept (x.sent + 1) newcomer ports made stored_messages new_free) (held_put x y kept (x.sent + 1) newcomer ports made stored_messages) (mail_made y ∙ sent)

  pub none_held : (mail_of x).kept (x.sent + 1) ≡ None
  none_held = mail_kept x (x.sent + 1) ∙ ap (held_of (x.sent + 1)) (none_given x kept (x.sent + 1) (omega arith))

  pub added_kept : IfSome reply (λ p. p.0 ≢ 0) → length x.stored_messages < message_limit → PortsAreKept y
  added_kept some room =
      let n = x.sent + 1 in
      let had : one ((mail_of x).kept n) ≡ 0 = ap one none_held in
      let more = number_put (mail_of x).kept n (held_of n newcomer) n (omega arith) (omega arith) in
      let past = number_past (mail_of x).kept x.sent none_held in
      kept_changed x y kept n newcomer ports made stored_messages new_free (omega (arith, sent))
      (omega arith, omega (arith, sent), some)
      (ap (λ (k : ℕ). number_known (put (mail_of x).kept n (held_of n newcomer)) k + length x.stored_messages) sent ∙ omega (arith, more, past, had, long))
      (omega (arith, long, room))
