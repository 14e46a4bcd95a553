-- Changes of the mail, one after another.
use Rattle.std.proofs.Common.{◌≡◌, ◌≢◌, ℕ, ℤ, pos, negsuc, ◌+◌, ◌==◌, Bool, true, false, not, ◌&&◌, ◌||◌, List, [], ◌∷◌, ◌++◌, length, Option, Some, None, IsSome, is_some, IfSome, IfNone, if◌then◌else◌, option_map, Result, Ok, Err, refl, sym, ◌∙◌, ap, ap₂, subst, add-one}
use Rattle.std.proofs.lemmas.Option.{same_Some}
use Rattle.pth_base.specs.Table.{put}
use Rattle.pth_base.proofs.Tables.{put_is, put_by, put_here, put_other, same_means, same_fails, not_same}
use Rattle.pth_base.proofs.Lists.{put_none, put_twice}
use Rattle.pth_base.specs.declared.ids.PortId.{PortId}
use Rattle.pth_base.specs.declared.errno.Errno.{Errno}
use Rattle.pth_base.specs.declared.errno.Errno.TheVariants.{EINVAL}
use Rattle.pth_numbered.specs.Operands.{number, is_zero}
use Rattle.pth_port.specs.Mail.{Mail, Message, messages_of, is_live, reply_port, put_to, got, replied, sent_back, closed_port, sent}
use Rattle.pth_port.specs.Ports.{PortsOf, port_at, stored_at, is_held, reply_number, message, held_of, queue_in, messages_in, mail_of, with_held, without_held, first_message, first_held, settled, gone_on, without_port, PortsAreKept}
use Rattle.pth_port.specs.declared.stored_messages.StoredMessage.{StoredMessage}
use Rattle.pth_port.specs.declared.stored_messages.Queue.{Queue}
use Rattle.pth_port.proofs.Changes.{mail_at, mail_kept}
use Rattle.pth_port.proofs.Queueing.{has_queue, length_walk}
use Rattle.pth_port.proofs.Naming.{zero_not_live}

-- ---- how many are queued

-- the answer, by what stands at the port
abbrev pub pending_of : Option (List Message) → Result ℕ Errno
pending_of o = if not (is_some o) then Err EINVAL else Ok (length (messages_of o))

pub pending_some : (x : PortsOf) (p : ℕ) (queue : Queue) → Some queue ≡ queue_in (port_at x p) → pending_of ((mail_of x).at p) ≡ Ok queue.length
pending_some x p queue is =
    let h = has_queue (port_at x p) queue is in
    ap pending_of (mail_at x p ∙ ap (option_map (messages_in (stored_at x))) h.1)
    ∙ ap Ok (length_walk (stored_at x) h.0.queue.length h.0.queue.first)
    ∙ ap (λ (q : Queue). Ok q.length) h.2

-- ---- what is held

module _ (x : PortsOf) (n : ℕ) where
  pub held_here : (l : StoredMessage) → Some l ≡ stored_at x n → is_held l.place ≡ true → (mail_of x).kept n ≡ Some (message n l)
  held_here l is held = mail_kept x n ∙ ap (held_of n) (sym is) ∙ ap (λ (b : Bool). if b then Some (message n l) else None) held

  pub not_here : (l : StoredMessage) → Some l ≡ stored_at x n → is_held l.place ≡ false → (mail_of x).kept n ≡ None
  not_here l is queued = mail_kept x n ∙ ap (held_of n) (sym is) ∙ ap (λ (b : Bool). if b then Some (message n l) else None) queued

  pub none_here : None ≡ stored_at x n → (mail_of x).kept n ≡ None
  none_here none = mail_kept x n ∙ ap (held_of n) (sym none)

-- the port for the reply of a held message
pub reply_some : (r : Option PortId) (n : ℕ) (v : ℤ) (o : Option Message) → o ≡ Some (record { number = n; value = v; reply = reply_number r }) → IfSome r (λ p. p.0 ≡ reply_port o)
reply_some (Some p) n v o is = sym (ap reply_port is)
reply_some None n v o is = tt

pub reply_held : (r : Option PortId) (m : Message) (o : Option Message) → o ≡ Some m → IfSome r (λ p. IsSome o)
reply_held (Some p) m o is = ap is_some is
reply_held None m o is = tt

none_by : (r : Option PortId) (q : Mail) (n : ℕ) (v : ℤ) (o : Option Message) → is_live q 0 ≡ false → o ≡ Some (record { number = n; value = v; reply = reply_number r }) → IfNone r (is_live q (reply_port o) ≡ false)
none_by (Some p) q n v o zero is = tt
none_by None q n v o zero is = ap (λ (o : Option Message). is_live q (reply_port o)) is ∙ zero

module _ (x : PortsOf) (kept : PortsAreKept x) (n : ℕ) where
  -- where it has none, that is not live
  pub reply_none : (l : StoredMessage) → (mail_of x).kept n ≡ Some (message n l) → IfNone l.reply (is_live (mail_of x) (reply_port ((mail_of x).kept n)) ≡ false)
  reply_none l is = none_by l.reply (mail_of x) n l.value ((mail_of x).kept n) (zero_not_live x kept) is

  pub reply_absent : (mail_of x).kept n ≡ None → is_live (mail_of x) (reply_port ((mail_of x).kept n)) ≡ false
  reply_absent none = ap (λ (o : Option Message). is_live (mail_of x) (reply_port o)) none ∙ zero_not_live x kept

pub number_kept : (n : ℕ) (m : Message) (o : Option Message) → o ≡ Some m → m.number ≡ n → IfSome o (λ k. k.number ≡ n)
number_kept n m o is number = subst (λ (o : Option Message). IfSome o (λ k. k.number ≡ n)) (sym is) number

pub number_none : (n : ℕ) (o : Option Message) → o ≡ None → IfSome o (λ k. k.number ≡ n)
number_none n o none = subst (λ (o : Option Message). IfSome o (λ k. k.number ≡ n)) (sym none) tt

-- ---- a message that was held and is no longer

pub held_twice : (q : Mail) (m : Message) → without_held m.number (with_held m q) ≡ without_held m.number q
held_twice q m = ap (λ (f : ℕ → Option Message). record q { kept = f }) (put_twice q.kept m.number (Some m) None)

pub never_held : (q : Mail) (n : ℕ) → q.kept n ≡ None → without_held n q ≡ q
never_held q n none = ap (λ (f : ℕ → Option Message). record q { kept = f }) (put_none q.kept n None none)

pub is_kept : (q : Mail) (m : Message) → (with_held m q).kept m.number ≡ Some m
is_kept q m = put_here q.kept m.number (Some m)

pub kept_after : (q r : Mail) (m : Message) → r ≡ with_held m q → r.kept m.number ≡ Some m
kept_after q r m is = ap (λ (z : Mail). z.kept m.number) is ∙ is_kept q m

-- ---- a message is put

-- the port for a reply is there, or there is none
pub reply_known : (q : Mail) (r : ℤ) → (not (is_zero r) && not (is_live q (number r))) ≡ false → ((number r == 0) || is_live q (number r)) ≡ true
reply_known q (pos n) known = by_tests (n == 0) (is_live q n) known
  where
    by_tests : (a b : Bool) → (not a && not b) ≡ false → (a || b) ≡ true
    by_tests true b known = refl
    by_tests false true known = refl
    by_tests false false known = absurd (cc known)
reply_known q (negsuc n) known = refl

pub put_done : (q : Mail) (p r n : ℕ) (v : ℤ) → is_live q p ≡ true → ((r == 0) || is_live q r) ≡ true → n ≡ q.made + 1 → q.kept n ≡ None → sent p (record { number = n; value = v; reply = r }) (without_held n (with_held (record { number = n; value = v; reply = r }) (record q { made = n }))) ≡ put_to p v r q
put_done q p r n v live known number none =
    let m : Message = record { number = n; value = v; reply = r } in
    let q₁ : Mail = record q { made = n } in
    ap (sent p m) (held_twice q₁ m ∙ never_held q₁ n none)
    ∙ ap (λ (k : ℕ). sent p (record { number = k; value = v; reply = r }) (record q { made = k })) number
    ∙ sym (ap (λ (b : Bool). if b then sent p (record { number = q.made + 1; value = v; reply = r }) (record q { made = q.made + 1 }) else q) (ap₂ (λ (a b : Bool). a && b) live known))

-- ---- a message is got

pub first_kept : (q : Mail) (p : ℕ) (m : Message) (ms : List Message) → Some m ≡ first_message ms → (first_held p ms q).kept m.number ≡ Some m
first_kept q p m [] is = absurd (cc is)
first_kept q p m (k ∷ ks) is =
    let same : m ≡ k = same_Some m k is in
    subst (λ (i : Message). (first_held p (k ∷ ks) q).kept i.number ≡ Some i) (sym same) (is_kept (record q { at = put q.at p (Some ks) }) k)

settled_by : (q : Mail) (m : Message) (b : Bool) → q.kept m.number ≡ None → (if b then without_held m.number (with_held m q) else with_held m q) ≡ record q { kept = if b then q.kept else put q.kept m.number (Some m) }
settled_by q m true none = held_twice q m ∙ never_held q m.number none
settled_by q m false none = refl

pub got_done : (q : Mail) (p : ℕ) (m : Message) (ms : List Message) → Some m ≡ first_message ms → q.kept m.number ≡ None → settled m (first_held p ms q) ≡ got p ms q
got_done q p m [] is none = absurd (cc is)
got_done q p m (k ∷ ks) is none =
    let same : m ≡ k = same_Some m k is in
    ap (λ (i : Message). settled i (first_held p (k ∷ ks) q)) same
    ∙ settled_by (record q { at = put q.at p (Some ks) }) k (k.reply == 0) (ap (λ (i : Message). q.kept i.number) (sym same) ∙ none)

-- ---- a message is sent back

pub replied_done : (q : Mail) (n r : ℕ) (v : ℤ) (o : Option Message) → IsSome o → IfSome o (λ m. m.number ≡ n) → r ≡ reply_port o → is_live q r ≡ true → sent r (record { number = n; value = v; reply = 0 }) (without_held n (with_held (record { number = n; value = v; reply = 0 }) q)) ≡ replied v o q
replied_done q n r v None some number is live = absurd (cc some)
replied_done q n r v (Some m) some number is live =
    let k : Message = record { number = n; value = v; reply = 0 } in
    ap (sent r k) (held_twice q k)
    ∙ ap₂ (λ (i j : ℕ). sent i (record { number = j; value = v; reply = 0 }) (without_held j q)) is (sym number)
    ∙ sym (ap (λ (b : Bool). if b then sent m.reply (record m { value = v; reply = 0 }) (record q { kept = put q.kept m.number None }) else q) (ap (is_live q) (sym is) ∙ live))

pub back_done : (q : Mail) (closed : ℕ) (m : Message) → m.reply ≢ closed → sent m.reply (record m { reply = 0 }) (without_held m.number (with_held (record m { reply = 0 }) q)) ≡ gone_on closed m q
back_done q closed m apart =
    let k : Message = record m { reply = 0 } in
    ap (sent m.reply k) (held_twice q k)
    ∙ sym (ap (λ (b : Bool). if b then without_held m.number q else sent m.reply k (without_held m.number q)) (not_same m.reply closed apart))

-- ---- the messages of a port go on, one after another

abbrev Queues : Type 0
Queues = ℕ → Option (List Message)

-- what stands at a port that is gone is of no matter
put_last : (f : Queues) (p r : ℕ) (a b : Option (List Message)) → r ≢ p → put (put (put f p a) r b) p None ≡ put (put f p None) r b
put_last f p r a b apart = sym (put_is (put (put f p a) r b) (put (put f p None) r b) p None
    (put_other (put f p None) r b p (λ is. apart (sym is)) ∙ put_here f p None)
    (λ i other. put_by (λ (o : Option (List Message)). o ≡ put (put f p a) r b i) (put f p None) r b i
    (λ at. sym (ap (put (put f p a) r b) at ∙ put_here (put f p a) r b))
    (λ away. put_other f p None i other ∙ sym (put_other (put f p a) r b i away ∙ put_other f p a i other))))

module _ (q : Mail) (p : ℕ) (m : Message) (ms : List Message) (none : q.kept m.number ≡ None) where
  -- the rest of them
  abbrev rest : Mail
  rest = record q { at = put q.at p (Some ms) }

  abbrev k : Message
  k = record m { reply = 0 }

  same_rest : without_held m.number (with_held m rest) ≡ rest
  same_rest = held_twice rest m ∙ never_held rest m.number none

  here_live : (r : ℕ) → r ≢ p → rest.at r ≡ q.at r
  here_live r apart = put_other q.at p (Some ms) r apart

  there_live : (r : ℕ) → r ≢ p → (without_port p q).at r ≡ q.at r
  there_live r apart = put_other q.at p None r apart

  -- the port for the reply is another
  sent_at : (b : Bool) (r : ℕ) (o : Option (List Message)) → r ≢ p → put (if b then put rest.at r o else rest.at) p None ≡ (if b then put (without_port p q).at r o else (without_port p q).at)
  sent_at true r o apart = put_last q.at p r (Some ms) o apart
  sent_at false r o apart = put_twice q.at p (Some ms) None

  abbrev longer : Option (List Message) → Option (List Message)
  longer o = Some (messages_of o ++ (k ∷ []))

  sent_apart : (r : ℕ) → r ≢ p → without_port p (sent r k rest) ≡ sent r k (without_port p q)
  sent_apart r apart =
      ap (λ (o : Option (List Message)). record q { at = put (if is_some o then put rest.at r (longer o) else rest.at) p None }) (here_live r apart)
      ∙ ap (λ (f : Queues). record q { at = f }) (sent_at (is_some (q.at r)) r (longer (q.at r)) apart)
      ∙ sym (ap (λ (o : Option (List Message)). record q { at = if is_some o then put (without_port p q).at r (longer o) else (without_port p q).at }) (there_live r apart))

  stays_by : (b : Bool) (r : ℕ) (o : Option (List Message)) → r ≢ p → (if b then put rest.at r o else rest.at) p ≡ Some ms
  stays_by true r o apart = put_other rest.at r o p (λ is. apart (sym is)) ∙ put_here q.at p (Some ms)
  stays_by false r o apart = put_here q.at p (Some ms)

  -- the port for the reply is the one that is closed
  sent_closed : without_port p rest ≡ sent p k (without_port p q)
  sent_closed =
      ap (λ (f : Queues). record q { at = f }) (put_twice q.at p (Some ms) None)
      ∙ sym (ap (λ (o : Option (List Message)). record q { at = if is_some o then put (without_port p q).at p (longer o) else (without_port p q).at }) (put_here q.at p None))

  -- what is left there, once the first went on
  left_by : (b : Bool) → (m.reply == p) ≡ b → (if b then without_held m.number (with_held m rest) else sent m.reply k (without_held m.number (with_held m rest))).at p ≡ Some ms
  left_by true is = ap (λ (z : Mail). z.at p) same_rest ∙ put_here q.at p (Some ms)
  left_by false apart = ap (λ (z : Mail). (sent m.reply k z).at p) same_rest ∙ stays_by (is_live rest m.reply) m.reply (longer (rest.at m.reply)) (same_fails m.reply p apart)

  pub left_there : (gone_on p m (first_held p (m ∷ ms) q)).at p ≡ Some ms
  left_there = left_by (m.reply == p) refl

  without_by : (b : Bool) → (m.reply == p) ≡ b → without_port p (if b then without_held m.number (with_held m rest) else sent m.reply k (without_held m.number (with_held m rest))) ≡ sent m.reply k (without_port p q)
  without_by true is = ap (without_port p) same_rest ∙ sent_closed ∙ ap (λ (r : ℕ). sent r k (without_port p q)) (sym (same_means m.reply p is))
  without_by false apart = ap (λ (z : Mail). without_port p (sent m.reply k z)) same_rest ∙ sent_apart m.reply (same_fails m.reply p apart)

  -- closing the port afterwards does what closing it before does
  pub closes : q.at p ≡ Some (m ∷ ms) → closed_port p (gone_on p m (first_held p (m ∷ ms) q)) ≡ closed_port p q
  closes was =
      ap₂ (λ (o : Option (List Message)) (z : Mail). sent_back (messages_of o) z) left_there (without_by (m.reply == p) refl)
      ∙ sym (ap (λ (o : Option (List Message)). sent_back (messages_of o) (without_port p q)) was)

-- one message of a port went on
pub record Goes (q r : Mail) (p : ℕ) : Type 0 where
  pub closed : closed_port p r ≡ closed_port p q
  pub fewer : length (messages_of (r.at p)) + 1 ≡ length (messages_of (q.at p))
  pub live : is_live r p ≡ is_live q p

goes_by : (q r : Mail) (p : ℕ) (m : Message) (o : Option (List Message)) → q.at p ≡ o → Some m ≡ first_message (messages_of o) → q.kept m.number ≡ None → r ≡ gone_on p m (first_held p (messages_of o) q) → Goes q r p
goes_by q r p m None was is none went = absurd (cc is)
goes_by q r p m (Some []) was is none went = absurd (cc is)
goes_by q r p m (Some (k ∷ ks)) was is none went =
    let same : m ≡ k = same_Some m k is in
    let gone : r ≡ gone_on p k (first_held p (k ∷ ks) q) = went ∙ ap (λ (i : Message). gone_on p i (first_held p (k ∷ ks) q)) same in
    let fresh : q.kept k.number ≡ None = ap (λ (i : Message). q.kept i.number) (sym same) ∙ none in
    let left : r.at p ≡ Some ks = ap (λ (z : Mail). z.at p) gone ∙ left_there q p k ks fresh in
    record {
      closed = ap (closed_port p) gone ∙ closes q p k ks fresh was;
      fewer = ap (λ (o : Option (List Message)). length (messages_of o) + 1) left ∙ add-one (length ks) ∙ sym (ap (λ (o : Option (List Message)). length (messages_of o)) was);
      live = ap is_some left ∙ sym (ap is_some was);
    }

pub goes : (q r : Mail) (p : ℕ) (m : Message) → Some m ≡ first_message (messages_of (q.at p)) → q.kept m.number ≡ None → r ≡ gone_on p m (first_held p (messages_of (q.at p)) q) → Goes q r p
goes q r p m is none went = goes_by q r p m (q.at p) refl is none went
