-- The names of ports, and a port that comes or goes.
use Rattle.std.proofs.Common.{◌≡◌, ◌≢◌, ℕ, ℤ, zero, suc, ◌+◌, ◌<◌, ◌≤◌, Bool, true, false, List, [], ◌∷◌, length, Option, Some, None, is_some, if◌then◌else◌, cond, option_map, refl, sym, ◌∙◌, ap, ap₂, subst, arith, inl, inr, All, nat_le}
use Rattle.std.specs.Ordering.{nat_cmp}
use Rattle.std.specs.BTreeMap.{is_at, BTreeMap, IsOrdered}
use Rattle.std.proofs.lemmas.Bool.{cases_eq, le-leb, lt-leb, leb-false}
use Rattle.std.proofs.lemmas.Cmp.{nat_cmp_total}
use Rattle.std.proofs.lemmas.List.Elements.{All-head, All-tail}
use Rattle.std.proofs.lemmas.Map.Views.{All-found}
use Rattle.std.proofs.lemmas.Slice.Eq.{bytes_eq-Decides}
use Rattle.pth_base.specs.Table.{put}
use Rattle.pth_base.proofs.Tables.{put_by}
use Rattle.pth_numbered.specs.Numbered.{number_known}
use Rattle.pth_numbered.proofs.Known.{number_same}
use Rattle.pth_numbered.specs.Operands.{number}
use Rattle.pth_port.specs.Mail.{Message, PortNames, port_limit, messages_of, queued, has_name, port_named, is_live, is_taken, with_port, no_mail, no_names, port_added, port_removed}
use Rattle.pth_port.specs.Ports.{PortsOf, entry_at, stored_in, port_at, stored_at, messages_in, walk, name_in, queue_in, first_named, mail_of, names_of, port_number, without_port, NamesDiffer, IsQueued, IsLine, PortIsKept, StoredMessageIsKept, PortsAreKept}
use Rattle.pth_port.specs.declared.entries.Port.{Port}
use Rattle.pth_port.specs.declared.stored_messages.StoredMessage.{StoredMessage}
use Rattle.pth_port.proofs.Lines.{StoredMessages}
use Rattle.pth_port.proofs.Counts.{one, number_put, number_past, queued_put, queued_past}
use Rattle.pth_port.proofs.Changes.{mail_is, names_is, mail_made, names_made, mail_at, messages_are, at_put, ports_put, names_put}

-- ---- which ports are live

pub names_at : (x : PortsOf) (p : ℕ) → (names_of x).names p ≡ name_in (port_at x p)
unfolding names_of
names_at x p = refl

live_some : (f : StoredMessages) (o : Option Port) → is_some (queue_in o) ≡ is_some (option_map (messages_in f) o)
live_some f (Some port) = refl
live_some f None = refl

-- a port has a queue where it is live
pub live_is : (x : PortsOf) (p : ℕ) → is_some (queue_in (port_at x p)) ≡ is_live (mail_of x) p
live_is x p = live_some (stored_at x) (port_at x p) ∙ sym (ap is_some (mail_at x p))

module _ (x : PortsOf) (kept : PortsAreKept x) where
  none_by : (p : ℕ) (o : Option Port) → PortIsKept (stored_at x) x.made p o → ((0 < p) × (p ≤ x.made) → ⊥) → o ≡ None
  none_by p (Some port) given outside = absurd (outside (given.0, given.1))
  none_by p None given outside = refl

  not_live : (p : ℕ) → port_at x p ≡ None → is_live (mail_of x) p ≡ false
  not_live p none = ap is_some (mail_at x p ∙ ap (option_map (messages_in (stored_at x))) none)

  -- no port has the number 0, or one that does not fit
  pub zero_not_live : is_live (mail_of x) 0 ≡ false
  zero_not_live = not_live 0 (none_by 0 (port_at x 0) (kept.ports 0) (λ h. absurd (omega (arith, h.0))))

  pub past_not_live : (p : ℕ) → 4294967295 < p → is_live (mail_of x) p ≡ false
  past_not_live p past = not_live p (none_by p (port_at x p) (kept.ports p) (λ h. absurd (omega (arith, h.1, past, kept.numbers))))

  -- an operand names the port of the number that is looked up
  pub at_number : (p : ℤ) → (mail_of x).at (port_number p) ≡ (mail_of x).at (number p)
  at_number p = by_fit (nat_le (number p) 4294967295) refl
    where
      none_at : (k : ℕ) → is_live (mail_of x) k ≡ false → (mail_of x).at k ≡ None
      none_at k none = is_none_of ((mail_of x).at k) none
        where
          is_none_of : (o : Option (List Message)) → is_some o ≡ false → o ≡ None
          is_none_of (Some ms) none = absurd (cc none)
          is_none_of None none = refl

      by_fit : (b : Bool) → nat_le (number p) 4294967295 ≡ b → (mail_of x).at (if b then number p else 0) ≡ (mail_of x).at (number p)
      by_fit true fits = refl
      by_fit false past = none_at 0 zero_not_live ∙ sym (none_at (number p) (past_not_live (number p) (leb-false (number p) 4294967295 past)))

  -- a port that is new
  pub no_port_yet : port_at x (x.made + 1) ≡ None
  no_port_yet = none_by (x.made + 1) (port_at x (x.made + 1)) (kept.ports (x.made + 1)) (λ h. absurd (omega (arith, h.1)))

  -- a name is that of a live port
  named_given : (name : List ℕ) (p : ℕ) (o : Option Port) → PortIsKept (stored_at x) x.made p o → has_name name (name_in o) ≡ true → (0 < p) × (p ≤ x.made)
  named_given name p (Some port) given named = (given.0, given.1)
  named_given name p None given named = absurd (cc named)

  pub name_given : (name : List ℕ) (p : ℕ) → has_name name ((names_of x).names p) ≡ true → (0 < p) × (p ≤ x.made)
  name_given name p named = named_given name p (port_at x p) (kept.ports p) (ap (has_name name) (sym (names_at x p)) ∙ named)

-- ---- the port of a name

abbrev Names : Type 0
Names = ℕ → Option (List ℕ)

-- none of the first n has the name
none_named : (name : List ℕ) (names : Names) (n : ℕ) → ((i : ℕ) → has_name name (names i) ≡ false) → port_named name names n ≡ None
unfolding port_named
none_named name names zero none = refl
none_named name names (suc n) none = rw (none (suc n)) (none_named name names n none)

-- exactly one has it
one_by : (name : List ℕ) (names : Names) (p n : ℕ) (b : Bool) → has_name name (names (suc n)) ≡ b → has_name name (names p) ≡ true → ((i : ℕ) → has_name name (names i) ≡ true → i ≡ p) → p ≤ suc n → (p ≤ n → port_named name names n ≡ Some p) → (if b then Some (suc n) else port_named name names n) ≡ Some p
one_by name names p n true test named only le rest = ap Some (only (suc n) test)
one_by name names p n false test named only le rest = rest (below (λ is. absurd (cc (sym test ∙ ap (λ (i : ℕ). has_name name (names i)) (sym is) ∙ named))))
  where
    below : (p ≡ suc n → ⊥) → p ≤ n
    below apart = omega arith

one_named : (name : List ℕ) (names : Names) (p n : ℕ) → has_name name (names p) ≡ true → ((i : ℕ) → has_name name (names i) ≡ true → i ≡ p) → 0 < p → p ≤ n → port_named name names n ≡ Some p
unfolding port_named
one_named name names p zero named only some le = absurd (omega arith)
one_named name names p (suc n) named only some le = one_by name names p n (has_name name (names (suc n))) refl named only le (λ less. one_named name names p n named only some less)

-- where no port is found, none of the first n has the name
absent_by : (name : List ℕ) (names : Names) (p n : ℕ) (b : Bool) → has_name name (names (suc n)) ≡ b → (if b then Some (suc n) else port_named name names n) ≡ None → p ≤ suc n → (port_named name names n ≡ None → p ≤ n → has_name name (names p) ≡ false) → has_name name (names p) ≡ false
absent_by name names p n true test none le rest = absurd (cc none)
absent_by name names p n false test none le rest = elim (cases_eq p (suc n)) [
  | inl is ↦ ap (λ (i : ℕ). has_name name (names i)) is ∙ test
  | inr apart ↦ rest none (omega arith)
]

absent : (name : List ℕ) (names : Names) (p n : ℕ) → port_named name names n ≡ None → 0 < p → p ≤ n → has_name name (names p) ≡ false
unfolding port_named
absent name names p zero none some le = absurd (omega arith)
absent name names p (suc n) none some le = absent_by name names p n (has_name name (names (suc n))) refl none le (λ rest less. absent name names p n rest some less)

-- ---- the first entry with a name

first_by : (name : List ℕ) (f : ℕ → Option Port) (e : ℕ × Port) (es : List (ℕ × Port)) (p : ℕ) (b : Bool) → has_name name e.1.name ≡ b → f e.0 ≡ Some e.1 → (if b then Some e.0 else first_named name es) ≡ Some p → (first_named name es ≡ Some p → has_name name (name_in (f p)) ≡ true) → has_name name (name_in (f p)) ≡ true
first_by name f e es p true test here is rest =
    let at : e.0 ≡ p = cc is in
    ap (λ (i : ℕ). has_name name (name_in (f i))) (sym at) ∙ ap (λ (o : Option Port). has_name name (name_in o)) here ∙ test
first_by name f e es p false test here is rest = rest is

first_sound : (name : List ℕ) (f : ℕ → Option Port) (es : List (ℕ × Port)) (p : ℕ) → All (λ (e : ℕ × Port). f e.0 ≡ Some e.1) es → first_named name es ≡ Some p → has_name name (name_in (f p)) ≡ true
first_sound name f [] p all is = absurd (cc is)
first_sound name f (e ∷ es) p all is = first_by name f e es p (has_name name e.1.name) refl (All-head (λ (e : ℕ × Port). f e.0 ≡ Some e.1) e es all) is (first_sound name f es p (All-tail (λ (e : ℕ × Port). f e.0 ≡ Some e.1) e es all))

none_of : (name : List ℕ) (e : ℕ × Port) (es : List (ℕ × Port)) (b here : Bool) → has_name name e.1.name ≡ b → ◌≡◌ {A = Option ℕ} (if b then Some e.0 else first_named name es) None → (o : Option Port) → (first_named name es ≡ None → has_name name (name_in o) ≡ false) → has_name name (name_in (cond here (Some e.1) o)) ≡ false
none_of name e es true here test none o rest = absurd (cc none)
none_of name e es false true test none o rest = test
none_of name e es false false test none o rest = rest none

first_none : (name : List ℕ) (es : List (ℕ × Port)) (p : ℕ) → first_named name es ≡ None → has_name name (name_in (entry_at es p)) ≡ false
unfolding entry_at
first_none name [] p none = refl
first_none name (e ∷ es) p none = none_of name e es (has_name name e.1.name) (is_at (nat_cmp p) e.0) refl none (entry_at es p) (first_none name es p)

all_found : (m : BTreeMap ℕ Port) → IsOrdered nat_cmp m → All (λ (e : ℕ × Port). entry_at m.entries e.0 ≡ Some e.1) m.entries
unfolding entry_at
all_found m ordered = All-found nat_cmp_total m ordered

module _ (x : PortsOf) (kept : PortsAreKept x) (m : BTreeMap ℕ Port) (ordered : IsOrdered nat_cmp m) (ports : x.ports ≡ m.entries) (name : List ℕ) where
  -- the port that is found is the port of the name
  pub found_some : (p : ℕ) → Some p ≡ first_named name m.entries → port_named name (names_of x).names (names_of x).made ≡ Some p
  found_some p is =
      let port_is : port_at x p ≡ entry_at m.entries p = ap (λ (es : List (ℕ × Port)). entry_at es p) ports in
      let named : has_name name ((names_of x).names p) ≡ true = ap (has_name name) (names_at x p ∙ ap name_in port_is) ∙ first_sound name (entry_at m.entries) m.entries p (all_found m ordered) (sym is) in
      let given = name_given x kept name p named in
      one_named name (names_of x).names p (names_of x).made named (λ i other. kept.names name i p other named) given.0 (subst (λ (k : ℕ). p ≤ k) (sym (names_made x)) given.1)

  pub found_none : None ≡ first_named name m.entries → port_named name (names_of x).names (names_of x).made ≡ None
  found_none none = none_named name (names_of x).names (names_of x).made
      (λ i. ap (has_name name) (names_at x i ∙ ap (λ (es : List (ℕ × Port)). name_in (entry_at es i)) ports) ∙ first_none name m.entries i (sym none))

-- ---- a port comes

module _ (x : PortsOf) (kept : PortsAreKept x) where
  not_found : (o : Option ℕ) → is_some o ≡ false → o ≡ None
  not_found (Some p) none = absurd (cc none)
  not_found None none = refl

  -- a name that is free is that of no port
  free_name : (name : List ℕ) → is_taken (names_of x) (Some name) ≡ false → (p : ℕ) → has_name name ((names_of x).names p) ≡ true → ⊥
  free_name name free p named =
      let given = name_given x kept name p named in
      let none = not_found (port_named name (names_of x).names (names_of x).made) free in
      let no = absent name (names_of x).names p (names_of x).made none given.0 (subst (λ (k : ℕ). p ≤ k) (sym (names_made x)) given.1) in
      absurd (cc (sym no ∙ named))

  free_of : (o : Option (List ℕ)) → is_taken (names_of x) o ≡ false → (name : List ℕ) (p : ℕ) → has_name name o ≡ true → has_name name ((names_of x).names p) ≡ true → ⊥
  free_of (Some other) free name p new old =
      let is : name ≡ other = (bytes_eq-Decides name other).0 new in
      free_name other free p (subst (λ (n : List ℕ). has_name n ((names_of x).names p) ≡ true) is old)
  free_of None free name p new old = absurd (cc new)

  still_differ : (o : Option (List ℕ)) (k : ℕ) → is_taken (names_of x) o ≡ false → (name : List ℕ) (p q : ℕ) → has_name name (put (names_of x).names k o p) ≡ true → has_name name (put (names_of x).names k o q) ≡ true → p ≡ q
  still_differ o k free name p q =
      put_by (λ (a : Option (List ℕ)). has_name name a ≡ true → has_name name (put (names_of x).names k o q) ≡ true → p ≡ q) (names_of x).names k o p
      (λ at new. put_by (λ (b : Option (List ℕ)). has_name name b ≡ true → p ≡ q) (names_of x).names k o q
      (λ too other. at ∙ sym too)
      (λ apart old. absurd (free_of o free name q new old)))
      (λ apart old. put_by (λ (b : Option (List ℕ)). has_name name b ≡ true → p ≡ q) (names_of x).names k o q
      (λ too new. absurd (free_of o free name p new old))
      (λ also other. kept.names name p q old other))

  module _ (y : PortsOf) (port : Port) (empty : port.queue.length ≡ 0) (ports : port_at y ≡ put (port_at x) (x.made + 1) (Some port)) (long : length y.ports ≡ length x.ports + 1) (made : y.made ≡ x.made + 1) (stored_messages : y.stored_messages ≡ x.stored_messages) (sent : y.sent ≡ x.sent) where
    abbrev p : ℕ
    p = x.made + 1

    same_stored_messages : stored_at y ≡ stored_at x
    same_stored_messages = ap (λ (es : List (ℕ × StoredMessage)). stored_in es) stored_messages

    new_stays : (i : ℕ) → i ≢ p → (j : ℕ) → IsQueued i (stored_at x j) → stored_at y j ≡ stored_at x j
    new_stays i apart j queued = ap (λ (f : StoredMessages). f j) same_stored_messages

    pub added_at : (mail_of y).at ≡ put (mail_of x).at p (Some [])
    added_at = at_put x y kept p (Some port) ports new_stays ∙ ap (λ (k : ℕ). put (mail_of x).at p (Some (walk (stored_at y) k port.queue.first))) empty

    same_held : (mail_of y).kept ≡ (mail_of x).kept
    unfolding mail_of
    same_held = ap (λ (es : List (ℕ × StoredMessage)). (mail_of (record x { stored_messages = es })).kept) stored_messages

    pub new_names : names_of y ≡ port_added port.name (names_of x)
    new_names = names_is (names_of y) (port_added port.name (names_of x)) (names_made y ∙ made ∙ ap (λ (k : ℕ). k + 1) (sym (names_made x)))
        (names_put x y kept p (Some port) ports new_stays ∙ ap (λ (k : ℕ). put (names_of x).names (k + 1) port.name) (sym (names_made x)))

    pub new_mail : mail_of y ≡ with_port p (mail_of x)
    new_mail =
        mail_is (mail_of y) (record (mail_of x) { at = put (mail_of x).at p (Some []) }) added_at same_held (mail_made y ∙ sent ∙ sym (mail_made x))
        ∙ sym (ap (λ (b : Bool). if b then mail_of x else record (mail_of x) { at = put (mail_of x).at p (Some []) }) (not_live x kept p (no_port_yet x kept)))

    pub new_kept : is_taken (names_of x) port.name ≡ false → x.made < 4294967295 → length x.ports < port_limit → PortsAreKept y
    new_kept free fits few = record {
      ports = ports_put x y kept p (Some port) ports new_stays (omega (arith, made)) (omega arith, omega (arith, made), subst (λ (k : ℕ). IsLine (stored_at y) p port.queue.last k port.queue.first) (sym empty) tt);
      stored_messages = subst (λ (f : StoredMessages). (n : ℕ) → StoredMessageIsKept y.sent n (f n)) (sym same_stored_messages) (subst (λ (s : ℕ). (n : ℕ) → StoredMessageIsKept s n (stored_at x n)) (sym sent) kept.stored_messages);
      numbers = omega (arith, made, fits);
      port_count =
          let more = number_put (port_at x) p (Some port) p (omega arith) (omega arith) in
          let past = number_past (port_at x) x.made (no_port_yet x kept) in
          let none : one (port_at x p) ≡ 0 = ap one (no_port_yet x kept) in
          ap₂ (λ (f : ℕ → Option Port) (k : ℕ). number_known f k) ports made ∙ omega (arith, more, past, none, kept.port_count, long);
      stored_count =
          let before = sym (messages_are (mail_of x) x.made x.sent (mail_made x)) ∙ kept.stored_count in
          let none : (mail_of x).at p ≡ None = mail_at x p ∙ ap (option_map (messages_in (stored_at x))) (no_port_yet x kept) in
          let more = queued_put (mail_of x) (mail_of y) p (Some []) p added_at (omega arith) (omega arith) in
          let nothing : length (messages_of ((mail_of x).at p)) ≡ 0 = ap (λ (o : Option (List Message)). length (messages_of o)) none in
          let past = queued_past (mail_of x) x.made none in
          let same : length y.stored_messages ≡ length x.stored_messages = ap length stored_messages in
          let held = ap (λ (f : ℕ → Option Message). number_known f x.sent) same_held in
          messages_are (mail_of y) y.made x.sent (mail_made y ∙ sent) ∙ ap (λ (k : ℕ). queued (mail_of y) k + number_known (mail_of y).kept x.sent) made ∙ omega (arith, before, more, nothing, past, same, held);
      few_ports = omega (arith, long, few);
      few_stored_messages = subst (λ (es : List (ℕ × StoredMessage)). length es ≤ 65536) (sym stored_messages) kept.few_stored_messages;
      names = subst (λ (z : PortNames). NamesDiffer z) (sym new_names) (still_differ port.name ((names_of x).made + 1) free);
    }

  -- how many ports there are
  pub count_ports : number_known (mail_of x).at (names_of x).made ≡ length x.ports
  count_ports = ap (number_known (mail_of x).at) (names_made x) ∙ number_same (mail_of x).at (port_at x) x.made (λ i le. ap is_some (mail_at x i) ∙ some_same (port_at x i)) ∙ kept.port_count
    where
      some_same : (o : Option Port) → is_some (option_map (messages_in (stored_at x)) o) ≡ is_some o
      some_same (Some port) = refl
      some_same None = refl

  pub ports_full : port_limit ≤ length x.ports → nat_le port_limit (number_known (mail_of x).at (names_of x).made) ≡ true
  ports_full full = le-leb port_limit _ (omega (arith, count_ports, full))

  pub ports_room : length x.ports < port_limit → nat_le port_limit (number_known (mail_of x).at (names_of x).made) ≡ false
  ports_room room = lt-leb port_limit _ (omega (arith, count_ports, room))

-- ---- a port without messages goes

module _ (x : PortsOf) (kept : PortsAreKept x) (y : PortsOf) (p : ℕ) (live : is_live (mail_of x) p ≡ true) (empty : messages_of ((mail_of x).at p) ≡ []) (ports : port_at y ≡ put (port_at x) p None) (long : length y.ports + (if is_some (port_at x p) then 1 else 0) ≡ length x.ports) (made : y.made ≡ x.made) (stored_messages : y.stored_messages ≡ x.stored_messages) (sent : y.sent ≡ x.sent) where
  gone_stored_messages : stored_at y ≡ stored_at x
  gone_stored_messages = ap (λ (es : List (ℕ × StoredMessage)). stored_in es) stored_messages

  gone_stays : (i : ℕ) → i ≢ p → (j : ℕ) → IsQueued i (stored_at x j) → stored_at y j ≡ stored_at x j
  gone_stays i apart j queued = ap (λ (f : StoredMessages). f j) gone_stored_messages

  gone_at : (mail_of y).at ≡ put (mail_of x).at p None
  gone_at = at_put x y kept p None ports gone_stays

  gone_held : (mail_of y).kept ≡ (mail_of x).kept
  unfolding mail_of
  gone_held = ap (λ (es : List (ℕ × StoredMessage)). (mail_of (record x { stored_messages = es })).kept) stored_messages

  pub gone_mail : mail_of y ≡ without_port p (mail_of x)
  gone_mail = mail_is (mail_of y) (without_port p (mail_of x)) gone_at gone_held (mail_made y ∙ sent ∙ sym (mail_made x))

  pub gone_names : names_of y ≡ port_removed p (names_of x)
  gone_names = names_is (names_of y) (port_removed p (names_of x)) (names_made y ∙ made ∙ sym (names_made x)) (names_put x y kept p None ports gone_stays)

  was_live : is_some (port_at x p) ≡ true
  was_live = some_in (port_at x p) (ap is_some (sym (mail_at x p)) ∙ live)
    where
      some_in : (o : Option Port) → is_some (option_map (messages_in (stored_at x)) o) ≡ true → is_some o ≡ true
      some_in (Some port) some = refl
      some_in None some = absurd (cc some)

  live_given : (o : Option Port) → PortIsKept (stored_at x) x.made p o → is_some o ≡ true → (0 < p) × (p ≤ x.made)
  live_given (Some port) given some = (given.0, given.1)
  live_given None given some = absurd (cc some)

  pub gone_kept : PortsAreKept y
  gone_kept =
      let number = live_given (port_at x p) (kept.ports p) was_live in
      let had : one (port_at x p) ≡ 1 = ap (λ (b : Bool). if b then 1 else 0) was_live in
      record {
        ports = ports_put x y kept p None ports gone_stays (omega (arith, made)) tt;
        stored_messages = subst (λ (f : StoredMessages). (n : ℕ) → StoredMessageIsKept y.sent n (f n)) (sym gone_stored_messages) (subst (λ (s : ℕ). (n : ℕ) → StoredMessageIsKept s n (stored_at x n)) (sym sent) kept.stored_messages);
        numbers = omega (arith, made, kept.numbers);
        port_count =
            let less = number_put (port_at x) p None x.made number.0 number.1 in
            ap₂ (λ (f : ℕ → Option Port) (k : ℕ). number_known f k) ports made ∙ omega (arith, less, had, kept.port_count, long);
        stored_count =
            let before = sym (messages_are (mail_of x) x.made x.sent (mail_made x)) ∙ kept.stored_count in
            let less = queued_put (mail_of x) (mail_of y) p None x.made gone_at number.0 number.1 in
            let nothing : length (messages_of ((mail_of x).at p)) ≡ 0 = ap length empty in
            let same : length y.stored_messages ≡ length x.stored_messages = ap length stored_messages in
            let held = ap (λ (f : ℕ → Option Message). number_known f x.sent) gone_held in
            messages_are (mail_of y) y.made x.sent (mail_made y ∙ sent) ∙ ap (λ (k : ℕ). queued (mail_of y) k + number_known (mail_of y).kept x.sent) made ∙ omega (arith, before, less, nothing, same, held);
        few_ports = omega (arith, long, kept.few_ports);
        few_stored_messages = subst (λ (es : List (ℕ × StoredMessage)). length es ≤ 65536) (sym stored_messages) kept.few_stored_messages;
        names = subst (λ (z : PortNames). NamesDiffer z) (sym gone_names) still_apart;
      }
    where
      still_apart : (name : List ℕ) (i j : ℕ) → has_name name (put (names_of x).names p None i) ≡ true → has_name name (put (names_of x).names p None j) ≡ true → i ≡ j
      still_apart name i j =
          put_by (λ (a : Option (List ℕ)). has_name name a ≡ true → has_name name (put (names_of x).names p None j) ≡ true → i ≡ j) (names_of x).names p None i
          (λ at none. absurd (cc none))
          (λ apart one. put_by (λ (b : Option (List ℕ)). has_name name b ≡ true → i ≡ j) (names_of x).names p None j
          (λ at none. absurd (cc none))
          (λ also other. kept.names name i j one other))

-- ---- no port was made

abbrev nothing : PortsOf
nothing = record { ports = []; stored_messages = []; made = 0; sent = 0 }

pub nothing_mail : mail_of nothing ≡ no_mail
unfolding mail_of entry_at stored_in
nothing_mail = refl

pub nothing_names : names_of nothing ≡ no_names
unfolding names_of entry_at
nothing_names = refl

pub nothing_kept : PortsAreKept nothing
unfolding mail_of names_of entry_at stored_in number_known queued
nothing_kept = record {
  ports = λ p. tt;
  stored_messages = λ n. tt;
  numbers = omega arith;
  port_count = refl;
  stored_count = refl;
  few_ports = omega arith;
  few_stored_messages = omega arith;
  names = λ name p q none other. absurd (cc none);
}
