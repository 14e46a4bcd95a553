-- What a change of a map makes of the tables that are had of it.
use Rattle.std.proofs.Common.{◌≡◌, ℕ, true, false, if◌then◌else◌, ◌++◌, ◌∷◌, [], List, map, Option, Some, None, IsSome, is_some, option_map, refl, sym, ◌∙◌, ap, drop, length, get_or, Bor, ◌<◌, arith}
use Rattle.std.specs.Option.{option_to_list, IfSome, option_copied}
use Rattle.std.specs.Ordering.{nat_cmp}
use Rattle.std.specs.BTreeMap as tree
use Rattle.std.specs.BTreeMap.{BTreeMap}
use Rattle.std.specs.declared.collections.VecDeque.{VecDeque}
use Rattle.std.proofs.lemmas.List.{map_push}
use Rattle.pth_base.specs.Table.{put}
use Rattle.pth_base.proofs.Lists.{put_none, ap_put}
use Rattle.pth_port.specs.Mail.{Message, messages_of}
use Rattle.pth_port.specs.Ports.{entry_at}
use Rattle.pth_port.proofs.Lookups.{entry_put}
use Rattle.pth_audit.specs.declared.mailboxes.StoredMessage.{StoredMessage}
use Rattle.pth_audit.specs.Mailboxes.{message_of, messages_in, queues_of, kept_of, sent_at, first, without_first}

pub some_map : {A B : Type 0} (g : A → B) (o : Option A) → is_some (option_map g o) ≡ is_some o
some_map g None = refl
some_map g (Some a) = refl

module _ {A B : Type 0} (g : A → B) where
  -- what entries have under a number, as another table has it
  pub put_entry : (m n : BTreeMap ℕ A) (k : ℕ) (w : Option A) → tree.Updates nat_cmp m n k w → (λ (i : ℕ). option_map g (entry_at n.entries i)) ≡ put (λ (i : ℕ). option_map g (entry_at m.entries i)) k (option_map g w)
  put_entry m n k w up =
      ap {B = ℕ → Option B} (λ (f : ℕ → Option A) (i : ℕ). option_map g (f i)) (entry_put m n k w up) ∙ ap_put (option_map g) (entry_at m.entries) k w

sent_there : (f : ℕ → Option (List Message)) (p : ℕ) (m : Message) (ms : List Message) → f p ≡ Some ms → put f p (Some (ms ++ m ∷ [])) ≡ sent_at p m f
sent_there f p m ms is =
    sym (ap (λ (o : Option (List Message)). if is_some o then put f p (Some (messages_of o ++ m ∷ [])) else f) is)

module _ {Z : Type 0} where
  -- what the entries of queues have under a number
  pub queue_at : (m : BTreeMap ℕ (VecDeque StoredMessage Z)) (k : ℕ) (o : Option (VecDeque StoredMessage Z)) → o ≡ tree.get nat_cmp m k → option_map messages_in o ≡ queues_of m.entries k
  unfolding entry_at
  queue_at m k o is = ap (option_map messages_in) is

  pub queues_put : (m n : BTreeMap ℕ (VecDeque StoredMessage Z)) (k : ℕ) (w : Option (VecDeque StoredMessage Z)) → tree.Updates nat_cmp m n k w → queues_of n.entries ≡ put (queues_of m.entries) k (option_map messages_in w)
  queues_put m n k w up = put_entry messages_in m n k w up

  -- a message was written last into the queue that was there
  pub sent_written : (m n : BTreeMap ℕ (VecDeque StoredMessage Z)) (k : ℕ) (v w : VecDeque StoredMessage Z) (l : StoredMessage) → tree.WritesThrough nat_cmp (nat_cmp k) m w n → Some v ≡ tree.get nat_cmp m k → w.items ≡ v.items ++ l ∷ [] → queues_of n.entries ≡ sent_at k (message_of l) (queues_of m.entries)
  sent_written m n k v w l writes was items =
      let found : IsSome (tree.get nat_cmp m k) = ap is_some (sym was) in
      queues_put m n k (Some w) (writes.3 found)
      ∙ ap (λ (ms : List Message). put (queues_of m.entries) k (Some ms)) (ap (map message_of) items ∙ map_push message_of v.items l)
      ∙ sent_there (queues_of m.entries) k (message_of l) (messages_in v) (sym (queue_at m k (Some v) was))

  -- there was none
  pub sent_nowhere : (m n : BTreeMap ℕ (VecDeque StoredMessage Z)) (k : ℕ) (l : StoredMessage) → n ≡ m → None ≡ tree.get nat_cmp m k → queues_of n.entries ≡ sent_at k (message_of l) (queues_of m.entries)
  sent_nowhere m n k l same was =
      ap (λ (x : BTreeMap ℕ (VecDeque StoredMessage Z)). queues_of x.entries) same
      ∙ sym (ap (λ (o : Option (List Message)). if is_some o then put (queues_of m.entries) k (Some (messages_of o ++ message_of l ∷ [])) else queues_of m.entries) (sym (queue_at m k None was)))

-- ---- the oldest message

-- it is taken of a queue, or the queue has none
pub first_taken : (ls ws : List StoredMessage) (o : Option StoredMessage) → ls ≡ option_to_list o ++ ws → ws ≡ drop 1 ls → option_map message_of o ≡ first (map message_of ls)
first_taken [] ws None is rest = refl
first_taken [] ws (Some l) is rest = absurd (cc is)
first_taken (x ∷ xs) ws None is rest =
    let same : x ∷ xs ≡ xs = is ∙ rest in
    absurd (omega (arith, ap length same))
first_taken (x ∷ xs) ws (Some l) is rest = let same : x ≡ l = cc is in ap (λ (y : StoredMessage). Some (message_of y)) (sym same)

pub rest_taken : (f : ℕ → Option (List Message)) (p : ℕ) (ls ws : List StoredMessage) → f p ≡ Some (map message_of ls) → ws ≡ drop 1 ls → put f p (Some (map message_of ws)) ≡ without_first p (map message_of ls) f
rest_taken f p [] ws is rest = put_none f p (Some (map message_of ws)) (is ∙ ap (λ (ys : List StoredMessage). Some (map message_of ys)) (sym rest))
rest_taken f p (x ∷ xs) ws is rest = ap (λ (ys : List StoredMessage). put f p (Some (map message_of ys))) rest

module _ {Z : Type 0} where
  pub messages_at : (m : BTreeMap ℕ (VecDeque StoredMessage Z)) (k : ℕ) (o : Option (VecDeque StoredMessage Z)) → o ≡ tree.get nat_cmp m k → messages_of (option_map messages_in o) ≡ messages_of (queues_of m.entries k)
  messages_at m k o is = ap messages_of (queue_at m k o is)

  pub first_written : (m n : BTreeMap ℕ (VecDeque StoredMessage Z)) (k : ℕ) (v w : VecDeque StoredMessage Z) → tree.WritesThrough nat_cmp (nat_cmp k) m w n → Some v ≡ tree.get nat_cmp m k → w.items ≡ drop 1 v.items → queues_of n.entries ≡ without_first k (messages_of (queues_of m.entries k)) (queues_of m.entries)
  first_written m n k v w writes was rest =
      let found : IsSome (tree.get nat_cmp m k) = ap is_some (sym was) in
      queues_put m n k (Some w) (writes.3 found)
      ∙ rest_taken (queues_of m.entries) k v.items w.items (sym (queue_at m k (Some v) was)) rest
      ∙ ap (λ (ms : List Message). without_first k ms (queues_of m.entries)) (messages_at m k (Some v) was)

  pub first_nowhere : (m n : BTreeMap ℕ (VecDeque StoredMessage Z)) (k : ℕ) → n ≡ m → None ≡ tree.get nat_cmp m k → queues_of n.entries ≡ without_first k (messages_of (queues_of m.entries k)) (queues_of m.entries)
  first_nowhere m n k same was =
      ap (λ (x : BTreeMap ℕ (VecDeque StoredMessage Z)). queues_of x.entries) same
      ∙ ap (λ (ms : List Message). without_first k ms (queues_of m.entries)) (messages_at m k None was)

-- ---- messages that are kept

pub kept_put : (m n : BTreeMap ℕ StoredMessage) (k : ℕ) (w : Option StoredMessage) → tree.Updates nat_cmp m n k w → kept_of n.entries ≡ put (kept_of m.entries) k (option_map message_of w)
kept_put m n k w up = put_entry message_of m n k w up

pub kept_at : (m : BTreeMap ℕ StoredMessage) (k : ℕ) (o : Option StoredMessage) → o ≡ tree.get nat_cmp m k → option_map message_of o ≡ kept_of m.entries k
unfolding entry_at
kept_at m k o is = ap (option_map message_of) is

-- no message is queued at a port, and none is kept
pub no_queues : {Z : Type 0} (m : BTreeMap ℕ (VecDeque StoredMessage Z)) → m.entries ≡ [] → (λ (i : ℕ). None) ≡ queues_of m.entries
unfolding entry_at
no_queues {Z = Z} m none = ap (λ (es : List (ℕ × VecDeque StoredMessage Z)). queues_of es) (sym none)

pub none_kept : (m : BTreeMap ℕ StoredMessage) → m.entries ≡ [] → (λ (n : ℕ). None) ≡ kept_of m.entries
unfolding entry_at
none_kept m none = ap (λ (es : List (ℕ × StoredMessage)). kept_of es) (sym none)

-- ---- what is seen of a queue

pub first_seen : (ls : List StoredMessage) (o : Option (Bor StoredMessage)) → (IsSome o → 0 < length ls) → (0 < length ls → IsSome o) → IfSome o (λ (x : Bor StoredMessage). x.now ≡ get_or ls 0 x.now) → option_map message_of (option_copied o) ≡ first (map message_of ls)
first_seen [] None some there is = refl
first_seen [] (Some x) some there is = absurd (omega (arith, some refl))
first_seen (l ∷ ls) None some there is = let got : false ≡ true = there (omega arith) in absurd (cc got)
first_seen (l ∷ ls) (Some x) some there is = ap (λ (y : StoredMessage). Some (message_of y)) is
