-- Walks through the messages of a queue.
use Rattle.std.proofs.Common.{◌≡◌, ◌≢◌, ℕ, zero, suc, ◌≤◌, List, [], ◌∷◌, ◌++◌, Option, Some, None, option_map, refl, sym, ◌∙◌, ap, ap₂, subst, arith}
use Rattle.pth_port.specs.Mail.{Message}
use Rattle.pth_port.specs.Ports.{next_of, message_of, walk, messages_in, IsQueued, IsApart, IsLine, PortIsKept}
use Rattle.pth_port.specs.declared.entries.Port.{Port}
use Rattle.pth_port.specs.declared.stored_messages.StoredMessage.{StoredMessage}

-- the messages by number
abbrev pub StoredMessages : Type 0
StoredMessages = ℕ → Option StoredMessage

-- ---- another table that has the same along a walk

abbrev pub Agrees : (f g : StoredMessages) → (count first : ℕ) → Type 0
Agrees f g zero n = Unit {0}
Agrees f g (suc k) n = (g n ≡ f n) × Agrees f g k (next_of (f n))

module _ (f g : StoredMessages) where
  pub walk_same : (k n : ℕ) → Agrees f g k n → walk g k n ≡ walk f k n
  walk_same zero n same = refl
  walk_same (suc k) n same = ap₂ (λ (o : Option StoredMessage) (ms : List Message). message_of n o ∷ ms) same.0 (ap (λ (o : Option StoredMessage). walk g k (next_of o)) same.0 ∙ walk_same k (next_of (f n)) same.1)

  apart_same : (m k n : ℕ) → Agrees f g k n → IsApart f m k n → IsApart g m k n
  apart_same m zero n same apart = tt
  apart_same m (suc k) n same apart = (apart.0, subst (λ (o : Option StoredMessage). IsApart g m k (next_of o)) (sym same.0) (apart_same m k (next_of (f n)) same.1 apart.1))

  pub line_same : (p last k n : ℕ) → Agrees f g k n → IsLine f p last k n → IsLine g p last k n
  line_same p last zero n same line = tt
  line_same p last (suc k) n same line = (
    subst (IsQueued p) (sym same.0) line.0,
    subst (λ (o : Option StoredMessage). IsApart g n k (next_of o)) (sym same.0) (apart_same n k (next_of (f n)) same.1 line.1),
    line.2,
    subst (λ (o : Option StoredMessage). IsLine g p last k (next_of o)) (sym same.0) (line_same p last k (next_of (f n)) same.1 line.3),
  )

  -- what is queued at a port is the same
  pub agrees_queued : (p last k n : ℕ) → ((j : ℕ) → IsQueued p (f j) → g j ≡ f j) → IsLine f p last k n → Agrees f g k n
  agrees_queued p last zero n same line = tt
  agrees_queued p last (suc k) n same line = (same n line.0, agrees_queued p last k (next_of (f n)) same line.3)

  -- all but one is the same, and that one is no part of it
  pub agrees_apart : (m k n : ℕ) → ((j : ℕ) → j ≢ m → g j ≡ f j) → IsApart f m k n → Agrees f g k n
  agrees_apart m zero n same apart = tt
  agrees_apart m (suc k) n same apart = (same n apart.0, agrees_apart m k (next_of (f n)) same apart.1)

  -- ---- the queues of other ports

  module _ (p : ℕ) (same : (j : ℕ) → IsQueued p (f j) → g j ≡ f j) where
    pub messages_same : (made : ℕ) (o : Option Port) → PortIsKept f made p o → option_map (messages_in g) o ≡ option_map (messages_in f) o
    messages_same made (Some port) kept =
        let queue = port.queue in
        ap Some (walk_same queue.length queue.first (agrees_queued p queue.last queue.length queue.first same kept.2))
    messages_same made None kept = refl

    pub port_same : (made more : ℕ) (o : Option Port) → made ≤ more → PortIsKept f made p o → PortIsKept g more p o
    port_same made more (Some port) le kept =
        let queue = port.queue in
        (kept.0, le_trans kept.1 le, line_same p queue.last queue.length queue.first (agrees_queued p queue.last queue.length queue.first same kept.2) kept.2)
      where
        le_trans : {i j k : ℕ} → i ≤ j → j ≤ k → i ≤ k
        le_trans a b = omega arith
    port_same made more None le kept = tt

-- ---- one more message, which stands behind the last

module _ (f g : StoredMessages) (p last m : ℕ) (others : (j : ℕ) → IsQueued p (f j) → j ≢ last → g j ≡ f j) (free : IsQueued p (f m) → ⊥) (here : IsQueued p (g m)) (there : IsQueued p (g last)) (same : message_of last (g last) ≡ message_of last (f last)) (next : next_of (g last) ≡ m) where
  behind : (n : ℕ) → n ≡ last → next_of (g n) ≡ m
  behind n is = ap (λ (i : ℕ). next_of (g i)) is ∙ next

  not_new : (n : ℕ) → IsQueued p (f n) → n ≢ m
  not_new n queued is = free (subst (λ (i : ℕ). IsQueued p (f i)) is queued)

  apart_more : (x k n : ℕ) → m ≢ x → IsLine f p last (suc k) n → IsApart f x (suc k) n → IsApart g x (suc (suc k)) n
  apart_more x zero n new line apart = (apart.0, (λ is. new (sym (behind n line.2) ∙ is), tt))
  apart_more x (suc k) n new line apart =
      let kept = others n line.0 line.2 in
      (apart.0, subst (λ (o : Option StoredMessage). IsApart g x (suc (suc k)) (next_of o)) (sym kept) (apart_more x k (next_of (f n)) new line.3 apart.1))

  pub line_more : (k n : ℕ) → IsLine f p last (suc k) n → IsLine g p m (suc (suc k)) n
  line_more zero n line =
      let at = behind n line.2 in (
        subst (λ (i : ℕ). IsQueued p (g i)) (sym line.2) there,
        (λ is. not_new n line.0 (sym is ∙ at), tt),
        not_new n line.0,
        (subst (λ (i : ℕ). IsQueued p (g i)) (sym at) here, tt, at, tt),
      )
  line_more (suc k) n line =
      let kept = others n line.0 line.2 in (
        subst (IsQueued p) (sym kept) line.0,
        subst (λ (o : Option StoredMessage). IsApart g n (suc (suc k)) (next_of o)) (sym kept) (apart_more n k (next_of (f n)) (λ is. not_new n line.0 (sym is)) line.3 line.1),
        not_new n line.0,
        subst (λ (o : Option StoredMessage). IsLine g p m (suc (suc k)) (next_of o)) (sym kept) (line_more k (next_of (f n)) line.3),
      )

  pub walk_more : (k n : ℕ) → IsLine f p last (suc k) n → walk g (suc (suc k)) n ≡ walk f (suc k) n ++ (message_of m (g m) ∷ [])
  walk_more zero n line =
      let at = behind n line.2 in
      let one : message_of n (g n) ≡ message_of n (f n) = subst (λ (i : ℕ). message_of i (g i) ≡ message_of i (f i)) (sym line.2) same in
      ap₂ (λ (a b : Message). a ∷ b ∷ []) one (ap (λ (i : ℕ). message_of i (g i)) at)
  walk_more (suc k) n line =
      let kept = others n line.0 line.2 in
      ap₂ (λ (o : Option StoredMessage) (ms : List Message). message_of n o ∷ ms) kept (ap (λ (o : Option StoredMessage). walk g (suc (suc k)) (next_of o)) kept ∙ walk_more k (next_of (f n)) line.3)

-- ---- the first is taken

module _ (f g : StoredMessages) (p last k n : ℕ) (line : IsLine f p last (suc k) n) (others : (j : ℕ) → j ≢ n → g j ≡ f j) where
  pub line_less : IsLine g p last k (next_of (f n))
  line_less = line_same f g p last k (next_of (f n)) (agrees_apart f g n k (next_of (f n)) others line.1) line.3

  pub walk_less : walk g k (next_of (f n)) ≡ walk f k (next_of (f n))
  walk_less = walk_same f g k (next_of (f n)) (agrees_apart f g n k (next_of (f n)) others line.1)
