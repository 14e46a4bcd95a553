-- What is kept for the waits of the ready threads is what the trail tells of them.
use Rattle.std.specs.Prelude.{◌≡◌, ℕ, ◌+◌, ◌%◌, ◌<◌, ◌≤◌, true, false, List, [], ◌∷◌, Option, Some, All, length, drop}
use Rattle.pth_base.specs.Limits.{thread_limit}
use Rattle.pth_model.specs.Standing.{Standing}
use Rattle.pth_model.specs.Allowance.{Point, has_entry, points, waited, grace, beyond, new_at_top}
use Rattle.pth_model.specs.Order.{IsNumbered, stands}
use Rattle.pth_tables.specs.Waits.{WaitsOf, words}

-- two numbers of which the last 64 bits are the same
abbrev pub AreSameWord : ℕ → ℕ → Type 0
AreSameWord a b = a % words ≡ b % words

-- who was ready at the last dispatch
abbrev pub last_ready : List Point → List Standing
last_ready [] = []
last_ready (p ∷ []) = p.ready
last_ready (p ∷ q ∷ ps) = last_ready (q ∷ ps)

-- it stood at the last dispatch, if it stood at any
abbrev pub Lasts : List Point → Standing → Type 0
Lasts trail s = 0 < length (points s.entry trail) → has_entry s.entry (last_ready trail) ≡ true

-- slot: of each thread
module _ (slot : ℕ → Option ℕ) (x : WaitsOf) (trail : List Point) where
  -- What is kept of a ready thread. Its points are the dispatches since it entered.
  pub record IsCounted (s : Standing) : Type 0 where
    pub at : ℕ
    pub has_slot : slot s.tid ≡ Some at
    pub since : length (points s.entry trail) + (x.waits at).entered ≡ x.dispatches
    -- at each of them another was taken
    pub others : waited trail s ≡ length (points s.entry trail)
    pub lasts : Lasts trail s
    pub first : (x.waits at).grace ≡ grace x.top s.rank
    pub favoured : (x.waits at).top ≡ s.top
    -- past its grace, its number and both totals are what may come before it besides
    pub later : grace x.top s.rank < length (points s.entry trail) → AreSameWord ((x.waits at).number + (x.named + x.tops)) (beyond s (drop (grace x.top s.rank) (points s.entry trail)))

  pub record Counts (ready : List Standing) (entries : ℕ) : Type 0 where
    pub numbered : IsNumbered entries ready
    pub once : (t : ℕ) → stands t ready ≤ 1
    -- whoever enters from now on stood nowhere before
    pub past : (e : ℕ) → entries ≤ e → All (λ p. has_entry e p.ready ≡ false) trail
    pub dispatches : x.dispatches ≡ length trail
    pub pending : AreSameWord x.pending (new_at_top (last_ready trail) ready)
    pub counted : All IsCounted ready
    -- few stood at each dispatch
    pub few : All (λ p. length p.ready ≤ thread_limit) trail
