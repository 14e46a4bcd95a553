-- The order of a queue, told by ranks and entries: not by how one standing is put behind another.
use Rattle.std.specs.Prelude.{◌≡◌, ℕ, ◌+◌, ◌<◌, ◌≤◌, ◌==◌, true, ◌<ℤ◌, ◌⊎◌, ◌↔◌, List, map, All, AllPairs, Contains, count_by}
use Rattle.std.specs.List.Sorted.{IsPermutation}
use Rattle.pth_queue.specs.declared.ranked.Ranked.{Ranked}
use Rattle.pth_queue.specs.declared.queue.Queue.{Queue}
use Rattle.pth_queue.specs.declared.queue.Queue.TheVariants.{New, Ready, Waiting, Suspended, Dead}
use Rattle.pth_model.specs.Standing.{Standing, rank_now, row_at, raises_of}
use Rattle.pth_model.specs.State.{Control, queue}
use Rattle.pth_model.specs.Changes.{holders}
use Rattle.pth_model.specs.Course.{Course}
use Rattle.pth_model.specs.Part.{Take, next_part}

-- x has a greater rank than y, after so many raises
abbrev pub IsAbove : ℕ → Standing → Standing → Type 0
IsAbove raises x y = rank_now raises y <ℤ rank_now raises x

-- x stands before y: it has a greater rank, or an equal rank and the earlier entry
abbrev pub StandsBefore : ℕ → Standing → Standing → Type 0
StandsBefore raises x y = IsAbove raises x y ⊎ ((rank_now raises x ≡ rank_now raises y) × (x.entry < y.entry))

-- these rows are those of all the standings, each of them once and in order
pub record IsOrderOf (raises : ℕ) (all : List Standing) (rows : List Ranked) : Type 0 where
  -- whose rows they are
  pub places : List Standing
  pub shows : rows ≡ map (row_at raises) places
  pub each_once : IsPermutation all places
  pub in_order : AllPairs (StandsBefore raises) places

-- every entry was counted, and those that are counted later have greater numbers: the latest is listed first
pub record IsNumbered (entries : ℕ) (all : List Standing) : Type 0 where
  pub counted : All (λ x. x.entry < entries) all
  pub falling : AllPairs (λ x y. y.entry < x.entry) all

-- one that entered at Top is above all that entered before it
abbrev pub IsTopped : ℕ → List Standing → Type 0
IsTopped raises all = (x y : Standing) → Contains all x → Contains all y → x.top ≡ true → y.entry < x.entry → IsAbove raises x y

-- how often thread t stands here
abbrev pub stands : ℕ → List Standing → ℕ
stands t all = count_by (λ x. x.tid == t) all

-- how often thread t stands in the queues
abbrev pub times_listed : ℕ → (Queue → List Standing) → ℕ
times_listed t all = stands t (all New) + stands t (all Ready) + stands t (all Waiting) + stands t (all Suspended) + stands t (all Dead)

module _ {P S H : Type 0} (k : Control P S H) where
  -- no thread stands in two places
  abbrev pub IsOnce : Type 0
  IsOnce = (t : ℕ) → times_listed t k.threads.standing ≤ 1

  -- a queue shows who stands in it, in order
  abbrev pub IsInOrder : Queue → Type 0
  IsInOrder q = IsOrderOf (raises_of k.threads.raises q) (k.threads.standing q) (queue k q)

  -- the entries into a queue are numbered as they came
  abbrev pub AreEntriesNumbered : Queue → Type 0
  AreEntriesNumbered q = IsNumbered k.threads.entries (k.threads.standing q)

  -- two queues have no number of an entry in common
  abbrev pub ShareNoEntry : (p q : Queue) → Type 0
  ShareNoEntry p q = (x y : Standing) → Contains (k.threads.standing p) x → Contains (k.threads.standing q) y → x.entry ≡ y.entry → p ≡ q

  -- a new thread that entered a queue at Top stands before all that were there
  abbrev pub IsTopAhead : Queue → Type 0
  IsTopAhead q = IsTopped (raises_of k.threads.raises q) (k.threads.standing q)

module _ {P S H : Type 0} (c : Course P S H) where
  -- in the next part t becomes ready as a new thread, and new threads are favoured
  pub record IsFavoured (t : ℕ) : Type 0 where
    pub taken : next_part c.state c.turn ≡ Take
    pub new : Contains (holders (queue c.state.control New)) t
    pub favoured : c.state.control.scheduler.favour_new ≡ true

  -- who is in a queue after the next part, and entered it in that part, entered at Top exactly as a new thread that is favoured
  abbrev pub AreTopsFavoured : Control P S H → Queue → Type 0
  AreTopsFavoured after q = (x : Standing) → Contains (after.threads.standing q) x → c.state.control.threads.entries ≤ x.entry → (x.top ≡ true ↔ IsFavoured x.tid)
