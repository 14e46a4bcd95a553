-- Things by slot, with an index from their numbers to slots.
use Rattle.std.specs.Prelude.{◌≡◌, ◌≢◌, ◌+◌, ◌<◌, ◌≤◌, ℕ, zero, suc, List, Option, Some, None, IsSome, is_some, count_by, slice_set, if◌then◌else◌}
use Rattle.std.specs.Ordering.{nat_cmp}
use Rattle.std.specs.BTreeMap.{is_at}
use Rattle.std.specs.Map.{lookup}
use Rattle.pth_base.specs.Limits.{thread_limit}
use Rattle.pth_base.specs.Table.{put, table}
use Rattle.pth_base.specs.Naming.{IsTied, seen}
use Rattle.pth_numbered.specs.declared.numbered.Record.{Record}

-- the things with their numbers by slot, the slots by number, how many were ever added, and how many there may be at once
pub record NumberedOf (A : Type 0) : Type 0 where
  pub slots : List (Option (Record A))
  pub index : List (ℕ × ℕ)
  pub made : ℕ
  pub limit : ℕ

-- how many of the first n numbers have a value
unfoldable pub number_known : {A : Type 0} → (ℕ → Option A) → ℕ → ℕ
number_known f zero = 0
number_known f (suc n) = (if is_some (f (suc n)) then 1 else 0) + number_known f n

module _ {A : Type 0} where
  -- the record at a slot
  abbrev pub record_at : NumberedOf A → ℕ → Option (Record A)
  record_at x u = table None x.slots u

  -- the thing of a record
  abbrev pub thing_of : Option (Record A) → Option A
  thing_of (Some r) = Some r.thing
  thing_of None = None

  -- the number of a record, 0 where there is none
  abbrev pub number_in_record : Option (Record A) → ℕ
  number_in_record (Some r) = r.number
  number_in_record None = 0

  -- a record with another thing
  abbrev pub exchanged : A → Option (Record A) → Option (Record A)
  exchanged a (Some r) = Some (record r { thing = a })
  exchanged a None = None

  -- the thing at a slot
  unfoldable pub thing_at : NumberedOf A → ℕ → Option A
  thing_at x u = thing_of (record_at x u)

  -- the number of the thing at a slot, 0 where the slot is not in use
  unfoldable pub number_at : NumberedOf A → ℕ → ℕ
  number_at x u = number_in_record (record_at x u)

  -- the slot of the thing with a number
  unfoldable pub slot_of : NumberedOf A → ℕ → Option ℕ
  slot_of x n = lookup (is_at (nat_cmp n)) x.index

  -- how many things there are
  unfoldable pub count : NumberedOf A → ℕ
  count x = count_by is_some x.slots

  -- another thing at a slot in use
  unfoldable pub with_thing : NumberedOf A → ℕ → A → NumberedOf A
  with_thing x u a = record x { slots = slice_set x.slots u (exchanged a (record_at x u)) }

-- what holds of numbered things at every moment
pub record IsKept {A : Type 0} (x : NumberedOf A) : Type 0 where
  pub tied : IsTied (slot_of x) (number_at x)
  -- no thing has a number that is still to come
  pub fresh : (n : ℕ) → x.made < n → slot_of x n ≡ None
  -- there are at most as many as there may be
  pub few : count x ≤ x.limit
  -- each slot in use is below the limit
  pub low : (u : ℕ) → number_at x u ≢ 0 → u < x.limit
  -- no limit is beyond that of threads
  pub most : x.limit ≤ thread_limit
  -- a slot that is not in use has no thing, and one in use has one
  pub empty : (u : ℕ) → number_at x u ≡ 0 → thing_at x u ≡ None
  pub full : (u : ℕ) → number_at x u ≢ 0 → IsSome (thing_at x u)
  -- the things are counted by slot as by number
  pub counted : number_known (seen None (slot_of x) (thing_at x)) x.made ≡ count x

-- one more thing, with the next number, at a slot that was not in use
pub record Adds {A : Type 0} (old new : NumberedOf A) (u : ℕ) (a : A) : Type 0 where
  pub unused : number_at old u ≡ 0
  pub unknown : slot_of old (old.made + 1) ≡ None
  pub low : u < old.limit
  pub slots : slot_of new ≡ put (slot_of old) (old.made + 1) (Some u)
  pub numbers : number_at new ≡ put (number_at old) u (old.made + 1)
  pub things : thing_at new ≡ put (thing_at old) u (Some a)
  pub count : count new ≡ count old + 1
  pub made : new.made ≡ old.made + 1
  pub limit : new.limit ≡ old.limit

-- another thing stands at a slot in use
pub record Changes {A : Type 0} (old new : NumberedOf A) (u : ℕ) (a : A) : Type 0 where
  pub slots : slot_of new ≡ slot_of old
  pub numbers : number_at new ≡ number_at old
  pub things : thing_at new ≡ put (thing_at old) u (Some a)
  pub count : count new ≡ count old
  pub made : new.made ≡ old.made
  pub limit : new.limit ≡ old.limit

-- a thing is gone, and its slot is not in use
pub record Removes {A : Type 0} (old new : NumberedOf A) (u : ℕ) : Type 0 where
  pub slots : slot_of new ≡ put (slot_of old) (number_at old u) None
  pub numbers : number_at new ≡ put (number_at old) u 0
  pub things : thing_at new ≡ put (thing_at old) u None
  pub count : count new + 1 ≡ count old
  pub made : new.made ≡ old.made
  pub limit : new.limit ≡ old.limit
