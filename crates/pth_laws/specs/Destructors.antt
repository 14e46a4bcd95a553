-- Which destructor of a thread is the next one that is due, told by keys and values alone (pth_key_create).
use Rattle.std.specs.Prelude.{◌≡◌, ◌⊎◌, ◌≤◌, ◌<◌, ◌+◌, ℕ, ℤ, false, Some}
use Rattle.pth_base.specs.declared.ids.HandlerId.{HandlerId}
use Rattle.pth_store.specs.Keys.{Tables, key_limit, is_unset}
use Rattle.pth_model.specs.declared.destructors.Due.{Due}
use Rattle.pth_model.specs.declared.destructors.DestructorRound.{DestructorRound}
use Rattle.pth_model.specs.Ending.{round_limit}

module _ (x : Tables) (t : ℕ) where
  -- a key is live with a destructor, and t has a value under it that is not 0
  pub record Owes (key : ℕ) (h : HandlerId) (v : ℤ) : Type 0 where
    pub live : x.keys key ≡ Some (Some h)
    pub value : x.values key t ≡ v
    pub set : is_unset v ≡ false

  -- no key from one number up to another owes t a destructor
  abbrev pub NoneOwes : (from below : ℕ) → Type 0
  NoneOwes from below = (key : ℕ) (h : HandlerId) (v : ℤ) → from ≤ key → key < below → Owes key h v → ⊥

  -- the least key from a number on that owes t its destructor; the round goes on behind it
  pub record IsFirst (from : ℕ) (d : Due) : Type 0 where
    pub low : from ≤ d.key
    pub high : d.key < key_limit
    pub owes : Owes d.key d.handler d.value
    pub least : NoneOwes from d.key
    pub behind : d.round.from ≡ d.key + 1

  -- one more round begins, if none is due any more in this one and fewer than four began
  pub record IsOfNextRound (r : DestructorRound) (d : Due) : Type 0 where
    pub over : NoneOwes r.from key_limit
    pub fewer : r.number < round_limit
    pub first : IsFirst 0 d
    pub more : d.round.number ≡ r.number + 1

  -- the next destructor: the first of this round, else the first of the next
  abbrev pub IsNextDue : DestructorRound → Due → Type 0
  IsNextDue r d = (IsFirst r.from d × (d.round.number ≡ r.number)) ⊎ IsOfNextRound r d

  -- none is due: neither in this round, nor in another that might begin
  abbrev pub IsNoneDue : DestructorRound → Type 0
  IsNoneDue r = NoneOwes r.from key_limit × ((round_limit ≤ r.number) ⊎ NoneOwes 0 key_limit)
