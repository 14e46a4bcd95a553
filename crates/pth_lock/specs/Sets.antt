-- Sets of objects, of which bit k stands for object k.
use Rattle.std.specs.Prelude.{ℕ, ◌==◌, Bool, if◌then◌else◌, List}
use Rattle.std.specs.Int.{bit_at}
use Rattle.pth_base.specs.Table.{table}

-- whether an object is in a set
abbrev pub contains : ℕ → ℕ → Bool
contains set k = bit_at set k == 1

-- whether an object is in the set of a slot, of those in a list by slot
abbrev pub is_in_set : List ℕ → (slot object : ℕ) → Bool
is_in_set sets s k = contains (table 0 sets s) k

-- a table after each object of a set was changed
abbrev pub changed_in : {A : Type 0} → (A → A) → (ℕ → Bool) → (ℕ → A) → ℕ → A
changed_in change set f k = if set k then change (f k) else f k
