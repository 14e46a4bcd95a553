-- Key-based storage: which keys are live, and the value that each slot has under each key (pth_key_create, pth_key_delete,
-- pth_key_setdata, pth_key_getdata).
use Rattle.std.specs.Prelude.{◌≡◌, ℕ, ◌-◌, ◌==◌, ℤ, pos, negsuc, Bool, false, not, if◌then◌else◌, List, [], length, map, find, filter_map, Vec, Option, Some, None, is_some, is_none, Result, Ok, Err}
use Rattle.std.specs.Global.{Global}
use Rattle.std.specs.List.{range_with_len, slice_get}
use Rattle.std.specs.Option.{ok_or}
use Rattle.pth_base.specs.Table.{put, table}
use Rattle.pth_base.specs.declared.errno.Errno.{Errno}
use Rattle.pth_base.specs.declared.errno.Errno.TheVariants.{EAGAIN, ENOENT}
use Rattle.pth_base.specs.declared.ids.HandlerId.{HandlerId}

-- what is stored
pub record Tables : Type 0 where
  -- the destructor of a live key, if it has one; a free key has none of these
  pub keys : ℕ → Option (Option HandlerId)
  -- the value of a slot under a key, 0 where none was set
  pub values : (key slot : ℕ) → ℤ

-- how many keys there may be at once (PTH_KEY_MAX)
abbrev pub key_limit : ℕ
key_limit = 256

-- the key that an operand names: a negative one names none
abbrev pub key_named : ℤ → ℕ
key_named (pos k) = k
key_named (negsuc k) = key_limit

-- ---- tests

-- a key is live
abbrev pub is_key : Tables → ℕ → Bool
is_key x k = is_some (x.keys k)

abbrev pub is_unset : ℤ → Bool
is_unset (pos n) = n == 0
is_unset (negsuc n) = false

-- the keys from a number on
abbrev pub keys_from : ℕ → List ℕ
keys_from k = range_with_len k (key_limit - k)

-- the least free key
abbrev pub free_key : Tables → Option ℕ
free_key x = find (λ k. is_none (x.keys k)) (keys_from 0)

-- a key with its destructor and a value that the destructor is owed: one that is not 0
abbrev pub owed : ℕ → Option (Option HandlerId) → ℤ → Option (ℕ × HandlerId × ℤ)
owed k (Some (Some h)) v = if is_unset v then None else Some (k, h, v)
owed k (Some None) v = None
owed k None v = None

-- what the destructor of a key is owed for a slot
abbrev pub owed_for : Tables → ℕ → ℕ → Option (ℕ × HandlerId × ℤ)
owed_for x s k = owed k (x.keys k) (x.values k s)

-- the first key from a number on whose destructor is owed a value for a slot, with both
abbrev pub first_live : Tables → ℕ → ℕ → Option (ℕ × HandlerId × ℤ)
first_live x s from = slice_get (filter_map (owed_for x s) (keys_from from)) 0

-- ---- answers: the tests stand in order, and the first that holds is the answer

-- a key is made: the least that is free
abbrev pub key_create_answer : Tables → Result ℕ Errno
key_create_answer x = ok_or (free_key x) EAGAIN

-- a key is deleted
abbrev pub key_delete_answer : Tables → ℤ → Result (Unit {0}) Errno
key_delete_answer x k =
    if not (is_key x (key_named k)) then Err ENOENT else
    Ok tt

-- a value is set
abbrev pub key_set_answer : Tables → ℤ → Result (Unit {0}) Errno
key_set_answer x k =
    if not (is_key x (key_named k)) then Err ENOENT else
    Ok tt

-- a value is read
abbrev pub key_get_answer : Tables → ℕ → ℤ → Result ℤ Errno
key_get_answer x s k =
    if not (is_key x (key_named k)) then Err ENOENT else
    Ok (x.values (key_named k) s)

-- ---- changes

-- all keys are free
abbrev pub no_keys : Tables
no_keys = record { keys = λ _. None; values = λ _ _. pos 0 }

-- a key is live, with this destructor or none, and no slot has a value under it
abbrev pub created : ℕ → Option HandlerId → Tables → Tables
created k h x = record { keys = put x.keys k (Some h); values = put x.values k (λ _. pos 0) }

-- a key is free, and no slot has a value under it
abbrev pub deleted : ℕ → Tables → Tables
deleted k x = record { keys = put x.keys k None; values = put x.values k (λ _. pos 0) }

-- a slot has a value under a key
abbrev pub with_key_value : ℕ → ℕ → ℤ → Tables → Tables
with_key_value s k v x = record x { values = put x.values k (put (x.values k) s v) }

-- a slot has no values
abbrev pub forgotten : ℕ → Tables → Tables
forgotten s x = record x { values = λ k. put (x.values k) s (pos 0) }

-- ---- the tables as data

-- the keys in a list, and for each slot its values in a row, by key
pub record KeysOf : Type 0 where
  pub keys : List (Option (Option HandlerId))
  pub rows : List (List ℤ)

-- the value under a key in the row of a slot, 0 past its end
unfoldable pub value_at_key : List (List ℤ) → (key slot : ℕ) → ℤ
value_at_key rows k s = table (pos 0) (table [] rows s) k

-- the tables that they stand for
abbrev pub tables_of : KeysOf → Tables
tables_of x = record { keys = table None x.keys; values = value_at_key x.rows }

-- what holds at every moment
pub record KeysAreKept (x : KeysOf) : Type 0 where
  pub many : length x.keys ≡ key_limit
  -- no slot has a value under a free key
  pub unset : (k s : ℕ) → table None x.keys k ≡ None → value_at_key x.rows k s ≡ pos 0

-- the rows of Vecs
abbrev pub value_rows : Vec (Vec ℤ Global) Global → List (List ℤ)
value_rows v = map (λ row. row.items) v.items
