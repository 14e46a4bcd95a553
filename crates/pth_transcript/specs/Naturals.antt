-- Numbers without a sign, and what they name.
use Rattle.std.specs.Prelude.{ℕ, ◌^◌, ◌==◌, ◌&&◌, nat_lt, Bool, false, List, [], ◌∷◌, drop, slice_index, Option, Some, None, if◌then◌else◌, option_and_then, option_map}
use Rattle.std.specs.Str.{all_ascii_digits}
use Rattle.std.specs.Str.Parse.{digits_value, without_leading_plus}
use Rattle.pth_base.specs.declared.ids.Tid.{Tid}
use Rattle.pth_text.specs.Bytes.{code}

-- one digit or more
abbrev pub are_digits : List ℕ → Bool
are_digits [] = false
are_digits (c ∷ cs) = all_ascii_digits (c ∷ cs)

-- a number below a limit
abbrev pub number_below : ℕ → ℕ → Option ℕ
number_below limit n = if nat_lt n limit then Some n else None

-- the number of the digits, where it is one of 64 bits
abbrev pub number_of : List ℕ → Option ℕ
number_of ds = let n = digits_value 10 ds in if are_digits ds && nat_lt n (2 ^ 64) then Some n else None

-- the number that digits spell, of which a `+` may stand in front
unfoldable pub natural_value : List ℕ → Option ℕ
natural_value w = number_of (without_leading_plus w)

-- a number of 32 bits
unfoldable pub index_value : List ℕ → Option ℕ
index_value w = option_and_then (number_below (2 ^ 32)) (natural_value w)

-- the number of a mutex, a lock, a barrier or a key
unfoldable pub object_value : List ℕ → Option ℕ
object_value w = option_and_then (number_below 256) (natural_value w)

-- the thread with a number
abbrev pub numbered : ℕ → Tid
numbered n = record { 0 = n }

-- a thread, spelled `t` and its number
unfoldable pub thread_value : List ℕ → Option Tid
thread_value w = if slice_index w 0 == code "t" then option_map numbered (index_value (drop 1 w)) else None

-- the number of a shared value, spelled `v` and its number
unfoldable pub cell_value : List ℕ → Option ℕ
cell_value w = if slice_index w 0 == code "v" then index_value (drop 1 w) else None
