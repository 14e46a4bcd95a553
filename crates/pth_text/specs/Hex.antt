-- Bytes in lower-case hexadecimal digits.
use Rattle.std.specs.Prelude.{ℕ, ◌+◌, ◌-◌, ◌*◌, ◌/◌, ◌%◌, ◌==◌, nat_lt, Bool, ◌&&◌, ◌||◌, List, [], ◌∷◌, length, flat_map, Option, Some, None, if◌then◌else◌}
use Rattle.std.specs.Char.{digit_value}
use Rattle.std.specs.Int.{is_in_range}
use Rattle.std.specs.List.{list_all}
use Rattle.pth_text.specs.Bytes.{code}

-- the digit of a number below 16: `0` to `9`, then `a` to `f`
abbrev pub digit_of : ℕ → ℕ
digit_of n = if nat_lt n 10 then code "0" + n else code "a" - 10 + n

-- the two digits of a byte
abbrev pub pair_of : ℕ → List ℕ
pair_of b = digit_of (b / 16) ∷ digit_of (b % 16) ∷ []

-- the digits of bytes
abbrev pub hex_of : List ℕ → List ℕ
hex_of bytes = flat_map pair_of bytes

-- a digit, `0` to `9` or `a` to `f`
abbrev pub is_hex_digit : ℕ → Bool
is_hex_digit c = is_in_range (code "0") (code "9") c || is_in_range (code "a") (code "f") c

-- 1 to 2048 pairs of digits
abbrev pub is_hex : List ℕ → Bool
is_hex word = length word % 2 == 0 && (is_in_range 2 4096 (length word) && list_all (λ c. is_hex_digit c) word)

-- the byte of each pair of digits
abbrev pub pair_bytes : List ℕ → List ℕ
pair_bytes [] = []
pair_bytes (high ∷ []) = []
pair_bytes (high ∷ low ∷ more) = (16 * digit_value high + digit_value low) ∷ pair_bytes more

-- the bytes that a word of 1 to 2048 pairs of digits spells
unfoldable pub hex_bytes : List ℕ → Option (List ℕ)
hex_bytes word = if is_hex word then Some (pair_bytes word) else None
