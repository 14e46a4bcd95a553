-- How numbers are spelled: `0`, or an optional `-`, a digit from 1 to 9 and further digits.
use Rattle.std.specs.Prelude.{ℕ, ℤ, pos, neg_ℤ, ◌^◌, ◌==◌, int_le, int_lt, nat_le, nat_lt, length, slice_index, Bool, false, not, ◌&&◌, ◌||◌, List, [], ◌∷◌, drop, codes, Option, Some, None, if◌then◌else◌}
use Rattle.std.specs.Str.{all_ascii_digits, bytes_eq}
use Rattle.std.specs.Str.Parse.{starts_with_minus, signed_digits_value}
use Rattle.pth_text.specs.Bytes.{code}

-- digits, of which the first is not 0
abbrev pub is_positive : List ℕ → Bool
is_positive [] = false
is_positive (c ∷ cs) = not (c == code "0") && all_ascii_digits (c ∷ cs)

-- what follows a `-`, and the whole word where it begins with none
abbrev pub without_minus : List ℕ → List ℕ
without_minus word = if starts_with_minus word then drop 1 word else word

-- the word spells a number, of any size
abbrev pub is_numeral : List ℕ → Bool
is_numeral word = bytes_eq word (codes "0") || is_positive (without_minus word)

-- a number of 64 bits with a sign: from -2^63 to below 2^63
abbrev pub is_i64 : ℤ → Bool
is_i64 n = int_le (neg_ℤ (pos (2 ^ 63))) n && int_lt n (pos (2 ^ 63))

-- the number that a word spells, where it is one of 64 bits
unfoldable pub numeral_value : List ℕ → Option ℤ
numeral_value word = let n = signed_digits_value 10 word in if is_numeral word && is_i64 n then Some n else None

-- a `0` before other bytes
abbrev pub has_leading_zero : List ℕ → Bool
has_leading_zero word = nat_lt 1 (length word) && slice_index word 0 == code "0"

-- a word that may be a number without a sign, and of so few digits that they fit 64 bits
abbrev pub is_plain : List ℕ → Bool
is_plain word = nat_le 1 (length word) && (nat_le (length word) 18 && (not (starts_with_minus word) && not (has_leading_zero word)))
