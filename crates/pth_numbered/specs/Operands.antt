-- Operands of calls, as numbers that name things.
--
-- Parts and rows share these words, so they need no proof that they mean the same.
use Rattle.std.specs.Prelude.{nat_lt, ℕ, ◌==◌, ◌&&◌, min, ℤ, pos, negsuc, int_le, Bool, false, Option, None}

-- an operand as a number; a negative one is 0, which no thing has
abbrev pub number : ℤ → ℕ
number (pos n) = n
number (negsuc n) = 0

abbrev pub is_zero : ℤ → Bool
is_zero (pos n) = n == 0
is_zero (negsuc n) = false

-- the operand is the number n
infix 45 ◌is◌
abbrev pub ◌is◌ : ℤ → ℕ → Bool
pos k is n = k == n
negsuc k is n = false

-- it is one of the numbers from a to b
infix 45 ◌is_from◌to◌
abbrev pub ◌is_from◌to◌ : ℤ → ℤ → ℤ → Bool
n is_from a to b = int_le a n && int_le n b

-- what a table has under the operand; a negative one names nothing
abbrev pub named : {A : Type 0} → (ℕ → Option A) → ℤ → Option A
named f (pos n) = f n
named f (negsuc n) = None

-- the operand is one of the numbers below n
abbrev pub is_below : ℤ → ℕ → Bool
is_below (pos k) n = nat_lt k n
is_below (negsuc k) n = false

-- the handler that an operand names; one that fits no number of a handler names none, and has no acts
abbrev pub handler_of : ℤ → ℕ
handler_of (pos h) = min h 4294967295
handler_of (negsuc h) = 4294967295
