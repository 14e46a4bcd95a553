-- Sets of objects, as the bits of numbers below 2 ^ 64.
use Rattle.std.proofs.Common.{◌≡◌, ◌≢◌, ◌*◌, ◌%◌, ◌^◌, ◌-◌, ◌<◌, ◌≤◌, ◌==◌, ℕ, true, false, ◌⊎◌, inl, inr, sym, ◌∙◌, ap, arith, bit_and, bit_or, w64}
use Rattle.std.specs.Int.{bit_at}
use Rattle.std.specs.Int.Count.{count_trailing_zeros}
use Rattle.std.proofs.lemmas.Nat.{and_le_l}
use Rattle.std.proofs.lemmas.Nat.Bits.{bit_at_set_same, bit_at_set_other, bit_at_clear_same, bit_at_clear_other, bit_at_above, bit_at-zero, bit_at-trailing_zeros}
use Rattle.std.proofs.lemmas.Bool.{cases_lt}
use Rattle.pth_base.specs.Table.{put}
use Rattle.pth_base.proofs.Tables.{put_is, same_means}
use Rattle.pth_lock.specs.Sets.{contains}

-- no object is in the empty set
pub contains-zero : (k : ℕ) → contains 0 k ≡ false
contains-zero k = ap (λ (b : ℕ). b == 1) (bit_at-zero k)

module _ (set k : ℕ) (low : k < 64) where
  pub contains-with : contains (bit_or set (1 * 2 ^ k % 2 ^ 64)) ≡ put (contains set) k true
  contains-with = put_is (contains set) _ k true (ap (λ (b : ℕ). b == 1) (bit_at_set_same w64 set k low)) (λ i apart. ap (λ (b : ℕ). b == 1) (bit_at_set_other w64 set k low i apart))

  abbrev cleared : ℕ
  cleared = bit_and set (2 ^ 64 - 1 - 1 * 2 ^ k % 2 ^ 64)

  cleared_le : cleared ≤ set
  cleared_le = and_le_l set _

  cleared_here : bit_at cleared k ≡ 0
  cleared_here = bit_at_clear_same w64 set k low

  cleared_other : set < 2 ^ 64 → (i : ℕ) → i ≢ k → (i < 64) ⊎ (64 ≤ i) → bit_at cleared i ≡ bit_at set i
  cleared_other fits i apart h = elim h [
    | inl below ↦ bit_at_clear_other w64 set k low i below apart
    | inr above ↦ bit_at_above cleared 64 i (omega (arith, cleared_le)) above ∙ sym (bit_at_above set 64 i fits above)
  ]

  pub contains-without : set < 2 ^ 64 → contains cleared ≡ put (contains set) k false
  contains-without fits = put_is (contains set) _ k false (ap (λ (b : ℕ). b == 1) cleared_here) (λ i apart. ap (λ (b : ℕ). b == 1) (cleared_other fits i apart (cases_lt i 64)))

  pub without_less : contains set k ≡ true → cleared < set
  without_less member =
      let apart : cleared ≢ set = λ same. absurd (omega (arith, same_means (bit_at set k) 1 member, sym cleared_here ∙ ap (λ (n : ℕ). bit_at n k) same)) in
      omega (arith, cleared_le)

-- the first object of a set
pub contains-first : (set : ℕ) → 0 < set → set < 2 ^ 64 → contains set (count_trailing_zeros 64 set) ≡ true
contains-first set some fits = ap (λ (b : ℕ). b == 1) (bit_at-trailing_zeros w64 set some fits).1

pub contains-before_first : (set : ℕ) → 0 < set → set < 2 ^ 64 → (k : ℕ) → k < count_trailing_zeros 64 set → contains set k ≡ false
contains-before_first set some fits k before = ap (λ (b : ℕ). b == 1) ((bit_at-trailing_zeros w64 set some fits).2 k before)

-- there are no objects from 64 on
pub contains-past : (set : ℕ) → set < 2 ^ 64 → (k : ℕ) → 64 ≤ k → contains set k ≡ false
contains-past set fits k high = ap (λ (b : ℕ). b == 1) (bit_at_above set 64 k fits high)
