-- Words: numbers of which the last 64 bits count.
use Rattle.std.proofs.Common.{◌≡◌, ℕ, suc, ◌+◌, ◌-◌, ◌%◌, ◌<◌, ◌≤◌, Bool, true, false, cond, ◌∙◌, inl, inr, arith, nat_lt, nat_le, if◌then◌else◌}
use Rattle.std.proofs.lemmas.Bool.{cond-true, cond-false}
use Rattle.std.proofs.lemmas.Bool.Decides.{leb_tells}
use Rattle.pth_tables.specs.Waits.{words, one_more, one_less}
use Rattle.pth_tables.specs.Counts.{AreSameWord}

pub more-same : (b : Bool) (n total : ℕ) → AreSameWord n total → AreSameWord (one_more b n) (cond b 1 0 + total)
more-same true n total h = omega arith
more-same false n total h = omega arith

pub less-same : (b : Bool) (n total : ℕ) → AreSameWord n (cond b 1 0 + total) → AreSameWord (one_less b n) total
less-same true n total h = omega arith
less-same false n total h = omega arith

-- a dispatch, by name or not
pub named-same : (b : Bool) (number named tops owed : ℕ) → AreSameWord (number + (named + tops) + cond b 1 0) owed → AreSameWord (number + (one_more b named + tops)) owed
named-same true number named tops owed h = omega arith
named-same false number named tops owed h = omega arith

-- those at Top that a dispatch sees
pub seen-same : (number named tops pending owed new : ℕ) → AreSameWord (number + (named + tops)) owed → AreSameWord pending new → AreSameWord (number + (named + (tops + pending) % words)) (owed + new)
seen-same number named tops pending owed new h k = omega arith

pub number-same : (place both : ℕ) → AreSameWord ((place + (words - both % words)) % words + both) place
number-same place both = omega arith

pub more-both : (n m k : ℕ) → AreSameWord n m → AreSameWord (n + k) (m + k)
more-both n m k h = omega arith

-- a sum that fits is what its words give
pub fits-late : (c number both owed : ℕ) → AreSameWord (number + both) owed → c + owed < words → (c + (number + both % words) % words) % words ≡ c + owed
fits-late c number both owed h fits = omega arith

-- a test of two numbers
pub by-le : (k c late a : ℕ) → (c < k → late ≡ a) → (k ≤ c → c ≡ a) → (if nat_le k c then c else late) ≡ a
by-le k c late a far near = elim (leb_tells k c) [
  | inl t ↦ cond-true (nat_le k c) c late t.0 ∙ near t.1
  | inr t ↦ cond-false (nat_le k c) c late t.0 ∙ far t.1
]

pub by-lt : (k c late a : ℕ) → (c ≤ k → late ≡ a) → (k < c → c ≡ a) → (if nat_lt k c then c else late) ≡ a
by-lt k c late a far near = elim (leb_tells (suc k) c) [
  | inl t ↦ cond-true (nat_lt k c) c late t.0 ∙ near (omega arith)
  | inr t ↦ cond-false (nat_lt k c) c late t.0 ∙ far (omega arith)
]
