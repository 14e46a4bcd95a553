-- How many slots are in a table.
use Rattle.std.proofs.Common.{◌≡◌, ◌≢◌, ℕ, zero, suc, ◌+◌, ◌<◌, ◌≤◌, Bool, true, false, if◌then◌else◌, inl, inr, refl, sym, ◌∙◌, ap, arith}
use Rattle.std.proofs.lemmas.Bool.{cases_lt}
use Rattle.pth_base.specs.Table.{put}
use Rattle.pth_base.proofs.Tables.{put_here, put_other}
use Rattle.pth_base.proofs.Lists.{put_none, put_twice}
use Rattle.pth_lock.specs.RwLocks.{count_below}

-- one slot more is looked at
abbrev step : Bool → ℕ → ℕ
step b n = if b then n + 1 else n

step_more : (b : Bool) (n : ℕ) → step b (n + 1) ≡ step b n + 1
step_more true n = refl
step_more false n = refl

pub count-zero : (f : ℕ → Bool) → count_below f 0 ≡ 0
unfolding count_below
count-zero f = refl

count-suc : (f : ℕ → Bool) (n : ℕ) → count_below f (suc n) ≡ step (f n) (count_below f n)
unfolding count_below
count-suc f n = refl

-- a slot from the end on doesn't count
count_past : (f : ℕ → Bool) (s : ℕ) (b : Bool) (n : ℕ) → n ≤ s → count_below (put f s b) n ≡ count_below f n
count_past f s b zero high = count-zero (put f s b) ∙ sym (count-zero f)
count_past f s b (suc n) high =
    let apart : n ≢ s = omega arith in
    count-suc (put f s b) n
    ∙ ap (λ (t : Bool). step t (count_below (put f s b) n)) (put_other f s b n apart)
    ∙ ap (step (f n)) (count_past f s b n (omega arith))
    ∙ sym (count-suc f n)

count_last : (f : ℕ → Bool) (s n : ℕ) → s ≡ n → f s ≡ false → count_below (put f s true) (suc n) ≡ count_below f (suc n) + 1
count_last f s n same out =
    count-suc (put f s true) n
    ∙ ap (λ (t : Bool). step t (count_below (put f s true) n)) (ap (put f s true) (sym same) ∙ put_here f s true)
    ∙ ap (λ (k : ℕ). k + 1) (count_past f s true n (omega arith) ∙ sym (count-suc f n ∙ ap (λ (t : Bool). step t (count_below f n)) (ap f (sym same) ∙ out)))

count_before : (f : ℕ → Bool) (s n : ℕ) → s < n → count_below (put f s true) n ≡ count_below f n + 1 → count_below (put f s true) (suc n) ≡ count_below f (suc n) + 1
count_before f s n below more =
    let apart : n ≢ s = omega arith in
    count-suc (put f s true) n
    ∙ ap (λ (t : Bool). step t (count_below (put f s true) n)) (put_other f s true n apart)
    ∙ ap (step (f n)) more
    ∙ step_more (f n) (count_below f n)
    ∙ ap (λ (k : ℕ). k + 1) (sym (count-suc f n))

-- a slot more
pub count_more : (f : ℕ → Bool) (s n : ℕ) → s < n → f s ≡ false → count_below (put f s true) n ≡ count_below f n + 1
count_more f s zero low out = absurd (omega arith)
count_more f s (suc n) low out = elim (cases_lt s n) [ inl below ↦ count_before f s n below (count_more f s n below out) | inr high ↦ count_last f s n (omega arith) out ]

-- a slot less
pub count_less : (f : ℕ → Bool) (s n : ℕ) → s < n → f s ≡ true → count_below f n ≡ count_below (put f s false) n + 1
count_less f s n low member =
    ap (λ (g : ℕ → Bool). count_below g n) (sym (put_none f s true member) ∙ sym (put_twice f s false true))
    ∙ count_more (put f s false) s n low (put_here f s false)

step_le : (b : Bool) (n m : ℕ) → n ≤ m → step b n ≤ suc m
step_le true n m few = omega arith
step_le false n m few = omega arith

pub count_le : (f : ℕ → Bool) (n : ℕ) → count_below f n ≤ n
count_le f zero = omega (arith, count-zero f)
count_le f (suc n) = rw (count-suc f n) (step_le (f n) (count_below f n) n (count_le f n))

-- where none is in it
pub count_none : (f : ℕ → Bool) (n : ℕ) → ((s : ℕ) → f s ≡ false) → count_below f n ≡ 0
count_none f zero none = count-zero f
count_none f (suc n) none = count-suc f n ∙ ap (λ (t : Bool). step t (count_below f n)) (none n) ∙ count_none f n none

out_by : (f : ℕ → Bool) (s n : ℕ) (b : Bool) → s < n → count_below f n ≡ 0 → f s ≡ b → f s ≡ false
out_by f s n true low empty e = absurd (omega (arith, count_less f s n low e))
out_by f s n false low empty e = e

-- where their number is 0 none is
pub none_counted : (f : ℕ → Bool) (s n : ℕ) → s < n → count_below f n ≡ 0 → f s ≡ false
none_counted f s n low empty = out_by f s n (f s) low empty refl
