-- Who reads under a lock is counted: by one number for all who do, however many threads there may be.
use Rattle.std.proofs.Common.{◌≡◌, ℕ, zero, suc, ◌+◌, ◌≤◌, Bool, true, false, inl, inr, refl, sym, ◌∙◌, ap, subst, arith}
use Rattle.std.proofs.lemmas.Bool.{cases_lt}
use Rattle.pth_base.specs.Table.{put}
use Rattle.pth_base.proofs.Lists.{put_none}
use Rattle.pth_lock.proofs.Counts.{count_more, count_less, count_none, none_counted}
use Rattle.pth_lock.specs.RwLocks.{count_below, readers_without}

-- so many pass a test, of all below any number that is great enough
pub record IsCounted (test : ℕ → Bool) (many : ℕ) : Type 0 where
  pub bound : ℕ
  pub counts : (n : ℕ) → bound ≤ n → count_below test n ≡ many

pub counted_none : IsCounted (λ u. false) 0
counted_none = record { bound = 0; counts = λ n low. count_none (λ u. false) n (λ u. refl) }

-- one more, or one less
pub counted_more : (f : ℕ → Bool) (many t : ℕ) → f t ≡ false → IsCounted f many → IsCounted (put f t true) (many + 1)
counted_more f many t out h = record {
  bound = h.bound + t + 1;
  counts = λ n low. count_more f t n (omega (arith, low)) out ∙ ap (λ (c : ℕ). c + 1) (h.counts n (omega (arith, low)));
}

pub counted_less : (f : ℕ → Bool) (many t : ℕ) → IsCounted f many → IsCounted (put f t false) (readers_without (f t) many)
counted_less f many t h = by_test (f t) refl
  where
    by_test : (b : Bool) → f t ≡ b → IsCounted (put f t false) (readers_without b many)
    by_test true member = record {
      bound = h.bound + t + 1;
      counts = λ n low. let less = count_less f t n (omega (arith, low)) member in let all = h.counts n (omega (arith, low)) in omega (arith, less, all);
    }
    by_test false out = subst (λ (g : ℕ → Bool). IsCounted g many) (sym (put_none f t false out)) h

-- where they are none, none passes; and the other way round
pub none_passes : (f : ℕ → Bool) (many : ℕ) → IsCounted f many → many ≡ 0 → (t : ℕ) → f t ≡ false
none_passes f many h none t = none_counted f t (h.bound + t + 1) (omega arith) (h.counts (h.bound + t + 1) (omega arith) ∙ none)

-- a number that does not pass is not counted
none_more : (f : ℕ → Bool) (k : ℕ) → f k ≡ false → count_below f (suc k) ≡ count_below f k
unfolding count_below
none_more f k out = rw out refl

none_higher : (f : ℕ → Bool) (n k : ℕ) → ((t : ℕ) → n ≤ t → f t ≡ false) → n ≤ k → count_below f k ≡ count_below f n
none_higher f n zero none low = let same : zero ≡ n = omega arith in ap (count_below f) same
none_higher f n (suc k) none low = elim (cases_lt n (suc k)) [
  | inl below ↦ let past : n ≤ k = omega arith in none_more f k (none k past) ∙ none_higher f n k none past
  | inr high ↦ let same : suc k ≡ n = omega arith in ap (count_below f) same
]

-- where none passes from n on, all that pass are counted below n
pub counted_below : (f : ℕ → Bool) (many n : ℕ) → IsCounted f many → ((t : ℕ) → n ≤ t → f t ≡ false) → many ≡ count_below f n
counted_below f many n h none = sym (h.counts (h.bound + n) (omega arith)) ∙ none_higher f n (h.bound + n) none (omega arith)
