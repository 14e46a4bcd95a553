-- Where a thread is alone in the system, it is every reader that there is.
use Rattle.std.proofs.Common.{◌≡◌, ◌≢◌, ℕ, zero, suc, ◌+◌, ◌<◌, ◌≤◌, ◌==◌, Bool, true, false, if◌then◌else◌, ◌⊎◌, inl, inr, [], Some, None, refl, sym, ◌∙◌, ap, arith}
use Rattle.std.proofs.lemmas.Bool.{cases_lt}
use Rattle.std.proofs.lemmas.List.{get_or_past}
use Rattle.pth_base.specs.Limits.{thread_limit}
use Rattle.pth_base.specs.Naming.{IsTied}
use Rattle.pth_base.proofs.Namings.{none_some}
use Rattle.pth_base.proofs.Tables.{same_fails, same_means}
use Rattle.pth_threads.specs.Threads.{ThreadsOf, slot_of, tid_at}
use Rattle.pth_lock.specs.RwLocks.{LockTables, LocksAreSound, count_below}
use Rattle.pth_world.specs.Store.{name_limit}
use Rattle.pth_world.proofs.Listings.{read_past, read_here, to_past}
use Rattle.pth_world.proofs.Locked.{readers_named, read_locks, reads_at, readers_at, slot_low, unused-none}

-- ---- tests that one number alone passes

count-none : (f : ℕ → Bool) → count_below f 0 ≡ 0
unfolding count_below
count-none f = refl

count-next : (f : ℕ → Bool) (n : ℕ) → count_below f (suc n) ≡ (if f n then count_below f n + 1 else count_below f n)
unfolding count_below
count-next f n = refl

fails_last : (f : ℕ → Bool) (n : ℕ) → f n ≡ false → count_below f (suc n) ≡ count_below f n
fails_last f n out = count-next f n ∙ ap (λ (b : Bool). if b then count_below f n + 1 else count_below f n) out

count_nobody : (f : ℕ → Bool) (n : ℕ) → ((s : ℕ) → s < n → f s ≡ false) → count_below f n ≡ 0
count_nobody f zero none = count-none f
count_nobody f (suc n) none = fails_last f n (none n (omega arith)) ∙ count_nobody f n (λ s low. none s (omega (arith, low)))

count_one : (f : ℕ → Bool) (u n : ℕ) → u < n → ((s : ℕ) → s < n → s ≢ u → f s ≡ false) → count_below f n ≡ (if f u then 1 else 0)
count_one f u zero low none = absurd (omega (arith, low))
count_one f u (suc n) low none = by_last (cases_lt u n) (λ less. count_one f u n less (λ s below apart. none s (omega (arith, below)) apart))
  where
    by_last : (u < n) ⊎ (n ≤ u) → (u < n → count_below f n ≡ (if f u then 1 else 0)) → count_below f (suc n) ≡ (if f u then 1 else 0)
    by_last (inl less) before = fails_last f n (none n (omega arith) (omega (arith, less))) ∙ before less
    by_last (inr high) before =
        let same : n ≡ u = omega (arith, low, high) in
        let below : count_below f n ≡ 0 = count_nobody f n (λ s less. none s (omega (arith, less)) (omega (arith, less, high))) in
        count-next f n ∙ ap (λ (k : ℕ). if f n then k + 1 else k) below ∙ ap (λ (k : ℕ). if f k then 1 else 0) same

-- ---- the readers of each lock

module _ (x : ThreadsOf) (L : LockTables) (t u : ℕ) (tied : IsTied (slot_of x) (tid_at x)) (e : slot_of x t ≡ Some u) (few : t < name_limit) (alone : (i : ℕ) → i ≢ t → slot_of x i ≡ None) (sound : LocksAreSound L) where
  -- no other slot is used
  spare_slot : (s : ℕ) → s ≢ u → tid_at x s ≡ 0
  spare_slot s apart = by_use (tid_at x s == 0) refl
    where
      by_thread : (b : Bool) → (tid_at x s == t) ≡ b → slot_of x (tid_at x s) ≡ Some s → ⊥
      by_thread true same there =
          let both : Some s ≡ Some u = sym there ∙ ap (slot_of x) (same_means (tid_at x s) t same) ∙ e in
          apart (cc both)
      by_thread false other there = none_some (sym (alone (tid_at x s) (same_fails (tid_at x s) t other)) ∙ there)

      by_use : (b : Bool) → (tid_at x s == 0) ≡ b → tid_at x s ≡ 0
      by_use true free = same_means (tid_at x s) 0 free
      by_use false used = absurd (by_thread (tid_at x s == t) refl (tied.slot s (same_fails (tid_at x s) 0 used)))

  readers_by : ((l : ℕ) → (read_locks x L).reads l 0 ≡ false) → (l : ℕ) → (l < name_limit) ⊎ (name_limit ≤ l) → (read_locks x L).readers l ≡ (if (read_locks x L).reads l t then 1 else 0)
  readers_by spare l (inl low) =
      readers_at x L l low
      ∙ sound.counted l
      ∙ count_one (L.reads l) u thread_limit (slot_low x t u tied e) (λ s below apart. unused-none (tid_at x) (L.reads l) thread_limit s below (sym (read_here false (readers_named x L) l 0 low (omega arith)) ∙ spare l) (spare_slot s apart))
      ∙ ap (λ (b : Bool). if b then 1 else 0) (sym (reads_at x L t u tied e few l low))
  readers_by spare l (inr high) =
      to_past 0 name_limit L.readers l high
      ∙ ap (λ (b : Bool). if b then 1 else 0) (sym (ap (λ (f : ℕ → Bool). f t) (read_past false (readers_named x L) l high) ∙ get_or_past [] t false (omega arith)))

  pub readers_alone : ((l : ℕ) → (read_locks x L).reads l 0 ≡ false) → (l : ℕ) → (read_locks x L).readers l ≡ (if (read_locks x L).reads l t then 1 else 0)
  readers_alone spare l = readers_by spare l (cases_lt l name_limit)
