-- A thread that has no mutex and no lock has none after another one takes or gives back its own; and one that gives up all has none.
use Rattle.std.proofs.Common.{◌≡◌, ◌≢◌, ℕ, ◌+◌, ◌-◌, ◌==◌, ◌&&◌, ◌||◌, Bool, true, false, if◌then◌else◌, Option, Some, None, refl, sym, ◌∙◌}
use Rattle.pth_base.specs.Table.{put}
use Rattle.pth_base.proofs.Tables.{put_by, put_here, put_other, not_same}
use Rattle.pth_lock.specs.Mutexes.{Mutex, MutexTable, free_mutex, has, is_anothers, levels_of, mutex_initialised, mutex_released, mutex_taken, mutex_with, mutexes_left}
use Rattle.pth_lock.specs.RwLocks.{LockTables, holds, is_one, lock_initialised, lock_released, lock_taken, locks_left, without_slot}
use Rattle.pth_model.specs.Kill.{mutexes_of_only, locks_of_only}

neither : (a b : Bool) → (a || b) ≡ false → (a ≡ false) × (b ≡ false)
neither true b h = absurd (cc h)
neither false b h = (refl, h)

both_not : (a b : Bool) → a ≡ false → b ≡ false → (a || b) ≡ false
both_not a b x y = rw (x, y) refl

module _ (t : ℕ) where
  -- t has no mutex
  abbrev pub NoMutex : MutexTable → Type 0
  NoMutex x = (m : ℕ) → has t (x m) ≡ false

  -- t holds no lock
  abbrev pub NoLock : LockTables → Type 0
  NoLock x = (l : ℕ) → holds x t l ≡ false

  -- ---- mutexes

  no_mutex_at : (x : MutexTable) (m : ℕ) (y : Mutex) → has t y ≡ false → NoMutex x → NoMutex (put x m y)
  no_mutex_at x m y not_it none i = put_by (λ z. has t z ≡ false) x m y i (λ here. not_it) (λ other. none i)

  with_other : (u n : ℕ) → t ≢ u → has t (mutex_with u n) ≡ false
  with_other u n apart = by_test (n == 0)
    where
      by_test : (b : Bool) → has t (if b then free_mutex else Some (Some (record { owner = u; levels = n }))) ≡ false
      by_test true = refl
      by_test false = not_same u t (λ same. apart (sym same))

  pub no_mutex_initialised : (m : ℕ) (x : MutexTable) → NoMutex x → NoMutex (mutex_initialised m x)
  no_mutex_initialised m x none = no_mutex_at x m free_mutex refl none

  pub no_mutex_taken : (u m : ℕ) (x : MutexTable) → t ≢ u → NoMutex x → NoMutex (mutex_taken u m x)
  no_mutex_taken u m x apart none = no_mutex_at x m _ (with_other u (levels_of u (x m) + 1) apart) none

  pub no_mutex_released : (u m : ℕ) (x : MutexTable) → t ≢ u → NoMutex x → NoMutex (mutex_released u m x)
  no_mutex_released u m x apart none = no_mutex_at x m _ (with_other u (levels_of u (x m) - 1) apart) none

  pub no_mutex_left : (u : ℕ) (x : MutexTable) → NoMutex x → NoMutex (mutexes_left u x)
  no_mutex_left u x none m = by_test (has u (x m))
    where
      by_test : (b : Bool) → has t (if b then free_mutex else x m) ≡ false
      by_test true = refl
      by_test false = none m

  pub no_mutex_only : (u : ℕ) (x : MutexTable) → NoMutex x → NoMutex (mutexes_of_only u x)
  no_mutex_only u x none m = by_test (is_anothers u (x m))
    where
      by_test : (b : Bool) → has t (if b then free_mutex else x m) ≡ false
      by_test true = refl
      by_test false = none m

  -- its own are given up
  pub no_mutex_more : (x : MutexTable) → NoMutex (mutexes_left t x)
  no_mutex_more x m = by_test (has t (x m)) refl
    where
      by_test : (b : Bool) → has t (x m) ≡ b → has t (if b then free_mutex else x m) ≡ false
      by_test true is = refl
      by_test false is = is

  -- ---- locks

  writes_not : (w : Option ℕ) (u : ℕ) → is_one t w ≡ false → is_one t (without_slot u w) ≡ false
  writes_not w u none = by_test (is_one u w)
    where
      by_test : (b : Bool) → is_one t (if b then None else w) ≡ false
      by_test true = refl
      by_test false = none

  writes_no_more : (w : Option ℕ) → is_one t (without_slot t w) ≡ false
  writes_no_more w = by_test (is_one t w) refl
    where
      by_test : (b : Bool) → is_one t w ≡ b → is_one t (if b then None else w) ≡ false
      by_test true is = refl
      by_test false is = is

  module _ (x : LockTables) where
    pub no_lock_initialised : (l : ℕ) → NoLock x → NoLock (lock_initialised l x)
    no_lock_initialised l none = none

    pub no_lock_taken : (u : ℕ) (write : Bool) (l : ℕ) → t ≢ u → NoLock x → NoLock (lock_taken u write l x)
    no_lock_taken u true l apart none i =
        let was = neither (is_one t (x.writer i)) (x.reads i t) (none i) in
        both_not _ _ (put_by (λ (w : Option ℕ). is_one t w ≡ false) x.writer l (Some u) i (λ here. not_same u t (λ same. apart (sym same))) (λ other. was.0)) was.1
    no_lock_taken u false l apart none i =
        let was = neither (is_one t (x.writer i)) (x.reads i t) (none i) in
        both_not _ _ was.0 (put_by (λ (r : ℕ → Bool). r t ≡ false) x.reads l (put (x.reads l) u true) i (λ here. put_other (x.reads l) u true t apart ∙ (neither (is_one t (x.writer l)) (x.reads l t) (none l)).1) (λ other. was.1))

    pub no_lock_released : (u l : ℕ) → NoLock x → NoLock (lock_released u l x)
    no_lock_released u l none i =
        let was = neither (is_one t (x.writer i)) (x.reads i t) (none i) in
        let at = neither (is_one t (x.writer l)) (x.reads l t) (none l) in
        both_not _ _
        (put_by (λ (w : Option ℕ). is_one t w ≡ false) x.writer l (without_slot u (x.writer l)) i (λ here. writes_not (x.writer l) u at.0) (λ other. was.0))
        (put_by (λ (r : ℕ → Bool). r t ≡ false) x.reads l (put (x.reads l) u false) i (λ here. put_by (λ (b : Bool). b ≡ false) (x.reads l) u false t (λ same. refl) (λ apart. at.1)) (λ other. was.1))

    pub no_lock_left : (u : ℕ) → NoLock x → NoLock (locks_left u x)
    no_lock_left u none l =
        let was = neither (is_one t (x.writer l)) (x.reads l t) (none l) in
        both_not _ _ (writes_not (x.writer l) u was.0) (put_by (λ (b : Bool). b ≡ false) (x.reads l) u false t (λ same. refl) (λ apart. was.1))

    pub no_lock_only : (u : ℕ) → NoLock x → NoLock (locks_of_only u x)
    no_lock_only u none l =
        let was = neither (is_one t (x.writer l)) (x.reads l t) (none l) in
        both_not _ _ (by_writer (is_one u (x.writer l)) was.0) (by_number (t == u) was.1)
      where
        by_writer : (b : Bool) → is_one t (x.writer l) ≡ false → is_one t (if b then x.writer l else None) ≡ false
        by_writer true h = h
        by_writer false h = refl

        by_number : (b : Bool) → x.reads l t ≡ false → (b && x.reads l t) ≡ false
        by_number true h = h
        by_number false h = refl

    -- its own are given up
    pub no_lock_more : NoLock (locks_left t x)
    no_lock_more l = both_not _ _ (writes_no_more (x.writer l)) (put_here (x.reads l) t false)
