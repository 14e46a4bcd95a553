-- What threads lock, by slot and by number, after a change at a slot or of the slots.
use Rattle.std.proofs.Common.{◌≡◌, ◌≢◌, ◌<◌, ◌≤◌, ℕ, zero, suc, ◌+◌, ◌-◌, ◌^◌, ◌==◌, ◌&&◌, ◌||◌, not, ℤ, pos, negsuc, ◌<ℤ◌, Bool, true, false, if◌then◌else◌, ◌⊎◌, inl, inr, List, [], Option, Some, None, is_some, is_none, option_map, Result, Ok, Err, refl, sym, ◌∙◌, ap, arith}
use Rattle.std.proofs.lemmas.Bool.{cases_lt}
use Rattle.std.proofs.lemmas.List.{get_or_past}
use Rattle.std.proofs.lemmas.Int.{ints}
use mathlib.Core.Path.{fun_ext}
use Rattle.pth_base.specs.Limits.{thread_limit}
use Rattle.pth_base.specs.Naming.{IsTied, seen}
use Rattle.pth_base.specs.Table.{put, table}
use Rattle.pth_base.specs.declared.errno.Errno.{Errno}
use Rattle.pth_base.specs.declared.errno.Errno.TheVariants.{EACCES, EBUSY, EINVAL, EDEADLK}
use Rattle.pth_base.specs.declared.ids.Slot.{Slot}
use Rattle.pth_base.specs.declared.ids.Tid.{Tid}
use Rattle.pth_base.proofs.Lists.{ap_put, put_none}
use Rattle.pth_base.proofs.Namings.{none_some, seen_at, seen_put}
use Rattle.pth_base.proofs.Tables.{not_same, put_here, put_is, put_other, same_fails, same_means, same_self}
use Rattle.pth_threads.specs.Threads.{ThreadsOf, slot_of, tid_at, AddsThread, RemovesThread}
use Rattle.pth_threads.specs.declared.entry.Entry.{Entry}
use Rattle.pth_lock.specs.Objects.{object_named, is_object}
use Rattle.pth_lock.specs.Sets.{contains}
use Rattle.pth_lock.proofs.Bits.{contains-past}
use Rattle.pth_lock.specs.Mutexes.{mutex_init_answer, mutex_free_answer, mutex_owner_answer, mutex_take_answer, mutex_release_answer, Mutex, MutexTable, Ownership, free_mutex, has, levels_of, mutex_with, owner_of, take_answer, release_answer, mutex_initialised, mutex_taken, mutex_released, mutexes_left, slot_numbered}
use Rattle.pth_lock.specs.RwLocks.{lock_init_answer, lock_free_answer, lock_take_answer, lock_release_answer, LockTables, holds, is_one, is_written, lock_initialised, lock_taken, lock_released, locks_left, no_locks, readers_without, without_slot}
use Rattle.pth_world.specs.Store.{LocksOf, name_limit, listed, locked_by, locks_of, named_mutex, named_reads, any_unused, owner_answer}
use Rattle.pth_model.specs.Transition.{tid}
use Rattle.pth_world.proofs.Listings.{to_at, to_past, to_put, to_none, to_same, seen_gone, seen_new, seen_nothing, read, read_past, read_here, read_one, read_each, none_read}

some_same : (a b : ℕ) → Some a ≡ Some b → a ≡ b
some_same a b h = cc

some_slot : (a b : Slot) → ◌≡◌ {A = Result (Option Slot) Errno} (Ok (Some a)) (Ok (Some b)) → a ≡ b
some_slot a b h = cc

-- an object that an operand names
pub object_low : (o : ℤ) → o <ℤ pos name_limit → object_named o < name_limit
object_low (pos o) h = omega (arith, ints)
object_low (negsuc o) h = omega arith

-- ---- slots that are not used

unused-zero : (f : ℕ → ℕ) (r : ℕ → Bool) → any_unused f r 0 ≡ false
unfolding any_unused
unused-zero f r = refl

unused-suc : (f : ℕ → ℕ) (r : ℕ → Bool) (n : ℕ) → any_unused f r (suc n) ≡ (((f n == 0) && r n) || any_unused f r n)
unfolding any_unused
unused-suc f r n = refl

-- by each slot
unused-same : (f h : ℕ → ℕ) (r v : ℕ → Bool) (n : ℕ) → ((u : ℕ) → ((f u == 0) && r u) ≡ ((h u == 0) && v u)) → any_unused f r n ≡ any_unused h v n
unused-same f h r v zero each = unused-zero f r ∙ sym (unused-zero h v)
unused-same f h r v (suc n) each = unused-suc f r n ∙ ap (λ (b : Bool). b || any_unused f r n) (each n) ∙ ap (λ (b : Bool). ((h n == 0) && v n) || b) (unused-same f h r v n each) ∙ sym (unused-suc h v n)

pub neither : (a b : Bool) → (a || b) ≡ false → (a ≡ false) × (b ≡ false)
neither true b h = absurd (cc h)
neither false b h = (refl, h)

-- where none is unused and passes
pub unused-none : (f : ℕ → ℕ) (r : ℕ → Bool) (n u : ℕ) → u < n → any_unused f r n ≡ false → f u ≡ 0 → r u ≡ false
unused-none f r zero u low none free = absurd (omega (arith, low))
unused-none f r (suc n) u low none free =
    let split = neither ((f n == 0) && r n) (any_unused f r n) (sym (unused-suc f r n) ∙ none) in
    by_last (cases_lt u n) (λ less. unused-none f r n u less split.1 free) split.0
  where
    by_last : (u < n) ⊎ (n ≤ u) → (u < n → r u ≡ false) → ((f n == 0) && r n) ≡ false → r u ≡ false
    by_last (inl less) below last = below less
    by_last (inr high) below last =
        let same : u ≡ n = omega (arith, low, high) in
        let is : (f n == 0) ≡ true = ap (λ (k : ℕ). k == 0) (ap f (sym same) ∙ free) in
        ap r same ∙ ap (λ (b : Bool). b && r n) (sym is) ∙ last

unused-empty : (f : ℕ → ℕ) (r : ℕ → Bool) (n : ℕ) → ((u : ℕ) → u < n → f u ≡ 0 → r u ≡ false) → any_unused f r n ≡ false
unused-empty f r zero none = unused-zero f r
unused-empty f r (suc n) none = unused-suc f r n ∙ ap (λ (b : Bool). b || any_unused f r n) (by_use (f n == 0) refl) ∙ unused-empty f r n (λ u low. none u (omega (arith, low)))
  where
    by_use : (b : Bool) → (f n == 0) ≡ b → (b && r n) ≡ false
    by_use true is = none n (omega arith) (same_means (f n) 0 is)
    by_use false is = refl

-- ---- what is asked of a mutex by slot and by thread

-- the answers are the same of every mutex, if they are of one that is had, a free one and none
asked_same : {A : Type 0} (tid_at : ℕ → ℕ) (f g : Mutex → A)
    → ((o : Ownership) → f (named_mutex tid_at (Some (Some o))) ≡ g (Some (Some o)))
    → f free_mutex ≡ g free_mutex
    → f None ≡ g None
    → (y : Mutex) → f (named_mutex tid_at y) ≡ g y
asked_same tid_at f g owned free none (Some (Some o)) = owned o
asked_same tid_at f g owned free none (Some None) = free
asked_same tid_at f g owned free none None = none

-- a function of one of two
of_if : {A B : Type 0} (f : A → B) (b : Bool) (y z : A) → f (if b then y else z) ≡ (if b then f y else f z)
of_if f true y z = refl
of_if f false y z = refl

-- ---- a table by slot, as it is read by thread

-- `named` says by thread what an entry says by slot
module _ {A B : Type 0} (d : B) (named : A → B) where
  abbrev shown : (ℕ → A) → ℕ → B
  shown F = table d (listed (λ i. named (F i)))

  shown_at : (F : ℕ → A) (i : ℕ) → i < name_limit → shown F i ≡ named (F i)
  shown_at F i low = to_at d name_limit (λ j. named (F j)) i low

  -- a change of one entry by slot is a change of it by thread
  changed : (F : ℕ → A) (i : ℕ) (y : A) (z : B) → i < name_limit → named y ≡ z → shown (put F i y) ≡ put (shown F) i z
  changed F i y z low is =
      ap (λ (f : ℕ → B). table d (listed f)) (ap_put named F i y)
      ∙ to_put d name_limit (λ j. named (F j)) i (named y) low
      ∙ ap (put (shown F) i) is

  -- and so is a change of each
  each_changed : (F G : ℕ → A) (g : ℕ → B → B)
      → ((i : ℕ) → i < name_limit → named (G i) ≡ g i (named (F i)))
      → ((i : ℕ) → g i d ≡ d)
      → shown G ≡ (λ i. g i (shown F i))
  each_changed F G g here past = fun_ext (λ i. by_name i (cases_lt i name_limit))
    where
      by_name : (i : ℕ) → (i < name_limit) ⊎ (name_limit ≤ i) → shown G i ≡ g i (shown F i)
      by_name i (inl low) = shown_at G i low ∙ here i low ∙ ap (g i) (sym (shown_at F i low))
      by_name i (inr high) =
          to_past d name_limit (λ j. named (G j)) i high
          ∙ sym (past i)
          ∙ ap (g i) (sym (to_past d name_limit (λ j. named (F j)) i high))

-- ---- at the slot of a thread

module _ (x : ThreadsOf) (t u : ℕ) (tied : IsTied (slot_of x) (tid_at x)) (e : slot_of x t ≡ Some u) where
  numbered : t ≢ 0
  numbered same = none_some (sym tied.zero ∙ ap (slot_of x) (sym same) ∙ e)

  at : tid_at x u ≡ t
  at = tied.tid t u e

  pub slot_low : u < thread_limit
  slot_low = tied.low u (λ zero. numbered (sym at ∙ zero))

  apart_by : (o : ℕ) → o ≢ u → tid_at x o ≢ t
  apart_by o apart same =
      let used : tid_at x o ≢ 0 = λ zero. numbered (sym same ∙ zero) in
      apart (some_same o u (sym (tied.slot o used) ∙ ap (slot_of x) same ∙ e))

  same_owner : (o : ℕ) → (tid_at x o == t) ≡ (o == u)
  same_owner o = by_slot (o == u) refl
    where
      by_slot : (b : Bool) → (o == u) ≡ b → (tid_at x o == t) ≡ b
      by_slot true is = ap (λ (k : ℕ). tid_at x k == t) (same_means o u is) ∙ ap (λ (k : ℕ). k == t) at ∙ same_self t
      by_slot false is = not_same (tid_at x o) t (apart_by o (same_fails o u is))

  -- ---- a mutex

  abbrev named : Mutex → Mutex
  named y = named_mutex (tid_at x) y

  has_same : (y : Mutex) → has t (named y) ≡ has u y
  has_same = asked_same (tid_at x) (has t) (has u) (λ o. same_owner o.owner) refl refl

  with_named : (n : ℕ) → named (mutex_with u n) ≡ mutex_with t n
  with_named n = of_if named (n == 0) free_mutex _ ∙ ap (λ (k : ℕ). if n == 0 then free_mutex else Some (Some (record { owner = k; levels = n }))) at

  left_named : (y : Mutex) → named (if has u y then free_mutex else y) ≡ (if has t (named y) then free_mutex else named y)
  left_named y = of_if named (has u y) free_mutex y ∙ ap (λ (b : Bool). if b then free_mutex else named y) (sym (has_same y))

  -- ---- a lock

  one_same : (w : Option ℕ) → is_one t (option_map (tid_at x) w) ≡ is_one u w
  one_same (Some o) = same_owner o
  one_same None = refl

  left_writer : (w : Option ℕ) → option_map (tid_at x) (without_slot u w) ≡ without_slot t (option_map (tid_at x) w)
  left_writer w = of_if (option_map (tid_at x)) (is_one u w) None w ∙ ap (λ (b : Bool). if b then None else option_map (tid_at x) w) (sym (one_same w))

  reads_same : (r : ℕ → Bool) → named_reads x r t ≡ r u
  reads_same r = ap (λ (b : Bool). if b then any_unused (tid_at x) r thread_limit else seen false (slot_of x) r t) (not_same t 0 numbered) ∙ seen_at false (slot_of x) r t u e

  -- a slot that is used counts for no other one
  unused_put : (r : ℕ → Bool) (b : Bool) → any_unused (tid_at x) (put r u b) thread_limit ≡ any_unused (tid_at x) r thread_limit
  unused_put r b = unused-same (tid_at x) (tid_at x) (put r u b) r thread_limit (λ i. by_slot i (i == u) refl)
    where
      by_slot : (i : ℕ) (c : Bool) → (i == u) ≡ c → ((tid_at x i == 0) && put r u b i) ≡ ((tid_at x i == 0) && r i)
      by_slot i false apart = ap (λ (v : Bool). (tid_at x i == 0) && v) (put_other r u b i (same_fails i u apart))
      by_slot i true same =
          let used : (tid_at x i == 0) ≡ false = ap (λ (k : ℕ). k == 0) (ap (tid_at x) (same_means i u same) ∙ at) ∙ not_same t 0 numbered in
          ap (λ (v : Bool). v && put r u b i) used ∙ ap (λ (v : Bool). v && r i) (sym used)

  reads_put : (r : ℕ → Bool) (b : Bool) → named_reads x (put r u b) ≡ put (named_reads x r) t b
  reads_put r b = put_is _ _ t b (reads_same (put r u b) ∙ put_here r u b) (λ n apart.
      let other : seen false (slot_of x) (put r u b) n ≡ seen false (slot_of x) r n =
      ap (λ (f : ℕ → Bool). f n) (seen_put false (slot_of x) (tid_at x) r t u b tied e) ∙ put_other (seen false (slot_of x) r) t b n apart in
      λ i. if n == 0 then unused_put r b i else other i)

-- ---- the tables that are read

module _ (x : ThreadsOf) (M : MutexTable) where
  abbrev pub read_mutexes : MutexTable
  read_mutexes = shown None (named_mutex (tid_at x)) M

  pub mutex_at : (m : ℕ) → m < name_limit → read_mutexes m ≡ named_mutex (tid_at x) (M m)
  mutex_at m low = shown_at None (named_mutex (tid_at x)) M m low

  asked_read : {A : Type 0} (f g : Mutex → A)
      → ((o : Ownership) → f (named_mutex (tid_at x) (Some (Some o))) ≡ g (Some (Some o)))
      → f free_mutex ≡ g free_mutex
      → f None ≡ g None
      → (m : ℕ) → m < name_limit → f (read_mutexes m) ≡ g (M m)
  asked_read f g owned free none m low = ap f (mutex_at m low) ∙ asked_same (tid_at x) f g owned free none (M m)

  pub initialised_read : (m : ℕ) → m < name_limit → shown None (named_mutex (tid_at x)) (mutex_initialised m M) ≡ mutex_initialised m read_mutexes
  initialised_read m low = changed None (named_mutex (tid_at x)) M m free_mutex _ low refl

  pub mutex_init_is : (m : ℤ) → object_named m < name_limit → mutex_init_answer read_mutexes m ≡ mutex_init_answer M m
  mutex_init_is m low =
      let answer : Mutex → Result (Unit {0}) Errno = λ y. if not (is_object m) then Err EINVAL else if is_some y then Err EBUSY else Ok tt in
      asked_read answer answer (λ o. refl) refl refl (object_named m) low

  pub mutex_free_is : (m : ℤ) → object_named m < name_limit → mutex_free_answer read_mutexes m ≡ mutex_free_answer M m
  mutex_free_is m low =
      let answer : Mutex → Result Bool Errno = λ y. if is_none y then Err EINVAL else Ok (is_none (owner_of y)) in
      asked_read answer answer (λ o. refl) refl refl (object_named m) low

  -- the owner at a slot, by number
  abbrev pub named_owner : Result (Option Slot) Errno → Result (Option Tid) Errno
  named_owner (Ok o) = Ok (option_map (λ (u : Slot). tid (tid_at x u.0)) o)
  named_owner (Err e) = Err e

  mutex_owner_is : (m : ℤ) → object_named m < name_limit → owner_answer read_mutexes m ≡ named_owner (mutex_owner_answer M m)
  mutex_owner_is m low = asked_read
      (λ y. if is_none y then Err EINVAL else Ok (option_map tid (owner_of y)))
      (λ y. named_owner (if is_none y then Err EINVAL else Ok (option_map slot_numbered (owner_of y))))
      (λ o. refl) refl refl (object_named m) low

  pub owner_named : (m : ℤ) → object_named m < name_limit → (r : Result (Option Slot) Errno) → r ≡ mutex_owner_answer M m → named_owner r ≡ owner_answer read_mutexes m
  owner_named m low r is = ap named_owner is ∙ sym (mutex_owner_is m low)

  -- if thread 0 has nothing, an owner is somebody
  pub owner_used : (m : ℤ) (u : Slot) → object_named m < name_limit → Ok (Some u) ≡ mutex_owner_answer M m → ((i : ℕ) → has 0 (read_mutexes i) ≡ false) → tid_at x u.0 ≢ 0
  owner_used m u low is spare = by_mutex (M (object_named m)) is (sym (ap (has 0) (mutex_at (object_named m) low)) ∙ spare (object_named m))
    where
      by_mutex : (y : Mutex) → Ok (Some u) ≡ (if is_none y then Err EINVAL else Ok (option_map slot_numbered (owner_of y))) → has 0 (named_mutex (tid_at x) y) ≡ false → tid_at x u.0 ≢ 0
      by_mutex (Some (Some o)) is used = λ zero. same_fails (tid_at x o.owner) 0 used (ap (λ (v : Slot). tid_at x v.0) (some_slot (slot_numbered o.owner) u (sym is)) ∙ zero)
      by_mutex (Some None) is used = absurd (cc is)
      by_mutex None is used = absurd (cc is)

  module _ (t u : ℕ) (tied : IsTied (slot_of x) (tid_at x)) (e : slot_of x t ≡ Some u) where
    pub mutex_take_is : (m : ℤ) → object_named m < name_limit → mutex_take_answer read_mutexes t m ≡ mutex_take_answer M u m
    mutex_take_is m low = asked_read (take_answer t) (take_answer u) (λ o. rw (same_owner x t u tied e o.owner) refl) refl refl (object_named m) low

    pub mutex_release_is : (m : ℤ) → object_named m < name_limit → mutex_release_answer read_mutexes t m ≡ mutex_release_answer M u m
    mutex_release_is m low = asked_read (release_answer t) (release_answer u) (λ o. rw (same_owner x t u tied e o.owner) refl) refl refl (object_named m) low

    levels_read : (m : ℕ) → m < name_limit → levels_of u (M m) ≡ levels_of t (read_mutexes m)
    levels_read m low = sym (asked_read (levels_of t) (levels_of u) (λ o. ap (λ (b : Bool). if b then o.levels else 0) (same_owner x t u tied e o.owner)) refl refl m low)

    pub taken_read : (m : ℕ) → m < name_limit → shown None (named_mutex (tid_at x)) (mutex_taken u m M) ≡ mutex_taken t m read_mutexes
    taken_read m low = changed None (named_mutex (tid_at x)) M m _ _ low
        (with_named x t u tied e (levels_of u (M m) + 1) ∙ ap (λ (n : ℕ). mutex_with t (n + 1)) (levels_read m low))

    pub released_read : (m : ℕ) → m < name_limit → shown None (named_mutex (tid_at x)) (mutex_released u m M) ≡ mutex_released t m read_mutexes
    released_read m low = changed None (named_mutex (tid_at x)) M m _ _ low
        (with_named x t u tied e (levels_of u (M m) - 1) ∙ ap (λ (n : ℕ). mutex_with t (n - 1)) (levels_read m low))

    pub has_read : (m : ℕ) → m < name_limit → has t (read_mutexes m) ≡ has u (M m)
    has_read m low = ap (has t) (mutex_at m low) ∙ has_same x t u tied e (M m)

    -- a set of the mutexes that it has
    pub had_each : (set : ℕ) → set < 2 ^ 64 → ((m : ℕ) → contains set m ≡ has u (M m)) → (m : ℕ) → contains set m ≡ has t (read_mutexes m)
    had_each set fits had m = by_name (cases_lt m name_limit)
      where
        by_name : (m < name_limit) ⊎ (name_limit ≤ m) → contains set m ≡ has t (read_mutexes m)
        by_name (inl low) = had m ∙ sym (has_read m low)
        by_name (inr high) = contains-past set fits m (omega (arith, high)) ∙ ap (has t) (sym (to_past None name_limit (λ i. named_mutex (tid_at x) (M i)) m high))

    pub mutexes_left_read : shown None (named_mutex (tid_at x)) (mutexes_left u M) ≡ mutexes_left t read_mutexes
    mutexes_left_read = each_changed None (named_mutex (tid_at x)) M (mutexes_left u M)
        (λ m y. if has t y then free_mutex else y)
        (λ m low. left_named x t u tied e (M m))
        (λ m. refl)

    -- the thread is gone
    module _ (y : ThreadsOf) (gone : RemovesThread x y u) where
      others_named : (z : Mutex) (b : Bool) → has u z ≡ b → named_mutex (tid_at y) (if b then free_mutex else z) ≡ named_mutex (tid_at x) (if b then free_mutex else z)
      others_named z true is = refl
      others_named (Some (Some o)) false is = ap (λ (k : ℕ). Some (Some (record { owner = k; levels = o.levels }))) ((λ i. gone.tids i o.owner) ∙ put_other (tid_at x) u 0 o.owner (same_fails o.owner u is))
      others_named (Some None) false is = refl
      others_named None false is = refl

      gone_named : ◌≡◌ {A = ℕ → Mutex} (λ i. named_mutex (tid_at y) (mutexes_left u M i)) (λ i. named_mutex (tid_at x) (mutexes_left u M i))
      gone_named = fun_ext (λ i. others_named (M i) (has u (M i)) refl)

      pub mutexes_gone_read : shown None (named_mutex (tid_at y)) (mutexes_left u M) ≡ mutexes_left t read_mutexes
      mutexes_gone_read = ap (λ (f : ℕ → Mutex). table None (listed f)) gone_named ∙ mutexes_left_read

      pub mutexes_still : ((m : ℕ) → has t (read_mutexes m) ≡ false) → listed (λ i. named_mutex (tid_at y) (mutexes_left u M i)) ≡ listed (λ i. named_mutex (tid_at x) (M i))
      mutexes_still none =
          ap (λ (f : ℕ → Mutex). listed f) gone_named
          ∙ to_same name_limit _ _ (λ i low. ap (λ (b : Bool). named_mutex (tid_at x) (if b then free_mutex else M i)) (sym (has_read i low) ∙ none i))

  -- a new thread
  pub mutexes_added : (y : ThreadsOf) (u : ℕ) (d : Entry) → AddsThread x y u d → ((m : ℕ) → has 0 (read_mutexes m) ≡ false) → listed (λ i. named_mutex (tid_at y) (M i)) ≡ listed (λ i. named_mutex (tid_at x) (M i))
  mutexes_added y u d adds spare = to_same name_limit _ _ (λ i low. by_owner (M i) (sym (ap (has 0) (mutex_at i low)) ∙ spare i))
    where
      by_owner : (z : Mutex) → has 0 (named_mutex (tid_at x) z) ≡ false → named_mutex (tid_at y) z ≡ named_mutex (tid_at x) z
      by_owner (Some (Some o)) used =
          let apart : o.owner ≢ u = λ same. same_fails (tid_at x o.owner) 0 used (ap (tid_at x) same ∙ adds.unused) in
          ap (λ (k : ℕ). Some (Some (record { owner = k; levels = o.levels }))) ((λ i. adds.tids i o.owner) ∙ put_other (tid_at x) u d.tid.0 o.owner apart)
      by_owner (Some None) used = refl
      by_owner None used = refl

same_locks : {i j : List Bool} {v w : List (Option ℕ)} {f g : List (List Bool)} {m n : List ℕ} → i ≡ j → v ≡ w → f ≡ g → m ≡ n → ◌≡◌ {A = LocksOf} (record { initialised = i; writers = v; reads = f; readers = m }) (record { initialised = j; writers = w; reads = g; readers = n })
same_locks p q r o = λ k. record { initialised = p k; writers = q k; reads = r k; readers = o k }

same_tables : {i j : ℕ → Bool} {v w : ℕ → Option ℕ} {f g : ℕ → ℕ → Bool} {m n : ℕ → ℕ} → i ≡ j → v ≡ w → f ≡ g → m ≡ n → ◌≡◌ {A = LockTables} (record { initialised = i; writer = v; reads = f; readers = m }) (record { initialised = j; writer = w; reads = g; readers = n })
same_tables p q r o = λ k. record { initialised = p k; writer = q k; reads = r k; readers = o k }

module _ (x : ThreadsOf) (L : LockTables) where
  abbrev pub read_locks : LockTables
  read_locks = locks_of (locked_by x L)

  -- who writes and who reads, by number
  abbrev writers_named : ℕ → Option ℕ
  writers_named l = option_map (tid_at x) (L.writer l)

  abbrev pub readers_named : ℕ → ℕ → Bool
  readers_named l = named_reads x (L.reads l)

  pub known_lock : (l : ℕ) → l < name_limit → read_locks.initialised l ≡ L.initialised l
  known_lock l low = to_at false name_limit L.initialised l low

  writer_at : (l : ℕ) → l < name_limit → read_locks.writer l ≡ writers_named l
  writer_at l low = to_at None name_limit writers_named l low

  pub readers_at : (l : ℕ) → l < name_limit → read_locks.readers l ≡ L.readers l
  readers_at l low = to_at 0 name_limit L.readers l low

  some_writer : (w : Option ℕ) → is_some (option_map (tid_at x) w) ≡ is_some w
  some_writer (Some o) = refl
  some_writer None = refl

  pub written_lock : (l : ℕ) → l < name_limit → is_written read_locks l ≡ is_written L l
  written_lock l low = ap (λ (w : Option ℕ). is_some w) (writer_at l low) ∙ some_writer (L.writer l)

  pub read_lock : (l : ℕ) → l < name_limit → not (read_locks.readers l == 0) ≡ not (L.readers l == 0)
  read_lock l low = ap (λ (n : ℕ). not (n == 0)) (readers_at l low)

  pub lock_init_is : (l : ℤ) → object_named l < name_limit → lock_init_answer read_locks l ≡ lock_init_answer L l
  lock_init_is l low = λ i. if not (is_object l) then Err EINVAL else if known_lock (object_named l) low i then Err EBUSY else Ok tt

  -- by: a lock is initialised, written under and read
  abbrev may_by : Bool → Bool → Bool → Bool
  may_by write written read = if write then not (written || read) else not written

  pub lock_free_is : (write : Bool) (l : ℤ) → object_named l < name_limit → lock_free_answer read_locks write l ≡ lock_free_answer L write l
  lock_free_is write l low = let k = object_named l in λ i.
      if not (known_lock k low i) then Err EINVAL else
      Ok (may_by write (written_lock k low i) (read_lock k low i))

  pub lock_initialised_read : (l : ℕ) → l < name_limit → locks_of (locked_by x (lock_initialised l L)) ≡ lock_initialised l read_locks
  lock_initialised_read l low = same_tables (to_put false name_limit L.initialised l true low) refl refl refl

  -- the slots are the same
  pub locks_same : (y : ThreadsOf) → slot_of y ≡ slot_of x → tid_at y ≡ tid_at x → locked_by y L ≡ locked_by x L
  locks_same y slots tids = same_locks refl
      (λ i. listed (λ l. option_map (tids i) (L.writer l)))
      (λ i. listed (λ l. listed (λ n. if n == 0 then any_unused (tids i) (L.reads l) thread_limit else seen false (slots i) (L.reads l) n)))
      refl

  module _ (t u : ℕ) (tied : IsTied (slot_of x) (tid_at x)) (e : slot_of x t ≡ Some u) (few : t < name_limit) where
    pub reads_at : (l : ℕ) → l < name_limit → read_locks.reads l t ≡ L.reads l u
    reads_at l low = read_here false readers_named l t low few ∙ reads_same x t u tied e (L.reads l)

    pub holds_lock : (l : ℕ) → l < name_limit → holds read_locks t l ≡ holds L u l
    holds_lock l low = let writes = ap (is_one t) (writer_at l low) ∙ one_same x t u tied e (L.writer l) in λ i. writes i || reads_at l low i

    -- a set of the locks that it holds
    pub held_each : (set : ℕ) → set < 2 ^ 64 → ((l : ℕ) → contains set l ≡ holds L u l) → (l : ℕ) → contains set l ≡ holds read_locks t l
    held_each set fits held l = by_name (cases_lt l name_limit)
      where
        by_name : (l < name_limit) ⊎ (name_limit ≤ l) → contains set l ≡ holds read_locks t l
        by_name (inl low) = held l ∙ sym (holds_lock l low)
        by_name (inr high) =
            contains-past set fits l (omega (arith, high))
            ∙ sym (ap (λ (w : Option ℕ). is_one t w || read_locks.reads l t) (to_past None name_limit writers_named l high) ∙ ap (λ (f : ℕ → Bool). f t) (read_past false readers_named l high) ∙ get_or_past [] t false (omega arith))

    pub lock_take_is : (write : Bool) (l : ℤ) → object_named l < name_limit → lock_take_answer read_locks t write l ≡ lock_take_answer L u write l
    lock_take_is write l low = let k = object_named l in λ i.
        if not (known_lock k low i) then Err EINVAL else
        if holds_lock k low i then Err EDEADLK else
        if not (may_by write (written_lock k low i) (read_lock k low i)) then Err EBUSY else
        Ok tt

    pub lock_release_is : (l : ℤ) → object_named l < name_limit → lock_release_answer read_locks t l ≡ lock_release_answer L u l
    lock_release_is l low = let k = object_named l in λ i.
        if not (known_lock k low i) then Err EINVAL else
        if not (written_lock k low i || read_lock k low i) then Err EDEADLK else
        if not (holds_lock k low i) then Err EACCES else
        Ok tt

    reads_changed : (b : Bool) (l : ℕ) → l < name_limit → read false (λ i. named_reads x (put L.reads l (put (L.reads l) u b) i)) ≡ put read_locks.reads l (put (read_locks.reads l) t b)
    reads_changed b l low = ap (read false) (ap_put (named_reads x) L.reads l (put (L.reads l) u b) ∙ ap (put readers_named l) (reads_put x t u tied e (L.reads l) b)) ∙ read_one false readers_named l t b low few

    pub lock_taken_read : (write : Bool) (l : ℕ) → l < name_limit → locks_of (locked_by x (lock_taken u write l L)) ≡ lock_taken t write l read_locks
    lock_taken_read true l low = same_tables refl
        (changed None (option_map (tid_at x)) L.writer l (Some u) (Some t) low (ap Some (at x t u tied e)))
        refl refl
    lock_taken_read false l low = same_tables refl refl
        (reads_changed true l low)
        (changed 0 (λ n. n) L.readers l _ _ low (ap (λ (n : ℕ). n + 1) (sym (readers_at l low))))

    pub lock_released_read : (l : ℕ) → l < name_limit → locks_of (locked_by x (lock_released u l L)) ≡ lock_released t l read_locks
    lock_released_read l low = same_tables refl
        (changed None (option_map (tid_at x)) L.writer l _ _ low (left_writer x t u tied e (L.writer l) ∙ ap (without_slot t) (sym (writer_at l low))))
        (reads_changed false l low)
        (changed 0 (λ n. n) L.readers l _ _ low (λ i. readers_without (sym (reads_at l low) i) (sym (readers_at l low) i)))

    pub locks_left_read : locks_of (locked_by x (locks_left u L)) ≡ locks_left t read_locks
    locks_left_read = same_tables refl
        (each_changed None (option_map (tid_at x)) L.writer _ (λ l. without_slot t)
        (λ l low. left_writer x t u tied e (L.writer l))
        (λ l. refl))
        (ap (read false) (fun_ext (λ l. reads_put x t u tied e (L.reads l) false)) ∙ read_each false readers_named t few)
        (each_changed 0 (λ n. n) L.readers _ (λ l. readers_without (read_locks.reads l t))
        (λ l low. ap (λ (b : Bool). readers_without b (L.readers l)) (sym (reads_at l low)))
        (λ l. none_less (read_locks.reads l t)))
      where
        none_less : (b : Bool) → readers_without b 0 ≡ 0
        none_less true = refl
        none_less false = refl

    -- the thread is gone
    module _ (y : ThreadsOf) (gone : RemovesThread x y u) where
      others_write : (w : Option ℕ) (b : Bool) → is_one u w ≡ b → option_map (tid_at y) (if b then None else w) ≡ option_map (tid_at x) (if b then None else w)
      others_write w true is = refl
      others_write (Some o) false is = ap Some ((λ i. gone.tids i o) ∙ put_other (tid_at x) u 0 o (same_fails o u is))
      others_write None false is = refl

      slots_gone : slot_of y ≡ put (slot_of x) t None
      slots_gone = gone.slots ∙ ap (λ (n : ℕ). put (slot_of x) n None) (at x t u tied e)

      unused_gone : (r : ℕ → Bool) → any_unused (tid_at y) (put r u false) thread_limit ≡ any_unused (tid_at x) (put r u false) thread_limit
      unused_gone r = unused-same (tid_at y) (tid_at x) (put r u false) (put r u false) thread_limit (λ i. by_slot i (i == u) refl)
        where
          and_none : (b : Bool) → (b && false) ≡ false
          and_none true = refl
          and_none false = refl

          by_slot : (i : ℕ) (c : Bool) → (i == u) ≡ c → ((tid_at y i == 0) && put r u false i) ≡ ((tid_at x i == 0) && put r u false i)
          by_slot i true same = rw (ap (put r u false) (same_means i u same) ∙ put_here r u false) (and_none (tid_at y i == 0) ∙ sym (and_none (tid_at x i == 0)))
          by_slot i false apart = ap (λ (k : ℕ). (k == 0) && put r u false i) (ap (λ (f : ℕ → ℕ). f i) gone.tids ∙ put_other (tid_at x) u 0 i (same_fails i u apart))

      seen_gone_at : (r : ℕ → Bool) → seen false (slot_of y) (put r u false) ≡ seen false (slot_of x) (put r u false)
      seen_gone_at r =
          let F = put r u false in
          ap (λ (g : ℕ → Option ℕ). seen false g F) slots_gone
          ∙ seen_gone false (slot_of x) (tid_at x) F t u tied e
          ∙ put_none (seen false (slot_of x) F) t false (seen_at false (slot_of x) F t u e ∙ put_here r u false)

      reads_gone : (l : ℕ) → named_reads y (put (L.reads l) u false) ≡ named_reads x (put (L.reads l) u false)
      reads_gone l = fun_ext (λ n. λ i. if n == 0 then unused_gone (L.reads l) i else seen_gone_at (L.reads l) i n)

      gone_locked : locked_by y (locks_left u L) ≡ locked_by x (locks_left u L)
      gone_locked = same_locks refl
          (ap (λ (f : ℕ → Option ℕ). listed f) (fun_ext (λ l. others_write (L.writer l) (is_one u (L.writer l)) refl)))
          (ap (λ (h : ℕ → ℕ → Bool). listed (λ l. listed (h l))) (fun_ext reads_gone))
          refl

      pub locks_gone_read : locks_of (locked_by y (locks_left u L)) ≡ locks_left t read_locks
      locks_gone_read = ap locks_of gone_locked ∙ locks_left_read

      pub locks_still : ((l : ℕ) → holds read_locks t l ≡ false) → locked_by y (locks_left u L) ≡ locked_by x L
      locks_still none = gone_locked ∙ same_locks refl
          (to_same name_limit _ _ (λ l low. ap (λ (b : Bool). option_map (tid_at x) (if b then None else L.writer l)) (not_held l low).0))
          (to_same name_limit _ _ (λ l low. ap (λ (f : ℕ → Bool). listed (named_reads x f)) (put_none (L.reads l) u false (not_held l low).1)))
          (to_same name_limit _ _ (λ l low. ap (λ (b : Bool). readers_without b (L.readers l)) (not_held l low).1))
        where
          not_held : (l : ℕ) → l < name_limit → (is_one u (L.writer l) ≡ false) × (L.reads l u ≡ false)
          not_held l low = neither (is_one u (L.writer l)) (L.reads l u) (sym (holds_lock l low) ∙ none l)

  -- a new thread
  pub locks_added : (y : ThreadsOf) (u : ℕ) (d : Entry) → IsTied (slot_of x) (tid_at x) → AddsThread x y u d → ((l : ℕ) → holds read_locks 0 l ≡ false) → locked_by y L ≡ locked_by x L
  locks_added y u d tied adds spare = same_locks refl
      (to_same name_limit _ _ (λ l low. by_writer (L.writer l) (sym (ap (is_one 0) (writer_at l low)) ∙ (spared l).0)))
      (to_same name_limit _ _ (λ l low. ap (λ (f : ℕ → Bool). listed f) (fun_ext (λ n. by_number l (spare_reads l low) n (n == 0) refl))))
      refl
    where
      spared : (l : ℕ) → (is_one 0 (read_locks.writer l) ≡ false) × (read_locks.reads l 0 ≡ false)
      spared l = neither (is_one 0 (read_locks.writer l)) (read_locks.reads l 0) (spare l)

      by_writer : (w : Option ℕ) → is_one 0 (option_map (tid_at x) w) ≡ false → option_map (tid_at y) w ≡ option_map (tid_at x) w
      by_writer (Some o) used =
          let apart : o ≢ u = λ same. same_fails (tid_at x o) 0 used (ap (tid_at x) same ∙ adds.unused) in
          ap Some ((λ i. adds.tids i o) ∙ put_other (tid_at x) u d.tid.0 o apart)
      by_writer None used = refl

      spare_reads : (l : ℕ) → l < name_limit → any_unused (tid_at x) (L.reads l) thread_limit ≡ false
      spare_reads l low = sym (read_here false readers_named l 0 low (omega arith)) ∙ (spared l).1

      by_number : (l : ℕ) → any_unused (tid_at x) (L.reads l) thread_limit ≡ false → (n : ℕ) (b : Bool) → (n == 0) ≡ b → (if b then any_unused (tid_at y) (L.reads l) thread_limit else seen false (slot_of y) (L.reads l) n) ≡ (if b then any_unused (tid_at x) (L.reads l) thread_limit else seen false (slot_of x) (L.reads l) n)
      by_number l none n true is = unused-empty (tid_at y) (L.reads l) thread_limit (λ i low free. unused-none (tid_at x) (L.reads l) thread_limit i low none (still_free i free (i == u) refl)) ∙ sym none
        where
          still_free : (i : ℕ) → tid_at y i ≡ 0 → (b : Bool) → (i == u) ≡ b → tid_at x i ≡ 0
          still_free i free true same = ap (tid_at x) (same_means i u same) ∙ adds.unused
          still_free i free false apart = sym (ap (λ (f : ℕ → ℕ). f i) adds.tids ∙ put_other (tid_at x) u d.tid.0 i (same_fails i u apart)) ∙ free
      by_number l none n false is =
          let unread : L.reads l u ≡ false = unused-none (tid_at x) (L.reads l) thread_limit u adds.low none adds.unused in
          ap (λ (g : ℕ → Option ℕ). seen false g (L.reads l) n) adds.slots
          ∙ ap (λ (f : ℕ → Bool). seen false (put (slot_of x) d.tid.0 (Some u)) f n) (sym (put_none (L.reads l) u false unread))
          ∙ ap (λ (f : ℕ → Bool). f n) (seen_new false (slot_of x) (tid_at x) (L.reads l) d.tid.0 u tied adds.unknown adds.unused)

-- before any call
pub no_locks_read : (x : ThreadsOf) → locks_of (locked_by x no_locks) ≡ no_locks
no_locks_read x = same_tables (to_none false name_limit) (to_none None name_limit)
    (ap (read false) (fun_ext (λ l. fun_ext (λ n. none_at n (n == 0)))) ∙ fun_ext (λ l. none_read false l (cases_lt l name_limit)))
    (to_none 0 name_limit)
  where
    none_at : (n : ℕ) (b : Bool) → (if b then any_unused (tid_at x) (λ _. false) thread_limit else seen false (slot_of x) (λ _. false) n) ≡ false
    none_at n true = unused-empty (tid_at x) (λ _. false) thread_limit (λ u low free. refl)
    none_at n false = ap (λ (f : ℕ → Bool). f n) (seen_nothing false (slot_of x))
