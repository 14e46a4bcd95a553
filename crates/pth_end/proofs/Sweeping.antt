-- A thread gives up what it has, one after another.
use Rattle.std.proofs.Common.{◌≡◌, ◌≢◌, ℕ, zero, suc, ◌+◌, ◌^◌, ◌<◌, ◌≤◌, ◌||◌, Bool, true, false, cond, if◌then◌else◌, ◌⊎◌, inl, inr, List, [], ◌∷◌, ◌++◌, map, filter, Option, None, refl, sym, ◌∙◌, ap, ap₂, subst, append_assoc, arith}
use Rattle.std.specs.List.{range_with_len}
use Rattle.std.proofs.lemmas.Bool.{cases_lt}
use mathlib.Core.Path.{fun_ext}
use Rattle.pth_base.specs.Cut.{IsCut}
use Rattle.pth_base.specs.Table.{put}
use Rattle.pth_base.specs.declared.ids.Tid.{Tid}
use Rattle.pth_base.specs.declared.mark.Mark.{Mark}
use Rattle.pth_base.specs.declared.mark.Mark.TheVariants.{GaveMutex, GaveLock}
use Rattle.pth_base.proofs.Cuts.{cut_then}
use Rattle.pth_base.proofs.Lists.{put_none, put_twice}
use Rattle.pth_base.proofs.Tables.{put_here, put_other, put_by}
use Rattle.pth_lock.specs.Objects.{object_limit}
use Rattle.pth_lock.specs.Mutexes.{Mutex, MutexTable, free_mutex, has, mutexes_left}
use Rattle.pth_lock.specs.RwLocks.{LockTables, holds, is_one, lock_released, locks_left, readers_without, without_slot}
use Rattle.pth_lock.specs.Sets.{contains}
use Rattle.pth_lock.proofs.Bits.{contains-past}
use Rattle.pth_lock.proofs.Sweeps.{by_place}
use Rattle.pth_model.specs.Ending.{gives_mutexes, gives_locks, locks_held, mutexes_had}
use Rattle.pth_model.specs.Resources.{told, mutex_freed}
use Rattle.pth_model.specs.Store.{Resources, Store, with_store, with_mutexes, with_rw_locks}
use Rattle.pth_model.specs.State.{State}
use Rattle.pth_model.specs.Transition.{Transition, tells, tells_each, tid}
use Rattle.pth_world.specs.Leading.{Leads}
use Rattle.pth_world.specs.Shows.{Shows, StandsFor}
use Rattle.pth_world.specs.Store.{store_of}
use Rattle.pth_world.specs.World.{WorldOf}
use Rattle.pth_world.proofs.Locked.{neither}
use Rattle.pth_end.specs.Giving.{given, all_given}
use Rattle.pth_end.specs.declared.giving.Held.{Held}
use Rattle.pth_end.specs.declared.giving.Held.TheVariants as held

-- ---- numbers in a row that pass a test

-- by the numbers that are looked at
filter_same : (p q : ℕ → Bool) (n m : ℕ) → ((i : ℕ) → m ≤ i → p i ≡ q i) → filter p (range_with_len m n) ≡ filter q (range_with_len m n)
filter_same p q zero m same = refl
filter_same p q (suc n) m same =
    ap (λ (b : Bool). cond b (m ∷ filter p (range_with_len (m + 1) n)) (filter p (range_with_len (m + 1) n))) (same m (omega arith))
    ∙ ap (λ (xs : List ℕ). cond (q m) (m ∷ xs) xs) (filter_same p q n (m + 1) (λ i high. same i (omega (arith, high))))

filter_none : (p : ℕ → Bool) (n m : ℕ) → ((i : ℕ) → p i ≡ false) → filter p (range_with_len m n) ≡ []
filter_none p zero m none = refl
filter_none p (suc n) m none = ap (λ (b : Bool). cond b (m ∷ filter p (range_with_len (m + 1) n)) (filter p (range_with_len (m + 1) n))) (none m) ∙ filter_none p n (m + 1) none

apart_above : (k i : ℕ) → k + 1 ≤ i → i ≢ k
apart_above k i high = omega (arith, high)

-- the least one first, and then the others
filter_first : (p : ℕ → Bool) (k n m : ℕ) → m ≤ k → k < m + n → p k ≡ true → ((i : ℕ) → i < k → p i ≡ false) → filter p (range_with_len m n) ≡ k ∷ filter (put p k false) (range_with_len m n)
filter_first p k zero m low high member least = absurd (omega (arith, low, high))
filter_first p k (suc n) m low high member least = by_place (cases_lt m k) (λ less. filter_first p k n (m + 1) (omega (arith, less)) (omega (arith, high)) member least)
  where
    rest : (ℕ → Bool) → List ℕ
    rest q = filter q (range_with_len (m + 1) n)

    by_place : (m < k) ⊎ (k ≤ m) → (m < k → rest p ≡ k ∷ rest (put p k false)) → cond (p m) (m ∷ rest p) (rest p) ≡ k ∷ cond (put p k false m) (m ∷ rest (put p k false)) (rest (put p k false))
    by_place (inl less) later =
        let apart : m ≢ k = omega (arith, less) in
        let out : p m ≡ false = least m less in
        ap (λ (b : Bool). cond b (m ∷ rest p) (rest p)) out ∙ later less ∙ ap (λ (b : Bool). k ∷ cond b (m ∷ rest (put p k false)) (rest (put p k false))) (sym (put_other p k false m apart ∙ out))
    by_place (inr above) later =
        let same : m ≡ k = omega (arith, low, above) in
        ap (λ (b : Bool). cond b (m ∷ rest p) (rest p)) (ap p same ∙ member)
        ∙ ap₂ (λ (i : ℕ) (xs : List ℕ). i ∷ xs) same (filter_same p (put p k false) n (m + 1) (λ i high. sym (put_other p k false i (apart_above k i (omega (arith, high, same))))))
        ∙ ap (λ (b : Bool). k ∷ cond b (m ∷ rest (put p k false)) (rest (put p k false))) (sym (ap (put p k false) same ∙ put_here p k false))

-- ---- what is told

module _ (h : Held) (t : Tid) where
  -- of nothing
  pub none_given : (set : ℕ → Bool) → ((k : ℕ) → set k ≡ false) → all_given h t set ≡ []
  unfolding all_given
  none_given set none = ap (map (given h t)) (filter_none set object_limit 0 none)

  -- of the least one first
  first_given : (set less : ℕ → Bool) (k : ℕ) → k < object_limit → set k ≡ true → ((i : ℕ) → i < k → set i ≡ false) → less ≡ put set k false → all_given h t set ≡ given h t k ∷ all_given h t less
  unfolding all_given
  first_given set less k low member least is =
      ap (map (given h t)) (filter_first set k object_limit 0 (omega arith) low member least)
      ∙ ap (λ (q : ℕ → Bool). given h t k ∷ all_given h t q) (sym is)

  -- it was told, and then the others
  module _ (set less : ℕ → Bool) (k : ℕ) (low : k < object_limit) (member : set k ≡ true) (least : (i : ℕ) → i < k → set i ≡ false) (is : less ≡ put set k false) (m : Mark) (one : m ≡ given h t k) (old mid new : List Mark) (appended : mid ≡ old ++ m ∷ []) where
    head : mid ≡ old ++ given h t k ∷ []
    head = appended ∙ ap (λ (x : Mark). old ++ x ∷ []) one

    all_is : all_given h t set ≡ given h t k ∷ all_given h t less
    all_is = first_given set less k low member least is

    pub given_then : new ≡ mid ++ all_given h t less → new ≡ old ++ all_given h t set
    given_then rest = rest ∙ ap (λ (xs : List Mark). xs ++ all_given h t less) head ∙ append_assoc old (given h t k ∷ []) (all_given h t less) ∙ ap (λ (xs : List Mark). old ++ xs) (sym all_is)

    pub given_cut : IsCut mid new (all_given h t less) → IsCut old new (all_given h t set)
    given_cut cut = subst (λ (xs : List Mark). IsCut old new xs) (sym all_is) (cut_then old mid new (given h t k ∷ []) (all_given h t less) head cut)

-- ---- a sweep: of each number in a row that passes a test a mark is told, after which it does not

module _ (mark : ℕ → Mark) (test : Store → ℕ → Bool) (step : ℕ → Store → Store) (all : Store → Store)
    (tell : (k : Resources) (m : ℕ) → told k (mark m) ≡ with_store k (step m k.store))
    (left : (x : Store) (m i : ℕ) → test (step m x) i ≡ put (test x) m false i)
    (rest : (x : Store) (m : ℕ) → test x m ≡ true → all (step m x) ≡ all x)
    (still : (x : Store) → ((i : ℕ) → test x i ≡ false) → all x ≡ x) where
  -- those from m on pass if p says so, and no others do
  record Stands (p : ℕ → Bool) (n m : ℕ) (x : Store) : Type 0 where
    same : (i : ℕ) → m ≤ i → test x i ≡ p i
    within : (i : ℕ) → test x i ≡ true → (m ≤ i) × (i < m + n)

  outside : (p : ℕ → Bool) (x : Store) (m i : ℕ) (b : Bool) → Stands p zero m x → test x i ≡ b → b ≡ false
  outside p x m i true h is = absurd (omega (arith, (h.within i is).0, (h.within i is).1))
  outside p x m i false h is = refl

  -- behind one that does not pass, or passes no more
  skipped : (p : ℕ → Bool) (x : Store) (n m : ℕ) → Stands p (suc n) m x → test x m ≡ false → Stands p n (m + 1) x
  skipped p x n m h out = record {
    same = λ i high. h.same i (omega (arith, high));
    within = λ i is.
        let apart : m ≢ i = λ here. cc (out, ap (test x) here ∙ is) in
        let at = h.within i is in
        (omega (arith, at.0, apart), omega (arith, at.1));
  }

  stepped : (p : ℕ → Bool) (x : Store) (n m : ℕ) → Stands p (suc n) m x → Stands p n (m + 1) (step m x)
  stepped p x n m h = record {
    same = λ i high. left x m i ∙ put_other (test x) m false i (apart_above m i high) ∙ h.same i (omega (arith, high));
    within = λ i is. put_by (λ (b : Bool). b ≡ true → (m + 1 ≤ i) × (i < m + 1 + n)) (test x) m false i
        (λ here no. absurd (cc no))
        (λ apart member. let at = h.within i member in (omega (arith, at.0, apart), omega (arith, at.1)))
        (sym (left x m i) ∙ is);
  }

  module _ {P S H : Type 0} where
    -- once all was given up
    abbrev swept : State P S H → Resources → List Mark → Transition P S H
    swept s k ms = record { state = record s { resources = with_store k (all k.store) }; marks = ms }

    sweep : (p : ℕ → Bool) (n m : ℕ) (s : State P S H) → Stands p n m s.resources.store → let ms = map mark (filter p (range_with_len m n)) in tells_each ms s ≡ swept s s.resources ms
    unfolding tells_each
    sweep p zero m s h = ap (λ (x : Store). record { state = record s { resources = with_store s.resources x }; marks = [] }) (sym (still s.resources.store (λ i. outside p s.resources.store m i (test s.resources.store i) h refl)))
    sweep p (suc n) m s h =
        by_test (p m) (h.same m (omega arith))
        (λ out. sweep p n (m + 1) s (skipped p s.resources.store n m h out))
        (sweep p n (m + 1) (tells (mark m) s).state (subst (λ (k : Resources). Stands p n (m + 1) k.store) (sym (tell s.resources m)) (stepped p s.resources.store n m h)))
      where
        rest_of : List ℕ
        rest_of = filter p (range_with_len (m + 1) n)

        by_test : (b : Bool) → test s.resources.store m ≡ b → (test s.resources.store m ≡ false → tells_each (map mark rest_of) s ≡ swept s s.resources (map mark rest_of)) → tells_each (map mark rest_of) (tells (mark m) s).state ≡ swept s (told s.resources (mark m)) (map mark rest_of)
            → let ms = map mark (cond b (m ∷ rest_of) rest_of) in tells_each ms s ≡ swept s s.resources ms
        by_test false out skip go = skip out
        by_test true member skip go =
            ap (λ (x : Transition P S H). record { state = x.state; marks = mark m ∷ x.marks }) go
            ∙ ap (λ (k : Resources). swept s k (mark m ∷ map mark rest_of)) (tell s.resources m)
            ∙ ap (λ (y : Store). record { state = record s { resources = with_store s.resources y }; marks = mark m ∷ map mark rest_of }) (rest s.resources.store m member)

-- ---- sets of 64 bits

-- none from 64 on
abbrev IsSmall : (ℕ → Bool) → Type 0
IsSmall test = (i : ℕ) → test i ≡ true → i < object_limit

within : (test : ℕ → Bool) → IsSmall test → (i : ℕ) → test i ≡ true → (0 ≤ i) × (i < 0 + object_limit)
within test small i is = let low = small i is in (omega arith, omega (arith, low))

small_by : (set i : ℕ) → set < 2 ^ 64 → contains set i ≡ true → (i < object_limit) ⊎ (object_limit ≤ i) → i < object_limit
small_by set i fits member (inl low) = low
small_by set i fits member (inr high) = absurd (cc (contains-past set fits i high, member))

small_set : (set : ℕ) (test : ℕ → Bool) → set < 2 ^ 64 → contains set ≡ test → IsSmall test
small_set set test fits is i member = small_by set i fits (ap (λ (f : ℕ → Bool). f i) is ∙ member) (cases_lt i object_limit)

-- ---- mutexes

module _ (t : ℕ) where
  abbrev mutex_test : Store → ℕ → Bool
  mutex_test x m = has t (x.mutexes m)

  abbrev give_mutex : ℕ → Store → Store
  give_mutex m x = with_mutexes (mutex_freed m) x

  left_mutex : (x : Store) (m i : ℕ) → mutex_test (give_mutex m x) i ≡ put (mutex_test x) m false i
  left_mutex x m = by_place (λ (i : ℕ). mutex_test (give_mutex m x) i ≡ put (mutex_test x) m false i) m
      (ap (has t) (put_here x.mutexes m free_mutex) ∙ sym (put_here (mutex_test x) m false))
      (λ i apart. ap (has t) (put_other x.mutexes m free_mutex i apart) ∙ sym (put_other (mutex_test x) m false i apart))

  rest_mutex : (x : Store) (m : ℕ) → mutex_test x m ≡ true → with_mutexes (mutexes_left t) (give_mutex m x) ≡ with_mutexes (mutexes_left t) x
  rest_mutex x m member = ap (λ (y : MutexTable). with_mutexes (λ _. y) x) (fun_ext (by_place (λ (i : ℕ). mutexes_left t (put x.mutexes m free_mutex) i ≡ mutexes_left t x.mutexes i) m
      (ap (λ (y : Mutex). if has t y then free_mutex else y) (put_here x.mutexes m free_mutex) ∙ sym (ap (λ (b : Bool). if b then free_mutex else x.mutexes m) member))
      (λ i apart. ap (λ (y : Mutex). if has t y then free_mutex else y) (put_other x.mutexes m free_mutex i apart))))

  still_mutex : (x : Store) → ((i : ℕ) → mutex_test x i ≡ false) → with_mutexes (mutexes_left t) x ≡ x
  still_mutex x none = ap (λ (y : MutexTable). with_mutexes (λ _. y) x) (fun_ext (λ i. ap (λ (b : Bool). if b then free_mutex else x.mutexes i) (none i)))

  mutex_told : (k : Resources) (m : ℕ) → told k (GaveMutex (tid t) m) ≡ with_store k (give_mutex m k.store)
  unfolding told
  mutex_told k m = refl

  -- ---- read-write locks

  abbrev lock_test : Store → ℕ → Bool
  lock_test x l = holds x.rw_locks t l

  abbrev give_lock : ℕ → Store → Store
  give_lock l x = with_rw_locks (lock_released t l) x

  same_locks : {j : ℕ → Bool} {v w : ℕ → Option ℕ} {f g : ℕ → ℕ → Bool} {m n : ℕ → ℕ} → v ≡ w → f ≡ g → m ≡ n → ◌≡◌ {A = LockTables} (record { initialised = j; writer = v; reads = f; readers = m }) (record { initialised = j; writer = w; reads = g; readers = n })
  same_locks {j = j} p q r = λ i. record { initialised = j; writer = p i; reads = q i; readers = r i }

  not_one : (w : Option ℕ) (b : Bool) → is_one t w ≡ b → is_one t (if b then None else w) ≡ false
  not_one w true is = refl
  not_one w false is = is

  none_twice : (w : Option ℕ) (b : Bool) → is_one t w ≡ b → without_slot t (if b then None else w) ≡ (if b then None else w)
  none_twice w true is = refl
  none_twice w false is = ap (λ (b : Bool). if b then None else w) is

  left_lock : (x : Store) (l i : ℕ) → lock_test (give_lock l x) i ≡ put (lock_test x) l false i
  left_lock x l =
      let k = x.rw_locks in
      let w = without_slot t (k.writer l) in
      let r = put (k.reads l) t false in
      by_place (λ (i : ℕ). lock_test (give_lock l x) i ≡ put (lock_test x) l false i) l
      (ap₂ (λ (v : Option ℕ) (f : ℕ → Bool). is_one t v || f t) (put_here k.writer l w) (put_here k.reads l r)
      ∙ ap₂ (λ (b c : Bool). b || c) (not_one (k.writer l) (is_one t (k.writer l)) refl) (put_here (k.reads l) t false)
      ∙ sym (put_here (lock_test x) l false))
      (λ i apart. ap₂ (λ (v : Option ℕ) (f : ℕ → Bool). is_one t v || f t) (put_other k.writer l w i apart) (put_other k.reads l r i apart) ∙ sym (put_other (lock_test x) l false i apart))

  rest_lock : (x : Store) (l : ℕ) → lock_test x l ≡ true → with_rw_locks (locks_left t) (give_lock l x) ≡ with_rw_locks (locks_left t) x
  rest_lock x l member =
      let k = x.rw_locks in
      let w = without_slot t (k.writer l) in
      let r = put (k.reads l) t false in
      let n = readers_without (k.reads l t) (k.readers l) in
      ap (λ (y : LockTables). with_rw_locks (λ _. y) x) (same_locks
      (fun_ext (by_place (λ (i : ℕ). without_slot t (put k.writer l w i) ≡ without_slot t (k.writer i)) l
      (ap (without_slot t) (put_here k.writer l w) ∙ none_twice (k.writer l) (is_one t (k.writer l)) refl)
      (λ i apart. ap (without_slot t) (put_other k.writer l w i apart))))
      (fun_ext (by_place (λ (i : ℕ). put (put k.reads l r i) t false ≡ put (k.reads i) t false) l
      (ap (λ (f : ℕ → Bool). put f t false) (put_here k.reads l r) ∙ put_twice (k.reads l) t false false)
      (λ i apart. ap (λ (f : ℕ → Bool). put f t false) (put_other k.reads l r i apart))))
      (fun_ext (by_place (λ (i : ℕ). readers_without (put k.reads l r i t) (put k.readers l n i) ≡ readers_without (k.reads i t) (k.readers i)) l
      (ap₂ (λ (b : Bool) (m : ℕ). readers_without b m) (ap (λ (f : ℕ → Bool). f t) (put_here k.reads l r) ∙ put_here (k.reads l) t false) (put_here k.readers l n))
      (λ i apart. ap₂ (λ (b : Bool) (m : ℕ). readers_without b m) (ap (λ (f : ℕ → Bool). f t) (put_other k.reads l r i apart)) (put_other k.readers l n i apart)))))

  still_lock : (x : Store) → ((i : ℕ) → lock_test x i ≡ false) → with_rw_locks (locks_left t) x ≡ x
  still_lock x none =
      let k = x.rw_locks in
      let held : (i : ℕ) → (is_one t (k.writer i) ≡ false) × (k.reads i t ≡ false) = λ i. neither (is_one t (k.writer i)) (k.reads i t) (none i) in
      ap (λ (y : LockTables). with_rw_locks (λ _. y) x) (same_locks
      (fun_ext (λ i. ap (λ (b : Bool). if b then None else k.writer i) (held i).0))
      (fun_ext (λ i. put_none (k.reads i) t false (held i).1))
      (fun_ext (λ i. ap (λ (b : Bool). readers_without b (k.readers i)) (held i).1)))

  lock_told : (k : Resources) (l : ℕ) → told k (GaveLock (tid t) l) ≡ with_store k (give_lock l k.store)
  unfolding told
  lock_told k l = refl

  -- ---- all of them

  module _ {P S H : Type 0} where
    mutexes_swept : (s : State P S H) → IsSmall (mutex_test s.resources.store) → gives_mutexes t s ≡ record { state = record s { resources = with_store s.resources (with_mutexes (mutexes_left t) s.resources.store) }; marks = all_given held.Mutex (tid t) (mutex_test s.resources.store) }
    unfolding all_given mutexes_had
    mutexes_swept s small =
        sweep (GaveMutex (tid t)) mutex_test give_mutex (with_mutexes (mutexes_left t)) mutex_told left_mutex rest_mutex still_mutex (mutex_test s.resources.store) object_limit 0 s
        (record { same = λ i high. refl; within = within (mutex_test s.resources.store) small })

    locks_swept : (s : State P S H) → IsSmall (lock_test s.resources.store) → gives_locks t s ≡ record { state = record s { resources = with_store s.resources (with_rw_locks (locks_left t) s.resources.store) }; marks = all_given held.RwLock (tid t) (lock_test s.resources.store) }
    unfolding all_given locks_held
    locks_swept s small =
        sweep (GaveLock (tid t)) lock_test give_lock (with_rw_locks (locks_left t)) lock_told left_lock rest_lock still_lock (lock_test s.resources.store) object_limit 0 s
        (record { same = λ i high. refl; within = within (lock_test s.resources.store) small })

    module _ (w v : WorldOf P S H) (s : State P S H) (st : StandsFor w s) (set : ℕ) (fits : set < 2 ^ 64) (old new : List Mark) where
      module _ (had : (m : ℕ) → contains set m ≡ mutex_test (store_of w.store) m) where
        mutex_set : contains set ≡ mutex_test s.resources.store
        mutex_set = fun_ext had ∙ ap mutex_test (sym st.store)

        mutexes_are : gives_mutexes t s ≡ record { state = record s { resources = with_store s.resources (with_mutexes (mutexes_left t) s.resources.store) }; marks = all_given held.Mutex (tid t) (contains set) }
        mutexes_are =
            mutexes_swept s (small_set set (mutex_test s.resources.store) fits mutex_set)
            ∙ ap (λ (f : ℕ → Bool). record { state = record s { resources = with_store s.resources (with_mutexes (mutexes_left t) s.resources.store) }; marks = all_given held.Mutex (tid t) f }) (sym mutex_set)

        pub mutexes_cut : IsCut old new (all_given held.Mutex (tid t) (contains set)) → IsCut old new (gives_mutexes t s).marks
        mutexes_cut cut = subst (λ (x : Transition P S H). IsCut old new x.marks) (sym mutexes_are) cut

        pub mutexes_lead : store_of v.store ≡ with_mutexes (mutexes_left t) (store_of w.store) → Shows v s.control → new ≡ old ++ all_given held.Mutex (tid t) (contains set) → Leads v old new (gives_mutexes t s)
        mutexes_lead changes shows appended = subst (λ (x : Transition P S H). Leads v old new x) (sym mutexes_are) (record {
          stands = record { control = shows; store = ap (with_mutexes (mutexes_left t)) st.store ∙ sym changes };
          tells = appended;
        })

      module _ (holding : (l : ℕ) → contains set l ≡ lock_test (store_of w.store) l) where
        lock_set : contains set ≡ lock_test s.resources.store
        lock_set = fun_ext holding ∙ ap lock_test (sym st.store)

        locks_are : gives_locks t s ≡ record { state = record s { resources = with_store s.resources (with_rw_locks (locks_left t) s.resources.store) }; marks = all_given held.RwLock (tid t) (contains set) }
        locks_are =
            locks_swept s (small_set set (lock_test s.resources.store) fits lock_set)
            ∙ ap (λ (f : ℕ → Bool). record { state = record s { resources = with_store s.resources (with_rw_locks (locks_left t) s.resources.store) }; marks = all_given held.RwLock (tid t) f }) (sym lock_set)

        pub locks_cut : IsCut old new (all_given held.RwLock (tid t) (contains set)) → IsCut old new (gives_locks t s).marks
        locks_cut cut = subst (λ (x : Transition P S H). IsCut old new x.marks) (sym locks_are) cut

        pub locks_lead : store_of v.store ≡ with_rw_locks (locks_left t) (store_of w.store) → Shows v s.control → new ≡ old ++ all_given held.RwLock (tid t) (contains set) → Leads v old new (gives_locks t s)
        locks_lead changes shows appended = subst (λ (x : Transition P S H). Leads v old new x) (sym locks_are) (record {
          stands = record { control = shows; store = ap (with_rw_locks (locks_left t)) st.store ∙ sym changes };
          tells = appended;
        })
