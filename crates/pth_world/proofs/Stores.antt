-- What threads have stored, after a change at a slot or of the slots.
use Rattle.std.proofs.Common.{◌≡◌, ◌≢◌, ◌<◌, ◌≤◌, ◌<ℤ◌, ℕ, zero, suc, ◌+◌, ◌-◌, ℤ, pos, negsuc, true, false, List, [], Option, Some, None, IsSome, is_none, is_some, not, cond, Bool, Result, Ok, Err, OnOk, OnErr, if◌then◌else◌, refl, sym, ◌∙◌, ap, ap₂, arith}
use Rattle.std.specs.List.{range_with_len, filter_map, find, cons_option, slice_get}
use Rattle.std.specs.Option.{ok_or}
use Rattle.std.proofs.lemmas.Bool.{cases_lt}
use Rattle.std.proofs.lemmas.Int.{ints}
use mathlib.Core.Path.{fun_ext}
use Rattle.pth_base.specs.Naming.{IsTied, seen}
use Rattle.pth_base.specs.Table.{put, table}
use Rattle.pth_base.specs.declared.errno.Errno.TheVariants.{EAGAIN, ENOENT}
use Rattle.pth_base.specs.declared.ids.HandlerId.{HandlerId}
use Rattle.pth_base.proofs.Lists.{ap_put, put_none}
use Rattle.pth_base.proofs.Namings.{seen_at, seen_put}
use Rattle.pth_base.proofs.Tables.{put_here, put_other, put_by}
use Rattle.pth_threads.specs.Threads.{ThreadsOf, slot_of, tid_at, entry_at, AddsThread, RemovesThread}
use Rattle.pth_threads.specs.declared.entry.Entry.{Entry}
use Rattle.pth_port.specs.Mail.{Mail, PortNames, no_mail, no_names}
use Rattle.pth_port.specs.Ports.{PortsOf, mail_of, names_of}
use Rattle.pth_store.specs.Cleanups.{PushedHandler, Stacks, is_full_stack, push_answer, below_top_answer, no_cleanups, emptied, top_taken, without_top}
use Rattle.pth_store.specs.Keys.{Tables, key_limit, key_named, is_key, key_create_answer, key_delete_answer, key_get_answer, key_set_answer, first_live, owed, owed_for, created, deleted, with_key_value, forgotten, no_keys}
use Rattle.pth_model.specs.Resources.{store_without}
use Rattle.pth_model.specs.Store.{Store, no_resources, with_cleanups, with_keys, with_mutexes, with_rw_locks}
use Rattle.pth_model.specs.State.{Control}
use Rattle.pth_world.specs.World.{WorldOf, ThreadsBySlot, entry_in}
use Rattle.pth_world.specs.Keeps.{KeepsAllButStore}
use Rattle.pth_world.specs.Shows.{Shows}
use Rattle.pth_world.specs.Sound.{IsAlive, IsKnown, lives}
use Rattle.pth_world.specs.WellFormed.{WellFormed}
use Rattle.pth_lock.specs.Mutexes.{Mutex, MutexTable, mutexes_left, no_mutexes}
use Rattle.pth_lock.specs.RwLocks.{LockTables, locks_left, no_locks}
use Rattle.pth_model.proofs.Nothing.{NoMutex, NoLock, no_mutex_left, no_mutex_more, no_lock_left, no_lock_more}
use Rattle.pth_world.specs.Store.{StoreOf, LocksOf, name_limit, listed, named_mutex, locked_by, locks_of, store_of, stored_by, HasNothing}
use Rattle.pth_world.proofs.Listings.{to_at, to_put, to_none, to_same, seen_nothing, seen_unknown, seen_gone, seen_new, read, read_at, read_here, read_put, read_each, none_read}
use Rattle.pth_world.proofs.Locked.{mutexes_left_read, mutexes_gone_read, mutexes_still, mutexes_added, locks_left_read, locks_gone_read, locks_still, locks_added, locks_same, no_locks_read}

abbrev Values : Type 0
Values = ℕ → ℕ → ℤ

same_store : (a b : Stacks) (k l : ℕ → Option (Option HandlerId)) (v w : Values) (m n : MutexTable) (x y : LockTables) {ports : PortNames} {mail : Mail} → a ≡ b → k ≡ l → v ≡ w → m ≡ n → x ≡ y → ◌≡◌ {A = Store} (record { cleanups = a; keys = record { keys = k; values = v }; mutexes = m; rw_locks = x; ports = ports; mail = mail }) (record { cleanups = b; keys = record { keys = l; values = w }; mutexes = n; rw_locks = y; ports = ports; mail = mail })
same_store a b k l v w m n x y {ports = ports} {mail = mail} p q r o z = λ i. record { cleanups = p i; keys = record { keys = q i; values = r i }; mutexes = o i; rw_locks = z i; ports = ports; mail = mail }

same_lists : {a b : List (List PushedHandler)} {k l : List (Option (Option HandlerId))} {v w : List (List ℤ)} {m n : List Mutex} {x y : LocksOf} {ports : PortsOf} → a ≡ b → k ≡ l → v ≡ w → m ≡ n → x ≡ y → ◌≡◌ {A = StoreOf} (record { cleanups = a; keys = k; values = v; mutexes = m; rw_locks = x; ports = ports }) (record { cleanups = b; keys = l; values = w; mutexes = n; rw_locks = y; ports = ports })
same_lists {ports = ports} p q r o z = λ i. record { cleanups = p i; keys = q i; values = r i; mutexes = o i; rw_locks = z i; ports = ports }

-- ---- a store is read from what is kept by slot

module _ (x : ThreadsOf) (T : Tables) (S : Stacks) (M : MutexTable) (L : LockTables) (R : PortsOf) where
  abbrev g : ℕ → Option ℕ
  g = slot_of x

  abbrev G : Values
  G k = seen (pos 0) g (T.values k)

  abbrev now : Store
  now = store_of (stored_by x T S M L R)

  -- other mutexes, or other locks
  pub mutexes_set : (N n : MutexTable) → table None (listed (λ m. named_mutex (tid_at x) (N m))) ≡ n → store_of (stored_by x T S N L R) ≡ with_mutexes (λ _. n) now
  mutexes_set N n is = same_store _ _ _ _ _ _ _ _ _ _ refl refl refl is refl

  pub locks_set : (N n : LockTables) → locks_of (locked_by x N) ≡ n → store_of (stored_by x T S M N R) ≡ with_rw_locks (λ _. n) now
  locks_set N n is = same_store _ _ _ _ _ _ _ _ _ _ refl refl refl refl is

  -- a key, as it is and as it is read
  pub key_is : (k : ℕ) → k < name_limit → now.keys.keys k ≡ T.keys k
  key_is k low = to_at None name_limit T.keys k low

  module _ (k : ℤ) (low : key_named k < name_limit) where
    is_key_is : is_key now.keys (key_named k) ≡ is_key T (key_named k)
    is_key_is = ap (λ (o : Option (Option HandlerId)). is_some o) (key_is (key_named k) low)

    pub delete_answer_is : key_delete_answer now.keys k ≡ key_delete_answer T k
    delete_answer_is = ap (λ (b : Bool). if not b then Err ENOENT else Ok tt) is_key_is

    pub set_answer_is : key_set_answer now.keys k ≡ key_set_answer T k
    set_answer_is = ap (λ (b : Bool). if not b then Err ENOENT else Ok tt) is_key_is

  -- a key is made or deleted: it stands otherwise, and each value under it is 0
  key_changed : (k : ℕ) (life : Option (Option HandlerId)) → k < name_limit → store_of (stored_by x (record { keys = put T.keys k life; values = put T.values k (λ _. pos 0) }) S M L R) ≡ with_keys (λ y. record { keys = put y.keys k life; values = put y.values k (λ _. pos 0) }) now
  key_changed k life low = same_store _ _ _ _ _ _ _ _ _ _ refl (to_put None name_limit T.keys k life low)
      (ap (read (pos 0)) (ap_put (seen (pos 0) g) T.values k (λ _. pos 0) ∙ ap (put G k) (seen_nothing (pos 0) g))
      ∙ read_put (pos 0) G k (λ _. pos 0) low
      ∙ ap (put (read (pos 0) G) k) (to_none (pos 0) name_limit))
      refl refl

  pub created_is : (k : ℕ) (h : Option HandlerId) → k < name_limit → store_of (stored_by x (created k h T) S M L R) ≡ with_keys (created k h) now
  created_is k h low = key_changed k (Some h) low

  pub deleted_is : (k : ℕ) → k < name_limit → store_of (stored_by x (deleted k T) S M L R) ≡ with_keys (deleted k) now
  deleted_is k low = key_changed k None low

  -- at the slot of a thread
  module _ (t u : ℕ) (e : slot_of x t ≡ Some u) (few : t < name_limit) where
    pub cleanups_at : now.cleanups t ≡ S u
    cleanups_at = to_at [] name_limit (seen [] g S) t few ∙ seen_at [] g S t u e

    value_at : (k : ℕ) → k < name_limit → now.keys.values k t ≡ T.values k u
    value_at k low = read_here (pos 0) G k t low few ∙ seen_at (pos 0) g (T.values k) t u e

    -- what is owed to destructors
    owed_is : (k : ℕ) → k < name_limit → owed_for now.keys t k ≡ owed_for T u k
    owed_is k low = ap₂ (λ (o : Option (Option HandlerId)) (v : ℤ). owed k o v) (key_is k low) (value_at k low)

    pub get_answer_is : (k : ℤ) → key_named k < name_limit → key_get_answer now.keys t k ≡ key_get_answer T u k
    get_answer_is k low = ap₂ (λ (b : Bool) (v : ℤ). if not b then Err ENOENT else Ok v) (is_key_is k low) (value_at (key_named k) low)

    pub push_answer_is : push_answer now.cleanups t ≡ push_answer S u
    push_answer_is = ap (λ (l : List PushedHandler). if is_full_stack l then Err EAGAIN else Ok tt) cleanups_at

    pub below_answer_is : (n : ℕ) → below_top_answer now.cleanups t n ≡ below_top_answer S u n
    below_answer_is n = ap (λ (l : List PushedHandler). slice_get l n) cleanups_at

  -- changes at the slot of a thread
  module _ (t u : ℕ) (tied : IsTied (slot_of x) (tid_at x)) (e : slot_of x t ≡ Some u) (few : t < name_limit) where
    -- other handlers
    pub cleanups_put : (h : List PushedHandler → List PushedHandler) → store_of (stored_by x T (put S u (h (S u))) M L R) ≡ with_cleanups (λ y. put y t (h (y t))) now
    cleanups_put h = same_store _ _ _ _ _ _ _ _ _ _
        (ap (λ (f : ℕ → List PushedHandler). table [] (listed f)) (seen_put [] g (tid_at x) S t u (h (S u)) tied e)
        ∙ to_put [] name_limit (seen [] g S) t (h (S u)) few
        ∙ ap (λ (l : List PushedHandler). put now.cleanups t (h l)) (sym (cleanups_at t u e few)))
        refl refl refl refl

    -- another value
    pub value_put : (k : ℕ) (v : ℤ) → k < name_limit → store_of (stored_by x (with_key_value u k v T) S M L R) ≡ with_keys (with_key_value t k v) now
    value_put k v low = same_store _ _ _ _ _ _ _ _ _ _ refl refl
        (ap (read (pos 0)) (ap_put (seen (pos 0) g) T.values k (put (T.values k) u v))
        ∙ read_put (pos 0) G k (seen (pos 0) g (put (T.values k) u v)) low
        ∙ ap (put (read (pos 0) G) k)
        (ap (λ (f : ℕ → ℤ). table (pos 0) (listed f)) (seen_put (pos 0) g (tid_at x) (T.values k) t u v tied e)
        ∙ to_put (pos 0) name_limit (G k) t v few
        ∙ ap (λ (f : ℕ → ℤ). put f t v) (sym (read_at (pos 0) G k low))))
        refl refl

    -- nothing
    pub forgotten_is : store_of (stored_by x (forgotten u T) (emptied u S) (mutexes_left u M) (locks_left u L) R) ≡ store_without t now
    forgotten_is = same_store _ _ _ _ _ _ _ _ _ _
        (ap (λ (f : ℕ → List PushedHandler). table [] (listed f)) (seen_put [] g (tid_at x) S t u [] tied e) ∙ to_put [] name_limit (seen [] g S) t [] few)
        refl
        (ap (read (pos 0)) (fun_ext (λ k. seen_put (pos 0) g (tid_at x) (T.values k) t u (pos 0) tied e)) ∙ read_each (pos 0) G t few)
        (mutexes_left_read x M t u tied e)
        (locks_left_read x L t u tied e few)

    -- the thread is gone
    module _ (y : ThreadsOf) (gone : RemovesThread x y u) where
      slots_are : slot_of y ≡ put g t None
      slots_are = gone.slots ∙ ap (λ (n : ℕ). put g n None) (tied.tid t u e)

      pub removed_is : store_of (stored_by y T S (mutexes_left u M) (locks_left u L) R) ≡ store_without t now
      removed_is = same_store _ _ _ _ _ _ _ _ _ _
          (ap (λ (f : ℕ → Option ℕ). table [] (listed (seen [] f S))) slots_are
          ∙ ap (λ (f : ℕ → List PushedHandler). table [] (listed f)) (seen_gone [] g (tid_at x) S t u tied e)
          ∙ to_put [] name_limit (seen [] g S) t [] few)
          refl
          (ap (λ (f : ℕ → Option ℕ). read (pos 0) (λ k. seen (pos 0) f (T.values k))) slots_are
          ∙ ap (read (pos 0)) (fun_ext (λ k. seen_gone (pos 0) g (tid_at x) (T.values k) t u tied e))
          ∙ read_each (pos 0) G t few)
          (mutexes_gone_read x M t u tied e y gone)
          (locks_gone_read x L t u tied e few y gone)

      -- one that had nothing leaves all as it was
      pub removed_still : HasNothing now t → stored_by y T S (mutexes_left u M) (locks_left u L) R ≡ stored_by x T S M L R
      removed_still nothing =
          let stack : seen [] (slot_of y) S ≡ seen [] g S =
          ap (λ (f : ℕ → Option ℕ). seen [] f S) slots_are ∙ seen_gone [] g (tid_at x) S t u tied e ∙ put_none (seen [] g S) t [] (sym (to_at [] name_limit (seen [] g S) t few) ∙ nothing.cleanups) in
          let each : (k : ℕ) → k < name_limit → listed (seen (pos 0) (slot_of y) (T.values k)) ≡ listed (G k) = λ k low.
          ap (λ (f : ℕ → ℤ). listed f) (ap (λ (f : ℕ → Option ℕ). seen (pos 0) f (T.values k)) slots_are ∙ seen_gone (pos 0) g (tid_at x) (T.values k) t u tied e ∙ put_none (G k) t (pos 0) (sym (read_here (pos 0) G k t low few) ∙ nothing.values k)) in
          same_lists (ap (λ (f : ℕ → List PushedHandler). listed f) stack) refl
          (to_same name_limit (λ k. listed (seen (pos 0) (slot_of y) (T.values k))) (λ k. listed (G k)) each)
          (mutexes_still x M t u tied e y gone nothing.mutexes)
          (locks_still x L t u tied e few y gone nothing.locks)

  -- the slots are the same
  pub slots_same : (y : ThreadsOf) → slot_of y ≡ slot_of x → tid_at y ≡ tid_at x → stored_by y T S M L R ≡ stored_by x T S M L R
  slots_same y slots tids = same_lists
      (ap (λ (f : ℕ → Option ℕ). listed (seen [] f S)) slots)
      refl
      (ap (λ (f : ℕ → Option ℕ). listed (λ k. listed (seen (pos 0) f (T.values k)))) slots)
      (ap (λ (f : ℕ → ℕ). listed (λ m. named_mutex f (M m))) tids)
      (locks_same x L y slots tids)

  -- a new thread has nothing, where its slot was emptied, and no slot that is not used holds anything
  pub added_is : (y : ThreadsOf) (u : ℕ) (d : Entry) → IsTied (slot_of x) (tid_at x) → AddsThread x y u d → HasNothing now 0 → stored_by y (forgotten u T) (emptied u S) M L R ≡ stored_by x T S M L R
  added_is y u d tied adds spare = same_lists
      (ap (λ (f : ℕ → Option ℕ). listed (seen [] f (put S u []))) adds.slots ∙ ap (λ (f : ℕ → List PushedHandler). listed f) (seen_new [] g (tid_at x) S d.tid.0 u tied adds.unknown adds.unused))
      refl
      (ap (λ (f : ℕ → Option ℕ). listed (λ k. listed (seen (pos 0) f (put (T.values k) u (pos 0))))) adds.slots
      ∙ ap (λ (h : Values). listed (λ k. listed (h k))) (fun_ext (λ k. seen_new (pos 0) g (tid_at x) (T.values k) d.tid.0 u tied adds.unknown adds.unused)))
      (mutexes_added x M y u d adds spare.mutexes)
      (locks_added x L y u d tied adds spare.locks)

-- other tables
pub forgets : (x : ThreadsOf) (R : PortsOf) {T V : Tables} {S Z : Stacks} {M N : MutexTable} {L K : LockTables} → T ≡ V → S ≡ Z → M ≡ N → L ≡ K → store_of (stored_by x T S M L R) ≡ store_of (stored_by x V Z N K R)
forgets x R p q r o = λ i. store_of (stored_by x (p i) (q i) (r i) (o i) R)

pub keeps : (x : ThreadsOf) (T : Tables) (S : Stacks) (R : PortsOf) {M N : MutexTable} {L K : LockTables} → M ≡ N → L ≡ K → stored_by x T S M L R ≡ stored_by x T S N K R
keeps x T S R r o = λ i. stored_by x T S (r i) (o i) R

-- nothing is stored
pub stored_none : (x : ThreadsOf) (R : PortsOf) → names_of R ≡ no_names → mail_of R ≡ no_mail → store_of (stored_by x no_keys no_cleanups no_mutexes no_locks R) ≡ no_resources.store
stored_none x R names mail = same_store _ _ _ _ _ _ _ _ _ _
    (ap (λ (f : ℕ → List PushedHandler). table [] (listed f)) (seen_nothing [] (slot_of x)) ∙ to_none [] name_limit)
    (to_none None name_limit)
    (ap (read (pos 0)) (fun_ext (λ k. seen_nothing (pos 0) (slot_of x))) ∙ fun_ext (λ k. none_read (pos 0) k (cases_lt k name_limit)))
    (to_none None name_limit)
    (no_locks_read x)
    ∙ (λ i. record no_resources.store { ports = names i; mail = mail i })

-- ---- lists of keys

key_low : (from k : ℕ) → from ≤ k → k < from + (key_limit - from) → k < name_limit
key_low from k low high = omega arith

filter_same : {A : Type 0} (p q : ℕ → Option A) (a n : ℕ) → ((i : ℕ) → a ≤ i → i < a + n → p i ≡ q i) → filter_map p (range_with_len a n) ≡ filter_map q (range_with_len a n)
filter_same p q a zero h = refl
filter_same p q a (suc n) h = ap₂ (λ o xs. cons_option o xs) (h a (omega arith) (omega arith)) (filter_same p q (a + 1) n (λ i low high. h i (omega arith) (omega arith)))

find_same : (p q : ℕ → Bool) (a n : ℕ) → ((i : ℕ) → a ≤ i → i < a + n → p i ≡ q i) → find p (range_with_len a n) ≡ find q (range_with_len a n)
find_same p q a zero h = refl
find_same p q a (suc n) h = ap₂ (λ (b : Bool) (o : Option ℕ). cond b (Some a) o) (h a (omega arith) (omega arith)) (find_same p q (a + 1) n (λ i low high. h i (omega arith) (omega arith)))

module _ (x : ThreadsOf) (T : Tables) (S : Stacks) (M : MutexTable) (L : LockTables) (R : PortsOf) where
  pub create_answer_is : key_create_answer (store_of (stored_by x T S M L R)).keys ≡ key_create_answer T
  create_answer_is = ap (λ (o : Option ℕ). ok_or o EAGAIN) (find_same _ _ 0 (key_limit - 0) (λ k low high. ap (λ (o : Option (Option HandlerId)). is_none o) (key_is x T S M L R k (key_low 0 k low high))))

  pub first_live_is : (t u from : ℕ) → slot_of x t ≡ Some u → t < name_limit → first_live (store_of (stored_by x T S M L R)).keys t from ≡ first_live T u from
  first_live_is t u from e few = ap (λ (xs : List (ℕ × HandlerId × ℤ)). slice_get xs 0) (filter_same _ _ from (key_limit - from) (λ k low high. owed_is x T S M L R t u e few k (key_low from k low high)))

-- a key that an operand names
pub named_low : (k : ℤ) → k <ℤ pos name_limit → key_named k < name_limit
named_low (pos k) h = omega (arith, ints)
named_low (negsuc k) h = omega arith

-- ---- who has nothing

pub nothing_pushed : (s : Store) (t u : ℕ) (l : List PushedHandler) → u ≢ t → HasNothing s u → HasNothing (with_cleanups (λ y. put y t l) s) u
nothing_pushed s t u l apart h = record { cleanups = put_other s.cleanups t l u apart ∙ h.cleanups; values = h.values; mutexes = h.mutexes; locks = h.locks }

pub nothing_popped : (s : Store) (t u : ℕ) → HasNothing s u → HasNothing (with_cleanups (top_taken t) s) u
nothing_popped s t u h = record {
  cleanups = (let P : List PushedHandler → Type 0 = λ l. l ≡ [] in put_by P s.cleanups t (without_top (s.cleanups t)) u (λ same. ap without_top (ap s.cleanups (sym same) ∙ h.cleanups)) (λ apart. h.cleanups));
  values = h.values;
  mutexes = h.mutexes;
  locks = h.locks;
}

pub nothing_set : (s : Store) (t u k : ℕ) (v : ℤ) → u ≢ t → HasNothing s u → HasNothing (with_keys (with_key_value t k v) s) u
nothing_set s t u k v apart h = record {
  cleanups = h.cleanups;
  values = λ j. (let P : (ℕ → ℤ) → Type 0 = λ f. f u ≡ pos 0 in put_by P s.keys.values k (put (s.keys.values k) t v) j (λ same. put_other (s.keys.values k) t v u apart ∙ h.values k) (λ other. h.values j));
  mutexes = h.mutexes;
  locks = h.locks;
}

-- under a key that is made or deleted
pub nothing_under : (s : Store) (k : ℕ) (life : Option (Option HandlerId)) (u : ℕ) → HasNothing s u → HasNothing (with_keys (λ y. record { keys = put y.keys k life; values = put y.values k (λ _. pos 0) }) s) u
nothing_under s k life u h = record {
  cleanups = h.cleanups;
  values = λ j. (let P : (ℕ → ℤ) → Type 0 = λ f. f u ≡ pos 0 in put_by P s.keys.values k (λ _. pos 0) j (λ same. refl) (λ other. h.values j));
  mutexes = h.mutexes;
  locks = h.locks;
}

pub nothing_without : (s : Store) (t u : ℕ) → HasNothing s u → HasNothing (store_without t s) u
nothing_without s t u h = record {
  cleanups = (let P : List PushedHandler → Type 0 = λ l. l ≡ [] in put_by P s.cleanups t [] u (λ same. refl) (λ apart. h.cleanups));
  values = λ k. (let P : ℤ → Type 0 = λ v. v ≡ pos 0 in put_by P (s.keys.values k) t (pos 0) u (λ same. refl) (λ apart. h.values k));
  mutexes = no_mutex_left u t s.mutexes h.mutexes;
  locks = no_lock_left u s.rw_locks t h.locks;
}

pub nothing_left : (s : Store) (t : ℕ) → HasNothing (store_without t s) t
nothing_left s t = record { cleanups = put_here s.cleanups t []; values = λ k. put_here (s.keys.values k) t (pos 0); mutexes = no_mutex_more t s.mutexes; locks = no_lock_more t s.rw_locks }

pub nothing_in_mutexes : (s : Store) (t : ℕ) (x : MutexTable) → HasNothing s t → NoMutex t x → HasNothing (with_mutexes (λ _. x) s) t
nothing_in_mutexes s t x h none = record { cleanups = h.cleanups; values = h.values; mutexes = none; locks = h.locks }

pub nothing_in_locks : (s : Store) (t : ℕ) (x : LockTables) → HasNothing s t → NoLock t x → HasNothing (with_rw_locks (λ _. x) s) t
nothing_in_locks s t x h none = record { cleanups = h.cleanups; values = h.values; mutexes = h.mutexes; locks = none }

-- no thread has a port for itself
pub nothing_ported : (s : Store) (t : ℕ) (x : PortNames) (q : Mail) → HasNothing s t → HasNothing (record s { ports = x; mail = q }) t
nothing_ported s t x q h = record { cleanups = h.cleanups; values = h.values; mutexes = h.mutexes; locks = h.locks }

-- ---- a world in which something else is stored

module _ {P S H : Type 0} (w : WorldOf P S H) where
  pub stored_whole : (y : StoreOf) → ((u : ℕ) → lives (entry_in w.threads u) ≡ false → HasNothing (store_of w.store) u → HasNothing (store_of y) u) → WellFormed w → WellFormed (record w { store = y })
  stored_whole y keeps whole = record { sound = whole.sound; fits = whole.fits; runner = whole.runner; stored = λ u dead. keeps u dead (whole.stored u dead); top = whole.top }

  pub stored_shows : (y : StoreOf) (k : Control P S H) → Shows w k → Shows (record w { store = y }) k
  stored_shows y k sh = record { program = sh.program; shared = sh.shared; threads = sh.threads; attributes = sh.attributes; events = sh.events; conditions = sh.conditions; barriers = sh.barriers; kernel = sh.kernel; used = sh.used; scheduler = sh.scheduler }

  -- all but the store is kept, if who is not alive has come to nothing
  pub stored_keeps : (y : StoreOf) → y.ports.made ≡ w.store.ports.made → ((u : ℕ) → lives (entry_in w.threads u) ≡ false → HasNothing (store_of w.store) u → HasNothing (store_of y) u) → KeepsAllButStore w (record w { store = y })
  stored_keeps y made keeps = record { shows = stored_shows y; whole = stored_whole y keeps; made = made; same = refl }

-- a world in which ports have become others, and none was made
pub ports_keep : {P S H : Type 0} (w : WorldOf P S H) (x : PortsOf) → x.made ≡ w.store.ports.made → KeepsAllButStore w (record w { store = record w.store { ports = x } })
ports_keep w x made = stored_keeps w (record w.store { ports = x }) made (λ u dead h. nothing_ported (store_of w.store) u (names_of x) (mail_of x) h)

-- a slot that is not used holds nothing
pub spare_nothing : {P S H : Type 0} (w : WorldOf P S H) → WellFormed w → HasNothing (store_of w.store) 0
spare_nothing w whole = whole.stored 0 (ap lives (seen_unknown None (slot_of w.threads.records) (entry_at w.threads.records) 0 whole.sound.tied.zero))

-- another thread than one that is alive
pub alive_apart : (x : ThreadsOf) (t u : ℕ) → lives (seen None (slot_of x) (entry_at x) t) ≡ true → lives (seen None (slot_of x) (entry_at x) u) ≡ false → u ≢ t
alive_apart x t u alive dead same =
    let both : lives (seen None (slot_of x) (entry_at x) t) ≡ false = ap (λ (n : ℕ). lives (seen None (slot_of x) (entry_at x) n)) (sym same) ∙ dead in
    cc (alive, both)

-- one that is alive is in the system
pub alive_known : {S : Type 0} (x : ThreadsBySlot S) (t : ℕ) → IsAlive x t → IsKnown x t
unfolding seen
alive_known x t alive = by_slot_of (slot_of x.records t) refl
  where
    by_slot_of : (o : Option ℕ) → slot_of x.records t ≡ o → IsSome o
    by_slot_of (Some u) e = refl
    by_slot_of None e =
        let none : lives (entry_in x t) ≡ false = ap lives (seen_unknown None (slot_of x.records) (entry_at x.records) t e) in
        absurd (cc (alive, none))

-- by the result of a call that is refused or not
pub either : {T E A B Q : Type 0} (r : Result T E) → OnOk r A → OnErr r B → (A → Q) → (B → Q) → Q
either (Ok x) a b f h = f a
either (Err e) a b f h = h b
