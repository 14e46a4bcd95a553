-- Read-write locks before and after a call.
use Rattle.std.proofs.Common.{◌≡◌, ◌≢◌, ℕ, ◌+◌, ◌<◌, ◌≤◌, ◌==◌, Bool, true, false, not, ◌||◌, if◌then◌else◌, List, length, set, replicate, Option, Some, None, is_some, Result, Ok, Err, refl, sym, ◌∙◌, ap, subst, arith, inl, inr, length-set, get_or-set_other, get_or-set_same}
use Rattle.std.proofs.Math.Bool.{or-true, or-false}
use Rattle.std.proofs.lemmas.Bool.{cases_lt}
use Rattle.std.proofs.lemmas.List.{length-replicate, get_or_past}
use mathlib.Core.Path.{fun_ext}
use Rattle.pth_base.specs.Limits.{thread_limit}
use Rattle.pth_base.specs.Table.{put, table}
use Rattle.pth_base.specs.declared.errno.Errno.{Errno}
use Rattle.pth_base.specs.declared.errno.Errno.TheVariants.{EACCES, EBUSY, EINVAL, EDEADLK}
use Rattle.pth_base.specs.declared.ids.Slot.{Slot}
use Rattle.pth_base.proofs.Tables.{same_self, not_same, same_means, put_here, put_other, put_is}
use Rattle.pth_base.proofs.Lists.{put_none}
use Rattle.pth_lock.specs.Objects.{object_limit}
use Rattle.pth_lock.specs.Sets.{contains, is_in_set, changed_in}
use Rattle.pth_lock.specs.RwLocks.{LockTables, Lock, LocksOf, count_below, readers_of, readers_without, is_one, without_slot, writer_of, reads_in, tables_of, AreHolders, LocksAreSound, LocksAreKept, left_lock, entered, is_open, HasRoom, no_locks, lock_initialised, lock_taken, lock_released, locks_left}
use Rattle.pth_lock.specs.declared.rwlocks.Holders.{Holders}
use Rattle.pth_lock.specs.declared.rwlocks.Holders.TheVariants.{Readers, Writer}
use Rattle.pth_lock.proofs.Sweeps.{by_place, table_replicate, flipped_here, flipped_other, sets_past}
use Rattle.pth_lock.proofs.Ownerships.{true_false}
use Rattle.pth_lock.proofs.Counts.{count_more, count_less, count_le, count_none, none_counted}

-- who holds a lock
abbrev Column : Type 0
Column = ℕ → Bool

same_twice : (b : Bool) → not (not b) ≡ b
same_twice true = refl
same_twice false = refl

-- ---- what is asked of one lock

-- somebody holds it, as the tables say
abbrev held_at : Lock → Bool
held_at x = is_some (writer_of x) || not (readers_of x == 0)

-- a slot holds it
abbrev holds_at : Lock → Column → ℕ → Bool
holds_at x held s = is_one s (writer_of x) || reads_in x (held s)

-- a slot may enter
abbrev may_at : Lock → Bool → Bool
may_at x write = if write then not (held_at x) else not (is_some (writer_of x))

pub holds_is : (x : Lock) (held : Column) (s : ℕ) → AreHolders x held → holds_at x held s ≡ held s
holds_is (Some (Writer w)) held s are = or-false (w.0 == s) ∙ sym (are s)
holds_is (Some (Readers n)) held s are = refl
holds_is None held s are = sym (are s)

open_is : (h : Holders) (write : Bool) → is_open h write ≡ may_at (Some h) write
open_is (Readers n) true = or-false (n == 0) ∙ sym (same_twice (n == 0))
open_is (Readers n) false = or-true (n == 0)
open_is (Writer w) true = refl
open_is (Writer w) false = refl

pub may_is : (x : Lock) (h : Holders) (write : Bool) → x ≡ Some h → is_open h write ≡ may_at x write
may_is x h write is = let P : Lock → Type 0 = λ y. is_open h write ≡ may_at y write in subst P (sym is) (open_is h write)

-- nobody holds it exactly where it is open to who would write
pub held_is : (x : Lock) (h : Holders) → x ≡ Some h → held_at x ≡ not (is_open h true)
held_is x h is = sym (same_twice (held_at x)) ∙ ap not (sym (may_is x h true is))

room_in : (h : Holders) (held : Column) → AreHolders (Some h) held → HasRoom h
room_in (Readers n) held are = omega (arith, are, count_le held thread_limit)
room_in (Writer w) held are = tt

pub room_is : (x : Lock) (h : Holders) (held : Column) → x ≡ Some h → AreHolders x held → HasRoom h
room_is x h held is = let P : Lock → Type 0 = λ y. AreHolders y held → HasRoom h in subst P (sym is) (room_in h held)

-- ---- answers, by what is known of one lock

abbrev pub take_at : Bool → Bool → Bool → Result (Unit {0}) Errno
take_at known holds may = if not known then Err EINVAL else if holds then Err EDEADLK else if not may then Err EBUSY else Ok tt

abbrev pub release_at : Bool → Bool → Bool → Result (Unit {0}) Errno
release_at known held holds = if not known then Err EINVAL else if not held then Err EDEADLK else if not holds then Err EACCES else Ok tt

abbrev free_at : Bool → Bool → Result Bool Errno
free_at known may = if not known then Err EINVAL else Ok may

module _ (x : Lock) (h : Holders) (held : Column) (is : x ≡ Some h) (are : AreHolders x held) where
  known : true ≡ is_some x
  known = sym (ap is_some is)

  pub take_answered : (s : ℕ) (write holds may : Bool) → held s ≡ holds → is_open h write ≡ may → take_at true holds may ≡ take_at (is_some x) (holds_at x held s) (may_at x write)
  take_answered s write holds may holds_it enters_it =
      ap (λ (b : Bool). take_at b holds may) known
      ∙ ap (λ (b : Bool). take_at (is_some x) b may) (sym holds_it ∙ sym (holds_is x held s are))
      ∙ ap (take_at (is_some x) (holds_at x held s)) (sym enters_it ∙ may_is x h write is)

  pub release_answered : (s : ℕ) (nobody holds : Bool) → is_open h true ≡ nobody → held s ≡ holds → release_at true (not nobody) holds ≡ release_at (is_some x) (held_at x) (holds_at x held s)
  release_answered s nobody holds open_it holds_it =
      ap (λ (b : Bool). release_at b (not nobody) holds) known
      ∙ ap (λ (b : Bool). release_at (is_some x) b holds) (ap not (sym open_it) ∙ sym (held_is x h is))
      ∙ ap (release_at (is_some x) (held_at x)) (sym holds_it ∙ sym (holds_is x held s are))

  pub free_answered : (write may : Bool) → is_open h write ≡ may → free_at true may ≡ free_at (is_some x) (may_at x write)
  free_answered write may enters_it = ap (λ (b : Bool). free_at b may) known ∙ ap (free_at (is_some x)) (sym enters_it ∙ may_is x h write is)

-- ---- a slot enters

-- no slot past the limit holds anything
abbrev IsWithin : Column → Type 0
IsWithin held = (u : ℕ) → thread_limit ≤ u → held u ≡ false

-- where nobody reads
none_reads : (held : Column) → IsWithin held → count_below held thread_limit ≡ 0 → (u : ℕ) → held u ≡ false
none_reads held within none u = elim (cases_lt u thread_limit) [ inl low ↦ none_counted held u thread_limit low none | inr high ↦ within u high ]

is_zero : (n : ℕ) → ((n == 0) || false) ≡ true → n ≡ 0
is_zero n free = same_means n 0 (sym (or-false (n == 0)) ∙ free)

module _ (held : Column) (s : Slot) (low : s.0 < thread_limit) (within : IsWithin held) (out : held s.0 ≡ false) where
  pub enters : (h : Holders) (write : Bool) → AreHolders (Some h) held → is_open h write ≡ true → AreHolders (Some (entered h write s)) (put held s.0 true)
  enters (Readers n) true are free =
      let none = none_reads held within (sym are ∙ is_zero n free) in
      by_place (λ (u : ℕ). put held s.0 true u ≡ (s.0 == u)) s.0
      (put_here held s.0 true ∙ sym (same_self s.0))
      (λ u apart. put_other held s.0 true u apart ∙ none u ∙ sym (not_same s.0 u (λ e. apart (sym e))))
  enters (Readers n) false are free = ap (λ (k : ℕ). k + 1) are ∙ sym (count_more held s.0 thread_limit low out)
  enters (Writer w) write are free = cc

  -- who writes and who reads then
  pub writer_entered : (h : Holders) → AreHolders (Some h) held → is_open h true ≡ true → ◌≡◌ {A = Column} (λ u. false) (λ u. reads_in (Some h) (held u))
  writer_entered (Readers n) are free = fun_ext (λ u. sym (none_reads held within (sym are ∙ is_zero n free) u))
  writer_entered (Writer w) are free = refl

-- ---- a slot leaves, if it holds the lock

module _ (held : Column) (s : ℕ) (low : s < thread_limit) where
  abbrev after : Bool → Lock → Lock
  after b x = if b then left_lock x else x

  writer_apart : (w : Slot) → ((u : ℕ) → held u ≡ (w.0 == u)) → held s ≡ true → (u : ℕ) → put held s false u ≡ false
  writer_apart w are member =
      let same : w.0 ≡ s = same_means w.0 s (sym (are s) ∙ member) in
      by_place (λ (u : ℕ). put held s false u ≡ false) s (put_here held s false) (λ u apart. put_other held s false u apart ∙ are u ∙ not_same w.0 u (λ e. apart (sym e ∙ same)))

  pub leaves : (b : Bool) (x : Lock) → held s ≡ b → AreHolders x held → AreHolders (after b x) (put held s false)
  leaves false x out are = subst (AreHolders x) (sym (put_none held s false out)) are
  leaves true (Some (Writer w)) member are = sym (count_none (put held s false) thread_limit (writer_apart w are member))
  leaves true (Some (Readers n)) member are = omega (arith, are, count_less held s thread_limit low member)
  leaves true None member are = let none = are s in cc

  pub writer_left : (b : Bool) (x : Lock) → held s ≡ b → AreHolders x held → writer_of (after b x) ≡ without_slot s (writer_of x)
  writer_left true (Some (Writer w)) member are = rw (sym (are s) ∙ member) refl
  writer_left true (Some (Readers n)) member are = refl
  writer_left true None member are = refl
  writer_left false (Some (Writer w)) out are = rw (sym (are s) ∙ out) refl
  writer_left false (Some (Readers n)) out are = refl
  writer_left false None out are = refl

  out_reads : (x : Lock) → reads_in x false ≡ false
  out_reads (Some (Writer w)) = refl
  out_reads (Some (Readers n)) = refl
  out_reads None = refl

  pub reads_left : (b : Bool) (x : Lock) → held s ≡ b → AreHolders x held → (λ u. reads_in (after b x) (put held s false u)) ≡ put (λ u. reads_in x (held u)) s false
  reads_left true (Some (Writer w)) member are = fun_ext (writer_apart w are member) ∙ sym (put_none (λ u. false) s false refl)
  reads_left true (Some (Readers n)) member are = refl
  reads_left true None member are = sym (put_none (λ u. false) s false refl)
  reads_left false x out are =
      ap {B = Column} (λ (f : Column) (u : ℕ). reads_in x (f u)) (put_none held s false out)
      ∙ sym (put_none (λ u. reads_in x (held u)) s false (ap (reads_in x) out ∙ out_reads x))

  pub readers_left : (b : Bool) (x : Lock) → held s ≡ b → readers_of (after b x) ≡ readers_without (reads_in x (held s)) (readers_of x)
  readers_left true (Some (Writer w)) member = refl
  readers_left true (Some (Readers n)) member = rw member refl
  readers_left true None member = refl
  readers_left false (Some (Writer w)) out = refl
  readers_left false (Some (Readers n)) out = rw out refl
  readers_left false None out = refl

  pub known_left : (b : Bool) (x : Lock) → is_some (after b x) ≡ is_some x
  known_left true (Some (Writer w)) = refl
  known_left true (Some (Readers n)) = refl
  known_left true None = refl
  known_left false x = refl

-- ---- the tables

same_tables : (i j : ℕ → Bool) (v w : ℕ → Option ℕ) (f g : ℕ → ℕ → Bool) (m n : ℕ → ℕ) → i ≡ j → v ≡ w → f ≡ g → m ≡ n → ◌≡◌ {A = LockTables} (record { initialised = i; writer = v; reads = f; readers = m }) (record { initialised = j; writer = w; reads = g; readers = n })
same_tables i j v w f g m n known writer reads readers = λ t. record { initialised = known t; writer = writer t; reads = reads t; readers = readers t }

abbrev locks_with : List Lock → List ℕ → LocksOf
locks_with locks sets = record { locks = locks; sets = sets }

abbrev column : List ℕ → ℕ → Column
column sets l = λ u. is_in_set sets u l

holders_are : (x y : Lock) (f g : Column) → x ≡ y → f ≡ g → AreHolders y g → AreHolders x f
holders_are x y f g same_lock same_holders are = subst (λ (z : Lock). AreHolders z f) (sym same_lock) (subst (AreHolders y) (sym same_holders) are)

module _ (locks : List Lock) (sets : List ℕ) (kept : LocksAreKept (locks_with locks sets)) where
  abbrev pub old : LockTables
  old = tables_of (locks_with locks sets)

  pub within_sets : (l : ℕ) → IsWithin (column sets l)
  within_sets l u high = let slots = kept.slots in sets_past sets u l (omega arith)

  alone_at : (x : Lock) (member : Bool) → is_some (writer_of x) ≡ true → reads_in x member ≡ false
  alone_at (Some (Writer w)) member written = refl
  alone_at (Some (Readers n)) member written = cc
  alone_at None member written = cc

  known_at : (x : Lock) (held : Column) (s : ℕ) → holds_at x held s ≡ true → is_some x ≡ true
  known_at (Some h) held s holds = refl
  known_at None held s holds = cc

  counted_at : (x : Lock) (held : Column) → AreHolders x held → readers_of x ≡ count_below (λ u. reads_in x (held u)) thread_limit
  counted_at (Some (Writer w)) held are = sym (count_none (λ u. false) thread_limit (λ u. refl))
  counted_at (Some (Readers n)) held are = are
  counted_at None held are = sym (count_none (λ u. false) thread_limit (λ u. refl))

  pub sound : LocksAreSound old
  sound = record {
    past = λ l high. let many = kept.many in ap is_some (get_or_past locks l None (omega arith));
    alone = λ l s. alone_at (table None locks l) (is_in_set sets s l);
    counted = λ l. counted_at (table None locks l) (column sets l) (kept.held l);
    known = λ l s. known_at (table None locks l) (column sets l) s;
    slots = λ l s holds. elim (cases_lt s thread_limit) [
      | inl low ↦ low
      | inr high ↦ absurd (true_false (sym holds ∙ holds_is (table None locks l) (column sets l) s (kept.held l) ∙ within_sets l s high))
    ];
  }

  -- at one lock
  module _ (k : ℕ) (low : k < object_limit) (x : Lock) (ts : List ℕ) (long : length ts ≡ thread_limit) (now : Column) (here : column ts k ≡ now) (others : (l : ℕ) → l ≢ k → column ts l ≡ column sets l) where
    within : k < length locks
    within = let many = kept.many in omega arith

    lock_other : (l : ℕ) → l ≢ k → table None (set locks k x) l ≡ table None locks l
    lock_other l apart = get_or-set_other locks k l x None apart

    lock_here : table None (set locks k x) k ≡ x
    lock_here = get_or-set_same locks k x None within

    kept_change : AreHolders x now → LocksAreKept (locks_with (set locks k x) ts)
    kept_change are = record {
      many = length-set locks k x ∙ kept.many;
      slots = long;
      held = by_place (λ (l : ℕ). AreHolders (table None (set locks k x) l) (column ts l)) k
          (holders_are _ x _ now lock_here here are)
          (λ l apart. holders_are _ (table None locks l) _ (column sets l) (lock_other l apart) (others l apart) (kept.held l));
    }

    writer_change : (w : Option ℕ) → writer_of x ≡ w → (λ l. writer_of (table None (set locks k x) l)) ≡ put old.writer k w
    writer_change w is = put_is old.writer _ k w (ap writer_of lock_here ∙ is) (λ l apart. ap writer_of (lock_other l apart))

    reads_change : (r : Column) → (λ u. reads_in x (now u)) ≡ r → (λ l u. reads_in (table None (set locks k x) l) (is_in_set ts u l)) ≡ put old.reads k r
    reads_change r is = put_is old.reads _ k r
        (ap {B = Column} (λ (y : Lock) (u : ℕ). reads_in y (is_in_set ts u k)) lock_here ∙ ap {B = Column} (λ (f : Column) (u : ℕ). reads_in x (f u)) here ∙ is)
        (λ l apart. ap {B = Column} (λ (y : Lock) (u : ℕ). reads_in y (is_in_set ts u l)) (lock_other l apart) ∙ ap {B = Column} (λ (f : Column) (u : ℕ). reads_in (table None locks l) (f u)) (others l apart))

    readers_change : (n : ℕ) → readers_of x ≡ n → (λ l. readers_of (table None (set locks k x) l)) ≡ put old.readers k n
    readers_change n is = put_is old.readers _ k n (ap readers_of lock_here ∙ is) (λ l apart. ap readers_of (lock_other l apart))

    known_change : (b : Bool) → is_some x ≡ b → (λ l. is_some (table None (set locks k x) l)) ≡ put old.initialised k b
    known_change b is = put_is old.initialised _ k b (ap is_some lock_here ∙ is) (λ l apart. ap is_some (lock_other l apart))

  -- at one lock that a slot takes or leaves
  module _ (k : ℕ) (low : k < object_limit) (ts : List ℕ) (long : length ts ≡ thread_limit) (s : ℕ) (b : Bool) (is : is_in_set ts ≡ put (is_in_set sets) s (put (is_in_set sets s) k b)) where
    column_here : column ts k ≡ put (column sets k) s b
    column_here = fun_ext (λ u. ap (λ (f : ℕ → ℕ → Bool). f u k) is ∙ flipped_here (is_in_set sets) s k b u)

    column_other : (l : ℕ) → l ≢ k → column ts l ≡ column sets l
    column_other l apart = fun_ext (λ u. ap (λ (f : ℕ → ℕ → Bool). f u l) is ∙ flipped_other (is_in_set sets) s k b u l apart)

    pub kept_step : (x : Lock) → AreHolders x (put (column sets k) s b) → LocksAreKept (locks_with (set locks k x) ts)
    kept_step x are = kept_change k low x ts long (put (column sets k) s b) column_here column_other are

    pub shown_step : (x : Lock) (w : Option ℕ) (r : Column) (n : ℕ) → is_some x ≡ is_some (table None locks k) → writer_of x ≡ w → (λ u. reads_in x (put (column sets k) s b u)) ≡ r → readers_of x ≡ n → tables_of (locks_with (set locks k x) ts) ≡ record { initialised = old.initialised; writer = put old.writer k w; reads = put old.reads k r; readers = put old.readers k n }
    shown_step x w r n known writer reads readers = same_tables _ _ _ _ _ _ _ _
        (known_change k low x ts long _ column_here column_other (is_some (table None locks k)) known ∙ put_none old.initialised k _ refl)
        (writer_change k low x ts long _ column_here column_other w writer)
        (reads_change k low x ts long _ column_here column_other r reads)
        (readers_change k low x ts long _ column_here column_other n readers)

  -- a slot enters
  module _ (k : ℕ) (low : k < object_limit) (h : Holders) (was : table None locks k ≡ Some h) (s : Slot) (slot : s.0 < thread_limit) (out : is_in_set sets s.0 k ≡ false) where
    are_at : AreHolders (Some h) (column sets k)
    are_at = subst (λ (x : Lock). AreHolders x (column sets k)) was (kept.held k)

    module _ (e : Holders) (ts : List ℕ) (long : length ts ≡ thread_limit) (is : is_in_set ts ≡ put (is_in_set sets) s.0 (put (is_in_set sets s.0) k true)) where
      pub kept_entered : (write : Bool) → e ≡ entered h write s → is_open h write ≡ true → LocksAreKept (locks_with (set locks k (Some e)) ts)
      kept_entered write e_is free =
          kept_step k low ts long s.0 true is (Some e)
          (subst (λ (g : Holders). AreHolders (Some g) (put (column sets k) s.0 true)) (sym e_is) (enters (column sets k) s slot (within_sets k) out h write are_at free))

      writes : (g : Holders) → table None locks k ≡ Some g → AreHolders (Some g) (column sets k) → is_open g true ≡ true → e ≡ entered g true s → tables_of (locks_with (set locks k (Some e)) ts) ≡ lock_taken s.0 true k old
      writes (Readers n) at are free e_is =
          shown_step k low ts long s.0 true is (Some e) (Some s.0) (old.reads k) (old.readers k) (ap is_some (sym at))
          (ap (λ (g : Holders). writer_of (Some g)) e_is)
          (ap {B = Column} (λ (g : Holders) (u : ℕ). reads_in (Some g) (put (column sets k) s.0 true u)) e_is ∙ writer_entered (column sets k) s slot (within_sets k) out (Readers n) are free ∙ ap {B = Column} (λ (x : Lock) (u : ℕ). reads_in x (is_in_set sets u k)) (sym at))
          (ap (λ (g : Holders). readers_of (Some g)) e_is ∙ sym (is_zero n free) ∙ ap readers_of (sym at))
          ∙ same_tables _ _ _ _ _ _ _ _ refl refl (put_none old.reads k (old.reads k) refl) (put_none old.readers k (old.readers k) refl)
      writes (Writer w) at are free e_is = cc

      reads : (g : Holders) → table None locks k ≡ Some g → is_open g false ≡ true → e ≡ entered g false s → tables_of (locks_with (set locks k (Some e)) ts) ≡ lock_taken s.0 false k old
      reads (Readers n) at free e_is =
          shown_step k low ts long s.0 true is (Some e) (old.writer k) (put (old.reads k) s.0 true) (old.readers k + 1) (ap is_some (sym at))
          (ap (λ (g : Holders). writer_of (Some g)) e_is ∙ ap writer_of (sym at))
          (ap {B = Column} (λ (g : Holders) (u : ℕ). reads_in (Some g) (put (column sets k) s.0 true u)) e_is ∙ ap (λ (x : Lock). put (λ u. reads_in x (is_in_set sets u k)) s.0 true) (sym at))
          (ap (λ (g : Holders). readers_of (Some g)) e_is ∙ ap (λ (x : Lock). readers_of x + 1) (sym at))
          ∙ same_tables _ _ _ _ _ _ _ _ refl (put_none old.writer k (old.writer k) refl) refl refl
      reads (Writer w) at free e_is = cc

      pub shown_entered : (write : Bool) → e ≡ entered h write s → is_open h write ≡ true → tables_of (locks_with (set locks k (Some e)) ts) ≡ lock_taken s.0 write k old
      shown_entered true e_is free = writes h was are_at free e_is
      shown_entered false e_is free = reads h was free e_is

  -- a slot leaves
  module _ (k : ℕ) (low : k < object_limit) (s : ℕ) (slot : s < thread_limit) (member : is_in_set sets s k ≡ true) (x : Lock) (x_is : x ≡ left_lock (table None locks k)) (ts : List ℕ) (long : length ts ≡ thread_limit) (is : is_in_set ts ≡ put (is_in_set sets) s (put (is_in_set sets s) k false)) where
    pub kept_released : LocksAreKept (locks_with (set locks k x) ts)
    kept_released = kept_step k low ts long s false is x (subst (λ (y : Lock). AreHolders y (put (column sets k) s false)) (sym x_is) (leaves (column sets k) s slot true (table None locks k) member (kept.held k)))

    pub shown_released : tables_of (locks_with (set locks k x) ts) ≡ lock_released s k old
    shown_released =
        shown_step k low ts long s false is x (without_slot s (old.writer k)) (put (old.reads k) s false) (readers_without (old.reads k s) (old.readers k))
        (ap is_some x_is ∙ known_left (column sets k) s slot true (table None locks k))
        (ap writer_of x_is ∙ writer_left (column sets k) s slot true (table None locks k) member (kept.held k))
        (ap {B = Column} (λ (y : Lock) (u : ℕ). reads_in y (put (column sets k) s false u)) x_is ∙ reads_left (column sets k) s slot true (table None locks k) member (kept.held k))
        (ap readers_of x_is ∙ readers_left (column sets k) s slot true (table None locks k) member)

  -- at one lock that is initialised
  module _ (k : ℕ) (low : k < object_limit) (none : table None locks k ≡ None) where
    unheld : (u : ℕ) → is_in_set sets u k ≡ false
    unheld = subst (λ (x : Lock). AreHolders x (column sets k)) none (kept.held k)

    pub kept_init : LocksAreKept (locks_with (set locks k (Some (Readers 0))) sets)
    kept_init = kept_change k low (Some (Readers 0)) sets kept.slots (column sets k) refl (λ l apart. refl) (sym (count_none (column sets k) thread_limit unheld))

    pub shown_init : tables_of (locks_with (set locks k (Some (Readers 0))) sets) ≡ lock_initialised k old
    shown_init = same_tables _ _ _ _ _ _ _ _
        (known_change k low (Some (Readers 0)) sets kept.slots (column sets k) refl (λ l apart. refl) true refl)
        (writer_change k low (Some (Readers 0)) sets kept.slots (column sets k) refl (λ l apart. refl) None refl ∙ put_none old.writer k None (ap writer_of none))
        (reads_change k low (Some (Readers 0)) sets kept.slots (column sets k) refl (λ l apart. refl) (column sets k) refl ∙ put_none old.reads k (column sets k) (ap {B = Column} (λ (x : Lock) (u : ℕ). reads_in x (is_in_set sets u k)) none ∙ sym (fun_ext unheld)))
        (readers_change k low (Some (Readers 0)) sets kept.slots (column sets k) refl (λ l apart. refl) 0 refl ∙ put_none old.readers k 0 (ap readers_of none))

  -- at all locks that a slot holds
  module _ (new : List Lock) (s w : ℕ) (low : s < thread_limit) (set_is : contains w ≡ is_in_set sets s) (left : table None new ≡ changed_in left_lock (contains w) (table None locks)) (ts : List ℕ) (is : is_in_set ts ≡ put (is_in_set sets) s (λ _. false)) where
    lock_left : (l : ℕ) → table None new l ≡ after (column sets l) s low (is_in_set sets s l) (table None locks l)
    lock_left l = ap (λ (f : ℕ → Lock). f l) left ∙ ap (λ (f : ℕ → Bool). if f l then left_lock (table None locks l) else table None locks l) set_is

    column_left : (l : ℕ) → column ts l ≡ put (column sets l) s false
    column_left l = fun_ext (λ u. ap (λ (f : ℕ → ℕ → Bool). f u l) is ∙ by_place (λ (u : ℕ). put (is_in_set sets) s (λ _. false) u l ≡ put (column sets l) s false u) s
        (ap (λ (f : Column). f l) (put_here (is_in_set sets) s (λ _. false)) ∙ sym (put_here (column sets l) s false))
        (λ u apart. ap (λ (f : Column). f l) (put_other (is_in_set sets) s (λ _. false) u apart) ∙ sym (put_other (column sets l) s false u apart)) u)

    pub kept_left : length new ≡ object_limit → length ts ≡ thread_limit → LocksAreKept (locks_with new ts)
    kept_left many long = record {
      many = many;
      slots = long;
      held = λ l. holders_are _ _ _ _ (lock_left l) (column_left l) (leaves (column sets l) s low (is_in_set sets s l) (table None locks l) refl (kept.held l));
    }

    pub shown_left : tables_of (locks_with new ts) ≡ locks_left s old
    shown_left = same_tables _ _ _ _ _ _ _ _
        (fun_ext (λ l. ap is_some (lock_left l) ∙ known_left (column sets l) s low (is_in_set sets s l) (table None locks l)))
        (fun_ext (λ l. ap writer_of (lock_left l) ∙ writer_left (column sets l) s low (is_in_set sets s l) (table None locks l) refl (kept.held l)))
        (fun_ext (λ l. ap {B = Column} (λ (x : Lock) (u : ℕ). reads_in x (is_in_set ts u l)) (lock_left l) ∙ ap {B = Column} (λ (f : Column) (u : ℕ). reads_in (after (column sets l) s low (is_in_set sets s l) (table None locks l)) (f u)) (column_left l) ∙ reads_left (column sets l) s low (is_in_set sets s l) (table None locks l) refl (kept.held l)))
        (fun_ext (λ l. ap readers_of (lock_left l) ∙ readers_left (column sets l) s low (is_in_set sets s l) (table None locks l) refl))

-- ---- before any call

abbrev none_kept : List Lock
none_kept = replicate object_limit None

none_at : (l : ℕ) → table None none_kept l ≡ None
none_at l = ap (λ (f : ℕ → Lock). f l) (table_replicate object_limit None)

module _ (sets : List ℕ) where
  pub kept_none : is_in_set sets ≡ (λ _ _. false) → length sets ≡ thread_limit → LocksAreKept (locks_with none_kept sets)
  kept_none empty slots = record {
    many = length-replicate {A = Lock} object_limit None;
    slots = slots;
    held = λ l. subst (λ (x : Lock). AreHolders x (column sets l)) (sym (none_at l)) (λ u. ap (λ (f : ℕ → ℕ → Bool). f u l) empty);
  }

  pub shown_none : tables_of (locks_with none_kept sets) ≡ no_locks
  shown_none = same_tables _ _ _ _ _ _ _ _
      (fun_ext (λ l. ap is_some (none_at l)))
      (fun_ext (λ l. ap writer_of (none_at l)))
      (fun_ext (λ l. ap {B = Column} (λ (x : Lock) (u : ℕ). reads_in x (is_in_set sets u l)) (none_at l)))
      (fun_ext (λ l. ap readers_of (none_at l)))
