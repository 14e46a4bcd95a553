-- The list of holds of read-write locks, when one changes.
use Rattle.std.proofs.Common.{◌≡◌, ◌≢◌, ℕ, ◌<◌, ◌==◌, pos, Bool, true, false, not, ◌||◌, if◌then◌else◌, List, [], ◌∷◌, filter, Option, Some, None, is_some, Ok, refl, sym, ◌∙◌, ap}
use Rattle.std.specs.List.Sorted.{IsPermutation}
use Rattle.pth_base.specs.Limits.{thread_limit}
use Rattle.pth_base.specs.Table.{put}
use Rattle.pth_base.proofs.Tables.{put_here, put_other, same_means, same_self, not_same}
use Rattle.pth_lock.specs.Objects.{object_limit}
use Rattle.pth_lock.specs.RwLocks.{LockTables, is_one, holds, may_enter, is_held, is_written, without_slot, lock_take_answer, lock_taken, lock_released, locks_left}
use Rattle.pth_lock.specs.Holds.{LockHold, lock_holds_by, lock_holds_at, lock_holds_of, StartWithoutLockHolds, LockTakesAddHold, LockReleasesDropHold, LockEndsDropHolds}
use Rattle.pth_lock.proofs.Sweeps.{by_place}
use Rattle.pth_lock.proofs.Holdings.{take_at, release_at}
use Rattle.pth_lock.proofs.Joins.{same_elements, joined_same, joined_none, joined_filter, joined_more}

abbrev hold : ℕ → ℕ → Bool → LockHold
hold s l write = record { slot = s; lock = l; write = write }

-- the hold of a lock by a slot that writes, or reads, or neither
abbrev by_tests : ℕ → ℕ → Bool → Bool → List LockHold
by_tests s l writes reads = if writes then hold s l true ∷ [] else if reads then hold s l false ∷ [] else []

-- ---- one slot at one lock

no_more : (s l : ℕ) (writes reads : Bool) → (writes || reads) ≡ false → by_tests s l writes reads ≡ []
no_more s l true reads out = cc
no_more s l false true out = cc
no_more s l false false out = refl

one_hold : (s l : ℕ) (writes reads : Bool) → (writes || reads) ≡ true → by_tests s l writes reads ≡ hold s l writes ∷ []
one_hold s l true reads member = refl
one_hold s l false true member = refl
one_hold s l false false member = cc

-- ---- what an answer says

record Passes (known held may : Bool) : Type 0 where
  out : held ≡ false
  enters : may ≡ true

passes : (known held may : Bool) → take_at known held may ≡ Ok tt → Passes known held may
passes false held may ok = cc
passes true true may ok = cc
passes true false false ok = cc
passes true false true ok = record { out = refl; enters = refl }

gives : (known held member : Bool) → release_at known held member ≡ Ok tt → member ≡ true
gives false held member ok = cc
gives true false member ok = cc
gives true true false ok = cc
gives true true true ok = refl

-- nobody writes where a slot may enter
no_writer : (write written read : Bool) → (if write then not (written || read) else not written) ≡ true → written ≡ false
no_writer true true read may = cc
no_writer true false read may = refl
no_writer false true read may = cc
no_writer false false read may = refl

none_is : (w : Option ℕ) → is_some w ≡ false → w ≡ None
none_is (Some u) e = cc
none_is None e = refl

left_by : (w : Option ℕ) (s u : ℕ) (b : Bool) → u ≢ s → is_one s w ≡ b → is_one u (if b then None else w) ≡ is_one u w
left_by (Some v) s u true apart e = sym (not_same v u (λ same. apart (sym same ∙ same_means v s e)))
left_by (Some v) s u false apart e = refl
left_by None s u true apart e = refl
left_by None s u false apart e = refl

-- another slot writes still, and this one no longer
others_write : (w : Option ℕ) (s u : ℕ) → u ≢ s → is_one u (without_slot s w) ≡ is_one u w
others_write w s u apart = left_by w s u (is_one s w) apart refl

gone : (w : Option ℕ) (s : ℕ) (b : Bool) → is_one s w ≡ b → is_one s (if b then None else w) ≡ false
gone w s true e = refl
gone w s false e = e

writes_no_longer : (w : Option ℕ) (s : ℕ) → is_one s (without_slot s w) ≡ false
writes_no_longer w s = gone w s (is_one s w) refl

-- ---- a lock is taken

module _ (x : LockTables) (s l : ℕ) (slot : s < thread_limit) (low : l < object_limit) where
  -- one slot's hold at one lock more, and all others the same
  one_more : (y z : LockTables) (write : Bool) → ((i : ℕ) → i ≢ l → (u : ℕ) → lock_holds_by z i u ≡ lock_holds_by y i u) → ((u : ℕ) → u ≢ s → lock_holds_by z l u ≡ lock_holds_by y l u) → lock_holds_by z l s ≡ hold s l write ∷ lock_holds_by y l s → IsPermutation (lock_holds_of z) (hold s l write ∷ lock_holds_of y)
  one_more y z write locks slots more =
      joined_more (lock_holds_at y) (lock_holds_at z) l (hold s l write ∷ [])
      (λ i apart. joined_same (lock_holds_by z i) (lock_holds_by y i) thread_limit (locks i apart))
      (joined_more (lock_holds_by y l) (lock_holds_by z l) s (hold s l write ∷ []) slots (same_elements _ _ more) thread_limit slot)
      object_limit low

  module _ (out : holds x s l ≡ false) (none : x.writer l ≡ None) where
    empty : lock_holds_by x l s ≡ []
    empty = no_more s l (is_one s (x.writer l)) (x.reads l s) out

    writing : IsPermutation (lock_holds_of (lock_taken s true l x)) (hold s l true ∷ lock_holds_of x)
    writing = one_more x (lock_taken s true l x) true
        (λ i apart u. ap (λ (w : Option ℕ). by_tests u i (is_one u w) (x.reads i u)) (put_other x.writer l (Some s) i apart))
        (λ u apart.
        ap (λ (w : Option ℕ). by_tests u l (is_one u w) (x.reads l u)) (put_here x.writer l (Some s))
        ∙ ap (λ (b : Bool). by_tests u l b (x.reads l u)) (not_same s u (λ e. apart (sym e)))
        ∙ ap (λ (w : Option ℕ). by_tests u l (is_one u w) (x.reads l u)) (sym none))
        (ap (λ (w : Option ℕ). by_tests s l (is_one s w) (x.reads l s)) (put_here x.writer l (Some s))
        ∙ ap (λ (b : Bool). by_tests s l b (x.reads l s)) (same_self s)
        ∙ ap (λ (hs : List LockHold). hold s l true ∷ hs) (sym empty))

    reading : IsPermutation (lock_holds_of (lock_taken s false l x)) (hold s l false ∷ lock_holds_of x)
    reading = one_more x (lock_taken s false l x) false
        (λ i apart u. ap (λ (f : ℕ → Bool). by_tests u i (is_one u (x.writer i)) (f u)) (put_other x.reads l (put (x.reads l) s true) i apart))
        (λ u apart.
        ap (λ (f : ℕ → Bool). by_tests u l (is_one u (x.writer l)) (f u)) (put_here x.reads l (put (x.reads l) s true))
        ∙ ap (λ (b : Bool). by_tests u l (is_one u (x.writer l)) b) (put_other (x.reads l) s true u apart))
        (ap (λ (f : ℕ → Bool). by_tests s l (is_one s (x.writer l)) (f s)) (put_here x.reads l (put (x.reads l) s true))
        ∙ ap (λ (b : Bool). by_tests s l (is_one s (x.writer l)) b) (put_here (x.reads l) s true)
        ∙ ap (λ (w : Option ℕ). by_tests s l (is_one s w) true) none
        ∙ ap (λ (hs : List LockHold). hold s l false ∷ hs) (sym empty))

  entering : (write : Bool) → lock_take_answer x s write (pos l) ≡ Ok tt → IsPermutation (lock_holds_of (lock_taken s write l x)) (hold s l write ∷ lock_holds_of x)
  entering true ok =
      let h = passes (x.initialised l) (holds x s l) (may_enter x true l) ok in
      writing h.out (none_is (x.writer l) (no_writer true (is_written x l) _ h.enters))
  entering false ok =
      let h = passes (x.initialised l) (holds x s l) (may_enter x false l) ok in
      reading h.out (none_is (x.writer l) (no_writer false (is_written x l) false h.enters))

  -- ---- it is released

  leaving : holds x s l ≡ true → IsPermutation (lock_holds_of x) (hold s l (is_one s (x.writer l)) ∷ lock_holds_of (lock_released s l x))
  leaving member = one_more (lock_released s l x) x (is_one s (x.writer l))
      (λ i apart u.
      ap (λ (w : Option ℕ). by_tests u i (is_one u w) (x.reads i u)) (sym (put_other x.writer l (without_slot s (x.writer l)) i apart))
      ∙ ap (λ (f : ℕ → Bool). by_tests u i (is_one u (put x.writer l (without_slot s (x.writer l)) i)) (f u)) (sym (put_other x.reads l (put (x.reads l) s false) i apart)))
      (λ u apart. sym (at_lock u ∙ ap (λ (b : Bool). by_tests u l b (put (x.reads l) s false u)) (others_write (x.writer l) s u apart) ∙ ap (by_tests u l (is_one u (x.writer l))) (put_other (x.reads l) s false u apart)))
      (one_hold s l (is_one s (x.writer l)) (x.reads l s) member
      ∙ ap (λ (hs : List LockHold). hold s l (is_one s (x.writer l)) ∷ hs)
      (sym (at_lock s ∙ ap (λ (b : Bool). by_tests s l b (put (x.reads l) s false s)) (writes_no_longer (x.writer l) s) ∙ ap (by_tests s l false) (put_here (x.reads l) s false))))
    where
      at_lock : (u : ℕ) → lock_holds_by (lock_released s l x) l u ≡ by_tests u l (is_one u (without_slot s (x.writer l))) (put (x.reads l) s false u)
      at_lock u =
          ap (λ (w : Option ℕ). by_tests u l (is_one u w) (put x.reads l (put (x.reads l) s false) l u)) (put_here x.writer l (without_slot s (x.writer l)))
          ∙ ap (λ (f : ℕ → Bool). by_tests u l (is_one u (without_slot s (x.writer l))) (f u)) (put_here x.reads l (put (x.reads l) s false))

-- ---- the laws

pub start : StartWithoutLockHolds
start = record {
  none = joined_none _ object_limit (λ l low. joined_none _ thread_limit (λ s few. refl));
  initialised = λ x l. refl;
}

pub taken : LockTakesAddHold
taken x s l write slot low ok = entering x s l slot low write ok

pub released : LockReleasesDropHold
released x s l slot low ok = leaving x s l slot low (gives (x.initialised l) (is_held x l) (holds x s l) ok)

-- a slot's holds, and the others'
kept_hold : (s u l : ℕ) (writes reads : Bool) → (u == s) ≡ false → by_tests u l writes reads ≡ filter (λ (h : LockHold). not (h.slot == s)) (by_tests u l writes reads)
kept_hold s u l true reads apart = rw apart refl
kept_hold s u l false true apart = rw apart refl
kept_hold s u l false false apart = refl

dropped_hold : (s l : ℕ) (writes reads : Bool) → [] ≡ filter (λ (h : LockHold). not (h.slot == s)) (by_tests s l writes reads)
dropped_hold s l true reads = rw (same_self s) refl
dropped_hold s l false true = rw (same_self s) refl
dropped_hold s l false false = refl

left_at : (x : LockTables) (s l : ℕ) → (u : ℕ) → lock_holds_by (locks_left s x) l u ≡ filter (λ (h : LockHold). not (h.slot == s)) (lock_holds_by x l u)
left_at x s l = by_place (λ (u : ℕ). lock_holds_by (locks_left s x) l u ≡ filter (λ (h : LockHold). not (h.slot == s)) (lock_holds_by x l u)) s
    (ap (λ (b : Bool). by_tests s l b (put (x.reads l) s false s)) (writes_no_longer (x.writer l) s) ∙ ap (by_tests s l false) (put_here (x.reads l) s false) ∙ dropped_hold s l (is_one s (x.writer l)) (x.reads l s))
    (λ u apart.
    ap (λ (b : Bool). by_tests u l b (put (x.reads l) s false u)) (others_write (x.writer l) s u apart)
    ∙ ap (by_tests u l (is_one u (x.writer l))) (put_other (x.reads l) s false u apart)
    ∙ kept_hold s u l (is_one u (x.writer l)) (x.reads l u) (not_same u s apart))

pub left : LockEndsDropHolds
left x s =
    joined_same (lock_holds_at (locks_left s x)) (λ l. filter (λ (h : LockHold). not (h.slot == s)) (lock_holds_at x l)) object_limit
    (λ l. joined_same (lock_holds_by (locks_left s x) l) (λ u. filter (λ (h : LockHold). not (h.slot == s)) (lock_holds_by x l u)) thread_limit (left_at x s l)
    ∙ sym (joined_filter (λ (h : LockHold). not (h.slot == s)) (lock_holds_by x l) thread_limit))
    ∙ sym (joined_filter (λ (h : LockHold). not (h.slot == s)) (lock_holds_at x) object_limit)
