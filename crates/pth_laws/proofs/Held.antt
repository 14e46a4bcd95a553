-- Who does not hold a lock is still out of it after a change that is not its own entering.
use Rattle.std.proofs.Common.{◌≡◌, ℕ, ◌==◌, ◌&&◌, Bool, true, false, if◌then◌else◌, Option, None, refl, sym, ◌∙◌, ap}
use Rattle.std.proofs.lemmas.Bool.{or_parts, or_from}
use Rattle.pth_base.specs.Table.{put}
use Rattle.pth_base.proofs.Tables.{put_by, put_here}
use Rattle.pth_lock.specs.RwLocks.{LockTables, holds, is_one, lock_released, locks_left, without_slot}
use Rattle.pth_model.specs.Kill.{locks_of_only}

module _ (u : ℕ) where
  writes_not : (w : Option ℕ) (v : ℕ) → is_one u w ≡ false → is_one u (without_slot v w) ≡ false
  writes_not w v none = by_test (is_one v w)
    where
      by_test : (b : Bool) → is_one u (if b then None else w) ≡ false
      by_test true = refl
      by_test false = none

  writes_no_more : (w : Option ℕ) → is_one u (without_slot u w) ≡ false
  writes_no_more w = by_test (is_one u w) refl
    where
      by_test : (b : Bool) → is_one u w ≡ b → is_one u (if b then None else w) ≡ false
      by_test true is = refl
      by_test false is = is

  module _ (x : LockTables) (i : ℕ) where
    -- u does not hold it
    abbrev IsOut : LockTables → Type 0
    IsOut y = holds y u i ≡ false

    parts : IsOut x → (is_one u (x.writer i) ≡ false) × (x.reads i u ≡ false)
    parts h = or_parts (is_one u (x.writer i)) (x.reads i u) h

    pub out_released : (v l : ℕ) → IsOut x → IsOut (lock_released v l x)
    out_released v l h =
        or_from _ _
        (put_by (λ (w : Option ℕ). is_one u w ≡ false) x.writer l (without_slot v (x.writer l)) i (λ here. writes_not (x.writer l) v (ap (λ j. is_one u (x.writer j)) (sym here) ∙ (parts h).0)) (λ other. (parts h).0))
        (put_by (λ (r : ℕ → Bool). r u ≡ false) x.reads l (put (x.reads l) v false) i (λ here. put_by (λ (b : Bool). b ≡ false) (x.reads l) v false u (λ same. refl) (λ apart. ap (λ j. x.reads j u) (sym here) ∙ (parts h).1)) (λ other. (parts h).1))

    -- the lock that it gave back
    pub out_given : (l : ℕ) → i ≡ l → IsOut (lock_released u l x)
    out_given l same =
        or_from _ _
        (put_by (λ (w : Option ℕ). is_one u w ≡ false) x.writer l (without_slot u (x.writer l)) i (λ here. writes_no_more (x.writer l)) (λ other. absurd (other same)))
        (put_by (λ (r : ℕ → Bool). r u ≡ false) x.reads l (put (x.reads l) u false) i (λ here. put_here (x.reads l) u false) (λ other. absurd (other same)))

    pub out_left : (v : ℕ) → IsOut x → IsOut (locks_left v x)
    out_left v h = or_from _ _ (writes_not (x.writer i) v (parts h).0) (put_by (λ (b : Bool). b ≡ false) (x.reads i) v false u (λ same. refl) (λ apart. (parts h).1))

    pub out_only : (v : ℕ) → IsOut x → IsOut (locks_of_only v x)
    out_only v h = or_from _ _ (by_writer (is_one v (x.writer i)) (parts h).0) (by_number (u == v) (parts h).1)
      where
        by_writer : (b : Bool) → is_one u (x.writer i) ≡ false → is_one u (if b then x.writer i else None) ≡ false
        by_writer true h = h
        by_writer false h = refl

        by_number : (b : Bool) → x.reads i u ≡ false → (b && x.reads i u) ≡ false
        by_number true h = h
        by_number false h = refl
