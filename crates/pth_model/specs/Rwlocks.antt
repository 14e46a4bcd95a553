-- Read-write locks: pth_rwlock_init, pth_rwlock_acquire, pth_rwlock_release. What becomes of a lock is told by the answers.
use Rattle.std.specs.Prelude.{ℕ, ◌||◌, ◌&&◌, not, ℤ, Bool}
use Rattle.pth_base.specs.declared.errno.Errno.TheVariants.{EINVAL, EBUSY}
use Rattle.pth_numbered.specs.Operands.{is_zero}
use Rattle.pth_lock.specs.Objects.{object_named}
use Rattle.pth_lock.specs.RwLocks.{holds, may_enter, lock_init_answer, lock_take_answer, lock_release_answer}
use Rattle.pth_model.specs.declared.awaits.Awaits.TheVariants.{Lock}
use Rattle.pth_model.specs.declared.verdict.Verdict.{Verdict}
use Rattle.pth_model.specs.declared.verdict.Verdict.TheVariants.{Blocks}
use Rattle.pth_model.specs.Verdict.{refused, says, done, by_result, taken_or}
use Rattle.pth_numbered.specs.Clauses.{◌when◌otherwise◌}
use Rattle.pth_model.specs.State.{State}
use Rattle.pth_model.specs.Transition.{silent, nothing}
use Rattle.pth_model.specs.Row.{Row, ◌changing◌, ◌trying◌}
use Rattle.pth_model.specs.RingWaits.{extra_ring, is_no_ring, is_claimed_ring}

module _ {P S H : Type 0} (s : State P S H) where
  -- a lock is initialised
  abbrev pub is_lock : ℤ → Bool
  is_lock l = s.resources.store.rw_locks.initialised (object_named l)

  -- who does not hold a lock may enter, to write or to read
  abbrev pub lets_in : Bool → ℤ → Bool
  lets_in write l = may_enter s.resources.store.rw_locks write (object_named l)

  -- it is initialised, and they may
  abbrev pub is_open : Bool → ℤ → Bool
  is_open write l = is_lock l && lets_in write l

  -- pth_rwlock_init
  abbrev pub rw_init : ℤ → Row P S H
  rw_init l = by_result done (lock_init_answer s.resources.store.rw_locks l) changing nothing

module _ {P S H : Type 0} (s : State P S H) (t : ℕ) where
  -- pth_rwlock_acquire, to write or to read: t enters, or it waits, unless it only tries
  abbrev pub begins_entering : ℤ → Bool → (v e : ℤ) → Verdict
  begins_entering l write v e =
      refused EINVAL when is_no_ring s (extra_ring e) otherwise
      taken_or (lock_take_answer s.resources.store.rw_locks t write l)
      (refused EBUSY when not (is_zero v) || is_claimed_ring s (extra_ring e) otherwise Blocks (Lock l write))

  -- tried again: t enters, where it may, and does not hold it
  abbrev pub rw_acquire : ℤ → Bool → (v e : ℤ) → Row P S H
  rw_acquire l write v e = record {
    begin = begins_entering l write v e trying silent;
    again = λ a. says 1 when is_open s write l && not (holds s.resources.store.rw_locks t (object_named l)) otherwise Blocks (Lock l write) trying silent;
  }

  -- pth_rwlock_release
  abbrev pub rw_release : ℤ → Row P S H
  rw_release l = by_result done (lock_release_answer s.resources.store.rw_locks t l) changing nothing
