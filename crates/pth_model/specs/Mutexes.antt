-- Mutexes: pth_mutex_init, pth_mutex_acquire, pth_mutex_release. What becomes of a mutex is told by the answers.
use Rattle.std.specs.Prelude.{ℕ, ◌||◌, ◌&&◌, not, ℤ, Bool, is_none}
use Rattle.pth_base.specs.declared.errno.Errno.TheVariants.{EINVAL, EBUSY}
use Rattle.pth_numbered.specs.Operands.{is_zero}
use Rattle.pth_lock.specs.Objects.{object_named}
use Rattle.pth_lock.specs.Mutexes.{Mutex as MutexOf, owner_of, mutex_init_answer, mutex_take_answer, mutex_release_answer}
use Rattle.pth_model.specs.declared.awaits.Awaits.TheVariants.{Mutex}
use Rattle.pth_model.specs.declared.verdict.Verdict.{Verdict}
use Rattle.pth_model.specs.declared.verdict.Verdict.TheVariants.{Blocks}
use Rattle.pth_model.specs.Verdict.{refused, says, done, by_result, taken_or}
use Rattle.pth_numbered.specs.Clauses.{◌when◌otherwise◌}
use Rattle.pth_model.specs.State.{State}
use Rattle.pth_model.specs.Transition.{silent, nothing}
use Rattle.pth_model.specs.Row.{Row, ◌changing◌, ◌trying◌}
use Rattle.pth_model.specs.RingWaits.{extra_ring, is_no_ring, is_claimed_ring}

module _ {P S H : Type 0} (s : State P S H) where
  -- the mutex that an operand names
  abbrev pub mutex : ℤ → MutexOf
  mutex m = s.resources.store.mutexes (object_named m)

  -- it is initialised, and nobody has it
  abbrev pub is_free : ℤ → Bool
  is_free m = not (is_none (mutex m)) && is_none (owner_of (mutex m))

  -- pth_mutex_init
  abbrev pub mutex_init : ℤ → Row P S H
  mutex_init m = by_result done (mutex_init_answer s.resources.store.mutexes m) changing nothing

module _ {P S H : Type 0} (s : State P S H) (t : ℕ) where
  -- pth_mutex_acquire: one level more of a mutex that is free or t's own; else t waits, unless it only tries
  abbrev pub begins_acquiring : (m v e : ℤ) → Verdict
  begins_acquiring m v e =
      refused EINVAL when is_no_ring s (extra_ring e) otherwise
      taken_or (mutex_take_answer s.resources.store.mutexes t m)
      (refused EBUSY when not (is_zero v) || is_claimed_ring s (extra_ring e) otherwise Blocks (Mutex m))

  -- tried again: one level, where it is free
  abbrev pub mutex_acquire : (m v e : ℤ) → Row P S H
  mutex_acquire m v e = record {
    begin = begins_acquiring m v e trying silent;
    again = λ a. says 1 when is_free s m otherwise Blocks (Mutex m) trying silent;
  }

  -- pth_mutex_release: one level less
  abbrev pub mutex_release : ℤ → Row P S H
  mutex_release m = by_result done (mutex_release_answer s.resources.store.mutexes t m) changing nothing
