-- Marks of what was initialised: what a thread takes was initialised before, once, under a number in range (pth_mutex_init,
-- pth_rwlock_init), and a lock is entered by nobody who holds it. Marks can exclude without it.
use Rattle.std.specs.Prelude.{◌≡◌, ◌<◌, ℕ, zero, suc, ℤ, pos, Bool, true, false, List, ◌∷◌, ◌++◌}
use Rattle.std.specs.List.{list_any}
use Rattle.pth_base.specs.declared.answer.Answer.TheVariants.{Int}
use Rattle.pth_base.specs.declared.call.Call.TheVariants as call
use Rattle.pth_base.specs.declared.mark.Mark.{Mark}
use Rattle.pth_base.specs.declared.mark.Mark.TheVariants as mark
use Rattle.pth_lock.specs.Objects.{object_limit}
use Rattle.pth_laws.specs.Marks.{is_same}
use Rattle.pth_laws.specs.Exclusive.{awaits, takes_level, levels, enters, is_holder}

-- mutex i, or lock l, is initialised: its call is answered 1
abbrev pub initialises_mutex : ℤ → Mark → Bool
initialises_mutex i (mark.Answered u (call.MutexInit m) (Int (pos (suc zero)))) = is_same i m
initialises_mutex i m = false

abbrev pub initialises_lock : ℤ → Mark → Bool
initialises_lock l (mark.Answered u (call.RwInit k) (Int (pos (suc zero)))) = is_same l k
initialises_lock l m = false

-- a number is one of 0 to 63
abbrev pub IsObject : ℤ → Type 0
IsObject i = (n : ℕ) × (i ≡ pos n) × (n < object_limit)

-- what is said of a mark m, by the marks before it
pub record IsInitialisedAt (before : List Mark) (m : Mark) : Type 0 where
  -- a mutex that is initialised is one of 0 to 63, and was not initialised before; and so is a lock
  pub mutex_is_new : (i : ℤ) → initialises_mutex i m ≡ true → IsObject i × (list_any (initialises_mutex i) before ≡ false)
  pub lock_is_new : (l : ℤ) → initialises_lock l m ≡ true → IsObject l × (list_any (initialises_lock l) before ≡ false)
  -- a mutex of which a thread takes a level was initialised
  pub taken_was_initialised : (t : ℕ) (i : ℤ) → takes_level t i (awaits t before) m ≡ true → list_any (initialises_mutex i) before ≡ true
  -- a lock that a thread enters was initialised, and the thread does not hold it
  pub entered_was_initialised : (t : ℕ) (l : ℤ) (write : Bool) → enters t l write m ≡ true → list_any (initialises_lock l) before ≡ true
  pub enters_once : (t : ℕ) (l : ℤ) (write : Bool) → enters t l write m ≡ true → is_holder t l before ≡ false

-- wherever a mark stands in these marks, that is said of it
abbrev pub Initialised : List Mark → Type 0
Initialised marks = (before later : List Mark) (m : Mark) → marks ≡ before ++ m ∷ later → IsInitialisedAt before m

-- what it comes to: what threads have and hold after these marks is among 0 to 63
pub record HaveObjects (marks : List Mark) : Type 0 where
  pub had : (t : ℕ) (i : ℤ) → 0 < levels t i marks → IsObject i
  pub held : (t : ℕ) (l : ℤ) → is_holder t l marks ≡ true → IsObject l
