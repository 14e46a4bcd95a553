-- Exclusive marks: who takes a mutex meets no other owner and who gives it back has it (pth_mutex_acquire, pth_mutex_release,
-- pth_cond_await), who enters a read-write lock meets nobody whom it excludes (pth_rwlock_acquire, pth_rwlock_release), and a thread
-- that ends has given up what it had (pth_exit). All is told by the marks alone, of every list of marks: also of one that no run tells.
use Rattle.std.specs.Prelude.{◌≡◌, ◌≢◌, ◌<◌, ℕ, zero, suc, ◌+◌, ◌-◌, ◌==◌, ◌&&◌, ◌||◌, not, ℤ, pos, Bool, true, false, if◌then◌else◌, List, ◌∷◌, ◌++◌, fold}
use Rattle.pth_base.specs.declared.act.Act.TheVariants as act
use Rattle.pth_base.specs.declared.answer.Answer.TheVariants.{Int}
use Rattle.pth_base.specs.declared.call.Call.TheVariants as call
use Rattle.pth_base.specs.declared.mark.Mark.{Mark}
use Rattle.pth_base.specs.declared.mark.Mark.TheVariants as mark
use Rattle.pth_laws.specs.Marks.{is_same, is_end_of}

-- a mark of thread u and object k is one of t and i
abbrev pub is_of : (t : ℕ) (i : ℤ) (u : ℕ) (k : ℤ) → Bool
is_of t i u k = is_same i k && (u == t)

-- ---- who awaits: from the wait of its cond_await on, until that is answered, it has its mutex again, or it ends

abbrev pub begins_to_await : ℕ → Mark → Bool
begins_to_await t (mark.Waits u (call.CondAwait c m e)) = u.0 == t
begins_to_await t m = false

abbrev pub awaits_no_more : ℕ → Mark → Bool
awaits_no_more t (mark.Answered u (call.CondAwait c m e) a) = u.0 == t
awaits_no_more t (mark.Took u m) = u.0 == t
awaits_no_more t (mark.Ended u v) = u.0 == t
awaits_no_more t m = false

abbrev pub awaits_after : ℕ → Bool → Mark → Bool
awaits_after t awaiting m = if begins_to_await t m then true else (if awaits_no_more t m then false else awaiting)

-- t awaits after these marks
abbrev pub awaits : ℕ → List Mark → Bool
awaits t marks = fold (awaits_after t) false marks

-- ---- levels of a mutex

-- t takes a level of mutex i: a mutex_acquire is answered 1, t takes its mutex back, or a cond_await of t is answered while it awaits
abbrev pub takes_level : (t : ℕ) (i : ℤ) → Bool → Mark → Bool
takes_level t i awaiting (mark.Answered u (call.MutexAcquire m v e) (Int (pos (suc zero)))) = is_of t i u.0 m
takes_level t i awaiting (mark.Answered u (call.CondAwait c m e) a) = awaiting && is_of t i u.0 m
takes_level t i awaiting (mark.Took u m) = is_of t i u.0 (pos m)
takes_level t i awaiting m = false

-- t gives a level of mutex i back: a mutex_release is answered 1, also as an act of a handler, or a cond_await begins to await
abbrev pub gives : (t : ℕ) (i : ℤ) → Bool → Mark → Bool
gives t i awaiting (mark.Answered u (call.MutexRelease m) (Int (pos (suc zero)))) = is_of t i u.0 m
gives t i awaiting (mark.Acted u (act.Release m) (Int (pos (suc zero)))) = is_of t i u.0 m
gives t i awaiting (mark.Waits u (call.CondAwait c m e)) = not awaiting && is_of t i u.0 m
gives t i awaiting m = false

-- t gives up mutex i, with all its levels, as it ends
abbrev pub gives_up : (t : ℕ) (i : ℤ) → Mark → Bool
gives_up t i (mark.GaveMutex u m) = is_of t i u.0 (pos m)
gives_up t i m = false

-- how many levels t has of a mutex, and whether it awaits
pub record Share : Type 0 where
  pub had : ℕ
  pub awaiting : Bool

abbrev pub levels_after : (t : ℕ) (i : ℤ) → Share → Mark → ℕ
levels_after t i x m =
    if gives_up t i m then 0 else (
    if takes_level t i x.awaiting m then x.had + 1 else (
    if gives t i x.awaiting m then x.had - 1 else
    x.had))

abbrev pub share_after : (t : ℕ) (i : ℤ) → Share → Mark → Share
share_after t i x m = record { had = levels_after t i x m; awaiting = awaits_after t x.awaiting m }

abbrev pub share : (t : ℕ) (i : ℤ) → List Mark → Share
share t i marks = fold (share_after t i) (record { had = 0; awaiting = false }) marks

-- how many levels t has of mutex i after these marks
abbrev pub levels : (t : ℕ) (i : ℤ) → List Mark → ℕ
levels t i marks = (share t i marks).had

-- ---- locks

-- t enters lock l, to write or to read: an rw_acquire is answered 1
abbrev pub enters : (t : ℕ) (l : ℤ) → Bool → Mark → Bool
enters t l write (mark.Answered u (call.RwAcquire k true v e) (Int (pos (suc zero)))) = write && is_of t l u.0 k
enters t l write (mark.Answered u (call.RwAcquire k false v e) (Int (pos (suc zero)))) = not write && is_of t l u.0 k
enters t l write m = false

-- t leaves it: an rw_release is answered 1, or it gives the lock up as it ends
abbrev pub leaves : (t : ℕ) (l : ℤ) → Mark → Bool
leaves t l (mark.Answered u (call.RwRelease k) (Int (pos (suc zero)))) = is_of t l u.0 k
leaves t l (mark.GaveLock u k) = is_of t l u.0 (pos k)
leaves t l m = false

abbrev pub held_after : (t : ℕ) (l : ℤ) → Bool → Bool → Mark → Bool
held_after t l write held m = if enters t l write m then true else (if leaves t l m then false else held)

-- t writes, or reads, under lock l after these marks; or it holds it, one way or the other
abbrev pub writes : (t : ℕ) (l : ℤ) → List Mark → Bool
writes t l marks = fold (held_after t l true) false marks

abbrev pub reads : (t : ℕ) (l : ℤ) → List Mark → Bool
reads t l marks = fold (held_after t l false) false marks

abbrev pub is_holder : (t : ℕ) (l : ℤ) → List Mark → Bool
is_holder t l marks = writes t l marks || reads t l marks

-- ---- the sentences

-- what is said of a mark m, by the marks before it
pub record IsExclusiveAt (before : List Mark) (m : Mark) : Type 0 where
  -- who takes a level of a mutex meets no other thread that has one
  pub taker_is_alone : (t u : ℕ) (i : ℤ) → takes_level t i (awaits t before) m ≡ true → u ≢ t → levels u i before ≡ 0
  -- who gives a level of a mutex back has one, and so does who gives the mutex up at its end
  pub giver_has_level : (t : ℕ) (i : ℤ) → gives t i (awaits t before) m ≡ true → 0 < levels t i before
  pub given_up_was_had : (t : ℕ) (i : ℤ) → gives_up t i m ≡ true → 0 < levels t i before
  -- who enters a lock meets nobody that writes, and who enters it to write nobody that reads either
  pub meets_no_writer : (t u : ℕ) (l : ℤ) (write : Bool) → enters t l write m ≡ true → writes u l before ≡ false
  pub writer_meets_no_reader : (t u : ℕ) (l : ℤ) → enters t l true m ≡ true → reads u l before ≡ false
  -- who leaves a lock held it
  pub leaver_holds : (t : ℕ) (l : ℤ) → leaves t l m ≡ true → is_holder t l before ≡ true
  -- a thread that ends has no level of a mutex, and holds no lock
  pub end_has_no_level : (t : ℕ) (i : ℤ) → is_end_of t m ≡ true → levels t i before ≡ 0
  pub end_holds_no_lock : (t : ℕ) (l : ℤ) → is_end_of t m ≡ true → is_holder t l before ≡ false

-- wherever a mark stands in these marks, that is said of it
abbrev pub Exclusive : List Mark → Type 0
Exclusive marks = (before later : List Mark) (m : Mark) → marks ≡ before ++ m ∷ later → IsExclusiveAt before m

-- ---- what they come to

-- after these marks no two threads have a mutex, and if a thread writes under a lock no other one holds it
pub record IsExclusiveAfter (marks : List Mark) : Type 0 where
  pub one_owner : (t u : ℕ) (i : ℤ) → 0 < levels t i marks → u ≢ t → levels u i marks ≡ 0
  pub writer_is_alone : (t u : ℕ) (l : ℤ) → writes t l marks ≡ true → u ≢ t → is_holder u l marks ≡ false
