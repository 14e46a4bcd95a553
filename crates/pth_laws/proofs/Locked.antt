-- Where all marks are exclusive, there are the mutexes and the locks of 0 to 63 alone, and nobody holds a lock that was not initialised.
use Rattle.std.proofs.Common.{◌≡◌, ◌<◌, ℕ, zero, suc, ◌||◌, Bool, true, false, if◌then◌else◌, ℤ, pos, List, [], ◌∷◌, Option, Some, None, is_some, refl, sym, ◌∙◌, ap, subst}
use Rattle.std.proofs.lemmas.Bool.{true≢false}
use Rattle.pth_base.specs.Table.{put}
use Rattle.pth_base.specs.declared.act.Act.TheVariants as act
use Rattle.pth_base.specs.declared.answer.Answer.{Answer}
use Rattle.pth_base.specs.declared.answer.Answer.TheVariants as answer
use Rattle.pth_base.specs.declared.call.Call.{Call}
use Rattle.pth_base.specs.declared.call.Call.TheVariants as call
use Rattle.pth_base.specs.declared.mark.Mark.{Mark}
use Rattle.pth_base.specs.declared.mark.Mark.TheVariants as mark
use Rattle.pth_base.proofs.Tables.{put_by}
use Rattle.pth_lock.specs.Objects.{object_limit, object_named}
use Rattle.pth_lock.specs.Mutexes.{Mutex, MutexTable, free_mutex, has, is_anothers, mutexes_left}
use Rattle.pth_lock.specs.RwLocks.{LockTables, holds, is_one, lock_initialised, lock_released, lock_taken, locks_left}
use Rattle.pth_model.specs.Resources.{on_one, on_int, on_msg, told, answer_told, act_told, retaken, let_go}
use Rattle.pth_model.specs.Kill.{mutexes_of_only, locks_of_only}
use Rattle.pth_model.specs.Store.{Resources, no_resources}
use Rattle.pth_laws.proofs.Book.{Book, after, book_of}
use Rattle.pth_laws.proofs.Laws.{EachMark, IsAnswerExclusive, IsExclusiveMark, MayTake}
use Rattle.pth_laws.proofs.Held.{out_released, out_left, out_only}

pub record IsLocked (x : MutexTable) (y : LockTables) : Type 0 where
  -- what is initialised is one of 0 to 63
  pub mutexes : (m : ℕ) → is_some (x m) ≡ true → m < object_limit
  pub locks : (l : ℕ) → y.initialised l ≡ true → l < object_limit
  -- what is held is initialised
  pub held : (l u : ℕ) → holds y u l ≡ true → y.initialised l ≡ true

abbrev pub Locked : Resources → Type 0
Locked k = IsLocked k.store.mutexes k.store.rw_locks

pub locked_none : Locked no_resources
locked_none = record { mutexes = λ m h. absurd (true≢false (sym h)); locks = λ l h. absurd (true≢false (sym h)); held = λ l u h. absurd (true≢false (sym h)) }

pub has_some : (t : ℕ) (z : Mutex) → has t z ≡ true → is_some z ≡ true
has_some t None h = absurd (true≢false (sym h))
has_some t (Some o) h = refl

pub others_some : (t : ℕ) (z : Mutex) → is_anothers t z ≡ true → is_some z ≡ true
others_some t None h = absurd (true≢false (sym h))
others_some t (Some o) h = refl

-- ---- changes of the tables

module _ (x : MutexTable) (y : LockTables) (k : IsLocked x y) where
  abbrev With : MutexTable → Type 0
  With z = IsLocked z y

  abbrev Under : LockTables → Type 0
  Under z = IsLocked x z

  with_mutex : (z : MutexTable) → ((m : ℕ) → is_some (z m) ≡ true → m < object_limit) → With z
  with_mutex z below = record { mutexes = below; locks = k.locks; held = k.held }

  locked_put : (m : ℕ) (z : Mutex) → m < object_limit → With (put x m z)
  locked_put m z below = with_mutex (put x m z) (λ i. put_by (λ w. is_some w ≡ true → i < object_limit) x m z i (λ here h. subst (λ (j : ℕ). j < object_limit) (sym here) below) (λ other. k.mutexes i))

  -- a mutex that is initialised changes
  locked_at : (m : ℕ) (z : Mutex) → is_some (x m) ≡ true → With (put x m z)
  locked_at m z some = locked_put m z (k.mutexes m some)

  locked_left : (t : ℕ) → With (mutexes_left t x)
  locked_left t = with_mutex (mutexes_left t x) (λ m. by_test m (has t (x m)) refl)
    where
      by_test : (m : ℕ) (b : Bool) → has t (x m) ≡ b → is_some (if b then free_mutex else x m) ≡ true → m < object_limit
      by_test m true had h = k.mutexes m (has_some t (x m) had)
      by_test m false had h = k.mutexes m h

  locked_only : (t : ℕ) → With (mutexes_of_only t x)
  locked_only t = with_mutex (mutexes_of_only t x) (λ m. by_test m (is_anothers t (x m)) refl)
    where
      by_test : (m : ℕ) (b : Bool) → is_anothers t (x m) ≡ b → is_some (if b then free_mutex else x m) ≡ true → m < object_limit
      by_test m true had h = k.mutexes m (others_some t (x m) had)
      by_test m false had h = k.mutexes m h

  lock_begins : (l : ℕ) → l < object_limit → Under (lock_initialised l y)
  lock_begins l below = record {
    mutexes = k.mutexes;
    locks = λ i. put_by (λ (b : Bool). b ≡ true → i < object_limit) y.initialised l true i (λ here h. subst (λ (j : ℕ). j < object_limit) (sym here) below) (λ other. k.locks i);
    held = λ i u h. put_by (λ (b : Bool). b ≡ true) y.initialised l true i (λ here. refl) (λ other. k.held i u h);
  }

  entered : (t : ℕ) (write : Bool) (l : ℕ) → y.initialised l ≡ true → Under (lock_taken t write l y)
  entered t true l known = record {
    mutexes = k.mutexes;
    locks = k.locks;
    held = λ i u. put_by (λ (w : Option ℕ). (is_one u w || y.reads i u) ≡ true → y.initialised i ≡ true) y.writer l (Some t) i (λ here h. ap y.initialised here ∙ known) (λ other h. k.held i u h);
  }
  entered t false l known = record {
    mutexes = k.mutexes;
    locks = k.locks;
    held = λ i u. put_by (λ (r : ℕ → Bool). (is_one u (y.writer i) || r u) ≡ true → y.initialised i ≡ true) y.reads l (put (y.reads l) t true) i (λ here h. ap y.initialised here ∙ known) (λ other h. k.held i u h);
  }

  -- who holds a lock afterwards held it before
  less : (z : LockTables) → z.initialised ≡ y.initialised → ((l u : ℕ) → holds y u l ≡ false → holds z u l ≡ false) → Under z
  less z same out = record {
    mutexes = k.mutexes;
    locks = λ l h. k.locks l (ap (λ (o : ℕ → Bool). o l) (sym same) ∙ h);
    held = λ l u h. ap (λ (o : ℕ → Bool). o l) same ∙ by_test l u h (holds y u l) refl;
  }
    where
      by_test : (l u : ℕ) → holds z u l ≡ true → (b : Bool) → holds y u l ≡ b → y.initialised l ≡ true
      by_test l u h true had = k.held l u had
      by_test l u h false had = absurd (true≢false (sym h ∙ out l u had))

-- ---- marks

module _ (k : Resources) (locked : Locked k) where
  abbrev x : MutexTable
  x = k.store.mutexes

  abbrev y : LockTables
  y = k.store.rw_locks

  locked_one : (a : Answer) (g : Resources) → Locked g → Locked (on_one a k g)
  locked_one (answer.Int (pos (suc zero))) g h = h
  locked_one a g h = locked

  locked_int : (a : Answer) (g : ℤ → Resources) → ((n : ℤ) → Locked (g n)) → Locked (on_int a k g)
  locked_int (answer.Int n) g h = h n
  locked_int a g h = locked

  locked_msg : (a : Answer) (g : Resources) → Locked g → Locked (on_msg a k g)
  locked_msg (answer.Msg id v) g h = h
  locked_msg a g h = locked

  took_back : (t m : ℕ) (b : Bool) → k.awaits t ≡ b → (k.awaits t ≡ true → MayTake k t m) → Locked (if b then retaken k t m else k)
  took_back t m true on law = locked_at x y locked m _ (law on).initialised
  took_back t m false on law = locked

  gave_back : (t m : ℕ) (b : Bool) → k.awaits t ≡ b → (k.awaits t ≡ false → has t (x m) ≡ true) → Locked (if b then k else let_go k t m)
  gave_back t m true on law = locked
  gave_back t m false on law = locked_at x y locked m _ (has_some t (x m) (law on))

  answer_locked : (t : ℕ) (c : Call) (a : Answer) → IsAnswerExclusive k t c a → Locked (answer_told k t c a)
  unfolding answer_told
  answer_locked t (call.CleanupPush h v) a law = locked_one a _ locked
  answer_locked t (call.CleanupPop v) a law = locked_one a _ locked
  answer_locked t (call.KeyCreate h) a law = locked_int a _ (λ n. locked)
  answer_locked t (call.KeyDelete key) a law = locked_one a _ locked
  answer_locked t (call.KeySet key v) a law = locked_one a _ locked
  answer_locked t (call.MutexInit m) (answer.Int n) law = locked_put x y locked (object_named m) free_mutex law.1.known
  answer_locked t (call.MutexInit m) a law = locked
  answer_locked t (call.MutexAcquire m v e) (answer.Int n) law = locked_at x y locked (object_named m) _ law.1.initialised
  answer_locked t (call.MutexAcquire m v e) a law = locked
  answer_locked t (call.MutexRelease m) (answer.Int n) law = locked_at x y locked (object_named m) _ (has_some t (x (object_named m)) law.1)
  answer_locked t (call.MutexRelease m) a law = locked
  answer_locked t (call.RwInit l) (answer.Int n) law = lock_begins x y locked (object_named l) law.1.known
  answer_locked t (call.RwInit l) a law = locked
  answer_locked t (call.RwAcquire l write v e) (answer.Int n) law = entered x y locked t write (object_named l) law.1.initialised
  answer_locked t (call.RwAcquire l write v e) a law = locked
  answer_locked t (call.RwRelease l) (answer.Int n) law = less x y locked (lock_released t (object_named l) y) refl (λ i u. out_released u y i t (object_named l))
  answer_locked t (call.RwRelease l) a law = locked
  answer_locked t (call.CondAwait c m e) a law = took_back t (object_named m) (k.awaits t) refl law
  answer_locked t (call.PortCreate name) a law = locked_int a _ (λ n. locked)
  answer_locked t (call.PortPut p v r) a law = locked_int a _ (λ n. locked)
  answer_locked t (call.PortGet p) a law = locked_msg a _ locked
  answer_locked t (call.Reply m v) a law = locked_int a _ (λ n. locked)
  answer_locked t (call.PortDestroy p) a law = locked_int a _ (λ n. locked)
  answer_locked t call.Kill a law = locked_int a _ (λ n. less _ y (locked_only x y locked t) (locks_of_only t y) refl (λ i u. out_only u y i t))
  answer_locked t c a law = locked

-- one mark more
pub locked_after : (b : Book) (m : Mark) → IsExclusiveMark b m → Locked b.resources → Locked (told b.resources m)
unfolding told act_told
locked_after b (mark.Answered t c a) law locked = answer_locked b.resources locked t.0 c a law
locked_after b (mark.Acted t (act.Release m) a) law locked = answer_locked b.resources locked t.0 (call.MutexRelease m) a law
locked_after b (mark.Acted t (act.Put p v) a) law locked = answer_locked b.resources locked t.0 (call.PortPut p v (pos 0)) a law
locked_after b (mark.Acted t (act.SetKey key v) a) law locked = answer_locked b.resources locked t.0 (call.KeySet key v) a tt
locked_after b (mark.Waits t (call.CondAwait c m e)) law locked = gave_back b.resources locked t.0 (object_named m) (b.resources.awaits t.0) refl law
locked_after b (mark.Took t m) law locked = locked_at b.resources.store.mutexes b.resources.store.rw_locks locked m _ law.initialised
locked_after b (mark.GaveMutex t m) law locked = locked_at b.resources.store.mutexes b.resources.store.rw_locks locked m _ (has_some t.0 (b.resources.store.mutexes m) law)
locked_after b (mark.GaveLock t l) law locked = less b.resources.store.mutexes b.resources.store.rw_locks locked (lock_released t.0 l b.resources.store.rw_locks) refl (λ i u. out_released u b.resources.store.rw_locks i t.0 l)
locked_after b (mark.Ended t v) law locked = less _ b.resources.store.rw_locks (locked_left b.resources.store.mutexes b.resources.store.rw_locks locked t.0) (locks_left t.0 b.resources.store.rw_locks) refl (λ i u. out_left u b.resources.store.rw_locks i t.0)
locked_after b m law locked = locked

pub locked_along : (b : Book) (ms : List Mark) → EachMark IsExclusiveMark b ms → Locked b.resources → Locked (book_of b ms).resources
locked_along b [] law locked = locked
locked_along b (m ∷ ms) law locked = locked_along (after b m) ms law.1 (locked_after b m law.0 locked)

-- ---- who has none of 0 to 63 has none

module _ (k : Resources) (locked : Locked k) (t : ℕ) where
  pub no_mutex : ((m : ℕ) → m < object_limit → has t (k.store.mutexes m) ≡ false) → (m : ℕ) → has t (k.store.mutexes m) ≡ false
  no_mutex none m = by_test (has t (k.store.mutexes m)) refl
    where
      by_test : (b : Bool) → has t (k.store.mutexes m) ≡ b → has t (k.store.mutexes m) ≡ false
      by_test false h = h
      by_test true h = none m (locked.mutexes m (has_some t (k.store.mutexes m) h))

  pub no_lock : ((l : ℕ) → l < object_limit → holds k.store.rw_locks t l ≡ false) → (l : ℕ) → holds k.store.rw_locks t l ≡ false
  no_lock none l = by_test (holds k.store.rw_locks t l) refl
    where
      by_test : (b : Bool) → holds k.store.rw_locks t l ≡ b → holds k.store.rw_locks t l ≡ false
      by_test false h = h
      by_test true h = none l (locked.locks l (locked.held l t h))
