-- Calls that change what threads store: their rows only answer, and the marks tell what they change.
use Rattle.std.proofs.Common.{◌≡◌, ◌≢◌, ◌∙◌, ℕ, ℤ, pos, negsuc, IfOk, Bool, true, false, not, Option, Some, None, is_none, Result, Ok, Err, if◌then◌else◌, OnOk, OnErr, List, refl, ap, sym, subst}
use Rattle.pth_base.proofs.Tables.{not_same}
use Rattle.pth_base.specs.Cut.{IsCut}
use Rattle.pth_base.specs.Program.{Functions}
use Rattle.pth_base.specs.declared.answer.Answer.{Answer}
use Rattle.pth_base.specs.declared.answer.Answer.TheVariants.{Int, Fail}
use Rattle.pth_base.specs.declared.call.Call.TheVariants as call
use Rattle.pth_base.specs.declared.errno.Errno.{Errno}
use Rattle.pth_base.specs.declared.errno.Errno.TheVariants.{EINVAL}
use Rattle.pth_base.specs.declared.ids.Tid.{Tid}
use Rattle.pth_base.specs.declared.mark.Mark.{Mark}
use Rattle.pth_base.specs.declared.mark.Mark.TheVariants.{Answered}
use Rattle.pth_lock.specs.Mutexes.{mutex_init_answer, mutex_initialised}
use Rattle.pth_lock.specs.Objects.{object_named}
use Rattle.pth_lock.specs.RwLocks.{lock_init_answer, lock_initialised, lock_release_answer, lock_released}
use Rattle.pth_model.specs.declared.next.Next.TheVariants as next
use Rattle.pth_model.specs.Acts.{runs_handler}
use Rattle.pth_model.specs.Calls.{begun, begun_by}
use Rattle.pth_model.specs.Changes.{uses}
use Rattle.pth_model.specs.Cleanups.{cleanup_push, last_pushed, once, runs_pushed}
use Rattle.pth_model.specs.KeyStorage.{key_create, key_delete}
use Rattle.pth_model.specs.Mutexes.{mutex_init}
use Rattle.pth_model.specs.Rwlocks.{rw_init, rw_release}
use Rattle.pth_model.specs.Resources.{destructor_by, handler, told, answer_told}
use Rattle.pth_model.specs.Store.{Store, with_cleanups, with_keys, with_mutexes, with_rw_locks}
use Rattle.pth_model.specs.Row.{effect_of, refuses, unless_refused}
use Rattle.pth_model.specs.Rows.{row_of}
use Rattle.pth_model.specs.State.{State, Control, once_limit}
use Rattle.pth_model.specs.Transition.{Transition, Went, controlled, changes, silent, tells, tid, where_so, ◌and_then◌, ◌and_next◌, ◌and_finally◌}
use Rattle.pth_model.specs.declared.verdict.Verdict.{Verdict}
use Rattle.pth_model.specs.declared.verdict.Verdict.TheVariants.{Says}
use Rattle.pth_model.specs.Verdict.{by_result, done, refused, says}
use Rattle.pth_numbered.specs.Clauses.{◌when◌otherwise◌}
use Rattle.pth_numbered.specs.Operands.{number, is_below, is_zero}
use Rattle.pth_store.specs.Cleanups.{PushedHandler, push_answer, top_taken, with_top}
use Rattle.pth_store.specs.Keys.{created, deleted, key_create_answer, key_delete_answer, key_named}
use Rattle.pth_store.specs.Storing.{AnswersWithMemory}
use Rattle.pth_world.proofs.Telling.{has_still, Tells}
use Rattle.pth_world.specs.Leading.{IsQuiet, IsTold}
use Rattle.pth_world.specs.Shows.{Shows, StandsFor}
use Rattle.pth_world.specs.Store.{store_of}
use Rattle.pth_world.specs.World.{WorldOf}
use Rattle.pth_end.specs.Saying.{SaysRefusal}
use Rattle.pth_end.proofs.Chains.{cut_one}
use Rattle.pth_end.proofs.Acting.{DoneTells, done_told, memory_done, memory_refused, refused_tells, stored_by, stored_told}
use Rattle.pth_base.specs.declared.memory.OutOfMemory.{OutOfMemory}
use Rattle.pth_base.specs.declared.refusal.Refusal.{Refusal}

module _ {P S H : Type 0} (w v : WorldOf P S H) where
  -- a key is made
  pub created_tells : (t : Tid) (d : Option ℤ) (key : ℕ) → store_of v.store ≡ with_keys (created key (destructor_by d)) (store_of w.store) → Tells w (Answered t (call.KeyCreate d) (Int (pos key))) v
  unfolding told answer_told
  created_tells t d key changes k has = ap (with_keys (created key (destructor_by d))) has ∙ sym changes

  -- a handler is taken
  pub popped_tells : (t : Tid) (x : ℤ) → store_of v.store ≡ with_cleanups (top_taken t.0) (store_of w.store) → Tells w (Answered t (call.CleanupPop x) (Int (pos 1))) v
  unfolding told answer_told
  popped_tells t x changes k has = ap (with_cleanups (top_taken t.0)) has ∙ sym changes

-- ---- the single calls

module _ {P S H : Type 0} (w v : WorldOf P S H) (t : Tid) (shows : (k : Control P S H) → Shows w k → Shows v k) where
  pub created_told : (d : Option ℤ) (key : ℕ) (n : ℤ) → n ≡ pos key → Ok key ≡ key_create_answer (store_of w.store).keys → store_of v.store ≡ with_keys (created key (destructor_by d)) (store_of w.store) → IsTold w v (Answered t (call.KeyCreate d) (Int n)) (Int n) (λ s. (key_create s).begin)
  created_told d key n number is changes = subst (λ (x : ℤ). IsTold w v (Answered t (call.KeyCreate d) (Int x)) (Int x) (λ s. (key_create s).begin)) (sym number)
      (stored_told w v (Answered t (call.KeyCreate d) (Int (pos key))) (Int (pos key)) (λ s. by_result says (key_create_answer s.resources.store.keys)) (stored_by w v t shows (λ x. by_result says (key_create_answer x.keys)) _ (ap (by_result says) (sym is))) shows (created_tells w v t d key changes))

  pub create_refused : (d : Option ℤ) (e : Errno) → Err e ≡ key_create_answer (store_of w.store).keys → v ≡ w → IsTold w v (Answered t (call.KeyCreate d) (Fail e)) (Fail e) (λ s. (key_create s).begin)
  create_refused d e is same = stored_told w v (Answered t (call.KeyCreate d) (Fail e)) (Fail e) (λ s. by_result says (key_create_answer s.resources.store.keys)) (stored_by w v t shows (λ x. by_result says (key_create_answer x.keys)) _ (ap (by_result says) (sym is))) shows (refused_tells w v t (call.KeyCreate d) e refl same)

  -- a key is deleted, or not
  pub deleted_told : (k : ℤ) (r : Result (Unit {0}) Errno) (a : Answer) → r ≡ key_delete_answer (store_of w.store).keys k → by_result done r ≡ Says a → OnOk r (store_of v.store ≡ with_keys (deleted (key_named k)) (store_of w.store)) → OnErr r (v ≡ w) → IsTold w v (Answered t (call.KeyDelete k) a) a (λ s. (key_delete s k).begin)
  unfolding told answer_told
  deleted_told k = done_told w v t shows (call.KeyDelete k) (λ x. key_delete_answer x.keys k) (with_keys (deleted (key_named k))) (λ x. refl) refl

  -- a mutex is initialised, or not; and so a lock
  pub mutex_initialised_told : (m : ℤ) (r : Result (Unit {0}) Errno) (a : Answer) → r ≡ mutex_init_answer (store_of w.store).mutexes m → by_result done r ≡ Says a → OnOk r (store_of v.store ≡ with_mutexes (mutex_initialised (object_named m)) (store_of w.store)) → OnErr r (v ≡ w) → IsTold w v (Answered t (call.MutexInit m) a) a (λ s. (mutex_init s m).begin)
  unfolding told answer_told
  mutex_initialised_told m = done_told w v t shows (call.MutexInit m) (λ x. mutex_init_answer x.mutexes m) (with_mutexes (mutex_initialised (object_named m))) (λ x. refl) refl

  pub lock_initialised_told : (l : ℤ) (r : Result (Unit {0}) Errno) (a : Answer) → r ≡ lock_init_answer (store_of w.store).rw_locks l → by_result done r ≡ Says a → OnOk r (store_of v.store ≡ with_rw_locks (lock_initialised (object_named l)) (store_of w.store)) → OnErr r (v ≡ w) → IsTold w v (Answered t (call.RwInit l) a) a (λ s. (rw_init s l).begin)
  unfolding told answer_told
  lock_initialised_told l = done_told w v t shows (call.RwInit l) (λ x. lock_init_answer x.rw_locks l) (with_rw_locks (lock_initialised (object_named l))) (λ x. refl) refl

  -- a lock is released, or not
  pub lock_released_told : (l : ℤ) (r : Result (Unit {0}) Errno) (a : Answer) → r ≡ lock_release_answer (store_of w.store).rw_locks t.0 l → by_result done r ≡ Says a → OnOk r (store_of v.store ≡ with_rw_locks (lock_released t.0 (object_named l)) (store_of w.store)) → OnErr r (v ≡ w) → IsTold w v (Answered t (call.RwRelease l) a) a (λ s. (rw_release s t.0 l).begin)
  unfolding told answer_told
  lock_released_told l = done_told w v t shows (call.RwRelease l) (λ x. lock_release_answer x.rw_locks t.0 l) (with_rw_locks (lock_released t.0 (object_named l))) (λ x. refl) refl

  module _ (f : P → Functions S H) (h x : ℤ) where
    abbrev pushed : Store → Store
    pushed = with_cleanups (with_top t.0 (handler h, x))

    push_tells : DoneTells t (call.CleanupPush h x) pushed
    unfolding told answer_told
    push_tells y = refl

    pub push_done : (u : Unit {0}) → AnswersWithMemory (push_answer (store_of w.store).cleanups t.0) (Ok u) → store_of v.store ≡ pushed (store_of w.store) → IsTold w v (Answered t (call.CleanupPush h x) (Int (pos 1))) (Int (pos 1)) (λ s. (cleanup_push f s t.0).begin)
    push_done = memory_done w v t shows (call.CleanupPush h x) (λ y. push_answer y.cleanups t.0) pushed push_tells refl

    pub push_refused : (e : Refusal) (r : Result Answer OutOfMemory) → AnswersWithMemory (push_answer (store_of w.store).cleanups t.0) (Err e) → IfOk r (λ a. SaysRefusal e a) → v ≡ w → IfOk r (λ a. IsTold w v (Answered t (call.CleanupPush h x) a) a (λ s. (cleanup_push f s t.0).begin))
    push_refused = memory_refused w v t shows (call.CleanupPush h x) (λ y. push_answer y.cleanups t.0) pushed push_tells refl

-- a value that is read changes nothing
pub quiet_get : (t : Tid) (k : ℤ) (a : Answer) → IsQuiet (Answered t (call.KeyGet k) a)
unfolding told answer_told
quiet_get t k a = λ x. refl

-- a pop's operand is not 0
pub is_not_zero : (v : ℤ) → v ≢ pos 0 → not (is_zero v) ≡ true
is_not_zero (pos n) other = ap not (not_same n 0 (λ is. other (ap pos is)))
is_not_zero (negsuc n) other = refl

-- ---- pth_cleanup_pop

module _ {P S H : Type 0} (f : P → Functions S H) (s : State P S H) (t : ℕ) (v : ℤ) where
  abbrev pop_by : Option PushedHandler → Went P S H
  pop_by o =
      let x : Verdict = refused EINVAL when is_none o otherwise says 1 in
      (unless_refused (refuses x) (where_so (not (is_zero v)) (runs_pushed f t o)) and_finally begun_by f t (call.CleanupPop v) x) s

  pub pop_refused : last_pushed f s t ≡ None → begun f t (call.CleanupPop v) s ≡ (tells (Answered (tid t) (call.CleanupPop v) (Fail EINVAL)) and_next next.Done (Fail EINVAL)) s
  unfolding begun row_of
  pop_refused none = ap pop_by none

  pub pop_runs : (c : PushedHandler) → last_pushed f s t ≡ Some c → begun f t (call.CleanupPop v) s ≡ (where_so (not (is_zero v)) (runs_handler f t c.0 c.1) and_then tells (Answered (tid t) (call.CleanupPop v) (Int (pos 1))) and_next next.Done (Int (pos 1))) s
  unfolding begun row_of
  pop_runs c some = ap pop_by some

-- ---- pth_once

-- what a control is answered, by whether there is one and whether it was used
pub is_first : (known used : Bool) → Ok true ≡ (if known then Ok (not used) else Err EINVAL) → (known ≡ true) × (used ≡ false)
is_first true false h = (refl, refl)
is_first true true h = absurd (cc h)
is_first false used h = absurd (cc h)

pub is_again : (known used : Bool) → Ok false ≡ (if known then Ok (not used) else Err EINVAL) → (known ≡ true) × (used ≡ true)
is_again true true h = (refl, refl)
is_again true false h = absurd (cc h)
is_again false used h = absurd (cc h)

pub is_none_such : (known used : Bool) (e : Errno) → Err e ≡ (if known then Ok (not used) else Err EINVAL) → (known ≡ false) × (e ≡ EINVAL)
is_none_such true used e h = absurd (cc h)
is_none_such false used e h = let same : e ≡ EINVAL = cc in (refl, same)

module _ {P S H : Type 0} (f : P → Functions S H) (s : State P S H) (t : ℕ) (o h v : ℤ) where
  abbrev verdict_by : Bool → Verdict
  verdict_by known = refused EINVAL when not known otherwise says 1

  abbrev effect_by : Bool → Bool → Transition P S H
  effect_by known used = unless_refused (refuses (verdict_by known)) (where_so (not used) (changes (uses (number o)) and_then runs_handler f t (handler h) v)) s

  pub no_verdict : is_below o once_limit ≡ false → (once f s t o h v).begin.verdict ≡ refused EINVAL
  no_verdict unknown = ap verdict_by unknown

  pub first_effect : is_below o once_limit ≡ true → s.control.used (number o) ≡ false → effect_of (once f s t o h v).begin s ≡ (changes (uses (number o)) and_then runs_handler f t (handler h) v) s
  first_effect known used = ap (λ (b : Bool). effect_by b (s.control.used (number o))) known ∙ ap (effect_by true) used

  pub again_effect : is_below o once_limit ≡ true → s.control.used (number o) ≡ true → effect_of (once f s t o h v).begin s ≡ silent s
  again_effect known used = ap (λ (b : Bool). effect_by b (s.control.used (number o))) known ∙ ap (effect_by true) used

  pub no_effect : is_below o once_limit ≡ false → effect_of (once f s t o h v).begin s ≡ silent s
  no_effect unknown = ap (λ (b : Bool). effect_by b (s.control.used (number o))) unknown

  pub once_begun : (a : Answer) → (once f s t o h v).begin.verdict ≡ Says a → begun f t (call.Once o h v) s ≡ (effect_of (once f s t o h v).begin and_then tells (Answered (tid t) (call.Once o h v) a) and_next next.Done a) s
  unfolding begun row_of
  once_begun a is = ap (λ (x : Verdict). (effect_of (once f s t o h v).begin and_finally begun_by f t (call.Once o h v) x) s) is

  -- a row of pth_once says its count, or that there is no such control
  abbrev said_by : Bool → Answer
  said_by true = Int (pos 1)
  said_by false = Fail EINVAL

  once_says : (known : Bool) → verdict_by known ≡ Says (said_by known)
  once_says true = refl
  once_says false = refl

  pub once_cut : {old new : List Mark} → IsCut old new (effect_of (once f s t o h v).begin s).marks → IsCut old new (begun f t (call.Once o h v) s).told.marks
  once_cut {old} {new} cut =
      let a = said_by (is_below o once_limit) in
      let is = once_begun a (once_says (is_below o once_limit)) in
      subst (λ (x : Went P S H). IsCut old new x.told.marks) (sym is) (cut_one s (effect_of (once f s t o h v).begin) (tells (Answered (tid t) (call.Once o h v) a)) old new cut)

pub use_stands : {P S H : Type 0} (w v : WorldOf P S H) (s : State P S H) (o : ℕ) → Shows v (uses o s.control) → v.store ≡ w.store → StandsFor w s → StandsFor v (controlled (uses o) s)
use_stands w v s o shows stored st = record { control = shows; store = has_still w v s stored st.store }

-- that a control is used is told by no resource
pub quiet_once : (t : Tid) (o h v : ℤ) (a : Answer) → IsQuiet (Answered t (call.Once o h v) a)
unfolding told answer_told
quiet_once t o h v a = λ x. refl
