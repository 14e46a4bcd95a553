-- Attempts to have a mutex or a lock.
use Rattle.std.proofs.Common.{◌≡◌, ◌≢◌, ◌∙◌, ◌||◌, ◌&&◌, not, ℕ, ℤ, pos, Bool, true, false, is_none, is_ok, Option, Some, None, Result, Ok, Err, IfOk, if◌then◌else◌, refl, sym, ap, subst}
use Rattle.pth_model.specs.Awaits.{is_await}
use Rattle.pth_base.specs.declared.answer.Answer.TheVariants.{Int}
use Rattle.pth_base.specs.declared.call.Call.{Call}
use Rattle.pth_base.specs.declared.call.Call.TheVariants.{MutexAcquire, RwAcquire}
use Rattle.pth_base.specs.declared.errno.Errno.{Errno}
use Rattle.pth_base.specs.declared.errno.Errno.TheVariants.{EINVAL, EBUSY, EDEADLK}
use Rattle.pth_base.specs.declared.mark.Mark.TheVariants.{Answered}
use Rattle.pth_base.specs.declared.memory.OutOfMemory.{OutOfMemory}
use Rattle.pth_lock.specs.Mutexes.{Mutex, mutex_take_answer, mutex_taken, owner_of, take_answer}
use Rattle.pth_lock.specs.Objects.{object_named}
use Rattle.pth_lock.specs.RwLocks.{holds, lock_take_answer, lock_taken}
use Rattle.pth_model.specs.declared.awaits.Awaits.{Awaits}
use Rattle.pth_model.specs.declared.verdict.Verdict.{Verdict}
use Rattle.pth_model.specs.declared.verdict.Verdict.TheVariants.{Blocks}
use Rattle.pth_model.specs.Resources.{answer_told, told}
use Rattle.pth_model.specs.Store.{Store, with_mutexes, with_rw_locks}
use Rattle.pth_model.specs.RingWaits.{is_claimed_ring, is_no_ring}
use Rattle.pth_model.specs.Row.{◌trying◌}
use Rattle.pth_model.specs.Rwlocks.{is_lock, is_open, lets_in}
use Rattle.pth_model.specs.State.{State}
use Rattle.pth_model.specs.Transition.{silent, tid}
use Rattle.pth_model.specs.Verdict.{refused, says, taken_or}
use Rattle.pth_numbered.specs.Clauses.{◌when◌otherwise◌}
use Rattle.pth_world.proofs.StateOf.{stands_for_state}
use Rattle.pth_world.specs.Keeps.{KeepsAllButStore}
use Rattle.pth_world.specs.Leading.{Attempts, IsReady, MayComeTo, StandsOnce, Tries}
use Rattle.pth_world.proofs.Telling.{Tells}
use Rattle.pth_world.specs.Shows.{StandsFor}
use Rattle.pth_world.specs.Sound.{IsSound}
use Rattle.pth_world.specs.StateOf.{state_of}
use Rattle.pth_world.specs.Store.{store_of}
use Rattle.pth_world.specs.WellFormed.{MayAwaitAs}
use Rattle.pth_world.specs.World.{WorldOf}
use Rattle.pth_waits.proofs.Attempting.{none_ready, quiet_attempts, quiet_tries, refused_ready}

-- ---- what is taken

abbrev pub mutex_taking : ℕ → ℤ → Store → Result (Unit {0}) Errno
mutex_taking t m x = mutex_take_answer x.mutexes t m

abbrev pub lock_taking : ℕ → ℤ → Bool → Store → Result (Unit {0}) Errno
lock_taking t l write x = lock_take_answer x.rw_locks t write l

-- an error other than EBUSY is the answer
pub others_refused : (e : Errno) (v : Verdict) → e ≢ EBUSY → taken_or (Err e) v ≡ refused e
others_refused EBUSY v other = absurd (other refl)
others_refused e v other = refl

-- a mutex that is free is not refused
free_taken : (t : ℕ) (m : Mutex) → (not (is_none m) && is_none (owner_of m)) ≡ true → is_ok (take_answer t m) ≡ true
free_taken t (Some None) free = refl
free_taken t (Some (Some o)) free = absurd (cc free)
free_taken t None free = absurd (cc free)

pub free_refused : (x : Store) (t : ℕ) (m : ℤ) (r : Result (Unit {0}) Errno) → (not (is_none (x.mutexes (object_named m))) && is_none (owner_of (x.mutexes (object_named m)))) ≡ true → r ≡ mutex_taking t m x → is_ok r ≡ false → ⊥
free_refused x t m r free is none = cc (sym (free_taken t (x.mutexes (object_named m)) free) ∙ ap (λ (y : Result (Unit {0}) Errno). is_ok y) (sym is) ∙ none)

abbrev entered_by : (known held let_in : Bool) → Result (Unit {0}) Errno
entered_by known held let_in = if not known then Err EINVAL else if held then Err EDEADLK else if not let_in then Err EBUSY else Ok tt

is_entered : (known held let_in : Bool) → is_ok (entered_by known held let_in) ≡ ((known && let_in) && not held)
is_entered false held let_in = refl
is_entered true true true = refl
is_entered true true false = refl
is_entered true false true = refl
is_entered true false false = refl

module _ {P S H : Type 0} where
  -- a lock is open, and t does not hold it
  abbrev pub may_take_lock : ℕ → ℤ → Bool → State P S H → Bool
  may_take_lock t l write s = is_open s write l && not (holds s.resources.store.rw_locks t (object_named l))

  -- a lock is taken if t may take it
  pub lock_taken_if : (w : WorldOf P S H) (s : State P S H) → StandsFor w s → (t : ℕ) (l : ℤ) (write : Bool) (r : Result (Unit {0}) Errno) → r ≡ lock_taking t l write (store_of w.store) → may_take_lock t l write s ≡ is_ok r
  lock_taken_if w s st t l write r is =
      sym (is_entered (is_lock s l) (holds s.resources.store.rw_locks t (object_named l)) (lets_in s write l))
      ∙ ap (λ (x : Result (Unit {0}) Errno). is_ok x) (ap (lock_taking t l write) st.store ∙ sym is)

-- ---- what the answer tells

module _ {P S H : Type 0} (w v : WorldOf P S H) (t : ℕ) (keeps : KeepsAllButStore w v) (s : State P S H) (st : StandsFor w s) where
  stands_once : (c : Call) → Tells w (Answered (tid t) c (Int (pos 1))) v → StandsOnce v (Answered (tid t) c (Int (pos 1))) s
  stands_once c tells = record { control = keeps.shows s.control st.control; store = tells s.resources st.store }

  -- t has one level more of a mutex
  pub mutex_ready : (m b e : ℤ) (ring : Option ℤ) → store_of v.store ≡ with_mutexes (mutex_taken t (object_named m)) (store_of w.store) → IsReady v t (MutexAcquire m b e) ring (says 1) s
  unfolding told answer_told
  mutex_ready m b e ring changes = stands_once (MutexAcquire m b e) (λ k has. ap (with_mutexes (mutex_taken t (object_named m))) has ∙ sym changes)

  -- t has entered a lock
  pub lock_ready : (l : ℤ) (write : Bool) (b e : ℤ) (ring : Option ℤ) → store_of v.store ≡ with_rw_locks (lock_taken t write (object_named l)) (store_of w.store) → IsReady v t (RwAcquire l write b e) ring (says 1) s
  unfolding told answer_told
  lock_ready l write b e ring changes = stands_once (RwAcquire l write b e) (λ k has. ap (with_rw_locks (lock_taken t write (object_named l))) has ∙ sym changes)

-- ---- how such a call begins, and how it is tried again

-- if it blocks its thread, it waits for this
may_come : (t : ℕ) (c : Call) (a : Awaits) (none busy : Bool) (r : Result (Unit {0}) Errno) → MayAwaitAs t c a → MayComeTo t c (refused EINVAL when none otherwise taken_or r (refused EBUSY when busy otherwise Blocks a))
may_come t c a true busy r may = tt
may_come t c a false busy (Ok u) may = tt
may_come t c a false true (Err EBUSY) may = tt
may_come t c a false false (Err EBUSY) may = may
may_come t c a false busy (Err e) may = tt

module _ {P S H : Type 0} (t : ℕ) (c : Call) (a : Awaits) (may : MayAwaitAs t c a) (other : is_await c ≡ false) (w : WorldOf P S H) where
  module _ (sound : IsSound w.threads) (ring : Option ℤ) (take : Store → Result (Unit {0}) Errno) (only_tries : Bool) where
    -- another has what the call wants
    abbrev pub turned_away : State P S H → Verdict
    turned_away s = refused EBUSY when only_tries || is_claimed_ring s ring otherwise Blocks a

    abbrev pub acquiring : State P S H → Verdict
    acquiring s = refused EINVAL when is_no_ring s ring otherwise taken_or (take s.resources.store) (turned_away s)

    attempts_by : (v : WorldOf P S H) (x : Verdict) → ((s : State P S H) → StandsFor w s → acquiring s ≡ x) → ((s : State P S H) → StandsFor w s → IsReady v t c ring x s) → Attempts false w v t c ring (λ s. acquiring s trying silent) x
    attempts_by v x is ready =
        let s = state_of w in
        quiet_attempts false w v t c ring (λ s. acquiring s trying silent) x (λ s. refl) is ready
        (subst (MayComeTo t c) (is s (stands_for_state w sound)) (may_come t c a (is_no_ring s ring) (only_tries || is_claimed_ring s ring) (take s.resources.store) may))

    -- its ring is none
    pub without_ring : ((s : State P S H) → StandsFor w s → is_no_ring s ring ≡ true) → Attempts false w w t c ring (λ s. acquiring s trying silent) (refused EINVAL)
    without_ring none =
        attempts_by w (refused EINVAL)
        (λ s st. ap (λ (b : Bool). refused EINVAL when b otherwise taken_or (take s.resources.store) (turned_away s)) (none s st))
        (λ s st. refused_ready w t c ring EINVAL s other st)

    -- else it comes to what follows from what it is answered as it takes what it wants
    pub by_taking : (v : WorldOf P S H) (x : Verdict) (r : Result (Unit {0}) Errno) → ((s : State P S H) → StandsFor w s → is_no_ring s ring ≡ false) → r ≡ take (store_of w.store) → ((s : State P S H) → StandsFor w s → taken_or r (turned_away s) ≡ x) → ((s : State P S H) → StandsFor w s → IsReady v t c ring x s) → Attempts false w v t c ring (λ s. acquiring s trying silent) x
    by_taking v x r some is comes ready =
        attempts_by v x
        (λ s st. ap (λ (b : Bool). refused EINVAL when b otherwise taken_or (take s.resources.store) (turned_away s)) (some s st)
        ∙ ap (λ (y : Result (Unit {0}) Errno). taken_or y (turned_away s)) (ap take st.store ∙ sym is)
        ∙ comes s st)
        ready

    -- and to what is found as it is turned away, unless memory is wanting
    pub by_turning : (v : WorldOf P S H) (y : Result Verdict OutOfMemory) (r : Result (Unit {0}) Errno) → ((s : State P S H) → StandsFor w s → is_no_ring s ring ≡ false) → r ≡ take (store_of w.store)
        → IfOk y (λ x. (s : State P S H) → StandsFor w s → is_no_ring s ring ≡ false → taken_or r (turned_away s) ≡ x) → IfOk y (λ x. (d : Call) (s : State P S H) → is_await d ≡ false → StandsFor w s → IsReady v t d ring x s)
        → IfOk y (λ x. Attempts false w v t c ring (λ s. acquiring s trying silent) x)
    by_turning v (Ok x) r some is comes ready = by_taking v x r some is (λ s st. comes s st (some s st)) (λ s st. ready c s other st)
    by_turning v (Err o) r some is comes ready = tt

  module _ (b : Awaits) (free : State P S H → Bool) where
    abbrev pub acquiring_again : State P S H → Verdict
    acquiring_again s = says 1 when free s otherwise Blocks a

    -- it may have what it wants
    pub has_again : (v : WorldOf P S H) → ((s : State P S H) → StandsFor w s → free s ≡ true) → ((s : State P S H) → StandsFor w s → IsReady v t c None (says 1) s) → KeepsAllButStore w v → Tries w v t (record { call = c; awaits = b }) (λ s. acquiring_again s trying silent) (says 1)
    has_again v is ready keeps =
        quiet_tries w v t (record { call = c; awaits = b }) (λ s. acquiring_again s trying silent) (says 1) (λ s. refl)
        (λ s st. ap (λ (o : Bool). says 1 when o otherwise Blocks a) (is s st))
        ready tt (ap (λ (z : WorldOf P S H). z.threads) keeps.same)

    -- it waits on
    pub waits_again : ((s : State P S H) → StandsFor w s → free s ≡ false) → Tries w w t (record { call = c; awaits = b }) (λ s. acquiring_again s trying silent) (Blocks a)
    waits_again is =
        quiet_tries w w t (record { call = c; awaits = b }) (λ s. acquiring_again s trying silent) (Blocks a) (λ s. refl)
        (λ s st. ap (λ (o : Bool). says 1 when o otherwise Blocks a) (is s st))
        (λ s st. none_ready w t c a s other st) may refl
