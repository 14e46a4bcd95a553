-- Who is blocked waits for a mutex or a lock that is there, and holds no lock for which it waits; and who waits at a condition has
-- fewer levels of its mutex than it may have.
use Rattle.std.proofs.Common.{◌≡◌, ◌≢◌, ◌<◌, ◌≤◌, ℕ, zero, suc, ◌+◌, ◌-◌, ◌==◌, ◌&&◌, not, Bool, true, false, if◌then◌else◌, ℤ, pos, Option, Some, None, is_some, is_none, option_map, refl, sym, subst, ◌∙◌, ap, inr, Ok, Err, is_ok, arith}
use Rattle.std.proofs.lemmas.Bool.Decides.{nat_tests}
use Rattle.std.proofs.lemmas.Bool.{true≢false, or_parts, or_from}
use Rattle.std.proofs.lemmas.Option.{none-some}
use Rattle.pth_base.specs.Program.{Functions}
use Rattle.pth_base.specs.Table.{put}
use Rattle.pth_base.specs.declared.act.Act.TheVariants as act
use Rattle.pth_base.specs.declared.answer.Answer.{Answer}
use Rattle.pth_base.specs.declared.answer.Answer.TheVariants as answer
use Rattle.pth_base.specs.declared.call.Call.{Call}
use Rattle.pth_base.specs.declared.call.Call.TheVariants as call
use Rattle.pth_base.specs.declared.errno.Errno.TheVariants.{EAGAIN, EBUSY}
use Rattle.pth_base.specs.declared.mark.Mark.{Mark}
use Rattle.pth_base.specs.declared.mark.Mark.TheVariants as mark
use Rattle.pth_base.proofs.Tables.{put_by, put_here, not_same}
use Rattle.pth_cond.specs.Conditions.{seat_entered}
use Rattle.pth_model.specs.Conditions.{seat_of}
use Rattle.pth_cond.specs.Barriers.{barrier_reached}
use Rattle.pth_lock.specs.Objects.{object_named}
use Rattle.pth_lock.specs.Mutexes.{Mutex, MutexTable, free_mutex, owner_of, mutex_with, levels_of, level_limit, take_answer, has, is_anothers}
use Rattle.pth_lock.specs.RwLocks.{LockTables, holds, is_one, lock_initialised, lock_released, lock_taken}
use Rattle.pth_threads.specs.declared.entry.Change as change_of_record
use Rattle.pth_model.specs.declared.awaits.Awaits.{Awaits}
use Rattle.pth_model.specs.declared.awaits.Awaits.TheVariants as awaits
use Rattle.pth_model.specs.declared.awaits.Retake.{Retake}
use Rattle.pth_model.specs.declared.blocked.Blocked.{Blocked}
use Rattle.pth_model.specs.declared.progress.Progress.{Progress}
use Rattle.pth_model.specs.declared.verdict.Verdict.TheVariants.{Blocks}
use Rattle.pth_model.specs.Coming.{has_come}
use Rattle.pth_model.specs.Resources.{on_one, on_int, on_msg, told, answer_told, act_told, retaken, let_go}
use Rattle.pth_model.specs.Kill.{of_only}
use Rattle.pth_model.specs.Store.{Resources}
use Rattle.pth_model.specs.State.{State, Given, start, main}
use Rattle.pth_model.specs.Transition.{controlled, tells, tid}
use Rattle.pth_model.specs.Changes.{sets, goes_on, blocking, is_blocked_by, makes, forgets, with_conditions, with_barriers, blocked_in, blocked_of}
use Rattle.pth_model.specs.Verdict.{says}
use Rattle.pth_numbered.specs.Clauses.{◌when◌otherwise◌}
use Rattle.pth_model.specs.RingWaits.{claims, extra_ring, gives_back, ring_given, ring_held, stops_waiting}
use Rattle.pth_model.specs.Mutexes.{mutex}
use Rattle.pth_model.specs.Rows.{row_of}
use Rattle.pth_model.specs.Rwlocks.{is_lock, lets_in}
use Rattle.pth_model.specs.ThreadControl.{values_for, or_first}
use Rattle.pth_model.specs.LibraryControl.{vanish_all_but}
use Rattle.pth_model.specs.Pass.{looks}
use Rattle.pth_model.specs.Calls.{blocks}
use Rattle.pth_model.specs.Run.{run}
use Rattle.pth_laws.specs.Waits.{WaitsRightly, Names, AllWaitRightly, AsksNoMore, AllAskNoMore}
use Rattle.pth_laws.proofs.Held.{out_released, out_left, out_only}
use Rattle.pth_laws.proofs.Allowed.{IsTaking, IsToTell, MayBegin, MayWait}
use Rattle.pth_laws.proofs.Along.{KeptAlong, is_placing, run_keeps}
use Rattle.pth_laws.proofs.Levels.{IsWithin, TakesWithin, told_within, levels_with}

-- what is initialised stays so, and who is out of a lock stays out: thread u, from tables x and y to tables z and w
pub record StaysOut (u : ℕ) (x : MutexTable) (y : LockTables) (z : MutexTable) (w : LockTables) : Type 0 where
  pub mutexes : (m : ℕ) → is_some (x m) ≡ true → is_some (z m) ≡ true
  pub locks : (l : ℕ) → y.initialised l ≡ true → w.initialised l ≡ true
  pub out : (l : ℕ) → holds y u l ≡ false → holds w u l ≡ false

abbrev Stays : ℕ → Resources → Resources → Type 0
Stays u k j = StaysOut u k.store.mutexes k.store.rw_locks j.store.mutexes j.store.rw_locks

-- a mark by which u enters no lock
abbrev pub EntersNot : ℕ → Mark → Type 0
EntersNot u (mark.Answered t (call.RwAcquire l write v e) (answer.Int n)) = u ≢ t.0
EntersNot u m = Unit {0}

mutex_there : (t n : ℕ) → is_some (mutex_with t n) ≡ true
mutex_there t n = by_test (n == 0)
  where
    by_test : (b : Bool) → is_some (if b then free_mutex else Some (Some (record { owner = t; levels = n }))) ≡ true
    by_test true = refl
    by_test false = refl

-- ---- changes of the tables

module _ (u : ℕ) (x : MutexTable) (y : LockTables) where
  same_tables : StaysOut u x y x y
  same_tables = record { mutexes = λ m h. h; locks = λ l h. h; out = λ l h. h }

  with_mutex : (z : MutexTable) → ((m : ℕ) → is_some (x m) ≡ true → is_some (z m) ≡ true) → StaysOut u x y z y
  with_mutex z there = record { mutexes = there; locks = λ l h. h; out = λ l h. h }

  -- a mutex is put that is there
  stays_put : (m : ℕ) (z : Mutex) → is_some z ≡ true → StaysOut u x y (put x m z) y
  stays_put m z there = with_mutex (put x m z) (λ i h. put_by (λ o. is_some o ≡ true) x m z i (λ here. there) (λ other. h))

  free_or : (b : Bool) (o : Mutex) → is_some o ≡ true → is_some (if b then free_mutex else o) ≡ true
  free_or true o h = refl
  free_or false o h = h

  stays_initialised : (l : ℕ) → StaysOut u x y x (lock_initialised l y)
  stays_initialised l = record { mutexes = λ m h. h; locks = λ i h. put_by (λ (b : Bool). b ≡ true) y.initialised l true i (λ here. refl) (λ other. h); out = λ i h. h }

  stays_released : (t l : ℕ) → StaysOut u x y x (lock_released t l y)
  stays_released t l = record { mutexes = λ m h. h; locks = λ i h. h; out = λ i h. out_released u y i t l h }

  -- another one enters
  stays_taken : (t : ℕ) (write : Bool) (l : ℕ) → u ≢ t → StaysOut u x y x (lock_taken t write l y)
  stays_taken t true l apart = record {
    mutexes = λ m h. h;
    locks = λ i h. h;
    out = λ i h.
        let was = or_parts (is_one u (y.writer i)) (y.reads i u) h in
        or_from _ _ (put_by (λ o. is_one u o ≡ false) y.writer l (Some t) i (λ here. not_same t u (λ same. apart (sym same))) (λ other. was.0)) was.1;
  }
  stays_taken t false l apart = record {
    mutexes = λ m h. h;
    locks = λ i h. h;
    out = λ i h.
        let was = or_parts (is_one u (y.writer i)) (y.reads i u) h in
        or_from _ _ was.0 (put_by (λ (r : ℕ → Bool). r u ≡ false) y.reads l (put (y.reads l) t true) i
        (λ here. put_by (λ (b : Bool). b ≡ false) (y.reads l) t true u (λ same. absurd (apart same)) (λ other. ap (λ (j : ℕ). y.reads j u) (sym here) ∙ was.1))
        (λ other. was.1));
  }

-- ---- marks

module _ (u : ℕ) (k : Resources) where
  stays_same : Stays u k k
  stays_same = same_tables u k.store.mutexes k.store.rw_locks

  stays_one : (a : Answer) (g : Resources) → Stays u k g → Stays u k (on_one a k g)
  stays_one (answer.Int (pos (suc zero))) g h = h
  stays_one a g h = stays_same

  stays_int : (a : Answer) (g : ℤ → Resources) → ((n : ℤ) → Stays u k (g n)) → Stays u k (on_int a k g)
  stays_int (answer.Int n) g h = h n
  stays_int a g h = stays_same

  stays_msg : (a : Answer) (g : Resources) → Stays u k g → Stays u k (on_msg a k g)
  stays_msg (answer.Msg id v) g h = h
  stays_msg a g h = stays_same

  stays_at : (m t n : ℕ) → StaysOut u k.store.mutexes k.store.rw_locks (put k.store.mutexes m (mutex_with t n)) k.store.rw_locks
  stays_at m t n = stays_put u k.store.mutexes k.store.rw_locks m (mutex_with t n) (mutex_there t n)

  took_back : (t m : ℕ) (b : Bool) → Stays u k (if b then retaken k t m else k)
  took_back t m true = stays_at m t (levels_of t (k.store.mutexes m) + 1)
  took_back t m false = stays_same

  gave_back : (t m : ℕ) (b : Bool) → Stays u k (if b then k else let_go k t m)
  gave_back t m true = stays_same
  gave_back t m false = stays_at m t _

  only_stays : (t : ℕ) → Stays u k (of_only t k)
  only_stays t = record {
    mutexes = λ m h. free_or u k.store.mutexes k.store.rw_locks (is_anothers t (k.store.mutexes m)) (k.store.mutexes m) h;
    locks = λ l h. h;
    out = λ l h. out_only u k.store.rw_locks l t h;
  }

  answer_stays : (t : ℕ) (c : Call) (a : Answer) → EntersNot u (mark.Answered (record { 0 = t }) c a) → Stays u k (answer_told k t c a)
  unfolding answer_told
  answer_stays t (call.CleanupPush h v) a other = stays_one a _ stays_same
  answer_stays t (call.CleanupPop v) a other = stays_one a _ stays_same
  answer_stays t (call.KeyCreate h) a other = stays_int a _ (λ n. stays_same)
  answer_stays t (call.KeyDelete key) a other = stays_one a _ stays_same
  answer_stays t (call.KeySet key v) a other = stays_one a _ stays_same
  answer_stays t (call.MutexInit m) a other = stays_int a _ (λ n. stays_put u k.store.mutexes k.store.rw_locks (object_named m) free_mutex refl)
  answer_stays t (call.MutexAcquire m v e) a other = stays_int a _ (λ n. stays_at (object_named m) t _)
  answer_stays t (call.MutexRelease m) a other = stays_int a _ (λ n. stays_at (object_named m) t _)
  answer_stays t (call.RwInit l) a other = stays_int a _ (λ n. stays_initialised u k.store.mutexes k.store.rw_locks (object_named l))
  answer_stays t (call.RwAcquire l write v e) (answer.Int n) other = stays_taken u k.store.mutexes k.store.rw_locks t write (object_named l) other
  answer_stays t (call.RwAcquire l write v e) a other = stays_same
  answer_stays t (call.RwRelease l) a other = stays_int a _ (λ n. stays_released u k.store.mutexes k.store.rw_locks t (object_named l))
  answer_stays t (call.CondAwait c m e) a other = took_back t (object_named m) (k.awaits t)
  answer_stays t (call.PortCreate name) a other = stays_int a _ (λ n. stays_same)
  answer_stays t (call.PortPut p v r) a other = stays_int a _ (λ n. stays_same)
  answer_stays t (call.PortGet p) a other = stays_msg a _ stays_same
  answer_stays t (call.Reply m v) a other = stays_int a _ (λ n. stays_same)
  answer_stays t (call.PortDestroy p) a other = stays_int a _ (λ n. stays_same)
  answer_stays t call.Kill a other = stays_int a _ (λ n. only_stays t)
  answer_stays t c a other = stays_same

  pub told_stays : (m : Mark) → EntersNot u m → Stays u k (told k m)
  unfolding told act_told
  told_stays (mark.Answered t c a) other = answer_stays t.0 c a other
  told_stays (mark.Acted t (act.Release m) a) other = answer_stays t.0 (call.MutexRelease m) a tt
  told_stays (mark.Acted t (act.Put p v) a) other = answer_stays t.0 (call.PortPut p v (pos 0)) a tt
  told_stays (mark.Acted t (act.SetKey key v) a) other = answer_stays t.0 (call.KeySet key v) a tt
  told_stays (mark.Waits t (call.CondAwait c m e)) other = gave_back t.0 (object_named m) (k.awaits t.0)
  told_stays (mark.Took t m) other = stays_at m t.0 (levels_of t.0 (k.store.mutexes m) + 1)
  told_stays (mark.GaveMutex t m) other = stays_put u k.store.mutexes k.store.rw_locks m free_mutex refl
  told_stays (mark.GaveLock t l) other = stays_released u k.store.mutexes k.store.rw_locks t.0 l
  told_stays (mark.Ended t v) other = record {
    mutexes = λ m h. free_or u k.store.mutexes k.store.rw_locks (has t.0 (k.store.mutexes m)) (k.store.mutexes m) h;
    locks = λ l h. h;
    out = λ l h. out_left u k.store.rw_locks l t.0 h;
  }
  told_stays m other = stays_same

-- ---- who waits

-- u's levels, which do not grow meanwhile
abbrev levels_in : ℕ → Resources → ℕ → ℕ
levels_in u k m = levels_of u (k.store.mutexes m)

rightly_stays : (u : ℕ) (k j : Resources) (c : Call) → Stays u k j → IsWithin u (levels_in u k) j.store.mutexes → WaitsRightly k u c → WaitsRightly j u c
rightly_stays u k j (call.MutexAcquire m v e) stays fewer h = stays.mutexes (object_named m) h
rightly_stays u k j (call.RwAcquire l write v e) stays fewer h = (stays.locks (object_named l) h.0, stays.out (object_named l) h.1)
rightly_stays u k j (call.CondAwait c m e) stays fewer h = let less = fewer (object_named m) in (stays.mutexes (object_named m) h.0, omega (arith, less, h.1))
rightly_stays u k j c stays fewer h = tt

-- by another call than a pth_cond_await, the same is known as it begins to block
begins_rightly : (k : Resources) (t : ℕ) (c : Call) → is_placing c ≡ false → MayBegin k t c → WaitsRightly k t c
begins_rightly k t (call.CondAwait c m e) other h = absurd (true≢false other)
begins_rightly k t c other h = h

-- no thread has more levels of a mutex than it may have
abbrev HaveLevels : MutexTable → Type 0
HaveLevels x = (u : ℕ) → IsWithin u (λ m. level_limit) x

one_more : (n limit : ℕ) → n ≤ limit → (n == limit) ≡ false → n + 1 ≤ limit
one_more n limit low apart = grind (arith, nat_tests)

-- t begins to await: it gives a level of its mutex back
let_go_rightly : (t : ℕ) (k : Resources) (c m e : ℤ) → HaveLevels k.store.mutexes → MayBegin k t (call.CondAwait c m e) → WaitsRightly (told k (mark.Waits (record { 0 = t }) (call.CondAwait c m e))) t (call.CondAwait c m e)
unfolding told
let_go_rightly t k c m e levels may = by_test (k.awaits t) may.1
  where
    i : ℕ
    i = object_named m

    n : ℕ
    n = levels_of t (k.store.mutexes i)

    few : n - 1 < level_limit
    few = let all = levels t i in omega (arith, all)

    by_test : (b : Bool) → b ≡ false → WaitsRightly (if b then k else let_go k t i) t (call.CondAwait c m e)
    by_test true on = absurd (true≢false on)
    by_test false off =
        let here = put_here k.store.mutexes i (mutex_with t (n - 1)) in
        let less = levels_with t t (n - 1) (n - 1) (λ same. omega arith) in
        (ap is_some here ∙ mutex_there t (n - 1), subst (λ (z : Mutex). levels_of t z < level_limit) (sym here) (omega (arith, less, few)))

abbrev Rightly : Resources → ℕ → Option Blocked → Type 0
Rightly k t None = Unit {0}
Rightly k t (Some b) = Names b.call b.awaits × WaitsRightly k t b.call

-- ---- what rows ask of it

free_there : (o : Mutex) → is_some o ≡ true → (not (is_none o) && is_none (owner_of o)) ≡ is_none (owner_of o)
free_there None h = absurd (true≢false (sym h))
free_there (Some o) h = refl

let_in_there : (known lets held : Bool) → known ≡ true → held ≡ false → ((known && lets) && not held) ≡ lets
let_in_there true true false a b = refl
let_in_there true false false a b = refl
let_in_there known lets true a b = absurd (true≢false b)
let_in_there false lets held a b = absurd (true≢false (sym a))

-- a mutex of which a thread has not all levels
takes_there : (t : ℕ) (z : Mutex) → is_some z ≡ true → levels_of t z < level_limit → is_ok (take_answer t z) ≡ not (is_anothers t z)
takes_there t None h few = absurd (true≢false (sym h))
takes_there t (Some o) h few = by_tests (levels_of t (Some o) == level_limit) (is_anothers t (Some o)) (below (levels_of t (Some o)) level_limit few)
  where
    below : (n limit : ℕ) → n < limit → (n == limit) ≡ false
    below n limit few = grind (arith, nat_tests)

    by_tests : (full others : Bool) → full ≡ false → is_ok (if full then Err EAGAIN else (if others then Err EBUSY else Ok (tt {0}))) ≡ not others
    by_tests true others room = absurd (true≢false room)
    by_tests false true room = refl
    by_tests false false room = refl

as_tested : (a b : Bool) (x y : Awaits) → a ≡ b → x ≡ y → (says 1 when a otherwise Blocks x) ≡ (says 1 when b otherwise Blocks y)
as_tested a b x y same awaited = cc

module _ {P S H : Type 0} where
  abbrev AreRightly : State P S H → Type 0
  AreRightly s = (t : ℕ) → Rightly s.resources t (blocked_of s.control t)

  rightly_set : (t : ℕ) (c : change_of_record.Change) (s : State P S H) → AreRightly s → AreRightly (controlled (sets t c) s)
  unfolding sets
  rightly_set t c s r = r

  rightly_made : (f : P → Functions S H) (t b : ℕ) (v a : ℤ) (s : State P S H) → AreRightly s → AreRightly (controlled (makes f b v (or_first (values_for s.control t a))) s)
  unfolding makes
  rightly_made f t b v a s r u = put_by (λ o. Rightly s.resources u (blocked_in o)) s.control.threads.progress (s.control.threads.made + 1) _ u (λ here. tt) (λ other. r u)

  rightly_forgotten : (t : ℕ) (s : State P S H) → AreRightly s → AreRightly (controlled (forgets t) s)
  unfolding forgets
  rightly_forgotten t s r u = put_by (λ o. Rightly s.resources u (blocked_in o)) s.control.threads.progress t None u (λ here. tt) (λ other. r u)

  rightly_vanished : (t : ℕ) (s : State P S H) → AreRightly s → AreRightly (controlled (vanish_all_but t) s)
  unfolding vanish_all_but
  rightly_vanished t s r u = by_number (u == t)
    where
      by_number : (b : Bool) → Rightly s.resources u (blocked_in (if b then s.control.threads.progress u else None))
      by_number true = r u
      by_number false = tt

  rightly_looked : (f : P → Functions S H) (s : State P S H) → AreRightly s → AreRightly (controlled (looks f s) s)
  unfolding looks
  rightly_looked f s r = r

  -- t goes on, with this of what blocks it
  rightly_goes : (t : ℕ) (g : Progress S → Progress S) (s : State P S H) → ((p : Progress S) → s.control.threads.progress t ≡ Some p → Rightly s.resources t (g p).blocked) → AreRightly s → AreRightly (controlled (goes_on t g) s)
  unfolding goes_on
  rightly_goes t g s own r u =
      put_by (λ o. Rightly s.resources u (blocked_in o)) s.control.threads.progress t (option_map g (s.control.threads.progress t)) u
      (λ here. subst (λ (v : ℕ). Rightly s.resources v (blocked_in (option_map g (s.control.threads.progress t)))) (sym here) (by_progress (s.control.threads.progress t) own))
      (λ other. r u)
    where
      by_progress : (o : Option (Progress S)) → ((p : Progress S) → o ≡ Some p → Rightly s.resources t (g p).blocked) → Rightly s.resources t (blocked_in (option_map g o))
      by_progress None own = tt
      by_progress (Some p) own = own p refl

  rightly_claimed : (t : ℕ) (e : Option ℤ) (s : State P S H) → AreRightly s → AreRightly (controlled (claims t e) s)
  unfolding claims
  rightly_claimed t None s r = r
  rightly_claimed t (Some e) s r = r

  rightly_returned : (e : Option ℤ) (s : State P S H) → AreRightly s → AreRightly (controlled (gives_back e) s)
  unfolding gives_back
  rightly_returned None s r = r
  rightly_returned (Some e) s r = r

  rightly_stopped : (t : ℕ) (s : State P S H) → AreRightly s → AreRightly (controlled (stops_waiting t) s)
  unfolding stops_waiting
  rightly_stopped t s r = rightly_returned (ring_held (blocked_of s.control t)) (controlled (is_blocked_by t None) s) (rightly_goes t (blocking None) s (λ p at. tt) r)

  -- who is blocked enters no lock
  enters_not : (m : Mark) (s : State P S H) (u : ℕ) (b : Blocked) → IsToTell m s → blocked_of s.control u ≡ Some b → EntersNot u m
  enters_not (mark.Answered t (call.RwAcquire l write v e) (answer.Int n)) s u b may at = λ same. none-some b (sym may.free ∙ ap (blocked_of s.control) (sym same) ∙ at)
  enters_not m s u b may at = tt

  -- a mark that takes a mutex is told of one who takes it
  may_take : (m : Mark) (s : State P S H) (u : ℕ) (bound : ℕ → ℕ) (within : IsWithin u bound s.resources.store.mutexes) → ((t i : ℕ) → IsTaking t i s → t ≡ u → levels_in u s.resources i + 1 ≤ bound i) → IsToTell m s → TakesWithin u bound s.resources within m
  may_take (mark.Answered t (call.MutexAcquire m v e) (answer.Int n)) s u bound within room may = room t.0 (object_named m) may
  may_take (mark.Answered t (call.CondAwait c m e) a) s u bound within room may = λ awaits. room t.0 (object_named m) (may awaits)
  may_take (mark.Took t m) s u bound within room may = room t.0 m may
  may_take m s u bound within room may = tt

  -- who is blocked takes no mutex
  takes_not : (m : Mark) (s : State P S H) (u : ℕ) (b : Blocked) → IsToTell m s → blocked_of s.control u ≡ Some b → TakesWithin u (levels_in u s.resources) s.resources (λ i. omega arith) m
  takes_not m s u b may at = may_take m s u (levels_in u s.resources) (λ i. omega arith) (λ t i takes same. absurd (none-some b (sym takes.free ∙ ap (blocked_of s.control) same ∙ at))) may

  rightly_told : (m : Mark) (s : State P S H) → IsToTell m s → AreRightly s → AreRightly (tells m s).state
  rightly_told m s may r u = by_blocked (blocked_of s.control u) refl (r u)
    where
      by_blocked : (o : Option Blocked) → blocked_of s.control u ≡ o → Rightly s.resources u o → Rightly (told s.resources m) u o
      by_blocked None at h = tt
      by_blocked (Some b) at h = (
        h.0,
        rightly_stays u s.resources (told s.resources m) b.call (told_stays u s.resources m (enters_not m s u b may at)) (told_within u (levels_in u s.resources) s.resources (λ i. omega arith) m (takes_not m s u b may at)) h.1,
      )

  levels_told : (m : Mark) (s : State P S H) → IsToTell m s → HaveLevels s.resources.store.mutexes → HaveLevels (told s.resources m).store.mutexes
  levels_told m s may levels u = told_within u (λ i. level_limit) s.resources (levels u) m (may_take m s u (λ i. level_limit) (levels u) (λ t i takes same. one_more (levels_in u s.resources i) level_limit (levels u i) (subst (λ (v : ℕ). (levels_in v s.resources i == level_limit) ≡ false) same takes.room)) may)

  blocked_at : (s : State P S H) (t : ℕ) (o : Option Blocked) → blocked_of s.control t ≡ o → AreRightly s → Rightly s.resources t o
  blocked_at s t o at r = subst (Rightly s.resources t) at (r t)

  -- t takes a seat at a condition, and waits there, as is told
  rightly_takes : (t : ℕ) (c m e : ℤ) (s : State P S H) → MayWait t (call.CondAwait c m e) (awaits.Notice c) s → HaveLevels s.resources.store.mutexes → AreRightly s → AreRightly (tells (mark.Waits (tid t) (call.CondAwait c m e)) (controlled (λ k. blocks t (call.CondAwait c m e) (awaits.Notice c) (claims t (extra_ring e) (with_conditions (seat_entered c (seat_of t)) k))) s)).state
  rightly_takes t c m e s may levels r =
      let x = mark.Waits (tid t) (call.CondAwait c m e) in
      let u = controlled (with_conditions (seat_entered c (seat_of t))) (tells x s).state in
      let d : Blocked = record { call = call.CondAwait c m e; awaits = awaits.Notice c } in
      rightly_goes t (blocking (Some d)) (controlled (claims t (extra_ring e)) u) (λ p at. (may.names, let_go_rightly t s.resources c m e levels may.rightly)) (rightly_claimed t (extra_ring e) u (rightly_told x s tt r))

  -- its wait there is over, and it waits for its mutex
  rightly_retakes : (t : ℕ) (c m e : ℤ) (a : Awaits) (o : Retake) (s : State P S H) → blocked_of s.control t ≡ Some (record { call = call.CondAwait c m e; awaits = a }) → AreRightly s → AreRightly (controlled (λ k. blocks t (call.CondAwait c m e) (awaits.Retaking m o) (stops_waiting t k)) s)
  rightly_retakes t c m e a o s at r =
      let was : Blocked = record { call = call.CondAwait c m e; awaits = a } in
      let now : Blocked = record { call = call.CondAwait c m e; awaits = awaits.Retaking m o } in
      rightly_goes t (blocking (Some now)) (controlled (stops_waiting t) s) (λ p here. (inr (o, refl), (blocked_at s t (Some was) at r).1)) (rightly_stopped t s r)

  -- ---- every run

  abbrev pub Both : State P S H → Type 0
  Both s = AreRightly s × HaveLevels s.resources.store.mutexes

  pub rightly_kept : (f : P → Functions S H) → KeptAlong f Both
  rightly_kept f = record {
    handlers = record {
      shared = λ h s r. r;
      seated = λ x s fewer r. r;
      told = λ m s may r. (rightly_told m s may r.0, levels_told m s may r.1);
    };
    placed = λ standing entries raises trail s r. r;
    scheduled = λ x s r. r;
    timed = λ x s r. r;
    used = λ o s r. r;
    set = λ t c s safe life r. (rightly_set t c s r.0, r.1);
    made = λ t b v a s next r. (rightly_made f t b v a s r.0, r.1);
    forgotten = λ t s gone r. (rightly_forgotten t s r.0, r.1);
    vanished = λ t s free r. (rightly_vanished t s r.0, r.1);
    added = λ s r. r;
    bound = λ t s r. r;
    renewed = λ n s r. r;
    valued = λ a v x s there inside r. r;
    destroyed = λ n s r. r;
    arranges = λ x s may r. r;
    looked = λ s r. (rightly_looked f s r.0, r.1);
    barred = λ x s fewer all r. r;
    reached = λ t b round s free alive there waits r. (rightly_goes t (blocking (Some (record { call = call.BarrierReach b; awaits = awaits.Round b round }))) (controlled (with_barriers (barrier_reached b t)) s) (λ p at. (refl, tt)) r.0, r.1);
    goes = λ t g s same r. (rightly_goes t g s (λ p at. subst (Rightly s.resources t) (sym (same p)) (blocked_at s t p.blocked (ap blocked_in at) r.0)) r.0, r.1);
    blocked = λ t c a s free here other none may r. (
      rightly_goes t (blocking (Some (record { call = c; awaits = a }))) (controlled (claims t (ring_given c)) s) (λ x at. (may.names, begins_rightly s.resources t c other may.rightly)) (rightly_claimed t (ring_given c) s r.0),
      r.1,
    );
    waits_on = λ t a b s at names stays other plain r. (rightly_goes t (blocking (Some (record b { awaits = a }))) s (λ p here. (names, (blocked_at s t (Some b) at r.0).1)) r.0, r.1);
    stopped = λ t x y s fewer others seats left gone r. (rightly_stopped t (controlled (λ k. with_conditions (λ z. y) (with_barriers (λ z. x) k)) s) r.0, r.1);
    takes_seat = λ t c m e s free alive there may r. (rightly_takes t c m e s may r.1 r.0, levels_told (mark.Waits (tid t) (call.CondAwait c m e)) s tt r.1);
    retakes = λ t c m e a o y s fewer gone at r. (rightly_retakes t c m e a o (controlled (with_conditions (λ z. y)) s) at r.0, r.1);
  }

  pub rightly_start : (f : P → Functions S H) (g : Given P) → Both (start f g)
  unfolding start
  rightly_start f g = (λ t. put_by (λ (o : Option (Progress S)). Rightly (start f g).resources t (blocked_in o)) (λ u. None) main _ t (λ here. tt) (λ other. tt), λ u m. omega arith)

  pub rightly_of : (s : State P S H) → AreRightly s → AllWaitRightly s
  rightly_of s r t b at = blocked_at s t (Some b) at r

  pub run_rightly : (f : P → Functions S H) (g : Given P) (i : ℕ) → AllWaitRightly (run f g i).state
  run_rightly f g i = rightly_of (run f g i).state (run_keeps f Both (rightly_kept f) g (rightly_start f g) i).0

  -- and the other way round
  pub both_in : (s : State P S H) → AllWaitRightly s → HaveLevels s.resources.store.mutexes → Both s
  both_in s all levels = ((λ t. by_blocked t (blocked_of s.control t) refl), levels)
    where
      by_blocked : (t : ℕ) (o : Option Blocked) → blocked_of s.control t ≡ o → Rightly s.resources t o
      by_blocked t None at = tt
      by_blocked t (Some b) at = all t b at

  asks_no_more : (f : P → Functions S H) (s : State P S H) (t : ℕ) (a : Awaits) (c : Call) → Names c a → WaitsRightly s.resources t c → AsksNoMore f s t a c
  unfolding row_of
  asks_no_more f s t a (call.MutexAcquire m v e) named h =
      let free = free_there (mutex s m) h in
      record { again = as_tested _ _ (awaits.Mutex m) a free (sym named); comes = ap (has_come s t) named ∙ free }
  asks_no_more f s t a (call.RwAcquire l write v e) named h = record {
    again = as_tested _ _ (awaits.Lock l write) a (let_in_there (is_lock s l) (lets_in s write l) (holds s.resources.store.rw_locks t (object_named l)) h.0 h.1) (sym named);
    comes = ap (has_come s t) named ∙ ap (λ (known : Bool). known && lets_in s write l) h.0;
  }
  asks_no_more f s t a (call.CondAwait c m e) named h = takes_there t (mutex s m) h.0 h.1
  asks_no_more f s t a c named h = tt

  pub all_ask : (f : P → Functions S H) (s : State P S H) → AllWaitRightly s → AllAskNoMore f s
  all_ask f s all t b at = let rightly = all t b at in asks_no_more f s t b.awaits b.call rightly.0 rightly.1

  pub run_asks : (f : P → Functions S H) (g : Given P) (i : ℕ) → AllAskNoMore f (run f g i).state
  run_asks f g i = all_ask f (run f g i).state (run_rightly f g i)
