-- Where a thread writes under a lock none reads; and who holds a lock was made.
use Rattle.std.proofs.Common.{◌≡◌, ◌≤◌, ℕ, zero, suc, ◌+◌, ◌==◌, ◌&&◌, ◌||◌, not, Bool, true, false, if◌then◌else◌, ℤ, pos, Option, Some, None, is_some, refl, sym, subst, ◌∙◌, ap, arith}
use Rattle.std.proofs.lemmas.Bool.Decides.{nat_tests}
use Rattle.std.proofs.lemmas.Bool.{true≢false, or_parts, not-true}
use Rattle.pth_base.specs.Program.{Functions}
use Rattle.pth_base.specs.Table.{put}
use Rattle.pth_base.specs.declared.act.Act.TheVariants as act
use Rattle.pth_base.specs.declared.answer.Answer.{Answer}
use Rattle.pth_base.specs.declared.answer.Answer.TheVariants as answer
use Rattle.pth_base.specs.declared.call.Call.{Call}
use Rattle.pth_base.specs.declared.call.Call.TheVariants as call
use Rattle.pth_base.specs.declared.mark.Mark.{Mark}
use Rattle.pth_base.specs.declared.mark.Mark.TheVariants as mark
use Rattle.pth_base.proofs.Lists.{put_none}
use Rattle.pth_base.proofs.Tables.{put_by, put_is, same_means, same_self, not_same}
use Rattle.pth_lock.specs.Objects.{object_named}
use Rattle.pth_lock.specs.RwLocks.{LockTables, holds, is_one, may_enter, is_written, lock_released, lock_taken, without_slot, readers_without}
use Rattle.pth_model.specs.Resources.{on_one, on_int, on_msg, told, answer_told, act_told, retaken, let_go}
use Rattle.pth_model.specs.Kill.{locks_of_only}
use Rattle.pth_model.specs.Store.{Resources}
use Rattle.pth_cond.specs.Conditions.{seat_entered}
use Rattle.pth_cond.specs.Barriers.{barrier_reached}
use Rattle.pth_model.specs.declared.awaits.Awaits.TheVariants.{Round, Notice, Retaking}
use Rattle.pth_model.specs.declared.progress.Progress.{Progress}
use Rattle.pth_threads.specs.declared.entry.Change as change_of_record
use Rattle.pth_model.specs.Conditions.{seat_of}
use Rattle.pth_model.specs.State.{State, Control, Given, start}
use Rattle.pth_model.specs.Transition.{controlled, tells, tid}
use Rattle.pth_model.specs.Changes.{sets, goes_on, blocking, is_blocked_by, makes, forgets, with_conditions, with_barriers, blocked_of}
use Rattle.pth_model.specs.Living.{is_made}
use Rattle.pth_model.specs.RingWaits.{claims, extra_ring, gives_back, ring_given, ring_held, stops_waiting}
use Rattle.pth_model.specs.ThreadControl.{values_for, or_first}
use Rattle.pth_model.specs.LibraryControl.{vanish_all_but}
use Rattle.pth_model.specs.Calls.{blocks}
use Rattle.pth_model.specs.Pass.{looks}
use Rattle.pth_model.specs.Run.{run}
use Rattle.pth_laws.specs.Holders.{AreHoldersApart}
use Rattle.pth_laws.proofs.Living.{made_more}
use Rattle.pth_laws.proofs.Counted.{IsCounted, counted_none, counted_more, counted_less, counted_below, none_passes}
use Rattle.pth_laws.proofs.Allowed.{IsToTell}
use Rattle.pth_laws.proofs.Along.{KeptAlong, run_keeps}
use Rattle.pth_laws.proofs.Waiting.{EntersNot, told_stays}

-- a lock: who reads is counted, and none does if a thread writes
abbrev IsApart : Option ℕ → (ℕ → Bool) → ℕ → Type 0
IsApart writer reads readers = IsCounted reads readers × (is_some writer ≡ true → readers ≡ 0)

abbrev AreApart : LockTables → Type 0
AreApart y = (l : ℕ) → IsApart (y.writer l) (y.reads l) (y.readers l)

-- one lock changes
apart_put : (y : LockTables) (l : ℕ) (writer : Option ℕ) (reads : ℕ → Bool) (readers : ℕ) → IsApart writer reads readers → AreApart y → (i : ℕ) → IsApart (put y.writer l writer i) (put y.reads l reads i) (put y.readers l readers i)
unfolding put
apart_put y l writer reads readers here all i = by_number (i == l)
  where
    by_number : (b : Bool) → IsApart (if b then writer else y.writer i) (if b then reads else y.reads i) (if b then readers else y.readers i)
    by_number true = here
    by_number false = all i

-- of a table with the same put again nothing changes
same_put : {A : Type 0} (f : ℕ → A) (l i : ℕ) → put f l (f l) i ≡ f i
same_put {A = A} f l i = let P : A → Type 0 = λ x. x ≡ f i in put_by P f l (f l) i (λ here. ap f (sym here)) (λ other. refl)

may_write : (y : LockTables) (l : ℕ) → may_enter y true l ≡ true → y.readers l ≡ 0
may_write y l h = by_tests (is_written y l) (y.readers l) h
  where
    by_tests : (written : Bool) (n : ℕ) → not (written || not (n == 0)) ≡ true → n ≡ 0
    by_tests true n h = absurd (true≢false (sym h))
    by_tests false n h = grind (arith, nat_tests)

may_read : (y : LockTables) (l : ℕ) → may_enter y false l ≡ true → is_written y l ≡ false
may_read y l h = not-true (is_written y l) h

abbrev one_or_none : Bool → ℕ
one_or_none b = if b then 1 else 0

-- t alone, if it reads
counted_alone : (f : ℕ → Bool) (t : ℕ) → IsCounted (λ u. (u == t) && f u) (one_or_none (f t))
counted_alone f t = subst (λ (g : ℕ → Bool). IsCounted g (one_or_none (f t))) (sym alone) (by_test (f t))
  where
    alone : (λ (u : ℕ). (u == t) && f u) ≡ put (λ u. false) t (f t)
    alone = put_is (λ u. false) (λ u. (u == t) && f u) t (f t) (rw (same_self t) refl) (λ i apart. rw (not_same i t apart) refl)

    by_test : (b : Bool) → IsCounted (put (λ u. false) t b) (one_or_none b)
    by_test true = counted_more (λ u. false) 0 t refl counted_none
    by_test false = subst (λ (g : ℕ → Bool). IsCounted g 0) (sym (put_none (λ u. false) t false refl)) counted_none

module _ (y : LockTables) (all : AreApart y) where
  taken_apart : (t : ℕ) (write : Bool) (l : ℕ) → holds y t l ≡ false → may_enter y write l ≡ true → AreApart (lock_taken t write l y)
  taken_apart t true l out open_to i =
      let a = apart_put y l (Some t) (y.reads l) (y.readers l) ((all l).0, λ h. may_write y l open_to) all i in
      subst (λ (n : ℕ). IsApart (put y.writer l (Some t) i) (y.reads i) n) (same_put y.readers l i)
      (subst (λ (r : ℕ → Bool). IsApart (put y.writer l (Some t) i) r (put y.readers l (y.readers l) i)) (same_put y.reads l i) a)
  taken_apart t false l out open_to i =
      let counted = counted_more (y.reads l) (y.readers l) t (or_parts (is_one t (y.writer l)) (y.reads l t) out).1 (all l).0 in
      let a = apart_put y l (y.writer l) (put (y.reads l) t true) (y.readers l + 1) (counted, λ h. absurd (true≢false (sym h ∙ may_read y l open_to))) all i in
      subst (λ (w : Option ℕ). IsApart w (put y.reads l (put (y.reads l) t true) i) (put y.readers l (y.readers l + 1) i)) (same_put y.writer l i) a

  -- a thread leaves a lock
  left_one : (t l : ℕ) → IsApart (without_slot t (y.writer l)) (put (y.reads l) t false) (readers_without (y.reads l t) (y.readers l))
  left_one t l = (counted_less (y.reads l) (y.readers l) t (all l).0, λ h. less (y.reads l t) (y.readers l) ((all l).1 (was (is_one t (y.writer l)) h)))
    where
      was : (b : Bool) → is_some (if b then None else y.writer l) ≡ true → is_some (y.writer l) ≡ true
      was true h = absurd (true≢false (sym h))
      was false h = h

      less : (b : Bool) (n : ℕ) → n ≡ 0 → readers_without b n ≡ 0
      less true n none = rw none refl
      less false n none = none

  released_apart : (t l : ℕ) → AreApart (lock_released t l y)
  released_apart t l = apart_put y l (without_slot t (y.writer l)) (put (y.reads l) t false) (readers_without (y.reads l t) (y.readers l)) (left_one t l) all

  only_apart : (t : ℕ) → AreApart (locks_of_only t y)
  only_apart t l = (counted_alone (y.reads l) t, λ h. none (was (is_one t (y.writer l)) h))
    where
      was : (b : Bool) → is_some (if b then y.writer l else None) ≡ true → is_some (y.writer l) ≡ true
      was true h = h
      was false h = absurd (true≢false (sym h))

      none : is_some (y.writer l) ≡ true → one_or_none (y.reads l t) ≡ 0
      none written = ap one_or_none (none_passes (y.reads l) (y.readers l) (all l).0 ((all l).1 written) t)

-- ---- marks

module _ {P S H : Type 0} (s : State P S H) (all : AreApart s.resources.store.rw_locks) where
  abbrev Leaves : Resources → Type 0
  Leaves k = AreApart k.store.rw_locks

  apart_one : (a : Answer) (g : Resources) → Leaves g → Leaves (on_one a s.resources g)
  apart_one (answer.Int (pos (suc zero))) g h = h
  apart_one a g h = all

  apart_int : (a : Answer) (g : ℤ → Resources) → ((n : ℤ) → Leaves (g n)) → Leaves (on_int a s.resources g)
  apart_int (answer.Int n) g h = h n
  apart_int a g h = all

  apart_msg : (a : Answer) (g : Resources) → Leaves g → Leaves (on_msg a s.resources g)
  apart_msg (answer.Msg id v) g h = h
  apart_msg a g h = all

  took_back : (t m : ℕ) (b : Bool) → Leaves (if b then retaken s.resources t m else s.resources)
  took_back t m true = all
  took_back t m false = all

  gave_back : (t m : ℕ) (b : Bool) → Leaves (if b then s.resources else let_go s.resources t m)
  gave_back t m true = all
  gave_back t m false = all

  answer_apart : (t : ℕ) (c : Call) (a : Answer) → IsToTell (mark.Answered (record { 0 = t }) c a) s → Leaves (answer_told s.resources t c a)
  unfolding answer_told
  answer_apart t (call.CleanupPush h v) a may = apart_one a _ all
  answer_apart t (call.CleanupPop v) a may = apart_one a _ all
  answer_apart t (call.KeyCreate h) a may = apart_int a _ (λ n. all)
  answer_apart t (call.KeyDelete key) a may = apart_one a _ all
  answer_apart t (call.KeySet key v) a may = apart_one a _ all
  answer_apart t (call.MutexInit m) a may = apart_int a _ (λ n. all)
  answer_apart t (call.MutexAcquire m v e) a may = apart_int a _ (λ n. all)
  answer_apart t (call.MutexRelease m) a may = apart_int a _ (λ n. all)
  answer_apart t (call.RwInit l) a may = apart_int a _ (λ n. all)
  answer_apart t (call.RwAcquire l write v e) (answer.Int n) may = taken_apart s.resources.store.rw_locks all t write (object_named l) may.out may.open_to
  answer_apart t (call.RwAcquire l write v e) a may = all
  answer_apart t (call.RwRelease l) a may = apart_int a _ (λ n. released_apart s.resources.store.rw_locks all t (object_named l))
  answer_apart t (call.CondAwait c m e) a may = took_back t (object_named m) (s.resources.awaits t)
  answer_apart t (call.PortCreate name) a may = apart_int a _ (λ n. all)
  answer_apart t (call.PortPut p v r) a may = apart_int a _ (λ n. all)
  answer_apart t (call.PortGet p) a may = apart_msg a _ all
  answer_apart t (call.Reply m v) a may = apart_int a _ (λ n. all)
  answer_apart t (call.PortDestroy p) a may = apart_int a _ (λ n. all)
  answer_apart t call.Kill a may = apart_int a _ (λ n. only_apart s.resources.store.rw_locks all t)
  answer_apart t c a may = all

  told_apart : (m : Mark) → IsToTell m s → Leaves (told s.resources m)
  unfolding told act_told
  told_apart (mark.Answered t c a) may = answer_apart t.0 c a may
  told_apart (mark.Acted t (act.Release m) a) may = answer_apart t.0 (call.MutexRelease m) a tt
  told_apart (mark.Acted t (act.Put p v) a) may = answer_apart t.0 (call.PortPut p v (pos 0)) a tt
  told_apart (mark.Acted t (act.SetKey key v) a) may = answer_apart t.0 (call.KeySet key v) a tt
  told_apart (mark.Waits t (call.CondAwait c m e)) may = gave_back t.0 (object_named m) (s.resources.awaits t.0)
  told_apart (mark.GaveLock t l) may = released_apart s.resources.store.rw_locks all t.0 l
  told_apart (mark.Ended t v) may = left_one s.resources.store.rw_locks all t.0
  told_apart m may = all

-- ---- who was made

-- numbers past the last one that was made
past_made : (n t : ℕ) → n + 1 ≤ t → is_made n t ≡ false
past_made n zero past = refl
past_made n (suc t) past = grind (arith, nat_tests)

unmade_before : (n t : ℕ) → is_made (n + 1) t ≡ false → is_made n t ≡ false
unmade_before n t later = by_test (is_made n t) refl
  where
    by_test : (b : Bool) → is_made n t ≡ b → is_made n t ≡ false
    by_test true made = absurd (true≢false (sym (made_more n (n + 1) t (omega arith) made) ∙ later))
    by_test false none = none

module _ {P S H : Type 0} where
  -- who was not made holds no lock
  abbrev AreMade : State P S H → Type 0
  AreMade s = (u l : ℕ) → is_made s.control.threads.made u ≡ false → holds s.resources.store.rw_locks u l ≡ false

  -- a change by which no thread is made
  abbrev MakesNone : (Control P S H → Control P S H) → Type 0
  MakesNone g = (k : Control P S H) → (g k).threads.made ≡ k.threads.made

  made_as : (g : Control P S H → Control P S H) (s : State P S H) → MakesNone g → AreMade s → AreMade (controlled g s)
  made_as g s same r u l none = r u l (ap (λ n. is_made n u) (sym (same s.control)) ∙ none)

  set_none : (t : ℕ) (c : change_of_record.Change) → MakesNone (sets t c)
  unfolding sets
  set_none t c k = refl

  forgotten_none : (t : ℕ) → MakesNone (forgets t)
  unfolding forgets
  forgotten_none t k = refl

  vanished_none : (t : ℕ) → MakesNone (vanish_all_but t)
  unfolding vanish_all_but
  vanished_none t k = refl

  looked_none : (f : P → Functions S H) (s : State P S H) → MakesNone (looks f s)
  unfolding looks
  looked_none f s k = refl

  goes_none : (t : ℕ) (g : Progress S → Progress S) → MakesNone (goes_on t g)
  unfolding goes_on
  goes_none t g k = refl

  claimed_none : (t : ℕ) (e : Option ℤ) → MakesNone (claims t e)
  unfolding claims
  claimed_none t None k = refl
  claimed_none t (Some e) k = refl

  returned_none : (e : Option ℤ) → MakesNone (gives_back e)
  unfolding gives_back
  returned_none None k = refl
  returned_none (Some e) k = refl

  stopped_none : (t : ℕ) → MakesNone (stops_waiting t)
  unfolding stops_waiting
  stopped_none t k = returned_none (ring_held (blocked_of k t)) (is_blocked_by t None k) ∙ goes_none t (blocking None) k

  one_made : (f : P → Functions S H) (t b : ℕ) (v a : ℤ) (s : State P S H) → AreMade s → AreMade (controlled (makes f b v (or_first (values_for s.control t a))) s)
  unfolding makes
  one_made f t b v a s r u l none = r u l (unmade_before s.control.threads.made u none)

  -- who enters a lock was made
  enters_not : (m : Mark) (s : State P S H) (u : ℕ) → IsToTell m s → is_made s.control.threads.made u ≡ false → EntersNot u m
  enters_not (mark.Answered t (call.RwAcquire l write v e) (answer.Int n)) s u may none = λ same. true≢false (sym may.made ∙ ap (is_made s.control.threads.made) (sym same) ∙ none)
  enters_not m s u may none = tt

  made_told : (m : Mark) (s : State P S H) → IsToTell m s → AreMade s → AreMade (tells m s).state
  made_told m s may r u l none = (told_stays u s.resources m (enters_not m s u may none)).out l (r u l none)

-- ---- every run

module _ {P S H : Type 0} where
  abbrev Apart : State P S H → Type 0
  Apart s = AreApart s.resources.store.rw_locks

  abbrev Both : State P S H → Type 0
  Both s = Apart s × AreMade s

  apart_kept : (f : P → Functions S H) → KeptAlong f Both
  apart_kept f = record {
    handlers = record {
      shared = λ h s r. r;
      seated = λ x s fewer r. r;
      told = λ m s may r. (told_apart s r.0 m may, made_told m s may r.1);
    };
    placed = λ standing entries raises trail s r. r;
    scheduled = λ x s r. r;
    timed = λ x s r. r;
    used = λ o s r. r;
    set = λ t c s safe life r. (r.0, made_as (sets t c) s (set_none t c) r.1);
    made = λ t b v a s next r. (r.0, one_made f t b v a s r.1);
    forgotten = λ t s gone r. (r.0, made_as (forgets t) s (forgotten_none t) r.1);
    vanished = λ t s free r. (r.0, made_as (vanish_all_but t) s (vanished_none t) r.1);
    added = λ s r. r;
    bound = λ t s r. r;
    renewed = λ n s r. r;
    valued = λ a v x s there inside r. r;
    destroyed = λ n s r. r;
    arranges = λ x s may r. r;
    looked = λ s r. (r.0, made_as (looks f s) s (looked_none f s) r.1);
    barred = λ x s fewer all r. r;
    reached = λ t b round s free alive there waits r. (r.0, made_as (λ k. blocks t (call.BarrierReach b) (Round b round) (with_barriers (barrier_reached b t) k)) s (λ k. goes_none t _ (with_barriers (barrier_reached b t) k)) r.1);
    goes = λ t g s same r. (r.0, made_as (goes_on t g) s (goes_none t g) r.1);
    blocked = λ t c a s free here other none may r. (r.0, made_as (λ k. blocks t c a (claims t (ring_given c) k)) s (λ k. goes_none t _ (claims t (ring_given c) k) ∙ claimed_none t (ring_given c) k) r.1);
    waits_on = λ t a b s at names stays other plain r. (r.0, made_as (is_blocked_by t (Some (record b { awaits = a }))) s (goes_none t _) r.1);
    stopped = λ t x y s fewer others seats left gone r. (r.0, made_as (λ k. stops_waiting t (with_conditions (λ z. y) (with_barriers (λ z. x) k))) s (λ k. stopped_none t (with_conditions (λ z. y) (with_barriers (λ z. x) k))) r.1);
    takes_seat = λ t c m e s free alive there may r.
        let x = mark.Waits (tid t) (call.CondAwait c m e) in
        let seated : Control P S H → Control P S H = λ k. with_conditions (seat_entered c (seat_of t)) k in
        let g : Control P S H → Control P S H = λ k. blocks t (call.CondAwait c m e) (Notice c) (claims t (extra_ring e) (seated k)) in
        (told_apart s r.0 x tt, made_told x (controlled g s) tt (made_as g s (λ k. goes_none t _ (claims t (extra_ring e) (seated k)) ∙ claimed_none t (extra_ring e) (seated k)) r.1));
    retakes = λ t c m e a o y s fewer gone at r. (
      r.0,
      made_as (λ k. blocks t (call.CondAwait c m e) (Retaking m o) (stops_waiting t (with_conditions (λ z. y) k))) s (λ k. goes_none t _ (stops_waiting t (with_conditions (λ z. y) k)) ∙ stopped_none t (with_conditions (λ z. y) k)) r.1,
    );
  }

  apart_start : (f : P → Functions S H) (g : Given P) → Both (start f g)
  unfolding start
  apart_start f g = (λ l. (counted_none, λ h. refl), λ u l none. refl)

  pub run_apart : (f : P → Functions S H) (g : Given P) (i : ℕ) → AreHoldersApart (run f g i).state
  run_apart f g i = record {
    once = λ t l h. reads_not t t l h;
    alone = λ t u l h held. by_test u t l h (is_one u (y.writer l)) refl held;
    made = λ t l held. by_made t l held (is_made n t) refl;
    counted = λ l. counted_below (y.reads l) (y.readers l) (n + 1) (all l).0 (λ t past. (or_parts (is_one t (y.writer l)) (y.reads l t) (both.1 t l (past_made n t past))).1);
  }
    where
      y : LockTables
      y = (run f g i).state.resources.store.rw_locks

      n : ℕ
      n = (run f g i).state.control.threads.made

      both : Both (run f g i).state
      both = run_keeps f Both (apart_kept f) g (apart_start f g) i

      all : AreApart y
      all = both.0

      by_made : (t l : ℕ) → holds y t l ≡ true → (b : Bool) → is_made n t ≡ b → is_made n t ≡ true
      by_made t l held true made = made
      by_made t l held false none = absurd (true≢false (sym held ∙ both.1 t l none))

      -- nobody reads
      reads_not : (t u l : ℕ) → y.writer l ≡ Some t → y.reads l u ≡ false
      reads_not t u l h = none_passes (y.reads l) (y.readers l) (all l).0 ((all l).1 (ap is_some h)) u

      by_test : (u t l : ℕ) → y.writer l ≡ Some t → (b : Bool) → is_one u (y.writer l) ≡ b → (is_one u (y.writer l) || y.reads l u) ≡ true → u ≡ t
      by_test u t l h true own held = sym (same_means t u (ap (is_one u) (sym h) ∙ own))
      by_test u t l h false other held = absurd (true≢false (sym held ∙ rw (other, reads_not t u l h) refl))
