-- Threads vanish, until one is left.
use Rattle.std.proofs.Common.{◌≡◌, ◌≢◌, ℕ, ◌<◌, ◌==◌, ◌&&◌, not, ℤ, pos, Bool, true, false, if◌then◌else◌, List, [], map, length, IfSome, Option, Some, None, refl, sym, ◌∙◌, ap, ap₂, subst, arith}
use Rattle.pth_cond.specs.Conditions.{Condition, conditions_of, all_seats_left}
use mathlib.Core.Path.{fun_ext}
use Rattle.pth_base.specs.Table.{put}
use Rattle.pth_base.specs.declared.thread.ThreadState.{ThreadState}
use Rattle.pth_base.specs.declared.thread.ThreadState.TheVariants as state
use Rattle.pth_base.proofs.Tables.{put_other, same_means, same_fails, same_self, not_same}
use Rattle.pth_queue.specs.declared.queue.Queue.{Queue}
use Rattle.pth_queue.specs.declared.queue.Queue.TheVariants as queue
use Rattle.pth_queue.specs.declared.ranked.Ranked.{Ranked}
use Rattle.pth_queue.specs.Ranking.{holds, delete, named_row}
use Rattle.pth_queue.specs.Queues.{QueuesOf, rows_of, queue_of, without}
use Rattle.pth_queue.proofs.Counts.{count-present, length-delete}
use Rattle.pth_queue.proofs.Sets.{holds-queue_of}
use Rattle.pth_port.specs.Mail.{Mail, PortNames}
use Rattle.pth_lock.specs.Mutexes.{Mutex, MutexTable, free_mutex, has, is_anothers}
use Rattle.pth_lock.specs.RwLocks.{LockTables, is_one, locks_left, without_slot}
use Rattle.pth_store.specs.Cleanups.{Stacks}
use Rattle.pth_store.specs.Keys.{Tables}
use Rattle.pth_cond.specs.Barriers.{Barrier, barriers_of, all_withdrawn}
use Rattle.pth_ring.specs.Arena.{RingsOf, events_of}
use Rattle.pth_ring.specs.Rings.{all_unclaimed}
use Rattle.pth_threads.specs.Threads.{slot_of, tid_at, tid_of, entry_at, RemovesThread}
use Rattle.pth_threads.specs.declared.entry.Entry.{Entry}
use Rattle.pth_model.specs.declared.blocked.Blocked.{Blocked}
use Rattle.pth_model.specs.declared.progress.Progress.{Progress}
use Rattle.pth_model.specs.Standing.{shown, order}
use Rattle.pth_model.specs.State.{Control}
use Rattle.pth_model.specs.Changes.{leaves_queue, forgets, removes}
use Rattle.pth_model.specs.Ending.{other_than}
use Rattle.pth_model.specs.LibraryControl.{vanish_all_but}
use Rattle.pth_model.specs.Kill.{only_at, locks_of_only, store_of_only}
use Rattle.pth_model.specs.Resources.{store_without}
use Rattle.pth_model.specs.Store.{Store}
use Rattle.pth_model.proofs.Queues.{rows_without}
use Rattle.pth_world.specs.Store.{store_of, HasNothing}
use Rattle.pth_world.specs.World.{WorldOf}
use Rattle.pth_world.specs.Shows.{Shows}
use Rattle.pth_world.specs.Sound.{IsSound, IsKnown, lives}
use Rattle.pth_world.specs.WellFormed.{view, FitsEntry, WellFormed, IsIn, place_for}
use Rattle.pth_world.specs.Vanishing.{ReadsAlone, ShowsRest, Vanishing}
use Rattle.pth_world.proofs.Slots.{name_is, used, some_is}
use Rattle.pth_world.proofs.Places.{queue-nowhere}
use Rattle.pth_world.proofs.Waits.{none_waits}
use Rattle.pth_world.proofs.Showing.{not_here, not_known, no_progress}
use Rattle.pth_world.proofs.Moves.{known_slot, is_in, runner_runs, gone_whole}
use Rattle.pth_world.proofs.Ranks.{ranks_left, ranks_none, ranks_then}
use Rattle.pth_world.proofs.Locked.{neither}
use Rattle.pth_world.proofs.Stores.{spare_nothing}

-- ---- what is left at one thread

only_by : {A : Type 0} (t u i : ℕ) (f : ℕ → A) (x d : A) (b : Bool) → u ≢ t → (i == t) ≡ b → (if b then put f u x i else d) ≡ (if b then f i else d)
only_by t u i f x d true apart is = put_other f u x i (λ same. apart (sym same ∙ same_means i t is))
only_by t u i f x d false apart is = refl

-- a change at another thread is not seen
only-put : {A : Type 0} (t u : ℕ) (f : ℕ → Option A) (x : Option A) → u ≢ t → only_at t (put f u x) ≡ only_at t f
only-put t u f x apart = fun_ext (λ i. only_by t u i f x None (i == t) apart refl)

alone_by : {A : Type 0} (t i : ℕ) (f : ℕ → A) (d : A) (b : Bool) → (i == t) ≡ b → (i ≢ t → f i ≡ d) → (if b then f i else d) ≡ f i
alone_by t i f d true is none = refl
alone_by t i f d false is none = sym (none (same_fails i t is))

-- a table that has nothing at the others
only-alone : {A : Type 0} (t : ℕ) (f : ℕ → Option A) → ((i : ℕ) → i ≢ t → f i ≡ None) → only_at t f ≡ f
only-alone t f none = fun_ext (λ i. alone_by t i f None (i == t) refl (none i))

-- ---- what is stored

same_store : {a b : Stacks} {c d : Tables} {m n : MutexTable} {k l : LockTables} {ports : PortNames} {mail : Mail} → a ≡ b → c ≡ d → m ≡ n → k ≡ l → ◌≡◌ {A = Store} (record { cleanups = a; keys = c; mutexes = m; rw_locks = k; ports = ports; mail = mail }) (record { cleanups = b; keys = d; mutexes = n; rw_locks = l; ports = ports; mail = mail })
same_store {ports = ports} {mail = mail} p q r o = λ i. record { cleanups = p i; keys = q i; mutexes = r i; rw_locks = o i; ports = ports; mail = mail }

same_locks : {j : ℕ → Bool} {v w : ℕ → Option ℕ} {f g : ℕ → ℕ → Bool} {m n : ℕ → ℕ} → v ≡ w → f ≡ g → m ≡ n → ◌≡◌ {A = LockTables} (record { initialised = j; writer = v; reads = f; readers = m }) (record { initialised = j; writer = w; reads = g; readers = n })
same_locks {j = j} p q r = λ i. record { initialised = j; writer = p i; reads = q i; readers = r i }

-- the mutexes of one thread, after another gave its own back
only-mutex : (t u : ℕ) (x : Mutex) → u ≢ t → (if is_anothers t (if has u x then free_mutex else x) then free_mutex else (if has u x then free_mutex else x)) ≡ (if is_anothers t x then free_mutex else x)
only-mutex t u None apart = refl
only-mutex t u (Some None) apart = refl
only-mutex t u (Some (Some o)) apart = by_owner (o.owner == u) (o.owner == t) refl refl
  where
    by_owner : (his mine : Bool) → (o.owner == u) ≡ his → (o.owner == t) ≡ mine → (if is_anothers t (if his then free_mutex else Some (Some o)) then free_mutex else (if his then free_mutex else Some (Some o))) ≡ (if not mine then free_mutex else Some (Some o))
    by_owner true true is same = absurd (apart (sym (same_means o.owner u is) ∙ same_means o.owner t same))
    by_owner true false is other = refl
    by_owner false mine is e = ap (λ (b : Bool). if not b then free_mutex else Some (Some o)) e

-- who writes, and whether one thread reads
only-writer : (t u : ℕ) (w : Option ℕ) → u ≢ t → (if is_one t (without_slot u w) then without_slot u w else None) ≡ (if is_one t w then w else None)
only-writer t u None apart = refl
only-writer t u (Some o) apart = by_writer (o == u) (o == t) refl refl
  where
    by_writer : (his mine : Bool) → (o == u) ≡ his → (o == t) ≡ mine → (if is_one t (if his then None else Some o) then (if his then None else Some o) else None) ≡ (if mine then Some o else None)
    by_writer true true is same = absurd (apart (sym (same_means o u is) ∙ same_means o t same))
    by_writer true false is other = refl
    by_writer false mine is e = ap (λ (b : Bool). if b then Some o else None) e

reads_by : (t u i : ℕ) (f : ℕ → Bool) (b : Bool) → u ≢ t → (i == t) ≡ b → (b && put f u false i) ≡ (b && f i)
reads_by t u i f true apart is = put_other f u false i (λ same. apart (sym same ∙ same_means i t is))
reads_by t u i f false apart is = refl

only-locks : (t u : ℕ) (x : LockTables) → u ≢ t → locks_of_only t (locks_left u x) ≡ locks_of_only t x
only-locks t u x apart = same_locks
    (fun_ext (λ l. only-writer t u (x.writer l) apart))
    (fun_ext (λ l. fun_ext (λ i. reads_by t u i (x.reads l) (i == t) apart refl)))
    (fun_ext (λ l. ap (λ (b : Bool). if b then 1 else 0) (put_other (x.reads l) u false t (λ same. apart (sym same)))))

only-store : (t u : ℕ) (s : Store) → u ≢ t → store_of_only t (store_without u s) ≡ store_of_only t s
only-store t u s apart = same_store
    (fun_ext (λ i. only_by t u i s.cleanups [] [] (i == t) apart refl))
    (ap (λ (v : ℕ → ℕ → ℤ). record { keys = s.keys.keys; values = v }) (fun_ext (λ k. fun_ext (λ i. only_by t u i (s.keys.values k) (pos 0) (pos 0) (i == t) apart refl))))
    (fun_ext (λ m. only-mutex t u (s.mutexes m) apart))
    (only-locks t u s.rw_locks apart)

-- where nobody else has anything
own-mutex : (t : ℕ) (x : Mutex) → ((i : ℕ) → i ≢ t → has i x ≡ false) → (if is_anothers t x then free_mutex else x) ≡ x
own-mutex t None none = refl
own-mutex t (Some None) none = refl
own-mutex t (Some (Some o)) none = by_owner (o.owner == t) refl
  where
    by_owner : (mine : Bool) → (o.owner == t) ≡ mine → (if not mine then free_mutex else Some (Some o)) ≡ Some (Some o)
    by_owner true is = refl
    by_owner false is = absurd (cc (same_self o.owner, none o.owner (same_fails o.owner t is)))

own-writer : (t : ℕ) (w : Option ℕ) → ((i : ℕ) → i ≢ t → is_one i w ≡ false) → (if is_one t w then w else None) ≡ w
own-writer t None none = refl
own-writer t (Some o) none = by_writer (o == t) refl
  where
    by_writer : (mine : Bool) → (o == t) ≡ mine → (if mine then Some o else None) ≡ Some o
    by_writer true is = refl
    by_writer false is = absurd (cc (same_self o, none o (same_fails o t is)))

own-reads : (t i : ℕ) (f : ℕ → Bool) (b : Bool) → (i == t) ≡ b → (i ≢ t → f i ≡ false) → (b && f i) ≡ f i
own-reads t i f true is none = refl
own-reads t i f false is none = sym (none (same_fails i t is))

only-stored : (t : ℕ) (s : Store) → ((i : ℕ) → i ≢ t → HasNothing s i) → ((l : ℕ) → s.rw_locks.readers l ≡ (if s.rw_locks.reads l t then 1 else 0)) → store_of_only t s ≡ s
only-stored t s nothing counted = same_store
    (fun_ext (λ i. alone_by t i s.cleanups [] (i == t) refl (λ apart. (nothing i apart).cleanups)))
    (ap (λ (v : ℕ → ℕ → ℤ). record { keys = s.keys.keys; values = v }) (fun_ext (λ k. fun_ext (λ i. alone_by t i (s.keys.values k) (pos 0) (i == t) refl (λ apart. (nothing i apart).values k)))))
    (fun_ext (λ m. own-mutex t (s.mutexes m) (λ i apart. (nothing i apart).mutexes m)))
    (same_locks
    (fun_ext (λ l. own-writer t (s.rw_locks.writer l) (λ i apart. (held l i apart).0)))
    (fun_ext (λ l. fun_ext (λ i. own-reads t i (s.rw_locks.reads l) (i == t) refl (λ apart. (held l i apart).1))))
    (fun_ext (λ l. sym (counted l))))
  where
    held : (l i : ℕ) → i ≢ t → (is_one i (s.rw_locks.writer l) ≡ false) × (s.rw_locks.reads l i ≡ false)
    held l i apart = neither (is_one i (s.rw_locks.writer l)) (s.rw_locks.reads l i) ((nothing i apart).locks l)

-- another thread that is gone would have vanished
vanish-removed : {P S H : Type 0} (t u : ℕ) (k : Control P S H) → u ≢ t → vanish_all_but t (removes u k) ≡ vanish_all_but t k
unfolding vanish_all_but leaves_queue forgets
vanish-removed {S = S} t u k apart =
    ap₂ (λ (known : ℕ → Option Entry) (progress : ℕ → Option (Progress S)). record k { threads = record k.threads { known = known; progress = progress; standing = λ q. [] }; events = all_unclaimed k.events; conditions = all_seats_left k.conditions; barriers = all_withdrawn k.barriers })
    (only-put t u k.threads.known None apart) (only-put t u k.threads.progress None apart)

-- ---- one thread of a queue

stays : (u : ℕ) (r : Option ℕ) → ((t : ℕ) → r ≡ Some t → u ≢ t) → other_than u r ≡ r
stays u None apart = refl
stays u (Some t) apart = rw (not_same t u (λ same. apart t refl (sym same))) refl

-- a queue with one row less is shorter, and an empty one stays empty
shorter : (q : Queue) (s : ℕ) (x y : QueuesOf) → queue_of s x ≡ Some q → y ≡ without s x → length (rows_of q y) < length (rows_of q x)
shorter q s x y stands is =
    let n : length (rows_of q y) ≡ length (delete s (rows_of q x)) = ap (λ (k : QueuesOf). length (rows_of q k)) is ∙ ap (λ (l : List Ranked). length l) (rows_without q s x) in
    omega (arith, length-delete s (rows_of q x), count-present s (rows_of q x) (holds-queue_of q s x stands))

still_empty : (q : Queue) (s : ℕ) (x y : QueuesOf) → y ≡ without s x → rows_of q x ≡ [] → rows_of q y ≡ []
still_empty q s x y is none = ap (rows_of q) is ∙ rows_without q s x ∙ ap (delete s) none

module _ {P S H : Type 0} (w v : WorldOf P S H) (u : ℕ) (q : Queue) (whole : WellFormed w) (known : IsKnown w.threads u) (stands : IsIn q w.threads u)
    (queues : IfSome (slot_of w.threads.records u) (λ s. v.threads.queues ≡ without s w.threads.queues)) where
  slot : (s : ℕ) × (slot_of w.threads.records u ≡ Some s)
  slot = known_slot (slot_of w.threads.records u) known

  place : queue_of slot.0 w.threads.queues ≡ Some q
  place = is_in w q u slot.0 stands slot.1

  queues_are : v.threads.queues ≡ without slot.0 w.threads.queues
  queues_are = subst (λ (o : Option ℕ). IfSome o (λ s. v.threads.queues ≡ without s w.threads.queues)) slot.1 queues

  -- its queue is shorter
  pub vanish_less : length (rows_of q v.threads.queues) < length (rows_of q w.threads.queues)
  vanish_less = shorter q slot.0 w.threads.queues v.threads.queues place queues_are

  -- it does not run
  other : (t : ℕ) → w.scheduler.running ≡ Some t → u ≢ t
  other t is same =
      let nowhere : queue_of slot.0 w.threads.queues ≡ None = (runner_runs w u slot.0 whole (is ∙ ap Some (sym same)) slot.1).nowhere in
      let both : Some q ≡ None = sym place ∙ nowhere in
      cc

  module _ (sound : IsSound v.threads) (others : (i : ℕ) → tid_at w.threads.records i ≢ u → view v.threads i ≡ view w.threads i) (threads : IfSome (slot_of w.threads.records u) (λ s. RemovesThread w.threads.records v.threads.records s)) (shows : (k : Control P S H) → Shows w k → Shows v (removes u k)) (store : store_of v.store ≡ store_without u (store_of w.store)) (same : v ≡ record w { threads = v.threads; store = v.store }) where
    gone : RemovesThread w.threads.records v.threads.records slot.0
    gone = subst (λ (o : Option ℕ). IfSome o (λ s. RemovesThread w.threads.records v.threads.records s)) slot.1 threads

    runs : v.scheduler.running ≡ other_than u w.scheduler.running
    runs = ap (λ (k : WorldOf P S H). k.scheduler.running) same ∙ sym (stays u w.scheduler.running other)

    -- a thread of a queue vanishes
    pub vanish_one : Vanishing w v
    vanish_one = record {
      whole = gone_whole w v u slot.0 whole slot.1 runs others gone store (ap (λ (k : WorldOf P S H). k.attributes) same) (ap (λ (x : QueuesOf). x.top) queues_are) sound;
      shows = λ t is k sh. record { rest = removes u k; shows = shows k sh; same = vanish-removed t u k (other t is) };
      made = gone.made;
      ranks = ranks_left w.threads v.threads u known queues;
      empty = λ p none. still_empty p slot.0 w.threads.queues v.threads.queues queues_are none;
      store = λ t is. ap (store_of_only t) store ∙ only-store t u (store_of w.store) (other t is);
      same = same;
    }

-- ---- one after another

module _ {P S H : Type 0} where
  -- nobody vanishes
  pub vanish_none : (w : WorldOf P S H) → WellFormed w → Vanishing w w
  vanish_none w whole = record {
    whole = whole;
    shows = λ t is k sh. record { rest = k; shows = sh; same = refl };
    made = refl;
    ranks = ranks_none w.threads;
    empty = λ q none. none;
    store = λ t is. refl;
    same = refl;
  }

  pub vanish_then : (u w v : WorldOf P S H) → Vanishing u w → Vanishing w v → Vanishing u v
  vanish_then u w v a b = record {
    whole = b.whole;
    shows = λ t is k sh. (
        let x : ShowsRest t w k = a.shows t is k sh in
        let y : ShowsRest t v x.rest = b.shows t (ap (λ (z : WorldOf P S H). z.scheduler.running) a.same ∙ is) x.rest x.shows in
        record { rest = y.rest; shows = y.shows; same = y.same ∙ x.same });
    made = b.made ∙ a.made;
    ranks = ranks_then 0 u.threads w.threads v.threads a.ranks b.ranks;
    empty = λ q none. b.empty q (a.empty q none);
    store = λ t is. b.store t (ap (λ (z : WorldOf P S H). z.scheduler.running) a.same ∙ is) ∙ a.store t is;
    same = b.same ∙ ap (λ (z : WorldOf P S H). record z { threads = v.threads; store = v.store }) a.same;
  }

-- ---- one is left

place_none : (s : ThreadState) (suspended : Bool) → place_for s suspended ≡ None → s ≡ state.Running
place_none s true h = absurd (cc h)
place_none state.Running false h = refl
place_none state.New false h = absurd (cc h)
place_none state.Ready false h = absurd (cc h)
place_none state.Waiting false h = absurd (cc h)
place_none state.Dead false h = absurd (cc h)

-- who stands nowhere runs
nobody_by : (r : Option ℕ) (t i : ℕ) (o : Option Entry) (p : Option Queue) (b : Option Blocked) → r ≡ Some t → i ≢ 0 → i ≢ t → tid_of o ≡ i → p ≡ None → FitsEntry r o p b → ⊥
nobody_by r t i None p b is some apart named none f = some (sym named)
nobody_by r t i (Some e) p b is some apart named none f =
    let runs : r ≡ Some e.tid.0 = f.named (place_none e.state e.suspended (sym f.placed ∙ none)) in
    apart (sym named ∙ some_is (sym runs ∙ is))

module _ {P S H : Type 0} (w : WorldOf P S H) (t : ℕ) (whole : WellFormed w) (is : w.scheduler.running ≡ Some t) (none : (q : Queue) → rows_of q w.threads.queues ≡ []) where
  nowhere : (s : ℕ) → queue_of s w.threads.queues ≡ None
  nowhere s = queue-nowhere s w.threads.queues (λ q. ap (holds s) (none q))

  nobody_at : (i s : ℕ) → i ≢ t → slot_of w.threads.records i ≡ Some s → ⊥
  unfolding tid_at
  nobody_at i s apart e =
      nobody_by w.scheduler.running t i (entry_at w.threads.records s) (view w.threads s).place (view w.threads s).blocked is
      (λ zero. used w.threads i s whole.sound e (name_is w.threads i s whole.sound e ∙ zero)) apart (name_is w.threads i s whole.sound e) (nowhere s) (whole.fits s)

  nobody_by_slot : (i : ℕ) (o : Option ℕ) → i ≢ t → slot_of w.threads.records i ≡ o → o ≡ None
  nobody_by_slot i None apart e = refl
  nobody_by_slot i (Some s) apart e = absurd (nobody_at i s apart e)

  -- nobody else is in the system
  nobody : (i : ℕ) → i ≢ t → slot_of w.threads.records i ≡ None
  nobody i apart = nobody_by_slot i (slot_of w.threads.records i) apart refl

  -- so nobody else has stored something
  pub rest_store : ReadsAlone w t → store_of_only t (store_of w.store) ≡ store_of w.store
  rest_store counted =
      let nothing : (i : ℕ) → i ≢ t → HasNothing (store_of w.store) i = λ i apart. whole.stored i (ap lives (sym (not_here w.threads i (nobody i apart)))) in
      only-stored t (store_of w.store) nothing (counted nobody (spare_nothing w whole))

  -- so nothing vanishes but the claims, the seats and the arrivals
  vanish_rest : (e : RingsOf) → events_of e ≡ all_unclaimed (events_of w.events) → (c : List Condition) → conditions_of c ≡ all_seats_left (conditions_of w.conditions) → (b : List (Option Barrier)) → barriers_of b ≡ all_withdrawn (barriers_of w.barriers) → (k : Control P S H) → Shows w k → Shows (record w { events = e; conditions = c; barriers = b }) (vanish_all_but t k)
  unfolding vanish_all_but shown order
  vanish_rest e unclaimed c left b withdrawn k sh = record {
    program = sh.program;
    shared = sh.shared;
    threads = record {
      made = sh.threads.made;
      known = only-alone t k.threads.known (λ i apart. sym (not_known w.threads k i (nobody i apart) sh.threads)) ∙ sh.threads.known;
      progress = only-alone t k.threads.progress (λ i apart. sym (no_progress w.threads k i (nobody i apart) sh.threads)) ∙ sh.threads.progress;
      standing = λ q. sym (ap (map (named_row (tid_at w.threads.records))) (none q));
      top = sh.threads.top;
      waits = none_waits w.threads k whole.sound sh.threads (none queue.Ready) (only_at t k.threads.known) (only_at t k.threads.progress);
    };
    attributes = sh.attributes;
    events = ap all_unclaimed sh.events ∙ sym unclaimed;
    conditions = ap all_seats_left sh.conditions ∙ sym left;
    barriers = ap all_withdrawn sh.barriers ∙ sym withdrawn;
    kernel = sh.kernel;
    used = sh.used;
    scheduler = sh.scheduler;
  }

-- the five queues, one after another
module _ {P S H : Type 0} (u a b c d v : WorldOf P S H)
    (new : Vanishing u a) (no_new : rows_of queue.New a.threads.queues ≡ [])
    (ready : Vanishing a b) (no_ready : rows_of queue.Ready b.threads.queues ≡ [])
    (waiting : Vanishing b c) (no_waiting : rows_of queue.Waiting c.threads.queues ≡ [])
    (suspended : Vanishing c d) (no_suspended : rows_of queue.Suspended d.threads.queues ≡ [])
    (dead : Vanishing d v) (no_dead : rows_of queue.Dead v.threads.queues ≡ []) where
  pub vanish_all : Vanishing u v
  vanish_all = vanish_then u d v (vanish_then u c d (vanish_then u b c (vanish_then u a b new ready) waiting) suspended) dead

  none : (q : Queue) → rows_of q v.threads.queues ≡ []
  none queue.New = dead.empty queue.New (suspended.empty queue.New (waiting.empty queue.New (ready.empty queue.New no_new)))
  none queue.Ready = dead.empty queue.Ready (suspended.empty queue.Ready (waiting.empty queue.Ready no_ready))
  none queue.Waiting = dead.empty queue.Waiting (suspended.empty queue.Waiting no_waiting)
  none queue.Suspended = dead.empty queue.Suspended no_suspended
  none queue.Dead = no_dead

  -- who runs still does
  pub vanish_runs : (t : ℕ) → u.scheduler.running ≡ Some t → v.scheduler.running ≡ Some t
  vanish_runs t is = ap (λ (z : WorldOf P S H). z.scheduler.running) vanish_all.same ∙ is

  pub vanish_store : (t : ℕ) → u.scheduler.running ≡ Some t → ReadsAlone v t → store_of v.store ≡ store_of_only t (store_of u.store)
  vanish_store t is counted = sym (rest_store v t vanish_all.whole (vanish_runs t is) none counted) ∙ vanish_all.store t is

  pub vanish_shows : (e : RingsOf) → events_of e ≡ all_unclaimed (events_of v.events) → (l : List Condition) → conditions_of l ≡ all_seats_left (conditions_of v.conditions) → (b : List (Option Barrier)) → barriers_of b ≡ all_withdrawn (barriers_of v.barriers) → (t : ℕ) → u.scheduler.running ≡ Some t → (k : Control P S H) → Shows u k → Shows (record v { events = e; conditions = l; barriers = b }) (vanish_all_but t k)
  vanish_shows e unclaimed l left b withdrawn t is k sh =
      let x : ShowsRest t v k = vanish_all.shows t is k sh in
      subst (λ (j : Control P S H). Shows (record v { events = e; conditions = l; barriers = b }) j) x.same (vanish_rest v t vanish_all.whole (vanish_runs t is) none e unclaimed l left b withdrawn x.rest x.shows)
