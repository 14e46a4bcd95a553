-- Moves of a thread between its states keep a world whole.
use Rattle.std.proofs.Common.{◌≡◌, ◌≢◌, ◌==◌, ◌||◌, not, ℕ, ℤ, Bool, true, false, if◌then◌else◌, IsSome, IfSome, Option, Some, None, option_map, refl, sym, ◌∙◌, ap, subst}
use Rattle.pth_base.specs.declared.thread.ThreadState.{ThreadState}
use Rattle.pth_base.specs.declared.thread.ThreadState.TheVariants as state
use Rattle.pth_base.specs.Naming.{by_slot, seen}
use Rattle.pth_base.proofs.Namings.{seen_at}
use Rattle.pth_base.proofs.Tables.{put_here, put_other, same_means, same_fails, same_self, not_same}
use Rattle.pth_queue.specs.declared.queue.Queue.{Queue}
use Rattle.pth_queue.specs.declared.queue.Queue.TheVariants as queue
use Rattle.pth_queue.specs.Queues.{queue_of, without, IsNowhere}
use Rattle.pth_threads.specs.Attributes.{AttrsOf}
use Rattle.pth_threads.specs.Threads.{slot_of, tid_at, tid_of, entry_at, changed, RemovesThread}
use Rattle.pth_threads.specs.declared.entry.Entry.{Entry}
use Rattle.pth_threads.specs.declared.entry.Change.TheVariants as change
use Rattle.pth_model.specs.declared.blocked.Blocked.{Blocked}
use Rattle.pth_model.specs.Changes.{queue_for, or_nobody}
use Rattle.pth_world.specs.World.{WorldOf, ThreadsBySlot, entry_in}
use Rattle.pth_model.specs.Ending.{other_than}
use Rattle.pth_model.specs.Living.{is_dead}
use Rattle.pth_model.specs.Resources.{store_without}
use Rattle.pth_model.specs.Store.{Store}
use Rattle.pth_model.specs.ThreadControl.{may_run}
use Rattle.pth_world.specs.Store.{StoreOf, store_of, HasNothing}
use Rattle.pth_world.specs.Sound.{IsSound, IsKnown, IsAlive, HasPrio, lives}
use Rattle.pth_world.specs.WellFormed.{View, view, Fits, FitsEntry, WellFormed, WellFormedBut, IsRunner, IsIn, IsBefore, Newly, Waiting, IsAbout, CanSuspend, MayBlock, MayStandIn, StoresAlive, WaitsToRun, OfNew, OfReady, place_for}
use Rattle.pth_world.specs.Touches.{Touches, SameThreads, view_changed, view_placed, view_blocked}
use Rattle.pth_world.proofs.Slots.{name_is, used, some_is}
use Rattle.pth_world.proofs.Places.{queue-without}
use Rattle.pth_world.proofs.Stores.{nothing_left, nothing_without}

-- one change of a thread after another
pub two_touches : {S : Type 0} (u v w : ThreadsBySlot S) (t : ℕ) (f g : View → View) → SameThreads u v → Touches u v t f → Touches v w t g → Touches u w t (λ k. g (f k))
two_touches u v w t f g same a b = record {
  own = λ i e. b.own i (ap (λ (k : ℕ → Option ℕ). k t) same.slots ∙ e) ∙ ap g (a.own i e);
  others = λ i apart. b.others i (λ at. apart (ap (λ (k : ℕ → ℕ). k i) (sym same.tids) ∙ at)) ∙ a.others i apart;
  top = b.top ∙ a.top;
}

pub same_twice : {S : Type 0} (u v w : ThreadsBySlot S) → SameThreads u v → SameThreads v w → SameThreads u w
same_twice u v w a b = record { slots = b.slots ∙ a.slots; tids = b.tids ∙ a.tids; made = b.made ∙ a.made }

-- the queues, or the programs, changed alone
pub queues_alone : {P S H : Type 0} (w m : WorldOf P S H) → m ≡ record w { threads = record w.threads { queues = m.threads.queues; waits = m.threads.waits } } → SameThreads w.threads m.threads
queues_alone w m same = record { slots = ap (λ (k : WorldOf _ _ _). slot_of k.threads.records) same; tids = ap (λ (k : WorldOf _ _ _). tid_at k.threads.records) same; made = ap (λ (k : WorldOf _ _ _). k.threads.records.made) same }

-- the threads changed alone
pub threads_alone : {P S H : Type 0} (w v : WorldOf P S H) (x : ThreadsBySlot S) → v ≡ record w { threads = x } → v ≡ record w { threads = v.threads }
threads_alone {P} {S} {H} w v x same = same ∙ ap (λ (y : ThreadsBySlot S). record w { threads = y }) (sym (ap (λ (k : WorldOf P S H). k.threads) same))

pub threads_then : {P S H : Type 0} (u v w : WorldOf P S H) → v ≡ record u { threads = v.threads } → w ≡ record v { threads = w.threads } → w ≡ record u { threads = w.threads }
threads_then {P} {S} {H} u v w a b = b ∙ ap (λ (k : WorldOf P S H). record k { threads = w.threads }) a

-- and then one of them runs no longer
pub stopped_then : {P S H : Type 0} (t : ℕ) (u v w : WorldOf P S H) → v ≡ record u { threads = v.threads } → w ≡ record v { scheduler = record v.scheduler { running = other_than t v.scheduler.running } } → w ≡ record u { threads = w.threads; scheduler = record u.scheduler { running = other_than t u.scheduler.running } }
stopped_then {P} {S} {H} t u v w moved stopped =
    stopped
    ∙ ap (λ (k : WorldOf P S H). record k { scheduler = record k.scheduler { running = other_than t k.scheduler.running } }) moved
    ∙ ap (λ (x : ThreadsBySlot S). record u { threads = x; scheduler = record u.scheduler { running = other_than t u.scheduler.running } }) (sym (ap (λ (k : WorldOf P S H). k.threads) stopped))

-- ---- who has something stored

-- the record of another thread than the one that changed
pub entry_kept : {S : Type 0} (w v : ThreadsBySlot S) (t r : ℕ) → IsSound w → slot_of v.records r ≡ slot_of w.records r → ((i : ℕ) → tid_at w.records i ≢ t → view v i ≡ view w i) → r ≢ t → entry_in v r ≡ entry_in w r
unfolding seen
entry_kept w v t r sound same others apart = ap (by_slot None (entry_at v.records)) same ∙ by_option (slot_of w.records r) refl
  where
    by_option : (o : Option ℕ) → slot_of w.records r ≡ o → by_slot None (entry_at v.records) o ≡ by_slot None (entry_at w.records) o
    by_option None e = refl
    by_option (Some i) e = ap (λ (k : View). k.entry) (others i (λ at. apart (sym (name_is w r i sound e) ∙ at)))

stores_as : {P S H : Type 0} (w v : WorldOf P S H) (r : ℕ) → v.store ≡ w.store → entry_in v.threads r ≡ entry_in w.threads r → StoresAlive w r → StoresAlive v r
stores_as w v r store entry stored dead = subst (λ (y : StoreOf). HasNothing (store_of y) r) (sym store) (stored (sym (ap lives entry) ∙ dead))

-- by its slot
own_stored : {P S H : Type 0} (w : WorldOf P S H) (t u : ℕ) → WellFormed w → slot_of w.threads.records t ≡ Some u → lives (view w.threads u).entry ≡ false → HasNothing (store_of w.store) t
own_stored w t u whole e dead = whole.stored t (ap lives (seen_at None (slot_of w.threads.records) (entry_at w.threads.records) t u e) ∙ dead)

-- a state that is not that of a dead thread
lives_set : (s : ThreadState) (o : Option Entry) → is_dead s ≡ false → lives (option_map (changed (change.State s)) o) ≡ false → lives o ≡ false
unfolding changed
lives_set s None alive dead = dead
lives_set s (Some d) alive dead =
    let both : true ≡ false = sym (ap not alive) ∙ dead in
    absurd (cc both)

-- where thread t left, with what it stored
left_stored : {P S H : Type 0} (w v : WorldOf P S H) (t r : ℕ) → IsSound w.threads → store_of v.store ≡ store_without t (store_of w.store) → ((i : ℕ) → i ≢ t → slot_of v.threads.records i ≡ slot_of w.threads.records i) → ((i : ℕ) → tid_at w.threads.records i ≢ t → view v.threads i ≡ view w.threads i) → (r ≢ t → StoresAlive w r) → StoresAlive v r
left_stored w v t r sound store slots others stored dead = subst (λ (s : Store). HasNothing s r) (sym store) (by_own (r == t) refl)
  where
    by_own : (b : Bool) → (r == t) ≡ b → HasNothing (store_without t (store_of w.store)) r
    by_own true is = subst (λ (n : ℕ). HasNothing (store_without t (store_of w.store)) n) (sym (same_means r t is)) (nothing_left (store_of w.store) t)
    by_own false is =
        let apart = same_fails r t is in
        nothing_without (store_of w.store) t r (stored apart (sym (ap lives (entry_kept w.threads v.threads t r sound (slots r apart) others apart)) ∙ dead))

-- a change of a thread that leaves it fitting, and the others
module _ {P S H : Type 0} (w v : WorldOf P S H) (t u : ℕ) (g : View → View) (whole : WellFormed w) (e : slot_of w.threads.records t ≡ Some u) (touches : Touches w.threads v.threads t g) (own : Fits v.scheduler.running (g (view w.threads u))) (others : (i : ℕ) → tid_at w.threads.records i ≢ t → Fits w.scheduler.running (view w.threads i) → Fits v.scheduler.running (view w.threads i)) where
  at_slot : (i : ℕ) → tid_at w.threads.records i ≡ t → i ≡ u
  at_slot i is = some_is (sym (whole.sound.tied.slot i (λ zero. used w.threads t u whole.sound e (name_is w.threads t u whole.sound e ∙ sym is ∙ zero))) ∙ ap (slot_of w.threads.records) is ∙ e)

  fits_by : (i : ℕ) (b : Bool) → (tid_at w.threads.records i == t) ≡ b → Fits v.scheduler.running (view v.threads i)
  fits_by i true is = subst (λ (k : ℕ). Fits v.scheduler.running (view v.threads k)) (sym (at_slot i (same_means _ t is))) (subst (λ (k : View). Fits v.scheduler.running k) (sym (touches.own u e)) own)
  fits_by i false is = subst (λ (k : View). Fits v.scheduler.running k) (sym (touches.others i (same_fails _ t is))) (others i (same_fails _ t is) (whole.fits i))

  pub whole_from : IsSound v.threads → IsRunner v → slot_of v.threads.records ≡ slot_of w.threads.records → v.store ≡ w.store → v.attributes ≡ w.attributes → (lives (g (view w.threads u)).entry ≡ false → HasNothing (store_of w.store) t) → WellFormed v
  whole_from sound runner slots store objects stored = record {
    sound = sound;
    fits = λ i. fits_by i (tid_at w.threads.records i == t) refl;
    runner = runner;
    stored = λ r. stored_by r (r == t) refl;
    top = ap (λ (x : AttrsOf). x.top) objects ∙ whole.top ∙ sym touches.top;
  }
    where
      stored_by : (r : ℕ) (b : Bool) → (r == t) ≡ b → StoresAlive v r
      stored_by r true is dead =
          let own : entry_in v.threads t ≡ (g (view w.threads u)).entry = seen_at None (slot_of v.threads.records) (entry_at v.threads.records) t u (ap (λ (k : ℕ → Option ℕ). k t) slots ∙ e) ∙ ap (λ (k : View). k.entry) (touches.own u e) in
          let gone : lives (g (view w.threads u)).entry ≡ false = ap lives (sym own) ∙ ap (λ (n : ℕ). lives (entry_in v.threads n)) (sym (same_means r t is)) ∙ dead in
          subst (λ (n : ℕ). HasNothing (store_of v.store) n) (sym (same_means r t is)) (subst (λ (y : StoreOf). HasNothing (store_of y) t) (sym store) (stored gone))
      stored_by r false is dead = stores_as w v r store (entry_kept w.threads v.threads t r whole.sound (ap (λ (k : ℕ → Option ℕ). k r) slots) touches.others (same_fails r t is)) (whole.stored r) dead

if_some : {A : Type 0} (P Q : A → Type 0) (o : Option A) → ((x : A) → P x → Q x) → IfSome o P → IfSome o Q
if_some P Q (Some x) f h = f x h
if_some P Q None f h = h

-- the one that runs is still in the system
pub runner_kept : {P S H : Type 0} (w v : WorldOf P S H) → slot_of v.threads.records ≡ slot_of w.threads.records → v.scheduler.running ≡ w.scheduler.running → IsRunner w → IsRunner v
runner_kept w v slots running r = rw running (if_some (IsKnown w.threads) (IsKnown v.threads) w.scheduler.running (λ t known. rw slots known) r)

-- where nobody else is taken for the one that runs
fits_same : (r q : Option ℕ) (k : View) → q ≡ r → Fits r k → Fits q k
fits_same r q k e h = rw e h

before_is : (q : Queue) (s : ThreadState) (suspended : Bool) → IsBefore q → Some q ≡ place_for s suspended → (suspended ≡ false) × (s ≢ state.Running)
before_is q s true Newly h = absurd (cc h)
before_is q s true Waiting h = absurd (cc h)
before_is q state.Running false b h = absurd (cc h)
before_is q state.New false b h = (refl, λ e. absurd (cc e))
before_is q state.Ready false b h = (refl, λ e. absurd (cc e))
before_is q state.Waiting false b h = (refl, λ e. absurd (cc e))
before_is q state.Dead false b h = (refl, λ e. absurd (cc e))

-- one that is new or waits may be ready
ready_fits : (r : Option ℕ) (q : Queue) (o : Option Entry) (p : Option Queue) (h : Option Blocked) → IsBefore q → p ≡ Some q → FitsEntry r o p h → FitsEntry r (option_map (changed (change.State state.Ready)) o) (Some queue.Ready) h
unfolding changed
ready_fits r q None p h b e f = tt
ready_fits r q (Some d) p h b e f =
    let k = before_is q d.state d.suspended b (sym e ∙ f.placed) in
    record {
      prio = f.prio;
      placed = rw k.0 refl;
      runs = λ is. absurd (k.1 (f.runs is));
      named = λ is. absurd (cc is);
      awake = λ is. absurd (cc (is, k.0));
      calls = f.calls;
    }

pub readied_fits : (r : Option ℕ) (q : Queue) (v : View) → IsBefore q → v.place ≡ Some q → Fits r v → Fits r (view_placed (Some queue.Ready) (view_changed (change.State state.Ready) (view_placed None v)))
readied_fits r q v b e f = ready_fits r q v.entry v.place v.blocked b e f

-- the slot of a thread in the system
pub known_slot : (o : Option ℕ) → IsSome o → (u : ℕ) × (o ≡ Some u)
known_slot (Some u) known = (u, refl)
known_slot None known = absurd (cc known)

pub is_in : {P S H : Type 0} (w : WorldOf P S H) (q : Queue) (t u : ℕ) → IsIn q w.threads t → slot_of w.threads.records t ≡ Some u → queue_of u w.threads.queues ≡ Some q
is_in w q t u h e = subst (λ (o : Option ℕ). IfSome o (λ i. queue_of i w.threads.queues ≡ Some q)) e h

pub make_ready_whole : {P S H : Type 0} (w m v : WorldOf P S H) (t : ℕ) (q : Queue) → WellFormed w → IsKnown w.threads t → IsBefore q → IsIn q w.threads t → Touches w.threads m.threads t (view_placed None) → m ≡ record w { threads = record w.threads { queues = m.threads.queues; waits = m.threads.waits } } → Touches m.threads v.threads t (λ k. view_placed (Some queue.Ready) (view_changed (change.State state.Ready) k)) → SameThreads m.threads v.threads → v.scheduler.running ≡ m.scheduler.running → v.store ≡ m.store → v.attributes ≡ m.attributes → IsSound v.threads → WellFormed v
make_ready_whole w m v t q whole known b stands left same entered kept runs store objects sound =
    let slot = known_slot (slot_of w.threads.records t) known in
    let all = queues_alone w m same in
    let running : v.scheduler.running ≡ w.scheduler.running = runs ∙ ap (λ (k : WorldOf _ _ _). k.scheduler.running) same in
    let touches = two_touches w.threads m.threads v.threads t (view_placed None) (λ k. view_placed (Some queue.Ready) (view_changed (change.State state.Ready) k)) all left entered in
    whole_from w v t slot.0 _ whole slot.1 touches
    (fits_same w.scheduler.running v.scheduler.running _ running (readied_fits w.scheduler.running q (view w.threads slot.0) b (is_in w q t slot.0 stands slot.1) (whole.fits slot.0)))
    (λ i apart f. fits_same w.scheduler.running v.scheduler.running (view w.threads i) running f)
    sound (runner_kept w v (same_twice w.threads m.threads v.threads all kept).slots running whole.runner)
    (same_twice w.threads m.threads v.threads all kept).slots (store ∙ ap (λ (k : WorldOf _ _ _). k.store) same) (objects ∙ ap (λ (k : WorldOf _ _ _). k.attributes) same) (λ dead. own_stored w t slot.0 whole slot.1 (lives_set state.Ready (view w.threads slot.0).entry refl dead))

-- where nobody but t is taken for the one that runs
pub rerun_fits : (r q : Option ℕ) (t : ℕ) (o : Option Entry) (p : Option Queue) (h : Option Blocked) → IsAbout r t → IsAbout q t → tid_of o ≢ t → FitsEntry r o p h → FitsEntry q o p h
rerun_fits r q t None p h a b apart f = tt
rerun_fits r q t (Some e) p h a b apart f = record {
  prio = f.prio;
  placed = f.placed;
  runs = λ is. absurd (apart (b e.tid.0 is));
  named = λ is. absurd (apart (a e.tid.0 (f.named is)));
  awake = f.awake;
  calls = f.calls;
}

pub rerun_others : {P S H : Type 0} (w : WorldOf P S H) (q : Option ℕ) (t : ℕ) → IsAbout w.scheduler.running t → IsAbout q t → (i : ℕ) → tid_at w.threads.records i ≢ t → Fits w.scheduler.running (view w.threads i) → Fits q (view w.threads i)
unfolding tid_at
rerun_others w q t a b i apart f = rerun_fits w.scheduler.running q t (entry_at w.threads.records i) _ _ a b apart f

pub about_none : (t : ℕ) (r : Option ℕ) → r ≡ None → IsAbout r t
about_none t r none x is = absurd (cc (none, is))

pub about_some : (t : ℕ) (r : Option ℕ) → r ≡ Some t → IsAbout r t
about_some t r some x is = some_is (sym is ∙ some)

-- the record of a thread that runs
pub record IsRunning (t : ℕ) (v : View) : Type 0 where
  pub entry : Entry
  pub has : v.entry ≡ Some entry
  pub tid : entry.tid.0 ≡ t
  pub state : entry.state ≡ state.Running
  pub awake : entry.suspended ≡ false
  pub nowhere : v.place ≡ None

not_true : (b : Bool) → (b ≡ true → ⊥) → b ≡ false
not_true true h = absurd (h refl)
not_true false h = refl

running_at : (r : Option ℕ) (t : ℕ) (o : Option Entry) (p : Option Queue) (h : Option Blocked) → r ≡ Some t → tid_of o ≡ t → t ≢ 0 → FitsEntry r o p h → IsRunning t (record { entry = o; place = p; blocked = h })
running_at r t None p h is named some f = absurd (some (sym named))
running_at r t (Some e) p h is named some f =
    let running : e.state ≡ state.Running = f.runs (is ∙ ap Some (sym named)) in
    let awake : e.suspended ≡ false = not_true e.suspended (λ s. subst CanSuspend running (f.awake s)) in
    record { entry = e; has = refl; tid = named; state = running; awake = awake; nowhere = f.placed ∙ ap (λ (s : ThreadState). place_for s e.suspended) running ∙ ap (place_for state.Running) awake }

-- whoever runs is in the system, runs by its record, and stands nowhere
pub runner_runs : {P S H : Type 0} (w : WorldOf P S H) (t u : ℕ) → WellFormed w → w.scheduler.running ≡ Some t → slot_of w.threads.records t ≡ Some u → IsRunning t (view w.threads u)
unfolding tid_at
runner_runs w t u whole is e = running_at w.scheduler.running t (entry_at w.threads.records u) _ _ is (name_is w.threads t u whole.sound e) (λ zero. used w.threads t u whole.sound e (name_is w.threads t u whole.sound e ∙ zero)) (whole.fits u)

pub runner_known : {P S H : Type 0} (w : WorldOf P S H) (t : ℕ) → WellFormed w → w.scheduler.running ≡ Some t → IsKnown w.threads t
runner_known w t whole is = subst (λ (o : Option ℕ). IfSome o (IsKnown w.threads)) is whole.runner

-- it is ready again, or waits
back_by : (t : ℕ) (e : Entry) (o : Option Entry) (h : Option Blocked) → o ≡ Some e → e.suspended ≡ false → FitsEntry (Some t) o None h → FitsEntry None (option_map (changed (change.State state.Ready)) o) (Some queue.Ready) h
unfolding changed
back_by t e (Some d) h has awake f =
    let a : d.suspended ≡ false = cc (has, awake) in
    record { prio = f.prio; placed = rw a refl; runs = λ is. absurd (cc is); named = λ is. absurd (cc is); awake = λ is. absurd (cc (is, a)); calls = f.calls }
back_by t e None h has awake f = tt

waits_by : (t : ℕ) (e : Entry) (o : Option Entry) (h : Option Blocked) → o ≡ Some e → e.suspended ≡ false → FitsEntry (Some t) o None h → FitsEntry None (option_map (changed (change.State state.Waiting)) o) (Some queue.Waiting) h
unfolding changed
waits_by t e (Some d) h has awake f =
    let a : d.suspended ≡ false = cc (has, awake) in
    record { prio = f.prio; placed = rw a refl; runs = λ is. absurd (cc is); named = λ is. absurd (cc is); awake = λ is. absurd (cc (is, a)); calls = f.calls }
waits_by t e None h has awake f = tt

-- a ready thread runs
runs_by : (t n : ℕ) (o : Option Entry) (p : Option Queue) (h : Option Blocked) → p ≡ Some queue.Ready → tid_of o ≡ t → FitsEntry None o p h → FitsEntry (Some t) (option_map (changed (change.Dispatches n)) (option_map (changed (change.State state.Running)) o)) None h
unfolding changed
runs_by t n None p h stands named f = tt
runs_by t n (Some e) p h stands named f =
    let a : e.suspended ≡ false = ready_awake e.state e.suspended (sym stands ∙ f.placed) in
    record { prio = f.prio; placed = rw a refl; runs = λ is. refl; named = λ is. ap Some (sym named); awake = λ is. absurd (cc (is, a)); calls = f.calls }
  where
    ready_awake : (s : ThreadState) (b : Bool) → Some queue.Ready ≡ place_for s b → b ≡ false
    ready_awake s true h = absurd (cc h)
    ready_awake s false h = refl

module _ {P S H : Type 0} (w v : WorldOf P S H) (t : ℕ) (whole : WellFormed w) (is : w.scheduler.running ≡ Some t) (rests : v.scheduler.running ≡ None) (sound : IsSound v.threads) (slots : slot_of v.threads.records ≡ slot_of w.threads.records) (store : v.store ≡ w.store) (objects : v.attributes ≡ w.attributes) where
  slot_t : (u : ℕ) × (slot_of w.threads.records t ≡ Some u)
  slot_t = known_slot (slot_of w.threads.records t) (runner_known w t whole is)

  runs_t : IsRunning t (view w.threads slot_t.0)
  runs_t = runner_runs w t slot_t.0 whole is slot_t.1

  no_runner : IsRunner v
  no_runner = subst (λ (o : Option ℕ). IfSome o (IsKnown v.threads)) (sym rests) tt

  others_rest : (i : ℕ) → tid_at w.threads.records i ≢ t → Fits w.scheduler.running (view w.threads i) → Fits v.scheduler.running (view w.threads i)
  others_rest i apart f = rerun_others w v.scheduler.running t (about_some t w.scheduler.running is) (about_none t v.scheduler.running rests) i apart f

  own_fits : FitsEntry (Some t) (view w.threads slot_t.0).entry None (view w.threads slot_t.0).blocked
  own_fits = subst (λ (p : Option Queue). FitsEntry (Some t) (view w.threads slot_t.0).entry p (view w.threads slot_t.0).blocked) runs_t.nowhere (subst (λ (r : Option ℕ). Fits r (view w.threads slot_t.0)) is (whole.fits slot_t.0))

  pub back_whole : Touches w.threads v.threads t (λ k. view_placed (Some queue.Ready) (view_changed (change.State state.Ready) k)) → WellFormed v
  back_whole touches = whole_from w v t slot_t.0 _ whole slot_t.1 touches (fits_same None v.scheduler.running _ rests (back_by t runs_t.entry (view w.threads slot_t.0).entry (view w.threads slot_t.0).blocked runs_t.has runs_t.awake own_fits)) others_rest sound no_runner slots store objects (λ dead. own_stored w t slot_t.0 whole slot_t.1 (lives_set state.Ready (view w.threads slot_t.0).entry refl dead))

  pub waits_whole : Touches w.threads v.threads t (λ k. view_placed (Some queue.Waiting) (view_changed (change.State state.Waiting) k)) → WellFormed v
  waits_whole touches = whole_from w v t slot_t.0 _ whole slot_t.1 touches (fits_same None v.scheduler.running _ rests (waits_by t runs_t.entry (view w.threads slot_t.0).entry (view w.threads slot_t.0).blocked runs_t.has runs_t.awake own_fits)) others_rest sound no_runner slots store objects (λ dead. own_stored w t slot_t.0 whole slot_t.1 (lives_set state.Waiting (view w.threads slot_t.0).entry refl dead))

lives_counted : (n : ℕ) (o : Option Entry) → lives o ≡ lives (option_map (changed (change.Dispatches n)) o)
unfolding changed
lives_counted n (Some d) = refl
lives_counted n None = refl

-- a dispatch
pub runs_whole : {P S H : Type 0} (w v : WorldOf P S H) (t n : ℕ) → WellFormed w → IsKnown w.threads t → IsIn queue.Ready w.threads t → w.scheduler.running ≡ None → v.scheduler.running ≡ Some t → IsSound v.threads → slot_of v.threads.records ≡ slot_of w.threads.records → v.store ≡ w.store → v.attributes ≡ w.attributes → Touches w.threads v.threads t (λ k. view_changed (change.Dispatches n) (view_changed (change.State state.Running) (view_placed None k))) → WellFormed v
unfolding tid_at
runs_whole w v t n whole known stands nobody runs sound slots store objects touches =
    let slot = known_slot (slot_of w.threads.records t) known in
    let own : FitsEntry (Some t) (option_map (changed (change.Dispatches n)) (option_map (changed (change.State state.Running)) (entry_at w.threads.records slot.0))) None (view w.threads slot.0).blocked
    = runs_by t n (entry_at w.threads.records slot.0) _ _ (is_in w queue.Ready t slot.0 stands slot.1) (name_is w.threads t slot.0 whole.sound slot.1) (subst (λ (r : Option ℕ). Fits r (view w.threads slot.0)) nobody (whole.fits slot.0)) in
    whole_from w v t slot.0 _ whole slot.1 touches (fits_same (Some t) v.scheduler.running _ runs own)
    (λ i apart f. rerun_others w v.scheduler.running t (about_none t w.scheduler.running nobody) (about_some t v.scheduler.running runs) i apart f)
    sound (subst (λ (o : Option ℕ). IfSome o (IsKnown v.threads)) (sym runs) (rw slots known)) slots store objects
    (λ dead. own_stored w t slot.0 whole slot.1 (lives_set state.Running (view w.threads slot.0).entry refl (lives_counted n (option_map (changed (change.State state.Running)) (view w.threads slot.0).entry) ∙ dead)))

pub runner_nowhere : {P S H : Type 0} (w : WorldOf P S H) (t : ℕ) → WellFormed w → w.scheduler.running ≡ Some t → IfSome (slot_of w.threads.records t) (λ u. IsNowhere u w.threads.queues)
runner_nowhere w t whole is =
    let slot = known_slot (slot_of w.threads.records t) (runner_known w t whole is) in
    subst (λ (o : Option ℕ). IfSome o (λ u. IsNowhere u w.threads.queues)) (sym slot.1) (runner_runs w t slot.0 whole is slot.1).nowhere

-- a thread that stood nowhere stands nowhere in the same queues
pub nowhere_after : {P S H : Type 0} (w m : WorldOf P S H) (t : ℕ) → SameThreads w.threads m.threads → m.threads.queues ≡ w.threads.queues → IfSome (slot_of w.threads.records t) (λ u. IsNowhere u w.threads.queues) → IfSome (slot_of m.threads.records t) (λ u. IsNowhere u m.threads.queues)
nowhere_after w m t same queues h = rw (same.slots, queues) h

-- a thread that left its queue stands nowhere
pub left_nowhere : {P S H : Type 0} (w m : WorldOf P S H) (t : ℕ) → SameThreads w.threads m.threads → IfSome (slot_of w.threads.records t) (λ u. m.threads.queues ≡ without u w.threads.queues) → IfSome (slot_of m.threads.records t) (λ u. IsNowhere u m.threads.queues)
left_nowhere w m t same h = rw same.slots (if_some (λ u. m.threads.queues ≡ without u w.threads.queues) (λ u. IsNowhere u m.threads.queues) (slot_of w.threads.records t) (λ u is. ap (queue_of u) is ∙ queue-without u w.threads.queues) h)

-- a change of what a thread goes on with, which leaves it fitting
pub progress_whole : {P S H : Type 0} (w v : WorldOf P S H) (t u : ℕ) (g : View → View) → WellFormed w → slot_of w.threads.records t ≡ Some u → Touches w.threads v.threads t g → IsSound v.threads → slot_of v.threads.records ≡ slot_of w.threads.records → v.scheduler.running ≡ w.scheduler.running → v.store ≡ w.store → v.attributes ≡ w.attributes → ((r : Option ℕ) → Fits r (view w.threads u) → Fits r (g (view w.threads u))) → (lives (g (view w.threads u)).entry ≡ false → lives (view w.threads u).entry ≡ false) → WellFormed v
progress_whole w v t u g whole e touches sound slots running store objects fits alive =
    whole_from w v t u g whole e touches (fits_same w.scheduler.running v.scheduler.running (g (view w.threads u)) running (fits w.scheduler.running (whole.fits u)))
    (λ i apart f. fits_same w.scheduler.running v.scheduler.running (view w.threads i) running f)
    sound (runner_kept w v slots running whole.runner) slots store objects (λ dead. own_stored w t u whole e (alive dead))

blocked_entry : (r : Option ℕ) (o : Option Entry) (p : Option Queue) (h k : Option Blocked) → ((e : Entry) → o ≡ Some e → IfSome k (λ c. MayBlock e.tid.0 c)) → FitsEntry r o p h → FitsEntry r o p k
blocked_entry r None p h k calls f = tt
blocked_entry r (Some e) p h k calls f = record { prio = f.prio; placed = f.placed; runs = f.runs; named = f.named; awake = f.awake; calls = calls e refl }

-- no call suspends it
pub unblocked_fits : (r : Option ℕ) (v : View) → Fits r v → Fits r (view_blocked None v)
unblocked_fits r v f = blocked_entry r v.entry v.place v.blocked None (λ e is. tt) f

tid_of_some : (o : Option Entry) (e : Entry) → o ≡ Some e → tid_of o ≡ e.tid.0
tid_of_some o e is = ap tid_of is

-- a call that may suspend it does
pub blocked_fits : {P S H : Type 0} (w : WorldOf P S H) (t u : ℕ) → IsSound w.threads → slot_of w.threads.records t ≡ Some u → (h : Blocked) → MayBlock t h → (r : Option ℕ) → Fits r (view w.threads u) → Fits r (view_blocked (Some h) (view w.threads u))
unfolding tid_at
blocked_fits w t u sound e h may r f = blocked_entry r (entry_at w.threads.records u) _ _ (Some h) (λ d is. subst (λ (n : ℕ). MayBlock n h) (sym (name_is w.threads t u sound e) ∙ tid_of_some (entry_at w.threads.records u) d is) may) f

-- ---- ends of threads, whoever runs

other_by : (t u x : ℕ) (b : Bool) → (u == t) ≡ b → (if b then None else Some u) ≡ Some x → (u ≡ x) × (x ≢ t)
other_by t u x true same e = absurd (cc e)
other_by t u x false apart e = let is : u ≡ x = some_is e in (is, λ k. same_fails u t apart (is ∙ k))

-- who runs besides t, ran
other_runs : (t : ℕ) (r : Option ℕ) (x : ℕ) → other_than t r ≡ Some x → (r ≡ Some x) × (x ≢ t)
other_runs t None x e = absurd (cc e)
other_runs t (Some u) x e = let h = other_by t u x (u == t) refl e in (ap Some h.0, h.1)

runs_other : (t x : ℕ) (r : Option ℕ) → r ≡ Some x → x ≢ t → other_than t r ≡ Some x
runs_other t x r is apart = rw (is, not_same x t apart) refl

-- the others fit, where t runs no longer
stopped_fits : (r : Option ℕ) (t : ℕ) (o : Option Entry) (p : Option Queue) (b : Option Blocked) → tid_of o ≢ t → FitsEntry r o p b → FitsEntry (other_than t r) o p b
stopped_fits r t None p b apart f = tt
stopped_fits r t (Some e) p b apart f = record {
  prio = f.prio;
  placed = f.placed;
  runs = λ is. f.runs (other_runs t r e.tid.0 is).0;
  named = λ is. runs_other t e.tid.0 r (f.named is) apart;
  awake = f.awake;
  calls = f.calls;
}

-- and who runs is in the system, where only t left it
stopped_runner : {S : Type 0} (w v : ThreadsBySlot S) (r : Option ℕ) (t : ℕ) → ((x : ℕ) → x ≢ t → IsKnown w x → IsKnown v x) → IfSome r (IsKnown w) → IfSome (other_than t r) (IsKnown v)
stopped_runner w v r t kept known = by_runner (other_than t r) refl
  where
    by_runner : (o : Option ℕ) → other_than t r ≡ o → IfSome o (IsKnown v)
    by_runner None e = tt
    by_runner (Some x) e = let h = other_runs t r x e in kept x h.1 (subst (λ (q : Option ℕ). IfSome q (IsKnown w)) h.0 known)

-- t is dead
dead_by : (t : ℕ) (n : ℤ) (r : Option ℕ) (o : Option Entry) (p : Option Queue) (b : Option Blocked) → tid_of o ≡ t → FitsEntry r o p b → FitsEntry (other_than t r) (option_map (changed (change.Value n)) (option_map (changed (change.Suspended false)) (option_map (changed (change.State state.Dead)) o))) (Some queue.Dead) b
unfolding changed
dead_by t n r None p b own f = tt
dead_by t n r (Some e) p b own f = record { prio = f.prio; placed = refl; runs = λ is. absurd ((other_runs t r e.tid.0 is).1 own); named = λ is. absurd (cc is); awake = λ is. absurd (cc is); calls = f.calls }

module _ {P S H : Type 0} (w v : WorldOf P S H) (t u : ℕ) (whole : WellFormed w) (e : slot_of w.threads.records t ≡ Some u) (rests : v.scheduler.running ≡ other_than t w.scheduler.running) where
  others_stop : (i : ℕ) → tid_at w.threads.records i ≢ t → Fits w.scheduler.running (view w.threads i) → Fits v.scheduler.running (view w.threads i)
  unfolding tid_at
  others_stop i apart f = fits_same (other_than t w.scheduler.running) v.scheduler.running (view w.threads i) rests (stopped_fits w.scheduler.running t (entry_at w.threads.records i) _ _ apart f)

  pub dead_whole : (n : ℤ) (sound : IsSound v.threads) → v.store ≡ w.store → v.attributes ≡ w.attributes → HasNothing (store_of w.store) t → slot_of v.threads.records ≡ slot_of w.threads.records → Touches w.threads v.threads t (λ k. view_placed (Some queue.Dead) (view_changed (change.Value n) (view_changed (change.Suspended false) (view_changed (change.State state.Dead) (view_placed None k))))) → WellFormed v
  unfolding tid_at
  dead_whole n sound store objects nothing slots touches =
      whole_from w v t u _ whole e touches
      (fits_same (other_than t w.scheduler.running) v.scheduler.running _ rests (dead_by t n w.scheduler.running (view w.threads u).entry (view w.threads u).place (view w.threads u).blocked (name_is w.threads t u whole.sound e) (whole.fits u)))
      others_stop sound
      (subst (λ (o : Option ℕ). IfSome o (IsKnown v.threads)) (sym rests) (stopped_runner w.threads v.threads w.scheduler.running t (λ x apart known. rw slots known) whole.runner))
      slots store objects (λ dead. nothing)

  -- t is gone
  module _ (others : (i : ℕ) → tid_at w.threads.records i ≢ t → view v.threads i ≡ view w.threads i) (gone : RemovesThread w.threads.records v.threads.records u) (store : store_of v.store ≡ store_without t (store_of w.store)) (objects : v.attributes ≡ w.attributes) (tops : v.threads.queues.top ≡ w.threads.queues.top) where
    none_at : entry_at v.threads.records u ≡ None
    none_at = ap (λ (k : ℕ → Option Entry). k u) gone.entries ∙ put_here (entry_at w.threads.records) u None

    gone_fits : (i : ℕ) (b : Bool) → (tid_at w.threads.records i == t) ≡ b → Fits v.scheduler.running (view v.threads i)
    gone_fits i true same =
        let at : i ≡ u = some_is (sym (whole.sound.tied.slot i (λ zero. used w.threads t u whole.sound e (name_is w.threads t u whole.sound e ∙ sym (same_means _ t same) ∙ zero))) ∙ ap (slot_of w.threads.records) (same_means _ t same) ∙ e) in
        let none : entry_at v.threads.records i ≡ None = ap (entry_at v.threads.records) at ∙ none_at in
        subst (λ (o : Option Entry). FitsEntry v.scheduler.running o (view v.threads i).place (view v.threads i).blocked) (sym none) tt
    gone_fits i false apart = subst (λ (k : View). Fits v.scheduler.running k) (sym (others i (same_fails _ t apart))) (others_stop i (same_fails _ t apart) (whole.fits i))

    same_slot : (x : ℕ) → x ≢ t → slot_of v.threads.records x ≡ slot_of w.threads.records x
    same_slot x apart = ap (λ (k : ℕ → Option ℕ). k x) gone.slots ∙ put_other (slot_of w.threads.records) (tid_at w.threads.records u) None x (λ k. apart (k ∙ name_is w.threads t u whole.sound e))

    still_known : (x : ℕ) → x ≢ t → IsKnown w.threads x → IsKnown v.threads x
    still_known x apart known = rw (same_slot x apart) known

    pub gone_whole : IsSound v.threads → WellFormed v
    gone_whole sound = record {
      sound = sound;
      fits = λ i. gone_fits i (tid_at w.threads.records i == t) refl;
      runner = subst (λ (o : Option ℕ). IfSome o (IsKnown v.threads)) (sym rests) (stopped_runner w.threads v.threads w.scheduler.running t still_known whole.runner);
      stored = λ r. left_stored w v t r whole.sound store same_slot others (λ apart. whole.stored r);
      top = ap (λ (x : AttrsOf). x.top) objects ∙ whole.top ∙ sym tops;
    }

-- ---- a thread that is suspended, or no longer

moved_by : (r : Option ℕ) (q : Queue) (b : Bool) (o : Option Entry) (p : Option Queue) (h : Option Blocked) → IfSome o (λ e. MayStandIn q b e.state) → FitsEntry r o p h → FitsEntry r (option_map (changed (change.Suspended b)) o) (Some q) h
unfolding changed
moved_by r q b None p h may f = tt
moved_by r q b (Some e) p h may f = record { prio = f.prio; placed = may.0; runs = f.runs; named = f.named; awake = λ is. may.1; calls = f.calls }

lives_moved : (b : Bool) (o : Option Entry) → lives o ≡ lives (option_map (changed (change.Suspended b)) o)
unfolding changed
lives_moved b (Some d) = refl
lives_moved b None = refl

pub moved_whole : {P S H : Type 0} (w v : WorldOf P S H) (t u : ℕ) (q : Queue) (b : Bool) → WellFormed w → slot_of w.threads.records t ≡ Some u → IfSome (entry_in w.threads t) (λ e. MayStandIn q b e.state) → Touches w.threads v.threads t (λ k. view_placed (Some q) (view_changed (change.Suspended b) (view_placed None k))) → slot_of v.threads.records ≡ slot_of w.threads.records → v.scheduler.running ≡ w.scheduler.running → v.store ≡ w.store → v.attributes ≡ w.attributes → IsSound v.threads → WellFormed v
moved_whole w v t u q b whole e may touches slots running store objects sound =
    let there = subst (λ (o : Option Entry). IfSome o (λ d. MayStandIn q b d.state)) (seen_at None (slot_of w.threads.records) (entry_at w.threads.records) t u e) may in
    progress_whole w v t u (λ k. view_placed (Some q) (view_changed (change.Suspended b) (view_placed None k))) whole e touches sound slots running store objects
    (λ r f. moved_by r q b (entry_at w.threads.records u) _ _ there f)
    (λ dead. lives_moved b (entry_at w.threads.records u) ∙ dead)

-- who is suspended may stand where its state says
returns_by : (r : Option ℕ) (q : Queue) (o : Option Entry) (p : Option Queue) (h : Option Blocked) → IfSome o (λ e. e.suspended ≡ true) → IfSome o (λ e. Some q ≡ queue_for e.state) → FitsEntry r o p h → IfSome o (λ e. MayStandIn q false e.state)
returns_by r q None p h suspended is f = tt
returns_by r q (Some e) p h suspended is f = (is, f.awake suspended)

suspended_by : (r : Option ℕ) (o : Option Entry) (p : Option Queue) (h : Option Blocked) → IfSome o (λ e. e.suspended ≡ true) → FitsEntry r o p h → IfSome o (λ e. CanSuspend e.state)
suspended_by r None p h suspended f = tt
suspended_by r (Some e) p h suspended f = f.awake suspended

module _ {P S H : Type 0} (w : WorldOf P S H) (t u : ℕ) (whole : WellFormed w) (e : slot_of w.threads.records t ≡ Some u) (suspended : IfSome (entry_in w.threads t) (λ d. d.suspended ≡ true)) where
  entry_here : entry_in w.threads t ≡ entry_at w.threads.records u
  entry_here = seen_at None (slot_of w.threads.records) (entry_at w.threads.records) t u e

  pub suspended_can : IfSome (entry_in w.threads t) (λ d. CanSuspend d.state)
  suspended_can = rw entry_here (suspended_by w.scheduler.running (entry_at w.threads.records u) _ _ (rw entry_here at suspended) (whole.fits u))

  pub suspended_may : (q : Queue) → IfSome (entry_in w.threads t) (λ d. Some q ≡ queue_for d.state) → IfSome (entry_in w.threads t) (λ d. MayStandIn q false d.state)
  suspended_may q is = rw entry_here (returns_by w.scheduler.running q (entry_at w.threads.records u) _ _ (rw entry_here at suspended) (rw entry_here at is) (whole.fits u))

-- the queue of a state, where there is a record
pub queue_is : (o : Option Entry) (q : Queue) → IsSome o → IfSome o (λ e. Some q ≡ queue_for e.state) → queue_for (or_nobody o).state ≡ Some q
queue_is (Some e) q some is = sym is
queue_is None q some is = absurd (cc some)

pub entry_some : {S : Type 0} (x : ThreadsBySlot S) (t u : ℕ) → IsSound x → slot_of x.records t ≡ Some u → IsSome (entry_in x t)
unfolding tid_at
entry_some x t u sound e = rw (seen_at None (slot_of x.records) (entry_at x.records) t u e) (by_entry (entry_at x.records u) (used x t u sound e))
  where
    by_entry : (o : Option Entry) → tid_of o ≢ 0 → IsSome o
    by_entry (Some d) h = refl
    by_entry None h = absurd (h refl)

-- who runs, where t does not
rests_by : (t x : ℕ) (b : Bool) → (x == t) ≡ b → (Some x ≡ Some t → ⊥) → (if b then None else Some x) ≡ Some x
rests_by t x true is other = absurd (other (ap Some (same_means x t is)))
rests_by t x false is other = refl

pub rests_still : (t : ℕ) (r : Option ℕ) → r ≢ Some t → other_than t r ≡ r
rests_still t None other = refl
rests_still t (Some x) other = rests_by t x (x == t) refl other

-- ---- what records say of where threads stand

fits_at : {P S H : Type 0} (w : WorldOf P S H) (t u : ℕ) (e : Entry) → WellFormed w → slot_of w.threads.records t ≡ Some u → Some e ≡ entry_in w.threads t → FitsEntry w.scheduler.running (Some e) (view w.threads u).place (view w.threads u).blocked
fits_at w t u e whole at is =
    let there : entry_at w.threads.records u ≡ Some e = sym (is ∙ seen_at None (slot_of w.threads.records) (entry_at w.threads.records) t u at) in
    subst (λ (o : Option Entry). FitsEntry w.scheduler.running o (view w.threads u).place (view w.threads u).blocked) there (whole.fits u)

-- one that is new or ready, and not suspended, waits to run
pub waits_to_run : {P S H : Type 0} (w : WorldOf P S H) (t : ℕ) (e : Entry) → WellFormed w → IsKnown w.threads t → Some e ≡ entry_in w.threads t → (e.suspended || not (may_run e.state)) ≡ false → WaitsToRun w.threads t
waits_to_run w t e whole known is may =
    let slot = known_slot (slot_of w.threads.records t) known in
    by_state slot.0 slot.1 e.state e.suspended may (fits_at w t slot.0 e whole slot.1 is).placed
  where
    stands_in : (q : Queue) (u : ℕ) → slot_of w.threads.records t ≡ Some u → queue_of u w.threads.queues ≡ Some q → IsIn q w.threads t
    stands_in q u e there = subst (λ (o : Option ℕ). IfSome o (λ i. queue_of i w.threads.queues ≡ Some q)) (sym e) there

    by_state : (u : ℕ) → slot_of w.threads.records t ≡ Some u → (s : ThreadState) (b : Bool) → (b || not (may_run s)) ≡ false → queue_of u w.threads.queues ≡ place_for s b → WaitsToRun w.threads t
    by_state u e s true may place = absurd (cc may)
    by_state u e state.New false may place = record { known = known; queue = queue.New; runnable = OfNew; stands = stands_in queue.New u e place }
    by_state u e state.Ready false may place = record { known = known; queue = queue.Ready; runnable = OfReady; stands = stands_in queue.Ready u e place }
    by_state u e s false may place = absurd (cc may)

-- a thread that stands in a queue does not run
pub queued_rests : {P S H : Type 0} (w : WorldOf P S H) (t : ℕ) (q : Queue) → WellFormed w → IsIn q w.threads t → w.scheduler.running ≢ Some t
queued_rests w t q whole stands is = by_slot (slot_of w.threads.records t) (runner_known w t whole is) stands (runner_nowhere w t whole is)
  where
    by_slot : (o : Option ℕ) → IsSome o → IfSome o (λ u. queue_of u w.threads.queues ≡ Some q) → IfSome o (λ u. IsNowhere u w.threads.queues) → ⊥
    by_slot (Some u) known there nowhere = cc (there, nowhere)
    by_slot None known there nowhere = cc known

-- a dead thread stands in the dead queue
pub dead_stands : {P S H : Type 0} (w : WorldOf P S H) (e : Entry) → WellFormed w → IsKnown w.threads e.tid.0 → Some e ≡ entry_in w.threads e.tid.0 → is_dead e.state ≡ true → IsIn queue.Dead w.threads e.tid.0
dead_stands w e whole known is dead =
    let slot = known_slot (slot_of w.threads.records e.tid.0) known in
    let fits = fits_at w e.tid.0 slot.0 e whole slot.1 is in
    let place : queue_of slot.0 w.threads.queues ≡ Some queue.Dead = fits.placed ∙ by_state e.state e.suspended dead fits.awake in
    subst (λ (o : Option ℕ). IfSome o (λ u. queue_of u w.threads.queues ≡ Some queue.Dead)) (sym slot.1) place
  where
    by_state : (s : ThreadState) (b : Bool) → is_dead s ≡ true → (b ≡ true → CanSuspend s) → place_for s b ≡ Some queue.Dead
    by_state state.Dead false dead awake = refl
    by_state state.Dead true dead awake = absurd (awake refl)
    by_state s b dead awake = absurd (cc dead)

-- who stands there is dead
dead_in : {P S H : Type 0} (w : WorldOf P S H) (t : ℕ) → WellFormed w → IsKnown w.threads t → IsIn queue.Dead w.threads t → lives (entry_in w.threads t) ≡ false
dead_in w t whole known stands =
    let slot = known_slot (slot_of w.threads.records t) known in
    ap lives (seen_at None (slot_of w.threads.records) (entry_at w.threads.records) t slot.0 slot.1)
    ∙ by_entry w.scheduler.running (view w.threads slot.0).entry (view w.threads slot.0).place (view w.threads slot.0).blocked (is_in w queue.Dead t slot.0 stands slot.1) (whole.fits slot.0)
  where
    by_state : (s : ThreadState) (b : Bool) → place_for s b ≡ Some queue.Dead → is_dead s ≡ true
    by_state state.Dead b placed = refl
    by_state s true placed = absurd (cc placed)
    by_state state.New false placed = absurd (cc placed)
    by_state state.Ready false placed = absurd (cc placed)
    by_state state.Running false placed = absurd (cc placed)
    by_state state.Waiting false placed = absurd (cc placed)

    by_entry : (r : Option ℕ) (o : Option Entry) (p : Option Queue) (b : Option Blocked) → p ≡ Some queue.Dead → FitsEntry r o p b → lives o ≡ false
    by_entry r None p b stands f = refl
    by_entry r (Some e) p b stands f = ap not (by_state e.state e.suspended (sym f.placed ∙ stands))

-- so it has nothing stored
pub dead_nothing : {P S H : Type 0} (w : WorldOf P S H) (t : ℕ) → WellFormed w → IsKnown w.threads t → IsIn queue.Dead w.threads t → HasNothing (store_of w.store) t
dead_nothing w t whole known stands = whole.stored t (dead_in w t whole known stands)

-- whoever runs is alive
pub runner_alive : {P S H : Type 0} (w : WorldOf P S H) (t : ℕ) → WellFormed w → w.scheduler.running ≡ Some t → IsAlive w.threads t
runner_alive w t whole is =
    let slot = known_slot (slot_of w.threads.records t) (runner_known w t whole is) in
    let runs = runner_runs w t slot.0 whole is slot.1 in
    ap lives (seen_at None (slot_of w.threads.records) (entry_at w.threads.records) t slot.0 slot.1 ∙ runs.has) ∙ ap (λ (s : ThreadState). not (is_dead s)) runs.state

-- another thread that is neither dead nor suspended may be suspended
pub can_suspend : {P S H : Type 0} (w : WorldOf P S H) (t : ℕ) (e : Entry) → WellFormed w → w.scheduler.running ≡ Some t → IsKnown w.threads e.tid.0 → Some e ≡ entry_in w.threads e.tid.0 → (e.tid.0 == t || is_dead e.state || e.suspended) ≡ false → IfSome (entry_in w.threads e.tid.0) (λ d. CanSuspend d.state)
can_suspend w t e whole runs known is may =
    let slot = known_slot (slot_of w.threads.records e.tid.0) known in
    rw (← is) (by_state e.state may (fits_at w e.tid.0 slot.0 e whole slot.1 is).named)
  where
    by_state : (s : ThreadState) → (e.tid.0 == t || is_dead s || e.suspended) ≡ false → (s ≡ state.Running → w.scheduler.running ≡ Some e.tid.0) → CanSuspend s
    by_state state.New may named = tt
    by_state state.Ready may named = tt
    by_state state.Waiting may named = tt
    by_state state.Dead may named = absurd (dead (e.tid.0 == t) may)
      where
        dead : (b : Bool) → (b || true || e.suspended) ≡ false → ⊥
        dead true h = cc h
        dead false h = cc h
    by_state state.Running may named =
        let own : e.tid.0 ≡ t = some_is (sym (named refl) ∙ runs) in
        absurd (cc ((rw (own, same_self t) at may)))

-- ---- all but one thread

-- t is gone, whoever runs
pub gone_but : {P S H : Type 0} (w v : WorldOf P S H) (t u : ℕ) → slot_of w.threads.records t ≡ Some u → ((i : ℕ) → tid_at w.threads.records i ≢ t → view v.threads i ≡ view w.threads i) → RemovesThread w.threads.records v.threads.records u → IsSound v.threads → v.scheduler.running ≡ w.scheduler.running → store_of v.store ≡ store_without t (store_of w.store) → v.attributes ≡ w.attributes → v.threads.queues.top ≡ w.threads.queues.top → WellFormedBut w t → WellFormedBut v t
gone_but w v t u e others gone sound running store objects tops but = record {
  sound = sound;
  fits = λ i apart. fits_by i (tid_at w.threads.records i == t) refl;
  runner = rw running (if_some (λ r. r ≢ t → IsKnown w.threads r) (λ r. r ≢ t → IsKnown v.threads r) w.scheduler.running (λ r known apart. still r apart (known apart)) but.runner);
  stored = λ r apart. left_stored w v t r but.sound store same_slot others (but.stored r);
  top = ap (λ (x : AttrsOf). x.top) objects ∙ but.top ∙ sym tops;
}
  where
    none_at : entry_at v.threads.records u ≡ None
    none_at = ap (λ (k : ℕ → Option Entry). k u) gone.entries ∙ put_here (entry_at w.threads.records) u None

    at : (i : ℕ) → tid_at w.threads.records i ≡ t → i ≡ u
    at i is = some_is (sym (but.sound.tied.slot i (λ zero. used w.threads t u but.sound e (name_is w.threads t u but.sound e ∙ sym is ∙ zero))) ∙ ap (slot_of w.threads.records) is ∙ e)

    fits_by : (i : ℕ) (b : Bool) → (tid_at w.threads.records i == t) ≡ b → Fits v.scheduler.running (view v.threads i)
    fits_by i true same = subst (λ (o : Option Entry). FitsEntry v.scheduler.running o (view v.threads i).place (view v.threads i).blocked) (sym (ap (entry_at v.threads.records) (at i (same_means _ t same)) ∙ none_at)) tt
    fits_by i false apart = subst (λ (k : View). Fits v.scheduler.running k) (sym (others i (same_fails _ t apart))) (fits_same w.scheduler.running v.scheduler.running (view w.threads i) running (but.fits i (same_fails _ t apart)))

    same_slot : (x : ℕ) → x ≢ t → slot_of v.threads.records x ≡ slot_of w.threads.records x
    same_slot x apart = ap (λ (k : ℕ → Option ℕ). k x) gone.slots ∙ put_other (slot_of w.threads.records) (tid_at w.threads.records u) None x (λ k. apart (k ∙ name_is w.threads t u but.sound e))

    still : (x : ℕ) → x ≢ t → IsKnown w.threads x → IsKnown v.threads x
    still x apart known = rw (same_slot x apart) known

module _ {P S H : Type 0} (w v : WorldOf P S H) (t : ℕ) where
  -- a change of t alone, whoever runs
  pub but_kept : (g : View → View) → Touches w.threads v.threads t g → SameThreads w.threads v.threads → v.scheduler.running ≡ w.scheduler.running → v.store ≡ w.store → v.attributes ≡ w.attributes → IsSound v.threads → WellFormedBut w t → WellFormedBut v t
  but_kept g touches same running store objects sound but = record {
    sound = sound;
    fits = λ i apart. (
        let there : tid_at w.threads.records i ≢ t = λ at. apart (ap (λ (k : ℕ → ℕ). k i) same.tids ∙ at) in
        subst (λ (k : View). Fits v.scheduler.running k) (sym (touches.others i there)) (fits_same w.scheduler.running v.scheduler.running (view w.threads i) running (but.fits i there)));
    runner = rw running (if_some (λ r. r ≢ t → IsKnown w.threads r) (λ r. r ≢ t → IsKnown v.threads r) w.scheduler.running (λ r known apart. rw same.slots (known apart)) but.runner);
    stored = λ r apart. stores_as w v r store (entry_kept w.threads v.threads t r but.sound (ap (λ (k : ℕ → Option ℕ). k r) same.slots) touches.others apart) (but.stored r apart);
    top = ap (λ (x : AttrsOf). x.top) objects ∙ but.top ∙ sym touches.top;
  }

-- where none but t runs, before and after
pub rerun_but : {P S H : Type 0} (w v : WorldOf P S H) (t : ℕ) → v.threads ≡ w.threads → v.store ≡ w.store → v.attributes ≡ w.attributes → IsAbout w.scheduler.running t → IsAbout v.scheduler.running t → WellFormedBut w t → WellFormedBut v t
rerun_but w v t same store objects before after but = record {
  sound = rw same but.sound;
  fits = rw same (λ i apart. rerun_others w v.scheduler.running t before after i apart (but.fits i apart));
  runner = about_runs v.scheduler.running after;
  stored = λ r apart. stores_as w v r store (ap (λ (x : ThreadsBySlot _). entry_in x r) same) (but.stored r apart);
  top = ap (λ (x : AttrsOf). x.top) objects ∙ but.top ∙ sym (ap (λ (x : ThreadsBySlot _). x.queues.top) same);
}
  where
    about_runs : (o : Option ℕ) → IsAbout o t → IfSome o (λ r. r ≢ t → IsKnown v.threads r)
    about_runs None about = tt
    about_runs (Some r) about = λ apart. absurd (apart (about r refl))

-- each thread has a base priority of a world
pub whole_prio : {P S H : Type 0} (w : WorldOf P S H) (t : ℕ) → WellFormed w → HasPrio (entry_in w.threads t)
unfolding seen
whole_prio w t whole = by_slots (slot_of w.threads.records t)
  where
    by_entry : (u : ℕ) (o : Option Entry) → FitsEntry w.scheduler.running o (view w.threads u).place (view w.threads u).blocked → HasPrio o
    by_entry u None f = tt
    by_entry u (Some e) f = f.prio

    by_slots : (o : Option ℕ) → HasPrio (by_slot None (entry_at w.threads.records) o)
    by_slots None = tt
    by_slots (Some u) = by_entry u (entry_at w.threads.records u) (whole.fits u)

-- the call that blocks a thread is one that may
pub blocked_may : {P S H : Type 0} (w : WorldOf P S H) (t u : ℕ) → WellFormed w → slot_of w.threads.records t ≡ Some u → IfSome (view w.threads u).blocked (λ b. MayBlock t b)
unfolding tid_at
blocked_may w t u whole e = by_entry (entry_at w.threads.records u) (view w.threads u).place (view w.threads u).blocked (name_is w.threads t u whole.sound e) (whole.fits u)
  where
    some : t ≢ 0
    some zero = used w.threads t u whole.sound e (name_is w.threads t u whole.sound e ∙ zero)

    by_entry : (o : Option Entry) (p : Option Queue) (b : Option Blocked) → tid_of o ≡ t → FitsEntry w.scheduler.running o p b → IfSome b (λ c. MayBlock t c)
    by_entry (Some d) p b named f = subst (λ (n : ℕ). IfSome b (λ c. MayBlock n c)) named f.calls
    by_entry None p b named f = absurd (some (sym named))
