-- What each part of a run keeps of entries, and so every run.
use Rattle.std.proofs.Common.{◌≡◌, ℕ, zero, suc, ◌+◌, ◌==◌, not, Bool, true, false, if◌then◌else◌, ℤ, pos, ◌+ℤ◌, ◌-ℤ◌, ◌<ℤ◌, List, [], ◌∷◌, reverse, Option, Some, None, All, Contains, ◌↔◌, ◌≤◌, refl, sym, ◌∙◌, subst, inl, inr, arith}
use Rattle.std.proofs.lemmas.List.Elements.{All-nil, All-filter, All-head, All-tail, All-contains, All-contains_itself, All-weaker}
use Rattle.std.proofs.lemmas.List.Sorted.{IsPermutation-reverse, All-permutation}
use Rattle.std.proofs.lemmas.Bool.{cases_Bool}
use Rattle.pth_base.specs.Program.{Functions}
use Rattle.pth_base.specs.declared.thread.ThreadState.TheVariants as state
use Rattle.pth_queue.specs.declared.queue.Queue.{Queue}
use Rattle.pth_queue.specs.declared.queue.Queue.TheVariants.{New, Ready, Waiting, Suspended, Dead}
use Rattle.pth_queue.specs.Ranking.{favour_top}
use Rattle.pth_threads.specs.declared.entry.Change.{Change}
use Rattle.pth_threads.specs.declared.entry.Change.TheVariants as change
use Rattle.pth_threads.specs.declared.entry.NewThread.{NewThread}
use Rattle.pth_model.specs.declared.blocked.Blocked.{Blocked}
use Rattle.pth_model.specs.declared.progress.Progress.{Progress}
use Rattle.pth_model.specs.Standing.{Standing, height, is_queue, raises_of}
use Rattle.pth_model.specs.State.{State, Control, Turn, Given, start, main_standing, queue}
use Rattle.pth_model.specs.Transition.{controlled}
use Rattle.pth_model.specs.Changes.{sets, enters, goes_on, leaves_queue, trails, makes, forgets, removes, queue_for, raises_ready, prio_of, holders, entry_of, or_nobody, blocked_of, blocking}
use Rattle.pth_model.specs.ThreadControl.{spawns, suspends, resumes, returns_to}
use Rattle.pth_model.specs.LibraryControl.{vanish_all_but}
use Rattle.pth_model.specs.Ending.{leaves, is_dead_with}
use Rattle.pth_model.specs.Pass.{looks, is_ready_at, woken, all_woken, pass, to_wake, moment}
use Rattle.pth_model.specs.Course.{Course}
use Rattle.pth_model.specs.Part.{Part, Move, Take, Step, Close, Halt, next_part, part, part_by, moves, moves_by, readies, readies_all, readies_new, is_put_back, is_put_waiting, is_placed, placed_by, closes, turn_ends, takes, takes_by, dispatches, runs, trail_with, chosen, steps}
use Rattle.pth_model.specs.Run.{parts, run}
use Rattle.pth_model.specs.Order.{IsInOrder, AreEntriesNumbered, IsTopAhead, IsFavoured, AreTopsFavoured, ShareNoEntry}
use Rattle.pth_model.proofs.Runs.{parts-more}
use Rattle.pth_model.proofs.Sorted.{shown_in_order}
use Rattle.pth_model.proofs.Queues.{is_queue_same}
use Rattle.pth_model.proofs.Walks.{KeptBy, step_keeps}
use Rattle.pth_model.proofs.Entries.{Kept, IsListed, Differs, listed_none, listed_enter, listed_topped, kept_enter, kept_plain, kept_leave, top_above}

not_top : {A : Type 0} → false ≡ true → A
not_top e = absurd (cc e)

-- what it means that t enters as a new thread, favoured or not
abbrev MeansNew : (Standing → Type 0) → Bool → ℕ → Type 0
MeansNew Meant favour t = (x : Standing) → x.tid ≡ t → x.top ≡ favour → Meant x

module _ {P S H : Type 0} (Meant : Standing → Type 0) where
  -- ---- new threads

  kept_ready : (s : Control P S H) (t : ℕ) (rank : ℤ) (top : Bool) → ((x : Standing) → x.tid ≡ t → x.top ≡ top → Meant x) → (top ≡ true → All (λ y. height y <ℤ (rank -ℤ pos s.threads.raises)) (s.threads.standing Ready)) → Kept Meant s → Kept Meant (is_ready_at t rank top s)
  unfolding is_ready_at sets leaves_queue
  kept_ready s t rank top meant above k =
      kept_enter Meant (sets t (change.State state.Ready) (leaves_queue t s)) t Ready rank top meant
      (λ e. All-filter (λ x. not (x.tid == t)) (λ y. height y <ℤ (rank -ℤ pos s.threads.raises)) (s.threads.standing Ready) (above e))
      (kept_leave Meant s t k)

  kept_new : (s : Control P S H) (t : ℕ) (b : Bool) → ((x : Standing) → x.tid ≡ t → x.top ≡ b → Meant x) → Kept Meant s → Kept Meant (is_ready_at t (if b then favour_top s.top (queue s Ready) else pos 0) b s)
  kept_new s t true meant k = kept_ready s t (favour_top s.top (queue s Ready)) true meant (λ e. top_above s.top s.threads.raises (s.threads.standing Ready) (k.listed Ready).follows) k
  kept_new s t false meant k = kept_ready s t (pos 0) false meant not_top k

  kept_readies : (ts : List ℕ) (s : Control P S H) → All (MeansNew Meant s.scheduler.favour_new) ts → Kept Meant s → Kept Meant (readies_all ts s)
  unfolding readies_all readies is_ready_at sets leaves_queue enters
  kept_readies [] s new k = k
  kept_readies (t ∷ ts) s new k =
      let favour = s.scheduler.favour_new in
      kept_readies ts (readies t s) (All-tail (MeansNew Meant favour) t ts new) (kept_new s t favour (All-head (MeansNew Meant favour) t ts new) k)

  kept_dispatched : (x : Turn) (s : State P S H) (t : Option ℕ) → Kept Meant s.control → Kept Meant (takes_by x t s).state.control
  unfolding dispatches runs trails sets
  kept_dispatched x s None k = k
  kept_dispatched x s (Some t) k = kept_leave Meant (trails (trail_with t s.control) s.control) t k

  abbrev AreNew : Control P S H → Type 0
  AreNew s = All (MeansNew Meant s.scheduler.favour_new) (reverse (holders (queue s New)))

  kept_taken : (x : Turn) (s : State P S H) → AreNew s.control → Kept Meant s.control → Kept Meant (takes x s).state.control
  unfolding takes
  kept_taken x s new k =
      let a : State P S H = controlled readies_new s in
      kept_dispatched x a (chosen a.control.scheduler.preferred (queue a.control Ready)) (kept_readies (reverse (holders (queue s.control New))) s.control new k)

  module _ (plain : (x : Standing) → x.top ≡ false → Meant x) where
    -- ---- calls

    kept_goes : (t : ℕ) (g : Progress S → Progress S) (s : Control P S H) → Kept Meant s → Kept Meant (goes_on t g s)
    unfolding goes_on
    kept_goes t g s k = k

    kept_spawned : (f : P → Functions S H) (b : ℕ) (v : ℤ) (of : NewThread) (s : Control P S H) → Kept Meant s → Kept Meant (spawns f b v of s)
    unfolding makes
    kept_spawned f b v of s k = kept_plain Meant (makes f b v of s) (s.threads.made + 1) New of.prio plain k

    kept_dead : (s : Control P S H) (t : ℕ) (v : ℤ) → Kept Meant s → Kept Meant (is_dead_with t v s)
    unfolding is_dead_with sets
    kept_dead s t v k = kept_plain Meant (sets t (change.Value v) (sets t (change.Suspended false) (sets t (change.State state.Dead) (leaves_queue t s)))) t Dead (pos 0) plain (kept_leave Meant s t k)

    kept_left : (t : ℕ) (v : ℤ) (s : Control P S H) → Kept Meant s → Kept Meant (leaves t v s)
    unfolding leaves forgets
    kept_left t v s k = by_end (or_nobody (entry_of s t)).joinable
      where
        by_end : (b : Bool) → Kept Meant ((if b then is_dead_with t v else (λ (c : Control P S H). forgets t (leaves_queue t c))) s)
        by_end true = kept_dead s t v k
        by_end false = kept_leave Meant s t k

    kept_returned : (t : ℕ) (q : Option Queue) (s : Control P S H) → Kept Meant s → Kept Meant (returns_to t q s)
    unfolding sets
    kept_returned t None s k = k
    kept_returned t (Some q) s k = kept_plain Meant (sets t (change.Suspended false) (leaves_queue t s)) t q (pos 0) plain (kept_leave Meant s t k)

    kept_suspended : (t : ℕ) (s : Control P S H) → Kept Meant s → Kept Meant (suspends t s)
    unfolding suspends sets
    kept_suspended t s k = kept_plain Meant (sets t (change.Suspended true) (leaves_queue t s)) t Suspended (pos 0) plain (kept_leave Meant s t k)

    kept_resumed : (t : ℕ) (s : Control P S H) → Kept Meant s → Kept Meant (resumes t s)
    unfolding resumes
    kept_resumed t s k = kept_returned t (queue_for (or_nobody (entry_of s t)).state) s k

    kept_removed : (t : ℕ) (s : Control P S H) → Kept Meant s → Kept Meant (removes t s)
    unfolding forgets
    kept_removed t s k = kept_leave Meant s t k

    kept_changed : (t : ℕ) (c : Change) (s : Control P S H) → Kept Meant s → Kept Meant (sets t c s)
    unfolding sets
    kept_changed t c s k = k

    kept_vanished : (t : ℕ) (s : Control P S H) → Kept Meant s → Kept Meant (vanish_all_but t s)
    unfolding vanish_all_but
    kept_vanished t s k = record { listed = λ q. listed_none Meant s.threads.entries; apart = λ p q other. All-nil _ }

    kept_by_calls : (f : P → Functions S H) (t : ℕ) → KeptBy f t (Kept Meant)
    kept_by_calls f t = record {
      calls = record {
        handlers = record { shares = λ h s k. k; seated = λ x s k. k };
        spawned = kept_spawned f;
        suspended = λ u s other lives k. kept_suspended u s k;
        resumed = λ u s other k. kept_resumed u s k;
        removed = λ n u s taken k. kept_removed u s k;
        favoured = λ b s k. k;
        changed = λ v u c s is k. kept_changed u c s k;
        added = λ x s k. k;
        exchanged = λ n o s k. k;
        evented = λ x s none k. k;
        described = λ ds s k. k;
        barred = λ x s k. k;
        used = λ o s k. k;
        requested = λ u b s apart k. kept_changed u (change.Request b) s k;
      };
      goes = λ u g s odd k. kept_goes u g s k;
      blocked = λ b j s odd was k. kept_goes t (blocking (Some b)) s k;
      claimed = λ x s k. k;
      preferred = λ u s runs k. k;
      left = kept_left t;
      ended = λ u v s other up k. kept_left u v s k;
      dropped = λ u s other dead k. kept_removed u s k;
      vanished = kept_vanished t;
    }

    kept_step : (f : P → Functions S H) (x : Turn) (t : ℕ) (s : State P S H) → Kept Meant s.control → Kept Meant (steps f x t s).state.control
    kept_step f x t s k = step_keeps f t (Kept Meant) (kept_by_calls f t) x s k

    -- ---- between turns

    kept_all_woken : (ts : List ℕ) (s : State P S H) → Kept Meant s.control → Kept Meant (all_woken ts s).state.control
    unfolding all_woken woken
    kept_all_woken [] s k = k
    kept_all_woken (t ∷ ts) s k = kept_all_woken ts (woken t s).state (kept_ready s.control t (prio_of s.control t +ℤ pos 1) false (λ x tid top. plain x top) not_top k)

    kept_pass : (f : P → Functions S H) (s : State P S H) → Kept Meant s.control → Kept Meant (pass f s).state.control
    unfolding pass looks
    kept_pass f s k = kept_all_woken (to_wake f s) (controlled (looks f s) s) k

    kept_placed_by : (s : Control P S H) (t : ℕ) (r : Option ℕ) (b : Option Blocked) → Kept Meant s → Kept Meant (placed_by t r b s)
    unfolding is_put_back is_put_waiting sets
    kept_placed_by s t None b k = k
    kept_placed_by s t (Some r) (Some b) k = kept_plain Meant (sets t (change.State state.Waiting) s) t Waiting (prio_of s t) plain k
    kept_placed_by s t (Some r) None k = kept_plain Meant (sets t (change.State state.Ready) s) t Ready (prio_of s t) plain k

    kept_closed : (f : P → Functions S H) (x : Turn) (t : ℕ) (s : State P S H) → Kept Meant s.control → Kept Meant (closes f x t s).state.control
    unfolding closes is_placed raises_ready
    kept_closed f x t s k = kept_pass f (controlled (turn_ends t) s) (kept_placed_by (raises_ready s.control) t s.control.scheduler.running (blocked_of s.control t) k)

    kept_moved : (f : P → Functions S H) (x : Turn) (s : State P S H) (m : Option ℕ) → Kept Meant s.control → Kept Meant (moves_by f x m s).state.control
    kept_moved f x s None k = k
    kept_moved f x s (Some m) k = kept_pass f _ k

  -- ---- parts

  not_take : (f : P → Functions S H) (x : Turn) (s : State P S H) (p : Part) → ((x : Standing) → x.top ≡ false → Meant x) → (p ≡ Take → ⊥) → Kept Meant s.control → Kept Meant (part_by f x s p).state.control
  unfolding moves
  not_take f x s Move plain other k = kept_moved plain f x s (moment f s) k
  not_take f x s Take plain other k = absurd (other refl)
  not_take f x s (Step t) plain other k = kept_step plain f x t s k
  not_take f x s (Close t) plain other k = kept_closed plain f x t s k
  not_take f x s Halt plain other k = k

  -- plain: what it means that another enters than a new thread, and new: that one does
  kept_part : (f : P → Functions S H) (x : Turn) (s : State P S H) (p : Part) → ((p ≡ Take → ⊥) → (x : Standing) → x.top ≡ false → Meant x) → (p ≡ Take → AreNew s.control) → Kept Meant s.control → Kept Meant (part_by f x s p).state.control
  kept_part f x s Take plain new k = kept_taken x s (new refl) k
  kept_part f x s Move plain new k = not_take f x s Move (plain (λ e. cc)) (λ e. cc) k
  kept_part f x s (Step t) plain new k = not_take f x s (Step t) (plain (λ e. cc)) (λ e. cc) k
  kept_part f x s (Close t) plain new k = not_take f x s (Close t) (plain (λ e. cc)) (λ e. cc) k
  kept_part f x s Halt plain new k = k

-- ---- runs

-- whatever enters
abbrev Any : Standing → Type 0
Any x = Unit {0}

listed_start : (q : Queue) → IsListed Any 1 (main_standing q)
listed_start Ready = listed_enter Any 0 (record { tid = 1; rank = pos 0; since = 0; entry = 0; top = false }) [] refl not_top tt (listed_none Any 0)
listed_start New = listed_none Any 1
listed_start Waiting = listed_none Any 1
listed_start Suspended = listed_none Any 1
listed_start Dead = listed_none Any 1

apart_start : (p q : Queue) → is_queue p q ≡ false → All (λ x. All (Differs x) (main_standing q)) (main_standing p)
apart_start Ready Ready other = absurd (cc other)
apart_start Ready New other = λ n d low. All-nil _
apart_start Ready Waiting other = λ n d low. All-nil _
apart_start Ready Suspended other = λ n d low. All-nil _
apart_start Ready Dead other = λ n d low. All-nil _
apart_start New q other = All-nil _
apart_start Waiting q other = All-nil _
apart_start Suspended q other = All-nil _
apart_start Dead q other = All-nil _

module _ {P S H : Type 0} (f : P → Functions S H) (g : Given P) where
  -- the control after so many parts
  abbrev at : ℕ → Control P S H
  at i = (run f g i).state.control

  kept_start : Kept Any (start f g).control
  unfolding start
  kept_start = record { listed = listed_start; apart = apart_start }

  kept_run : (i : ℕ) → Kept Any (at i)
  unfolding parts part
  kept_run zero = kept_start
  kept_run (suc i) = kept_part Any f (run f g i).turn (run f g i).state (next_part (run f g i).state (run f g i).turn) (λ e x top. tt) (λ e k d low x tid top. tt) (kept_run i)

  pub entries_numbered : (i : ℕ) (q : Queue) → AreEntriesNumbered (at i) q
  entries_numbered i q =
      let k = (kept_run i).listed q in
      record { counted = k.counted; falling = λ a b d less low. (k.follows a b d less low).later }

  pub entries_apart : (i : ℕ) (p q : Queue) → ShareNoEntry (at i) p q
  entries_apart i p q x y here there same = elim (cases_Bool (is_queue p q)) [
    | inl e ↦ is_queue_same p q e
    | inr other ↦ absurd (
        let s = at i in
        All-contains (Differs x) (s.threads.standing q) y (All-contains (λ x. All (Differs x) (s.threads.standing q)) (s.threads.standing p) x ((kept_run i).apart p q other) here) there same)
  ]

  pub queue_in_order : (i : ℕ) (q : Queue) → IsInOrder (at i) q
  queue_in_order i q =
      let s = at i in
      shown_in_order (raises_of s.threads.raises q) s.threads.entries (s.threads.standing q) (entries_numbered i q)

  pub top_ahead : (i : ℕ) (q : Queue) → IsTopAhead (at i) q
  top_ahead i q =
      let s = at i in
      listed_topped (raises_of s.threads.raises q) (s.threads.standing q) ((kept_run i).listed q).follows

  -- in part i + 1: what it means to enter
  abbrev MeansTop : ℕ → Standing → Type 0
  MeansTop i x = (at i).threads.entries ≤ x.entry → (x.top ≡ true ↔ IsFavoured (run f g i) x.tid)

  abbrev next_at : ℕ → Part
  next_at i = next_part (run f g i).state (run f g i).turn

  means_other : (i : ℕ) → (next_at i ≡ Take → ⊥) → (x : Standing) → x.top ≡ false → MeansTop i x
  means_other i other x low now = (λ top. not_top (sym low ∙ top), λ h. absurd (other h.taken))

  means_new : (i : ℕ) → next_at i ≡ Take → AreNew (MeansTop i) (at i)
  means_new i take =
      let s = at i in
      let new = holders (queue s New) in
      let of_new : All (Contains new) (reverse new) = All-permutation (Contains new) new (reverse new) (IsPermutation-reverse new) (All-contains_itself new) in
      All-weaker (Contains new) (MeansNew (MeansTop i) s.scheduler.favour_new)
      (λ t here x tid top now. (
        λ high. record { taken = take; new = subst (Contains new) (sym tid) here; favoured = sym top ∙ high },
        λ h. top ∙ h.favoured,
      ))
      (reverse new) of_new

  means_before : (i : ℕ) → Kept (MeansTop i) (at i)
  means_before i = record { listed = meant; apart = (kept_run i).apart }
    where
      meant : (q : Queue) → IsListed (MeansTop i) (at i).threads.entries ((at i).threads.standing q)
      meant q =
          let k = (kept_run i).listed q in
          record { counted = k.counted; follows = k.follows; meant = λ n d low now. let h = k.counted n d low in absurd (omega (arith, h, now)) }

  means_after : (i : ℕ) → Kept (MeansTop i) (at (i + 1))
  unfolding part
  means_after i =
      subst (λ (r : Course P S H). Kept (MeansTop i) r.state.control) (sym (parts-more f (start f g) i))
      (kept_part (MeansTop i) f (run f g i).turn (run f g i).state (next_at i) (means_other i) (means_new i) (means_before i))

  pub top_meant : (i : ℕ) (q : Queue) → AreTopsFavoured (run f g i) (at (i + 1)) q
  top_meant i q x here now = All-contains (MeansTop i) ((at (i + 1)).threads.standing q) x ((means_after i).listed q).meant here now
