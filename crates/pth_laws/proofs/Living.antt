-- Who lives, by the marks and by the state: what each change of a state keeps of it.
use Rattle.std.proofs.Common.{◌≡◌, ◌≢◌, ℕ, zero, suc, ◌+◌, ◌≤◌, ◌==◌, ◌&&◌, not, Bool, true, false, if◌then◌else◌, ℤ, pos, List, ◌∷◌, All, Option, Some, None, is_some, option_map, refl, sym, ◌∙◌, ap, subst, arith}
use Rattle.std.proofs.lemmas.Bool.Decides.{nat_tests}
use Rattle.std.proofs.lemmas.List.Elements.{All-cons, All-weaker, All-filter, filter_passes}
use Rattle.std.proofs.lemmas.Bool.{not-false, true≢false, and_parts, not-true}
use Rattle.std.proofs.lemmas.Option.{same_Some}
use Rattle.pth_base.specs.Program.{Functions}
use Rattle.pth_base.specs.Table.{put}
use Rattle.pth_base.specs.declared.attr.AttrValue.{AttrValue}
use Rattle.pth_base.specs.declared.attr.AttrValue.TheVariants as value
use Rattle.pth_base.specs.declared.thread.ThreadState.{ThreadState}
use Rattle.pth_base.specs.declared.thread.ThreadState.TheVariants as state
use Rattle.pth_base.proofs.Tables.{same_self, put_by, put_here, put_other}
use Rattle.pth_queue.specs.declared.queue.Queue.{Queue}
use Rattle.pth_queue.specs.declared.queue.Queue.TheVariants.{New, Ready, Waiting, Suspended, Dead}
use Rattle.pth_threads.specs.Attributes.{change_of}
use Rattle.pth_threads.specs.Threads.{changed, made_of}
use Rattle.pth_threads.specs.declared.entry.Change as change_type
use Rattle.pth_threads.specs.declared.entry.Change.TheVariants as change
use Rattle.pth_threads.specs.declared.entry.Entry.{Entry}
use Rattle.pth_threads.specs.declared.entry.NewThread.{NewThread}
use Rattle.pth_model.specs.Standing.{Standing, is_queue, left_by, raises_of}
use Rattle.pth_model.specs.State.{Control}
use Rattle.pth_model.specs.Changes.{sets, enters, leaves_queue, makes, forgets, removes, or_nobody, entry_of, queue_for}
use Rattle.pth_model.specs.Living.{is_dead, lives, is_made}
use Rattle.pth_model.specs.ThreadControl.{spawns, suspends, resumes, returns_to}
use Rattle.pth_model.specs.Ending.{is_dead_with, leaves, stops_running}
use Rattle.pth_model.specs.Pass.{is_ready_at}
use Rattle.pth_model.proofs.Queues.{is_queue_same}

-- ---- one thread

-- of the threads that were made, all but those that have ended live; n were made before
pub record IsLiving (n : ℕ) (ended : ℕ → Bool) (made : ℕ) (known : ℕ → Option Entry) (standing : Queue → List Standing) : Type 0 where
  pub grown : n ≤ made
  pub numbered : (t : ℕ) → is_some (known t) ≡ true → is_made made t ≡ true
  pub over : (t : ℕ) → ended t ≡ (is_made made t && not (lives (known t)))
  pub stands : (q : Queue) → is_queue q Dead ≡ false → All (λ z. lives (known z.tid) ≡ true) (standing q)
  pub dead : All (λ z. ended z.tid ≡ true) (standing Dead)

-- t has no place in a queue
abbrev pub IsUnplaced : ℕ → (Queue → List Standing) → Type 0
IsUnplaced t standing = (q : Queue) → All (λ z. (z.tid == t) ≡ false) (standing q)

pub lives_some : (o : Option Entry) → lives o ≡ true → is_some o ≡ true
lives_some (Some e) h = refl
lives_some None h = absurd (true≢false (sym h))

pub made_more : (m n t : ℕ) → m ≤ n → is_made m t ≡ true → is_made n t ≡ true
made_more m n zero le h = h
made_more m n (suc t) le h = grind (arith, nat_tests)

made_next : (n : ℕ) → is_made (n + 1) (n + 1) ≡ true
made_next n = grind (arith, nat_tests)

-- one more was made
made_but : (n t : ℕ) → t ≢ n + 1 → is_made (n + 1) t ≡ is_made n t
made_but n zero h = refl
made_but n (suc t) h = grind (arith, nat_tests)

pub not_next : (n : ℕ) → is_made n (n + 1) ≡ false
not_next n = grind (arith, nat_tests)

module _ (n : ℕ) (ended : ℕ → Bool) (made : ℕ) (known : ℕ → Option Entry) (standing : Queue → List Standing) (l : IsLiving n ended made known standing) where
  -- who lives has not ended, and was made
  pub living-up : (t : ℕ) → lives (known t) ≡ true → ended t ≡ false
  living-up t h = l.over t ∙ rw (h, l.numbered t (lives_some (known t) h)) refl

  pub living-made : (t : ℕ) → lives (known t) ≡ true → is_made made t ≡ true
  living-made t h = l.numbered t (lives_some (known t) h)

  -- who has ended does not live
  pub living-over : (t : ℕ) → ended t ≡ true → lives (known t) ≡ false
  living-over t h = not-true (lives (known t)) (and_parts (is_made made t) (not (lives (known t))) (sym (l.over t) ∙ h)).1

  -- and who was made and has not ended lives
  pub living-alive : (t : ℕ) → is_made made t ≡ true → ended t ≡ false → lives (known t) ≡ true
  living-alive t there up = not-false (lives (known t)) (ap (λ b. b && not (lives (known t))) (sym there) ∙ sym (l.over t) ∙ up)

  pub living-dead : (t : ℕ) → is_some (known t) ≡ true → lives (known t) ≡ false → ended t ≡ true
  living-dead t there h = l.over t ∙ rw (h, l.numbered t there) refl

pub runs_alive : (o : Option Entry) → (or_nobody o).state ≡ state.Running → lives o ≡ true
runs_alive None h = absurd (cc h)
runs_alive (Some e) h = rw h refl

-- the queue where one stands that is new or ready, and not suspended
abbrev pub run_queue : ThreadState → Bool → Option Queue
run_queue state.New false = Some New
run_queue state.Ready false = Some Ready
run_queue at suspended = None

abbrev pub queue_to_run : Option Entry → Option Queue
queue_to_run None = None
queue_to_run (Some e) = run_queue e.state e.suspended

-- it waits to run
abbrev pub IsToRun : Option Entry → Type 0
IsToRun o = is_some (queue_to_run o) ≡ true

pub to_run_lives : (o : Option Entry) → IsToRun o → lives o ≡ true
to_run_lives None h = absurd (true≢false (sym h))
to_run_lives (Some e) h = by_state e.state h
  where
    by_state : (at : ThreadState) → is_some (run_queue at e.suspended) ≡ true → not (is_dead at) ≡ true
    by_state state.Dead h = absurd (true≢false (sym h))
    by_state at h = refl

pub running_not_to_run : (o : Option Entry) → (or_nobody o).state ≡ state.Running → queue_to_run o ≡ None
running_not_to_run None h = refl
running_not_to_run (Some e) h = ap (λ at. run_queue at e.suspended) h

pub over_not_to_run : (o : Option Entry) → lives o ≡ false → queue_to_run o ≡ None
over_not_to_run None h = refl
over_not_to_run (Some e) h = by_state e.state h
  where
    by_state : (at : ThreadState) → not (is_dead at) ≡ false → run_queue at e.suspended ≡ None
    by_state state.Dead h = refl
    by_state at h = absurd (true≢false h)

-- ---- changes

-- a change of a record that leaves who lives as it is
abbrev IsSafe : change_type.Change → Entry → Type 0
IsSafe c e = is_dead (changed c e).state ≡ is_dead e.state

changed_some : (c : change_type.Change) (o : Option Entry) → is_some (option_map (changed c) o) ≡ is_some o
changed_some c None = refl
changed_some c (Some e) = refl

pub changed_lives : (c : change_type.Change) (o : Option Entry) → ((e : Entry) → o ≡ Some e → IsSafe c e) → lives (option_map (changed c) o) ≡ lives o
changed_lives c None safe = refl
changed_lives c (Some e) safe = ap not (safe e refl)

pub suspended_safe : (b : Bool) (e : Entry) → IsSafe (change.Suspended b) e
unfolding changed
suspended_safe b e = refl

value_safe : (v : ℤ) (e : Entry) → IsSafe (change.Value v) e
unfolding changed
value_safe v e = refl

pub request_state : (b : Bool) (e : Entry) → (changed (change.Request b) e).state ≡ e.state
unfolding changed
request_state b e = refl

-- a value that a program sets (pth_attr_set) leaves the state, and whether the thread is suspended
pub set_leaves : (v : AttrValue) (c : change_type.Change) (e : Entry) → change_of v ≡ Some c → ((changed c e).state ≡ e.state) × ((changed c e).suspended ≡ e.suspended)
unfolding changed
set_leaves (value.Prio n) c e h = rw (← same_Some (change.Prio n) c h) (refl, refl)
set_leaves (value.Name s) c e h = rw (← same_Some (change.Name s) c h) (refl, refl)
set_leaves (value.Joinable n) c e h = rw (← same_Some _ c h) (refl, refl)
set_leaves (value.Cancel n) c e h = rw (← same_Some _ c h) (refl, refl)
set_leaves v c e h = absurd (cc h)

pub set_state : (v : AttrValue) (c : change_type.Change) (e : Entry) → change_of v ≡ Some c → (changed c e).state ≡ e.state
set_state v c e h = (set_leaves v c e h).0

-- by the state of a thread in the system
lives_by : (at : ThreadState) (o : Option Entry) → is_some o ≡ true → (or_nobody o).state ≡ at → lives o ≡ not (is_dead at)
lives_by at None known same = absurd (true≢false (sym known))
lives_by at (Some e) known same = ap (λ s. not (is_dead s)) same

-- who lives has another state than that of the dead
pub state_safe : (at : ThreadState) → is_dead at ≡ false → (o : Option Entry) → lives o ≡ true → (e : Entry) → o ≡ Some e → IsSafe (change.State at) e
unfolding changed
state_safe at up o alive e h = up ∙ sym (not-true (is_dead e.state) (sym (ap lives h) ∙ alive))

-- t does not wait to run, and who is named does
abbrev pub NamesToRun : {P S H : Type 0} → ℕ → Control P S H → Type 0
NamesToRun t k = (queue_to_run (k.threads.known t) ≡ None) × ((v : ℕ) → k.scheduler.preferred ≡ Some v → IsToRun (k.threads.known v))

module _ {P S H : Type 0} (n : ℕ) (ended : ℕ → Bool) where
  abbrev pub Living : Control P S H → Type 0
  Living k = IsLiving n ended k.threads.made k.threads.known k.threads.standing

  pub living_sets : (u : ℕ) (c : change_type.Change) (k : Control P S H) → ((e : Entry) → k.threads.known u ≡ Some e → IsSafe c e) → Living k → Living (sets u c k)
  unfolding sets
  living_sets u c k safe l =
      let new = option_map (changed c) (k.threads.known u) in
      let same : (t : ℕ) → lives (put k.threads.known u new t) ≡ lives (k.threads.known t) = λ t. put_by (λ o. lives o ≡ lives (k.threads.known t)) k.threads.known u new t (λ here. changed_lives c (k.threads.known u) safe ∙ ap (λ i. lives (k.threads.known i)) (sym here)) (λ other. refl) in
      record {
        grown = l.grown;
        numbered = λ t. put_by (λ o. is_some o ≡ true → is_made k.threads.made t ≡ true) k.threads.known u new t (λ here h. l.numbered t (rw here (sym (changed_some c (k.threads.known u)) ∙ h))) (λ other. l.numbered t);
        over = λ t. l.over t ∙ ap (λ b. is_made k.threads.made t && not b) (sym (same t));
        stands = λ q living. All-weaker (λ z. lives (k.threads.known z.tid) ≡ true) (λ z. lives (put k.threads.known u new z.tid) ≡ true) (λ z h. same z.tid ∙ h) (k.threads.standing q) (l.stands q living);
        dead = l.dead;
      }

  pub living_leaves : (u : ℕ) (k : Control P S H) → Living k → Living (leaves_queue u k)
  unfolding leaves_queue
  living_leaves u k l = record {
    grown = l.grown;
    numbered = l.numbered;
    over = l.over;
    stands = λ q living. All-filter (λ z. not (z.tid == u)) (λ z. lives (k.threads.known z.tid) ≡ true) (k.threads.standing q) (l.stands q living);
    dead = All-filter (λ z. not (z.tid == u)) (λ z. ended z.tid ≡ true) (k.threads.standing Dead) l.dead;
  }

  -- who enters the queue of the dead has ended, and who enters another lives
  abbrev pub MayEnter : Control P S H → ℕ → Queue → Type 0
  MayEnter k u q = (is_queue q Dead ≡ false → lives (k.threads.known u) ≡ true) × (is_queue q Dead ≡ true → ended u ≡ true)

  pub living_enters : (u : ℕ) (q : Queue) (rank : ℤ) (top : Bool) (k : Control P S H) → MayEnter k u q → Living k → Living (enters u q rank top k)
  unfolding enters
  living_enters u q rank top k may l = record {
    grown = l.grown;
    numbered = l.numbered;
    over = l.over;
    stands = λ p living. entered p living (is_queue p q) refl;
    dead = buried (is_queue Dead q) refl;
  }
    where
      here : Standing
      here = record { tid = u; rank = rank; since = raises_of k.threads.raises q; entry = k.threads.entries; top = top }

      entered : (p : Queue) → is_queue p Dead ≡ false → (b : Bool) → is_queue p q ≡ b → All (λ z. lives (k.threads.known z.tid) ≡ true) (if b then here ∷ k.threads.standing p else k.threads.standing p)
      entered p living true same = All-cons (λ z. lives (k.threads.known z.tid) ≡ true) here (k.threads.standing p) (may.0 (subst (λ r. is_queue r Dead ≡ false) (is_queue_same p q same) living)) (l.stands p living)
      entered p living false same = l.stands p living

      buried : (b : Bool) → is_queue Dead q ≡ b → All (λ z. ended z.tid ≡ true) (if b then here ∷ k.threads.standing Dead else k.threads.standing Dead)
      buried true same = All-cons (λ z. ended z.tid ≡ true) here (k.threads.standing Dead) (may.1 (subst (λ r. is_queue r Dead ≡ true) (is_queue_same Dead q same) refl)) l.dead
      buried false same = l.dead

  -- a new thread
  pub living_makes : (f : P → Functions S H) (b : ℕ) (v : ℤ) (of : NewThread) (k : Control P S H) → Living k → Living (makes f b v of k)
  unfolding makes made_of
  living_makes f b v of k l =
      let made = k.threads.made in
      let new = Some (made_of of (made + 1)) in
      let Over : ℕ → Option Entry → Type 0 = λ t o. ended t ≡ (is_made (made + 1) t && not (lives o)) in
      record {
        grown = omega (arith, l.grown);
        numbered = λ t. put_by (λ o. is_some o ≡ true → is_made (made + 1) t ≡ true) k.threads.known (made + 1) new t (λ here h. rw here (made_next made)) (λ other h. rw (made_but made t other) (l.numbered t h));
        over = λ t. put_by (Over t) k.threads.known (made + 1) new t (λ here. rw here (l.over (made + 1) ∙ rw (not_next made, made_next made) refl)) (λ other. rw (made_but made t other) (l.over t));
        stands = λ q living. All-weaker (λ z. lives (k.threads.known z.tid) ≡ true) (λ z. lives (put k.threads.known (made + 1) new z.tid) ≡ true) (λ z h. put_by (λ o. lives o ≡ true) k.threads.known (made + 1) new z.tid (λ here. refl) (λ other. h)) (k.threads.standing q) (l.stands q living);
        dead = l.dead;
      }

  -- a dead thread is in the system no longer
  pub living_forgets : (u : ℕ) (k : Control P S H) → lives (k.threads.known u) ≡ false → Living k → Living (forgets u k)
  unfolding forgets
  living_forgets u k dead l =
      let same : (t : ℕ) → lives (put k.threads.known u None t) ≡ lives (k.threads.known t) = λ t. put_by (λ o. lives o ≡ lives (k.threads.known t)) k.threads.known u None t (λ here. rw here (sym dead)) (λ other. refl) in
      record {
        grown = l.grown;
        numbered = λ t. put_by (λ o. is_some o ≡ true → is_made k.threads.made t ≡ true) k.threads.known u None t (λ here h. absurd (true≢false (sym h))) (λ other. l.numbered t);
        over = λ t. l.over t ∙ ap (λ b. is_made k.threads.made t && not b) (sym (same t));
        stands = λ q living. All-weaker (λ z. lives (k.threads.known z.tid) ≡ true) (λ z. lives (put k.threads.known u None z.tid) ≡ true) (λ z h. same z.tid ∙ h) (k.threads.standing q) (l.stands q living);
        dead = l.dead;
      }

  -- ---- changes in turn

  pub living_spawned : (f : P → Functions S H) (b : ℕ) (v : ℤ) (of : NewThread) (k : Control P S H) → Living k → Living (spawns f b v of k)
  unfolding makes made_of
  living_spawned f b v of k l =
      living_enters (k.threads.made + 1) New of.prio false (makes f b v of k)
      ((λ living. ap lives (put_here k.threads.known (k.threads.made + 1) (Some (made_of of (k.threads.made + 1))))), λ dead. absurd (true≢false (sym dead)))
      (living_makes f b v of k l)

  -- who lives enters another queue, with a change of its record
  pub living_moved : (u : ℕ) (c : change_type.Change) (q : Queue) (rank : ℤ) (top : Bool) (k : Control P S H) → ((e : Entry) → k.threads.known u ≡ Some e → IsSafe c e) → MayEnter k u q → Living k → Living (enters u q rank top (sets u c (leaves_queue u k)))
  unfolding sets leaves_queue
  living_moved u c q rank top k safe may l =
      living_enters u q rank top (sets u c (leaves_queue u k))
      ((λ living. ap lives (put_here k.threads.known u (option_map (changed c) (k.threads.known u))) ∙ changed_lives c (k.threads.known u) safe ∙ may.0 living), may.1)
      (living_sets u c (leaves_queue u k) safe (living_leaves u k l))

  pub living_suspended : (u : ℕ) (k : Control P S H) → lives (k.threads.known u) ≡ true → Living k → Living (suspends u k)
  unfolding suspends
  living_suspended u k alive l = living_moved u (change.Suspended true) Suspended (pos 0) false k (λ e h. suspended_safe true e) ((λ living. alive), λ dead. absurd (true≢false (sym dead))) l

  living_returned : (u : ℕ) (k : Control P S H) → is_some (k.threads.known u) ≡ true → Living k → (at : ThreadState) → (or_nobody (k.threads.known u)).state ≡ at → Living (returns_to u (queue_for at) k)
  living_returned u k known l state.Running same = l
  living_returned u k known l state.Dead same = living_moved u (change.Suspended false) Dead (pos 0) false k (λ e h. suspended_safe false e) ((λ living. absurd (true≢false living)), λ dead. living-dead n ended k.threads.made k.threads.known k.threads.standing l u known (lives_by state.Dead (k.threads.known u) known same)) l
  living_returned u k known l state.New same = living_moved u (change.Suspended false) New (pos 0) false k (λ e h. suspended_safe false e) ((λ living. lives_by state.New (k.threads.known u) known same), λ dead. absurd (true≢false (sym dead))) l
  living_returned u k known l state.Ready same = living_moved u (change.Suspended false) Ready (pos 0) false k (λ e h. suspended_safe false e) ((λ living. lives_by state.Ready (k.threads.known u) known same), λ dead. absurd (true≢false (sym dead))) l
  living_returned u k known l state.Waiting same = living_moved u (change.Suspended false) Waiting (pos 0) false k (λ e h. suspended_safe false e) ((λ living. lives_by state.Waiting (k.threads.known u) known same), λ dead. absurd (true≢false (sym dead))) l

  pub living_resumed : (u : ℕ) (k : Control P S H) → is_some (k.threads.known u) ≡ true → Living k → Living (resumes u k)
  unfolding resumes
  living_resumed u k known l = living_returned u k known l (or_nobody (entry_of k u)).state refl

  pub living_removed : (u : ℕ) (k : Control P S H) → lives (k.threads.known u) ≡ false → Living k → Living (removes u k)
  unfolding leaves_queue
  living_removed u k dead l = living_forgets u (leaves_queue u k) dead (living_leaves u k l)

  -- who lives is ready
  pub living_ready : (u : ℕ) (rank : ℤ) (top : Bool) (k : Control P S H) → lives (k.threads.known u) ≡ true → Living k → Living (is_ready_at u rank top k)
  unfolding is_ready_at
  living_ready u rank top k alive l = living_moved u (change.State state.Ready) Ready rank top k (state_safe state.Ready refl (k.threads.known u) alive) ((λ living. alive), λ dead. absurd (true≢false (sym dead))) l

  -- ---- an end

  pub unplaced_leaves : (t : ℕ) (k : Control P S H) → IsUnplaced t (leaves_queue t k).threads.standing
  unfolding leaves_queue
  unplaced_leaves t k q = All-weaker (λ z. not (z.tid == t) ≡ true) (λ z. (z.tid == t) ≡ false) (λ z h. not-true (z.tid == t) h) (left_by t (k.threads.standing q)) (filter_passes (λ z. not (z.tid == t)) (k.threads.standing q))

  -- t is dead, or gone: of the others all is as it was
  pub living_over : (t : ℕ) (o : Option Entry) (k : Control P S H) → is_made k.threads.made t ≡ true → lives o ≡ false → (is_some o ≡ true → is_some (k.threads.known t) ≡ true) → IsUnplaced t k.threads.standing → Living k → IsLiving n (put ended t true) k.threads.made (put k.threads.known t o) k.threads.standing
  living_over t o k made dead known unplaced l =
      record {
        grown = l.grown;
        numbered = λ u. put_by (λ p. is_some p ≡ true → is_made k.threads.made u ≡ true) k.threads.known t o u (λ here h. l.numbered u (rw here (known h))) (λ other. l.numbered u);
        over = λ u. put_by (λ p. put ended t true u ≡ (is_made k.threads.made u && not (lives p))) k.threads.known t o u (λ here. rw here (put_here ended t true ∙ rw (made, dead) refl)) (λ other. put_other ended t true u other ∙ l.over u);
        stands = λ q living. All-both q living;
        dead = All-weaker (λ z. ended z.tid ≡ true) (λ z. put ended t true z.tid ≡ true) (λ z h. put_by (λ b. b ≡ true) ended t true z.tid (λ here. refl) (λ other. h)) (k.threads.standing Dead) l.dead;
      }
    where
      All-both : (q : Queue) → is_queue q Dead ≡ false → All (λ z. lives (put k.threads.known t o z.tid) ≡ true) (k.threads.standing q)
      All-both q living i d low = put_by (λ p. lives p ≡ true) k.threads.known t o _ (λ here. absurd (true≢false (sym (ap (λ j. j == t) here ∙ same_self t) ∙ unplaced q i d low))) (λ other. l.stands q living i d low)

changed_dead : (o : Option Entry) → lives (option_map (changed (change.State state.Dead)) o) ≡ false
unfolding changed
changed_dead None = refl
changed_dead (Some e) = refl

module _ {P S H : Type 0} (n : ℕ) (ended : ℕ → Bool) (t : ℕ) where
  abbrev After : Control P S H → Type 0
  After k = Living n (put ended t true) k

  living_dead : (v : ℤ) (k : Control P S H) → lives (k.threads.known t) ≡ true → Living n ended k → After (is_dead_with t v k)
  unfolding is_dead_with sets leaves_queue
  living_dead v k alive l =
      let o = option_map (changed (change.State state.Dead)) (k.threads.known t) in
      let a = leaves_queue t k in
      let b = sets t (change.State state.Dead) a in
      let c = sets t (change.Suspended false) b in
      let d = sets t (change.Value v) c in
      let lb : After b = living_over n ended t o a (living-made n ended k.threads.made k.threads.known k.threads.standing l t alive) (changed_dead (k.threads.known t)) (λ there. sym (changed_some (change.State state.Dead) (k.threads.known t)) ∙ there) (unplaced_leaves n ended t k) (living_leaves n ended t k l) in
      let lc : After c = living_sets n (put ended t true) t (change.Suspended false) b (λ e h. suspended_safe false e) lb in
      let ld : After d = living_sets n (put ended t true) t (change.Value v) c (λ e h. value_safe v e) lc in
      living_enters n (put ended t true) t Dead (pos 0) false d ((λ living. absurd (true≢false living)), λ dead. put_here ended t true) ld

  living_gone : (k : Control P S H) → lives (k.threads.known t) ≡ true → Living n ended k → After (removes t k)
  unfolding forgets leaves_queue
  living_gone k alive l = living_over n ended t None (leaves_queue t k) (living-made n ended k.threads.made k.threads.known k.threads.standing l t alive) refl (λ there. absurd (true≢false (sym there))) (unplaced_leaves n ended t k) (living_leaves n ended t k l)

  -- t has ended
  pub living_left : (v : ℤ) (k : Control P S H) → lives (k.threads.known t) ≡ true → Living n ended k → After (leaves t v k)
  unfolding leaves
  living_left v k alive l = by_joinable (or_nobody (entry_of k t)).joinable
    where
      by_joinable : (b : Bool) → After (stops_running t ((if b then is_dead_with t v else removes t) k))
      by_joinable true = living_dead v k alive l
      by_joinable false = living_gone k alive l
