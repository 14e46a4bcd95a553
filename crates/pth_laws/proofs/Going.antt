-- While a thread makes a step: what its calls keep of who lives.
use Rattle.std.proofs.Common.{◌≡◌, ◌≢◌, ℕ, ◌+◌, not, Bool, true, false, if◌then◌else◌, ℤ, pos, negsuc, List, [], ◌∷◌, All, Option, Some, None, is_some, option_map, refl, sym, ◌∙◌, ap, subst}
use Rattle.std.proofs.lemmas.List.Elements.{All-head, All-filter, All-weaker}
use Rattle.std.proofs.lemmas.Bool.{true≢false}
use Rattle.pth_base.specs.Program.{Functions}
use Rattle.pth_base.specs.declared.thread.ThreadState.TheVariants as state
use Rattle.pth_base.proofs.Tables.{put_by, put_other}
use Rattle.pth_numbered.specs.Operands.{number, named, is_zero}
use Rattle.pth_queue.specs.declared.queue.Queue.{Queue}
use Rattle.pth_queue.specs.declared.queue.Queue.TheVariants.{Dead}
use Rattle.pth_threads.specs.Threads.{changed}
use Rattle.pth_threads.specs.declared.entry.Change as change_type
use Rattle.pth_threads.specs.declared.entry.Change.TheVariants as change
use Rattle.pth_threads.specs.declared.entry.Entry.{Entry}
use Rattle.pth_threads.specs.declared.entry.NewThread.{NewThread}
use Rattle.pth_model.specs.declared.progress.Progress.{Progress}
use Rattle.pth_model.specs.Standing.{raises_of}
use Rattle.pth_base.specs.Table.{put}
use Rattle.pth_model.specs.State.{Control, Scheduler, queue}
use Rattle.pth_model.specs.Changes.{sets, enters, leaves_queue, makes, forgets, removes, goes_on, or_nobody, entry_of, blocked_in, blocked_of, queue_for, holders}
use Rattle.pth_model.specs.Awaits.{is_awaiting, is_retaking, awaits_in}
use Rattle.pth_model.specs.Living.{is_dead, is_made, lives}
use Rattle.pth_model.specs.ThreadControl.{spawns, suspends, resumes, returns_to, thread, to_join, joinable_dead, first_of, is_dead_in}
use Rattle.pth_model.proofs.Placed.{Seats, seats}
use Rattle.pth_model.proofs.Once.{shown-all}
use Rattle.pth_model.proofs.Walks.{IsOther}
use Rattle.pth_laws.proofs.Living.{IsLiving, Living, runs_alive, living-made, living-over, changed_lives, living_sets, living_spawned, living_suspended, living_resumed, living_removed, not_next}

-- t was made and lives, whom a join takes does not, nor does who is made next, and only a pth_cond_await takes a mutex back
pub record IsSound {P S H : Type 0} (t : ℕ) (k : Control P S H) : Type 0 where
  pub made : is_made k.threads.made t ≡ true
  pub alive : lives (k.threads.known t) ≡ true
  pub joins : (m : ℤ) (u : ℕ) → to_join k m ≡ Some u → lives (k.threads.known u) ≡ false
  pub next : lives (k.threads.known (k.threads.made + 1)) ≡ false
  pub retakes : is_retaking (awaits_in (blocked_of k t)) ≡ true → is_awaiting (blocked_of k t) ≡ true

-- t runs, and nobody is named; n threads were made before, and these have ended
pub record IsGoing (n : ℕ) (ended : ℕ → Bool) (t : ℕ) (x : Seats) : Type 0 where
  pub living : IsLiving n ended x.made x.known x.standing
  pub runs : (or_nobody (x.known t)).state ≡ state.Running
  pub running : x.running ≡ Some t
  pub preferred : x.preferred ≡ None

-- who is dead in the system does not live
pub dead_known : (o : Option Entry) → is_dead_in o ≡ true → lives o ≡ false
dead_known (Some e) h = ap not h
dead_known None h = refl

pub known_lives : (o : Option Entry) → is_some o ≡ true → is_dead (or_nobody o).state ≡ false → lives o ≡ true
known_lives None known h = absurd (true≢false (sym known))
known_lives (Some e) known h = ap not h

lives_known : (o : Option Entry) → lives o ≡ true → is_some o ≡ true
lives_known None h = absurd (true≢false (sym h))
lives_known (Some e) h = refl

-- whoever lives does after a change that leaves who lives as it is
pub set_lives : (u : ℕ) (c : change_type.Change) (known : ℕ → Option Entry) → ((e : Entry) → known u ≡ Some e → is_dead (changed c e).state ≡ is_dead e.state) → (v : ℕ) → lives (known v) ≡ true → lives (put known u (option_map (changed c) (known u)) v) ≡ true
set_lives u c known safe v alive = put_by (λ o. lives o ≡ true) known u (option_map (changed c) (known u)) v (λ here. changed_lives c (known u) safe ∙ ap (λ i. lives (known i)) (sym here) ∙ alive) (λ other. alive)

first_holds : (P : ℕ → Type 0) (ts : List ℕ) (u : ℕ) → first_of ts ≡ Some u → All P ts → P u
first_holds P [] u h all = absurd (cc h)
first_holds P (t ∷ ts) u h all = let same : t ≡ u = cc in subst P same (All-head P t ts all)

named_dead : (known : ℕ → Option Entry) (n : ℤ) (b : Bool) (u : ℕ) → is_dead_in (named known n) ≡ b → (if b then Some (number n) else None) ≡ Some u → lives (known u) ≡ false
named_dead known n false u dead h = absurd (cc h)
named_dead known (pos m) true u dead h = let same : m ≡ u = cc in subst (λ i. lives (known i) ≡ false) same (dead_known (known m) dead)
named_dead known (negsuc m) true u dead h = absurd (true≢false (sym dead))

-- where those among the dead do not live, neither does whom a join takes
pub joins_dead : {P S H : Type 0} (k : Control P S H) → All (λ v. lives (k.threads.known v) ≡ false) (holders (queue k Dead)) → (m : ℤ) (u : ℕ) → to_join k m ≡ Some u → lives (k.threads.known u) ≡ false
unfolding joinable_dead
joins_dead k all m u h = by_zero (is_zero m) h
  where
    by_zero : (b : Bool) → (if b then first_of (joinable_dead k) else (if is_dead_in (thread k m) then Some (number m) else None)) ≡ Some u → lives (k.threads.known u) ≡ false
    by_zero true taken = first_holds (λ v. lives (k.threads.known v) ≡ false) (joinable_dead k) u taken (All-filter (λ v. (or_nobody (entry_of k v)).joinable) (λ v. lives (k.threads.known v) ≡ false) (holders (queue k Dead)) all)
    by_zero false taken = named_dead k.threads.known m (is_dead_in (thread k m)) u refl taken

module _ {P S H : Type 0} (n : ℕ) (ended : ℕ → Bool) (t : ℕ) where
  abbrev pub Going : Control P S H → Type 0
  Going k = IsGoing n ended t (seats k)

  pub going_alive : (k : Control P S H) → Going k → lives (k.threads.known t) ≡ true
  going_alive k g = runs_alive (k.threads.known t) g.runs

  -- who does not live is another
  pub other : (k : Control P S H) (u : ℕ) → Going k → lives (k.threads.known u) ≡ false → t ≢ u
  other k u g dead same = true≢false (sym (going_alive k g) ∙ ap (λ i. lives (k.threads.known i)) same ∙ dead)

  -- whom a join takes is dead
  pub joined_dead : (k : Control P S H) (m : ℤ) (u : ℕ) → Going k → to_join k m ≡ Some u → lives (k.threads.known u) ≡ false
  joined_dead k m u g h =
      let Over : ℕ → Type 0 = λ v. ended v ≡ true in
      let Gone : ℕ → Type 0 = λ v. lives (k.threads.known v) ≡ false in
      joins_dead k
      (All-weaker Over Gone (λ v over. living-over n ended k.threads.made k.threads.known k.threads.standing g.living v over) (holders (queue k Dead)) (shown-all Over (raises_of k.threads.raises Dead) (k.threads.standing Dead) g.living.dead)) m u h

  -- who is made next does not live yet, and is another
  pub next_dead : (k : Control P S H) → Living n ended k → lives (k.threads.known (k.threads.made + 1)) ≡ false
  next_dead k l = by_life (lives (k.threads.known (k.threads.made + 1))) refl
    where
      by_life : (b : Bool) → lives (k.threads.known (k.threads.made + 1)) ≡ b → lives (k.threads.known (k.threads.made + 1)) ≡ false
      by_life false h = h
      by_life true h = absurd (true≢false (sym (living-made n ended k.threads.made k.threads.known k.threads.standing l (k.threads.made + 1) h) ∙ not_next k.threads.made))

  pub going_sound : (k : Control P S H) → Going k → (is_retaking (awaits_in (blocked_of k t)) ≡ true → is_awaiting (blocked_of k t) ≡ true) → IsSound t k
  going_sound k g retakes = record { retakes = retakes; made = g.living.numbered t (lives_known (k.threads.known t) (going_alive k g)); alive = going_alive k g; joins = λ m u taken. joined_dead k m u g taken; next = next_dead k g.living }

  pub going_spawned : (f : P → Functions S H) (b : ℕ) (v : ℤ) (of : NewThread) (k : Control P S H) → Going k → Going (spawns f b v of k)
  unfolding makes enters
  going_spawned f b v of k g = record {
    living = living_spawned n ended f b v of k g.living;
    runs = ap (λ o. (or_nobody o).state) (put_other k.threads.known (k.threads.made + 1) _ t (other k (k.threads.made + 1) g (next_dead k g.living))) ∙ g.runs;
    running = g.running;
    preferred = g.preferred;
  }

  -- another thread's record is changed, and it may have another place
  going_apart : (u : ℕ) (o : Option Entry) (k : Control P S H) → u ≢ t → Going k → (or_nobody (put k.threads.known u o t)).state ≡ state.Running
  going_apart u o k apart g = ap (λ p. (or_nobody p).state) (put_other k.threads.known u o t (λ same. apart (sym same))) ∙ g.runs

  pub going_suspended : (u : ℕ) (k : Control P S H) → IsOther t u k → is_dead (or_nobody (entry_of k u)).state ≡ false → Going k → Going (suspends u k)
  unfolding suspends sets enters leaves_queue
  going_suspended u k other up g = record {
    living = living_suspended n ended u k (known_lives (k.threads.known u) other.known up) g.living;
    runs = going_apart u (option_map (changed (change.Suspended true)) (k.threads.known u)) k other.apart g;
    running = g.running;
    preferred = g.preferred;
  }

  returned_runs : (u : ℕ) (q : Option Queue) (k : Control P S H) → IsOther t u k → Going k → (or_nobody ((returns_to u q k).threads.known t)).state ≡ state.Running
  unfolding sets enters leaves_queue
  returned_runs u None k other g = g.runs
  returned_runs u (Some q) k other g = going_apart u (option_map (changed (change.Suspended false)) (k.threads.known u)) k other.apart g

  returned_running : (u : ℕ) (q : Option Queue) (k : Control P S H) → (returns_to u q k).scheduler ≡ k.scheduler
  unfolding sets enters leaves_queue
  returned_running u None k = refl
  returned_running u (Some q) k = refl

  pub going_resumed : (u : ℕ) (k : Control P S H) → IsOther t u k → Going k → Going (resumes u k)
  unfolding resumes
  going_resumed u k other g =
      let q = queue_for (or_nobody (entry_of k u)).state in
      record {
        living = living_resumed n ended u k other.known g.living;
        runs = returned_runs u q k other g;
        running = ap (λ (x : Scheduler). x.running) (returned_running u q k) ∙ g.running;
        preferred = ap (λ (x : Scheduler). x.preferred) (returned_running u q k) ∙ g.preferred;
      }

  pub going_removed : (u : ℕ) (k : Control P S H) → lives (k.threads.known u) ≡ false → Going k → Going (removes u k)
  unfolding forgets leaves_queue
  going_removed u k dead g = record {
    living = living_removed n ended u k dead g.living;
    runs = going_apart u None k (λ same. other k u g dead (sym same)) g;
    running = g.running;
    preferred = g.preferred;
  }

  -- a field of t's record is set, or of another's, but for the state
  set_runs : (u : ℕ) (c : change_type.Change) (k : Control P S H) → ((e : Entry) → (changed c e).state ≡ e.state) → Going k → (or_nobody (put k.threads.known u (option_map (changed c) (k.threads.known u)) t)).state ≡ state.Running
  set_runs u c k same g = put_by (λ o. (or_nobody o).state ≡ state.Running) k.threads.known u (option_map (changed c) (k.threads.known u)) t (λ here. by_entry (k.threads.known u) (ap (λ i. (or_nobody (k.threads.known i)).state) (sym here) ∙ g.runs)) (λ apart. g.runs)
    where
      by_entry : (o : Option Entry) → (or_nobody o).state ≡ state.Running → (or_nobody (option_map (changed c) o)).state ≡ state.Running
      by_entry None h = h
      by_entry (Some e) h = same e ∙ h

  pub going_set : (u : ℕ) (c : change_type.Change) (k : Control P S H) → ((e : Entry) → (changed c e).state ≡ e.state) → Going k → Going (sets u c k)
  unfolding sets
  going_set u c k same g = record {
    living = living_sets n ended u c k (λ e h. ap is_dead (same e)) g.living;
    runs = set_runs u c k same g;
    running = g.running;
    preferred = g.preferred;
  }

module _ {P S H : Type 0} (t : ℕ) where
  -- what a thread has to go on with in its program, and the program's shared value, are nothing to it
  pub sound_steps : (u : ℕ) (g : Progress S → Progress S) (h : H) (k : Control P S H) → ((p : Progress S) → (g p).blocked ≡ p.blocked) → IsSound t k → IsSound t (goes_on u g (record k { shared = h }))
  unfolding goes_on joinable_dead
  sound_steps u g h k same x = record { retakes = subst (λ o. is_retaking (awaits_in o) ≡ true → is_awaiting o ≡ true) (sym kept) x.retakes; made = x.made; alive = x.alive; joins = λ m v taken. x.joins m v taken; next = x.next }
    where
      by_progress : (p : Option (Progress S)) → blocked_in (option_map g p) ≡ blocked_in p
      by_progress None = refl
      by_progress (Some p) = same p

      kept : blocked_in (put k.threads.progress u (option_map g (k.threads.progress u)) t) ≡ blocked_of k t
      kept = put_by (λ p. blocked_in p ≡ blocked_of k t) k.threads.progress u (option_map g (k.threads.progress u)) t (λ here. by_progress (k.threads.progress u) ∙ ap (blocked_of k) (sym here)) (λ apart. refl)
