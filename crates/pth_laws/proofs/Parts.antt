-- The parts of a run, walked: what holds between two of them.
use Rattle.std.proofs.Common.{◌≡◌, ℕ, ◌+◌, min, Bool, true, false, ℤ, pos, ◌+ℤ◌, List, [], ◌∷◌, reverse, All, Option, Some, None, option_map, refl, sym, ◌∙◌, ap, subst, ◌⊎◌, inl, inr}
use Rattle.std.proofs.lemmas.List.Elements.{All-head, All-tail, All-weaker, All-filter}
use Rattle.std.proofs.lemmas.List.Sorted.{IsPermutation-reverse, All-permutation}
use Rattle.std.proofs.lemmas.Bool.{true≢false}
use Rattle.std.proofs.lemmas.Option.{none-some, same_Some}
use Rattle.pth_base.specs.Limits.{last_count}
use Rattle.pth_base.specs.Program.{Functions}
use Rattle.pth_base.specs.Table.{put}
use Rattle.pth_base.specs.declared.mark.Mark.TheVariants as mark
use Rattle.pth_base.specs.declared.outcome.Outcome.{Outcome}
use Rattle.pth_base.specs.declared.outcome.Outcome.TheVariants as outcome
use Rattle.pth_base.specs.declared.thread.ThreadState.{ThreadState}
use Rattle.pth_base.specs.declared.thread.ThreadState.TheVariants as state
use Rattle.pth_base.proofs.Tables.{put_here}
use Rattle.pth_queue.specs.declared.queue.Queue.{Queue}
use Rattle.pth_queue.specs.declared.queue.Queue.TheVariants.{New, Ready, Waiting, Dead}
use Rattle.pth_queue.specs.declared.ranked.Ranked.{Ranked}
use Rattle.pth_threads.specs.Threads.{changed}
use Rattle.pth_threads.specs.declared.entry.Change.TheVariants as change
use Rattle.pth_threads.specs.declared.entry.Entry.{Entry}
use Rattle.pth_model.specs.declared.blocked.Blocked.{Blocked}
use Rattle.pth_model.specs.declared.next.Next.{Next}
use Rattle.pth_model.specs.declared.next.Next.TheVariants as next
use Rattle.pth_model.specs.Resources.{told}
use Rattle.pth_model.specs.Standing.{raises_of, is_queue}
use Rattle.pth_model.specs.State.{State, Control, Scheduler, Turn, queue}
use Rattle.pth_model.specs.Transition.{controlled}
use Rattle.pth_model.specs.Changes.{sets, enters, goes_on, leaves_queue, trails, raises_ready, prio_of, blocked_of, owing, or_nobody, entry_of, holders, moves_to}
use Rattle.pth_model.specs.Living.{is_dead, lives, is_made}
use Rattle.pth_model.specs.Pass.{pass, looks, waiting, is_to_wake, to_wake, woken, all_woken, is_ready_at, moment}
use Rattle.pth_model.specs.Course.{Course}
use Rattle.pth_model.specs.Part.{Part, next_part, next_part_by, unless_ended, is_idle, chosen, turn_after, readies, readies_all, readies_new, new_rank, runs, trail_with, dispatches, takes, takes_by, owes_after, steps, steps_on, is_put_back, is_put_waiting, placed_by, is_placed, turn_ends, closes, moves, moves_by, part, part_by}
use Rattle.pth_model.proofs.Once.{shown-all}
use Rattle.pth_laws.proofs.Book.{Book, Closed, after, book_of}
use Rattle.pth_laws.proofs.Laws.{EachMark}
use Rattle.pth_laws.proofs.Living.{Living, to_run_lives, runs_alive, state_safe, changed_lives, living-up, living-made, living-alive, living_leaves, living_sets, living_enters, living_ready}
use Rattle.pth_laws.proofs.Going.{Going}
use Rattle.pth_laws.proofs.Awaits.{HasAwaits, Flags, flags, awaits_set, awaits_moved, awaits_enter, awaits_leave, awaits_go, awaits_look}
use Rattle.pth_laws.proofs.Claims.{HasClaims, claims_set, claims_moved, claims_enter, claims_leave, claims_go, claims_look}
use Rattle.pth_laws.proofs.Walk.{Walk, IsMarked, each_marked, walk_then}
use Rattle.pth_laws.proofs.Steps.{AfterStep, step_walk}

-- the first n numbers are of threads that were made, and of these have ended: who is left
abbrev pub IsUp : ℕ → (ℕ → Bool) → ℕ → Type 0
IsUp n ended t = (is_made n t ≡ true) × (ended t ≡ false)

-- between two parts of a run, of which the marks so far say this
pub record IsSettled {P S H : Type 0} (n : ℕ) (b : Book) (s : State P S H) (x : Turn) : Type 0 where
  pub resources : b.resources ≡ s.resources
  pub closed : b.block ≡ Closed
  pub living : Living n b.ended s.control
  pub claims : HasClaims s.control
  pub awaits : HasAwaits (flags b s.resources.awaits) s.control
  pub runs : (t : ℕ) → s.control.scheduler.running ≡ Some t → (or_nobody (s.control.threads.known t)).state ≡ state.Running
  pub gave : (t : ℕ) → x.gave ≡ Some t → (s.control.scheduler.running ≡ Some t) ⊎ ((s.control.scheduler.running ≡ None) × (b.ended t ≡ true))
  pub preferred : (t : ℕ) → s.control.scheduler.preferred ≡ Some t → lives (s.control.threads.known t) ≡ true
  pub unnamed : (t : ℕ) → s.control.scheduler.running ≡ Some t → x.gave ≡ None → s.control.scheduler.preferred ≡ None

-- between two turns: n threads were made
pub record IsResting {P S H : Type 0} (n : ℕ) (b : Book) (s : State P S H) : Type 0 where
  pub resources : b.resources ≡ s.resources
  pub closed : b.block ≡ Closed
  pub made : s.control.threads.made ≡ n
  pub living : Living n b.ended s.control
  pub claims : HasClaims s.control
  pub awaits : HasAwaits (flags b s.resources.awaits) s.control
  pub running : s.control.scheduler.running ≡ None
  pub preferred : (t : ℕ) → s.control.scheduler.preferred ≡ Some t → IsUp n b.ended t

-- a part: its marks are lawful, and unless it kills the run the state is settled again
pub record PartWalk {P S H : Type 0} (n : ℕ) (b : Book) (c : Course P S H) : Type 0 where
  pub law : EachMark (IsMarked n) b c.marks
  pub post : (c.turn.outcome ≡ outcome.Killed → ⊥) → IsSettled n (book_of b c.marks) c.state c.turn

some_none : (t : ℕ) → Some t ≡ None → ⊥
some_none t h = cc

-- whom a dispatch takes
chosen_up : (n : ℕ) (ended : ℕ → Bool) (named : Option ℕ) (rows : List Ranked) → ((t : ℕ) → named ≡ Some t → IsUp n ended t) → All (IsUp n ended) (holders rows) → (t : ℕ) → chosen named rows ≡ Some t → IsUp n ended t
chosen_up n ended (Some u) rows up all t h = up t h
chosen_up n ended None [] up all t h = absurd (none-some t h)
chosen_up n ended None (x ∷ rows) up all t h = subst (IsUp n ended) (same_Some x.holder t h) (All-head (IsUp n ended) x.holder (holders rows) all)

running_now : (t count : ℕ) (known : ℕ → Option Entry) → lives (known t) ≡ true → (or_nobody (put (put known t (option_map (changed (change.State state.Running)) (known t))) t (option_map (changed (change.Dispatches count)) (put known t (option_map (changed (change.State state.Running)) (known t)) t)) t)).state ≡ state.Running
unfolding changed
running_now t count known alive =
    let one = option_map (changed (change.State state.Running)) (known t) in
    ap (λ o. (or_nobody o).state) (put_here (put known t one) t (option_map (changed (change.Dispatches count)) (put known t one t)) ∙ ap (option_map (changed (change.Dispatches count))) (put_here known t one))
    ∙ by_entry (known t) alive
  where
    by_entry : (o : Option Entry) → lives o ≡ true → (or_nobody (option_map (changed (change.Dispatches count)) (option_map (changed (change.State state.Running)) o))).state ≡ state.Running
    by_entry None h = absurd (true≢false (sym h))
    by_entry (Some e) h = refl

dispatch_safe : (count : ℕ) (e : Entry) → is_dead (changed (change.Dispatches count) e).state ≡ is_dead e.state
unfolding changed
dispatch_safe count e = refl

module _ {P S H : Type 0} (n : ℕ) where
  alive_up : (b : Book) (s : State P S H) → IsResting n b s → (t : ℕ) → IsUp n b.ended t → lives (s.control.threads.known t) ≡ true
  alive_up b s r t up = living-alive n b.ended s.control.threads.made s.control.threads.known s.control.threads.standing r.living t (rw r.made up.0) up.1

  rest_settles : (b : Book) (s : State P S H) (x : Turn) → x.gave ≡ None → IsResting n b s → IsSettled n b s x
  rest_settles b s x none r = record {
    resources = r.resources;
    closed = r.closed;
    living = r.living;
    claims = r.claims;
    awaits = r.awaits;
    runs = λ t h. absurd (none-some t (sym r.running ∙ h));
    gave = λ t g. absurd (none-some t (sym none ∙ g));
    preferred = λ t h. alive_up b s r t (r.preferred t h);
    unnamed = λ t h g. absurd (none-some t (sym r.running ∙ h));
  }

  -- who stands in a queue but that of the dead is up
  rows_up : (q : Queue) (b : Book) (s : State P S H) → is_queue q Dead ≡ false → IsResting n b s → All (IsUp n b.ended) (holders (queue s.control q))
  rows_up q b s living r =
      shown-all (IsUp n b.ended) (raises_of s.control.threads.raises q) (s.control.threads.standing q)
      (All-weaker (λ z. lives (s.control.threads.known z.tid) ≡ true) (λ z. IsUp n b.ended z.tid) (λ z h. up z.tid h) (s.control.threads.standing q) (r.living.stands q living))
    where
      up : (t : ℕ) → lives (s.control.threads.known t) ≡ true → IsUp n b.ended t
      up t h = (ap (λ m. is_made m t) (sym r.made) ∙ living-made n b.ended s.control.threads.made s.control.threads.known s.control.threads.standing r.living t h, living-up n b.ended s.control.threads.made s.control.threads.known s.control.threads.standing r.living t h)

  -- a thread that is up is ready
  rest_ready : (t : ℕ) (rank : ℤ) (top : Bool) (b : Book) (s : State P S H) → IsUp n b.ended t → IsResting n b s → IsResting n b (controlled (is_ready_at t rank top) s)
  unfolding is_ready_at sets leaves_queue enters
  rest_ready t rank top b s up r = record {
    resources = r.resources;
    closed = r.closed;
    made = r.made;
    living = living_ready n b.ended t rank top s.control (alive_up b s r t up) r.living;
    claims = claims_moved t (change.State state.Ready) Ready rank top s.control (state_safe state.Ready refl (s.control.threads.known t) (alive_up b s r t up)) r.claims;
    awaits = awaits_moved (flags b s.resources.awaits) t (change.State state.Ready) Ready rank top s.control (state_safe state.Ready refl (s.control.threads.known t) (alive_up b s r t up)) r.awaits;
    running = r.running;
    preferred = r.preferred;
  }

  -- ---- a pass

  woken_walk : (t : ℕ) (b : Book) (s : State P S H) → IsUp n b.ended t → IsResting n b s → Walk n b (λ c u. (c.ended ≡ b.ended) × IsResting n c u) (woken t s)
  unfolding woken told
  woken_walk t b s up r =
      let rank = prio_of s.control t +ℤ pos 1 in
      let x = rest_ready t rank false b s up r in
      record {
        law = ((λ locked. (((up.1, tt), tt), up.0)), tt);
        post = (refl, record { resources = x.resources; closed = refl; made = x.made; living = x.living; claims = x.claims; awaits = x.awaits; running = x.running; preferred = x.preferred });
      }

  all_woken_walk : (ts : List ℕ) (b : Book) (s : State P S H) → All (IsUp n b.ended) ts → IsResting n b s → Walk n b (IsResting n) (all_woken ts s)
  unfolding all_woken
  all_woken_walk [] b s up r = record { law = tt; post = r }
  all_woken_walk (t ∷ ts) b s up r =
      walk_then n (λ c u. (c.ended ≡ b.ended) × IsResting n c u) (IsResting n) b (woken t) (all_woken ts) s
      (woken_walk t b s (All-head (IsUp n b.ended) t ts up) r)
      (λ c h. all_woken_walk ts c (woken t s).state (subst (λ (e : ℕ → Bool). All (IsUp n e) ts) (sym h.0) (All-tail (IsUp n b.ended) t ts up)) h.1)

  pass_walk : (f : P → Functions S H) (b : Book) (s : State P S H) → IsResting n b s → Walk n b (IsResting n) (pass f s)
  unfolding pass to_wake looks
  pass_walk f b s r =
      let looked = claims_look f s r.claims in
      let w = all_woken_walk (to_wake f s) b (controlled (looks f s) s) (All-filter (is_to_wake f s) (IsUp n b.ended) (waiting s.control) (rows_up Waiting b s refl r)) (record { resources = r.resources; closed = r.closed; made = r.made; living = r.living; claims = looked; awaits = awaits_look (flags b s.resources.awaits) f s r.awaits; running = r.running; preferred = r.preferred }) in
      record { law = w.law; post = w.post }

  -- ---- a dispatch

  rest_readies : (ts : List ℕ) (b : Book) (s : State P S H) → All (IsUp n b.ended) ts → IsResting n b s → IsResting n b (controlled (readies_all ts) s)
  unfolding readies_all readies
  rest_readies [] b s up r = record { resources = r.resources; closed = r.closed; made = r.made; living = r.living; claims = r.claims; awaits = r.awaits; running = r.running; preferred = r.preferred }
  rest_readies (t ∷ ts) b s up r =
      let a = controlled (readies t) s in
      let k = rest_ready t (new_rank s.control) s.control.scheduler.favour_new b s (All-head (IsUp n b.ended) t ts up) r in
      let x = rest_readies ts b a (All-tail (IsUp n b.ended) t ts up) (record { resources = k.resources; closed = k.closed; made = k.made; living = k.living; claims = k.claims; awaits = k.awaits; running = k.running; preferred = k.preferred }) in
      record { resources = x.resources; closed = x.closed; made = x.made; living = x.living; claims = x.claims; awaits = x.awaits; running = x.running; preferred = x.preferred }

  dispatch_walk : (x : Turn) (t : ℕ) (b : Book) (s : State P S H) → x.gave ≡ None → IsUp n b.ended t → IsResting n b s → PartWalk n b (takes_by x (Some t) s)
  unfolding dispatches runs trails sets leaves_queue told
  dispatch_walk x t b s none up r =
      let k = trails (trail_with t s.control) s.control in
      let count = min ((or_nobody (entry_of k t)).dispatches + 1) last_count in
      let alive = alive_up b s r t up in
      let a = leaves_queue t k in
      let c = sets t (change.State state.Running) a in
      let lc : Living n b.ended c = living_sets n b.ended t (change.State state.Running) a (state_safe state.Running refl (k.threads.known t) alive) (living_leaves n b.ended t k r.living) in
      record {
        law = ((λ locked. (((up.1, tt), tt), up.0)), tt);
        post = λ on. record {
          resources = r.resources;
          closed = refl;
          living = living_sets n b.ended t (change.Dispatches count) c (λ e h. dispatch_safe count e) lc;
          claims = claims_set t (change.Dispatches count) c (λ e h. dispatch_safe count e) (claims_set t (change.State state.Running) a (state_safe state.Running refl (k.threads.known t) alive) (claims_leave t k r.claims));
          awaits = awaits_set (flags b s.resources.awaits) t (change.Dispatches count) c (λ e h. dispatch_safe count e) (awaits_set (flags b s.resources.awaits) t (change.State state.Running) a (state_safe state.Running refl (k.threads.known t) alive) (awaits_leave (flags b s.resources.awaits) t k r.awaits));
          runs = λ u h. subst (λ (v : ℕ). (or_nobody (put (put k.threads.known t (option_map (changed (change.State state.Running)) (k.threads.known t))) t (option_map (changed (change.Dispatches count)) (put k.threads.known t (option_map (changed (change.State state.Running)) (k.threads.known t)) t)) v)).state ≡ state.Running) (same_Some t u h) (running_now t count k.threads.known alive);
          gave = λ u g. absurd (none-some u (sym none ∙ g));
          preferred = λ u h. absurd (none-some u h);
          unnamed = λ u h g. refl;
        };
      }

  taken_walk : (x : Turn) (o : Option ℕ) (b : Book) (s : State P S H) → x.gave ≡ None → ((t : ℕ) → o ≡ Some t → IsUp n b.ended t) → IsResting n b s → PartWalk n b (takes_by x o s)
  taken_walk x None b s none up r = record { law = tt; post = λ on. rest_settles b s x none r }
  taken_walk x (Some t) b s none up r = dispatch_walk x t b s none (up t refl) r

  take_walk : (x : Turn) (b : Book) (s : State P S H) → x.gave ≡ None → IsResting n b s → PartWalk n b (takes x s)
  unfolding takes
  take_walk x b s none r =
      let new = holders (queue s.control New) in
      let a = controlled readies_new s in
      let fresh : All (IsUp n b.ended) (reverse new) = All-permutation (IsUp n b.ended) new (reverse new) (IsPermutation-reverse new) (rows_up New b s refl r) in
      let ra : IsResting n b a = rest_readies (reverse new) b s fresh r in
      taken_walk x (chosen a.control.scheduler.preferred (queue a.control Ready)) b a none (chosen_up n b.ended a.control.scheduler.preferred (queue a.control Ready) ra.preferred (rows_up Ready b a refl ra)) ra

  -- ---- time moves

  moved_walk : (f : P → Functions S H) (x : Turn) (o : Option ℕ) (b : Book) (s : State P S H) → x.gave ≡ None → IsResting n b s → PartWalk n b (moves_by f x o s)
  unfolding told
  moved_walk f x None b s none r = record { law = tt; post = λ on. rest_settles b s (record x { outcome = outcome.Stalled }) none r }
  moved_walk f x (Some m) b s none r =
      let a = controlled (moves_to m) s in
      let c = after b (mark.Moved m) in
      let w = pass_walk f c a (record { resources = r.resources; closed = refl; made = r.made; living = r.living; claims = r.claims; awaits = r.awaits; running = r.running; preferred = r.preferred }) in
      record { law = ((λ locked. (((tt, tt), tt), tt)), each_marked n c (pass f a).marks w.law); post = λ on. rest_settles (book_of c (pass f a).marks) (pass f a).state x none w.post }

  -- ---- a turn is closed

  -- what becomes of who gave up control
  pub record IsPlaced (ended : ℕ → Bool) (awaits : Flags) (k j : Control P S H) : Type 0 where
    pub made : j.threads.made ≡ k.threads.made
    pub living : Living n ended j
    pub claims : HasClaims j
    pub fits : HasAwaits awaits j
    pub scheduler : j.scheduler ≡ k.scheduler

  put_at : (t : ℕ) (at : ThreadState) (q : Queue) (ended : ℕ → Bool) (awaits : Flags) (k : Control P S H) → is_dead at ≡ false → is_queue q Dead ≡ false → lives (k.threads.known t) ≡ true → Living n ended k → HasClaims k → HasAwaits awaits k → IsPlaced ended awaits k (enters t q (prio_of k t) false (sets t (change.State at) k))
  unfolding sets enters
  put_at t at q ended awaits k up living alive l claims fits =
      let safe = state_safe at up (k.threads.known t) alive in
      record {
        made = refl;
        living = living_enters n ended t q (prio_of k t) false (sets t (change.State at) k)
            ((λ h. ap lives (put_here k.threads.known t (option_map (changed (change.State at)) (k.threads.known t))) ∙ changed_lives (change.State at) (k.threads.known t) safe ∙ alive), λ dead. absurd (true≢false (sym dead ∙ living)))
            (living_sets n ended t (change.State at) k safe l);
        claims = claims_enter t q (prio_of k t) false (sets t (change.State at) k) (claims_set t (change.State at) k safe claims);
        fits = awaits_enter awaits t q (prio_of k t) false (sets t (change.State at) k) (awaits_set awaits t (change.State at) k safe fits);
        scheduler = refl;
      }

  put_back : (t : ℕ) (o : Option ℕ) (d : Option Blocked) (ended : ℕ → Bool) (awaits : Flags) (k : Control P S H) → ((u : ℕ) → o ≡ Some u → lives (k.threads.known t) ≡ true) → Living n ended k → HasClaims k → HasAwaits awaits k → IsPlaced ended awaits k (placed_by t o d k)
  unfolding is_put_back is_put_waiting
  put_back t None d ended awaits k alive l claims fits = record { made = refl; living = l; claims = claims; fits = fits; scheduler = refl }
  put_back t (Some u) (Some d) ended awaits k alive l claims fits = put_at t state.Waiting Waiting ended awaits k refl refl (alive u refl) l claims fits
  put_back t (Some u) None ended awaits k alive l claims fits = put_at t state.Ready Ready ended awaits k refl refl (alive u refl) l claims fits

  turn_rests : (x : Turn) (t : ℕ) (b : Book) (s : State P S H) → x.gave ≡ Some t → s.control.threads.made ≡ n → IsSettled n b s x → IsResting n b (controlled (turn_ends t) s)
  unfolding is_placed raises_ready
  turn_rests x t b s gave made z =
      let k = raises_ready s.control in
      let own : (u : ℕ) → s.control.scheduler.running ≡ Some u → lives (s.control.threads.known t) ≡ true = λ u h. runs_alive (s.control.threads.known t) (z.runs t (by_gave u h (z.gave t gave))) in
      let p = put_back t s.control.scheduler.running (blocked_of s.control t) b.ended (flags b s.resources.awaits) k own z.living z.claims z.awaits in
      record {
        resources = z.resources;
        closed = z.closed;
        made = p.made ∙ made;
        living = p.living;
        claims = p.claims;
        awaits = p.fits;
        running = refl;
        preferred = λ u h. preferred_up u (z.preferred u (ap (λ (y : Scheduler). y.preferred) (sym p.scheduler) ∙ h));
      }
    where
      by_gave : (u : ℕ) → s.control.scheduler.running ≡ Some u → (s.control.scheduler.running ≡ Some t) ⊎ ((s.control.scheduler.running ≡ None) × (b.ended t ≡ true)) → s.control.scheduler.running ≡ Some t
      by_gave u h (inl runs) = runs
      by_gave u h (inr rests) = absurd (none-some u (sym rests.0 ∙ h))

      preferred_up : (u : ℕ) → lives (s.control.threads.known u) ≡ true → IsUp n b.ended u
      preferred_up u alive = (ap (λ m. is_made m u) (sym made) ∙ living-made n b.ended s.control.threads.made s.control.threads.known s.control.threads.standing z.living u alive, living-up n b.ended s.control.threads.made s.control.threads.known s.control.threads.standing z.living u alive)

  close_walk : (f : P → Functions S H) (x : Turn) (t : ℕ) (b : Book) (s : State P S H) → x.gave ≡ Some t → s.control.threads.made ≡ n → IsSettled n b s x → PartWalk n b (closes f x t s)
  unfolding closes
  close_walk f x t b s gave made z =
      let a = controlled (turn_ends t) s in
      let w = pass_walk f b a (turn_rests x t b s gave made z) in
      record { law = each_marked n b (pass f a).marks w.law; post = λ on. rest_settles (book_of b (pass f a).marks) (pass f a).state (record x { gave = None }) refl w.post }

  -- ---- a step

  claims_owed : (t : ℕ) (o : Next) (k : Control P S H) → HasClaims k → HasClaims (owes_after t o k)
  claims_owed t (next.Done a) k claims = claims_go t (owing a) k (λ p. refl) claims
  claims_owed t (next.Yields a) k claims = claims_go t (owing a) k (λ p. refl) claims
  claims_owed t next.Blocks k claims = claims
  claims_owed t (next.Ended v) k claims = claims
  claims_owed t next.Killed k claims = claims

  awaits_owed : (w : Flags) (t : ℕ) (o : Next) (k : Control P S H) → HasAwaits w k → HasAwaits w (owes_after t o k)
  awaits_owed w t (next.Done a) k has = awaits_go w t (owing a) k (λ p. refl) has
  awaits_owed w t (next.Yields a) k has = awaits_go w t (owing a) k (λ p. refl) has
  awaits_owed w t next.Blocks k has = has
  awaits_owed w t (next.Ended v) k has = has
  awaits_owed w t next.Killed k has = has

  owed_settles : (t : ℕ) (o : Next) (c : Book) (u : State P S H) (y : Turn) → y.gave ≡ None → AfterStep n t o c u → ((turn_after t o y).outcome ≡ outcome.Killed → ⊥) → IsSettled n c (controlled (owes_after t o) u) (turn_after t o y)
  unfolding goes_on
  owed_settles t (next.Done a) c u y none h on = record {
    resources = h.resources;
    closed = h.closed;
    living = h.living;
    claims = claims_owed t (next.Done a) u.control h.claims;
    awaits = awaits_owed (flags c u.resources.awaits) t (next.Done a) u.control h.awaits;
    runs = λ v run. subst (λ (i : ℕ). (or_nobody (u.control.threads.known i)).state ≡ state.Running) (same_Some t v (sym h.left.0 ∙ run)) h.left.1;
    gave = λ v g. absurd (none-some v (sym none ∙ g));
    preferred = λ v named. absurd (none-some v (sym h.left.2 ∙ named));
    unnamed = λ v run g. h.left.2;
  }
  owed_settles t (next.Yields a) c u y none h on = record {
    resources = h.resources;
    closed = h.closed;
    living = h.living;
    claims = claims_owed t (next.Yields a) u.control h.claims;
    awaits = awaits_owed (flags c u.resources.awaits) t (next.Yields a) u.control h.awaits;
    runs = λ v run. subst (λ (i : ℕ). (or_nobody (u.control.threads.known i)).state ≡ state.Running) (same_Some t v (sym h.left.0 ∙ run)) h.left.1;
    gave = λ v g. inl (h.left.0 ∙ g);
    preferred = λ v named. to_run_lives (u.control.threads.known v) (h.left.2 v named);
    unnamed = λ v run g. absurd (some_none t g);
  }
  owed_settles t next.Blocks c u y none h on = record {
    resources = h.resources;
    closed = h.closed;
    living = h.living;
    claims = claims_owed t next.Blocks u.control h.claims;
    awaits = awaits_owed (flags c u.resources.awaits) t next.Blocks u.control h.awaits;
    runs = λ v run. subst (λ (i : ℕ). (or_nobody (u.control.threads.known i)).state ≡ state.Running) (same_Some t v (sym h.left.0 ∙ run)) h.left.1;
    gave = λ v g. inl (h.left.0 ∙ g);
    preferred = λ v named. absurd (none-some v (sym h.left.2 ∙ named));
    unnamed = λ v run g. h.left.2;
  }
  owed_settles t (next.Ended value) c u y none h on = record {
    resources = h.resources;
    closed = h.closed;
    living = h.living;
    claims = claims_owed t (next.Ended value) u.control h.claims;
    awaits = awaits_owed (flags c u.resources.awaits) t (next.Ended value) u.control h.awaits;
    runs = λ v run. absurd (none-some v (sym h.left.0 ∙ run));
    gave = λ v g. inr (h.left.0, subst (λ (i : ℕ). c.ended i ≡ true) (same_Some t v g) h.gone);
    preferred = λ v named. absurd (none-some v (sym h.left.1 ∙ named));
    unnamed = λ v run g. absurd (none-some v (sym h.left.0 ∙ run));
  }
  owed_settles t next.Killed c u y none h on = absurd (on refl)

  -- what a step of t leaves
  pub step_goes : (f : P → Functions S H) (x : Turn) (t : ℕ) (b : Book) (s : State P S H) → x.gave ≡ None → s.control.scheduler.running ≡ Some t → s.control.threads.made ≡ n → IsSettled n b s x → Walk n b (AfterStep n t (steps_on f t s).next) (steps_on f t s).told
  step_goes f x t b s none running made z =
      let alive = runs_alive (s.control.threads.known t) (z.runs t running) in
      let there : is_made n t ≡ true = ap (λ m. is_made m t) (sym made) ∙ living-made n b.ended s.control.threads.made s.control.threads.known s.control.threads.standing z.living t alive in
      let going : Going n b.ended t s.control = record { living = z.living; runs = z.runs t running; running = running; preferred = z.unnamed t running none } in
      step_walk f n t there b s made z.closed (record { resources = z.resources; going = going; claims = z.claims; fits = z.awaits })

  step_part : (f : P → Functions S H) (x : Turn) (t : ℕ) (b : Book) (s : State P S H) → x.gave ≡ None → s.control.scheduler.running ≡ Some t → s.control.threads.made ≡ n → IsSettled n b s x → PartWalk n b (steps f x t s)
  unfolding steps
  step_part f x t b s none running made z =
      let u = (steps_on f t s).told in
      let w = step_goes f x t b s none running made z in
      record { law = each_marked n b u.marks w.law; post = λ on. owed_settles t (steps_on f t s).next (book_of b u.marks) u.state (record x { steps = x.steps + 1 }) none w.post on }

  -- ---- any part

  settled_rests : (x : Turn) (b : Book) (s : State P S H) → s.control.scheduler.running ≡ None → s.control.threads.made ≡ n → IsSettled n b s x → IsResting n b s
  settled_rests x b s rests made z = record {
    resources = z.resources;
    closed = z.closed;
    made = made;
    living = z.living;
    claims = z.claims;
    awaits = z.awaits;
    running = rests;
    preferred = λ t h. let alive = z.preferred t h in (ap (λ m. is_made m t) (sym made) ∙ living-made n b.ended s.control.threads.made s.control.threads.known s.control.threads.standing z.living t alive, living-up n b.ended s.control.threads.made s.control.threads.known s.control.threads.standing z.living t alive);
  }

  module _ (f : P → Functions S H) (x : Turn) (b : Book) (s : State P S H) (made : s.control.threads.made ≡ n) (z : IsSettled n b s x) where
    next_walk : (g r : Option ℕ) (idle : Bool) → x.gave ≡ g → s.control.scheduler.running ≡ r → PartWalk n b (part_by f x s (next_part_by g r idle))
    unfolding moves
    next_walk (Some t) r idle gave running = close_walk f x t b s gave made z
    next_walk None (Some t) idle gave running = step_part f x t b s gave running made z
    next_walk None None true gave running = moved_walk f x (moment f s) b s gave (settled_rests x b s running made z)
    next_walk None None false gave running = take_walk x b s gave (settled_rests x b s running made z)

    unless_walk : (o : Outcome) (p : Part) → PartWalk n b (part_by f x s p) → PartWalk n b (part_by f x s (unless_ended o p))
    unless_walk outcome.Running p w = w
    unless_walk o p w = record { law = tt; post = λ on. z }

    pub part_walk : PartWalk n b (part f x s)
    unfolding part next_part
    part_walk = unless_walk x.outcome (next_part_by x.gave s.control.scheduler.running (is_idle s.control)) (next_walk x.gave s.control.scheduler.running (is_idle s.control) refl refl)
