-- A world with main alone stands for the state from which a run starts.
use Rattle.std.proofs.lemmas.Bool.{cases_lt}
use Rattle.std.proofs.lemmas.List.{get_or_past, get_or-replicate, length-replicate}
use mathlib.Core.Path.{fun_ext}
use Rattle.std.proofs.Common.{arith, ◌≡◌, ◌<◌, ℕ, inl, inr, pos, true, false, List, [], ◌∷◌, length, map, replicate, IsSome, IfSome, Option, Some, None, option_map, refl, sym, ◌∙◌, ap, subst}
use Rattle.pth_base.specs.Limits.{thread_limit, IsGreatestPriority}
use Rattle.pth_base.proofs.Namings.{none_some}
use Rattle.pth_base.specs.Program.{Functions}
use Rattle.pth_base.specs.Table.{put, table}
use Rattle.pth_base.specs.Naming.{seen}
use Rattle.pth_base.specs.declared.thread.ThreadState.TheVariants as state
use Rattle.pth_base.proofs.Tables.{put_here}
use Rattle.pth_base.proofs.Lists.{put_twice}
use Rattle.pth_queue.specs.declared.queue.Queue.{Queue}
use Rattle.pth_queue.specs.declared.queue.Queue.TheVariants as queue
use Rattle.pth_queue.specs.Ranking.{named_row, IsQueued}
use Rattle.pth_queue.specs.Queues.{QueuesOf, no_queues, rows_of, queue_of, entered, IsOrdered, IsOrderly}
use Rattle.pth_queue.proofs.Orders.{IsOrdered-nil}
use Rattle.pth_threads.specs.Threads.{ThreadsOf, slot_of, tid_at, entry_at, count, changed, made_of}
use Rattle.pth_threads.specs.declared.entry.Change.TheVariants as change
use Rattle.pth_threads.specs.declared.entry.Entry.{Entry}
use Rattle.pth_threads.specs.Attributes.{AttrsOf, object_of}
use Rattle.pth_model.specs.declared.progress.Progress.{Progress}
use Rattle.pth_model.specs.Standing.{put_behind, order, shown}
use Rattle.pth_numbered.specs.Numbered.{number_known}
use Rattle.pth_model.specs.State.{Control, Given, queue, start, main_entry, first_thread}
use Rattle.pth_ring.specs.Arena.{RingsOf, events_of}
use Rattle.pth_ring.specs.Rings.{Events, no_events}
use Rattle.pth_cond.specs.Conditions.{Condition, conditions_of, no_conditions}
use Rattle.pth_cond.specs.Barriers.{Barrier, barriers_of, no_barriers}
use Rattle.pth_kernel.specs.Kernel.{KernelOf, kernel_of}
use Rattle.pth_model.specs.Changes.{sets, enters, leaves_queue, makes}
use Rattle.pth_model.specs.ThreadControl.{spawns}
use Rattle.pth_model.specs.Pass.{is_ready_at}
use Rattle.pth_model.proofs.Orders.{shown-none}
use Rattle.pth_port.proofs.Changes.{names_made}
use Rattle.pth_port.specs.Mail.{PortNames, no_mail, no_names}
use Rattle.pth_port.specs.Ports.{PortsOf, mail_of, names_of}
use Rattle.pth_store.specs.Cleanups.{Stacks, no_cleanups}
use Rattle.pth_store.specs.Keys.{Tables, no_keys}
use Rattle.pth_model.specs.Store.{Store, no_resources}
use Rattle.pth_world.specs.Beginnings.{IsBeforeMain}
use Rattle.pth_world.specs.Store.{store_of, stored_by, HasNothing}
use Rattle.pth_world.specs.World.{WorldOf, ThreadsBySlot, before_main}
use Rattle.std.proofs.lemmas.List.Elements.{All-nil, All-cons, All-head}
use Rattle.pth_world.specs.Shows.{Shows, ShowsThreads, StandsFor, IsHistory, CountsWaits}
use Rattle.pth_model.specs.Standing.{Standing}
use Rattle.pth_model.specs.Allowance.{has_entry, points, waited}
use Rattle.pth_tables.specs.Waits.{WaitsOf, KeptWaits, waits_of, no_waits}
use Rattle.pth_tables.specs.Counts.{Counts, IsCounted}
use Rattle.pth_tables.proofs.CountsKept.{counts_start}
use Rattle.pth_world.specs.Sound.{IsSound, IsKnown}
use Rattle.pth_world.specs.WellFormed.{IsBeforeReady, Newly, view, Fits, FitsEntry, WellFormed}
use Rattle.pth_world.proofs.Showing.{not_known}
use Rattle.pth_world.proofs.Places.{queue-entered}
use Rattle.pth_lock.specs.Mutexes.{MutexTable, no_mutexes}
use Rattle.pth_lock.specs.RwLocks.{LockTables, no_locks}
use Rattle.pth_world.proofs.Stores.{forgets, stored_none}

module _ {P S H : Type 0} (f : P → Functions S H) (program : P) (top : ℕ) (range : IsGreatestPriority top) (t0 : ThreadsOf) (y0 : List (Option (Progress S)))
    (slots : slot_of t0 ≡ (λ _. None)) (tids : tid_at t0 ≡ (λ _. 0)) (entries : entry_at t0 ≡ (λ _. None)) (none_made : t0.made ≡ 0) (no_count : count t0 ≡ 0)
    (none : table None y0 ≡ (λ _. None)) (long0 : length y0 ≡ thread_limit) (k0 : KeptWaits) (no_wait : waits_of k0 ≡ no_waits top)
    (a0 : AttrsOf) (no_objects : object_of a0 ≡ (λ _. None)) (no_number : a0.objects.made ≡ 0) (same_top : a0.top ≡ top)
    (e0 : RingsOf) (none_there : events_of e0 ≡ no_events) (c0 : List Condition) (no_condition : conditions_of c0 ≡ no_conditions) (b0 : List (Option Barrier)) (no_barrier : barriers_of b0 ≡ no_barriers) (kernel : KernelOf)
    (T0 : Tables) (no_key : T0 ≡ no_keys) (S0 : Stacks) (no_cleanup : S0 ≡ no_cleanups) (M0 : MutexTable) (no_mutex : M0 ≡ no_mutexes) (L0 : LockTables) (no_lock : L0 ≡ no_locks)
    (R0 : PortsOf) (no_name : names_of R0 ≡ no_names) (no_message : mail_of R0 ≡ no_mail) where
  abbrev x0 : ThreadsBySlot S
  x0 = record { records = t0; queues = record (no_queues top) { room = thread_limit }; waits = k0; progress = y0 }

  abbrev w0 : WorldOf P S H
  w0 = record { program = program; shared = (f program).shared; threads = x0; attributes = a0; events = e0; conditions = c0; barriers = b0; kernel = kernel; store = stored_by t0 T0 S0 M0 L0 R0; used = replicate 64 false; scheduler = record { running = None; preferred = None; favour_new = true } }

  abbrev s0 : Control P S H
  s0 = before_main f (record { program = program; kernel = kernel_of kernel; top = top })

  none_queued : (q : Queue) → IsQueued (tid_at t0) (rows_of q (record (no_queues top) { room = thread_limit }))
  none_queued queue.New = tt
  none_queued queue.Ready = tt
  none_queued queue.Waiting = tt
  none_queued queue.Suspended = tt
  none_queued queue.Dead = tt

  none_orderly : IsOrderly (record (no_queues top) { room = thread_limit })
  none_orderly = record { each = none_ordered; once = λ v. omega arith; few = omega arith; range = range }
    where
      none_ordered : (q : Queue) → IsOrdered thread_limit (rows_of q (record (no_queues top) { room = thread_limit }))
      none_ordered queue.New = IsOrdered-nil thread_limit
      none_ordered queue.Ready = IsOrdered-nil thread_limit
      none_ordered queue.Waiting = IsOrdered-nil thread_limit
      none_ordered queue.Suspended = IsOrdered-nil thread_limit
      none_ordered queue.Dead = IsOrdered-nil thread_limit

  sound0 : IsSound x0
  unfolding number_known
  sound0 = record {
    tied = rw (slots, tids) (record { tid = λ t v h. absurd (none_some h); slot = λ v h. absurd (h refl); zero = refl; low = λ v h. absurd (h refl) });
    fresh = λ t above. ap (λ (k : ℕ → Option ℕ). k t) slots;
    empty = λ v zero. ap (λ (k : ℕ → Option Entry). k v) entries;
    bare = λ v zero. ap (λ (k : ℕ → Option (Progress S)). k v) none;
    recorded = λ v some. absurd (some (ap (λ (k : ℕ → ℕ). k v) tids));
    queued = none_queued;
    room = refl;
    orderly = none_orderly;
    long = long0;
    present = ap (number_known (seen None (slot_of t0) (entry_at t0))) none_made ∙ sym no_count;
  }

  none_stand : (q : Queue) → queue s0 q ≡ map (named_row (tid_at t0)) (rows_of q (record (no_queues top) { room = thread_limit }))
  none_stand queue.New = shown-none _
  none_stand queue.Ready = shown-none _
  none_stand queue.Waiting = shown-none _
  none_stand queue.Suspended = shown-none _
  none_stand queue.Dead = shown-none _

  none_used_at : (i : ℕ) → table false (replicate 64 false) i ≡ false
  none_used_at i = elim (cases_lt i 64) [ inl low ↦ get_or-replicate 64 i false false low | inr high ↦ get_or_past (replicate 64 false) i false (omega (arith, length-replicate 64 false)) ]

  none_wait : CountsWaits top x0 s0.threads
  unfolding start
  none_wait = record {
    top = sym (ap (λ (x : WaitsOf). x.top) no_wait);
    counts = subst (λ (x : WaitsOf). Counts (slot_of t0) x [] [] 0) (sym no_wait) (counts_start (slot_of t0) top);
  }

  -- no threads, before main is made
  pub before_shows : Shows w0 s0
  unfolding seen start
  before_shows = record {
    program = refl;
    shared = refl;
    threads = record { made = sym none_made; known = rw slots refl; progress = rw slots refl; standing = none_stand; top = refl; waits = λ h. none_wait };
    attributes = record { made = sym no_number; objects = sym no_objects };
    events = sym none_there;
    conditions = sym no_condition;
    barriers = sym no_barrier;
    kernel = refl;
    used = sym (fun_ext none_used_at);
    scheduler = refl;
  }

  -- nothing is stored
  pub before_store : store_of w0.store ≡ no_resources.store
  before_store = forgets t0 R0 no_key no_cleanup no_mutex no_lock ∙ stored_none t0 R0 no_name no_message

  nothing_at : (s : Store) (t : ℕ) → s ≡ no_resources.store → HasNothing s t
  nothing_at s t is = subst (λ (y : Store). HasNothing y t) (sym is) (record { cleanups = refl; values = λ k. refl; mutexes = λ m. refl; locks = λ l. refl })

  no_fit : (v : ℕ) → Fits None (view x0 v)
  no_fit v = subst (λ (o : Option Entry). FitsEntry None o (view x0 v).place (view x0 v).blocked) (sym (ap (λ (k : ℕ → Option Entry). k v) entries)) tt

  pub before_whole : WellFormed w0
  before_whole = record { sound = sound0; fits = no_fit; runner = tt; stored = λ t dead. nothing_at (store_of w0.store) t before_store; top = same_top }

  pub begins_empty : 0 < (f program).bodies → IsBeforeMain f (record { program = program; kernel = kernel_of kernel; top = top }) w0
  begins_empty some = record {
    shows = before_shows;
    store = before_store;
    whole = before_whole;
    made = none_made;
    objects = no_number;
    events = ap (λ (y : Events). y.made) none_there;
    ports = sym (names_made R0) ∙ ap (λ (y : PortNames). y.made) no_name;
    count = no_count;
    queues = refl;
    bodies = some;
  }

-- main alone is ready, and there was no dispatch: the number of its entry tells nothing
abbrev main_as : ℕ → Standing
main_as entry = record { tid = 1; rank = pos 0; since = 0; entry = entry; top = false }

one_counts : (slot : ℕ → Option ℕ) (x : WaitsOf) → Counts slot x [] (main_as 1 ∷ []) 2 → Counts slot x [] (main_as 0 ∷ []) 1
unfolding points waited
one_counts slot x c = record {
  numbered = record { counted = All-cons (λ y. y.entry < 1) (main_as 0) [] (omega arith) (All-nil (λ y. y.entry < 1)); falling = λ i j d less low. absurd (omega (arith, less, low)) };
  once = c.once;
  past = λ e later. All-nil (λ p. has_entry e p.ready ≡ false);
  dispatches = c.dispatches;
  pending = c.pending;
  counted = All-cons (IsCounted slot x []) (main_as 0) [] (main_counted (All-head (IsCounted slot x []) (main_as 1) [] c.counted)) (All-nil (IsCounted slot x []));
  few = c.few;
}
  where
    main_counted : IsCounted slot x [] (main_as 1) → IsCounted slot x [] (main_as 0)
    main_counted n = record { at = n.at; has_slot = n.has_slot; since = n.since; others = n.others; lasts = λ some. absurd (omega (arith, some)); first = n.first; favoured = n.favoured; later = λ far. absurd (omega (arith, far)) }

at_slot : (A B : ℕ → Type 0) (o : Option ℕ) → ((u : ℕ) → A u → B u) → IfSome o A → IfSome o B
at_slot A B (Some u) f h = f u h
at_slot A B None f h = h

module _ {P S H : Type 0} (f : P → Functions S H) (g : Given P) where
  -- main is made
  abbrev pub with_main : Control P S H
  with_main = spawns f 0 (pos 0) first_thread (before_main f g)

  -- and ready
  abbrev pub with_ready_main : Control P S H
  with_ready_main = is_ready_at 1 (pos 0) false with_main

  made_main : with_main.threads.known 1 ≡ Some (made_of first_thread 1)
  unfolding enters makes
  made_main = put_here (λ _. None) 1 (Some (made_of first_thread 1))

  known_by : (w : ThreadsBySlot S) (o : Option ℕ) → slot_of w.records 1 ≡ o → ShowsThreads with_main.top w with_main.threads → IsSome o
  known_by w (Some u) is sh = refl
  known_by w None is sh = absurd (some_none (made_of first_thread 1) (not_known w with_main 1 is sh ∙ made_main))
    where
      some_none : (e : Entry) → None ≡ Some e → ⊥
      some_none e h = cc

  pub main_known : (w : WorldOf P S H) → Shows w with_main → IsKnown w.threads 1
  main_known w sh = known_by w.threads (slot_of w.threads.records 1) refl sh.threads

  pub main_new : (w : ThreadsBySlot S) (z : QueuesOf) → z ≡ record (no_queues g.top) { room = thread_limit } → IfSome (slot_of w.records 1) (λ u. w.queues ≡ entered queue.New (pos 0) u z) → IsBeforeReady w 1
  main_new w z none enters = record {
    queue = queue.New;
    before = Newly;
    stands = at_slot (λ u. w.queues ≡ entered queue.New (pos 0) u z) (λ u. queue_of u w.queues ≡ Some queue.New) (slot_of w.records 1) (λ u is. ap (queue_of u) is ∙ queue-entered u (pos 0) z queue.New (rw none refl)) enters;
  }

  abbrev begin : Control P S H
  begin = (start f g).control

  known_is : begin.threads.known ≡ with_ready_main.threads.known
  unfolding start is_ready_at enters leaves_queue sets makes changed made_of
  known_is =
      let n : ℕ → Option Entry = put (λ _. None) 1 (Some (made_of first_thread 1)) in
      let here : n 1 ≡ Some (made_of first_thread 1) = put_here (λ _. None) 1 (Some (made_of first_thread 1)) in
      sym (ap (λ (o : Option Entry). put n 1 (option_map (changed (change.State state.Ready)) o)) here ∙ put_twice (λ _. None) 1 (Some (made_of first_thread 1)) (Some main_entry))

  queue_is : (q : Queue) → queue begin q ≡ queue with_ready_main q
  unfolding start is_ready_at enters leaves_queue sets makes shown order put_behind
  queue_is queue.New = refl
  queue_is queue.Ready = refl
  queue_is queue.Waiting = refl
  queue_is queue.Suspended = refl
  queue_is queue.Dead = refl

  -- main has one entry less
  starts_counted : (w : WorldOf P S H) → ShowsThreads with_ready_main.top w.threads with_ready_main.threads → IsHistory begin.threads.trail → CountsWaits begin.top w.threads begin.threads
  unfolding start is_ready_at enters leaves_queue sets makes
  starts_counted w sh h = let c = sh.waits h in record { top = c.top; counts = one_counts _ _ c.counts }

  -- then the world stands for the state from which a run starts
  pub start_stands : (w : WorldOf P S H) → Shows w with_ready_main → store_of w.store ≡ no_resources.store → StandsFor w (start f g)
  unfolding start is_ready_at enters leaves_queue sets makes
  start_stands w sh none = record {
    control = record {
      program = sh.program;
      shared = sh.shared;
      threads = record { made = sh.threads.made; known = known_is ∙ sh.threads.known; progress = sh.threads.progress; standing = λ q. queue_is q ∙ sh.threads.standing q; top = sh.threads.top; waits = λ h. starts_counted w sh.threads h };
      attributes = sh.attributes;
      events = sh.events;
      conditions = sh.conditions;
      barriers = sh.barriers;
      kernel = sh.kernel;
      used = sh.used;
      scheduler = sh.scheduler;
    };
    store = sym none;
  }
