-- Worlds that are whole, and steps of the program and new threads as changes of the control.
use Rattle.std.proofs.Common.{◌≡◌, ◌≢◌, ◌+◌, ◌==◌, ℕ, ℤ, Bool, true, false, List, length, IsSome, IfSome, Option, Some, None, option_map, refl, sym, ◌∙◌, ap, ap₂, subst}
use Rattle.pth_base.specs.Limits.{thread_limit}
use Rattle.pth_base.specs.Program.{Functions, Stepped}
use Rattle.pth_base.specs.Table.{put, table}
use Rattle.pth_base.specs.declared.answer.Answer.{Answer}
use Rattle.pth_base.specs.declared.answer.Answer.TheVariants as answer
use Rattle.pth_base.specs.declared.call.Call.{Call}
use Rattle.pth_base.specs.Naming.{seen}
use Rattle.pth_base.proofs.Lists.{put_twice}
use Rattle.pth_base.proofs.Namings.{seen_at, seen_add}
use Rattle.pth_base.proofs.Tables.{put_here, put_other, put_by, same_means, same_fails}
use Rattle.pth_queue.specs.declared.queue.Queue.{Queue}
use Rattle.pth_queue.specs.declared.queue.Queue.TheVariants as queue
use Rattle.pth_queue.specs.Queues.{QueuesOf, queue_of, entered, IsNowhere}
use Rattle.pth_threads.specs.Threads.{ThreadsOf, slot_of, tid_at, entry_at, made_of, AddsThread, IsSame}
use Rattle.pth_threads.specs.declared.entry.Entry.{Entry}
use Rattle.pth_threads.specs.declared.entry.NewThread.{NewThread}
use Rattle.pth_model.specs.declared.progress.Progress.{Progress}
use Rattle.pth_model.specs.declared.blocked.Blocked.{Blocked}
use Rattle.pth_model.specs.State.{Control}
use Rattle.pth_model.specs.Changes.{goes_on, enters, makes, owing, owed_in, blocked_in}
use Rattle.pth_model.specs.ThreadControl.{spawns}
use Rattle.pth_model.specs.Part.{step_of, stepping}
use Rattle.pth_tables.specs.Waits.{KeptWaits, waits_of}
use Rattle.pth_world.specs.World.{WorldOf, ThreadsBySlot, entry_in}
use Rattle.pth_world.specs.Shows.{Shows, ShowsThreads}
use Rattle.pth_world.specs.Sound.{IsSound, IsKnown, IsPrio, lives}
use Rattle.pth_world.specs.WellFormed.{View, view, Fits, FitsEntry, StoresAlive, WellFormed, WellFormedBut}
use Rattle.pth_world.specs.Touches.{Touches, same_view}
use Rattle.pth_tables.specs.StepsAt.{StepsAt}
use Rattle.pth_world.proofs.Moves.{progress_whole, but_kept}
use Rattle.pth_world.proofs.Slots.{prio_rank, used}
use Rattle.pth_world.proofs.Showing.{of_threads, add_shows, enter_shows, progress_shows, progress_is}
use Rattle.pth_world.proofs.Sound.{add_sound, enter_sound, progress_sound}
use Rattle.pth_world.proofs.Places.{queue-entered, queue-entered_other, unused-nowhere}
use Rattle.pth_world.proofs.Views.{called_touches}
use Rattle.pth_world.specs.Ranks.{KeepsRanks}
use Rattle.pth_world.proofs.Ranks.{ranks_new}

if_some : (A B : ℕ → Type 0) (o : Option ℕ) → ((r : ℕ) → A r → B r) → IfSome o A → IfSome o B
if_some A B (Some r) f h = f r h
if_some A B None f h = h

-- a step of the program, once what is owed was taken out
module _ {P S H : Type 0} (w v : WorldOf P S H) (t u : ℕ) (sound : IsSound w.threads) (e : slot_of w.threads.records t ≡ Some u) (h : P → Functions S H) (a : Answer) (call : Call) (m : List (Option (Progress S)))
    (owed : a ≡ owed_in (table None w.threads.progress u))
    (took : table None m ≡ put (table None w.threads.progress) u (option_map (owing answer.None) (table None w.threads.progress u)))
    (steps : StepsAt (h w.program) u (table None m) (table None v.threads.progress) w.shared v.shared a call)
    (same : v ≡ record w { threads = record w.threads { progress = v.threads.progress }; shared = v.shared }) (long : length v.threads.progress ≡ thread_limit) where
  abbrev before : ℕ → Option (Progress S)
  before = table None w.threads.progress

  there : (o : Option (Progress S)) → IsSome o → (x : Progress S) × (o ≡ Some x)
  there (Some x) some = (x, refl)
  there None some = let bad : ⊥ = cc in absurd bad

  stood : (x : Progress S) × (before u ≡ Some x)
  stood = there (before u) (sound.recorded u (used w.threads t u sound e))

  abbrev p : Progress S
  p = stood.0

  abbrev taken : Progress S
  taken = record p { owed = answer.None }

  abbrev x : Stepped S H
  x = (h w.program).step p.state w.shared p.owed

  abbrev next : Progress S → Progress S
  next q = record q { state = x.state; owed = answer.None }

  abbrev after : Answer → Progress S
  after b = record p { state = ((h w.program).step p.state w.shared b).state; owed = answer.None }

  took_one : table None m ≡ put before u (Some taken)
  took_one = took ∙ ap (λ (o : Option (Progress S)). put before u (option_map (owing answer.None) o)) stood.1

  at_slot : table None m u ≡ Some taken
  at_slot = ap (λ (k : ℕ → Option (Progress S)). k u) took_one ∙ put_here before u (Some taken)

  owed_is : a ≡ p.owed
  owed_is = owed ∙ ap owed_in stood.1

  goes : table None v.threads.progress ≡ put before u (Some (after p.owed))
  goes = steps.set taken at_slot
      ∙ ap (λ (k : ℕ → Option (Progress S)). put k u (Some (after a))) took_one
      ∙ put_twice before u (Some taken) (Some (after a))
      ∙ ap (λ (b : Answer). put before u (Some (after b))) owed_is

  call_is : call ≡ x.call
  call_is = ap (λ (k : Stepped S H). k.call) (steps.step taken at_slot) ∙ ap (λ (b : Answer). ((h w.program).step p.state w.shared b).call) owed_is

  shared_is : v.shared ≡ x.shared
  shared_is = ap (λ (k : Stepped S H). k.shared) (steps.step taken at_slot) ∙ ap (λ (b : Answer). ((h w.program).step p.state w.shared b).shared) owed_is

  module _ (k : Control P S H) (sh : Shows w k) where
    step_is : step_of h k p ≡ x
    step_is = ap₂ (λ (q : P) (s : H). (h q).step p.state s p.owed) sh.program sh.shared

    progress_of : k.threads.progress t ≡ Some p
    progress_of = progress_is w.threads k t u sound e sh.threads ∙ stood.1

    pub next_call_is : IfSome (k.threads.progress t) (λ q. call ≡ (step_of h k q).call)
    next_call_is = rw progress_of (call_is ∙ ap (λ (y : Stepped S H). y.call) (sym step_is))

    shows_x : Shows v (stepping t x k)
    unfolding goes_on
    shows_x = subst (λ (z : WorldOf P S H). Shows z (stepping t x k)) (sym same) (record {
      program = sh.program;
      shared = sym shared_is;
      threads = progress_shows w.threads (record k { shared = x.shared }) t u sound e sh.threads v.threads.progress next (goes ∙ ap (λ (o : Option (Progress S)). put before u (option_map next o)) (sym stood.1));
      attributes = sh.attributes;
      events = sh.events;
      conditions = sh.conditions;
      barriers = sh.barriers;
      kernel = sh.kernel;
      used = sh.used;
      scheduler = sh.scheduler;
    })

    pub next_shows : IfSome (k.threads.progress t) (λ q. Shows v (stepping t (step_of h k q) k))
    next_shows = rw progress_of (subst (λ (y : Stepped S H). Shows v (stepping t y k)) (sym step_is) shows_x)

  threads_are : v.threads ≡ record w.threads { progress = v.threads.progress }
  threads_are = ap (λ (z : WorldOf P S H). z.threads) same

  pub next_sound : IsSound v.threads
  next_sound = subst IsSound (sym threads_are) (progress_sound w.threads sound t u e v.threads.progress (Some (after p.owed)) goes refl long)

  pub next_touches : Touches w.threads v.threads t same_view
  next_touches = subst (λ z. Touches w.threads z t same_view) (sym threads_are) (called_touches w.threads sound t u e v.threads.progress p (after p.owed) stood.1 refl goes)

  pub next_whole : WellFormed w → WellFormed v
  next_whole whole = progress_whole w v t u same_view whole e next_touches next_sound (ap (λ (z : ThreadsBySlot S). slot_of z.records) threads_are) (ap (λ (z : WorldOf P S H). z.scheduler.running) same) (ap (λ (z : WorldOf P S H). z.store) same) (ap (λ (z : WorldOf P S H). z.attributes) same) (λ r f. f) (λ dead. dead)

  pub next_but : WellFormedBut w t → WellFormedBut v t
  next_but = but_kept w v t same_view next_touches (record { slots = ap (λ (z : ThreadsBySlot S). slot_of z.records) threads_are; tids = ap (λ (z : ThreadsBySlot S). tid_at z.records) threads_are; made = ap (λ (z : ThreadsBySlot S). z.records.made) threads_are }) (ap (λ (z : WorldOf P S H). z.scheduler.running) same) (ap (λ (z : WorldOf P S H). z.store) same) (ap (λ (z : WorldOf P S H). z.attributes) same) next_sound

-- a new thread
module _ {P S H : Type 0} (w : WorldOf P S H) (whole : WellFormed w) (x : ThreadsOf) (y : List (Option (Progress S))) (z : QueuesOf) (n : KeptWaits) (u : ℕ) (of : NewThread) (prio : IsPrio of.prio) (c : Progress S) (bare : c.blocked ≡ None) (adds : AddsThread w.threads.records x u (made_of of (w.threads.records.made + 1))) (has : table None y ≡ put (table None w.threads.progress) u (Some c)) (long : length y ≡ thread_limit) (placed : z ≡ entered queue.New of.prio u w.threads.queues) (waits : waits_of n ≡ waits_of w.threads.waits) where
  abbrev t : ℕ
  t = w.threads.records.made + 1

  abbrev v : WorldOf P S H
  v = record w { threads = record w.threads { records = x; progress = y } }

  slot : slot_of x t ≡ Some u
  unfolding made_of
  slot = ap (λ (k : ℕ → Option ℕ). k t) adds.slots ∙ put_here (slot_of w.threads.records) t (Some u)

  sound : IsSound v.threads
  sound = add_sound w.threads whole.sound x y u of c adds has long

  pub spawn_nowhere : IsNowhere u w.threads.queues
  spawn_nowhere = unused-nowhere (tid_at w.threads.records) u w.threads.queues whole.sound.queued adds.unused

  abbrev all : WorldOf P S H
  all = record w { threads = record w.threads { records = x; progress = y; queues = z; waits = n } }

  pub spawn_shows : (h : P → Functions S H) (body : ℕ) (arg : ℤ) (k : Control P S H) → c ≡ record { state = (h w.program).start body arg; owed = answer.None; blocked = None } → Shows w k → Shows all (spawns h body arg of k)
  unfolding makes enters
  spawn_shows h body arg k is sh =
      let begins : (h w.program).start body arg ≡ (h k.program).start body arg = ap (λ (q : P). (h q).start body arg) (sym sh.program) in
      let has_first : table None y ≡ put (table None w.threads.progress) u (Some (record { state = (h k.program).start body arg; owed = answer.None; blocked = None })) = has ∙ ap (λ (q : Progress S). put (table None w.threads.progress) u (Some q)) is ∙ ap (λ (s : S). put (table None w.threads.progress) u (Some (record { state = s; owed = answer.None; blocked = None }))) begins in
      let added = add_shows w.threads k x y u of whole.sound adds h body arg has_first sh.threads in
      of_threads w all.threads k _ sh (subst (λ (n : ℕ). ShowsThreads k.top all.threads (enters (n + 1) queue.New of.prio false (makes h body arg of k)).threads) (sym sh.threads.made) (enter_shows v.threads (makes h body arg of k) t u sound slot added z n queue.New of.prio false spawn_nowhere placed waits))

  all_sound : IsSound all.threads
  all_sound = enter_sound v.threads sound t u slot z n queue.New of.prio spawn_nowhere (prio_rank of.prio prio) placed

  view_by : (a : Option Entry) (b : Option Queue) (d : Option Blocked) (k : View) → a ≡ k.entry → b ≡ k.place → d ≡ k.blocked → record { entry = a; place = b; blocked = d } ≡ k
  view_by a b d k p q r = rw (p, q, r) refl

  view_new : view all.threads u ≡ record { entry = Some (made_of of t); place = Some queue.New; blocked = None }
  view_new = view_by _ _ _ _ (ap (λ (k : ℕ → Option Entry). k u) adds.entries ∙ put_here (entry_at w.threads.records) u _) (ap (queue_of u) placed ∙ queue-entered u of.prio w.threads.queues queue.New spawn_nowhere) (ap blocked_in (ap (λ (k : ℕ → Option (Progress S)). k u) has ∙ put_here (table None w.threads.progress) u (Some c)) ∙ bare)

  view_old : (i : ℕ) → i ≢ u → view all.threads i ≡ view w.threads i
  view_old i apart = view_by _ _ _ (view w.threads i) (ap (λ (k : ℕ → Option Entry). k i) adds.entries ∙ put_other (entry_at w.threads.records) u _ i apart) (ap (queue_of i) placed ∙ queue-entered_other u of.prio w.threads.queues i queue.New apart) (ap blocked_in (ap (λ (k : ℕ → Option (Progress S)). k i) has ∙ put_other (table None w.threads.progress) u (Some c) i apart))

  -- it stands in the new queue
  pub spawn_queues : IfSome (slot_of x t) (λ i. z ≡ entered queue.New of.prio i w.threads.queues)
  spawn_queues = rw slot placed

  -- and no ready thread is lifted
  pub spawn_ranks : KeepsRanks 1 w.threads all.threads
  spawn_ranks = ranks_new w.threads all.threads u of.prio placed

  -- the one that runs was there before
  not_new : w.scheduler.running ≡ Some t → ⊥
  unfolding made_of
  not_new is =
      let k : IsSome (slot_of w.threads.records t) = subst (λ (o : Option ℕ). IfSome o (λ r. IsKnown w.threads r)) is whole.runner in
      let n : IsSome {T = ℕ} None = subst (λ (o : Option ℕ). IsSome o) adds.unknown k in
      absurd (cc n)

  pub spawn_others : (r : ℕ) → IsKnown w.threads r → IsSome (slot_of x r)
  unfolding made_of
  spawn_others r known = rw adds.slots (let Q : Option ℕ → Type 0 = λ o. IsSome o in put_by Q (slot_of w.threads.records) t (Some u) r (λ same. refl) (λ apart. known))

  fits_new : FitsEntry w.scheduler.running (Some (made_of of t)) (Some queue.New) None
  unfolding made_of
  fits_new = record { prio = prio; placed = refl; runs = λ is. absurd (not_new is); named = λ is. absurd (cc is); awake = λ is. absurd (cc is); calls = tt }

  fits_at : (i : ℕ) (b : Bool) → (i == u) ≡ b → Fits w.scheduler.running (view all.threads i)
  fits_at i true is = subst (λ (k : View). Fits w.scheduler.running k) (sym (ap (view all.threads) (same_means i u is) ∙ view_new)) fits_new
  fits_at i false is = subst (λ (k : View). Fits w.scheduler.running k) (sym (view_old i (same_fails i u is))) (whole.fits i)

  entry_new : entry_in all.threads t ≡ Some (made_of of t)
  entry_new = seen_at None (slot_of x) (entry_at x) t u slot ∙ ap (λ (k : ℕ → Option Entry). k u) adds.entries ∙ put_here (entry_at w.threads.records) u _

  entry_old : (r : ℕ) → r ≢ t → entry_in all.threads r ≡ entry_in w.threads r
  unfolding made_of
  entry_old r apart =
      ap₂ (λ (a : ℕ → Option ℕ) (b : ℕ → Option Entry). seen None a b r) adds.slots adds.entries
      ∙ ap (λ (k : ℕ → Option Entry). k r) (seen_add None (slot_of w.threads.records) (tid_at w.threads.records) (entry_at w.threads.records) t u whole.sound.tied (Some (made_of of t)) adds.unused)
      ∙ put_other (seen None (slot_of w.threads.records) (entry_at w.threads.records)) t _ r apart

  lives_new : lives (Some (made_of of t)) ≡ true
  unfolding made_of
  lives_new = refl

  stored_by : (r : ℕ) (b : Bool) → (r == t) ≡ b → StoresAlive all r
  stored_by r true is dead =
      let alive : lives (entry_in all.threads r) ≡ true = ap (λ (n : ℕ). lives (entry_in all.threads n)) (same_means r t is) ∙ ap lives entry_new ∙ lives_new in
      absurd (cc (alive, dead))
  stored_by r false is dead = whole.stored r (ap lives (sym (entry_old r (same_fails r t is))) ∙ dead)

  pub spawn_whole : WellFormed all
  spawn_whole = record { sound = all_sound; top = whole.top ∙ sym (ap (λ (q : QueuesOf). q.top) placed); fits = λ i. fits_at i (i == u) refl; runner = if_some (λ r. IsKnown w.threads r) (λ r. IsSome (slot_of x r)) w.scheduler.running spawn_others whole.runner; stored = λ r. stored_by r (r == t) refl }

-- a refused new thread
module _ {P S H : Type 0} (w : WorldOf P S H) (x : ThreadsOf) (same : IsSame w.threads.records x) where
  same_sound : IsSound w.threads → IsSound (record w.threads { records = x })
  same_sound sound = record {
    tied = rw (same.slots, same.tids) sound.tied;
    fresh = rw (same.slots, same.made) sound.fresh;
    empty = rw (same.tids, same.entries) sound.empty;
    bare = rw same.tids sound.bare;
    recorded = rw same.tids sound.recorded;
    queued = λ q. rw same.tids (sound.queued q);
    room = sound.room;
    orderly = sound.orderly;
    long = sound.long;
    present = rw (same.slots, same.entries, same.count, same.made) sound.present;
  }

  pub same_whole : WellFormed w → WellFormed (record w { threads = record w.threads { records = x } })
  same_whole whole = record {
    sound = same_sound whole.sound;
    fits = λ u. rw same.entries (whole.fits u);
    runner = if_some (λ r. IsKnown w.threads r) (λ r. IsSome (slot_of x r)) w.scheduler.running (λ r known. rw same.slots known) whole.runner;
    stored = λ t. rw (same.slots, same.entries) (whole.stored t);
    top = whole.top;
  }
