-- How a change of one part of a world is a change of the control that it shows.
use Rattle.std.proofs.Common.{◌≡◌, ℕ, ℤ, pos, negsuc, ◌<ℤ◌, ◌+◌, Bool, false, List, map, Option, Some, None, is_some, option_map, refl, sym, ◌∙◌, ap, subst, arith, inl, inr}
use Rattle.std.proofs.lemmas.Int.{ints}
use Rattle.pth_numbered.specs.Operands.{named}
use Rattle.std.proofs.lemmas.Bool.{cases_Bool}
use Rattle.pth_base.specs.Program.{Functions}
use Rattle.pth_base.specs.Table.{put, table}
use Rattle.pth_base.specs.Naming.{by_slot, seen}
use Rattle.pth_base.specs.declared.answer.Answer.TheVariants as answer
use Rattle.pth_base.proofs.Namings.{seen_put, seen_at, seen_add, seen_drop}
use Rattle.pth_queue.proofs.Counts.{delete-absent}
use Rattle.pth_queue.specs.declared.queue.Queue.{Queue}
use Rattle.pth_queue.specs.declared.queue.Queue.TheVariants as queue
use Rattle.pth_queue.specs.Ranking.{named_row, insert, delete, increase}
use Rattle.pth_queue.specs.Arena.{slots_of}
use Rattle.pth_queue.specs.Queues.{QueuesOf, rows_of, queue_of, with_rows, without, entered, IsNowhere}
use Rattle.pth_queue.proofs.Sets.{top-with}
use Rattle.pth_queue.proofs.Names.{insert_named, delete_named, increase_named, named_added, named_dropped}
use Rattle.pth_threads.specs.Threads.{ThreadsOf, slot_of, tid_at, entry_at, count, made_of, ChangesThread, AddsThread, RemovesThread}
use Rattle.pth_threads.specs.declared.entry.Change.{Change}
use Rattle.pth_threads.specs.declared.entry.Entry.{Entry}
use Rattle.pth_threads.specs.declared.entry.NewThread.{NewThread}
use Rattle.pth_model.specs.declared.progress.Progress.{Progress}
use Rattle.pth_model.specs.Standing.{is_queue}
use Rattle.pth_model.specs.State.{Control, Threads, queue, present}
use Rattle.pth_model.specs.Changes.{sets, goes_on, enters, leaves_queue, raises_ready, trails, makes, forgets}
use Rattle.pth_model.specs.Part.{trail_with}
use Rattle.pth_tables.specs.Waits.{KeptWaits, waits_of, takes_ready}
use Rattle.pth_tables.specs.CountedOf.{waits_with, waits_without}
use Rattle.pth_model.proofs.Queues.{is_queue_same, rows_here, rows_other, rows_without, queue-enter, queue-enter_other, queue-leave, queue-raise, queue-raise_other}
use Rattle.pth_world.specs.World.{WorldOf, ThreadsBySlot, entry_in}
use Rattle.pth_world.specs.Shows.{Shows, ShowsThreads}
use Rattle.pth_world.specs.Sound.{IsSound}
use Rattle.pth_world.proofs.Slots.{name_is}
use Rattle.pth_world.proofs.Places.{nowhere-holds}
use Rattle.pth_world.proofs.Waits.{add_waits, change_waits, drop_waits, enter_waits, leave_waits, raise_waits, take_waits}

-- where threads alone change, what they show is what counts
pub of_threads : {P S H : Type 0} (w : WorldOf P S H) (y : ThreadsBySlot S) (k : Control P S H) (x : Threads S) → Shows w k → ShowsThreads k.top y x → Shows (record w { threads = y }) (record k { threads = x })
of_threads w y k x sh threads = record { program = sh.program; shared = sh.shared; threads = threads; attributes = sh.attributes; events = sh.events; conditions = sh.conditions; barriers = sh.barriers; kernel = sh.kernel; used = sh.used; scheduler = sh.scheduler }

pub not_here : {S : Type 0} (w : ThreadsBySlot S) (t : ℕ) → slot_of w.records t ≡ None → None ≡ entry_in w t
unfolding seen
not_here w t none = sym (ap (by_slot None (entry_at w.records)) none)

-- an operand that is negative, or more than were ever made
pub named_negative : {A : Type 0} (f : ℕ → Option A) (n : ℤ) → n <ℤ pos 0 → None ≡ named f n
named_negative f (pos m) low = absurd (omega (arith, ints))
named_negative f (negsuc m) low = refl

pub named_late : {S : Type 0} (w : ThreadsBySlot S) (n : ℤ) → IsSound w → pos w.records.made <ℤ n → None ≡ named (entry_in w) n
named_late w (pos m) sound late = not_here w m (sound.fresh m (omega (arith, ints)))
named_late w (negsuc m) sound late = refl

module _ {P S H : Type 0} (w : ThreadsBySlot S) (k : Control P S H) where
  abbrev f : ℕ → ℕ
  f = tid_at w.records

  abbrev g : ℕ → Option ℕ
  g = slot_of w.records

  module _ (t u : ℕ) (sound : IsSound w) (e : slot_of w.records t ≡ Some u) (sh : ShowsThreads k.top w k.threads) where
    -- one field of a record
    pub change_shows : (x : ThreadsOf) (c : Change) → ChangesThread w.records x u c → ShowsThreads k.top (record w { records = x }) (sets t c k).threads
    unfolding sets
    change_shows x c ch = record {
      made = sh.made ∙ sym ch.made;
      known = rw (sh.known, ch.slots, ch.entries, seen_at None g (entry_at w.records) t u e) (sym (seen_put None g f (entry_at w.records) t u _ sound.tied e));
      progress = rw ch.slots sh.progress;
      standing = λ q. rw ch.tids (sh.standing q);
      top = sh.top;
      waits = change_waits w k sound sh x w.progress _ _ ch.slots;
    }

    -- how far it is
    pub progress_is : k.threads.progress t ≡ table None w.progress u
    progress_is = ap (λ (p : ℕ → Option (Progress S)). p t) sh.progress ∙ seen_at None g (table None w.progress) t u e

    pub progress_shows : (y : List (Option (Progress S))) (h : Progress S → Progress S) → table None y ≡ put (table None w.progress) u (option_map h (table None w.progress u)) → ShowsThreads k.top (record w { progress = y }) (goes_on t h k).threads
    unfolding goes_on
    progress_shows y h is = record {
      made = sh.made;
      known = sh.known;
      progress = rw (sh.progress, is, seen_at None g (table None w.progress) t u e) (sym (seen_put None g f (table None w.progress) t u _ sound.tied e));
      standing = sh.standing;
      top = sh.top;
      waits = change_waits w k sound sh w.records y _ _ refl;
    }

    -- the queues
    enter_here : (q : Queue) (rank : ℤ) (top : Bool) → queue (enters t q rank top k) q ≡ map (named_row f) (rows_of q (entered q rank u w.queues))
    enter_here q rank top =
        queue-enter k t q rank top
        ∙ ap (insert (record { rank = rank; holder = t })) (sh.standing q)
        ∙ ap (λ (n : ℕ). insert (record { rank = rank; holder = n }) (map (named_row f) (rows_of q w.queues))) (sym (name_is w t u sound e))
        ∙ sym (insert_named f (record { rank = rank; holder = u }) (rows_of q w.queues))
        ∙ ap (map (named_row f)) (sym (rows_here q _ w.queues))

    enter_other : (p q : Queue) (rank : ℤ) (top : Bool) → is_queue p q ≡ false → queue (enters t q rank top k) p ≡ map (named_row f) (rows_of p (entered q rank u w.queues))
    enter_other p q rank top other = queue-enter_other k t p q rank top other ∙ sh.standing p ∙ ap (map (named_row f)) (sym (rows_other p q _ w.queues other))

    enter_rows : (q : Queue) (rank : ℤ) (top : Bool) (p : Queue) → queue (enters t q rank top k) p ≡ map (named_row f) (rows_of p (entered q rank u w.queues))
    enter_rows q rank top p = elim (cases_Bool (is_queue p q)) [
      | inl same ↦ (let Q : Queue → Type 0 = λ r. queue (enters t q rank top k) r ≡ map (named_row f) (rows_of r (entered q rank u w.queues)) in
          subst Q (sym (is_queue_same p q same)) (enter_here q rank top))
      | inr other ↦ enter_other p q rank top other
    ]

    pub enter_shows : (y : QueuesOf) (z : KeptWaits) (q : Queue) (rank : ℤ) (top : Bool) → IsNowhere u w.queues → y ≡ entered q rank u w.queues → waits_of z ≡ waits_with q u rank top (waits_of w.waits)
        → ShowsThreads k.top (record w { queues = y; waits = z }) (enters t q rank top k).threads
    unfolding enters
    enter_shows y z q rank top nowhere is counts = record {
      made = sh.made;
      known = sh.known;
      progress = sh.progress;
      standing = rw is (enter_rows q rank top);
      top = sh.top ∙ sym (ap (λ (x : QueuesOf). x.top) is ∙ top-with q _ w.queues);
      waits = λ h. enter_waits w k sound sh t u e h y z q rank top nowhere counts;
    }

    leave_rows : (q : Queue) → queue (leaves_queue t k) q ≡ map (named_row f) (rows_of q (without u w.queues))
    leave_rows q =
        queue-leave k t q
        ∙ ap (delete t) (sh.standing q)
        ∙ sym (delete_named g f t u (rows_of q w.queues) sound.tied e (sound.queued q))
        ∙ ap (map (named_row f)) (sym (rows_without q u w.queues))

    pub leave_shows : (y : QueuesOf) (z : KeptWaits) → y ≡ without u w.queues → waits_of z ≡ waits_without (queue_of u w.queues) u (waits_of w.waits) → ShowsThreads k.top (record w { queues = y; waits = z }) (leaves_queue t k).threads
    unfolding leaves_queue
    leave_shows y z is counts = record {
      made = sh.made;
      known = sh.known;
      progress = sh.progress;
      standing = rw is leave_rows;
      top = sh.top ∙ sym (ap (λ (x : QueuesOf). x.top) is);
      waits = λ h. leave_waits w k sound sh t u e h y z counts;
    }

    -- a ready thread is dispatched
    pub take_shows : (y : QueuesOf) (z : KeptWaits) → queue_of u w.queues ≡ Some queue.Ready → y ≡ without u w.queues → waits_of z ≡ takes_ready (is_some k.scheduler.preferred) (slots_of w.queues.ready) (waits_of w.waits)
        → ShowsThreads k.top (record w { queues = y; waits = z }) (leaves_queue t (trails (trail_with t k) k)).threads
    unfolding leaves_queue trails
    take_shows y z at is counts = record {
      made = sh.made;
      known = sh.known;
      progress = sh.progress;
      standing = rw is leave_rows;
      top = sh.top ∙ sym (ap (λ (x : QueuesOf). x.top) is);
      waits = λ h. take_waits w k sound sh t u e at h y z counts;
    }

    -- the thread's record
    pub entry_is : k.threads.known t ≡ entry_at w.records u
    entry_is = ap (λ (p : ℕ → Option Entry). p t) sh.known ∙ seen_at None g (entry_at w.records) t u e

    -- the thread is gone, once it stands nowhere
    pub drop_shows : (x : ThreadsOf) (y : List (Option (Progress S))) → IsNowhere u w.queues → RemovesThread w.records x u → table None y ≡ put (table None w.progress) u None → ShowsThreads k.top (record w { records = x; progress = y }) (forgets t k).threads
    unfolding forgets
    drop_shows x y nowhere gone none = record {
      made = sh.made ∙ sym gone.made;
      known = rw (sh.known, gone.slots, gone.entries, name_is w t u sound e) (sym (seen_drop None g f (entry_at w.records) t u sound.tied None e));
      progress = rw (sh.progress, gone.slots, none, name_is w t u sound e) (sym (seen_drop None g f (table None w.progress) t u sound.tied None e));
      standing = λ q. rw gone.tids (
          sh.standing q
          ∙ ap (map (named_row f)) (sym (delete-absent u (rows_of q w.queues) (nowhere-holds u w.queues nowhere q)))
          ∙ sym (named_dropped f u (rows_of q w.queues))
          ∙ ap (map (named_row (put f u 0))) (delete-absent u (rows_of q w.queues) (nowhere-holds u w.queues nowhere q)));
      top = sh.top;
      waits = drop_waits w k sound sh t u x y _ _ e nowhere gone;
    }

  -- a thread that is not in the system
  pub not_known : (t : ℕ) → slot_of w.records t ≡ None → ShowsThreads k.top w k.threads → None ≡ k.threads.known t
  unfolding seen
  not_known t none sh = sym (ap (λ (p : ℕ → Option Entry). p t) sh.known ∙ ap (by_slot None (entry_at w.records)) none)

  pub no_progress : (t : ℕ) → slot_of w.records t ≡ None → ShowsThreads k.top w k.threads → None ≡ k.threads.progress t
  unfolding seen
  no_progress t none sh = sym (ap (λ (p : ℕ → Option (Progress S)). p t) sh.progress ∙ ap (by_slot None (table None w.progress)) none)

  -- the ready queue is raised
  raise_rows : ShowsThreads k.top w k.threads → (q : Queue) → queue (raises_ready k) q ≡ map (named_row f) (rows_of q (with_rows queue.Ready (increase w.queues.ready) w.queues))
  raise_rows sh queue.Ready = queue-raise k ∙ ap increase (sh.standing queue.Ready) ∙ sym (increase_named f w.queues.ready)
  raise_rows sh queue.New = queue-raise_other k queue.New refl ∙ sh.standing queue.New
  raise_rows sh queue.Waiting = queue-raise_other k queue.Waiting refl ∙ sh.standing queue.Waiting
  raise_rows sh queue.Suspended = queue-raise_other k queue.Suspended refl ∙ sh.standing queue.Suspended
  raise_rows sh queue.Dead = queue-raise_other k queue.Dead refl ∙ sh.standing queue.Dead

  pub raise_shows : (y : QueuesOf) (z : KeptWaits) → IsSound w → y ≡ with_rows queue.Ready (increase w.queues.ready) w.queues → waits_of z ≡ waits_of w.waits → ShowsThreads k.top w k.threads → ShowsThreads k.top (record w { queues = y; waits = z }) (raises_ready k).threads
  unfolding raises_ready
  raise_shows y z sound is counts sh = record {
    made = sh.made;
    known = sh.known;
    progress = sh.progress;
    standing = rw is (raise_rows sh);
    top = sh.top ∙ sym (ap (λ (x : QueuesOf). x.top) is);
    waits = raise_waits w k sound sh y z counts;
  }

  -- a new thread
  module _ (x : ThreadsOf) (y : List (Option (Progress S))) (u : ℕ) (of : NewThread) (sound : IsSound w) (adds : AddsThread w.records x u (made_of of (w.records.made + 1))) where
    pub add_shows : (h : P → Functions S H) (body : ℕ) (arg : ℤ) → table None y ≡ put (table None w.progress) u (Some (record { state = (h k.program).start body arg; owed = answer.None; blocked = None })) → ShowsThreads k.top w k.threads → ShowsThreads k.top (record w { records = x; progress = y }) (makes h body arg of k).threads
    unfolding makes made_of
    add_shows h body arg has sh = rw sh.made (record {
      made = sym adds.made;
      known = rw (sh.known, adds.slots, adds.entries) (sym (seen_add None g f (entry_at w.records) (w.records.made + 1) u sound.tied (Some (made_of of (w.records.made + 1))) adds.unused));
      progress = rw (sh.progress, adds.slots, has) (sym (seen_add None g f (table None w.progress) (w.records.made + 1) u sound.tied (Some _) adds.unused));
      standing = λ q. rw adds.tids (sh.standing q ∙ sym (named_added f u (w.records.made + 1) (rows_of q w.queues) adds.unused (sound.queued q)));
      top = sh.top;
      waits = add_waits w k sound sh x y u (made_of of (w.records.made + 1)) _ _ _ adds;
    })

  -- how many threads are in the system
  pub present_is : IsSound w → ShowsThreads k.top w k.threads → present k ≡ count w.records
  present_is sound sh = rw (sh.known, sh.made) sound.present
