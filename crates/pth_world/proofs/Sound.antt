-- Every change of a world keeps what is sound.
use Rattle.std.proofs.Common.{◌≡◌, ◌≢◌, ◌<◌, ◌≤◌, ◌+◌, ℕ, ℤ, List, length, IsSome, Option, Some, None, option_map, refl, sym, ◌∙◌, ap, subst, arith}
use Rattle.pth_base.specs.Limits.{thread_limit}
use Rattle.pth_queue.proofs.Counts.{delete-absent}
use Rattle.pth_queue.proofs.Sets.{room-with}
use Rattle.pth_base.specs.Table.{put, table}
use Rattle.pth_base.specs.Naming.{seen}
use Rattle.pth_base.proofs.Tables.{put_here, put_other, put_by}
use Rattle.pth_base.proofs.Namings.{none_some, seen_put, seen_at, seen_add, seen_drop}
use Rattle.pth_queue.specs.declared.ranked.Ranked.{Ranked}
use Rattle.pth_queue.specs.declared.queue.Queue.{Queue}
use Rattle.pth_queue.specs.declared.queue.Queue.TheVariants as queue
use Rattle.pth_queue.specs.Ranking.{IsQueued, increase}
use Rattle.pth_queue.specs.Queues.{QueuesOf, rows_of, with_rows, without, entered, IsNowhere, IsRank, CanRise, IsOrderly}
use Rattle.pth_queue.proofs.Names.{IsQueued-insert, IsQueued-delete, IsQueued-increase, IsQueued-added, IsQueued-dropped}
use Rattle.pth_queue.proofs.Sets.{IsOrderly-entered, IsOrderly-increased}
use Rattle.pth_threads.specs.Threads.{ThreadsOf, slot_of, tid_at, entry_at, tid_of, count, changed, made_of, ChangesThread, AddsThread, RemovesThread}
use Rattle.pth_threads.specs.declared.entry.Change.{Change}
use Rattle.pth_threads.specs.declared.entry.Entry.{Entry}
use Rattle.pth_threads.specs.declared.entry.NewThread.{NewThread}
use Rattle.pth_model.specs.declared.progress.Progress.{Progress}
use Rattle.pth_numbered.specs.Numbered.{number_known}
use Rattle.pth_numbered.proofs.Known.{number-new, number-gone, number-change}
use Rattle.pth_model.proofs.Queues.{rows_here, rows_other, rows_without, is_queue_same}
use Rattle.pth_model.specs.Standing.{is_queue}
use Rattle.std.proofs.lemmas.Bool.{cases_Bool, cases_lt}
use Rattle.std.proofs.Common.{inl, inr}
use Rattle.pth_tables.specs.Waits.{KeptWaits}
use Rattle.pth_world.specs.World.{ThreadsBySlot}
use Rattle.pth_world.specs.Sound.{IsSound, IsBare}
use Rattle.pth_world.proofs.Slots.{name_is, used, low, not_unused}
use Rattle.pth_world.proofs.Places.{nowhere-holds, orderly-without}

pub some_kept : {A : Type 0} (h : A → A) (o : Option A) → IsSome o → IsSome (option_map h o)
some_kept h (Some x) s = refl
some_kept h None s = s

rows_kept : (P : List Ranked → Type 0) (q p : Queue) (rows : List Ranked) (x : QueuesOf) → P rows → ((r : Queue) → P (rows_of r x)) → P (rows_of p (with_rows q rows x))
rows_kept P q p rows x new old = elim (cases_Bool (is_queue p q)) [
  | inl same ↦ (let Q : Queue → Type 0 = λ r. P (rows_of r (with_rows q rows x)) in subst Q (sym (is_queue_same p q same)) (rw (rows_here q rows x) new))
  | inr other ↦ rw (rows_other p q rows x other) (old p)
]

bare_is : {A : Type 0} (d : A) (f : ℕ → ℕ) (g h : ℕ → A) → g ≡ h → IsBare d f h → IsBare d f g
bare_is {A} d f g h e bare u zero = ap (λ (k : ℕ → A). k u) e ∙ bare u zero

-- a slot that is used no longer
bare_dropped : {A : Type 0} (d : A) (f : ℕ → ℕ) (g : ℕ → A) (u : ℕ) → IsBare d f g → IsBare d (put f u 0) (put g u d)
bare_dropped {A} d f g u bare v = let Q : A → Type 0 = λ o. put f u 0 v ≡ 0 → o ≡ d in put_by Q g u d v (λ same zero. refl) (λ apart zero. bare v (sym (put_other f u 0 v apart) ∙ zero))

-- a slot that is used from now on
bare_added : {A : Type 0} (d : A) (f : ℕ → ℕ) (g : ℕ → A) (u t : ℕ) (x : A) → t ≢ 0 → IsBare d f g → IsBare d (put f u t) (put g u x)
bare_added {A} d f g u t x some bare v = let Q : A → Type 0 = λ o. put f u t v ≡ 0 → o ≡ d in put_by Q g u x v (λ same zero. absurd (some (sym (ap (put f u t) same ∙ put_here f u t) ∙ zero))) (λ apart zero. bare v (sym (put_other f u t v apart) ∙ zero))

abbrev IsRecorded : {A : Type 0} → (ℕ → ℕ) → (ℕ → Option A) → Type 0
IsRecorded f g = (v : ℕ) → f v ≢ 0 → IsSome (g v)

recorded_is : {A : Type 0} (f : ℕ → ℕ) (g h : ℕ → Option A) → g ≡ h → IsRecorded f h → IsRecorded f g
recorded_is {A} f g h e r v some = let Q : Option A → Type 0 = λ o. IsSome o in subst Q (ap (λ (k : ℕ → Option A). k v) (sym e)) (r v some)

recorded_dropped : {A : Type 0} (f : ℕ → ℕ) (g : ℕ → Option A) (u : ℕ) → IsRecorded f g → IsRecorded (put f u 0) (put g u None)
recorded_dropped {A} f g u r v = let Q : ℕ → Type 0 = λ n. n ≢ 0 → IsSome (put g u None v) in put_by Q f u 0 v (λ same some. absurd (some refl)) (λ apart some. rw (put_other g u None v apart) (r v some))

recorded_added : {A : Type 0} (f : ℕ → ℕ) (g : ℕ → Option A) (u t : ℕ) (x : A) → IsRecorded f g → IsRecorded (put f u t) (put g u (Some x))
recorded_added {A} f g u t x r v = let Q : Option A → Type 0 = λ o. put f u t v ≢ 0 → IsSome o in put_by Q g u (Some x) v (λ same some. refl) (λ apart some. r v (λ zero. some (put_other f u t v apart ∙ zero)))

some_entry : (o : Option Entry) → tid_of o ≢ 0 → (d : Entry) × (o ≡ Some d)
some_entry (Some d) some = (d, refl)
some_entry None some = absurd (some refl)

no_next : (n : ℕ) → n + 1 ≡ 0 → ⊥
no_next n h = omega arith

module _ {S : Type 0} (w : ThreadsBySlot S) (sound : IsSound w) where
  abbrev f : ℕ → ℕ
  f = tid_at w.records

  module _ (t u : ℕ) (e : slot_of w.records t ≡ Some u) where
    pub change_sound : (x : ThreadsOf) (c : Change) → ChangesThread w.records x u c → IsSound (record w { records = x })
    change_sound x c ch = record {
      tied = rw (ch.slots, ch.tids) sound.tied;
      fresh = rw (ch.slots, ch.made) sound.fresh;
      empty = λ v zero. (let z : f v ≡ 0 = ap (λ (k : ℕ → ℕ). k v) (sym ch.tids) ∙ zero in ap (λ (k : ℕ → Option Entry). k v) ch.entries ∙ put_other (entry_at w.records) u _ v (not_unused w t u sound e v z) ∙ sound.empty v z);
      bare = rw ch.tids sound.bare;
      recorded = rw ch.tids sound.recorded;
      queued = λ q. rw ch.tids (sound.queued q);
      room = sound.room;
      orderly = sound.orderly;
      long = sound.long;
      present = rw (ch.slots, ch.entries, ch.count, ch.made, seen_put None (slot_of w.records) f (entry_at w.records) t u (option_map (changed c) (entry_at w.records u)) sound.tied e, ← seen_at None (slot_of w.records) (entry_at w.records) t u e) (number-change (seen None (slot_of w.records) (entry_at w.records)) w.records.made t (changed c) ∙ sound.present);
    }

    pub progress_sound : (y : List (Option (Progress S))) (o : Option (Progress S)) → table None y ≡ put (table None w.progress) u o → IsSome o → length y ≡ thread_limit → IsSound (record w { progress = y })
    progress_sound y o is some long = record {
      tied = sound.tied;
      fresh = sound.fresh;
      empty = sound.empty;
      bare = λ v zero. ap (λ (k : ℕ → Option (Progress S)). k v) is ∙ put_other (table None w.progress) u o v (not_unused w t u sound e v zero) ∙ sound.bare v zero;
      recorded = λ v there. (let Q : Option (Progress S) → Type 0 = λ a. IsSome a in subst Q (ap (λ (k : ℕ → Option (Progress S)). k v) (sym is)) (put_by Q (table None w.progress) u o v (λ same. some) (λ apart. sound.recorded v there)));
      queued = sound.queued;
      room = sound.room;
      orderly = sound.orderly;
      long = long;
      present = sound.present;
    }

    queues_sound : (y : QueuesOf) (n : KeptWaits) → y.room ≡ w.queues.room → IsOrderly y → ((q : Queue) → IsQueued f (rows_of q y)) → IsSound (record w { queues = y; waits = n })
    queues_sound y n room orderly queued = record { tied = sound.tied; fresh = sound.fresh; empty = sound.empty; bare = sound.bare; recorded = sound.recorded; queued = queued; room = room ∙ sound.room; orderly = orderly; long = sound.long; present = sound.present }

    in_room : u < w.queues.room
    in_room = subst (λ (n : ℕ). u < n) (sym sound.room) (low w t u sound e)

    pub enter_sound : (y : QueuesOf) (n : KeptWaits) (q : Queue) (rank : ℤ) → IsNowhere u w.queues → IsRank rank → y ≡ entered q rank u w.queues → IsSound (record w { queues = y; waits = n })
    enter_sound y n q rank nowhere fits is = rw is (queues_sound (entered q rank u w.queues) n (room-with q _ w.queues) (IsOrderly-entered q rank u w.queues sound.orderly in_room nowhere fits) (λ p. rows_kept (IsQueued f) q p _ w.queues (IsQueued-insert f (record { rank = rank; holder = u }) (rows_of q w.queues) (used w t u sound e) (sound.queued q)) sound.queued))

    pub leave_sound : (y : QueuesOf) (n : KeptWaits) → y ≡ without u w.queues → IsSound (record w { queues = y; waits = n })
    leave_sound y n is = rw is (queues_sound (without u w.queues) n refl (orderly-without u w.queues sound.orderly) (λ q. rw (rows_without q u w.queues) (IsQueued-delete f u (rows_of q w.queues) (sound.queued q))))

    -- its record
    pub its_entry : (d : Entry) × (entry_at w.records u ≡ Some d)
    unfolding tid_at
    its_entry = some_entry (entry_at w.records u) (used w t u sound e)

    most : t ≤ w.records.made
    most = elim (cases_lt w.records.made t) [ inl above ↦ absurd (none_some (sym (sound.fresh t above) ∙ e)) | inr low ↦ low ]

    pub drop_sound : (x : ThreadsOf) (y : List (Option (Progress S))) → IsNowhere u w.queues → RemovesThread w.records x u → table None y ≡ put (table None w.progress) u None → length y ≡ thread_limit → IsSound (record w { records = x; progress = y })
    drop_sound x y nowhere gone none long = record {
      tied = gone.tied;
      fresh = λ v above. rw gone.slots (let Q : Option ℕ → Type 0 = λ o. o ≡ None in put_by Q (slot_of w.records) (tid_at w.records u) None v (λ same. refl) (λ apart. sound.fresh v (subst (λ (n : ℕ). n < v) gone.made above)));
      empty = rw gone.tids (bare_is None (put f u 0) (entry_at x) (put (entry_at w.records) u None) gone.entries (bare_dropped None f (entry_at w.records) u sound.empty));
      bare = rw gone.tids (bare_is None (put f u 0) (table None y) (put (table None w.progress) u None) none (bare_dropped None f (table None w.progress) u sound.bare));
      recorded = rw gone.tids (recorded_is (put f u 0) (table None y) (put (table None w.progress) u None) none (recorded_dropped f (table None w.progress) u sound.recorded));
      queued = λ q. rw gone.tids (subst (IsQueued (put f u 0)) (delete-absent u (rows_of q w.queues) (nowhere-holds u w.queues nowhere q)) (IsQueued-dropped f u (rows_of q w.queues) (sound.queued q)));
      room = sound.room;
      orderly = sound.orderly;
      long = long;
      present = let known : seen None (slot_of w.records) (entry_at w.records) t ≡ Some its_entry.0 = seen_at None (slot_of w.records) (entry_at w.records) t u e ∙ its_entry.1 in
          let named : tid_at w.records u ≡ t = name_is w t u sound e in
          let some : 0 < t = above_zero t (λ zero. used w t u sound e (named ∙ zero)) in
          let less = number-gone (seen None (slot_of w.records) (entry_at w.records)) w.records.made t its_entry.0 known some most in
          rw (gone.slots, gone.entries, named, seen_drop None (slot_of w.records) f (entry_at w.records) t u sound.tied None e) (subst (λ (n : ℕ). number_known (put (seen None (slot_of w.records) (entry_at w.records)) t None) n ≡ count x) (sym gone.made) (same_after (less ∙ sound.present ∙ sym gone.count)));
    }
      where
        above_zero : (n : ℕ) → n ≢ 0 → 0 < n
        above_zero n h = omega arith

        same_after : {m n : ℕ} → m + 1 ≡ n + 1 → m ≡ n
        same_after h = omega arith

  pub raise_sound : (y : QueuesOf) (n : KeptWaits) → CanRise w.queues.ready → y ≡ with_rows queue.Ready (increase w.queues.ready) w.queues → IsSound (record w { queues = y; waits = n })
  raise_sound y n rise is = rw is (record { tied = sound.tied; fresh = sound.fresh; empty = sound.empty; bare = sound.bare; recorded = sound.recorded; queued = λ p. rows_kept (IsQueued f) queue.Ready p _ w.queues (IsQueued-increase f w.queues.ready (sound.queued queue.Ready)) sound.queued; room = sound.room; orderly = IsOrderly-increased queue.Ready w.queues sound.orderly rise; long = sound.long; present = sound.present })

  pub add_sound : (x : ThreadsOf) (y : List (Option (Progress S))) (u : ℕ) (of : NewThread) (c : Progress S) → AddsThread w.records x u (made_of of (w.records.made + 1)) → table None y ≡ put (table None w.progress) u (Some c) → length y ≡ thread_limit → IsSound (record w { records = x; progress = y })
  unfolding made_of
  add_sound x y u of c adds has long = record {
    tied = adds.tied;
    fresh = λ v above. rw adds.slots (put_other (slot_of w.records) (w.records.made + 1) (Some u) v (λ same. absurd (omega (arith, adds.made))) ∙ sound.fresh v (omega (arith, adds.made)));
    empty = rw adds.tids (bare_is None (put f u (w.records.made + 1)) (entry_at x) (put (entry_at w.records) u (Some (made_of of (w.records.made + 1)))) adds.entries (bare_added None f (entry_at w.records) u (w.records.made + 1) _ (no_next w.records.made) sound.empty));
    bare = rw adds.tids (bare_is None (put f u (w.records.made + 1)) (table None y) (put (table None w.progress) u (Some c)) has (bare_added None f (table None w.progress) u (w.records.made + 1) _ (no_next w.records.made) sound.bare));
    recorded = rw adds.tids (recorded_is (put f u (w.records.made + 1)) (table None y) (put (table None w.progress) u (Some c)) has (recorded_added f (table None w.progress) u (w.records.made + 1) c sound.recorded));
    queued = λ q. rw adds.tids (IsQueued-added f u (w.records.made + 1) (rows_of q w.queues) adds.unused (sound.queued q));
    room = sound.room;
    orderly = sound.orderly;
    long = long;
    present = rw (adds.slots, adds.entries, adds.count, adds.made, seen_add None (slot_of w.records) f (entry_at w.records) (w.records.made + 1) u sound.tied (Some (made_of of (w.records.made + 1))) adds.unused) (number-new (seen None (slot_of w.records) (entry_at w.records)) w.records.made (made_of of (w.records.made + 1)) ∙ ap (λ (n : ℕ). n + 1) sound.present);
  }
