-- What a change of one thread leaves at each slot.
use Rattle.std.proofs.Common.{◌≡◌, ◌≢◌, ℕ, ℤ, List, IsSome, Option, Some, None, option_map, refl, sym, ◌∙◌, ap, subst}
use Rattle.pth_base.specs.Table.{put, table}
use Rattle.pth_base.specs.declared.answer.Answer.{Answer}
use Rattle.pth_base.proofs.Tables.{put_here, put_other}
use Rattle.pth_queue.proofs.Sets.{top-with}
use Rattle.pth_queue.specs.declared.queue.Queue.{Queue}
use Rattle.pth_queue.specs.declared.queue.Queue.TheVariants as queue
use Rattle.pth_queue.specs.Ranking.{increase}
use Rattle.pth_queue.specs.Queues.{QueuesOf, queue_of, with_rows, without, entered, IsNowhere}
use Rattle.pth_threads.specs.Threads.{ThreadsOf, slot_of, entry_at, ChangesThread, RemovesThread}
use Rattle.pth_threads.specs.declared.entry.Change.{Change}
use Rattle.pth_threads.specs.declared.entry.Entry.{Entry}
use Rattle.pth_model.specs.declared.progress.Progress.{Progress}
use Rattle.pth_model.specs.declared.blocked.Blocked.{Blocked}
use Rattle.pth_model.specs.Changes.{blocked_in, owing, blocking}
use Rattle.pth_tables.specs.Waits.{KeptWaits}
use Rattle.pth_world.specs.World.{ThreadsBySlot}
use Rattle.pth_world.specs.Sound.{IsSound}
use Rattle.pth_world.specs.WellFormed.{View, view}
use Rattle.pth_world.specs.Touches.{Touches, view_changed, view_placed, view_blocked, same_view}
use Rattle.pth_world.proofs.Slots.{used, other_slot, some_is}
use Rattle.pth_world.proofs.Places.{queue-entered, queue-entered_other, queue-without, queue-without_other, queue-raised}

blocked_owed : {S : Type 0} (a : Answer) (o : Option (Progress S)) → blocked_in (option_map (owing a) o) ≡ blocked_in o
blocked_owed a (Some c) = refl
blocked_owed a None = refl

blocked_blocking : {S : Type 0} (h : Option Blocked) (o : Option (Progress S)) → IsSome o → blocked_in (option_map (blocking h) o) ≡ h
blocked_blocking h (Some c) some = refl
blocked_blocking h None some = absurd (cc some)

module _ {S : Type 0} (w : ThreadsBySlot S) (sound : IsSound w) (t u : ℕ) (e : slot_of w.records t ≡ Some u) where
  -- a fact at the slot of the thread
  at_slot : (Q : ℕ → Type 0) → Q u → (v : ℕ) → slot_of w.records t ≡ Some v → Q v
  at_slot Q q v h = subst Q (some_is (sym e ∙ h)) q

  view_by : (a : Option Entry) (b : Option Queue) (c : Option Blocked) (x : View) → a ≡ x.entry → b ≡ x.place → c ≡ x.blocked → record { entry = a; place = b; blocked = c } ≡ x
  view_by a b c x p q r = rw (p, q, r) refl

  pub change_touches : (x : ThreadsOf) (c : Change) → ChangesThread w.records x u c → Touches w (record w { records = x }) t (view_changed c)
  change_touches x c ch = record {
    own = at_slot (λ v. view (record w { records = x }) v ≡ view_changed c (view w v)) (view_by _ _ _ (view_changed c (view w u)) (ap (λ (k : ℕ → Option Entry). k u) ch.entries ∙ put_here (entry_at w.records) u _) refl refl);
    others = λ v apart. view_by _ _ _ (view w v) (ap (λ (k : ℕ → Option Entry). k v) ch.entries ∙ put_other (entry_at w.records) u _ v (other_slot w t u sound e v apart)) refl refl;
    top = refl;
  }

  progress_touches : (y : List (Option (Progress S))) (o : Option (Progress S)) (g : View → View) → table None y ≡ put (table None w.progress) u o → record (view w u) { blocked = blocked_in o } ≡ g (view w u) → Touches w (record w { progress = y }) t g
  progress_touches y o g is same = record {
    own = at_slot (λ v. view (record w { progress = y }) v ≡ g (view w v)) (view_by _ _ _ (record (view w u) { blocked = blocked_in o }) refl refl (ap blocked_in (ap (λ (k : ℕ → Option (Progress S)). k u) is ∙ put_here (table None w.progress) u o)) ∙ same);
    others = λ v apart. view_by _ _ _ (view w v) refl refl (ap blocked_in (ap (λ (k : ℕ → Option (Progress S)). k v) is ∙ put_other (table None w.progress) u o v (other_slot w t u sound e v apart)));
    top = refl;
  }

  pub owed_touches : (y : List (Option (Progress S))) (a : Answer) → table None y ≡ put (table None w.progress) u (option_map (owing a) (table None w.progress u)) → Touches w (record w { progress = y }) t same_view
  owed_touches y a is = progress_touches y _ same_view is (ap (λ (h : Option Blocked). record (view w u) { blocked = h }) (blocked_owed a (table None w.progress u)))

  pub blocked_touches : (y : List (Option (Progress S))) (h : Option Blocked) → table None y ≡ put (table None w.progress) u (option_map (blocking h) (table None w.progress u)) → Touches w (record w { progress = y }) t (view_blocked h)
  blocked_touches y h is = progress_touches y _ (view_blocked h) is (ap (λ (k : Option Blocked). record (view w u) { blocked = k }) (blocked_blocking h (table None w.progress u) (sound.recorded u (used w t u sound e))))

  pub called_touches : (y : List (Option (Progress S))) (c d : Progress S) → table None w.progress u ≡ Some c → d.blocked ≡ c.blocked → table None y ≡ put (table None w.progress) u (Some d) → Touches w (record w { progress = y }) t same_view
  called_touches y c d had same is =
      let a = progress_touches y (Some d) same_view is (ap (λ (h : Option Blocked). record (view w u) { blocked = h }) (same ∙ ap blocked_in (sym had))) in
      record { own = a.own; others = a.others; top = a.top }

  pub enter_touches : (y : QueuesOf) (n : KeptWaits) (q : Queue) (rank : ℤ) → IsNowhere u w.queues → y ≡ entered q rank u w.queues → Touches w (record w { queues = y; waits = n }) t (view_placed (Some q))
  enter_touches y n q rank none is = record {
    own = at_slot (λ v. view (record w { queues = y; waits = n }) v ≡ view_placed (Some q) (view w v)) (view_by _ _ _ (view_placed (Some q) (view w u)) refl (ap (queue_of u) is ∙ queue-entered u rank w.queues q none) refl);
    others = λ v apart. view_by _ _ _ (view w v) refl (ap (queue_of v) is ∙ queue-entered_other u rank w.queues v q (other_slot w t u sound e v apart)) refl;
    top = ap (λ (x : QueuesOf). x.top) is ∙ top-with q _ w.queues;
  }

  pub leave_touches : (y : QueuesOf) (n : KeptWaits) → y ≡ without u w.queues → Touches w (record w { queues = y; waits = n }) t (view_placed None)
  leave_touches y n is = record {
    own = at_slot (λ v. view (record w { queues = y; waits = n }) v ≡ view_placed None (view w v)) (view_by _ _ _ (view_placed None (view w u)) refl (ap (queue_of u) is ∙ queue-without u w.queues) refl);
    others = λ v apart. view_by _ _ _ (view w v) refl (ap (queue_of v) is ∙ queue-without_other u v w.queues (other_slot w t u sound e v apart)) refl;
    top = ap (λ (x : QueuesOf). x.top) is;
  }

-- a raise moves nobody
pub raise_views : {S : Type 0} (w : ThreadsBySlot S) (y : QueuesOf) (n : KeptWaits) → y ≡ with_rows queue.Ready (increase w.queues.ready) w.queues → (u : ℕ) → view (record w { queues = y; waits = n }) u ≡ view w u
raise_views w y n is u = ap (λ (q : Option Queue). record (view w u) { place = q }) (ap (queue_of u) is ∙ queue-raised u w.queues)

-- a thread that is gone leaves the others as they were
pub drop_views : {S : Type 0} (w : ThreadsBySlot S) (x : ThreadsOf) (y : List (Option (Progress S))) (u : ℕ) → RemovesThread w.records x u → table None y ≡ put (table None w.progress) u None → (i : ℕ) → i ≢ u → view (record w { records = x; progress = y }) i ≡ view w i
drop_views {S = S} w x y u gone none i apart =
    let entry : entry_at x i ≡ entry_at w.records i = ap (λ (k : ℕ → Option Entry). k i) gone.entries ∙ put_other (entry_at w.records) u None i apart in
    let held : blocked_in (table None y i) ≡ blocked_in (table None w.progress i) = ap blocked_in (ap (λ (k : ℕ → Option (Progress S)). k i) none ∙ put_other (table None w.progress) u None i apart) in
    rw (entry, held) refl
