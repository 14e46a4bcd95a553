-- Who stands in a queue, told by the records of threads.
use Rattle.std.proofs.Common.{◌≡◌, ◌≢◌, ◌∙◌, ℕ, ◌||◌, ◌&&◌, is_some, Bool, true, false, cond, if◌then◌else◌, List, [], ◌∷◌, filter, map, All, Option, Some, None, refl, sym, ap, subst}
use Rattle.std.proofs.lemmas.List.Elements.{All-cons, All-head, All-nil, All-tail}
use Rattle.pth_base.proofs.Tables.{same_self, same_means}
use Rattle.pth_base.specs.declared.thread.ThreadState.{ThreadState}
use Rattle.pth_base.specs.declared.thread.ThreadState.TheVariants as state
use Rattle.pth_base.specs.Naming.{by_slot, seen}
use Rattle.pth_queue.specs.declared.queue.Queue.{Queue}
use Rattle.pth_queue.specs.declared.queue.Queue.TheVariants as queues
use Rattle.pth_queue.specs.declared.ranked.Ranked.{Ranked}
use Rattle.pth_queue.specs.Ranking.{holds, is_of, named_row, IsQueued}
use Rattle.pth_queue.specs.Queues.{queue_of, rows_of, QueuesOf}
use Rattle.pth_queue.proofs.Standing.{queue_of-holds}
use Rattle.pth_threads.specs.Threads.{entry_at, slot_of, tid_at, tid_of}
use Rattle.pth_threads.specs.declared.entry.Entry.{Entry}
use Rattle.pth_model.specs.declared.blocked.Blocked.{Blocked}
use Rattle.pth_model.specs.State.{Control, queue}
use Rattle.pth_model.specs.Changes.{entry_of, holders}
use Rattle.pth_model.specs.Living.{is_dead}
use Rattle.pth_model.specs.ThreadControl.{is_dead_in}
use Rattle.pth_world.specs.Shows.{Shows}
use Rattle.pth_world.specs.WellFormed.{CanSuspend, FitsEntry, WellFormed, place_for}
use Rattle.pth_world.specs.World.{WorldOf}

-- the queue of a thread by its record
abbrev pub place_in : Option Entry → Option Queue
place_in None = None
place_in (Some e) = place_for e.state e.suspended

placed_by : (o : Option Entry) (running : Option ℕ) (place : Option Queue) (b : Option Blocked) → FitsEntry running o place b → tid_of o ≢ 0 → place_in o ≡ place
placed_by None running place b fits used = absurd (used refl)
placed_by (Some e) running place b fits used = sym fits.placed

place_by : (o : Option Entry) (running : Option ℕ) (place : Option Queue) (b : Option Blocked) (q : Queue) → FitsEntry running o place b → place_in o ≡ Some q → place ≡ Some q
place_by None running place b q fits is = absurd (cc is)
place_by (Some e) running place b q fits is = fits.placed ∙ is

or_true : (b : Bool) → (b || true) ≡ true
or_true true = refl
or_true false = refl

-- a slot stands in the queue that is said to be its own
held_by : (q : Queue) (a b c d e : Bool) → (if a then Some queues.New else if b then Some queues.Ready else if c then Some queues.Waiting else if d then Some queues.Suspended else if e then Some queues.Dead else None) ≡ Some q
    → (q ≡ queues.New → a ≡ true) × (q ≡ queues.Ready → b ≡ true) × (q ≡ queues.Waiting → c ≡ true) × (q ≡ queues.Suspended → d ≡ true) × (q ≡ queues.Dead → e ≡ true)
held_by q true b c d e h = (λ i. refl, λ i. absurd (cc (h ∙ ap Some i)), λ i. absurd (cc (h ∙ ap Some i)), λ i. absurd (cc (h ∙ ap Some i)), λ i. absurd (cc (h ∙ ap Some i)))
held_by q false true c d e h = (λ i. absurd (cc (h ∙ ap Some i)), λ i. refl, λ i. absurd (cc (h ∙ ap Some i)), λ i. absurd (cc (h ∙ ap Some i)), λ i. absurd (cc (h ∙ ap Some i)))
held_by q false false true d e h = (λ i. absurd (cc (h ∙ ap Some i)), λ i. absurd (cc (h ∙ ap Some i)), λ i. refl, λ i. absurd (cc (h ∙ ap Some i)), λ i. absurd (cc (h ∙ ap Some i)))
held_by q false false false true e h = (λ i. absurd (cc (h ∙ ap Some i)), λ i. absurd (cc (h ∙ ap Some i)), λ i. absurd (cc (h ∙ ap Some i)), λ i. refl, λ i. absurd (cc (h ∙ ap Some i)))
held_by q false false false false true h = (λ i. absurd (cc (h ∙ ap Some i)), λ i. absurd (cc (h ∙ ap Some i)), λ i. absurd (cc (h ∙ ap Some i)), λ i. absurd (cc (h ∙ ap Some i)), λ i. refl)
held_by q false false false false false h = absurd (cc h)

holds_in : (q : Queue) (s : ℕ) (qs : QueuesOf) → queue_of s qs ≡ Some q → holds s (rows_of q qs) ≡ true
holds_in queues.New s qs is = (held_by queues.New (holds s qs.new) (holds s qs.ready) (holds s qs.waiting) (holds s qs.suspended) (holds s qs.dead) is).0 refl
holds_in queues.Ready s qs is = (held_by queues.Ready (holds s qs.new) (holds s qs.ready) (holds s qs.waiting) (holds s qs.suspended) (holds s qs.dead) is).1 refl
holds_in queues.Waiting s qs is = (held_by queues.Waiting (holds s qs.new) (holds s qs.ready) (holds s qs.waiting) (holds s qs.suspended) (holds s qs.dead) is).2 refl
holds_in queues.Suspended s qs is = (held_by queues.Suspended (holds s qs.new) (holds s qs.ready) (holds s qs.waiting) (holds s qs.suspended) (holds s qs.dead) is).3 refl
holds_in queues.Dead s qs is = (held_by queues.Dead (holds s qs.new) (holds s qs.ready) (holds s qs.waiting) (holds s qs.suspended) (holds s qs.dead) is).4 refl

-- what holds of all that are listed holds of one whose slot is held
of_held : (Q : ℕ → Type 0) (name : ℕ → ℕ) (x : ℕ) (xs : List Ranked) → holds x xs ≡ true → All Q (holders (map (named_row name) xs)) → Q (name x)
of_held Q name x [] held all = absurd (cc held)
of_held Q name x (r ∷ rs) held all = by_test (is_of x r) refl (λ h. of_held Q name x rs h (All-tail Q (name r.holder) (holders (map (named_row name) rs)) all))
  where
    by_test : (b : Bool) → is_of x r ≡ b → (holds x rs ≡ true → Q (name x)) → Q (name x)
    by_test true is rest = subst (λ (n : ℕ). Q (name n)) (same_means r.holder x is) (All-head Q (name r.holder) (holders (map (named_row name) rs)) all)
    by_test false is rest = rest (subst (λ (b : Bool). (b || holds x rs) ≡ true) is held)

-- who stands among the dead is dead
pub dead_in_place : (o : Option Entry) → place_in o ≡ Some queues.Dead → is_dead_in o ≡ true
dead_in_place None is = absurd (cc is)
dead_in_place (Some e) is = by_state e.state e.suspended is
  where
    by_state : (s : ThreadState) (suspended : Bool) → place_for s suspended ≡ Some queues.Dead → is_dead s ≡ true
    by_state s true is = absurd (cc is)
    by_state state.Dead false is = refl
    by_state state.New false is = absurd (cc is)
    by_state state.Ready false is = absurd (cc is)
    by_state state.Running false is = absurd (cc is)
    by_state state.Waiting false is = absurd (cc is)

module _ {P S H : Type 0} (w : WorldOf P S H) (whole : WellFormed w) (k : Control P S H) (sh : Shows w k) where
  abbrev name : ℕ → ℕ
  name = tid_at w.threads.records

  entry_named : (x : ℕ) → name x ≢ 0 → entry_of k (name x) ≡ entry_at w.threads.records x
  unfolding seen
  entry_named x used = ap (λ (f : ℕ → Option Entry). f (name x)) sh.threads.known ∙ ap (λ (o : Option ℕ). by_slot None (entry_at w.threads.records) o) (whole.sound.tied.slot x used)

  module _ (q : Queue) where
    abbrev Stands : ℕ → Type 0
    Stands u = place_in (entry_of k u) ≡ Some q

    one_stands : (x : ℕ) → name x ≢ 0 → queue_of x w.threads.queues ≡ Some q → Stands (name x)
    unfolding tid_at
    one_stands x used stands =
        subst (λ (o : Option Entry). place_in o ≡ Some q) (sym (entry_named x used))
        (placed_by (entry_at w.threads.records x) w.scheduler.running _ _ (whole.fits x) used ∙ stands)

    rows_stand : (xs : List Ranked) → IsQueued name xs → ((x : ℕ) → holds x xs ≡ true → queue_of x w.threads.queues ≡ Some q) → All Stands (holders (map (named_row name) xs))
    rows_stand [] used stands = All-nil Stands
    rows_stand (x ∷ xs) used stands =
        All-cons Stands (name x.holder) (holders (map (named_row name) xs)) (one_stands x.holder used.0 (stands x.holder (rw (same_self x.holder) refl)))
        (rows_stand xs used.1 (λ y h. stands y (rw h (or_true (is_of y x)))))

    -- who stands in a queue has such a record
    pub all_stand : All Stands (holders (queue k q))
    all_stand =
        subst (λ (l : List Ranked). All Stands (holders l)) (sym (sh.threads.standing q))
        (rows_stand (rows_of q w.threads.queues) (whole.sound.queued q) (λ x h. queue_of-holds q x w.threads.queues whole.sound.orderly h))

    -- and who has such a record stands there
    module _ (Q : ℕ → Type 0) (all : All Q (holders (queue k q))) where
      all_rows : All Q (holders (map (named_row name) (rows_of q w.threads.queues)))
      all_rows = subst (λ (l : List Ranked). All Q (holders l)) (sh.threads.standing q) all

      by_slot_of : (u : ℕ) (o : Option ℕ) → slot_of w.threads.records u ≡ o → place_in (by_slot None (entry_at w.threads.records) o) ≡ Some q → Q u
      by_slot_of u None is stands = absurd (cc stands)
      by_slot_of u (Some x) is stands =
          let place = place_by (entry_at w.threads.records x) w.scheduler.running (queue_of x w.threads.queues) _ q (whole.fits x) stands in
          subst Q (whole.sound.tied.tid u x is) (of_held Q name x (rows_of q w.threads.queues) (holds_in q x w.threads.queues place) all_rows)

      pub of_standing : (u : ℕ) → place_in (entry_of k u) ≡ Some q → Q u
      unfolding seen
      of_standing u stands = by_slot_of u (slot_of w.threads.records u) refl (subst (λ (f : ℕ → Option Entry). place_in (f u) ≡ Some q) sh.threads.known stands)

  dead_fits : (o : Option Entry) (running : Option ℕ) (place : Option Queue) (b : Option Blocked) → FitsEntry running o place b → is_dead_in o ≡ true → place_in o ≡ Some queues.Dead
  dead_fits None running place b fits dead = absurd (cc dead)
  dead_fits (Some e) running place b fits dead = by_state e.state e.suspended dead fits.awake
    where
      by_state : (s : ThreadState) (suspended : Bool) → is_dead s ≡ true → (suspended ≡ true → CanSuspend s) → place_for s suspended ≡ Some queues.Dead
      by_state state.Dead true dead awake = absurd (awake refl)
      by_state state.Dead false dead awake = refl
      by_state state.New suspended dead awake = absurd (cc dead)
      by_state state.Ready suspended dead awake = absurd (cc dead)
      by_state state.Running suspended dead awake = absurd (cc dead)
      by_state state.Waiting suspended dead awake = absurd (cc dead)

  dead_at : (u : ℕ) (o : Option ℕ) → slot_of w.threads.records u ≡ o → is_dead_in (by_slot None (entry_at w.threads.records) o) ≡ true → place_in (by_slot None (entry_at w.threads.records) o) ≡ Some queues.Dead
  dead_at u None is dead = absurd (cc dead)
  dead_at u (Some x) is dead = dead_fits (entry_at w.threads.records x) w.scheduler.running _ _ (whole.fits x) dead

  pub dead_stands : (u : ℕ) → is_dead_in (entry_of k u) ≡ true → place_in (entry_of k u) ≡ Some queues.Dead
  unfolding seen
  dead_stands u dead = subst (λ (f : ℕ → Option Entry). place_in (f u) ≡ Some queues.Dead) (sym sh.threads.known) (dead_at u (slot_of w.threads.records u) refl (subst (λ (f : ℕ → Option Entry). is_dead_in (f u) ≡ true) sh.threads.known dead))
