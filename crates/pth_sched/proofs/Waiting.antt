-- A pass over threads that are dormant changes nothing.
use Rattle.std.proofs.Common.{◌≡◌, ℕ, ◌==◌, ◌<◌, ◌||◌, ◌&&◌, not, Bool, true, false, if◌then◌else◌, List, [], ◌∷◌, length, map, slice_index_or, filter, flat_map, All, Option, Some, None, option_map, refl, sym, ap, subst}
use Rattle.std.proofs.lemmas.List.Elements.{All-append, All-cons, All-get_or, All-head, All-nil, All-tail, All-weaker}
use mathlib.Core.Path.{fun_ext}
use Rattle.pth_base.specs.Program.{Functions}
use Rattle.pth_base.proofs.Tables.{same_means}
use Rattle.pth_base.specs.declared.ids.Slot.{Slot}
use Rattle.pth_base.specs.declared.thread.ThreadState.{ThreadState}
use Rattle.pth_base.specs.declared.thread.ThreadState.TheVariants as state
use Rattle.pth_queue.specs.declared.queue.Queue.TheVariants as queue
use Rattle.pth_ring.specs.declared.event.Event.{Event}
use Rattle.pth_ring.specs.Ring.{each, ring_holds}
use Rattle.pth_threads.specs.declared.entry.Entry.{Entry}
use Rattle.pth_model.specs.State.{Control, State, now_of, main}
use Rattle.pth_model.specs.Changes.{entry_of}
use Rattle.pth_model.specs.Coming.{has_any_died}
use Rattle.pth_model.specs.Looks.{looked_at}
use Rattle.pth_model.specs.Pass.{is_to_wake, looks, to_wake, waiting}
use Rattle.pth_model.specs.RingWaits.{awaited_events}
use Rattle.pth_model.specs.ThreadEnds.{is_alone}
use Rattle.pth_world.specs.Shows.{Shows}
use Rattle.pth_world.specs.WellFormed.{WellFormed, place_for}
use Rattle.pth_world.specs.World.{WorldOf}
use Rattle.pth_waits.specs.Dormant.{IsDormant, StaysPending, is_left_to_join}
use Rattle.pth_waits.proofs.Dormancy.{dormant_stays, looked_same}
use Rattle.pth_world.proofs.Standing.{all_stand, of_standing, place_in}
use Rattle.pth_sched.specs.Quiescence.{is_among_waiting, waits_in}

-- ---- who stands in the waiting queue waits, and the reverse

waits_by_place : (o : Option Entry) → place_in o ≡ Some queue.Waiting → is_among_waiting o ≡ true
waits_by_place None is = absurd (cc is)
waits_by_place (Some e) is = by_state e.state e.suspended is
  where
    by_state : (x : ThreadState) (suspended : Bool) → place_for x suspended ≡ Some queue.Waiting → (waits_in x && not suspended) ≡ true
    by_state x true h = absurd (cc h)
    by_state state.New false h = absurd (cc h)
    by_state state.Ready false h = absurd (cc h)
    by_state state.Running false h = absurd (cc h)
    by_state state.Waiting false h = refl
    by_state state.Dead false h = absurd (cc h)

place_by_waits : (o : Option Entry) → is_among_waiting o ≡ true → place_in o ≡ Some queue.Waiting
place_by_waits None waits = absurd (cc waits)
place_by_waits (Some e) waits = by_state e.state e.suspended waits
  where
    by_state : (x : ThreadState) (suspended : Bool) → (waits_in x && not suspended) ≡ true → place_for x suspended ≡ Some queue.Waiting
    by_state state.Waiting true h = absurd (cc h)
    by_state state.Waiting false h = refl
    by_state state.New suspended h = absurd (cc h)
    by_state state.Ready suspended h = absurd (cc h)
    by_state state.Running suspended h = absurd (cc h)
    by_state state.Dead suspended h = absurd (cc h)

unmapped : (Q : ℕ → Type 0) (name : Slot → ℕ) (xs : List Slot) → All Q (map name xs) → All (λ (x : Slot). Q (name x)) xs
unmapped Q name [] all = All-nil (λ (x : Slot). Q (name x))
unmapped Q name (x ∷ xs) all = All-cons (λ (y : Slot). Q (name y)) x xs (All-head Q (name x) (map name xs) all) (unmapped Q name xs (All-tail Q (name x) (map name xs) all))

module _ {P S H : Type 0} (w : WorldOf P S H) (whole : WellFormed w) (k : Control P S H) (sh : Shows w k) where
  pub all_wait : All (λ u. is_among_waiting (entry_of k u) ≡ true) (waiting k)
  all_wait =
      All-weaker (λ u. place_in (entry_of k u) ≡ Some queue.Waiting) (λ u. is_among_waiting (entry_of k u) ≡ true) (λ u. waits_by_place (entry_of k u)) (waiting k)
      (all_stand w whole k sh queue.Waiting)

  pub of_waiting : (Q : ℕ → Type 0) → All Q (waiting k) → (u : ℕ) → is_among_waiting (entry_of k u) ≡ true → Q u
  of_waiting Q all u waits = of_standing w whole k sh queue.Waiting Q all u (place_by_waits (entry_of k u) waits)

  -- what holds of each that waits holds of the one at a slot
  pub at_slot : (Q : ℕ → Type 0) → ((u : ℕ) → is_among_waiting (entry_of k u) ≡ true → Q u) → (name : Slot → ℕ) (xs : List Slot) → map name xs ≡ waiting k → (i : ℕ) → i < length xs → Q (name (slice_index_or xs i (record { 0 = 0 })))
  at_slot Q each name xs wait i within =
      let all = All-weaker (λ u. is_among_waiting (entry_of k u) ≡ true) Q each (waiting k) all_wait in
      All-get_or (λ (x : Slot). Q (name x)) xs i (record { 0 = 0 }) within (unmapped Q name xs (subst (All Q) (sym wait) all))

-- ---- where all that wait are dormant

none_kept : (p : ℕ → Bool) (xs : List ℕ) → All (λ x. p x ≡ false) xs → filter p xs ≡ []
none_kept p [] all = refl
none_kept p (x ∷ xs) all = rw (All-head (λ y. p y ≡ false) x xs all) (none_kept p xs (All-tail (λ y. p y ≡ false) x xs all))

all_flat : {A : Type 0} (Q : ℕ → Type 0) (h : A → List ℕ) (xs : List A) → All (λ x. All Q (h x)) xs → All Q (flat_map h xs)
all_flat Q h [] all = All-nil Q
all_flat Q h (x ∷ xs) all = All-append Q (h x) (flat_map h xs) (All-head (λ y. All Q (h y)) x xs all) (all_flat Q h xs (All-tail (λ y. All Q (h y)) x xs all))

-- a table changed at some places, where the change leaves all as it is
module _ {A : Type 0} (g : ℕ → A → A) (f : ℕ → A) where
  by_test : (e x : ℕ) (b : Bool) → (x == e) ≡ b → g x (f x) ≡ f x → (c : Bool) → (if c then g e (f e) else f e) ≡ f e → (if b || c then g e (f e) else f e) ≡ f e
  by_test e x true is here c rest = subst (λ (n : ℕ). g n (f n) ≡ f n) (same_means x e is) here
  by_test e x false is here c rest = rest

  same_at : (e : ℕ) (xs : List ℕ) → All (λ x. g x (f x) ≡ f x) xs → (if ring_holds e xs then g e (f e) else f e) ≡ f e
  same_at e [] all = refl
  same_at e (x ∷ xs) all = by_test e x (x == e) refl (All-head (λ y. g y (f y) ≡ f y) x xs all) (ring_holds e xs) (same_at e xs (All-tail (λ y. g y (f y) ≡ f y) x xs all))

  pub each_same : (xs : List ℕ) → All (λ x. g x (f x) ≡ f x) xs → (λ e. each xs (g e) f e) ≡ f
  unfolding each
  each_same xs all = fun_ext (λ e. same_at e xs all)

module _ {P S H : Type 0} (f : P → Functions S H) (s : State P S H) (until : ℕ) (early : now_of s.control < until) (all : All (IsDormant s until) (waiting s.control)) where
  abbrev k : Control P S H
  k = s.control

  pub none_wakes : is_alone k main ≡ false → (((u : ℕ) → is_left_to_join (entry_of k u) ≡ false) → has_any_died k ≡ false) → to_wake f s ≡ []
  unfolding to_wake
  none_wakes alone none =
      none_kept (is_to_wake f s) (waiting k)
      (All-weaker (IsDormant s until) (λ u. is_to_wake f s u ≡ false) (λ u q. dormant_stays f s until early u alone none q) (waiting k) all)

  pub none_looked : looks f s k ≡ k
  unfolding looks
  none_looked =
      ap (λ (f : ℕ → Option Event). record k { events = record k.events { events = f } })
      (each_same (λ e. option_map (looked_at f s e)) k.events.events (flat_map (awaited_events k) (waiting k))
      (all_flat (λ e. option_map (looked_at f s e) (k.events.events e) ≡ k.events.events e) (awaited_events k) (waiting k)
      (All-weaker (IsDormant s until) (λ u. All (λ e. option_map (looked_at f s e) (k.events.events e) ≡ k.events.events e) (awaited_events k u))
      (λ u q. All-weaker (λ e. StaysPending s until e (k.events.events e)) (λ e. option_map (looked_at f s e) (k.events.events e) ≡ k.events.events e) (λ e h. looked_same f s until early e (k.events.events e) h) (awaited_events k u) q.pending) (waiting k) all)))
