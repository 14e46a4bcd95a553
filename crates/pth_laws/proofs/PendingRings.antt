-- Whoever waits, suspended or not, has a ring whose events are pending.
use Rattle.std.proofs.Common.{◌≡◌, ◌≢◌, ◌⊎◌, ℕ, ◌+◌, ◌==◌, ◌||◌, not, Bool, true, false, if◌then◌else◌, ℤ, pos, ◌+ℤ◌, int_lt, List, [], ◌∷◌, map, filter, flat_map, All, Contains, Option, Some, None, is_some, option_map, inl, inr, Ok, refl, sym, ◌∙◌, ap, subst}
use Rattle.std.specs.Option.{ok_or}
use Rattle.std.proofs.lemmas.List.Concat.{flat_map-cons}
use Rattle.std.proofs.lemmas.List.Elements.{All-nil, All-cons, All-weaker, All-contains}
use Rattle.std.proofs.lemmas.Bool.{true≢false}
use Rattle.std.proofs.lemmas.Option.{same_Some, none-some}
use Rattle.pth_base.specs.Chain.{StandsIn}
use Rattle.pth_base.specs.Program.{Functions}
use Rattle.pth_base.specs.Table.{put}
use Rattle.pth_base.specs.declared.call.Call.{Call}
use Rattle.pth_base.specs.declared.call.Call.TheVariants as call
use Rattle.pth_base.specs.declared.thread.ThreadState.TheVariants as state
use Rattle.pth_base.proofs.Chains.{stands_or_not, StandsIn-append_left, StandsIn-append_right, StandsIn-append_cases}
use Rattle.pth_base.proofs.Tables.{put_by, put_other, same_means}
use Rattle.pth_cond.specs.Barriers.{barrier_reached}
use Rattle.pth_cond.specs.Conditions.{seat_entered}
use Rattle.pth_numbered.specs.Operands.{number}
use Rattle.pth_queue.specs.declared.queue.Queue.TheVariants.{Waiting}
use Rattle.pth_ring.specs.Ring.{ring_holds, each}
use Rattle.pth_base.specs.declared.errno.Errno.TheVariants.{EINVAL}
use Rattle.pth_ring.specs.declared.event.Status.{Status}
use Rattle.pth_ring.specs.declared.event.Status.TheVariants.{Pending, Occurred, Failed}
use Rattle.pth_ring.specs.Rings.{Events, is_event, is_pending, is_settled, status_answer, is_claimed, with_claim, with_event, ring_awaited, awaited, claimed}
use Rattle.pth_ring.specs.declared.event.Event.{Event}
use Rattle.pth_ring.proofs.Turns.{StandsIn-unturned, each-in, each-out}
use Rattle.pth_threads.specs.Threads.{changed}
use Rattle.pth_threads.specs.declared.entry.Change as change_of_record
use Rattle.pth_threads.specs.declared.entry.Change.TheVariants as change
use Rattle.pth_threads.specs.declared.entry.Entry.{Entry}
use Rattle.pth_model.specs.declared.awaits.Awaits.{Awaits}
use Rattle.pth_model.specs.declared.awaits.Awaits.TheVariants as awaits
use Rattle.pth_model.specs.declared.blocked.Blocked.{Blocked}
use Rattle.pth_model.specs.declared.progress.Progress.{Progress}
use Rattle.pth_model.specs.Awaits.{is_retaking}
use Rattle.pth_model.specs.Conditions.{seat_of}
use Rattle.pth_model.specs.Standing.{Standing, height, put_behind, order, row_at, shown, raises_of}
use Rattle.pth_model.specs.State.{State, Given, Turn, start, main, now_of}
use Rattle.pth_model.specs.Transition.{controlled, tid}
use Rattle.pth_model.specs.Changes.{sets, enters, goes_on, leaves_queue, raises_ready, prio_of, holders, or_nobody, blocking, is_blocked_by, makes, forgets, with_conditions, with_barriers, with_events, blocked_in, blocked_of}
use Rattle.pth_model.specs.RingWaits.{awaited_events, claimant, claims, events_from, gives_back, ring_given, ring_held, stops_waiting}
use Rattle.pth_model.specs.ThreadControl.{values_for, or_first}
use Rattle.pth_model.specs.LibraryControl.{vanish_all_but}
use Rattle.pth_model.specs.Calls.{blocks, wakes}
use Rattle.pth_model.specs.Cancellation.{may_be_canceled}
use Rattle.pth_model.specs.Looks.{comes, looked_at}
use Rattle.pth_model.specs.Part.{closes, is_placed, is_put_waiting, placed_by, turn_ends}
use Rattle.pth_model.specs.Pass.{all_woken, comes_for, is_ready_at, is_to_wake, looks, pass, to_wake, waiting, woken}
use Rattle.pth_model.specs.Run.{run}
use Rattle.pth_laws.specs.Kept.{IsWaiting}
use Rattle.pth_laws.proofs.Allowed.{IsFree}
use Rattle.pth_laws.proofs.Along.{KeptAlong, KeptBySteps, Arrangement, IsStepSafe, arranged, life_of_step, left_stands, MayArrange, pass_keeps, put_back_keeps, raises_keeps, run_keeps_through, standers, state_of}
use Rattle.pth_laws.proofs.Circles.{Comes, mates, none_any, unclaimed_in, comes_by}
use Rattle.pth_laws.proofs.RingEvents.{run_events_there}
use Rattle.pth_laws.proofs.Claimed.{FitsIn, claimed_there, fits_kept, fits_start, one_same, stands}

-- no event of a ring is settled
abbrev IsPending : Events → Option ℤ → Type 0
IsPending x r = (e : ℕ) → StandsIn e (events_from x r) → is_settled (x.events e) ≡ false

-- where the rings are as they were, and no event is settled that was not
pending_as : (x y : Events) (r : Option ℤ) → y.rings ≡ x.rings → ((e : ℕ) → is_settled (x.events e) ≡ false → is_settled (y.events e) ≡ false) → IsPending x r → IsPending y r
pending_as x y None rings still p e h = absurd h
pending_as x y (Some i) rings still p e h = still e (p e (subst (λ (f : ℕ → List ℕ). StandsIn e (f (number i))) rings h))

pending_none : (x : Events) (r : Option ℤ) → r ≡ None → IsPending x r
pending_none x r none = subst (IsPending x) (sym none) (λ e h. absurd h)

-- a change of an event that changes no status
mapped_settled : (f : Event → Event) → ((v : Event) → is_settled (Some (f v)) ≡ is_settled (Some v)) → (o : Option Event) → is_settled (option_map f o) ≡ is_settled o
mapped_settled f same None = refl
mapped_settled f same (Some v) = same v

awaited_pending : (now : ℕ) (o : Option Event) → is_settled (option_map (awaited now) o) ≡ false
awaited_pending now None = refl
awaited_pending now (Some v) = refl

-- the events of a ring that is claimed are pending, and the others as they were
module _ (x : Events) (a t now : ℕ) where
  claimed_as : (e : ℕ) → is_settled ((claimed a (tid t) now x).events e) ≡ is_settled ((ring_awaited a now x).events e)
  claimed_as e = one_same is_settled (with_claim (Some (tid t))) (mapped_settled (with_claim (Some (tid t))) (λ v. refl)) a (ring_awaited a now x).events e

  claimed_still : (e : ℕ) → is_settled (x.events e) ≡ false → is_settled ((claimed a (tid t) now x).events e) ≡ false
  unfolding each
  claimed_still e h = claimed_as e ∙ by_test (ring_holds e (x.rings a))
    where
      by_test : (b : Bool) → is_settled (if b then option_map (awaited now) (x.events e) else x.events e) ≡ false
      by_test true = awaited_pending now (x.events e)
      by_test false = h

  claimed_own : (e : ℕ) → StandsIn e (x.rings a) → is_settled ((claimed a (tid t) now x).events e) ≡ false
  claimed_own e within = claimed_as e ∙ ap is_settled (each-in (x.rings a) (option_map (awaited now)) x.events e within) ∙ awaited_pending now (x.events e)

-- the ring that a call holds is none, or the one that it was given
held_given : (c : Call) (a : Awaits) → let o : Option Blocked = Some (record { call = c; awaits = a }) in (ring_held o ≡ None) ⊎ (ring_held o ≡ ring_given c)
held_given c a = by_test (is_retaking a)
  where
    by_test : (b : Bool) → let r : Option ℤ = if b then None else ring_given c in (r ≡ None) ⊎ (r ≡ ring_given c)
    by_test true = inl refl
    by_test false = inr refl

-- while its call is not a wait for a mutex that is taken back
held_on : (c : Call) (a now : Awaits) → is_retaking a ≡ false → is_retaking now ≡ false → ring_held (Some (record { call = c; awaits = now })) ≡ ring_held (Some (record { call = c; awaits = a }))
held_on c a now was is = ap (λ (b : Bool). if b then None else ring_given c) (is ∙ sym was)

-- ---- lists

-- who passes a test is among those that pass
filter_in : (p : ℕ → Bool) (xs : List ℕ) (u : ℕ) → p u ≡ true → StandsIn u xs → StandsIn u (filter p xs)
filter_in p [] u passes h = h
filter_in p (x ∷ xs) u passes h = by_test (p x) refl h (filter_in p xs u passes)
  where
    by_test : (b : Bool) → p x ≡ b → StandsIn u (x ∷ xs) → (StandsIn u xs → StandsIn u (filter p xs)) → StandsIn u (if b then x ∷ filter p xs else filter p xs)
    by_test true own (inl here) more = inl here
    by_test true own (inr h) more = inr (more h)
    by_test false own (inl here) more = absurd (true≢false (sym passes ∙ ap p here ∙ own))
    by_test false own (inr h) more = more h

-- what stands in one of these lists
flat_in : (f : ℕ → List ℕ) (xs : List ℕ) (u e : ℕ) → StandsIn u xs → StandsIn e (f u) → StandsIn e (flat_map f xs)
flat_in f [] u e h within = absurd h
flat_in f (x ∷ xs) u e (inl here) within = subst (StandsIn e) (sym (flat_map-cons f x xs)) (StandsIn-append_left e (f x) (flat_map f xs) (subst (λ v. StandsIn e (f v)) here within))
flat_in f (x ∷ xs) u e (inr h) within = subst (StandsIn e) (sym (flat_map-cons f x xs)) (StandsIn-append_right e (f x) (flat_map f xs) (flat_in f xs u e h within))

record IsOfOne (f : ℕ → List ℕ) (xs : List ℕ) (e : ℕ) : Type 0 where
  of : ℕ
  among : StandsIn of xs
  within : StandsIn e (f of)

flat_out : (f : ℕ → List ℕ) (xs : List ℕ) (e : ℕ) → StandsIn e (flat_map f xs) → IsOfOne f xs e
flat_out f [] e h = absurd h
flat_out f (x ∷ xs) e h = by_list (StandsIn-append_cases e (f x) (flat_map f xs) (subst (StandsIn e) (flat_map-cons f x xs) h)) (flat_out f xs e)
  where
    by_list : StandsIn e (f x) ⊎ StandsIn e (flat_map f xs) → (StandsIn e (flat_map f xs) → IsOfOne f xs e) → IsOfOne f (x ∷ xs) e
    by_list (inl here) more = record { of = x; among = inl refl; within = here }
    by_list (inr h) more = let one = more h in record { of = one.of; among = inr one.among; within = one.within }

all_in : (xs : List ℕ) → All (λ u. StandsIn u xs) xs
all_in [] = All-nil (λ u. StandsIn u [])
all_in (x ∷ xs) = All-cons (λ u. StandsIn u (x ∷ xs)) x xs (inl refl) (All-weaker (λ u. StandsIn u xs) (λ u. StandsIn u (x ∷ xs)) (λ u h. inr h) xs (all_in xs))

contained_in : (u : ℕ) (xs : List ℕ) → Contains xs u → StandsIn u xs
contained_in u xs h = All-contains (λ v. StandsIn v xs) xs u (all_in xs) h

-- ---- who stands in a queue is shown there

behind_in : (u : ℕ) (s : Standing) (xs : List Standing) → (u ≡ s.tid) ⊎ StandsIn u (standers xs) → StandsIn u (standers (put_behind s xs))
unfolding put_behind
behind_in u s [] h = h
behind_in u s (x ∷ xs) h = by_test (int_lt (height x) (height s)) h (behind_in u s xs)
  where
    by_test : (b : Bool) → (u ≡ s.tid) ⊎ StandsIn u (standers (x ∷ xs)) → ((u ≡ s.tid) ⊎ StandsIn u (standers xs) → StandsIn u (standers (put_behind s xs))) → StandsIn u (standers (if b then s ∷ x ∷ xs else x ∷ put_behind s xs))
    by_test true h more = h
    by_test false (inl own) more = inr (more (inl own))
    by_test false (inr (inl here)) more = inl here
    by_test false (inr (inr h)) more = inr (more (inr h))

behind_out : (u : ℕ) (s : Standing) (xs : List Standing) → StandsIn u (standers (put_behind s xs)) → (u ≡ s.tid) ⊎ StandsIn u (standers xs)
unfolding put_behind
behind_out u s [] h = h
behind_out u s (x ∷ xs) h = by_test (int_lt (height x) (height s)) h (behind_out u s xs)
  where
    by_test : (b : Bool) → StandsIn u (standers (if b then s ∷ x ∷ xs else x ∷ put_behind s xs)) → (StandsIn u (standers (put_behind s xs)) → (u ≡ s.tid) ⊎ StandsIn u (standers xs)) → (u ≡ s.tid) ⊎ StandsIn u (standers (x ∷ xs))
    by_test true h more = h
    by_test false (inl here) more = inr (inl here)
    by_test false (inr h) more = elim (more h) [ inl own ↦ inl own | inr k ↦ inr (inr k) ]

order_in : (u : ℕ) (xs : List Standing) → StandsIn u (standers xs) → StandsIn u (standers (order xs))
unfolding order
order_in u [] h = h
order_in u (x ∷ xs) (inl here) = behind_in u x (order xs) (inl here)
order_in u (x ∷ xs) (inr h) = behind_in u x (order xs) (inr (order_in u xs h))

order_out : (u : ℕ) (xs : List Standing) → StandsIn u (standers (order xs)) → StandsIn u (standers xs)
unfolding order
order_out u [] h = h
order_out u (x ∷ xs) h = elim (behind_out u x (order xs) h) [ inl here ↦ inl here | inr k ↦ inr (order_out u xs k) ]

holders_are : (raises : ℕ) (xs : List Standing) → holders (map (row_at raises) xs) ≡ standers xs
holders_are raises [] = refl
holders_are raises (x ∷ xs) = ap (λ (l : List ℕ). x.tid ∷ l) (holders_are raises xs)

shown_in : (u raises : ℕ) (xs : List Standing) → StandsIn u (standers xs) → StandsIn u (holders (shown raises xs))
unfolding shown
shown_in u raises xs h = subst (StandsIn u) (sym (holders_are raises (order xs))) (order_in u xs h)

shown_out : (u raises : ℕ) (xs : List Standing) → StandsIn u (holders (shown raises xs)) → StandsIn u (standers xs)
unfolding shown
shown_out u raises xs h = order_out u xs (subst (StandsIn u) (holders_are raises (order xs)) h)

-- ---- states

-- a change of a record by which nobody begins to wait
waited_before : (c : change_of_record.Change) (o : Option Entry) → (c ≡ change.State state.Waiting → ⊥) → (or_nobody (option_map (changed c) o)).state ≡ state.Waiting → (or_nobody o).state ≡ state.Waiting
unfolding changed
waited_before c None other h = h
waited_before (change.State at) (Some e) other h = absurd (other (ap change.State h))
waited_before c (Some e) other h = h

-- who is made ready does not wait
ready_waits_not : (o : Option Entry) → (or_nobody (option_map (changed (change.State state.Ready)) o)).state ≡ state.Waiting → ⊥
unfolding changed
ready_waits_not None h = cc
ready_waits_not (Some e) h = cc

neither_of_three : (a b c : Bool) → (a || b || c) ≡ false → b ≡ false
neither_of_three true b c h = absurd (true≢false h)
neither_of_three false true c h = absurd (true≢false h)
neither_of_three false false c h = refl

module _ {P S H : Type 0} where
  -- a thread waits: it stands among the waiting threads, or its state is waiting, as that of a suspended one may be
  abbrev Waits : State P S H → ℕ → Type 0
  Waits s u = StandsIn u (standers (s.control.threads.standing Waiting)) ⊎ (state_of s u ≡ state.Waiting)

  -- no event is settled of the ring that it holds
  abbrev HoldsPending : State P S H → ℕ → Type 0
  HoldsPending s u = IsPending s.control.events (ring_held (blocked_of s.control u))

  abbrev ArePending : State P S H → Type 0
  ArePending s = (u : ℕ) → Waits s u → HoldsPending s u

  -- who is blocked with no ring
  free_pending : (s : State P S H) (u : ℕ) → blocked_of s.control u ≡ None → HoldsPending s u
  free_pending s u free = pending_none s.control.events (ring_held (blocked_of s.control u)) (ap ring_held free)

  not_put : (t : ℕ) (c : change_of_record.Change) (s : State P S H) → IsStepSafe t c s → c ≡ change.State state.Waiting → ⊥
  not_put t c s safe same = subst (λ (d : change_of_record.Change). IsStepSafe t d s) same safe

  pending_set : (t : ℕ) (c : change_of_record.Change) (s : State P S H) → (c ≡ change.State state.Waiting → ⊥) → ArePending s → ArePending (controlled (sets t c) s)
  unfolding sets
  pending_set t c s other r u w = r u (by_place w)
    where
      was : (or_nobody (put s.control.threads.known t (option_map (changed c) (s.control.threads.known t)) u)).state ≡ state.Waiting → state_of s u ≡ state.Waiting
      was = put_by (λ o. (or_nobody o).state ≡ state.Waiting → state_of s u ≡ state.Waiting) s.control.threads.known t (option_map (changed c) (s.control.threads.known t)) u
          (λ here h. ap (state_of s) here ∙ waited_before c (s.control.threads.known t) other h) (λ apart h. h)

      by_place : StandsIn u (standers (s.control.threads.standing Waiting)) ⊎ ((or_nobody (put s.control.threads.known t (option_map (changed c) (s.control.threads.known t)) u)).state ≡ state.Waiting) → Waits s u
      by_place (inl stands) = inl stands
      by_place (inr h) = inr (was h)

  -- another record under a number, whose thread is blocked by nothing
  pending_apart : (t : ℕ) (s : State P S H) (known : Option Entry) (p : Option (Progress S)) → blocked_in p ≡ None → ArePending s → (u : ℕ) → StandsIn u (standers (s.control.threads.standing Waiting)) ⊎ ((or_nobody (put s.control.threads.known t known u)).state ≡ state.Waiting) → IsPending s.control.events (ring_held (blocked_in (put s.control.threads.progress t p u)))
  pending_apart t s known p free r u w =
      put_by (λ o. IsPending s.control.events (ring_held (blocked_in o))) s.control.threads.progress t p u
      (λ here. pending_none s.control.events (ring_held (blocked_in p)) (ap ring_held free))
      (λ other. r u (by_place (put_other s.control.threads.known t known u other) w))
    where
      by_place : put s.control.threads.known t known u ≡ s.control.threads.known u → StandsIn u (standers (s.control.threads.standing Waiting)) ⊎ ((or_nobody (put s.control.threads.known t known u)).state ≡ state.Waiting) → Waits s u
      by_place same (inl stands) = inl stands
      by_place same (inr h) = inr (sym (ap (λ o. (or_nobody o).state) same) ∙ h)

  pending_made : (f : P → Functions S H) (t b : ℕ) (v a : ℤ) (s : State P S H) → ArePending s → ArePending (controlled (makes f b v (or_first (values_for s.control t a))) s)
  unfolding makes
  pending_made f t b v a s r u w = pending_apart (s.control.threads.made + 1) s _ _ refl r u w

  pending_forgotten : (t : ℕ) (s : State P S H) → ArePending s → ArePending (controlled (forgets t) s)
  unfolding forgets
  pending_forgotten t s r u w = pending_apart t s None None refl r u w

  pending_vanished : (t : ℕ) (s : State P S H) → IsFree t s → ArePending (controlled (vanish_all_but t) s)
  unfolding vanish_all_but
  pending_vanished t s free u w = free_pending (controlled (vanish_all_but t) s) u (by_number (u == t) refl)
    where
      by_number : (own : Bool) → (u == t) ≡ own → blocked_in (if own then s.control.threads.progress u else None) ≡ None
      by_number true same = ap (blocked_of s.control) (same_means u t same) ∙ free
      by_number false other = refl

  -- calls on rings leave those as they are that threads hold
  pending_arranged : (q : Arrangement) (s : State P S H) → FitsIn s → MayArrange s.control.events q → ArePending s → ArePending (controlled (with_events (arranged q)) s)
  pending_arranged q s fits may r u w = by_ring (ring_held (blocked_of s.control u)) refl
    where
      x : Events
      x = s.control.events

      y : Events
      y = arranged q x

      by_ring : (o : Option ℤ) → ring_held (blocked_of s.control u) ≡ o → IsPending y o
      by_ring None held e h = absurd h
      by_ring (Some i) held e h = by_first (comes_by x fits.circles q may (number i)) h
        where
          claim : claimant x (number i) ≡ Some u
          claim = fits.held u (number i) (ap (option_map number) held)

          own : StandsIn (number i) (x.rings (number i))
          own = fits.circles.here (number i) (claimed_there (x.events (number i)) u claim)

          -- an event in whose ring this claim stands is claimed
          not_free : (g : ℕ) → StandsIn (number i) (x.rings g) → is_claimed x g ≡ false → ⊥
          not_free g within free = none-some u (sym (unclaimed_in x g (number i) free within) ∙ claim)

          by_event : StandsIn e (x.rings (number i)) → Comes x y e → is_settled (y.events e) ≡ false
          by_event within (inl same) = ap is_settled same.event ∙ r u w e (subst (λ (o : Option ℤ). StandsIn e (events_from x o)) (sym held) within)
          by_event within (inr (inl fresh)) = absurd (not_free e (mates x fits.circles (number i) e within) fresh.free)
          by_event within (inr (inr gone)) = absurd (not_free e (mates x fits.circles (number i) e within) gone.free)

          by_first : Comes x y (number i) → StandsIn e (y.rings (number i)) → is_settled (y.events e) ≡ false
          by_first (inl same) h = by_event (subst (StandsIn e) same.ring h) (comes_by x fits.circles q may e)
          by_first (inr (inl fresh)) h = absurd (not_free (number i) own fresh.free)
          by_first (inr (inr gone)) h = absurd (not_free (number i) own gone.free)

  -- what blocks t changes
  pending_goes : (t : ℕ) (g : Progress S → Progress S) (s : State P S H) → (Waits s t → IsPending s.control.events (ring_held (blocked_in (option_map g (s.control.threads.progress t))))) → ArePending s → ArePending (controlled (goes_on t g) s)
  unfolding goes_on
  pending_goes t g s own r u w =
      put_by (λ o. IsPending s.control.events (ring_held (blocked_in o))) s.control.threads.progress t (option_map g (s.control.threads.progress t)) u
      (λ here. own (subst (Waits s) here w)) (λ other. r u w)

  pending_same : (t : ℕ) (g : Progress S → Progress S) (s : State P S H) → ((p : Progress S) → s.control.threads.progress t ≡ Some p → ring_held (g p).blocked ≡ ring_held p.blocked) → ArePending s → ArePending (controlled (goes_on t g) s)
  pending_same t g s same r = pending_goes t g s (λ w. subst (IsPending s.control.events) (sym (by_progress (s.control.threads.progress t) refl)) (r t w)) r
    where
      by_progress : (p : Option (Progress S)) → s.control.threads.progress t ≡ p → ring_held (blocked_in (option_map g p)) ≡ ring_held (blocked_in p)
      by_progress None at = refl
      by_progress (Some p) at = same p at

  -- this blocks t from now on
  pending_blocks : (t : ℕ) (o : Option Blocked) (s : State P S H) → IsPending s.control.events (ring_held o) → ArePending s → ArePending (controlled (is_blocked_by t o) s)
  pending_blocks t o s own r = pending_goes t (blocking o) s (λ w. by_progress (s.control.threads.progress t)) r
    where
      by_progress : (p : Option (Progress S)) → IsPending s.control.events (ring_held (blocked_in (option_map (blocking o) p)))
      by_progress None = pending_none s.control.events None refl
      by_progress (Some p) = own

  -- a ring is claimed, and its events are pending
  pending_claimed : (t : ℕ) (r : Option ℤ) (s : State P S H) → ArePending s → ArePending (controlled (claims t r) s)
  unfolding claims
  pending_claimed t None s p u w = p u w
  pending_claimed t (Some i) s p u w =
      let x = s.control.events in
      pending_as x (claimed (number i) (tid t) (now_of s.control) x) (ring_held (blocked_of s.control u)) refl (claimed_still x (number i) t (now_of s.control)) (p u w)

  claimed_pending : (t : ℕ) (r : Option ℤ) (s : State P S H) → IsPending (controlled (claims t r) s).control.events r
  unfolding claims
  claimed_pending t None s e h = absurd h
  claimed_pending t (Some i) s e h = claimed_own s.control.events (number i) t (now_of s.control) e h

  pending_begins : (t : ℕ) (c : Call) (a : Awaits) (s : State P S H) → ArePending s → ArePending (controlled (λ k. blocks t c a (claims t (ring_given c) k)) s)
  pending_begins t c a s r =
      let u = controlled (claims t (ring_given c)) s in
      pending_blocks t (Some (record { call = c; awaits = a })) u (by_held (held_given c a)) (pending_claimed t (ring_given c) s r)
    where
      by_held : (ring_held (Some (record { call = c; awaits = a })) ≡ None) ⊎ (ring_held (Some (record { call = c; awaits = a })) ≡ ring_given c) → IsPending (controlled (claims t (ring_given c)) s).control.events (ring_held (Some (record { call = c; awaits = a })))
      by_held (inl none) = pending_none (controlled (claims t (ring_given c)) s).control.events _ none
      by_held (inr same) = subst (IsPending (controlled (claims t (ring_given c)) s).control.events) (sym same) (claimed_pending t (ring_given c) s)

  -- a claim is given back
  pending_returned : (r : Option ℤ) (s : State P S H) → ArePending s → ArePending (controlled (gives_back r) s)
  unfolding gives_back
  pending_returned None s p u w = p u w
  pending_returned (Some i) s p u w =
      let x = s.control.events in
      pending_as x (with_event (with_claim None) (number i) x) (ring_held (blocked_of s.control u)) refl (λ e h. one_same is_settled (with_claim None) (mapped_settled (with_claim None) (λ v. refl)) (number i) x.events e ∙ h) (p u w)

  pending_stopped : (t : ℕ) (s : State P S H) → ArePending s → ArePending (controlled (stops_waiting t) s)
  unfolding stops_waiting
  pending_stopped t s r = pending_returned (ring_held (blocked_of s.control t)) (controlled (is_blocked_by t None) s) (pending_blocks t None s (pending_none s.control.events None refl) r)

  -- ---- steps

  abbrev Both : State P S H → Type 0
  Both s = FitsIn s × ArePending s

  steps_kept : (f : P → Functions S H) → KeptBySteps f Both
  steps_kept f = record {
    handlers = record {
      shared = λ h s r. r;
      seated = λ x s keeps r. r;
      told = λ m s may r. r;
    };
    placed = λ standing entries raises trail s may r. (r.0, λ u w. r.1 u (elim w [ inl h ↦ may u h | inr h ↦ inr h ]));
    scheduled = λ x s r. r;
    timed = λ x s r. r;
    used = λ o s r. r;
    set = λ t c s safe life r. (fits.set t c s safe (life_of_step t c s life) r.0, pending_set t c s (not_put t c s life) r.1);
    made = λ t b v a s next r. (fits.made t b v a s next r.0, pending_made f t b v a s r.1);
    forgotten = λ t s gone r. (fits.forgotten t s gone r.0, pending_forgotten t s r.1);
    vanished = λ t s free r. (fits.vanished t s free r.0, pending_vanished t s free);
    added = λ s r. r;
    bound = λ t s r. r;
    renewed = λ n s r. r;
    valued = λ a v x s there inside r. r;
    destroyed = λ n s r. r;
    arranges = λ q s may r. (fits.arranges q s may r.0, pending_arranged q s r.0 may r.1);
    looked = tt;
    barred = λ x s fewer all r. r;
    reached = λ t b round s free alive there waits r. (fits.reached t b round s free alive there waits r.0, pending_blocks t (Some (record { call = call.BarrierReach b; awaits = awaits.Round b round })) (controlled (with_barriers (barrier_reached b t)) s) (pending_none s.control.events None refl) r.1);
    goes = λ t g s same r. (fits.goes t g s same r.0, pending_same t g s (λ p at. ap ring_held (same p)) r.1);
    blocked = λ t c a s free here other none may r. (fits.blocked t c a s free here other none may r.0, pending_begins t c a s r.1);
    waits_on = λ t a b s at names stays other plain r. (fits.waits_on t a b s at names stays other plain r.0, pending_same t (blocking (Some (record b { awaits = a }))) s (λ p here. held_on b.call b.awaits a plain.0 plain.1 ∙ sym (ap ring_held (ap blocked_in (sym here) ∙ at))) r.1);
    stopped = λ t x y s fewer others seats left gone r. (fits.stopped t x y s fewer others seats left gone r.0, pending_stopped t (controlled (λ k. with_conditions (λ z. y) (with_barriers (λ z. x) k)) s) r.1);
    takes_seat = λ t c m e s free alive there may r. (fits.takes_seat t c m e s free alive there may r.0, pending_begins t (call.CondAwait c m e) (awaits.Notice c) (controlled (with_conditions (seat_entered c (seat_of t))) s) r.1);
    retakes = λ t c m e a o y s fewer gone at r. (fits.retakes t c m e a o y s fewer gone at r.0, let u = controlled (λ k. stops_waiting t (with_conditions (λ z. y) k)) s in pending_blocks t (Some (record { call = call.CondAwait c m e; awaits = awaits.Retaking m o })) u (pending_none u.control.events None refl) (pending_stopped t (controlled (with_conditions (λ z. y)) s) r.1));
  }
    where
      fits : KeptAlong f FitsIn
      fits = fits_kept f

  -- ---- a pass

  -- one that is made ready waits no longer
  ready_waits : (t u : ℕ) (rank : ℤ) (top : Bool) (s : State P S H) → Waits (controlled (is_ready_at t rank top) s) u → Waits s u × (u ≢ t)
  unfolding is_ready_at leaves_queue sets enters
  ready_waits t u rank top s (inl h) = let old = left_stands t u (s.control.threads.standing Waiting) h in (inl old.0, old.1)
  ready_waits t u rank top s (inr h) =
      put_by (λ o. (or_nobody o).state ≡ state.Waiting → Waits s u × (u ≢ t)) s.control.threads.known t (option_map (changed (change.State state.Ready)) (s.control.threads.known t)) u
      (λ here k. absurd (ready_waits_not (s.control.threads.known t) k)) (λ other k. (inr k, other)) h

  woken_waits : (ts : List ℕ) (s : State P S H) (u : ℕ) → Waits (all_woken ts s).state u → Waits s u × (StandsIn u ts → ⊥)
  unfolding all_woken woken
  woken_waits [] s u w = (w, λ h. h)
  woken_waits (t ∷ ts) s u w =
      let more = woken_waits ts (woken t s).state u w in
      let old = ready_waits t u (prio_of s.control t +ℤ pos 1) false s more.0 in
      (old.0, λ h. elim h [ inl here ↦ old.1 here | inr k ↦ more.1 k ])

  -- who is woken, nothing else changes of events, or of what blocks threads
  woken_same : (ts : List ℕ) (s : State P S H) → ((all_woken ts s).state.control.events ≡ s.control.events) × ((all_woken ts s).state.control.threads.progress ≡ s.control.threads.progress)
  unfolding all_woken woken is_ready_at leaves_queue sets enters
  woken_same [] s = (refl, refl)
  woken_same (t ∷ ts) s = woken_same ts (woken t s).state

  -- no two threads hold a ring with an event in common
  one_holder : (s : State P S H) → FitsIn s → (u v e : ℕ) → StandsIn e (awaited_events s.control u) → StandsIn e (awaited_events s.control v) → v ≡ u
  one_holder s fits u v e = by_rings (ring_held (blocked_of s.control u)) (ring_held (blocked_of s.control v)) refl refl
    where
      x : Events
      x = s.control.events

      by_rings : (o r : Option ℤ) → ring_held (blocked_of s.control u) ≡ o → ring_held (blocked_of s.control v) ≡ r → StandsIn e (events_from x o) → StandsIn e (events_from x r) → v ≡ u
      by_rings None r one two h k = absurd h
      by_rings (Some i) None one two h k = absurd k
      by_rings (Some i) (Some j) one two h k =
          let own : claimant x (number i) ≡ Some u = fits.held u (number i) (ap (option_map number) one) in
          let other : claimant x (number j) ≡ Some v = fits.held v (number j) (ap (option_map number) two) in
          let within : StandsIn (number j) (x.rings (number i)) = StandsIn-unturned (number j) e (x.rings (number i)) h (subst (StandsIn (number j)) (fits.circles.turns (number i) e h) (mates x fits.circles (number j) e k)) in
          let same = fits.one (number i) (number j) u v own other within in
          same_Some v u (sym other ∙ ap (claimant x) (sym same) ∙ own)

  -- of those that wait, whom a pass does not see holds no ring with a settled event
  abbrev LeavesPending : State P S H → Type 0
  LeavesPending s = (u : ℕ) → Waits s u → (StandsIn u (waiting s.control) → ⊥) → HoldsPending s u

  -- a look leaves no event settled of the ring of whoever is not woken
  looked_pending : (f : P → Functions S H) (s : State P S H) → FitsIn s → LeavesPending s → (u : ℕ) → Waits s u → (StandsIn u (to_wake f s) → ⊥) → IsPending (controlled (looks f s) s).control.events (ring_held (blocked_of s.control u))
  unfolding looks to_wake comes_for
  looked_pending f s fits rest u w out = by_place (stands_or_not u (waiting s.control))
    where
      x : Events
      x = s.control.events

      y : Events
      y = (controlled (looks f s) s).control.events

      es : List ℕ
      es = flat_map (awaited_events s.control) (waiting s.control)

      same_ring : (e : ℕ) (r : Option ℤ) → StandsIn e (events_from y r) → StandsIn e (events_from x r)
      same_ring e None h = h
      same_ring e (Some i) h = h

      by_test : (b : Bool) → is_to_wake f s u ≡ b → StandsIn u (waiting s.control) → IsPending y (ring_held (blocked_of s.control u))
      by_test true wakes_up here e h = absurd (out (filter_in (is_to_wake f s) (waiting s.control) u wakes_up here))
      by_test false still here e h =
          let within = same_ring e (ring_held (blocked_of s.control u)) h in
          let none = neither_of_three (wakes u s) (comes_for f s u) (may_be_canceled s.control u) still in
          ap is_settled (each-in es (option_map (looked_at f s e)) x.events e (flat_in (awaited_events s.control) (waiting s.control) u e here within))
          ∙ none_any (λ g. comes f s g (x.events g)) (awaited_events s.control u) none e within

      by_place : StandsIn u (waiting s.control) ⊎ (StandsIn u (waiting s.control) → ⊥) → IsPending y (ring_held (blocked_of s.control u))
      by_place (inl here) = by_test (is_to_wake f s u) refl here
      by_place (inr apart) = λ e h.
          let within = same_ring e (ring_held (blocked_of s.control u)) h in
          ap is_settled (each-out es (option_map (looked_at f s e)) x.events e (λ k. let one = flat_out (awaited_events s.control) (waiting s.control) e k in apart (subst (λ v. StandsIn v (waiting s.control)) (one_holder s fits u one.of e within one.within) one.among)))
          ∙ rest u w apart e within

  pass_pending : (f : P → Functions S H) (s : State P S H) → FitsIn s → LeavesPending s → ArePending (pass f s).state
  unfolding pass looks
  pass_pending f s fits rest u w =
      let seen = controlled (looks f s) s in
      let past = woken_waits (to_wake f s) seen u w in
      let same = woken_same (to_wake f s) seen in
      subst (λ (x : Events). IsPending x (ring_held (blocked_of (all_woken (to_wake f s) seen).state.control u))) (sym same.0)
      (subst (λ (p : ℕ → Option (Progress S)). IsPending seen.control.events (ring_held (blocked_in (p u)))) (sym same.1) (looked_pending f s fits rest u past.0 past.1))

  pass_both : (f : P → Functions S H) (s : State P S H) → FitsIn s → LeavesPending s → Both (pass f s).state
  pass_both f s fits rest = (pass_keeps f FitsIn (fits_kept f) s fits, pass_pending f s fits rest)

  -- ---- a turn is closed

  -- one that is put among the waiting threads is seen by the pass that follows
  put_leaves : (t : ℕ) (s : State P S H) → ArePending s → LeavesPending (controlled (is_put_waiting t) s)
  unfolding is_put_waiting sets enters
  put_leaves t s r u (inl h) out = absurd (out (shown_in u (raises_of s.control.threads.raises Waiting) _ h))
  put_leaves t s r u (inr h) out =
      put_by (λ o. (or_nobody o).state ≡ state.Waiting → HoldsPending s u) s.control.threads.known t (option_map (changed (change.State state.Waiting)) (s.control.threads.known t)) u
      (λ here k. absurd (out (shown_in u (raises_of s.control.threads.raises Waiting) _ (inl here)))) (λ other k. r u (inr k)) h

  fits_put : (t : ℕ) (s : State P S H) → FitsIn s → FitsIn (controlled (is_put_waiting t) s)
  unfolding is_put_waiting sets enters
  fits_put t s fits = fits

  placed_leaves : (f : P → Functions S H) (t : ℕ) (o : Option ℕ) (b : Option Blocked) (s : State P S H) → Both s → FitsIn (controlled (placed_by t o b) s) × LeavesPending (controlled (placed_by t o b) s)
  placed_leaves f t None b s r = (r.0, λ u w out. r.1 u w)
  placed_leaves f t (Some v) (Some d) s r = (fits_put t s r.0, put_leaves t s r.1)
  placed_leaves f t (Some v) None s r = let x = put_back_keeps f Both (steps_kept f) t s r in (x.0, λ u w out. x.1 u w)

  closes_both : (f : P → Functions S H) (x : Turn) (t : ℕ) (s : State P S H) → Both s → Both (closes f x t s).state
  unfolding closes is_placed raises_ready
  closes_both f x t s r =
      let a = controlled raises_ready s in
      let b = placed_leaves f t s.control.scheduler.running (blocked_of s.control t) a (raises_keeps f Both (steps_kept f) s r) in
      pass_both f (controlled (turn_ends t) s) b.0 b.1

  -- ---- every run

  both_start : (f : P → Functions S H) (g : Given P) → Both (start f g)
  unfolding start
  both_start f g = (fits_start f g, λ u w. put_by (λ (o : Option (Progress S)). IsPending (start f g).control.events (ring_held (blocked_in o))) (λ v. None) main _ u (λ here e h. absurd h) (λ other e h. absurd h))

  run_both : (f : P → Functions S H) (g : Given P) (i : ℕ) → Both (run f g i).state
  run_both f g i = run_keeps_through f Both (steps_kept f) (λ s r. pass_both f s r.0 (λ u w out. r.1 u w)) (closes_both f) g (both_start f g) i

  pub run_pending : (f : P → Functions S H) (g : Given P) (i t e : ℕ) → let s = (run f g i).state in IsWaiting s t → ring_holds e (awaited_events s.control t) ≡ true → status_answer s.control.events e ≡ Ok Pending
  run_pending f g i t e w within = by_event (x.events e) (there (ring_held (blocked_of s.control t)) inside) ((run_both f g i).1 t (by_place w) e inside)
    where
      s : State P S H
      s = (run f g i).state

      x : Events
      x = s.control.events

      inside : StandsIn e (awaited_events s.control t)
      inside = stands e (awaited_events s.control t) within

      there : (r : Option ℤ) → StandsIn e (events_from x r) → is_event x e ≡ true
      there None h = absurd h
      there (Some j) h = run_events_there f g i (number j) e h

      by_status : (v : Status) → not (is_pending v) ≡ false → v ≡ Pending
      by_status Pending h = refl
      by_status Occurred h = absurd (true≢false h)
      by_status Failed h = absurd (true≢false h)

      by_event : (o : Option Event) → is_some o ≡ true → is_settled o ≡ false → ok_or (option_map (λ (v : Event). v.status) o) EINVAL ≡ Ok Pending
      by_event None here still = absurd (true≢false (sym here))
      by_event (Some v) here still = ap Ok (by_status v.status still)

      by_place : IsWaiting s t → Waits s t
      by_place (inl h) = inl (shown_out t (raises_of s.control.threads.raises Waiting) _ (contained_in t (waiting s.control) h))
      by_place (inr h) = inr h
