-- Who is blocked with a ring has its claim, and no ring has two claims.
use Rattle.std.proofs.Common.{◌≡◌, ◌≢◌, ◌⊎◌, ℕ, ◌+◌, ◌≤◌, ◌==◌, Bool, true, false, if◌then◌else◌, ℤ, List, flat_map, Option, Some, None, is_some, option_map, refl, sym, ◌∙◌, ap, subst, inl, inr}
use Rattle.std.proofs.lemmas.Bool.{cases_eq, true≢false}
use Rattle.std.proofs.lemmas.Option.{none-some, same_Some}
use Rattle.pth_base.specs.Program.{Functions}
use Rattle.pth_base.specs.Table.{put}
use Rattle.pth_base.specs.declared.call.Call.{Call}
use Rattle.pth_base.specs.declared.call.Call.TheVariants as call
use Rattle.pth_base.specs.declared.ids.Tid.{Tid}
use Rattle.pth_base.proofs.Tables.{put_by, put_here, put_other, same_means}
use Rattle.pth_cond.specs.Conditions.{seat_entered}
use Rattle.pth_model.specs.Conditions.{seat_of}
use Rattle.pth_cond.specs.Barriers.{barrier_reached}
use Rattle.pth_numbered.specs.Operands.{number}
use Rattle.pth_ring.specs.declared.event.Event.{Event}
use Rattle.pth_base.specs.Chain.{StandsIn, Distinct}
use Rattle.pth_ring.specs.Ring.{ring_holds, turned, each}
use Rattle.pth_ring.specs.Rings.{Events, is_event, is_claimed, with_claim, with_event, ring_awaited, awaited, claimed, all_unclaimed}
use Rattle.pth_base.proofs.Chains.{stands_or_not}
use Rattle.pth_ring.proofs.Lists.{ring_holds-out}
use Rattle.pth_threads.specs.declared.entry.Change as change_of_record
use Rattle.pth_model.specs.declared.awaits.Awaits.{Awaits}
use Rattle.pth_model.specs.declared.awaits.Awaits.TheVariants as awaits
use Rattle.pth_model.specs.declared.awaits.Retake.{Retake}
use Rattle.pth_model.specs.Awaits.{is_retaking}
use Rattle.pth_model.specs.declared.blocked.Blocked.{Blocked}
use Rattle.pth_model.specs.declared.progress.Progress.{Progress}
use Rattle.pth_model.specs.State.{State, Control, Given, start, main, now_of}
use Rattle.pth_model.specs.Transition.{controlled, tid}
use Rattle.pth_model.specs.Changes.{sets, goes_on, blocking, is_blocked_by, makes, forgets, with_conditions, with_barriers, blocked_in, blocked_of}
use Rattle.pth_model.specs.RingWaits.{claimant, claimant_by, claims, gives_back, ring_given, ring_held, stops_waiting, awaited_events}
use Rattle.pth_model.specs.ThreadControl.{values_for, or_first}
use Rattle.pth_model.specs.LibraryControl.{vanish_all_but}
use Rattle.pth_model.specs.Calls.{blocks}
use Rattle.pth_model.specs.Looks.{looked_at}
use Rattle.pth_model.specs.Pass.{looks, waiting}
use Rattle.pth_model.specs.Run.{run}
use Rattle.pth_laws.specs.Clean.{event_held}
use Rattle.pth_laws.specs.Rings.{AreRingsHeld}
use Rattle.pth_laws.proofs.Allowed.{IsFree, MayWait, stopped_free}
use Rattle.pth_model.proofs.NoRounds.{special_none}
use Rattle.pth_laws.proofs.Claims.{event_given}
use Rattle.pth_laws.proofs.Along.{KeptAlong, Arrangement, arranged, MayArrange, run_keeps}
use Rattle.pth_laws.proofs.Circles.{AreCircles, Comes, mates, unclaimed_in, comes_by, claims_by, circles_by}

-- the events, and what blocks each thread
pub record Fits (x : Events) (waits : ℕ → Option ℕ) : Type 0 where
  pub circles : AreCircles x
  pub held : (t e : ℕ) → waits t ≡ Some e → claimant x e ≡ Some t
  pub one : (e g t u : ℕ) → claimant x e ≡ Some t → claimant x g ≡ Some u → StandsIn g (x.rings e) → e ≡ g

-- ---- changes of what is kept of events

-- each event keeps whether it is there
pub some_mapped : {A : Type 0} (f : A → A) (o : Option A) → is_some (option_map f o) ≡ is_some o
some_mapped f None = refl
some_mapped f (Some v) = refl

-- the rings are as they were, and so is which events are there
circles_as : (x y : Events) → y.rings ≡ x.rings → y.made ≡ x.made → ((e : ℕ) → is_event y e ≡ is_event x e) → AreCircles x → AreCircles y
circles_as x y rings made same c =
    let at : (e : ℕ) → y.rings e ≡ x.rings e = λ e. ap (λ (r : ℕ → List ℕ). r e) rings in
    record {
      here = λ e h. subst (StandsIn e) (sym (at e)) (c.here e (sym (same e) ∙ h));
      own = λ e g h. subst (StandsIn e) (sym (at e)) (c.own e g (subst (StandsIn g) (at e) h));
      turns = λ e g h. subst (λ (r : ℕ → List ℕ). r g ≡ turned g (r e)) (sym rings) (c.turns e g (subst (StandsIn g) (at e) h));
      once = λ e. subst Distinct (sym (at e)) (c.once e);
      low = λ e g h. subst (λ (n : ℕ). g ≤ n) (sym made) (c.low e g (subst (StandsIn g) (at e) h));
    }

-- a change of events that changes no claim
pub mapped_claim : (f : Event → Event) → ((v : Event) → (f v).claim ≡ v.claim) → (o : Option Event) → claimant_by (option_map f o) ≡ claimant_by o
mapped_claim f same None = refl
mapped_claim f same (Some v) = ap (option_map (λ (x : Tid). x.0)) (same v)

-- what a change leaves of an event, it leaves of each of these, and of one
pub each_same : {A : Type 0} (p : Option Event → A) (f : Event → Event) → ((o : Option Event) → p (option_map f o) ≡ p o) → (es : List ℕ) (events : ℕ → Option Event) (i : ℕ) → p (each es (option_map f) events i) ≡ p (events i)
unfolding each
each_same p f same es events i = by_member (ring_holds i es)
  where
    by_member : (b : Bool) → p (if b then option_map f (events i) else events i) ≡ p (events i)
    by_member true = same (events i)
    by_member false = refl

pub one_same : {A : Type 0} (p : Option Event → A) (f : Event → Event) → ((o : Option Event) → p (option_map f o) ≡ p o) → (a : ℕ) (events : ℕ → Option Event) (i : ℕ) → p (put events a (option_map f (events a)) i) ≡ p (events i)
one_same p f same a events i = put_by (λ o. p o ≡ p (events i)) events a (option_map f (events a)) i (λ here. same (events a) ∙ ap (λ (j : ℕ). p (events j)) (sym here)) (λ other. refl)

new_claim : (t : ℕ) (o : Option Event) → is_some o ≡ true → claimant_by (option_map (with_claim (Some (record { 0 = t }))) o) ≡ Some t
new_claim t None h = absurd (true≢false (sym h))
new_claim t (Some v) h = refl

-- t claims the ring of an event: its claim stands there, and the others are as they were
pub claimed_here : (x : Events) (a t now : ℕ) → is_event x a ≡ true → claimant (claimed a (tid t) now x) a ≡ Some t
claimed_here x a t now there =
    let z = ring_awaited a now x in
    ap claimant_by (put_here z.events a (option_map (with_claim (Some (tid t))) (z.events a))) ∙ new_claim t (z.events a) (each_same is_some (awaited now) (some_mapped (awaited now)) (x.rings a) x.events a ∙ there)

pub claimed_elsewhere : (x : Events) (a t now e : ℕ) → e ≢ a → claimant (claimed a (tid t) now x) e ≡ claimant x e
claimed_elsewhere x a t now e other =
    let z = ring_awaited a now x in
    ap claimant_by (put_other z.events a (option_map (with_claim (Some (tid t))) (z.events a)) e other) ∙ each_same claimant_by (awaited now) (mapped_claim (awaited now) (λ v. refl)) (x.rings a) x.events e

pub no_claim : (o : Option Event) → claimant_by (option_map (with_claim None) o) ≡ None
no_claim None = refl
no_claim (Some v) = refl

-- a claim stands at an event
pub claimed_there : (o : Option Event) (t : ℕ) → claimant_by o ≡ Some t → is_some o ≡ true
claimed_there None t h = absurd (none-some t h)
claimed_there (Some v) t h = refl

-- ---- claims

module _ (x : Events) (waits : ℕ → Option ℕ) (r : Fits x waits) where
  -- the claims are the same, and so are the rings
  fits_as : (y : Events) → y.rings ≡ x.rings → y.made ≡ x.made → ((e : ℕ) → is_event y e ≡ is_event x e) → ((e : ℕ) → claimant y e ≡ claimant x e) → Fits y waits
  fits_as y rings made there same = record {
    circles = circles_as x y rings made there r.circles;
    held = λ t e h. same e ∙ r.held t e h;
    one = λ e g t u h k within. r.one e g t u (sym (same e) ∙ h) (sym (same g) ∙ k) (subst (λ (f : ℕ → List ℕ). StandsIn g (f e)) rings within);
  }

  fits_arranged : (q : Arrangement) → MayArrange x q → Fits (arranged q x) waits
  fits_arranged q may = record {
    circles = circles_by x r.circles q may;
    held = λ t e h. claims_by x r.circles q may e ∙ r.held t e h;
    one = λ e g t u h k within. one_by e g t u (sym (claims_by x r.circles q may e) ∙ h) (sym (claims_by x r.circles q may g) ∙ k) within (comes_by x r.circles q may e);
  }
    where
      one_by : (e g t u : ℕ) → claimant x e ≡ Some t → claimant x g ≡ Some u → StandsIn g ((arranged q x).rings e) → Comes x (arranged q x) e → e ≡ g
      one_by e g t u h k within (inl same) = r.one e g t u h k (subst (StandsIn g) same.ring within)
      one_by e g t u h k within (inr (inl fresh)) = absurd (none-some t (sym (unclaimed_in x e e fresh.free (r.circles.here e (claimed_there (x.events e) t h))) ∙ h))
      one_by e g t u h k within (inr (inr gone)) = absurd (subst (StandsIn g) gone.ring within)

  -- t, which waits for nothing, claims the ring of an event
  fits_claimed : (a t now : ℕ) → is_event x a ≡ true → is_claimed x a ≡ false → ((u e : ℕ) → waits u ≡ Some e → e ≢ a) → (later : ℕ → Option ℕ) → ((u e : ℕ) → later u ≡ Some e → (waits u ≡ Some e) ⊎ ((u ≡ t) × (e ≡ a))) → Fits (claimed a (tid t) now x) later
  fits_claimed a t now there free apart later comes = record {
    circles = circles_as x y refl refl y_event r.circles;
    held = λ u e h. held_by u e (comes u e h);
    one = λ e g u w h k within. one_by e g u w h k within (cases_eq e a) (cases_eq g a);
  }
    where
      z : Events
      z = ring_awaited a now x

      y : Events
      y = claimed a (tid t) now x

      y_event : (e : ℕ) → is_event y e ≡ is_event x e
      y_event e = one_same is_some (with_claim (Some (tid t))) (some_mapped (with_claim (Some (tid t)))) a z.events e ∙ each_same is_some (awaited now) (some_mapped (awaited now)) (x.rings a) x.events e

      elsewhere : (e : ℕ) → e ≢ a → claimant y e ≡ claimant x e
      elsewhere e other = claimed_elsewhere x a t now e other

      held_by : (u e : ℕ) → (waits u ≡ Some e) ⊎ ((u ≡ t) × (e ≡ a)) → claimant y e ≡ Some u
      held_by u e (inl before) = elsewhere e (apart u e before) ∙ r.held u e before
      held_by u e (inr own) = ap (claimant y) own.1 ∙ claimed_here x a t now there ∙ ap Some (sym own.0)

      -- nobody else has a claim in the ring of a
      alone : (e u : ℕ) → claimant x e ≡ Some u → StandsIn e (x.rings a) → ⊥
      alone e u h within = none-some u (sym (unclaimed_in x a e free within) ∙ h)

      one_by : (e g u w : ℕ) → claimant y e ≡ Some u → claimant y g ≡ Some w → StandsIn g (x.rings e) → (e ≡ a) ⊎ (e ≢ a) → (g ≡ a) ⊎ (g ≢ a) → e ≡ g
      one_by e g u w h k within (inl one) (inl two) = one ∙ sym two
      one_by e g u w h k within (inl one) (inr two) = absurd (alone g w (sym (elsewhere g two) ∙ k) (subst (λ (i : ℕ). StandsIn g (x.rings i)) one within))
      one_by e g u w h k within (inr one) (inl two) =
          absurd (alone e u (sym (elsewhere e one) ∙ h) (subst (λ (i : ℕ). StandsIn e (x.rings i)) two (mates x r.circles e g within)))
      one_by e g u w h k within (inr one) (inr two) = r.one e g u w (sym (elsewhere e one) ∙ h) (sym (elsewhere g two) ∙ k) within

  -- the claim at an event goes, whose thread waits no longer
  fits_returned : (a : ℕ) (later : ℕ → Option ℕ) → ((u e : ℕ) → later u ≡ Some e → (waits u ≡ Some e) × (e ≢ a)) → Fits (with_event (with_claim None) a x) later
  fits_returned a later comes = record {
    circles = circles_as x y refl refl (one_same is_some (with_claim None) (some_mapped (with_claim None)) a x.events) r.circles;
    held = λ u e h. let was = comes u e h in ap claimant_by (put_other x.events a (option_map (with_claim None) (x.events a)) e was.1) ∙ r.held u e was.0;
    one = λ e g t u h k within. r.one e g t u (was_there e t h) (was_there g u k) within;
  }
    where
      y : Events
      y = with_event (with_claim None) a x

      was_there : (e t : ℕ) → claimant y e ≡ Some t → claimant x e ≡ Some t
      was_there e t = put_by (λ o. claimant_by o ≡ Some t → claimant x e ≡ Some t) x.events a (option_map (with_claim None) (x.events a)) e (λ here h. absurd (none-some t (sym (no_claim (x.events a)) ∙ h))) (λ other h. h)

  -- other threads wait, or fewer
  fits_fewer : (later : ℕ → Option ℕ) → ((u e : ℕ) → later u ≡ Some e → waits u ≡ Some e) → Fits x later
  fits_fewer later comes = record { circles = r.circles; held = λ u e h. r.held u e (comes u e h); one = r.one }

  fits_none : (later : ℕ → Option ℕ) → ((u e : ℕ) → later u ≡ Some e → ⊥) → Fits (all_unclaimed x) later
  fits_none later none = record {
    circles = circles_as x (all_unclaimed x) refl refl (λ e. some_mapped (with_claim None) (x.events e)) r.circles;
    held = λ u e h. absurd (none u e h);
    one = λ e g t u h k within. absurd (none-some t (sym (no_claim (x.events e)) ∙ h));
  }

-- a test is what stands in a list
pub stands : (g : ℕ) (xs : List ℕ) → ring_holds g xs ≡ true → StandsIn g xs
stands g xs h = elim (stands_or_not g xs) [ inl k ↦ k | inr out ↦ absurd (true≢false (sym h ∙ ring_holds-out g xs out)) ]

-- ---- states

module _ {P S H : Type 0} where
  -- the event that each thread waits with
  abbrev held_in : Control P S H → ℕ → Option ℕ
  held_in k t = event_held (blocked_of k t)

  abbrev pub FitsIn : State P S H → Type 0
  FitsIn s = Fits s.control.events (held_in s.control)

  fits_set : (t : ℕ) (c : change_of_record.Change) (s : State P S H) → FitsIn s → FitsIn (controlled (sets t c) s)
  unfolding sets
  fits_set t c s r = r

  fits_made : (f : P → Functions S H) (t b : ℕ) (v a : ℤ) (s : State P S H) → FitsIn s → FitsIn (controlled (makes f b v (or_first (values_for s.control t a))) s)
  unfolding makes
  fits_made f t b v a s r = fits_fewer s.control.events (held_in s.control) r _ (λ u e. put_by (λ o. event_held (blocked_in o) ≡ Some e → held_in s.control u ≡ Some e) s.control.threads.progress (s.control.threads.made + 1) _ u (λ here h. absurd (none-some e h)) (λ other h. h))

  fits_forgotten : (t : ℕ) (s : State P S H) → FitsIn s → FitsIn (controlled (forgets t) s)
  unfolding forgets
  fits_forgotten t s r = fits_fewer s.control.events (held_in s.control) r _ (λ u e. put_by (λ o. event_held (blocked_in o) ≡ Some e → held_in s.control u ≡ Some e) s.control.threads.progress t None u (λ here h. absurd (none-some e h)) (λ other h. h))

  fits_vanished : (t : ℕ) (s : State P S H) → IsFree t s → FitsIn s → FitsIn (controlled (vanish_all_but t) s)
  unfolding vanish_all_but
  fits_vanished t s free r = fits_none s.control.events (held_in s.control) r _ (λ u e h. by_number u e (u == t) refl h)
    where
      by_number : (u e : ℕ) (b : Bool) → (u == t) ≡ b → event_held (blocked_in (if b then s.control.threads.progress u else None)) ≡ Some e → ⊥
      by_number u e false other h = none-some e h
      by_number u e true same h = none-some e (sym (ap event_held (ap (blocked_of s.control) (same_means u t same) ∙ free)) ∙ h)

  -- t goes on in its program
  fits_goes : (t : ℕ) (g : Progress S → Progress S) (s : State P S H) → ((p : Progress S) → s.control.threads.progress t ≡ Some p → event_held (g p).blocked ≡ event_held p.blocked) → FitsIn s → FitsIn (controlled (goes_on t g) s)
  unfolding goes_on
  fits_goes t g s same r = fits_fewer s.control.events (held_in s.control) r _ (λ u e. put_by (λ o. event_held (blocked_in o) ≡ Some e → held_in s.control u ≡ Some e) s.control.threads.progress t (option_map g (s.control.threads.progress t)) u (λ here h. ap (held_in s.control) here ∙ by_progress e (s.control.threads.progress t) refl h) (λ other h. h))
    where
      by_progress : (e : ℕ) (o : Option (Progress S)) → s.control.threads.progress t ≡ o → event_held (blocked_in (option_map g o)) ≡ Some e → held_in s.control t ≡ Some e
      by_progress e None at h = absurd (none-some e h)
      by_progress e (Some p) at h = ap (λ o. event_held (blocked_in o)) at ∙ sym (same p at) ∙ h

  fits_looked : (f : P → Functions S H) (s : State P S H) → FitsIn s → FitsIn (controlled (looks f s) s)
  unfolding looks
  fits_looked f s r =
      let k = s.control in
      let es = flat_map (awaited_events k) (waiting k) in
      fits_as k.events (held_in k) r _ refl refl (λ e. each_same is_some (looked_at f s e) (some_mapped (looked_at f s e)) es k.events.events e) (λ e. each_same claimant_by (looked_at f s e) (mapped_claim (looked_at f s e) (λ v. refl)) es k.events.events e)

  -- ---- a call begins to block t, or blocks it no longer

  -- what a thread waits with once t is blocked by a call, or not any more
  waits_after : (k : Control P S H) (t : ℕ) (o : Option Blocked) (u e : ℕ) → event_held (blocked_in (put k.threads.progress t (option_map (blocking o) (k.threads.progress t)) u)) ≡ Some e → ((u ≡ t) × (event_held o ≡ Some e)) ⊎ ((u ≢ t) × (held_in k u ≡ Some e))
  waits_after k t o u e =
      put_by (λ q. event_held (blocked_in q) ≡ Some e → ((u ≡ t) × (event_held o ≡ Some e)) ⊎ ((u ≢ t) × (held_in k u ≡ Some e))) k.threads.progress t (option_map (blocking o) (k.threads.progress t)) u
      (λ here h. inl (here, by_progress (k.threads.progress t) h))
      (λ other h. inr (other, h))
    where
      by_progress : (q : Option (Progress S)) → event_held (blocked_in (option_map (blocking o) q)) ≡ Some e → event_held o ≡ Some e
      by_progress None h = absurd (none-some e h)
      by_progress (Some p) h = h

  -- who waits for the ring of an event that no thread claims
  not_waiting : (s : State P S H) (a : ℕ) → is_event s.control.events a ≡ true → is_claimed s.control.events a ≡ false → FitsIn s → (u e : ℕ) → held_in s.control u ≡ Some e → e ≢ a
  not_waiting s a there free r u e h same =
      none-some u (sym (unclaimed_in s.control.events a a free (r.circles.here a there)) ∙ ap (claimant s.control.events) (sym same) ∙ r.held u e h)

  fits_blocked : (t : ℕ) (c : Call) (a : Awaits) (s : State P S H) → is_retaking a ≡ false → MayWait t c a s → FitsIn s → FitsIn (controlled (λ k. blocks t c a (claims t (ring_given c) k)) s)
  unfolding claims goes_on
  fits_blocked t c a s plain may r = by_ring (ring_given c) refl
    where
      k : Control P S H
      k = s.control

      b : Blocked
      b = record { call = c; awaits = a }

      by_ring : (e : Option ℤ) → ring_given c ≡ e → FitsIn (controlled (λ j. blocks t c a (claims t e j)) s)
      by_ring None given = fits_fewer k.events (held_in k) r _ (λ u e h. by_none u e (waits_after k t (Some b) u e h))
        where
          by_none : (u e : ℕ) → ((u ≡ t) × (event_held (Some b) ≡ Some e)) ⊎ ((u ≢ t) × (held_in k u ≡ Some e)) → held_in k u ≡ Some e
          by_none u e (inl own) = absurd (none-some e (sym (ap (option_map number) given) ∙ sym (event_given c a plain) ∙ own.1))
          by_none u e (inr other) = other.1
      by_ring (Some i) given =
          let passed = may.ring i given in
          fits_claimed k.events (held_in k) r (number i) t (now_of k) passed.0 passed.1 (not_waiting s (number i) passed.0 passed.1 r) _ (λ u e h. by_some u e (waits_after k t (Some b) u e h))
        where
          by_some : (u e : ℕ) → ((u ≡ t) × (event_held (Some b) ≡ Some e)) ⊎ ((u ≢ t) × (held_in k u ≡ Some e)) → (held_in k u ≡ Some e) ⊎ ((u ≡ t) × (e ≡ number i))
          by_some u e (inl own) = inr (own.0, sym (same_Some (number i) e (sym (ap (option_map number) given) ∙ sym (event_given c a plain) ∙ own.1)))
          by_some u e (inr other) = inl other.1

  fits_reached : (t : ℕ) (b : ℤ) (round : ℕ) (s : State P S H) → FitsIn s → FitsIn (controlled (λ k. blocks t (call.BarrierReach b) (awaits.Round b round) (with_barriers (barrier_reached b t) k)) s)
  unfolding claims
  fits_reached t b round s r = fits_blocked t (call.BarrierReach b) (awaits.Round b round) (controlled (with_barriers (barrier_reached b t)) s) refl (record { ring = λ e h. absurd (none-some e h); rightly = tt; names = refl }) r

  fits_stopped : (t : ℕ) (s : State P S H) → FitsIn s → FitsIn (controlled (stops_waiting t) s)
  unfolding stops_waiting gives_back goes_on
  fits_stopped t s r = by_ring (ring_held (blocked_of s.control t)) refl
    where
      k : Control P S H
      k = s.control

      by_ring : (o : Option ℤ) → ring_held (blocked_of k t) ≡ o → FitsIn (controlled (λ j. gives_back o (is_blocked_by t None j)) s)
      by_ring None held = fits_fewer k.events (held_in k) r _ (λ u e h. by_none u e (waits_after k t None u e h))
        where
          by_none : (u e : ℕ) → ((u ≡ t) × (event_held None ≡ Some e)) ⊎ ((u ≢ t) × (held_in k u ≡ Some e)) → held_in k u ≡ Some e
          by_none u e (inl own) = absurd (none-some e own.1)
          by_none u e (inr other) = other.1
      by_ring (Some i) held = fits_returned k.events (held_in k) r (number i) _ (λ u e h. by_some u e (waits_after k t None u e h))
        where
          by_some : (u e : ℕ) → ((u ≡ t) × (event_held None ≡ Some e)) ⊎ ((u ≢ t) × (held_in k u ≡ Some e)) → (held_in k u ≡ Some e) × (e ≢ number i)
          by_some u e (inl own) = absurd (none-some e own.1)
          by_some u e (inr other) =
              let own : claimant k.events (number i) ≡ Some t = r.held t (number i) (ap (option_map number) held) in
              (other.1, λ same. other.0 (same_Some u t (sym (r.held u e other.1) ∙ ap (claimant k.events) same ∙ own)))

  -- t waits for its mutex, and no longer for a ring
  fits_retakes : (t : ℕ) (c m e : ℤ) (o : Retake) (s : State P S H) → FitsIn s → FitsIn (controlled (λ k. blocks t (call.CondAwait c m e) (awaits.Retaking m o) (stops_waiting t k)) s)
  fits_retakes t c m e o s r =
      let d : Blocked = record { call = call.CondAwait c m e; awaits = awaits.Retaking m o } in
      fits_goes t (blocking (Some d)) (controlled (stops_waiting t) s) (λ p here. ap event_held (sym (stopped_free t s) ∙ ap blocked_in here)) (fits_stopped t s r)

  -- ---- every run

  pub fits_kept : (f : P → Functions S H) → KeptAlong f FitsIn
  fits_kept f = record {
    handlers = record {
      shared = λ h s r. r;
      seated = λ x s fewer r. r;
      told = λ m s may r. r;
    };
    placed = λ standing entries raises trail s r. r;
    scheduled = λ x s r. r;
    timed = λ x s r. r;
    used = λ o s r. r;
    set = λ t c s safe life r. fits_set t c s r;
    made = λ t b v a s next r. fits_made f t b v a s r;
    forgotten = λ t s gone r. fits_forgotten t s r;
    vanished = λ t s free r. fits_vanished t s free r;
    added = λ s r. r;
    bound = λ t s r. r;
    renewed = λ n s r. r;
    valued = λ a v x s there inside r. r;
    destroyed = λ n s r. r;
    arranges = λ q s may r. fits_arranged s.control.events (held_in s.control) r q may;
    looked = λ s r. fits_looked f s r;
    barred = λ x s fewer all r. r;
    reached = λ t b round s free alive there waits r. fits_reached t b round s r;
    goes = λ t g s same r. fits_goes t g s (λ p at. ap event_held (same p)) r;
    blocked = λ t c a s free here other none may r. fits_blocked t c a s (special_none a none.0).1 may r;
    waits_on = λ t a b s at names stays other plain r. fits_goes t (blocking (Some (record b { awaits = a }))) s (λ p here. event_given b.call a plain.1 ∙ sym (event_given b.call b.awaits plain.0) ∙ sym (ap event_held (sym (ap blocked_in here) ∙ at))) r;
    stopped = λ t x y s fewer others seats left gone r. fits_stopped t (controlled (λ k. with_conditions (λ z. y) (with_barriers (λ z. x) k)) s) r;
    takes_seat = λ t c m e s free alive there may r. fits_blocked t (call.CondAwait c m e) (awaits.Notice c) (controlled (with_conditions (seat_entered c (seat_of t))) s) refl (record { ring = may.ring; rightly = may.rightly; names = may.names }) r;
    retakes = λ t c m e a o y s fewer gone at r. fits_retakes t c m e o (controlled (with_conditions (λ z. y)) s) r;
  }

  pub fits_start : (f : P → Functions S H) (g : Given P) → FitsIn (start f g)
  unfolding start
  fits_start f g = record {
    circles = record { here = λ e h. absurd (true≢false (sym h)); own = λ e i h. absurd h; turns = λ e i h. absurd h; once = λ e. tt; low = λ e i h. absurd h };
    held = λ t e. put_by (λ (o : Option (Progress S)). event_held (blocked_in o) ≡ Some e → claimant (start f g).control.events e ≡ Some t) (λ u. None) main _ t (λ here h. absurd (none-some e h)) (λ other h. absurd (none-some e h));
    one = λ e i t u h k within. absurd within;
  }

  -- so who is blocked with a ring has its claim, and no ring has two
  pub held_of : (s : State P S H) → FitsIn s → AreRingsHeld s
  held_of s r = record {
    held = r.held;
    one_claim = λ t u a b h k within. one t u a b h k within;
    one_waits = λ t u a b h k within. (one t u a b (r.held t a h) (r.held u b k) within).0;
  }
    where
      x : Events
      x = s.control.events

      one : (t u a b : ℕ) → claimant x a ≡ Some t → claimant x b ≡ Some u → ring_holds b (x.rings a) ≡ true → (t ≡ u) × (a ≡ b)
      one t u a b h k within =
          let same : a ≡ b = r.one a b t u h k (stands b (x.rings a) within) in
          (same_Some t u (sym h ∙ ap (claimant x) same ∙ k), same)

  pub run_held : (f : P → Functions S H) (g : Given P) (i : ℕ) → AreRingsHeld (run f g i).state
  run_held f g i = held_of (run f g i).state (run_keeps f FitsIn (fits_kept f) g (fits_start f g) i)
