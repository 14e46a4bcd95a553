-- What stands in a ring is an event, and rings are circles.
use Rattle.std.proofs.Common.{◌≡◌, ◌≢◌, ◌⊎◌, ℕ, ◌+◌, true, ℤ, List, [], ◌∷◌, ◌++◌, flat_map, Option, Some, None, is_some, inl, inr, refl, ◌∙◌, ap, subst}
use Rattle.pth_base.specs.Chain.{StandsIn, Distinct}
use Rattle.pth_base.specs.Program.{Functions}
use Rattle.pth_base.specs.Table.{put}
use Rattle.pth_base.proofs.Chains.{stands_or_not, StandsIn-append_cases}
use Rattle.pth_base.proofs.Tables.{put_by, put_other}
use Rattle.pth_cond.specs.Conditions.{seat_entered}
use Rattle.pth_numbered.specs.Operands.{number}
use Rattle.pth_ring.specs.Ring.{circle, rest_of}
use Rattle.pth_ring.specs.Rings.{Events, is_event, with_claim, with_event, ring_awaited, awaited, claimed, all_unclaimed, ring_refusal}
use Rattle.pth_ring.specs.declared.event.Event.{Event}
use Rattle.pth_ring.proofs.Lists.{in_one, ring_holds-in}
use Rattle.pth_ring.proofs.Turns.{StandsIn-unturned, circle-in, circle-out, each-in, each-out}
use Rattle.pth_model.specs.Conditions.{seat_of}
use Rattle.pth_model.specs.State.{State, Given, start, now_of}
use Rattle.pth_model.specs.Transition.{controlled, tid}
use Rattle.pth_model.specs.Changes.{sets, goes_on, is_blocked_by, makes, forgets, with_conditions, with_barriers, blocked_of}
use Rattle.pth_model.specs.RingWaits.{awaited_events, claims, extra_ring, gives_back, ring_given, ring_held, stops_waiting}
use Rattle.pth_model.specs.LibraryControl.{vanish_all_but}
use Rattle.pth_model.specs.Looks.{looked_at}
use Rattle.pth_model.specs.Pass.{looks, waiting}
use Rattle.pth_model.specs.Run.{run}
use Rattle.pth_laws.specs.Rings.{AreRingsCircles, AreRingsHeld}
use Rattle.pth_laws.proofs.Along.{KeptAlong, Arrangement, Alone, Chained, Joined, Isolated, Freed, RingFreed, arranged, MayArrange, run_keeps}
use Rattle.pth_laws.proofs.Circles.{AreCircles, apart, begins, free_event, mates}
use Rattle.pth_laws.proofs.Claimed.{FitsIn, each_same, fits_kept, fits_start, one_same, some_mapped, stands}

abbrev pub AreEvents : Events → Type 0
AreEvents x = (e g : ℕ) → StandsIn g (x.rings e) → is_event x g ≡ true

-- the rings are as they were, and so is which events are there
events_as : (x y : Events) → y.rings ≡ x.rings → ((e : ℕ) → is_event y e ≡ is_event x e) → AreEvents x → AreEvents y
events_as x y rings same all e g h = same g ∙ all e g (subst (λ (f : ℕ → List ℕ). StandsIn g (f e)) rings h)

-- who stands in a ring that was made of these, or in another one
in_circle : (xs : List ℕ) (f : ℕ → List ℕ) (e g : ℕ) → StandsIn g (circle xs f e) → StandsIn g xs ⊎ ((StandsIn e xs → ⊥) × StandsIn g (f e))
in_circle xs f e g h = elim (stands_or_not e xs) [
  | inl within ↦ inl (StandsIn-unturned g e xs within (subst (StandsIn g) (circle-in xs f e within) h))
  | inr out ↦ inr (out, subst (StandsIn g) (circle-out xs f e out) h)
]

in_rest : (xs : List ℕ) (g : ℕ) → StandsIn g (rest_of xs) → StandsIn g xs
in_rest [] g h = h
in_rest (x ∷ xs) g h = inr h

-- one more event
more_events : (events : ℕ → Option Event) (n g : ℕ) (v : Event) → (g ≡ n) ⊎ (is_some (events g) ≡ true) → is_some (put events n (Some v) g) ≡ true
more_events events n g v h = put_by (λ o. is_some o ≡ true) events n (Some v) g (λ here. refl) (λ other. elim h [ inl same ↦ absurd (other same) | inr there ↦ there ])

module _ (x : Events) (c : AreCircles x) (all : AreEvents x) where
  events_freed : (a : ℕ) → ring_refusal x a ≡ None → AreEvents (arranged (Freed a) x)
  events_freed a may e g h = by_ring h
    where
      rest : List ℕ
      rest = rest_of (x.rings a)

      ring : x.rings a ≡ a ∷ rest
      ring = begins x c a (c.here a (free_event x a may).0)

      -- the event that is freed is none of these
      other_than : StandsIn g rest ⊎ ((StandsIn e rest → ⊥) × StandsIn g (x.rings e)) → e ≢ a → g ≢ a
      other_than (inl within) apart same = (subst Distinct ring (c.once a)).0 g within same
      other_than (inr out) apart same = elim (subst (StandsIn e) ring (mates x c e a (subst (λ v. StandsIn v (x.rings e)) same out.1))) [ inl here ↦ apart here | inr k ↦ out.0 k ]

      there : StandsIn g rest ⊎ ((StandsIn e rest → ⊥) × StandsIn g (x.rings e)) → is_event x g ≡ true
      there (inl within) = all a g (in_rest (x.rings a) g within)
      there (inr out) = all e g out.1

      by_ring : StandsIn g (put (circle rest x.rings) a [] e) → is_some (put x.events a None g) ≡ true
      by_ring = put_by (λ (l : List ℕ). StandsIn g l → is_some (put x.events a None g) ≡ true) (circle rest x.rings) a [] e
          (λ here k. absurd k)
          (λ other k. let one = in_circle rest x.rings e g k in ap is_some (put_other x.events a None g (other_than one other)) ∙ there one)

  events_arranged : (q : Arrangement) → MayArrange x q → AreEvents (arranged q x)
  events_arranged (Alone spec) may e g h = more_events x.events (x.made + 1) g _ (elim (in_circle ((x.made + 1) ∷ []) x.rings e g h) [ inl own ↦ inl (in_one g (x.made + 1) own) | inr out ↦ inr (all e g out.1) ])
  events_arranged (Chained spec a) may e g h = more_events x.events (x.made + 1) g _ (elim (in_circle (x.rings a ++ (x.made + 1) ∷ []) x.rings e g h) [
    | inl own ↦ elim (StandsIn-append_cases g (x.rings a) ((x.made + 1) ∷ []) own) [ inl k ↦ inr (all a g k) | inr k ↦ inl (in_one g (x.made + 1) k) ]
    | inr out ↦ inr (all e g out.1)
  ])
  events_arranged (Joined a b) may e g h = elim (in_circle (x.rings a ++ x.rings b) x.rings e g h) [
    | inl own ↦ elim (StandsIn-append_cases g (x.rings a) (x.rings b) own) [ inl k ↦ all a g k | inr k ↦ all b g k ]
    | inr out ↦ all e g out.1
  ]
  events_arranged (Isolated a) may e g h = elim (in_circle (a ∷ []) (circle (rest_of (x.rings a)) x.rings) e g h) [
    | inl own ↦ ap (is_event x) (in_one g a own) ∙ (free_event x a may).0
    | inr out ↦ elim (in_circle (rest_of (x.rings a)) x.rings e g out.1) [ inl k ↦ all a g (in_rest (x.rings a) g k) | inr k ↦ all e g k.1 ]
  ]
  events_arranged (Freed a) may e g h = events_freed a may e g h
  events_arranged (RingFreed a) may e g h = elim (stands_or_not e (x.rings a)) [
    | inl within ↦ absurd (subst (StandsIn g) (each-in (x.rings a) (λ l. []) x.rings e within) h)
    | inr out ↦ let k = subst (StandsIn g) (each-out (x.rings a) (λ l. []) x.rings e out) h in ap is_some (each-out (x.rings a) (λ o. None) x.events g (apart x c a e g out k)) ∙ all e g k
  ]

-- ---- states

module _ {P S H : Type 0} where
  abbrev HaveEvents : State P S H → Type 0
  HaveEvents s = AreEvents s.control.events

  events_claimed : (t : ℕ) (r : Option ℤ) (s : State P S H) → HaveEvents s → HaveEvents (controlled (claims t r) s)
  unfolding claims
  events_claimed t None s all = all
  events_claimed t (Some i) s all =
      let x = s.control.events in
      let now = now_of s.control in
      events_as x (claimed (number i) (tid t) now x) refl (λ e. one_same is_some (with_claim (Some (tid t))) (some_mapped (with_claim (Some (tid t)))) (number i) (ring_awaited (number i) now x).events e ∙ each_same is_some (awaited now) (some_mapped (awaited now)) (x.rings (number i)) x.events e) all

  events_returned : (r : Option ℤ) (s : State P S H) → HaveEvents s → HaveEvents (controlled (gives_back r) s)
  unfolding gives_back
  events_returned None s all = all
  events_returned (Some i) s all = events_as s.control.events (with_event (with_claim None) (number i) s.control.events) refl (λ e. one_same is_some (with_claim None) (some_mapped (with_claim None)) (number i) s.control.events.events e) all

  events_stopped : (t : ℕ) (s : State P S H) → HaveEvents s → HaveEvents (controlled (stops_waiting t) s)
  unfolding stops_waiting goes_on
  events_stopped t s all = events_returned (ring_held (blocked_of s.control t)) (controlled (is_blocked_by t None) s) all

  events_vanished : (t : ℕ) (s : State P S H) → HaveEvents s → HaveEvents (controlled (vanish_all_but t) s)
  unfolding vanish_all_but
  events_vanished t s all = events_as s.control.events (all_unclaimed s.control.events) refl (λ e. some_mapped (with_claim None) (s.control.events.events e)) all

  events_looked : (f : P → Functions S H) (s : State P S H) → HaveEvents s → HaveEvents (controlled (looks f s) s)
  unfolding looks
  events_looked f s all =
      let es = flat_map (awaited_events s.control) (waiting s.control) in
      events_as s.control.events (controlled (looks f s) s).control.events refl (λ e. each_same is_some (looked_at f s e) (some_mapped (looked_at f s e)) es s.control.events.events e) all

  abbrev pub Both : State P S H → Type 0
  Both s = FitsIn s × HaveEvents s

  pub both_kept : (f : P → Functions S H) → KeptAlong f Both
  unfolding sets makes forgets goes_on
  both_kept f = record {
    handlers = record {
      shared = λ h s r. r;
      seated = λ x s keeps r. r;
      told = λ m s may r. r;
    };
    placed = λ standing entries raises trail s r. r;
    scheduled = λ x s r. r;
    timed = λ x s r. r;
    used = λ o s r. r;
    set = λ t c s safe life r. (fits.set t c s safe life r.0, r.1);
    made = λ t b v a s next r. (fits.made t b v a s next r.0, r.1);
    forgotten = λ t s gone r. (fits.forgotten t s gone r.0, r.1);
    vanished = λ t s free r. (fits.vanished t s free r.0, events_vanished t s r.1);
    added = λ s r. r;
    bound = λ t s r. r;
    renewed = λ n s r. r;
    valued = λ a v x s there inside r. r;
    destroyed = λ n s r. r;
    arranges = λ q s may r. (fits.arranges q s may r.0, events_arranged s.control.events r.0.circles r.1 q may);
    looked = λ s r. (fits.looked s r.0, events_looked f s r.1);
    barred = λ x s fewer all r. r;
    reached = λ t b round s free alive there waits r. (fits.reached t b round s free alive there waits r.0, r.1);
    goes = λ t g s same r. (fits.goes t g s same r.0, r.1);
    blocked = λ t c a s free here other none may r. (fits.blocked t c a s free here other none may r.0, events_claimed t (ring_given c) s r.1);
    waits_on = λ t a b s at names stays other plain r. (fits.waits_on t a b s at names stays other plain r.0, r.1);
    stopped = λ t x y s fewer others seats left gone r. (fits.stopped t x y s fewer others seats left gone r.0, events_stopped t (controlled (λ k. with_conditions (λ z. y) (with_barriers (λ z. x) k)) s) r.1);
    takes_seat = λ t c m e s free alive there may r. (fits.takes_seat t c m e s free alive there may r.0, events_claimed t (extra_ring e) (controlled (with_conditions (seat_entered c (seat_of t))) s) r.1);
    retakes = λ t c m e a o y s keeps gone at r. (fits.retakes t c m e a o y s keeps gone at r.0, events_stopped t (controlled (with_conditions (λ z. y)) s) r.1);
  }
    where
      fits : KeptAlong f FitsIn
      fits = fits_kept f

  pub both_start : (f : P → Functions S H) (g : Given P) → Both (start f g)
  unfolding start
  both_start f g = (fits_start f g, λ e i h. absurd h)

  pub run_events_there : (f : P → Functions S H) (g : Given P) (i : ℕ) → AreEvents (run f g i).state.control.events
  run_events_there f g i = (run_keeps f Both (both_kept f) g (both_start f g) i).1

  pub circles_of : (s : State P S H) → Both s → AreRingsCircles s
  circles_of s both =
      let x = s.control.events in
      let c = both.0.circles in
      record {
        own = λ e h. ring_holds-in e (x.rings e) (c.here e h);
        begun = λ e a h. ring_holds-in e (x.rings e) (c.own e a (stands a (x.rings e) h));
        events = λ e a h. both.1 e a (stands a (x.rings e) h);
        made = λ e a h. c.low e a (stands a (x.rings e) h);
        once = c.once;
        rotated = λ e a h. c.turns e a (stands a (x.rings e) h);
      }

  pub run_circles : (f : P → Functions S H) (g : Given P) (i : ℕ) → AreRingsCircles (run f g i).state
  run_circles f g i = circles_of (run f g i).state (run_keeps f Both (both_kept f) g (both_start f g) i)

  -- and the other way round
  circles_in : (s : State P S H) → AreRingsCircles s → AreCircles s.control.events
  circles_in s c =
      let x = s.control.events in
      record {
        here = λ e h. stands e (x.rings e) (c.own e h);
        own = λ e a h. stands e (x.rings e) (c.begun e a (ring_holds-in a (x.rings e) h));
        turns = λ e a h. c.rotated e a (ring_holds-in a (x.rings e) h);
        once = c.once;
        low = λ e a h. c.made e a (ring_holds-in a (x.rings e) h);
      }

  pub both_in : (s : State P S H) → AreRingsCircles s → AreRingsHeld s → Both s
  both_in s c r =
      let x = s.control.events in (
        record {
          circles = circles_in s c;
          held = r.held;
          one = λ e a t u h k within. (r.one_claim t u e a h k (ring_holds-in a (x.rings e) within)).1;
        },
        λ e a h. c.events e a (ring_holds-in a (x.rings e) h),
      )
