-- An event has a seat at its own condition alone, and while a thread claims its ring.
use Rattle.std.proofs.Common.{◌≡◌, ◌≤◌, ◌⊎◌, ℕ, zero, suc, ◌==◌, ◌||◌, Bool, true, false, cond, ℤ, List, [], ◌∷◌, flat_map, Option, Some, None, is_some, option_map, inl, inr, refl, sym, ◌∙◌, ap, subst, arith}
use Rattle.std.specs.List.{list_any}
use Rattle.std.proofs.lemmas.Bool.{true≢false}
use Rattle.std.proofs.lemmas.Option.{none-some, same_Some}
use Rattle.pth_base.specs.declared.ids.Tid.{Tid}
use Rattle.pth_base.specs.Chain.{StandsIn}
use Rattle.pth_base.specs.Program.{Functions}
use Rattle.pth_base.proofs.Chains.{stands_or_not}
use Rattle.pth_base.proofs.Tables.{put_other, not_same, same_means, same_self}
use Rattle.pth_lock.specs.Objects.{object_named}
use Rattle.pth_cond.specs.Conditions.{ConditionTable, seat_entered, seat_left, all_seats_left}
use Rattle.pth_numbered.specs.Operands.{number}
use Rattle.pth_ring.specs.declared.event.Event.{Event}
use Rattle.pth_ring.specs.Rings.{Events, has_claim, is_event, is_claimed, with_claim, with_event, ring_awaited, awaited, claimed}
use Rattle.pth_model.specs.Conditions.{seat_of}
use Rattle.pth_model.specs.EventSeats.{condition_of, condition_in, event_seat, seats_changed}
use Rattle.pth_model.specs.Looks.{looked_at}
use Rattle.pth_model.specs.Pass.{looks, waiting}
use Rattle.pth_model.specs.State.{State, Given, start, now_of}
use Rattle.pth_model.specs.Transition.{controlled, tid}
use Rattle.pth_model.specs.Changes.{sets, goes_on, is_blocked_by, makes, forgets, with_conditions, with_barriers, blocked_of}
use Rattle.pth_model.specs.RingWaits.{claimant, claimant_by, claims, extra_ring, gives_back, ring_given, ring_held, stops_waiting, awaited_events}
use Rattle.pth_model.specs.LibraryControl.{vanish_all_but}
use Rattle.pth_model.specs.Run.{run}
use Rattle.pth_laws.specs.Clean.{AreEventSeatsOwned}
use Rattle.pth_laws.specs.Seats.{NoneSeatedTwice}
use Rattle.pth_laws.proofs.Seats.{HasFewerSeats, seats_at, has_some, seats_gone, entered_by}
use Rattle.pth_laws.proofs.KeptSeats.{some_has}
use Rattle.pth_laws.proofs.EventSeats.{places, AreRight, entered_apart, all_entered, fewer_left, all_gone}
use Rattle.pth_laws.proofs.Along.{KeptAlong, Arrangement, arranged, MayArrange, run_keeps}
use Rattle.pth_laws.proofs.Circles.{AreCircles, Comes, mates, free_mate, unclaimed_in, comes_by, claims_by}
use Rattle.pth_laws.proofs.Claimed.{FitsIn, mapped_claim, each_same, one_same, claimed_here, claimed_elsewhere, fits_kept, fits_start}

-- a claim stands in the ring of an event
pub record IsClaimedIn (x : Events) (e : ℕ) : Type 0 where
  pub at : ℕ
  pub by : ℕ
  pub within : StandsIn at (x.rings e)
  pub claim : claimant x at ≡ Some by

-- an event has at most one seat, at the condition of which it is, and if it has one, a claim stands in its ring
pub record AreEventsSeated (x : Events) (y : ConditionTable) : Type 0 where
  pub right : AreRight x y
  pub ring : (e c : ℕ) → 1 ≤ seats_at (event_seat e) (y c) → IsClaimedIn x e

-- who may have a seat at a condition is of it
its_place : (o : Option ℤ) (c : ℕ) → 1 ≤ places o c → option_map object_named o ≡ Some c
its_place None c h = absurd (omega (arith, h))
its_place (Some i) c h = ap Some (same_means (object_named i) c (by_test (object_named i == c) h))
  where
    by_test : (b : Bool) → 1 ≤ cond b 1 0 → b ≡ true
    by_test true h = refl
    by_test false h = absurd (omega (arith, h))

place_there : (o : Option ℤ) (c : ℕ) → option_map object_named o ≡ Some c → places o c ≡ 1
place_there None c h = absurd (none-some c h)
place_there (Some i) c h = ap (λ (b : Bool). cond {A = ℕ} b 1 0) (ap (λ n. n == c) (same_Some (object_named i) c h) ∙ same_self c)

-- no claim stands in a ring that no thread claims
not_claimed : (x : Events) (e : ℕ) → is_claimed x e ≡ false → IsClaimedIn x e → ⊥
not_claimed x e free r = none-some r.by (sym (unclaimed_in x e r.at free r.within) ∙ r.claim)

-- in a ring that a thread claims a claim stands
record HasClaimAmong (x : Events) (es : List ℕ) : Type 0 where
  at : ℕ
  by : ℕ
  within : StandsIn at es
  claim : claimant x at ≡ Some by

claim_at : (x : Events) (i : ℕ) (es : List ℕ) → has_claim (x.events i) ≡ true → HasClaimAmong x (i ∷ es)
claim_at x i es h = by_event (x.events i) refl h
  where
    by_claim : (v : Event) (o : Option Tid) → x.events i ≡ Some v → v.claim ≡ o → is_some o ≡ true → HasClaimAmong x (i ∷ es)
    by_claim v None here same h = absurd (true≢false (sym h))
    by_claim v (Some t) here same h = record { at = i; by = t.0; within = inl refl; claim = ap claimant_by here ∙ ap (option_map (λ (t : Tid). t.0)) same }

    by_event : (o : Option Event) → x.events i ≡ o → has_claim o ≡ true → HasClaimAmong x (i ∷ es)
    by_event None here h = absurd (true≢false (sym h))
    by_event (Some v) here h = by_claim v v.claim here refl h

claim_among : (x : Events) (es : List ℕ) → list_any (λ y. has_claim (x.events y)) es ≡ true → HasClaimAmong x es
claim_among x [] h = absurd (true≢false (sym h))
claim_among x (i ∷ es) h = by_test (has_claim (x.events i)) refl (claim_among x es) h
  where
    by_test : (b : Bool) → has_claim (x.events i) ≡ b → (list_any (λ y. has_claim (x.events y)) es ≡ true → HasClaimAmong x es) → (b || list_any (λ y. has_claim (x.events y)) es) ≡ true → HasClaimAmong x (i ∷ es)
    by_test true has more h = claim_at x i es has
    by_test false none more h = let r = more h in record { at = r.at; by = r.by; within = inr r.within; claim = r.claim }

claimed_ring : (x : Events) (e : ℕ) → is_claimed x e ≡ true → IsClaimedIn x e
claimed_ring x e h = let r = claim_among x (x.rings e) h in record { at = r.at; by = r.by; within = r.within; claim = r.claim }

-- a thread claims a ring in which a claim stands
ring_claimed : (x : Events) (e : ℕ) → IsClaimedIn x e → is_claimed x e ≡ true
ring_claimed x e r = by_test (is_claimed x e) refl
  where
    by_test : (b : Bool) → is_claimed x e ≡ b → is_claimed x e ≡ true
    by_test true h = h
    by_test false free = absurd (not_claimed x e free r)

-- ---- conditions change

-- no event has a seat more
seated_fewer : (x : Events) (z y : ConditionTable) → ((c e : ℕ) → seats_at (event_seat e) (z c) ≤ seats_at (event_seat e) (y c)) → AreEventsSeated x y → AreEventsSeated x z
seated_fewer x z y fewer r = record {
  right = λ e c. let less = fewer c e in let old = r.right e c in omega (arith, less, old);
  ring = λ e c h. let less = fewer c e in r.ring e c (omega (arith, less, h));
}

-- no event has a seat
seated_none : (x : Events) (y : ConditionTable) → ((c e : ℕ) → seats_at (event_seat e) (y c) ≤ 0) → AreEventsSeated x y
seated_none x y none = record {
  right = λ e c. let gone = none c e in omega (arith, gone);
  ring = λ e c h. let gone = none c e in absurd (omega (arith, gone, h));
}

-- ---- events change

-- whoever has a seat is of the same condition as before, and a claim stands in its ring
seated_as : (x z : Events) (y : ConditionTable) → ((e c : ℕ) → 1 ≤ seats_at (event_seat e) (y c) → (condition_in (z.events e) ≡ condition_in (x.events e)) × IsClaimedIn z e) → AreRight x y → AreEventsSeated z y
seated_as x z y same right = record { right = λ e c. by_seats e c (seats_at (event_seat e) (y c)) refl; ring = λ e c h. (same e c h).1 }
  where
    by_seats : (e c n : ℕ) → seats_at (event_seat e) (y c) ≡ n → seats_at (event_seat e) (y c) ≤ places (condition_in (z.events e)) c
    by_seats e c zero none = omega (arith, none)
    by_seats e c (suc n) some =
        let old = right e c in
        let place = ap (λ o. places o c) (same e c (omega (arith, some))).0 in
        omega (arith, old, place)

-- a change of an event that does not change of what it is
mapped_condition : (f : Event → Event) → ((v : Event) → (f v).spec ≡ v.spec) → (o : Option Event) → condition_in (option_map f o) ≡ condition_in o
mapped_condition f same None = refl
mapped_condition f same (Some v) = ap condition_of (same v)

-- a claim stays where it stood, and the ring is as it was
claimed_as : (x z : Events) (e : ℕ) → z.rings e ≡ x.rings e → ((g : ℕ) → claimant z g ≡ claimant x g) → IsClaimedIn x e → IsClaimedIn z e
claimed_as x z e ring same r = record { at = r.at; by = r.by; within = subst (StandsIn r.at) (sym ring) r.within; claim = same r.at ∙ r.claim }

module _ (x : Events) (c : AreCircles x) (y : ConditionTable) (r : AreEventsSeated x y) where
  -- calls on rings leave those as they are in which a claim stands
  seated_arranged : (q : Arrangement) → MayArrange x q → AreEventsSeated (arranged q x) y
  seated_arranged q may = seated_as x (arranged q x) y (λ e i h. by_event e (comes_by x c q may e) (r.ring e i h)) r.right
    where
      by_event : (e : ℕ) → Comes x (arranged q x) e → IsClaimedIn x e → (condition_in ((arranged q x).events e) ≡ condition_in (x.events e)) × IsClaimedIn (arranged q x) e
      by_event e (inl same) on = (ap condition_in same.event, claimed_as x (arranged q x) e same.ring (claims_by x c q may) on)
      by_event e (inr (inl fresh)) on = absurd (not_claimed x e fresh.free on)
      by_event e (inr (inr gone)) on = absurd (not_claimed x e gone.free on)

  -- t claims the ring of an event, and its events enter their seats: they had none
  seated_claimed : (a t now : ℕ) → is_event x a ≡ true → is_claimed x a ≡ false → let z = claimed a (tid t) now x in AreEventsSeated z (seats_changed seat_entered z (x.rings a) y)
  seated_claimed a t now there free = record { right = all_entered z (x.rings a) (c.once a) y none old.right; ring = λ e i h. by_place e i h (stands_or_not e (x.rings a)) }
    where
      z : Events
      z = claimed a (tid t) now x

      condition_same : (e : ℕ) → condition_in (z.events e) ≡ condition_in (x.events e)
      condition_same e =
          one_same condition_in (with_claim (Some (tid t))) (mapped_condition (with_claim (Some (tid t))) (λ v. refl)) a (ring_awaited a now x).events e
          ∙ each_same condition_in (awaited now) (mapped_condition (awaited now) (λ v. refl)) (x.rings a) x.events e

      still : (e : ℕ) → IsClaimedIn x e → IsClaimedIn z e
      still e on = record {
        at = on.at;
        by = on.by;
        within = on.within;
        claim = claimed_elsewhere x a t now on.at (λ same. none-some on.by (sym (unclaimed_in x a a free (c.here a there)) ∙ ap (claimant x) (sym same) ∙ on.claim)) ∙ on.claim;
      }

      old : AreEventsSeated z y
      old = seated_as x z y (λ e i h. (condition_same e, still e (r.ring e i h))) r.right

      none : (e : ℕ) → StandsIn e (x.rings a) → (i : ℕ) → seats_at (event_seat e) (y i) ≤ 0
      none e within i = by_seats (seats_at (event_seat e) (y i)) refl
        where
          by_seats : (n : ℕ) → seats_at (event_seat e) (y i) ≡ n → seats_at (event_seat e) (y i) ≤ 0
          by_seats zero none = omega (arith, none)
          by_seats (suc n) some = absurd (not_claimed x e (free_mate x c a e free within) (r.ring e i (omega (arith, some))))

      by_place : (e i : ℕ) → 1 ≤ seats_at (event_seat e) (seats_changed seat_entered z (x.rings a) y i) → StandsIn e (x.rings a) ⊎ (StandsIn e (x.rings a) → ⊥) → IsClaimedIn z e
      by_place e i h (inl within) = record { at = a; by = t; within = mates x c a e within; claim = claimed_here x a t now there }
      by_place e i h (inr out) =
          let less = entered_apart z (event_seat e) (x.rings a) (λ g k. not_same g e (λ same. out (subst (λ v. StandsIn v (x.rings a)) same k))) y i in
          old.ring e i (omega (arith, less, h))

  -- the claim at an event is given back, and the events of its ring leave their seats: no other claim stands in their ring
  seated_returned : (a : ℕ) → AreEventsSeated (with_event (with_claim None) a x) (seats_changed seat_left x (x.rings a) y)
  seated_returned a = seated_as x z w (λ e i h. (one_same condition_in (with_claim None) (mapped_condition (with_claim None) (λ v. refl)) a x.events e, by_claim e i h (left.ring e i h))) left.right
    where
      z : Events
      z = with_event (with_claim None) a x

      w : ConditionTable
      w = seats_changed seat_left x (x.rings a) y

      left : AreEventsSeated x w
      left = seated_fewer x w y (λ i e. fewer_left x (x.rings a) y i (event_seat e)) r

      by_claim : (e i : ℕ) → 1 ≤ seats_at (event_seat e) (w i) → IsClaimedIn x e → IsClaimedIn z e
      by_claim e i h on = record {
        at = on.at;
        by = on.by;
        within = on.within;
        claim = ap claimant_by (put_other x.events a (option_map (with_claim None) (x.events a)) on.at (λ same. let none = all_gone x (x.rings a) y r.right e i (mates x c e a (subst (λ v. StandsIn v (x.rings e)) same on.within)) in omega (arith, none, h))) ∙ on.claim;
      }

-- ---- states

module _ {P S H : Type 0} where
  abbrev pub AreSeated : State P S H → Type 0
  AreSeated s = AreEventsSeated s.control.events s.control.conditions

  abbrev pub AreBoth : State P S H → Type 0
  AreBoth s = FitsIn s × AreSeated s

  seated_looked : (f : P → Functions S H) (s : State P S H) → AreSeated s → AreSeated (controlled (looks f s) s)
  unfolding looks
  seated_looked f s r =
      let k = s.control in
      let es = flat_map (awaited_events k) (waiting k) in
      let x = (controlled (looks f s) s).control.events in
      seated_as k.events x k.conditions (λ e i h. (each_same condition_in (looked_at f s e) (mapped_condition (looked_at f s e) (λ v. refl)) es k.events.events e, claimed_as k.events x e refl (λ g. each_same claimant_by (looked_at f s g) (mapped_claim (looked_at f s g) (λ v. refl)) es k.events.events g) (r.ring e i h))) r.right

  seated_claims : (t : ℕ) (o : Option ℤ) (s : State P S H) → AreCircles s.control.events → ((i : ℤ) → o ≡ Some i → (is_event s.control.events (number i) ≡ true) × (is_claimed s.control.events (number i) ≡ false)) → AreSeated s → AreSeated (controlled (claims t o) s)
  unfolding claims
  seated_claims t None s c may r = r
  seated_claims t (Some i) s c may r = let passed = may i refl in seated_claimed s.control.events c s.control.conditions r (number i) t (now_of s.control) passed.0 passed.1

  seated_back : (o : Option ℤ) (s : State P S H) → AreCircles s.control.events → AreSeated s → AreSeated (controlled (gives_back o) s)
  unfolding gives_back
  seated_back None s c r = r
  seated_back (Some i) s c r = seated_returned s.control.events c s.control.conditions r (number i)

  -- no call blocks t any longer, and nobody has a seat more
  seated_stopped : (t : ℕ) (y : ConditionTable) (s : State P S H) → HasFewerSeats y s.control.conditions → AreBoth s → AreSeated (controlled (λ k. stops_waiting t (with_conditions (λ z. y) k)) s)
  unfolding stops_waiting goes_on
  seated_stopped t y s fewer r =
      seated_back (ring_held (blocked_of s.control t)) (controlled (λ k. is_blocked_by t None (with_conditions (λ z. y) k)) s) r.0.circles (seated_fewer s.control.events y s.control.conditions (λ c e. fewer c (event_seat e)) r.1)

  pub seated_kept : (f : P → Functions S H) → KeptAlong f AreBoth
  unfolding sets makes forgets vanish_all_but goes_on
  seated_kept f = record {
    handlers = record {
      shared = λ h s r. r;
      seated = λ x s keeps r. (r.0, seated_fewer s.control.events x s.control.conditions (λ c e. keeps.fewer c (event_seat e)) r.1);
      told = λ m s may r. r;
    };
    placed = λ standing entries raises trail s r. r;
    scheduled = λ x s r. r;
    timed = λ x s r. r;
    used = λ o s r. r;
    set = λ t c s safe life r. (fits.set t c s safe life r.0, r.1);
    made = λ t b v a s next r. (fits.made t b v a s next r.0, r.1);
    forgotten = λ t s gone r. (fits.forgotten t s gone r.0, r.1);
    vanished = λ t s free r. (fits.vanished t s free r.0, seated_none _ (all_seats_left s.control.conditions) (λ c e. seats_gone s.control.conditions c (event_seat e)));
    added = λ s r. r;
    bound = λ t s r. r;
    renewed = λ n s r. r;
    valued = λ a v x s there inside r. r;
    destroyed = λ n s r. r;
    arranges = λ q s may r. (fits.arranges q s may r.0, seated_arranged s.control.events r.0.circles s.control.conditions r.1 q may);
    looked = λ s r. (fits.looked s r.0, seated_looked f s r.1);
    barred = λ x s fewer all r. r;
    reached = λ t b round s free alive there waits r. (fits.reached t b round s free alive there waits r.0, r.1);
    goes = λ t g s same r. (fits.goes t g s same r.0, r.1);
    blocked = λ t c a s free here other none may r. (fits.blocked t c a s free here other none may r.0, seated_claims t (ring_given c) s r.0.circles may.ring r.1);
    waits_on = λ t a b s at names stays other plain r. (fits.waits_on t a b s at names stays other plain r.0, r.1);
    stopped = λ t x y s fewer others seats left gone r. (fits.stopped t x y s fewer others seats left gone r.0, seated_stopped t y (controlled (with_barriers (λ z. x)) s) seats.fewer r);
    takes_seat = λ t c m e s free alive there may r. (fits.takes_seat t c m e s free alive there may r.0, seated_claims t (extra_ring e) (controlled (with_conditions (seat_entered c (seat_of t))) s) r.0.circles may.ring (seated_fewer s.control.events (seat_entered c (seat_of t) s.control.conditions) s.control.conditions (λ i g. let less = entered_by c (seat_of t) (event_seat g) s.control.conditions i in omega (arith, less)) r.1));
    retakes = λ t c m e a o y s keeps gone at r. (fits.retakes t c m e a o y s keeps gone at r.0, seated_stopped t y s keeps.fewer r);
  }
    where
      fits : KeptAlong f FitsIn
      fits = fits_kept f

  pub seated_start : (f : P → Functions S H) (g : Given P) → AreBoth (start f g)
  unfolding start
  seated_start f g = (fits_start f g, seated_none _ _ (λ c e. omega arith))

  run_seated : (f : P → Functions S H) (g : Given P) (i : ℕ) → AreSeated (run f g i).state
  run_seated f g i = (run_keeps f AreBoth (seated_kept f) g (seated_start f g) i).1

  pub run_right : (f : P → Functions S H) (g : Given P) (i : ℕ) → AreRight (run f g i).state.control.events (run f g i).state.control.conditions
  run_right f g i = (run_seated f g i).right

  pub seats_of : (s : State P S H) → AreSeated s → AreEventSeatsOwned s
  seats_of s r c e h = (its_place (condition_in (x.events e)) c (omega (arith, some, place)), ring_claimed x e (r.ring e c some))
    where
      x : Events
      x = s.control.events

      some : 1 ≤ seats_at (event_seat e) (s.control.conditions c)
      some = has_some s.control.conditions c (event_seat e) h

      place : seats_at (event_seat e) (s.control.conditions c) ≤ places (condition_in (x.events e)) c
      place = r.right e c

  pub run_events : (f : P → Functions S H) (g : Given P) (i : ℕ) → AreEventSeatsOwned (run f g i).state
  run_events f g i = seats_of (run f g i).state (run_seated f g i)

  -- and the other way round
  pub seats_in : (s : State P S H) → AreEventSeatsOwned s → NoneSeatedTwice s → AreSeated s
  seats_in s all single = record {
    right = λ e c. by_seats e c (seats_at (event_seat e) (s.control.conditions c)) refl;
    ring = λ e c h. claimed_ring s.control.events e (all c e (some_has s.control.conditions c (event_seat e) h)).1;
  }
    where
      by_seats : (e c n : ℕ) → seats_at (event_seat e) (s.control.conditions c) ≡ n → seats_at (event_seat e) (s.control.conditions c) ≤ places (condition_in (s.control.events.events e)) c
      by_seats e c zero none = omega (arith, none)
      by_seats e c (suc n) some =
          let there = place_there (condition_in (s.control.events.events e)) c (all c e (some_has s.control.conditions c (event_seat e) (omega (arith, some)))).0 in
          let one = single c (event_seat e) in
          omega (arith, there, one)
