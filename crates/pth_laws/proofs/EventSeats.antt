-- What becomes of seats as those of a ring's events are entered, left or handed on.
use Rattle.std.proofs.Common.{◌≡◌, ◌≤◌, ℕ, ◌==◌, Bool, true, false, cond, ℤ, List, [], ◌∷◌, Option, Some, None, inl, inr, refl, sym, ◌∙◌, ap, subst, arith}
use Rattle.pth_base.proofs.Tables.{not_same, same_means, same_fails}
use Rattle.pth_base.specs.Chain.{StandsIn, Distinct}
use Rattle.pth_lock.specs.Objects.{object_named}
use Rattle.pth_cond.specs.declared.seats.Seat.{Seat}
use Rattle.pth_cond.specs.Seats.{is_seat}
use Rattle.pth_cond.specs.Conditions.{ConditionTable, seat_entered, seat_left, seat_handed_on}
use Rattle.pth_ring.specs.Rings.{Events}
use Rattle.pth_model.specs.EventSeats.{SeatChange, condition_in, event_seat, seat_changed, seats_changed}
use Rattle.pth_laws.proofs.Seats.{HasFewerSeats, HasLeftAt, seats_at, seats_same, seats_fewer, seats_left, left_there, seats_handed, entered_other, entered_by}

-- how many seats an event may have at a condition: one at that of which it is, and else none
abbrev is_place : Option ℤ → ℕ → Bool
is_place None c = false
is_place (Some i) c = object_named i == c

abbrev pub places : Option ℤ → ℕ → ℕ
places o c = cond (is_place o c) 1 0

module _ (x : Events) where
  -- no event has a seat more than it may have
  abbrev pub AreRight : ConditionTable → Type 0
  AreRight y = (e c : ℕ) → seats_at (event_seat e) (y c) ≤ places (condition_in (x.events e)) c

  -- the seat of one event is changed, and nobody has a seat more
  module _ (g : SeatChange) (fewer : (c : ℤ) (s : Seat) (y : ConditionTable) → HasFewerSeats (g c s y) y) where
    one_fewer : (e : ℕ) (o : Option ℤ) (y : ConditionTable) → HasFewerSeats (seat_changed g e o y) y
    one_fewer e None y = seats_same y
    one_fewer e (Some c) y = fewer c (event_seat e) y

    all_fewer : (es : List ℕ) (y : ConditionTable) → HasFewerSeats (seats_changed g x es y) y
    all_fewer [] y = seats_same y
    all_fewer (e ∷ es) y =
        let z = seat_changed g e (condition_in (x.events e)) y in
        seats_fewer (seats_changed g x es z) z y (all_fewer es z) (one_fewer e (condition_in (x.events e)) y)

  pub fewer_left : (es : List ℕ) (y : ConditionTable) → HasFewerSeats (seats_changed seat_left x es y) y
  fewer_left = all_fewer seat_left seats_left

  pub fewer_handed : (es : List ℕ) (y : ConditionTable) → HasFewerSeats (seats_changed seat_handed_on x es y) y
  fewer_handed = all_fewer seat_handed_on seats_handed

  -- ---- they are entered

  -- of whoever is none of these no seat is entered
  one_apart : (s : Seat) (e : ℕ) (o : Option ℤ) → is_seat (event_seat e) s ≡ false → (y : ConditionTable) (c : ℕ) → seats_at s (seat_changed seat_entered e o y c) ≤ seats_at s (y c)
  one_apart s e None apart y c = omega arith
  one_apart s e (Some i) apart y c = let less = entered_by i (event_seat e) s y c in let none = ap (λ (b : Bool). cond {A = ℕ} b 1 0) apart in omega (arith, less, none)

  pub entered_apart : (s : Seat) (es : List ℕ) → ((e : ℕ) → StandsIn e es → is_seat (event_seat e) s ≡ false) → (y : ConditionTable) (c : ℕ) → seats_at s (seats_changed seat_entered x es y c) ≤ seats_at s (y c)
  entered_apart s [] apart y c = omega arith
  entered_apart s (e ∷ es) apart y c =
      let o = condition_in (x.events e) in
      let one = one_apart s e o (apart e (inl refl)) y c in
      let more = entered_apart s es (λ g h. apart g (inr h)) (seat_changed seat_entered e o y) c in
      omega (arith, one, more)

  -- an event that has no seat enters its own
  one_entered : (e : ℕ) (o : Option ℤ) (y : ConditionTable) → condition_in (x.events e) ≡ o → ((c : ℕ) → seats_at (event_seat e) (y c) ≤ 0) → AreRight y → AreRight (seat_changed seat_entered e o y)
  one_entered e None y same none right g c = right g c
  one_entered e (Some i) y same none right g c = by_event (e == g) refl (object_named i == c) refl
    where
      by_event : (own : Bool) → (e == g) ≡ own → (here : Bool) → (object_named i == c) ≡ here → seats_at (event_seat g) (seat_entered i (event_seat e) y c) ≤ places (condition_in (x.events g)) c
      by_event false own here at = let less = one_apart (event_seat g) e (Some i) own y c in let old = right g c in omega (arith, less, old)
      by_event true own false at = let same_seats = ap (seats_at (event_seat g)) (entered_other i (event_seat e) y c (λ same. same_fails (object_named i) c at (sym same))) in let old = right g c in omega (arith, same_seats, old)
      by_event true own true at =
          let is_own : e ≡ g = same_means e g own in
          let less = entered_by i (event_seat e) (event_seat g) y c in
          let one = ap (λ (b : Bool). cond {A = ℕ} b 1 0) own in
          let before = subst (λ v. seats_at (event_seat v) (y c) ≤ 0) is_own (none c) in
          let place : places (condition_in (x.events g)) c ≡ 1 = ap (λ v. places (condition_in (x.events v)) c) (sym is_own) ∙ ap (λ o. places o c) same ∙ ap (λ (b : Bool). cond {A = ℕ} b 1 0) at in
          omega (arith, less, one, before, place)

  pub all_entered : (es : List ℕ) → Distinct es → (y : ConditionTable) → ((e : ℕ) → StandsIn e es → (c : ℕ) → seats_at (event_seat e) (y c) ≤ 0) → AreRight y → AreRight (seats_changed seat_entered x es y)
  all_entered [] once y none right = right
  all_entered (e ∷ es) once y none right =
      let o = condition_in (x.events e) in
      all_entered es once.1 (seat_changed seat_entered e o y)
      (λ g h c. let less = one_apart (event_seat g) e o (not_same e g (λ same. once.0 g h (sym same))) y c in let before = none g (inr h) c in omega (arith, less, before))
      (one_entered e o y refl (none e (inl refl)) right)

  -- ---- they are left

  right_fewer : (z y : ConditionTable) → HasFewerSeats z y → AreRight y → AreRight z
  right_fewer z y fewer right e c = let less = fewer c (event_seat e) in let old = right e c in omega (arith, less, old)

  one_gone : (e c : ℕ) (o : Option ℤ) (y : ConditionTable) → condition_in (x.events e) ≡ o → AreRight y → seats_at (event_seat e) (seat_changed seat_left e o y c) ≤ 0
  one_gone e c None y same right = let old = right e c in let place = ap (λ o. places o c) same in omega (arith, old, place)
  one_gone e c (Some i) y same right = by_place (object_named i == c) refl (ap (λ o. places o c) same)
    where
      by_place : (here : Bool) → (object_named i == c) ≡ here → places (condition_in (x.events e)) c ≡ cond here 1 0 → seats_at (event_seat e) (seat_left i (event_seat e) y c) ≤ 0
      by_place false at place = let old = right e c in let less = seats_left i (event_seat e) y c (event_seat e) in omega (arith, old, place, less)
      by_place true at place =
          let old = right e c in
          let left = subst (λ k. HasLeftAt (event_seat e) k (seat_left i (event_seat e) y) y) (same_means (object_named i) c at) (left_there i (event_seat e) y) in
          omega (arith, old, place, left)

  pub all_gone : (es : List ℕ) (y : ConditionTable) → AreRight y → (e c : ℕ) → StandsIn e es → seats_at (event_seat e) (seats_changed seat_left x es y c) ≤ 0
  all_gone [] y right e c h = absurd h
  all_gone (g ∷ es) y right e c (inl same) =
      let o = condition_in (x.events e) in
      let gone = one_gone e c o y refl right in
      let less = fewer_left es (seat_changed seat_left e o y) c (event_seat e) in
      subst (λ v. seats_at (event_seat e) (seats_changed seat_left x (v ∷ es) y c) ≤ 0) same (omega (arith, gone, less))
  all_gone (g ∷ es) y right e c (inr h) =
      let o = condition_in (x.events g) in
      let z = seat_changed seat_left g o y in
      all_gone es z (right_fewer z y (one_fewer seat_left seats_left g o y) right) e c h
