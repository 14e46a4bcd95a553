-- The seats of the events of a ring, as it is walked.
use Rattle.std.specs.List.{list_any}
use Rattle.std.proofs.Common.{◌≡◌, ◌≢◌, ◌==◌, ◌||◌, Bool, true, false, ℕ, ℤ, List, [], ◌∷◌, Option, Some, None, Err, option_map, if◌then◌else◌, refl, sym, ◌∙◌, ap, subst, inl}
use Rattle.pth_base.specs.Chain.{StandsIn}
use Rattle.pth_base.specs.declared.errno.Errno.{Errno}
use Rattle.pth_base.specs.declared.refusal.Refusal.TheVariants.{Fail}
use Rattle.pth_base.proofs.Lists.{put_none}
use Rattle.pth_base.proofs.Tables.{same_self, not_same}
use Rattle.pth_lock.specs.Objects.{object_named}
use Rattle.pth_store.specs.Storing.{AnswersWithMemory}
use Rattle.pth_ring.specs.Ring.{from, Begins, RingGoesOn}
use Rattle.pth_ring.specs.Arena.{RingsOf, events_of}
use Rattle.pth_ring.specs.Rings.{Events, event_id, with_claim, with_event}
use Rattle.pth_ring.specs.declared.event.Event.{Event}
use Rattle.pth_base.specs.declared.event.EventSpec.{EventSpec}
use Rattle.pth_cond.specs.declared.seats.Seat.{Seat}
use Rattle.pth_cond.specs.declared.seats.Taken.{Taken}
use Rattle.pth_cond.specs.Seats.{is_at, mark_at, with_seat, without_seat, handed_on}
use Rattle.pth_cond.specs.Conditions.{Condition, ConditionTable, NoEventIsSeated, cond_enter_answer, conditions_of, has_seat, has_seat_here, live_answer, no_conditions, seat_entered, seat_handed_on, seat_left, with_seats}
use Rattle.pth_numbered.specs.Operands.{number}
use Rattle.pth_model.specs.EventSeats.{SeatChange, condition_of, condition_in, event_seat, seat_changed, seats_changed}
use Rattle.pth_model.specs.RingWaits.{gives_back, ring_seats}
use Rattle.pth_model.specs.State.{Control}
use Rattle.pth_world.proofs.Conditions.{seated_shows}
use Rattle.pth_world.proofs.Events.{kept_shows}
use Rattle.pth_world.specs.Shows.{Shows}
use Rattle.pth_world.specs.World.{WorldOf}

-- no seat is entered at a condition that is not initialised
pub entered_nowhere : (x : ConditionTable) (c : ℤ) (s : Seat) (errno : Errno) → AnswersWithMemory (cond_enter_answer x c) (Err (Fail errno)) → seat_entered c s x ≡ x
entered_nowhere x c s errno answer = by_condition (x (object_named c)) refl answer
  where
    by_condition : (y : Condition) → x (object_named c) ≡ y → AnswersWithMemory (live_answer y) (Err (Fail errno)) → seat_entered c s x ≡ x
    by_condition None none answer = put_none x (object_named c) (option_map (with_seat s) (x (object_named c))) (none ∙ sym (ap (option_map (with_seat s)) none))
    by_condition (Some ts) some answer = absurd (cc answer)

-- what an event is of, as it is read
condition_is : (o : Option Event) (spec : EventSpec) → option_map (λ (v : Event). v.spec) o ≡ Some spec → condition_of spec ≡ condition_in o
condition_is None spec is = absurd (cc is)
condition_is (Some v) spec is = let e : spec ≡ v.spec = cc is in ap condition_of e

module _ (g : SeatChange) (x : Events) (e : ℕ) (old : ConditionTable) where
  abbrev ring : List ℕ
  ring = x.rings e

  -- the seats of the events up to n are changed: those from n on are left to change
  pub record ChangedUpTo (n : ℕ) (y : ConditionTable) : Type 0 where
    pub within : StandsIn n ring
    pub left : seats_changed g x (from n ring) y ≡ seats_changed g x ring old

  from_first : (xs : List ℕ) → Begins xs e → from e xs ≡ xs
  from_first xs begins = rw begins (rw (same_self e) refl)

  pub none_changed : Begins ring e → ChangedUpTo e old
  none_changed begins = record {
    within = subst (λ (l : List ℕ). StandsIn e l) (sym begins) (inl refl);
    left = ap (λ (l : List ℕ). seats_changed g x l old) (from_first ring begins);
  }

  module _ (n m : ℕ) (y : ConditionTable) (so_far : ChangedUpTo n y) (goes : RingGoesOn ring e n m) where
    abbrev next : ConditionTable
    next = seat_changed g n (condition_in (x.events n)) y

    pub read_next : (id : ℕ) (spec : EventSpec) → id ≡ n → option_map (λ (v : Event). v.spec) (x.events n) ≡ Some spec → seat_changed g id (condition_of spec) y ≡ next
    read_next id spec same is = rw (same, condition_is (x.events n) spec is) refl

    left_after : seats_changed g x (if m == e then [] else from m ring) next ≡ seats_changed g x ring old
    left_after = sym (ap (λ (l : List ℕ). seats_changed g x l y) goes.rest) ∙ so_far.left

    pub one_more_changed : m ≢ e → ChangedUpTo m next
    one_more_changed more = record { within = goes.within; left = subst (λ b. seats_changed g x (if b then [] else from m ring) next ≡ seats_changed g x ring old) (not_same m e more) left_after }

    pub all_changed : m ≡ e → next ≡ seats_changed g x ring old
    all_changed last = subst (λ b. seats_changed g x (if b then [] else from m ring) next ≡ seats_changed g x ring old) (ap (λ i. i == e) last ∙ same_self e) left_after

-- ---- nothing changes

-- no condition is initialised, so no seat is entered
entered_none : (c : ℤ) (s : Seat) → seat_entered c s no_conditions ≡ no_conditions
entered_none c s = put_none no_conditions (object_named c) None refl

pub none_entered : (x : Events) (es : List ℕ) → seats_changed seat_entered x es no_conditions ≡ no_conditions
none_entered x [] = refl
none_entered x (e ∷ es) = ap (seats_changed seat_entered x es) (by_event (condition_in (x.events e))) ∙ none_entered x es
  where
    by_event : (o : Option ℤ) → seat_changed seat_entered e o no_conditions ≡ no_conditions
    by_event None = refl
    by_event (Some c) = entered_none c (event_seat e)

-- a seat that nobody has is not left
neither : (a b : Bool) → (a || b) ≡ false → (a ≡ false) × (b ≡ false)
neither true b h = absurd (cc h)
neither false b h = (refl, h)

not_there : (s : Seat) (ts : List Taken) → list_any (is_at s) ts ≡ false → (without_seat s ts ≡ ts) × (mark_at s ts ≡ None)
not_there s [] none = (refl, refl)
not_there s (t ∷ ts) none =
    let h = neither (is_at s t) (list_any (is_at s) ts) none in
    let rest = not_there s ts h.1 in
    (rw (h.0, rest.0), rw (h.0, rest.1))

not_handed_on : (s : Seat) (ts : List Taken) → list_any (is_at s) ts ≡ false → handed_on s ts ≡ ts
not_handed_on s ts none = let h = not_there s ts none in rw (h.1, h.0)

module _ (s : Seat) (c : ℤ) (x : ConditionTable) (none : has_seat x (object_named c) s ≡ false) where
  unchanged : (change : List Taken → List Taken) → ((ts : List Taken) → list_any (is_at s) ts ≡ false → change ts ≡ ts) → with_seats (object_named c) change x ≡ x
  unchanged change same = put_none x (object_named c) (option_map change (x (object_named c))) (by_condition (x (object_named c)) none)
    where
      by_condition : (y : Condition) → has_seat_here s y ≡ false → y ≡ option_map change y
      by_condition None none = refl
      by_condition (Some ts) none = ap Some (sym (same ts none))

  not_left : (hands_on : Bool) → (if hands_on then seat_handed_on else seat_left) c s x ≡ x
  not_left true = unchanged (handed_on s) (not_handed_on s)
  not_left false = unchanged (without_seat s) (λ ts none. (not_there s ts none).0)

pub none_left : (hands_on : Bool) (x : Events) (es : List ℕ) (y : ConditionTable) → NoEventIsSeated y → seats_changed (if hands_on then seat_handed_on else seat_left) x es y ≡ y
none_left hands_on x [] y none = refl
none_left hands_on x (e ∷ es) y none = ap (seats_changed (if hands_on then seat_handed_on else seat_left) x es) (by_event (condition_in (x.events e))) ∙ none_left hands_on x es y none
  where
    by_event : (o : Option ℤ) → seat_changed (if hands_on then seat_handed_on else seat_left) e o y ≡ y
    by_event None = refl
    by_event (Some c) = not_left (event_seat e) c y (none (object_named c) (event_id e)) hands_on

-- ---- what a world shows then

module _ {P S H : Type 0} (w : WorldOf P S H) (k : Control P S H) (sh : Shows w k) where
  -- the events of a ring changed their seats
  pub ring_shows : (g : SeatChange) (e : ℤ) (c : List Condition) → conditions_of c ≡ seats_changed g (events_of w.events) ((events_of w.events).rings (number e)) (conditions_of w.conditions) → Shows (record w { conditions = c }) (ring_seats g (Some e) k)
  ring_shows g e c is = seated_shows w c (seats_changed g k.events (k.events.rings (number e))) k sh (is ∙ ap (λ (x : Events). seats_changed g x (x.rings (number e)) (conditions_of w.conditions)) (sym sh.events))

  -- they left their seats, and the claim is given back
  pub returned_shows : (e : ℤ) (c : List Condition) (x : RingsOf) → conditions_of c ≡ seats_changed seat_left (events_of w.events) ((events_of w.events).rings (number e)) (conditions_of w.conditions) → events_of x ≡ with_event (with_claim None) (number e) (events_of w.events) → Shows (record w { conditions = c; events = x }) (gives_back (Some e) k)
  unfolding gives_back
  returned_shows e c x left returned = kept_shows (record w { conditions = c }) x (with_event (with_claim None) (number e)) (ring_seats seat_left (Some e) k) (ring_shows seat_left e c left) returned
