-- Which changes of conditions leave threads their seats.
use Rattle.std.proofs.Common.{◌≡◌, ◌≢◌, ◌≤◌, ℕ, ◌+◌, ◌||◌, Bool, true, false, cond, if◌then◌else◌, ℤ, List, [], ◌∷◌, Option, Some, None, is_some, option_map, refl, sym, ◌∙◌, ap, arith}
use Rattle.std.specs.List.{list_any}
use Rattle.std.proofs.lemmas.List.Sums.{sum_by_push}
use Rattle.std.proofs.lemmas.Bool.{true≢false}
use Rattle.pth_base.proofs.Tables.{put_by, put_here, not_same, same_means}
use Rattle.pth_lock.specs.Objects.{object_named}
use Rattle.pth_cond.specs.declared.seats.Seat.{Seat}
use Rattle.pth_cond.specs.declared.seats.Seat.TheVariants.{Await, Event}
use Rattle.pth_cond.specs.declared.seats.SeatMark.TheVariants.{Unmarked}
use Rattle.pth_cond.specs.declared.seats.Taken.{Taken}
use Rattle.pth_cond.specs.Seats.{is_seat, is_at, is_one_at, mark_at, with_seat, without_seat, one_notified, notified, handed_on}
use Rattle.pth_cond.specs.Conditions.{Condition, ConditionTable, is_initialised, has_seat_here, has_seat, with_seats, cond_initialised, seat_entered, seat_left, seat_handed_on, cond_notified}
use Rattle.pth_ring.specs.Rings.{Events}
use Rattle.pth_model.specs.Conditions.{seat_of}
use Rattle.pth_model.specs.EventSeats.{SeatChange, condition_in, event_seat, seat_changed, seats_changed}
use Rattle.pth_laws.proofs.Seats.{HasFewerSeats, taken, taken_cons, one_same, notified_same, seats_at, seats_same, seats_fewer, seats_notified, seats_initialised, seats_left, seats_handed}
use Rattle.pth_laws.proofs.EventSeats.{fewer_handed}

-- nobody has a seat more, and no thread loses one
pub record KeepsSeats (x y : ConditionTable) : Type 0 where
  pub fewer : HasFewerSeats x y
  pub all : (c u : ℕ) → seats_at (seat_of u) (y c) ≤ seats_at (seat_of u) (x c)

-- and none but t does
pub record KeepsOtherSeats (t : ℕ) (x y : ConditionTable) : Type 0 where
  pub fewer : HasFewerSeats x y
  pub others : (c u : ℕ) → u ≢ t → seats_at (seat_of u) (y c) ≤ seats_at (seat_of u) (x c)

-- ---- seats that are another's

-- what is a seat is not another one
other_seat : (w s u : Seat) → is_seat s u ≡ false → is_seat w s ≡ true → is_seat w u ≡ false
other_seat (Await a) (Await b) (Await c) apart same = ap (λ n. is_seat (Await (record { 0 = n })) (Await c)) (same_means a.0 b.0 same) ∙ apart
other_seat (Await a) (Await b) (Event c) apart same = refl
other_seat (Await a) (Event b) u apart same = absurd (true≢false (sym same))
other_seat (Event a) (Await b) u apart same = absurd (true≢false (sym same))
other_seat (Event a) (Event b) (Await c) apart same = refl
other_seat (Event a) (Event b) (Event c) apart same = ap (λ n. is_seat (Event (record { 0 = n })) (Event c)) (same_means a.0 b.0 same) ∙ apart

module _ (s u : Seat) (apart : is_seat s u ≡ false) where
  without_other : (ts : List Taken) → taken u (without_seat s ts) ≡ taken u ts
  without_other [] = refl
  without_other (t ∷ ts) = by_test (is_at s t) refl (without_other ts)
    where
      by_test : (b : Bool) → is_at s t ≡ b → taken u (without_seat s ts) ≡ taken u ts → taken u (if b then ts else t ∷ without_seat s ts) ≡ taken u (t ∷ ts)
      by_test true own more =
          let same = taken_cons u t ts ∙ ap (λ (b : Bool). cond b 1 0 + taken u ts) (other_seat t.seat s u apart own) in
          omega (arith, same)
      by_test false own more =
          let same = taken_cons u t ts in
          let left = taken_cons u t (without_seat s ts) in
          omega (arith, same, left, more)

  handed_other : (ts : List Taken) → taken u (handed_on s ts) ≡ taken u ts
  handed_other ts = by_test (is_one_at (mark_at s ts))
    where
      by_test : (b : Bool) → taken u (if b then one_notified (without_seat s ts) else without_seat s ts) ≡ taken u ts
      by_test true = one_same u (without_seat s ts) ∙ without_other ts
      by_test false = without_other ts

-- ---- tables

seats_with : (u : Seat) (k : ℕ) (change : List Taken → List Taken) (x : ConditionTable) → ((ts : List Taken) → taken u (change ts) ≡ taken u ts) → (c : ℕ) → seats_at u (with_seats k change x c) ≡ seats_at u (x c)
seats_with u k change x same c = put_by (λ y. seats_at u y ≡ seats_at u (x c)) x k (option_map change (x k)) c (λ here. by_condition (x k) ∙ ap (λ i. seats_at u (x i)) (sym here)) (λ other. refl)
  where
    by_condition : (y : Condition) → seats_at u (option_map change y) ≡ seats_at u y
    by_condition None = refl
    by_condition (Some ts) = same ts

left_other : (c : ℤ) (s u : Seat) (x : ConditionTable) → is_seat s u ≡ false → (k : ℕ) → seats_at u (seat_left c s x k) ≡ seats_at u (x k)
left_other c s u x apart = seats_with u (object_named c) (without_seat s) x (without_other s u apart)

handed_on_other : (c : ℤ) (s u : Seat) (x : ConditionTable) → is_seat s u ≡ false → (k : ℕ) → seats_at u (seat_handed_on c s x k) ≡ seats_at u (x k)
handed_on_other c s u x apart = seats_with u (object_named c) (handed_on s) x (handed_other s u apart)

-- one that enters takes none from anybody
pub entered_more : (c : ℤ) (s u : Seat) (x : ConditionTable) (k : ℕ) → seats_at u (x k) ≤ seats_at u (seat_entered c s x k)
entered_more c s u x k = put_by (λ y. seats_at u (x k) ≤ seats_at u y) x (object_named c) (option_map (with_seat s) (x (object_named c))) k (λ here. rw here (by_condition (x (object_named c)))) (λ other. omega arith)
  where
    by_condition : (y : Condition) → seats_at u y ≤ seats_at u (option_map (with_seat s) y)
    by_condition None = omega arith
    by_condition (Some ts) = let same = sum_by_push (λ t. cond (is_at u t) 1 0) ts (record { seat = s; mark = Unmarked }) in omega (arith, same)

-- and has it, where the condition is initialised
pub entered_here : (c : ℤ) (s : Seat) (x : ConditionTable) → is_seat s s ≡ true → is_initialised x c ≡ true → 1 ≤ seats_at s (seat_entered c s x (object_named c))
entered_here c s x own live = let same = ap (seats_at s) (put_here x (object_named c) (option_map (with_seat s) (x (object_named c)))) in let there = by_condition (x (object_named c)) live in omega (arith, same, there)
  where
    by_condition : (y : Condition) → is_some y ≡ true → 1 ≤ seats_at s (option_map (with_seat s) y)
    by_condition None h = absurd (true≢false (sym h))
    by_condition (Some ts) h =
        let same = sum_by_push (λ t. cond (is_at s t) 1 0) ts (record { seat = s; mark = Unmarked }) in
        let one = ap (λ (b : Bool). cond {A = ℕ} b 1 0) own in
        omega (arith, same, one)

-- who has a seat is found there
pub some_has : (x : ConditionTable) (c : ℕ) (s : Seat) → 1 ≤ seats_at s (x c) → has_seat x c s ≡ true
some_has x c s h = by_condition (x c) h
  where
    by_seats : (ts : List Taken) → 1 ≤ taken s ts → list_any (is_at s) ts ≡ true
    by_seats [] h = absurd (omega (arith, h))
    by_seats (t ∷ ts) h = by_test (is_at s t) (taken_cons s t ts) (by_seats ts) h
      where
        by_test : (b : Bool) → taken s (t ∷ ts) ≡ cond b 1 0 + taken s ts → (1 ≤ taken s ts → list_any (is_at s) ts ≡ true) → 1 ≤ taken s (t ∷ ts) → (b || list_any (is_at s) ts) ≡ true
        by_test true same more h = refl
        by_test false same more h = more (omega (arith, same, h))

    by_condition : (y : Condition) → 1 ≤ seats_at s y → has_seat_here s y ≡ true
    by_condition None h = absurd (omega (arith, h))
    by_condition (Some ts) h = by_seats ts h

-- ---- the seats of a ring's events

module _ (x : Events) where
  -- a change of an event's seat leaves threads theirs
  module _ (g : SeatChange) (same : (c : ℤ) (s u : Seat) (y : ConditionTable) → is_seat s u ≡ false → (k : ℕ) → seats_at u (y k) ≤ seats_at u (g c s y k)) where
    one_keeps : (e u : ℕ) (o : Option ℤ) (y : ConditionTable) (k : ℕ) → seats_at (seat_of u) (y k) ≤ seats_at (seat_of u) (seat_changed g e o y k)
    one_keeps e u None y k = omega arith
    one_keeps e u (Some c) y k = same c (event_seat e) (seat_of u) y refl k

    all_keep : (es : List ℕ) (y : ConditionTable) (k u : ℕ) → seats_at (seat_of u) (y k) ≤ seats_at (seat_of u) (seats_changed g x es y k)
    all_keep [] y k u = omega arith
    all_keep (e ∷ es) y k u =
        let z = seat_changed g e (condition_in (x.events e)) y in
        let one = one_keeps e u (condition_in (x.events e)) y k in
        let more = all_keep es z k u in
        omega (arith, one, more)

  pub threads_entered : (es : List ℕ) (y : ConditionTable) (k u : ℕ) → seats_at (seat_of u) (y k) ≤ seats_at (seat_of u) (seats_changed seat_entered x es y k)
  threads_entered = all_keep seat_entered (λ c s u y apart k. entered_more c s u y k)

  pub threads_left : (es : List ℕ) (y : ConditionTable) (k u : ℕ) → seats_at (seat_of u) (y k) ≤ seats_at (seat_of u) (seats_changed seat_left x es y k)
  threads_left = all_keep seat_left (λ c s u y apart k. let same = left_other c s u y apart k in omega (arith, same))

  pub keeps_handed : (es : List ℕ) (y : ConditionTable) → KeepsSeats (seats_changed seat_handed_on x es y) y
  keeps_handed es y = record {
    fewer = fewer_handed x es y;
    all = all_keep seat_handed_on (λ c s u z apart k. let same = handed_on_other c s u z apart k in omega (arith, same)) es y;
  }

-- ---- one change

pub keeps_notified : (c : ℤ) (all : Bool) (x : ConditionTable) → KeepsSeats (cond_notified c all x) x
keeps_notified c all x = record {
  fewer = seats_notified c all x;
  all = λ k u. let same = seats_with (seat_of u) (object_named c) (notified all) x (notified_same (seat_of u) all) k in omega (arith, same);
}

-- at a condition that was not initialised nobody had a seat
pub keeps_initialised : (c : ℤ) (x : ConditionTable) → is_initialised x c ≡ false → KeepsSeats (cond_initialised c x) x
keeps_initialised c x free = record {
  fewer = seats_initialised c x;
  all = λ k u. put_by (λ y. seats_at (seat_of u) (x k) ≤ seats_at (seat_of u) y) x (object_named c) (Some []) k (λ here. rw here (by_condition (seat_of u) (x (object_named c)) free)) (λ other. omega arith);
}
  where
    by_condition : (u : Seat) (y : Condition) → is_some y ≡ false → seats_at u y ≤ 0
    by_condition u None h = omega arith
    by_condition u (Some ts) h = absurd (true≢false h)

pub keeps_same : (t : ℕ) (x : ConditionTable) → KeepsOtherSeats t x x
keeps_same t x = record { fewer = seats_same x; others = λ c u apart. omega arith }

pub keeps_then : (t : ℕ) (x y z : ConditionTable) → KeepsSeats x y → KeepsOtherSeats t y z → KeepsOtherSeats t x z
keeps_then t x y z one two = record {
  fewer = seats_fewer x y z one.fewer two.fewer;
  others = λ c u apart. let less = two.others c u apart in let more = one.all c u in omega (arith, less, more);
}

-- t leaves its seat, or hands it on
pub keeps_left : (c : ℤ) (t : ℕ) (x : ConditionTable) → KeepsOtherSeats t (seat_left c (seat_of t) x) x
keeps_left c t x = record {
  fewer = seats_left c (seat_of t) x;
  others = λ k u apart. let same = left_other c (seat_of t) (seat_of u) x (not_same t u (λ here. apart (sym here))) k in omega (arith, same);
}

pub keeps_handed_on : (c : ℤ) (t : ℕ) (x : ConditionTable) → KeepsOtherSeats t (seat_handed_on c (seat_of t) x) x
keeps_handed_on c t x = record {
  fewer = seats_handed c (seat_of t) x;
  others = λ k u apart. let same = handed_on_other c (seat_of t) (seat_of u) x (not_same t u (λ here. apart (sym here))) k in omega (arith, same);
}
