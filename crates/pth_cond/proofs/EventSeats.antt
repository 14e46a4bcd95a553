-- How many seats events have before and after a call.
use Rattle.std.proofs.Common.{◌≡◌, ℕ, suc, ◌+◌, ◌-◌, ◌*◌, ◌<◌, ◌≤◌, Bool, true, false, if◌then◌else◌, List, [], ◌∷◌, ◌++◌, length, get_or, set, map, take, drop, Some, None, refl, sym, ◌∙◌, ap, inl, inr, append-nil, arith}
use Rattle.std.specs.List.{list_any}
use Rattle.std.proofs.lemmas.List.{get_or_past, take_all, drop_all}
use Rattle.std.proofs.lemmas.List.Sums.{sum_by-cons, sum_by_push, sum_by-set, get_or-le-sum_by, count_by-le-length}
use Rattle.std.proofs.lemmas.Bool.{cases_lt}
use Rattle.pth_base.specs.declared.ids.EventId.{EventId}
use Rattle.pth_cond.specs.declared.seats.Seat.{Seat}
use Rattle.pth_cond.specs.declared.seats.Seat.TheVariants.{Await, Event}
use Rattle.pth_cond.specs.declared.seats.SeatMark.TheVariants.{Unmarked, One}
use Rattle.pth_cond.specs.declared.seats.Taken.{Taken}
use Rattle.pth_cond.specs.Seats.{is_seat, is_at, is_event, is_one_at, has_mark, event_seats, event_seats_gone, mark_at, with_seat, without_seat, one_notified, all_notified, notified, handed_on}
use Rattle.pth_cond.specs.Conditions.{Condition, conditions_of, has_seat_here, HasFewEvents, NoEventIsSeated, event_seats_here, all_event_seats, all_left}
use Rattle.pth_cond.proofs.Seating.{cases, marked_all, one_more, one_here}

-- ---- one condition

events_cons : (t : Taken) (ts : List Taken) → event_seats (t ∷ ts) ≡ (if is_event t.seat then 1 else 0) + event_seats ts
events_cons t ts = sum_by-cons (λ x. if is_event x.seat then 1 else 0) t ts

-- a seat is entered
pub events_entered : (s : Seat) (ts : List Taken) → event_seats (with_seat s ts) ≡ event_seats ts + (if is_event s then 1 else 0)
events_entered s ts = sum_by_push (λ x. if is_event x.seat then 1 else 0) ts (record { seat = s; mark = Unmarked })

-- no more than seats
pub events_within : (ts : List Taken) → event_seats ts ≤ length ts
events_within ts = count_by-le-length (λ t. is_event t.seat) ts

-- a seat is left
same_kind : (s u : Seat) → is_seat s u ≡ true → is_event s ≡ is_event u
same_kind (Await t) (Await u) same = refl
same_kind (Await t) (Event e) same = absurd (cc same)
same_kind (Event e) (Await t) same = absurd (cc same)
same_kind (Event e) (Event f) same = refl

module _ (s : Seat) where
  gone_here : (t : Taken) (ts : List Taken) → is_at s t ≡ true → event_seats (without_seat s (t ∷ ts)) + event_seats_gone s (mark_at s (t ∷ ts)) ≡ event_seats (t ∷ ts)
  gone_here t ts e =
      let left : without_seat s (t ∷ ts) ≡ ts = rw e in
      let mark : mark_at s (t ∷ ts) ≡ Some t.mark = rw e in
      let kind = same_kind t.seat s e in
      rw (left, mark, ← kind) (omega (arith, events_cons t ts))

  gone_behind : (t : Taken) (ts : List Taken) → is_at s t ≡ false → event_seats (without_seat s ts) + event_seats_gone s (mark_at s ts) ≡ event_seats ts → event_seats (without_seat s (t ∷ ts)) + event_seats_gone s (mark_at s (t ∷ ts)) ≡ event_seats (t ∷ ts)
  gone_behind t ts e rest =
      let left : without_seat s (t ∷ ts) ≡ t ∷ without_seat s ts = rw e in
      let mark : mark_at s (t ∷ ts) ≡ mark_at s ts = rw e in
      rw (left, mark) (omega (arith, events_cons t ts, events_cons t (without_seat s ts)))

  pub events_left : (ts : List Taken) → event_seats (without_seat s ts) + event_seats_gone s (mark_at s ts) ≡ event_seats ts
  events_left [] = refl
  events_left (t ∷ ts) = cases (is_at s t) (gone_here t ts) (λ e. gone_behind t ts e (events_left ts))

pub left_lessens : (s : Seat) (ts : List Taken) → event_seats (without_seat s ts) ≤ event_seats ts
left_lessens s ts = omega (arith, events_left s ts)

-- some are notified
events_same : (t u : Taken) (ts us : List Taken) → u.seat ≡ t.seat → event_seats us ≡ event_seats ts → event_seats (u ∷ us) ≡ event_seats (t ∷ ts)
events_same t u ts us same rest = events_cons u us ∙ rw (same, rest) (sym (events_cons t ts))

events_one : (ts : List Taken) → event_seats (one_notified ts) ≡ event_seats ts
events_one [] = refl
events_one (t ∷ ts) = cases (has_mark t)
    (λ e. ap event_seats (one_more t ts e) ∙ events_same t t ts (one_notified ts) refl (events_one ts))
    (λ e. ap event_seats (one_here t ts e) ∙ events_same t (record t { mark = One }) ts ts refl refl)

same_seat : (t : Taken) → (marked_all t).seat ≡ t.seat
same_seat t = cases (has_mark t) (λ e. rw e) (λ e. rw e)

events_all : (ts : List Taken) → event_seats (all_notified ts) ≡ event_seats ts
events_all [] = refl
events_all (t ∷ ts) = events_same t (marked_all t) ts (all_notified ts) (same_seat t) (events_all ts)

pub events_notified : (all : Bool) (ts : List Taken) → event_seats (notified all ts) ≡ event_seats ts
events_notified true ts = events_all ts
events_notified false ts = events_one ts

pub notified_lessens : (all : Bool) (ts : List Taken) → event_seats (notified all ts) ≤ event_seats ts
notified_lessens all ts = omega (arith, events_notified all ts)

-- a seat is handed on
pub events_handed_on : (s : Seat) (ts : List Taken) → event_seats (handed_on s ts) + event_seats_gone s (mark_at s ts) ≡ event_seats ts
events_handed_on s ts =
    let left = events_left s ts in
    let same : event_seats (handed_on s ts) ≡ event_seats (without_seat s ts) = cases (is_one_at (mark_at s ts)) (λ e. rw e (events_one (without_seat s ts))) (λ e. rw e) in
    omega arith

pub handed_on_lessens : (s : Seat) (ts : List Taken) → event_seats (handed_on s ts) ≤ event_seats ts
handed_on_lessens s ts = omega (arith, events_handed_on s ts)

-- ---- all conditions

-- if each has few, so have all
pub total_few : (xs : List Condition) → ((c : ℕ) → HasFewEvents (conditions_of xs c)) → all_event_seats xs ≤ length xs * 18446744073709551616
total_few [] few = omega arith
total_few (x ∷ xs) few =
    let here : event_seats_here x < 18446744073709551616 = few 0 in
    let rest = total_few xs (λ c. few (suc c)) in
    omega (arith, sum_by-cons event_seats_here x xs, here, rest)

module _ (xs : List Condition) (k : ℕ) (low : k < length xs) (d : Condition) where
  -- the seats of a condition are others
  pub total_changed : (ts us : List Taken) → get_or xs k d ≡ Some ts → all_event_seats (set xs k (Some us)) + event_seats ts ≡ all_event_seats xs + event_seats us
  total_changed ts us was = let set = sum_by-set event_seats_here xs k (Some us) d low in rw was at set

  -- a seat is entered
  pub total_entered : (ts us : List Taken) (more n m : ℕ) → get_or xs k d ≡ Some ts → event_seats us ≡ event_seats ts + more → n ≡ all_event_seats xs → m ≡ n + more → m ≡ all_event_seats (set xs k (Some us))
  total_entered ts us more n m was entered count sum = let changed = total_changed ts us was in omega arith

  -- events have as many seats as before
  pub total_kept : (ts us : List Taken) → get_or xs k d ≡ Some ts → event_seats us ≡ event_seats ts → all_event_seats (set xs k (Some us)) ≡ all_event_seats xs
  total_kept ts us was same = let changed = total_changed ts us was in omega arith

  -- so many seats of events are gone
  pub total_left : (ts us : List Taken) (gone n : ℕ) → get_or xs k d ≡ Some ts → event_seats us + gone ≡ event_seats ts → n ≡ all_event_seats xs → n - gone ≡ all_event_seats (set xs k (Some us))
  total_left ts us gone n was left count = let changed = total_changed ts us was in omega arith

  -- and so many there were
  pub some_left : (ts us : List Taken) (gone n : ℕ) → get_or xs k d ≡ Some ts → event_seats us + gone ≡ event_seats ts → n ≡ all_event_seats xs → gone ≤ n
  some_left ts us gone n was left count = let changed = total_changed ts us was in omega arith

  -- what stands there is written back
  pub total_same : all_event_seats (set xs k (get_or xs k d)) ≡ all_event_seats xs
  total_same = let set = sum_by-set event_seats_here xs k (get_or xs k d) d low in omega arith

-- all seats are left
none_here : (y : Condition) → event_seats_here (all_left y) ≡ 0
none_here (Some ts) = refl
none_here None = refl

total_none : (xs : List Condition) → all_event_seats (map all_left xs) ≡ 0
total_none [] = refl
total_none (x ∷ xs) = let none = none_here x in let rest = total_none xs in sum_by-cons event_seats_here (all_left x) (map all_left xs) ∙ omega arith

pub total_end : (xs ys : List Condition) (i : ℕ) → length xs ≤ i → ys ≡ map all_left (take i xs) ++ drop i xs → all_event_seats ys ≡ 0
total_end xs ys i end now =
    let all : ys ≡ map all_left xs = now ∙ rw (take_all, drop_all) (append-nil (map all_left xs)) in
    ap all_event_seats all ∙ total_none xs

-- ---- no event has a seat

not_seated : (e : EventId) (t : Taken) → is_event t.seat ≡ false → is_at (Event e) t ≡ false
not_seated e t none = no_event t.seat none
  where
    no_event : (s : Seat) → is_event s ≡ false → is_seat s (Event e) ≡ false
    no_event (Await u) none = refl
    no_event (Event f) none = absurd (cc none)

none_seated : (e : EventId) (ts : List Taken) → event_seats ts ≡ 0 → list_any (is_at (Event e)) ts ≡ false
none_seated e [] none = refl
none_seated e (t ∷ ts) none = cases (is_event t.seat)
    (λ h. let more : event_seats (t ∷ ts) ≡ 1 + event_seats ts = events_cons t ts ∙ rw h in absurd (omega arith))
    (λ h. let same : event_seats (t ∷ ts) ≡ 0 + event_seats ts = events_cons t ts ∙ rw h in rw (not_seated e t h) (none_seated e ts (omega arith)))

none_seated_here : (e : EventId) (y : Condition) → event_seats_here y ≡ 0 → has_seat_here (Event e) y ≡ false
none_seated_here e (Some ts) none = none_seated e ts none
none_seated_here e None none = refl

pub no_event_is_seated : (xs : List Condition) → all_event_seats xs ≡ 0 → NoEventIsSeated (conditions_of xs)
no_event_is_seated xs none c e = elim (cases_lt c (length xs)) [
  | inl low ↦ let few = get_or-le-sum_by event_seats_here xs c None low in none_seated_here e (conditions_of xs c) (omega arith)
  | inr high ↦ ap (has_seat_here (Event e)) (get_or_past xs c None high)
]
