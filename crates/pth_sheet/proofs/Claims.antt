-- What becomes of events, and of seats at conditions, as a ring is claimed, given back and handed on.
use Rattle.std.proofs.Common.{◌≡◌, ◌≤◌, ◌∙◌, ◌+◌, ◌==◌, ◌||◌, not, ℕ, ℤ, Bool, true, false, cond, if◌then◌else◌, List, [], ◌∷◌, ◌++◌, filter, count_by, Option, Some, None, option_map, refl, sym, ap, arith}
use Rattle.std.specs.List.{list_any}
use Rattle.std.proofs.lemmas.List.{append_assoc, append-nil}
use Rattle.std.proofs.lemmas.List.Sums.{sum_by-cons}
use mathlib.Core.Path.{fun_ext}
use Rattle.pth_base.specs.Table.{put}
use Rattle.pth_base.specs.declared.event.EventSpec.{EventSpec}
use Rattle.pth_base.specs.declared.event.EventSpec.TheVariants as of
use Rattle.pth_base.specs.declared.ids.Tid.{Tid}
use Rattle.pth_base.proofs.Tables.{same_means}
use Rattle.pth_lock.specs.Objects.{object_named}
use Rattle.pth_ring.specs.declared.event.Event.{Event}
use Rattle.pth_ring.specs.declared.event.Status.TheVariants.{Pending}
use Rattle.pth_ring.specs.Ring.{each, ring_holds}
use Rattle.pth_ring.specs.Rings.{Events, awaited, with_claim}
use Rattle.pth_cond.specs.Conditions.{ConditionTable, with_seats, seat_entered, seat_left, seat_handed_on}
use Rattle.pth_cond.specs.Seats.{is_at, with_seat, without_seat, handed_on}
use Rattle.pth_cond.specs.declared.seats.Seat.{Seat}
use Rattle.pth_cond.specs.declared.seats.Taken.{Taken}
use Rattle.pth_model.specs.EventSeats.{condition_of, condition_in, event_seat, seat_changed, seats_changed}
use Rattle.pth_sheet.specs.Events.{is_of_condition, waits_for_condition, entered_by, but_those_of, handed_on_by, NoneTwice}
use Rattle.pth_numbered.specs.Clauses.{◌when◌otherwise◌}
use Rattle.pth_sheet.proofs.Cases.{by_cases}

-- ---- one change of the seats of many events

-- the seats of a condition, once those of these events have changed, one after another
abbrev changed_by : (Seat → List Taken → List Taken) → List ℕ → List Taken → List Taken
changed_by h [] seats = seats
changed_by h (e ∷ es) seats = changed_by h es (h (event_seat e) seats)

unchanged : (o : Option (List Taken)) → option_map (λ (seats : List Taken). seats) o ≡ o
unchanged None = refl
unchanged (Some seats) = refl

module _ (h : Seat → List Taken → List Taken) (c : ℕ) where
  -- what becomes of the seats of condition c, if event e is of condition d
  one_of : (e : ℕ) (d : ℤ) (y : ConditionTable) → with_seats (object_named d) (h (event_seat e)) y c ≡ option_map (λ seats. if c == object_named d then h (event_seat e) seats else seats) (y c)
  unfolding put
  one_of e d y =
      by_cases (c == object_named d)
      (λ same. rw (same) (ap (λ i. option_map (h (event_seat e)) (y i)) (sym (same_means c (object_named d) same))))
      (λ other. rw (other) (sym (unchanged (y c))))

  one_spec : (e : ℕ) (spec : EventSpec) (y : ConditionTable) → seat_changed (λ d u. with_seats (object_named d) (h u)) e (condition_of spec) y c ≡ option_map (λ seats. if is_of_condition c spec then h (event_seat e) seats else seats) (y c)
  one_spec e (of.Cond d) y = one_of e d y
  one_spec e (of.Fd goals fd) y = sym (unchanged (y c))
  one_spec e (of.Select r w x) y = sym (unchanged (y c))
  one_spec e (of.Time at) y = sym (unchanged (y c))
  one_spec e (of.Msg p) y = sym (unchanged (y c))
  one_spec e (of.Tid state t) y = sym (unchanged (y c))
  one_spec e (of.Func check arg interval) y = sym (unchanged (y c))

  one_seat : (e : ℕ) (o : Option Event) (y : ConditionTable) → seat_changed (λ d u. with_seats (object_named d) (h u)) e (condition_in o) y c ≡ option_map (λ seats. if waits_for_condition c o then h (event_seat e) seats else seats) (y c)
  one_seat e None y = sym (unchanged (y c))
  one_seat e (Some v) y = one_spec e v.spec y

  joined : (b : Bool) (e : ℕ) (es : List ℕ) (o : Option (List Taken)) → option_map (changed_by h es) (option_map (λ seats. if b then h (event_seat e) seats else seats) o) ≡ option_map (changed_by h (if b then e ∷ es else es)) o
  joined true e es None = refl
  joined false e es None = refl
  joined true e es (Some seats) = refl
  joined false e es (Some seats) = refl

  all_seats : (x : Events) (es : List ℕ) (y : ConditionTable) → seats_changed (λ d u. with_seats (object_named d) (h u)) x es y c ≡ option_map (changed_by h (filter (λ e. waits_for_condition c (x.events e)) es)) (y c)
  all_seats x [] y = sym (unchanged (y c))
  all_seats x (e ∷ es) y =
      let others = filter (λ i. waits_for_condition c (x.events i)) es in
      all_seats x es (seat_changed (λ d u. with_seats (object_named d) (h u)) e (condition_in (x.events e)) y)
      ∙ ap (option_map (changed_by h others)) (one_seat e (x.events e) y)
      ∙ joined (waits_for_condition c (x.events e)) e others (y c)

-- ---- entering, leaving and handing on

all_entered : (es : List ℕ) (seats : List Taken) → changed_by with_seat es seats ≡ seats ++ entered_by es
all_entered [] seats = sym (append-nil seats)
all_entered (e ∷ es) seats = all_entered es (with_seat (event_seat e) seats) ∙ append_assoc seats (entered_by (e ∷ [])) (entered_by es)

all_handed_on : (es : List ℕ) (seats : List Taken) → changed_by handed_on es seats ≡ handed_on_by es seats
all_handed_on [] seats = refl
all_handed_on (e ∷ es) seats = all_handed_on es (handed_on (event_seat e) seats)

-- how often a seat is taken, by the first of some seats and the others
counted : (u : Seat) (x : Taken) (seats : List Taken) (b : Bool) → is_at u x ≡ b → count_by (is_at u) (x ∷ seats) ≡ cond b 1 0 + count_by (is_at u) seats
counted u x seats b is = sum_by-cons (λ y. cond (is_at u y) 1 0) x seats ∙ ap (λ (d : Bool). cond {A = ℕ} d 1 0 + count_by (is_at u) seats) is

-- where nobody has a seat, none is left out
none_left : (u : Seat) (seats : List Taken) → count_by (is_at u) seats ≤ 0 → filter (λ x. not (is_at u x)) seats ≡ seats
none_left u [] none = refl
none_left u (x ∷ seats) none =
    by_cases (is_at u x)
    (λ is. let more = counted u x seats true is in absurd (omega (arith, none, more)))
    (λ is. let same = counted u x seats false is in rw (is) (ap (λ (r : List Taken). x ∷ r) (none_left u seats (omega (arith, none, same)))))

-- a seat that is taken once
one_left : (u : Seat) (seats : List Taken) → count_by (is_at u) seats ≤ 1 → without_seat u seats ≡ filter (λ x. not (is_at u x)) seats
one_left u [] once = refl
one_left u (x ∷ seats) once =
    by_cases (is_at u x)
    (λ is. let more = counted u x seats true is in rw (is) (sym (none_left u seats (omega (arith, once, more)))))
    (λ is. let same = counted u x seats false is in rw (is) (ap (λ (r : List Taken). x ∷ r) (one_left u seats (omega (arith, once, same)))))

-- no seat is taken more often among some of the seats
fewer : (p : Taken → Bool) (u : Seat) (seats : List Taken) → count_by (is_at u) (filter p seats) ≤ count_by (is_at u) seats
fewer p u [] = omega arith
fewer p u (x ∷ seats) =
    let less = fewer p u seats in
    let all = counted u x seats (is_at u x) refl in
    by_cases (p x)
    (λ is. let some = counted u x (filter p seats) (is_at u x) refl in rw (is) (omega (arith, less, some, all)))
    (λ is. rw (is) (omega (arith, less, all)))

both_left : (u : Seat) (es : List ℕ) (seats : List Taken) → filter (λ x. not (list_any (λ e. is_at (event_seat e) x) es)) (filter (λ x. not (is_at u x)) seats) ≡ filter (λ x. not (is_at u x || list_any (λ e. is_at (event_seat e) x) es)) seats
both_left u es [] = refl
both_left u es (x ∷ seats) =
    by_cases (is_at u x)
    (λ is. rw (is) (both_left u es seats))
    (λ is. rw (is) (ap (λ (r : List Taken). cond (not (list_any (λ e. is_at (event_seat e) x) es)) (x ∷ r) r) (both_left u es seats)))

all_kept : (seats : List Taken) → filter (λ (x : Taken). true) seats ≡ seats
all_kept [] = refl
all_kept (x ∷ seats) = ap (λ (r : List Taken). x ∷ r) (all_kept seats)

all_left : (es : List ℕ) (seats : List Taken) → NoneTwice seats → changed_by without_seat es seats ≡ but_those_of es seats
all_left [] seats once = sym (all_kept seats)
all_left (e ∷ es) seats once =
    let u = event_seat e in
    ap (changed_by without_seat es) (one_left u seats (once u))
    ∙ all_left es (filter (λ x. not (is_at u x)) seats) (λ v. let less = fewer (λ x. not (is_at u x)) v seats in let most = once v in omega (arith, less, most))
    ∙ both_left u es seats

-- ---- the seats of a condition

-- one that is not initialised stays so
module _ (x : Events) (c : ℕ) (es : List ℕ) (y : ConditionTable) (here : y c ≡ None) where
  abbrev those_none : List ℕ
  those_none = filter (λ e. waits_for_condition c (x.events e)) es

  pub none_entered : seats_changed seat_entered x es y c ≡ None
  none_entered = all_seats with_seat c x es y ∙ ap (option_map (changed_by with_seat those_none)) here

  pub none_left_at : seats_changed seat_left x es y c ≡ None
  none_left_at = all_seats without_seat c x es y ∙ ap (option_map (changed_by without_seat those_none)) here

  pub none_handed_on : seats_changed seat_handed_on x es y c ≡ None
  none_handed_on = all_seats handed_on c x es y ∙ ap (option_map (changed_by handed_on those_none)) here

module _ (x : Events) (c : ℕ) (es : List ℕ) (y : ConditionTable) (seats : List Taken) (here : y c ≡ Some seats) where
  abbrev those : List ℕ
  those = filter (λ e. waits_for_condition c (x.events e)) es

  pub entered_at : seats_changed seat_entered x es y c ≡ Some (seats ++ entered_by those)
  entered_at = all_seats with_seat c x es y ∙ ap (option_map (changed_by with_seat those)) here ∙ ap (λ (l : List Taken). Some l) (all_entered those seats)

  pub left_at : NoneTwice seats → seats_changed seat_left x es y c ≡ Some (but_those_of those seats)
  left_at once = all_seats without_seat c x es y ∙ ap (option_map (changed_by without_seat those)) here ∙ ap (λ (l : List Taken). Some l) (all_left those seats once)

  pub handed_on_at : seats_changed seat_handed_on x es y c ≡ Some (handed_on_by those seats)
  handed_on_at = all_seats handed_on c x es y ∙ ap (option_map (changed_by handed_on those)) here ∙ ap (λ (l : List Taken). Some l) (all_handed_on those seats)

-- ---- the events of a ring that is claimed

module _ (ring : List ℕ) (events : ℕ → Option Event) (r now : ℕ) (t : Tid) where
  abbrev awaited_in : ℕ → Option Event
  awaited_in = each ring (option_map (awaited now)) events

  abbrev claimed_in : ℕ → Option Event
  claimed_in = put awaited_in r (option_map (with_claim (Some t)) (awaited_in r))

  pub claimed_event : (e : ℕ) (x : Event) → events e ≡ Some x → claimed_in e ≡ Some (record x {
    status = Pending when ring_holds e ring otherwise x.status;
    next_look = now when ring_holds e ring otherwise x.next_look;
    claim = Some t when e == r otherwise x.claim;
  })
  unfolding put each
  claimed_event e x here =
      by_cases (e == r)
      (λ same. rw (same) (ap (λ i. option_map (with_claim (Some t)) (awaited_in i)) (sym (same_means e r same)) ∙ by_cases (ring_holds e ring) (λ b. rw (b, here) refl) (λ b. rw (b, here) refl)))
      (λ other. rw (other) (by_cases (ring_holds e ring) (λ b. rw (b, here) refl) (λ b. rw (b, here) refl)))

  -- what they are of stays
  same_condition : (c e : ℕ) → waits_for_condition c (claimed_in e) ≡ waits_for_condition c (events e)
  unfolding put each
  same_condition c e =
      by_cases (e == r)
      (λ same. rw (same) (ap (λ i. waits_for_condition c (option_map (with_claim (Some t)) (awaited_in i))) (sym (same_means e r same)) ∙ by_cases (ring_holds e ring) (λ b. rw (b) (both (events e))) (λ b. rw (b) (one (events e)))))
      (λ other. rw (other) (by_cases (ring_holds e ring) (λ b. rw (b) (other_one (events e))) (λ b. rw (b) refl)))
    where
      both : (o : Option Event) → waits_for_condition c (option_map (with_claim (Some t)) (option_map (awaited now) o)) ≡ waits_for_condition c o
      both None = refl
      both (Some v) = refl

      one : (o : Option Event) → waits_for_condition c (option_map (with_claim (Some t)) o) ≡ waits_for_condition c o
      one None = refl
      one (Some v) = refl

      other_one : (o : Option Event) → waits_for_condition c (option_map (awaited now) o) ≡ waits_for_condition c o
      other_one None = refl
      other_one (Some v) = refl

  pub same_events_at : (c : ℕ) (es : List ℕ) → filter (λ e. waits_for_condition c (claimed_in e)) es ≡ filter (λ e. waits_for_condition c (events e)) es
  same_events_at c es = ap (λ (p : ℕ → Bool). filter p es) (fun_ext (same_condition c))

-- ---- the events of a ring that is given back

pub returned_event : (events : ℕ → Option Event) (r e : ℕ) (x : Event) → events e ≡ Some x → put events r (option_map (with_claim None) (events r)) e ≡ Some (record x { claim = None when e == r otherwise x.claim })
unfolding put
returned_event events r e x here =
    by_cases (e == r)
    (λ same. rw (same) (ap (λ i. option_map (with_claim None) (events i)) (sym (same_means e r same)) ∙ rw (here) refl))
    (λ other. rw (other, here) refl)
