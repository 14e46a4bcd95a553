-- Who waits for the notice of a condition has its seat there, and no seat is taken twice at a condition.
use Rattle.std.proofs.Common.{◌≡◌, ◌≢◌, ◌≤◌, ℕ, ◌+◌, ◌==◌, Bool, true, false, cond, if◌then◌else◌, ℤ, Option, Some, None, option_map, refl, sym, ◌∙◌, ap, subst, arith}
use Rattle.std.proofs.lemmas.Bool.{true≢false}
use Rattle.std.proofs.lemmas.Option.{same_Some}
use Rattle.pth_base.specs.Program.{Functions}
use Rattle.pth_base.specs.declared.call.Call.{Call}
use Rattle.pth_base.specs.declared.call.Call.TheVariants as call
use Rattle.pth_base.proofs.Tables.{same_self, same_means, put_by}
use Rattle.pth_lock.specs.Objects.{object_named}
use Rattle.pth_cond.specs.declared.seats.Seat.TheVariants.{Await, Event}
use Rattle.pth_cond.specs.Conditions.{ConditionTable, seat_entered, seat_left, is_initialised, all_seats_left}
use Rattle.pth_cond.specs.Barriers.{barrier_reached}
use Rattle.pth_numbered.specs.Operands.{number}
use Rattle.pth_ring.specs.Rings.{claimed}
use Rattle.pth_model.specs.declared.awaits.Awaits.{Awaits}
use Rattle.pth_model.specs.declared.awaits.Awaits.TheVariants.{Round, Notice, Retaking}
use Rattle.pth_model.specs.declared.blocked.Blocked.{Blocked}
use Rattle.pth_model.specs.declared.progress.Progress.{Progress}
use Rattle.pth_model.specs.Awaits.{is_await}
use Rattle.pth_model.specs.Conditions.{seat_of}
use Rattle.pth_model.specs.EventSeats.{condition_in, seats_changed}
use Rattle.pth_model.specs.State.{State, Given, start, main, now_of}
use Rattle.pth_model.specs.Transition.{controlled, tid}
use Rattle.pth_model.specs.Changes.{sets, goes_on, blocking, is_blocked_by, makes, forgets, with_conditions, with_barriers, blocked_in, blocked_of}
use Rattle.pth_model.specs.RingWaits.{claims, extra_ring, gives_back, ring_given, ring_held, stops_waiting}
use Rattle.pth_model.specs.ThreadControl.{values_for, or_first}
use Rattle.pth_model.specs.LibraryControl.{vanish_all_but}
use Rattle.pth_model.specs.Calls.{blocks}
use Rattle.pth_model.specs.Pass.{looks}
use Rattle.pth_model.specs.Run.{run}
use Rattle.pth_laws.specs.Clean.{condition_awaited, condition_held}
use Rattle.pth_laws.specs.Consistent.{AllAwaitOwn, AwaitsOwn}
use Rattle.pth_laws.specs.Seats.{AllHaveSeats, NoneSeatedTwice}
use Rattle.pth_laws.proofs.NoNotices.{is_notice}
use Rattle.pth_laws.proofs.Seats.{seats_at, has_some}
use Rattle.pth_laws.proofs.EventSeats.{places, AreRight}
use Rattle.pth_laws.proofs.KeptSeats.{KeepsOtherSeats, entered_more, entered_here, some_has, threads_entered, threads_left}
use Rattle.pth_laws.proofs.Allowed.{IsFree}
use Rattle.pth_laws.proofs.Along.{KeptAlong, run_keeps}
use Rattle.pth_laws.proofs.Seated.{AreSingle, run_single}
use Rattle.pth_laws.proofs.EventsSeated.{run_right}

-- u, which this call blocks, has its seat at the condition whose notice it awaits; and only a pth_cond_await awaits one
pub record IsSeated (y : ConditionTable) (u : ℕ) (c : Call) (a : Awaits) : Type 0 where
  pub plain : is_await c ≡ false → is_notice a ≡ false
  pub seat : (k : ℕ) → condition_awaited a ≡ Some k → 1 ≤ seats_at (seat_of u) (y k)

abbrev HasSeat : ConditionTable → ℕ → Option Blocked → Type 0
HasSeat y u None = Unit {0}
HasSeat y u (Some d) = IsSeated y u d.call d.awaits

-- where it does not lose it
seat_on : (x y : ConditionTable) (u : ℕ) (o : Option Blocked) → ((c : ℕ) → seats_at (seat_of u) (y c) ≤ seats_at (seat_of u) (x c)) → HasSeat y u o → HasSeat x u o
seat_on x y u None keeps own = tt
seat_on x y u (Some d) keeps own = record { plain = own.plain; seat = λ k at. let more = keeps k in let one = own.seat k at in omega (arith, more, one) }

-- no notice is awaited
no_notice : (a : Awaits) (k : ℕ) → is_notice a ≡ false → condition_awaited a ≡ Some k → ⊥
no_notice (Notice c) k none h = true≢false none
no_notice a k none h = cc

other_seated : (y : ConditionTable) (u : ℕ) (c : Call) (a : Awaits) → is_notice a ≡ false → IsSeated y u c a
other_seated y u c a none = record { plain = λ other. none; seat = λ k h. absurd (no_notice a k none h) }

-- by another call than a pth_cond_await no notice is awaited
other_notice : (c : Call) (a : Awaits) → is_await c ≡ false → AwaitsOwn c a → is_notice a ≡ false
other_notice c (Notice d) other own = absurd (true≢false (sym own ∙ other))
other_notice c a other own = refl

-- this blocks t now, or nothing does
seat_blocked : {S : Type 0} (y : ConditionTable) (t : ℕ) (d : Blocked) (p : Option (Progress S)) → IsSeated y t d.call d.awaits → HasSeat y t (blocked_in (option_map (blocking (Some d)) p))
seat_blocked y t d None own = tt
seat_blocked y t d (Some p) own = own

seat_none : {S : Type 0} (y : ConditionTable) (t : ℕ) (p : Option (Progress S)) → HasSeat y t (blocked_in (option_map (blocking None) p))
seat_none y t None = tt
seat_none y t (Some p) = tt

-- an event has its place at one condition at most
place_once : (o : Option ℤ) (c : ℕ) → places o c ≤ 1
place_once None c = omega arith
place_once (Some i) c = by_test (object_named i == c)
  where
    by_test : (b : Bool) → cond b 1 0 ≤ 1
    by_test true = omega arith
    by_test false = omega arith

-- ---- changes

module _ {P S H : Type 0} where
  abbrev pub HaveSeats : State P S H → Type 0
  HaveSeats s = (u : ℕ) → HasSeat s.control.conditions u (blocked_of s.control u)

  seats_made : (f : P → Functions S H) (t b : ℕ) (v a : ℤ) (s : State P S H) → HaveSeats s → HaveSeats (controlled (makes f b v (or_first (values_for s.control t a))) s)
  unfolding makes
  seats_made f t b v a s r u = put_by (λ o. HasSeat s.control.conditions u (blocked_in o)) s.control.threads.progress (s.control.threads.made + 1) _ u (λ here. tt) (λ other. r u)

  seats_forgotten : (t : ℕ) (s : State P S H) → HaveSeats s → HaveSeats (controlled (forgets t) s)
  unfolding forgets
  seats_forgotten t s r u = put_by (λ o. HasSeat s.control.conditions u (blocked_in o)) s.control.threads.progress t None u (λ here. tt) (λ other. r u)

  seats_vanished : (t : ℕ) (s : State P S H) → IsFree t s → HaveSeats (controlled (vanish_all_but t) s)
  unfolding vanish_all_but
  seats_vanished t s free u = by_number (u == t) refl
    where
      by_number : (own : Bool) → (u == t) ≡ own → HasSeat (all_seats_left s.control.conditions) u (blocked_in (if own then s.control.threads.progress u else None))
      by_number true same = subst (HasSeat (all_seats_left s.control.conditions) u) (sym (ap (blocked_of s.control) (same_means u t same) ∙ free)) tt
      by_number false other = tt

  -- no thread loses a seat
  seats_keep : (x : ConditionTable) (s : State P S H) → ((c u : ℕ) → seats_at (seat_of u) (s.control.conditions c) ≤ seats_at (seat_of u) (x c)) → HaveSeats s → HaveSeats (controlled (with_conditions (λ y. x)) s)
  seats_keep x s keeps r u = seat_on x s.control.conditions u (blocked_of s.control u) (λ c. keeps c u) (r u)

  -- what blocks t changes, and maybe its seat
  seats_go : (x : ConditionTable) (t : ℕ) (g : Progress S → Progress S) (s : State P S H) → ((c u : ℕ) → u ≢ t → seats_at (seat_of u) (s.control.conditions c) ≤ seats_at (seat_of u) (x c)) → HasSeat x t (blocked_in (option_map g (s.control.threads.progress t))) → HaveSeats s → HaveSeats (controlled (λ k. goes_on t g (with_conditions (λ y. x) k)) s)
  unfolding goes_on
  seats_go x t g s others own r u =
      put_by (λ o. HasSeat x u (blocked_in o)) s.control.threads.progress t (option_map g (s.control.threads.progress t)) u
      (λ here. subst (λ (v : ℕ). HasSeat x v (blocked_in (option_map g (s.control.threads.progress t)))) (sym here) own)
      (λ apart. seat_on x s.control.conditions u (blocked_of s.control u) (λ c. others c u apart) (r u))

  seats_still : (t : ℕ) (g : Progress S → Progress S) (s : State P S H) → HasSeat s.control.conditions t (blocked_in (option_map g (s.control.threads.progress t))) → HaveSeats s → HaveSeats (controlled (goes_on t g) s)
  seats_still t g s own r = seats_go s.control.conditions t g s (λ c u apart. omega arith) own r

  seats_same : (t : ℕ) (g : Progress S → Progress S) (s : State P S H) → ((p : Progress S) → (g p).blocked ≡ p.blocked) → HaveSeats s → HaveSeats (controlled (goes_on t g) s)
  seats_same t g s same r = seats_still t g s (subst (HasSeat s.control.conditions t) (sym (by_progress (s.control.threads.progress t))) (r t)) r
    where
      by_progress : (p : Option (Progress S)) → blocked_in (option_map g p) ≡ blocked_in p
      by_progress None = refl
      by_progress (Some p) = same p

  -- the seats of a ring's events are entered, or left
  seats_claimed : (t : ℕ) (e : Option ℤ) (s : State P S H) → HaveSeats s → HaveSeats (controlled (claims t e) s)
  unfolding claims
  seats_claimed t None s r = r
  seats_claimed t (Some e) s r =
      let x = claimed (number e) (tid t) (now_of s.control) s.control.events in
      seats_keep (seats_changed seat_entered x (x.rings (number e)) s.control.conditions) s (λ c u. threads_entered x (x.rings (number e)) s.control.conditions c u) r

  seats_returned : (e : Option ℤ) (s : State P S H) → HaveSeats s → HaveSeats (controlled (gives_back e) s)
  unfolding gives_back
  seats_returned None s r = r
  seats_returned (Some e) s r =
      let x = s.control.events in
      seats_keep (seats_changed seat_left x (x.rings (number e)) s.control.conditions) s (λ c u. threads_left x (x.rings (number e)) s.control.conditions c u) r

  -- a call blocks t, which has its seat if it is to have one
  seats_blocked : (t : ℕ) (c : Call) (a : Awaits) (s : State P S H) → IsSeated s.control.conditions t c a → HaveSeats s → HaveSeats (controlled (blocks t c a) s)
  seats_blocked t c a s own r =
      let d : Blocked = record { call = c; awaits = a } in
      seats_still t (blocking (Some d)) s (seat_blocked s.control.conditions t d (s.control.threads.progress t) own) r

  -- no call blocks t any longer
  seats_stopped : (t : ℕ) (x : ConditionTable) (s : State P S H) → KeepsOtherSeats t x s.control.conditions → HaveSeats s → HaveSeats (controlled (λ k. stops_waiting t (with_conditions (λ y. x) k)) s)
  unfolding stops_waiting
  seats_stopped t x s keeps r =
      let a = controlled (with_conditions (λ y. x)) s in
      seats_returned (ring_held (blocked_of s.control t)) (controlled (is_blocked_by t None) a) (seats_go x t (blocking None) s keeps.others (seat_none x t (s.control.threads.progress t)) r)

  -- t takes a seat, and waits there
  seats_taken : (t : ℕ) (c m e : ℤ) (s : State P S H) → is_initialised s.control.conditions c ≡ true → HaveSeats s → HaveSeats (controlled (λ k. blocks t (call.CondAwait c m e) (Notice c) (claims t (extra_ring e) (with_conditions (seat_entered c (seat_of t)) k))) s)
  unfolding claims
  seats_taken t c m e s live r =
      let y = seat_entered c (seat_of t) s.control.conditions in
      let u = controlled (with_conditions (λ z. y)) s in
      let v = controlled (claims t (extra_ring e)) u in
      seats_blocked t (call.CondAwait c m e) (Notice c) v (by_ring (extra_ring e) y (entered_here c (seat_of t) s.control.conditions (same_self t) live))
      (seats_claimed t (extra_ring e) u (seats_keep y s (λ k w. entered_more c (seat_of t) (seat_of w) s.control.conditions k) r))
    where
      seated : (z : ConditionTable) → 1 ≤ seats_at (seat_of t) (z (object_named c)) → IsSeated z t (call.CondAwait c m e) (Notice c)
      seated z own = record { plain = λ odd. absurd (true≢false odd); seat = λ k at. subst (λ n. 1 ≤ seats_at (seat_of t) (z n)) (same_Some (object_named c) k at) own }

      by_ring : (o : Option ℤ) (y : ConditionTable) → 1 ≤ seats_at (seat_of t) (y (object_named c)) → IsSeated (controlled (claims t o) (controlled (with_conditions (λ z. y)) s)).control.conditions t (call.CondAwait c m e) (Notice c)
      by_ring None y own = seated y own
      by_ring (Some i) y own =
          let x = claimed (number i) (tid t) (now_of s.control) s.control.events in
          let more = threads_entered x (x.rings (number i)) y (object_named c) t in
          seated (seats_changed seat_entered x (x.rings (number i)) y) (omega (arith, more, own))

  -- ---- every run

  pub seats_kept : (f : P → Functions S H) → KeptAlong f HaveSeats
  unfolding sets looks
  seats_kept f = record {
    handlers = record {
      shared = λ h s r. r;
      seated = λ x s keeps r. seats_keep x s keeps.all r;
      told = λ m s may r. r;
    };
    placed = λ standing entries raises trail s r. r;
    scheduled = λ x s r. r;
    timed = λ x s r. r;
    used = λ o s r. r;
    set = λ t c s safe life r. r;
    made = λ t b v a s next r. seats_made f t b v a s r;
    forgotten = λ t s gone r. seats_forgotten t s r;
    vanished = λ t s free r. seats_vanished t s free;
    added = λ s r. r;
    bound = λ t s r. r;
    renewed = λ n s r. r;
    valued = λ a v x s there inside r. r;
    destroyed = λ n s r. r;
    arranges = λ x s may r. r;
    looked = λ s r. r;
    barred = λ x s fewer all r. r;
    reached = λ t b round s free alive there waits r. seats_blocked t (call.BarrierReach b) (Round b round) (controlled (with_barriers (barrier_reached b t)) s) (other_seated s.control.conditions t (call.BarrierReach b) (Round b round) refl) r;
    goes = λ t g s same r. seats_same t g s same r;
    blocked = λ t c a s free here other none may r. let u = controlled (claims t (ring_given c)) s in seats_blocked t c a u (other_seated u.control.conditions t c a none.1) (seats_claimed t (ring_given c) s r);
    waits_on = λ t a b s at names stays other plain r.
        let was : IsSeated s.control.conditions t b.call b.awaits = subst (HasSeat s.control.conditions t) at (r t) in
        seats_blocked t b.call a s (other_seated s.control.conditions t b.call a (plain.2 (was.plain other))) r;
    stopped = λ t x y s fewer others keeps left gone r. seats_stopped t y (controlled (with_barriers (λ z. x)) s) keeps r;
    takes_seat = λ t c m e s free alive there may r. seats_taken t c m e s there.1 r;
    retakes = λ t c m e a o y s keeps gone at r.
        let u = controlled (λ k. stops_waiting t (with_conditions (λ z. y) k)) s in
        seats_blocked t (call.CondAwait c m e) (Retaking m o) u (other_seated u.control.conditions t (call.CondAwait c m e) (Retaking m o) refl) (seats_stopped t y s keeps r);
  }

  pub seats_start : (f : P → Functions S H) (g : Given P) → HaveSeats (start f g)
  unfolding start
  seats_start f g u = put_by (λ (o : Option (Progress S)). HasSeat (start f g).control.conditions u (blocked_in o)) (λ v. None) main _ u (λ here. tt) (λ other. tt)

  pub seated_of : (s : State P S H) → HaveSeats s → AllHaveSeats s
  seated_of s all t c h = some_has s.control.conditions c (seat_of t) (by_blocked (blocked_of s.control t) (all t) h)
    where
      no_condition : None ≡ Some c → ⊥
      no_condition h = cc

      by_blocked : (o : Option Blocked) → HasSeat s.control.conditions t o → condition_held o ≡ Some c → 1 ≤ seats_at (seat_of t) (s.control.conditions c)
      by_blocked None own h = absurd (no_condition h)
      by_blocked (Some d) own h = own.seat c h

  pub run_has_seats : (f : P → Functions S H) (g : Given P) (i : ℕ) → AllHaveSeats (run f g i).state
  run_has_seats f g i = seated_of (run f g i).state (run_keeps f HaveSeats (seats_kept f) g (seats_start f g) i)

  -- who waits for a notice is blocked by a pth_cond_await
  pub notice_own : (s : State P S H) → HaveSeats s → (t : ℕ) (d : Blocked) → blocked_of s.control t ≡ Some d → is_notice d.awaits ≡ true → is_await d.call ≡ true
  notice_own s all t d at notice = by_call (is_await d.call) refl
    where
      own : IsSeated s.control.conditions t d.call d.awaits
      own = subst (HasSeat s.control.conditions t) at (all t)

      by_call : (b : Bool) → is_await d.call ≡ b → is_await d.call ≡ true
      by_call true h = h
      by_call false h = absurd (true≢false (sym notice ∙ own.plain h))

  -- and the other way round
  pub seated_in : (s : State P S H) → AllAwaitOwn s → AllHaveSeats s → HaveSeats s
  seated_in s own seats u = by_blocked (blocked_of s.control u) refl
    where
      by_blocked : (o : Option Blocked) → blocked_of s.control u ≡ o → HasSeat s.control.conditions u o
      by_blocked None at = tt
      by_blocked (Some d) at = record {
        plain = λ other. other_notice d.call d.awaits other (own u d at);
        seat = λ k h. has_some s.control.conditions k (seat_of u) (seats u k (ap condition_held at ∙ h));
      }

  -- no thread has two seats at a condition, and no event has
  pub single_of : (s : State P S H) → AreSingle s.control.conditions → AreRight s.control.events s.control.conditions → NoneSeatedTwice s
  single_of s threads events c (Await t) = threads c t.0
  single_of s threads events c (Event e) =
      let right = events e.0 c in
      let one = place_once (condition_in (s.control.events.events e.0)) c in
      omega (arith, right, one)

  pub run_once_seated : (f : P → Functions S H) (g : Given P) (i : ℕ) → NoneSeatedTwice (run f g i).state
  run_once_seated f g i = single_of (run f g i).state (run_single f g i) (run_right f g i)
