-- What keeps threads dormant, and what dormant threads leave of a pass.
use Rattle.std.proofs.Common.{◌≡◌, ◌∙◌, ℕ, ◌+◌, ◌<◌, ◌≤◌, ◌||◌, min, Bool, true, false, if◌then◌else◌, ℤ, List, [], ◌∷◌, Option, Some, None, is_some, option_map, All, refl, sym, ap, ap₂, subst, arith}
use Rattle.std.specs.List.{list_any}
use Rattle.std.proofs.lemmas.List.Elements.{All-head, All-tail, All-weaker, All-nil}
use Rattle.pth_ring.specs.declared.event.Event.{Event}
use Rattle.pth_ring.specs.declared.event.Status.{Status}
use Rattle.pth_ring.specs.declared.event.Status.TheVariants.{Pending}
use Rattle.pth_ring.specs.Ring.{each, ring_holds}
use Rattle.pth_ring.specs.Rings.{Events, awaited, claimed, ring_awaited, with_claim, with_next_look, with_status}
use Rattle.pth_base.specs.Limits.{last_moment}
use Rattle.pth_base.specs.Program.{Functions}
use Rattle.pth_base.specs.declared.event.EventSpec.{EventSpec}
use Rattle.pth_base.specs.declared.event.EventSpec.TheVariants as of
use Rattle.pth_base.specs.declared.ids.Tid.{Tid}
use Rattle.pth_base.proofs.Tables.{put_by}
use Rattle.pth_cond.specs.Barriers.{BarrierTable, has_passed}
use Rattle.pth_cond.specs.Conditions.{Condition, ConditionTable, is_initialised, is_marked, is_marked_in, seat_entered}
use Rattle.pth_cond.specs.Seats.{is_at, is_marked_at, mark_at, with_seat}
use Rattle.pth_cond.specs.declared.seats.SeatMark.TheVariants.{Unmarked}
use Rattle.pth_cond.specs.declared.seats.Seat.{Seat}
use Rattle.pth_cond.specs.declared.seats.Taken.{Taken}
use Rattle.pth_lock.specs.Objects.{object_named}
use Rattle.pth_model.specs.Conditions.{seat_of}
use Rattle.pth_model.specs.EventSeats.{condition_in, event_seat, seat_changed, seats_changed}
use Rattle.pth_kernel.specs.Kernel.{Kernel, advanced}
use Rattle.pth_model.specs.declared.blocked.Blocked.{Blocked}
use Rattle.pth_model.specs.declared.awaits.Awaits.{Awaits}
use Rattle.pth_model.specs.declared.awaits.Awaits.TheVariants.{Nothing, Alone, Death, AnyDeath, Moment, Ring, Mutex, Lock, Round, Notice, Retaking}
use Rattle.pth_model.specs.State.{Control, State, now_of, main}
use Rattle.pth_model.specs.declared.awaits.Awaited.{Awaited}
use Rattle.pth_numbered.specs.Operands.{number}
use Rattle.pth_model.specs.Awaits.{awaits_in}
use Rattle.pth_model.specs.Calls.{wakes}
use Rattle.pth_model.specs.Cancellation.{may_be_canceled}
use Rattle.pth_model.specs.Changes.{blocked_of, entry_of, moves_to}
use Rattle.pth_model.specs.Coming.{descriptors_bring, has_any_died, has_come, has_died}
use Rattle.pth_model.specs.Looks.{comes, found, found_unasked, looked_at, next_look}
use Rattle.pth_model.specs.Pass.{comes_for, is_to_wake}
use Rattle.pth_model.specs.RingWaits.{awaited_events, awaited_in, events_from, ring_held}
use Rattle.pth_model.specs.ThreadEnds.{is_alone}
use Rattle.pth_model.specs.Transition.{controlled}
use Rattle.pth_world.specs.Shows.{Shows}
use Rattle.pth_world.specs.World.{WorldOf}
use Rattle.pth_waits.specs.Dormant.{ArePending, FindsPending, IsDormant, IsFoundPending, IsSteady, StaysAway, StaysPending, is_left_to_join}
use Rattle.pth_waits.proofs.Arrivals.{pending_says}
use Rattle.pth_waits.proofs.Waking.{no_events, ring_events}

-- ---- at a moment before, a dormant thread is not to wake

module _ {P S H : Type 0} (f : P → Functions S H) (s : State P S H) (until : ℕ) (early : now_of s.control < until) where
  away_now : (t : ℕ) (a : Awaits) → is_alone s.control main ≡ false → (((u : ℕ) → is_left_to_join (entry_of s.control u) ≡ false) → has_any_died s.control ≡ false) → StaysAway s until t a → has_come s t a ≡ false
  away_now t Alone alone none away = rw away alone
  away_now t AnyDeath alone none away = none away
  away_now t a alone none away = away (now_of s.control) (omega arith) early

  -- an event that stays pending is of no thread and of no function
  found_by_kind : (e next : ℕ) (spec : EventSpec) → IsFoundPending s until e spec → found f s e next spec ≡ Pending
  found_by_kind e next (of.Func check arg interval) stays = absurd (let late = stays.0 in omega arith)
  found_by_kind e next spec stays = stays.1 (now_of s.control) (omega arith) early

  next_by_kind : (e next : ℕ) (spec : EventSpec) → IsFoundPending s until e spec → next_look f s next spec ≡ next
  next_by_kind e next (of.Func check arg interval) stays = absurd (let late = stays.0 in omega arith)
  next_by_kind e next spec stays = refl

  found_now : (e : ℕ) (o : Option Event) → StaysPending s until e o → comes f s e o ≡ false
  found_now e None stays = refl
  found_now e (Some v) stays = rw (found_by_kind e v.next_look v.spec stays.1) refl

  none_come : (es : List ℕ) → All (λ e. StaysPending s until e (s.control.events.events e)) es → list_any (λ e. comes f s e (s.control.events.events e)) es ≡ false
  none_come [] all = refl
  none_come (e ∷ es) all =
      let here = found_now e (s.control.events.events e) (All-head (λ i. StaysPending s until i (s.control.events.events i)) e es all) in
      rw here (none_come es (All-tail (λ i. StaysPending s until i (s.control.events.events i)) e es all))

  none_of : (a b c : Bool) → a ≡ false → b ≡ false → c ≡ false → (a || b || c) ≡ false
  none_of a b c h i j = rw (h, i, j) refl

  -- where main is not alone, and no thread is left to join if no record is that of one
  pub dormant_stays : (t : ℕ) → is_alone s.control main ≡ false → (((u : ℕ) → is_left_to_join (entry_of s.control u) ≡ false) → has_any_died s.control ≡ false) → IsDormant s until t → is_to_wake f s t ≡ false
  unfolding comes_for wakes
  dormant_stays t alone none q = none_of _ _ _ (away_now t _ alone none q.away) (none_come _ q.pending) q.unasked

  -- and a look at its events finds what was found before
  pub looked_same : (e : ℕ) (o : Option Event) → StaysPending s until e o → option_map (looked_at f s e) o ≡ o
  looked_same e None stays = refl
  looked_same e (Some v) stays =
      ap₂ (λ (n : ℕ) (x : Status). Some (with_next_look n (with_status x v))) (next_by_kind e v.next_look v.spec stays.1) (found_by_kind e v.next_look v.spec stays.1 ∙ sym stays.0)

-- something that time does not bring is not here, if it stays away until any moment
pub is_not_here : (here : Bool) (until : ℕ) → until ≡ (if here then 0 else last_moment + 1) → 0 < until → here ≡ false
is_not_here true until is some = absurd (omega (arith, is))
is_not_here false until is some = refl

-- what is later than the moment of a world is later than now
pub later_than_now : {P S H : Type 0} (w : WorldOf P S H) (k : Control P S H) → Shows w k → (until : ℕ) → w.kernel.now < until → now_of k < until
later_than_now w k sh until later = subst (λ (n : ℕ). n < until) (sym (ap (λ (z : Kernel). z.now) sh.kernel)) later

-- ---- events that stay pending

-- an event is there where one was, of the same, and pending where it was
abbrev pub StillPending : Option Event → Option Event → Type 0
StillPending None p = p ≡ None
StillPending (Some v) None = ⊥
StillPending (Some v) (Some u) = (u.spec ≡ v.spec) × (v.status ≡ Pending → u.status ≡ Pending)

-- rings are as they were, and what was pending of their events is
pub record KeepsPending (x y : Events) : Type 0 where
  pub rings : y.rings ≡ x.rings
  pub pending : (e : ℕ) → StillPending (x.events e) (y.events e)

still_same : (o : Option Event) → StillPending o o
still_same None = refl
still_same (Some v) = (refl, λ h. h)

still_then : (o p q : Option Event) → StillPending o p → StillPending p q → StillPending o q
still_then None p q a b = subst (λ (r : Option Event). StillPending r q) a b
still_then (Some v) None q a b = absurd a
still_then (Some v) (Some u) None a b = absurd b
still_then (Some v) (Some u) (Some z) a b = (b.0 ∙ a.0, λ h. b.1 (a.1 h))

pub same_pending : (x : Events) → KeepsPending x x
same_pending x = record { rings = refl; pending = λ e. still_same (x.events e) }

pub equal_pending : (x y : Events) → y ≡ x → KeepsPending x y
equal_pending x y is = subst (λ (z : Events). KeepsPending x z) (sym is) (same_pending x)

pub pending_then : (x y z : Events) → KeepsPending x y → KeepsPending y z → KeepsPending x z
pending_then x y z a b = record { rings = b.rings ∙ a.rings; pending = λ e. still_then (x.events e) (y.events e) (z.events e) (a.pending e) (b.pending e) }

-- a claim leaves what was pending so, whoever waits for it
still_awaited : (now : ℕ) (here : Bool) (o : Option Event) → StillPending o (if here then option_map (awaited now) o else o)
still_awaited now true None = refl
still_awaited now true (Some v) = (refl, λ h. refl)
still_awaited now false o = still_same o

still_claimed : (c : Option Tid) (o : Option Event) → StillPending o (option_map (with_claim c) o)
still_claimed c None = refl
still_claimed c (Some v) = (refl, λ h. h)

pub claimed_pending : (x : Events) (e : ℕ) (t : Tid) (now : ℕ) → KeepsPending x (claimed e t now x)
unfolding each
claimed_pending x e t now =
    let first = (ring_awaited e now x).events in
    let claim = option_map (with_claim (Some t)) (first e) in
    record {
      rings = refl;
      pending = λ i. still_then (x.events i) (first i) _ (still_awaited now (ring_holds i (x.rings e)) (x.events i)) (put_by (λ v. StillPending (first i) v) first e claim i
          (λ same. subst (λ (n : ℕ). StillPending (first n) claim) (sym same) (still_claimed (Some t) (first e)))
          (λ apart. still_same (first i)));
    }

-- no round has passed that had not
abbrev pub KeepsRounds : BarrierTable → BarrierTable → Type 0
KeepsRounds x y = (b : ℤ) (round : ℕ) → has_passed x b round ≡ false → has_passed y b round ≡ false

-- the same conditions are initialised, and no seat was notified that had not been
abbrev pub KeepsSeats : ConditionTable → ConditionTable → Type 0
KeepsSeats x y = (c : ℤ) → (is_initialised y c ≡ is_initialised x c) × ((s : Seat) → is_marked x c s ≡ false → is_marked y c s ≡ false)

pub same_seats : (x : ConditionTable) → KeepsSeats x x
same_seats x = λ c. (refl, λ s none. none)

pub equal_seats : (x y : ConditionTable) → y ≡ x → KeepsSeats x y
equal_seats x y is = subst (KeepsSeats x) (sym is) (same_seats x)

pub seats_then : (x y z : ConditionTable) → KeepsSeats x y → KeepsSeats y z → KeepsSeats x z
seats_then x y z a b = λ c. ((b c).0 ∙ (a c).0, λ s none. (b c).1 s ((a c).1 s none))

-- a seat that is entered has no mark
none_marked : (s u : Seat) (ts : List Taken) → is_marked_at (mark_at u ts) ≡ false → is_marked_at (mark_at u (with_seat s ts)) ≡ false
none_marked s u [] none = by_seat (is_at u (record { seat = s; mark = Unmarked }))
  where
    by_seat : (b : Bool) → is_marked_at (if b then Some Unmarked else None) ≡ false
    by_seat true = refl
    by_seat false = refl
none_marked s u (t ∷ ts) none = by_seat (is_at u t) (none_marked s u ts) none
  where
    by_seat : (b : Bool) → (is_marked_at (mark_at u ts) ≡ false → is_marked_at (mark_at u (with_seat s ts)) ≡ false) → is_marked_at (if b then Some t.mark else mark_at u ts) ≡ false → is_marked_at (if b then Some t.mark else mark_at u (with_seat s ts)) ≡ false
    by_seat true rest h = h
    by_seat false rest h = rest h

entered_seat : (d : ℤ) (s : Seat) (x : ConditionTable) → KeepsSeats x (seat_entered d s x)
entered_seat d s x c = put_by (Keeps (x (object_named c))) x (object_named d) (option_map (with_seat s) (x (object_named d))) (object_named c) (λ here. subst (λ n. Keeps (x n) (option_map (with_seat s) (x (object_named d)))) (sym here) (by_condition (x (object_named d)))) (λ apart. (refl, λ u none. none))
  where
    Keeps : Condition → Condition → Type 0
    Keeps y z = (is_some z ≡ is_some y) × ((u : Seat) → is_marked_in u y ≡ false → is_marked_in u z ≡ false)

    by_condition : (y : Condition) → Keeps y (option_map (with_seat s) y)
    by_condition None = (refl, λ u none. none)
    by_condition (Some ts) = (refl, λ u none. none_marked s u ts none)

pub entered_seats : (x : Events) (es : List ℕ) (y : ConditionTable) → KeepsSeats y (seats_changed seat_entered x es y)
entered_seats x [] y = same_seats y
entered_seats x (e ∷ es) y =
    let z = seat_changed seat_entered e (condition_in (x.events e)) y in
    seats_then y z (seats_changed seat_entered x es z) (by_event (condition_in (x.events e))) (entered_seats x es z)
  where
    by_event : (o : Option ℤ) → KeepsSeats y (seat_changed seat_entered e o y)
    by_event None = same_seats y
    by_event (Some c) = entered_seat c (event_seat e) y

-- ---- what keeps a thread dormant

module _ {P S H : Type 0} where
  -- Of t and of what it may wait for all is as it was, but that time went on and rings were claimed: what is not dead still lives, and
  -- can be joined.
  pub record KeepsDormant (s r : State P S H) (t : ℕ) : Type 0 where
    pub now : ℕ
    pub later : now_of s.control ≤ now
    pub kernel : r.control.kernel ≡ advanced now s.control.kernel
    pub events : KeepsPending s.control.events r.control.events
    pub mutexes : r.resources.store.mutexes ≡ s.resources.store.mutexes
    pub locks : r.resources.store.rw_locks ≡ s.resources.store.rw_locks
    pub mail : r.resources.store.mail ≡ s.resources.store.mail
    pub rounds : KeepsRounds s.control.barriers r.control.barriers
    pub seats : KeepsSeats s.control.conditions r.control.conditions
    pub blocked : blocked_of r.control t ≡ blocked_of s.control t
    pub died : (n : ℤ) → has_died s.control n ≡ false → has_died r.control n ≡ false
    pub left : ((u : ℕ) → is_left_to_join (entry_of s.control u) ≡ false) → (u : ℕ) → is_left_to_join (entry_of r.control u) ≡ false
    pub asked : may_be_canceled s.control t ≡ false → may_be_canceled r.control t ≡ false

  module _ (s r : State P S H) (t : ℕ) (same : KeepsDormant s r t) (until : ℕ) where
    -- at each later moment
    moved_kernel : (n : ℕ) → advanced n r.control.kernel ≡ advanced n s.control.kernel
    moved_kernel n = ap (advanced n) same.kernel

    onward : (n : ℕ) → now_of r.control ≤ n → now_of s.control ≤ n
    onward n h = (let e : now_of r.control ≡ same.now = ap (λ (z : Kernel). z.now) same.kernel in let l = same.later in omega arith)

    at_moved : (a : Awaits) (n : ℕ) → descriptors_bring (advanced n s.control.kernel) a ≡ false → descriptors_bring (advanced n r.control.kernel) a ≡ false
    at_moved a n is = subst (λ (z : Kernel). descriptors_bring z a ≡ false) (sym (moved_kernel n)) is

    away_kept : (a : Awaits) → StaysAway s until t a → StaysAway r until t a
    away_kept Alone away = away
    away_kept AnyDeath away = same.left away
    away_kept Nothing away = λ n h l. refl
    away_kept (Death d) away = λ n h l. same.died d (away n (onward n h) l)
    away_kept (Moment m) away = λ n h l. away n (onward n h) l
    away_kept (Ring e) away = λ n h l. refl
    away_kept (Mutex m) away = λ n h l. rw same.mutexes (away n (onward n h) l)
    away_kept (Lock o write) away = λ n h l. rw same.locks (away n (onward n h) l)
    away_kept (Round b round) away = λ n h l. same.rounds b round (away n (onward n h) l)
    away_kept (Notice c) away = λ n h l. (same.seats c).1 (seat_of t) (away n (onward n h) l)
    away_kept (Retaking m o) away = λ n h l. rw same.mutexes (away n (onward n h) l)
    away_kept a away = λ n h l. at_moved a n (away n (onward n h) l)

    -- an event of a condition, by whether this is initialised, and the event's seat there was notified
    cond_pending : (e : ℕ) (c : ℤ) → found_unasked s e (of.Cond c) ≡ Pending → found_unasked r e (of.Cond c) ≡ Pending
    cond_pending e c is = (let h = pending_says (is_initialised s.control.conditions c) (is_marked s.control.conditions c (event_seat e)) is in rw ((same.seats c).0, h.0, (same.seats c).1 (event_seat e) h.1) refl)

    -- an event of a thread or of a function is not known to stay pending before a later moment
    found_moved : (n e : ℕ) (z : EventSpec) → n < until → now_of r.control ≤ n → IsSteady s until z → found_unasked (controlled (moves_to n) s) e z ≡ Pending → found_unasked (controlled (moves_to n) r) e z ≡ Pending
    found_moved n e (of.Cond c) l h steady is = cond_pending e c is
    found_moved n e (of.Msg p) l h steady is = rw same.mail is
    found_moved n e (of.Tid state u) l h steady is = absurd (let late = onward n h in omega arith)
    found_moved n e (of.Func check arg interval) l h steady is = refl
    found_moved n e z l h steady is = subst (λ (q : Kernel). found_unasked (controlled (λ k. record k { kernel = q }) r) e z ≡ Pending) (sym (moved_kernel n)) is

    steady_kept : (z : EventSpec) → IsSteady s until z → IsSteady r until z
    steady_kept (of.Tid state u) steady = (let late = onward (now_of r.control) (omega arith) in omega arith)
    steady_kept (of.Func check arg interval) steady = (let late = onward (now_of r.control) (omega arith) in omega arith)
    steady_kept z steady = tt

    found_kept : (e : ℕ) (z : EventSpec) → IsFoundPending s until e z → IsFoundPending r until e z
    found_kept e z stays = (steady_kept z stays.0, λ n h l. found_moved n e z l h stays.0 (stays.1 n (onward n h) l))

    pending_kept : (e : ℕ) (o p : Option Event) → StillPending o p → StaysPending s until e o → StaysPending r until e p
    pending_kept e None p still stays = subst (λ (q : Option Event). StaysPending r until e q) (sym still) tt
    pending_kept e (Some v) None still stays = absurd still
    pending_kept e (Some v) (Some u) still stays = (still.1 stays.0, found_kept e u.spec (subst (IsFoundPending s until e) (sym still.0) stays.1))

    all_pending : (es : List ℕ) → ArePending s until es → ArePending r until es
    all_pending es all =
        All-weaker (λ e. StaysPending s until e (s.control.events.events e)) (λ e. StaysPending r until e (r.control.events.events e))
        (λ e h. pending_kept e (s.control.events.events e) (r.control.events.events e) (same.events.pending e) h) es all

    same_from : (o : Option ℤ) → events_from r.control.events o ≡ events_from s.control.events o
    same_from None = refl
    same_from (Some e) = ap (λ (q : ℕ → List ℕ). q (number e)) same.events.rings

    pub dormant_kept : IsDormant s until t → IsDormant r until t
    dormant_kept q = record {
      away = subst (λ (o : Option Blocked). StaysAway r until t (awaits_in o)) (sym same.blocked) (away_kept (awaits_in (blocked_of s.control t)) q.away);
      pending = subst (λ (o : Option Blocked). ArePending r until (events_from r.control.events (ring_held o))) (sym same.blocked)
          (subst (ArePending r until) (sym (same_from (ring_held (blocked_of s.control t)))) (all_pending (awaited_events s.control t) q.pending));
      unasked = same.asked q.unasked;
    }

  -- and until an earlier moment
  module _ (s : State P S H) (until sooner : ℕ) (less : sooner ≤ until) where
    sooner_steady : (z : EventSpec) → IsSteady s until z → IsSteady s sooner z
    sooner_steady (of.Tid state u) steady = omega arith
    sooner_steady (of.Func check arg interval) steady = omega arith
    sooner_steady z steady = tt

    pub sooner_found : (e : ℕ) (o : Option Event) → FindsPending s until e o → FindsPending s sooner e o
    sooner_found e None finds = tt
    sooner_found e (Some v) finds = (sooner_steady v.spec finds.0, λ n h l. finds.1 n h (omega arith))

    pub sooner_pending : (e : ℕ) (o : Option Event) → StaysPending s until e o → StaysPending s sooner e o
    sooner_pending e None stays = tt
    sooner_pending e (Some v) stays = (stays.0, sooner_found e (Some v) stays.1)

  module _ (s : State P S H) (t until sooner : ℕ) (less : sooner ≤ until) where
    sooner_away : (a : Awaits) → StaysAway s until t a → StaysAway s sooner t a
    sooner_away Alone away = away
    sooner_away AnyDeath away = away
    sooner_away Nothing away = λ n h l. refl
    sooner_away (Ring e) away = λ n h l. refl
    sooner_away a away = λ n h l. away n h (omega arith)

    pub dormant_sooner : IsDormant s until t → IsDormant s sooner t
    dormant_sooner q = record {
      away = sooner_away (awaits_in (blocked_of s.control t)) q.away;
      pending = All-weaker (λ e. StaysPending s until e (s.control.events.events e)) (λ e. StaysPending s sooner e (s.control.events.events e))
          (λ e h. sooner_pending s until sooner less e (s.control.events.events e) h) (awaited_events s.control t) q.pending;
      unasked = q.unasked;
    }

  -- ---- by what is read of a thread

  module _ (s : State P S H) (t until : ℕ) (a : Awaited) (is : a ≡ awaited_in (blocked_of s.control t)) where
    module _ (away : StaysAway s until t a.what) (unasked : may_be_canceled s.control t ≡ false) where
      -- it was given no ring
      pub dormant_bare : a.ring ≡ None → IsDormant s until t
      dormant_bare none = record {
        away = subst (λ (b : Awaited). StaysAway s until t b.what) is away;
        pending = subst (ArePending s until) (sym (no_events s.control t a is none)) (All-nil (λ e. StaysPending s until e (s.control.events.events e)));
        unasked = unasked;
      }

      -- it was given a ring
      pub dormant_beside : (own : ℕ) (e : ℤ) → a.ring ≡ Some e → ArePending s own (s.control.events.rings (number e)) → IsDormant s (min until own) t
      dormant_beside own e some pending = record {
        away = sooner_away s t until (min until own) (omega arith) (awaits_in (blocked_of s.control t)) (subst (λ (b : Awaited). StaysAway s until t b.what) is away);
        pending = subst (ArePending s (min until own)) (sym (ring_events s.control t a is e some))
            (All-weaker (λ i. StaysPending s own i (s.control.events.events i)) (λ i. StaysPending s (min until own) i (s.control.events.events i))
            (λ i h. sooner_pending s own (min until own) (omega arith) i (s.control.events.events i) h) (s.control.events.rings (number e)) pending);
        unasked = unasked;
      }

    -- and the reverse
    module _ (q : IsDormant s until t) where
      pub dormant_away : StaysAway s until t a.what
      dormant_away = subst (λ (b : Awaited). StaysAway s until t b.what) (sym is) q.away

      pub dormant_pending : (e : ℤ) → a.ring ≡ Some e → ArePending s until (s.control.events.rings (number e))
      dormant_pending e some = subst (ArePending s until) (ring_events s.control t a is e some) q.pending
