-- Who is blocked at a barrier has its arrival there, for the round that it awaits; and no thread has two arrivals at a barrier, or
-- arrivals at two.
use Rattle.std.proofs.Common.{◌≡◌, ◌≤◌, ℕ, ◌+◌, ◌==◌, Bool, true, false, if◌then◌else◌, ℤ, [], Option, Some, None, option_map, Ok, refl, sym, ◌∙◌, ap, subst, arith}
use Rattle.std.proofs.lemmas.Bool.{true≢false}
use Rattle.pth_base.specs.Program.{Functions}
use Rattle.pth_base.specs.declared.call.Call.{Call}
use Rattle.pth_base.specs.declared.call.Call.TheVariants as call
use Rattle.pth_base.proofs.Tables.{same_means, same_fails, put_by}
use Rattle.pth_lock.specs.Objects.{object_named}
use Rattle.pth_cond.specs.declared.barriers.Arrival.TheVariants.{Incomplete}
use Rattle.pth_cond.specs.Conditions.{seat_entered}
use Rattle.pth_model.specs.Conditions.{seat_of}
use Rattle.pth_cond.specs.Barriers.{Barrier, BarrierTable, arrival_answer, barrier_reached, all_withdrawn}
use Rattle.pth_threads.specs.declared.entry.Change as change_of_record
use Rattle.pth_model.specs.declared.awaits.Awaits.{Awaits}
use Rattle.pth_model.specs.declared.awaits.Awaits.TheVariants.{Round, Notice, Retaking}
use Rattle.pth_model.specs.declared.awaits.Retake.{Retake}
use Rattle.pth_model.specs.declared.blocked.Blocked.{Blocked}
use Rattle.pth_model.specs.declared.progress.Progress.{Progress}
use Rattle.pth_model.specs.Awaits.{awaits_in, round_in, is_retaking}
use Rattle.pth_model.specs.State.{State, Given, start, main}
use Rattle.pth_model.specs.Transition.{controlled}
use Rattle.pth_model.specs.Changes.{sets, goes_on, blocking, is_blocked_by, makes, forgets, with_conditions, with_barriers, blocked_in, blocked_of}
use Rattle.pth_model.specs.RingWaits.{claims, gives_back, ring_given, ring_held, stops_waiting}
use Rattle.pth_model.specs.ThreadControl.{values_for, or_first}
use Rattle.pth_model.specs.LibraryControl.{vanish_all_but}
use Rattle.pth_model.specs.Calls.{blocks}
use Rattle.pth_model.specs.Pass.{looks}
use Rattle.pth_model.specs.Run.{run}
use Rattle.pth_laws.specs.Arrivals.{AllHaveArrived, AllArrivedAtOne, NoneArrivedTwice, arrivals_of}
use Rattle.pth_laws.specs.Clean.{has_arrived, has_arrived_here}
use Rattle.pth_laws.specs.Consistent.{AllAwaitOwn, AwaitsOwn}
use Rattle.pth_laws.specs.Waits.{AllWaitRightly, Names}
use Rattle.pth_model.proofs.NoRounds.{is_reaching, is_round, special_none, special_both}
use Rattle.pth_laws.proofs.Rounds.{HasFewer, HasOthers, HasAll, none_counted, fewer_same, all_reached, has_reached, once_reached}
use Rattle.pth_laws.proofs.Allowed.{IsFree, StaysAt}
use Rattle.pth_laws.proofs.Along.{KeptAlong, is_placing, run_keeps}
use Rattle.pth_laws.proofs.Arrivals.{AreArrivals, arrived_blocked, arrivals_kept, arrivals_start, run_arrived}

-- u, which this call blocks, has its arrival for the round that it awaits; and by another call it awaits no round
abbrev Arrives : BarrierTable → ℕ → Call → Awaits → Type 0
Arrives x u (call.BarrierReach b) a = (a ≡ Round b (round_in a)) × (has_arrived x (object_named b) (round_in a) u ≡ true)
Arrives x u c a = is_round a ≡ false

abbrev HasOwn : BarrierTable → ℕ → Option Blocked → Type 0
HasOwn x u None = Unit {0}
HasOwn x u (Some d) = Arrives x u d.call d.awaits

-- a call that takes no place where it waits reaches no barrier
places_not : (c : Call) → is_placing c ≡ false → is_reaching c ≡ false
places_not (call.BarrierReach b) other = other
places_not c other = refl

-- where its arrivals are not lost
arrives_on : (x y : BarrierTable) (u : ℕ) (c : Call) (a : Awaits) → ((b round : ℕ) → has_arrived y b round u ≡ true → has_arrived x b round u ≡ true) → Arrives y u c a → Arrives x u c a
arrives_on x y u (call.BarrierReach b) a all own = (own.0, all (object_named b) (round_in a) own.1)
arrives_on x y u c a all own = own

own_on : (x y : BarrierTable) (u : ℕ) (o : Option Blocked) → ((b round : ℕ) → has_arrived y b round u ≡ true → has_arrived x b round u ≡ true) → HasOwn y u o → HasOwn x u o
own_on x y u None all own = tt
own_on x y u (Some d) all own = arrives_on x y u d.call d.awaits all own

-- another call blocks it
other_arrives : (x : BarrierTable) (u : ℕ) (c : Call) (a : Awaits) → is_reaching c ≡ false → is_round a ≡ false → Arrives x u c a
other_arrives x u (call.BarrierReach b) a other none = absurd (true≢false other)
other_arrives x u c a other none = none

-- by another call than a pth_barrier_reach no round is awaited
other_round : (c : Call) (a : Awaits) → is_reaching c ≡ false → AwaitsOwn c a → is_round a ≡ false
other_round c (Round b round) other own = absurd (true≢false (sym (ap is_reaching own) ∙ other))
other_round c a other own = refl

-- it waits on, for the same round
stays_arrived : (x : BarrierTable) (u : ℕ) (c : Call) (a now : Awaits) → StaysAt c a now → is_retaking a ≡ false → Arrives x u c a → Arrives x u c now
stays_arrived x u (call.BarrierReach b) a now stays plain own = subst (Arrives x u (call.BarrierReach b)) (own.0 ∙ sym stays) own
stays_arrived x u c a now stays plain own = (special_none now (stays (special_both a own plain))).0

-- this blocks t now, or nothing does
own_blocked : {S : Type 0} (x : BarrierTable) (t : ℕ) (d : Blocked) (p : Option (Progress S)) → Arrives x t d.call d.awaits → HasOwn x t (blocked_in (option_map (blocking (Some d)) p))
own_blocked x t d None own = tt
own_blocked x t d (Some p) own = own

own_none : {S : Type 0} (x : BarrierTable) (t : ℕ) (p : Option (Progress S)) → HasOwn x t (blocked_in (option_map (blocking None) p))
own_none x t None = tt
own_none x t (Some p) = tt

-- no thread has two arrivals anywhere
abbrev IsOnce : BarrierTable → Type 0
IsOnce x = (b t : ℕ) → arrivals_of t (x b) ≤ 1

once_fewer : (x y : BarrierTable) → HasFewer x y → IsOnce y → IsOnce x
once_fewer x y fewer once b t = omega (arith, (fewer b).times t, once b t)

once_withdrawn : (x : BarrierTable) → IsOnce (all_withdrawn x)
once_withdrawn x b t = by_barrier (x b)
  where
    by_barrier : (o : Option Barrier) → arrivals_of t (option_map (λ (y : Barrier). record y { arrivals = [] }) o) ≤ 1
    by_barrier None = omega arith
    by_barrier (Some y) = omega arith

-- who has no arrival for any round has none
none_there : (t : ℕ) (o : Option Barrier) → ((round : ℕ) → has_arrived_here round t o ≡ true → ⊥) → arrivals_of t o ≡ 0
none_there t None none = refl
none_there t (Some y) none = none_counted t y.arrivals none

same_first : (b d i j : ℕ) → ◌≡◌ {A = Option (ℕ × ℕ)} (Some (b, i)) (Some (d, j)) → b ≡ d
same_first b d i j h =
    let one : ◌≡◌ {A = ℕ × ℕ} (b, i) (d, j) = cc in
    ap (λ (p : ℕ × ℕ). p.0) one

-- a round is that of one barrier
same_barrier : (d x : ℤ) (n k : ℕ) → Round d n ≡ Round x k → d ≡ x
same_barrier d x n k h = cc

-- ---- changes

module _ {P S H : Type 0} where
  abbrev HaveOwn : State P S H → Type 0
  HaveOwn s = (u : ℕ) → HasOwn s.control.barriers u (blocked_of s.control u)

  abbrev IsKept : State P S H → Type 0
  IsKept s = HaveOwn s × IsOnce s.control.barriers

  kept_set : (t : ℕ) (c : change_of_record.Change) (s : State P S H) → IsKept s → IsKept (controlled (sets t c) s)
  unfolding sets
  kept_set t c s r = r

  kept_made : (f : P → Functions S H) (t b : ℕ) (v a : ℤ) (s : State P S H) → IsKept s → IsKept (controlled (makes f b v (or_first (values_for s.control t a))) s)
  unfolding makes
  kept_made f t b v a s r = (λ u. put_by (λ o. HasOwn s.control.barriers u (blocked_in o)) s.control.threads.progress (s.control.threads.made + 1) _ u (λ here. tt) (λ other. r.0 u), r.1)

  kept_forgotten : (t : ℕ) (s : State P S H) → IsKept s → IsKept (controlled (forgets t) s)
  unfolding forgets
  kept_forgotten t s r = (λ u. put_by (λ o. HasOwn s.control.barriers u (blocked_in o)) s.control.threads.progress t None u (λ here. tt) (λ other. r.0 u), r.1)

  kept_vanished : (t : ℕ) (s : State P S H) → IsFree t s → IsKept (controlled (vanish_all_but t) s)
  unfolding vanish_all_but
  kept_vanished t s free = (λ u. by_number u (u == t) refl, once_withdrawn s.control.barriers)
    where
      by_number : (u : ℕ) (own : Bool) → (u == t) ≡ own → HasOwn (all_withdrawn s.control.barriers) u (blocked_in (if own then s.control.threads.progress u else None))
      by_number u true same = subst (HasOwn (all_withdrawn s.control.barriers) u) (sym (ap (blocked_of s.control) (same_means u t same) ∙ free)) tt
      by_number u false other = tt

  kept_looked : (f : P → Functions S H) (s : State P S H) → IsKept s → IsKept (controlled (looks f s) s)
  unfolding looks
  kept_looked f s r = r

  kept_barred : (x : BarrierTable) (s : State P S H) → HasFewer x s.control.barriers → HasAll x s.control.barriers → IsKept s → IsKept (controlled (with_barriers (λ y. x)) s)
  kept_barred x s fewer all r = (λ u. own_on x s.control.barriers u (blocked_of s.control u) (λ b round h. all b round u h) (r.0 u), once_fewer x s.control.barriers fewer r.1)

  -- what blocks t changes, and maybe the barriers
  own_goes : (x : BarrierTable) (t : ℕ) (g : Progress S → Progress S) (s : State P S H) → HasOthers t x s.control.barriers → HasOwn x t (blocked_in (option_map g (s.control.threads.progress t))) → HaveOwn s → HaveOwn (controlled (λ k. goes_on t g (with_barriers (λ y. x) k)) s)
  unfolding goes_on
  own_goes x t g s others own r u =
      put_by (λ o. HasOwn x u (blocked_in o)) s.control.threads.progress t (option_map g (s.control.threads.progress t)) u
      (λ here. subst (λ (v : ℕ). HasOwn x v (blocked_in (option_map g (s.control.threads.progress t)))) (sym here) own)
      (λ apart. own_on x s.control.barriers u (blocked_of s.control u) (λ b round h. others b round u apart h) (r u))

  own_still : (t : ℕ) (g : Progress S → Progress S) (s : State P S H) → HasOwn s.control.barriers t (blocked_in (option_map g (s.control.threads.progress t))) → HaveOwn s → HaveOwn (controlled (goes_on t g) s)
  own_still t g s own r = own_goes s.control.barriers t g s (λ b round u apart h. h) own r

  once_goes : (t : ℕ) (g : Progress S → Progress S) (s : State P S H) → IsOnce s.control.barriers → IsOnce (controlled (goes_on t g) s).control.barriers
  unfolding goes_on
  once_goes t g s once = once

  kept_goes : (t : ℕ) (g : Progress S → Progress S) (s : State P S H) → ((p : Progress S) → (g p).blocked ≡ p.blocked) → IsKept s → IsKept (controlled (goes_on t g) s)
  kept_goes t g s same r = (own_still t g s (subst (HasOwn s.control.barriers t) (sym (by_progress (s.control.threads.progress t))) (r.0 t)) r.0, once_goes t g s r.1)
    where
      by_progress : (p : Option (Progress S)) → blocked_in (option_map g p) ≡ blocked_in p
      by_progress None = refl
      by_progress (Some p) = same p

  kept_claimed : (t : ℕ) (e : Option ℤ) (s : State P S H) → IsKept s → IsKept (controlled (claims t e) s)
  unfolding claims
  kept_claimed t None s r = r
  kept_claimed t (Some e) s r = r

  kept_returned : (e : Option ℤ) (s : State P S H) → IsKept s → IsKept (controlled (gives_back e) s)
  unfolding gives_back
  kept_returned None s r = r
  kept_returned (Some e) s r = r

  -- another call blocks t
  kept_blocked : (t : ℕ) (c : Call) (a : Awaits) (s : State P S H) → is_reaching c ≡ false → is_round a ≡ false → IsKept s → IsKept (controlled (λ k. blocks t c a (claims t (ring_given c) k)) s)
  kept_blocked t c a s other none r =
      let d : Blocked = record { call = c; awaits = a } in
      let x = controlled (claims t (ring_given c)) s in
      let all = kept_claimed t (ring_given c) s r in
      (own_still t (blocking (Some d)) x (own_blocked x.control.barriers t d (x.control.threads.progress t) (other_arrives x.control.barriers t c a other none)) all.0, once_goes t (blocking (Some d)) x all.1)

  -- t arrives, and waits
  kept_reached : (t : ℕ) (b : ℤ) (round : ℕ) (s : State P S H) → ((n i : ℕ) → has_arrived s.control.barriers n i t ≡ true → ⊥) → arrival_answer s.control.barriers b ≡ Ok (Incomplete round) → IsKept s → IsKept (controlled (λ k. blocks t (call.BarrierReach b) (Round b round) (with_barriers (barrier_reached b t) k)) s)
  kept_reached t b round s none waits r =
      let x = barrier_reached b t s.control.barriers in
      let d : Blocked = record { call = call.BarrierReach b; awaits = Round b round } in (
        own_goes x t (blocking (Some d)) s (λ n i u apart h. all_reached b t s.control.barriers n i u h) (own_blocked x t d (s.control.threads.progress t) (refl, has_reached b t round s.control.barriers waits)) r.0,
        once_goes t (blocking (Some d)) (controlled (with_barriers (barrier_reached b t)) s) (once_reached b t s.control.barriers none r.1),
      )

  -- t waits on
  kept_on : (t : ℕ) (a : Awaits) (d : Blocked) (s : State P S H) → blocked_of s.control t ≡ Some d → StaysAt d.call d.awaits a → is_retaking d.awaits ≡ false → IsKept s → IsKept (controlled (is_blocked_by t (Some (record d { awaits = a }))) s)
  kept_on t a d s at stays plain r =
      let now : Blocked = record d { awaits = a } in
      let own = stays_arrived s.control.barriers t d.call d.awaits a stays plain (subst (HasOwn s.control.barriers t) at (r.0 t)) in
      (own_still t (blocking (Some now)) s (own_blocked s.control.barriers t now (s.control.threads.progress t) own) r.0, once_goes t (blocking (Some now)) s r.1)

  -- no call blocks t any longer
  kept_stopped : (t : ℕ) (x : BarrierTable) (s : State P S H) → HasFewer x s.control.barriers → HasOthers t x s.control.barriers → IsKept s → IsKept (controlled (λ k. stops_waiting t (with_barriers (λ y. x) k)) s)
  unfolding stops_waiting
  kept_stopped t x s fewer others r =
      let a = controlled (with_barriers (λ y. x)) s in
      kept_returned (ring_held (blocked_of s.control t)) (controlled (is_blocked_by t None) a) (own_goes x t (blocking None) s others (own_none x t (s.control.threads.progress t)) r.0, once_goes t (blocking None) a (once_fewer x s.control.barriers fewer r.1))

  -- and a pth_cond_await takes its mutex back
  kept_retakes : (t : ℕ) (c m e : ℤ) (o : Retake) (s : State P S H) → IsKept s → IsKept (controlled (λ k. blocks t (call.CondAwait c m e) (Retaking m o) (stops_waiting t k)) s)
  kept_retakes t c m e o s r =
      let d : Blocked = record { call = call.CondAwait c m e; awaits = Retaking m o } in
      let x = controlled (stops_waiting t) s in
      let all = kept_stopped t s.control.barriers s (λ b. fewer_same (s.control.barriers b)) (λ b round u apart h. h) r in
      (own_still t (blocking (Some d)) x (own_blocked x.control.barriers t d (x.control.threads.progress t) refl) all.0, once_goes t (blocking (Some d)) x all.1)

  -- ---- every run

  abbrev pub Both : State P S H → Type 0
  Both s = AreArrivals s × IsKept s

  pub both_kept : (f : P → Functions S H) → KeptAlong f Both
  both_kept f = let k = arrivals_kept f in record {
    handlers = record {
      shared = λ h s r. r;
      seated = λ x s fewer r. r;
      told = λ m s may r. r;
    };
    placed = λ standing entries raises trail s r. r;
    scheduled = λ x s r. r;
    timed = λ x s r. r;
    used = λ o s r. r;
    set = λ t c s safe life r. (k.set t c s safe life r.0, kept_set t c s r.1);
    made = λ t b v a s next r. (k.made t b v a s next r.0, kept_made f t b v a s r.1);
    forgotten = λ t s gone r. (k.forgotten t s gone r.0, kept_forgotten t s r.1);
    vanished = λ t s free r. (k.vanished t s free r.0, kept_vanished t s free);
    added = λ s r. r;
    bound = λ t s r. r;
    renewed = λ n s r. r;
    valued = λ a v x s there inside r. r;
    destroyed = λ n s r. r;
    arranges = λ x s may r. r;
    looked = λ s r. (k.looked s r.0, kept_looked f s r.1);
    barred = λ x s fewer all r. (k.barred x s fewer all r.0, kept_barred x s fewer all r.1);
    reached = λ t b round s free alive there waits r. (k.reached t b round s free alive there waits r.0, kept_reached t b round s (λ n i h. arrived_blocked s n i t free r.0 h) waits r.1);
    goes = λ t g s same r. (k.goes t g s same r.0, kept_goes t g s same r.1);
    blocked = λ t c a s free here other none may r. (k.blocked t c a s free here other none may r.0, kept_blocked t c a s (places_not c other) (special_none a none.0).0 r.1);
    waits_on = λ t a b s at names stays other plain r. (k.waits_on t a b s at names stays other plain r.0, kept_on t a b s at stays plain.0 r.1);
    stopped = λ t x y s fewer others seats left gone r. (k.stopped t x y s fewer others seats left gone r.0, kept_stopped t x (controlled (with_conditions (λ z. y)) s) fewer others r.1);
    takes_seat = λ t c m e s free alive there may r. (k.takes_seat t c m e s free alive there may r.0, kept_blocked t (call.CondAwait c m e) (Notice c) (controlled (with_conditions (seat_entered c (seat_of t))) s) refl refl r.1);
    retakes = λ t c m e a o y s fewer gone at r. (k.retakes t c m e a o y s fewer gone at r.0, kept_retakes t c m e o (controlled (with_conditions (λ z. y)) s) r.1);
  }

  pub kept_start : (f : P → Functions S H) (g : Given P) → IsKept (start f g)
  unfolding start
  kept_start f g = (λ u. put_by (λ (o : Option (Progress S)). HasOwn (start f g).control.barriers u (blocked_in o)) (λ v. None) main _ u (λ here. tt) (λ other. tt), λ b t. omega arith)

  run_kept : (f : P → Functions S H) (g : Given P) (i : ℕ) → IsKept (run f g i).state
  run_kept f g i = (run_keeps f Both (both_kept f) g (arrivals_start f g, kept_start f g) i).1

  pub run_once : (f : P → Functions S H) (g : Given P) (i : ℕ) → NoneArrivedTwice (run f g i).state
  run_once f g i = (run_kept f g i).1

  -- who has an arrival waits for its round, and so at its barrier alone
  pub run_at_one : (f : P → Functions S H) (g : Given P) (i : ℕ) → AllArrivedAtOne (run f g i).state
  run_at_one f g i b d t here there = by_number (b == d) refl
    where
      x : BarrierTable
      x = (run f g i).state.control.barriers

      at_one : (round other : ℕ) → has_arrived x b round t ≡ true → has_arrived x d other t ≡ true → b ≡ d
      at_one round other h k = same_first b d round other (sym (run_arrived f g i b round t h).1 ∙ (run_arrived f g i d other t k).1)

      by_number : (same : Bool) → (b == d) ≡ same → b ≡ d
      by_number true same = same_means b d same
      by_number false other =
          let apart = same_fails b d other in
          let none_at : (round : ℕ) → has_arrived x b round t ≡ true → arrivals_of t (x d) ≡ 0 = λ round h. none_there t (x d) (λ i k. apart (at_one round i h k)) in
          let none : arrivals_of t (x b) ≡ 0 = none_there t (x b) (λ round h. let gone = none_at round h in absurd (omega (arith, gone, there))) in
          absurd (omega (arith, none, here))

  pub arrived_of : (s : State P S H) → IsKept s → AllHaveArrived s
  arrived_of s kept t round b h = by_blocked (blocked_of s.control t) (kept.0 t) h
    where
      x : BarrierTable
      x = s.control.barriers

      by_call : (c : Call) (a : Awaits) → Arrives x t c a → a ≡ Round b round → has_arrived x (object_named b) round t ≡ true
      by_call (call.BarrierReach d) a own h =
          let named : d ≡ b = same_barrier d b (round_in a) round (sym own.0 ∙ h) in
          let number : round_in a ≡ round = ap round_in h in
          ap (λ i. has_arrived x (object_named i) round t) (sym named) ∙ ap (λ n. has_arrived x (object_named d) n t) (sym number) ∙ own.1
      by_call c a own h = absurd (true≢false (sym (ap is_round h) ∙ own))

      by_blocked : (o : Option Blocked) → HasOwn x t o → awaits_in o ≡ Round b round → has_arrived x (object_named b) round t ≡ true
      by_blocked None own h = absurd (cc h)
      by_blocked (Some d) own h = by_call d.call d.awaits own h

  pub run_arrives : (f : P → Functions S H) (g : Given P) (i : ℕ) → AllHaveArrived (run f g i).state
  run_arrives f g i = arrived_of (run f g i).state (run_kept f g i)

  -- who waits for a round is blocked by a pth_barrier_reach of its barrier
  pub round_own : (s : State P S H) → IsKept s → (t : ℕ) (d : Blocked) → blocked_of s.control t ≡ Some d → (b : ℤ) (round : ℕ) → d.awaits ≡ Round b round → d.call ≡ call.BarrierReach b
  round_own s kept t d at b round h = by_call d.call d.awaits (subst (HasOwn s.control.barriers t) at (kept.0 t)) h
    where
      by_call : (c : Call) (a : Awaits) → Arrives s.control.barriers t c a → a ≡ Round b round → c ≡ call.BarrierReach b
      by_call (call.BarrierReach n) a own h = ap (λ (i : ℤ). call.BarrierReach i) (same_barrier n b (round_in a) round (sym own.0 ∙ h))
      by_call c a own h = absurd (true≢false (sym (ap is_round h) ∙ own))

  -- and the other way round
  pub kept_in : (s : State P S H) → AllAwaitOwn s → AllWaitRightly s → AllHaveArrived s → NoneArrivedTwice s → IsKept s
  kept_in s own rightly arrived once = ((λ u. by_blocked u (blocked_of s.control u) refl), once)
    where
      by_call : (u : ℕ) (d : Blocked) → blocked_of s.control u ≡ Some d → (c : Call) → AwaitsOwn c d.awaits → Names c d.awaits → Arrives s.control.barriers u c d.awaits
      by_call u d at (call.BarrierReach b) may named = (named, arrived u (round_in d.awaits) b (ap awaits_in at ∙ named))
      by_call u d at c may named = other_round c d.awaits refl may

      by_blocked : (u : ℕ) (o : Option Blocked) → blocked_of s.control u ≡ o → HasOwn s.control.barriers u o
      by_blocked u None at = tt
      by_blocked u (Some d) at = by_call u d at d.call (own u d at) (rightly u d at).0
