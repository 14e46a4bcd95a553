-- What is consistent of waits stays so: by each change of which the parts of a run are made, and so by each call, end and pass from any
-- state that is.
use Rattle.std.proofs.Common.{◌≡◌, ℕ, suc, true, ℤ, Option, Some, None, refl, sym, subst}
use Rattle.pth_base.specs.Program.{Functions}
use Rattle.pth_base.specs.declared.call.Call.{Call}
use Rattle.pth_base.specs.declared.ids.HandlerId.{HandlerId}
use Rattle.pth_cond.specs.Barriers.{BarrierTable}
use Rattle.pth_cond.specs.Conditions.{ConditionTable}
use Rattle.pth_ring.specs.Rings.{Events}
use Rattle.pth_threads.specs.declared.entry.Entry.{Entry}
use Rattle.pth_model.specs.declared.awaits.Awaits.{Awaits}
use Rattle.pth_model.specs.declared.awaits.Awaits.TheVariants.{Round, Notice}
use Rattle.pth_model.specs.declared.blocked.Blocked.{Blocked}
use Rattle.pth_model.specs.declared.progress.Progress.{Progress}
use Rattle.pth_model.specs.Acts.{act_limit, handled}
use Rattle.pth_model.specs.Awaits.{is_awaiting}
use Rattle.pth_model.specs.Calls.{begun, gone_on}
use Rattle.pth_model.specs.Changes.{blocked_of}
use Rattle.pth_model.specs.Ending.{ending}
use Rattle.pth_model.specs.Part.{moves}
use Rattle.pth_model.specs.Pass.{moment, pass}
use Rattle.pth_model.specs.Store.{Store}
use Rattle.pth_model.specs.Run.{run}
use Rattle.pth_model.specs.State.{State, Given, Turn, start}
use Rattle.pth_laws.specs.Consistent.{AreWaitsConsistent, AwaitsOwn, IsCaller}
use Rattle.pth_laws.proofs.Going.{IsSound}
use Rattle.pth_laws.proofs.NoNotices.{is_notice}
use Rattle.pth_laws.proofs.Along.{KeptAlong, KeptBySteps, acts_keep, begun_keeps, ending_keeps, gone_on_keeps, kept_by_steps, moves_keeps, pass_keeps, closes_keeps, run_keeps}
use Rattle.pth_laws.proofs.Waiting as waiting
use Rattle.pth_laws.proofs.HaveArrived as arrived
use Rattle.pth_laws.proofs.Arrivals as arrivals
use Rattle.pth_laws.proofs.Seated as seated
use Rattle.pth_laws.proofs.HaveSeats as have_seats
use Rattle.pth_laws.proofs.Claimed as claimed
use Rattle.pth_laws.proofs.RingEvents as rings
use Rattle.pth_laws.proofs.EventsSeated as events
use Rattle.pth_laws.proofs.OwnedClaims as claims

-- ---- two things that all changes keep, kept at once

module _ {P S H : Type 0} (f : P → Functions S H) where
  and_kept : (R Q : State P S H → Type 0) → KeptAlong f R → KeptAlong f Q → KeptAlong f (λ s. R s × Q s)
  and_kept R Q x y = record {
    handlers = record {
      shared = λ h s r. (x.handlers.shared h s r.0, y.handlers.shared h s r.1);
      seated = λ c s keeps r. (x.handlers.seated c s keeps r.0, y.handlers.seated c s keeps r.1);
      told = λ m s may r. (x.handlers.told m s may r.0, y.handlers.told m s may r.1);
    };
    placed = λ standing entries raises trail s r. (x.placed standing entries raises trail s r.0, y.placed standing entries raises trail s r.1);
    scheduled = λ z s r. (x.scheduled z s r.0, y.scheduled z s r.1);
    timed = λ z s r. (x.timed z s r.0, y.timed z s r.1);
    used = λ o s r. (x.used o s r.0, y.used o s r.1);
    set = λ t c s safe life r. (x.set t c s safe life r.0, y.set t c s safe life r.1);
    made = λ t b v a s next r. (x.made t b v a s next r.0, y.made t b v a s next r.1);
    forgotten = λ t s gone r. (x.forgotten t s gone r.0, y.forgotten t s gone r.1);
    vanished = λ t s free r. (x.vanished t s free r.0, y.vanished t s free r.1);
    added = λ s r. (x.added s r.0, y.added s r.1);
    bound = λ t s r. (x.bound t s r.0, y.bound t s r.1);
    renewed = λ n s r. (x.renewed n s r.0, y.renewed n s r.1);
    valued = λ a v z s there inside r. (x.valued a v z s there inside r.0, y.valued a v z s there inside r.1);
    destroyed = λ n s r. (x.destroyed n s r.0, y.destroyed n s r.1);
    arranges = λ q s may r. (x.arranges q s may r.0, y.arranges q s may r.1);
    looked = λ s r. (x.looked s r.0, y.looked s r.1);
    barred = λ z s fewer all r. (x.barred z s fewer all r.0, y.barred z s fewer all r.1);
    reached = λ t b round s free alive there waits r. (x.reached t b round s free alive there waits r.0, y.reached t b round s free alive there waits r.1);
    goes = λ t g s same r. (x.goes t g s same r.0, y.goes t g s same r.1);
    blocked = λ t c a s free here other none may r. (x.blocked t c a s free here other none may r.0, y.blocked t c a s free here other none may r.1);
    waits_on = λ t a b s at names stays other plain r. (x.waits_on t a b s at names stays other plain r.0, y.waits_on t a b s at names stays other plain r.1);
    stopped = λ t b c s fewer others seats left gone r. (x.stopped t b c s fewer others seats left gone r.0, y.stopped t b c s fewer others seats left gone r.1);
    takes_seat = λ t c m e s free alive there may r. (x.takes_seat t c m e s free alive there may r.0, y.takes_seat t c m e s free alive there may r.1);
    retakes = λ t c m e a o z s keeps gone at r. (x.retakes t c m e a o z s keeps gone at r.0, y.retakes t c m e a o z s keeps gone at r.1);
  }

-- ---- what is kept, in the forms in which it is proved

module _ {P S H : Type 0} where
  abbrev AreKept : State P S H → Type 0
  AreKept s = waiting.Both s × (arrived.Both s × (seated.AreSeated s × (have_seats.HaveSeats s × (rings.Both s × (events.AreBoth s × claims.AreClaims s)))))

  all_kept : (f : P → Functions S H) → KeptAlong f AreKept
  all_kept f =
      and_kept f _ _ (waiting.rightly_kept f)
      (and_kept f _ _ (arrived.both_kept f)
      (and_kept f _ _ (seated.seated_kept f)
      (and_kept f _ _ (have_seats.seats_kept f)
      (and_kept f _ _ (rings.both_kept f)
      (and_kept f _ _ (events.seated_kept f) (claims.claims_kept f))))))

  all_start : (f : P → Functions S H) (g : Given P) → AreKept (start f g)
  all_start f g = (waiting.rightly_start f g, ((arrivals.arrivals_start f g, arrived.kept_start f g), (seated.seated_start f g, (have_seats.seats_start f g, (rings.both_start f g, (events.seated_start f g, claims.claims_start f g))))))

  consistent : (s : State P S H) → AreKept s → AreWaitsConsistent s
  consistent s k =
      let arrivals_kept = k.1.0 in
      let threads = k.1.1.0 in
      let seats = k.1.1.1.0 in
      let circles = k.1.1.1.1.0 in
      let of_events = k.1.1.1.1.1.0 in
      record {
        own = λ t b at. by_awaits t b at b.awaits refl;
        rightly = waiting.rightly_of s k.0.0;
        levels = k.0.1;
        circles = rings.circles_of s circles;
        held = claimed.held_of s circles.0;
        claims = k.1.1.1.1.1.1.1;
        seated = have_seats.seated_of s seats;
        seats = seated.seats_of s threads;
        event_seats = events.seats_of s of_events.1;
        single = have_seats.single_of s threads.1 of_events.1.right;
        arrived = arrived.arrived_of s arrivals_kept.1;
        arrivals = arrivals.arrivals_of s arrivals_kept.0;
        once = arrivals_kept.1.1;
      }
    where
      by_awaits : (t : ℕ) (b : Blocked) → blocked_of s.control t ≡ Some b → (a : Awaits) → b.awaits ≡ a → AwaitsOwn b.call a
      by_awaits t b at (Round n round) is = arrived.round_own s k.1.0.1 t b at n round is
      by_awaits t b at (Notice c) is = have_seats.notice_own s k.1.1.1.0 t b at (subst (λ (a : Awaits). is_notice a ≡ true) (sym is) refl)
      by_awaits t b at a is = tt

  kept_of : (s : State P S H) → AreWaitsConsistent s → AreKept s
  kept_of s c =
      let circles : rings.Both s = rings.both_in s c.circles c.held in (
        waiting.both_in s c.rightly c.levels,
        (
          (arrivals.arrivals_in s c.own c.arrivals, arrived.kept_in s c.own c.rightly c.arrived c.once),
          (seated.seats_in s c.own c.rightly c.seats c.single, (have_seats.seated_in s c.own c.seated, (circles, ((circles.0, events.seats_in s c.event_seats c.single), (circles.0, c.claims))))),
        ),
      )

-- ---- calls, ends and passes, from any state that is consistent

module _ {P S H : Type 0} (f : P → Functions S H) where
  steps_kept : KeptBySteps f AreKept
  steps_kept = kept_by_steps f AreKept (all_kept f)

  pub consistent_start : (g : Given P) → AreWaitsConsistent (start f g)
  consistent_start g = consistent (start f g) (all_start f g)

  pub consistent_run : (g : Given P) (i : ℕ) → AreWaitsConsistent (run f g i).state
  consistent_run g i = consistent (run f g i).state (run_keeps f AreKept (all_kept f) g (all_start f g) i)

  pub consistent_ended : (t : ℕ) (v : ℤ) (s : State P S H) → AreWaitsConsistent s → AreWaitsConsistent (ending f t v s).state
  consistent_ended t v s c = consistent (ending f t v s).state (ending_keeps f AreKept steps_kept t v s (kept_of s c))

  pub consistent_handled : (t : ℕ) (h : HandlerId) (v : ℤ) (s : State P S H) → AreWaitsConsistent s → AreWaitsConsistent (handled f t h v s).state
  consistent_handled t h v s c = consistent (handled f t h v s).state (acts_keep f AreKept steps_kept.handlers t h v (suc act_limit) 0 s (kept_of s c))

  sound_caller : (t : ℕ) (s : State P S H) → IsCaller s t → IsSound t s.control
  sound_caller t s c = record { made = c.made; alive = c.alive; joins = c.joins; next = c.next; retakes = c.retakes }

  pub consistent_begun : (t : ℕ) (c : Call) (s : State P S H) → IsCaller s t → blocked_of s.control t ≡ None → AreWaitsConsistent s → AreWaitsConsistent (begun f t c s).told.state
  consistent_begun t c s caller free r =
      let uncanceled = subst (λ (o : Option Blocked). s.resources.awaits t ≡ is_awaiting o) free caller.awaits in
      consistent (begun f t c s).told.state (begun_keeps f AreKept steps_kept t c s free (sound_caller t s caller) uncanceled caller.there (kept_of s r))

  pub consistent_gone_on : (t : ℕ) (s : State P S H) → IsCaller s t → AreWaitsConsistent s → AreWaitsConsistent (gone_on f t s).told.state
  consistent_gone_on t s caller r = consistent (gone_on f t s).told.state (gone_on_keeps f AreKept steps_kept t s (sound_caller t s caller) (kept_of s r))

  pub consistent_passed : (s : State P S H) → AreWaitsConsistent s → AreWaitsConsistent (pass f s).state
  consistent_passed s r = consistent (pass f s).state (pass_keeps f AreKept (all_kept f) s (kept_of s r))

  pub consistent_moved : (x : Turn) (s : State P S H) → AreWaitsConsistent s → AreWaitsConsistent (moves f x s).state
  unfolding moves
  consistent_moved x s r = consistent (moves f x s).state (moves_keeps f AreKept steps_kept (pass_keeps f AreKept (all_kept f)) (closes_keeps f AreKept (all_kept f)) x (moment f s) s (kept_of s r))

-- ---- the parts of a state of which this speaks

module _ {P S H : Type 0} where
  -- a state with other parts
  abbrev with_parts : State P S H → (ℕ → Option Entry) → (ℕ → Option (Progress S)) → Events → ConditionTable → BarrierTable → Store → State P S H
  with_parts s known progress events conditions barriers store = record {
    resources = record s.resources { store = store };
    control = record s.control {
      threads = record s.control.threads { known = known; progress = progress };
      events = events;
      conditions = conditions;
      barriers = barriers;
    };
  }

  -- where two states have the same, one is consistent if the other is
  pub consistent_as : (s u : State P S H) → u.control.threads.known ≡ s.control.threads.known → u.control.threads.progress ≡ s.control.threads.progress → u.control.events ≡ s.control.events → u.control.conditions ≡ s.control.conditions → u.control.barriers ≡ s.control.barriers → u.resources.store ≡ s.resources.store → AreWaitsConsistent s → AreWaitsConsistent u
  consistent_as s u known progress events conditions barriers store r =
      let a = subst (λ (x : ℕ → Option Entry). AreWaitsConsistent (with_parts s x s.control.threads.progress s.control.events s.control.conditions s.control.barriers s.resources.store)) (sym known) r in
      let b = subst (λ (x : ℕ → Option (Progress S)). AreWaitsConsistent (with_parts s u.control.threads.known x s.control.events s.control.conditions s.control.barriers s.resources.store)) (sym progress) a in
      let c = subst (λ (x : Events). AreWaitsConsistent (with_parts s u.control.threads.known u.control.threads.progress x s.control.conditions s.control.barriers s.resources.store)) (sym events) b in
      let d = subst (λ (x : ConditionTable). AreWaitsConsistent (with_parts s u.control.threads.known u.control.threads.progress u.control.events x s.control.barriers s.resources.store)) (sym conditions) c in
      let e = subst (λ (x : BarrierTable). AreWaitsConsistent (with_parts s u.control.threads.known u.control.threads.progress u.control.events u.control.conditions x s.resources.store)) (sym barriers) d in
      let z = subst (λ (x : Store). AreWaitsConsistent (with_parts s u.control.threads.known u.control.threads.progress u.control.events u.control.conditions u.control.barriers x)) (sym store) e in
      record {
        own = z.own;
        rightly = z.rightly;
        levels = z.levels;
        circles = record { own = z.circles.own; begun = z.circles.begun; events = z.circles.events; made = z.circles.made; once = z.circles.once; rotated = z.circles.rotated };
        held = record { held = z.held.held; one_claim = z.held.one_claim; one_waits = z.held.one_waits };
        claims = z.claims;
        seated = z.seated;
        seats = z.seats;
        event_seats = z.event_seats;
        single = z.single;
        arrived = z.arrived;
        arrivals = z.arrivals;
        once = z.once;
      }
