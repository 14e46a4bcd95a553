-- An arrival that waits at a barrier is that of a thread that lives, whose call waits there for its round.
use Rattle.std.proofs.Common.{◌≡◌, ◌≢◌, ℕ, ◌+◌, Bool, true, false, ℤ, ◌⊎◌, inl, inr, Option, Some, None, is_some, option_map, Ok, refl, sym, ◌∙◌, ap, subst}
use Rattle.std.proofs.lemmas.Bool.{true≢false}
use Rattle.std.proofs.lemmas.Option.{none-some}
use Rattle.pth_base.specs.Program.{Functions}
use Rattle.pth_base.specs.Table.{put}
use Rattle.pth_base.specs.declared.call.Call.{Call}
use Rattle.pth_base.specs.declared.call.Call.TheVariants as call
use Rattle.pth_base.specs.declared.thread.ThreadState.TheVariants as state
use Rattle.pth_base.proofs.Tables.{put_by, put_here, put_other}
use Rattle.pth_lock.specs.Objects.{object_named}
use Rattle.pth_cond.specs.declared.barriers.Arrival.TheVariants.{Incomplete}
use Rattle.pth_cond.specs.Conditions.{seat_entered}
use Rattle.pth_model.specs.Conditions.{seat_of}
use Rattle.pth_cond.specs.Barriers.{BarrierTable, arrival_answer, barrier_reached}
use Rattle.pth_threads.specs.Threads.{changed}
use Rattle.pth_threads.specs.declared.entry.Change as change_of_record
use Rattle.pth_threads.specs.declared.entry.Change.TheVariants as change
use Rattle.pth_threads.specs.declared.entry.Entry.{Entry}
use Rattle.pth_model.specs.declared.awaits.Awaits.{Awaits}
use Rattle.pth_model.specs.declared.awaits.Awaits.TheVariants.{Round, Notice, Retaking}
use Rattle.pth_model.specs.declared.awaits.Retake.{Retake}
use Rattle.pth_model.specs.Awaits.{is_awaiting}
use Rattle.pth_model.specs.declared.blocked.Blocked.{Blocked}
use Rattle.pth_model.specs.declared.progress.Progress.{Progress}
use Rattle.pth_model.specs.State.{State, Given, start}
use Rattle.pth_model.specs.Transition.{controlled}
use Rattle.pth_model.specs.Changes.{sets, goes_on, blocking, is_blocked_by, makes, forgets, with_conditions, with_barriers, blocked_in, blocked_of}
use Rattle.pth_model.specs.Living.{lives}
use Rattle.pth_model.specs.RingWaits.{claims, gives_back, ring_given, ring_held, stops_waiting}
use Rattle.pth_model.specs.ThreadControl.{values_for, or_first}
use Rattle.pth_model.specs.LibraryControl.{vanish_all_but}
use Rattle.pth_model.specs.Calls.{blocks}
use Rattle.pth_model.specs.Pass.{looks}
use Rattle.pth_model.specs.Run.{run}
use Rattle.pth_laws.specs.Clean.{AreArrivalsOwned, has_arrived, round_awaited, round_held}
use Rattle.pth_laws.specs.Consistent.{AllAwaitOwn, AwaitsOwn}
use Rattle.pth_laws.proofs.Rounds.{HasFewer, arrives, none_arrived, arrived_waits}
use Rattle.pth_laws.proofs.Allowed.{IsFree, StaysAt, HasLeft, stopped_free}
use Rattle.pth_laws.proofs.Along.{KeptAlong, IsLifeSafe, IsGone, run_keeps}

-- a call of pth_barrier_reach blocks a thread, for this round of the barrier of this number
pub record WaitsFor (b round : ℕ) (o : Option Blocked) : Type 0 where
  pub barrier : ℤ
  pub named : object_named barrier ≡ b
  pub blocked : o ≡ Some (record { call = call.BarrierReach barrier; awaits = Round barrier round })

-- who waits for a round is blocked by a call of pth_barrier_reach, where it waits for what it may
waits_for : (b round : ℕ) (o : Option Blocked) → ((d : Blocked) → o ≡ Some d → AwaitsOwn d.call d.awaits) → round_held o ≡ Some (b, round) → WaitsFor b round o
waits_for b round None own h = absurd (cc h)
waits_for b round (Some d) own h = by_awaits d.awaits refl (own d refl) h
  where
    by_awaits : (a : Awaits) → d.awaits ≡ a → AwaitsOwn d.call a → round_awaited a ≡ Some (b, round) → WaitsFor b round (Some d)
    by_awaits (Round x n) is called h =
        let pair : ◌≡◌ {A = ℕ × ℕ} (object_named x, n) (b, round) = cc in
        record {
          barrier = x;
          named = ap (λ (p : ℕ × ℕ). p.0) pair;
          blocked = ap (λ (c : Call). Some (record { call = c; awaits = d.awaits })) called ∙ ap (λ (a : Awaits). Some (record { call = call.BarrierReach x; awaits = a })) (is ∙ ap (λ (p : ℕ × ℕ). Round x p.1) pair);
        }
    by_awaits a is called h = absurd (cc h)

none_waits : (b round : ℕ) → WaitsFor b round None → ⊥
none_waits b round w = none-some (record { call = call.BarrierReach w.barrier; awaits = Round w.barrier round }) w.blocked

-- what blocks t, once this does
pub blocks_so : {S : Type 0} (t : ℕ) (o : Option Blocked) (progress : ℕ → Option (Progress S)) → is_some (progress t) ≡ true → blocked_in (put progress t (option_map (blocking o) (progress t)) t) ≡ o
blocks_so {S = S} t o progress there = ap blocked_in (put_here progress t (option_map (blocking o) (progress t))) ∙ by_progress (progress t) there
  where
    by_progress : (p : Option (Progress S)) → is_some p ≡ true → blocked_in (option_map (blocking o) p) ≡ o
    by_progress None h = absurd (true≢false (sym h))
    by_progress (Some p) h = refl

-- whom a call blocks is in the system
blocked_there : {S : Type 0} (p : Option (Progress S)) (b : Blocked) → blocked_in p ≡ Some b → is_some p ≡ true
blocked_there None b h = absurd (none-some b h)
blocked_there (Some p) b h = refl

-- whoever lives does after a change, unless it dies
abbrev pub is_dying : change_of_record.Change → Bool
is_dying (change.State state.Dead) = true
is_dying c = false

pub lives_on : (c : change_of_record.Change) (o : Option Entry) → is_dying c ≡ false → lives o ≡ true → lives (option_map (changed c) o) ≡ true
unfolding changed
lives_on c None goes alive = absurd (true≢false (sym alive))
lives_on (change.State state.Dead) (Some e) goes alive = absurd (true≢false goes)
lives_on (change.State at) (Some e) goes alive = refl
lives_on c (Some e) goes alive = alive

module _ {S : Type 0} where
  -- each arrival of these is that of a thread that lives, whose call waits so
  abbrev pub IsWaitedIn : BarrierTable → (ℕ → Option Entry) → (ℕ → Option (Progress S)) → Type 0
  IsWaitedIn x known progress = (b round u : ℕ) → has_arrived x b round u ≡ true → (lives (known u) ≡ true) × WaitsFor b round (blocked_in (progress u))

  -- another record under a number whose thread has not arrived anywhere
  arrivals_apart : (x : BarrierTable) (t : ℕ) (known : ℕ → Option Entry) (progress : ℕ → Option (Progress S)) (e : Option Entry) (p : Option (Progress S)) → ((b round : ℕ) → has_arrived x b round t ≡ true → ⊥) → IsWaitedIn x known progress → IsWaitedIn x (put known t e) (put progress t p)
  arrivals_apart x t known progress e p none r b round u h =
      let apart : u ≢ t = λ here. none b round (ap (has_arrived x b round) (sym here) ∙ h) in
      (ap lives (put_other known t e u apart) ∙ (r b round u h).0, subst (λ (o : Option (Progress S)). WaitsFor b round (blocked_in o)) (sym (put_other progress t p u apart)) (r b round u h).1)

-- ---- changes

module _ {P S H : Type 0} where
  abbrev pub AreArrivals : State P S H → Type 0
  AreArrivals s = IsWaitedIn s.control.barriers s.control.threads.known s.control.threads.progress

  -- who has arrived is blocked
  pub arrived_blocked : (s : State P S H) (b round t : ℕ) → IsFree t s → AreArrivals s → has_arrived s.control.barriers b round t ≡ true → ⊥
  arrived_blocked s b round t free r h = none_waits b round (subst (WaitsFor b round) free (r b round t h).1)

  arrivals_set : (t : ℕ) (c : change_of_record.Change) (s : State P S H) → IsLifeSafe t c s → AreArrivals s → AreArrivals (controlled (sets t c) s)
  unfolding sets
  arrivals_set t c s life r b round u h = (put_by (λ o. lives o ≡ true) s.control.threads.known t (option_map (changed c) (s.control.threads.known t)) u (λ here. by_change c life (here_arrived here)) (λ other. (r b round u h).0), (r b round u h).1)
    where
      here_arrived : u ≡ t → has_arrived s.control.barriers b round t ≡ true
      here_arrived here = ap (has_arrived s.control.barriers b round) (sym here) ∙ h

      by_change : (c : change_of_record.Change) → IsLifeSafe t c s → has_arrived s.control.barriers b round t ≡ true → lives (option_map (changed c) (s.control.threads.known t)) ≡ true
      by_change (change.State state.Dead) free own = absurd (arrived_blocked s b round t free r own)
      by_change (change.State at) free own = lives_on (change.State at) (s.control.threads.known t) refl (r b round t own).0
      by_change c free own = lives_on c (s.control.threads.known t) refl (r b round t own).0

  arrivals_made : (f : P → Functions S H) (t b : ℕ) (v a : ℤ) (s : State P S H) → lives (s.control.threads.known (s.control.threads.made + 1)) ≡ false → AreArrivals s → AreArrivals (controlled (makes f b v (or_first (values_for s.control t a))) s)
  unfolding makes
  arrivals_made f t b v a s next r = arrivals_apart s.control.barriers (s.control.threads.made + 1) s.control.threads.known s.control.threads.progress _ _ (λ i round h. true≢false (sym (r i round (s.control.threads.made + 1) h).0 ∙ next)) r

  arrivals_forgotten : (t : ℕ) (s : State P S H) → IsGone t s → AreArrivals s → AreArrivals (controlled (forgets t) s)
  unfolding forgets
  arrivals_forgotten t s gone r = arrivals_apart s.control.barriers t s.control.threads.known s.control.threads.progress None None (λ b round h. none b round gone h) r
    where
      none : (b round : ℕ) → IsGone t s → has_arrived s.control.barriers b round t ≡ true → ⊥
      none b round (inl free) h = arrived_blocked s b round t free r h
      none b round (inr dead) h = true≢false (sym (r b round t h).0 ∙ dead)

  arrivals_vanished : (t : ℕ) (s : State P S H) → AreArrivals (controlled (vanish_all_but t) s)
  unfolding vanish_all_but
  arrivals_vanished t s b round u h = absurd (true≢false (sym h ∙ none_arrived s.control.barriers b round u))

  arrivals_looked : (f : P → Functions S H) (s : State P S H) → AreArrivals s → AreArrivals (controlled (looks f s) s)
  unfolding looks
  arrivals_looked f s r = r

  -- what blocks t changes
  arrivals_goes : (t : ℕ) (g : Progress S → Progress S) (s : State P S H) → ((b round : ℕ) → has_arrived s.control.barriers b round t ≡ true → WaitsFor b round (blocked_in (option_map g (s.control.threads.progress t)))) → AreArrivals s → AreArrivals (controlled (goes_on t g) s)
  unfolding goes_on
  arrivals_goes t g s own r b round u h = ((r b round u h).0, put_by (λ (o : Option (Progress S)). WaitsFor b round (blocked_in o)) s.control.threads.progress t (option_map g (s.control.threads.progress t)) u (λ here. own b round (ap (has_arrived s.control.barriers b round) (sym here) ∙ h)) (λ other. (r b round u h).1))

  same_goes : (t : ℕ) (g : Progress S → Progress S) (s : State P S H) → ((p : Progress S) → (g p).blocked ≡ p.blocked) → AreArrivals s → AreArrivals (controlled (goes_on t g) s)
  same_goes t g s same r = arrivals_goes t g s (λ b round h. subst (WaitsFor b round) (sym (by_progress (s.control.threads.progress t))) (r b round t h).1) r
    where
      by_progress : (p : Option (Progress S)) → blocked_in (option_map g p) ≡ blocked_in p
      by_progress None = refl
      by_progress (Some p) = same p

  arrivals_claimed : (t : ℕ) (e : Option ℤ) (s : State P S H) → AreArrivals s → AreArrivals (controlled (claims t e) s)
  unfolding claims
  arrivals_claimed t None s r = r
  arrivals_claimed t (Some e) s r = r

  arrivals_returned : (e : Option ℤ) (s : State P S H) → AreArrivals s → AreArrivals (controlled (gives_back e) s)
  unfolding gives_back
  arrivals_returned None s r = r
  arrivals_returned (Some e) s r = r

  claimed_free : (t : ℕ) (e : Option ℤ) (s : State P S H) → IsFree t s → IsFree t (controlled (claims t e) s)
  unfolding claims
  claimed_free t None s free = free
  claimed_free t (Some e) s free = free

  -- another call blocks t, which was free
  arrivals_blocked : (t : ℕ) (c : Call) (a : Awaits) (s : State P S H) → IsFree t s → AreArrivals s → AreArrivals (controlled (λ k. blocks t c a (claims t (ring_given c) k)) s)
  arrivals_blocked t c a s free r =
      let x = controlled (claims t (ring_given c)) s in
      let all = arrivals_claimed t (ring_given c) s r in
      arrivals_goes t (blocking (Some (record { call = c; awaits = a }))) x (λ b round h. absurd (arrived_blocked x b round t (claimed_free t (ring_given c) s free) all h)) all

  -- t arrives, and waits
  arrivals_reached : (t : ℕ) (b : ℤ) (round : ℕ) (s : State P S H) → IsFree t s → lives (s.control.threads.known t) ≡ true → is_some (s.control.threads.progress t) ≡ true → arrival_answer s.control.barriers b ≡ Ok (Incomplete round) → AreArrivals s → AreArrivals (controlled (λ k. blocks t (call.BarrierReach b) (Round b round) (with_barriers (barrier_reached b t) k)) s)
  unfolding goes_on
  arrivals_reached t b round s free alive there waits r n i u h = by_arrival (arrives b t round s.control.barriers waits n i u h)
    where
      now : Option Blocked
      now = Some (record { call = call.BarrierReach b; awaits = Round b round })

      progress : ℕ → Option (Progress S)
      progress = put s.control.threads.progress t (option_map (blocking now) (s.control.threads.progress t))

      by_arrival : ((n ≡ object_named b) × (i ≡ round) × (u ≡ t)) ⊎ (has_arrived s.control.barriers n i u ≡ true) → (lives (s.control.threads.known u) ≡ true) × WaitsFor n i (blocked_in (progress u))
      by_arrival (inl own) = (
        ap (λ v. lives (s.control.threads.known v)) own.2 ∙ alive,
        record {
          barrier = b;
          named = sym own.0;
          blocked = ap (λ v. blocked_in (progress v)) own.2 ∙ blocks_so t now s.control.threads.progress there ∙ ap (λ (j : ℕ). Some (record { call = call.BarrierReach b; awaits = Round b j })) (sym own.1);
        },
      )
      by_arrival (inr old) =
          let apart : u ≢ t = λ here. arrived_blocked s n i t free r (ap (has_arrived s.control.barriers n i) (sym here) ∙ old) in
          ((r n i u old).0, subst (λ (o : Option (Progress S)). WaitsFor n i (blocked_in o)) (sym (put_other s.control.threads.progress t (option_map (blocking now) (s.control.threads.progress t)) u apart)) (r n i u old).1)

  -- t waits on, for the same round
  arrivals_wait_on : (t : ℕ) (a : Awaits) (d : Blocked) (s : State P S H) → blocked_of s.control t ≡ Some d → StaysAt d.call d.awaits a → AreArrivals s → AreArrivals (controlled (is_blocked_by t (Some (record d { awaits = a }))) s)
  arrivals_wait_on t a d s at stays r = arrivals_goes t (blocking (Some now)) s (λ b round h. stays_so b round (r b round t h).1) r
    where
      now : Blocked
      now = record d { awaits = a }

      blocked_now : blocked_in (option_map (blocking (Some now)) (s.control.threads.progress t)) ≡ Some now
      blocked_now = by_progress (s.control.threads.progress t) (blocked_there (s.control.threads.progress t) d at)
        where
          by_progress : (p : Option (Progress S)) → is_some p ≡ true → blocked_in (option_map (blocking (Some now)) p) ≡ Some now
          by_progress None h = absurd (true≢false (sym h))
          by_progress (Some p) h = refl

      same_round : (x : ℤ) (round : ℕ) → d ≡ record { call = call.BarrierReach x; awaits = Round x round } → now ≡ record { call = call.BarrierReach x; awaits = Round x round }
      same_round x round same =
          let one : d.call ≡ call.BarrierReach x = ap (λ (y : Blocked). y.call) same in
          let two : d.awaits ≡ Round x round = ap (λ (y : Blocked). y.awaits) same in
          let on : a ≡ Round x round = subst (λ (y : Blocked). StaysAt y.call y.awaits a) same stays in
          rw (one, on) refl

      one_blocked : (x : Blocked) → Some d ≡ Some x → d ≡ x
      one_blocked x h = cc

      stays_so : (b round : ℕ) → WaitsFor b round (blocked_of s.control t) → WaitsFor b round (blocked_in (option_map (blocking (Some now)) (s.control.threads.progress t)))
      stays_so b round w = record {
        barrier = w.barrier;
        named = w.named;
        blocked = blocked_now ∙ ap Some (same_round w.barrier round (one_blocked (record { call = call.BarrierReach w.barrier; awaits = Round w.barrier round }) (sym at ∙ w.blocked)));
      }

  arrivals_barred : (x : BarrierTable) (s : State P S H) → HasFewer x s.control.barriers → AreArrivals s → AreArrivals (controlled (with_barriers (λ y. x)) s)
  arrivals_barred x s fewer r b round u h = r b round u ((fewer b).comes round u h)

  -- no call blocks t any longer, whose arrival was answered or taken back
  arrivals_stopped : (t : ℕ) (s : State P S H) → HasLeft t s → AreArrivals s → AreArrivals (controlled (stops_waiting t) s)
  unfolding stops_waiting
  arrivals_stopped t s left r = arrivals_returned (ring_held (blocked_of s.control t)) (controlled (is_blocked_by t None) s) (arrivals_goes t (blocking None) s (λ b round h. absurd (none b round h (r b round t h).1)) r)
    where
      none : (b round : ℕ) → has_arrived s.control.barriers b round t ≡ true → WaitsFor b round (blocked_of s.control t) → ⊥
      none b round h w = true≢false (sym (arrived_waits s.control.barriers w.barrier b round t w.named h) ∙ left w.barrier round w.blocked)

  -- ---- every run

  -- a pth_cond_await takes its mutex back
  arrivals_retakes : (t : ℕ) (c m e : ℤ) (a : Awaits) (o : Retake) (s : State P S H) → blocked_of s.control t ≡ Some (record { call = call.CondAwait c m e; awaits = a }) → AreArrivals s → AreArrivals (controlled (λ k. blocks t (call.CondAwait c m e) (Retaking m o) (stops_waiting t k)) s)
  arrivals_retakes t c m e a o s at r =
      let x = controlled (stops_waiting t) s in
      let all = arrivals_stopped t s (λ b round now. absurd (true≢false (ap is_awaiting (sym at ∙ now)))) r in
      arrivals_goes t (blocking (Some (record { call = call.CondAwait c m e; awaits = Retaking m o }))) x (λ b round h. absurd (arrived_blocked x b round t (stopped_free t s) all h)) all

  pub arrivals_kept : (f : P → Functions S H) → KeptAlong f AreArrivals
  arrivals_kept f = record {
    handlers = record {
      shared = λ h s r. r;
      seated = λ x s fewer r. r;
      told = λ m s may r. r;
    };
    placed = λ standing entries raises trail s r. r;
    scheduled = λ x s r. r;
    timed = λ x s r. r;
    used = λ o s r. r;
    set = λ t c s safe life r. arrivals_set t c s life r;
    made = λ t b v a s next r. arrivals_made f t b v a s next r;
    forgotten = λ t s gone r. arrivals_forgotten t s gone r;
    vanished = λ t s free r. arrivals_vanished t s;
    added = λ s r. r;
    bound = λ t s r. r;
    renewed = λ n s r. r;
    valued = λ a v x s there inside r. r;
    destroyed = λ n s r. r;
    arranges = λ x s may r. r;
    looked = λ s r. arrivals_looked f s r;
    barred = λ x s fewer all r. arrivals_barred x s fewer r;
    reached = λ t b round s free alive there waits r. arrivals_reached t b round s free alive there waits r;
    goes = λ t g s same r. same_goes t g s same r;
    blocked = λ t c a s free here other none may r. arrivals_blocked t c a s free r;
    waits_on = λ t a b s at names stays other plain r. arrivals_wait_on t a b s at stays r;
    stopped = λ t x y s fewer others seats left gone r. arrivals_stopped t (controlled (λ k. with_conditions (λ z. y) (with_barriers (λ z. x) k)) s) left (arrivals_barred x s fewer r);
    takes_seat = λ t c m e s free alive there may r. arrivals_blocked t (call.CondAwait c m e) (Notice c) (controlled (with_conditions (seat_entered c (seat_of t))) s) free r;
    retakes = λ t c m e a o y s fewer gone at r. arrivals_retakes t c m e a o (controlled (with_conditions (λ z. y)) s) at r;
  }

  pub arrivals_start : (f : P → Functions S H) (g : Given P) → AreArrivals (start f g)
  unfolding start
  arrivals_start f g b round u h = absurd (true≢false (sym h))

  pub arrivals_of : (s : State P S H) → AreArrivals s → AreArrivalsOwned s
  arrivals_of s all b round t h =
      let r = all b round t h in
      (r.0, ap round_held r.1.blocked ∙ ap (λ n. Some (n, round)) r.1.named)

  pub run_arrived : (f : P → Functions S H) (g : Given P) (i : ℕ) → AreArrivalsOwned (run f g i).state
  run_arrived f g i = arrivals_of (run f g i).state (run_keeps f AreArrivals (arrivals_kept f) g (arrivals_start f g) i)

  -- and the other way round
  pub arrivals_in : (s : State P S H) → AllAwaitOwn s → AreArrivalsOwned s → AreArrivals s
  arrivals_in s own all b round t h = let r = all b round t h in (r.0, waits_for b round (blocked_of s.control t) (own t) r.1)
