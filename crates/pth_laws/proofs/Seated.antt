-- Whoever has a seat at a condition lives, and a pth_cond_await blocks it, which waits for that condition's notice.
use Rattle.std.proofs.Common.{◌≡◌, ◌≢◌, ◌≤◌, ℕ, zero, suc, ◌+◌, ◌==◌, Bool, true, false, cond, ℤ, Option, Some, None, is_some, option_map, ◌⊎◌, inl, inr, refl, sym, ◌∙◌, ap, subst, arith}
use Rattle.std.proofs.lemmas.Bool.{true≢false}
use Rattle.std.proofs.lemmas.Option.{none-some, same_Some}
use Rattle.pth_base.specs.Program.{Functions}
use Rattle.pth_base.specs.Table.{put}
use Rattle.pth_base.specs.declared.call.Call.{Call}
use Rattle.pth_base.specs.declared.call.Call.TheVariants as call
use Rattle.pth_base.specs.declared.thread.ThreadState.TheVariants as state
use Rattle.pth_base.proofs.Tables.{not_same, same_means, same_fails, put_by, put_other}
use Rattle.pth_lock.specs.Objects.{object_named}
use Rattle.pth_cond.specs.Barriers.{barrier_reached}
use Rattle.pth_cond.specs.Conditions.{ConditionTable, seat_entered, seat_left}
use Rattle.pth_numbered.specs.Operands.{number}
use Rattle.pth_ring.specs.Rings.{claimed}
use Rattle.pth_threads.specs.Threads.{changed}
use Rattle.pth_threads.specs.declared.entry.Change as change_of_record
use Rattle.pth_threads.specs.declared.entry.Change.TheVariants as change
use Rattle.pth_threads.specs.declared.entry.Entry.{Entry}
use Rattle.pth_model.specs.declared.awaits.Awaits.{Awaits}
use Rattle.pth_model.specs.declared.awaits.Awaits.TheVariants.{Round, Notice, Retaking}
use Rattle.pth_model.specs.declared.awaits.Retake.{Retake}
use Rattle.pth_model.specs.declared.blocked.Blocked.{Blocked}
use Rattle.pth_model.specs.declared.progress.Progress.{Progress}
use Rattle.pth_model.specs.Awaits.{is_await, is_awaiting}
use Rattle.pth_model.specs.Conditions.{seat_of}
use Rattle.pth_model.specs.EventSeats.{seats_changed}
use Rattle.pth_model.specs.State.{State, Given, start, now_of}
use Rattle.pth_model.specs.Transition.{controlled, tid}
use Rattle.pth_model.specs.Changes.{sets, goes_on, blocking, is_blocked_by, makes, forgets, with_conditions, with_barriers, blocked_in, blocked_of}
use Rattle.pth_model.specs.Living.{lives}
use Rattle.pth_model.specs.RingWaits.{claims, extra_ring, gives_back, ring_given, ring_held, stops_waiting}
use Rattle.pth_model.specs.ThreadControl.{values_for, or_first}
use Rattle.pth_model.specs.LibraryControl.{vanish_all_but}
use Rattle.pth_model.specs.Calls.{blocks}
use Rattle.pth_model.specs.Pass.{looks}
use Rattle.pth_model.specs.Run.{run}
use Rattle.pth_laws.specs.Clean.{AreSeatsOwned, condition_awaited, condition_held}
use Rattle.pth_laws.specs.Consistent.{AllAwaitOwn, AwaitsOwn}
use Rattle.pth_laws.specs.Seats.{NoneSeatedTwice}
use Rattle.pth_laws.specs.Waits.{AllWaitRightly, Names}
use Rattle.pth_laws.proofs.Seats.{HasFewerSeats, HasLeftAt, seats_at, has_some, seats_gone, entered_other, entered_by}
use Rattle.pth_laws.proofs.EventSeats.{entered_apart, fewer_left}
use Rattle.pth_laws.proofs.KeptSeats.{some_has}
use Rattle.pth_laws.proofs.Allowed.{IsFree, HasLeftSeat, stopped_free}
use Rattle.pth_laws.proofs.Along.{KeptAlong, IsLifeSafe, IsGone, run_keeps}
use Rattle.pth_laws.proofs.Arrivals.{lives_on, blocks_so}

-- a pth_cond_await blocks a thread, which waits for the notice of the condition of this number
pub record AwaitsAt (c : ℕ) (o : Option Blocked) : Type 0 where
  pub condition : ℤ
  pub mutex : ℤ
  pub ring : ℤ
  pub named : object_named condition ≡ c
  pub blocked : o ≡ Some (record { call = call.CondAwait condition mutex ring; awaits = Notice condition })

-- who waits for a notice is blocked by a call of pth_cond_await, where it waits for what it may
awaits_at : (c : ℕ) (o : Option Blocked) → ((d : Blocked) → o ≡ Some d → AwaitsOwn d.call d.awaits × Names d.call d.awaits) → condition_held o ≡ Some c → AwaitsAt c o
awaits_at c None own h = absurd (none-some c h)
awaits_at c (Some d) own h = by_awaits d.awaits refl (own d refl).0 (own d refl).1 h
  where
    as_named : (y i m : ℤ) → (Notice y ≡ Notice i) ⊎ ((o : Retake) × (Notice y ≡ Retaking m o)) → y ≡ i
    as_named y i m (inl same) = cc
    as_named y i m (inr odd) = let retakes = odd.1 in absurd (cc retakes)

    by_call : (y : ℤ) (k : Call) → d.call ≡ k → d.awaits ≡ Notice y → is_await k ≡ true → Names k (Notice y) → object_named y ≡ c → AwaitsAt c (Some d)
    by_call y (call.CondAwait i m e) called is own named at =
        let same = as_named y i m named in
        record {
          condition = i;
          mutex = m;
          ring = e;
          named = ap object_named (sym same) ∙ at;
          blocked = ap (λ (k : Call). Some (record { call = k; awaits = d.awaits })) called ∙ ap (λ (a : Awaits). Some (record { call = call.CondAwait i m e; awaits = a })) (is ∙ ap (λ (n : ℤ). Notice n) same);
        }
    by_call y k called is own named at = absurd (true≢false (sym own))

    by_awaits : (a : Awaits) → d.awaits ≡ a → AwaitsOwn d.call a → Names d.call a → condition_awaited a ≡ Some c → AwaitsAt c (Some d)
    by_awaits (Notice y) is own named h = by_call y d.call refl is own named (same_Some (object_named y) c h)
    by_awaits a is own named h = absurd (none-some c h)

none_awaits : (c : ℕ) → AwaitsAt c None → ⊥
none_awaits c w = none-some (record { call = call.CondAwait w.condition w.mutex w.ring; awaits = Notice w.condition }) w.blocked

other_awaits : (c : ℕ) (o : Option Blocked) → is_awaiting o ≡ false → AwaitsAt c o → ⊥
other_awaits c o none w = true≢false (sym (ap is_awaiting w.blocked) ∙ none)

-- t has a seat at a condition
abbrev HasSeat : ConditionTable → (c t : ℕ) → Type 0
HasSeat x c t = 1 ≤ seats_at (seat_of t) (x c)

module _ {S : Type 0} where
  -- each seat is that of a thread that lives, whose call waits so
  abbrev pub IsSeatedIn : ConditionTable → (ℕ → Option Entry) → (ℕ → Option (Progress S)) → Type 0
  IsSeatedIn x known progress = (c u : ℕ) → HasSeat x c u → (lives (known u) ≡ true) × AwaitsAt c (blocked_in (progress u))

  -- another record under a number whose thread has no seat
  seats_apart : (x : ConditionTable) (t : ℕ) (known : ℕ → Option Entry) (progress : ℕ → Option (Progress S)) (e : Option Entry) (p : Option (Progress S)) → ((c : ℕ) → HasSeat x c t → ⊥) → IsSeatedIn x known progress → IsSeatedIn x (put known t e) (put progress t p)
  seats_apart x t known progress e p none r c u h =
      let apart : u ≢ t = λ here. none c (subst (HasSeat x c) here h) in
      (ap lives (put_other known t e u apart) ∙ (r c u h).0, subst (λ (o : Option (Progress S)). AwaitsAt c (blocked_in o)) (sym (put_other progress t p u apart)) (r c u h).1)

-- no thread has two seats at a condition
abbrev pub AreSingle : ConditionTable → Type 0
AreSingle x = (c t : ℕ) → seats_at (seat_of t) (x c) ≤ 1

-- no thread has a seat more
abbrev HasFewerOfThreads : ConditionTable → ConditionTable → Type 0
HasFewerOfThreads x y = (c t : ℕ) → seats_at (seat_of t) (x c) ≤ seats_at (seat_of t) (y c)

-- ---- changes

module _ {P S H : Type 0} where
  abbrev Seated : State P S H → Type 0
  Seated s = IsSeatedIn s.control.conditions s.control.threads.known s.control.threads.progress

  abbrev pub AreSeated : State P S H → Type 0
  AreSeated s = Seated s × AreSingle s.control.conditions

  -- who has a seat is blocked
  seated_blocked : (s : State P S H) (c t : ℕ) → IsFree t s → Seated s → HasSeat s.control.conditions c t → ⊥
  seated_blocked s c t free r h = none_awaits c (subst (AwaitsAt c) free (r c t h).1)

  seated_set : (t : ℕ) (c : change_of_record.Change) (s : State P S H) → IsLifeSafe t c s → AreSeated s → AreSeated (controlled (sets t c) s)
  unfolding sets
  seated_set t d s life r = ((λ c u h. (put_by (λ o. lives o ≡ true) s.control.threads.known t (option_map (changed d) (s.control.threads.known t)) u (λ here. by_change d life c (subst (HasSeat s.control.conditions c) here h)) (λ other. (r.0 c u h).0), (r.0 c u h).1)), r.1)
    where
      by_change : (d : change_of_record.Change) → IsLifeSafe t d s → (c : ℕ) → HasSeat s.control.conditions c t → lives (option_map (changed d) (s.control.threads.known t)) ≡ true
      by_change (change.State state.Dead) free c own = absurd (seated_blocked s c t free r.0 own)
      by_change (change.State at) free c own = lives_on (change.State at) (s.control.threads.known t) refl (r.0 c t own).0
      by_change d free c own = lives_on d (s.control.threads.known t) refl (r.0 c t own).0

  seated_made : (f : P → Functions S H) (t b : ℕ) (v a : ℤ) (s : State P S H) → lives (s.control.threads.known (s.control.threads.made + 1)) ≡ false → AreSeated s → AreSeated (controlled (makes f b v (or_first (values_for s.control t a))) s)
  unfolding makes
  seated_made f t b v a s next r = (seats_apart s.control.conditions (s.control.threads.made + 1) s.control.threads.known s.control.threads.progress _ _ (λ c h. true≢false (sym (r.0 c (s.control.threads.made + 1) h).0 ∙ next)) r.0, r.1)

  seated_forgotten : (t : ℕ) (s : State P S H) → IsGone t s → AreSeated s → AreSeated (controlled (forgets t) s)
  unfolding forgets
  seated_forgotten t s gone r = (seats_apart s.control.conditions t s.control.threads.known s.control.threads.progress None None (λ c h. none c gone h) r.0, r.1)
    where
      none : (c : ℕ) → IsGone t s → HasSeat s.control.conditions c t → ⊥
      none c (inl free) h = seated_blocked s c t free r.0 h
      none c (inr dead) h = true≢false (sym (r.0 c t h).0 ∙ dead)

  seated_vanished : (t : ℕ) (s : State P S H) → AreSeated (controlled (vanish_all_but t) s)
  unfolding vanish_all_but
  seated_vanished t s =
      let x = s.control.conditions in
      ((λ c u h. let none = seats_gone x c (seat_of u) in absurd (omega (arith, none, h))), (λ c u. let none = seats_gone x c (seat_of u) in omega (arith, none)))

  seated_looked : (f : P → Functions S H) (s : State P S H) → AreSeated s → AreSeated (controlled (looks f s) s)
  unfolding looks
  seated_looked f s r = r

  -- what blocks t changes
  seated_goes : (t : ℕ) (g : Progress S → Progress S) (s : State P S H) → ((c : ℕ) → HasSeat s.control.conditions c t → AwaitsAt c (blocked_in (option_map g (s.control.threads.progress t)))) → AreSeated s → AreSeated (controlled (goes_on t g) s)
  unfolding goes_on
  seated_goes t g s own r = (
    (λ c u h. ((r.0 c u h).0, put_by (λ (o : Option (Progress S)). AwaitsAt c (blocked_in o)) s.control.threads.progress t (option_map g (s.control.threads.progress t)) u (λ here. own c (subst (HasSeat s.control.conditions c) here h)) (λ other. (r.0 c u h).1))),
    r.1,
  )

  same_goes : (t : ℕ) (g : Progress S → Progress S) (s : State P S H) → ((p : Progress S) → (g p).blocked ≡ p.blocked) → AreSeated s → AreSeated (controlled (goes_on t g) s)
  same_goes t g s same r = seated_goes t g s (λ c h. subst (AwaitsAt c) (sym (by_progress (s.control.threads.progress t))) (r.0 c t h).1) r
    where
      by_progress : (p : Option (Progress S)) → blocked_in (option_map g p) ≡ blocked_in p
      by_progress None = refl
      by_progress (Some p) = same p

  claimed_free : (t : ℕ) (e : Option ℤ) (s : State P S H) → IsFree t s → IsFree t (controlled (claims t e) s)
  unfolding claims
  claimed_free t None s free = free
  claimed_free t (Some e) s free = free

  seated_fewer : (x : ConditionTable) (s : State P S H) → HasFewerOfThreads x s.control.conditions → AreSeated s → AreSeated (controlled (with_conditions (λ y. x)) s)
  seated_fewer x s fewer r = ((λ c u h. r.0 c u (let less = fewer c u in omega (arith, less, h))), (λ c u. let less = fewer c u in let one = r.1 c u in omega (arith, less, one)))

  -- the seats of a ring's events are entered, or left
  seated_claimed : (t : ℕ) (e : Option ℤ) (s : State P S H) → AreSeated s → AreSeated (controlled (claims t e) s)
  unfolding claims
  seated_claimed t None s r = r
  seated_claimed t (Some e) s r =
      let x = claimed (number e) (tid t) (now_of s.control) s.control.events in
      seated_fewer (seats_changed seat_entered x (x.rings (number e)) s.control.conditions) s (λ c u. entered_apart x (seat_of u) (x.rings (number e)) (λ g h. refl) s.control.conditions c) r

  seated_returned : (e : Option ℤ) (s : State P S H) → AreSeated s → AreSeated (controlled (gives_back e) s)
  unfolding gives_back
  seated_returned None s r = r
  seated_returned (Some e) s r =
      let x = s.control.events in
      seated_fewer (seats_changed seat_left x (x.rings (number e)) s.control.conditions) s (λ c u. fewer_left x (x.rings (number e)) s.control.conditions c (seat_of u)) r

  -- a call that takes no seat blocks t, which was free
  seated_blocks : (t : ℕ) (c : Call) (a : Awaits) (s : State P S H) → IsFree t s → AreSeated s → AreSeated (controlled (blocks t c a) s)
  seated_blocks t c a s free r = seated_goes t (blocking (Some (record { call = c; awaits = a }))) s (λ i h. absurd (seated_blocked s i t free r.0 h)) r

  seated_begins : (t : ℕ) (c : Call) (a : Awaits) (s : State P S H) → IsFree t s → AreSeated s → AreSeated (controlled (λ k. blocks t c a (claims t (ring_given c) k)) s)
  seated_begins t c a s free r = seated_blocks t c a (controlled (claims t (ring_given c)) s) (claimed_free t (ring_given c) s free) (seated_claimed t (ring_given c) s r)

  -- another call than a pth_cond_await blocks t on
  seated_on : (t : ℕ) (a : Awaits) (b : Blocked) (s : State P S H) → blocked_of s.control t ≡ Some b → is_await b.call ≡ false → AreSeated s → AreSeated (controlled (is_blocked_by t (Some (record b { awaits = a }))) s)
  seated_on t a b s at other r = seated_goes t (blocking (Some (record b { awaits = a }))) s (λ c h. absurd (other_awaits c (blocked_of s.control t) (ap is_awaiting at ∙ other) (r.0 c t h).1)) r

  -- no call blocks t any longer, whose seat is left
  seated_stopped : (t : ℕ) (y : ConditionTable) (s : State P S H) → HasFewerSeats y s.control.conditions → HasLeftSeat t y s → AreSeated s → AreSeated (controlled (λ k. stops_waiting t (with_conditions (λ z. y) k)) s)
  unfolding stops_waiting
  seated_stopped t y s fewer gone r =
      let u = controlled (with_conditions (λ z. y)) s in
      seated_returned (ring_held (blocked_of s.control t)) (controlled (is_blocked_by t None) u) (seated_goes t (blocking None) u (λ c h. absurd (none c h)) (seated_fewer y s (λ c u. fewer c (seat_of u)) r))
    where
      none : (c : ℕ) → HasSeat y c t → ⊥
      none c h =
          let x = s.control.conditions in
          let less = fewer c (seat_of t) in
          let w = (r.0 c t (omega (arith, less, h))).1 in
          let one = r.1 c t in
          let left : HasLeftAt (seat_of t) c y x = subst (λ i. HasLeftAt (seat_of t) i y x) w.named (gone w.condition w.mutex w.ring w.blocked) in
          omega (arith, h, one, left)

  -- a claim, and that t is blocked, in either order
  seated_claims : (t : ℕ) (c : Call) (a : Awaits) (e : Option ℤ) (s : State P S H) → AreSeated (controlled (blocks t c a) s) → AreSeated (controlled (λ k. blocks t c a (claims t e k)) s)
  unfolding claims goes_on
  seated_claims t c a None s r = r
  seated_claims t c a (Some e) s r = seated_claimed t (Some e) (controlled (blocks t c a) s) r

  -- t takes a seat, and waits
  seated_takes : (t : ℕ) (c m e : ℤ) (s : State P S H) → IsFree t s → lives (s.control.threads.known t) ≡ true → is_some (s.control.threads.progress t) ≡ true → AreSeated s → AreSeated (controlled (λ k. blocks t (call.CondAwait c m e) (Notice c) (with_conditions (seat_entered c (seat_of t)) k)) s)
  unfolding goes_on
  seated_takes t c m e s free alive there r = (
    (λ i u h. by_thread i u (u == t) refl h),
    (λ i u. by_once i u (t == u) refl),
  )
    where
      x : ConditionTable
      x = s.control.conditions

      y : ConditionTable
      y = seat_entered c (seat_of t) x

      now : Option Blocked
      now = Some (record { call = call.CondAwait c m e; awaits = Notice c })

      progress : ℕ → Option (Progress S)
      progress = put s.control.threads.progress t (option_map (blocking now) (s.control.threads.progress t))

      -- t had none
      none_yet : (i : ℕ) → seats_at (seat_of t) (x i) ≤ 0
      none_yet i = by_test (seats_at (seat_of t) (x i)) (λ h. seated_blocked s i t free r.0 h)
        where
          by_test : (k : ℕ) → (1 ≤ k → ⊥) → k ≤ 0
          by_test zero none = omega arith
          by_test (suc k) none = absurd (none (omega arith))

      by_once : (i u : ℕ) (own : Bool) → (t == u) ≡ own → seats_at (seat_of u) (y i) ≤ 1
      by_once i u true own =
          let less = entered_by c (seat_of t) (seat_of u) x i in
          let same = ap (λ (b : Bool). cond {A = ℕ} b 1 0) own in
          let none = subst (λ v. seats_at (seat_of v) (x i) ≤ 0) (same_means t u own) (none_yet i) in
          omega (arith, less, same, none)
      by_once i u false own =
          let less = entered_by c (seat_of t) (seat_of u) x i in
          let same = ap (λ (b : Bool). cond {A = ℕ} b 1 0) own in
          let one = r.1 i u in
          omega (arith, less, same, one)

      by_condition : (i : ℕ) (own : Bool) → (i == object_named c) ≡ own → HasSeat y i t → object_named c ≡ i
      by_condition i true own h = sym (same_means i (object_named c) own)
      by_condition i false own h =
          let same = ap (seats_at (seat_of t)) (entered_other c (seat_of t) x i (same_fails i (object_named c) own)) in
          let none = none_yet i in
          absurd (omega (arith, same, none, h))

      by_thread : (i u : ℕ) (own : Bool) → (u == t) ≡ own → HasSeat y i u → (lives (s.control.threads.known u) ≡ true) × AwaitsAt i (blocked_in (progress u))
      by_thread i u true own h =
          let here = same_means u t own in
          let mine : HasSeat y i t = subst (HasSeat y i) here h in
          subst (λ v. (lives (s.control.threads.known v) ≡ true) × AwaitsAt i (blocked_in (progress v))) (sym here)
          (alive, record { condition = c; mutex = m; ring = e; named = by_condition i (i == object_named c) refl mine; blocked = blocks_so t now s.control.threads.progress there })
      by_thread i u false own h =
          let apart = same_fails u t own in
          let less = entered_by c (seat_of t) (seat_of u) x i in
          let other = ap (λ (b : Bool). cond {A = ℕ} b 1 0) (not_same t u (λ same. apart (sym same))) in
          let old = r.0 i u (omega (arith, less, other, h)) in
          (old.0, subst (λ (o : Option (Progress S)). AwaitsAt i (blocked_in o)) (sym (put_other s.control.threads.progress t (option_map (blocking now) (s.control.threads.progress t)) u apart)) old.1)

  -- ---- every run

  pub seated_kept : (f : P → Functions S H) → KeptAlong f AreSeated
  seated_kept f = record {
    handlers = record {
      shared = λ h s r. r;
      seated = λ x s keeps r. seated_fewer x s (λ c u. keeps.fewer c (seat_of u)) r;
      told = λ m s may r. r;
    };
    placed = λ standing entries raises trail s r. r;
    scheduled = λ x s r. r;
    timed = λ x s r. r;
    used = λ o s r. r;
    set = λ t c s safe life r. seated_set t c s life r;
    made = λ t b v a s next r. seated_made f t b v a s next r;
    forgotten = λ t s gone r. seated_forgotten t s gone r;
    vanished = λ t s free r. seated_vanished t s;
    added = λ s r. r;
    bound = λ t s r. r;
    renewed = λ n s r. r;
    valued = λ a v x s there inside r. r;
    destroyed = λ n s r. r;
    arranges = λ x s may r. r;
    looked = λ s r. seated_looked f s r;
    barred = λ x s fewer all r. r;
    reached = λ t b round s free alive there waits r. seated_blocks t (call.BarrierReach b) (Round b round) (controlled (with_barriers (barrier_reached b t)) s) free r;
    goes = λ t g s same r. same_goes t g s same r;
    blocked = λ t c a s free here other none may r. seated_begins t c a s free r;
    waits_on = λ t a b s at names stays other plain r. seated_on t a b s at other r;
    stopped = λ t x y s fewer others seats left gone r. seated_stopped t y (controlled (with_barriers (λ z. x)) s) seats.fewer gone r;
    takes_seat = λ t c m e s free alive there may r. seated_claims t (call.CondAwait c m e) (Notice c) (extra_ring e) (controlled (with_conditions (seat_entered c (seat_of t))) s) (seated_takes t c m e s free alive there.0 r);
    retakes = λ t c m e a o y s keeps gone at r.
        let u = controlled (with_conditions (λ z. y)) s in
        seated_blocks t (call.CondAwait c m e) (Retaking m o) (controlled (stops_waiting t) u) (stopped_free t u) (seated_stopped t y s keeps.fewer gone r);
  }

  pub seated_start : (f : P → Functions S H) (g : Given P) → AreSeated (start f g)
  unfolding start
  seated_start f g = ((λ c u h. absurd (omega (arith, h))), (λ c t. omega arith))

  run_seated : (f : P → Functions S H) (g : Given P) (i : ℕ) → AreSeated (run f g i).state
  run_seated f g i = run_keeps f AreSeated (seated_kept f) g (seated_start f g) i

  pub run_single : (f : P → Functions S H) (g : Given P) (i : ℕ) → AreSingle (run f g i).state.control.conditions
  run_single f g i = (run_seated f g i).1

  pub seats_of : (s : State P S H) → AreSeated s → AreSeatsOwned s
  seats_of s all c t h =
      let r = all.0 c t (has_some s.control.conditions c (seat_of t) h) in
      (r.0, ap condition_held r.1.blocked ∙ ap Some r.1.named)

  pub run_seats : (f : P → Functions S H) (g : Given P) (i : ℕ) → AreSeatsOwned (run f g i).state
  run_seats f g i = seats_of (run f g i).state (run_seated f g i)

  -- and the other way round
  pub seats_in : (s : State P S H) → AllAwaitOwn s → AllWaitRightly s → AreSeatsOwned s → NoneSeatedTwice s → AreSeated s
  seats_in s own rightly all single = (
    (λ c u h. let r = all c u (some_has s.control.conditions c (seat_of u) h) in (r.0, awaits_at c (blocked_of s.control u) (λ d at. (own u d at, (rightly u d at).0)) r.1)),
    (λ c t. single c (seat_of t)),
  )
