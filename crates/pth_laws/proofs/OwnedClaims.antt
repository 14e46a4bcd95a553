-- Each claim on a ring is that of a thread that lives, for the event that the call was given which blocks it.
use Rattle.std.proofs.Common.{◌≡◌, ◌≢◌, ℕ, ◌+◌, true, false, ℤ, inl, inr, Option, Some, None, is_some, option_map, refl, sym, ◌∙◌, ap, subst}
use Rattle.std.proofs.lemmas.Bool.{true≢false}
use Rattle.std.proofs.lemmas.Option.{none-some}
use Rattle.pth_base.specs.Program.{Functions}
use Rattle.pth_base.specs.Table.{put}
use Rattle.pth_base.specs.declared.call.Call.{Call}
use Rattle.pth_base.specs.declared.call.Call.TheVariants as call
use Rattle.pth_base.specs.declared.thread.ThreadState.TheVariants as state
use Rattle.pth_base.proofs.Tables.{put_by, put_other}
use Rattle.pth_cond.specs.Barriers.{barrier_reached}
use Rattle.pth_cond.specs.Conditions.{seat_entered}
use Rattle.pth_ring.specs.Rings.{Events}
use Rattle.pth_threads.specs.Threads.{changed}
use Rattle.pth_threads.specs.declared.entry.Change as change_of_record
use Rattle.pth_threads.specs.declared.entry.Change.TheVariants as change
use Rattle.pth_threads.specs.declared.entry.Entry.{Entry}
use Rattle.pth_model.specs.declared.awaits.Awaits.{Awaits}
use Rattle.pth_model.specs.declared.awaits.Awaits.TheVariants.{Round, Notice, Retaking}
use Rattle.pth_model.specs.declared.awaits.Retake.{Retake}
use Rattle.pth_model.specs.declared.blocked.Blocked.{Blocked}
use Rattle.pth_model.specs.declared.progress.Progress.{Progress}
use Rattle.pth_model.specs.Awaits.{is_retaking}
use Rattle.pth_model.specs.Conditions.{seat_of}
use Rattle.pth_model.specs.State.{State, Given, start}
use Rattle.pth_model.specs.Transition.{controlled}
use Rattle.pth_model.specs.Changes.{sets, is_blocked_by, makes, forgets, with_conditions, with_barriers, blocked_in, blocked_of}
use Rattle.pth_model.specs.Living.{lives}
use Rattle.pth_model.specs.RingWaits.{claimant, claims, ring_given, stops_waiting}
use Rattle.pth_model.specs.ThreadControl.{values_for, or_first}
use Rattle.pth_model.specs.LibraryControl.{vanish_all_but}
use Rattle.pth_model.specs.Calls.{blocks}
use Rattle.pth_model.proofs.NoRounds.{special_none}
use Rattle.pth_laws.specs.Clean.{event_held}
use Rattle.pth_laws.proofs.Allowed.{IsFree}
use Rattle.pth_laws.proofs.Arrivals.{lives_on}
use Rattle.pth_laws.proofs.Circles.{claims_by}
use Rattle.pth_laws.proofs.Claims.{HasClaims, claims_block, claims_go, claims_look, claims_still, claims_stop, claims_wait_on, stopped_progress}
use Rattle.pth_laws.proofs.Claimed.{FitsIn, fits_kept, fits_start, no_claim}
use Rattle.pth_laws.proofs.Along.{KeptAlong, IsLifeSafe, IsGone, IsThere}

module _ {S : Type 0} where
  -- how far t is, where it is in the system
  record IsAt (t : ℕ) (progress : ℕ → Option (Progress S)) : Type 0 where
    so : Progress S
    here : progress t ≡ Some so

  there_at : (t : ℕ) (progress : ℕ → Option (Progress S)) → is_some (progress t) ≡ true → IsAt t progress
  there_at t progress there = by_progress (progress t) refl there
    where
      by_progress : (o : Option (Progress S)) → progress t ≡ o → is_some o ≡ true → IsAt t progress
      by_progress None same h = absurd (true≢false (sym h))
      by_progress (Some p) same h = record { so = p; here = same }

  blocked_at : (t : ℕ) (progress : ℕ → Option (Progress S)) (b : Blocked) → blocked_in (progress t) ≡ Some b → IsAt t progress
  blocked_at t progress b at = by_progress (progress t) refl at
    where
      by_progress : (o : Option (Progress S)) → progress t ≡ o → blocked_in o ≡ Some b → IsAt t progress
      by_progress None same h = absurd (none-some b h)
      by_progress (Some p) same h = record { so = p; here = same }

  -- another record under a number whose thread has no claim
  claims_apart : (x : Events) (t : ℕ) (known : ℕ → Option Entry) (progress : ℕ → Option (Progress S)) (n : Option Entry) (p : Option (Progress S)) → ((e : ℕ) → claimant x e ≡ Some t → ⊥) → ((e u : ℕ) → claimant x e ≡ Some u → (lives (known u) ≡ true) × (event_held (blocked_in (progress u)) ≡ Some e))
      → (e u : ℕ) → claimant x e ≡ Some u → (lives (put known t n u) ≡ true) × (event_held (blocked_in (put progress t p u)) ≡ Some e)
  claims_apart x t known progress n p none r e u h =
      let apart : u ≢ t = λ here. none e (subst (λ (v : ℕ). claimant x e ≡ Some v) here h) in
      (ap lives (put_other known t n u apart) ∙ (r e u h).0, ap (λ (o : Option (Progress S)). event_held (blocked_in o)) (put_other progress t p u apart) ∙ (r e u h).1)

module _ {P S H : Type 0} where
  abbrev pub HaveClaims : State P S H → Type 0
  HaveClaims s = HasClaims s.control

  -- who has a claim is blocked
  claimed_blocked : (s : State P S H) (e t : ℕ) → IsFree t s → HaveClaims s → claimant s.control.events e ≡ Some t → ⊥
  claimed_blocked s e t free r h = none-some e (sym (ap event_held free) ∙ (r e t h).1)

  claims_life : (t : ℕ) (c : change_of_record.Change) (s : State P S H) → IsLifeSafe t c s → HaveClaims s → HaveClaims (controlled (sets t c) s)
  unfolding sets
  claims_life t c s life r e u h = (put_by (λ o. lives o ≡ true) s.control.threads.known t (option_map (changed c) (s.control.threads.known t)) u (λ here. by_change c life (subst (λ (v : ℕ). claimant s.control.events e ≡ Some v) here h)) (λ other. (r e u h).0), (r e u h).1)
    where
      by_change : (c : change_of_record.Change) → IsLifeSafe t c s → claimant s.control.events e ≡ Some t → lives (option_map (changed c) (s.control.threads.known t)) ≡ true
      by_change (change.State state.Dead) free own = absurd (claimed_blocked s e t free r own)
      by_change (change.State at) free own = lives_on (change.State at) (s.control.threads.known t) refl (r e t own).0
      by_change c free own = lives_on c (s.control.threads.known t) refl (r e t own).0

  claims_made : (f : P → Functions S H) (t b : ℕ) (v a : ℤ) (s : State P S H) → lives (s.control.threads.known (s.control.threads.made + 1)) ≡ false → HaveClaims s → HaveClaims (controlled (makes f b v (or_first (values_for s.control t a))) s)
  unfolding makes
  claims_made f t b v a s next r = claims_apart s.control.events (s.control.threads.made + 1) s.control.threads.known s.control.threads.progress _ _ (λ e h. true≢false (sym (r e (s.control.threads.made + 1) h).0 ∙ next)) r

  claims_forgotten : (t : ℕ) (s : State P S H) → IsGone t s → HaveClaims s → HaveClaims (controlled (forgets t) s)
  unfolding forgets
  claims_forgotten t s gone r = claims_apart s.control.events t s.control.threads.known s.control.threads.progress None None (λ e h. none e gone h) r
    where
      none : (e : ℕ) → IsGone t s → claimant s.control.events e ≡ Some t → ⊥
      none e (inl free) h = claimed_blocked s e t free r h
      none e (inr dead) h = true≢false (sym (r e t h).0 ∙ dead)

  claims_vanished : (t : ℕ) (s : State P S H) → HaveClaims (controlled (vanish_all_but t) s)
  unfolding vanish_all_but
  claims_vanished t s e u h = absurd (none-some u (sym (no_claim (s.control.events.events e)) ∙ h))

  -- a call blocks t, which was free, and claims its ring
  claims_begun : (t : ℕ) (c : Call) (a : Awaits) (s : State P S H) → IsFree t s → IsThere t s → is_retaking a ≡ false → HaveClaims s → HaveClaims (controlled (λ k. blocks t c a (claims t (ring_given c) k)) s)
  claims_begun t c a s free there plain r =
      let p = there_at t s.control.threads.progress there.1 in
      claims_block t c a s.control p.so p.here (sym (ap blocked_in p.here) ∙ free) there.0 plain r

  claims_reached : (t : ℕ) (b : ℤ) (round : ℕ) (s : State P S H) → IsFree t s → IsThere t s → HaveClaims s → HaveClaims (controlled (λ k. blocks t (call.BarrierReach b) (Round b round) (with_barriers (barrier_reached b t) k)) s)
  unfolding claims
  claims_reached t b round s free there r = claims_begun t (call.BarrierReach b) (Round b round) (controlled (with_barriers (barrier_reached b t)) s) free there refl r

  -- it blocks t on
  claims_on : (t : ℕ) (a : Awaits) (b : Blocked) (s : State P S H) → blocked_of s.control t ≡ Some b → is_retaking b.awaits ≡ false → is_retaking a ≡ false → HaveClaims s → HaveClaims (controlled (is_blocked_by t (Some (record b { awaits = a }))) s)
  claims_on t a b s at was plain r =
      let p = blocked_at t s.control.threads.progress b at in
      claims_wait_on t b a s.control p.so p.here (sym (ap blocked_in p.here) ∙ at) was plain r

  -- its wait at a condition is over, and it takes its mutex back
  claims_retake : (t : ℕ) (c m e : ℤ) (b : Blocked) (o : Retake) (s : State P S H) → blocked_of s.control t ≡ Some b → HaveClaims s → HaveClaims (controlled (λ k. blocks t (call.CondAwait c m e) (Retaking m o) (stops_waiting t k)) s)
  claims_retake t c m e b o s at r =
      let p = blocked_at t s.control.threads.progress b at in
      claims_still t (Some (record { call = call.CondAwait c m e; awaits = Retaking m o })) (stops_waiting t s.control) _ (stopped_progress t s.control p.so p.here) refl (claims_stop t s.control r)

  abbrev pub AreClaims : State P S H → Type 0
  AreClaims s = FitsIn s × HaveClaims s

  pub claims_kept : (f : P → Functions S H) → KeptAlong f AreClaims
  claims_kept f = record {
    handlers = record {
      shared = λ h s r. r;
      seated = λ x s keeps r. r;
      told = λ m s may r. r;
    };
    placed = λ standing entries raises trail s r. r;
    scheduled = λ x s r. r;
    timed = λ x s r. r;
    used = λ o s r. r;
    set = λ t c s safe life r. (fits.set t c s safe life r.0, claims_life t c s life r.1);
    made = λ t b v a s next r. (fits.made t b v a s next r.0, claims_made f t b v a s next r.1);
    forgotten = λ t s gone r. (fits.forgotten t s gone r.0, claims_forgotten t s gone r.1);
    vanished = λ t s free r. (fits.vanished t s free r.0, claims_vanished t s);
    added = λ s r. r;
    bound = λ t s r. r;
    renewed = λ n s r. r;
    valued = λ a v x s there inside r. r;
    destroyed = λ n s r. r;
    arranges = λ q s may r. (fits.arranges q s may r.0, λ e u h. r.1 e u (sym (claims_by s.control.events r.0.circles q may e) ∙ h));
    looked = λ s r. (fits.looked s r.0, claims_look f s r.1);
    barred = λ x s fewer all r. r;
    reached = λ t b round s free alive there waits r. (fits.reached t b round s free alive there waits r.0, claims_reached t b round s free (alive, there) r.1);
    goes = λ t g s same r. (fits.goes t g s same r.0, claims_go t g s.control same r.1);
    blocked = λ t c a s free here other none may r. (fits.blocked t c a s free here other none may r.0, claims_begun t c a s free here (special_none a none.0).1 r.1);
    waits_on = λ t a b s at names stays other plain r. (fits.waits_on t a b s at names stays other plain r.0, claims_on t a b s at plain.0 plain.1 r.1);
    stopped = λ t x y s fewer others seats left gone r. (fits.stopped t x y s fewer others seats left gone r.0, claims_stop t (with_conditions (λ z. y) (with_barriers (λ z. x) s.control)) r.1);
    takes_seat = λ t c m e s free alive there may r. (fits.takes_seat t c m e s free alive there may r.0, claims_begun t (call.CondAwait c m e) (Notice c) (controlled (with_conditions (seat_entered c (seat_of t))) s) free (alive, there.0) refl r.1);
    retakes = λ t c m e a o y s keeps gone at r. (fits.retakes t c m e a o y s keeps gone at r.0, claims_retake t c m e (record { call = call.CondAwait c m e; awaits = a }) o (controlled (with_conditions (λ z. y)) s) at r.1);
  }
    where
      fits : KeptAlong f FitsIn
      fits = fits_kept f

  pub claims_start : (f : P → Functions S H) (g : Given P) → AreClaims (start f g)
  unfolding start
  claims_start f g = (fits_start f g, λ e t h. absurd (none-some t h))
