-- Claims on rings, while a thread makes a step: each is held by a thread that lives, for the call that blocks it.
use Rattle.std.proofs.Common.{◌≡◌, ◌≢◌, ℕ, ◌+◌, Bool, true, false, if◌then◌else◌, ℤ, pos, List, flat_map, ◌⊎◌, inl, inr, Option, Some, None, option_map, refl, sym, ◌∙◌, ap}
use Rattle.std.proofs.lemmas.Bool.{true≢false}
use Rattle.std.proofs.lemmas.Option.{same_Some, none-some}
use Rattle.pth_base.specs.Program.{Functions}
use Rattle.pth_base.specs.Table.{put}
use Rattle.pth_base.specs.declared.call.Call.{Call}
use Rattle.pth_base.specs.declared.ids.Tid.{Tid}
use Rattle.pth_base.proofs.Tables.{put_by, put_here, put_other}
use Rattle.pth_numbered.specs.Operands.{number}
use Rattle.pth_queue.specs.declared.queue.Queue.{Queue}
use Rattle.pth_queue.specs.declared.queue.Queue.TheVariants.{Suspended}
use Rattle.pth_ring.specs.Ring.{each, ring_holds}
use Rattle.pth_ring.specs.Rings.{Events, with_claim, ring_awaited, awaited, claimed}
use Rattle.pth_ring.specs.declared.event.Event.{Event}
use Rattle.pth_threads.specs.Threads.{changed}
use Rattle.pth_threads.specs.declared.entry.Change as change_type
use Rattle.pth_threads.specs.declared.entry.Change.TheVariants as change
use Rattle.pth_threads.specs.declared.entry.Entry.{Entry}
use Rattle.pth_threads.specs.declared.entry.NewThread.{NewThread}
use Rattle.pth_model.specs.declared.blocked.Blocked.{Blocked}
use Rattle.pth_model.specs.declared.progress.Progress.{Progress}
use Rattle.pth_model.specs.State.{State, Control, Threads, now_of}
use Rattle.pth_model.specs.Ending.{is_dead_with, leaves, stops_running}
use Rattle.pth_model.specs.Changes.{sets, enters, leaves_queue, makes, forgets, removes, goes_on, blocking, is_blocked_by, or_nobody, entry_of, blocked_in, blocked_of, queue_for}
use Rattle.pth_model.specs.Awaits.{is_retaking}
use Rattle.pth_model.specs.Living.{is_dead, lives}
use Rattle.pth_model.specs.RingWaits.{claimant, claimant_by, claims, gives_back, stops_waiting, ring_held, ring_given, awaited_events}
use Rattle.pth_model.specs.ThreadControl.{spawns, suspends, resumes, returns_to}
use Rattle.pth_model.specs.Calls.{blocks}
use Rattle.pth_model.specs.declared.awaits.Awaits.{Awaits}
use Rattle.pth_model.specs.Looks.{looked_at}
use Rattle.pth_model.specs.Pass.{looks, waiting}
use Rattle.pth_model.proofs.Walks.{KeptByCalls}
use Rattle.pth_laws.specs.Clean.{event_held}
use Rattle.pth_laws.proofs.Living.{set_state, request_state, suspended_safe}
use Rattle.pth_laws.proofs.Going.{Going, next_dead, other, joined_dead, set_lives, going_spawned, going_suspended, going_resumed, going_removed, going_set}
use Rattle.pth_laws.proofs.Awaits.{Flags, HasAwaits, awaits_none, awaits_set, awaits_spawned, awaits_suspended, awaits_resumed, awaits_removed}

-- whoever takes no mutex back waits for the event that its call was given
pub event_given : (c : Call) (a : Awaits) → is_retaking a ≡ false → event_held (Some (record { call = c; awaits = a })) ≡ option_map number (ring_given c)
event_given c a plain = ap (λ (b : Bool). option_map number (if b then None else ring_given c)) plain

module _ {P S H : Type 0} where
  -- each claim is that of a thread that lives, by the event that its call was given
  abbrev pub HasClaims : Control P S H → Type 0
  HasClaims k = (e u : ℕ) → claimant k.events e ≡ Some u → (lives (k.threads.known u) ≡ true) × (event_held (blocked_of k u) ≡ Some e)

  -- where a record is changed and who lives is the same
  pub claims_set : (u : ℕ) (c : change_type.Change) (k : Control P S H) → ((e : Entry) → k.threads.known u ≡ Some e → is_dead (changed c e).state ≡ is_dead e.state) → HasClaims k → HasClaims (sets u c k)
  unfolding sets
  claims_set u c k safe claims e v h = (set_lives u c k.threads.known safe v (claims e v h).0, (claims e v h).1)

  pub claims_moved : (u : ℕ) (c : change_type.Change) (q : Queue) (rank : ℤ) (top : Bool) (k : Control P S H) → ((e : Entry) → k.threads.known u ≡ Some e → is_dead (changed c e).state ≡ is_dead e.state) → HasClaims k → HasClaims (enters u q rank top (sets u c (leaves_queue u k)))
  unfolding sets enters leaves_queue
  claims_moved u c q rank top k safe claims e v h = (set_lives u c k.threads.known safe v (claims e v h).0, (claims e v h).1)

  -- a place in a queue is nothing to claims
  pub claims_enter : (u : ℕ) (q : Queue) (rank : ℤ) (top : Bool) (k : Control P S H) → HasClaims k → HasClaims (enters u q rank top k)
  unfolding enters
  claims_enter u q rank top k claims = claims

  pub claims_leave : (u : ℕ) (k : Control P S H) → HasClaims k → HasClaims (leaves_queue u k)
  unfolding leaves_queue
  claims_leave u k claims = claims

  claims_suspended : (u : ℕ) (k : Control P S H) → HasClaims k → HasClaims (suspends u k)
  unfolding suspends
  claims_suspended u k claims = claims_moved u (change.Suspended true) Suspended (pos 0) false k (λ e h. suspended_safe true e) claims

  claims_returned : (u : ℕ) (q : Option Queue) (k : Control P S H) → HasClaims k → HasClaims (returns_to u q k)
  claims_returned u None k claims = claims
  claims_returned u (Some q) k claims = claims_moved u (change.Suspended false) q (pos 0) false k (λ e h. suspended_safe false e) claims

  claims_resumed : (u : ℕ) (k : Control P S H) → HasClaims k → HasClaims (resumes u k)
  unfolding resumes
  claims_resumed u k claims = claims_returned u (queue_for (or_nobody (entry_of k u)).state) k claims

  -- a thread that does not live has no claim
  unclaiming : (k : Control P S H) (u e v : ℕ) → lives (k.threads.known u) ≡ false → HasClaims k → claimant k.events e ≡ Some v → v ≢ u
  unclaiming k u e v dead claims h same = true≢false (sym (claims e v h).0 ∙ ap (λ i. lives (k.threads.known i)) same ∙ dead)

  pub claims_removed : (u : ℕ) (k : Control P S H) → lives (k.threads.known u) ≡ false → HasClaims k → HasClaims (removes u k)
  unfolding forgets leaves_queue
  claims_removed u k dead claims e v h =
      let apart = unclaiming k u e v dead claims h in
      (ap lives (put_other k.threads.known u None v apart) ∙ (claims e v h).0, ap (λ p. event_held (blocked_in p)) (put_other k.threads.progress u None v apart) ∙ (claims e v h).1)

  claims_spawned : (f : P → Functions S H) (b : ℕ) (i : ℤ) (of : NewThread) (k : Control P S H) → lives (k.threads.known (k.threads.made + 1)) ≡ false → HasClaims k → HasClaims (spawns f b i of k)
  unfolding makes enters
  claims_spawned f b i of k dead claims e v h =
      let apart = unclaiming k (k.threads.made + 1) e v dead claims h in
      (ap lives (put_other k.threads.known (k.threads.made + 1) _ v apart) ∙ (claims e v h).0, ap (λ p. event_held (blocked_in p)) (put_other k.threads.progress (k.threads.made + 1) _ v apart) ∙ (claims e v h).1)

-- ---- all that t's calls keep

module _ {P S H : Type 0} (n : ℕ) (ended : ℕ → Bool) (awaits : Flags) (t : ℕ) (q : Option (Progress S)) where
  -- t runs, claims are held by who made them, these await, and t is this far in its program
  abbrev pub Holding : Control P S H → Type 0
  Holding k = Going n ended t k × HasClaims k × (k.threads.progress t ≡ q) × HasAwaits awaits k

  returned_progress : (u : ℕ) (to : Option Queue) (k : Control P S H) → (returns_to u to k).threads.progress t ≡ k.threads.progress t
  unfolding sets enters leaves_queue
  returned_progress u None k = refl
  returned_progress u (Some to) k = refl

  suspended_progress : (u : ℕ) (k : Control P S H) → (suspends u k).threads.progress t ≡ k.threads.progress t
  unfolding suspends sets enters leaves_queue
  suspended_progress u k = refl

  resumed_progress : (u : ℕ) (k : Control P S H) → (resumes u k).threads.progress t ≡ k.threads.progress t
  unfolding resumes
  resumed_progress u k = returned_progress u (queue_for (or_nobody (entry_of k u)).state) k

  spawned_progress : (f : P → Functions S H) (b : ℕ) (v : ℤ) (of : NewThread) (k : Control P S H) → t ≢ k.threads.made + 1 → (spawns f b v of k).threads.progress t ≡ k.threads.progress t
  unfolding makes enters
  spawned_progress f b v of k apart = put_other k.threads.progress (k.threads.made + 1) _ t apart

  removed_progress : (u : ℕ) (k : Control P S H) → t ≢ u → (removes u k).threads.progress t ≡ k.threads.progress t
  unfolding forgets leaves_queue
  removed_progress u k apart = put_other k.threads.progress u None t apart

  set_progress : (u : ℕ) (c : change_type.Change) (k : Control P S H) → (sets u c k).threads.progress t ≡ k.threads.progress t
  unfolding sets
  set_progress u c k = refl

  pub holding_kept : (f : P → Functions S H) → KeptByCalls f t Holding
  holding_kept f = record {
    handlers = record { shares = λ h k g. g; seated = λ x k g. g };
    spawned = λ b v of k g. let dead = next_dead n ended t k g.0.living in (going_spawned n ended t f b v of k g.0, claims_spawned f b v of k dead g.1, spawned_progress f b v of k (other n ended t k (k.threads.made + 1) g.0 dead) ∙ g.2, awaits_spawned awaits f b v of k dead g.3);
    suspended = λ u k apart up g. (going_suspended n ended t u k apart up g.0, claims_suspended u k g.1, suspended_progress u k ∙ g.2, awaits_suspended awaits u k g.3);
    resumed = λ u k apart g. (going_resumed n ended t u k apart g.0, claims_resumed u k g.1, resumed_progress u k ∙ g.2, awaits_resumed awaits u k g.3);
    removed = λ m u k taken g. let dead = joined_dead n ended t k m u g.0 taken in (going_removed n ended t u k dead g.0, claims_removed u k dead g.1, removed_progress u k (other n ended t k u g.0 dead) ∙ g.2, awaits_removed awaits u k (awaits_none awaits k u dead g.3) g.3);
    favoured = λ b k g. g;
    changed = λ v u c k set g. (going_set n ended t u c k (λ e. set_state v c e set) g.0, claims_set u c k (λ e h. ap is_dead (set_state v c e set)) g.1, set_progress u c k ∙ g.2, awaits_set awaits u c k (λ e h. ap is_dead (set_state v c e set)) g.3);
    added = λ x k g. g;
    exchanged = λ m p k g. g;
    evented = λ x k none g. (g.0, (λ e u h. g.1 e u (none e u h)), g.2, g.3);
    described = λ ds k g. g;
    barred = λ x k g. g;
    used = λ p k g. g;
    requested = λ u b k apart g. (going_set n ended t u (change.Request b) k (request_state b) g.0, claims_set u (change.Request b) k (λ e h. ap is_dead (request_state b e)) g.1, set_progress u (change.Request b) k ∙ g.2, awaits_set awaits u (change.Request b) k (λ e h. ap is_dead (request_state b e)) g.3);
  }

-- ---- events with one claim more, or less

another_claim : (t u : ℕ) (o : Option Event) → claimant_by (option_map (with_claim (Some (record { 0 = t }))) o) ≡ Some u → u ≡ t
another_claim t u None h = absurd (none-some u h)
another_claim t u (Some v) h = sym (same_Some t u h)

returned_claim : (u : ℕ) (o : Option Event) → claimant_by (option_map (with_claim None) o) ≡ Some u → ⊥
returned_claim u None h = none-some u h
returned_claim u (Some v) h = none-some u h

-- a look at events changes no claim
looked_claim : (f : Event → Event) → ((v : Event) → (f v).claim ≡ v.claim) → (es : List ℕ) (events : ℕ → Option Event) (i : ℕ) → claimant_by (each es (option_map f) events i) ≡ claimant_by (events i)
unfolding each
looked_claim f same es events i = by_member (ring_holds i es)
  where
    by_event : (o : Option Event) → claimant_by (option_map f o) ≡ claimant_by o
    by_event None = refl
    by_event (Some v) = ap (option_map (λ (x : Tid). x.0)) (same v)

    by_member : (b : Bool) → claimant_by (if b then option_map f (events i) else events i) ≡ claimant_by (events i)
    by_member true = by_event (events i)
    by_member false = refl

-- a claim of t stands at e, or the claim was there before
claimed_at : (x : Events) (e t now i u : ℕ) → claimant (claimed e (record { 0 = t }) now x) i ≡ Some u → ((i ≡ e) × (u ≡ t)) ⊎ (claimant x i ≡ Some u)
claimed_at x e t now i u =
    let y = ring_awaited e now x in
    put_by (λ o. claimant_by o ≡ Some u → ((i ≡ e) × (u ≡ t)) ⊎ (claimant x i ≡ Some u)) y.events e (option_map (with_claim (Some (record { 0 = t }))) (y.events e)) i
    (λ here h. inl (here, another_claim t u (y.events e) h))
    (λ apart h. inr (sym (looked_claim (awaited now) (λ v. refl) (x.rings e) x.events i) ∙ h))

-- ---- what blocks t

module _ {P S H : Type 0} (t : ℕ) where
  -- another thread is as far as before
  apart_progress : (g : Progress S → Progress S) (k : Control P S H) (u : ℕ) → u ≢ t → blocked_of (goes_on t g k) u ≡ blocked_of k u
  unfolding goes_on
  apart_progress g k u apart = ap blocked_in (put_other k.threads.progress t (option_map g (k.threads.progress t)) u apart)

  own_progress : (g : Progress S → Progress S) (k : Control P S H) (p : Progress S) → k.threads.progress t ≡ Some p → (goes_on t g k).threads.progress t ≡ Some (g p)
  unfolding goes_on
  own_progress g k p is_so = put_here k.threads.progress t (option_map g (k.threads.progress t)) ∙ ap (option_map g) is_so

  -- t goes on in its program, and no call blocks it that did not
  pub claims_go : (g : Progress S → Progress S) (k : Control P S H) → ((p : Progress S) → (g p).blocked ≡ p.blocked) → HasClaims k → HasClaims (goes_on t g k)
  unfolding goes_on
  claims_go g k same claims e u h = ((claims e u h).0, ap event_held kept ∙ (claims e u h).1)
    where
      by_progress : (p : Option (Progress S)) → blocked_in (option_map g p) ≡ blocked_in p
      by_progress None = refl
      by_progress (Some p) = same p

      kept : blocked_in (put k.threads.progress t (option_map g (k.threads.progress t)) u) ≡ blocked_of k u
      kept = put_by (λ p. blocked_in p ≡ blocked_of k u) k.threads.progress t (option_map g (k.threads.progress t)) u (λ here. by_progress (k.threads.progress t) ∙ ap (blocked_of k) (sym here)) (λ apart. refl)

  -- a call begins to block t
  pub claims_block : (c : Call) (y : Awaits) (k : Control P S H) (p : Progress S) → k.threads.progress t ≡ Some p → p.blocked ≡ None → lives (k.threads.known t) ≡ true → is_retaking y ≡ false → HasClaims k → HasClaims (blocks t c y (claims t (ring_given c) k))
  unfolding claims goes_on
  claims_block c y k p on free alive plain has = by_ring (ring_given c) refl
    where
      held : Progress S → Progress S
      held = blocking (Some (record { call = c; awaits = y }))

      old : (e u : ℕ) → claimant k.events e ≡ Some u → (lives (k.threads.known u) ≡ true) × (event_held (blocked_of (goes_on t held k) u) ≡ Some e)
      old e u h =
          let apart : u ≢ t = λ same. none-some e (sym (ap (λ i. event_held (blocked_of k i)) same ∙ ap (λ z. event_held (blocked_in z)) on ∙ ap event_held free) ∙ (has e u h).1) in
          ((has e u h).0, ap event_held (apart_progress held k u apart) ∙ (has e u h).1)

      by_ring : (r : Option ℤ) → ring_given c ≡ r → HasClaims (blocks t c y (claims t r k))
      by_ring None none e u h = old e u h
      by_ring (Some x) given e u h = by_claim (claimed_at k.events (number x) t (now_of k) e u h)
        where
          by_claim : ((e ≡ number x) × (u ≡ t)) ⊎ (claimant k.events e ≡ Some u) → (lives (k.threads.known u) ≡ true) × (event_held (blocked_of (goes_on t held k) u) ≡ Some e)
          by_claim (inr before) = old e u before
          by_claim (inl now) = (ap (λ i. lives (k.threads.known i)) now.1 ∙ alive, ap (λ i. event_held (blocked_of (goes_on t held k) i)) now.1 ∙ ap (λ z. event_held (blocked_in z)) (own_progress held k p on) ∙ event_given c y plain ∙ ap (option_map number) given ∙ ap Some (sym now.0))

  -- another wait blocks t, for the same event, or none
  pub claims_still : (o : Option Blocked) (k : Control P S H) (p : Progress S) → k.threads.progress t ≡ Some p → event_held p.blocked ≡ event_held o → HasClaims k → HasClaims (is_blocked_by t o k)
  unfolding goes_on
  claims_still o k p on same has e u h = ((has e u h).0, kept ∙ (has e u h).1)
    where
      kept : event_held (blocked_in (put k.threads.progress t (option_map (blocking o) (k.threads.progress t)) u)) ≡ event_held (blocked_of k u)
      kept = put_by (λ z. event_held (blocked_in z) ≡ event_held (blocked_of k u)) k.threads.progress t (option_map (blocking o) (k.threads.progress t)) u
          (λ here. ap (λ z. event_held (blocked_in (option_map (blocking o) z))) on ∙ sym (ap (λ i. event_held (blocked_of k i)) here ∙ ap (λ z. event_held (blocked_in z)) on ∙ same))
          (λ apart. refl)

  -- it blocks t on, and t waits for this
  pub claims_wait_on : (b : Blocked) (w : Awaits) (k : Control P S H) (p : Progress S) → k.threads.progress t ≡ Some p → p.blocked ≡ Some b → is_retaking b.awaits ≡ false → is_retaking w ≡ false → HasClaims k → HasClaims (is_blocked_by t (Some (record b { awaits = w })) k)
  claims_wait_on b w k p on blocked was plain has =
      claims_still (Some (record b { awaits = w })) k p on (ap event_held blocked ∙ event_given b.call b.awaits was ∙ sym (event_given b.call w plain)) has

  -- no call blocks t any longer: its claim is given back
  back_apart : (r : Option ℤ) (k : Control P S H) → option_map number r ≡ event_held (blocked_of k t) → HasClaims k → (e u : ℕ) → claimant (gives_back r k).events e ≡ Some u → (claimant k.events e ≡ Some u) × (u ≢ t)
  unfolding gives_back
  back_apart None k same has e u = λ h. (h, λ here. none-some e (same ∙ ap (λ i. event_held (blocked_of k i)) (sym here) ∙ (has e u h).1))
  back_apart (Some x) k same has e u =
      put_by (λ o. claimant_by o ≡ Some u → (claimant k.events e ≡ Some u) × (u ≢ t)) k.events.events (number x) (option_map (with_claim None) (k.events.events (number x))) e
      (λ here h. absurd (returned_claim u (k.events.events (number x)) h))
      (λ apart h. (h, λ here. apart (sym (same_Some (number x) e (same ∙ ap (λ i. event_held (blocked_of k i)) (sym here) ∙ (has e u h).1)))))

  back_threads : (r : Option ℤ) (k : Control P S H) → (gives_back r k).threads ≡ k.threads
  unfolding gives_back
  back_threads None k = refl
  back_threads (Some x) k = refl

  back_events : (r : Option ℤ) (g : Progress S → Progress S) (k : Control P S H) → (gives_back r (goes_on t g k)).events ≡ (gives_back r k).events
  unfolding gives_back goes_on
  back_events None g k = refl
  back_events (Some x) g k = refl

  pub stopped_apart : (k : Control P S H) → HasClaims k → (e u : ℕ) → claimant (stops_waiting t k).events e ≡ Some u → (claimant k.events e ≡ Some u) × (u ≢ t)
  unfolding stops_waiting
  stopped_apart k has e u h =
      let r = ring_held (blocked_of k t) in
      back_apart r k refl has e u (ap (λ x. claimant x e) (sym (back_events r (blocking None) k)) ∙ h)

  pub stopped_known : (k : Control P S H) → (stops_waiting t k).threads.known ≡ k.threads.known
  unfolding stops_waiting goes_on
  stopped_known k = ap (λ (x : Threads S). x.known) (back_threads (ring_held (blocked_of k t)) (is_blocked_by t None k))

  pub stopped_progress : (k : Control P S H) (p : Progress S) → k.threads.progress t ≡ Some p → (stops_waiting t k).threads.progress t ≡ Some (blocking None p)
  unfolding stops_waiting
  stopped_progress k p on = ap (λ (x : Threads S). x.progress t) (back_threads (ring_held (blocked_of k t)) (is_blocked_by t None k)) ∙ own_progress (blocking None) k p on

  stopped_blocked : (k : Control P S H) (u : ℕ) → u ≢ t → blocked_of (stops_waiting t k) u ≡ blocked_of k u
  unfolding stops_waiting
  stopped_blocked k u apart = ap (λ (x : Threads S). blocked_in (x.progress u)) (back_threads (ring_held (blocked_of k t)) (is_blocked_by t None k)) ∙ apart_progress (blocking None) k u apart

  pub claims_stop : (k : Control P S H) → HasClaims k → HasClaims (stops_waiting t k)
  claims_stop k has e u h =
      let was = stopped_apart k has e u h in
      let old = has e u was.0 in
      (ap (λ (known : ℕ → Option Entry). lives (known u)) (stopped_known k) ∙ old.0, ap event_held (stopped_blocked k u was.1) ∙ old.1)

  -- ---- an end: t has no claim

  dead_other : (v : ℤ) (k : Control P S H) (u : ℕ) → u ≢ t → (is_dead_with t v k).threads.known u ≡ k.threads.known u
  unfolding is_dead_with sets enters leaves_queue
  dead_other v k u apart = put_other _ t _ u apart ∙ put_other _ t _ u apart ∙ put_other k.threads.known t _ u apart

  dead_progress : (v : ℤ) (k : Control P S H) → (is_dead_with t v k).threads.progress ≡ k.threads.progress
  unfolding is_dead_with sets enters leaves_queue
  dead_progress v k = refl

  dead_events : (v : ℤ) (k : Control P S H) → (is_dead_with t v k).events ≡ k.events
  unfolding is_dead_with sets enters leaves_queue
  dead_events v k = refl

  gone_other : (k : Control P S H) (u : ℕ) → u ≢ t → ((removes t k).threads.known u ≡ k.threads.known u) × (blocked_of (removes t k) u ≡ blocked_of k u)
  unfolding forgets leaves_queue
  gone_other k u apart = (put_other k.threads.known t None u apart, ap blocked_in (put_other k.threads.progress t None u apart))

  -- of the others the records are as they were
  pub left_other : (v : ℤ) (k : Control P S H) (u : ℕ) → u ≢ t → (leaves t v k).threads.known u ≡ k.threads.known u
  unfolding leaves
  left_other v k u apart = by_joinable (or_nobody (entry_of k t)).joinable
    where
      by_joinable : (b : Bool) → (stops_running t ((if b then is_dead_with t v else removes t) k)).threads.known u ≡ k.threads.known u
      by_joinable true = dead_other v k u apart
      by_joinable false = (gone_other k u apart).0

  gone_events : (k : Control P S H) → (removes t k).events ≡ k.events
  unfolding forgets leaves_queue
  gone_events k = refl

  pub claims_left : (v : ℤ) (k : Control P S H) → ((e u : ℕ) → claimant k.events e ≡ Some u → u ≢ t) → HasClaims k → HasClaims (leaves t v k)
  unfolding leaves
  claims_left v k none has = by_joinable (or_nobody (entry_of k t)).joinable
    where
      by_joinable : (b : Bool) → HasClaims (stops_running t ((if b then is_dead_with t v else removes t) k))
      by_joinable true e u h =
          let was : claimant k.events e ≡ Some u = ap (λ x. claimant x e) (sym (dead_events v k)) ∙ h in
          let old = has e u was in
          (ap lives (dead_other v k u (none e u was)) ∙ old.0, ap (λ (progress : ℕ → Option (Progress S)). event_held (blocked_in (progress u))) (dead_progress v k) ∙ old.1)
      by_joinable false e u h =
          let was : claimant k.events e ≡ Some u = ap (λ x. claimant x e) (sym (gone_events k)) ∙ h in
          let old = has e u was in
          let same = gone_other k u (none e u was) in
          (ap lives same.0 ∙ old.0, ap event_held same.1 ∙ old.1)

-- ---- a pass looks at events

module _ {P S H : Type 0} where
  pub claims_look : (f : P → Functions S H) (s : State P S H) → HasClaims s.control → HasClaims (looks f s s.control)
  unfolding looks
  claims_look f s claims e u h = claims e u (sym (looked_claim (looked_at f s e) (λ v. refl) (flat_map (awaited_events s.control) (waiting s.control)) s.control.events.events e) ∙ h)
