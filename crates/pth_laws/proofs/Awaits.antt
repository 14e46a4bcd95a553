-- Who waits at a condition: the marks tell it of exactly those whom a pth_cond_await blocks, and these live. And who was canceled: of
-- those who have not ended, exactly who takes its mutex back for that.
use Rattle.std.proofs.Common.{◌≡◌, ◌≢◌, ℕ, zero, suc, ◌+◌, ◌==◌, Bool, true, false, if◌then◌else◌, ℤ, pos, Option, Some, None, option_map, refl, sym, ◌∙◌, ap, subst}
use Rattle.std.proofs.lemmas.Bool.{true≢false}
use Rattle.pth_lock.specs.Objects.{object_named}
use Rattle.pth_base.specs.Program.{Functions}
use Rattle.pth_base.specs.Table.{put}
use Rattle.pth_base.specs.declared.act.Act.{Act}
use Rattle.pth_base.specs.declared.act.Act.TheVariants as act
use Rattle.pth_base.specs.declared.answer.Answer.{Answer}
use Rattle.pth_base.specs.declared.answer.Answer.TheVariants as answer
use Rattle.pth_base.specs.declared.call.Call.{Call}
use Rattle.pth_base.specs.declared.call.Call.TheVariants as call
use Rattle.pth_base.specs.declared.errno.Errno.{Errno}
use Rattle.pth_base.proofs.Tables.{same_means, same_fails, put_by, put_here, put_other}
use Rattle.pth_queue.specs.declared.queue.Queue.{Queue}
use Rattle.pth_queue.specs.declared.queue.Queue.TheVariants.{Suspended}
use Rattle.pth_threads.specs.Threads.{changed}
use Rattle.pth_threads.specs.declared.entry.Change as change_type
use Rattle.pth_threads.specs.declared.entry.Change.TheVariants as change
use Rattle.pth_threads.specs.declared.entry.Entry.{Entry}
use Rattle.pth_threads.specs.declared.entry.NewThread.{NewThread}
use Rattle.pth_model.specs.declared.blocked.Blocked.{Blocked}
use Rattle.pth_model.specs.declared.progress.Progress.{Progress}
use Rattle.pth_model.specs.Resources.{answer_told, act_told, wait_told, on_one, on_int, on_msg, retaken, let_go}
use Rattle.pth_model.specs.Store.{Resources}
use Rattle.pth_model.specs.State.{State, Control, Threads}
use Rattle.pth_model.specs.Calls.{blocks}
use Rattle.pth_model.specs.declared.awaits.Awaits.{Awaits}
use Rattle.pth_model.specs.declared.awaits.Awaits.TheVariants as awaited
use Rattle.pth_model.specs.Changes.{sets, enters, leaves_queue, makes, forgets, removes, goes_on, blocking, is_blocked_by, or_nobody, entry_of, blocked_in, blocked_of, queue_for}
use Rattle.pth_model.specs.Ending.{is_dead_with, leaves, stops_running}
use Rattle.pth_model.specs.Living.{is_dead, lives}
use Rattle.pth_model.specs.RingWaits.{claims, gives_back, stops_waiting, ring_held}
use Rattle.pth_model.specs.Pass.{looks}
use Rattle.pth_model.specs.ThreadControl.{spawns, suspends, resumes, returns_to}
use Rattle.pth_model.specs.Awaits.{is_await, is_awaiting, is_retaking, awaits_in, is_canceled, is_canceled_in}
use Rattle.pth_laws.proofs.Book.{Book}
use Rattle.pth_laws.proofs.Living.{suspended_safe}
use Rattle.pth_laws.proofs.Going.{set_lives}

-- what marks tell of threads: who awaits, who has ended, and who was canceled
pub record Flags : Type 0 where
  pub awaits : ℕ → Bool
  pub ended : ℕ → Bool
  pub canceled : ℕ → Bool

-- by the book, where these await
abbrev pub flags : Book → (ℕ → Bool) → Flags
flags b o = record { awaits = o; ended = b.ended; canceled = b.canceled }

-- and t has ended
abbrev pub flags_past : ℕ → Book → (ℕ → Bool) → Flags
flags_past t b o = record { awaits = o; ended = put b.ended t true; canceled = b.canceled }

-- What they tell of u, where this blocks it: it awaits exactly if this is a pth_cond_await, and it was canceled exactly if it takes its
-- mutex back for that, unless it has ended. Only a pth_cond_await takes a mutex back.
pub record Tells (w : Flags) (u : ℕ) (b : Option Blocked) : Type 0 where
  pub fits : w.awaits u ≡ is_awaiting b
  pub uncanceled : w.ended u ≡ false → w.canceled u ≡ is_canceled_in b
  pub retakes : is_retaking (awaits_in b) ≡ true → is_awaiting b ≡ true

-- they tell the same of u
pub record AreSame (v w : Flags) (u : ℕ) : Type 0 where
  pub awaits : v.awaits u ≡ w.awaits u
  pub ended : v.ended u ≡ w.ended u
  pub canceled : v.canceled u ≡ w.canceled u

-- and of all but t
abbrev pub AreSameBut : ℕ → Flags → Flags → Type 0
AreSameBut t v w = (u : ℕ) → u ≢ t → AreSame v w u

tells_as : (v w : Flags) (u : ℕ) (b : Option Blocked) → AreSame v w u → Tells w u b → Tells v u b
tells_as v w u b same h = record { fits = same.awaits ∙ h.fits; uncanceled = λ up. same.canceled ∙ h.uncanceled (sym same.ended ∙ up); retakes = h.retakes }

pub others_await : (t : ℕ) (w : Flags) (o : ℕ → Bool) → ((u : ℕ) → u ≢ t → o u ≡ w.awaits u) → AreSameBut t (record w { awaits = o }) w
others_await t w o same u apart = record { awaits = same u apart; ended = refl; canceled = refl }

-- who was canceled has a mutex to take back
pub canceled_retakes : (a : Awaits) → is_retaking a ≡ false → is_canceled a ≡ false
canceled_retakes (awaited.Retaking m o) h = absurd (true≢false h)
canceled_retakes a h = refl

not_both : (a b : Bool) → (a ≡ true → b ≡ true) → b ≡ false → a ≡ false
not_both false b f h = refl
not_both true b f h = absurd (true≢false (sym (f refl) ∙ h))

-- who awaits nothing takes no mutex back
pub tells_plain : (w : Flags) (u : ℕ) (b : Option Blocked) → w.awaits u ≡ false → Tells w u b → is_retaking (awaits_in b) ≡ false
tells_plain w u b none h = not_both (is_retaking (awaits_in b)) (is_awaiting b) h.retakes (sym h.fits ∙ none)

-- and so was not canceled
pub tells_uncanceled : (w : Flags) (u : ℕ) (b : Option Blocked) → w.awaits u ≡ false → w.ended u ≡ false → Tells w u b → w.canceled u ≡ false
tells_uncanceled w u b none up h = h.uncanceled up ∙ canceled_retakes (awaits_in b) (tells_plain w u b none h)

-- nor is it where nothing blocks it
tells_none : (w : Flags) (u : ℕ) (b : Option Blocked) → w.awaits u ≡ false → Tells w u b → Tells w u None
tells_none w u b none h = record { fits = none; uncanceled = λ up. tells_uncanceled w u b none up h; retakes = λ e. absurd (true≢false (sym e)) }

-- ---- threads

module _ {P S H : Type 0} (w : Flags) where
  -- this is told of all, and who awaits lives
  abbrev pub HasAwaits : Control P S H → Type 0
  HasAwaits k = (u : ℕ) → Tells w u (blocked_of k u) × (w.awaits u ≡ true → lives (k.threads.known u) ≡ true)

  pub awaits_set : (u : ℕ) (c : change_type.Change) (k : Control P S H) → ((e : Entry) → k.threads.known u ≡ Some e → is_dead (changed c e).state ≡ is_dead e.state) → HasAwaits k → HasAwaits (sets u c k)
  unfolding sets
  awaits_set u c k safe has v = ((has v).0, (λ on. set_lives u c k.threads.known safe v ((has v).1 on)))

  pub awaits_moved : (u : ℕ) (c : change_type.Change) (q : Queue) (rank : ℤ) (top : Bool) (k : Control P S H) → ((e : Entry) → k.threads.known u ≡ Some e → is_dead (changed c e).state ≡ is_dead e.state) → HasAwaits k → HasAwaits (enters u q rank top (sets u c (leaves_queue u k)))
  unfolding sets enters leaves_queue
  awaits_moved u c q rank top k safe has v = ((has v).0, (λ on. set_lives u c k.threads.known safe v ((has v).1 on)))

  pub awaits_enter : (u : ℕ) (q : Queue) (rank : ℤ) (top : Bool) (k : Control P S H) → HasAwaits k → HasAwaits (enters u q rank top k)
  unfolding enters
  awaits_enter u q rank top k has = has

  pub awaits_leave : (u : ℕ) (k : Control P S H) → HasAwaits k → HasAwaits (leaves_queue u k)
  unfolding leaves_queue
  awaits_leave u k has = has

  pub awaits_suspended : (u : ℕ) (k : Control P S H) → HasAwaits k → HasAwaits (suspends u k)
  unfolding suspends
  awaits_suspended u k has = awaits_moved u (change.Suspended true) Suspended (pos 0) false k (λ e h. suspended_safe true e) has

  awaits_returned : (u : ℕ) (q : Option Queue) (k : Control P S H) → HasAwaits k → HasAwaits (returns_to u q k)
  awaits_returned u None k has = has
  awaits_returned u (Some q) k has = awaits_moved u (change.Suspended false) q (pos 0) false k (λ e h. suspended_safe false e) has

  pub awaits_resumed : (u : ℕ) (k : Control P S H) → HasAwaits k → HasAwaits (resumes u k)
  unfolding resumes
  awaits_resumed u k has = awaits_returned u (queue_for (or_nobody (entry_of k u)).state) k has

  -- who does not live awaits nothing
  pub awaits_none : (k : Control P S H) (u : ℕ) → lives (k.threads.known u) ≡ false → HasAwaits k → w.awaits u ≡ false
  awaits_none k u dead has = by_await (w.awaits u) refl
    where
      by_await : (b : Bool) → w.awaits u ≡ b → w.awaits u ≡ false
      by_await false h = h
      by_await true h = absurd (true≢false (sym ((has u).1 h) ∙ dead))

  -- another record under a number, where nothing awaits: no call blocks that thread
  renewed : (u : ℕ) (e : Option Entry) (p : Option (Progress S)) (k : Control P S H) → w.awaits u ≡ false → blocked_in p ≡ None → HasAwaits k
      → (v : ℕ) → Tells w v (blocked_in (put k.threads.progress u p v)) × (w.awaits v ≡ true → lives (put k.threads.known u e v) ≡ true)
  renewed u e p k none free has v = (
    put_by (λ (o : Option (Progress S)). Tells w v (blocked_in o)) k.threads.progress u p v
        (λ here. subst (Tells w v) (sym free) (tells_none w v (blocked_of k v) (ap w.awaits here ∙ none) (has v).0))
        (λ apart. (has v).0),
    (λ on. put_by (λ o. lives o ≡ true) k.threads.known u e v (λ here. absurd (true≢false (sym on ∙ ap w.awaits here ∙ none))) (λ apart. (has v).1 on)),
  )

  pub awaits_removed : (u : ℕ) (k : Control P S H) → w.awaits u ≡ false → HasAwaits k → HasAwaits (removes u k)
  unfolding forgets leaves_queue
  awaits_removed u k none has = renewed u None None k none refl has

  pub awaits_spawned : (f : P → Functions S H) (b : ℕ) (i : ℤ) (of : NewThread) (k : Control P S H) → lives (k.threads.known (k.threads.made + 1)) ≡ false → HasAwaits k → HasAwaits (spawns f b i of k)
  unfolding makes enters
  awaits_spawned f b i of k dead has = renewed (k.threads.made + 1) _ _ k (awaits_none k (k.threads.made + 1) dead has) refl has

  -- a thread that awaits nothing dies
  awaits_dead : (u : ℕ) (v : ℤ) (k : Control P S H) → w.awaits u ≡ false → HasAwaits k → HasAwaits (is_dead_with u v k)
  unfolding is_dead_with sets enters leaves_queue
  awaits_dead u v k none has i = ((has i).0, (λ on. let apart : i ≢ u = λ same. true≢false (sym on ∙ ap w.awaits same ∙ none) in ap lives (put_other _ u _ i apart ∙ put_other _ u _ i apart ∙ put_other k.threads.known u _ i apart) ∙ (has i).1 on))

  pub awaits_left : (u : ℕ) (v : ℤ) (k : Control P S H) → w.awaits u ≡ false → HasAwaits k → HasAwaits (leaves u v k)
  unfolding leaves
  awaits_left u v k none has = by_joinable (or_nobody (entry_of k u)).joinable
    where
      by_joinable : (b : Bool) → HasAwaits (stops_running u ((if b then is_dead_with u v else removes u) k))
      by_joinable true = awaits_dead u v k none has
      by_joinable false = awaits_removed u k none has

  -- u goes on in its program, and no call blocks it that did not
  pub awaits_go : (u : ℕ) (g : Progress S → Progress S) (k : Control P S H) → ((p : Progress S) → (g p).blocked ≡ p.blocked) → HasAwaits k → HasAwaits (goes_on u g k)
  unfolding goes_on
  awaits_go u g k same has v = (subst (Tells w v) (sym kept) (has v).0, (has v).1)
    where
      by_progress : (p : Option (Progress S)) → blocked_in (option_map g p) ≡ blocked_in p
      by_progress None = refl
      by_progress (Some p) = same p

      kept : blocked_in (put k.threads.progress u (option_map g (k.threads.progress u)) v) ≡ blocked_of k v
      kept = put_by (λ p. blocked_in p ≡ blocked_of k v) k.threads.progress u (option_map g (k.threads.progress u)) v (λ here. by_progress (k.threads.progress u) ∙ ap (blocked_of k) (sym here)) (λ apart. refl)

  pub awaits_look : (f : P → Functions S H) (s : State P S H) → HasAwaits s.control → HasAwaits (looks f s s.control)
  unfolding looks
  awaits_look f s has = has

-- the same is told
pub awaits_as : {P S H : Type 0} (w v : Flags) (k : Control P S H) → ((u : ℕ) → AreSame v w u) → HasAwaits w k → HasAwaits v k
awaits_as w v k same has u = (tells_as v w u (blocked_of k u) (same u) (has u).0, (λ on. (has u).1 (sym (same u).awaits ∙ on)))

-- of t this is told, and of the others the same
pub awaits_own : {P S H : Type 0} (t : ℕ) (w v : Flags) (k : Control P S H) → Tells v t (blocked_of k t) → (v.awaits t ≡ true → lives (k.threads.known t) ≡ true) → AreSameBut t v w → HasAwaits w k → HasAwaits v k
awaits_own t w v k own alive others has u = by_same (u == t) refl
  where
    by_same : (b : Bool) → (u == t) ≡ b → Tells v u (blocked_of k u) × (v.awaits u ≡ true → lives (k.threads.known u) ≡ true)
    by_same true same = subst (λ i. Tells v i (blocked_of k i) × (v.awaits i ≡ true → lives (k.threads.known i) ≡ true)) (sym (same_means u t same)) (own, alive)
    by_same false other =
        let same = others u (same_fails u t other) in
        (tells_as v w u (blocked_of k u) same (has u).0, (λ on. (has u).1 (sym same.awaits ∙ on)))

-- t has ended, or may be canceled now
pub awaits_past : {P S H : Type 0} (t : ℕ) (w v : Flags) (k : Control P S H) → (v.awaits t ≡ w.awaits t) × (v.ended t ≡ true) → AreSameBut t v w → HasAwaits w k → HasAwaits v k
awaits_past t w v k own others has =
    awaits_own t w v k (record { fits = own.0 ∙ (has t).0.fits; uncanceled = λ up. absurd (true≢false (sym own.1 ∙ up)); retakes = (has t).0.retakes }) (λ on. (has t).1 (sym own.0 ∙ on)) others has

-- ---- another call blocks t, or none

module _ {P S H : Type 0} (t : ℕ) where
  -- one of which this is told
  pub awaits_block : (w v : Flags) (o : Option Blocked) (k : Control P S H) (p : Progress S) → k.threads.progress t ≡ Some p → Tells v t o → (v.awaits t ≡ true → lives (k.threads.known t) ≡ true) → AreSameBut t v w → HasAwaits w k → HasAwaits v (is_blocked_by t o k)
  unfolding goes_on
  awaits_block w v o k p on own alive others has u = (
    put_by (λ (z : Option (Progress S)). Tells v u (blocked_in z)) k.threads.progress t (option_map (blocking o) (k.threads.progress t)) u
        (λ here. subst (λ i. Tells v i (blocked_in (option_map (blocking o) (k.threads.progress t)))) (sym here) (subst (λ (z : Option (Progress S)). Tells v t (blocked_in (option_map (blocking o) z))) (sym on) own))
        (λ apart. tells_as v w u (blocked_of k u) (others u apart) (has u).0),
    (λ awaiting. by_same (u == t) refl awaiting),
  )
    where
      by_same : (b : Bool) → (u == t) ≡ b → v.awaits u ≡ true → lives (k.threads.known u) ≡ true
      by_same true same awaiting = let here = same_means u t same in ap (λ i. lives (k.threads.known i)) here ∙ alive (ap v.awaits (sym here) ∙ awaiting)
      by_same false other awaiting = let apart = same_fails u t other in (has u).1 (sym (others u apart).awaits ∙ awaiting)

  -- claims are nothing to it
  pub awaits_claim : (w : Flags) (e : Option ℤ) (k : Control P S H) → HasAwaits w k → HasAwaits w (claims t e k)
  unfolding claims
  awaits_claim w None k has = has
  awaits_claim w (Some e) k has = has

  claim_threads : (e : Option ℤ) (k : Control P S H) → (claims t e k).threads ≡ k.threads
  unfolding claims
  claim_threads None k = refl
  claim_threads (Some e) k = refl

  -- a call begins to block t
  pub awaits_begun : (w v : Flags) (c : Call) (y : Awaits) (e : Option ℤ) (k : Control P S H) (p : Progress S) → k.threads.progress t ≡ Some p → Tells v t (Some (record { call = c; awaits = y })) → lives (k.threads.known t) ≡ true → AreSameBut t v w → HasAwaits w k
      → HasAwaits v (blocks t c y (claims t e k))
  awaits_begun w v c y e k p on own alive others has =
      let j = claims t e k in
      let same = claim_threads e k in
      awaits_block w v (Some (record { call = c; awaits = y })) j p (ap (λ (x : Threads S). x.progress t) same ∙ on) own (λ awaiting. ap (λ (x : Threads S). lives (x.known t)) same ∙ alive) others (awaits_claim w e k has)

  awaits_back : (w : Flags) (e : Option ℤ) (k : Control P S H) → HasAwaits w k → HasAwaits w (gives_back e k)
  unfolding gives_back
  awaits_back w None k has = has
  awaits_back w (Some e) k has = has

  pub awaits_stop : (w v : Flags) (k : Control P S H) → Tells v t None → AreSameBut t v w → HasAwaits w k → HasAwaits v (stops_waiting t k)
  unfolding stops_waiting goes_on
  awaits_stop w v k own others has = awaits_back v (ring_held (blocked_of k t)) (is_blocked_by t None k) stopped
    where
      by_progress : (z : Option (Progress S)) → blocked_in (option_map (blocking None) z) ≡ None
      by_progress None = refl
      by_progress (Some p) = refl

      stopped : HasAwaits v (is_blocked_by t None k)
      stopped u = (
        put_by (λ (z : Option (Progress S)). Tells v u (blocked_in z)) k.threads.progress t (option_map (blocking None) (k.threads.progress t)) u
            (λ here. subst (λ i. Tells v i (blocked_in (option_map (blocking None) (k.threads.progress t)))) (sym here) (subst (Tells v t) (sym (by_progress (k.threads.progress t))) own))
            (λ apart. tells_as v w u (blocked_of k u) (others u apart) (has u).0),
        (λ awaiting. let apart : u ≢ t = λ same. true≢false (sym awaiting ∙ ap v.awaits same ∙ own.fits) in (has u).1 (sym (others u apart).awaits ∙ awaiting)),
      )

-- ---- marks

on_one_awaits : (a : Answer) (k g : Resources) → g.awaits ≡ k.awaits → (on_one a k g).awaits ≡ k.awaits
on_one_awaits (answer.Int (pos (suc zero))) k g same = same
on_one_awaits a k g same = refl

on_int_awaits : (a : Answer) (k : Resources) (g : ℤ → Resources) → ((n : ℤ) → (g n).awaits ≡ k.awaits) → (on_int a k g).awaits ≡ k.awaits
on_int_awaits (answer.Int n) k g same = same n
on_int_awaits a k g same = refl

on_msg_awaits : (a : Answer) (k g : Resources) → g.awaits ≡ k.awaits → (on_msg a k g).awaits ≡ k.awaits
on_msg_awaits (answer.Msg id v) k g same = same
on_msg_awaits a k g same = refl

-- an answer, but that of pth_kill: of t alone it tells something, and once t's call is answered it awaits nothing
abbrev pub kills : Call → Bool
kills call.Kill = true
kills c = false

module _ (k : Resources) (t : ℕ) where
  answer_keeps : (c : Call) (a : Answer) → kills c ≡ false → is_await c ≡ false → (answer_told k t c a).awaits ≡ k.awaits
  unfolding answer_told
  answer_keeps (call.CleanupPush h v) a on other = on_one_awaits a k _ refl
  answer_keeps (call.CleanupPop v) a on other = on_one_awaits a k _ refl
  answer_keeps (call.KeyCreate h) a on other = on_int_awaits a k _ (λ n. refl)
  answer_keeps (call.KeyDelete key) a on other = on_one_awaits a k _ refl
  answer_keeps (call.KeySet key v) a on other = on_one_awaits a k _ refl
  answer_keeps (call.MutexInit m) a on other = on_int_awaits a k _ (λ n. refl)
  answer_keeps (call.MutexAcquire m v e) a on other = on_int_awaits a k _ (λ n. refl)
  answer_keeps (call.MutexRelease m) a on other = on_int_awaits a k _ (λ n. refl)
  answer_keeps (call.RwInit l) a on other = on_int_awaits a k _ (λ n. refl)
  answer_keeps (call.RwAcquire l write v e) a on other = on_int_awaits a k _ (λ n. refl)
  answer_keeps (call.RwRelease l) a on other = on_int_awaits a k _ (λ n. refl)
  answer_keeps (call.PortCreate name) a on other = on_int_awaits a k _ (λ n. refl)
  answer_keeps (call.PortPut p v r) a on other = on_int_awaits a k _ (λ n. refl)
  answer_keeps (call.PortGet p) a on other = on_msg_awaits a k _ refl
  answer_keeps (call.Reply m v) a on other = on_int_awaits a k _ (λ n. refl)
  answer_keeps (call.PortDestroy p) a on other = on_int_awaits a k _ (λ n. refl)
  answer_keeps (call.CondAwait c m e) a on other = absurd (true≢false other)
  answer_keeps call.Kill a on other = absurd (true≢false on)
  answer_keeps c a on other = refl

  -- t awaits at most by this call
  abbrev pub AwaitsBy : Call → Type 0
  AwaitsBy c = k.awaits t ≡ true → is_await c ≡ true

  awaits_not : (c : Call) → is_await c ≡ false → AwaitsBy c → k.awaits t ≡ false
  awaits_not c none needs = by_await (k.awaits t) refl
    where
      by_await : (b : Bool) → k.awaits t ≡ b → k.awaits t ≡ false
      by_await false h = h
      by_await true h = absurd (true≢false (sym (needs h) ∙ none))

  -- afterwards that of t is this, and of the others it is the same
  abbrev pub TellsAwaits : Bool → Resources → Type 0
  TellsAwaits b r = (r.awaits t ≡ b) × ((u : ℕ) → u ≢ t → r.awaits u ≡ k.awaits u)

  took_back : (m : ℕ) (b : Bool) → k.awaits t ≡ b → TellsAwaits false (if b then retaken k t m else k)
  took_back m true h = (put_here k.awaits t false, λ u apart. put_other k.awaits t false u apart)
  took_back m false h = (h, λ u apart. refl)

  gave_back : (m : ℕ) (b : Bool) → k.awaits t ≡ b → TellsAwaits true (if b then k else let_go k t m)
  gave_back m true h = (h, λ u apart. refl)
  gave_back m false h = (put_here k.awaits t true, λ u apart. put_other k.awaits t true u apart)

  -- a call that is refused tells nothing
  pub refusal_awaits : (e : Errno) → (answer_told k t call.Kill (answer.Fail e)).awaits ≡ k.awaits
  unfolding answer_told
  refusal_awaits e = refl

  -- its answer, and its wait
  pub answer_awaits : (c : Call) (a : Answer) → kills c ≡ false → AwaitsBy c → TellsAwaits false (answer_told k t c a)
  unfolding answer_told
  answer_awaits c a on fits = by_await (is_await c) refl
    where
      of_await : (d : Call) → is_await d ≡ true → TellsAwaits false (answer_told k t d a)
      of_await (call.CondAwait c m e) one = took_back (object_named m) (k.awaits t) refl
      of_await d one = absurd (true≢false (sym one))

      by_await : (b : Bool) → is_await c ≡ b → TellsAwaits false (answer_told k t c a)
      by_await true one = of_await c one
      by_await false none = let same = answer_keeps c a on none in (ap (λ (w : ℕ → Bool). w t) same ∙ awaits_not c none fits, λ u apart. ap (λ (w : ℕ → Bool). w u) same)

  pub wait_awaits : (c : Call) → AwaitsBy c → TellsAwaits (is_await c) (wait_told k t c)
  wait_awaits (call.CondAwait c m e) fits = gave_back (object_named m) (k.awaits t) refl
  wait_awaits c fits = (awaits_not c refl fits, λ u apart. refl)

  pub act_awaits : (x : Act) (a : Answer) → (act_told k t x a).awaits ≡ k.awaits
  unfolding act_told
  act_awaits (act.Release m) a = answer_keeps (call.MutexRelease m) a refl refl
  act_awaits (act.Put p v) a = answer_keeps (call.PortPut p v (pos 0)) a refl refl
  act_awaits (act.SetKey key v) a = answer_keeps (call.KeySet key v) a refl refl
  act_awaits x a = refl
