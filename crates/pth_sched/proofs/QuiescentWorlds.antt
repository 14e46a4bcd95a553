-- What keeps a world quiescent.
use Rattle.std.proofs.Common.{◌≡◌, ◌≢◌, ◌∙◌, ℕ, ◌==◌, ◌<◌, ◌≤◌, min, IfSome, true, false, List, All, Option, Some, None, refl, sym, ap, subst, arith, append-nil, inl, inr}
use Rattle.pth_model.specs.Awaits.{is_awaiting}
use Rattle.std.proofs.lemmas.Bool.{cases_Bool}
use Rattle.std.proofs.lemmas.List.Elements.{All-weaker}
use Rattle.pth_base.specs.Program.{Functions}
use Rattle.pth_base.proofs.Tables.{same_means, same_fails}
use Rattle.pth_base.specs.Limits.{last_moment}
use Rattle.pth_base.specs.Naming.{by_slot, seen}
use Rattle.pth_base.specs.declared.mark.Mark.{Mark}
use Rattle.pth_kernel.specs.Kernel.{Kernel}
use Rattle.pth_threads.specs.Threads.{entry_at, slot_of}
use Rattle.pth_threads.specs.declared.entry.Entry.{Entry}
use Rattle.pth_model.specs.declared.progress.Progress.{Progress}
use Rattle.pth_model.specs.State.{Control, State, Scheduler, now_of, main}
use Rattle.pth_model.specs.Cancellation.{may_be_canceled}
use Rattle.pth_model.specs.Changes.{blocked_in, blocked_of, entry_of}
use Rattle.pth_model.specs.Part.{readies_new, runs, turn_ends}
use Rattle.pth_model.specs.Pass.{looks, waiting, pass, all_woken}
use Rattle.pth_model.specs.Store.{Store}
use Rattle.pth_model.specs.ThreadEnds.{is_alone}
use Rattle.pth_model.specs.Transition.{controlled, changes, ◌and_then◌}
use Rattle.pth_world.specs.Leading.{Leads}
use Rattle.pth_world.specs.Shows.{Shows, StandsFor}
use Rattle.pth_world.specs.WellFormed.{WellFormed}
use Rattle.pth_world.specs.World.{WorldOf}
use Rattle.pth_world.specs.StateOf.{state_of}
use Rattle.pth_world.proofs.StateOf.{stands_for_state}
use Rattle.pth_world.proofs.Telling.{has_still}
use Rattle.pth_waits.specs.Dormant.{IsDormant}
use Rattle.pth_sched.specs.Quiescence.{IsQuiescentUntil, IsQuiescentButUntil, AreDormant, is_among_waiting}
use Rattle.pth_waits.proofs.Standing.{none_died}
use Rattle.pth_waits.proofs.Dormancy.{dormant_kept, dormant_sooner, equal_pending, equal_seats, later_than_now}
use Rattle.pth_sched.proofs.Quiescing.{IsNonWaking, non_waking_quiescent, readied_quiescent, readied_nobody, dispatched_quiescent, turn_over_quiescent}
use Rattle.pth_sched.proofs.Waiting.{all_wait, none_looked, none_wakes}

module _ {P S H : Type 0} (w : WorldOf P S H) where
  -- ---- two states for which a world stands

  module _ (s r : State P S H) (ss : StandsFor w s) (sr : StandsFor w r) where
    same_known : r.control.threads.known ≡ s.control.threads.known
    same_known = sr.control.threads.known ∙ sym ss.control.threads.known

    same_progress : r.control.threads.progress ≡ s.control.threads.progress
    same_progress = sr.control.threads.progress ∙ sym ss.control.threads.progress

    same_blocked : (u : ℕ) → blocked_of r.control u ≡ blocked_of s.control u
    same_blocked u = ap (λ (f : ℕ → Option (Progress S)). blocked_in (f u)) same_progress

    same_asked : (u : ℕ) → may_be_canceled s.control u ≡ false → may_be_canceled r.control u ≡ false
    unfolding may_be_canceled
    same_asked u h = rw (same_known, same_blocked u) h

    same_store : r.resources.store ≡ s.resources.store
    same_store = sr.store ∙ sym ss.store

    same_barriers : r.control.barriers ≡ s.control.barriers
    same_barriers = sr.control.barriers ∙ sym ss.control.barriers

    pub seen_dormant : (until u : ℕ) → IsDormant s until u → IsDormant r until u
    seen_dormant until u q = dormant_kept s r u (record {
      now = now_of s.control;
      later = omega arith;
      kernel = sr.control.kernel ∙ sym ss.control.kernel;
      events = equal_pending s.control.events r.control.events (sr.control.events ∙ sym ss.control.events);
      mutexes = ap (λ (x : Store). x.mutexes) same_store;
      locks = ap (λ (x : Store). x.rw_locks) same_store;
      mail = ap (λ (x : Store). x.mail) same_store;
      rounds = λ b round h. rw same_barriers h;
      seats = equal_seats s.control.conditions r.control.conditions (sr.control.conditions ∙ sym ss.control.conditions);
      blocked = same_blocked u;
      died = λ n h. rw same_known h;
      left = λ none u. rw same_known (none u);
      asked = same_asked u;
    }) until q

    pub seen_among : (u : ℕ) → is_among_waiting (entry_of r.control u) ≡ true → is_among_waiting (entry_of s.control u) ≡ true
    seen_among u h = subst (λ (f : ℕ → Option Entry). is_among_waiting (f u) ≡ true) same_known h

  -- what is known of a state, is known too of the one that says of each thread rightly whether it awaits a condition
  abbrev pub awaiting_rightly : State P S H → State P S H
  awaiting_rightly s = record s { resources = record s.resources { awaits = λ u. is_awaiting (blocked_of s.control u) } }

  abbrev pub quiescent_rightly : (until : ℕ) → IsQuiescentUntil w until → IsQuiescentUntil w until
  quiescent_rightly until c =
      let r = awaiting_rightly c.state in
      let st : StandsFor w r = record { control = c.stands.control; store = c.stands.store } in
      record { state = r; stands = st; quiescence = λ u apart among. seen_dormant c.state r c.stands st until u (c.quiescence u apart among) }

  pub but_dormant : (t until : ℕ) (quiescence : IsQuiescentButUntil t w until) (s : State P S H) → StandsFor w s → (u : ℕ) → u ≢ t → is_among_waiting (entry_of s.control u) ≡ true → IsDormant s until u
  but_dormant t until quiescence s st u apart waits = seen_dormant quiescence.state s quiescence.stands st until u (quiescence.quiescence u apart (seen_among quiescence.state s quiescence.stands st u waits))

  -- all are dormant where the others are, and t is
  pub are_dormant : (t until own : ℕ) → (0 < until → IsQuiescentButUntil t w until) → (s : State P S H) → StandsFor w s → (0 < own → is_among_waiting (entry_of s.control t) ≡ true → IsDormant s own t) → 0 < min until own → AreDormant s (min until own)
  are_dormant t until own quiescent s st dormant some u waits = elim (cases_Bool (u == t)) [
    | inl same ↦ (let e : u ≡ t = same_means u t same in
        subst (IsDormant s (min until own)) (sym e)
        (dormant_sooner s t own (min until own) (omega arith) (dormant (omega arith) (subst (λ (v : ℕ). is_among_waiting (entry_of s.control v) ≡ true) e waits))))
    | inr apart ↦ dormant_sooner s u until (min until own) (omega arith) (but_dormant t until (quiescent (omega arith)) s st u (same_fails u t apart) waits)
  ]

  -- where all are dormant, the world is quiescent
  pub dormant_stays_quiescent : (until : ℕ) → WellFormed w → ((s : State P S H) → StandsFor w s → AreDormant s until) → IsQuiescentUntil w until
  dormant_stays_quiescent until whole dormant =
      let stands = stands_for_state w whole.sound in
      record { state = state_of w; stands = stands; quiescence = λ u other waits. dormant (state_of w) stands u waits }

  -- and a pass changes nothing
  module _ (f : P → Functions S H) (s : State P S H) (st : StandsFor w s) (whole : WellFormed w) (until : ℕ) (early : w.kernel.now < until) (dormant : AreDormant s until) (alone : is_alone s.control main ≡ false) where
    early_now : now_of s.control < until
    early_now = later_than_now w s.control st.control until early

    all_dormant : All (IsDormant s until) (waiting s.control)
    all_dormant = All-weaker (λ u. is_among_waiting (entry_of s.control u) ≡ true) (IsDormant s until) dormant (waiting s.control) (all_wait w whole s.control st.control)

    pub pass_leads_nowhere : (old : List Mark) → Leads w old old (pass f s)
    unfolding pass all_woken
    pass_leads_nowhere old =
        let looked = none_looked f s until early_now all_dormant in
        let none = none_wakes f s until early_now all_dormant alone (none_died w whole s.control st.control) in
        subst (λ (l : List ℕ). Leads w old old ((changes (looks f s) and_then all_woken l) s)) (sym none) (record {
          stands = record { control = subst (λ (k : Control P S H). Shows w k) (sym looked) st.control; store = st.store };
          tells = sym (append-nil old);
        })

-- ---- what the parts of a turn leave

module _ {P S H : Type 0} (w : WorldOf P S H) (until : ℕ) (quiescence : IsQuiescentUntil w until) where
  running_is : (r : Option ℕ) → w.scheduler.running ≡ r → quiescence.state.control.scheduler.running ≡ r
  running_is r is = ap (λ (x : Scheduler). x.running) quiescence.stands.control.scheduler ∙ is

  -- the new threads become ready, and one is dispatched
  pub take_quiescent : (u v : WorldOf P S H) (t : ℕ) → w.scheduler.running ≡ None → ((k : Control P S H) → Shows w k → Shows u (readies_new k)) → ((k : Control P S H) → Shows u k → Shows v (runs t k)) → v.store ≡ w.store → IsQuiescentUntil v until
  take_quiescent u v t nobody ready dispatch stored =
      let k = quiescence.state.control in
      record {
        state = controlled (λ j. runs t (readies_new j)) quiescence.state;
        stands = record { control = dispatch (readies_new k) (ready k quiescence.stands.control); store = has_still w v quiescence.state stored quiescence.stands.store };
        quiescence = dispatched_quiescent (controlled readies_new quiescence.state) until t (readied_nobody k _ (running_is None nobody)) (readied_quiescent quiescence.state until _ (running_is None nobody) quiescence.quiescence);
      }

  -- a step that is non-waking
  pub non_waking_stays_quiescent : (v : WorldOf P S H) (t : ℕ) (r : State P S H) → w.scheduler.running ≡ Some t → StandsFor v r → IsNonWaking t quiescence.state r → IsQuiescentUntil v until
  non_waking_stays_quiescent v t r runs stands non_waking = record {
    state = r;
    stands = stands;
    quiescence = non_waking_quiescent t quiescence.state r until non_waking (running_is (Some t) runs) quiescence.quiescence;
  }

  -- the end of a turn
  pub turn_over_stays_quiescent : (v : WorldOf P S H) (t : ℕ) → ((r : ℕ) → w.scheduler.running ≡ Some r → r ≡ t) → ((k : Control P S H) → Shows w k → Shows v (turn_ends t k)) → v.store ≡ w.store → w.kernel.now ≤ last_moment → IsQuiescentButUntil t v until
  turn_over_stays_quiescent v t own shows stored within =
      let k = quiescence.state.control in
      record {
        state = controlled (turn_ends t) quiescence.state;
        stands = record { control = shows k quiescence.stands.control; store = has_still w v quiescence.state stored quiescence.stands.store };
        quiescence = turn_over_quiescent quiescence.state t (λ r is. own r (sym (running_is w.scheduler.running refl) ∙ is)) until (let e : now_of k ≡ w.kernel.now = ap (λ (z : Kernel). z.now) quiescence.stands.control.kernel in omega arith) quiescence.quiescence;
      }

-- who is not in the system does not wait
pub gone_waits : {P S H : Type 0} (w : WorldOf P S H) (k : Control P S H) (t : ℕ) → Shows w k → slot_of w.threads.records t ≡ None → is_among_waiting (entry_of k t) ≡ true → ⊥
unfolding seen
gone_waits w k t sh none waits =
    let is = ap (λ (f : ℕ → Option Entry). f t) sh.threads.known ∙ ap (λ (o : Option ℕ). by_slot None (entry_at w.threads.records) o) none in
    cc (sym (ap (λ (o : Option Entry). is_among_waiting o) is) ∙ waits)

pub own_by : (t : ℕ) (o : Option ℕ) → IfSome o (λ r. r ≡ t) → (r : ℕ) → o ≡ Some r → r ≡ t
own_by t None own r is = absurd (cc is)
own_by t (Some x) own r is = (let e : x ≡ r = cc is in sym e ∙ own)
