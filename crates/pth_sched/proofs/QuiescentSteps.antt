-- Steps that are non-waking leave a world quiescent.
use Rattle.std.proofs.Common.{◌≡◌, ◌∙◌, ℕ, ◌<◌, ◌||◌, ◌&&◌, is_some, Bool, true, false, if◌then◌else◌, List, Option, Some, None, IsSome, IfSome, refl, sym, ap, subst, arith, inl, inr}
use Rattle.std.proofs.lemmas.Bool.{and_parts, or_cases}
use Rattle.pth_model.specs.Awaits.{is_awaiting}
use Rattle.pth_base.specs.Program.{Functions}
use Rattle.pth_base.specs.declared.call.Call.{Call}
use Rattle.pth_base.specs.declared.mark.Mark.{Mark}
use Rattle.pth_kernel.specs.Kernel.{Kernel, kernel_of}
use Rattle.pth_threads.specs.Threads.{slot_of}
use Rattle.pth_model.specs.declared.blocked.Blocked.{Blocked}
use Rattle.pth_model.specs.declared.next.Next.{Next}
use Rattle.pth_model.specs.declared.progress.Progress.{Progress}
use Rattle.pth_model.specs.State.{Control, State}
use Rattle.pth_model.specs.Transition.{Went, controlled}
use Rattle.pth_model.specs.Calls.{begun, gone_on}
use Rattle.pth_model.specs.Changes.{blocked_in, blocked_of}
use Rattle.pth_model.specs.Part.{owes_after, step_of, stepping, steps_by, steps_from, steps_on}
use Rattle.pth_world.specs.Leading.{Leads, StandsRightly, StandsWhere}
use Rattle.pth_world.specs.Shows.{Shows, StandsFor}
use Rattle.pth_world.specs.Sound.{IsKnown}
use Rattle.pth_world.specs.WellFormed.{MayBlock, WellFormed, view}
use Rattle.pth_world.specs.World.{WorldOf}
use Rattle.pth_world.proofs.Moves.{blocked_may, known_slot}
use Rattle.pth_world.proofs.Showing.{progress_is}
use Rattle.pth_world.proofs.Telling.{has_still}
use Rattle.pth_sched.specs.Quiescence.{IsQuiescentUntil, IsKnownQuiescent}
use Rattle.pth_sched.specs.NonWaking.{is_non_waking, waits_on_without_waking, is_waiting, waits_without_waking}
use Rattle.pth_sched.proofs.Quiescing.{IsNonWaking, non_waking_then}
use Rattle.pth_sched.proofs.QuiescentWorlds.{quiescent_rightly, non_waking_stays_quiescent}
use Rattle.pth_sched.proofs.NonWakingCalls.{begins_non_waking, is_non_waking_begun, owes_non_waking, goes_on_non_waking, stepping_non_waking}

module _ {P S H : Type 0} where
  -- the call that blocks the thread that runs is one that may
  runner_may : (w : WorldOf P S H) (s : State P S H) (t : ℕ) → WellFormed w → StandsFor w s → w.scheduler.running ≡ Some t → IfSome (blocked_of s.control t) (λ b. MayBlock t b)
  runner_may w s t whole st runs =
      let slot = known_slot (slot_of w.threads.records t) (subst (λ (o : Option ℕ). IfSome o (λ u. IsKnown w.threads u)) runs whole.runner) in
      let is : blocked_of s.control t ≡ (view w.threads slot.0).blocked = ap blocked_in (progress_is w.threads s.control t slot.0 whole.sound slot.1 st.control.threads) in
      subst (λ (o : Option Blocked). IfSome o (λ b. MayBlock t b)) (sym is) (blocked_may w t slot.0 whole slot.1)

  -- what is known after a call: what was known, or nothing
  pub quiescent_by : (w : WorldOf P S H) (b : Bool) (was until : ℕ) → until ≡ (if b then was else 0) → (b ≡ true → 0 < was → IsQuiescentUntil w was) → IsKnownQuiescent w until
  quiescent_by w true was until is quiescence some = subst (IsQuiescentUntil w) (sym is) (quiescence refl (subst (λ (n : ℕ). 0 < n) is some))
  quiescent_by w false was until is quiescence some = absurd (omega (arith, is))

  module _ (f : P → Functions S H) (w v : WorldOf P S H) (until t : ℕ) (known : IsQuiescentUntil w until) (runs : w.scheduler.running ≡ Some t) where
    abbrev quiescence : IsQuiescentUntil w until
    quiescence = quiescent_rightly w until known

    abbrev s : State P S H
    s = quiescence.state

    -- a call begins
    begun_by_test : (r : State P S H) (call : Call) (n : Next) → n ≡ (begun f t call r).next → (is_non_waking call || (waits_without_waking r.control.kernel call && is_waiting n)) ≡ true → IsNonWaking t r (begun f t call r).told.state
    begun_by_test r call n next test = elim (or_cases (is_non_waking call) (waits_without_waking r.control.kernel call && is_waiting n) test) [
      | inl non_waking ↦ is_non_waking_begun t f r call non_waking
      | inr waits ↦ (let a = and_parts (waits_without_waking r.control.kernel call) (is_waiting n) waits in begins_non_waking t f r call a.0 (subst (λ (x : Next). is_waiting x ≡ true) next a.1))
    ]

    module _ (u : WorldOf P S H) (call : Call) (n : Next) (old new : List Mark) (stored : u.store ≡ w.store)
        (next : (r : State P S H) → StandsWhere u t false r → n ≡ (begun f t call r).next) (leads : (r : State P S H) → StandsWhere u t false r → Leads v old new (begun f t call r).told)
        (free : (k : Control P S H) → Shows w k → blocked_of k t ≡ None) (test : (is_non_waking call || (waits_without_waking (kernel_of u.kernel) call && is_waiting n)) ≡ true) where
      begun_from : (o : Option (Progress S)) → IsSome o → IfSome o (λ p. Shows u (stepping t (step_of f s.control p) s.control)) → IsQuiescentUntil v until
      begun_from None some shows = absurd (cc some)
      begun_from (Some p) some shows =
          let x = step_of f s.control p in
          let r = controlled (stepping t x) s in
          let stands : StandsWhere u t false r = (record { control = shows; store = has_still w u s stored quiescence.stands.store }, ap is_awaiting (free s.control quiescence.stands.control)) in
          let tested = subst (λ (k : Kernel). (is_non_waking call || (waits_without_waking k call && is_waiting n)) ≡ true) (sym shows.kernel) test in
          non_waking_stays_quiescent w until quiescence v t (begun f t call r).told.state runs (leads r stands).stands (non_waking_then t s r _ (stepping_non_waking t x s) (begun_by_test r call n (next r stands) tested))

      pub begun_stays_quiescent : ((r : State P S H) → StandsFor w r → IsSome (r.control.threads.progress t)) → ((k : Control P S H) → Shows w k → IfSome (k.threads.progress t) (λ p. Shows u (stepping t (step_of f k p) k))) → IsQuiescentUntil v until
      begun_stays_quiescent some shows = begun_from (s.control.threads.progress t) (some s quiescence.stands) (shows s.control quiescence.stands.control)

    -- a call is tried again
    module _ (whole : WellFormed w) (non_waking : Bool) (n : Next) (old new : List Mark) (is : (k : Control P S H) → Shows w k → non_waking ≡ waits_on_without_waking (kernel_of w.kernel) (blocked_of k t))
        (next : (r : State P S H) → StandsRightly w t r → n ≡ (gone_on f t r).next) (leads : (r : State P S H) → StandsRightly w t r → Leads v old new (gone_on f t r).told) where
      gone_on_by_test : (o : Option Blocked) → blocked_of s.control t ≡ o → IfSome o (λ b. MayBlock t b) → waits_on_without_waking s.control.kernel o ≡ true → is_waiting (gone_on f t s).next ≡ true → IsNonWaking t s (gone_on f t s).told.state
      gone_on_by_test None blocked may non_waking waits = absurd (cc non_waking)
      gone_on_by_test (Some b) blocked may non_waking waits = goes_on_non_waking t f s b blocked may non_waking waits

      pub gone_on_stays_quiescent : (non_waking && is_waiting n) ≡ true → IsQuiescentUntil v until
      gone_on_stays_quiescent test =
          let a = and_parts non_waking (is_waiting n) test in
          non_waking_stays_quiescent w until quiescence v t (gone_on f t s).told.state runs (leads s (quiescence.stands, refl)).stands
          (gone_on_by_test (blocked_of s.control t) refl (runner_may w s t whole quiescence.stands runs) (ap (λ (k : Kernel). waits_on_without_waking k (blocked_of s.control t)) quiescence.stands.control.kernel ∙ sym (is s.control quiescence.stands.control) ∙ a.0) (subst (λ (x : Next). is_waiting x ≡ true) (next s (quiescence.stands, refl)) a.1))

  -- t is handed over what it is owed
  pub owed_stays_quiescent : (w v : WorldOf P S H) (until t : ℕ) (n : Next) → IsQuiescentUntil w until → w.scheduler.running ≡ Some t → ((k : Control P S H) → Shows w k → Shows v (owes_after t n k)) → v.store ≡ w.store → IsQuiescentUntil v until
  owed_stays_quiescent w v until t n quiescence runs shows stored =
      non_waking_stays_quiescent w until quiescence v t (controlled (owes_after t n) quiescence.state) runs (record { control = shows quiescence.state.control quiescence.stands.control; store = has_still w v quiescence.state stored quiescence.stands.store }) (owes_non_waking t n quiescence.state)

-- a thread that no call blocks begins its next call
pub steps_anew : {P S H : Type 0} (f : P → Functions S H) (t : ℕ) (s : State P S H) (Q : Went P S H → Type 0) → is_some (blocked_of s.control t) ≡ false → IsSome (s.control.threads.progress t) → IfSome (s.control.threads.progress t) (λ p. Q (steps_from f t p s)) → Q (steps_on f t s)
steps_anew {P = P} {S = S} {H = H} f t s Q free some from = by_blocked (blocked_of s.control t) (s.control.threads.progress t) free some from
  where
    by_blocked : (b : Option Blocked) (p : Option (Progress S)) → is_some b ≡ false → IsSome p → IfSome p (λ x. Q (steps_from f t x s)) → Q (steps_by f t b p s)
    by_blocked (Some b) p free some from = absurd (cc free)
    by_blocked None None free some from = absurd (cc some)
    by_blocked None (Some p) free some from = from
