use Rattle.std.proofs.Common.{◌≡◌, ◌∙◌, ℕ, true, false, is_some, Option, Some, None, IsSome, IfSome, ap, refl, rules, subst, sym}
use Rattle.pth_waits.proofs.Attempted.{none_is}
use Rattle.pth_world.specs.Leading.{StandsRightly, StandsWhere}
use Rattle.pth_model.specs.Awaits.{is_awaiting}
use Rattle.pth_model.specs.declared.progress.Progress.{Progress}
use Rattle.pth_model.specs.Calls.{gone_on}
use Rattle.pth_model.specs.Changes.{blocked_of}
use Rattle.pth_model.specs.Part.{steps_from, steps_on}
use Rattle.pth_model.specs.Transition.{Went}
use Rattle.pth_world.proofs.StateOf.{stands_for_state}
use Rattle.pth_waits.proofs.Carried.{goes_as}
use Rattle.pth_sched.proofs.QuiescentSteps.{steps_anew}
use Rattle.pth_sched.proofs.Parts.{steps_again}
use Rattle.pth_sched.proofs.turns.go_on.Goals as goal

pub returns-then-is_some-clause-goes : goal.returns-then-is_some-clause-goes
returns-then-is_some-clause-goes g c =
    let f = g.P.Program.functions in
    let t = c.args.t.0 in
    goes_as (StandsRightly c.args.w.now t) (StandsRightly c.args.w.now t) (gone_on f t) (steps_on f t) _ _ _ _ (λ s st.
    let blocked : is_some (blocked_of s.control t) ≡ true = rw (← c.blocked.ensures.blocked s.control st.0.control) (search rules) in
    (s, st, sym (steps_again f t s blocked))) c.resume_blocked.ensures.goes

pub begin_next-requires-clause-free : goal.begin_next-requires-clause-free
begin_next-requires-clause-free g c k sh =
    let free : is_some (blocked_of k c.args.t.0) ≡ false = rw (← c.blocked.ensures.blocked k sh) (search rules) in
    none_is (blocked_of k c.args.t.0) free

-- what a thread goes on with
some_progress : {S : Type 0} (o : Option (Progress S)) → IsSome o → (p : Progress S) × (o ≡ Some p)
some_progress (Some p) some = (p, refl)
some_progress None some = absurd (cc some)

pub returns-clause-goes : goal.returns-clause-goes
returns-clause-goes g c =
    let f = g.P.Program.functions in
    let w = c.args.w.now in
    let t = c.args.t.0 in
    let st = stands_for_state w c.requires.whole.sound in
    let h = some_progress _ (c.begin_next.ensures.some _ st) in
    goes_as (λ s. StandsWhere w t false s × (s.control.threads.progress t ≡ Some h.0)) (StandsRightly w t) (steps_from f t h.0) (steps_on f t) _ _ _ _ (λ s so.
    let free : is_some (blocked_of s.control t) ≡ false = rw (← c.blocked.ensures.blocked s.control so.0.control) (search rules) in
    let has : s.control.threads.progress t ≡ Some h.0 = ap (λ (x : ℕ → Option (Progress _)). x t) (so.0.control.threads.progress ∙ sym st.control.threads.progress) ∙ h.1 in
    (s, ((so.0, so.1 ∙ ap is_awaiting (none_is (blocked_of s.control t) free)), has), steps_anew f t s (λ (x : Went _ _ _). steps_from f t h.0 s ≡ x) free (c.begin_next.ensures.some s so.0) (subst (λ (o : Option (Progress _)). IfSome o (λ p. steps_from f t h.0 s ≡ steps_from f t p s)) (sym has) refl)))
    (c.begin_next.ensures.goes h.0)
