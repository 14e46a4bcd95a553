use Rattle.std.proofs.Common.{◌≡◌, ◌∙◌, Option, Some, None, IsSome, IfSome, is_some, ap, refl, sym, subst}
use Rattle.std.proofs.lemmas.List.{append-nil}
use Rattle.pth_model.specs.declared.blocked.Blocked.{Blocked}
use Rattle.pth_model.specs.declared.verdict.Verdict.{Verdict}
use Rattle.pth_model.specs.Awaits.{is_await, is_awaiting}
use Rattle.pth_model.specs.Calls.{tried_again, tried_again_by}
use Rattle.pth_model.specs.Changes.{blocked_of}
use Rattle.pth_model.specs.State.{State}
use Rattle.pth_model.specs.Transition.{Went}
use Rattle.pth_world.proofs.StateOf.{stands_for_state}
use Rattle.pth_world.specs.Leading.{MayComeTo, StandsRightly, StandsWhere}
use Rattle.pth_world.specs.Shows.{StandsFor}
use Rattle.pth_world.specs.World.{WorldOf}
use Rattle.pth_waits.proofs.Attempted.{counted, none_is, some_blocked}
use Rattle.pth_waits.proofs.Attempting.{blocked_still}
use Rattle.pth_waits.proofs.Carried.{again_goes, again_may, carried_frame, goes_as}
use Rattle.pth_waits.proofs.resume.try_again.Goals as goal

pub unless_settled-requires : goal.unless_settled-requires
unless_settled-requires g c =
    let st = stands_for_state c.args.w.now c.requires.whole.sound in
    let h = some_blocked _ (sym (c.in_ok-verdict.ensures.blocked _ st.control) ∙ ap is_some c.in-Some.is) in
    counted c.args.t.0 h.0.call c.in-Some.verdict ((rw c.in-Some.is at c.in_ok-verdict.ensures.tries) _ h.0 st.control h.1).attempts.may

pub carry_on-requires-clause-some : goal.carry_on-requires-clause-some
carry_on-requires-clause-some g c k sh =
    let st = stands_for_state c.args.w.now c.requires.whole.sound in
    let h = some_blocked _ (sym (c.in_ok-verdict.ensures.blocked _ st.control) ∙ ap is_some c.in-Some.is) in
    let tries = (rw c.in-Some.is at c.in_ok-verdict.ensures.tries) _ h.0 st.control h.1 in
    subst (λ (o : Option Blocked). IsSome o) (sym (tries.held _ k st.control sh ∙ h.1)) refl

pub carry_on-requires-clause-may : goal.carry_on-requires-clause-may
carry_on-requires-clause-may g c k sh =
    let t = c.args.t.0 in
    let st = stands_for_state c.args.w.now c.requires.whole.sound in
    let h = some_blocked _ (sym (c.in_ok-verdict.ensures.blocked _ st.control) ∙ ap is_some c.in-Some.is) in
    let tries = (rw c.in-Some.is at c.in_ok-verdict.ensures.tries) _ h.0 st.control h.1 in
    subst (λ (o : Option Blocked). IfSome o (λ b. MayComeTo t b.call c.unless_settled.result)) (sym (tries.held _ k st.control sh ∙ h.1))
    (subst (λ (x : Verdict). MayComeTo t h.0.call x) (sym c.unless_settled.ensures) (again_may g.P.Program.functions c.args.w.now c.attempt_again.new.w t h.0 c.in-Some.verdict (ap is_awaiting (sym h.1) ∙ c.requires.other _ st.control) tries c.ring_has_settled-settled.result))

pub returns-in-Some-clause-goes : goal.returns-in-Some-clause-goes
returns-in-Some-clause-goes g c =
    let f = g.P.Program.functions in
    let w = c.args.w.now in
    let t = c.args.t.0 in
    let st = stands_for_state w c.requires.whole.sound in
    let h = some_blocked _ (sym (c.in_ok-verdict.ensures.blocked _ st.control) ∙ ap is_some c.in-Some.is) in
    let tries = (rw c.in-Some.is at c.in_ok-verdict.ensures.tries) _ h.0 st.control h.1 in
    let blocks : (s : State _ _ _) → StandsFor w s → blocked_of s.control t ≡ Some h.0 = λ s so. blocked_still w w t refl _ s.control st.control so.control ∙ h.1 in
    goes_as (λ s. StandsWhere w t (is_await h.0.call) s × (blocked_of s.control t ≡ Some h.0)) (StandsRightly w t) (tried_again f t) (tried_again f t) _ _ _ _ (λ s so. (s, ((so.0, so.1 ∙ ap is_awaiting (blocks s so.0)), blocks s so.0), refl))
    (again_goes f w c.attempt_again.new.w t h.0 c.in-Some.verdict (ap is_awaiting (sym h.1) ∙ c.requires.other _ st.control) tries c.ring_has_settled-settled.result _ _ _ _
    (λ s so. c.ring_has_settled-settled.ensures s h.0 so (blocks s so))
    ((rw c.unless_settled.ensures at c.carry_on.ensures.goes) h.0))

pub returns-in-Some-clause-frame : goal.returns-in-Some-clause-frame
returns-in-Some-clause-frame g c = carried_frame c.args.w.now c.attempt_again.new.w c.carry_on.new.w c.args.t.0 _ c.carry_on.result c.in_ok-verdict.ensures.frame c.carry_on.ensures.frame

pub returns-in-None-clause-goes : goal.returns-in-None-clause-goes
unfolding tried_again
returns-in-None-clause-goes g c =
    let f = g.P.Program.functions in
    let w = c.args.w.now in
    let t = c.args.t.0 in
    let same = c.in_ok-verdict.ensures.same c.in-None.is in
    let went : (s : State _ _ _) → StandsFor w s → tried_again f t s ≡ tried_again_by f t None s = λ s so. ap (λ (o : Option Blocked). tried_again_by f t o s) (none_is (blocked_of s.control t) (sym (c.in_ok-verdict.ensures.blocked s.control so.control) ∙ ap is_some c.in-None.is)) in
    record {
      next = λ s so. sym (ap (λ (x : Went _ _ _). x.next) (went s so.0));
      leads = λ s so. rw (went s so.0) (record { stands = subst (λ (v : WorldOf _ _ _). StandsFor v s) (sym same) so.0; tells = sym (append-nil _) });
      cut = tt;
    }
