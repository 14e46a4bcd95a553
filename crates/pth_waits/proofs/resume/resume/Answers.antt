use Rattle.std.proofs.Common.{◌≡◌, ◌∙◌, ap, append-nil, false, None, option_copied, refl, Some, sym, to_z-of_z, true, SFits, w64, rules}
use Rattle.pth_model.specs.Awaits.{is_await, is_awaiting}
use Rattle.pth_model.specs.Calls.{awaits_on, gone_on, gone_on_by, gone_on_where}
use Rattle.pth_model.specs.Cancellation.{may_be_canceled}
use Rattle.pth_model.specs.Changes.{blocked_of}
use Rattle.pth_model.specs.State.{State}
use Rattle.pth_world.specs.Leading.{StandsRightly, StandsWhere}
use Rattle.pth_world.specs.Shows.{StandsFor}
use Rattle.pth_waits.proofs.Attempted.{unawaited}
use Rattle.pth_waits.proofs.Canceling.{by_other}
use Rattle.pth_waits.proofs.Carried.{goes_as}
use Rattle.pth_world.specs.Frame.{runs_after, yields_after}
use Rattle.pth_world.specs.Numbering.{no_numbers}
use Rattle.pth_end.proofs.Keeping.{gone_on_whole}
use Rattle.pth_waits.proofs.resume.resume.Goals as goal

-- no call blocks the thread
pub returns-in_default-clause-goes : goal.returns-in_default-clause-goes
unfolding gone_on
returns-in_default-clause-goes g c =
    let f = g.P.Program.functions in
    let t = c.args.t.0 in
    let none : (s : State _ _ _) → StandsFor c.args.w.now s → blocked_of s.control t ≡ None = λ s st. sym (c.blocked.ensures.blocked s.control st.control) ∙ ap (λ o. option_copied o) c.in_default.is in
    record {
      next = λ s st. rw (none s st.0) refl;
      leads = λ s st. rw (none s st.0) (record { stands = st.0; tells = sym (append-nil _) });
      cut = tt;
    }

pub returns-in-CondAwait-clause-goes : goal.returns-in-CondAwait-clause-goes
unfolding gone_on
returns-in-CondAwait-clause-goes g c =
    let f = g.P.Program.functions in
    let w = c.args.w.now in
    let t = c.args.t.0 in
    let b = c.in-Some.blocked.now in
    let has : (s : State _ _ _) → StandsFor w s → blocked_of s.control t ≡ Some b = λ s st. sym (c.blocked.ensures.blocked s.control st.control) ∙ ap (λ o. option_copied o) c.in-Some.is in
    let is = c.in-CondAwait.is in
    let x : SFits w64 c.in-CondAwait.c = search rules in
    let m : SFits w64 c.in-CondAwait.m = search rules in
    let e : SFits w64 c.in-CondAwait.e = search rules in
    let last = awaits_on f t c.in-CondAwait.c c.in-CondAwait.m c.in-CondAwait.e b.awaits in
    goes_as (StandsWhere w t true) (StandsRightly w t) last (gone_on f t) _ _ _ _
    (λ s st. (s, (st.0, st.1 ∙ ap is_awaiting (has s st.0) ∙ ap is_await is), sym (rw (has s st.0, is) refl))) (simp to_z-of_z at c.resume_await.ensures.goes)

pub returns-in_default-call : goal.returns-in_default-call
unfolding gone_on
returns-in_default-call g c =
    let f = g.P.Program.functions in
    let w = c.args.w.now in
    let t = c.args.t.0 in
    let b = c.in-Some.blocked.now in
    let has : (s : State _ _ _) → StandsFor w s → blocked_of s.control t ≡ Some b = λ s st. sym (c.blocked.ensures.blocked s.control st.control) ∙ ap (λ o. option_copied o) c.in-Some.is in
    let other : is_await b.call ≡ false = unawaited b.call c.in_default-call.not-CondAwait in
    let last = λ (s : State _ _ _). gone_on_where f t (may_be_canceled s.control t) s in
    let goes = goes_as (StandsRightly w t) (StandsRightly w t) last (gone_on f t) _ _ _ _
    (λ s st. (s, st, sym (ap (λ o. gone_on_by f t o s) (has s st.0) ∙ by_other f t b.call b.awaits other s))) c.resume_call.ensures.goes in
    record {
      goes = goes;
      frame = c.resume_call.ensures.frame;
      keeps = gone_on_whole f w c.resume_call.new.w t c.requires.whole c.requires.runs no_numbers (runs_after t) yields_after _ _ c.resume_call.result c.resume_call.ensures.frame goes;
    }

pub resume_call-requires-clause-other : goal.resume_call-requires-clause-other
resume_call-requires-clause-other g c k sh =
    ap is_awaiting (sym (c.blocked.ensures.blocked k sh) ∙ ap (λ o. option_copied o) c.in-Some.is) ∙ unawaited c.in-Some.blocked.now.call c.in_default-call.not-CondAwait

-- no call blocks it: nothing changes
pub returns-in_default-clause-keeps : goal.returns-in_default-clause-keeps
returns-in_default-clause-keeps g c = λ full. full

pub returns-in-CondAwait-clause-keeps : goal.returns-in-CondAwait-clause-keeps
returns-in-CondAwait-clause-keeps g c =
    gone_on_whole g.P.Program.functions c.args.w.now c.resume_await.new.w c.args.t.0 c.requires.whole c.requires.runs no_numbers (runs_after c.args.t.0) yields_after _ _ c.resume_await.result c.resume_await.ensures.frame (returns-in-CondAwait-clause-goes g c)
