use Rattle.std.proofs.Common.{◌∙◌, sym}
use Rattle.pth_model.specs.Calls.{canceled_by, gone_on_where, tried_again}
use Rattle.pth_model.specs.Cancellation.{may_be_canceled}
use Rattle.pth_model.specs.Changes.{blocked_of}
use Rattle.pth_world.specs.Leading.{StandsRightly}
use Rattle.pth_world.specs.Shows.{StandsFor}
use Rattle.pth_waits.proofs.Canceling.{where_again, where_canceled}
use Rattle.pth_waits.proofs.Carried.{goes_as}
use Rattle.pth_waits.proofs.resume.resume_call.Goals as goal

pub returns-then-may_be_canceled-clause-goes : goal.returns-then-may_be_canceled-clause-goes
returns-then-may_be_canceled-clause-goes g c =
    let f = g.P.Program.functions in
    let t = c.args.t.0 in
    goes_as (StandsFor c.args.w.now) (StandsRightly c.args.w.now t) (λ s. canceled_by f t (blocked_of s.control t) s) (λ s. gone_on_where f t (may_be_canceled s.control t) s) _ _ _ _
    (λ s st. (s, st.0, sym (where_canceled f s t (sym (c.may_be_canceled.ensures s.control st.0.control) ∙ c.if-may_be_canceled.true)))) c.cancel_blocked.ensures.goes

pub returns-clause-goes : goal.returns-clause-goes
returns-clause-goes g c =
    let f = g.P.Program.functions in
    let t = c.args.t.0 in
    goes_as (StandsRightly c.args.w.now t) (StandsRightly c.args.w.now t) (tried_again f t) (λ s. gone_on_where f t (may_be_canceled s.control t) s) _ _ _ _
    (λ s st. (s, st, sym (where_again f s t (sym (c.may_be_canceled.ensures s.control st.0.control) ∙ c.if-may_be_canceled.false)))) c.try_again.ensures.goes
