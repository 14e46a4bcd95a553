use Rattle.std.proofs.lemmas.Result.{err_from_is_err_and, on_ok_weaker}
use Rattle.pth_model.specs.Cancellation.{canceled_value, takes_request}
use Rattle.pth_model.specs.Ending.{ending}
use Rattle.pth_world.specs.Shows.{StandsFor}
use Rattle.pth_end.proofs.Canceling.{ends_then}
use Rattle.pth_end.proofs.Chains.{cut_one, goes_then}
use Rattle.pth_end.proofs.cancellation.cancel_within.Goals as goal

pub returns-in_err-take_request-clause-goes : goal.returns-in_err-take_request-clause-goes
returns-in_err-take_request-clause-goes g c =
    let p = err_from_is_err_and c.from_residual.result c.from_residual.ensures.1 in
    rw p.1 (record {
      leads = tt;
      cut = λ s st. cut_one s (takes_request c.args.t.0 c.args.call) (ending g.P.Program.functions c.args.t.0 canceled_value) _ _ (c.in_err-take_request.ensures.goes.cut s st);
    })

pub returns-clause-goes : goal.returns-clause-goes
returns-clause-goes g c =
    goes_then (StandsFor c.args.w.now) (takes_request c.args.t.0 c.args.call) (ending g.P.Program.functions c.args.t.0 canceled_value) c.take_request.new.w c.end_thread.new.w _ _ _ c.end_thread.result
    c.in_ok-take_request.ensures.goes.leads c.end_thread.ensures.goes

pub returns-clause-frame : goal.returns-clause-frame
returns-clause-frame g c = on_ok_weaker c.end_thread.result (λ ends. ends_then c.args.w.now c.take_request.new.w c.end_thread.new.w c.args.t.0 c.take_request.ensures.frame ends) c.end_thread.ensures.frame
