use Rattle.std.proofs.Common.{None}
use Rattle.std.proofs.lemmas.Result.{err_from_is_err_and}
use Rattle.pth_base.proofs.Cuts.{cut_none}
use Rattle.pth_base.specs.declared.mark.Mark.TheVariants.{Canceled}
use Rattle.pth_model.specs.Cancellation.{canceled_value}
use Rattle.pth_model.specs.Ending.{ending}
use Rattle.pth_model.specs.Transition.{tells}
use Rattle.pth_world.proofs.Telling.{quiet_leads}
use Rattle.pth_world.specs.Shows.{StandsFor}
use Rattle.pth_end.proofs.Canceling.{quiet_canceled}
use Rattle.pth_end.proofs.Chains.{goes_then}
use Rattle.pth_end.proofs.cancellation.cancel_from_outside.Goals as goal

pub returns-in_err-push-clause-goes : goal.returns-in_err-push-clause-goes
returns-in_err-push-clause-goes g c =
    let p = err_from_is_err_and c.from_residual.result c.from_residual.ensures.1 in
    rw p.1 (record { leads = tt; cut = λ s st. cut_none _ _ _ c.in_err-push.ensures.err })

pub returns-clause-goes : goal.returns-clause-goes
returns-clause-goes g c =
    let m = Canceled c.args.t None in
    goes_then (StandsFor c.args.w.now) (tells m) (ending g.P.Program.functions c.args.t.0 canceled_value) c.args.w.now c.end_thread.new.w _ _ _ c.end_thread.result
    (λ s st. quiet_leads c.args.w.now s m _ _ (quiet_canceled c.args.t None) st c.in_ok-push.ensures.ok) c.end_thread.ensures.goes
