use Rattle.std.proofs.Common.{SFits, w64, to_z-of_z, rules}
use Rattle.std.proofs.lemmas.Result.{err_from_is_err_and}
use Rattle.pth_base.proofs.Cuts.{cut_none}
use Rattle.pth_base.specs.declared.mark.Mark.TheVariants.{Handler}
use Rattle.pth_model.specs.Acts.{handled}
use Rattle.pth_model.specs.Transition.{tells}
use Rattle.pth_world.proofs.Telling.{quiet_leads}
use Rattle.pth_world.specs.Shows.{StandsFor}
use Rattle.pth_end.proofs.Acting.{quiet_handler}
use Rattle.pth_end.proofs.Chains.{goes_then}
use Rattle.pth_end.proofs.handlers.run_told_handler.Goals as goal

pub returns-in_err-push-clause-goes : goal.returns-in_err-push-clause-goes
returns-in_err-push-clause-goes g c =
    let p = err_from_is_err_and c.from_residual.result c.from_residual.ensures.1 in
    rw p.1 (record { leads = tt; cut = λ s st. cut_none _ _ _ c.in_err-push.ensures.err })

pub returns-clause-goes : goal.returns-clause-goes
returns-clause-goes g c =
    let x : SFits w64 c.args.arg = search rules in
    let m = Handler c.args.t c.args.h c.args.arg in
    goes_then (StandsFor c.args.w.now) (tells m) (handled g.P.Program.functions c.args.t.0 c.args.h c.args.arg) c.args.w.now c.run_handler.new.w _ _ _ c.run_handler.result
    (λ s st. quiet_leads c.args.w.now s m _ _ (quiet_handler c.args.t c.args.h c.args.arg) st (simp to_z-of_z at c.in_ok-push.ensures.ok))
    (simp to_z-of_z at c.run_handler.ensures.goes)
