use Rattle.std.proofs.Common.{ap, SFits, w64, to_z-of_z, rules}
use Rattle.std.proofs.lemmas.Result.{err_from_is_err_and, on_ok_weaker}
use Rattle.pth_base.proofs.Cuts.{cut_none}
use Rattle.pth_base.specs.declared.mark.Mark.TheVariants.{Destructor}
use Rattle.pth_model.specs.Acts.{handled}
use Rattle.pth_model.specs.Store.{Store}
use Rattle.pth_model.specs.Transition.{tells}
use Rattle.pth_world.proofs.Telling.{tells_leads}
use Rattle.pth_world.specs.Shows.{StandsFor}
use Rattle.pth_end.proofs.Chains.{goes_then}
use Rattle.pth_end.proofs.Destructing.{destructor_tells}
use Rattle.pth_end.proofs.Handled.{handled_stored, handled_then, kept_alive}
use Rattle.pth_end.proofs.destructors.run_destructor.Goals as goal

pub run_handler-requires-clause-alive : goal.run_handler-requires-clause-alive
run_handler-requires-clause-alive g c = kept_alive c.args.w.now c.clear_key.new.self c.args.t.0 c.clear_key.ensures.keeps c.requires.alive

pub returns-clause-goes : goal.returns-clause-goes
returns-clause-goes g c =
    let x : SFits w64 c.args.due.value = search rules in
    let m = Destructor c.args.t c.args.due.key c.args.due.value in
    let tell = destructor_tells c.args.w.now c.clear_key.new.self c.args.t c.args.due.key c.args.due.value c.clear_key.ensures.changes in
    goes_then (StandsFor c.args.w.now) (tells m) (handled g.P.Program.functions c.args.t.0 c.args.due.handler c.args.due.value) c.clear_key.new.self c.run_handler.new.w _ _ _ c.run_handler.result
    (λ s st. tells_leads c.args.w.now c.clear_key.new.self m s tell st (c.clear_key.ensures.keeps.shows s.control st.control) _ _ (simp to_z-of_z at c.in_ok-push.ensures.ok))
    (simp to_z-of_z at c.run_handler.ensures.goes)

pub returns-clause-handled : goal.returns-clause-handled
returns-clause-handled g c =
    let cleared = handled_stored c.args.w.now c.clear_key.new.self c.requires.whole c.clear_key.ensures.keeps (ap (λ (x : Store). x.cleanups) c.clear_key.ensures.changes) in
    on_ok_weaker c.run_handler.result (λ ran. handled_then _ _ _ cleared ran) c.run_handler.ensures.handled

pub returns-in_err-push-clause-goes : goal.returns-in_err-push-clause-goes
returns-in_err-push-clause-goes g c =
    let p = err_from_is_err_and c.from_residual.result c.from_residual.ensures.1 in
    rw p.1 (record { leads = tt; cut = λ s st. cut_none _ _ _ c.in_err-push.ensures.err })
