use Rattle.pth_world.proofs.Moves.{runner_alive}
use Rattle.std.proofs.lemmas.Result.{err_from_is_err_and}
use Rattle.pth_base.proofs.Cuts.{cut_none}
use Rattle.pth_end.proofs.Chains.{leads_then}
use Rattle.pth_model.specs.Transition.{tells}
use Rattle.pth_model.specs.Ending.{ending}
use Rattle.pth_model.specs.Cancellation.{canceled_value}
use Rattle.pth_lock.specs.Objects.{object_named}
use Rattle.pth_base.specs.declared.mark.Mark.TheVariants.{Took}
use Rattle.std.proofs.Common.{◌≡◌, ◌++◌, ◌∷◌, [], refl, rules}
use Rattle.pth_waits.proofs.conditions.end_canceled.Goals as goal

pub end_thread-requires-clause-alive : goal.end_thread-requires-clause-alive
end_thread-requires-clause-alive g c = runner_alive c.args.w.now c.args.t.0 c.requires.whole c.requires.runs

pub returns-in_err-push-clause-goes : goal.returns-in_err-push-clause-goes
returns-in_err-push-clause-goes g c =
    let p = err_from_is_err_and c.from_residual.result c.from_residual.ensures.1 in
    rw p.1 (record { next = tt; leads = tt; cut = λ s st. cut_none _ _ _ c.in_err-push.ensures.err })

pub returns-clause-goes : goal.returns-clause-goes
returns-clause-goes g c =
    let took : c.push.new.self ≡ c.args.marks.now ++ Took c.args.t (object_named c.args.m) ∷ [] = search rules in
    record {
      next = λ s st. refl;
      leads = λ s st. leads_then c.args.w.now c.end_thread.new.w s (tells (Took c.args.t (object_named c.args.m))) (ending g.P.Program.functions c.args.t.0 canceled_value) _ _ _
          (record { stands = record { control = st.control; store = st.store }; tells = took })
          (c.in_ok-end_thread.ensures.goes.leads _ (record { control = st.control; store = st.store }));
      cut = tt;
    }
