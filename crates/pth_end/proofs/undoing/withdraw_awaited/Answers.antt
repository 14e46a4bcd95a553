use Rattle.std.proofs.Common.{refl, rules, SFits, w64, to_z-of_z}
use Rattle.std.proofs.lemmas.Result.{on_ok_weaker, on_err_weaker}
use Rattle.pth_end.proofs.WaitUndone.{cut_from_round, from_round, no_round}
use Rattle.pth_end.proofs.undoing.withdraw_awaited.Goals as goal

pub returns-in-Round-clause-goes : goal.returns-in-Round-clause-goes
returns-in-Round-clause-goes g c =
    let b : SFits w64 c.in-Round.b = search rules in
    let goes = rw to_z-of_z at c.withdraw.ensures.goes in
    rw c.in-Round.is (record {
      leads = on_ok_weaker c.withdraw.result (λ l s st. from_round c.args.t.0 c.in-Round.b c.in-Round.round s c.withdraw.new.w _ _ (l s st)) goes.leads;
      cut = on_err_weaker c.withdraw.result (λ l s st. cut_from_round c.args.t.0 c.in-Round.b c.in-Round.round s _ _ (l s st)) goes.cut;
    })

pub returns-in_default-clause-goes : goal.returns-in_default-clause-goes
returns-in_default-clause-goes g c = record { leads = λ s st. no_round c.args.w.now c.args.t.0 c.args.awaits s _ _ c.in_default.not-Round st refl; cut = tt }
