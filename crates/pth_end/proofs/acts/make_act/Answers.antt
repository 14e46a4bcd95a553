use Rattle.std.proofs.Common.{refl}
use Rattle.std.proofs.lemmas.Result.{err_from_is_err_and, on_ok_weaker, on_err_weaker}
use Rattle.pth_base.proofs.Cuts.{cut_none}
use Rattle.pth_end.proofs.Acting.{acted_leads}
use Rattle.pth_end.proofs.acts.make_act.Goals as goal

pub returns-in_err-answer-clause-goes : goal.returns-in_err-answer-clause-goes
returns-in_err-answer-clause-goes g c =
    let p = err_from_is_err_and c.from_residual.result c.from_residual.ensures.1 in
    rw p.1 (record { leads = tt; cut = λ s st. cut_none _ _ _ refl })

pub returns-clause-goes : goal.returns-clause-goes
returns-clause-goes g c = record {
  leads = on_ok_weaker c.push.result (λ told s st. acted_leads c.args.w.now c.answer_act.new.w c.args.t.0 c.args.act _ c.in_ok-answer.ensures.told s st _ _ told) c.push.ensures.ok;
  cut = on_err_weaker c.push.result (λ same s st. cut_none _ _ _ same) c.push.ensures.err;
}
