use Rattle.std.proofs.Common.{◌≡◌, ap, refl}
use Rattle.std.proofs.lemmas.Result.{IfOk-weaker, err_from_is_err_and, on_ok_weaker, on_err_weaker}
use Rattle.pth_base.proofs.Cuts.{cut_none}
use Rattle.pth_model.specs.declared.next.Next.TheVariants.{Done}
use Rattle.pth_calls.proofs.Plains.{begun_answered, answered_leads}
use Rattle.pth_end.proofs.Keeping.{begun_leads}
use Rattle.pth_calls.proofs.plain.begin_plain.Goals as goal

pub returns-clause-next : goal.returns-clause-next
returns-clause-next g c =
    let a = c.in_ok-answer.answer in
    IfOk-weaker c.answer_call.result (λ x. x ≡ a) _ (λ x is s st. rw (begun_answered g.P.Program.functions s c.args.t.0 c.args.call.now a c.requires.plain (c.in_ok-answer.ensures.told.verdict s st)) (ap Done is)) c.answer_call.ensures.value

pub returns-in_err-answer-clause-goes : goal.returns-in_err-answer-clause-goes
returns-in_err-answer-clause-goes g c =
    let p = err_from_is_err_and c.from_residual.result c.from_residual.ensures.1 in
    rw p.1 (record { leads = tt; cut = λ s st. cut_none _ _ _ refl })

pub returns-clause-goes : goal.returns-clause-goes
returns-clause-goes g c =
    let p = g.P.Program.functions in
    let a = c.in_ok-answer.answer in
    let call = c.args.call.now in
    record {
      leads = on_ok_weaker c.answer_call.result (λ told s st.
          rw (begun_answered p s c.args.t.0 call a c.requires.plain (c.in_ok-answer.ensures.told.verdict s st))
          (answered_leads p s c.args.t.0 c.args.w.now c.answer.new.w call a _ _ st c.in_ok-answer.ensures.told told)) c.answer_call.ensures.ok;
      cut = on_err_weaker c.answer_call.result (λ same s st. cut_none _ _ _ same) c.answer_call.ensures.err;
    }

pub returns-clause-keeps : goal.returns-clause-keeps
returns-clause-keeps g c =
    begun_leads g.P.Program.functions c.args.w.now c.answer.new.w c.args.t.0 c.requires.whole c.requires.runs c.args.call.now _ _ c.answer_call.result (on_ok_weaker c.answer_call.result (λ told. c.in_ok-answer.ensures.frame.whole) c.answer_call.ensures.ok) (returns-clause-goes g c)
