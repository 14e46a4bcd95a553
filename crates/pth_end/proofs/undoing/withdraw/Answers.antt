use Rattle.std.proofs.Common.{◌∙◌, is_some, ap, refl, sym, rules, SFits, w64, to_z-of_z}
use Rattle.std.proofs.lemmas.Result.{on_ok_weaker, on_err_weaker}
use Rattle.pth_base.proofs.Cuts.{cut_none}
use Rattle.pth_end.proofs.WaitUndone.{no_withdrawal, told_withdrawal}
use Rattle.pth_end.proofs.undoing.withdraw.Goals as goal

pub returns-in-None-clause-goes : goal.returns-in-None-clause-goes
returns-in-None-clause-goes g c =
    let b : SFits w64 c.args.b = search rules in
    let there = rw (c.barriers_mut.ensures.value, to_z-of_z) at c.withdraw.ensures.there in
    let changes = rw (c.barriers_mut.ensures.value, to_z-of_z) at c.withdraw.ensures.changes in
    record { leads = λ s st. no_withdrawal c.args.w.now c.withdraw.new.self c.args.t c.args.b changes s st _ _ (sym there ∙ ap is_some c.in-None.is) refl; cut = tt }

pub returns-in-Some-clause-goes : goal.returns-in-Some-clause-goes
returns-in-Some-clause-goes g c =
    let b : SFits w64 c.args.b = search rules in
    let there = rw (c.barriers_mut.ensures.value, to_z-of_z) at c.withdraw.ensures.there in
    let changes = rw (c.barriers_mut.ensures.value, to_z-of_z) at c.withdraw.ensures.changes in
    let told = rw (c.in-Some.ensures.number, to_z-of_z) at c.push.ensures.ok in
    record {
      leads = on_ok_weaker c.push.result (λ appended s st. told_withdrawal c.args.w.now c.withdraw.new.self c.args.t c.args.b changes s st _ _ (sym there ∙ ap is_some c.in-Some.is) appended) told;
      cut = on_err_weaker c.push.result (λ same s st. cut_none _ _ _ same) c.push.ensures.err;
    }
