use Rattle.std.proofs.Common.{SFits, w64, to_z-of_z, rules}
use Rattle.pth_model.specs.Rows.{row_of}
use Rattle.pth_end.proofs.Handled.{handled_frame}
use Rattle.pth_calls.proofs.Plains.{quiet_cond_init, quiet_cond_notify}
use Rattle.pth_calls.proofs.conditions.answer_conditions.Goals as goal

pub returns-in-CondInit-clause-answered : goal.returns-in-CondInit-clause-answered
unfolding row_of
returns-in-CondInit-clause-answered g c =
    let x : SFits w64 c.in-CondInit.c = search rules in
    rw c.in-CondInit.is (simp to_z-of_z at c.init_condition.ensures.answered)

pub returns-in-CondInit-clause-quiet : goal.returns-in-CondInit-clause-quiet
returns-in-CondInit-clause-quiet g c = rw c.in-CondInit.is (quiet_cond_init c.args.t c.in-CondInit.c c.init_condition.result)

pub returns-in-CondNotify-clause-answered : goal.returns-in-CondNotify-clause-answered
unfolding row_of
returns-in-CondNotify-clause-answered g c =
    let x : SFits w64 c.in-CondNotify.c = search rules in
    let v : SFits w64 c.in-CondNotify.v = search rules in
    rw c.in-CondNotify.is (simp to_z-of_z at c.notify.ensures.answered)

pub returns-in-CondNotify-clause-quiet : goal.returns-in-CondNotify-clause-quiet
returns-in-CondNotify-clause-quiet g c = rw c.in-CondNotify.is (quiet_cond_notify c.args.t c.in-CondNotify.c c.in-CondNotify.v c.notify.result)

pub returns-in-CondNotify-clause-frame : goal.returns-in-CondNotify-clause-frame
returns-in-CondNotify-clause-frame g c = handled_frame c.args.w.now _ c.requires.runs c.notify.new.w c.notify.ensures.handled
