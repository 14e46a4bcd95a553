use Rattle.std.proofs.Common.{to_z-of_z}
use Rattle.std.proofs.lemmas.Result.{IfOk-weaker}
use Rattle.pth_end.proofs.Handled.{if_answered}
use Rattle.pth_world.proofs.Barriers.{barred_frame}
use Rattle.pth_calls.proofs.Barring.{barrier_made, barrier_refused}
use Rattle.pth_calls.proofs.barriers.init_barrier.Goals as goal

pub returns-in-Ok-clause-answered : goal.returns-in-Ok-clause-answered
returns-in-Ok-clause-answered g c =
    let answer = rw (c.barriers_mut.ensures.value, to_z-of_z c.ranges.b, to_z-of_z c.ranges.n) at c.init.ensures.answer in
    let changes = rw (c.barriers_mut.ensures.value, to_z-of_z c.ranges.b, to_z-of_z c.ranges.n) at c.in-Ok.ensures.changes in
    barrier_made c.args.w.now c.init.new.self c.args.b c.args.n _ (rw c.in-Ok.is at answer) changes

pub returns-in-Err-clause-answered : goal.returns-in-Err-clause-answered
returns-in-Err-clause-answered g c =
    let answer = rw (c.barriers_mut.ensures.value, to_z-of_z c.ranges.b, to_z-of_z c.ranges.n) at c.in-Err.ensures.answer in
    let refused = rw c.barriers_mut.ensures.value at c.in-Err.ensures.refused in
    IfOk-weaker c.refused.result _ _ (λ a. barrier_refused c.args.w.now c.init.new.self c.args.b c.args.n c.in-Err.refusal a answer refused) c.refused.ensures

pub returns-in-Ok-clause-frame : goal.returns-in-Ok-clause-frame
returns-in-Ok-clause-frame g c = barred_frame c.args.w.now c.init.new.self c.requires.whole

pub returns-in-Err-clause-frame : goal.returns-in-Err-clause-frame
returns-in-Err-clause-frame g c = if_answered c.refused.result (barred_frame c.args.w.now c.init.new.self c.requires.whole)
