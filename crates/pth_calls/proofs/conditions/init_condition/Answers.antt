use Rattle.std.proofs.Common.{to_z-of_z}
use Rattle.pth_cond.specs.Conditions.{cond_init_answer, cond_initialised}
use Rattle.pth_world.proofs.Conditions.{seated_frame}
use Rattle.pth_end.proofs.Deciding.{seated_answered}
use Rattle.pth_calls.proofs.conditions.init_condition.Goals as goal

pub returns-clause-answered : goal.returns-clause-answered
returns-clause-answered g c =
    let call = rw (c.conditions_mut.ensures.value, to_z-of_z c.ranges.c) at c.init.ensures in
    seated_answered c.args.w.now c.init.new.self (λ y. cond_init_answer y c.args.c) (cond_initialised c.args.c) c.init.result c.answer_of.result call.answer c.answer_of.ensures call.changes call.refused

pub returns-clause-frame : goal.returns-clause-frame
returns-clause-frame g c = seated_frame c.args.w.now c.init.new.self c.requires.whole
