use Rattle.std.proofs.Common.{not, to_z-of_z, rules}
use Rattle.pth_cond.specs.Conditions.{cond_notified, cond_notify_answer}
use Rattle.pth_numbered.specs.Operands.{is_zero}
use Rattle.pth_end.proofs.Deciding.{seated_answered}
use Rattle.pth_end.proofs.acts.notify.Goals as goal

pub returns-clause-answered : goal.returns-clause-answered
returns-clause-answered g c =
    let call = rw (c.conditions_mut.ensures.value, to_z-of_z c.ranges.c) at c.notify.ensures in
    seated_answered c.args.w.now c.notify.new.self (λ y. cond_notify_answer y c.args.c) (cond_notified c.args.c (not (is_zero c.args.v))) c.notify.result c.answer_of.result call.answer c.answer_of.ensures (search rules) call.refused
