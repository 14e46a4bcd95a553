use Rattle.std.proofs.Common.{rules, SFits, w64, to_z-of_z}
use Rattle.pth_model.specs.Rows.{row_of}
use Rattle.pth_end.proofs.Answers.{if_ok_all}
use Rattle.pth_calls.proofs.Plains.{quiet_barrier_init}
use Rattle.pth_calls.proofs.barriers.answer_barriers.Goals as goal

pub returns-clause-answered : goal.returns-clause-answered
unfolding row_of
returns-clause-answered g c =
    let b : SFits w64 c.in-BarrierInit.b = search rules in
    let n : SFits w64 c.in-BarrierInit.n = search rules in
    rw c.in-BarrierInit.is (simp to_z-of_z at c.init_barrier.ensures.answered)

pub returns-clause-quiet : goal.returns-clause-quiet
returns-clause-quiet g c = rw c.in-BarrierInit.is (if_ok_all c.init_barrier.result _ (λ a. quiet_barrier_init c.args.t c.in-BarrierInit.b c.in-BarrierInit.n a))
