use Rattle.std.proofs.Common.{SFits, w64, to_z-of_z, rules}
use Rattle.pth_model.specs.Rows.{row_of}
use Rattle.pth_calls.proofs.Canceling.{quiet_cancellation}
use Rattle.pth_calls.proofs.cancellation.answer_cancellation.Goals as goal

pub returns-clause-answered : goal.returns-clause-answered
unfolding row_of
returns-clause-answered g c =
    let n : SFits w64 c.in-CancelState.n = search rules in
    rw c.in-CancelState.is (simp to_z-of_z at c.set_cancel_state.ensures.answered)

pub returns-clause-quiet : goal.returns-clause-quiet
returns-clause-quiet g c = quiet_cancellation c.args.t c.args.call.now c.set_cancel_state.result c.requires.cancellation
