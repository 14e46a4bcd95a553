use Rattle.std.proofs.Common.{rules, SFits, w64, to_z-of_z}
use Rattle.pth_model.specs.Rows.{row_of}
use Rattle.pth_model.specs.Transition.{tid}
use Rattle.pth_calls.proofs.Plains.{quiet_utility_call}
use Rattle.pth_calls.proofs.utilities.answer_utilities.Goals as goal

pub returns-in-Fdmode-clause-answered : goal.returns-in-Fdmode-clause-answered
unfolding row_of
returns-in-Fdmode-clause-answered g c t =
    let f : SFits w64 c.in-Fdmode.f = search rules in
    let m : SFits w64 c.in-Fdmode.m = search rules in
    rw c.in-Fdmode.is (simp to_z-of_z at c.fdmode.ensures.answered)

pub returns-in-Fdmode-clause-quiet : goal.returns-in-Fdmode-clause-quiet
returns-in-Fdmode-clause-quiet g c t = quiet_utility_call (tid t) c.args.call.now _ c.requires.utilities

pub returns-in-Timeout-clause-answered : goal.returns-in-Timeout-clause-answered
unfolding row_of
returns-in-Timeout-clause-answered g c t =
    let n : SFits w64 c.in-Timeout.n = search rules in
    rw c.in-Timeout.is (simp to_z-of_z at c.timeout.ensures)

pub returns-in-Timeout-clause-quiet : goal.returns-in-Timeout-clause-quiet
returns-in-Timeout-clause-quiet g c t = quiet_utility_call (tid t) c.args.call.now _ c.requires.utilities
