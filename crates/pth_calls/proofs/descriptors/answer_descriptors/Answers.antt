use Rattle.std.proofs.Common.{rules, SFits, w64, to_z-of_z}
use Rattle.pth_model.specs.Rows.{row_of}
use Rattle.pth_model.specs.Transition.{tid}
use Rattle.pth_calls.proofs.Plains.{quiet_close}
use Rattle.pth_calls.proofs.descriptors.answer_descriptors.Goals as goal

pub returns-clause-answered : goal.returns-clause-answered
unfolding row_of
returns-clause-answered g c t =
    let f : SFits w64 c.in-Close.f = search rules in
    rw c.in-Close.is (simp to_z-of_z at c.close.ensures.answered)

pub returns-clause-quiet : goal.returns-clause-quiet
returns-clause-quiet g c t = rw c.in-Close.is (quiet_close (tid t) _ _)
