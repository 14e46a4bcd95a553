use Rattle.pth_model.specs.Rows.{row_of}
use Rattle.pth_calls.proofs.Plains.{quiet_library_call}
use Rattle.pth_calls.proofs.library_control.answer_library.Goals as goal

pub returns-clause-answered : goal.returns-clause-answered
unfolding row_of
returns-clause-answered g c = rw c.in-Ctrl.is c.ctrl.ensures.answered

pub returns-clause-quiet : goal.returns-clause-quiet
returns-clause-quiet g c = quiet_library_call c.args.t c.args.call.now _ c.requires.plain c.requires.library
