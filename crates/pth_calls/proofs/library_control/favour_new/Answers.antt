use Rattle.pth_calls.proofs.Framing.{favoured_frame}
use Rattle.pth_calls.proofs.library_control.favour_new.Goals as goal

pub returns-clause-frame : goal.returns-clause-frame
returns-clause-frame g c = favoured_frame c.args.w.now c.set_favour.new.self _ (c.set_favour.ensures.whole c.requires) c.set_favour.ensures.same
