use Rattle.pth_world.proofs.Frames.{moved_frame}
use Rattle.pth_world.specs.Numbering.{Thread, one_of}
use Rattle.pth_calls.proofs.thread_control.resume.Goals as goal

pub returns-clause-frame : goal.returns-clause-frame
returns-clause-frame g c = moved_frame (one_of Thread) c.args.w.now c.resume.new.self _ _ c.requires.runs c.resume.ensures.moves
