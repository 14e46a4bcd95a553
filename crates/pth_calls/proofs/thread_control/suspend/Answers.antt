use Rattle.std.proofs.Common.{◌∙◌, sym, rules}
use Rattle.pth_world.proofs.Frames.{moved_frame}
use Rattle.pth_world.proofs.Moves.{can_suspend}
use Rattle.pth_world.specs.Numbering.{no_numbers}
use Rattle.pth_calls.proofs.thread_control.suspend.Goals as goal

pub suspend-requires-clause-can : goal.suspend-requires-clause-can
suspend-requires-clause-can g c =
    can_suspend c.args.w.now c.args.t.0 c.in-Some.it.now c.requires.whole c.requires.runs search rules search rules (sym c.is_not_to_suspend.ensures ∙ c.if-is_not_to_suspend.false)

pub returns-clause-frame : goal.returns-clause-frame
returns-clause-frame g c = moved_frame no_numbers c.args.w.now c.suspend.new.self _ _ c.requires.runs c.suspend.ensures.moves
