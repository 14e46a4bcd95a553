use Rattle.std.proofs.Common.{◌≡◌, subst}
use Rattle.std.specs.Prelude.{IfOk}
use Rattle.pth_line.specs.CallLines.{call_in}
use Rattle.pth_line.specs.Script.{first_cells}
use Rattle.pth_operand.specs.Values.{scope}
use Rattle.pth_operand.specs.declared.frame.Frame.{Frame}
use Rattle.pth_transcript.proofs.call.made.Goals as goal

pub returns : goal.returns
returns c =
    subst (λ (f : Frame). IfOk c.call.result (λ made. made ≡ call_in (scope f first_cells) c.args.line.now)) c.in_ok-frame.ensures c.call.ensures
