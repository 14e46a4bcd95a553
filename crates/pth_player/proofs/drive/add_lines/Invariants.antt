use Rattle.std.proofs.Common.{◌≡◌, ◌++◌, take}
use Rattle.pth_player.specs.Transcript.{lines_of}
use Rattle.pth_player.proofs.drive.add_lines.Given as goal

abbrev pub invariant-loop-mark : goal.invariant-loop-mark
invariant-loop-mark l = l.text ≡ l.initial.text ++ lines_of l.audit (take l.mark-index l.marks)
