use Rattle.std.proofs.Common.{◌≡◌, ◌++◌, drop, flat_map}
use Rattle.pth_explaining.specs.Circles.{circle_line, circle_lines, circles_from}
use Rattle.pth_explaining.proofs.circles.add_circles.Given as goal

abbrev pub invariant-loop-block : goal.invariant-loop-block
invariant-loop-block l =
    l.out ++ flat_map circle_line (circles_from l.blocks (drop l.block-index l.blocks)) ≡ l.initial.out ++ circle_lines l.blocks
