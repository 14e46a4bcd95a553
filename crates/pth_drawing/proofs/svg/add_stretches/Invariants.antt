use Rattle.std.proofs.Common.{◌≡◌, ◌++◌, flat_map, take}
use Rattle.pth_drawing.specs.Picture.{stretch_line}
use Rattle.pth_drawing.proofs.svg.add_stretches.Given as goal

abbrev pub invariant-loop-stretch : goal.invariant-loop-stretch
invariant-loop-stretch l = l.out ≡ l.initial.out ++ flat_map (stretch_line l.top) (take l.stretch-index l.stretches)
