use Rattle.std.proofs.Common.{◌≡◌, ◌++◌, flat_map, take}
use Rattle.pth_drawing.specs.Picture.{cross_line}
use Rattle.pth_drawing.proofs.svg.add_crosses.Given as goal

abbrev pub invariant-loop-column : goal.invariant-loop-column
invariant-loop-column l = l.out ≡ l.initial.out ++ flat_map (cross_line l.top) (take l.column-index l.columns)
