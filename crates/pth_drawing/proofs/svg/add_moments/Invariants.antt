use Rattle.std.proofs.Common.{◌≡◌, ◌++◌, flat_map, take}
use Rattle.pth_drawing.specs.Picture.{moment_line}
use Rattle.pth_drawing.proofs.svg.add_moments.Given as goal

abbrev pub invariant-loop-moment : goal.invariant-loop-moment
invariant-loop-moment l = l.out ≡ l.initial.out ++ flat_map (moment_line l.top) (take l.moment-index l.moments)
