use Rattle.std.proofs.Common.{◌≡◌, ◌+◌, ◌*◌, ◌++◌, drop, map}
use Rattle.pth_drawing.specs.Charts.{lane_seen}
use Rattle.pth_drawing.specs.Picture.{lanes_from}
use Rattle.pth_drawing.proofs.svg.add_lanes.Given as goal

abbrev pub invariant-loop-lane : goal.invariant-loop-lane
invariant-loop-lane l = record {
  edge : l.edge ≡ l.top + 20 * l.lane-index;
  rest : l.out ++ lanes_from l.edge (map lane_seen (drop l.lane-index l.lanes)) ≡ l.initial.out ++ lanes_from l.top (map lane_seen l.lanes);
}
