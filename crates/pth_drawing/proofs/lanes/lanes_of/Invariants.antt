use Rattle.std.proofs.Common.{◌≡◌, ◌++◌, map}
use Rattle.pth_drawing.specs.Charts.{lane_seen}
use Rattle.pth_drawing.specs.Tracks.{lanes_in}
use Rattle.pth_drawing.proofs.lanes.lanes_of.Given as goal

abbrev pub invariant-loop-t : goal.invariant-loop-t
invariant-loop-t l = map lane_seen l.lanes.items ++ lanes_in l.columns l.t-iterator ≡ lanes_in l.columns l.fn.tracks.entries
