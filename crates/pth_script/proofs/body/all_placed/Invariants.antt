use Rattle.std.proofs.Common.{◌≡◌, ◌++◌, map}
use Rattle.std.specs.Vec.Iter.{into_iter_items}
use Rattle.pth_script.specs.Labels.{somes, with_places, placed_in}
use Rattle.pth_script.proofs.body.all_placed.Given as goal

abbrev pub invariant-loop-line : goal.invariant-loop-line
invariant-loop-line l = somes l.closed ++ map (placed_in (somes l.fn.lines.items)) (somes (into_iter_items l.line-iterator)) ≡ with_places (somes l.fn.lines.items)
