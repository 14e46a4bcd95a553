use Rattle.std.proofs.Common.{◌≡◌, ◌+◌, ◌*◌, ◌++◌, flat_map}
use Rattle.std.specs.List.{range_with_len}
use Rattle.pth_drawing.specs.Picture.{tick_line}
use Rattle.pth_drawing.proofs.axis.add_axis.Given as goal

abbrev pub invariant-loop-k : goal.invariant-loop-k
invariant-loop-k l = l.out ≡ l.initial.out ++ flat_map (λ k. tick_line l.top l.bottom (10 * k) (l.from + 10 * k)) (range_with_len 0 l.k)
