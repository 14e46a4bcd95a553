use Rattle.std.proofs.Common.{◌≡◌, ◌++◌, drop}
use Rattle.pth_explaining.specs.Circles.{blocks_of}
use Rattle.pth_explaining.proofs.circles.blocks.Given as goal

abbrev pub invariant-loop-wait : goal.invariant-loop-wait
invariant-loop-wait l =
    l.blocks.items ++ blocks_of l.marks l.alive (drop l.wait-index l.waits) ≡ blocks_of l.marks l.alive l.waits
