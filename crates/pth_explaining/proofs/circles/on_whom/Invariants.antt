use Rattle.std.proofs.Common.{◌≡◌, drop}
use Rattle.pth_explaining.specs.Circles.{on_whom}
use Rattle.pth_explaining.proofs.circles.on_whom.Given as goal

abbrev pub invariant-loop-block : goal.invariant-loop-block
invariant-loop-block l = on_whom (drop l.block-index l.blocks) l.t ≡ on_whom l.blocks l.t
