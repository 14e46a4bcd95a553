use Rattle.std.proofs.Common.{◌≡◌, drop}
use Rattle.std.specs.List.{list_any}
use Rattle.pth_explaining.specs.Refusals.{is_like}
use Rattle.pth_explaining.proofs.refusals.has_like.Given as goal

abbrev pub invariant-loop-other : goal.invariant-loop-other
invariant-loop-other l = list_any (is_like l.r) (drop l.other-index l.before) ≡ list_any (is_like l.r) l.before
