use Rattle.std.proofs.Common.{◌≡◌, ◌≤◌, ◌+◌, drop}
use Rattle.std.specs.List.{count_by}
use Rattle.pth_explaining.specs.Refusals.{is_like}
use Rattle.pth_explaining.proofs.refusals.count_like.Given as goal

abbrev pub invariant-loop-other : goal.invariant-loop-other
invariant-loop-other l = record {
  counted : l.count + count_by (is_like l.r) (drop l.other-index l.rest) ≡ count_by (is_like l.r) l.rest;
  few : l.count ≤ l.other-index;
}
