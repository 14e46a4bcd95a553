use Rattle.std.proofs.Common.{◌≡◌, ◌≤◌, take}
use Rattle.pth_base.specs.Descriptors.{members_below}
use Rattle.pth_print.proofs.set.list_members.Given as goal

abbrev pub invariant-loop-f : goal.invariant-loop-f
invariant-loop-f l = record {
  within : l.count ≤ l.f;
  listed : take l.count l.members ≡ members_below l.set.0 l.f;
}
