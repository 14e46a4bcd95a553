use Rattle.std.proofs.Common.{◌≡◌, Some, None, length}
use Rattle.pth_base.specs.Table.{table}
use Rattle.pth_lock.specs.Objects.{object_limit}
use Rattle.pth_lock.specs.Sets.{contains, changed_in}
use Rattle.pth_lock.proofs.mutexes.free_each.Given as goal

abbrev pub invariant-loop-left : goal.invariant-loop-left
invariant-loop-left l = record {
  long : length l.mutexes ≡ object_limit;
  free : changed_in (λ _. Some None) (contains l.left) (table None l.mutexes) ≡ changed_in (λ _. Some None) (contains l.set) (table None l.initial.mutexes);
}

abbrev pub decreases-loop-left : goal.decreases-loop-left
decreases-loop-left l = l.left
