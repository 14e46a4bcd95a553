use Rattle.std.proofs.Common.{◌≡◌, None, length}
use Rattle.pth_base.specs.Table.{table}
use Rattle.pth_lock.specs.Objects.{object_limit}
use Rattle.pth_lock.specs.Sets.{contains, changed_in}
use Rattle.pth_lock.specs.RwLocks.{left_lock}
use Rattle.pth_lock.proofs.rwlocks.leave_each.Given as goal

abbrev pub invariant-loop-rest : goal.invariant-loop-rest
invariant-loop-rest l = record {
  long : length l.locks ≡ object_limit;
  left : changed_in left_lock (contains l.rest) (table None l.locks) ≡ changed_in left_lock (contains l.set) (table None l.initial.locks);
}

abbrev pub decreases-loop-rest : goal.decreases-loop-rest
decreases-loop-rest l = l.rest
