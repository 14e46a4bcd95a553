use Rattle.std.proofs.Common.{◌≡◌, ◌++◌}
use Rattle.pth_lock.specs.Mutexes.{owner_of}
use Rattle.pth_world.specs.Store.{store_of}
use Rattle.pth_snapshot.specs.Dump.{lines, mutex_row}
use Rattle.pth_snapshot.proofs.mutex_row.add_mutexes.Given as goal

abbrev pub invariant-loop-m : goal.invariant-loop-m
invariant-loop-m g l = l.out ≡ l.initial.out ++ lines (λ m. mutex_row m (owner_of ((store_of l.fn.w.store).mutexes m))) l.m
