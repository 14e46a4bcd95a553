use Rattle.std.proofs.Common.{◌≡◌, ◌≤◌, ◌-◌, None, vec_len}
use Rattle.pth_base.specs.Limits.{thread_limit}
use Rattle.pth_base.specs.Table.{table}
use Rattle.pth_tables.proofs.progress_table.ProgressTable.new.Given as goal

abbrev pub invariant-loop-items : goal.invariant-loop-items
invariant-loop-items g l = record {
  few : vec_len l.items ≤ thread_limit;
  none : table None l.items.items ≡ (λ _. None);
}

abbrev pub decreases-loop-items : goal.decreases-loop-items
decreases-loop-items g l = thread_limit - vec_len l.items
