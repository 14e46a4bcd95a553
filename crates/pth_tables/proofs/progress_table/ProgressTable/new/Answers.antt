use Rattle.std.proofs.Common.{◌≡◌, ◌∙◌, length, ap, arith, rules}
use Rattle.pth_base.specs.Limits.{thread_limit}
use Rattle.pth_base.specs.Table.{table}
use Rattle.pth_base.proofs.Lists.{table_grown}
use Rattle.pth_tables.proofs.Items.{kept_none}
use Rattle.pth_tables.proofs.progress_table.ProgressTable.new.Goals as goal

pub loop-items-preserved : goal.loop-items-preserved
loop-items-preserved g c = record {
  few = omega (arith, c.in_ok-push.ensures.len);
  none = ap (table _) c.in_ok-push.ensures.items ∙ table_grown _ _ ∙ c.loop-items.invariant.none;
}

pub invariant_of-result : goal.invariant_of-result
invariant_of-result g c =
    let long : length c.loop-items.items.items ≡ thread_limit = search rules in
    kept_none c.loop-items.items.items c.in_ok-awaited.awaited.items long c.loop-items.invariant.none (c.in_ok-awaited.ensures.items_if_clones_equal (λ y is. is))
