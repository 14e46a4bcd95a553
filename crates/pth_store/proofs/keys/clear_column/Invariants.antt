use Rattle.pth_store.specs.Keys.{value_rows}
use Rattle.pth_store.proofs.Rows.{IsClearedBelow}
use Rattle.pth_store.proofs.keys.clear_column.Given as goal

abbrev pub invariant-loop-s : goal.invariant-loop-s
invariant-loop-s l = IsClearedBelow (value_rows l.initial.rows) (value_rows l.rows) l.k l.s
