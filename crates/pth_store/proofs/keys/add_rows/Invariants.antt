use Rattle.std.proofs.Common.{◌≡◌, ◌+◌, ◌-◌, vec_len}
use Rattle.pth_store.specs.Keys.{value_at_key, value_rows}
use Rattle.pth_store.proofs.keys.add_rows.Given as goal

abbrev pub invariant-loop-alloc : goal.invariant-loop-alloc
invariant-loop-alloc l = value_at_key (value_rows l.rows) ≡ value_at_key (value_rows l.initial.rows)

abbrev pub decreases-loop-alloc : goal.decreases-loop-alloc
decreases-loop-alloc l = l.s + 1 - vec_len l.rows
