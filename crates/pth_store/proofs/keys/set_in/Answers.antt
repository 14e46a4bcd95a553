use Rattle.std.proofs.Common.{◌<◌, ◌∙◌, pos, ℕ, ℤ, length, set, ap, to_z-of_z, arith}
use Rattle.pth_base.specs.Table.{put, table}
use Rattle.pth_base.proofs.Lists.{table_set}
use Rattle.pth_store.proofs.keys.set_in.Goals as goal

pub returns-clause-ok : goal.returns-clause-ok
returns-clause-ok c =
    let low : c.args.k < length c.widen.new.row.items = omega (arith, c.in_ok-widen.ensures.long) in
    ap (λ (v : ℤ). table (pos 0) (set c.widen.new.row.items c.args.k v)) (to_z-of_z c.ranges.v)
    ∙ table_set c.widen.new.row.items c.args.k c.args.v (pos 0) low
    ∙ ap (λ (f : ℕ → ℤ). put f c.args.k c.args.v) c.widen.ensures.same
