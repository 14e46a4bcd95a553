use Rattle.std.proofs.Common.{◌<◌, ◌≤◌, ◌∙◌, ℕ, ℤ, pos, length, refl, sym, ap, rules}
use Rattle.pth_base.specs.Table.{put}
use Rattle.pth_base.proofs.Lists.{put_none}
use Rattle.pth_store.specs.Keys.{value_at_key, value_rows}
use Rattle.pth_store.proofs.Rows.{under-put, under-past}
use Rattle.pth_store.proofs.keys.clear_at.Goals as goal

pub returns-then-s-len : goal.returns-then-s-len
returns-then-s-len c =
    let low : c.args.s < length c.args.rows.now.items = search rules in
    under-put _ c.args.rows.now.items c.args.s c.index_mut.result.now low c.index_mut.ensures.value c.clear_in.new.row c.args.k (pos 0) c.clear_in.ensures

pub returns-else-s-len : goal.returns-else-s-len
returns-else-s-len c =
    let values : ℕ → ℕ → ℤ = value_at_key (value_rows c.args.rows.now) in
    let high : length c.args.rows.now.items ≤ c.args.s = search rules in
    sym (ap (put values c.args.k) (put_none (values c.args.k) c.args.s (pos 0) (under-past _ c.args.rows.now.items c.args.k c.args.s high)) ∙ put_none values c.args.k (values c.args.k) refl)
