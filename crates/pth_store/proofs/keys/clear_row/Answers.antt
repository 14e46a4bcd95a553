use Rattle.std.proofs.Common.{◌<◌, ◌≤◌, length, rules}
use Rattle.pth_store.proofs.Rows.{under-cleared, under-none}
use Rattle.pth_store.proofs.keys.clear_row.Goals as goal

pub returns-then-s-len : goal.returns-then-s-len
returns-then-s-len c =
    let low : c.args.s < length c.args.rows.now.items = search rules in
    under-cleared _ c.args.rows.now.items c.args.s c.index_mut.result.now low c.index_mut.ensures.value c.clear.new.self c.clear.ensures.items

pub returns-else-s-len : goal.returns-else-s-len
returns-else-s-len c =
    let high : length c.args.rows.now.items ≤ c.args.s = search rules in
    under-none _ c.args.rows.now.items c.args.s high
