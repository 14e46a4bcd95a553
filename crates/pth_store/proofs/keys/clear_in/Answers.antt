use Rattle.std.proofs.Common.{◌<◌, ◌≤◌, pos, length, sym, rules}
use Rattle.std.proofs.lemmas.List.{get_or_past}
use Rattle.pth_base.proofs.Lists.{table_set, put_none}
use Rattle.pth_store.proofs.keys.clear_in.Goals as goal

pub returns-then-k-len : goal.returns-then-k-len
returns-then-k-len c =
    let low : c.args.k < length c.args.row.now.items = search rules in
    table_set c.args.row.now.items c.args.k (pos 0) (pos 0) low

pub returns-else-k-len : goal.returns-else-k-len
returns-else-k-len c =
    let high : length c.args.row.now.items ≤ c.args.k = search rules in
    sym (put_none _ c.args.k (pos 0) (get_or_past c.args.row.now.items c.args.k (pos 0) high))
