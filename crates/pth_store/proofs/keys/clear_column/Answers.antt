use Rattle.std.proofs.Common.{◌<◌, ◌≤◌, length, rules}
use Rattle.std.proofs.lemmas.List.{length-map}
use Rattle.pth_store.specs.Keys.{value_rows}
use Rattle.pth_store.proofs.Rows.{cleared-more, cleared-all}
use Rattle.pth_store.proofs.keys.clear_column.Goals as goal

pub loop-s-preserved : goal.loop-s-preserved
loop-s-preserved c =
    let low : c.loop-s.s < length c.loop-s.rows.items = search rules in
    cleared-more (value_rows c.args.rows.now) _ c.loop-s.rows.items c.args.k c.loop-s.s c.index_mut.result.now c.clear_in.new.row low c.index_mut.ensures.value c.clear_in.ensures c.loop-s.invariant

pub returns : goal.returns
returns c =
    let high : length c.args.rows.now.items ≤ c.loop-s.s = search rules in
    let all : length (value_rows c.args.rows.now) ≤ c.loop-s.s = rw length-map high in
    cleared-all (value_rows c.args.rows.now) (value_rows c.loop-s.rows) c.args.k c.loop-s.s c.loop-s.invariant all
