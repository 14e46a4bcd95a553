use Rattle.std.proofs.Common.{◌≡◌, ◌≤◌, ◌-◌, ◌∙◌, pos, ℤ, List, ◌++◌, length, replicate, ap, vec_len, rules}
use Rattle.std.proofs.lemmas.List.{take_all}
use Rattle.pth_base.specs.Table.{table}
use Rattle.pth_store.proofs.Rows.{value-widened}
use Rattle.pth_store.proofs.keys.widen.Goals as goal

pub returns-in_ok-resize-clause-same : goal.returns-in_ok-resize-clause-same
returns-in_ok-resize-clause-same c =
    let short : length c.args.row.now.items ≤ c.args.wanted = search rules in
    let more : List ℤ = replicate (c.args.wanted - vec_len c.args.row.now) (pos 0) in
    let items : c.resize.new.self.items ≡ c.args.row.now.items ++ more = c.in_ok-resize.ensures.items ∙ ap (λ (l : List ℤ). l ++ more) (take_all c.args.wanted c.args.row.now.items short) in
    ap (table (pos 0)) items ∙ value-widened c.args.row.now.items (c.args.wanted - vec_len c.args.row.now)
