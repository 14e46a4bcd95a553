use Rattle.std.proofs.Common.{◌<◌, ◌≤◌, ℕ, ℤ, pos, Vec, length, ap, ◌∙◌, rules, arith}
use Rattle.std.proofs.lemmas.Bool.Decides.{nat_tests}
use Rattle.std.specs.Global.{Global}
use Rattle.std.proofs.lemmas.List.{get_or_past}
use Rattle.pth_store.proofs.Rows.{under-past, under-at}
use Rattle.pth_store.proofs.keys.values_end.Goals as goal

pub returns-then-s-len-clause-zero : goal.returns-then-s-len-clause-zero
returns-then-s-len-clause-zero c =
    let high : length c.args.rows.now.items ≤ c.args.s = search rules in
    λ k past low. under-past _ c.args.rows.now.items k c.args.s high

pub returns-clause-zero : goal.returns-clause-zero
returns-clause-zero c =
    let within : c.args.s < length c.args.rows.now.items = search rules in
    let at = under-at (λ (row : Vec ℤ Global). row.items) c.args.rows.now.items c.args.s c.index.result.now within c.index.ensures in
    λ k past low.
    let high : length c.index.result.now.items ≤ k = grind (arith, nat_tests, past, low, c.min.ensures, c.len-2.ensures) in
    ap (λ (f : ℕ → ℤ). f k) at ∙ get_or_past c.index.result.now.items k (pos 0) high
