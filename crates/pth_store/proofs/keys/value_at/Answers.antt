use Rattle.std.proofs.Common.{◌≡◌, ◌<◌, ◌≤◌, ℕ, ℤ, pos, Vec, length, sym, ap, ◌∙◌, to_z, of_z, w64, rules}
use Rattle.std.specs.Global.{Global}
use Rattle.std.proofs.lemmas.List.{get_or_read, get_or_past}
use Rattle.pth_store.proofs.Rows.{under-past, under-at}
use Rattle.pth_store.proofs.keys.value_at.Goals as goal

pub returns-then-s-len : goal.returns-then-s-len
returns-then-s-len c =
    let high : length c.args.rows.now.items ≤ c.args.s = search rules in
    sym (under-past _ c.args.rows.now.items c.args.k c.args.s high)

pub returns-then-k-len : goal.returns-then-k-len
returns-then-k-len c =
    let low : c.args.s < length c.args.rows.now.items = search rules in
    let within : c.args.k < length c.index-row.result.now.items = search rules in
    let same : to_z w64 (of_z w64 c.index.result.now) ≡ c.index.result.now = search rules in
    let at = under-at (λ (row : Vec ℤ Global). row.items) c.args.rows.now.items c.args.s c.index-row.result.now low c.index-row.ensures in
    same ∙ get_or_read c.index-row.result.now.items c.args.k c.index.result.now within c.index.ensures (pos 0) ∙ sym (ap (λ (f : ℕ → ℤ). f c.args.k) at)

pub returns-else-k-len : goal.returns-else-k-len
returns-else-k-len c =
    let low : c.args.s < length c.args.rows.now.items = search rules in
    let high : length c.index-row.result.now.items ≤ c.args.k = search rules in
    let at = under-at (λ (row : Vec ℤ Global). row.items) c.args.rows.now.items c.args.s c.index-row.result.now low c.index-row.ensures in
    sym (ap (λ (f : ℕ → ℤ). f c.args.k) at ∙ get_or_past c.index-row.result.now.items c.args.k (pos 0) high)
